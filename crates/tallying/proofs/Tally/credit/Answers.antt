-- `tallying::Tally::credit` meets its contract.
-- Assumes nothing.
use Rattle.std.proofs.Common.{◌≡◌, List, ℕ, ◌++◌, ◌+◌, ◌-◌, ◌%◌, ◌^◌, ◌<◌, ◌≤◌, length, get_or, set, subst, take, replicate, drop, sym, ap, ◌∙◌}
use Rattle.std.proofs.Common.{arith, rules, length-take-le, drop-set-lt, drop-drop, length-append, length-drop}
use Rattle.std.proofs.lemmas.List.{drop-replicate}
use Rattle.std.proofs.Math.Seq.{drop-append_seam}
use Rattle.std.specs.List.{insert}
use Rattle.tallying.specs.Credits.{Ascending}
use Rattle.tallying.specs.Tallies.{functions_of, unused}
use Rattle.tallying.specs.declared.Credit.{Credit}
use Rattle.tallying.proofs.Crediting.{within, more, hit, full, new, new_order, same_functions, used_long, front_set, front_inserted}
use Rattle.tallying.proofs.Tally.credit.Goals as goal
use Rattle.tallying.proofs.Tally.credit.Goals.{Then-stands_at, After-place_for-at, After-insert_at}

abbrev no_credit : Credit
no_credit = record { function = 0; samples = 0 }

whole : (c : After-place_for-at) → length c.self.inside.credits ≡ 512
whole c = search rules

room : (c : After-place_for-at) → c.self.inside.used ≤ length c.self.inside.credits
room c = omega (arith, whole c, c.self.invariant.few)

at_used : (c : Then-stands_at) → c.place_for-at.result < c.self.inside.used
at_used c =
    omega (
      arith,
      used_long c.self.inside.credits c.self.inside.used (room (goal.at.Then-stands_at c).After-place_for-at),
      within c.args.function (take c.self.inside.used c.self.inside.credits) c.self.invariant.order 0 c.place_for-at.result c.place_for-at.ensures.0
          (sym c.stands_at.ensures ∙ c.if-stands_at.true),
    )

pub bounds-self-inside-at : goal.bounds-self-inside-at
bounds-self-inside-at c = omega (arith, at_used (goal.at.bounds-self-inside-at c).Then-stands_at, c.self.invariant.few)

pub bounds-self-inside-at-then-stands_at : goal.bounds-self-inside-at-then-stands_at
bounds-self-inside-at-then-stands_at c = omega (arith, at_used (goal.at.bounds-self-inside-at-then-stands_at c).Then-stands_at, c.self.invariant.few)

-- one of those that are used is written over
written : (c : Then-stands_at) → take c.self.inside.used (set c.self.inside.credits c.place_for-at.result
    (record {
      function = (get_or c.self.inside.credits c.place_for-at.result no_credit).function;
      samples = ((get_or c.self.inside.credits c.place_for-at.result no_credit).samples + 1) % 2 ^ 64;
    }))
    ≡ set (take c.self.inside.used c.self.inside.credits) c.place_for-at.result (more c.args.function
    (take c.self.inside.used c.self.inside.credits) c.self.invariant.order 0 c.place_for-at.result c.place_for-at.ensures.0 no_credit)
written c = front_set c.self.inside.credits c.self.inside.used (room (goal.at.Then-stands_at c).After-place_for-at) _ no_credit (at_used c)

pub invariant_of-self : goal.invariant_of-self
invariant_of-self c =
    record {
      few = c.self.invariant.few;
      all = search rules;
      rest = drop-set-lt c.self.inside.used c.self.inside.credits c.place_for-at.result _ (at_used (goal.at.invariant_of-self c).Then-stands_at)
          ∙ c.self.invariant.rest;
      order = subst Ascending (sym (ap functions_of (written (goal.at.invariant_of-self c).Then-stands_at)
          ∙ same_functions c.args.function _ c.self.invariant.order 0 c.place_for-at.result c.place_for-at.ensures.0 no_credit)) c.self.invariant.order;
    }

-- there is place for one more, and so many are then at the front
place : (c : After-insert_at) → c.self.inside.used + 1 ≤ length c.self.inside.credits
place c = omega (arith, whole (goal.at.After-insert_at c).After-place_for-at, c.self.invariant.few, c.if-self-eq-MOST.false)

so_many : (c : After-insert_at) → length c.insert_at.new.credits ≡ c.self.inside.used + 1
so_many c = c.insert_at.auto.credits ∙ length-take-le (c.self.inside.used + 1) c.self.inside.credits (place c)

-- one more is put among them
front : (c : After-insert_at) → (more : List Credit) → take (c.self.inside.used + 1) (c.insert_at.new.credits ++ more)
    ≡ insert (take c.self.inside.used c.self.inside.credits) c.place_for-at.result (record { function = c.args.function; samples = 1 })
front c more =
    let all = c.self.inside.credits in
    let long = length-take-le (c.self.inside.used + 1) all (place c) in
    front_inserted all c.self.inside.used (omega (arith, place c)) c.place_for-at.result _ c.insert_at.new.credits more (so_many c)
    (rw long at c.insert_at.ensures)

-- the places behind it stay as they were
behind : (c : After-insert_at) → drop (c.self.inside.used + 1) (c.insert_at.new.credits ++ drop (c.self.inside.used + 1) c.self.inside.credits)
    ≡ replicate (512 - (c.self.inside.used + 1)) unused
behind c =
    let all = c.self.inside.credits in
    let used = c.self.inside.used in
    ap (λ (n : ℕ). drop n (c.insert_at.new.credits ++ drop (used + 1) all)) (sym (so_many c))
    ∙ drop-append_seam c.insert_at.new.credits (drop (used + 1) all)
    ∙ sym (drop-drop 1 used all)
    ∙ ap (λ (l : List Credit). drop 1 l) c.self.invariant.rest
    ∙ drop-replicate 1 (512 - used) unused
    ∙ ap (λ (n : ℕ). replicate n unused) (omega arith)

all_long : (c : After-insert_at) → length (c.insert_at.new.credits ++ drop (c.self.inside.used + 1) c.self.inside.credits) ≡ 512
all_long c =
    let all = c.self.inside.credits in
    let used = c.self.inside.used in
    length-append c.insert_at.new.credits (drop (used + 1) all)
    ∙ omega (arith, whole (goal.at.After-insert_at c).After-place_for-at, place c, so_many c, length-drop (used + 1) all)

pub invariant_of-self-else-self-eq-MOST : goal.invariant_of-self-else-self-eq-MOST
invariant_of-self-else-self-eq-MOST c =
    record {
      few = omega (arith, c.self.invariant.few, c.if-self-eq-MOST.false);
      order = subst Ascending (sym (ap functions_of (front (goal.at.invariant_of-self-else-self-eq-MOST c).After-insert_at _)))
          (new_order c.args.function _ c.self.invariant.order 0 c.place_for-at.result c.place_for-at.ensures.0
          (sym c.stands_at.ensures ∙ c.if-stands_at.false));
      all = all_long (goal.at.invariant_of-self-else-self-eq-MOST c).After-insert_at;
      rest = behind (goal.at.invariant_of-self-else-self-eq-MOST c).After-insert_at;
    }

pub returns-then-stands_at : goal.returns-then-stands_at
returns-then-stands_at c = rw (← c.self.view_is, written (goal.at.returns-then-stands_at c).Then-stands_at)
    (hit c.args.function _ c.self.invariant.order c.self.inside.other c.place_for-at.result c.place_for-at.ensures.0
    (sym c.stands_at.ensures ∙ c.if-stands_at.true) no_credit)

pub returns-then-self-eq-MOST : goal.returns-then-self-eq-MOST
returns-then-self-eq-MOST c = rw (← c.self.view_is)
    (full c.args.function _ c.self.invariant.order c.self.inside.other c.place_for-at.result c.place_for-at.ensures.0
    (sym c.stands_at.ensures ∙ c.if-stands_at.false)
    (used_long c.self.inside.credits c.self.inside.used (room (goal.at.returns-then-self-eq-MOST c).After-place_for-at) ∙ c.if-self-eq-MOST.true))

pub returns-else-self-eq-MOST : goal.returns-else-self-eq-MOST
returns-else-self-eq-MOST c = rw (← c.self.view_is, front (goal.at.returns-else-self-eq-MOST c).After-insert_at _)
    (new c.args.function _ c.self.invariant.order c.self.inside.other c.place_for-at.result c.place_for-at.ensures.0
    (sym c.stands_at.ensures ∙ c.if-stands_at.false)
    (λ e.
    c.if-self-eq-MOST.false
    (sym (used_long c.self.inside.credits c.self.inside.used (room (goal.at.returns-else-self-eq-MOST c).After-place_for-at)) ∙ e)))
