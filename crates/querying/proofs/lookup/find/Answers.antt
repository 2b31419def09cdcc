-- `querying::lookup::find` meets its contract.
-- Assumes nothing.
use Prim.Native.Nat.{◌-◌, ◌*◌, ◌<◌}
use mathlib.Core.Path.{refl, sym, ◌∙◌}
use native.Mathlib.Omega.{arith}
use lib.Bits.{bit_and}
use lib.ListN.{length}
use Rattle.rules.specs.Words.{levels_in_use, slot_at}
use Rattle.rules.proofs.Words.Headers.{header-state}
use Rattle.rules.proofs.Words.Tokens.{tag_small}
use Rattle.reading.specs.Within.{BucketWithin}
use Rattle.reading.proofs.Marks.{rest_less}
use Rattle.querying.proofs.Seeking.{some_left_over, left_all, left_over, lowest_low, left_free, left_other, left_hit}
use Rattle.querying.proofs.Turning.{turns-all, turns-over, turn_skip, turn_pass, turn_hit, last-next, turn_within}
use Rattle.querying.proofs.lookup.find.Goals as goal
use Rattle.querying.proofs.lookup.find.Goals.{then-key_at-key+else-is_taken, else-key_at-key, then-is_fresh+else-loop-left-test, else-is_fresh}
use Rattle.querying.proofs.lookup.find.Goals.{After-lowest_mark, After-nth_place-p, In-search}

-- turn i is one of the places in use
turn_fits : (c : In-search) →
    let a = c.args in
    c.search.i < 2 * length (levels_in_use a.h.state)
turn_fits c = rw (← c.place_count-n.ensures.0) c.search-test.true

-- so its bucket lies in the table
within : (c : After-nth_place-p) →
    BucketWithin c.args.t.now c.nth_place-p.result.bucket
within c = rw c.nth_place-p.ensures (turn_within _ _ c.requires.0 _ _ ((rw (← c.place_count-n.ensures.0) c.search-test.true)))

-- the lowest slot that is left
low : (c : After-lowest_mark) → c.lowest_mark.result < 4
low c = rw c.lowest_mark.ensures (lowest_low _ _ _ _ c.loop-left.invariant.1.1 c.loop-left-test.true)

pub search-init : goal.search-init
search-init c = (refl, omega arith, λ e. absurd (e refl), turns-all _ _ _ _ _)

pub nth_place-p-requires : goal.nth_place-p-requires
nth_place-p-requires c = (header-state _ _ c.requires.0, turn_fits (goal.at.nth_place-p-requires c).In-search)

pub overflow_add-looked : goal.overflow_add-looked
overflow_add-looked c = omega (arith, c.search-test.true, c.place_count-n.ensures.1, c.search.invariant.1)

pub slots_to_read-left-requires : goal.slots_to_read-left-requires
slots_to_read-left-requires c = (within (goal.at.slots_to_read-left-requires c).After-nth_place-p, rw c.requires.1 (tag_small _ _))

pub loop-left-init : goal.loop-left-init
loop-left-init c = (refl, rw c.slots_to_read-left.ensures (left_all _ _ _ _ c.requires.2 c.requires.1))

pub key_at-requires : goal.key_at-requires
key_at-requires c = (within (goal.at.key_at-requires c).After-nth_place-p, low (goal.at.key_at-requires c).After-lowest_mark)

pub token-requires : goal.token-requires
token-requires c = within (goal.at.token-requires c).After-nth_place-p

pub is_taken-requires : goal.is_taken-requires
is_taken-requires c = low (goal.at.is_taken-requires c).After-lowest_mark

pub without_lowest-left-requires : goal.without_lowest-left-requires
without_lowest-left-requires c = some_left_over _ c.loop-left-test.true

pub loop-left-smaller : goal.loop-left-smaller
loop-left-smaller c = rw c.without_lowest-left.ensures (rest_less _ (some_left_over _ c.loop-left-test.true))

pub loop-left-preserved : goal.loop-left-preserved
unfolding slot_at
loop-left-preserved c =
    let v = c.loop-left.invariant in
    let more = c.loop-left-test.true in
    let at = c.lowest_mark.ensures in (
      v.0,
      (
        bit_and v.1.0 (v.1.0 - 1),
        rw c.without_lowest-left.ensures
            (elim c.if-key_at-key.branch [
              | then-key_at-key+else-is_taken w ↦
                  left_free _ _ _ _ v.1.1 more w.token.ensures (rw at at (sym w.is_taken.ensures ∙ w.if-is_taken.false))
              | else-key_at-key w ↦ left_other _ _ _ _ v.1.1 more (λ k. w.if-key_at-key.false (c.key_at.ensures ∙ rw at k))
            ]),
      ),
    )

pub overflow_step-i : goal.overflow_step-i
overflow_step-i c = omega (arith, c.search-test.true, c.place_count-n.ensures.1)

pub search-smaller : goal.search-smaller
search-smaller c = omega arith

pub search-preserved : goal.search-preserved
search-preserved c =
    let v = c.search.invariant in
    let l = rw c.place_count-n.ensures.0 at c.search-test.true in
    let q = c.nth_place-p.ensures in
    let e = sym c.is_fresh.ensures in
    elim c.if-is_fresh.branch [
      | then-is_fresh+else-loop-left-test w ↦
          rw (w.answer-is, w.looked-is) (
            w.loop-left.invariant.0,
            omega (arith, v.1),
            last-next _ _ _ q,
            v.3 ∙ turn_pass _ _ _ _ _ _ _ _ l v.2 q (e ∙ w.if-is_fresh.true) (left_over _ _ _ _ w.loop-left.invariant.1.1 w.loop-left-test.false),
          )
      | else-is_fresh w ↦
          rw (w.answer-is, w.looked-is) (
            v.0,
            omega (arith, v.1),
            last-next _ _ _ q,
            v.3 ∙ turn_skip _ _ _ _ _ _ _ _ l v.2 q (e ∙ w.if-is_fresh.false),
          )
    ]

pub returns-after-search : goal.returns-after-search
returns-after-search c =
    let v = c.search.invariant in
    v.0 ∙ sym (v.3 ∙ turns-over _ _ _ _ _ _ _ (rw (← c.place_count-n.ensures.0) c.search-test.false))

pub returns-then-is_taken : goal.returns-then-is_taken
unfolding slot_at
returns-then-is_taken c =
    let l = rw c.place_count-n.ensures.0 at c.search-test.true in
    let at = c.lowest_mark.ensures in
    sym
    (c.search.invariant.3
    ∙ turn_hit _ _ _ _ _ _ _ _ l c.search.invariant.2 c.nth_place-p.ensures (sym c.is_fresh.ensures ∙ c.if-is_fresh.true)
    (rw at
    (left_hit _ _ _ _ c.loop-left.invariant.1.1 c.loop-left-test.true c.token.ensures (rw at at (sym c.is_taken.ensures ∙ c.if-is_taken.true))
    (rw at at (sym c.key_at.ensures ∙ c.if-key_at-key.true)))))
