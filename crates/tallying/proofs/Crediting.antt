-- What one sample more makes of the credits that are used.
-- Assumes nothing.
use Rattle.std.proofs.Common.{◌≡◌, ℕ, ◌+◌, ◌%◌, ◌^◌, ◌<◌, ◌≤◌, Bool, true, false, cond, eqb, ltb, List, ◌++◌, ◌-◌, length, get_or, take, set, get_or-take, length-take-le, take-take, sym, refl, ap, ◌∙◌, arith, ltb-true, lt-ltb, eq-eqb, ne_eqb, eqb-true}
use Rattle.std.specs.List.{insert}
use Rattle.std.proofs.lemmas.List.{length-map, get_or-map, map-set}
use lib.Seq.{map-set_same, take-set-lt, take_at}
use Rattle.tallying.specs.Functions.{has, place_for}
use Rattle.tallying.specs.Credits.{Credits, Ascending, Credited, credited}
use Rattle.tallying.specs.Tallies.{functions_of, samples_of, stands_at}
use Rattle.tallying.specs.declared.Credit.{Credit}
use Rattle.tallying.proofs.Searching.{true_false, at_has, has_at, inserted-order}
use Rattle.tallying.proofs.Inserting.{map-insert}

-- ---- whether it stands at its place

module _ (at f : ℕ) (fs : List ℕ) where
  pub stands : stands_at at f fs ≡ true → (at < length fs) × (get_or fs at 0 ≡ f)
  unfolding stands_at
  stands e = go (ltb at (length fs)) refl e
    where
      go : (b : Bool) → ltb at (length fs) ≡ b → cond b (eqb (get_or fs at 0) f) false ≡ true → (at < length fs) × (get_or fs at 0 ≡ f)
      go true l k = (ltb-true at (length fs) l, eqb-true (get_or fs at 0) f k)
      go false l k = absurd (true_false (sym k))

  missing : stands_at at f fs ≡ false → at < length fs → get_or fs at 0 ≡ f → ⊥
  unfolding stands_at
  missing e l k = true_false (rw (lt-ltb at (length fs) l, eq-eqb (get_or fs at 0) f k) at e)

-- ---- one sample more

-- what credits hold
abbrev pub held : List Credit → ℕ → Credits
held cs other = record { functions = functions_of cs; samples = samples_of cs; other = other }

module _ (f : ℕ) (cs : List Credit) (order : Ascending (functions_of cs)) (other at : ℕ) (place : at ≡ place_for f (functions_of cs)) where
  long : length (functions_of cs) ≡ length cs
  long = length-map cs (λ (c : Credit). c.function)

  -- it stands there
  pub within : stands_at at f (functions_of cs) ≡ true → at < length cs
  within s = omega (arith, long, (stands at f (functions_of cs) s).0)

  abbrev pub more : Credit → Credit
  more d = record { function = (get_or cs at d).function; samples = ((get_or cs at d).samples + 1) % 2 ^ 64 }

  pub same_functions : (d : Credit) → functions_of (set cs at (more d)) ≡ functions_of cs
  same_functions d = map-set_same (λ (c : Credit). c.function) cs at (more d) d refl

  pub hit : stands_at at f (functions_of cs) ≡ true → (d : Credit) → Credited f (held cs other) (held (set cs at (more d)) other)
  unfolding credited
  hit s d =
      let there : has f (functions_of cs) ≡ true = at_has f (functions_of cs) at (stands at f (functions_of cs) s).0 (stands at f (functions_of cs) s).1 in
      let samples : samples_of (set cs at (more d)) ≡ set (samples_of cs) at ((get_or (samples_of cs) at 0 + 1) % 2 ^ 64) =
      map-set (λ (c : Credit). c.samples) cs at (more d)
      ∙ ap (λ (n : ℕ). set (samples_of cs) at ((n + 1) % 2 ^ 64)) (sym (get_or-map (λ (c : Credit). c.samples) cs at d 0 (within s))) in
      rw (there, ← place, same_functions d, samples) refl

  -- it does not stand there, and so nowhere
  nowhere : stands_at at f (functions_of cs) ≡ false → has f (functions_of cs) ≡ false
  nowhere miss = go (has f (functions_of cs)) refl
    where
      go : (b : Bool) → has f (functions_of cs) ≡ b → b ≡ false
      go false h = refl
      go true h =
          let there = has_at f (functions_of cs) order h in
          absurd (missing at f (functions_of cs) miss (rw place there.0) (ap (λ (i : ℕ). get_or (functions_of cs) i 0) place ∙ there.1))

  pub full : stands_at at f (functions_of cs) ≡ false → length cs ≡ 512 → Credited f (held cs other) (held cs ((other + 1) % 2 ^ 64))
  unfolding credited
  full miss all = rw (nowhere miss, eq-eqb (length (functions_of cs)) 512 (long ∙ all)) refl

  abbrev pub first : Credit
  first = record { function = f; samples = 1 }

  pub new : stands_at at f (functions_of cs) ≡ false → (length cs ≡ 512 → ⊥) → Credited f (held cs other) (held (insert cs at first) other)
  unfolding credited
  new miss some =
      rw (
        nowhere miss,
        ne_eqb (length (functions_of cs)) 512 (λ e. some (sym long ∙ e)),
        ← place,
        map-insert (λ (c : Credit). c.function) cs at first,
        map-insert (λ (c : Credit). c.samples) cs at first,
      ) refl

  pub new_order : stands_at at f (functions_of cs) ≡ false → Ascending (functions_of (insert cs at first))
  new_order miss = rw (map-insert (λ (c : Credit). c.function) cs at first, place) (inserted-order f (functions_of cs) order (nowhere miss))

-- ---- the credits that are used stand at the front of all

module _ (credits : List Credit) (used : ℕ) (room : used ≤ length credits) where
  pub used_long : length (take used credits) ≡ used
  used_long = length-take-le used credits room

  -- one of them is written over
  pub front_set : (at : ℕ) (d : Credit) → at < used
      → take used (set credits at (record { function = (get_or credits at d).function; samples = ((get_or credits at d).samples + 1) % 2 ^ 64 }))
      ≡ set (take used credits) at
      (record { function = (get_or (take used credits) at d).function; samples = ((get_or (take used credits) at d).samples + 1) % 2 ^ 64 })
  front_set at d l =
      take-set-lt used credits at _ l
      ∙ ap (λ (c : Credit). set (take used credits) at (record { function = c.function; samples = (c.samples + 1) % 2 ^ 64 }))
      (sym (get_or-take used credits at d l))

  -- one more is put among them
  pub front_inserted : (at : ℕ) (c : Credit) (m more : List Credit) → length m ≡ used + 1 → m ≡ insert (take (used + 1 - 1) (take (used + 1) credits)) at c
      → take (used + 1) (m ++ more) ≡ insert (take used credits) at c
  front_inserted at c m more l e =
      let same : used + 1 - 1 ≡ used = omega arith in
      take_at m more (used + 1) l ∙ e ∙ ap (λ (n : ℕ). insert (take n (take (used + 1) credits)) at c) same
      ∙ ap (λ (k : List Credit). insert k at c) (take-take used (used + 1) credits (omega arith))
