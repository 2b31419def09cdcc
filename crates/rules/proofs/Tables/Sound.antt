-- Soundness as facts is soundness as a test: "good header; flag 0; every token word at most 15, and 0 in levels not in use; each
-- taken slot in a place of its key; no key in two taken slots".
-- Assumes nothing.
use Prim.Native.Nat.{ℕ, ◌+◌, ◌-◌, ◌^◌, ◌<◌}
use mathlib.Core.Path.{◌≡◌, refl, sym}
use mathlib.Core.Bool.{true}
use mathlib.Core.List.{map, Memᴰ as In}
use mathlib.Core.Logic.Iff
use mathlib.Core.Logic.{◌⊎◌, inl, inr}
use native.Mathlib.Omega.{arith}
use lib.ListN.{length}
use lib.Dec.{eqb}
use Rattle.rules.specs.Choice.{all, empty}
use Rattle.rules.specs.Words.{Table, header_of, GoodHeader, header_tests, all_buckets, unused_buckets, place_of, key_in, token_of, meant_of}
use Rattle.rules.specs.Places.{same_place, places_of}
use Rattle.rules.specs.Soundness.{taken_slots, tokens_tidy, unused_empty, in_place, orderly_tests, twins, sound_tests, TakenSlot, OrderlyTable}
use Rattle.rules.specs.Demands.{SoundnessIsTested}
use Rattle.rules.specs.declared.Header.{Header}
use Rattle.rules.specs.declared.Place.{Place}
use Rattle.rules.specs.declared.Slot.{Slot}
use Rattle.rules.proofs.Basics.Lists.{empty-none, none-empty, from_in, in_from}
use Rattle.rules.proofs.Basics.Tests.{Tells, tells_eq, tells_and, tells_all, tells-any}
use Rattle.rules.proofs.Words.Headers.{good-header, header_passes}
use Rattle.rules.proofs.Places.PlacesInUse.{same-place-tells}
use Rattle.rules.proofs.Tables.Twins.{before-apart, taken_in_lem, in_taken, twins-ordered, same_or_twins}
use Rattle.rules.proofs.Words.Unused.{InNoLevel, unused-bucket, bucket-unused}

pub header-tells : (size : ℕ) (h : Header) → Tells (all (header_tests size h)) (GoodHeader size h)
header-tells size h = (good-header size h, header_passes size h)

module _ (t : Table) where
  -- "every token word at most 15"
  pub tidy_tells : Tells (tokens_tidy t) ((j : ℕ) → j < 2 ^ ((header_of t).c + 1) - 1 → token_of t j ≡ meant_of t (header_of t) j)
  unfolding tokens_tidy all_buckets
  tidy_tells =
      let n = 2 ^ ((header_of t).c + 1) - 1 in
      Iff.trans (tells_all (λ (j : ℕ). eqb (token_of t j) (meant_of t (header_of t) j)) _ (λ j. tells_eq _ _) (all_buckets (header_of t)))
      (λ f j l. f j (in_from 0 n j (omega arith) (omega arith)), λ f j i. f j (omega (arith, from_in 0 n j i)))

  -- "and 0 in levels not in use"
  unused-tells : Tells (unused_empty t) ((j : ℕ) → j < 2 ^ ((header_of t).c + 1) - 1 → InNoLevel (header_of t).state j → token_of t j ≡ 0)
  unfolding unused_empty
  unused-tells =
      Iff.trans (tells_all (λ (j : ℕ). eqb (token_of t j) 0) _ (λ j. tells_eq _ _) (unused_buckets (header_of t)))
      (λ f j l n. f j (bucket-unused (header_of t) j l n), λ f j i. let r = unused-bucket (header_of t) j i in f j r.0 r.1)

  -- "each taken slot in a place of its key"
  place-tells : (x : Slot) → Tells (in_place t x) ((p : Place) × In p (places_of (header_of t) (key_in t x)) × (p.bucket ≡ x.bucket))
  unfolding in_place place_of
  place-tells x =
      Iff.trans (tells-any (same_place (place_of x)) _ (same-place-tells (place_of x)) (places_of (header_of t) (key_in t x)))
      (λ r. (r.0, r.1, sym r.2), λ r. (r.0, r.1, sym r.2))

  placed-tells : Tells (all (map (in_place t) (taken_slots t))) ((x : Slot) → TakenSlot t x
      → (p : Place) × In p (places_of (header_of t) (key_in t x)) × (p.bucket ≡ x.bucket))
  placed-tells =
      Iff.trans (tells_all (in_place t) _ place-tells (taken_slots t))
      (λ f x u. f x (in_taken t x u), λ f x i. f x (taken_in_lem t x i))

  -- "no key in two taken slots"
  pub alone-tells : Tells (empty (twins t)) ((x y : Slot) → TakenSlot t x → TakenSlot t y → key_in t x ≡ key_in t y → x ≡ y)
  alone-tells = (
    alone,
    λ f. none-empty (twins t) (λ u i. let w =
        twins-ordered t u.0 u.1 i in before-apart u.0 u.1 w.order (f u.0 u.1 w.first w.later w.key)),
  )
    where
      alone : empty (twins t) ≡ true → (x y : Slot) → TakenSlot t x → TakenSlot t y → key_in t x ≡ key_in t y → x ≡ y
      alone e x y a b k = go (same_or_twins t x y a b k)
        where
          go : (x ≡ y) ⊎ (In {A = Slot × Slot} (x, y) (twins t) ⊎ In {A = Slot × Slot} (y, x) (twins t)) → x ≡ y
          go (inl q) = q
          go (inr (inl i)) = absurd (empty-none (twins t) e (x, y) i)
          go (inr (inr i)) = absurd (empty-none (twins t) e (y, x) i)

  pub orderly-tells : (f : ℕ) → Tells (all (orderly_tests f t)) (OrderlyTable f t)
  unfolding orderly_tests
  orderly-tells f =
      Iff.trans
      (tells_and _ _ (header-tells (length t) (header_of t))
      (tells_and _ _ (tells_eq _ _) (tells_and _ _ tidy_tells (tells_and _ _ unused-tells (tells_and _ _ placed-tells Iff.rfl))))) (
        λ r. record {
          header = r.0;
          flag = r.1.0;
          tidied = r.1.1.0;
          unused = r.1.1.1.0;
          placed =
              r.1.1.1.1.0;
        },
        λ o. (o.header, (o.flag, (o.tidied, (o.unused, (o.placed, refl))))),
      )

pub soundness_is_tested : SoundnessIsTested
unfolding sound_tests
soundness_is_tested t =
    Iff.trans (tells_and _ _ (orderly-tells t 0) (tells_and _ _ (alone-tells t) Iff.rfl))
    (λ r. record { orderly = r.0; alone = r.1.0 }, λ s. (s.orderly, (s.alone, refl)))
