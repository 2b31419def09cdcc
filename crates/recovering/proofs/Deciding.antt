-- The kinds of table that recovery accepts, by the tests that the code makes.
-- Assumes nothing.
use Prim.Native.Nat.{ℕ}
use mathlib.Core.Path.{◌≡◌, refl, sym, ap, ◌∙◌}
use mathlib.Core.Bool.{Bool, true, false, cond, and-true}
use mathlib.Core.List.Memᴰ.{head as here}
use mathlib.Core.List.{List, [], ◌∷◌, map, Memᴰ as In}
use mathlib.Core.Option.{Option, none, some}
use native.Mathlib.Omega.{arith}
use lib.ListN.{length}
use borrow.Author.Tests.{eq-eqb, ne_eqb}
use Rattle.rules.specs.Choice.{all}
use Rattle.rules.specs.Words.{Table, header_of, GoodHeader, flag_of, all_buckets, unused_buckets, record_in}
use Rattle.rules.specs.Soundness.{taken_slots, TakenSlot, tokens_tidy, unused_empty, in_place, orderly_tests, twins, same_record, when_still, target}
use Rattle.rules.specs.Soundness.{when_flagged, finding}
use Rattle.rules.specs.Answers.{FindingTells}
use Rattle.rules.specs.declared.Header.{Header}
use Rattle.rules.specs.declared.Slot.{Slot}
use Rattle.rules.specs.declared.Finding.{Finding}
use Rattle.rules.specs.declared.Finding.TheVariants.{Doubled, Neither}
use Rattle.rules.proofs.Words.Headers.{header_passes}
use Rattle.rules.proofs.Basics.Tests.{all_no}
use Rattle.rules.proofs.Calls.Meanings.{finding-tells}
use Rattle.rules.proofs.Places.PlacesInUse.{slot-within}
use Rattle.rules.proofs.Tables.Twins.{taken_in_lem, twins-ordered}
use Rattle.rules.proofs.Tables.Targets.{target-some}
use Rattle.rules.proofs.Places.Lookups.{Tidied}
use Rattle.rules.proofs.Tables.Sound.{tidy_tells}
use Rattle.scanning.proofs.Copying.{copies, copy_twins, linear, still_alike, flagged_alike}
use Rattle.reading.specs.Within.{SlotWithin}
use Rattle.scanning.specs.declared.copies.Scan.{Scan}
use Rattle.scanning.specs.declared.copies.Scan.TheVariants.{Clear, Pair, Spoilt}
use Rattle.scanning.specs.Scans.{scan_of, scanned}
use Rattle.scanning.proofs.Told.{scan_misplaced, scan_placed}
use Rattle.recovering.specs.Found.{tidy_token, zero_token, still_of, flagged_of, ScanWithin, FindingWithin}

-- ---- with flag 0

module _ (t : Table) {scan : Scan} {x y : Slot} (q : scan ≡ Pair x y) where
  pub pair_within : ScanWithin t scan → SlotWithin t x × SlotWithin t y
  pair_within w = rw q at w

  pub still_equal : same_record (record_in t x) (record_in t y) ≡ true → Doubled x y ≡ still_of t scan
  still_equal e = rw (q, e)

  pub still_unequal : same_record (record_in t x) (record_in t y) ≡ false → Neither ≡ still_of t scan
  still_unequal e = rw (q, e)

-- ---- the kinds by what a scan tells

still_scanned : (t : Table) (l : List (Slot × Slot)) → when_still t l ≡ still_of t (scanned l)
still_scanned t [] = refl
still_scanned t (p ∷ []) = refl
still_scanned t (p ∷ (q ∷ l)) = refl

flagged-scanned : (o : Option Slot) (l : List (Slot × Slot)) → when_flagged o l ≡ flagged_of o (scanned l)
flagged-scanned none l = refl
flagged-scanned (some x) [] = refl
flagged-scanned (some x) (p ∷ []) = refl
flagged-scanned (some x) (p ∷ (q ∷ l)) = refl

flagged-spoilt : (o : Option Slot) → flagged_of o Spoilt ≡ Neither
flagged-spoilt none = refl
flagged-spoilt (some x) = refl

-- ---- slots that are answered lie in the table

module _ (t : Table) (g : GoodHeader (length t) (header_of t)) where
  taken-within : (x : Slot) → TakenSlot t x → SlotWithin t x
  taken-within x u = slot-within (length t) (header_of t) g x u.used

  copies-within : (u : Slot × Slot) → In u (copies t) → SlotWithin t u.0 × SlotWithin t u.1
  copies-within u i = let r = twins-ordered t u.0 u.1 (copy_twins t u i) in (taken-within u.0 r.first, taken-within u.1 r.later)

  pub scan_within : Tidied t → ScanWithin t (scan_of t (header_of t))
  scan_within tidied = go (all (map (in_place t) (taken_slots t))) refl
    where
      pairs : (l : List (Slot × Slot)) → ((u : Slot × Slot) → In u l → SlotWithin t u.0 × SlotWithin t u.1) → ScanWithin t (scanned l)
      pairs [] k = tt
      pairs (p ∷ []) k = k p (here refl)
      pairs (p ∷ (q ∷ l)) k = tt

      go : (b : Bool) → all (map (in_place t) (taken_slots t)) ≡ b → ScanWithin t (scan_of t (header_of t))
      go true e = rw (scan_placed t g tidied e) (pairs (copies t) copies-within)
      go false e = rw (scan_misplaced t g e) tt

  still_within : (scan : Scan) → ScanWithin t scan → FindingWithin t (still_of t scan)
  still_within Clear w = tt
  still_within (Pair x y) w = go (same_record (record_in t x) (record_in t y))
    where
      go : (b : Bool) → FindingWithin t (cond b (Doubled x y) Neither)
      go true = w
      go false = tt
  still_within Spoilt w = tt

  flagged-within : (scan : Scan) → FindingWithin t (flagged_of (target t) scan)
  flagged-within scan = go (target t) refl scan
    where
      go : (o : Option Slot) → target t ≡ o → (scan : Scan) → FindingWithin t (flagged_of o scan)
      go none e scan = tt
      go (some x) e Clear = taken-within x (taken_in_lem t x (target-some t x e).0)
      go (some x) e (Pair y z) = tt
      go (some x) e Spoilt = tt

-- ---- what is found

-- an answer, with its slots in the table
abbrev pub Answer : Table → Finding → Type 0
Answer t r = FindingTells r (finding t) × FindingWithin t r

module _ (t : Table) {h : Header} (own : h ≡ header_of t) where
  -- one test that fails with every flag
  neither : ((f : ℕ) → all (orderly_tests f t) ≡ false) → Answer t Neither
  unfolding finding
  neither e = (finding-tells (rw (e 0, e 1)), tt)

  pub find_untidy : all (map (tidy_token t h) (all_buckets h)) ≡ false → Answer t Neither
  unfolding orderly_tests tokens_tidy tidy_token
  find_untidy e = neither (λ f. sym (all_no (orderly_tests f t) 2 (rw own at e)))

  pub find_unused : all (map (zero_token t) (unused_buckets h)) ≡ false → Answer t Neither
  unfolding orderly_tests unused_empty zero_token
  find_unused e = neither (λ f. sym (all_no (orderly_tests f t) 3 (rw own at e)))

  -- another flag than is asked for
  misflagged : (f : ℕ) → (flag_of t ≡ f → ⊥) → all (orderly_tests f t) ≡ false
  unfolding orderly_tests
  misflagged f n = sym (all_no (orderly_tests f t) 1 (ne_eqb _ _ n))

  pub find_misflagged : (flag_of t ≡ 0 → ⊥) → (flag_of t ≡ 1 → ⊥) → Answer t Neither
  unfolding finding
  find_misflagged n m = (finding-tells (rw (misflagged 0 n, misflagged 1 m)), tt)

  -- every token word is what should stand there
  pub tidied_by : all (map (tidy_token t h) (all_buckets h)) ≡ true → Tidied t
  unfolding tokens_tidy tidy_token
  tidied_by tidy = (tidy_tells t).0 (rw own at tidy)

  module _ (g : GoodHeader (length t) h) (tidy : all (map (tidy_token t h) (all_buckets h)) ≡ true)
      (unused : all (map (zero_token t) (unused_buckets h)) ≡ true) where
    good : GoodHeader (length t) (header_of t)
    good = rw own at g

    tidied : Tidied t
    tidied = tidied_by tidy

    -- what is left to ask where the flag is right
    orderly : (f : ℕ) → flag_of t ≡ f → all (orderly_tests f t) ≡ all (map (in_place t) (taken_slots t))
    unfolding orderly_tests tokens_tidy tidy_token unused_empty zero_token
    orderly f e =
        rw (header_passes (length t) (header_of t) good, eq-eqb _ _ e, rw own at tidy, rw own at unused) (and-true (all (map (in_place t) (taken_slots t))))

    still_found : flag_of t ≡ 0 → still_of t (scan_of t (header_of t)) ≡ finding t
    unfolding finding
    still_found e = go (all (map (in_place t) (taken_slots t))) refl
      where
        go : (b : Bool) → all (map (in_place t) (taken_slots t)) ≡ b → still_of t (scan_of t (header_of t)) ≡ finding t
        go true p =
            rw (orderly 0 e, p, scan_placed t good tidied p) (sym (still_alike t (twins t) (copies t) (linear t good tidied p) ∙ still_scanned t (copies t)))
        go false p = rw (orderly 0 e, p, misflagged 1 (λ (z : flag_of t ≡ 1). omega arith), scan_misplaced t good p)

    flagged-found : flag_of t ≡ 1 → flagged_of (target t) (scan_of t (header_of t)) ≡ finding t
    unfolding finding
    flagged-found e = go (all (map (in_place t) (taken_slots t))) refl
      where
        other : all (orderly_tests 0 t) ≡ false
        other = misflagged 0 (λ (z : flag_of t ≡ 0). omega arith)

        go : (b : Bool) → all (map (in_place t) (taken_slots t)) ≡ b → flagged_of (target t) (scan_of t (header_of t)) ≡ finding t
        go true p = rw (other, orderly 1 e, p, scan_placed t good tidied p)
            (sym (flagged_alike (target t) (twins t) (copies t) (linear t good tidied p) ∙ flagged-scanned (target t) (copies t)))
        go false p = rw (other, orderly 1 e, p, scan_misplaced t good p) (flagged-spoilt (target t))

    pub find_still : {scan : Scan} {r : Finding} → scan ≡ scan_of t h → flag_of t ≡ 0 → r ≡ still_of t scan → Answer t r
    find_still {scan} q e f =
        (finding-tells (f ∙ ap (still_of t) (q ∙ ap (scan_of t) own) ∙ still_found e), rw f (still_within t good scan (rw (q, own) (scan_within t good tidied))))

    pub find_flagged : {scan : Scan} {o : Option Slot} {r : Finding} → scan ≡ scan_of t h → o ≡ target t → flag_of t ≡ 1 → r ≡ flagged_of o scan → Answer t r
    find_flagged {scan} q k e f =
        (finding-tells (f ∙ rw (k, q, own) (flagged-found e)), rw (f, k) (flagged-within t good scan))
