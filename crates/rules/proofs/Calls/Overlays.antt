-- Request i): two tables asked as one. The answer is that of the newer's query where it finds the key, else of the older's, and the part is where that
-- query tells.
-- Assumes nothing.
use Prim.Native.Nat.{ℕ, ◌+◌, ◌≤◌}
use mathlib.Core.Path.{◌≡◌, refl, sym, ap, ◌∙◌}
use mathlib.Core.List.{List, [], ◌∷◌}
use mathlib.Core.Logic.{◌⊎◌, inl, inr}
use mathlib.Core.Option.{Option, none, some}
use native.Mathlib.Decide.{ℕ_discrete}
use native.Mathlib.Omega.{arith}
use lib.ListN.{length, get_or, take, drop, length-drop}
use lib.Seq.{get_or-drop}
use borrow.Author.Tests.{eq-eqb, ne_eqb}
use Rattle.rules.specs.Words.{Table, word, header_of, flag_of, key_word, token_word, function_word, place_word, spot_of, key_in, record_in}
use Rattle.rules.specs.Places.{lookup}
use Rattle.rules.specs.Soundness.{TakenSlot}
use Rattle.rules.specs.Answers.{number_of, Meaning, query_means, asked_means, knows, lacks, misses, hits, name_of}
use Rattle.rules.specs.Calls.{header_good, flag_clear, query_tests}
use Rattle.rules.specs.Results.{query_at, query_result}
use Rattle.rules.specs.Overlays.{named, in_either, asked_result, part_of, part_result, words_of}
use Rattle.rules.specs.Demands.{Held, HeaderWords, AtRest, count_of}
use Rattle.rules.specs.SpotSentences.{told}
use Rattle.rules.specs.OverlaySentences.{name_told, reasons, FirstNamed, AskedRefusals, buckets, Unfit, AskedBy, AskedAnswers}
use Rattle.rules.specs.OverlaySentences.{bound, AskedLooksAtFew, ThreeWords, PartBy, PartsAgree, Sees, OverlayBy, OverlayAnswers}
use Rattle.rules.specs.declared.Slot.{Slot}
use Rattle.rules.specs.declared.Record.{Record}
use Rattle.rules.specs.declared.Lookup.{Lookup}
use Rattle.rules.specs.declared.Lookup.TheVariants.{Stands, Absent}
use Rattle.rules.specs.declared.Refusal.{Refusal}
use Rattle.rules.specs.declared.Refusal.TheVariants.{KeyAbsent}
use Rattle.rules.specs.Answers.{Query}
use Rattle.rules.specs.Answers.{Asked}
use Rattle.rules.proofs.Words.Headers.{header_passes}
use Rattle.rules.proofs.Words.HeaderWords.{header-words}
use Rattle.rules.proofs.Places.PlacesInUse.{slot-within}
use Rattle.rules.proofs.Places.Lookups.{lookup-stands, holder_taken, lookup-known, lookup_unknown}
use Rattle.rules.proofs.Calls.Meanings.{number_not_zero}
use Rattle.rules.proofs.Calls.Refusals.{held, not_held}
use Rattle.rules.proofs.Calls.Queries.{Passes, Fails, through_tests, query_by_lookup, probes_are_few}
use Rattle.rules.specs.declared.Side.{Side}
use Rattle.rules.specs.declared.Side.TheVariants.{Newer, Older}
use Rattle.std.specs.Prelude.{Ok, Err}

-- ---- one table

-- a query of a table that fails its tests
query_fails : (s : Table) (key : ℕ) (r : Refusal) → Fails s r → query_result s key ≡ misses r 0
unfolding query_result
query_fails s key r f = through_tests s (λ (q : Query). q ≡ misses r 0) (λ (x : Refusal). misses x 0) _ same (λ p. absurd (neither f p))
  where
    neither : Fails s r → Passes s → ⊥
    neither (inl x) p = x.0 p.header
    neither (inr x) p = x.1 p.flag

    one : (x : Refusal) → Fails s x → Fails s r → x ≡ r
    one x (inl a) (inl b) = a.1 ∙ sym b.1
    one x (inl a) (inr b) = absurd (a.0 b.0)
    one x (inr a) (inl b) = absurd (b.0 a.0)
    one x (inr a) (inr b) = a.2 ∙ sym b.2

    same : (x : Refusal) → Fails s x → misses x 0 ≡ misses r 0
    same x g = ap (λ (y : Refusal). misses y 0) (one x g f)

unfit : (s : Table) (key : ℕ) (r : Refusal) → Fails s r → Unfit (query_means (misses r 0))
unfit s key r (inl x) = rw x.1 (inl refl)
unfit s key r (inr x) = rw x.2 (inr refl)

found_or_absent : (s : Table) (f : Lookup) → Unfit (query_means (query_at s f)) → ⊥
found_or_absent s (Stands x n) (inl e) = absurd (omega arith)
found_or_absent s (Stands x n) (inr e) = absurd (omega arith)
found_or_absent s (Absent n) (inl e) = absurd (omega arith)
found_or_absent s (Absent n) (inr e) = absurd (omega arith)

-- ---- both tables

module _ (t u : Table) (key : ℕ) where
  abbrev in_newer : Lookup
  in_newer = lookup t (header_of t) key

  abbrev behind : Lookup
  behind = lookup u (header_of u) key

  -- either table fails its tests, or both pass and the lookups decide
  pub asked-ways : (P : Asked → Type 0) → ((r : Refusal) → Fails t r → P (lacks Newer r 0))
      → (Passes t → (r : Refusal) → Fails u r → P (lacks Older r 0))
      → (Passes t → Passes u → P (in_either in_newer behind)) → P (asked_result t u key)
  unfolding asked_result
  asked-ways P a b c = through_tests t P _ _ a (λ p. through_tests u P _ _ (b p) (c p))

-- ---- the refusals

module _ (t u : Table) (key : ℕ) where
  abbrev Named : Asked → Type 0
  Named m = FirstNamed (reasons t u key) (asked_means m).number (get_or (asked_means m).values 0 0)

  -- what stands behind the tests of a table that passes them
  good : (s : Table) → Passes s → (HeaderWords s → ⊥) → ⊥
  good s p n = n ((header-words s).0 p.header)

  clear : (s : Table) → Passes s → (word s 5 ≡ 0 → ⊥) → ⊥
  unfolding flag_of
  clear s p n = n p.flag

  newer_fails : (r : Refusal) → Fails t r → Named (lacks Newer r 0)
  unfolding flag_of
  newer_fails r (inl x) = inl ((λ w. x.0 ((header-words t).1 w)), ap number_of x.1, refl)
  newer_fails r (inr x) = inr ((λ n. n ((header-words t).0 x.0)), inl (x.1, ap number_of x.2, refl))

  older_fails : Passes t → (r : Refusal) → Fails u r → Named (lacks Older r 0)
  unfolding flag_of
  older_fails p r (inl x) = inr (good t p, inr (clear t p, inl ((λ w. x.0 ((header-words u).1 w)), ap number_of x.1, refl)))
  older_fails p r (inr x) =
      inr (good t p, inr (clear t p, inr ((λ n. n ((header-words u).0 x.0)), inl (x.1, ap number_of x.2, refl))))

  both_pass : Passes t → Passes u → Named (in_either (in_newer t u key) (behind t u key))
  both_pass p q = inr (good t p, inr (clear t p, inr (good u q, inr (clear u q, go (in_newer t u key) (behind t u key) refl refl))))
    where
      go : (f g : Lookup) → in_newer t u key ≡ f → behind t u key ≡ g
          → (((Held t key → ⊥) × (Held u key → ⊥)) × ((asked_means (in_either f g)).number ≡ 5)
          × (get_or (asked_means (in_either f g)).values 0 0 ≡ 1))
          ⊎ ((((Held t key → ⊥) × (Held u key → ⊥)) → ⊥) × ((asked_means (in_either f g)).number ≡ 0))
      go (Stands x n) g e d = inr ((λ k. k.0 (held t key x n e)), refl)
      go (Absent n) (Stands y m) e d = inr ((λ k. k.1 (held u key y m d)), refl)
      go (Absent n) (Absent m) e d = inl ((not_held t key n e, not_held u key m d), refl, refl)

pub asked_refusals : AskedRefusals
asked_refusals t u key = asked-ways t u key (Named t u key) (newer_fails t u key) (older_fails t u key) (both_pass t u key)

-- ---- by the two queries

pub asked_answers : AskedAnswers
asked_answers t u key = asked-ways t u key By newer_fails older_fails both_pass
  where
    By : Asked → Type 0
    By m = AskedBy (told t key) (told u key) (asked_means m)

    newer_fails : (r : Refusal) → Fails t r → By (lacks Newer r 0)
    newer_fails r f = rw (query_fails t key r f) (inl (unfit t key r f, refl))

    older_fails : Passes t → (r : Refusal) → Fails u r → By (lacks Older r 0)
    older_fails p r f =
        rw (query_by_lookup t key p.header p.flag, query_fails u key r f)
        (inr (inl (found_or_absent t (lookup t (header_of t) key), unfit u key r f, refl)))

    go : (f g : Lookup) → AskedBy (query_means (query_at t f)) (query_means (query_at u g)) (asked_means (in_either f g))
    go (Stands x n) g = inr (inr (inl (refl, found_or_absent u g, refl)))
    go (Absent n) (Stands y m) = inr (inr (inr (inl (refl, refl, refl))))
    go (Absent n) (Absent m) = inr (inr (inr (inr (refl, refl, refl))))

    both_pass : Passes t → Passes u → By (in_either (lookup t (header_of t) key) (lookup u (header_of u) key))
    both_pass p q =
        rw (query_by_lookup t key p.header p.flag, query_by_lookup u key q.header q.flag)
        (go (lookup t (header_of t) key) (lookup u (header_of u) key))

-- ---- how many buckets

few : (s : Table) (key : ℕ) → buckets (told s key) ≤ bound s
few s key = go (ℕ_discrete (header_of s).state.phase 0)
  where
    same : (q : Query) → buckets (query_means q) ≡ count_of q
    same (Ok x) = refl
    same (Err x) = refl

    go : Dec (AtRest s) → buckets (told s key) ≤ bound s
    go (yes rest) = let p = probes_are_few s key in rw (eq-eqb _ _ rest, same (query_result s key)) (omega (arith, p.0, p.1 rest))
    go (no far) = let p = probes_are_few s key in rw (ne_eqb _ _ far, same (query_result s key)) (omega (arith, p.0, p.2))

pub asked_looks_at_few : AskedLooksAtFew
asked_looks_at_few t u key = go (asked_means (asked_result t u key)) (asked_answers t u key)
  where
    go : (m : Meaning) → AskedBy (told t key) (told u key) m → get_or m.values 1 0 ≤ bound t + bound u
    go m (inl k) = rw k.1 (omega arith)
    go m (inr (inl k)) = rw k.2 (omega arith)
    go m (inr (inr (inl k))) = rw k.2 (omega (arith, few t key))
    go m (inr (inr (inr (inl k)))) = rw k.2 (omega (arith, few t key, few u key))
    go m (inr (inr (inr (inr k)))) = rw k.2 (omega (arith, few t key, few u key))

-- ---- the part

-- three words of a list, one after the other
first_three : (l : List ℕ) → 3 ≤ length l → take 3 l ≡ get_or l 0 0 ∷ get_or l 1 0 ∷ get_or l 2 0 ∷ []
first_three [] h = absurd (omega arith)
first_three (x ∷ []) h = absurd (omega arith)
first_three (x ∷ y ∷ []) h = absurd (omega arith)
first_three (x ∷ y ∷ z ∷ l) h = refl

three-words : (l : List ℕ) (w : ℕ) → w + 3 ≤ length l → take 3 (drop w l) ≡ word l w ∷ word l (w + 1) ∷ word l (w + 2) ∷ []
three-words l w h =
    let same : w + 0 ≡ w = omega arith in
    first_three (drop w l) (rw (length-drop w l) (omega arith)) ∙ rw (get_or-drop w l 0 0, get_or-drop w l 1 0, get_or-drop w l 2 0, same) refl

slot-fits : (s : Table) → Passes s → (x : Slot) → TakenSlot s x → key_word x + 3 ≤ length s
unfolding key_word token_word
slot-fits s p x u = let i = slot-within (length s) (header_of s) p.header x u.used in omega (arith, i.0, i.1)

-- those of the slot that a lookup finds
at_slot : (name : ℕ) (s : Table) (key : ℕ) (x : Slot) (n : ℕ) → Passes s → lookup s (header_of s) key ≡ Stands x n
    → ThreeWords s key (record { name = name; start = key_word x; size = 3 }) (take 3 (drop (key_word x) s))
unfolding spot_of key_word token_word key_in record_in function_word place_word
at_slot name s key x n p e =
    let q : query_result s key ≡ knows (record_in s x) (spot_of x) n = query_by_lookup s key p.header p.flag ∙ ap (query_at s) e in
    let there = holder_taken s key x (lookup-stands s key x n e).0 in
    let fits = slot-fits s p x there.0 in
    record {
      found = ap (λ (a : Query). (query_means a).number) q;
      start = sym (ap (λ (a : Query). get_or (query_means a).values 3 0) q);
      size = refl;
      inside = fits;
      own_key = there.1;
      own_function = sym (ap (λ (a : Query). get_or (query_means a).values 0 0) q);
      own_place = sym (ap (λ (a : Query). get_or (query_means a).values 1 0) q);
      three = three-words s (key_word x) fits;
    }

pub parts_agree : PartsAgree
unfolding part_result words_of
parts_agree t u key = asked-ways t u key Agrees (λ r f. missed Newer r 0) (λ p r f. missed Older r 0) both_pass
  where
    Agrees : Asked → Type 0
    Agrees m = PartBy t u key (asked_means m).number (get_or (asked_means m).values 0 0) (part_of m) (words_of (part_of m) t u)

    missed : (side : Side) (r : Refusal) (n : ℕ) → Agrees (lacks side r n)
    missed side r n = (refl, inr (number_not_zero r, refl, refl, refl))

    go : Passes t → Passes u → (f g : Lookup) → lookup t (header_of t) key ≡ f → lookup u (header_of u) key ≡ g → Agrees (in_either f g)
    go p q (Stands x n) g e d = (refl, inl (refl, inl (refl, at_slot 0 t key x n p e)))
    go p q (Absent n) (Stands y m) e d = (refl, inl (refl, inr (refl, at_slot 1 u key y m q d)))
    go p q (Absent n) (Absent m) e d = missed Older KeyAbsent (n + m)

    both_pass : Passes t → Passes u → Agrees (in_either (lookup t (header_of t) key) (lookup u (header_of u) key))
    both_pass p q = go p q (lookup t (header_of t) key) (lookup u (header_of u) key) refl refl

-- ---- over two sound tables

module _ (t u : Table) (key : ℕ) (p : Passes t) (q : Passes u) where
  both_asked : asked_result t u key ≡ in_either (lookup t (header_of t) key) (lookup u (header_of u) key)
  unfolding asked_result query_tests header_good flag_clear
  both_asked =
      rw (header_passes (length t) (header_of t) p.header, eq-eqb _ _ p.flag, header_passes (length u) (header_of u) q.header, eq-eqb _ _ q.flag)

  -- the table s of that name has the key in the slot x, with the record r
  hit_sees : (side : Side) (s : Table) (x : Slot) (n : ℕ) (r : Record) → asked_result t u key ≡ hits side (key_word x) n → named (name_of side) t u ≡ s → Passes s
      → key_in s x ≡ key → record_in s x ≡ r → key_word x + 3 ≤ length s
      → (name_told t u key ≡ name_of side) × Sees t u key 0 (key ∷ r.function ∷ r.place ∷ [])
  unfolding part_result words_of key_in record_in function_word place_word spot_of key_word token_word
  hit_sees side s x n r e same pass k v fits = (
    ap (λ (m : Asked). get_or (asked_means m).values 0 0) e,
    record {
      answer = ap (λ (m : Asked). (asked_means m).number) e;
      part = rw (e, same) (three-words s (key_word x) fits ∙ rw (k, ← v) refl);
    },
  )

pub overlay_answers : OverlayAnswers
unfolding part_result words_of
overlay_answers t u m n sound map below mapBelow key = go (m key) (n key) refl refl
  where
    p : Passes t
    p = record { header = sound.orderly.header; flag = sound.orderly.flag }

    q : Passes u
    q = record { header = below.orderly.header; flag = below.orderly.flag }

    answer : asked_result t u key ≡ in_either (lookup t (header_of t) key) (lookup u (header_of u) key)
    answer = both_asked t u key p q

    go : (a b : Option Record) → m key ≡ a → n key ≡ b → OverlayBy t u key a b
    go (some r) b e d =
        let f = lookup-known t m sound map key r e in
        hit_sees t u key p q Newer t f.slot f.count r (answer ∙ ap (λ (o : Lookup). in_either o (lookup u (header_of u) key)) f.answer) refl p
        f.holding f.value (slot-fits t p f.slot f.item)
    go none (some r) e d =
        let g = lookup_unknown t m sound map key e in
        let f = lookup-known u n below mapBelow key r d in
        hit_sees t u key p q Older u f.slot (g.0 + f.count) r
        (answer ∙ rw (g.1, f.answer) refl) refl q f.holding f.value (slot-fits u q f.slot f.item)
    go none none e d =
        let g = lookup_unknown t m sound map key e in
        let f = lookup_unknown u n below mapBelow key d in
        let a : asked_result t u key ≡ lacks Older KeyAbsent (g.0 + f.0) = answer ∙ rw (g.1, f.1) refl in (
          ap (λ (x : Asked). get_or (asked_means x).values 0 0) a,
          record { answer = ap (λ (x : Asked). (asked_means x).number) a; part = rw a refl },
        )
