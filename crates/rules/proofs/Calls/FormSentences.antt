-- Document 02, request g), sentence by sentence: what a key hashes to, its tag, the token words by their bits, what a token store changes, and the
-- lookup by tag.
-- Assumes nothing.
use Prim.Native.Nat.{ℕ, ◌+◌, ◌-◌, ◌*◌, ◌/◌, ◌%◌, ◌^◌, ◌<◌}
use mathlib.Core.Path.{◌≡◌, refl, sym, ap, ◌∙◌}
use mathlib.Core.Bool.{Bool, true, false, ◌&&◌}
use mathlib.Core.List.Memᴰ.{head as here}
use mathlib.Core.List.Memᴰ.{tail as there}
use mathlib.Core.List.{List, [], ◌∷◌, Memᴰ as In}
use mathlib.Core.Logic.{◌⊎◌, inl, inr, ◌↔◌}
use mathlib.Core.Option.{Option}
use native.Mathlib.Omega.{arith}
use lib.Dec.{eqb}
use lib.Pow.{shr-shr}
use borrow.Author.Tests.{eq-eqb, eqb-true}
use Rattle.words.specs.Product.{product_of, hash_of}
use Rattle.rules.specs.Choice.{given, first_of}
use Rattle.rules.specs.Forms.{tagged, tag_of}
use Rattle.rules.specs.Words.{Table, word, header_of, slots_in, key_word, key_in, token_word, token_of, keys_of, token_number, is_taken, tag_in, taken}
use Rattle.rules.specs.Words.{slots, slot_at, place_of, meant_of}
use Rattle.rules.specs.Places.{hashes_of, places_of, fits, holds, hit_in, seek, lookup}
use Rattle.rules.specs.Stores.{Store}
use Rattle.rules.specs.Soundness.{TakenSlot, OrderlyTable}
use Rattle.rules.specs.Calls.{refused, listed, query, insert, update, delete, recover, outcome}
use Rattle.rules.specs.Results.{query_at}
use Rattle.rules.specs.Demands.{Held, FirstRefuses, OfNoKind, refusals}
use Rattle.rules.specs.NoPlace.{NoPlaceFor}
use Rattle.rules.specs.FormSentences.{bit, eight, MixedBits, PlacesByHash, TagBelowHash, RightWord, WordsExactly, WrongWordsAreTwelve, OneSlot}
use Rattle.rules.specs.FormSentences.{StoresChangeOneSlot, TokenStoresKeep, HoldsByTag, Hidden, WrongTagHides, ReadsAsAll}
use Rattle.rules.specs.FormSentences.{TagsMissNothing, NoTagsInForm1}
use Rattle.rules.specs.declared.Place.{Place}
use Rattle.rules.specs.declared.Slot.{Slot}
use Rattle.rules.specs.declared.Record.{Record}
use Rattle.rules.specs.declared.Refusal.TheVariants.{KeyAbsent, NoPlace, NoKind}
use Rattle.rules.proofs.Basics.Lists.{map_in, from_in}
use Rattle.rules.proofs.Basics.Tests.{Tells, tells_eq, tells_and}
use Rattle.rules.proofs.Words.Fields.{built, bit_at, tag_at, gap_at, rest_at, but, but_here, but_other, low_bit, changed_bit, changed_tag, keeps_built}
use Rattle.rules.proofs.Words.Forms.{form1_untagged, form2_tagged, mixed_untagged, mixed-tagged, tag_untagged, tag_tagged, xor_bit}
use Rattle.rules.proofs.Words.Tokens.{tag_small, whole-read, low_read, no_tag_in, hide_built, show_built, meant_untagged, right_fields, fields_right}
use Rattle.rules.proofs.Words.FreeSlots.{slot-place}
use Rattle.rules.proofs.Places.Probing.{first-bucket, second-bucket}
use Rattle.rules.proofs.Places.PlacesInUse.{places_in_use, slot_of_place}
use Rattle.rules.proofs.Places.Lookups.{tag_fits}
use Rattle.rules.proofs.Calls.Queries.{query_by_lookup}
use Rattle.rules.proofs.Calls.Refusals.{refusals_in_order, first_exactly}
use Rattle.rules.proofs.Calls.Inside.{token_stored}

-- ---- hashes and tags

pub mixed_bits : MixedBits
mixed_bits h key = (
  λ e. mixed_untagged h (form1_untagged h e) key,
  λ e i.
      ap (λ (n : ℕ). n / 2 ^ i % 2) (mixed-tagged h (form2_tagged h e) key)
      ∙ xor_bit key (key / 2 ^ 32) i
      ∙ ap (λ (n : ℕ). (key / 2 ^ i + n) % 2) (shr-shr key 32 i)
      ∙ omega arith,
)

pub places_by_hash : PlacesByHash
places_by_hash h key l = (first-bucket h key l, second-bucket h key l)

pub tag_below_hash : TagBelowHash
unfolding hashes_of hash_of product_of
tag_below_hash h key e = (tag_small h key, refl, omega (arith, tag_tagged h (form2_tagged h e) key))

-- ---- token words

module _ (t : Table) (j : ℕ) where
  pub words_exactly_at : (word t 0 ≡ 1 → (token_of t j ≡ meant_of t (header_of t) j) ↔ (word t (9 + 13 * j) < 16))
      × (word t 0 ≡ 2 → (token_of t j ≡ meant_of t (header_of t) j) ↔ RightWord t j)
  unfolding meant_of token_of token_word keys_of header_of token_number bit_at tag_at gap_at rest_at
  words_exactly_at = (
    λ e.
        let low = meant_untagged (header_of t) (token_of t j) (keys_of t j) (form1_untagged (header_of t) e) in
        (λ right. omega (arith, right ∙ low), λ small. sym (low ∙ omega (arith, small))),
    λ e. (
      λ right.
          let r = right_fields (header_of t) (token_of t j) (keys_of t j) right in
          record { shown = r.shown; free = r.free; between = r.between; above = r.above },
      λ r.
          fields_right (header_of t) (token_of t j) (keys_of t j)
          (record { shown = r.shown; free = r.free; between = r.between; above = r.above }),
    ),
  )

pub words_exactly : WordsExactly
words_exactly t j = words_exactly_at t j

-- a table of one of recovery's three kinds has every token word as it should be
module _ (t : Table) (n j : ℕ) (low : j < 2 ^ (word t 1 + 1) - 1) (wrong : token_of t j ≡ meant_of t (header_of t) j → ⊥) where
  disorderly : (f : ℕ) → OrderlyTable f t → ⊥
  unfolding header_of
  disorderly f o = wrong (o.tidied j low)

  no_kind : OfNoKind t
  no_kind = record {
    unsound = λ s. disorderly 0 s.orderly;
    undoubled = λ x y d. disorderly 0 d.orderly;
    unflagged = λ x f. disorderly 1 f.orderly;
  }

pub wrong_words_are_twelve : WrongWordsAreTwelve
wrong_words_are_twelve t n j header long low wrong = go (refusals_in_order t n recover)
  where
    go : FirstRefuses (refusals t n recover) (outcome t n recover) → outcome t n recover ≡ refused NoKind
    go (inl (bad, e)) = absurd (bad header)
    go (inr (h, inl (short, e))) = absurd (omega (arith, long))
    go (inr (h, inr (l, inl (k, e)))) = e
    go (inr (h, inr (l, inr (k, e)))) = absurd (k (no_kind t n j low wrong))

-- ---- what a token store changes

module _ (u s : ℕ) (low : s < 4) (own tag : ℕ) (bl : own < 2) (tl : tag < 256) where
  one-slot : (v : ℕ) → v ≡ built (but (bit_at u) s own) (but (tag_at u) s tag) (gap_at u) (rest_at u) → OneSlot u v s own tag
  unfolding bit_at tag_at
  one-slot v e = rw e (record {
    here = (
      changed_bit u s low own tag bl tl s low ∙ but_here (bit_at u) s own,
      changed_tag u s low own tag bl tl s low ∙ but_here (tag_at u) s tag,
    );
    others = λ z zl d. (
      changed_bit u s low own tag bl tl z zl ∙ but_other (bit_at u) s own z d,
      changed_tag u s low own tag bl tl z zl ∙ but_other (tag_at u) s tag z d,
    );
    between = (keeps_built u s own tag low bl tl).0;
    above = (keeps_built u s own tag low bl tl).1;
  })

pub stores_change_one_slot : StoresChangeOneSlot
unfolding token_number
stores_change_one_slot h w s key low = (
  λ e.
      let read = low_read h (form1_untagged h e) w in
      let none = tag_untagged h (form1_untagged h e) key in (
        one-slot (w % 16) s low 1 0 (omega arith) (omega arith) _ (rw (read, none) at (show_built h w s key low)),
        one-slot (w % 16) s low 0 0 (omega arith) (omega arith) _ (rw read at (hide_built h w s low)),
      ),
  λ e.
      let read = whole-read h (form2_tagged h e) w in (
        one-slot w s low 1 (tag_of h key) (omega arith) (tag_small h key) _ (rw read at (show_built h w s key low)),
        one-slot w s low 0 0 (omega arith) (omega arith) _ (rw read at (hide_built h w s low)),
      ),
)

pub token_stores_keep : TokenStoresKeep
unfolding token_of token_word header_of
token_stores_keep t n q xs e form x i j at = (token_stored t n q xs e x i j at).kept (form2_tagged (header_of t) form)

-- ---- a slot with the key

slot_low : (p : Place) (x : Slot) → In x (slots_in p) → x.slot < 4
unfolding slots_in slot_at
slot_low p x i = let r = map_in (slot_at p) slots x i in rw r.2 (omega (arith, from_in 0 4 r.0 r.1))

module _ (t : Table) (key : ℕ) (x : Slot) (low : x.slot < 4) where
  taken_bits : Tells (taken t (header_of t) x) (bit (word t (9 + 13 * x.bucket)) x.slot ≡ 1)
  unfolding taken is_taken token_number token_of token_word bit_at
  taken_bits = rw (low_bit (word t (9 + 13 * x.bucket)) x.slot low) (tells_eq _ _)

  has_key : Tells (eqb (key_in t x) key) (word t (9 + 13 * x.bucket + (1 + 3 * x.slot)) ≡ key)
  unfolding key_in key_word token_word
  has_key = tells_eq _ _

  untagged_fits : tagged (header_of t) ≡ false → fits t (header_of t) key x ≡ true
  unfolding fits
  untagged_fits e = eq-eqb _ _ (no_tag_in (header_of t) e (token_of t x.bucket) x.slot low ∙ sym (tag_untagged (header_of t) e key))

  tagged-fits : tagged (header_of t) ≡ true → Tells (fits t (header_of t) key x) (eight (word t (9 + 13 * x.bucket)) x.slot ≡ tag_of (header_of t) key)
  unfolding fits tag_in token_of token_word
  tagged-fits e = rw (whole-read (header_of t) e (word t (9 + 13 * x.bucket))) (tells_eq _ _)

pub holds_by_tag : HoldsByTag
unfolding holds header_of
holds_by_tag t key x low = (
  λ e. rw (untagged_fits t key x low (form1_untagged (header_of t) e)) (tells_and _ _ (taken_bits t key x low) (has_key t key x low)),
  λ e. tells_and _ _ (taken_bits t key x low) (tells_and _ _ (tagged-fits t key x low (form2_tagged (header_of t) e)) (has_key t key x low)),
)

-- ---- a wrong tag hides a key

module _ (t : Table) (key : ℕ) (form : word t 0 ≡ 2) (hidden : Hidden t key) where
  not_held : Held t key → ⊥
  unfolding place_of
  not_held (p, x, i, j, y) =
      let same : x.bucket ≡ p.bucket = ap (λ (q : Place). q.bucket) (slot-place p x j) in
      let low = slot_low p x j in
      let f = ((holds_by_tag t key x low).1 form).0 y in
      hidden p i x.slot low (rw same at f.1.0) (rw same at f.0, rw same at f.1.1)

pub wrong_tag_hides : WrongTagHides
wrong_tag_hides t n key may form hidden =
    (go_query (refusals_in_order t n (query key)), go_delete, λ r. (go_update r, go_insert r (refusals_in_order t n (insert key r))))
  where
    none : Held t key → ⊥
    none = not_held t key form hidden

    go_query : FirstRefuses (refusals t n (query key)) (outcome t n (query key)) → outcome t n (query key) ≡ refused KeyAbsent
    go_query (inl (bad, e)) = absurd (bad may.header)
    go_query (inr (h, inl (set, e))) = absurd (set may.flag)
    go_query (inr (h, inr (f, inl (k, e)))) = e
    go_query (inr (h, inr (f, inr (k, e)))) = absurd (k none)

    go_delete : outcome t n (delete key) ≡ refused KeyAbsent
    go_delete = (first_exactly t n (Held t key → ⊥) KeyAbsent [] _ (omega arith) tt (refusals_in_order t n (delete key))).1 (may, none)

    go_update : (r : Record) → outcome t n (update key r) ≡ refused KeyAbsent
    go_update r = (first_exactly t n (Held t key → ⊥) KeyAbsent [] _ (omega arith) tt (refusals_in_order t n (update key r))).1 (may, none)

    go_insert : (r : Record) → FirstRefuses (refusals t n (insert key r)) (outcome t n (insert key r))
        → ((xs : List Store) × (outcome t n (insert key r) ≡ listed xs))
        ⊎ (NoPlaceFor t (header_of t) key × (outcome t n (insert key r) ≡ refused NoPlace))
    go_insert r (inl (bad, e)) = absurd (bad may.header)
    go_insert r (inr (h, inl (short, e))) = absurd (omega (arith, short, may.list))
    go_insert r (inr (h, inr (l, inl (set, e)))) = absurd (set may.flag)
    go_insert r (inr (h, inr (l, inr (f, inl (k, e))))) = absurd (none k)
    go_insert r (inr (h, inr (l, inr (f, inr (k, inl refusal))))) = inr refusal
    go_insert r (inr (h, inr (l, inr (f, inr (k, inr (p, x)))))) = inl x

-- ---- reading every slot

-- searches that agree on what they are asked
first_of-same : {A B : Type 0} (f g : A → Option B) (l : List A) → ((x : A) → In x l → f x ≡ g x) → first_of f l ≡ first_of g l
first_of-same f g [] e = refl
first_of-same f g (x ∷ xs) e = rw (e x (here refl), first_of-same f g xs (λ y i. e y (there i)))

seek-same : (f g : Place → Option Slot) (n : ℕ) (ps : List Place) → ((p : Place) → In p ps → f p ≡ g p) → seek f n ps ≡ seek g n ps
seek-same f g n [] e = refl
seek-same f g n (p ∷ ps) e = rw (e p (here refl), seek-same f g (n + 1) ps (λ y i. e y (there i)))

module _ (t : Table) (key : ℕ) where
  -- where the tag of each taken slot with the key fits it
  all_read : ((x : Slot) (p : Place) → In p (places_of (header_of t) key) → In x (slots_in p) → taken t (header_of t) x ≡ true → key_in t x ≡ key
      → fits t (header_of t) key x ≡ true)
      → ReadsAsAll t key
  unfolding lookup hit_in holds
  all_read fitting =
      seek-same _ _ 0 (places_of (header_of t) key) (λ p i. first_of-same _ _ (slots_in p) (λ x j. ap (λ (b : Bool). given b x) (same x p i j)))
    where
      by : (a b c : Bool) → (a ≡ true → c ≡ true → b ≡ true) → (a && (b && c)) ≡ (a && c)
      by true true c e = refl
      by true false true e = e refl refl
      by true false false e = refl
      by false b c e = refl

      same : (x : Slot) (p : Place) → In p (places_of (header_of t) key) → In x (slots_in p)
          → (taken t (header_of t) x && (fits t (header_of t) key x && eqb (key_in t x) key)) ≡ (taken t (header_of t) x && eqb (key_in t x) key)
      same x p i j = by (taken t (header_of t) x) (fits t (header_of t) key x) (eqb (key_in t x) key) (λ a c. fitting x p i j a (eqb-true _ _ c))

pub tags_miss_nothing : TagsMissNothing
tags_miss_nothing t s key = (reads, query_by_lookup t key s.orderly.header s.orderly.flag ∙ ap (query_at t) reads)
  where
    reads : ReadsAsAll t key
    reads =
        all_read t key
        (λ x p i j a k.
        let h = header_of t in
        let u : TakenSlot t x = record { used = slot_of_place h.state p x (places_in_use h key p i) j; shown = a } in
        rw k at (tag_fits t s.orderly.header s.orderly.tidied x u))

pub no_tags_in_form1 : NoTagsInForm1
unfolding header_of
no_tags_in_form1 t e key = all_read t key (λ x p i j a k. untagged_fits t key x (slot_low p x j) (form1_untagged (header_of t) e))
