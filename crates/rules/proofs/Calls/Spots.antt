-- Request e): where the answer stood. The word and the level that a query tells are those of the first taken slot with the key, and the changes
-- of the key, and the chain, go by the same lookup.
-- Assumes nothing.
use Prim.Native.Nat.{ℕ, ◌+◌, ◌-◌, ◌*◌, ◌<◌}
use mathlib.Core.Path.{◌≡◌, refl, sym, ap, ◌∙◌}
use mathlib.Core.Bool.{false}
use mathlib.Core.List.{[], ◌∷◌, Memᴰ as In}
use mathlib.Core.Logic.{◌⊎◌, inl, inr}
use native.Mathlib.Omega.{arith}
use lib.ListN.{length, get_or, drop}
use Rattle.rules.specs.Words.{Table, word, header_of, GoodHeader, flag_of, slot_at, slots_in, place_of}
use Rattle.rules.specs.Words.{token_word, key_word, function_word, place_word, spot_of, key_in, record_in, token_of, token_number, is_taken, taken}
use Rattle.rules.specs.Places.{fits, holds, lookup}
use Rattle.rules.specs.Stores.{clear_stores, update_stores}
use Rattle.rules.specs.Placing.{free_slot}
use Rattle.rules.specs.Soundness.{TakenSlot}
use Rattle.rules.specs.Answers.{query_means, lookup_means, chain_means, knows, misses}
use Rattle.rules.specs.Calls.{insert_in, update_in, delete_in, outcome}
use Rattle.rules.specs.Results.{query_at, query_result}
use Rattle.rules.specs.Chains.{chain_result}
use Rattle.rules.specs.Demands.{FirstHolder, slot_start, AnswersRecord}
use Rattle.rules.specs.ChainSentences.{key_at, ChainWritten}
use Rattle.rules.specs.SpotSentences.{KeyStands, LevelNamed, StoodAt, told, FoundStood, RefusedStoodNowhere, SlotBehind, LookupStood, word_told}
use Rattle.rules.specs.SpotSentences.{level_told, TheOneStood, ChangesGoThere, ChainStood}
use Rattle.rules.specs.declared.Place.{Place}
use Rattle.rules.specs.declared.Slot.{Slot}
use Rattle.rules.specs.declared.Record.{Record}
use Rattle.rules.specs.declared.Lookup.{Lookup}
use Rattle.rules.specs.declared.Lookup.TheVariants.{Stands, Absent}
use Rattle.rules.specs.declared.Refusal.{Refusal}
use Rattle.rules.specs.declared.Refusal.TheVariants.{KeyAbsent}
use Rattle.rules.specs.Answers.{Query}
use Rattle.rules.proofs.Basics.Lists.{never}
use Rattle.rules.proofs.Basics.Tests.{Tells, tells_eq, tells_and}
use Rattle.rules.proofs.Words.FreeSlots.{slot-place}
use Rattle.rules.proofs.Words.SlotsInUse.{slots_of_place}
use Rattle.rules.proofs.Places.PlacesInUse.{slot-within}
use Rattle.rules.proofs.Places.Lookups.{lookup-stands, holder_taken, placed_in, tag_fits, lookup-sees}
use Rattle.rules.proofs.Calls.ResizeSentences.{levels_are_three}
use Rattle.rules.proofs.Calls.Meanings.{number_not_zero, lookup-told}
use Rattle.rules.proofs.Calls.Passing.{passes_tests}
use Rattle.rules.proofs.Calls.Queries.{through_tests, query_by_lookup}
use Rattle.rules.proofs.Calls.StoreLists.{update_with_lem}
use Rattle.rules.proofs.Calls.Chains.{chain_writes}

-- ---- a slot, in words

-- a taken slot with the key
holds-words : (t : Table) (key : ℕ) (x : Slot) → Tells (holds t (header_of t) key x) (KeyStands t key x.bucket x.slot)
unfolding holds fits taken token_of is_taken token_number key_in key_word token_word
holds-words t key x = tells_and _ _ (tells_eq _ _) (tells_and _ _ (tells_eq _ _) (tells_eq _ _))

-- none of a place's slots, as none of its four numbers
none-stands : (t : Table) (key : ℕ) (p : Place) (s : ℕ) → holds t (header_of t) key (slot_at p s) ≡ false → KeyStands t key p.bucket s → ⊥
unfolding slot_at
none-stands t key p s e k = never ((holds-words t key (slot_at p s)).1 k) e

slot-inside : (p : Place) (s : ℕ) → s < 4 → In (slot_at p s) (slots_in p)
unfolding slot_at place_of
slot-inside p s l = slots_of_place (slot_at p s) l

-- a level in use, by its name
level-named : (t : Table) (x : Slot) → TakenSlot t x → LevelNamed t x.level x.bucket
level-named t x u = (levels_are_three t x.level x.bucket).0 (u.used.level, u.used.used, sym u.used.name, u.used.bucket)

-- ---- a query that finds the key

module _ (t : Table) (key : ℕ) where
  -- the slot that the lookup finds
  stood_at : GoodHeader (length t) (header_of t) → (x : Slot) (n : ℕ) → lookup t (header_of t) key ≡ Stands x n
      → StoodAt t key (record_in t x).function (record_in t x).place n (spot_of x).word (spot_of x).level
  unfolding record_in function_word place_word spot_of key_word token_word place_of slot_at
  stood_at g x n e =
      let found = lookup-stands t key x n e in
      let s = found.0 in
      let u = (holder_taken t key x s).0 in
      let at : x.bucket ≡ s.place.bucket = ap (λ (p : Place). p.bucket) (slot-place s.place x s.here) in
      record {
        bucket = x.bucket;
        slot = x.slot;
        four = u.used.slot;
        index = refl;
        inside = let i = slot-within (length t) (header_of t) g x u.used in omega (arith, i.0, i.1);
        stands = (holds-words t key x).0 s.holding;
        level = level-named t x u;
        before = s.before;
        last = s.place;
        behind = s.behind;
        order = s.order;
        count = found.1;
        here = sym at;
        earlier = λ q i y l k. none-stands t key q y (s.none_before q i (slot_at q y) (slot-inside q y l)) k;
        lower = λ y l k. lower-stands s at u.used.slot y l k;
        function = refl;
        place = refl;
      }
    where
      lower-stands : (s : FirstHolder t key x) → x.bucket ≡ s.place.bucket → x.slot < 4 → (y : ℕ) → y < x.slot
          → KeyStands t key x.bucket y → ⊥
      lower-stands s at four y l k =
          none-stands t key s.place y (s.first (slot_at s.place y) (slot-inside s.place y (omega arith)) l) (rw at at k)

  -- a query is refused by a test, with count 0, or the tests pass and it answers by the lookup
  query-ways : (P : Query → Type 0) → ((r : Refusal) → P (misses r 0))
      → (GoodHeader (length t) (header_of t) → flag_of t ≡ 0 → (o : Lookup) → lookup t (header_of t) key ≡ o → P (query_at t o))
      → P (query_result t key)
  unfolding query_result
  query-ways P refuse pass =
      through_tests t P (λ (r : Refusal). misses r 0) _ (λ r f. refuse r) (λ p. pass p.header p.flag (lookup t (header_of t) key) refl)

  -- where it answers 0, the tests pass and the lookup finds the key
  pub record KeyFound : Type 0 where
    pub header : GoodHeader (length t) (header_of t)
    pub flag : flag_of t ≡ 0
    pub slot : Slot
    pub count : ℕ
    pub found : lookup t (header_of t) key ≡ Stands slot count
    pub answer : query_result t key ≡ knows (record_in t slot) (spot_of slot) count

  key-found : (told t key).number ≡ 0 → KeyFound
  key-found z = query-ways P (λ r e n. absurd (number_not_zero r n)) by refl z
    where
      P : Query → Type 0
      P q = query_result t key ≡ q → (query_means q).number ≡ 0 → KeyFound

      by : GoodHeader (length t) (header_of t) → flag_of t ≡ 0 → (o : Lookup) → lookup t (header_of t) key ≡ o → P (query_at t o)
      by g f (Stands x n) q e n0 = record { header = g; flag = f; slot = x; count = n; found = q; answer = e }
      by g f (Absent n) q e n0 = absurd (number_not_zero KeyAbsent n0)

pub found_stood : FoundStood
found_stood t key z =
    let f = key-found t key z in
    let r = record_in t f.slot in (
      r.function,
      r.place,
      f.count,
      (spot_of f.slot).word,
      (spot_of f.slot).level,
      ap (λ (q : Query). (query_means q).values) f.answer,
      stood_at t key f.header f.slot f.count f.found,
    )

pub refused_stood_nowhere : RefusedStoodNowhere
refused_stood_nowhere t key = query-ways t key P (λ r n. (0, refl)) by
  where
    P : Query → Type 0
    P q = ((query_means q).number ≡ 0 → ⊥) → (n : ℕ) × ((query_means q).values ≡ 0 ∷ 0 ∷ n ∷ 0 ∷ 0 ∷ [])

    by : GoodHeader (length t) (header_of t) → flag_of t ≡ 0 → (o : Lookup) → lookup t (header_of t) key ≡ o → P (query_at t o)
    by g f (Stands x n) q z = absurd (z refl)
    by g f (Absent n) q z = (n, refl)

pub lookup_stood : LookupStood
unfolding spot_of key_word token_word
lookup_stood t key g f =
    let l = lookup-told t (lookup t (header_of t) key) in
    let q = query_by_lookup t key g f in (
      ap (λ (a : Query). (query_means a).number) q ∙ l.0,
      ap (λ (a : Query). drop 2 (query_means a).values) q ∙ l.1,
      go (lookup t (header_of t) key) refl,
    )
  where
    go : (o : Lookup) → lookup t (header_of t) key ≡ o → (lookup_means o).number ≡ 0
        → SlotBehind (get_or (lookup_means o).values 1 0) (drop 3 (lookup_means o).values)
    go (Stands x n) e z = (x.bucket, x.slot, refl, (holder_taken t key x (lookup-stands t key x n e).0).0.used.slot, refl)
    go (Absent n) e z = absurd (number_not_zero KeyAbsent z)

-- ---- on a sound table

pub the_one_stood : TheOneStood
unfolding spot_of key_in key_word token_word
the_one_stood t sound x key u e = go (lookup t (header_of t) key) refl
  where
    own : key_in t x ≡ key
    own = e

    go : (o : Lookup) → lookup t (header_of t) key ≡ o
        → ((told t key).number ≡ 0) × (word_told t key ≡ slot_start x) × (level_told t key ≡ x.level)
    go (Stands y n) q =
        let s = holder_taken t key y (lookup-stands t key y n q).0 in
        let same : x ≡ y = sound.alone x y u s.0 (own ∙ sym s.1) in
        let a = query_by_lookup t key sound.orderly.header sound.orderly.flag in
        rw (a, q, same) (refl, refl, refl)
    go (Absent n) q =
        absurd (lookup-sees t x u (tag_fits t sound.orderly.header sound.orderly.tidied x u) (placed_in 0 t sound.orderly x u) n (rw own q))

-- ---- what rests on the lookup

pub changes_go_there : ChangesGoThere
unfolding outcome spot_of key_word token_word clear_stores update_stores
changes_go_there t key n l z =
    let f = key-found t key z in
    let pass = passes_tests t n f.header l f.flag in
    let h = header_of t in
    record {
      slot = f.slot;
      four = (holder_taken t key f.slot (lookup-stands t key f.slot f.count f.found).0).0.used.slot;
      index = ap (λ (q : Query). get_or (query_means q).values 3 0) f.answer;
      level = ap (λ (q : Query). get_or (query_means q).values 4 0) f.answer;
      deletes = pass (delete_in t h (lookup t h key)) ∙ ap (delete_in t h) f.found;
      updates = λ r. (
        update_stores t h f.slot key r,
        pass (update_in t h (lookup t h key) key r) ∙ ap (λ (o : Lookup). update_in t h o key r) f.found,
        update_with_lem t h _ f.slot key r (free_slot t h (place_of f.slot)) refl,
      );
      inserts = λ r. pass (insert_in t h (lookup t h key) key r) ∙ ap (λ (o : Lookup). insert_in t h o key r) f.found;
    }

-- a record that a query answers stands behind the word told
pub told_there : (t : Table) (key : ℕ) (r : Record) → AnswersRecord (query_result t key) r
    → ((told t key).number ≡ 0) × (r.function ≡ word t (word_told t key + 1)) × (r.place ≡ word t (word_told t key + 2))
unfolding record_in function_word place_word spot_of
told_there t key r a =
    let z : (told t key).number ≡ 0 = ap (λ (q : Query). (query_means q).number) a.2 in
    let f = key-found t key z in
    let same = sym a.2 ∙ f.answer in
    let w : word_told t key ≡ key_word f.slot = ap (λ (q : Query). get_or (query_means q).values 3 0) f.answer in (
      z,
      ap (λ (q : Query). get_or (query_means q).values 0 0) same ∙ ap (λ (i : ℕ). word t (i + 1)) (sym w),
      ap (λ (q : Query). get_or (query_means q).values 1 0) same ∙ ap (λ (i : ℕ). word t (i + 2)) (sym w),
    )

pub chain_stood : ChainStood
chain_stood t address d l z e i = go (chain_writes t address d l)
  where
    Stood : Type 0
    Stood =
        let w = word_told t (key_at address e) in let m = (chain_result t address d l).1 in
        ((told t (key_at address e)).number ≡ 0) × (word m (2 * (d - e)) ≡ word t (w + 1)) × (word m (2 * (d - e) + 1) ≡ word t (w + 2))

    go : (((chain_means (chain_result t address d l).0).number ≡ 0) × ChainWritten t address d l (chain_result t address d l).1)
        ⊎ (((chain_means (chain_result t address d l).0).number ≡ 0 → ⊥) × ((chain_result t address d l).1 ≡ l)) → Stood
    go (inl k) =
        let r = k.1.records e i in
        let there = told_there t (key_at address e) r.0 r.1 in
        (there.0, r.2.0 ∙ there.1, r.2.1 ∙ there.2)
    go (inr k) = absurd (k.0 z)
