-- What a lookup means, without the search: "A query stops at the first taken slot with the key", and its count is the number
-- of buckets looked at. On a sound table it finds the keys of the map and no others.
-- Assumes nothing.
use Prim.Native.Nat.{ℕ, ◌+◌, ◌-◌, ◌^◌, ◌<◌}
use mathlib.Core.Path.{◌≡◌, refl, sym, ap, ◌∙◌}
use mathlib.Core.Bool.{true, false}
use mathlib.Core.List.Memᴰ
use mathlib.Core.List.Memᴰ.{head as here}
use mathlib.Core.List.{List, [], ◌∷◌, ◌++◌, Memᴰ as In}
use mathlib.Core.Logic.Iff
use mathlib.Core.Logic.{⊎_elim}
use mathlib.Core.Option.{Option, none, some}
use native.Mathlib.Omega.{arith}
use lib.ListN.{length}
use borrow.Author.Tests.{eq-eqb}
use Rattle.rules.specs.Choice.{given}
use Rattle.rules.specs.Words.{Table, words_for, header_of, GoodHeader, place_of, slots_in, key_word, key_in, record_in, token_of, keys_of, meant_of, taken}
use Rattle.rules.specs.Places.{places_of, fits, holds, hit_in, stands_or, seek, lookup}
use Rattle.rules.specs.Soundness.{TakenSlot, OrderlyTable, SoundTable, PlainMap, HasMap}
use Rattle.rules.specs.Demands.{FirstHolder}
use Rattle.rules.specs.declared.Header.{Header}
use Rattle.rules.specs.declared.Place.{Place}
use Rattle.rules.specs.declared.Slot.{Slot}
use Rattle.rules.specs.declared.Record.{Record}
use Rattle.rules.specs.declared.Lookup.{Lookup}
use Rattle.rules.specs.declared.Lookup.TheVariants.{Stands, Absent}
use Rattle.rules.proofs.Basics.Lists.{never, not_some, some_one, first_of-none, given-none}
use Rattle.rules.proofs.Words.Tokens.{Meant, meant_tag}
use Rattle.rules.proofs.Words.FreeSlots.{lowest_passing}
use Rattle.rules.proofs.Words.SlotsInUse.{slots_of_place}
use Rattle.rules.proofs.Places.PlacesInUse.{slot-within, places_in_use, slot_of_place, own-place}
use Rattle.rules.proofs.Basics.Tests.{Tells, tells_eq, tells_and}

pub stands_one : (x y : Slot) (m n : ℕ) → Stands x m ≡ Stands y n → (x ≡ y) × (m ≡ n)
stands_one x y m n e = (cc, cc)

-- ---- a search along places

module _ (hit : Place → Option Slot) where
  -- the first place with an answer, where m places were looked at before
  pub record Reached (m : ℕ) (ps : List Place) (x : Slot) (n : ℕ) : Type 0 where
    pub before : List Place
    pub place : Place
    pub behind : List Place
    pub order : ps ≡ before ++ (place ∷ behind)
    pub position : n ≡ m + length before + 1
    pub none_before : (p : Place) → In p before → hit p ≡ none
    pub answer : hit place ≡ some x

  seek-stands : (m : ℕ) (ps : List Place) (x : Slot) (n : ℕ) → seek hit m ps ≡ Stands x n → Reached m ps x n
  seek-stands m [] x n e = absurd (let z : ◌≡◌ {A = ℕ} 0 1 = cc in omega arith)
  seek-stands m (p ∷ ps) x n e = go (hit p) refl e (seek-stands (m + 1) ps x n)
    where
      go : (o : Option Slot) → hit p ≡ o → stands_or o (m + 1) (seek hit (m + 1) ps) ≡ Stands x n
          → (seek hit (m + 1) ps ≡ Stands x n → Reached (m + 1) ps x n) → Reached m (p ∷ ps) x n
      go (some y) q e k =
          let r = stands_one y x (m + 1) n e in
          record {
            before = [];
            place = p;
            behind = ps;
            order = refl;
            position = omega (arith, r.1);
            none_before =
                λ p i. absurd (Memᴰ.not-nil i);
            answer = q ∙ ap some r.0;
          }
      go none q e k =
          let r = k e in
          record {
            before = p ∷ r.before;
            place = r.place;
            behind = r.behind;
            order = ap (λ l. p ∷ l) r.order;
            position = omega (arith, r.position);
            none_before = λ y i. ⊎_elim (λ (h : y ≡ p). rw h q) (λ (h : In y r.before). r.none_before y h) (Memᴰ.cases_cons i);
            answer = r.answer;
          }

  seek-absent : (m : ℕ) (ps : List Place) (n : ℕ) → seek hit m ps ≡ Absent n → (n ≡ m + length ps) × ((p : Place) → In p ps → hit p ≡ none)
  seek-absent m [] n e = (let k : m ≡ n = cc in omega arith, λ p i. absurd (Memᴰ.not-nil i))
  seek-absent m (p ∷ ps) n e = go (hit p) refl e (seek-absent (m + 1) ps n)
    where
      go : (o : Option Slot) → hit p ≡ o → stands_or o (m + 1) (seek hit (m + 1) ps) ≡ Absent n
          → (seek hit (m + 1) ps ≡ Absent n → (n ≡ m + 1 + length ps) × ((y : Place) → In y ps → hit y ≡ none))
          → (n ≡ m + length (p ∷ ps)) × ((y : Place) → In y (p ∷ ps) → hit y ≡ none)
      go (some y) q e k = absurd (let z : ◌≡◌ {A = ℕ} 0 1 = cc in omega arith)
      go none q e k =
          let r = k e in
          (omega (arith, r.0), λ y i. ⊎_elim (λ (h : y ≡ p). rw h q) (λ (h : In y ps). r.1 y h) (Memᴰ.cases_cons i))

-- ---- a lookup

holds-tells : (t : Table) (h : Header) (key : ℕ) (x : Slot) → Tells (holds t h key x)
    ((taken t h x ≡ true) × ((fits t h key x ≡ true) × (key_in t x ≡ key)))
unfolding holds
holds-tells t h key x = tells_and _ _ Iff.rfl (tells_and _ _ Iff.rfl (tells_eq _ _))

module _ (t : Table) (h : Header) (key : ℕ) where
  -- no slot of a place holds the key
  abbrev Missing : Place → Type 0
  Missing p = (x : Slot) → In x (slots_in p) → holds t h key x ≡ false

  missing : (p : Place) → hit_in t h key p ≡ none → Missing p
  unfolding hit_in
  missing p e x i = given-none (holds t h key x) x (first_of-none (λ (x : Slot). given (holds t h key x) x) (slots_in p) e x i)

  pub lookup_absent : (n : ℕ) → lookup t h key ≡ Absent n → (n ≡ length (places_of h key)) × ((p : Place) → In p (places_of h key) → Missing p)
  unfolding lookup
  lookup_absent n e =
      let r = seek-absent (hit_in t h key) 0 (places_of h key) n e in
      (omega (arith, r.0), λ p i. missing p (r.1 p i))

-- where the key stands: the first slot that holds it, in the n-th place
pub lookup-stands : (t : Table) (key : ℕ) (x : Slot) (n : ℕ) → lookup t (header_of t) key ≡ Stands x n → (s : FirstHolder t key x) × (n ≡ length s.before + 1)
unfolding lookup hit_in
lookup-stands t key x n e =
    let h = header_of t in
    let r = seek-stands (hit_in t h key) 0 (places_of h key) x n e in
    let lowest = lowest_passing (holds t h key) r.place x r.answer in (
      record {
        before = r.before;
        place = r.place;
        behind = r.behind;
        order = r.order;
        none_before = λ p i. missing t h key p (r.none_before p i);
        here = lowest.inside;
        holding = lowest.passes;
        first = lowest.lower;
      },
      omega (arith, r.position),
    )

-- its place is one of the key's places
pub holder_among : (t : Table) (key : ℕ) (x : Slot) (s : FirstHolder t key x) → In s.place (places_of (header_of t) key)
holder_among t key x s = rw s.order (Memᴰ.append_right s.before (here refl))

-- ---- taken slots and places

-- a slot that holds a key is a taken slot with it
pub holder_taken : (t : Table) (key : ℕ) (x : Slot) → FirstHolder t key x → TakenSlot t x × (key_in t x ≡ key)
holder_taken t key x s =
    let h = header_of t in
    let f = (holds-tells t h key x).0 s.holding in
    (record { used = slot_of_place h.state s.place x (places_in_use h key s.place (holder_among t key x s)) s.here; shown = f.0 }, f.1.1)

-- "each taken slot in a place of its key"
pub placed_in : (f : ℕ) (t : Table) → OrderlyTable f t → (x : Slot) → TakenSlot t x → In (place_of x) (places_of (header_of t) (key_in t x))
placed_in f t o x u = let p = o.placed x u in own-place (header_of t).c (header_of t) o.header.state (key_in t x) x u.used p.0 p.1 (sym p.2)

-- where its bucket's token word is what should stand there, its tag fits its key
abbrev pub Tidied : Table → Type 0
Tidied t = (j : ℕ) → j < 2 ^ ((header_of t).c + 1) - 1 → token_of t j ≡ meant_of t (header_of t) j

pub tag_fits : (t : Table) → GoodHeader (length t) (header_of t) → Tidied t → (x : Slot) → TakenSlot t x → fits t (header_of t) (key_in t x) x ≡ true
unfolding fits taken keys_of key_in key_word meant_of words_for
tag_fits t g tidied x u =
    let right : Meant (header_of t) (token_of t x.bucket) (keys_of t x.bucket) =
    tidied x.bucket (omega (arith, (slot-within (length t) (header_of t) g x u.used).0, g.long)) in
    eq-eqb _ _ (meant_tag (header_of t) _ _ right x.slot u.used.slot u.shown)

-- such a slot is not missed
pub lookup-sees : (t : Table) (x : Slot) → TakenSlot t x → fits t (header_of t) (key_in t x) x ≡ true
    → In (place_of x) (places_of (header_of t) (key_in t x)) → (n : ℕ)
    → lookup t (header_of t) (key_in t x) ≡ Absent n → ⊥
lookup-sees t x u tag p n e =
    never ((holds-tells t (header_of t) (key_in t x) x).1 (u.shown, (tag, refl)))
    ((lookup_absent t (header_of t) (key_in t x) n e).1 (place_of x) p x (slots_of_place x u.used.slot))

-- ---- on a sound table

-- the slot where a lookup finds a key, with its record
pub record FoundIn (t : Table) (key : ℕ) (r : Record) : Type 0 where
  pub slot : Slot
  pub count : ℕ
  pub answer : lookup t (header_of t) key ≡ Stands slot count
  pub item : TakenSlot t slot
  pub holding : key_in t slot ≡ key
  pub value : record_in t slot ≡ r

module _ (t : Table) (m : PlainMap) (sound : SoundTable t) (map : HasMap t m) (key : ℕ) where
  known : (x : Slot) → TakenSlot t x × (key_in t x ≡ key) → m key ≡ some (record_in t x)
  known x s = rw (← s.1) (map.stands x s.0)

  pub lookup-known : (r : Record) → m key ≡ some r → FoundIn t key r
  lookup-known r e = go (lookup t (header_of t) key) refl
    where
      go : (o : Lookup) → lookup t (header_of t) key ≡ o → FoundIn t key r
      go (Stands x n) q =
          let s = holder_taken t key x (lookup-stands t key x n q).0 in
          record { slot = x; count = n; answer = q; item = s.0; holding = s.1; value = some_one (sym (known x s) ∙ e) }
      go (Absent n) q =
          let o = map.only key r e in
          let tag = tag_fits t sound.orderly.header sound.orderly.tidied o.0 o.1 in
          absurd (lookup-sees t o.0 o.1 tag (placed_in 0 t sound.orderly o.0 o.1) n (rw o.2 q))

  pub lookup_unknown : m key ≡ none → (n : ℕ) × (lookup t (header_of t) key ≡ Absent n)
  lookup_unknown e = go (lookup t (header_of t) key) refl
    where
      go : (o : Lookup) → lookup t (header_of t) key ≡ o → (n : ℕ) × (lookup t (header_of t) key ≡ Absent n)
      go (Absent n) q = (n, q)
      go (Stands x n) q = not_some (sym e ∙ known x (holder_taken t key x (lookup-stands t key x n q).0))
