-- Filling a sound table with items of another: request h)'s inserts in a row, the stores of each made before the next. Where no two of the items
-- have one key and the table has none of their keys, every insert is accepted or finds no place, and the map gains the items.
-- Assumes nothing.
use Prim.Native.Nat.{ℕ, ◌≤◌}
use mathlib.Core.Path.{◌≡◌, refl, sym, ap, ◌∙◌}
use mathlib.Core.Bool.{cond, true, false}
use mathlib.Core.List.Memᴰ
use mathlib.Core.List.Memᴰ.{head as here}
use mathlib.Core.List.Memᴰ.{tail as there}
use mathlib.Core.List.{List, [], ◌∷◌, ◌++◌, foldl, Memᴰ as In}
use mathlib.Core.Logic.{◌⊎◌, inl, inr, ⊎_elim}
use mathlib.Core.Option.{Option, none, some}
use lib.ListN.{length}
use lib.Dec.{eqb}
use borrow.Author.Tests.{eqb-true, eq-eqb, ne_eqb}
use Rattle.rules.specs.Words.{Table, header_of, key_in, record_in}
use Rattle.rules.specs.Stores.{Store, made}
use Rattle.rules.specs.Soundness.{PlainMap}
use Rattle.rules.specs.Calls.{Outcome, listed, Call, insert, outcome}
use Rattle.rules.specs.Results.{change_result}
use Rattle.rules.specs.NoPlace.{NoPlaceFor}
use Rattle.rules.specs.Histories.{whole, after, after_all, Accepted}
use Rattle.rules.specs.Demands.{Given, InsertBy, map_with, with_state}
use Rattle.rules.specs.Conversions.{Filling, filled, stuck, inserted_in, with_item}
use Rattle.rules.specs.ConversionSentences.{inserts, AllAccepted}
use Rattle.rules.specs.declared.Slot.{Slot}
use Rattle.rules.specs.declared.Record.{Record}
use Rattle.rules.proofs.Basics.Lists.{Ascending, not_some}
use Rattle.rules.proofs.Calls.Passing.{passes}
use Rattle.rules.proofs.Calls.Inserting.{insert_answers}
use Rattle.rules.proofs.Calls.MadeLists.{stores_of, after-whole, lists-accepted}

-- a plain map with one key more
module _ (m : PlainMap) (key : ℕ) (r : Record) where
  pub map_at : map_with m key (some r) key ≡ some r
  map_at = rw (eq-eqb key key refl)

  pub map_beside : (k : ℕ) → (k ≡ key → ⊥) → map_with m key (some r) k ≡ m k
  map_beside k d = rw (ne_eqb k key d)

  pub map-either : (k : ℕ) (v : Record) → map_with m key (some r) k ≡ some v → ((k ≡ key) × (r ≡ v)) ⊎ (m k ≡ some v)
  map-either k v e = go (eqb k key) refl e
    where
      go : (b : _) → eqb k key ≡ b → cond b (some r) (m k) ≡ some v → ((k ≡ key) × (r ≡ v)) ⊎ (m k ≡ some v)
      go true q e = inl (eqb-true k key q, cc)
      go false q e = inr e

module _ (t : Table) where
  abbrev pub item_insert : Slot → Call
  item_insert x = insert (key_in t x) (record_in t x)

  -- no two of them have one key
  abbrev pub Apart : List Slot → Type 0
  Apart = Ascending (λ (x y : Slot). key_in t x ≡ key_in t y → ⊥)

  -- ---- one item

  -- the table u took the item of slot x and became v, with whatever list
  pub record Took (u : Table) (m : PlainMap) (x : Slot) (v : Table) : Type 0 where
    pub given : Given v (map_with m (key_in t x) (some (record_in t x))) 20
    pub header : header_of v ≡ header_of u
    pub place : NoPlaceFor u (header_of u) (key_in t x) → ⊥
    pub event : (l : List ℕ) → 20 ≤ length l → Accepted (change_result u l (item_insert x)).0 × (after u (whole (item_insert x) l) ≡ v)

  module _ (u : Table) (m : PlainMap) (given : Given u m 20) (x : Slot) where
    -- the list's length plays no part
    any-list : (n : ℕ) → 20 ≤ n → outcome u n (item_insert x) ≡ outcome u 20 (item_insert x)
    unfolding outcome
    any-list n room =
        let g : Given u m n = record { sound = given.sound; map = given.map; room = room } in
        passes u m n g _ ∙ sym (passes u m 20 given _)

    took : (stores : List Store) → outcome u 20 (item_insert x) ≡ listed stores
        → (l : List ℕ) → 20 ≤ length l → Accepted (change_result u l (item_insert x)).0 × (after u (whole (item_insert x) l) ≡ made u stores)
    took stores e l room =
        let f : outcome u (length l) (item_insert x) ≡ listed stores = any-list (length l) room ∙ e in
        (lists-accepted u l (item_insert x) stores f, after-whole u l (item_insert x) ∙ ap (λ (o : Outcome). made u (stores_of o)) f)

    pub item-taken : m (key_in t x) ≡ none
        → (NoPlaceFor u (header_of u) (key_in t x) × (with_item t (filled u) x ≡ stuck (key_in t x)))
        ⊎ ((v : Table) × (with_item t (filled u) x ≡ filled v) × Took u m x v)
    unfolding with_state
    item-taken absent = go (rw absent at (insert_answers u m 20 given (key_in t x) (record_in t x)))
      where
        go : InsertBy u m (key_in t x) (record_in t x) none (outcome u 20 (item_insert x))
            → (NoPlaceFor u (header_of u) (key_in t x) × (with_item t (filled u) x ≡ stuck (key_in t x)))
            ⊎ ((v : Table) × (with_item t (filled u) x ≡ filled v) × Took u m x v)
        go (inl (shut, e)) = inl (shut, ap (inserted_in u (key_in t x)) e)
        go (inr (place, g)) =
            inr (
              made u g.stores,
              ap (inserted_in u (key_in t x)) g.answer,
              record {
                given = record { sound = g.sound; map = g.map; room = given.room };
                header = g.header;
                place = place;
                event = took g.stores g.answer;
              },
            )

  -- ---- items in a row

  pub stuck-stays : (key : ℕ) (xs : List Slot) → foldl (with_item t) (stuck key) xs ≡ stuck key
  stuck-stays key [] = refl
  stuck-stays key (x ∷ xs) = stuck-stays key xs

  -- the items of xs went into u, which had the map m, and it became v
  pub record Filled (u : Table) (m : PlainMap) (xs : List Slot) (v : Table) : Type 0 where
    pub map : PlainMap
    pub given : Given v map 20
    pub header : header_of v ≡ header_of u
    pub kept : (key : ℕ) (r : Record) → m key ≡ some r → map key ≡ some r
    pub items : (x : Slot) → In x xs → map (key_in t x) ≡ some (record_in t x)
    pub only : (key : ℕ) (r : Record) → map key ≡ some r → (m key ≡ some r) ⊎ ((x : Slot) × In x xs × (key_in t x ≡ key) × (record_in t x ≡ r))
    pub history : (l : List ℕ) → 20 ≤ length l → AllAccepted u (inserts t l xs) × (v ≡ after_all u (inserts t l xs))

  -- the first item that found no place, and the table it found none in
  pub record Unplaced (u : Table) (m : PlainMap) (xs : List Slot) (key : ℕ) : Type 0 where
    pub before : List Slot
    pub item : Slot
    pub behind : List Slot
    pub parts : xs ≡ before ++ (item ∷ behind)
    pub named : key_in t item ≡ key
    pub table : Table
    pub reached : Filled u m before table
    pub none_there : NoPlaceFor table (header_of table) key

  abbrev pub FillsTo : Table → PlainMap → List Slot → Filling → Type 0
  FillsTo u m xs (filled v) = Filled u m xs v
  FillsTo u m xs (stuck key) = Unplaced u m xs key

  -- one item before others
  module _ (u v : Table) (m : PlainMap) (x : Slot) (absent : m (key_in t x) ≡ none) (first : Took u m x v) where
    abbrev more : PlainMap
    more = map_with m (key_in t x) (some (record_in t x))

    with_first : (xs : List Slot) (w : Table) → Filled v more xs w → Filled u m (x ∷ xs) w
    with_first xs w f =
        record {
          map = f.map;
          given = f.given;
          header = f.header ∙ first.header;
          kept = kept;
          items = λ y i. ⊎_elim (λ (e : y ≡ x). rw e new) (λ (j : In y xs). f.items y j) (Memᴰ.cases_cons i);
          only = λ key r e. ⊎_elim (old key r) (λ (z : (y : Slot) × In y xs × (key_in t y ≡ key) × (record_in t y ≡ r)). inr (z.0, there z.1, z.2, z.3))
              (f.only key r e);
          history = history;
        }
      where
        new : f.map (key_in t x) ≡ some (record_in t x)
        new = f.kept (key_in t x) (record_in t x) (map_at m (key_in t x) (record_in t x))

        kept : (key : ℕ) (r : Record) → m key ≡ some r → f.map key ≡ some r
        kept key r e = f.kept key r (map_beside m (key_in t x) (record_in t x) key (λ q. not_some (sym absent ∙ (rw q at e))) ∙ e)

        old : (key : ℕ) (r : Record) → more key ≡ some r → (m key ≡ some r) ⊎ ((y : Slot) × In y (x ∷ xs) × (key_in t y ≡ key) × (record_in t y ≡ r))
        old key r e =
            ⊎_elim (λ (z : (key ≡ key_in t x) × (record_in t x ≡ r)). inr (x, here refl, sym z.0, z.1)) (λ (z : m key ≡ some r). inl z)
            (map-either m (key_in t x) (record_in t x) key r e)

        history : (l : List ℕ) → 20 ≤ length l → AllAccepted u (inserts t l (x ∷ xs)) × (w ≡ after_all u (inserts t l (x ∷ xs)))
        history l room =
            let a = first.event l room in
            let h = f.history l room in
            ((a.0, rw a.1 h.0), h.1 ∙ ap (λ (z : Table). after_all z (inserts t l xs)) (sym a.1))

    goes_on_lem : (xs : List Slot) (f : Filling) → FillsTo v more xs f → FillsTo u m (x ∷ xs) f
    goes_on_lem xs (filled w) k = with_first xs w k
    goes_on_lem xs (stuck key) k =
        record {
          before = x ∷ k.before;
          item = k.item;
          behind = k.behind;
          parts = ap (λ (l : List Slot). x ∷ l) k.parts;
          named = k.named;
          table = k.table;
          reached = with_first k.before k.table k.reached;
          none_there = k.none_there;
        }

    -- the others have no key that the table has now
    still_absent : (xs : List Slot) → ((y : Slot) → In y xs → key_in t x ≡ key_in t y → ⊥) → ((y : Slot) → In y xs → m (key_in t y) ≡ none)
        → (y : Slot) → In y xs → more (key_in t y) ≡ none
    still_absent xs apart f y i = map_beside m (key_in t x) (record_in t x) (key_in t y) (λ e. apart y i (sym e)) ∙ f y i

  nothing_yet : (u : Table) (m : PlainMap) → Given u m 20 → Filled u m [] u
  nothing_yet u m g =
      record {
        map = m;
        given = g;
        header = refl;
        kept = λ key r e. e;
        items = λ x i. absurd (Memᴰ.not-nil i);
        only = λ key r e. inl e;
        history = λ l room. (tt, refl);
      }

  pub fill_all : (xs : List Slot) (u : Table) (m : PlainMap) → Given u m 20 → Apart xs → ((x : Slot) → In x xs → m (key_in t x) ≡ none)
      → FillsTo u m xs (foldl (with_item t) (filled u) xs)
  fill_all [] u m g a f = nothing_yet u m g
  fill_all (x ∷ xs) u m g a f =
      go (item-taken u m g x absent) (λ v first. fill_all xs v (map_with m (key_in t x) (some (record_in t x))) first.given a.1
      (still_absent u v m x absent first xs a.0 (λ y i. f y (there i))))
    where
      absent : m (key_in t x) ≡ none
      absent = f x (here refl)

      go : (NoPlaceFor u (header_of u) (key_in t x) × (with_item t (filled u) x ≡ stuck (key_in t x)))
          ⊎ ((v : Table) × (with_item t (filled u) x ≡ filled v) × Took u m x v)
          → ((v : Table) → Took u m x v → FillsTo v (map_with m (key_in t x) (some (record_in t x))) xs (foldl (with_item t) (filled v) xs))
          → FillsTo u m (x ∷ xs) (foldl (with_item t) (with_item t (filled u) x) xs)
      go (inl (shut, e)) k =
          rw (e, stuck-stays (key_in t x) xs) (record {
            before = [];
            item = x;
            behind = xs;
            parts = refl;
            named = refl;
            table = u;
            reached = nothing_yet u m g;
            none_there = shut;
          })
      go (inr (v, e, first)) k = rw e (goes_on_lem u v m x absent first xs (foldl (with_item t) (filled v) xs) (k v first))

  -- a key of none of the items, which the table did not have, it has not now
  pub later-absent : (u : Table) (m : PlainMap) (xs : List Slot) (v : Table) (f : Filled u m xs v) (key : ℕ) → m key ≡ none
      → ((x : Slot) → In x xs → key_in t x ≡ key → ⊥) → f.map key ≡ none
  later-absent u m xs v f key absent apart = go (f.map key) refl
    where
      go : (o : Option Record) → f.map key ≡ o → o ≡ none
      go none e = refl
      go (some r) e =
          absurd (⊎_elim (λ (q : m key ≡ some r). not_some (sym absent ∙ q))
          (λ (z : (x : Slot) × In x xs × (key_in t x ≡ key) × (record_in t x ≡ r)). apart z.0 z.1 z.2) (f.only key r e))
