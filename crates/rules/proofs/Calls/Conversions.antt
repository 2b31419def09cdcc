-- convert, request h): when it refuses, what it leaves in the second table, and that a converted table has the source's map.
-- Assumes nothing.
use Prim.Native.Nat.{ℕ, ◌-◌, ◌/◌, ◌≤◌}
use mathlib.Core.Path.{◌≡◌, refl, sym, ap, ◌∙◌}
use mathlib.Core.Bool.{Bool, true, false}
use mathlib.Core.List.{List, [], ◌∷◌, ◌++◌, foldl, foldl-append}
use mathlib.Core.List.Memᴰ.{head as here}
use mathlib.Core.List.{Memᴰ as In}
use mathlib.Core.Logic.Iff
use mathlib.Core.Logic.{◌⊎◌, inl, inr, ⊎_elim}
use mathlib.Core.Option.{Option, none, some}
use native.Mathlib.Omega.{arith}
use lib.ListN.{length, replicate}
use lib.Dec.{eqb}
use borrow.Author.Tests.{eq-eqb, ne_eqb}
use Rattle.rules.specs.Choice.{all}
use Rattle.rules.specs.Forms.{GoodForm}
use Rattle.rules.specs.Words.{Table, word, words_for, state_of, header_of, at_rest, GoodState, GoodHeader, flag_of, key_in, record_in}
use Rattle.rules.specs.Soundness.{taken_slots, sound_tests, TakenSlot, SoundTable, PlainMap, HasMap, Before}
use Rattle.rules.specs.Answers.{conversion_means, number_of}
use Rattle.rules.specs.Calls.{header_good, checked}
use Rattle.rules.specs.Results.{create_result}
use Rattle.rules.specs.NoPlace.{NoPlaceFor}
use Rattle.rules.specs.Demands.{AtRest, HeaderWords, GoodCreation, CreatedWords, Given}
use Rattle.rules.specs.Conversions.{convert_tests, other_form, fresh_for, Filling, filled, stuck, with_item, filling, filled_to, convert_result}
use Rattle.rules.specs.ConversionSentences.{fresh_in, ItemsInOrder, Built, StuckAt, convert_reasons, conversion_outcome, LeavesBy}
use Rattle.rules.specs.ConversionSentences.{other_header, SameMaps, ConvertRefusals, ConvertLeaves, FlagIsTwelve, ConvertKeepsTheMap, ThereAndBack}
use Rattle.rules.specs.ConversionSentences.{OldWordsPlayNoPart}
use Rattle.rules.specs.declared.Header.{Header}
use Rattle.rules.specs.declared.Slot.{Slot}
use Rattle.rules.specs.declared.Record.{Record}
use Rattle.rules.specs.declared.Refusal.{Refusal}
use Rattle.rules.specs.declared.Refusal.TheVariants.{BadHeader, NoPlace, AlreadyResizing, NoKind, BadCreation}
use Rattle.rules.specs.Answers.{Conversion}
use Rattle.std.specs.Prelude.{Ok, Err}
use Rattle.rules.specs.Answers.{Verdict}
use Rattle.rules.proofs.Basics.Lists.{not_some, ascending-tells, ascending-told, ascending-inside, ascending-one, ascending-parts}
use Rattle.rules.proofs.Basics.Tests.{Tells, tells_eq}
use Rattle.rules.proofs.Words.HeaderWords.{header-words}
use Rattle.rules.proofs.Words.Headers.{header_passes}
use Rattle.rules.proofs.Tables.Twins.{before_once, before-apart, taken_in_lem, in_taken, taken_ascend}
use Rattle.rules.proofs.Tables.Sound.{soundness_is_tested, header-tells}
use Rattle.rules.proofs.Calls.Checked.{checked_as}
use Rattle.rules.proofs.Calls.Refusals.{ByFirst, unless_then}
use Rattle.rules.proofs.Calls.Creating.{good_creation, created_is_empty, created-words}
use Rattle.rules.proofs.Calls.Filling.{Apart, Took, Filled, Unplaced, FillsTo, fill_all, item-taken, stuck-stays, later-absent}
use Rattle.rules.specs.declared.Unconverted.TheVariants.{Rejected, Stuck}

-- ---- the other form

other_is : (f : ℕ) → GoodForm f → other_form f ≡ 3 - f
unfolding other_form
other_is f (inl e) = rw e
other_is f (inr e) = rw e

other-good : (f : ℕ) → GoodForm f → GoodForm (3 - f)
other-good f (inl e) = inr (omega arith)
other-good f (inr e) = inl (omega arith)

-- ---- creation, with what a good header at rest has

module _ (size : ℕ) (h : Header) (good : GoodHeader size h) (rest : h.state.phase ≡ 0) where
  k_good : (1 ≤ h.state.k) × (h.state.k ≤ h.c)
  k_good = go good.state
    where
      go : GoodState h.c h.state → (1 ≤ h.state.k) × (h.state.k ≤ h.c)
      go (inl (p, low, high)) = (low, high)
      go (inr (inl (p, q, r))) = absurd (omega (arith, rest))
      go (inr (inr (p, q, r))) = absurd (omega (arith, rest))

  creation_good : GoodCreation size (other_form h.form) h.c h.state.k h.mul1 h.mul2
  unfolding words_for
  creation_good = record {
    forms = rw (other_is h.form good.form) (other-good h.form good.form);
    capacity = good.capacity;
    exponent = k_good;
    long = good.long;
    odd1 = good.odd1;
    odd2 = good.odd2;
  }

  pub created-fresh : (s : Table) → length s ≡ size
      → create_result s (other_form h.form) h.c h.state.k h.mul1 h.mul2 ≡ (Ok tt, fresh_for h)
  unfolding create_result fresh_for
  created-fresh s e = rw (e, (good_creation size (other_form h.form) h.c h.state.k h.mul1 h.mul2).1 creation_good)

-- ---- a source that is converted: sound, at rest, and the second table has its length

pub record Source (t : Table) : Type 0 where
  pub sound : SoundTable t
  pub rest : AtRest t

filled_not_stuck : (u : Table) (key : ℕ) → filled u ≡ stuck key → ⊥
filled_not_stuck u key e = let z : ◌≡◌ {A = ℕ} 0 1 = cc in omega arith

-- the items of one table stand in another too
abbrev ItemsIn : Table → Table → Type 0
ItemsIn a b = (x : Slot) → TakenSlot a x → (y : Slot) × TakenSlot b y × (key_in b y ≡ key_in a x) × (record_in b y ≡ record_in a x)

map-moves : (a b : Table) (m : PlainMap) → ItemsIn a b → ItemsIn b a → HasMap a m → HasMap b m
map-moves a b m to from h =
    record {
      stands = λ y k. let x = from y k in ap m (sym x.2) ∙ h.stands x.0 x.1 ∙ ap some x.3;
      only = λ key r e.
          let x = h.only key r e in
          let y = to x.0 x.1 in
          (y.0, y.1, y.2 ∙ x.2, y.3 ∙ x.3);
    }

module _ (t : Table) (source : Source t) where
  -- at rest word 4 is k
  state-word : word t 4 ≡ (header_of t).state.k
  unfolding header_of state_of
  state-word = let e : word t 4 / 256 ≡ 0 = source.rest in omega (arith, e)

  -- the source's own words, with 3 minus its form
  own-words : (P : ℕ → ℕ → ℕ → ℕ → ℕ → Type 0)
      → P (other_form (header_of t).form) (header_of t).c (header_of t).state.k (header_of t).mul1 (header_of t).mul2
      → P (3 - word t 0) (word t 1) (word t 4) (word t 2) (word t 3)
  unfolding header_of
  own-words P p = rw (state-word, ← other_is (word t 0) source.sound.orderly.header.form) p

  module _ (s : Table) (long : length s ≡ length t) where
    pub created_there : create_result s (3 - word t 0) (word t 1) (word t 4) (word t 2) (word t 3) ≡ (Ok tt, fresh_for (header_of t))
    created_there =
        own-words (λ form c k mul1 mul2. create_result s form c k mul1 mul2 ≡ (Ok tt, fresh_for (header_of t)))
        (created-fresh (length t) (header_of t) source.sound.orderly.header source.rest s long)

    fresh_there : fresh_in t s ≡ fresh_for (header_of t)
    fresh_there = ap (λ (v : Verdict × Table). v.1) created_there

  pub fresh-empty : SoundTable (fresh_for (header_of t)) × (header_of (fresh_for (header_of t)) ≡ other_header (header_of t))
      × HasMap (fresh_for (header_of t)) (λ (key : ℕ). none)
  unfolding header_of
  fresh-empty =
      let e = created_is_empty t (fresh_for (header_of t)) (3 - word t 0) (word t 1) (word t 4) (word t 2) (word t 3) (created_there t refl) in (
        e.0,
        e.1 ∙ (λ i. record {
          form = 3 - word t 0;
          c = word t 1;
          mul1 = word t 2;
          mul2 = word t 3;
          state = record { k = state-word i; phase = 0 };
        }),
        e.2,
      )

  pub fresh-given : Given (fresh_for (header_of t)) (λ (key : ℕ). none) 20
  fresh-given = record { sound = fresh-empty.0; map = fresh-empty.2; room = omega arith }

  -- no two of the items have one key
  pub items_apart : Apart t (taken_slots t)
  items_apart =
      ascending-inside Before _ (taken_slots t) (taken_ascend t)
      (λ x y i j b e. before-apart x y b (source.sound.alone x y (taken_in_lem t x i) (taken_in_lem t y j) e))

  pub filling_fills : FillsTo t (fresh_for (header_of t)) (λ (key : ℕ). none) (taken_slots t) (filling t)
  unfolding filling
  filling_fills = fill_all t (taken_slots t) (fresh_for (header_of t)) (λ (key : ℕ). none) fresh-given items_apart (λ x i. refl)

  -- ---- what it fills the table with

  pub in_order_lem : ItemsInOrder t (taken_slots t)
  in_order_lem = record {
    every = λ x. (in_taken t x, taken_in_lem t x);
    order = ascending-tells Before (taken_slots t) (taken_ascend t);
  }

  -- the items have one order
  ordered-one : (xs : List Slot) → ItemsInOrder t xs → xs ≡ taken_slots t
  ordered-one xs o =
      ascending-one Before before_once xs (taken_slots t) (ascending-told Before xs o.order) (taken_ascend t) (λ x i. in_taken t x ((o.every x).1 i))
      (λ x i. (o.every x).0 (taken_in_lem t x i))

  built : (s : Table) → length s ≡ length t → (u : Table) → Filled t (fresh_for (header_of t)) (λ (key : ℕ). none) (taken_slots t) u → Built t s u
  built s long u f = (taken_slots t, in_order_lem, λ l room. rw (fresh_there s long) (f.history l room))

  -- ---- the map

  module _ (u : Table) (f : Filled t (fresh_for (header_of t)) (λ (key : ℕ). none) (taken_slots t) u) where
    items_there : ItemsIn t u
    items_there x k = f.given.map.only (key_in t x) (record_in t x) (f.items x (in_taken t x k))

    items_here : ItemsIn u t
    items_here y k =
        ⊎_elim (λ (e : ◌≡◌ {A = Option Record} none (some (record_in u y))). not_some e)
        (λ (z : (x : Slot) × In x (taken_slots t) × (key_in t x ≡ key_in u y) × (record_in t x ≡ record_in u y)).
        (z.0, taken_in_lem t z.0 z.1, z.2, z.3))
        (f.only (key_in u y) (record_in u y) (f.given.map.stands y k))

    same-maps : SameMaps t u (other_header (header_of t))
    same-maps =
        let header : header_of u ≡ other_header (header_of t) = f.header ∙ fresh-empty.1 in
        record {
          sound = f.given.sound;
          long = f.given.sound.orderly.header.long ∙ ap (λ (h : Header). words_for h.c) header ∙ sym source.sound.orderly.header.long;
          header = header;
          maps = λ m. (map-moves t u m items_there items_here, map-moves u t m items_here items_there);
        }

  -- ---- "If an item finds no place"

  module _ (s : Table) (long : length s ≡ length t) where
    stuck_at : (key : ℕ) → Unplaced t (fresh_for (header_of t)) (λ (k : ℕ). none) (taken_slots t) key → StuckAt t s key
    stuck_at key f =
        record {
          before = f.before;
          item = f.item;
          behind = f.behind;
          ordered = rw f.parts at in_order_lem;
          named = f.named;
          accepted = λ l room. rw (fresh_there s long) (f.reached.history l room).0;
          none = λ l room. rw (fresh_there s long) (rw (f.reached.history l room).1 at f.none_there);
        }

    -- where every item has found its place, none is stuck
    module _ (u : Table) (done : filling t ≡ filled u) (key : ℕ) (k : StuckAt t s key) where
      whole : taken_slots t ≡ k.before ++ (k.item ∷ k.behind)
      whole = sym (ordered-one (k.before ++ (k.item ∷ k.behind)) k.ordered)

      parts : Apart t k.before × Apart t (k.item ∷ k.behind)
          × ((x y : Slot) → In x k.before → In y (k.item ∷ k.behind) → key_in t x ≡ key_in t y → ⊥)
      parts = ascending-parts _ k.before (k.item ∷ k.behind) (rw whole at items_apart)

      fresh : Table
      fresh = fresh_for (header_of t)

      halves : filled u ≡ foldl (with_item t) (foldl (with_item t) (filled fresh) k.before) (k.item ∷ k.behind)
      unfolding filling fresh
      halves = sym done ∙ ap (foldl (with_item t) (filled fresh)) whole ∙ foldl-append (with_item t) (filled fresh) k.before (k.item ∷ k.behind)

      no_place_lem : (w : Table) → Filled t fresh (λ (j : ℕ). none) k.before w → NoPlaceFor w (header_of w) (key_in t k.item)
      unfolding fresh
      no_place_lem w f =
          let l = replicate {A = ℕ} 20 0 in
          let room : 20 ≤ length l = omega arith in
          rw (k.named, (f.history l room).1, ← fresh_there s long) (k.none l room)

      before_done : (f : Filling) → filled u ≡ foldl (with_item t) f (k.item ∷ k.behind) → FillsTo t fresh (λ (j : ℕ). none) k.before f → ⊥
      before_done (stuck j) e g = filled_not_stuck u j (e ∙ stuck-stays t j (k.item ∷ k.behind))
      before_done (filled w) e g = go (item-taken t w g.map g.given k.item absent)
        where
          absent : g.map (key_in t k.item) ≡ none
          absent = later-absent t fresh (λ (j : ℕ). none) k.before w g (key_in t k.item) refl (λ x i. parts.2 x k.item i (here refl))

          go : (NoPlaceFor w (header_of w) (key_in t k.item) × (with_item t (filled w) k.item ≡ stuck (key_in t k.item)))
              ⊎ ((v : Table) × (with_item t (filled w) k.item ≡ filled v) × Took t w g.map k.item v) → ⊥
          go (inl (shut, q)) = filled_not_stuck u (key_in t k.item) (e ∙ ap (λ (z : Filling). foldl (with_item t) z k.behind) q
              ∙ stuck-stays t (key_in t k.item) k.behind)
          go (inr (v, q, took)) = took.place (no_place_lem w g)

      pub never_stuck : ⊥
      unfolding fresh
      never_stuck = before_done (foldl (with_item t) (filled fresh) k.before) halves
          (fill_all t k.before fresh (λ (j : ℕ). none) fresh-given parts.0 (λ x i. refl))

-- ---- the tests

tells_not : (b : Bool) {P : Type 0} → Tells b P → (P → ⊥) → b ≡ false
tells_not true f no-p = absurd (no-p (f.0 refl))
tells_not false f no-p = refl

other-number : (r : Refusal) → (number_of r ≡ 6 → ⊥) → r ≡ NoPlace → ⊥
other-number r d e = d (ap number_of e)

module _ (t s : Table) where
  abbrev Answer : Type 0
  Answer = Conversion × Table

  sound-tells : Tells (all (sound_tests t)) (SoundTable t)
  sound-tells = soundness_is_tested t

  rest-tells : Tells (at_rest (header_of t).state) (AtRest t)
  unfolding at_rest
  rest-tells = tells_eq _ _

  -- all tests pass, or one refuses, and none by 6
  pub data Tested (a : Answer) : Type 0 where
    passes : Source t → length s ≡ length t → a ≡ filled_to (header_of t) (filling t) → Tested a
    refuses : (r : Refusal) → (r ≡ NoPlace → ⊥) → a ≡ (Err (Rejected r), s) → Tested a

  tested : Tested (convert_result t s)
  unfolding convert_result convert_tests
  tested = go (header_good t) (all (sound_tests t)) (at_rest (header_of t).state) (eqb (length s) (length t)) sound-tells rest-tells (tells_eq _ _)
    where
      go : (a b c d : Bool) → Tells b (SoundTable t) → Tells c (AtRest t) → Tells d (length s ≡ length t)
          → Tested (checked (λ (r : Refusal). (Err (Rejected r), s)) ((a, BadHeader) ∷ (b, NoKind) ∷ (c, AlreadyResizing) ∷ (d, BadCreation) ∷ [])
          (filled_to (header_of t) (filling t)))
      go false b c d f g h = refuses BadHeader (other-number BadHeader (λ e. omega (arith, e))) refl
      go true false c d f g h = refuses NoKind (other-number NoKind (λ e. omega (arith, e))) refl
      go true true false d f g h = refuses AlreadyResizing (other-number AlreadyResizing (λ e. omega (arith, e))) refl
      go true true true false f g h = refuses BadCreation (other-number BadCreation (λ e. omega (arith, e))) refl
      go true true true true f g h = passes (record { sound = f.0 refl; rest = g.0 refl }) (h.0 refl) refl

  -- each refusal where its own test is the first that fails
  pub refuses-unsound : GoodHeader (length t) (header_of t) → (SoundTable t → ⊥) → convert_result t s ≡ (Err (Rejected NoKind), s)
  unfolding convert_result convert_tests header_good
  refuses-unsound good unsound = rw (header_passes (length t) (header_of t) good, tells_not (all (sound_tests t)) sound-tells unsound)

  pub refuses-resizing : SoundTable t → (AtRest t → ⊥) → convert_result t s ≡ (Err (Rejected AlreadyResizing), s)
  unfolding convert_result convert_tests header_good
  refuses-resizing sound resizing =
      rw (header_passes (length t) (header_of t) sound.orderly.header, sound-tells.1 sound, tells_not (at_rest (header_of t).state) rest-tells resizing)

  pub refuses_length : Source t → (length s ≡ length t → ⊥) → convert_result t s ≡ (Err (Rejected BadCreation), s)
  unfolding convert_result convert_tests header_good
  refuses_length source other =
      let good = header_passes (length t) (header_of t) source.sound.orderly.header in
      rw (good, sound-tells.1 source.sound, rest-tells.1 source.rest, ne_eqb _ _ other)

  -- and where the source is sound and at rest and the lengths are equal, all pass
  pub all_pass : Source t → length s ≡ length t → convert_result t s ≡ filled_to (header_of t) (filling t)
  unfolding convert_result convert_tests header_good
  all_pass source long =
      rw (header_passes (length t) (header_of t) source.sound.orderly.header, sound-tells.1 source.sound, rest-tells.1 source.rest, eq-eqb _ _ long)

  -- ---- what it leaves

  fresh-words : Source t → length s ≡ length t
      → let h = header_of t in CreatedWords (length s) (other_form h.form) h.c h.state.k h.mul1 h.mul2 (fresh_for h)
  unfolding fresh_for
  fresh-words source long =
      rw long (created-words (length t) (other_form (header_of t).form) (header_of t).c (header_of t).state.k (header_of t).mul1 (header_of t).mul2
      (creation_good (length t) (header_of t) source.sound.orderly.header source.rest))

  leaves-filled : (source : Source t) (long : length s ≡ length t) (f : Filling)
      → FillsTo t (fresh_for (header_of t)) (λ (key : ℕ). none) (taken_slots t) f
      → LeavesBy t s (filled_to (header_of t) f).0 (filled_to (header_of t) f).1
  leaves-filled source long (filled u) k = (refl, ap (λ (v : Verdict × Table). v.0) (created_there t source s long), built t source s long u k)
  leaves-filled source long (stuck key) k = (
    refl,
    stuck_at t source s long key k,
    own-words t source (λ form c k mul1 mul2. CreatedWords (length s) form c k mul1 mul2 (fresh_for (header_of t))) (fresh-words source long),
  )

  leaves : (a : Answer) → Tested a → LeavesBy t s a.0 a.1
  leaves a (passes source long e) = rw e (leaves-filled source long (filling t) (filling_fills t source))
  leaves a (refuses r d e) = rw e (refl, d, refl)

  -- ---- the order of refusals

  last : (source : Source t) → length s ≡ length t → (f : Filling) → filling t ≡ f
      → FillsTo t (fresh_for (header_of t)) (λ (key : ℕ). none) (taken_slots t) f
      → ByFirst ((((key : ℕ) × StuckAt t s key), NoPlace) ∷ []) (conversion_outcome (filled_to (header_of t) f).0)
  unfolding ByFirst
  last source long (filled u) e k = inr (λ z. never_stuck t source s long u e z.0 z.1, ([], refl))
  last source long (stuck key) e k = inl ((key, stuck_at t source s long key k), refl)

  by_first : ByFirst (convert_reasons t s) (conversion_outcome (convert_result t s).0)
  unfolding convert_result convert_tests header_good
  by_first =
      rw (checked_as (λ (a : Answer). conversion_outcome a.0) (λ (r : Refusal). (Err (Rejected r), s)) (convert_tests t (length s))
      (filled_to (header_of t) (filling t)))
      (unless_then (header_good t) BadHeader _ _ (HeaderWords t) (Iff.trans (header-tells (length t) (header_of t)) (header-words t)) (λ h.
      unless_then (all (sound_tests t)) NoKind _ _ (SoundTable t) sound-tells (λ sound.
      unless_then (at_rest (header_of t).state) AlreadyResizing _ _ (AtRest t) rest-tells (λ rest.
      unless_then (eqb (length s) (length t)) BadCreation _ _ (length s ≡ length t) (tells_eq _ _) (λ long.
      let source : Source t = record { sound = sound; rest = rest } in
      last source long (filling t) refl (filling_fills t source))))))

pub convert_refusals : ConvertRefusals
unfolding ByFirst
convert_refusals t s = by_first t s

pub convert_leaves : ConvertLeaves
convert_leaves t s = leaves t s (convert_result t s) (tested t s)

-- ---- "A set flag is 12 here, not 3."

pub flag_is_twelve : FlagIsTwelve
unfolding flag_of
flag_is_twelve t s words set =
    let good = (header-words t).1 words in
    rw (refuses-unsound t s good (λ sound. set sound.orderly.flag)) (refl, refl)

-- ---- "Otherwise the two maps are equal."

-- a source that was converted, and what it was filled with
converted-from : (t s u : Table) → convert_result t s ≡ (Ok tt, u)
    → (source : Source t) × Filled t (fresh_for (header_of t)) (λ (key : ℕ). none) (taken_slots t) u
converted-from t s u e = go (convert_result t s) (tested t s) e
  where
    inside : (source : Source t) (f : Filling) → FillsTo t (fresh_for (header_of t)) (λ (key : ℕ). none) (taken_slots t) f
        → filled_to (header_of t) f ≡ (Ok tt, u) → Filled t (fresh_for (header_of t)) (λ (key : ℕ). none) (taken_slots t) u
    inside source (filled v) k q = rw (ap (λ (a : Conversion × Table). a.1) q) at k
    inside source (stuck key) k q = absurd (let z : ◌≡◌ {A = Conversion} (Err (Stuck key)) (Ok tt) = ap (λ (a : Conversion × Table). a.0) q in
        let y : ◌≡◌ {A = ℕ} 6 0 = ap (λ (c : Conversion). (conversion_means c).number) z in omega arith)

    go : (a : Conversion × Table) → Tested t s a → a ≡ (Ok tt, u)
        → (source : Source t) × Filled t (fresh_for (header_of t)) (λ (key : ℕ). none) (taken_slots t) u
    go a (passes source long p) q = (source, inside source (filling t) (filling_fills t source) (sym p ∙ q))
    go a (refuses r d p) q = absurd (let z : ◌≡◌ {A = Conversion} (Err (Rejected r)) (Ok tt) = ap (λ (a : Conversion × Table). a.0) (sym p ∙ q) in
        let y : ◌≡◌ {A = ℕ} 0 1 = cc in omega arith)

pub convert_keeps_the_map : ConvertKeepsTheMap
convert_keeps_the_map t s u e = let c = converted-from t s u e in same-maps t c.0 u c.1

pub there_and_back : ThereAndBack
there_and_back t s u r v going returning =
    let source = (converted-from t s u going).0 in
    let a = convert_keeps_the_map t s u going in
    let b = convert_keeps_the_map u r v returning in
    record {
      sound = b.sound;
      long = b.long ∙ a.long;
      header = b.header ∙ ap other_header a.header ∙ twice (header_of t) source.sound.orderly.header.form source.rest;
      maps = λ m. Iff.trans (a.maps m) (b.maps m);
    }
  where
    twice : (h : Header) → GoodForm h.form → h.state.phase ≡ 0 → other_header (other_header h) ≡ h
    twice h g p = λ i. record {
      form = same g i;
      c = h.c;
      mul1 = h.mul1;
      mul2 = h.mul2;
      state =
          record { k = h.state.k; phase = sym p i };
    }
      where
        same : GoodForm h.form → 3 - (3 - h.form) ≡ h.form
        same (inl e) = omega (arith, e)
        same (inr e) = omega (arith, e)

-- ---- what the second table held before

answer_by_length : (t s : Table) → (convert_result t s).0 ≡ checked (λ (r : Refusal). Err (Rejected r)) (convert_tests t (length s)) (filled_to (header_of t) (filling t)).0
unfolding convert_result
answer_by_length t s =
    checked_as (λ (a : Conversion × Table). a.0) (λ (r : Refusal). (Err (Rejected r), s)) (convert_tests t (length s)) (filled_to (header_of t) (filling t))

pub old_words_play_no_part : OldWordsPlayNoPart
old_words_play_no_part t s r long = (
  answer_by_length t s ∙ ap (λ (n : ℕ). checked (λ (r : Refusal). Err (Rejected r)) (convert_tests t n) (filled_to (header_of t) (filling t)).0) long ∙ sym (answer_by_length t r),
  λ z. go (tested t s) z,
)
  where
    go : Tested t s (convert_result t s) → ((e : Refusal) → (convert_result t s).0 ≡ Err (Rejected e) → ⊥) → (convert_result t s).1 ≡ (convert_result t r).1
    go (passes source l p) z = ap (λ (a : Conversion × Table). a.1) (p ∙ sym (all_pass t r source (sym long ∙ l)))
    go (refuses e d p) z = absurd (z e (ap (λ (a : Conversion × Table). a.0) p))
