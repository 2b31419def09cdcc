-- The three kinds of table that recovery mends, each with the map that it brings back; and that recovery mends them, also when it is
-- itself cut. No law here knows which change left the table so.
-- Assumes nothing.
use Prim.Native.Nat.{ℕ, ◌+◌, ◌≤◌}
use mathlib.Core.Path.{◌≡◌, refl, sym, ap, ◌∙◌}
use mathlib.Core.List.{List, [], ◌∷◌, Memᴰ as In}
use mathlib.Core.Logic.{◌⊎◌, inl, inr, ⊎_elim}
use native.Mathlib.Omega.{arith}
use lib.ListN.{length, set}
use lib.Seq.{set-set, set_comm}
use Rattle.rules.specs.Words.{Table, word, taken, GoodHeader, header_of, flag_of, target_of, logged_of, InUse, token_word, key_word, function_word}
use Rattle.rules.specs.Words.{place_word, key_in, record_in, token_of, keys_of}
use Rattle.rules.specs.Stores.{Store, clear_stores, redo_stores, made}
use Rattle.rules.specs.Soundness.{PlainMap, HasMap, Before, twins, DoubledTable, FlaggedTable}
use Rattle.rules.specs.Calls.{listed, recover, recover_of, outcome}
use Rattle.rules.specs.Results.{change_of, change_result}
use Rattle.rules.specs.Histories.{whole, after}
use Rattle.rules.specs.Demands.{Recovered}
use Rattle.rules.specs.declared.Slot.{Slot}
use Rattle.rules.specs.declared.Finding.{Finding}
use Rattle.rules.specs.declared.Finding.TheVariants.{Sound, Doubled, Flagged}
use Rattle.rules.proofs.Words.Addresses.{off_token}
use Rattle.rules.proofs.Words.Made.{Each, Misses, made_kept}
use Rattle.rules.proofs.Places.Lookups.{placed_in}
use Rattle.rules.proofs.Carrying.Carried.{carried_alone}
use Rattle.rules.proofs.Carrying.Touched.{Near, touched}
use Rattle.rules.proofs.Carrying.StoreKinds.{SlotWritten}
use Rattle.rules.proofs.Words.Tokens.{kept_follows}
use Rattle.rules.proofs.Carrying.SlotChanged.{shown-after, rewrite_carried, written-orderly, placed-here}
use Rattle.rules.proofs.Tables.Twins.{same_or_twins, twins-ordered, before-apart}
use Rattle.rules.proofs.Tables.Findings.{KindOf, kind_found, recover_passes}
use Rattle.rules.proofs.Carrying.Moving.{Only, map-value}
use Rattle.rules.proofs.Calls.MadeLists.{stores_of, after-whole}
use Rattle.rules.proofs.Cutting.Cuts.{EveryCut}
use Rattle.rules.proofs.Carrying.Putting.{SoundMap, TwinMap, clear_twin, twin_turned}

-- flag 1 with a good log, which made brings the map
pub record RedoMap (t : Table) (m : PlainMap) (x : Slot) : Type 0 where
  pub flagged : FlaggedTable t x
  pub brings : SoundMap (made t (redo_stores x (logged_of t))) m

pub data Mends (t : Table) (m : PlainMap) : Type 0 where
  as_sound : SoundMap t m → Mends t m
  as_twin : (x y : Slot) → TwinMap t m x y → Mends t m
  as_redo : (x : Slot) → RedoMap t m x → Mends t m

-- a twin is doubled, with the slots in their order
twin_doubled : (t : Table) (m : PlainMap) (x y : Slot) → TwinMap t m x y → Before x y → DoubledTable t x y
twin_doubled t m x y w order = record {
  orderly = w.orderly;
  first = w.first;
  later = w.second;
  order = order;
  key = sym w.same;
  equal = map-value t m w.map x y w.first w.second (sym w.same);
  only = w.only;
}

-- and a doubled table with a map is a twin
pub doubled_twin : (t : Table) (m : PlainMap) (x y : Slot) → DoubledTable t x y → HasMap t m → Mends t m
doubled_twin t m x y d has =
    as_twin x y (record {
      orderly = d.orderly;
      map = has;
      first = d.first;
      second = d.later;
      apart = λ e. before-apart x y d.order (sym e);
      same = sym d.key;
      only = d.only;
    })

twin_ordered : (t : Table) (m : PlainMap) (x y : Slot) → TwinMap t m x y → Before x y ⊎ Before y x
twin_ordered t m x y w = go (same_or_twins t x y w.first w.second (sym w.same))
  where
    go : (x ≡ y) ⊎ (In {A = Slot × Slot} (x, y) (twins t) ⊎ In {A = Slot × Slot} (y, x) (twins t)) → Before x y ⊎ Before y x
    go (inl e) = absurd (w.apart (sym e))
    go (inr (inl i)) = inl (twins-ordered t x y i).order
    go (inr (inr i)) = inr (twins-ordered t y x i).order

-- ---- what recovery lists, and that it mends

-- the stores that recovery lists, whatever its list, and what every cut of them leaves
pub record Mended (t : Table) (m : PlainMap) : Type 0 where
  pub stores : List Store
  pub answer : (n : ℕ) → 20 ≤ n → outcome t n recover ≡ listed stores
  pub few : length stores ≤ 3
  pub sound : SoundMap (made t stores) m
  pub cuts : EveryCut (λ (u : Table). Mends u m) t stores

-- recovery answers by the kind that a table is of
answers_by : (t : Table) (f : Finding) → GoodHeader (length t) (header_of t) → KindOf t f → (n : ℕ) → 20 ≤ n → outcome t n recover
    ≡ recover_of t (header_of t) f
answers_by t f g k n l = recover_passes t n g l ∙ ap (recover_of t (header_of t)) (kind_found t f k)

whole_mended : (t : Table) (m : PlainMap) → SoundMap t m → Mended t m
whole_mended t m s = record {
  stores = [];
  answer = answers_by t Sound s.sound.orderly.header s.sound;
  few = omega arith;
  sound = s;
  cuts = as_sound s;
}

-- the later of the two is cleared
twin_mended : (t : Table) (m : PlainMap) (x y : Slot) → TwinMap t m x y → Before x y → Mended t m
unfolding clear_stores
twin_mended t m x y w order =
    let v = twin_turned t m x y w in
    let s = (clear_twin t v.orderly y v.first m v.map x v).whole in
    record {
      stores = clear_stores (header_of t) (token_of t y.bucket) y;
      answer = answers_by t (Doubled x y) w.orderly.header (twin_doubled t m x y w order);
      few = omega arith;
      sound = s;
      cuts = (as_twin x y w, as_sound s);
    }

-- ---- the log made again

-- a store to the function or place of slot x
abbrev pub OfRecord : Slot → Store → Type 0
OfRecord x s = (key_word x + 1 ≤ s.0) × (s.0 ≤ key_word x + 2)

module _ (t : Table) (x : Slot) (f : FlaggedTable t x) (xs : List Store) (record-only : Each (OfRecord x) xs) where
  used : InUse (header_of t).state x
  used = f.named.used

  rest_misses : (i : ℕ) → (i ≤ key_word x) ⊎ ((j : ℕ) × (i ≡ token_word j)) → (ys : List Store) → Each (OfRecord x) ys → Misses i ys
  rest_misses i far [] e = tt
  rest_misses i far (s ∷ ys) e = (go far, rest_misses i far ys e.1)
    where
      go : (i ≤ key_word x) ⊎ ((j : ℕ) × (i ≡ token_word j)) → i ≡ s.0 → ⊥
      go (inl l) q = omega (arith, e.0.0)
      go (inr (j, k)) q = off_token x j s.0 used.slot (omega (arith, e.0)) (sym q ∙ k)

  all_near : (ys : List Store) → Each (OfRecord x) ys → Each (λ (s : Store). Near x s.0) ys
  all_near [] e = tt
  all_near (s ∷ ys) e = (inr (inr (omega (arith, e.0))), all_near ys e.1)

  kept : (i : ℕ) → (i ≤ key_word x) ⊎ ((j : ℕ) × (i ≡ token_word j)) → word (made t xs) i ≡ word t i
  kept i far = made_kept t xs i (rest_misses i far xs record-only)

  rewritten : SlotWritten t (made t xs) x (token_of t x.bucket) (key_in t x) (record_in (made t xs) x)
  unfolding token_of key_in flag_of key_word token_word
  rewritten = record {
    near = touched x used.slot t xs (all_near xs record-only);
    token = kept (token_word x.bucket) (inr (x.bucket, refl));
    key = kept (key_word x) (inl (omega arith));
    value = refl;
    flag = kept 5 (inl (omega arith));
  }

  -- flag, log, token and key stay
  pub still_flagged : FlaggedTable (made t xs) x
  unfolding target_of keys_of key_in key_word token_word taken
  still_flagged =
      let u = made t xs in
      let o = f.orderly in
      let r = record_in u x in
      let carried = rewrite_carried 1 t u x _ (key_in t x) r o used rewritten refl in
      let placed = placed-here 1 t u x _ (key_in t x) r o used rewritten (placed_in 1 t o x f.named) in
      let orderly = written-orderly 1 t u x _ (key_in t x) r o used rewritten (kept_follows (header_of t) _ _ _ x.slot _ (λ q. refl)) (Only x)
      (Only x) carried placed in
      record {
        orderly = orderly;
        alone = carried_alone t u (Only x) (Only x) carried _ orderly.header.state (λ a b p q d e k. f.alone a b p q k) (λ a b p q. p ∙ sym q)
            (λ a b p q d k. d (sym (f.alone x b f.named q (sym rewritten.key ∙ ap (key_in u) (sym p) ∙ k))));
        named = shown-after 1 t u x _ (key_in t x) r o used rewritten f.named.shown;
        target = kept 6 (inl (omega arith)) ∙ f.target;
      }

  still_logged : logged_of (made t xs) ≡ logged_of t
  unfolding logged_of key_word token_word
  still_logged = rw (kept 7 (inl (omega arith)), kept 8 (inl (omega arith)))

-- where a part of it was made, the whole gives the same table
module _ (t : Table) (x : Slot) where
  one-made : List Store
  one-made = (function_word x, (logged_of t).function) ∷ []

  two_made : List Store
  two_made = (function_word x, (logged_of t).function) ∷ (place_word x, (logged_of t).place) ∷ []

  one_again : made (made t one-made) (redo_stores x (logged_of t)) ≡ made t (redo_stores x (logged_of t))
  unfolding one-made redo_stores
  one_again = rw (set-set t (function_word x) (logged_of t).function (logged_of t).function)

  two_again : made (made t two_made) (redo_stores x (logged_of t)) ≡ made t (redo_stores x (logged_of t))
  unfolding two_made redo_stores function_word place_word
  two_again = again t (function_word x) (place_word x) (logged_of t).function (logged_of t).place (λ e. omega arith)
    where
      again : (u : Table) (a b v w : ℕ) → (a ≡ b → ⊥) → set (set (set (set (set u a v) b w) a v) b w) 5 0 ≡ set (set (set u a v) b w) 5 0
      again u a b v w d = rw (set_comm (set u a v) b a w v (λ e. d (sym e)), set-set u a v v, set-set (set u a v) b w w)

redo_part : (t : Table) (m : PlainMap) (x : Slot) → RedoMap t m x → (xs : List Store) → Each (OfRecord x) xs
    → made (made t xs) (redo_stores x (logged_of t)) ≡ made t (redo_stores x (logged_of t)) → Mends (made t xs) m
redo_part t m x r xs fits same =
    as_redo x (record { flagged = still_flagged t x r.flagged xs fits; brings = rw (still_logged t x r.flagged xs fits, same) r.brings })

pub redo_cuts : (t : Table) (m : PlainMap) (x : Slot) → RedoMap t m x → EveryCut (λ (u : Table). Mends u m) t (redo_stores x (logged_of t))
unfolding redo_stores function_word place_word one-made two_made
redo_cuts t m x r = (
  as_redo x r,
  (
    redo_part t m x r (one-made t x) (omega arith, tt) (one_again t x),
    (redo_part t m x r (two_made t x) (omega arith, (omega arith, tt)) (two_again t x), as_sound r.brings),
  ),
)

redo_mended : (t : Table) (m : PlainMap) (x : Slot) → RedoMap t m x → Mended t m
unfolding redo_stores
redo_mended t m x r = record {
  stores = redo_stores x (logged_of t);
  answer = answers_by t (Flagged x) r.flagged.orderly.header r.flagged;
  few = omega arith;
  sound = r.brings;
  cuts = redo_cuts t m x r;
}

-- ---- ONE theorem: recovery mends the three kinds, and every cut of it leaves one of them with the same map

pub mends : (t : Table) (m : PlainMap) → Mends t m → Mended t m
mends t m (as_sound s) = whole_mended t m s
mends t m (as_twin x y w) =
    ⊎_elim (λ (b : Before x y). twin_mended t m x y w b) (λ (b : Before y x). twin_mended t m y x (twin_turned t m x y w) b) (twin_ordered t m x y w)
mends t m (as_redo x r) = redo_mended t m x r

-- with any list of 20 words or more, made from that list
pub recovered : (t : Table) (m : PlainMap) → Mends t m → Recovered t m
unfolding change_result
recovered t m k = record {
  stores = length r.stores;
  few = r.few;
  answer = λ l long. ap change_of (r.answer (length l) long);
  sound = λ l long. rw (same l long) r.sound.sound;
  map = λ l long. rw (same l long) r.sound.map;
}
  where
    r : Mended t m
    r = mends t m k

    same : (l : List ℕ) → 20 ≤ length l → after t (whole recover l) ≡ made t r.stores
    same l long = after-whole t l recover ∙ ap (λ o. made t (stores_of o)) (r.answer (length l) long)
