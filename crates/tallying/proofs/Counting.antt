-- All samples at once, or one after the other: the counts are the same.
-- Assumes nothing.
use Rattle.std.proofs.Common.{◌≡◌, ℕ, zero, suc, ◌+◌, ◌%◌, ◌^◌, ◌<◌, ◌≤◌, Bool, true, false, cond, eqb, List, [], ◌∷◌, ◌++◌, map, length, get_or, take, drop, set, sym, refl, ap, ◌∙◌, append_assoc, append-nil, arith, length-append, take-append-drop, length-take, take_all, le-ltb, lt-ltb, eq-eqb, ne_eqb, eqb-true}
use native.Mathlib.Decide.{dec_le}
use lib.Seq.{take-append-le}
use borrow.Author.Tests.{eqb-false}
use Rattle.tallying.specs.Functions.{has, with_new, different_from, counted_of, times_in, further_in, place_for, inserted_at, ascending_from, ascending}
use Rattle.tallying.specs.Credits.{credits_of, one_more, one_new, one_other, credited, Below, Ascending}
use Rattle.tallying.proofs.Searching.{true_false, below_has, inserted-order}

-- ---- one more

-- what holds of no function, and of one more where it holds of some, holds of all
pub one_by_one : (P : List ℕ → Type 0) → P [] → ((fs : List ℕ) (f : ℕ) → P fs → P (fs ++ (f ∷ []))) → (fs : List ℕ) → P fs
one_by_one P none more fs = go [] fs none
  where
    go : (before later : List ℕ) → P before → P (before ++ later)
    go before [] p = rw (append-nil before) p
    go before (f ∷ later) p = rw (← (append_assoc before (f ∷ []) later)) (go (before ++ (f ∷ [])) later (more before f p))

abbrev pub either : Bool → Bool → Bool
either a b = cond a true b

pub or_false : (a : Bool) → a ≡ either a false
or_false true = refl
or_false false = refl

pub has_append : (f : ℕ) (xs ys : List ℕ) → has f (xs ++ ys) ≡ either (has f xs) (has f ys)
has_append f [] ys = refl
has_append f (x ∷ xs) ys = go (eqb x f) (has_append f xs ys)
  where
    go : (b : Bool) → has f (xs ++ ys) ≡ either (has f xs) (has f ys) → cond b true (has f (xs ++ ys)) ≡ either (cond b true (has f xs)) (has f ys)
    go true e = refl
    go false e = e

pub different_more : (seen fs : List ℕ) (f : ℕ) → different_from seen (fs ++ (f ∷ [])) ≡ with_new (different_from seen fs) f
different_more seen [] f = refl
different_more seen (g ∷ fs) f = different_more (with_new seen g) fs f

ascending_more : (placed fs : List ℕ) (f : ℕ) → ascending_from placed (fs ++ (f ∷ []))
    ≡ inserted_at (place_for f (ascending_from placed fs)) f (ascending_from placed fs)
ascending_more placed [] f = refl
ascending_more placed (g ∷ fs) f = ascending_more (inserted_at (place_for g placed) g placed) fs f

times_more : (h : ℕ) (fs : List ℕ) (f : ℕ) → times_in h (fs ++ (f ∷ [])) ≡ times_in h fs + cond (eqb f h) 1 0
unfolding times_in
times_more h [] f = omega arith
times_more h (g ∷ fs) f = omega (arith, times_more h fs f)

further_more : (counted fs : List ℕ) (f : ℕ) → further_in counted (fs ++ (f ∷ [])) ≡ further_in counted fs + cond (has f counted) 0 1
unfolding further_in
further_more counted [] f = omega arith
further_more counted (g ∷ fs) f = omega (arith, further_more counted fs f)

-- ---- the same functions

has_new : (h f : ℕ) (seen : List ℕ) → has h (with_new seen f) ≡ either (has h seen) (eqb f h)
has_new h f seen = go (has f seen) refl (eqb f h) refl
  where
    last : (x : Bool) → either (has h seen) (cond x true false) ≡ either (has h seen) x
    last true = refl
    last false = refl

    same : (has f seen ≡ true) → f ≡ h → either (has h seen) true ≡ has h seen
    same there e = rw (← e, there)

    go : (b : Bool) → has f seen ≡ b → (d : Bool) → eqb f h ≡ d → has h (cond b seen (seen ++ (f ∷ []))) ≡ either (has h seen) d
    go true there true e = sym (same there (eqb-true f h e))
    go true there false e = or_false (has h seen)
    go false there d e = has_append h seen (f ∷ []) ∙ ap (λ (x : Bool). either (has h seen) (cond x true false)) e ∙ last d

either_assoc : (a b c : Bool) → either (either a b) c ≡ either a (cond b true c)
either_assoc true b c = refl
either_assoc false true c = refl
either_assoc false false c = refl

pub has_different : (h : ℕ) (seen fs : List ℕ) → has h (different_from seen fs) ≡ either (has h seen) (has h fs)
has_different h seen [] = or_false (has h seen)
has_different h seen (g ∷ fs) =
    has_different h (with_new seen g) fs ∙ ap (λ (b : Bool). either b (has h fs)) (has_new h g seen) ∙ either_assoc (has h seen) (eqb g h) (has h fs)

has-inserted : (h at f : ℕ) (gs : List ℕ) → has h (inserted_at at f gs) ≡ either (eqb f h) (has h gs)
has-inserted h at f gs =
    has_append h (take at gs) (f ∷ drop at gs)
    ∙ first (has h (take at gs)) (eqb f h) (has h (drop at gs))
    ∙ ap (either (eqb f h)) (sym (has_append h (take at gs) (drop at gs)) ∙ ap (has h) (take-append-drop at gs))
  where
    first : (a b c : Bool) → either a (cond b true c) ≡ either b (either a c)
    first true true c = refl
    first true false c = refl
    first false true c = refl
    first false false c = refl

has-placed : (h : ℕ) (placed fs : List ℕ) → has h (ascending_from placed fs) ≡ either (has h placed) (has h fs)
has-placed h placed [] = or_false (has h placed)
has-placed h placed (f ∷ fs) =
    has-placed h (inserted_at (place_for f placed) f placed) fs
    ∙ ap (λ (b : Bool). either b (has h fs)) (has-inserted h (place_for f placed) f placed)
    ∙ turned (eqb f h) (has h placed) (has h fs)
  where
    turned : (a b c : Bool) → either (either a b) c ≡ either b (cond a true c)
    turned true true c = refl
    turned true false c = refl
    turned false true c = refl
    turned false false c = refl

pub has-ascending : (h : ℕ) (fs : List ℕ) → has h (ascending fs) ≡ has h fs
unfolding ascending
has-ascending h fs = has-placed h [] fs

length_inserted : (at f : ℕ) (gs : List ℕ) → length (inserted_at at f gs) ≡ suc (length gs)
length_inserted at f gs =
    let both : length (take at gs) + length (drop at gs) ≡ length gs = sym (length-append (take at gs) (drop at gs))
    ∙ ap length (take-append-drop at gs) in
    omega (arith, length-append (take at gs) (f ∷ drop at gs), both)

length_placed : (placed fs : List ℕ) → length (ascending_from placed fs) ≡ length placed + length fs
length_placed placed [] = omega arith
length_placed placed (f ∷ fs) =
    omega (arith, length_placed (inserted_at (place_for f placed) f placed) fs, length_inserted (place_for f placed) f placed)

pub length_ascending : (fs : List ℕ) → length (ascending fs) ≡ length fs
unfolding ascending
length_ascending fs = length_placed [] fs ∙ omega arith

-- ---- which functions are counted once one more is named

module _ (named : List ℕ) (f : ℕ) where
  abbrev counted : List ℕ
  counted = counted_of named

  abbrev more : List ℕ
  more = counted_of (named ++ (f ∷ []))

  different : List ℕ
  different = different_from [] named

  more_is : more ≡ take 512 (with_new different f)
  unfolding different counted_of
  more_is = ap (take 512) (different_more [] named f)

  has_all : has f counted ≡ true → has f different ≡ true
  unfolding different counted_of
  has_all h =
      sym (ap (has f) (take-append-drop 512 (different_from [] named)))
      ∙ has_append f (take 512 (different_from [] named)) (drop 512 (different_from [] named))
      ∙ ap (λ (b : Bool). either b (has f (drop 512 (different_from [] named)))) h

  pub counted-old : has f counted ≡ true → more ≡ counted
  unfolding different counted_of
  counted-old h = more_is ∙ ap (λ (b : Bool). take 512 (cond b different (different ++ (f ∷ [])))) (has_all h)

  pub counted-full : length counted ≡ 512 → more ≡ counted
  unfolding different counted_of
  counted-full l = more_is ∙ go (has f different)
    where
      long : 512 ≤ length (different_from [] named)
      long = omega (arith, l, length-take 512 (different_from [] named))

      go : (b : Bool) → take 512 (cond b (different_from [] named) (different_from [] named ++ (f ∷ []))) ≡ take 512 (different_from [] named)
      go true = refl
      go false = take-append-le 512 (different_from [] named) (f ∷ []) long

  short : (length counted ≡ 512 → ⊥) → length different < 512
  unfolding different counted_of
  short l = omega (arith, l, length-take 512 (different_from [] named))

  all-counted : (length counted ≡ 512 → ⊥) → counted ≡ different
  unfolding different counted_of
  all-counted l = take_all 512 (different_from [] named) (omega (arith, short l))

  pub unnamed : (length counted ≡ 512 → ⊥) → has f counted ≡ false → has f named ≡ false
  unfolding different
  unnamed l h = sym (has_different f [] named) ∙ ap (has f) (sym (all-counted l)) ∙ h

  pub counted-new : (length counted ≡ 512 → ⊥) → has f counted ≡ false → more ≡ counted ++ (f ∷ [])
  counted-new l h =
      let none : has f different ≡ false = ap (has f) (sym (all-counted l)) ∙ h in
      more_is ∙ ap (λ (b : Bool). take 512 (cond b different (different ++ (f ∷ [])))) none
      ∙ take_all 512 (different ++ (f ∷ [])) (omega (arith, short l, length-append different (f ∷ [])))
      ∙ ap (λ (x : List ℕ). x ++ (f ∷ [])) (sym (all-counted l))

-- they ascend
no_functions : Ascending (ascending (counted_of []))
unfolding ascending counted_of
no_functions = tt

ascended : (fs : List ℕ) (f : ℕ) → ascending (fs ++ (f ∷ [])) ≡ inserted_at (place_for f (ascending fs)) f (ascending fs)
unfolding ascending
ascended fs f = ascending_more [] fs f

all_there : (named : List ℕ) → 512 ≤ length (counted_of named) → length (counted_of named) ≡ 512
unfolding counted_of
all_there named l = omega (arith, l, length-take 512 (different_from [] named))

pub has_last : (f : ℕ) (fs : List ℕ) → has f (fs ++ (f ∷ [])) ≡ true
has_last f fs = has_append f fs (f ∷ []) ∙ rw (eq-eqb f f refl) (or_true (has f fs))
  where
    or_true : (a : Bool) → either a true ≡ true
    or_true true = refl
    or_true false = refl

next_ascends : (named : List ℕ) (f : ℕ) → Ascending (ascending (counted_of named)) → Ascending (ascending (counted_of (named ++ (f ∷ []))))
next_ascends named f a = go (has f (counted_of named)) refl (dec_le 512 (length (counted_of named)))
  where
    go : (b : Bool) → has f (counted_of named) ≡ b → Dec (512 ≤ length (counted_of named)) → Ascending (ascending (counted_of (named ++ (f ∷ []))))
    go true h d = rw (counted-old named f h) a
    go false h (yes l) = rw (counted-full named f (all_there named l)) a
    go false h (no l) =
        rw (counted-new named f (λ e. l (omega (arith, e))) h, ascended (counted_of named) f)
        (inserted-order f (ascending (counted_of named)) a (has-ascending f (counted_of named) ∙ h))

pub counted_ascend : (named : List ℕ) → Ascending (ascending (counted_of named))
counted_ascend = one_by_one (λ (fs : List ℕ). Ascending (ascending (counted_of fs))) no_functions next_ascends

-- ---- the samples of each

module _ (named : List ℕ) (f : ℕ) where
  abbrev before : ℕ → ℕ
  before h = times_in h named % 2 ^ 64

  abbrev behind : ℕ → ℕ
  behind h = times_in h (named ++ (f ∷ [])) % 2 ^ 64

  same_times : (h : ℕ) → eqb h f ≡ false → behind h ≡ before h
  same_times h e = ap (λ (n : ℕ). n % 2 ^ 64) (times_more h named f ∙ rw (ne_eqb f h (λ k. eqb-false h f e (sym k))) (omega arith))

  one_time : (h : ℕ) → eqb h f ≡ true → behind h ≡ (before h + 1) % 2 ^ 64
  one_time h e =
      let n : times_in h (named ++ (f ∷ [])) ≡ times_in h named + 1 = times_more h named f ∙ rw (eq-eqb f h (sym (eqb-true h f e))) in
      omega (arith, n)

  unchanged : (hs : List ℕ) → has f hs ≡ false → map behind hs ≡ map before hs
  unchanged [] h = refl
  unchanged (x ∷ hs) h = go (eqb x f) refl h (unchanged hs)
    where
      go : (b : Bool) → eqb x f ≡ b → cond b true (has f hs) ≡ false → (has f hs ≡ false → map behind hs ≡ map before hs)
          → map behind (x ∷ hs) ≡ map before (x ∷ hs)
      go true e k later = absurd (true_false k)
      go false e k later = rw (same_times x e, later k)

  none-later : (x : ℕ) (hs : List ℕ) → Below x hs → eqb x f ≡ true → has f hs ≡ false
  none-later x hs b e = go (has f hs) refl
    where
      go : (d : Bool) → has f hs ≡ d → d ≡ false
      go false h = refl
      go true h = absurd (omega (arith, below_has x f hs b h, eqb-true x f e))

  abbrev added : List ℕ → ℕ → List ℕ
  added ns at = set ns at ((get_or ns at 0 + 1) % 2 ^ 64)

  one_changed : (hs : List ℕ) → Ascending hs → has f hs ≡ true → map behind hs ≡ added (map before hs) (place_for f hs)
  one_changed [] a h = absurd (true_false (sym h))
  one_changed (x ∷ hs) a h = go (eqb x f) refl h (one_changed hs a.1)
    where
      go : (b : Bool) → eqb x f ≡ b → cond b true (has f hs) ≡ true
          → (has f hs ≡ true → map behind hs ≡ added (map before hs) (place_for f hs))
          → map behind (x ∷ hs) ≡ added (map before (x ∷ hs)) (place_for f (x ∷ hs))
      go true e k later = rw (le-ltb x f (omega (arith, eqb-true x f e)), one_time x e, unchanged hs (none-later x hs a.0 e))
      go false e k later = rw (lt-ltb x f (below_has x f hs a.0 k), same_times x e, later k)

map-inserted : (k : ℕ → ℕ) (at x : ℕ) (hs : List ℕ) → map k (inserted_at at x hs) ≡ inserted_at at (k x) (map k hs)
map-inserted k zero x hs = refl
map-inserted k (suc at) x [] = refl
map-inserted k (suc at) x (h ∷ hs) = ap (λ (l : List ℕ). k h ∷ l) (map-inserted k at x hs)

times_none : (f : ℕ) (fs : List ℕ) → has f fs ≡ false → times_in f fs ≡ 0
unfolding times_in
times_none f [] h = refl
times_none f (g ∷ fs) h = go (eqb g f) h (times_none f fs)
  where
    go : (b : Bool) → cond b true (has f fs) ≡ false → (has f fs ≡ false → times_in f fs ≡ 0) → cond b 1 0 + times_in f fs ≡ 0
    go true k later = absurd (true_false k)
    go false k later = omega (arith, later k)

further_same : (counted : List ℕ) (f : ℕ) (fs : List ℕ) → has f fs ≡ false → further_in (counted ++ (f ∷ [])) fs ≡ further_in counted fs
unfolding further_in
further_same counted f [] h = refl
further_same counted f (g ∷ fs) h = go (eqb g f) refl h (further_same counted f fs)
  where
    go : (b : Bool) → eqb g f ≡ b → cond b true (has f fs) ≡ false
        → (has f fs ≡ false → further_in (counted ++ (f ∷ [])) fs ≡ further_in counted fs)
        → cond (has g (counted ++ (f ∷ []))) 0 1 + further_in (counted ++ (f ∷ [])) fs ≡ cond (has g counted) 0 1 + further_in counted fs
    go true e k later = absurd (true_false k)
    go false e k later =
        let no : eqb f g ≡ false = ne_eqb f g (λ q. eqb-false g f e (sym q)) in
        let same : has g (counted ++ (f ∷ [])) ≡ has g counted =
        has_append g counted (f ∷ []) ∙ ap (λ (d : Bool). either (has g counted) (cond d true false)) no ∙ sym (or_false (has g counted)) in
        rw (same, later k)

-- ---- all of it

pub credits-none : credits_of [] ≡ record { functions = []; samples = []; other = 0 }
unfolding credits_of counted_of ascending further_in
credits-none = refl

module _ (named : List ℕ) (f : ℕ) where
  abbrev fs : List ℕ
  fs = ascending (counted_of named)

  further_one : (counted : List ℕ) {d : Bool} → has f counted ≡ d
      → further_in counted (named ++ (f ∷ [])) % 2 ^ 64 ≡ (further_in counted named % 2 ^ 64 + cond d 0 1) % 2 ^ 64
  further_one counted {d} e =
      let n : further_in counted (named ++ (f ∷ [])) ≡ further_in counted named + cond d 0 1 =
      further_more counted named f ∙ ap (λ (b : Bool). further_in counted named + cond b 0 1) e in
      omega (arith, n)

  old-credited : has f (counted_of named) ≡ true → credits_of (named ++ (f ∷ [])) ≡ one_more (place_for f fs) (credits_of named)
  unfolding credits_of
  old-credited h =
      let there : has f fs ≡ true = has-ascending f (counted_of named) ∙ h in
      let other : further_in (counted_of named) (named ++ (f ∷ [])) % 2 ^ 64 ≡ further_in (counted_of named) named % 2 ^ 64 =
      further_one (counted_of named) h ∙ omega arith in
      rw (counted-old named f h, one_changed named f fs (counted_ascend named) there, other)

  other-credited : has f (counted_of named) ≡ false → length (counted_of named) ≡ 512 → credits_of (named ++ (f ∷ [])) ≡ one_other (credits_of named)
  unfolding credits_of
  other-credited h l =
      let none : has f fs ≡ false = has-ascending f (counted_of named) ∙ h in
      rw (counted-full named f l, unchanged named f fs none, further_one (counted_of named) h)

  new-credited : has f (counted_of named) ≡ false → (length (counted_of named) ≡ 512 → ⊥)
      → credits_of (named ++ (f ∷ [])) ≡ one_new (place_for f fs) f (credits_of named)
  unfolding credits_of
  new-credited h l =
      let none : has f fs ≡ false = has-ascending f (counted_of named) ∙ h in
      let unnamed₁ : has f named ≡ false = unnamed named f l h in
      let once : times_in f (named ++ (f ∷ [])) ≡ 1 = times_more f named f ∙ rw (eq-eqb f f refl, times_none f named unnamed₁) in
      let first : times_in f (named ++ (f ∷ [])) % 2 ^ 64 ≡ 1 = omega (arith, once) in
      let now-in : has f (counted_of named ++ (f ∷ [])) ≡ true = has_last f (counted_of named) in
      let other : further_in (counted_of named ++ (f ∷ [])) (named ++ (f ∷ [])) % 2 ^ 64 ≡ further_in (counted_of named) named % 2 ^ 64 =
      further_one (counted_of named ++ (f ∷ [])) now-in ∙ rw (further_same (counted_of named) f named unnamed₁) (omega arith) in
      rw (
        counted-new named f l h,
        ascended (counted_of named) f,
        map-inserted (λ (x : ℕ). times_in x (named ++ (f ∷ [])) % 2 ^ 64) (place_for f fs) f fs,
        first,
        unchanged named f fs none,
        other,
      )

  pub credits_more : credits_of (named ++ (f ∷ [])) ≡ credited f (credits_of named)
  unfolding credited credits_of
  credits_more = go (has f (counted_of named)) refl (eqb (length (counted_of named)) 512) refl
    where
      same : has f fs ≡ has f (counted_of named)
      same = has-ascending f (counted_of named)

      long : length fs ≡ length (counted_of named)
      long = length_ascending (counted_of named)

      go : (b : Bool) → has f (counted_of named) ≡ b → (d : Bool) → eqb (length (counted_of named)) 512 ≡ d
          → credits_of (named ++ (f ∷ [])) ≡ cond (has f fs) (one_more (place_for f fs) (credits_of named))
          (cond (eqb (length fs) 512) (one_other (credits_of named)) (one_new (place_for f fs) f (credits_of named)))
      go true h d e = rw (same, h) (old-credited h)
      go false h true e = rw (same, h, long, e) (other-credited h (eqb-true (length (counted_of named)) 512 e))
      go false h false e = rw (same, h, long, e) (new-credited h (eqb-false (length (counted_of named)) 512 e))
