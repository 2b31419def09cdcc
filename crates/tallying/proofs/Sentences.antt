-- The counts are what request d) says of them.
-- Assumes nothing.
use Rattle.std.proofs.Common.{◌≡◌, ℕ, zero, suc, ◌+◌, ◌-◌, ◌%◌, ◌^◌, ◌<◌, ◌≤◌, Bool, true, false, cond, eqb, List, [], ◌∷◌, ◌++◌, map, length, take, sym, refl, ap, ◌∙◌, append_assoc, append-nil, arith, length-append, eq-eqb, ne_eqb, eqb-true}
use native.Mathlib.Decide.{dec_le}
use lib.ListN.{length-map}
use lib.Seq.{take-append-le, take-append-add}
use borrow.Author.Tests.{eqb-false}
use Rattle.tallying.specs.Functions.{has, with_new, different_from, counted_of, times_in, further_in, ascending}
use Rattle.tallying.specs.Credits.{credits_of, Ascending}
use Rattle.tallying.specs.Sentences.{Distinct, FewerNamed, FirstAreCounted, OnlyNamedAreCounted, FunctionsAscend, EachSampleCounts}
use Rattle.tallying.specs.Sentences.{SamplesOfEach, total}
use Rattle.tallying.specs.Sentences.{AllSamplesCount}
use Rattle.tallying.proofs.Searching.{true_false, below_has}
use Rattle.tallying.proofs.Counting.{either, has_append, has_different, has_last, has-ascending, counted_ascend}

-- ---- which functions are counted

pub functions_ascend : FunctionsAscend
unfolding credits_of
functions_ascend = counted_ascend

has-front : (f n : ℕ) (fs : List ℕ) → has f fs ≡ false → has f (take n fs) ≡ false
has-front f zero fs h = refl
has-front f (suc n) [] h = refl
has-front f (suc n) (g ∷ fs) h = go (eqb g f) h (has-front f n fs)
  where
    go : (b : Bool) → cond b true (has f fs) ≡ false → (has f fs ≡ false → has f (take n fs) ≡ false)
        → cond b true (has f (take n fs)) ≡ false
    go true k later = absurd (true_false k)
    go false k later = later k

-- what was seen first stays first
different_extends : (seen fs : List ℕ) → (later : List ℕ) × (different_from seen fs ≡ seen ++ later)
different_extends seen [] = ([], sym (append-nil seen))
different_extends seen (f ∷ fs) = go (has f seen) refl (different_extends (with_new seen f) fs)
  where
    go : (b : Bool) → has f seen ≡ b → (later : List ℕ) × (different_from (with_new seen f) fs ≡ with_new seen f ++ later)
        → (later : List ℕ) × (different_from (with_new seen f) fs ≡ seen ++ later)
    go true h (later, e) = (later, e ∙ rw h)
    go false h (later, e) = (f ∷ later, e ∙ rw h (append_assoc seen (f ∷ []) later))

different_append : (seen fs gs : List ℕ) → different_from seen (fs ++ gs) ≡ different_from (different_from seen fs) gs
different_append seen [] gs = refl
different_append seen (f ∷ fs) gs = different_append (with_new seen f) fs gs

module _ (before behind : List ℕ) (f : ℕ) (fresh : has f before ≡ false) where
  earlier : List ℕ
  earlier = different_from [] before

  not_earlier : has f earlier ≡ false
  unfolding earlier
  not_earlier = has_different f [] before ∙ fresh

  later : List ℕ
  later = (different_extends (earlier ++ (f ∷ [])) behind).0

  -- the different functions: those of before, this one, and later ones
  order : different_from [] (before ++ (f ∷ behind)) ≡ (earlier ++ (f ∷ [])) ++ later
  unfolding earlier later
  order =
      different_append [] before (f ∷ behind)
      ∙ ap (λ (b : Bool). different_from (cond b (different_from [] before) (different_from [] before ++ (f ∷ []))) behind) not_earlier
      ∙ (different_extends (different_from [] before ++ (f ∷ [])) behind).1

  one_more_lem : length (earlier ++ (f ∷ [])) ≡ length earlier + 1
  one_more_lem = length-append earlier (f ∷ [])

  is_counted : length earlier < 512 → has f (counted_of (before ++ (f ∷ behind))) ≡ true
  unfolding counted_of
  is_counted l =
      let first = earlier ++ (f ∷ []) in
      let room : 512 ≡ length first + (512 - length first) = omega (arith, l, one_more_lem) in
      let split : take 512 (first ++ later) ≡ first ++ take (512 - length first) later =
      ap (λ (n : ℕ). take n (first ++ later)) room
      ∙ take-append-add first later (512 - length first) in
      ap (λ (x : List ℕ). has f (take 512 x)) order ∙ ap (has f) split ∙ has_append f first (take (512 - length first) later)
      ∙ ap (λ (b : Bool). either b (has f (take (512 - length first) later))) (has_last f earlier)

  not_counted : 512 ≤ length earlier → has f (counted_of (before ++ (f ∷ behind))) ≡ false
  unfolding counted_of
  not_counted l =
      ap (λ (x : List ℕ). has f (take 512 x)) (order ∙ append_assoc earlier (f ∷ []) later)
      ∙ ap (has f) (take-append-le 512 earlier (f ∷ later) l)
      ∙ has-front f 512 earlier not_earlier

-- ---- as many as there are different ones

distinct_last : (fs : List ℕ) (f : ℕ) → Distinct fs → has f fs ≡ false → Distinct (fs ++ (f ∷ []))
distinct_last [] f d h = (refl, tt)
distinct_last (g ∷ fs) f d h = go (eqb g f) refl h (distinct_last fs f d.1)
  where
    go : (b : Bool) → eqb g f ≡ b → cond b true (has f fs) ≡ false → (has f fs ≡ false → Distinct (fs ++ (f ∷ [])))
        → Distinct (g ∷ (fs ++ (f ∷ [])))
    go true e k later = absurd (true_false k)
    go false e k later =
        let no : eqb f g ≡ false = ne_eqb f g (λ q. eqb-false g f e (sym q)) in
        (has_append g fs (f ∷ []) ∙ rw (d.0, no), later k)

distinct_new : (seen : List ℕ) (f : ℕ) → Distinct seen → Distinct (with_new seen f)
distinct_new seen f d = go (has f seen) refl
  where
    go : (b : Bool) → has f seen ≡ b → Distinct (cond b seen (seen ++ (f ∷ [])))
    go true h = d
    go false h = distinct_last seen f d h

different_distinct : (seen fs : List ℕ) → Distinct seen → Distinct (different_from seen fs)
different_distinct seen [] d = d
different_distinct seen (f ∷ fs) d = different_distinct (with_new seen f) fs (distinct_new seen f d)

-- a list that has a function, taken apart there
pub record Apart (f : ℕ) (fs : List ℕ) : Type 0 where
  pub front : List ℕ
  pub back : List ℕ
  pub whole : fs ≡ front ++ (f ∷ back)

apart : (f : ℕ) (fs : List ℕ) → has f fs ≡ true → Apart f fs
apart f [] h = absurd (true_false (sym h))
apart f (g ∷ fs) h = go (eqb g f) refl h (apart f fs)
  where
    go : (b : Bool) → eqb g f ≡ b → cond b true (has f fs) ≡ true → (has f fs ≡ true → Apart f fs) → Apart f (g ∷ fs)
    go true e k later = record { front = []; back = fs; whole = rw (eqb-true g f e) }
    go false e k later = let a = later k in record { front = g ∷ a.front; back = a.back; whole = ap (λ (x : List ℕ). g ∷ x) a.whole }

-- without it another one is still there
still_there : (e f : ℕ) (front back : List ℕ) → eqb f e ≡ false → has e (front ++ (f ∷ back)) ≡ has e (front ++ back)
still_there e f front back other = has_append e front (f ∷ back) ∙ rw other (sym (has_append e front back))

-- different functions among others are no more than these
no_more : (fs gs : List ℕ) → Distinct fs → ((f : ℕ) → has f fs ≡ true → has f gs ≡ true) → length fs ≤ length gs
no_more [] gs d all = omega arith
no_more (f ∷ fs) gs d all =
    let a = apart f gs (all f (rw (eq-eqb f f refl))) in
    let rest = no_more fs (a.front ++ a.back) d.1 (λ e h. among a e h (eqb f e) refl) in
    omega (arith, rest, ap length a.whole, length-append a.front (f ∷ a.back), length-append a.front a.back)
  where
    among : (a : Apart f gs) (e : ℕ) → has e fs ≡ true → (b : Bool) → eqb f e ≡ b → has e (a.front ++ a.back) ≡ true
    among a e h true k = absurd (true_false (sym h ∙ ap (λ (x : ℕ). has x fs) (sym (eqb-true f e k)) ∙ d.0))
    among a e h false k =
        sym (still_there e f a.front a.back k) ∙ ap (has e) (sym a.whole) ∙ all e (rw (k, h))

pub first_are_counted : FirstAreCounted
unfolding credits_of earlier
first_are_counted before behind f fresh = (λ h fs d all. fewer h fs d all, λ few. has-ascending f _ ∙ is_counted before behind f fresh (own few))
  where
    own : FewerNamed 512 before → length (different_from [] before) < 512
    own few = few (different_from [] before) (different_distinct [] before tt) (λ g h. sym (has_different g [] before) ∙ h)

    fewer : has f (ascending (counted_of (before ++ (f ∷ behind)))) ≡ true → FewerNamed 512 before
    fewer h fs d all = go (dec_le 512 (length (different_from [] before)))
      where
        go : Dec (512 ≤ length (different_from [] before)) → length fs < 512
        go (yes l) = absurd (true_false (sym h ∙ has-ascending f _ ∙ not_counted before behind f fresh l))
        go (no l) = omega (arith, no_more fs (different_from [] before) d (λ g k. has_different g [] before ∙ all g k), l)

pub only_named_are_counted : OnlyNamedAreCounted
unfolding credits_of counted_of
only_named_are_counted named f h = go (has f named) refl
  where
    go : (b : Bool) → has f named ≡ b → b ≡ true
    go true e = refl
    go false e =
        absurd (true_false (sym h ∙ has-ascending f (take 512 (different_from [] named))
        ∙ has-front f 512 (different_from [] named) (has_different f [] named ∙ e)))

-- ---- how many samples they have

times_append : (f : ℕ) (xs ys : List ℕ) → times_in f (xs ++ ys) ≡ times_in f xs + times_in f ys
unfolding times_in
times_append f [] ys = omega arith
times_append f (x ∷ xs) ys = omega (arith, times_append f xs ys)

pub each_sample_counts : EachSampleCounts
unfolding times_in
each_sample_counts f g before behind = (one, other, refl)
  where
    with : (h : ℕ) → times_in f (before ++ (h ∷ behind)) ≡ times_in f before + (cond (eqb h f) 1 0 + times_in f behind)
    with h = times_append f before (h ∷ behind)

    one : times_in f (before ++ (f ∷ behind)) ≡ times_in f (before ++ behind) + 1
    one = omega (arith, rw (eq-eqb f f refl) at (with f), times_append f before behind)

    other : (g ≡ f → ⊥) → times_in f (before ++ (g ∷ behind)) ≡ times_in f (before ++ behind)
    other apart₁ = omega (arith, rw (ne_eqb g f apart₁) at (with g), times_append f before behind)

map_append : (k : ℕ → ℕ) (xs ys : List ℕ) → map k (xs ++ ys) ≡ map k xs ++ map k ys
map_append k [] ys = refl
map_append k (x ∷ xs) ys = ap (λ (l : List ℕ). k x ∷ l) (map_append k xs ys)

pub samples_of_each : SamplesOfEach
unfolding credits_of
samples_of_each named before behind f e =
    let k : ℕ → ℕ = λ g. times_in g named % 2 ^ 64 in
    (map k before, map k behind, ap (map k) e ∙ map_append k before (f ∷ behind), length-map before k)

-- ---- all of them

-- of ascending functions a sample names one or none
module _ (x : ℕ) where
  names : ℕ → ℕ
  names f = cond (eqb x f) 1 0

  named_once : (fs : List ℕ) → Ascending fs → total (map names fs) ≡ cond (has x fs) 1 0
  unfolding names
  named_once [] a = refl
  named_once (f ∷ fs) a = go (eqb x f) refl (eqb f x) refl (has x fs) refl (named_once fs a.1)
    where
      go : (b : Bool) → eqb x f ≡ b → (c : Bool) → eqb f x ≡ c → (d : Bool) → has x fs ≡ d → total (map names fs) ≡ cond (has x fs) 1 0
          → cond b 1 0 + total (map names fs) ≡ cond (cond c true (has x fs)) 1 0
      go true e true k true h later = absurd (omega (arith, below_has f x fs a.0 h, eqb-true x f e))
      go true e true k false h later = rw (later, h)
      go false e false k d h later = rw later (omega arith)
      go true e false k d h later = absurd (eqb-false f x k (sym (eqb-true x f e)))
      go false e true k d h later = absurd (eqb-false x f e (sym (eqb-true f x k)))

total_sum : (k l : ℕ → ℕ) (fs : List ℕ) → total (map (λ (f : ℕ). k f + l f) fs) ≡ total (map k fs) + total (map l fs)
total_sum k l [] = refl
total_sum k l (f ∷ fs) = omega (arith, total_sum k l fs)

total-none : (fs : List ℕ) → total (map (λ (f : ℕ). 0) fs) ≡ 0
total-none [] = refl
total-none (f ∷ fs) = omega (arith, total-none fs)

-- the samples of ascending functions, and of those that are not among them
all_named : (fs counted : List ℕ) → Ascending fs → ((x : ℕ) → has x fs ≡ has x counted) → (named : List ℕ)
    → total (map (λ (f : ℕ). times_in f named) fs) + further_in counted named ≡ length named
unfolding times_in further_in names
all_named fs counted a same [] = omega (arith, total-none fs)
all_named fs counted a same (x ∷ named) =
    go (has x counted) (named_once x fs a ∙ ap (λ (b : Bool). cond b 1 0) (same x)) (all_named fs counted a same named)
  where
    both : total (map (λ (f : ℕ). cond (eqb x f) 1 0 + times_in f named) fs) ≡ total (map (names x) fs) + total (map (λ (f : ℕ). times_in f named) fs)
    both = total_sum (names x) (λ (f : ℕ). times_in f named) fs

    go : (b : Bool) → total (map (names x) fs) ≡ cond b 1 0 → total (map (λ (f : ℕ). times_in f named) fs) + further_in counted named ≡ length named
        → total (map (λ (f : ℕ). cond (eqb x f) 1 0 + times_in f named) fs) + (cond b 0 1 + further_in counted named) ≡ suc (length named)
    go true once later = omega (arith, both, once, later)
    go false once later = omega (arith, both, once, later)

-- none is as many as all
times_few : (f : ℕ) (named : List ℕ) → times_in f named ≤ length named
unfolding times_in
times_few f [] = omega arith
times_few f (x ∷ named) = go (eqb x f) (times_few f named)
  where
    go : (b : Bool) → times_in f named ≤ length named → cond b 1 0 + times_in f named ≤ suc (length named)
    go true l = omega arith
    go false l = omega arith

further_few : (counted named : List ℕ) → further_in counted named ≤ length named
unfolding further_in
further_few counted [] = omega arith
further_few counted (x ∷ named) = go (has x counted) (further_few counted named)
  where
    go : (b : Bool) → further_in counted named ≤ length named → cond b 0 1 + further_in counted named ≤ suc (length named)
    go true l = omega arith
    go false l = omega arith

whole_times : (named fs : List ℕ) → length named < 2 ^ 64 → map (λ (f : ℕ). times_in f named % 2 ^ 64) fs ≡ map (λ (f : ℕ). times_in f named) fs
whole_times named [] l = refl
whole_times named (f ∷ fs) l =
    let here : times_in f named % 2 ^ 64 ≡ times_in f named = omega (arith, times_few f named, l) in
    rw (here, whole_times named fs l)

pub all_samples_count : AllSamplesCount
unfolding credits_of
all_samples_count named l =
    let fs = ascending (counted_of named) in
    let other : further_in (counted_of named) named % 2 ^ 64 ≡ further_in (counted_of named) named = omega (arith, further_few (counted_of named) named, l) in
    rw (whole_times named fs l, other) (all_named fs (counted_of named) (counted_ascend named) (λ x. has-ascending x (counted_of named)) named)
