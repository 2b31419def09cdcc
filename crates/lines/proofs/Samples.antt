-- A sample's text says its key, and no other bytes do.
-- Assumes nothing.
use Prim.Native.Nat.{ℕ, zero, suc, ◌^◌, ◌≤◌, ◌<◌}
use mathlib.Core.Path.{◌≡◌, refl, ap, ◌∙◌}
use mathlib.Core.Bool.{Bool, true, false, cond, ◌&&◌}
use mathlib.Core.List.{List, [], ◌∷◌, ◌++◌}
use mathlib.Core.Option.{Option, none, some}
use native.Mathlib.Omega.{arith}
use native.Mathlib.Decide.{dec_le}
use lib.ListN.{length, take, drop, length-drop}
use lib.Dec.{eqb}
use lib.Seq.{take_all, length-take-le}
use Rattle.lines.specs.Lines.{bytes, begins, decimal_of}
use Rattle.lines.specs.Texts.{decimal_text}
use Rattle.lines.specs.Samples.{key_found, sample_of, sample_text, SampleTextsSay, OnlySampleTextsSay, SamplesStart, OthersDoNot}
use Rattle.lines.specs.declared.Sample.TheVariants.{Key, Other}
use Rattle.lines.proofs.Decimals.{decimal_read, decimal_spelt, digits_few}
use Rattle.lines.proofs.Texts.{begins-split}

-- ---- the texts

pub sample_texts_say : SampleTextsSay
unfolding sample_of
sample_texts_say key small = ap key_found (decimal_read key small)

pub samples_start : SamplesStart
unfolding sample_of
samples_start rest e = go (decimal_of rest) e
  where
    go : (o : Option ℕ) → key_found o ≡ Other → ⊥
    go (some v) k = let z : ◌≡◌ {A = ℕ} 0 1 = cc in omega arith
    go none k = let z : ◌≡◌ {A = ℕ} 0 1 = cc in omega arith

pub others_do_not : OthersDoNot
unfolding sample_of
others_do_not line e = go (begins (bytes "sample=") line) refl e
  where
    go : (b : Bool) → begins (bytes "sample=") line ≡ b → (cond b (key_found (decimal_of (drop 7 line))) Other ≡ Other → ⊥)
        → (rest : List ℕ) × (line ≡ bytes "sample=" ++ rest)
    go true h k = (drop 7 line, begins-split (bytes "sample=") line h)
    go false h k = absurd (k refl)

pub only_sample_texts_say : OnlySampleTextsSay
unfolding sample_of
only_sample_texts_say line key e = go (begins (bytes "sample=") line) refl (decimal_of (drop 7 line)) refl e
  where
    go : (b : Bool) → begins (bytes "sample=") line ≡ b → (o : Option ℕ) → decimal_of (drop 7 line) ≡ o → cond b (key_found o) Other ≡ Key key
        → (line ≡ sample_text key) × (key < 2 ^ 64)
    go true h (some v) q k =
        let d = decimal_spelt (drop 7 line) v q in
        let same : v ≡ key = cc k in
        rw (← same) (begins-split (bytes "sample=") line h ∙ ap (λ (ds : List ℕ). bytes "sample=" ++ ds) d.0, d.1)
    go true h none q k = let z : ◌≡◌ {A = ℕ} 0 1 = cc in absurd (omega (arith, z))
    go false h o q k = let z : ◌≡◌ {A = ℕ} 0 1 = cc in absurd (omega (arith, z))

-- ---- as many bytes as tell: one more than the longest sample has

begins-front : (text line : List ℕ) (n : ℕ) → length text ≤ n → begins text (take n line) ≡ begins text line
begins-front [] line n l = refl
begins-front (x ∷ text) line zero l = absurd (omega (arith, l))
begins-front (x ∷ text) [] (suc n) l = refl
begins-front (x ∷ text) (y ∷ line) (suc n) l = ap (λ (b : Bool). eqb x y && b) (begins-front text line n (omega arith))

decimal_few : (ds : List ℕ) → 21 ≤ length ds → decimal_of ds ≡ none
unfolding decimal_text
decimal_few ds l = go (decimal_of ds) refl
  where
    go : (o : Option ℕ) → decimal_of ds ≡ o → o ≡ none
    go none e = refl
    go (some v) e =
        let d = decimal_spelt ds v e in
        absurd (omega (arith, l, ap length d.0, digits_few (suc v) 19 v (omega (arith, d.1))))

pub sample_enough : (line : List ℕ) → sample_of (take 28 line) ≡ sample_of line
unfolding sample_of
sample_enough line = go (dec_le (length line) 28)
  where
    go : Dec (length line ≤ 28) → sample_of (take 28 line) ≡ sample_of line
    go (yes l) = ap sample_of (take_all 28 line l)
    go (no l) =
        let long : length (take 28 line) ≡ 28 = length-take-le 28 line (omega arith) in
        rw (
          begins-front (bytes "sample=") line 28 (omega arith),
          decimal_few (drop 7 (take 28 line)) (omega (arith, length-drop 7 (take 28 line), long)),
          decimal_few (drop 7 line) (omega (arith, length-drop 7 line, l)),
        )
