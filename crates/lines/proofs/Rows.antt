-- The texts that a line may begin with: the first that a line begins with tells what it says.
-- Assumes nothing.
use Prim.Native.Nat.{ℕ, ◌+◌, ◌<◌, ◌≤◌}
use mathlib.Core.Path.{◌≡◌, refl, sym, ap, ◌∙◌}
use mathlib.Core.Bool.{Bool, true, false, cond}
use mathlib.Core.List.{List, [], ◌∷◌}
use mathlib.Core.Option.{Option, none, some}
use native.Mathlib.Numerals.{add-one}
use borrow.Author.Tests.{eqb-true, eq-eqb}
use lib.ListN.{length, take, drop, get_or, drop_of_length-le}
use lib.Seq.{drop-cons, take-append_seam}
use lib.Dec.{eqb}
use denote.Ref.{Bor}
use Rattle.std.specs.Prelude.{Some, None}
use Rattle.std.specs.Cmp.Lexicographic.{pointwise, other_text}
use Rattle.lines.specs.Lines.{bytes, begins, decimal_of, whole_line}
use Rattle.lines.specs.Samples.{sample_of}
use Rattle.lines.specs.Found.{decimal_found}
use Rattle.lines.specs.declared.Line.{Line}
use Rattle.lines.specs.declared.Line.TheVariants.{Bad}
use Rattle.lines.specs.declared.Sample.TheVariants.{Key, Bad as BadSample, Other}
use Rattle.lines.proofs.Decimals.{all_both}
use Rattle.lines.proofs.Texts.{begins-split}

-- ---- what `strip_prefix` tells

pub begins_so : (text line : List ℕ) → pointwise eqb (take (length text) line) text ≡ true → begins text line ≡ true
begins_so [] line e = refl
begins_so (x ∷ xs) [] e = e
begins_so (x ∷ xs) (y ∷ ys) e =
    let t = all_both (eqb y x) (pointwise eqb (take (length xs) ys) xs) e in
    rw (eq-eqb x y (sym (eqb-true y x t.0)), begins_so xs ys t.1)

pub begins-other : (text line : List ℕ) → pointwise eqb (take (length text) line) text ≡ false → begins text line ≡ false
begins-other text line e = go (begins text line) refl
  where
    go : (b : Bool) → begins text line ≡ b → b ≡ false
    go true h = absurd (other_text _ _ (sym e) (ap (take (length text)) (begins-split text line h) ∙ take-append_seam text (drop (length text) line)))
    go false h = refl

-- ---- the first of several texts

-- as `said_by`, where the lines stand beside the texts that they begin with
unfoldable pub first_said : List (Bor (List ℕ) × Line) → List ℕ → Line
first_said [] line = Bad
first_said ((text, says) ∷ rows) line = cond (begins text.now line) (whole_line says (drop (length text.now) line)) (first_said rows line)

module _ (rows : List (Bor (List ℕ) × Line)) (line : List ℕ) (i : ℕ) (more : i < length rows) (d : Bor (List ℕ) × Line) where
  abbrev text : List ℕ
  text = (get_or rows i d).0.now

  pub row_hit : {rest : List ℕ} → pointwise eqb (take (length text) line) text ≡ true → rest ≡ drop (length text) line
      → first_said (drop i rows) line ≡ whole_line (get_or rows i d).1 rest
  unfolding first_said
  row_hit e r = rw (drop-cons rows i d more, begins_so text line e, r)

  pub row_passed : pointwise eqb (take (length text) line) text ≡ false → first_said (drop i rows) line ≡ first_said (drop (i + 1) rows) line
  unfolding first_said
  row_passed e = rw (add-one, drop-cons rows i d more, begins-other text line e)

pub rows_over : (rows : List (Bor (List ℕ) × Line)) (line : List ℕ) (i : ℕ) → length rows ≤ i → first_said (drop i rows) line ≡ Bad
unfolding first_said
rows_over rows line i h = rw (drop_of_length-le rows h)

-- ---- a sample

-- what a decimal is where the code has found it, or none
decimal-some : {v : ℕ} (o : Option ℕ) → Some v ≡ decimal_found o → o ≡ some v
decimal-some (some w) e = ap some (cc e)
decimal-some none e = cc e

decimal-none : (o : Option ℕ) → None ≡ decimal_found o → o ≡ none
decimal-none (some w) e = cc e
decimal-none none e = refl

module _ (line : List ℕ) where
  pub sample_other : pointwise eqb (take 7 line) (bytes "sample=") ≡ false → Other ≡ sample_of line
  unfolding sample_of
  sample_other e = rw (begins-other (bytes "sample=") line e)

  module _ (e : pointwise eqb (take 7 line) (bytes "sample=") ≡ true) {ds : List ℕ} (rest : ds ≡ drop 7 line) where
    pub sample_key : {key : ℕ} → Some key ≡ decimal_found (decimal_of ds) → Key key ≡ sample_of line
    unfolding sample_of
    sample_key k = rw (begins_so (bytes "sample=") line e, ← rest, decimal-some (decimal_of ds) k)

    pub sample_bad : None ≡ decimal_found (decimal_of ds) → BadSample ≡ sample_of line
    unfolding sample_of
    sample_bad k = rw (begins_so (bytes "sample=") line e, ← rest, decimal-none (decimal_of ds) k)
