-- The good lines are exactly the texts of lines: a text says its line, and no other bytes say one.
-- Assumes nothing.
use Prim.Native.Nat.{ℕ}
use mathlib.Core.Path.{◌≡◌, refl, sym, ap, ◌∙◌}
use mathlib.Core.Bool.{Bool, true, false, cond}
use mathlib.Core.List.{List, [], ◌∷◌, ◌++◌}
use mathlib.Core.Option.{Option, none, some}
use borrow.Author.Tests.{eqb-true}
use lib.ListN.{length, drop}
use lib.Dec.{eqb}
use Rattle.rules.proofs.Basics.Lists.{never}
use Rattle.lines.specs.Lines.{bytes, name_text, blank, beginning, rows, begins, decimal_of, numbered, unless_more, whole_line, said_by, line_of}
use Rattle.lines.specs.Texts.{decimal_text, decimal_after, line_text, Good, TextsSay, OnlyTextsSay}
use Rattle.lines.specs.declared.Name.{Name}
use Rattle.lines.specs.declared.Name.TheVariants.{Cap, Top, Mul1, Mul2, Key, Fn, At, After}
use Rattle.rules.specs.declared.ScriptCall.{ScriptCall}
use Rattle.rules.specs.declared.ScriptCall.TheVariants.{Query, Insert, Update, Delete, Begin, Shrink, Back, Step, End, Recover}
use Rattle.lines.specs.declared.Line.{Line}
use Rattle.lines.specs.declared.Line.TheVariants.{Number, Event, Cut, Bad}
use Rattle.lines.proofs.Decimals.{all_both, decimal_read, decimal_spelt}

-- ---- a text says its line

-- no name's text begins with that of another
named : (n : Name) (ds : List ℕ) → line_of (bytes (name_text n) ++ ds) ≡ numbered n (decimal_of ds)
unfolding line_of
named Cap ds = refl
named Top ds = refl
named Mul1 ds = refl
named Mul2 ds = refl
named Key ds = refl
named Fn ds = refl
named At ds = refl
named After ds = refl

event_said : (q : ScriptCall) → line_of (line_text (Event q)) ≡ Event (blank q)
unfolding line_of
event_said (Insert key r) = refl
event_said (Update key r) = refl
event_said (Delete key) = refl
event_said (Query key) = refl
event_said Begin = refl
event_said Shrink = refl
event_said Back = refl
event_said Step = refl
event_said End = refl
event_said Recover = refl

pub texts_say : TextsSay
unfolding line_of
texts_say (Number n v) g = named n (decimal_text v) ∙ ap (numbered n) (decimal_read v g)
texts_say (Event q) g = event_said q ∙ ap Event g
texts_say Cut g = refl
texts_say Bad g = absurd g

-- ---- no other bytes say a line

pub begins-split : (text line : List ℕ) → begins text line ≡ true → line ≡ text ++ drop (length text) line
begins-split [] line e = refl
begins-split (x ∷ xs) [] e = never e refl
begins-split (x ∷ xs) (y ∷ ys) e =
    let t = all_both (eqb x y) (begins xs ys) e in
    cc (eqb-true x y t.0, begins-split xs ys t.1)

-- a row stands for a line that is good, but for a number that comes after it
abbrev Row : Line → Type 0
Row (Number n v) = Unit {0}
Row (Event q) = blank q ≡ q
Row Cut = Unit {0}
Row Bad = ⊥

abbrev Rows : List Line → Type 0
Rows [] = Unit {0}
Rows (l ∷ ls) = Row l × Rows ls

module _ (line : List ℕ) where
  abbrev Only : Line → Type 0
  Only l = (l ≡ Bad → ⊥) → Good l × (line ≡ line_text l)

  number-only : (n : Name) (ds : List ℕ) → line ≡ bytes (name_text n) ++ ds → (o : Option ℕ) → decimal_of ds ≡ o → Only (numbered n o)
  number-only n ds e (some v) q good = let d = decimal_spelt ds v q in (d.1, e ∙ ap (λ (l : List ℕ). bytes (name_text n) ++ l) d.0)
  number-only n ds e none q good = absurd (good refl)

  alone-only : (l : Line) (rest : List ℕ) → Good l → decimal_after l ≡ [] → line ≡ bytes (beginning l) ++ rest → Only (unless_more rest l)
  alone-only l [] g a e good = (g, e ∙ ap (λ (ds : List ℕ). bytes (beginning l) ++ ds) (sym a))
  alone-only l (b ∷ rest) g a e good = absurd (good refl)

  whole-only : (l : Line) (rest : List ℕ) → Row l → line ≡ bytes (beginning l) ++ rest → Only (whole_line l rest)
  whole-only (Number n v) rest r e = number-only n rest e (decimal_of rest) refl
  whole-only (Event q) rest r e = alone-only (Event q) rest r refl e
  whole-only Cut rest r e = alone-only Cut rest tt refl e
  whole-only Bad rest r e = absurd r

  said-only : (ls : List Line) → Rows ls → Only (said_by ls line)
  said-only [] r = λ good. absurd (good refl)
  said-only (l ∷ ls) r = go (begins text line) refl (said-only ls r.1)
    where
      text : List ℕ
      text = bytes (beginning l)

      go : (b : Bool) → begins text line ≡ b → Only (said_by ls line) → Only (cond b (whole_line l (drop (length text) line)) (said_by ls line))
      go true e later = whole-only l (drop (length text) line) r.0 (begins-split text line e)
      go false e later = later

pub only_texts_say : OnlyTextsSay
unfolding line_of
only_texts_say line = said-only line rows (search (tt, refl))
