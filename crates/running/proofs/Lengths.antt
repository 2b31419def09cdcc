-- Every good line is shorter than the room for a line, and so the bytes that are held tell what the line says.
-- Assumes nothing.
use Prim.Native.Nat.{ℕ, suc, ◌≤◌, ◌<◌}
use mathlib.Core.Path.{◌≡◌, refl, sym, ap, ◌∙◌}
use mathlib.Core.List.{List, []}
use native.Mathlib.Omega.{arith}
use native.Mathlib.Decide.{dec_le}
use lib.ListN.{length, take, length-append}
use lib.Seq.{length-take-le, take_all}
use Rattle.rules.specs.declared.ScriptCall.{ScriptCall}
use Rattle.rules.specs.declared.ScriptCall.TheVariants.{Query, Insert, Update, Delete, Begin, Shrink, Back, Step, End, Recover}
use Rattle.lines.specs.Lines.{bytes, name_text, event_text, line_of}
use Rattle.lines.specs.Texts.{decimal_text, line_text, Good}
use Rattle.lines.specs.declared.Name.{Name}
use Rattle.lines.specs.declared.Name.TheVariants.{Cap, Top, Mul1, Mul2, Key, Fn, At, After}
use Rattle.lines.specs.declared.Line.{Line}
use Rattle.lines.specs.declared.Line.TheVariants.{Number, Event, Cut, Bad}
use Rattle.lines.proofs.Decimals.{digits_few}
use Rattle.lines.proofs.Texts.{only_texts_say}
use Rattle.running.specs.Runs.{line_room}

name-few : (n : Name) → length (bytes (name_text n)) ≤ 6
name-few Cap = omega arith
name-few Top = omega arith
name-few Mul1 = omega arith
name-few Mul2 = omega arith
name-few Key = omega arith
name-few Fn = omega arith
name-few At = omega arith
name-few After = omega arith

event_few : (q : ScriptCall) → length (bytes (event_text q)) ≤ 10
event_few (Query key) = omega arith
event_few (Insert key r) = omega arith
event_few (Update key r) = omega arith
event_few (Delete key) = omega arith
event_few Begin = omega arith
event_few Shrink = omega arith
event_few Back = omega arith
event_few Step = omega arith
event_few End = omega arith
event_few Recover = omega arith

text-few : (l : Line) → Good l → length (line_text l) < line_room
unfolding decimal_text
text-few (Number n v) g = omega (arith, length-append (bytes (name_text n)) (decimal_text v), name-few n, digits_few (suc v) 19 v (omega (arith, g)))
text-few (Event q) g = omega (arith, length-append (bytes (event_text q)) [], event_few q)
text-few Cut g = omega arith
text-few Bad g = absurd g

-- a longer line is bad
long_bad : (line : List ℕ) → line_room ≤ length line → line_of line ≡ Bad
long_bad line long = go (line_of line) (λ d. only_texts_say line d)
  where
    short : (l : Line) → (l ≡ Bad → ⊥) → ((l ≡ Bad → ⊥) → Good l × (line ≡ line_text l)) → l ≡ Bad
    short l good f = let t = f good in absurd (omega (arith, ap length t.1, text-few l t.0, long))

    go : (l : Line) → ((l ≡ Bad → ⊥) → Good l × (line ≡ line_text l)) → l ≡ Bad
    go Bad f = refl
    go (Number n v) f = short (Number n v) (λ e. let z : ◌≡◌ {A = ℕ} 0 1 = cc in omega arith) f
    go (Event q) f = short (Event q) (λ e. let z : ◌≡◌ {A = ℕ} 0 1 = cc in omega arith) f
    go Cut f = short Cut (λ e. let z : ◌≡◌ {A = ℕ} 0 1 = cc in omega arith) f

pub line_enough : (line : List ℕ) → line_of (take line_room line) ≡ line_of line
line_enough line = go (dec_le line_room (length line))
  where
    go : Dec (line_room ≤ length line) → line_of (take line_room line) ≡ line_of line
    go (yes l) = long_bad (take line_room line) (omega (arith, length-take-le line_room line l)) ∙ sym (long_bad line l)
    go (no l) = ap line_of (take_all line_room line (omega arith))
