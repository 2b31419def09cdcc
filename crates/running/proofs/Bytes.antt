-- From what the inner functions do to what a byte makes of a run.
-- Assumes nothing.
use Prim.Native.Nat.{ℕ, min}
use mathlib.Core.Path.{◌≡◌, refl, ap, ◌∙◌}
use mathlib.Core.List.{List}
use lib.ListN.{length, take}
use borrow.Author.Tests.{eq-eqb, ne_eqb}
use Rattle.lines.specs.Lines.{line_of}
use Rattle.lines.specs.declared.Line.{Line}
use Rattle.replaying.specs.Replays.{turn_of, TurnIs}
use Rattle.replaying.specs.declared.Answer.TheVariants.{Nothing}
use Rattle.replaying.specs.declared.Turn.{Turn}
use Rattle.replaying.proofs.Rooms.{take_least}
use Rattle.running.specs.Runs.{HeldIs, LineTaken, byte_taken, ByteTaken}
use Rattle.running.specs.declared.Run.{Run}
use Rattle.running.specs.declared.Taken.{Taken}

-- of the line all that is held is parsed
pub line_taken : (run : Run) (room line : List ℕ) {n : ℕ} → n ≡ min run.held (length line) → (said : Line) → said ≡ line_of (take n line)
    → {t : Turn} {left : List ℕ}
    → TurnIs (turn_of room run.replay said) t left
    → LineTaken run room line (record { run = record { replay = t.replay; held = 0 }; answer = t.answer }) left
line_taken run room line {n} e said s {t} {left} d =
    let same : said ≡ line_of (take run.held line) = s ∙ ap line_of (ap (λ (k : ℕ). take k line) e ∙ take_least run.held line) in
    let f : TurnIs (turn_of room run.replay (line_of (take run.held line))) t left = rw same at d in
    record { replay = f.replay; held = refl; answer = f.answer; words = f.room }

module _ (run : Run) (room line : List ℕ) (byte : ℕ) where
  pub newline_taken : {r : Taken} {left : List ℕ} → byte ≡ 10 → LineTaken run room line r left → ByteTaken run room line byte r left line
  unfolding byte_taken
  newline_taken e d = rw (eq-eqb byte 10 e) (record { taken = rw (d.replay, d.held); answer = d.answer; words = d.words; bytes = refl })

  pub byte_held_lem : {n : ℕ} {left : List ℕ} → (byte ≡ 10 → ⊥) → HeldIs line run.held byte n left
      → ByteTaken run room line byte (record { run = record { replay = run.replay; held = n }; answer = Nothing }) room left
  unfolding byte_taken
  byte_held_lem e d = rw (ne_eqb byte 10 e) (record {
    taken = ap (λ (h : ℕ × List ℕ). record { replay = run.replay; held = h.0 }) d;
    answer =
        refl;
    words = refl;
    bytes = ap (λ (h : ℕ × List ℕ). h.1) d;
  })
