-- What is written for an input that comes in parts, and how a part is taken.
-- Assumes nothing.
use Prim.Native.Nat.{ℕ, suc, ◌+◌, ◌≤◌, ◌<◌}
use mathlib.Core.Path.{◌≡◌, refl, sym, ap, ◌∙◌}
use mathlib.Core.Bool.{true, false}
use mathlib.Core.List.{List, [], ◌∷◌, ◌++◌}
use native.Mathlib.Numerals.{add-one}
use native.Mathlib.Omega.{arith}
use lib.ListN.{length, drop, get_or, drop_of_length-le}
use lib.Seq.{drop-cons}
use Rattle.std.specs.Prelude.{Ok, Err}
use Rattle.replaying.specs.declared.Answer.{Answer}
use Rattle.replaying.specs.declared.Answer.TheVariants.{Nothing, Created, Changed, Kept, Found, Events, Bad}
use Rattle.running.specs.Inputs.{Standing}
use Rattle.running.specs.Runs.{line_room, byte_taken, TakenIs, over_bytes, together}
use Rattle.running.specs.declared.Run.{Run}
use Rattle.running.specs.declared.Taken.{Taken}
use Rattle.running.proofs.Whole.{over-bytes}
use Rattle.convert.specs.Outputs.{Report, with_answer, at_end, report_to, report_text, output_to}
use Rattle.convert.specs.Parts.{ended_by, standing, begun, after_byte, is_known, after_bytes, told_of, report_from, written_after, PartsWritten}
use Rattle.convert.specs.Parts.{KnownPartsWritten, PartsAreTaken}
use Rattle.convert.specs.Taking.{after_none, after-known, after_next, taken_on}
use Rattle.convert.specs.declared.Course.{Course}
use Rattle.convert.specs.declared.Ending.{Ending}
use Rattle.convert.specs.declared.Ending.TheVariants.{Open, Unmade, Bad as BadLine}

-- ---- parts

pub parts_are_taken : PartsAreTaken
parts_are_taken = taken_on

-- ---- all that is written

pub told-answer : (a : Answer) (later : Report) → with_answer a later ≡ told_of (ended_by a) later
told-answer (Bad n) later = refl
told-answer (Created (Err e)) later = refl
told-answer (Created (Ok tt)) later = refl
told-answer Nothing later = refl
told-answer (Changed r) later = refl
told-answer (Kept r n) later = refl
told-answer (Found q) later = refl
told-answer (Events n) later = refl

abbrev reported : Standing Course → Report
reported x = report_from x.state x.room

told-bytes : (bs : List ℕ) (run : Run) (room line : List ℕ)
    → reported (after_bytes (standing (record { run = run; ending = Open }) room line) bs) ≡ over_bytes with_answer at_end run room line bs
unfolding after_bytes report_from
told-bytes [] run room line = refl
told-bytes (b ∷ bs) run room line =
    let y = byte_taken run room line b in
    go y.run y.room y.line (ended_by y.answer) (told-bytes bs y.run y.room y.line) ∙ sym (told-answer y.answer _)
  where
    go : (next : Run) (left held : List ℕ) (e : Ending) {later : Report}
        → reported (after_bytes (standing (record { run = next; ending = Open }) left held) bs) ≡ later
        → reported (after_bytes (standing (record { run = next; ending = e }) left held) bs) ≡ told_of e later
    go next left held Open k = k
    go next left held (Unmade e) k = ap reported (after-known (standing (record { run = next; ending = Unmade e }) left held) bs refl)
    go next left held (BadLine n) k = ap reported (after-known (standing (record { run = next; ending = BadLine n }) left held) bs refl)

bytes-written : (room line input : List ℕ) → length line ≡ line_room → written_after (after_bytes (begun room line) input) ≡ output_to room input
unfolding written_after output_to report_to
bytes-written room line input long =
    ap report_text (told-bytes input _ room line ∙ over-bytes with_answer at_end (λ x. refl) room line input long)

pub parts_written : PartsWritten
parts_written room line parts long = bytes-written room line (together parts) long

pub known_parts_written : KnownPartsWritten
known_parts_written room line parts later long k =
    let u = after_bytes (begun room line) (together parts) in
    ap written_after (sym (after-known u later k) ∙ sym (parts_are_taken (begun room line) (together parts) later))
    ∙ bytes-written room line (together parts ++ later) long

-- ---- a part, byte by byte

-- before byte i of a part: the rest makes of the course what the part made of it at first
pub record Passed (x : Standing Course) (part : List ℕ) (i : ℕ) (u : Standing Course) : Type 0 where
  pub within : i ≤ length part
  pub same : after_bytes u (drop i part) ≡ after_bytes x part

module _ {x : Standing Course} {part : List ℕ} {i : ℕ} {u : Standing Course} (d : Passed x part i u) where
  pub passed_known : is_known u ≡ true → u ≡ after_bytes x part
  passed_known k = sym (after-known u (drop i part) k) ∙ d.same

  pub passed_all : length part ≤ i → u ≡ after_bytes x part
  passed_all l = let none : drop i part ≡ [] = drop_of_length-le part {i = i} l in sym (after_none u) ∙ rw none at d.same

  pub passed_more : i < length part → is_known u ≡ false → {r : Taken} {left held : List ℕ} {e : Ending}
      → TakenIs (byte_taken u.state.run u.room u.line (get_or part i 0)) r left held
      → e ≡ ended_by r.answer
      → Passed x part (i + 1) (standing (record { run = r.run; ending = e }) left held)
  passed_more l k {r} {left} {held} {e} t s =
      let b = get_or part i 0 in
      let here : standing (record { run = r.run; ending = e }) left held ≡ after_byte u b = rw (s, t.taken, t.answer, t.words, t.bytes) in
      record {
        within = omega arith;
        same = ap (λ (y : Standing Course). after_bytes y (drop (i + 1) part)) here ∙ rw (add-one i)
            (sym (after_next u b (drop (suc i) part) k) ∙ ap (after_bytes u) (sym (drop-cons part i 0 l)) ∙ d.same);
      }

pub passed_none : (x : Standing Course) (part : List ℕ) → Passed x part 0 x
passed_none x part = record { within = omega arith; same = refl }
