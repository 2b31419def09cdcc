-- Byte by byte or line by line: the answers that say something are the same.
-- Assumes nothing.
use Prim.Native.Nat.{ℕ, suc, ◌+◌, ◌≤◌, ◌<◌, min}
use mathlib.Core.Path.{◌≡◌, refl, sym, ap, ◌∙◌}
use mathlib.Core.Bool.{Bool, true, false, cond}
use mathlib.Core.List.{List, [], ◌∷◌, ◌++◌, map, append_assoc, append-nil}
use native.Mathlib.Omega.{arith}
use native.Mathlib.Decide.{dec_le}
use lib.ListN.{length, take, set, length-append, length-set}
use lib.Dec.{eqb, ltb}
use lib.Seq.{take_all, take-append-le, take-suc-set}
use borrow.Author.Tests.{lt-ltb, le-ltb}
use Rattle.lines.specs.Lines.{line_of}
use Rattle.lines.specs.declared.Line.{Line}
use Rattle.replaying.specs.Replays.{begun, Turned, turn_of, finish_of}
use Rattle.replaying.specs.declared.Answer.{Answer}
use Rattle.replaying.specs.declared.Answer.TheVariants.{Nothing}
use Rattle.replaying.specs.declared.Replay.{Replay}
use Rattle.running.specs.Runs.{joined, split, over_lines, answers, answers_to, ready, line_room, held_after, After, byte_taken, end_of, over_bytes, fed}
use Rattle.running.specs.Runs.{silent, spoken, BytesAnswerAsLines}
use Rattle.running.specs.declared.Run.{Run}
use Rattle.running.proofs.Lengths.{line_enough}

-- ---- lines whose first begins with bytes that were read before

abbrev pub some-held : List ℕ → Bool → Bool
some-held [] torn = torn
some-held (b ∷ bs) torn = true

abbrev pub prefixed : List ℕ → List (List ℕ) × Bool → List (List ℕ) × Bool
prefixed read ([], torn) = ([], some-held read torn)
prefixed read (l ∷ ls, torn) = ((read ++ l) ∷ ls, torn)

held_one : (read : List ℕ) (b : ℕ) (torn : Bool) → some-held (read ++ (b ∷ [])) torn ≡ true
held_one [] b torn = refl
held_one (x ∷ read) b torn = refl

held_true : (read : List ℕ) → some-held read true ≡ true
held_true [] = refl
held_true (x ∷ read) = refl

pub prefixed_joined : (read : List ℕ) (b : ℕ) (s : List (List ℕ) × Bool) → prefixed read (joined b s) ≡ prefixed (read ++ (b ∷ [])) s
prefixed_joined read b ([], torn) = rw (held_true read, held_one read b torn)
prefixed_joined read b (l ∷ ls, torn) = rw (append_assoc read (b ∷ []) l)

pub prefixed_nothing : (s : List (List ℕ) × Bool) → prefixed [] s ≡ s
prefixed_nothing ([], torn) = refl
prefixed_nothing (l ∷ ls, torn) = refl

-- ---- what is held of a line that is being read

-- as many bytes of it as there is place for
pub record Holds (read line : List ℕ) (held : ℕ) : Type 0 where
  pub long : length line ≡ line_room
  pub count : held ≡ min (length read) line_room
  pub bytes : take held line ≡ take line_room read

pub holds_more : (read line : List ℕ) (held byte : ℕ) → Holds read line held
    → Holds (read ++ (byte ∷ [])) (held_after line held byte).1 (held_after line held byte).0
holds_more read line held byte h = go (dec_le line_room held)
  where
    more : length (read ++ (byte ∷ [])) ≡ length read + 1
    more = length-append read (byte ∷ [])

    go : Dec (line_room ≤ held) → Holds (read ++ (byte ∷ [])) (held_after line held byte).1 (held_after line held byte).0
    go (yes full) =
        let enough : held ≡ line_room = omega (arith, h.count) in
        rw (le-ltb held line_room full)
        (record {
          long = h.long;
          count = omega (arith, h.count, more);
          bytes = h.bytes ∙ sym (take-append-le line_room read (byte ∷ []) (omega (arith, h.count)));
        })
    go (no place) =
        let free : held < line_room = omega arith in
        let all : take line_room read ≡ read = take_all line_room read (omega (arith, h.count)) in
        let both : take line_room (read ++ (byte ∷ [])) ≡ read ++ (byte ∷ []) = take_all line_room (read ++ (byte ∷ []))
        (omega (arith, more, h.count)) in
        let one : held + 1 ≡ suc held = omega arith in
        let next : take (suc held) (set line held byte) ≡ take held line ++ (byte ∷ []) = take-suc-set line held byte (omega (arith, h.long)) in
        rw (lt-ltb held line_room free)
        (record {
          long = length-set line held byte ∙ h.long;
          count = omega (arith, h.count, more);
          bytes = ap (λ (k : ℕ). take k (set line held byte)) one ∙ next ∙ rw (h.bytes, all, both);
        })

pub holds-nothing : (line : List ℕ) → length line ≡ line_room → Holds [] line 0
holds-nothing line long = record { long = long; count = refl; bytes = refl }

pub held-some : (read line : List ℕ) (held : ℕ) → Holds read line held → ltb 0 held ≡ some-held read false
held-some [] line held h = le-ltb 0 held (omega (arith, h.count))
held-some (b ∷ read) line held h = lt-ltb 0 held (omega (arith, h.count))

said-line : (read line : List ℕ) (held : ℕ) → Holds read line held → line_of (take held line) ≡ line_of read
said-line read line held h = ap line_of h.bytes ∙ line_enough read

-- ---- every byte in turn

-- what passes over the answers that say nothing is the same over the bytes as over the lines
module _ {A : Type 0} (with_answer : Answer → A → A) (at_end : List ℕ → Replay → Bool → A)
    (passes : (x : A) → with_answer Nothing x ≡ x) where
  over-read : (bs : List ℕ) (p : Replay) (held : ℕ) (room line read : List ℕ) → Holds read line held
      → over_bytes with_answer at_end (record { replay = p; held = held }) room line bs
      ≡ over_lines with_answer at_end room p (map line_of (prefixed read (split bs)).0) (prefixed read (split bs)).1
  unfolding byte_taken
  over-read [] p held room line read h = ap (at_end room p) (held-some read line held h)
  over-read (b ∷ bs) p held room line read h =
      go (eqb b 10) (λ q room₂. over-read bs q 0 room₂ line [] (holds-nothing line h.long))
      (over-read bs p _ room _ (read ++ (b ∷ [])) (holds_more read line held b h))
    where
      t : Turned
      t = turn_of room p (line_of (take held line))

      next : Bool → After
      next d =
          cond d (record { run = record { replay = t.replay; held = 0 }; room = t.room; line = line; answer = t.answer })
          (record { run = record { replay = p; held = (held_after line held b).0 }; room = room; line = (held_after line held b).1; answer = Nothing })

      lines : Bool → List (List ℕ) × Bool
      lines d = cond d ([] ∷ (split bs).0, (split bs).1) (joined b (split bs))

      go : (d : Bool)
          → ((q : Replay) (room₂ : List ℕ)
          → over_bytes with_answer at_end (record { replay = q; held = 0 }) room₂ line bs
          ≡ over_lines with_answer at_end room₂ q (map line_of (prefixed [] (split bs)).0) (prefixed [] (split bs)).1)
          → over_bytes with_answer at_end (record { replay = p; held = (held_after line held b).0 }) room (held_after line held b).1 bs
          ≡ over_lines with_answer at_end room p (map line_of (prefixed (read ++ (b ∷ [])) (split bs)).0) (prefixed (read ++ (b ∷ [])) (split bs)).1
          → with_answer (next d).answer (over_bytes with_answer at_end (next d).run (next d).room (next d).line bs)
          ≡ over_lines with_answer at_end room p (map line_of (prefixed read (lines d)).0) (prefixed read (lines d)).1
      go true ended more =
          let said : turn_of room p (line_of (read ++ [])) ≡ t = rw (append-nil read, ← (said-line read line held h)) in
          let rest = rw (prefixed_nothing (split bs)) at (ended t.replay t.room) in
          rw said (ap (with_answer t.answer) rest)
      go false ended more = rw (prefixed_joined read b (split bs)) (passes _ ∙ more)

  pub over-bytes : (room line input : List ℕ) → length line ≡ line_room
      → over_bytes with_answer at_end ready room line input
      ≡ over_lines with_answer at_end room begun (map line_of (split input).0) (split input).1
  over-bytes room line input long = rw (prefixed_nothing (split input)) at (over-read input begun 0 room line [] (holds-nothing line long))

-- ---- the answers that say something

abbrev speak : Answer → List Answer → List Answer
speak a rest = cond (silent a) rest (a ∷ rest)

abbrev last : List ℕ → Replay → Bool → List Answer
last room p torn = spoken (finish_of p torn ∷ [])

spoken-lines : (room : List ℕ) (p : Replay) (ls : List Line) (torn : Bool) → spoken (answers room p ls torn) ≡ over_lines speak last room p ls torn
spoken-lines room p [] torn = refl
spoken-lines room p (l ∷ ls) torn =
    let t = turn_of room p l in ap (speak t.answer) (spoken-lines t.room t.replay ls torn)

spoken-bytes : (run : Run) (room line bs : List ℕ) → spoken (fed run room line bs) ≡ over_bytes speak last run room line bs
unfolding end_of
spoken-bytes run room line [] = refl
spoken-bytes run room line (b ∷ bs) =
    let x = byte_taken run room line b in ap (speak x.answer) (spoken-bytes x.run x.room x.line bs)

pub bytes_answer_as_lines : BytesAnswerAsLines
unfolding answers_to
bytes_answer_as_lines room line input long =
    spoken-bytes ready room line input ∙ over-bytes speak last (λ x. refl) room line input long
    ∙ sym (spoken-lines room begun (map line_of (split input).0) (split input).1)
