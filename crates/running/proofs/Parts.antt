-- An input in parts is answered as the whole of it, and nothing more is said once the answer is known.
-- Assumes nothing.
use Prim.Native.Nat.{ℕ, ◌+◌, ◌≤◌}
use mathlib.Core.Path.{◌≡◌, refl, sym, ap, ◌∙◌}
use mathlib.Core.Bool.{Bool, true, false, cond}
use mathlib.Core.List.{List, [], ◌∷◌, ◌++◌, append_assoc, append-nil}
use native.Mathlib.Omega.{arith}
use lib.ListN.{length, take, length-append}
use lib.Dec.{eqb, ltb}
use Rattle.lines.specs.Lines.{line_of}
use Rattle.lines.specs.declared.Line.{Line}
use Rattle.following.specs.Scripts.{expected, reading_of, at_event, ended_at, ending_of}
use Rattle.following.specs.declared.Due.{Due}
use Rattle.following.specs.declared.Due.TheVariants.{Number as a_number, Event as an_event, Nothing as no_more}
use Rattle.following.specs.Scripts.{Under}
use Rattle.std.specs.Prelude.{Some, None as no_cut}
use Rattle.following.specs.declared.Asked.TheVariants.{Nothing as ask_nothing}
use Rattle.following.specs.declared.Reading.{Reading}
use Rattle.replaying.specs.Replays.{Turned, asked_of, turn_of, finished, finish_of}
use Rattle.replaying.specs.declared.Answer.{Answer}
use Rattle.replaying.specs.declared.Answer.TheVariants.{Nothing}
use Rattle.replaying.specs.declared.Replay.{Replay}
use Rattle.running.specs.Runs.{held_after, After, byte_taken, over_at, end_of, fed, silent, spoken, KnownIsAll, UnknownIsNotAll, Stand}
use Rattle.running.specs.Runs.{after_byte, after_bytes, answers_in, together, PartsAreFed, Behind}

-- ---- parts

pub parts_are_fed : PartsAreFed
unfolding after_bytes answers_in
parts_are_fed s [] later = refl
parts_are_fed s (b ∷ bs) later = ap (λ (rest : List Answer). (byte_taken s.run s.room s.line b).answer ∷ rest)
    (parts_are_fed (after_byte s b) bs later)

pub together-last : (ps : List (List ℕ)) (p : List ℕ) → together (ps ++ (p ∷ [])) ≡ together ps ++ p
together-last [] p = append-nil p
together-last (q ∷ ps) p = rw (together-last ps p, append_assoc q (together ps) p)

pub after_more : (s : Stand) (xs ys : List ℕ) → after_bytes s (xs ++ ys) ≡ after_bytes (after_bytes s xs) ys
unfolding after_bytes
after_more s [] ys = refl
after_more s (b ∷ bs) ys = after_more (after_byte s b) bs ys

pub answers_more : (s : Stand) (xs ys : List ℕ) → answers_in s (xs ++ ys) ≡ answers_in s xs ++ answers_in (after_bytes s xs) ys
unfolding after_bytes answers_in
answers_more s [] ys = refl
answers_more s (b ∷ bs) ys = ap (λ (rest : List Answer). (byte_taken s.run s.room s.line b).answer ∷ rest) (answers_more (after_byte s b) bs ys)

-- ---- many parts

module _ {S : Type 0} (take_part : S → List ℕ → S) where
  pub behind-nothing : (x : S) → take_part x [] ≡ x → Behind take_part x 0 x
  behind-nothing x e = record { parts = []; stand = sym e; long = omega arith }

  -- one part more
  pub behind-part : ((x : S) (xs ys : List ℕ) → take_part x (xs ++ ys) ≡ take_part (take_part x xs) ys) → {x u v : S} {n : ℕ}
      → Behind take_part x n u
      → (part : List ℕ) → v ≡ take_part u part
      → (m : ℕ) → m ≤ n + length part
      → Behind take_part x m v
  behind-part more {x} b part e m few =
      let all = together-last b.parts part in
      record {
        parts = b.parts ++ (part ∷ []);
        stand = e ∙ ap (λ (y : S). take_part y part) b.stand ∙ sym (more x (together b.parts) part) ∙ ap (take_part x) (sym all);
        long = omega (arith, few, b.long, ap length all ∙ length-append (together b.parts) part);
      }

-- ---- the answer is known

false_true : false ≡ true → ⊥
false_true e = let z : ◌≡◌ {A = ℕ} 0 1 = ap (λ (b : Bool). cond b 1 0) e in omega (arith, z)

over-due : (d : Due) → over_at d ≡ true → d ≡ no_more
over-due no_more e = refl
over-due (a_number w) e = absurd (false_true e)
over-due an_event e = absurd (false_true e)

module _ (p : Replay) (d : p.script.due ≡ no_more) (room : List ℕ) where
  stays : (l : Line) → reading_of p.script l ≡ record { script = p.script; asked = ask_nothing }
  unfolding reading_of
  stays l = ap (λ (x : Due). expected p.script x l) d

  turn_stays : (l : Line) → turn_of room p l ≡ record { replay = p; room = room; answer = Nothing }
  unfolding turn_of
  turn_stays l = ap (λ (r : Reading). asked_of room p r.script r.asked) (stays l)

  end-silent : (torn : Bool) → finish_of p torn ≡ Nothing
  unfolding finish_of ending_of
  end-silent torn = ap (λ (x : Due). finished p (ended_at p.script x torn)) d

known-silent : (p : Replay) → p.script.due ≡ no_more → (held : ℕ) (room line input : List ℕ)
    → spoken (fed (record { replay = p; held = held }) room line input) ≡ []
unfolding byte_taken end_of
known-silent p d held room line [] = rw (end-silent p d room (ltb 0 held))
known-silent p d held room line (b ∷ bs) =
    go (eqb b 10) (turn_of room p (line_of (take held line))) (turn_stays p d room (line_of (take held line))) (known-silent p d 0 room line bs)
    (known-silent p d _ room _ bs)
  where
    next : Bool → Turned → After
    next c t =
        cond c (record { run = record { replay = t.replay; held = 0 }; room = t.room; line = line; answer = t.answer })
        (record { run = record { replay = p; held = (held_after line held b).0 }; room = room; line = (held_after line held b).1; answer = Nothing })

    go : (c : Bool) (t : Turned) → t ≡ record { replay = p; room = room; answer = Nothing }
        → spoken (fed (record { replay = p; held = 0 }) room line bs) ≡ []
        → spoken (fed (record { replay = p; held = (held_after line held b).0 }) room (held_after line held b).1 bs) ≡ []
        → spoken ((next c t).answer ∷ fed (next c t).run (next c t).room (next c t).line bs) ≡ []
    go true t e ended more = ap (λ (x : Turned). spoken (x.answer ∷ fed (record { replay = x.replay; held = 0 }) x.room line bs)) e ∙ ended
    go false t e ended more = more

pub known_is_all : KnownIsAll
known_is_all run room line input e = known-silent run.replay (over-due run.replay.script.due e) run.held room line input

-- ---- and until then it is not

unended : (p : Replay) (torn : Bool) (d : Due) → over_at d ≡ false → silent (finished p (ended_at p.script d torn)) ≡ false
unended p torn (a_number w) e = refl
unended p torn an_event e = at p.script.cut torn
  where
    at : (c : Under) (b : Bool) → silent (finished p (at_event p.script c b)) ≡ false
    at no_cut true = refl
    at no_cut false = refl
    at (Some under) true = refl
    at (Some under) false = refl
unended p torn no_more e = absurd (false_true (sym e))

pub unknown_is_not_all : UnknownIsNotAll
unfolding end_of finish_of ending_of
unknown_is_not_all run e = unended run.replay (ltb 0 run.held) run.replay.script.due e
