-- Lines that are put one after the other, and what is promised of an answer whose lines are put from the front.
-- Assumes nothing.
use Prim.Native.Nat.{ℕ, ◌+◌, ◌≤◌}
use Prim.Native.String.{String}
use mathlib.Core.Path.{◌≡◌, refl, ap, subst, ◌∙◌}
use mathlib.Core.List.{List, [], ◌∷◌, ◌++◌, flat_map, append-nil, append_assoc}
use native.Mathlib.Nat.{zero-add}
use native.Mathlib.Omega.{arith}
use lib.ListN.{length, take, drop}
use lib.Seq.{sets-eq, take-append_seam, drop-append_seam}
use Rattle.rules.specs.Answers.{Meaning, change_means, verdict_means}
use Rattle.rules.specs.Histories.{reported}
use Rattle.rules.specs.Answers.{Change}
use Rattle.std.specs.Prelude.{Ok, Err}
use Rattle.rules.specs.declared.Refusal.{Refusal}
use Rattle.rules.specs.Answers.{Verdict}
use Rattle.numbering.specs.Told.{told}
use Rattle.replaying.specs.declared.Answer.{Answer}
use Rattle.replaying.specs.declared.Answer.TheVariants.{Nothing, Changed}
use Rattle.lines.specs.Lines.{bytes}
use Rattle.saying.specs.Texts.{Line, line_text, found_lines, created_lines, lines_of, text_of}
use Rattle.saying.specs.Promises.{Said}
use Rattle.saying.specs.Writing.{put_at, Put, PutAll, line_with}
use Rattle.saying.proofs.Puts.{put_length, then}

-- a line that is put with its name and `=` as one text
abbrev named : Line → List ℕ
named x = line_with (bytes x.0 ++ bytes "=") x.1

line-text : (x : Line) → named x ≡ line_text x
unfolding line_with
line-text x = refl

-- a line alone, whose number is told as another that it equals
pub line-put : (name : String) (n k : ℕ) → n ≡ k → {at r : ℕ} {l m : List ℕ} → Put (named (name, n)) at l r m → Put (line_text (name, k)) at l r m
unfolding line_with
line-put name n k e p = rw (← e) p

pub last_line : (x : Line) {at r : ℕ} {l m : List ℕ} → Put (named x) at l r m → Put (flat_map line_text (x ∷ [])) at l r m
unfolding flat_map
last_line x p = rw (append-nil, ← (line-text x)) p

pub line_before : (x : Line) (xs : List Line) {at r₁ r₂ : ℕ} {l m₁ m₂ : List ℕ} → Put (named x) at l r₁ m₁
    → Put (flat_map line_text xs) r₁ m₁ r₂ m₂
    → Put (flat_map line_text (x ∷ xs)) at l r₂ m₂
unfolding flat_map
line_before x xs p q = rw (← (line-text x)) (then p q)

lines_after : (xs : List Line) (x : Line) → flat_map line_text xs ++ named x ≡ flat_map line_text (xs ++ (x ∷ []))
unfolding flat_map
lines_after [] x = rw (append-nil, line-text x)
lines_after (y ∷ ys) x = rw (append_assoc (line_text y) (flat_map line_text ys) (named x), lines_after ys x)

pub line_after : (xs : List Line) (x : Line) {at r₁ r₂ : ℕ} {l m₁ m₂ : List ℕ} → Put (flat_map line_text xs) at l r₁ m₁
    → Put (named x) r₁ m₁ r₂ m₂
    → Put (flat_map line_text (xs ++ (x ∷ []))) at l r₂ m₂
line_after xs x p q = rw (← (lines_after xs x)) (then p q)

-- ---- a query

pub found-put : {a b : Meaning} {l m : List ℕ} {at r : ℕ} → a ≡ b → PutAll (found_lines a.number a.values) at l r m
    → PutAll (found_lines b.number b.values) at l r m
found-put {l = l} {m} {at} {r} e p = subst (λ (z : Meaning). PutAll (found_lines z.number z.values) at l r m) e p

-- ---- a change, and creation

pub change-lines : (r : Change) → lines_of (Changed r) ≡ ("answer", (change_means r).number) ∷ ("stores", reported r) ∷ []
change-lines (Ok stores) = refl
change-lines (Err e) = refl

told_as : {v w : Verdict} {n : ℕ} → told n ≡ verdict_means v → v ≡ w → n ≡ (verdict_means w).number
told_as number e = ap (λ (x : Meaning). x.number) number ∙ ap (λ (x : Verdict). (verdict_means x).number) e

module _ {v : Verdict} {n : ℕ} (number : told n ≡ verdict_means v) {at r : ℕ} {l m : List ℕ} where
  pub created_done : v ≡ Ok tt → Put (named ("made", n)) at l r m → Put (flat_map line_text (created_lines v)) at l r m
  created_done e p = rw e (last_line _ (rw (told_as number e) at p))

  pub created_denied : {d : Refusal} → v ≡ Err d → Put (named ("made", n)) at l r m → {r₂ : ℕ} {m₂ : List ℕ}
      → Put (named ("events", 0)) r m r₂ m₂
      → Put (flat_map line_text (created_lines v)) at l r₂ m₂
  created_denied e p q = rw e (line_before _ _ (rw (told_as number e) at p) (last_line _ q))

-- ---- from the front

from_front : (l text : List ℕ) → 0 + length text ≤ length l → put_at l 0 text ≡ text ++ drop (length text) l
unfolding put_at
from_front l text h = rw (sets-eq text l 0 h, zero-add)

pub said : (answer : Answer) {l m : List ℕ} {r : ℕ} → Put (text_of answer) 0 l r m → Said answer l r m
unfolding text_of
said answer {l} {m} {r} p =
    record {
      size = size;
      text = text;
      rest = rw (front, size, drop-append_seam);
      within = (omega (arith, p.room, p.next, put_length p), rw (text, ← size));
      room = omega (arith, p.room, p.next);
    }
  where
    size : r ≡ length (text_of answer)
    size = p.next ∙ zero-add (length (text_of answer))

    front : m ≡ text_of answer ++ drop (length (text_of answer)) l
    front = p.buffer ∙ from_front l (text_of answer) p.room

    text : take r m ≡ text_of answer
    text = rw (front, size, take-append_seam)

-- ---- each answer

pub nothing_put : {at : ℕ} (l : List ℕ) → at ≤ length l → Put (text_of Nothing) at l at l
unfolding text_of flat_map put_at
nothing_put l h = record { room = omega (arith, h); next = omega arith; buffer = refl }
