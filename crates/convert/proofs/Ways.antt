-- What the ways to form 2 and back answer, put into a buffer, and which report a course has.
-- Assumes nothing.
use Prim.Native.Nat.{ℕ, zero, suc, ◌≤◌, min}
use mathlib.Core.Path.{◌≡◌, refl, sym, ap, subst, ◌∙◌}
use mathlib.Core.List.{List, [], ◌∷◌, ◌++◌, flat_map, append-nil}
use native.Mathlib.Omega.{arith}
use lib.ListN.{length, take, replicate, length-replicate}
use Rattle.rules.specs.Words.{Table}
use Rattle.rules.specs.Answers.{Meaning, conversion_means}
use Rattle.rules.specs.Conversions.{convert_result}
use Rattle.rules.specs.Answers.{Conversion}
use Rattle.rules.specs.declared.Unconverted.{Unconverted}
use Rattle.std.specs.Prelude.{Ok, Err}
use Rattle.numbering.specs.Told.{conversion_words_mean}
use Rattle.numbering.specs.declared.ConversionWords.{ConversionWords}
use Rattle.converting.specs.Promises.{Converts}
use Rattle.lines.specs.Lines.{bytes}
use Rattle.replaying.specs.Replays.{table_of}
use Rattle.replaying.proofs.Rooms.{take_least, least_fits}
use Rattle.running.specs.Runs.{end_of}
use Rattle.saying.specs.Texts.{line_text, answer_lines}
use Rattle.saying.specs.Writing.{Put, PutFront, line_with}
use Rattle.saying.proofs.Puts.{put_front}
use Rattle.saying.proofs.LinesPut.{line_before, last_line}
use Rattle.convert.specs.Outputs.{back_to, ways_in, ways_from, Report, converted, with_answer, way_text, report_text}
use Rattle.convert.specs.Parts.{last_ending, told_of, report_from}
use Rattle.convert.specs.declared.Ending.{Ending}
use Rattle.convert.specs.declared.Ending.TheVariants.{Open, Unmade, Bad as BadLine}
use Rattle.convert.specs.declared.Course.{Course}
use Rattle.convert.proofs.Parts.{told-answer}
use Rattle.rules.specs.declared.Unconverted.TheVariants.{Stuck, Rejected}

-- ---- one answer

pub way_put : (a : Conversion) (w : ConversionWords) → conversion_words_mean w ≡ conversion_means a → {at r₁ r₂ : ℕ} {l m₁ m₂ : List ℕ}
    → Put (line_with (bytes "answer=") w.number) at l r₁ m₁
    → Put (line_with (bytes "key=") w.key) r₁ m₁ r₂ m₂
    → Put (way_text a) at l r₂ m₂
way_put a w e {at} {r₁} {r₂} {l} {m₁} {m₂} p q =
    subst (λ (z : Meaning). Put (flat_map line_text (answer_lines ("key" ∷ []) z.number z.values)) at l r₂ m₂) e
    (line_before ("answer", w.number) _ p (last_line ("key", w.key) q))

-- ---- the way there, and the way back

module _ {t s u v : Table} {a : Conversion} (d : Converts t s a u v) where
  ways_by : flat_map way_text (ways_in t s) ≡ flat_map way_text (a ∷ back_to t (a, v))
  ways_by =
      let same : convert_result t s ≡ (a, v) = sym (rw (d.answer, d.second)) in
      ap (λ (r : Conversion × Table). flat_map way_text (r.0 ∷ back_to t r)) same

  pub way_alone : {x : Unconverted} → a ≡ Err x → flat_map way_text (ways_in t s) ≡ way_text a
  unfolding flat_map
  way_alone {x} k = ways_by ∙ rw k (alone x)
    where
      alone : (y : Unconverted) → flat_map way_text (Err y ∷ back_to t (Err y, v)) ≡ way_text (Err y)
      alone (Stuck key) = append-nil (way_text (Err (Stuck key)))
      alone (Rejected e) = append-nil (way_text (Err (Rejected e)))

  pub ways_both : a ≡ Ok tt → flat_map way_text (ways_in t s) ≡ way_text a ++ way_text (convert_result v t).0
  unfolding flat_map
  ways_both k = ways_by ∙ rw k (rw (append-nil (way_text (convert_result v t).0)))

-- ---- the table that a script has left

take_zeros : (k n : ℕ) → k ≤ n → take {A = ℕ} k (replicate n 0) ≡ replicate k 0
take_zeros zero n l = refl
take_zeros (suc k) zero l = absurd (omega (arith, l))
take_zeros (suc k) (suc n) l = ap (λ (r : List ℕ). 0 ∷ r) (take_zeros k n (omega (arith, l)))

pub zeros-lent : (n size : ℕ) → n ≤ size → n ≡ length (take {A = ℕ} n (replicate size 0))
zeros-lent n size l = rw (take_zeros n size l, length-replicate n)

-- so many words of both rooms are lent
pub lent-ways : (words : ℕ) (room : List ℕ) {n : ℕ} (size : ℕ) → n ≡ min words (length room) → length room ≤ size
    → ways_in (take n room) (take n (replicate size 0)) ≡ ways_from (take words room)
unfolding ways_from
lent-ways words room {n} size e fits =
    let table : take n room ≡ take words room = ap (λ (k : ℕ). take k room) e ∙ take_least words room in
    let long : length (take words room) ≡ n = sym (least_fits words room e ∙ ap length table) in
    rw (take_zeros n size (omega (arith, e, fits)), table, long)

-- ---- the report of a course

pub report_last : (c : Course) (room : List ℕ)
    → report_from c room ≡ told_of (last_ending c.ending (end_of c.run)) (converted (ways_from (table_of c.run.replay room)))
unfolding report_from end_of
report_last c room = go c.ending
  where
    later : Report
    later = converted (ways_from (table_of c.run.replay room))

    go : (e : Ending) → told_of e (with_answer (end_of c.run) later) ≡ told_of (last_ending e (end_of c.run)) later
    go Open = told-answer (end_of c.run) later
    go (Unmade e) = refl
    go (BadLine n) = refl

-- what is told of how it ends is put
pub told_as : (c : Course) (room : List ℕ) (e : Ending) {last : Ending} → last ≡ last_ending c.ending (end_of c.run) → last ≡ e
    → {l m : List ℕ} {r : ℕ} → Put (report_text (told_of e (converted (ways_from (table_of c.run.replay room))))) 0 l r m
    → PutFront (report_text (report_from c room)) l r m
told_as c room e a b p = rw (report_last c room, ← a, b) (put_front p)
