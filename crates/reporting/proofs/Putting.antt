-- A report's lines, put into a buffer one after the other.
-- Assumes nothing.
use Prim.Native.Nat.{ℕ, ◌+◌, ◌*◌, ◌≤◌, ◌<◌}
use mathlib.Core.Path.{◌≡◌, refl, sym, ap, ◌∙◌}
use mathlib.Core.List.{List, [], ◌∷◌, ◌++◌, append_assoc, append-nil}
use native.Mathlib.Omega.{arith}
use lib.ListN.{length, take, get_or}
use lib.Seq.{take_all}
use Rattle.std.proofs.lemmas.List.{length-map, map_more}
use Rattle.tallying.specs.Tallies.{functions_of, samples_of}
use Rattle.tallying.specs.declared.Credit.{Credit}
use Rattle.lines.specs.Lines.{bytes}
use Rattle.lines.specs.Texts.{decimal_text}
use Rattle.saying.specs.Writing.{put_at, Put, line_with}
use Rattle.saying.proofs.Puts.{then, put_front}
use Rattle.crediting.specs.Ledgers.{Figures}
use Rattle.crediting.specs.Books.{report_at}
use Rattle.crediting.specs.declared.Stage.{Stage}
use Rattle.reporting.specs.Texts.{function_text, function_texts, counts_text, report_text}
use Rattle.reporting.specs.Promises.{Reported}

-- ---- a line for each function

-- "as `fn10=3`"
pub function-put : (f n : ℕ) {l m₁ m₂ m₃ m₄ m₅ : List ℕ} {at a b c d e : ℕ} → Put (bytes "fn") at l a m₁ → Put (decimal_text f) a m₁ b m₂
    → Put (bytes "=") b m₂ c m₃ → Put (decimal_text n) c m₃ d m₄ → Put (10 ∷ []) d m₄ e m₅ → Put (function_text f n) at l e m₅
unfolding function_text
function-put f n p q r s t = then (then (then (then p q) r) s) t

texts_more : (fs ns : List ℕ) (f n : ℕ) → length fs ≡ length ns → function_texts (fs ++ (f ∷ [])) (ns ++ (n ∷ []))
    ≡ function_texts fs ns ++ function_text f n
unfolding function_texts
texts_more [] [] f n e = append-nil (function_text f n)
texts_more [] (m ∷ ns) f n e = absurd (omega (arith, e))
texts_more (g ∷ fs) [] f n e = absurd (omega (arith, e))
texts_more (g ∷ fs) (m ∷ ns) f n e =
    ap (λ (rest : List ℕ). function_text g m ++ rest) (texts_more fs ns f n (omega (arith, e))) ∙ sym (append_assoc (function_text g m) _ _)

-- before line i: the lines of the first functions are put
pub record Lines (cs : List Credit) (start : ℕ) (l : List ℕ) (i at : ℕ) (m : List ℕ) : Type 0 where
  pub put : Put (function_texts (functions_of (take i cs)) (samples_of (take i cs))) start l at m
  pub few : at ≤ start + 44 * i

module _ (cs : List Credit) (start : ℕ) (l : List ℕ) where
  pub lines_none : start ≤ length l → Lines cs start l 0 start l
  unfolding function_texts put_at
  lines_none e = record { put = record { room = omega (arith, e); next = omega arith; buffer = refl }; few = omega arith }

  pub lines_more : (i : ℕ) (d : Credit) {at r : ℕ} {m out : List ℕ} → i < length cs → Lines cs start l i at m
      → Put (function_text (get_or cs i d).function (get_or cs i d).samples) at m r out → r ≤ at + 44 → Lines cs start l (i + 1) r out
  lines_more i d a o p few =
      let c = get_or cs i d in
      let fs = functions_of (take i cs) in
      let ns = samples_of (take i cs) in
      let same : length fs ≡ length ns = length-map (take i cs) (λ (c : Credit). c.function) ∙ sym (length-map (take i cs) (λ (c : Credit). c.samples)) in
      let one : function_texts (functions_of (take (i + 1) cs)) (samples_of (take (i + 1) cs)) ≡ function_texts fs ns ++ function_text c.function c.samples = rw
      (map_more (λ (c : Credit). c.function) cs i d a, map_more (λ (c : Credit). c.samples) cs i d a) (texts_more fs ns c.function c.samples same) in
      record { put = rw one (then o.put p); few = omega (arith, o.few, few) }

  pub lines-all : {i at : ℕ} {m : List ℕ} → i ≤ length cs → length cs ≤ i → Lines cs start l i at m
      → Put (function_texts (functions_of cs) (samples_of cs)) start l at m × (at ≤ start + 44 * length cs)
  lines-all {i} a b d =
      let all : take i cs ≡ cs = take_all i cs b in
      (rw all at d.put, omega (arith, d.few, a))

-- ---- the report

pub counts-put : (x : Figures) {l m₁ m₂ m₃ m₄ m₅ : List ℕ} {a b c d e : ℕ} → Put (line_with (bytes "samples=") x.samples) 0 l a m₁
    → Put (line_with (bytes "none=") x.missing) a m₁ b m₂
    → Put (function_texts x.credits.functions x.credits.samples) b m₂ c m₃
    → Put (line_with (bytes "other=") x.credits.other) c m₃ d m₄
    → Put (line_with (bytes "buckets=") x.buckets) d m₄ e m₅
    → Put (counts_text x) 0 l e m₅
unfolding counts_text line_with
counts-put x p q r s t = then (then (then (then p q) r) s) t

-- what is put is the report of a stage
pub reported : {s : Stage} (x : Figures) (own : Stage) {l m : List ℕ} {r : ℕ} → s ≡ own → Put (report_text (report_at own x)) 0 l r m
    → Reported (report_at s x) l r m
reported x own e p = rw e (put_front p)
