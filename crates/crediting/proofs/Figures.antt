-- One sample more in the figures is what a query of its key answers.
-- Assumes nothing.
use Rattle.std.proofs.Common.{◌≡◌, ℕ, ◌+◌, ◌%◌, ◌^◌, List, [], ◌∷◌, ◌++◌, length, sym, refl, ap, ◌∙◌, append_assoc, append-nil, arith, length-append}
use mathlib.Core.Option.{Option, none, some}
use Rattle.rules.specs.Words.{Table}
use Rattle.rules.specs.Soundness.{PlainMap, SoundTable, map_of}
use Rattle.rules.specs.Results.{query_result}
use Rattle.rules.specs.Demands.{QueryBy, count_of}
use Rattle.rules.specs.Answers.{Query}
use Rattle.rules.specs.declared.Record.{Record}
use Rattle.rules.proofs.Tables.Maps.{sound-map}
use Rattle.rules.proofs.Calls.Queries.{query_answers}
use Rattle.tallying.specs.Credits.{Credits, credits_of}
use Rattle.tallying.proofs.Counting.{credits-none, credits_more}
use Rattle.crediting.specs.Ledgers.{sum_of, without_record, none_in, function_of, named_in, buckets_in, Figures, figures_of}
use Rattle.crediting.specs.Books.{figures_with, no_figures}

-- ---- one key more

pub sum_more : (number : ℕ → ℕ) (keys : List ℕ) (key : ℕ) → sum_of number (keys ++ (key ∷ [])) ≡ sum_of number keys + number key
sum_more number [] key = omega arith
sum_more number (k ∷ keys) key = omega (arith, sum_more number keys key)

named_more : (m : PlainMap) (keys : List ℕ) (key : ℕ) → named_in m (keys ++ (key ∷ [])) ≡ named_in m keys ++ function_of (m key)
named_more m [] key = append-nil (function_of (m key))
named_more m (k ∷ keys) key = ap (λ (rest : List ℕ). function_of (m k) ++ rest) (named_more m keys key) ∙ sym (append_assoc (function_of (m k)) _ _)

wrapped : (a b c : ℕ) → c ≡ a + b → (a % 2 ^ 64 + b) % 2 ^ 64 ≡ c % 2 ^ 64
wrapped a b c e = omega (arith, e)

same : {a b c d x : ℕ} {e f : Credits} {y : ℕ} → a ≡ b → c ≡ d → e ≡ f → x ≡ y
    → ◌≡◌ {A = Figures} (record { samples = a; missing = c; credits = e; buckets = x }) (record { samples = b; missing = d; credits = f; buckets = y })
same p q r s = cc

module _ (m : PlainMap) (looked : ℕ → ℕ) (keys : List ℕ) (key : ℕ) where
  one_more_lem : List ℕ
  one_more_lem = keys ++ (key ∷ [])

  samples_more : (length keys % 2 ^ 64 + 1) % 2 ^ 64 ≡ length one_more_lem % 2 ^ 64
  unfolding one_more_lem
  samples_more = wrapped (length keys) 1 _ (length-append keys (key ∷ []))

  buckets_more : (n : ℕ) → n ≡ looked key → (buckets_in looked keys % 2 ^ 64 + n) % 2 ^ 64 ≡ buckets_in looked one_more_lem % 2 ^ 64
  unfolding one_more_lem
  buckets_more n e = wrapped (buckets_in looked keys) n _ (rw e (sum_more looked keys key))

  missing_more : (o : Option Record) → m key ≡ o → none_in m one_more_lem ≡ none_in m keys + without_record o
  unfolding one_more_lem
  missing_more o e = sum_more (λ (k : ℕ). without_record (m k)) keys key ∙ ap (λ (x : Option Record). none_in m keys + without_record x) e

  figures_by : (o : Option Record) → m key ≡ o → (a : Query) → QueryBy o a → count_of a ≡ looked key
      → figures_with (figures_of m looked keys) a ≡ figures_of m looked one_more_lem
  unfolding figures_of one_more_lem
  figures_by (some r) e a (x, n, k) count =
      let c : n ≡ looked key = sym (ap count_of k) ∙ count in
      let named : named_in m one_more_lem ≡ named_in m keys ++ (r.function ∷ []) = named_more m keys key
      ∙ ap (λ (x : Option Record). named_in m keys ++ function_of x) e in
      let none-same : none_in m one_more_lem ≡ none_in m keys = omega (arith, missing_more (some r) e) in
      rw k (same samples_more (rw none-same) (sym (credits_more (named_in m keys) r.function) ∙ ap credits_of (sym named)) (buckets_more n c))
  figures_by none e a (n, k) count =
      let c : n ≡ looked key = sym (ap count_of k) ∙ count in
      let named : named_in m one_more_lem ≡ named_in m keys = named_more m keys key
      ∙ ap (λ (x : Option Record). named_in m keys ++ function_of x) e ∙ append-nil _ in
      rw k (same samples_more (wrapped (none_in m keys) 1 _ (missing_more none e)) (ap credits_of (sym named)) (buckets_more n c))

-- ---- on a sound table

-- the buckets that a query of a key looks at
abbrev pub looked_in : Table → ℕ → ℕ
looked_in u key = count_of (query_result u key)

pub figures_more : (u : Table) → SoundTable u → (keys : List ℕ) (key : ℕ)
    → figures_with (figures_of (map_of u) (looked_in u) keys) (query_result u key) ≡ figures_of (map_of u) (looked_in u) (keys ++ (key ∷ []))
unfolding one_more_lem
figures_more u sound keys key =
    figures_by (map_of u) (looked_in u) keys key (map_of u key) refl (query_result u key) (query_answers u (map_of u) sound (sound-map u sound) key) refl

-- before any sample
pub figures-none : (m : PlainMap) (looked : ℕ → ℕ) → figures_of m looked [] ≡ no_figures
unfolding figures_of
figures-none m looked = rw credits-none
