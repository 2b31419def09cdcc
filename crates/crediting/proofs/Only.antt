-- No second ledger, no second table and no second counts keep what `take_line`, `finish` and `ended` promise.
-- Assumes nothing.
use Rattle.std.proofs.Common.{◌≡◌, List, ℕ, Bool, sym, refl, ap, ◌∙◌}
use Rattle.tallying.specs.Credits.{Credits, no_credits}
use Rattle.replaying.specs.declared.Replay.{Replay}
use Rattle.crediting.specs.Ledgers.{Figures}
use Rattle.crediting.specs.Books.{Book, book_of, LedgerIs, Turned, Leads, at_end}
use Rattle.crediting.specs.declared.Stage.{Stage}
use Rattle.crediting.specs.declared.Counts.{Counts}
use Rattle.crediting.specs.declared.Ledger.{Ledger}

counts_same : {a b c d x y : ℕ} {t u : Credits} → a ≡ b → c ≡ d → x ≡ y → t ≡ u
    → ◌≡◌ {A = Counts} (record { samples = a; missing = c; buckets = x; tally = t }) (record { samples = b; missing = d; buckets = y; tally = u })
counts_same p q r s = cc

ledger_same : {p q : Replay} {s t : Stage} {c d : Counts} → p ≡ q → s ≡ t → c ≡ d
    → ◌≡◌ {A = Ledger} (record { replay = p; stage = s; counts = c }) (record { replay = q; stage = t; counts = d })
ledger_same e f g = cc

pub ledger_one : (x : Book) (l m : Ledger) (room left : List ℕ) → LedgerIs x l room → LedgerIs x m left → (l ≡ m) × (room ≡ left)
ledger_one x l m room left a b =
    let same : book_of l room ≡ book_of m left = a ∙ sym b in (
      ledger_same (ap (λ (x : Book). x.replay) same) (ap (λ (x : Book). x.stage) same) (counts_same (ap (λ (x : Book). x.figures.samples) same)
          (ap (λ (x : Book). x.figures.missing) same) (ap (λ (x : Book). x.figures.buckets) same) (ap (λ (x : Book). x.figures.credits) same)),
      ap (λ (x : Book). x.room) same,
    )

pub turned-one : (h : Book → Book) (k l m : Ledger) (room left other : List ℕ) → Turned h k room l left → Turned h k room m other
    → (l ≡ m) × (left ≡ other)
turned-one h k l m room left other a b = ledger_one (h (book_of k room)) l m left other a.book b.book

-- nor a second end, whatever is counted
pub ended_one : (torn : Bool) (p q k : Replay) (room left other : List ℕ) (s r t : Stage) (samples : ℕ)
    → ((x : Figures) → x.samples ≡ samples → Leads (at_end torn) p room s x q left r)
    → ((x : Figures) → x.samples ≡ samples → Leads (at_end torn) p room s x k other t)
    → (q ≡ k) × (left ≡ other) × (r ≡ t)
ended_one torn p q k room left other s r t samples a b =
    let x : Figures = record { samples = samples; missing = 0; credits = no_credits; buckets = 0 } in
    let same = a x refl ∙ sym (b x refl) in
    (ap (λ (b : Book). b.replay) same, ap (λ (b : Book). b.room) same, ap (λ (b : Book). b.stage) same)
