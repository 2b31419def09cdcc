-- No second posting, no second table, no second held bytes and no second counts keep what `take_part` promises.
-- Assumes nothing.
use Rattle.std.proofs.Common.{◌≡◌, ℕ, List, sym, ap, ◌∙◌}
use Rattle.crediting.specs.declared.Ledger.{Ledger}
use Rattle.crediting.proofs.Only.{ledger_one}
use Rattle.posting.specs.Posts.{Post, PostIs}
use Rattle.posting.specs.declared.Posting.{Posting}

posting_same : {l m : Ledger} {a b : ℕ} {c d : List ℕ} → l ≡ m → c ≡ d → a ≡ b
    → ◌≡◌ {A = Posting} (record { ledger = l; line = c; held = a }) (record { ledger = m; line = d; held = b })
posting_same e f g = cc

pub post-one : (x : Post) (p q : Posting) (room left : List ℕ) → PostIs x p room → PostIs x q left → (p ≡ q) × (room ≡ left)
post-one x p q room left a b =
    let one = ledger_one x.book p.ledger q.ledger room left (ap (λ (y : Post). y.book) a) (ap (λ (y : Post). y.book) b) in
    let same = a ∙ sym b in
    (posting_same one.0 (ap (λ (y : Post). y.line) same) (ap (λ (y : Post). y.held) same), one.1)
