-- No second answer keeps what `credit` promises.
-- Assumes nothing.
use Rattle.std.proofs.Common.{◌≡◌, ℕ, sym, ◌∙◌}
use Rattle.tallying.specs.Credits.{Credits, Credited}

pub credited-one : (function : ℕ) (x r q : Credits) → Credited function x r → Credited function x q → r ≡ q
credited-one function x r q a b = a ∙ sym b
