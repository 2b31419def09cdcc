-- No second answer, and no second buffer, keep what `report` promises.
-- Assumes nothing.
use Prim.Native.Nat.{ℕ}
use mathlib.Core.Path.{◌≡◌, sym, ◌∙◌}
use mathlib.Core.List.{List}
use Rattle.crediting.specs.Ledgers.{Report}
use Rattle.reporting.specs.Promises.{Reported}

pub reported-one : (x : Report) (l : List ℕ) {r s : ℕ} {m n : List ℕ} → Reported x l r m → Reported x l s n → (r ≡ s) × (m ≡ n)
reported-one x l a b = (a.put.next ∙ sym b.put.next, a.put.buffer ∙ sym b.put.buffer)
