-- No second answer, no second table and no second list satisfies what create and make promise.
-- Assumes nothing.
use Prim.Native.Nat.{ℕ}
use mathlib.Core.Path.{◌≡◌, sym, ◌∙◌}
use mathlib.Core.List.{List}
use Rattle.rules.specs.Words.{Table}
use Rattle.rules.specs.Answers.{verdict_means}
use Rattle.rules.specs.Results.{create_result, make_result}
use Rattle.rules.specs.Answers.{Verdict}
use Rattle.rules.proofs.Calls.Meanings.{verdict_one}
use Rattle.making.specs.Promises.{IsResult, Created, Made}

module _ {r s : Verdict} {u v : Table} where
  result-one : (result : Verdict × Table) → IsResult result (verdict_means r) u → IsResult result (verdict_means s) v → (r ≡ s) × (u ≡ v)
  result-one result p q = (verdict_one r s (p.answer ∙ sym q.answer), p.table ∙ sym q.table)

  pub created-one : (t : Table) (form c k mul1 mul2 : ℕ) → Created t form c k mul1 mul2 r u → Created t form c k mul1 mul2 s v → (r ≡ s) × (u ≡ v)
  unfolding Created
  created-one t form c k mul1 mul2 p q = result-one (create_result t form c k mul1 mul2) p q

  pub made_one : (t : Table) (l : List ℕ) (n : ℕ) (m o : List ℕ) → Made t l n r u m → Made t l n s v o → (r ≡ s) × (u ≡ v) × (m ≡ o)
  unfolding Made
  made_one t l n m o p q = let g = result-one (make_result t l n) p.0 q.0 in (g.0, g.1, p.1 ∙ sym q.1)
