-- The tests of two tables decide the answer: the refusal of the first that fails, with its table, or what the lookups tell.
-- Assumes nothing.
use Prim.Native.Nat.{ℕ}
use mathlib.Core.Path.{◌≡◌, ◌∙◌}
use Rattle.rules.specs.Words.{Table, header_of}
use Rattle.rules.specs.Places.{lookup}
use Rattle.rules.specs.Calls.{query_tests}
use Rattle.rules.specs.Overlays.{in_either, asked_result}
use Rattle.rules.specs.declared.Header.{Header}
use Rattle.rules.specs.declared.Refusal.{Refusal}
use Rattle.std.specs.Prelude.{Ok, Err}
use Rattle.reading.specs.Gates.{gate_of}
use Rattle.reading.specs.Gates.{Gate}
use Rattle.reading.proofs.Gated.{gate_open, gate_shut}
use Rattle.rules.specs.Answers.{lacks}
use Rattle.rules.specs.declared.Side.TheVariants.{Newer, Older}

module _ (t u : Table) (key : ℕ) {a : Gate} (e : a ≡ gate_of t (query_tests t)) where
  pub newer_shut : {r : Refusal} → a ≡ Err r → lacks Newer r 0 ≡ asked_result t u key
  unfolding asked_result
  newer_shut q = gate_shut t (query_tests t) e (λ (r : Refusal). lacks Newer r 0) _ q

  module _ {h : Header} (q : a ≡ Ok h) {b : Gate} (d : b ≡ gate_of u (query_tests u)) where
    pub older_shut : {r : Refusal} → b ≡ Err r → lacks Older r 0 ≡ asked_result t u key
    unfolding asked_result
    older_shut k =
        gate_shut u (query_tests u) d (λ (r : Refusal). lacks Older r 0) _ k ∙ gate_open t (query_tests t) e (λ (r : Refusal). lacks Newer r 0) _ q

    pub both_open : {g : Header} → b ≡ Ok g → h ≡ header_of t → g ≡ header_of u
        → in_either (lookup t h key) (lookup u g key) ≡ asked_result t u key
    unfolding asked_result
    both_open {g} k x y =
        let w : in_either (lookup t h key) (lookup u g key) ≡ in_either (lookup t (header_of t) key) (lookup u (header_of u) key) = rw (x, y) in
        w
        ∙ gate_open u (query_tests u) d (λ (r : Refusal). lacks Older r 0) _ k
        ∙ gate_open t (query_tests t) e (λ (r : Refusal). lacks Newer r 0) _ q
