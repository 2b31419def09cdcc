-- What a lookup tells is what the rules tell of it; and no second answer keeps the promise of `asked`.
-- Assumes nothing.
use Prim.Native.Nat.{ℕ, ◌≤◌}
use mathlib.Core.Path.{◌≡◌, refl, sym, ◌∙◌}
use native.Mathlib.Omega.{arith}
use lib.ListN.{length}
use Rattle.rules.specs.Words.{Table, GoodHeader}
use Rattle.rules.specs.Places.{lookup}
use Rattle.rules.specs.Answers.{LookupTells}
use Rattle.rules.specs.Overlays.{in_older, in_either, asked_result}
use Rattle.rules.specs.declared.Header.{Header}
use Rattle.rules.specs.declared.Lookup.{Lookup}
use Rattle.rules.specs.declared.Lookup.TheVariants.{Stands, Absent}
use Rattle.rules.specs.Answers.{Asked}
use Rattle.rules.proofs.Words.Headers.{table-small}
use Rattle.rules.proofs.Calls.Meanings.{lookup-told_by}
use Rattle.reading.specs.Within.{Standing}
use Rattle.querying.proofs.Standings.{looked, lookup-few}
use Rattle.overlaying.specs.Promises.{Near, Asks}

-- ---- the lookup of one table

module _ (t : Table) (h : Header) (key : ℕ) {f : Lookup} (told : LookupTells f (lookup t h key)) where
  pub near : GoodHeader (length t) h → Standing t f → Near f
  near g = go f (rw (lookup-told_by told) (lookup-few t h key))
    where
      go : (f : Lookup) → looked f ≤ 6 → Standing t f → Near f
      go (Stands x n) k s = ((omega (arith, table-small (length t) h g, s.0), s.1), k)
      go (Absent n) k s = k

  -- what is told of it is told of the rules' lookup
  pub older_by : (n : ℕ) {r : Asked} → r ≡ in_older n f → r ≡ in_older n (lookup t h key)
  older_by n e = rw (← lookup-told_by told) e

  pub newer_by : (behind : Lookup) {r : Asked} → r ≡ in_either f behind → r ≡ in_either (lookup t h key) behind
  newer_by behind e = rw (← lookup-told_by told) e

-- ---- the promise

pub asks : (t u : Table) (key : ℕ) {r : Asked} → r ≡ asked_result t u key → Asks t u key r t u
asks t u key e = record { answer = e; newer = refl; older = refl }

-- behind the tests of both
pub asks-behind : (t u : Table) (h g : Header) (key : ℕ) {r : Asked} → r ≡ in_either (lookup t h key) (lookup u g key)
    → in_either (lookup t h key) (lookup u g key) ≡ asked_result t u key → Asks t u key r t u
asks-behind t u h g key e d = asks t u key (e ∙ d)

-- no second answer, and no second table, keeps it
pub asks-one : (t u : Table) (key : ℕ) (r s : Asked) (v w x y : Table) → Asks t u key r v w → Asks t u key s x y → (r ≡ s) × ((v ≡ x) × (w ≡ y))
asks-one t u key r s v w x y a b = (a.answer ∙ sym b.answer, (a.newer ∙ sym b.newer, a.older ∙ sym b.older))
