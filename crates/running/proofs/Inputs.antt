-- How a program's readings follow each other, whatever it makes of the parts.
-- Assumes nothing.
use Prim.Native.Nat.{ℕ, ◌+◌, ◌^◌, ◌≤◌, ◌<◌}
use mathlib.Core.Path.{◌≡◌, refl, sym, ap, ◌∙◌}
use mathlib.Core.Bool.{Bool, true, false, cond}
use mathlib.Core.List.{List, [], ◌∷◌}
use mathlib.Core.Logic.{⊎_elim, inl, inr}
use native.Mathlib.Omega.{arith}
use lib.ListN.{length, take}
use lib.Dec.{eqb}
use lib.Seq.{length-take-le}
use borrow.Author.Tests.{eqb-false}
use denote.Enum.Declared.{tag_of}
use types.Run.{OneOf, miss}
use Rattle.running.specs.Runs.{Behind}
use Rattle.running.specs.Inputs.{Took, ReadSome, Ran}
pub use Rattle.running.specs.Inputs.{Takes}
use Rattle.running.specs.declared.Outcome.{Outcome}
use Rattle.running.specs.declared.Outcome.TheVariants.{Going, Known, Ended, Unread}
use Rattle.running.specs.contracts.Outcome.{the_type}
use Rattle.running.proofs.Parts.{behind-nothing, behind-part}

pub true_false : true ≡ false → ⊥
true_false e = let z : ◌≡◌ {A = ℕ} 1 0 = ap (λ (b : Bool). cond b 1 0) e in omega (arith, z)

-- ---- the outcomes told apart

differ : (a b : Outcome) → eqb (tag_of the_type a) (tag_of the_type b) ≡ false → a ≡ b → ⊥
differ a b k e = eqb-false (tag_of the_type a) (tag_of the_type b) k (ap (tag_of the_type) e)

pub not_going : (o : Outcome) → OneOf (1 ∷ 2 ∷ 3 ∷ []) (tag_of the_type o) → o ≡ Going → ⊥
not_going o k e = miss (1 ∷ 2 ∷ 3 ∷ []) 0 tt (rw e at k)

module _ {S : Type 0} {take_part : S → List ℕ → S} (takes : Takes take_part) (known : S → Bool) where
  -- ---- one reading

  pub read_known : {x : S} {input : List ℕ} → known x ≡ true → ReadSome take_part known x input Known x
  read_known k = record { stops = λ _. (refl, refl); reads = λ e. absurd (true_false (sym k ∙ e)) }

  pub read_failed : {x : S} {input : List ℕ} → known x ≡ false → ReadSome take_part known x input Unread x
  read_failed k = record { stops = λ e. absurd (true_false (sym e ∙ k)); reads = λ _. inl (refl, refl) }

  pub read-ended : {x : S} {input : List ℕ} → known x ≡ false → ReadSome take_part known x input Ended x
  read-ended {x} k =
      record {
        stops = λ e. absurd (true_false (sym e ∙ k));
        reads = λ _. inr (
          0,
          omega arith,
          record {
            stand = sym (takes.none x);
            some = λ e. absurd (differ Ended Going refl e);
            ended = λ _. refl;
            other = (differ Ended Known refl, differ Ended Unread refl);
          },
        );
      }

  pub read_taken : {x u : S} {input : List ℕ} → known x ≡ false → (n : ℕ) → (n ≡ 0 → ⊥) → n ≤ length input → u ≡ take_part x (take n input)
      → ReadSome take_part known x input Going u
  read_taken {input = input} k n some few e =
      record {
        stops = λ e. absurd (true_false (sym e ∙ k));
        reads = λ _. inr (
          n,
          few,
          record {
            stand = e;
            some = λ _. omega (arith, some, length-take-le n input few);
            ended = λ e. absurd (differ Going Ended refl e);
            other = (differ Going Known refl, differ Going Unread refl);
          },
        );
      }

  -- what the loop needs of it: the part that was taken, which is not empty where the program goes on
  record Onward (x : S) (outcome : Outcome) (u : S) : Type 0 where
    part : List ℕ
    stand : u ≡ take_part x part
    rightly : outcome ≡ Known → known u ≡ true
    some : outcome ≡ Going → 0 < length part

  read-onward : {x : S} {input : List ℕ} {outcome : Outcome} {u : S} → ReadSome take_part known x input outcome u → Onward x outcome u
  read-onward {x} {input} {outcome} {u} t = go (known x) refl
    where
      failed : (outcome ≡ Unread) × (u ≡ x) → Onward x outcome u
      failed bad =
          record {
            part = [];
            stand = bad.1 ∙ sym (takes.none x);
            rightly = λ e. absurd (differ Unread Known refl (sym bad.0 ∙ e));
            some = λ e. absurd (differ Unread Going refl (sym bad.0 ∙ e));
          }

      taken : (n : ℕ) × (n ≤ length input) × Took take_part x (take n input) outcome u → Onward x outcome u
      taken (n, few, w) = record { part = take n input; stand = w.stand; rightly = λ e. absurd (w.other.0 e); some = w.some }

      go : (b : Bool) → known x ≡ b → Onward x outcome u
      go true k =
          let here = t.stops k in
          record {
            part = [];
            stand = here.1 ∙ sym (takes.none x);
            rightly = λ _. ap known here.1 ∙ k;
            some = λ e. absurd (differ Known Going refl (sym here.0 ∙ e));
          }
      go false k = ⊎_elim failed taken (t.reads k)

  -- ---- all parts

  pub behind-none : (x : S) → Behind take_part x 0 x
  behind-none x = behind-nothing take_part x (takes.none x)

  behind_more : {x u v : S} {n : ℕ} {outcome : Outcome} → Behind take_part x n u → (o : Onward u outcome v) → (m : ℕ)
      → m ≤ n + length o.part → Behind take_part x m v
  behind_more b o m few = behind-part take_part takes.more b o.part o.stand m few

  pub behind-next : {x u v : S} {n : ℕ} {input : List ℕ} {outcome : Outcome} → Behind take_part x n u
      → ReadSome take_part known u input outcome v
      → outcome ≡ Going
      → Behind take_part x (n + 1) v
  behind-next {n = n} b t e = let o = read-onward t in behind_more b o (n + 1) (omega (arith, o.some e))

  pub ran : {x u v : S} {n : ℕ} {input : List ℕ} {outcome : Outcome} → Behind take_part x n u → ReadSome take_part known u input outcome v
      → (outcome ≡ Going → ⊥)
      → Ran take_part known x outcome v
  ran {n = n} b t stops =
      let o = read-onward t in
      record { count = n; behind = behind_more b o n (omega arith); rightly = o.rightly; never = λ e. absurd (stops e) }

  pub ran_on : {x u : S} {n : ℕ} → Behind take_part x n u → 2 ^ 64 ≤ n + 1 → Ran take_part known x Going u
  ran_on {n = n} b e = record { count = n; behind = b; rightly = λ k. absurd (differ Going Known refl k); never = λ _. e }
