-- What the answers of the calls tell, as a number and its values.
-- Assumes nothing.
use Prim.Native.Nat.{ℕ}
use mathlib.Core.Path.{◌≡◌, refl, sym, ap, ◌∙◌}
use mathlib.Core.List.{List, [], ◌∷◌}
use lib.ListN.{get_or}
use Rattle.rules.specs.Words.{Table}
use Rattle.rules.specs.Answers.{number_of, Meaning, change_means, conversion_means, gone_on_means, asked_means, name_of}
use Rattle.rules.specs.Calls.{step}
use Rattle.rules.specs.Results.{step_from_result}
use Rattle.rules.specs.declared.Refusal.{Refusal}
use Rattle.rules.specs.declared.Missed.{Missed}
use Rattle.rules.specs.declared.Hit.{Hit}
use Rattle.rules.specs.declared.Miss.{Miss}
use Rattle.rules.specs.declared.Placing.{Placing}
use Rattle.rules.specs.Answers.{Change}
use Rattle.std.specs.Prelude.{Ok, Err}
use Rattle.rules.specs.declared.SteppedFrom.{SteppedFrom}
use Rattle.rules.specs.Answers.{Conversion}
use Rattle.rules.specs.Answers.{Chain}
use Rattle.rules.specs.Answers.{Asked}
use Rattle.numbering.specs.Told.{told_with}
use Rattle.rules.proofs.Calls.StepFromSentences.{step_from_is_a_call}
use Rattle.listing.specs.Promises.{ChangedBy, StepTakenFrom, WentOnBy}
use Rattle.listing.proofs.Steps.{step_went_on}
use Rattle.querying.specs.Promises.{QueriedBy}
use Rattle.chaining.specs.Promises.{ChainedBy, Chained}
use Rattle.converting.specs.Promises.{ConvertsBy, Converts}
use Rattle.overlaying.specs.Promises.{AsksBy, Asks}

pub query-told : {t u : Table} {key : ℕ} {a b : Meaning} → QueriedBy t key a u → b ≡ a → QueriedBy t key b u
query-told d e = rw e d

pub convert_told : {t s u v : Table} {c : Conversion} {b : Meaning} → Converts t s c u v → b ≡ conversion_means c → ConvertsBy t s b u v
convert_told d e = record { answer = e ∙ ap conversion_means d.answer; source = d.source; second = d.second }

module _ {t u : Table} {address depth : ℕ} {l m : List ℕ} {c : Chain} where
  pub chain_whole : {n : ℕ} → Chained t address depth l c u m → c ≡ Ok n → ChainedBy t address depth l (told_with 0 (n ∷ [])) u m
  chain_whole d e = rw e at d

  pub chain_broken : {x : Missed} {k : ℕ} → Chained t address depth l c u m → c ≡ Err x → k ≡ number_of x.refusal
      → ChainedBy t address depth l (told_with k (x.looked ∷ [])) u m
  chain_broken d e k = rw k (rw e at d)

module _ {t u x y : Table} {key : ℕ} {a : Asked} (d : Asks t u key a x y) where
  asked-told : {b : Meaning} → b ≡ asked_means a → AsksBy t u key b x y
  asked-told e = record { answer = e ∙ ap asked_means d.answer; newer = d.newer; older = d.older }

  pub asked_hit : {h : Hit} {name : ℕ} → a ≡ Ok h → name ≡ name_of h.side → AsksBy t u key (told_with 0 (name ∷ h.looked ∷ [])) x y
  asked_hit e n = asked-told (rw (e, n))

  pub asked_missed : {m : Miss} {name k : ℕ} → a ≡ Err m → name ≡ name_of m.side → k ≡ number_of m.refusal
      → AsksBy t u key (told_with k (name ∷ m.looked ∷ [])) x y
  asked_missed e n q = asked-told (rw (e, n, q))

module _ {b : ℕ} {t u : Table} {l m : List ℕ} {s : SteppedFrom} {c : Change} (d : StepTakenFrom b t l s u m) (same : c ≡ s.stepped.change) where
  pub step-listed : {n : ℕ} → c ≡ Ok n → WentOnBy b t l (told_with 0 (n ∷ s.bucket ∷ [])) u m
  step-listed {n} e =
      let k : s.stepped.change ≡ Ok n = sym same ∙ e in
      rw k at (step_went_on d)

  pub step-refused : {r : Refusal} {k : ℕ} → c ≡ Err r → k ≡ number_of r → WentOnBy b t l (told_with k (0 ∷ s.bucket ∷ [])) u m
  step-refused {r} e k =
      let q : s.stepped.change ≡ Err r = sym same ∙ e in
      rw k (rw q at (step_went_on d))

-- a step from the first bucket on, without its bucket: the step
abbrev stores_alone : Meaning → Meaning
stores_alone a = told_with a.number (get_or a.values 0 0 ∷ [])

stores_left : (c : Change) (p : Placing) (b : ℕ)
    → stores_alone (gone_on_means (record { stepped = record { change = c; placing = p }; bucket = b })) ≡ change_means c
stores_left (Ok n) p b = refl
stores_left (Err e) p b = refl

pub step-told : {t u : Table} {l m : List ℕ} {r : ℕ} (x : List ℕ) → WentOnBy 0 t l (told_with r x) u m
    → ChangedBy step t l (told_with r (get_or x 0 0 ∷ [])) u m
step-told {t} {l = l} x d =
    let s = (step_from_result t 0 l).0 in
    let call = step_from_is_a_call t 0 l in
    record {
      answer = ap stores_alone d.answer ∙ stores_left s.stepped.change s.stepped.placing s.bucket ∙ ap change_means call.0;
      table = d.table;
      list = d.list ∙ call.1;
    }
