-- No second number, no second value, no second table, no second list and no second lent words keep what the functions promise.
-- Assumes nothing.
use Prim.Native.Nat.{ℕ}
use mathlib.Core.Path.{◌≡◌, sym, ap, ◌∙◌}
use mathlib.Core.List.{List, [], ◌∷◌}
use lib.ListN.{get_or}
use Rattle.rules.specs.Words.{Table}
use Rattle.rules.specs.Answers.{Meaning}
use Rattle.rules.specs.Calls.{Call}
use Rattle.numbering.specs.Told.{told, told_with}
use Rattle.querying.specs.Promises.{QueriedBy}
use Rattle.chaining.specs.Promises.{ChainedBy}
use Rattle.making.specs.Promises.{CreatedBy, MadeBy}
use Rattle.converting.specs.Promises.{ConvertsBy}
use Rattle.overlaying.specs.Promises.{AsksBy}
use Rattle.collector.specs.Reported.{Reported, ReportedFrom}

numbers_one : {a b : Meaning} → a ≡ b → a.number ≡ b.number
numbers_one e = ap (λ (m : Meaning). m.number) e

module _ (t u v : Table) (r s : ℕ) where
  pub created-one : (form c k mul1 mul2 : ℕ) → CreatedBy t form c k mul1 mul2 (told r) u → CreatedBy t form c k mul1 mul2 (told s) v → (r ≡ s) × (u ≡ v)
  created-one form c k mul1 mul2 a b = (numbers_one (a.answer ∙ sym b.answer), a.table ∙ sym b.table)

  pub queried-one : (key : ℕ) (x y : List ℕ) → QueriedBy t key (told_with r x) u → QueriedBy t key (told_with s y) v
      → (r ≡ s) × (x ≡ y) × (u ≡ v)
  queried-one key x y a b =
      let same = a.answer ∙ sym b.answer in
      (numbers_one same, ap (λ (m : Meaning). m.values) same, a.table ∙ sym b.table)

  pub chained-one : (address depth : ℕ) (l m n : List ℕ) (i j : ℕ) → ChainedBy t address depth l (told_with r (i ∷ [])) u m
      → ChainedBy t address depth l (told_with s (j ∷ [])) v n → (r ≡ s) × (i ≡ j) × (u ≡ v) × (m ≡ n)
  chained-one address depth l m n i j a b =
      let same = a.answer ∙ sym b.answer in
      (numbers_one same, ap (λ (z : Meaning). get_or z.values 0 0) same, a.table ∙ sym b.table, a.records ∙ sym b.records)

  pub reported-one : (q : Call) (l m n : List ℕ) (i j : ℕ) → Reported q t l r i u m → Reported q t l s j v n
      → (r ≡ s) × (i ≡ j) × (u ≡ v) × (m ≡ n)
  reported-one q l m n i j a b =
      let same = a.answer ∙ sym b.answer in
      (numbers_one same, ap (λ (z : Meaning). get_or z.values 0 0) same, a.table ∙ sym b.table, a.list ∙ sym b.list)

  pub gone_on_one : (b : ℕ) (l m n x y : List ℕ) → ReportedFrom b t l r x u m → ReportedFrom b t l s y v n
      → (r ≡ s) × (x ≡ y) × (u ≡ v) × (m ≡ n)
  gone_on_one b l m n x y a c =
      let same = a.answer ∙ sym c.answer in
      (numbers_one same, ap (λ (z : Meaning). z.values) same, a.table ∙ sym c.table, a.list ∙ sym c.list)

  pub made_one : (l m n : List ℕ) (count : ℕ) → MadeBy t l count (told r) u m → MadeBy t l count (told s) v n → (r ≡ s) × (u ≡ v) × (m ≡ n)
  made_one l m n count a b = (numbers_one (a.0.answer ∙ sym b.0.answer), a.0.table ∙ sym b.0.table, a.1 ∙ sym b.1)

  pub converts-one : (a x y : Table) (i j : ℕ) → ConvertsBy t a (told_with r (i ∷ [])) u x → ConvertsBy t a (told_with s (j ∷ [])) v y
      → (r ≡ s) × (i ≡ j) × (u ≡ v) × (x ≡ y)
  converts-one a x y i j p q =
      let same = p.answer ∙ sym q.answer in
      (numbers_one same, ap (λ (z : Meaning). get_or z.values 0 0) same, p.source ∙ sym q.source, p.second ∙ sym q.second)

-- of two tables there are two at exit, x and y here; that there is one part is `parts-one` of the crate `overlaying`
pub asked-one : (t u : Table) (key r s : ℕ) (a b : List ℕ) (v w x y : Table) → AsksBy t u key (told_with r a) v w → AsksBy t u key (told_with s b) x y
    → (r ≡ s) × (a ≡ b) × (v ≡ x) × (w ≡ y)
asked-one t u key r s a b v w x y p q =
    let same = p.answer ∙ sym q.answer in
    (numbers_one same, ap (λ (m : Meaning). m.values) same, p.newer ∙ sym q.newer, p.older ∙ sym q.older)
