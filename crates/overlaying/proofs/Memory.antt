-- What the lookups of two tables lead to is the part that the rules name; and no second part keeps the promise of `part`.
-- Assumes nothing.
use Prim.Native.Nat.{ℕ, ◌+◌, ◌-◌, ◌≤◌}
use mathlib.Core.Path.{◌≡◌, refl, sym, ap, ◌∙◌}
use mathlib.Core.Bool.{Bool, true, false, cond}
use mathlib.Core.List.{List}
use native.Mathlib.Omega.{arith}
use lib.ListN.{length, take, drop}
use lib.Dec.{eqb}
use denote.Ref.{Bor}
use Rattle.rules.specs.Words.{Table, token_word, key_word}
use Rattle.rules.specs.Places.{lookup}
use Rattle.rules.specs.Answers.{LookupTells, lacks, name_of}
use Rattle.rules.specs.Overlays.{named, in_either, asked_result, part_of, part_result, words_of}
use Rattle.rules.specs.declared.Header.{Header}
use Rattle.rules.specs.declared.Slot.{Slot}
use Rattle.rules.specs.declared.Lookup.{Lookup}
use Rattle.rules.specs.declared.Lookup.TheVariants.{Stands, Absent}
use Rattle.rules.specs.declared.Refusal.{Refusal}
use Rattle.rules.specs.Answers.{Asked}
use Rattle.rules.proofs.Calls.Meanings.{lookup-told_by}
use Rattle.reading.specs.Within.{SlotWithin}
use Rattle.overlaying.specs.Promises.{PartAt, PartFound, PartOver, Parted}
use Rattle.rules.specs.declared.Side.{Side}

pub cut : (i n : ℕ) → i + n - i ≡ n
cut i n = omega arith

-- ---- by lookups

-- the words of a slot lie in the table
pub three_fit : (t : Table) (x : Slot) → SlotWithin t x → {k : ℕ} → k ≡ key_word x → k + 3 ≤ length t
unfolding key_word token_word
three_fit t x w e = omega (arith, e, w.0, w.1)

module _ {f : Lookup} (s r : Bor (List ℕ)) where
  pub found_there : {x : Slot} {n k : ℕ} → f ≡ Stands x n → k ≡ key_word x → PartAt s k 3 r → PartFound f s r
  unfolding PartFound
  found_there e q p = rw (e, ← q) p

  pub found_nothing : (n : ℕ) × (f ≡ Absent n) → PartAt s 0 0 r → PartFound f s r
  unfolding PartFound
  found_nothing e p = rw e.1 p

  pub found_by : (t : Table) (h : Header) (key : ℕ) → LookupTells f (lookup t h key) → PartFound f s r → PartFound (lookup t h key) s r
  found_by t h key told p = rw (← lookup-told_by told) p

module _ {f : Lookup} (behind : Lookup) (t u r : Bor (List ℕ)) where
  pub over_there : {x : Slot} {n k : ℕ} → f ≡ Stands x n → k ≡ key_word x → PartAt t k 3 r → PartOver f behind t u r
  unfolding PartOver
  over_there e q p = rw (e, ← q) p

  pub over-behind : (n : ℕ) × (f ≡ Absent n) → PartFound behind u r → PartOver f behind t u r
  unfolding PartOver
  over-behind e p = rw e.1 p

  pub over_by : (s : Table) (h : Header) (key : ℕ) → LookupTells f (lookup s h key) → PartOver f behind t u r → PartOver (lookup s h key) behind t u r
  over_by s h key told p = rw (← lookup-told_by told) p

-- ---- the promise

module _ (t u : Bor (List ℕ)) (key : ℕ) where
  -- the part that an answer leads to
  abbrev PartFor : Asked → Bor (List ℕ) → Type 0
  PartFor a r = PartAt (named (part_of a).name t u) (part_of a).start (part_of a).size r

  over_for : (f g : Lookup) {r : Bor (List ℕ)} → PartOver f g t u r → PartFor (in_either f g) r
  unfolding PartOver PartFound
  over_for (Stands x n) g p = p
  over_for (Absent n) (Stands y m) p = p
  over_for (Absent n) (Absent m) p = p

  now_named : (name : ℕ) → (named name t u).now ≡ named name t.now u.now
  now_named name = go (eqb name 0)
    where
      go : (b : Bool) → (cond b t u).now ≡ cond b t.now u.now
      go true = refl
      go false = refl

  parted : {a : Asked} {r : Bor (List ℕ)} → a ≡ asked_result t.now u.now key → PartFor a r → Parted t u key r t.now u.now
  unfolding part_result words_of
  parted {a} e p =
      record {
        words = rw (← e) (p.words ∙ ap (λ (l : Table). take (part_of a).size (drop (part_of a).start l)) (now_named (part_of a).name));
        memory = rw (← e) p.memory;
        newer = refl;
        older = refl;
      }

  pub part_open : (h g : Header) {r : Bor (List ℕ)}
      → in_either (lookup t.now h key) (lookup u.now g key) ≡ asked_result t.now u.now key
      → PartOver (lookup t.now h key) (lookup u.now g key) t u r → Parted t u key r t.now u.now
  part_open h g e p = parted e (over_for (lookup t.now h key) (lookup u.now g key) p)

  pub part_shut : (side : Side) {x : Refusal} {r : Bor (List ℕ)} → lacks side x 0 ≡ asked_result t.now u.now key → PartAt (named (name_of side) t u) 0 0 r
      → Parted t u key r t.now u.now
  part_shut side e p = parted e p

-- no second part keeps the promise: neither other words nor other memory; and no second table
pub parts-one : (t u : Bor (List ℕ)) (key : ℕ) (r s : Bor (List ℕ)) (v w x y : Table) → Parted t u key r v w → Parted t u key s x y
    → ((r.now ≡ s.now) × (r.ref_ptr ≡ s.ref_ptr)) × ((v ≡ x) × (w ≡ y))
parts-one t u key r s v w x y a b = (
  (a.words ∙ sym b.words, a.memory ∙ sym b.memory),
  (a.newer ∙ sym b.newer, a.older ∙ sym b.older),
)

-- "and no copy": the same words in other memory do not
pub no_copy : (t u : Bor (List ℕ)) (key : ℕ) (r s : Bor (List ℕ)) (v w x y : Table) → Parted t u key r v w → s.now ≡ r.now
    → (s.ref_ptr ≡ r.ref_ptr → ⊥) → Parted t u key s x y → ⊥
no_copy t u key r s v w x y a same other b = other (sym (parts-one t u key r s v w x y a b).0.1)
