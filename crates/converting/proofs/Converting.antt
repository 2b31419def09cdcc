-- What a recovery's finding says of a source, and what a fresh second table may take.
-- Assumes nothing.
use Prim.Native.Nat.{ℕ}
use mathlib.Core.Path.{◌≡◌, refl, sym, ap, ◌∙◌}
use mathlib.Core.Bool.{Bool, true, false}
use mathlib.Core.List.{[], ◌∷◌, foldl}
use mathlib.Core.Option.{none}
use types.Run.{OneOf, miss}
use denote.Enum.Declared.{tag_of}
use lib.ListN.{length}
use borrow.Author.Tests.{eqb-true, eqb-false}
use Rattle.rules.specs.Words.{Table, words_for, header_of, at_rest, GoodHeader, slots_in_use}
use Rattle.rules.specs.Soundness.{taken_slots, SoundTable, finding}
use Rattle.rules.specs.Answers.{FindingTells}
use Rattle.rules.specs.Conversions.{convert_tests, fresh_for, filled, with_item, filling, filled_to, convert_result}
use Rattle.rules.specs.ConversionSentences.{other_header}
use Rattle.rules.specs.declared.Header.{Header}
use Rattle.rules.specs.declared.Finding.{Finding}
use Rattle.rules.specs.declared.Finding.TheVariants.{Sound, Doubled, Flagged, Neither}
use Rattle.rules.specs.declared.Refusal.{Refusal}
use Rattle.rules.specs.declared.Refusal.TheVariants.{AlreadyResizing, NoKind, BadCreation}
use Rattle.rules.specs.Answers.{Conversion}
use Rattle.std.specs.Prelude.{Ok, Err}
use Rattle.rules.proofs.Basics.Lists.{ascending-tells}
use Rattle.rules.specs.contracts.Finding.{the_type as finding-type}
use Rattle.rules.proofs.Tables.Findings.{finding-means, kind_found}
use Rattle.rules.proofs.Calls.Meanings.{finding-told_by}
use Rattle.rules.proofs.Calls.Conversions.{Source, fresh-given, fresh-empty, items_apart, refuses-unsound, refuses-resizing, refuses_length, all_pass}
use Rattle.reading.specs.Gates.{gate_of, header_test, Headed}
use Rattle.reading.specs.Gates.{Gate}
use Rattle.reading.proofs.Gated.{gate_shut}
use Rattle.converting.specs.Fillings.{Progress, items_in, filling_of, MayTake, Fills, ConvertedAt, ConvertsAt}
use Rattle.converting.specs.Promises.{Converts}
use Rattle.rules.specs.declared.Unconverted.TheVariants.{Rejected, Stuck}

-- ---- "A source that is not sound gives 12": what recovery would mend is not sound either

module _ (t : Table) (f : Finding) (e : FindingTells f (finding t)) where
  pub found-sound : OneOf (0 ∷ []) (tag_of finding-type f) → SoundTable t
  found-sound k = go f (finding-told_by e) k
    where
      go : (g : Finding) → g ≡ finding t → OneOf (0 ∷ []) (tag_of finding-type g) → SoundTable t
      go Sound q k = rw (← q) at (finding-means t)
      go (Doubled x y) q k = absurd (miss (0 ∷ []) 1 tt k)
      go (Flagged x) q k = absurd (miss (0 ∷ []) 2 tt k)
      go Neither q k = absurd (miss (0 ∷ []) 3 tt k)

  pub found-unsound : OneOf (1 ∷ 2 ∷ 3 ∷ []) (tag_of finding-type f) → SoundTable t → ⊥
  found-unsound k sound = miss (1 ∷ 2 ∷ 3 ∷ []) 0 tt (rw (finding-told_by e ∙ kind_found t Sound sound) at k)

-- ---- the tests, on a source with this header

module _ (t : Table) (h : Header) (headed : Headed t h) where
  good : GoodHeader (length t) (header_of t)
  good = rw headed.own at headed.good

  rest_of : (b : Bool) → b ≡ at_rest h.state → at_rest (header_of t).state ≡ b
  rest_of b e = sym (e ∙ ap (λ (g : Header). at_rest g.state) headed.own)

  pub source_of : SoundTable t → (b : Bool) → b ≡ at_rest h.state → b ≡ true → Source t
  unfolding at_rest
  source_of sound b e f = record { sound = sound; rest = eqb-true _ _ (rest_of b e ∙ f) }

  module _ (s : Table) where
    pub unsound-refused : (SoundTable t → ⊥) → ConvertsAt t s (Err (Rejected NoKind)) s
    unsound-refused no-sound = sym (refuses-unsound t s good no-sound)

    pub resizing-refused : SoundTable t → (b : Bool) → b ≡ at_rest h.state → b ≡ false → ConvertsAt t s (Err (Rejected AlreadyResizing)) s
    unfolding at_rest
    resizing-refused sound b e f = sym (refuses-resizing t s sound (eqb-false _ _ (rest_of b e ∙ f)))

    pub length_refused : Source t → (length s ≡ length t → ⊥) → ConvertsAt t s (Err (Rejected BadCreation)) s
    length_refused source other = sym (refuses_length t s source other)

    pub sound-converted : Source t → length s ≡ length t → (r : Conversion) (v : Table) → ConvertedAt t h r v → ConvertsAt t s r v
    sound-converted source long r v e = e ∙ ap (λ (g : Header). filled_to g (filling t)) headed.own ∙ sym (all_pass t s source long)

-- test 1
module _ (t s : Table) {g : Gate} (e : g ≡ gate_of t (header_test t)) where
  pub header_refused : {r : Refusal} → g ≡ Err r → ConvertsAt t s (Err (Rejected r)) s
  unfolding convert_result convert_tests header_test
  header_refused q = gate_shut t (header_test t) e (λ (r : Refusal). (Err (Rejected r), s)) _ q

pub converts : (t s : Table) (r : Conversion) (v : Table) → ConvertsAt t s r v → Converts t s r t v
converts t s r v e = record { answer = ap (λ (a : Conversion × Table). a.0) e; source = refl; second = ap (λ (a : Conversion × Table). a.1) e }

-- ---- a fresh second table, and what is filled of it

module _ (t : Table) (h : Header) (headed : Headed t h) (source : Source t) (u : Table) (fresh : u ≡ fresh_for h) where
  fresh-own : u ≡ fresh_for (header_of t)
  fresh-own = fresh ∙ ap fresh_for headed.own

  pub fresh-good : GoodHeader (length u) (header_of u)
  fresh-good = rw fresh-own (fresh-empty t source).0.orderly.header

  -- it has the source's length
  pub fresh-long : length u ≡ length t
  fresh-long =
      let header : header_of u ≡ other_header (header_of t) = rw fresh-own (fresh-empty t source).1 in
      fresh-good.long ∙ ap (λ (g : Header). words_for g.c) header ∙ sym source.sound.orderly.header.long

  pub fresh_takes : (to : Header) → to ≡ header_of u → MayTake t to u (items_in t h (slots_in_use h.state))
  unfolding items_in taken_slots
  fresh_takes to e =
      rw headed.own (record {
        map = λ (key : ℕ). none;
        given = rw fresh-own (fresh-given t source);
        header = e;
        apart = ascending-tells _ (taken_slots t) (items_apart t source);
        free = λ x i. refl;
      })

  whole : foldl (with_item t) (filled u) (items_in t h (slots_in_use h.state)) ≡ filling t
  unfolding items_in taken_slots filling
  whole = rw (headed.own, fresh-own)

  module _ (r : Progress) (v : Table) (f : Fills t u (items_in t h (slots_in_use h.state)) r v) where
    pub filled-long : length v ≡ length t
    filled-long = f.long ∙ fresh-long

    pub all-filled : r ≡ Ok tt → ConvertedAt t h (Ok tt) v
    all-filled e = ap (filled_to h) (ap (λ (p : Progress). filling_of p v) (sym e) ∙ f.filling ∙ whole)

    pub one-stuck : (key : ℕ) → r ≡ Err key → (w : Table) → w ≡ fresh_for h → ConvertedAt t h (Err (Stuck key)) w
    one-stuck key e w again = rw again (ap (filled_to h) (ap (λ (p : Progress). filling_of p v) (sym e) ∙ f.filling ∙ whole))
