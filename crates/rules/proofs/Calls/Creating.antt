-- create: "13 | c, first k (1 to c), length or a multiplier bad", or the form, and exactly then; else "Creation zeroes all words and writes
-- the header", and the table is sound, at rest with that k, and empty.
-- Assumes nothing.
use Prim.Native.Nat.{ℕ, zero, suc, ◌+◌, ◌-◌, ◌*◌, ◌/◌, ◌%◌, ◌≤◌, ◌<◌}
use mathlib.Core.Path.{◌≡◌, refl, sym, ap, ◌∙◌}
use mathlib.Core.Bool.{Bool, true, false, cond}
use mathlib.Core.List.{[]}
use mathlib.Core.Logic.{◌⊎◌, inl, inr}
use mathlib.Core.Option.{none}
use native.Mathlib.Omega.{arith}
use lib.ListN.{length, replicate, length-replicate}
use lib.Seq.{get_or-drop}
use borrow.Author.Tests.{leb-true, le-leb, eqb-true, eq-eqb}
use Rattle.rules.specs.Choice.{all}
use Rattle.rules.specs.Words.{Table, word, words_for, odd, capacity_tests, state_of, state_word, header_of, GoodHeader, flag_of, token_of, token_word}
use Rattle.rules.specs.Words.{keys_of, taken, meant_of}
use Rattle.rules.specs.Answers.{verdict_means}
use Rattle.rules.specs.Results.{create_tests, created, create_result}
use Rattle.rules.specs.Soundness.{SoundTable, TakenSlot, HasMap}
use Rattle.rules.specs.Demands.{GoodCreation, CreatedWords, CreateAnswers, CreatedIsEmpty}
use Rattle.rules.specs.declared.Slot.{Slot}
use Rattle.rules.specs.declared.Refusal.TheVariants.{BadCreation}
use Rattle.rules.specs.Answers.{Verdict}
use Rattle.std.specs.Prelude.{Ok, Err}
use Rattle.rules.proofs.Basics.Lists.{never, not_some}
use Rattle.rules.proofs.Words.Forms.{good-form, form_passes}
use Rattle.rules.proofs.Words.Tokens.{zero_meant, zero_free}
use Rattle.rules.proofs.Basics.Tests.{Tells, all_yes}

module _ (size form c k mul1 mul2 : ℕ) where
  pub good_creation : Tells (all (create_tests size form c k mul1 mul2)) (GoodCreation size form c k mul1 mul2)
  unfolding create_tests capacity_tests odd words_for
  good_creation = (
    λ e.
        let y = all_yes (create_tests size form c k mul1 mul2) e in
        let z = all_yes (capacity_tests c) (y 1) in
        record {
          forms = good-form form (y 0);
          capacity = (leb-true _ _ (z 0), leb-true _ _ (z 1));
          exponent = (leb-true _ _ (y 2), leb-true _ _ (y 3));
          long = eqb-true _ _ (y 4);
          odd1 = eqb-true _ _ (y 5);
          odd2 = eqb-true _ _ (y 6);
        },
    λ g. rw (
      form_passes form g.forms,
      le-leb _ _ g.capacity.0,
      le-leb _ _ g.capacity.1,
      le-leb _ _ g.exponent.0,
      le-leb _ _ g.exponent.1,
      eq-eqb _ _ g.long,
      eq-eqb _ _ g.odd1,
      eq-eqb _ _ g.odd2,
    ),
  )

  zeros-read : (n i : ℕ) → word (replicate n 0) i ≡ 0
  zeros-read zero i = refl
  zeros-read (suc n) zero = refl
  zeros-read (suc n) (suc i) = zeros-read n i

  past_header : (i : ℕ) → 5 ≤ i → word (created form c k mul1 mul2) i ≡ 0
  unfolding created
  past_header i h =
      let whole = created form c k mul1 mul2 in
      let n : i ≡ 5 + (i - 5) = omega arith in
      ap (word whole) n ∙ sym (get_or-drop 5 whole (i - 5) 0) ∙ zeros-read (words_for c - 5) (i - 5)

  pub created-words : GoodCreation size form c k mul1 mul2 → CreatedWords size form c k mul1 mul2 (created form c k mul1 mul2)
  unfolding created state_word words_for
  created-words g =
      let rest : length (replicate {A = ℕ} (words_for c - 5) 0) ≡ words_for c - 5 = length-replicate (words_for c - 5) 0 in
      record {
        long = omega (arith, rest, g.long);
        form = refl;
        capacity = refl;
        multiplier1 = refl;
        multiplier2 = refl;
        state = omega arith;
        zeros = past_header;
      }

-- the verdict and the words at exit
abbrev CreatedBy : Table → ℕ → ℕ → ℕ → ℕ → ℕ → Verdict × Table → Type 0
CreatedBy t form c k mul1 mul2 r =
    (GoodCreation (length t) form c k mul1 mul2 × (verdict_means r.0 ≡ record { number = 0; values = [] })
    × CreatedWords (length t) form c k mul1 mul2 r.1)
    ⊎ ((GoodCreation (length t) form c k mul1 mul2 → ⊥) × (verdict_means r.0 ≡ record { number = 13; values = [] }) × (r.1 ≡ t))

pub create_answers : CreateAnswers
unfolding create_result
create_answers t form c k mul1 mul2 = go (all (create_tests (length t) form c k mul1 mul2)) (good_creation (length t) form c k mul1 mul2)
  where
    go : (b : Bool) → Tells b (GoodCreation (length t) form c k mul1 mul2)
        → CreatedBy t form c k mul1 mul2 (cond b (Ok tt, created form c k mul1 mul2) (Err BadCreation, t))
    go true tells = let g = tells.0 refl in inl (g, refl, created-words (length t) form c k mul1 mul2 g)
    go false tells = inr (λ g. never (tells.1 g) refl, refl, refl)

-- ---- a created table

module _ (form c k mul1 mul2 : ℕ) (u : Table) (good : GoodCreation (length u) form c k mul1 mul2) (made : CreatedWords (length u) form c k mul1 mul2 u) where
  -- words 0 to 4, decoded
  created-header : header_of u ≡ record { form = form; c = c; mul1 = mul1; mul2 = mul2; state = record { k = k; phase = 0 } }
  unfolding header_of state_of
  created-header =
      let small : k < 256 = omega (arith, good.capacity.1, good.exponent.1) in
      let rest : word u 4 % 256 ≡ k = omega (arith, made.state) in
      let phase : word u 4 / 256 ≡ 0 = omega (arith, made.state) in
      λ i. record {
        form = made.form i;
        c = made.capacity i;
        mul1 = made.multiplier1 i;
        mul2 = made.multiplier2 i;
        state =
            record { k = rest i; phase = phase i };
      }

  header-good : GoodHeader (length u) (header_of u)
  unfolding words_for
  header-good = rw created-header (record {
    capacity = good.capacity;
    long = good.long;
    form = good.forms;
    odd1 = good.odd1;
    odd2 = good.odd2;
    state =
        inl (refl, good.exponent.0, good.exponent.1);
  })

  no_token : (j : ℕ) → token_of u j ≡ 0
  unfolding token_of token_word
  no_token j = made.zeros (9 + 13 * j) (omega arith)

  none-taken : (x : Slot) → TakenSlot u x → ⊥
  unfolding taken
  none-taken x s = never s.shown (rw (no_token x.bucket) (zero_free (header_of u) x.slot))

  created-sound : SoundTable u
  unfolding flag_of meant_of
  created-sound =
      record {
        orderly = record {
          header = header-good;
          flag = made.zeros 5 (omega arith);
          tidied = λ j h. rw (no_token j) (zero_meant (header_of u) (keys_of u j));
          unused = λ j h d. no_token j;
          placed = λ x s. absurd (none-taken x s);
        };
        alone = λ x y s v e. absurd (none-taken x s);
      }

pub created_is_empty : CreatedIsEmpty
unfolding create_result
created_is_empty t u form c k mul1 mul2 e = go (all (create_tests (length t) form c k mul1 mul2)) (good_creation (length t) form c k mul1 mul2) e
  where
    Begun : Type 0
    Begun = SoundTable u × (header_of u ≡ record { form = form; c = c; mul1 = mul1; mul2 = mul2; state = record { k = k; phase = 0 } })
        × HasMap u (λ (key : ℕ). none)

    empty : (size : ℕ) → size ≡ length u → GoodCreation size form c k mul1 mul2 → CreatedWords size form c k mul1 mul2 u → Begun
    empty size n g f =
        let g = rw n at g in
        let f = rw n at f in (
          created-sound form c k mul1 mul2 u g f,
          created-header form c k mul1 mul2 u g f,
          record { stands = λ x s. absurd (none-taken form c k mul1 mul2 u g f x s); only = λ key r e. not_some e },
        )

    go : (b : Bool) → Tells b (GoodCreation (length t) form c k mul1 mul2)
        → cond {A = Verdict × Table} b (Ok tt, created form c k mul1 mul2) (Err BadCreation, t) ≡ (Ok tt, u)
        → Begun
    go true tells e =
        let g = tells.0 refl in
        let f : CreatedWords (length t) form c k mul1 mul2 u = rw (ap (λ (r : Verdict × Table). r.1) e) at (created-words (length t) form c k mul1 mul2 g) in
        empty (length t) (sym f.long) g f
    go false tells e = absurd (let z : ◌≡◌ {A = Verdict} (Err BadCreation) (Ok tt) = ap (λ (r : Verdict × Table). r.0) e in let y : ◌≡◌ {A = ℕ} 0 1 =
        cc in omega arith)
