-- "Recovery accepts exactly three kinds of table": what recovery finds is the table's kind, and a table is of one kind only.
-- Assumes nothing.
use Prim.Native.Nat.{ℕ, ◌≤◌}
use mathlib.Core.Path.{◌≡◌, refl, sym, ap, ◌∙◌}
use mathlib.Core.Bool.{Bool, true, false, cond}
use mathlib.Core.List.Memᴰ
use mathlib.Core.List.Memᴰ.{head as here}
use mathlib.Core.List.Memᴰ.{tail as there}
use mathlib.Core.List.{List, [], ◌∷◌, Memᴰ as In}
use mathlib.Core.Logic.Iff
use mathlib.Core.Logic.{◌⊎◌, inl, inr}
use mathlib.Core.Option.{Option, none, some}
use native.Mathlib.Omega.{arith}
use lib.ListN.{length}
use borrow.Author.Tests.{le-leb}
use Rattle.rules.specs.Choice.{all, empty}
use Rattle.rules.specs.Words.{Table, header_of, GoodHeader, logged_of, key_in, record_in, token_of, target_of, token_word, key_word}
use Rattle.rules.specs.Stores.{clear_stores, redo_stores}
use Rattle.rules.specs.Soundness.{orderly_tests, twins, TakenSlot, OrderlyTable, SoundTable, DoubledTable, FlaggedTable, same_record, when_still}
use Rattle.rules.specs.Soundness.{target, when_flagged, finding}
use Rattle.rules.specs.Calls.{header_good, list_long, refused, listed, recover_tests, recover_of, recover, outcome}
use Rattle.rules.specs.Demands.{OfNoKind, RecoverAnswers, RecoveryAccepts}
use Rattle.rules.specs.declared.Slot.{Slot}
use Rattle.rules.specs.declared.Record.{Record}
use Rattle.rules.specs.declared.Finding.{Finding}
use Rattle.rules.specs.declared.Finding.TheVariants.{Sound, Doubled, Flagged, Neither}
use Rattle.rules.specs.declared.Refusal.TheVariants.{NoKind}
use Rattle.rules.proofs.Basics.Lists.{never, NoRepeat}
use Rattle.rules.proofs.Basics.Tests.{Tells, tells_eq, tells_and}
use Rattle.rules.proofs.Words.Headers.{header_passes}
use Rattle.rules.proofs.Places.PlacesInUse.{slot_by_bucket}
use Rattle.rules.proofs.Tables.Twins.{before_once, before-apart, taken_in_lem, in_taken, Twins, twins-ordered, twins-all, twins-apart, same_or_twins}
use Rattle.rules.proofs.Words.Addresses.{key-word-one}
use Rattle.rules.proofs.Tables.Targets.{target-some, target_missed}
use Rattle.rules.proofs.Tables.Sound.{alone-tells, orderly-tells}

-- what a finding says of the table
abbrev pub KindOf : Table → Finding → Type 0
KindOf t Sound = SoundTable t
KindOf t (Doubled x y) = DoubledTable t x y
KindOf t (Flagged x) = FlaggedTable t x
KindOf t Neither = OfNoKind t

same_record_lem : (r s : Record) → Tells (same_record r s) (r ≡ s)
unfolding same_record
same_record_lem r s =
    Iff.trans (tells_and _ _ (tells_eq _ _) (tells_and _ _ (tells_eq _ _) Iff.rfl))
    (λ e. λ i. record { function = e.0 i; place = e.1.0 i }, λ e. (ap (λ (z : Record). z.function) e, (ap (λ (z : Record). z.place) e, refl)))

module _ (t : Table) where
  -- a table has one flag
  flags_apart : {A : Type 0} → OrderlyTable 0 t → OrderlyTable 1 t → A
  flags_apart a b = absurd (omega (arith, a.flag, b.flag))

  -- the pair of a doubled table, among its pairs and the only one
  doubled_pair : (x y : Slot) → DoubledTable t x y → In {A = Slot × Slot} (x, y) (twins t)
  doubled_pair x y d = twins-all t x y (record { first = d.first; later = d.later; key = d.key; order = d.order })

  doubled-only : (x y : Slot) → DoubledTable t x y → (u : Slot × Slot) → In u (twins t) → u ≡ (x, y)
  doubled-only x y d u i = go (d.only u.0 u.1 w.first w.later w.key)
    where
      w : Twins t u.0 u.1
      w = twins-ordered t u.0 u.1 i

      go : (u.0 ≡ u.1) ⊎ (((u.0 ≡ x) × (u.1 ≡ y)) ⊎ ((u.0 ≡ y) × (u.1 ≡ x))) → u ≡ (x, y)
      go (inl e) = absurd (before-apart u.0 u.1 w.order e)
      go (inr (inl (e, f))) = λ j. (e j, f j)
      go (inr (inr (e, f))) = absurd (before_once x y d.order (rw (e, f) at w.order))

  -- where there is a pair some key stands twice
  not_alone : (p : Slot × Slot) (l : List (Slot × Slot)) → twins t ≡ p ∷ l → ((x y : Slot) → TakenSlot t x → TakenSlot t y → key_in t x ≡ key_in t y → x ≡ y) → ⊥
  not_alone p l q f = never ((alone-tells t).1 f) (ap empty q)

  one_pair : OrderlyTable 0 t → (p : Slot × Slot) → twins t ≡ p ∷ [] → record_in t p.0 ≡ record_in t p.1 → DoubledTable t p.0 p.1
  one_pair o p q e =
      let w = twins-ordered t p.0 p.1 (rw q (here refl)) in
      record {
        orderly = o;
        first = w.first;
        later = w.later;
        order = w.order;
        key = w.key;
        equal = e;
        only =
            λ a b u v k. go a b (same_or_twins t a b u v k);
      }
    where
      go : (a b : Slot) → (a ≡ b) ⊎ (In {A = Slot × Slot} (a, b) (twins t) ⊎ In {A = Slot × Slot} (b, a) (twins t))
          → (a ≡ b) ⊎ (((a ≡ p.0) × (b ≡ p.1)) ⊎ ((a ≡ p.1) × (b ≡ p.0)))
      go a b (inl e) = inl e
      go a b (inr (inl i)) =
          let k : (a, b) ≡ p = Memᴰ.eq_of_singleton (rw q at i) in
          inr (inl (ap (λ (z : Slot × Slot). z.0) k, ap (λ (z : Slot × Slot). z.1) k))
      go a b (inr (inr i)) =
          let k : (b, a) ≡ p = Memᴰ.eq_of_singleton (rw q at i) in
          inr (inr (ap (λ (z : Slot × Slot). z.1) k, ap (λ (z : Slot × Slot). z.0) k))

  -- of no kind with flag 0: there is a pair, and the table is not doubled; with another flag: it is not flagged
  no_kind_still : OrderlyTable 0 t → (p : Slot × Slot) (l : List (Slot × Slot)) → twins t ≡ p ∷ l → ((x y : Slot) → DoubledTable t x y → ⊥) → OfNoKind t
  no_kind_still o p l q n = record { unsound = λ s. not_alone p l q s.alone; undoubled = n; unflagged = λ x f. flags_apart o f.orderly }

  no_kind_flagged : (OrderlyTable 0 t → ⊥) → ((x : Slot) → FlaggedTable t x → ⊥) → OfNoKind t
  no_kind_flagged o n = record { unsound = λ s. o s.orderly; undoubled = λ x y d. o d.orderly; unflagged = n }

  still_kind : OrderlyTable 0 t → (l : List (Slot × Slot)) → twins t ≡ l → KindOf t (when_still t l)
  still_kind o [] q = record { orderly = o; alone = (alone-tells t).0 (ap empty q) }
  still_kind o (p ∷ []) q = go (same_record (record_in t p.0) (record_in t p.1)) refl
    where
      go : (b : Bool) → same_record (record_in t p.0) (record_in t p.1) ≡ b → KindOf t (cond b (Doubled p.0 p.1) Neither)
      go true e = one_pair o p q ((same_record_lem _ _).0 e)
      go false e =
          no_kind_still o p [] q
          (λ x y d.
          let k : p ≡ (x, y) = doubled-only x y d p (rw q (here refl)) in
          never ((same_record_lem _ _).1 (rw k d.equal)) e)
  still_kind o (p ∷ (r ∷ rest)) q =
      no_kind_still o p (r ∷ rest) q
      (λ x y d.
      let apart : NoRepeat (p ∷ (r ∷ rest)) = rw q at (twins-apart t) in
      apart.0 r (here refl) (doubled-only x y d p (rw q (here refl)) ∙ sym (doubled-only x y d r (rw q (there (here refl))))))

  flagged_kind : (OrderlyTable 0 t → ⊥) → OrderlyTable 1 t → (x : Option Slot) (l : List (Slot × Slot)) → target t ≡ x → twins t ≡ l
      → KindOf t (when_flagged x l)
  unfolding target_of key_word token_word
  flagged_kind n o (some x) [] e q =
      let r = target-some t x e in
      record { orderly = o; alone = (alone-tells t).0 (ap empty q); named = taken_in_lem t x r.0; target = r.1 }
  flagged_kind n o (some x) (p ∷ rest) e q = no_kind_flagged n (λ y f. not_alone p rest q f.alone)
  flagged_kind n o none l e q = no_kind_flagged n (λ y f. target_missed t e y (in_taken t y f.named) f.target)

pub finding-means : (t : Table) → KindOf t (finding t)
unfolding finding
finding-means t = go (all (orderly_tests 0 t)) (all (orderly_tests 1 t)) refl refl
  where
    go : (a b : Bool) → all (orderly_tests 0 t) ≡ a → all (orderly_tests 1 t) ≡ b
        → KindOf t (cond a (when_still t (twins t)) (cond b (when_flagged (target t) (twins t)) Neither))
    go true b p q = still_kind t ((orderly-tells t 0).0 p) (twins t) refl
    go false true p q = flagged_kind t (λ o. never ((orderly-tells t 0).1 o) p) ((orderly-tells t 1).0 q) (target t) (twins t) refl refl
    go false false p q = no_kind_flagged t (λ o. never ((orderly-tells t 0).1 o) p) (λ x f. never ((orderly-tells t 1).1 f.orderly) q)

-- ---- a table is of one kind

module _ (t : Table) where
  sound-undoubled : {A : Type 0} (x y : Slot) → SoundTable t → DoubledTable t x y → A
  sound-undoubled x y s d = absurd (before-apart x y d.order (s.alone x y d.first d.later d.key))

  doubled-one : (x y v w : Slot) → DoubledTable t x y → DoubledTable t v w → Doubled x y ≡ Doubled v w
  doubled-one x y v w a b = let k = doubled-only t v w b (x, y) (doubled_pair t x y a) in λ i. Doubled (k i).0 (k i).1

  flagged-one : (x y : Slot) → FlaggedTable t x → FlaggedTable t y → Flagged x ≡ Flagged y
  unfolding key_word token_word
  flagged-one x y a b =
      let k = key-word-one x y a.named.used.slot b.named.used.slot (sym a.target ∙ b.target) in
      ap Flagged (slot_by_bucket (header_of t).state (header_of t).c a.orderly.header.state x y a.named.used b.named.used k.0 k.1)

  kinds_one : (f g : Finding) → KindOf t f → KindOf t g → f ≡ g
  kinds_one Sound Sound a b = refl
  kinds_one Sound (Doubled x y) a b = sound-undoubled x y a b
  kinds_one Sound (Flagged x) a b = flags_apart t a.orderly b.orderly
  kinds_one Sound Neither a b = absurd (b.unsound a)
  kinds_one (Doubled x y) Sound a b = sound-undoubled x y b a
  kinds_one (Doubled x y) (Doubled v w) a b = doubled-one x y v w a b
  kinds_one (Doubled x y) (Flagged v) a b = flags_apart t a.orderly b.orderly
  kinds_one (Doubled x y) Neither a b = absurd (b.undoubled x y a)
  kinds_one (Flagged x) Sound a b = flags_apart t b.orderly a.orderly
  kinds_one (Flagged x) (Doubled v w) a b = flags_apart t b.orderly a.orderly
  kinds_one (Flagged x) (Flagged y) a b = flagged-one x y a b
  kinds_one (Flagged x) Neither a b = absurd (b.unflagged x a)
  kinds_one Neither Sound a b = absurd (a.unsound b)
  kinds_one Neither (Doubled x y) a b = absurd (a.undoubled x y b)
  kinds_one Neither (Flagged x) a b = absurd (a.unflagged x b)
  kinds_one Neither Neither a b = refl

  -- so recovery finds the kind that a table is of
  pub kind_found : (f : Finding) → KindOf t f → finding t ≡ f
  kind_found f k = kinds_one (finding t) f (finding-means t) k

  -- ---- the call

  -- where its tests pass, recovery answers by what it finds
  pub recover_passes : (n : ℕ) → GoodHeader (length t) (header_of t) → 20 ≤ n → outcome t n recover ≡ recover_of t (header_of t) (finding t)
  unfolding outcome recover_tests header_good list_long
  recover_passes n g l = rw (header_passes (length t) (header_of t) g, le-leb 20 n l)

pub recovery_accepts : RecoveryAccepts
recovery_accepts t n g l = go (finding t) (finding-means t) (recover_passes t n g l)
  where
    go : (f : Finding) → KindOf t f → outcome t n recover ≡ recover_of t (header_of t) f
        → (SoundTable t × (outcome t n recover ≡ listed []))
        ⊎ (((x : Slot) × (y : Slot) × DoubledTable t x y × (outcome t n recover ≡ listed (clear_stores (header_of t) (token_of t y.bucket) y)))
        ⊎ (((x : Slot) × FlaggedTable t x × (outcome t n recover ≡ listed (redo_stores x (logged_of t))))
        ⊎ (OfNoKind t × (outcome t n recover ≡ refused NoKind))))
    go Sound k e = inl (k, e)
    go (Doubled x y) k e = inr (inl (x, y, k, e))
    go (Flagged x) k e = inr (inr (inl (x, k, e)))
    go Neither k e = inr (inr (inr (k, e)))

pub recover_answers : RecoverAnswers
recover_answers t m n g = recover_passes t n g.sound.orderly.header g.room ∙ ap (recover_of t (header_of t)) (kind_found t Sound g.sound)
