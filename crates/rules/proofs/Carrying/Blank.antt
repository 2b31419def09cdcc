-- Stores of which nothing is seen: to the words of a free slot, or to words 6 to 8. The table is sound as before, and has the same map.
-- Assumes nothing.
use Prim.Native.Nat.{ℕ, ◌≤◌, ◌<◌}
use mathlib.Core.Path.{◌≡◌, sym, ◌∙◌}
use mathlib.Core.Bool.{true}
use mathlib.Core.List.{List, [], ◌∷◌}
use mathlib.Core.Logic.{◌⊎◌, inl, inr}
use native.Mathlib.Omega.{arith}
use Rattle.rules.specs.Words.{Table, header_of, flag_of, InUse, token_word, key_word, key_in, record_in, token_of, taken}
use Rattle.rules.specs.Stores.{Store, made}
use Rattle.rules.specs.Soundness.{PlainMap}
use Rattle.rules.specs.declared.Slot.{Slot}
use Rattle.rules.proofs.Words.Addresses.{Of, off_token}
use Rattle.rules.proofs.Words.Made.{Each, Misses, made_kept}
use Rattle.rules.proofs.Carrying.Moving.{kept-alone, kept_map}
use Rattle.rules.proofs.Carrying.Touched.{Near, touched, unseen, unseen_orderly}
use Rattle.rules.proofs.Carrying.Putting.{SoundMap}

-- a store to the log, or to a word of slot x
abbrev pub Hidden : Slot → Store → Type 0
Hidden x s = ((6 ≤ s.0) × (s.0 ≤ 8)) ⊎ Of x s.0

module _ (x : Slot) (low : x.slot < 4) where
  hidden_near : (xs : List Store) → Each (Hidden x) xs → Each (λ (s : Store). Near x s.0) xs
  hidden_near [] e = tt
  hidden_near (s ∷ xs) e = (go e.0, hidden_near xs e.1)
    where
      go : Hidden x s → Near x s.0
      go (inl l) = inl (omega arith)
      go (inr o) = inr (inr o)

  -- neither the flag nor a token word
  hidden_misses : (i : ℕ) → ((s : Store) → Hidden x s → i ≡ s.0 → ⊥) → (xs : List Store) → Each (Hidden x) xs → Misses i xs
  hidden_misses i f [] e = tt
  hidden_misses i f (s ∷ xs) e = (f s e.0, hidden_misses i f xs e.1)

  not_flag : (s : Store) → Hidden x s → 5 ≡ s.0 → ⊥
  unfolding key_word token_word
  not_flag s (inl l) e = omega arith
  not_flag s (inr o) e = omega arith

  not_token : (j : ℕ) (s : Store) → Hidden x s → token_word j ≡ s.0 → ⊥
  unfolding token_word
  not_token j s (inl l) e = omega arith
  not_token j s (inr o) e = off_token x j s.0 low o (sym e)

module _ (t : Table) (m : PlainMap) (whole : SoundMap t m) (x : Slot) (here : InUse (header_of t).state x) where
  pub blank-sound : (xs : List Store) → Each (Hidden x) xs
      → (taken t (header_of t) x ≡ true → (key_in (made t xs) x ≡ key_in t x) × (record_in (made t xs) x ≡ record_in t x)) → SoundMap (made t xs) m
  unfolding token_of flag_of
  blank-sound xs hidden same =
      let o = whole.sound.orderly in
      let u = made t xs in
      let near = touched x here.slot t xs (hidden_near x here.slot xs hidden) in
      let token : token_of u x.bucket ≡ token_of t x.bucket =
      made_kept t xs (token_word x.bucket) (hidden_misses x here.slot _ (not_token x here.slot x.bucket) xs hidden) in
      let flag : flag_of u ≡ 0 = made_kept t xs 5 (hidden_misses x here.slot 5 (not_flag x here.slot) xs hidden) ∙ o.flag in
      let good = o.header.state in
      let carried = unseen (header_of t).c t u x near good here token same in
      let orderly = unseen_orderly (header_of t).c t u x near good here token same 0 0 o flag in
      record {
        sound = record { orderly = orderly; alone = kept-alone t u _ orderly.header.state m whole.map carried whole.sound.alone };
        map = kept_map t u _ orderly.header.state m whole.map carried;
      }
