-- A text is put, and texts that are put one after the other are put as one text.
-- Assumes nothing.
use Prim.Native.Nat.{ℕ, suc, ◌+◌, ◌≤◌}
use mathlib.Core.Path.{◌≡◌, refl, sym, ap, ◌∙◌}
use mathlib.Core.List.{List, [], ◌∷◌, ◌++◌, append_assoc}
use native.Mathlib.Nat.{add-zero, zero-add}
use native.Mathlib.Omega.{arith}
use lib.ListN.{length, take, set, length-append}
use lib.Seq.{sets, length-sets, length-take-le, sets-eq, take_at}
use borrow.Rule.Slice.PartMut.{put_mid}
use Rattle.std.proofs.lemmas.Slice.{put_mid-paste}
use Rattle.std.proofs.lemmas.List.Edits.{paste_all}
use Rattle.saying.specs.Writing.{put_at, Put, PutFront, Fronted}

sets_append : (l : List ℕ) (at : ℕ) (xs ys : List ℕ) → sets l at (xs ++ ys) ≡ sets (sets l at xs) (at + length xs) ys
sets_append l at [] ys = rw add-zero
sets_append l at (x ∷ xs) ys =
    let e : suc at + length xs ≡ at + suc (length xs) = omega arith in
    rw (← e) (sets_append (set l at x) (suc at) xs ys)

-- ---- a copy

pub copied : (l : List ℕ) (at : ℕ) (text : List ℕ) {k : ℕ} {put : List ℕ} → at + length text ≤ length l → k ≡ length text → put ≡ text
    → Put text at l (at + length text) (put_mid at k l put)
unfolding put_at
copied l at text {k} {put} room e same =
    let whole = put_mid-paste at k l put text (length text) same (sym e) refl ∙ paste_all l at text (length text) refl in
    record { room = room; next = refl; buffer = whole ∙ sym (append_assoc (take at l) text _) ∙ sym (sets-eq text l at room) }

-- ---- one text after the other

pub put_length : {text : List ℕ} {at r : ℕ} {l m : List ℕ} → Put text at l r m → length m ≡ length l
unfolding put_at
put_length {text} {at} {l = l} p = rw p.buffer (length-sets l at text)

pub then : {xs ys : List ℕ} {at r₁ r₂ : ℕ} {l m₁ m₂ : List ℕ} → Put xs at l r₁ m₁ → Put ys r₁ m₁ r₂ m₂ → Put (xs ++ ys) at l r₂ m₂
unfolding put_at
then {xs} {ys} {at} {l = l} p q =
    let same = put_length p in
    record {
      room = simp length-append (omega arith);
      next = simp length-append (omega arith);
      buffer = rw (q.buffer, p.buffer, p.next, sets_append l at xs ys);
    }

-- what stands before the next free byte
pub put-text : {text : List ℕ} {at r : ℕ} {l m : List ℕ} → Put text at l r m → take r m ≡ take at l ++ text
unfolding put_at
put-text {text} {at} {l = l} p =
    let size : length (take at l ++ text) ≡ at + length text = length-append (take at l) text
    ∙ ap (λ (n : ℕ). n + length text) (length-take-le at l (omega (arith, p.room))) in
    rw (p.buffer, sets-eq text l at p.room, p.next) (take_at (take at l ++ text) _ _ size)

-- ---- what is put has its place

module _ {text : List ℕ} {from n : ℕ} {l m : List ℕ} (p : Put text from l n m) where
  pub put-fits : n ≤ length m
  put-fits = omega (arith, p.room, p.next, put_length p)

  pub put-lent : n ≡ length (take n m)
  put-lent = sym (length-take-le n m put-fits)

-- ---- a text at the front

pub put_front : {text l m : List ℕ} {r : ℕ} → Put text 0 l r m → PutFront text l r m
put_front p = record { put = p; within = (put-fits p, put-lent p) }

pub front-text : {text l m : List ℕ} {r : ℕ} → Put text 0 l r m → Fronted m text
front-text p = rw (p.next ∙ zero-add _) at (put-text p)
