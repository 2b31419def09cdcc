-- No second result and no second buffer satisfies what `say` and `say_at` promise.
-- Assumes nothing.
use Prim.Native.Nat.{ℕ}
use mathlib.Core.Path.{◌≡◌, sym, ap, ◌∙◌}
use mathlib.Core.List.{List, ◌++◌}
use lib.ListN.{drop, take-append-drop}
use Rattle.replaying.specs.declared.Answer.{Answer}
use Rattle.saying.specs.Texts.{text_of}
use Rattle.saying.specs.Promises.{Said}
use Rattle.saying.specs.Writing.{Put}

module _ (answer : Answer) (l : List ℕ) where
  -- the promise gives the buffer whole
  whole : {r : ℕ} {m : List ℕ} → Said answer l r m → m ≡ text_of answer ++ drop r l
  whole {r} {m} p = sym (take-append-drop r m) ∙ rw (p.text, p.rest)

  pub said-one : {r s : ℕ} {m n : List ℕ} → Said answer l r m → Said answer l s n → (r ≡ s) × (m ≡ n)
  said-one {r} {s} {m} {n} p q =
      let e : r ≡ s = p.size ∙ sym q.size in
      (e, whole p ∙ ap (λ (i : ℕ). text_of answer ++ drop i l) e ∙ sym (whole q))

pub said_at_one : (answer : Answer) (at : ℕ) (l : List ℕ) {r s : ℕ} {m n : List ℕ} → Put (text_of answer) at l r m → Put (text_of answer) at l s n
    → (r ≡ s) × (m ≡ n)
said_at_one answer at l p q = (p.next ∙ sym q.next, p.buffer ∙ sym q.buffer)
