-- Stores written one after the other are written as one run, and a run from the front is what the rules call written.
-- Assumes nothing.
use Prim.Native.Nat.{ℕ, suc, ◌+◌, ◌*◌, ◌≤◌, ◌<◌}
use mathlib.Core.Path.{◌≡◌, refl, ap, ◌∙◌}
use mathlib.Core.List.{List, [], ◌∷◌, ◌++◌}
use native.Mathlib.Nat.{add-zero, zero-add}
use native.Mathlib.Omega.{arith}
use lib.ListN.{length, set}
use lib.Seq.{sets, sets-eq, set_comm}
use Rattle.rules.specs.Forms.{tag_of}
use Rattle.rules.specs.Words.{mark, show, hide}
use Rattle.rules.specs.Stores.{Store, flat, written}
use Rattle.rules.specs.declared.Header.{Header}
use Rattle.listing.specs.Listing.{Room, listed_at}

flat_append : (xs ys : List Store) → flat (xs ++ ys) ≡ flat xs ++ flat ys
flat_append [] ys = refl
flat_append (x ∷ xs) ys = rw (flat_append xs ys)

flat_length : (xs : List Store) → length (flat xs) ≡ 2 * length xs
flat_length [] = refl
flat_length (x ∷ xs) = let e = flat_length xs in omega arith

sets_append : (l : List ℕ) (i : ℕ) (xs ys : List ℕ) → sets l i (xs ++ ys) ≡ sets (sets l i xs) (i + length xs) ys
sets_append l i [] ys = rw add-zero
sets_append l i (x ∷ xs) ys =
    let e : suc i + length xs ≡ i + suc (length xs) = omega arith in
    rw (← e) (sets_append (set l i x) (suc i) xs ys)

-- pair n of a list: its words are 2n and 2n + 1
pub one_pair : (l : List ℕ) (n index word : ℕ) → set (set l (2 * n) index) (2 * n + 1) word ≡ listed_at l n ((index, word) ∷ [])
unfolding listed_at
one_pair l n index word = let e : 2 * n + 1 ≡ suc (2 * n) = omega arith in rw e

pub then : (l : List ℕ) (n : ℕ) (xs ys : List Store) {m : ℕ} {l₁ l₂ : List ℕ} → l₁ ≡ listed_at l n xs → m ≡ n + length xs → l₂ ≡ listed_at l₁ m ys
    → l₂ ≡ listed_at l n (xs ++ ys)
unfolding listed_at
then l n xs ys e p f =
    let q : 2 * (n + length xs) ≡ 2 * n + length (flat xs) = omega (arith, flat_length xs) in
    rw (f, e, p, q, flat_append xs ys, sets_append l (2 * n) (flat xs) (flat ys))

-- from the front
pub front : (l : List ℕ) (xs : List Store) → Room l (length xs) → listed_at l 0 xs ≡ written xs l
unfolding listed_at written
front l xs h =
    let k : 0 + length (flat xs) ≤ length l = omega (arith, flat_length xs) in
    rw (sets-eq (flat xs) l 0 k, zero-add, flat_length xs)

-- ---- pairs written from the last to the first

set_before : (ws l : List ℕ) (i j x : ℕ) → i < j → set (sets l j ws) i x ≡ sets (set l i x) j ws
set_before [] l i j x h = refl
set_before (w ∷ ws) l i j x h =
    set_before ws (set l j w) i (suc j) x (omega arith)
    ∙ ap (λ (k : List ℕ). sets k (suc j) ws) (set_comm l j i w x (λ e. absurd (omega arith)))

-- pair i after those behind it
pub pair_before : (l : List ℕ) (i : ℕ) (x : Store) (xs : List Store) → listed_at (listed_at l (i + 1) xs) i (x ∷ []) ≡ listed_at l i (x ∷ xs)
unfolding listed_at
pair_before l i x xs =
    let e : 2 * (i + 1) ≡ suc (suc (2 * i)) = omega arith in
    rw e
    (ap (λ (k : List ℕ). set k (suc (2 * i)) x.1) (set_before (flat xs) l (2 * i) (suc (suc (2 * i))) x.0 (omega arith))
    ∙ set_before (flat xs) (set l (2 * i) x.0) (suc (2 * i)) (suc (suc (2 * i))) x.1 (omega arith))

-- ---- three and four stores in a row

module _ (l : List ℕ) (n : ℕ) (a b c : Store) {l₁ l₂ l₃ : List ℕ} {n₁ n₂ n₃ : ℕ}
    (s₁ : (n₁ ≡ n + 1) × (l₁ ≡ listed_at l n (a ∷ []))) (s₂ : (n₂ ≡ n₁ + 1) × (l₂ ≡ listed_at l₁ n₁ (b ∷ [])))
    (s₃ : (n₃ ≡ n₂ + 1) × (l₃ ≡ listed_at l₂ n₂ (c ∷ []))) where
  two : l₂ ≡ listed_at l n (a ∷ b ∷ [])
  two = then l n (a ∷ []) (b ∷ []) s₁.1 s₁.0 s₂.1

  pub three : (n₃ ≡ n + 3) × (l₃ ≡ listed_at l n (a ∷ b ∷ c ∷ []))
  three = (omega (arith, s₁.0, s₂.0, s₃.0), then l n (a ∷ b ∷ []) (c ∷ []) two (omega (arith, s₁.0, s₂.0)) s₃.1)

  pub four : (d : Store) {l₄ : List ℕ} {n₄ : ℕ} → (n₄ ≡ n₃ + 1) × (l₄ ≡ listed_at l₃ n₃ (d ∷ [])) → (n₄ ≡ n + 4) × (l₄ ≡ listed_at l n (a ∷ b ∷ c ∷ d ∷ []))
  four d s₄ = (omega (arith, three.0, s₄.0), then l n (a ∷ b ∷ c ∷ []) (d ∷ []) three.1 three.0 s₄.1)

-- the token word with a slot shown, by the tag of its key
pub shown_with : (h : Header) (w s key : ℕ) {tag v : ℕ} → tag ≡ tag_of h key → v ≡ hide h w s + mark s 1 tag → v ≡ show h w s key
unfolding show
shown_with h w s key e f = rw (f, e)
