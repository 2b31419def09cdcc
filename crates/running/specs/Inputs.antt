-- How a program reads an input that comes in parts, of any sizes and any number, whatever it makes of them: S is where it can stand, `take_part` is what
-- a part makes of that, and `known` says whether all that it will write is known there.
-- Assumes nothing.
use Rattle.std.specs.Prelude.{ℕ, ◌+◌, ◌^◌, ◌≤◌, ◌<◌, ◌≡◌, Bool, true, false, List, [], ◌++◌, ◌⊎◌, length, take}
use Rattle.running.specs.Runs.{Behind}
use Rattle.running.specs.declared.Outcome.{Outcome}
use Rattle.running.specs.declared.Outcome.TheVariants.{Going, Known, Ended, Unread}

-- what was read is taken, all of it: some bytes where the program goes on, and none where the input has ended. x is where it stood, and u where
-- it stands then
pub record Took {S : Type 0} (take_part : S → List ℕ → S) (x : S) (part : List ℕ) (outcome : Outcome) (u : S) : Type 0 where
  pub stand : u ≡ take_part x part
  pub some : outcome ≡ Going → 0 < length part
  pub ended : outcome ≡ Ended → length part ≡ 0
  pub other : (outcome ≡ Known → ⊥) × (outcome ≡ Unread → ⊥)

-- nothing is read where all is known. Else the read fails, and nothing is taken; or some bytes stand at the front of the input, as many as `read`
-- answers, and they are taken
pub record ReadSome {S : Type 0} (take_part : S → List ℕ → S) (known : S → Bool) (x : S) (input : List ℕ) (outcome : Outcome) (u : S) : Type 0 where
  pub stops : known x ≡ true → (outcome ≡ Known) × (u ≡ x)
  pub reads : known x ≡ false → ((outcome ≡ Unread) × (u ≡ x)) ⊎ ((n : ℕ) × (n ≤ length input) × Took take_part x (take n input) outcome u)

-- all parts are taken, in their order. All is said to be known only where it is, and the program stops while it could go on only behind
-- 2^64 − 1 bytes or more
pub record Ran {S : Type 0} (take_part : S → List ℕ → S) (known : S → Bool) (x : S) (outcome : Outcome) (u : S) : Type 0 where
  pub count : ℕ
  pub behind : Behind take_part x count u
  pub rightly : outcome ≡ Known → known u ≡ true
  pub never : outcome ≡ Going → 2 ^ 64 ≤ count + 1

-- ---- what takes the parts

-- where it stands, with the words and the bytes that are lent to it
pub record Standing (S : Type 0) : Type 0 where
  pub state : S
  pub room : List ℕ
  pub line : List ℕ

abbrev pub standing : {S : Type 0} → S → List ℕ → List ℕ → Standing S
standing s room line = record { state = s; room = room; line = line }

-- whether all is known, which lies in the state alone
abbrev pub known_in : {S : Type 0} → (S → Bool) → Standing S → Bool
known_in known x = known x.state

-- what a program makes of parts: nothing of none, and of one after the other what it makes of both as one
pub record Takes {S : Type 0} (take_part : S → List ℕ → S) : Type 0 where
  pub none : (x : S) → take_part x [] ≡ x
  pub more : (x : S) (part later : List ℕ) → take_part x (part ++ later) ≡ take_part (take_part x part) later
