-- What a tally holds, in fixed memory.
-- Assumes nothing.
use Rattle.std.specs.Prelude.{◌≡◌, ℕ, ◌-◌, ◌≤◌, Bool, false, cond, List, [], ◌∷◌, ◌++◌, map, length, take, drop, replicate, ◌==◌, nat_lt, slice_index}
use Rattle.tallying.specs.Functions.{place_for}
use Rattle.tallying.specs.Credits.{Credits, Ascending}
use Rattle.tallying.specs.declared.Credit.{Credit}
use Rattle.tallying.specs.declared.Tally.TheInside.{Inside}

-- the functions of credits, and their samples
abbrev pub functions_of : List Credit → List ℕ
functions_of cs = map (λ (c : Credit). c.function) cs

abbrev pub samples_of : List Credit → List ℕ
samples_of cs = map (λ (c : Credit). c.samples) cs

-- the credits that are used stand at the front
abbrev pub held_in : Inside → Credits
held_in t =
    let cs = take t.used t.credits in
    record { functions = functions_of cs; samples = samples_of cs; other = t.other }

-- a place that is not used
abbrev pub unused : Credit
unused = record { function = 0; samples = 0 }

-- 512 credits at most are used, in order, and the places behind them are as at first
pub record Orderly (t : Inside) : Type 0 where
  pub few : t.used ≤ 512
  pub order : Ascending (functions_of (take t.used t.credits))
  pub all : length t.credits ≡ 512
  pub rest : drop t.used t.credits ≡ replicate (512 - t.used) unused

-- the credits of these functions and samples
abbrev pub credits_from : List ℕ → List ℕ → List Credit
credits_from [] ss = []
credits_from (f ∷ fs) [] = []
credits_from (f ∷ fs) (s ∷ ss) = record { function = f; samples = s } ∷ credits_from fs ss

-- what a tally has inside that holds these credits
abbrev pub inside_of : Credits → Inside
inside_of x =
    record {
      credits = credits_from x.functions x.samples ++ replicate (512 - length x.functions) unused;
      used = length x.functions;
      other = x.other;
    }

-- ---- how a function is found

-- its place among those that are counted is not before one end and not behind the other
pub record Between (function : ℕ) (counted : List ℕ) (low high : ℕ) : Type 0 where
  pub behind : low ≤ place_for function counted
  pub before : place_for function counted ≤ high
  pub within : high ≤ length counted

-- whether it stands at a place
unfoldable pub stands_at : ℕ → ℕ → List ℕ → Bool
stands_at at f counted = cond (nat_lt at (length counted)) (slice_index counted at == f) false
