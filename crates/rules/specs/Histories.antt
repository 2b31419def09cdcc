-- Several calls in a row on one table, as a caller makes them: a call with a lent list, then `make` on the list as the call left it,
-- for all the stores that it reports or, where power fails, only for the first of them. What is said of several calls takes the
-- permitted events as a parameter.
-- Assumes nothing.
use Rattle.std.specs.Prelude.{ℕ, ◌+◌, ◌≤◌, min, ◌≡◌, List, [], ◌∷◌, ◌⊎◌}
use Rattle.rules.specs.Words.{Table}
use Rattle.rules.specs.Calls.{Call, query, insert, update, delete, begin, shrink, back, step_from, end, recover}
use Rattle.rules.specs.Results.{change_result, make_result}
use Rattle.rules.specs.Answers.{Change}
use Rattle.std.specs.Prelude.{Ok, Err}

-- a call with a lent list, whose stores are all made, or only the first n of them, "or all if there are fewer"
pub data Event : Type 0 where
  whole : Call → List ℕ → Event
  cut : Call → List ℕ → ℕ → Event

-- the stores that a call reports: "A refusal .. reports 0 stores."
abbrev pub reported : Change → ℕ
reported (Ok stores) = stores
reported (Err r) = 0

-- the stores that are made
abbrev pub kept : Table → Event → ℕ
kept t (whole q l) = reported (change_result t l q).0
kept t (cut q l n) = min n (reported (change_result t l q).0)

-- "A separate call makes the first n stores of a list."
abbrev pub after : Table → Event → Table
after t (whole q l) = (make_result t (change_result t l q).1 (kept t (whole q l))).1
after t (cut q l n) = (make_result t (change_result t l q).1 (kept t (cut q l n))).1

abbrev pub after_all : Table → List Event → Table
after_all t [] = t
after_all t (e ∷ es) = after_all (after t e) es

abbrev pub Every : (Event → Type 0) → List Event → Type 0
Every P [] = Unit {0}
Every P (e ∷ es) = P e × Every P es

-- permitted events lead from one table to another
pub record History (Permitted : Event → Type 0) (t : Table) (es : List Event) (u : Table) : Type 0 where
  pub permitted : Every Permitted es
  pub leads : after_all t es ≡ u

-- "whatever but creation is called between", "each list made once, whole"
abbrev pub Whole : Event → Type 0
Whole (whole q l) = Unit {0}
Whole (cut q l n) = ⊥

-- "recovery is cut, however often"
abbrev pub Recovery : Event → Type 0
Recovery (whole q l) = q ≡ recover
Recovery (cut q l n) = q ≡ recover

-- the stores that growing or shrinking spends "in its own calls": begin or shrink, steps and end; and turning back, which the bounds leave out
abbrev pub own_stores : Call → ℕ → ℕ
own_stores begin n = n
own_stores shrink n = n
own_stores back n = n
own_stores (step_from b) n = n
own_stores end n = n
own_stores (query key) n = 0
own_stores (insert key r) n = 0
own_stores (update key r) n = 0
own_stores (delete key) n = 0
own_stores recover n = 0

abbrev pub cost : Table → Event → ℕ
cost t (whole q l) = own_stores q (kept t (whole q l))
cost t (cut q l n) = own_stores q (kept t (cut q l n))

abbrev pub spent : Table → List Event → ℕ
spent t [] = 0
spent t (e ∷ es) = cost t e + spent (after t e) es

-- an accepted call
abbrev pub Accepted : Change → Type 0
Accepted (Ok stores) = Unit {0}
Accepted (Err r) = ⊥

-- the end of a growth or of a shrink: an accepted end
abbrev pub EndsResizing : Table → Event → Type 0
EndsResizing t (whole q l) = (q ≡ end) × Accepted (change_result t l q).0
EndsResizing t (cut q l n) = (q ≡ end) × Accepted (change_result t l q).0 × (1 ≤ n)

-- events of one growth, or of one shrink: none comes after its end
abbrev pub OneResizing : Table → List Event → Type 0
OneResizing t [] = Unit {0}
OneResizing t (e ∷ es) = (EndsResizing t e × (es ≡ [])) ⊎ ((EndsResizing t e → ⊥) × OneResizing (after t e) es)

-- request f), "with no .. turning back": no accepted back among them. A refused one turns nothing
abbrev pub TurnsBack : Table → Event → Type 0
TurnsBack t (whole q l) = (q ≡ back) × Accepted (change_result t l q).0
TurnsBack t (cut q l n) = (q ≡ back) × Accepted (change_result t l q).0 × (1 ≤ n)

abbrev pub NoTurningBack : Table → List Event → Type 0
NoTurningBack t [] = Unit {0}
NoTurningBack t (e ∷ es) = (TurnsBack t e → ⊥) × NoTurningBack (after t e) es
