-- What a step does behind the first tests: the answer and list of an outcome, with the placing and the bucket of the item found.
-- Assumes nothing.
use Rattle.std.specs.Prelude.{ℕ, ◌≡◌, List}
use Rattle.std.proofs.Math.Option.{Option}
use Rattle.rules.specs.Words.{Table}
use Rattle.rules.specs.Calls.{Outcome}
use Rattle.rules.specs.Results.{change_of, list_after, step_placing, step_bucket}
use Rattle.rules.specs.declared.Header.{Header}
use Rattle.rules.specs.declared.Slot.{Slot}
use Rattle.rules.specs.declared.Refusal.{Refusal}
use Rattle.rules.specs.declared.Placing.TheVariants.{Nowhere}
use Rattle.std.specs.Prelude.{Err}
use Rattle.rules.specs.declared.SteppedFrom.{SteppedFrom}

abbrev pub RefusedStep : Refusal → SteppedFrom → Type 0
RefusedStep e r = r ≡ record { stepped = record { change = Err e; placing = Nowhere }; bucket = 0 }

pub record DidStep (t : Table) (h : Header) (item : Option Slot) (o : Outcome) (l : List ℕ) (r : SteppedFrom) (m : List ℕ) : Type 0 where
  pub answer : r ≡ record { stepped = record { change = change_of o; placing = step_placing t h o item }; bucket = step_bucket h o item }
  pub list : m ≡ list_after o l
