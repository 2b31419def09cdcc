-- No second answer, no second words and no second held bytes keep what ready, take_byte, known and end promise.
-- Assumes nothing.
use Prim.Native.Nat.{ℕ}
use mathlib.Core.Path.{◌≡◌, sym, ◌∙◌}
use mathlib.Core.Bool.{Bool}
use mathlib.Core.List.{List}
use Rattle.replaying.specs.declared.Answer.{Answer}
use Rattle.running.specs.Runs.{ready, After, TakenIs, known, end_of}
use Rattle.running.specs.declared.Run.{Run}
use Rattle.running.specs.declared.Taken.{Taken}

pub ready-one : (r s : Run) → r ≡ ready → s ≡ ready → r ≡ s
ready-one r s a b = a ∙ sym b

pub taken-one : (x : After) (r s : Taken) (u v l m : List ℕ) → TakenIs x r u l → TakenIs x s v m
    → (r.run ≡ s.run) × (r.answer ≡ s.answer) × (u ≡ v) × (l ≡ m)
taken-one x r s u v l m a b = (a.taken ∙ sym b.taken, a.answer ∙ sym b.answer, a.words ∙ sym b.words, a.bytes ∙ sym b.bytes)

pub end-one : (run : Run) (r s : Answer) → r ≡ end_of run → s ≡ end_of run → r ≡ s
end-one run r s a b = a ∙ sym b

pub known-one : (run : Run) (r s : Bool) → r ≡ known run → s ≡ known run → r ≡ s
known-one run r s a b = a ∙ sym b
