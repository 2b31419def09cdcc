-- No second answer and no second words keep what begun, take_line, finish and least promise.
-- Assumes nothing.
use Rattle.std.proofs.Common.{◌≡◌, ℕ, min, Bool, List, sym, ◌∙◌}
use Rattle.replaying.specs.Replays.{begun, Turned, finish_of, TurnIs}
use Rattle.replaying.specs.declared.Answer.{Answer}
use Rattle.replaying.specs.declared.Replay.{Replay}
use Rattle.replaying.specs.declared.Turn.{Turn}

pub begun-one : (r s : Replay) → r ≡ begun → s ≡ begun → r ≡ s
begun-one r s a b = a ∙ sym b

pub turn_one : (x : Turned) (r s : Turn) (u v : List ℕ) → TurnIs x r u → TurnIs x s v → (r.replay ≡ s.replay) × (r.answer ≡ s.answer) × (u ≡ v)
turn_one x r s u v a b = (a.replay ∙ sym b.replay, a.answer ∙ sym b.answer, a.room ∙ sym b.room)

pub finish_one : (p : Replay) (torn : Bool) (r s : Answer) → r ≡ finish_of p torn → s ≡ finish_of p torn → r ≡ s
finish_one p torn r s a b = a ∙ sym b

pub least_one : (asked there r s : ℕ) → r ≡ min asked there → s ≡ min asked there → r ≡ s
least_one asked there r s a b = a ∙ sym b
