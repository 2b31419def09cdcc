-- `converting::convert_at` meets its contract.
-- Assumes nothing.
use borrow.Enum.Refused.{opened}
use mathlib.Core.Path.{sym, ◌∙◌}
use Rattle.rules.specs.Soundness.{SoundTable}
use Rattle.rules.proofs.Calls.Conversions.{Source}
use Rattle.converting.proofs.Converting.{found-sound, found-unsound, unsound-refused, resizing-refused, source_of, length_refused, sound-converted}
use Rattle.converting.proofs.convert_at.Goals as goal
use Rattle.converting.proofs.convert_at.Goals.{After-at_rest, Else-not-at_rest}

-- behind the first tests the source is sound; behind the next it is at rest
sound : (c : After-at_rest) → SoundTable c.args.t.now
sound c = found-sound _ _ c.finding.ensures.0 c.in-Sound.in-Sound-own.keys1

source : (c : Else-not-at_rest) → Source c.args.t.now
source c = source_of _ _ c.requires ((found-sound _ _ c.finding.ensures.0 c.in-Sound.in-Sound-own.keys1)) _ c.at_rest.ensures (c.if-not-at_rest.false)

pub finding-requires : goal.finding-requires
finding-requires c = (c.requires.good, c.requires.own)

pub returns-in_default : goal.returns-in_default
returns-in_default c = unsound-refused _ _ c.requires _ (found-unsound _ _ c.finding.ensures.0 (opened c.in_default.in_default-own.keys2))

pub returns-then-not-at_rest : goal.returns-then-not-at_rest
returns-then-not-at_rest c = resizing-refused _ _ c.requires _ (sound (goal.at.returns-then-not-at_rest c).After-at_rest) _ c.at_rest.ensures (c.if-not-at_rest.true)

pub returns-then-second-t : goal.returns-then-second-t
returns-then-second-t c = length_refused _ _ c.requires _ (source (goal.at.returns-then-second-t c).Else-not-at_rest) c.if-second-t.true

pub convert_sound-requires : goal.convert_sound-requires
convert_sound-requires c = (c.requires, sound (goal.at.convert_sound-requires c).After-at_rest, sym c.at_rest.ensures ∙ c.if-not-at_rest.false, c.if-second-t.false)

pub returns : goal.returns
returns c = sound-converted _ _ c.requires _ (source (goal.at.returns c).Else-not-at_rest) c.if-second-t.false _ _ c.convert_sound.ensures
