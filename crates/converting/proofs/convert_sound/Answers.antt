-- `converting::convert_sound` meets its contract.
-- Assumes nothing.
use mathlib.Core.Path.{refl}
use native.Mathlib.Omega.{arith}
use Rattle.rules.specs.Words.{words_for}
use Rattle.rules.proofs.Calls.Conversions.{Source}
use Rattle.converting.proofs.Converting.{source_of, fresh-good, fresh_takes, filled-long, all-filled, one-stuck}
use Rattle.converting.proofs.convert_sound.Goals as goal
use Rattle.converting.proofs.convert_sound.Goals.{Start}

-- the source is sound and at rest
source : (c : Start) → Source c.args.t.now
source c = source_of _ _ c.requires.0 c.requires.1 _ refl c.requires.2

pub create_fresh-requires : goal.create_fresh-requires
create_fresh-requires c = (rw c.requires.3 c.requires.0.good, c.requires.2)

pub decode-to-requires : goal.decode-to-requires
unfolding words_for
decode-to-requires c = omega (arith, (fresh-good _ _ c.requires.0 (source (goal.at.decode-to-requires c).Start) _ c.create_fresh.ensures).long)

pub fill_table-requires : goal.fill_table-requires
fill_table-requires c = (c.requires.0.good, fresh_takes _ _ c.requires.0 (source (goal.at.fill_table-requires c).Start) _ c.create_fresh.ensures _ c.decode-to.ensures)

pub returns-in-Ok : goal.returns-in-Ok
returns-in-Ok c = all-filled _ _ c.requires.0 (source (goal.at.returns-in-Ok c).Start) _ c.create_fresh.ensures _ _ c.fill_table.ensures c.in-Ok.is

pub returns-in-Err : goal.returns-in-Err
returns-in-Err c = one-stuck _ _ c.requires.0 (source (goal.at.returns-in-Err c).Start) _ c.create_fresh.ensures _ _ c.fill_table.ensures _ c.in-Err.is _ c.create_fresh-in-Err.ensures

pub create_fresh-requires-in-Err : goal.create_fresh-requires-in-Err
create_fresh-requires-in-Err c = (rw (filled-long _ _ c.requires.0 (source (goal.at.create_fresh-requires-in-Err c).Start) _ c.create_fresh.ensures _ _ c.fill_table.ensures) c.requires.0.good, c.requires.2)
