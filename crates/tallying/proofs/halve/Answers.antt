-- `tallying::halve` meets its contract.
-- Assumes nothing.
use Rattle.std.proofs.Common.{◌+◌, ◌/◌, ◌<◌, length, arith}
use Rattle.std.proofs.lemmas.Grind.{common_steps}
use Rattle.std.proofs.lemmas.List.{length-map}
use Rattle.tallying.specs.declared.Credit.{Credit}
use Rattle.tallying.proofs.Searching.{half-above, half_below}
use Rattle.tallying.proofs.halve.Goals as goal
use Rattle.tallying.proofs.halve.Goals.{After-len}

-- something is left to look at, among the credits
middle : (c : After-len) → c.args.left.start + c.len.result / 2 < c.args.left.end
middle c =
    let some : c.args.left.start < c.args.left.end = grind (arith, common_steps) in
    omega (arith, some, c.len.ensures.value)

within : (c : After-len) → c.args.left.start + c.len.result / 2 < length c.args.credits.now
within c = omega (arith, middle c, c.requires.1.within, length-map c.args.credits.now (λ (x : Credit). x.function))

pub returns-then-credits-middle : goal.returns-then-credits-middle
returns-then-credits-middle c =
    let b = c.requires.1 in (
      record {
        behind = half-above c.args.credits.now c.args.function c.requires.0 _ _ (within (goal.at.returns-then-credits-middle c).After-len)
            c.if-credits-middle.true;
        before = b.before;
        within = b.within;
      },
      omega (arith, c.len.ensures.value),
    )

pub returns-else-credits-middle : goal.returns-else-credits-middle
returns-else-credits-middle c =
    let b = c.requires.1 in (
      record {
        behind = b.behind;
        before = half_below c.args.credits.now c.args.function c.requires.0 _ _ (within (goal.at.returns-else-credits-middle c).After-len)
            c.if-credits-middle.false;
        within = omega (arith, middle (goal.at.returns-else-credits-middle c).After-len, b.within);
      },
      omega (arith, c.len.ensures.value),
    )
