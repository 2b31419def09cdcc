-- `tallying::place_for` meets its contract.
-- Assumes nothing.
use Rattle.tallying.proofs.Searching.{place-within, halvings_first, halvings_next}
use Rattle.std.proofs.Common.{arith}
use Rattle.std.proofs.lemmas.List.{length-map}
use Rattle.tallying.specs.Tallies.{functions_of}
use Rattle.tallying.specs.declared.Credit.{Credit}
use Rattle.tallying.proofs.place_for.Goals as goal

pub loop-init : goal.loop-init
loop-init c =
    let long = length-map c.args.credits.now (λ (c : Credit). c.function) in (
      omega arith,
      record {
        behind = omega arith;
        before = omega (arith, long, place-within c.args.function (functions_of c.args.credits.now));
        within = omega (arith, long);
      },
      halvings_first _ (omega (arith, c.requires.1)),
    )

pub loop-preserved : goal.loop-preserved
loop-preserved c =
    let h = c.halve-left.ensures in (
      omega (arith, c.loop-test.true),
      h.0,
      halvings_next c.loop.counter _ _ (omega (arith, c.loop-test.true)) c.loop.invariant.2 h.1,
    )
