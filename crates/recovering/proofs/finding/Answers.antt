-- `recovering::finding` meets its contract: each answer is the kind that the tests before it leave.
-- Assumes nothing.
use mathlib.Core.Path.{sym, ◌∙◌}
use native.Mathlib.Omega.{arith}
use Rattle.rules.specs.Words.{flag_of}
use Rattle.rules.proofs.Words.Headers.{header-fits}
use Rattle.recovering.proofs.Deciding.{scan_within, tidied_by, find_untidy, find_unused, find_misflagged, find_still, find_flagged}
use Rattle.recovering.proofs.finding.Goals as goal

pub returns-then-not-tokens_tidy : goal.returns-then-not-tokens_tidy
returns-then-not-tokens_tidy c = find_untidy _ c.requires.1 (sym c.tokens_tidy.ensures ∙ c.if-not-tokens_tidy.true)

pub returns-then-not-unused_empty : goal.returns-then-not-unused_empty
returns-then-not-unused_empty c = find_unused _ c.requires.1 (sym c.unused_empty.ensures ∙ c.if-not-unused_empty.true)

pub bounds-t-5 : goal.bounds-t-5
bounds-t-5 c = omega (arith, header-fits _ _ c.requires.0)

pub still-requires : goal.still-requires
still-requires c =
    let p = c.requires in
    let tidy = sym c.tokens_tidy.ensures ∙ c.if-not-tokens_tidy.false in
    rw (c.scan_table-scan.ensures, p.1) (scan_within _ (rw p.1 at p.0) (tidied_by _ p.1 tidy))

pub returns-then-t-eq0 : goal.returns-then-t-eq0
unfolding flag_of
returns-then-t-eq0 c =
    let p = c.requires in
    let tidy = sym c.tokens_tidy.ensures ∙ c.if-not-tokens_tidy.false in
    let unused = sym c.unused_empty.ensures ∙ c.if-not-unused_empty.false in
    find_still _ p.1 p.0 tidy unused c.scan_table-scan.ensures c.if-t-eq0.true c.still.ensures

pub bounds-t-5-2 : goal.bounds-t-5-2
bounds-t-5-2 c = omega (arith, header-fits _ _ c.requires.0)

pub returns-then-t-eq1 : goal.returns-then-t-eq1
unfolding flag_of
returns-then-t-eq1 c =
    let p = c.requires in
    let tidy = sym c.tokens_tidy.ensures ∙ c.if-not-tokens_tidy.false in
    let unused = sym c.unused_empty.ensures ∙ c.if-not-unused_empty.false in
    find_flagged _ p.1 p.0 tidy unused c.scan_table-scan.ensures c.find_target.ensures c.if-t-eq1.true c.flagged.ensures

pub returns : goal.returns
unfolding flag_of
returns c =
    let p = c.requires in
    find_misflagged _ p.1 c.if-t-eq0.false c.if-t-eq1.false
