-- `making::creation_good` meets its contract: each test that fails refuses, and the last decides where the others pass.
-- Assumes nothing.
use mathlib.Core.Path.{sym, ◌∙◌}
use native.Mathlib.Omega.{arith}
use Rattle.making.proofs.Creation.{other-form, low_c, high_c, low_k, high_k, other-size, even1, second}
use Rattle.making.proofs.creation_good.Goals as goal

pub returns-then-not-form_good : goal.returns-then-not-form_good
returns-then-not-form_good c = other-form _ _ _ _ _ _ (sym c.form_good.ensures ∙ c.if-not-form_good.true)

pub returns-then-c-lt1 : goal.returns-then-c-lt1
returns-then-c-lt1 c = low_c _ _ _ _ _ _ c.if-c-lt1.true

pub returns-then-c-gt20 : goal.returns-then-c-gt20
returns-then-c-gt20 c = high_c _ _ _ _ _ _ c.if-c-gt20.true

pub returns-then-k-lt1 : goal.returns-then-k-lt1
returns-then-k-lt1 c = low_k _ _ _ _ _ _ c.if-k-lt1.true

pub returns-then-c-k : goal.returns-then-c-k
returns-then-c-k c = high_k _ _ _ _ _ _ c.if-c-k.true

pub returns-then-size-words_for : goal.returns-then-size-words_for
returns-then-size-words_for c = other-size _ _ _ _ _ _ (λ e. c.if-size-words_for.true (e ∙ sym c.words_for.ensures))

pub returns-then-mul1-ne1 : goal.returns-then-mul1-ne1
returns-then-mul1-ne1 c = even1 _ _ _ _ _ _ c.if-mul1-ne1.true

pub returns : goal.returns
returns c =
    second _ _ _ _ _ _ (sym c.form_good.ensures ∙ c.if-not-form_good.false) (omega arith) (omega arith) (omega arith) (omega arith)
    (c.if-size-words_for.false ∙ c.words_for.ensures) c.if-mul1-ne1.false
