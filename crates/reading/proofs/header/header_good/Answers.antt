-- `reading::header::header_good` meets its contract.
-- Assumes nothing.
use mathlib.Core.Path.{sym, ◌∙◌}
use Rattle.reading.proofs.HeaderTests.{low, high, wrong_length, wrong_form, even1, even2, by_state}
use Rattle.reading.proofs.header.header_good.Goals as goal

pub returns-then-h-lt1 : goal.returns-then-h-lt1
returns-then-h-lt1 c = low _ _ c.if-h-lt1.true

pub returns-then-h-gt20 : goal.returns-then-h-gt20
returns-then-h-gt20 c = high _ _ c.if-h-gt20.true

pub returns-then-size-words_for : goal.returns-then-size-words_for
returns-then-size-words_for c = wrong_length _ _ (λ e. c.if-size-words_for.true (e ∙ sym c.words_for.ensures))

pub returns-then-not-form_good : goal.returns-then-not-form_good
returns-then-not-form_good c = wrong_form _ _ (sym c.form_good.ensures ∙ c.if-not-form_good.true)

pub returns-then-h-ne1 : goal.returns-then-h-ne1
returns-then-h-ne1 c = even1 _ _ c.if-h-ne1.true

pub returns-then-h-ne1-2 : goal.returns-then-h-ne1-2
returns-then-h-ne1-2 c = even2 _ _ c.if-h-ne1-2.true

pub returns : goal.returns
returns c =
    c.good.ensures
    ∙ by_state _ _ c.if-h-lt1.false c.if-h-gt20.false (c.if-size-words_for.false ∙ c.words_for.ensures)
    (sym c.form_good.ensures ∙ c.if-not-form_good.false)
    c.if-h-ne1.false c.if-h-ne1-2.false
