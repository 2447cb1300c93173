-- `sheet::lines::cell_line` meets its contract: the word, the place and the mark decide.
-- Assumes nothing.
use mathlib.Core.Bool.{true}
use mathlib.Core.Path.{◌≡◌, sym, ap, ◌∙◌}
use Prim.Native.Nat.{◌+◌}
use native.Mathlib.Omega.{arith}
use lib.ListN.{length}
use Rattle.reckon.proofs.TestLaws.{pick_true, pick_false}
use Rattle.text.specs.Reading.{word_at, fields_at}
use Rattle.text.proofs.ReadingLaws.{word_within}
use Rattle.sheet.specs.Lines.{place_fields, placed_cell, cell_line, cell_word}
use Rattle.sheet.proofs.KindLaws.{place_row, place_column, place_right}
use Rattle.sheet.proofs.lines.cell_line.Goals as goal
use Rattle.sheet.proofs.lines.cell_line.Goals.{Else-not-word_at}

-- past the word: it stands there, so that the fields of the place decide
word-there : (c : Else-not-word_at) → word_at c.args.text.now c.args.at cell_word ≡ true
word-there c = sym c.word_at.ensures ∙ c.if-not-word_at.false

by_place :
    (c : Else-not-word_at) →
    cell_line c.args.text.now c.args.at c.args.row c.args.column ≡
    placed_cell c.args.text.now c.args.row c.args.column
    (fields_at c.args.text.now (c.args.at + length cell_word) place_fields)
unfolding cell_line
by_place c = pick_true _ _ (word-there c)

pub returns-then-not-word_at : goal.returns-then-not-word_at
unfolding cell_line
returns-then-not-word_at c = sym (pick_false _ _ (sym c.word_at.ensures ∙ c.if-not-word_at.true))

pub overflow_add-at : goal.overflow_add-at
overflow_add-at c = omega (arith, word_within c.args.text.now c.args.at cell_word (word-there c))

pub returns-in_err-place : goal.returns-in_err-place
unfolding placed_cell
returns-in_err-place c =
    let a = c.args in
    c.from_residual.ensures
    ∙ (ap (placed_cell a.text.now a.row a.column) c.in_err-place.ensures ∙ sym (by_place (goal.at.returns-in_err-place c).Else-not-word_at))

pub returns-then-values-row : goal.returns-then-values-row
returns-then-values-row c =
    sym (by_place (goal.at.returns-then-values-row c).Else-not-word_at ∙ place_row _ _ _ c.in_ok-place.ensures c.if-values-row.true)

pub returns-then-values-column : goal.returns-then-values-column
returns-then-values-column c =
    sym
    (by_place (goal.at.returns-then-values-column c).Else-not-word_at
    ∙ place_column _ _ _ c.in_ok-place.ensures c.if-values-row.false c.if-values-column.true)

pub returns : goal.returns
returns c =
    c.marked_cell.ensures
    ∙ sym
    (by_place (goal.at.returns c).Else-not-word_at
    ∙ place_right _ _ _ c.in_ok-place.ensures c.if-values-row.false c.if-values-column.false)
