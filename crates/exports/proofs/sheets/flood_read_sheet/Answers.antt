-- `exports::sheets::flood_read_sheet` meets its contract: both slices have their size, or the call is refused by 1.
-- Assumes nothing.
use borrow.Author.Tests.{ne_eqb}
use Rattle.reckon.proofs.TestLaws.{every_fails}
use Rattle.exports.proofs.SheetLaws.{sheet_unsized, sheet_told}
use Rattle.exports.proofs.sheets.flood_read_sheet.Goals as goal

pub returns-then-heading-ne-HEADING_NUMBERS : goal.returns-then-heading-ne-HEADING_NUMBERS
returns-then-heading-ne-HEADING_NUMBERS c = sheet_unsized _ _ _ _ (every_fails _ 0 (ne_eqb _ _ c.if-heading-ne-HEADING_NUMBERS.true))

pub returns-then-line-ne-LINE_NUMBERS : goal.returns-then-line-ne-LINE_NUMBERS
returns-then-line-ne-LINE_NUMBERS c = sheet_unsized _ _ _ _ (every_fails _ 1 (ne_eqb _ _ c.if-line-ne-LINE_NUMBERS.true))

pub returns : goal.returns
returns c =
    sheet_told _ _ _ _ c.if-heading-ne-HEADING_NUMBERS.false c.if-line-ne-LINE_NUMBERS.false
    c.read-sheet.ensures c.tell_sheet.ensures
