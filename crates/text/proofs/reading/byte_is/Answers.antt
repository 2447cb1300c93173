-- `text::reading::byte_is` meets its contract: past the end there is no byte, before it one comparison decides.
-- Assumes nothing.
use mathlib.Core.Path.{sym}
use Rattle.text.proofs.ReadingLaws.{byte_past, byte_here}
use Rattle.text.proofs.reading.byte_is.Goals as goal

pub returns-then-text-at : goal.returns-then-text-at
returns-then-text-at c = sym (byte_past c.args.text.now c.args.at c.args.byte c.if-text-at.true)

pub returns : goal.returns
returns c =
    let a = c.args in
    sym (byte_here a.text.now a.at a.byte c.if-text-at.false)
