-- `text::lines::line_at` meets its contract.
-- Assumes nothing.
use mathlib.Core.Path.{◌≡◌}
use mathlib.Core.List.{List}
use Prim.Native.Nat.{ℕ}
use mathlib.Core.Bool.{Bool}
use Rattle.text.specs.Reading.{newline, is_byte}
use Rattle.text.specs.Lines.{line_end, line_at}
use Rattle.text.specs.declared.lines.Line.{Line}
use Rattle.text.proofs.lines.line_at.Goals as goal

-- a line by its end and by what stands there
made : (s : List ℕ) (at : ℕ) {end : ℕ} {ended : Bool} → end ≡ line_end s at → ended ≡ is_byte s end newline →
    ◌≡◌ {A = Line} (record { from = at; to = end; ended = ended }) (line_at s at)
made s at e f = cc

pub returns : goal.returns
returns c =
    let a = c.args in
    made a.text.now a.at c.line_end-end.ensures c.byte_is.ensures
