-- Document 02, #107, "The hatch log": what is printed of a line.
-- Assumes nothing.
use Rattle.std.specs.Prelude.{◌≡◌, Bool, true, false, List, [], ℕ, eqb, Option, Some, None}
use Rattle.reckon.specs.Tests.{pick}
use Rattle.ledger.specs.Runs.{Plan}
use Rattle.checks.specs.Given.{Given}
use Rattle.answer.specs.Printed.{refused_text, made_text}
use Rattle.programs.specs.Program.{Prints}
use Rattle.hatches.specs.Lines.{log_line}
use Rattle.hatches.specs.Log.{Evening}
use Rattle.evenings.specs.Taking.{read_number, after_read}
use Rattle.hatches.specs.declared.lines.Entry.{Entry}
use Rattle.hatches.specs.declared.lines.Entry.TheVariants.{Hatch, Rate, Back}
use Rattle.evenings.specs.declared.telling.LineTaken.{LineTaken}

-- "prints what `meadow` prints at each line's clock and after each `back`, `steps` being the steps standing"; a hatch that is named prints nothing
unfoldable pub is_shown : Entry → Bool
is_shown (Rate clock n litres) = true
is_shown (Back count) = true
is_shown (Hatch n row column) = false

abbrev pub stands_text : Plan → Evening → List ℕ
stands_text p e = made_text p e.depths e.log.run e.log.steps

-- "A refusal ends the output with `meadow`'s line for it": the log's line with 12, else 0
unfoldable pub entry_text : Plan → ℕ → Entry → ℕ → Evening → List ℕ
entry_text p number entry line e =
    pick (eqb number 0) (pick (is_shown entry) (stands_text p e) []) (refused_text number (pick (eqb number 12) line 0))

-- the same of a line of the log, which may be one that cannot be read
abbrev pub shown_of : Plan → ℕ → Option Entry → ℕ → Evening → List ℕ
shown_of p number (Some entry) line e = entry_text p number entry line e
shown_of p number None line e = refused_text 12 line

-- what is printed of the line at a position, the so-manieth of a log
abbrev pub line_shown : Plan → Given → List ℕ → ℕ → ℕ → Evening → List ℕ
line_shown p g s at line e =
    shown_of p (read_number p g e (log_line s at).entry) (log_line s at).entry line (after_read p g e (log_line s at).entry)

-- ---- what the public function gives

-- the number, where the next line starts, the evening afterwards with the log that is given, and the text at the start of a room
pub record TakesLine (p : Plan) (g : Given) (s : List ℕ) (at line : ℕ) (e : Evening) (a : LineTaken) (after : Evening) (old new : List ℕ) : Type 0 where
  pub number_is : a.number ≡ read_number p g e (log_line s at).entry
  pub next_is : a.next ≡ (log_line s at).next
  pub evening_is : after ≡ after_read p g e (log_line s at).entry
  pub prints : Prints (line_shown p g s at line e) old new a.length
