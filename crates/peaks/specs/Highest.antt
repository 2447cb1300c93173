-- Document 02, #114, for one sheet: what is printed of the highest water of each square and of the clock when it first stood so high.
-- Assumes nothing.
use Rattle.std.specs.Prelude.{List, [], ◌∷◌, ◌++◌, ℕ, ◌/◌, ◌%◌, eqb, get_or, replicate}
use Rattle.reckon.specs.Tests.{pick}
use Rattle.reckon.specs.Lists.{joined}
use Rattle.grid.specs.Squares.{squares}
use Rattle.ledger.specs.Runs.{Plan}
use Rattle.ledger.specs.Flows.{shut}
use Rattle.ledger.specs.declared.runs.Run.{Run}
use Rattle.text.specs.Writing.{line_text}
use Rattle.sheet.specs.Lines.{cell_word}
use Rattle.sheet.specs.Sheet.{Rooms, plan_in, given_in, start_in}
use Rattle.sheet.specs.declared.reading.Heading.{Heading}
use Rattle.sheet.specs.declared.reading.Sheet.{Sheet}
use Rattle.answer.specs.Printed.{refused_text, totals_text}
use Rattle.programs.specs.Reading.{sheet_within}
use Rattle.programs.specs.Program.{most_text, program_rooms, sheet_run, sheet_printed}
use Rattle.peaks.specs.Peaks.{peaks_over, clocks_over}

-- each square not closed with its highest depth and that clock, and then what `meadow` prints of a run's totals
unfoldable pub high_text : Plan → List ℕ → List ℕ → ℕ → List ℕ
high_text p peaks clocks i =
    pick (shut p i) [] (line_text cell_word (i / p.shape.columns ∷ i % p.shape.columns ∷ get_or peaks i 0 ∷ get_or clocks i 0 ∷ []))

unfoldable pub highs_text : Plan → List ℕ → List ℕ → List ℕ
highs_text p peaks clocks = joined (squares p.shape) (high_text p peaks clocks)

unfoldable pub high_world_text : Plan → List ℕ → List ℕ → Run → ℕ → List ℕ
high_world_text p peaks clocks u steps = highs_text p peaks clocks ++ totals_text u steps

-- the fresh run of a sheet to its end, by what rooms hold; a refused one prints its refusal alone
module _ (h : Heading) (held : Rooms) where
  abbrev pub peaks_in : List ℕ
  peaks_in =
      peaks_over (plan_in h.shape h.rules held) (given_in h.shape h.rules held) (start_in h.shape h.rules held)
      (sheet_run h held).steps (replicate (squares h.shape) 0)

  abbrev pub clocks_in : List ℕ
  clocks_in =
      clocks_over (plan_in h.shape h.rules held) (given_in h.shape h.rules held) (start_in h.shape h.rules held)
      (sheet_run h held).steps (replicate (squares h.shape) 0)

  unfoldable pub high_run_text : List ℕ
  high_run_text =
      pick (eqb (sheet_run h held).number 0)
      (high_world_text (plan_in h.shape h.rules held) peaks_in clocks_in (sheet_run h held).world.run (sheet_run h held).steps)
      (refused_text (sheet_run h held).number 0)

unfoldable pub high_sheet_text : List ℕ → Sheet → List ℕ
high_sheet_text s a = sheet_printed high_run_text s a

-- of a text, with `meadow`'s limits
unfoldable pub highest_text : List ℕ → List ℕ
highest_text s = high_sheet_text s (sheet_within most_text s program_rooms)
