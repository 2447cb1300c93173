-- Document 02, #107, worked by hand: what is printed of a line, every number another one.
-- Assumes nothing.
use Rattle.std.specs.Prelude.{◌≡◌, []}
use Rattle.text.specs.Bytes.{bytes_of}
use Rattle.hatches.specs.Worked.{meadow, going, stood}
use Rattle.hatches.specs.declared.lines.Entry.TheVariants.{Hatch, Rate, Back}
use Rattle.evenings.specs.Shown.{entry_text}

-- in the evening of the log's own cases
pub record ShownCases : Type 0 where
  pub printed : entry_text meadow 0 (Back 1) 9 (stood going)
      ≡ bytes_of "cell\t0\t0\t11\ncell\t0\t1\t12\ncell\t1\t0\t14\ncell\t1\t1\t15\ncell\t1\t2\t16\nout\t6\nsoak\t4\nsteps\t5\nclock\t2500\n"
  pub at_clock : entry_text meadow 0 (Rate 3_000 2 1) 9 (stood going)
      ≡ bytes_of "cell\t0\t0\t11\ncell\t0\t1\t12\ncell\t1\t0\t14\ncell\t1\t1\t15\ncell\t1\t2\t16\nout\t6\nsoak\t4\nsteps\t5\nclock\t2500\n"
  pub silent : entry_text meadow 0 (Hatch 7 1 2) 9 (stood going) ≡ []
  pub refused-line : entry_text meadow 12 (Back 1) 9 (stood going) ≡ bytes_of "refused\t12\t9\n"
  pub refused_none : entry_text meadow 10 (Back 1) 9 (stood going) ≡ bytes_of "refused\t10\t0\n"
