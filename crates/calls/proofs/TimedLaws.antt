-- What `hours_of` promises gives what its caller has.
-- Assumes nothing.
use mathlib.Core.Path.{◌≡◌, refl, ap, ◌∙◌}
use mathlib.Core.Bool.{false}
use mathlib.Core.List.{List}
use Prim.Native.Nat.{ℕ, ◌+◌, ◌<◌}
use native.Mathlib.Omega.{arith}
use lib.ListN.{get_or}
use borrow.Author.Tests.{le-leb, lt-leb, eq-eqb, ne_eqb}
use Rattle.reckon.specs.Lists.{sum_below}
use Rattle.reckon.proofs.TestLaws.{pick_true, pick_false}
use Rattle.reckon.proofs.ListLaws.{get_or-tabulate}
use Rattle.grid.specs.Squares.{squares}
use Rattle.ledger.specs.Runs.{Plan, World}
use Rattle.ledger.specs.Flows.{shut}
use Rattle.checks.specs.Given.{Given}
use Rattle.sheet.specs.Sheet.{said}
use Rattle.sheet.specs.declared.reading.Heading.{Heading}
use Rattle.sheet.specs.declared.reading.Sheet.TheVariants.{Read, Refused}
use Rattle.answer.specs.Printed.{refused_text}
use Rattle.programs.specs.Reading.{sheet_within}
use Rattle.programs.specs.Program.{most_text, program_rooms, Prints}
use Rattle.hours.specs.Hours.{step_time, wet_in, wet_time, wet_times, hours_run_text, hours_sheet_text, hours_text}
use Rattle.calls.specs.Timed.{TimeGrows, HoursSay, AfterHours}
use Rattle.calls.proofs.ListedLaws.{printed}

module _ (p : Plan) (g : Given) (w : World) (i : ℕ) where
  grows : TimeGrows p g w i
  unfolding wet_time wet_in step_time sum_below
  grows =
      record {
        none_at-first = refl;
        by_a_wet_step = λ k deep. ap (λ (t : ℕ). wet_time p g w k i + t) (pick_true _ _ (le-leb _ _ deep));
        by_no_other = λ k low.
            let none : wet_in p g w i k ≡ 0 = pick_false _ _ (lt-leb _ _ low) in
            omega (arith, none);
      }

  time_is : (n : ℕ) → i < squares p.shape → shut p i ≡ false → get_or (wet_times p g w n) i 0 ≡ wet_time p g w n i
  unfolding wet_times
  time_is n l o = get_or-tabulate (squares p.shape) _ i l ∙ pick_false _ _ o

module _ (s : List ℕ) where
  not-read : (number line : ℕ) → sheet_within most_text s program_rooms ≡ Refused number line → hours_text s ≡ refused_text number line
  unfolding hours_text hours_sheet_text
  not-read number line e = ap (hours_sheet_text s) e

  run-told : (h : Heading) → sheet_within most_text s program_rooms ≡ Read h → hours_text s ≡ hours_run_text h (said s)
  unfolding hours_text hours_sheet_text
  run-told h e = ap (hours_sheet_text s) e

  says : (h : Heading) → sheet_within most_text s program_rooms ≡ Read h → HoursSay s h
  unfolding hours_run_text
  says h e =
      record {
        run-refused = λ refused. run-told h e ∙ pick_false _ _ (ne_eqb _ _ refused);
        run_made = λ made. run-told h e ∙ pick_true _ _ (eq-eqb _ _ made);
        time_is = λ i. time_is _ _ _ i _;
        grows = λ i. grows _ _ _ i;
      }

pub after_hours : {s old new : List ℕ} {long : ℕ} → Prints (hours_text s) old new long → AfterHours s old new long
after_hours {s} x = record { printed = (printed x.wrote).0; rest_stays = (printed x.wrote).1; not-read = not-read s; says = says s }
