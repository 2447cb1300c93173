-- Laws of the run of a sheet: it starts from nothing, and what is printed of it goes by what its answer tells.
-- Assumes nothing.
use mathlib.Core.Path.{◌≡◌, sym, ap, subst, ◌∙◌}
use mathlib.Core.List.{List}
use Prim.Native.Nat.{ℕ, ◌≤◌}
use native.Mathlib.Omega.{arith}
use lib.ListN.{length}
use Rattle.grid.specs.Squares.{squares}
use Rattle.ledger.specs.Runs.{world}
use Rattle.ledger.specs.declared.runs.Run.{Run}
use Rattle.checks.specs.Fresh.{fresh_run}
use Rattle.flood.specs.Run.{Ended, run_to, RunsTo}
use Rattle.flood.specs.declared.run.Ran.{Ran}
use Rattle.text.specs.Writing.{Wrote}
use Rattle.sheet.specs.Sheet.{Rooms, plan_in, given_in, no_lasts, no_records}
use Rattle.sheet.specs.declared.reading.Heading.{Heading}
use Rattle.sheet.proofs.JudgeLaws.{one_slot, world_same}
use Rattle.programs.specs.Program.{program_squares, most_printed, ended_text, ran_text, run_text, RunsSheet, PutRan, Prints}
use Rattle.programs.proofs.EndedLaws.{prints}

module _ (h : Heading) (held : Rooms) {a : Ran} {depths lasts records : List ℕ} where
  pub runs_sheet :
      {before room : List ℕ} {u : Run} → before ≡ no_lasts h.shape h.rules held → room ≡ no_records h.shape h.rules held →
      u ≡ fresh_run h.rules 1 →
      RunsTo (plan_in h.shape h.rules held) (given_in h.shape h.rules held) h.end (world held.cells.depths before room u) a depths lasts records →
      RunsSheet h held a depths lasts records
  runs_sheet l c u f =
      record {
        ends =
            f.ends
            ∙ ap (run_to (plan_in h.shape h.rules held) (given_in h.shape h.rules held) h.end)
            (world_same l c (u ∙ ap (fresh_run h.rules) (sym (one_slot h.shape h.rules held))));
      }

  -- what is printed of that run goes by the answer and the depths
  pub run_is : RunsSheet h held a depths lasts records → ran_text (plan_in h.shape h.rules held) depths a ≡ run_text h held
  unfolding ended_text run_text
  run_is f = ap (λ (x : Ended). ended_text (plan_in h.shape h.rules held) x) f.ends

-- that run, printed at the start of a room
pub run_printed :
    (h : Heading) (parts : Rooms) {a : Ran} {depths lasts records old new : List ℕ} {r : ℕ} → squares h.shape ≤ program_squares →
    most_printed ≤ length old → RunsSheet h parts a depths lasts records → PutRan (plan_in h.shape h.rules parts) depths a 0 old new r →
    Prints (run_text h parts) old new r
run_printed h parts {old = old} {new} {r} few l f w =
    let same = run_is h parts f in
    prints l (omega (arith, ap length same, w.fits, few)) (subst (λ (t : List ℕ). Wrote t 0 old new r) same w.wrote)
