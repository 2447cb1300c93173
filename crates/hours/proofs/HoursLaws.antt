-- Laws of what is printed of the times: they are those of the run of the sheet that was read.
-- Assumes nothing.
use mathlib.Core.Path.{◌≡◌, refl, sym, ap, subst, ◌∙◌}
use mathlib.Core.List.{List}
use Prim.Native.Nat.{ℕ, ◌-◌, ◌≤◌}
use native.Mathlib.Omega.{arith}
use lib.Dec.{eqb}
use lib.ListN.{length}
use Rattle.reckon.specs.Tests.{pick, refusal}
use Rattle.grid.specs.Squares.{squares}
use Rattle.ledger.specs.Runs.{Plan, World, world}
use Rattle.ledger.specs.declared.runs.Run.{Run}
use Rattle.checks.specs.Fresh.{fresh_run}
use Rattle.checks.specs.Refusals.{run_checks}
use Rattle.flood.specs.Run.{Ended, ended, run_from}
use Rattle.flood.specs.declared.run.Ran.{Ran}
use Rattle.flood.proofs.RunToLaws.{run_passed}
use Rattle.text.specs.Writing.{Wrote}
use Rattle.sheet.specs.Sheet.{Rooms, plan_in, given_in, start_in, no_lasts, no_records, checks_in}
use Rattle.sheet.specs.declared.reading.Heading.{Heading}
use Rattle.sheet.proofs.JudgeLaws.{judge_is, one_slot, world_same}
use Rattle.answer.specs.Printed.{refused_text, made_text}
use Rattle.programs.specs.Program.{program_squares, most_printed, ended_text, ran_text, PutRan, Prints}
use Rattle.programs.proofs.EndedLaws.{prints}
use Rattle.programs.proofs.RunLaws.{runs_sheet}
use Rattle.hours.specs.Hours.{wet_times, hours_run_text}
use Rattle.hours.specs.Inner.Wet.{RunsSheetWet}

-- ---- the run of a sheet starts from nothing, and passes its checks

module _
    (h : Heading) (held : Rooms) {before room : List ℕ} {u : Run} (l : before ≡ no_lasts h.shape h.rules held)
    (c : room ≡ no_records h.shape h.rules held) (f : u ≡ fresh_run h.rules 1) where
  abbrev W : World
  W = world held.cells.depths before room u

  pub sheet_passes :
      checks_in h.shape h.rules held h.end ≡ 0 →
      refusal (run_checks (plan_in h.shape h.rules held) (given_in h.shape h.rules held) h.end W) ≡ 0
  sheet_passes z = judge_is h.shape h.rules held h.end refl f l c ∙ z

  pub sheet_wet :
      {a : Ran} {depths lasts records times : List ℕ} → checks_in h.shape h.rules held h.end ≡ 0 →
      ended a.refused a.steps (world depths lasts records a.run) ≡ run_from (plan_in h.shape h.rules held) (given_in h.shape h.rules held) h.end (h.end - W.run.clock) 0 W →
      times ≡ wet_times (plan_in h.shape h.rules held) (given_in h.shape h.rules held) W a.steps → RunsSheetWet h held a depths lasts records times
  sheet_wet {a} z ends times_are =
      let run =
      runs_sheet h held l c f
      (record { ends = run_passed (plan_in h.shape h.rules held) (given_in h.shape h.rules held) h.end W (sym (sheet_passes z)) refl ends }) in
      record {
        run = run;
        times_are =
            times_are
            ∙ (ap (λ (x : World). wet_times (plan_in h.shape h.rules held) (given_in h.shape h.rules held) x a.steps)
            (world_same l c (f ∙ ap (fresh_run h.rules) (sym (one_slot h.shape h.rules held))))
            ∙ ap (wet_times (plan_in h.shape h.rules held) (given_in h.shape h.rules held) (start_in h.shape h.rules held))
            (ap (λ (x : Ended). x.steps) run.ends));
      }

-- ---- what is printed

told_as :
    (p : Plan) {t t' : List ℕ} {n n' k k' : ℕ} {u u' : Run} → t ≡ t' → n ≡ n' → k ≡ k' → u ≡ u' →
    pick (eqb n 0) (made_text p t u k) (refused_text n 0) ≡ pick (eqb n' 0) (made_text p t' u' k') (refused_text n' 0)
told_as p a b c d = cc

hours_are :
    (h : Heading) (held : Rooms) {a : Ran} {depths lasts records times : List ℕ} → RunsSheetWet h held a depths lasts records times →
    ran_text (plan_in h.shape h.rules held) times a ≡ hours_run_text h held
unfolding ended_text hours_run_text
hours_are h held f =
    let same = f.run.ends in
    told_as (plan_in h.shape h.rules held) f.times_are (ap (λ (x : Ended). x.number) same) (ap (λ (x : Ended). x.steps) same)
    (ap (λ (x : Ended). x.world.run) same)

pub hours_printed :
    (h : Heading) (parts : Rooms) {a : Ran} {depths lasts records times shown old new : List ℕ} {r : ℕ} → squares h.shape ≤ program_squares →
    most_printed ≤ length old → shown ≡ times → RunsSheetWet h parts a depths lasts records times →
    PutRan (plan_in h.shape h.rules parts) shown a 0 old new r → Prints (hours_run_text h parts) old new r
hours_printed h parts {a} {old = old} {new} {r} few l d f w =
    let same = ap (λ (x : List ℕ). ran_text (plan_in h.shape h.rules parts) x a) d ∙ hours_are h parts f in
    prints l (omega (arith, ap length same, w.fits, few)) (subst (λ (t : List ℕ). Wrote t 0 old new r) same w.wrote)
