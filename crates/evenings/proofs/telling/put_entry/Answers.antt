-- `evenings::telling::put_entry` meets its contract: a refusal's line, nothing, or what stands.
-- Assumes nothing.
use mathlib.Core.Path.{ap}
use mathlib.Core.Bool.{not}
use mathlib.Core.Path.{sym}
use mathlib.Core.List.{List}
use Prim.Native.Nat.{ℕ}
use native.Mathlib.Omega.{arith}
use Rattle.ledger.specs.Runs.{Plan, plan}
use Rattle.programs.proofs.EndedLaws.{prints, refused_printed}
use Rattle.hatches.specs.Log.{evening}
use Rattle.evenings.proofs.ShownLaws.{made_fits, shown_line, shown-refused, shown-world, shown_nothing}
use Rattle.checks.proofs.CheckLaws.{fails_by, holds_by}
use Rattle.evenings.proofs.telling.put_entry.Goals as goal
use Rattle.evenings.proofs.telling.put_entry.Goals.{Start}

-- what is printed, of which grid
abbrev P : Start → Plan
P c = plan c.args.shape c.args.marks.now

abbrev D : Start → List ℕ
D c = c.args.depths.now

pub returns-then-number-eq12 : goal.returns-then-number-eq12
returns-then-number-eq12 c =
    λ lasts records began. shown_line (P (goal.at.returns-then-number-eq12 c).Start) c.args.entry c.args.line (evening (D (goal.at.returns-then-number-eq12 c).Start) lasts records began c.args.log)
    c.if-number-eq12.true
    (refused_printed c.requires.1 (omega arith) (omega arith) c.put_refused.ensures)

pub returns-then-number-ne0 : goal.returns-then-number-ne0
returns-then-number-ne0 c =
    λ lasts records began. shown-refused (P (goal.at.returns-then-number-ne0 c).Start) c.args.entry c.args.line (evening (D (goal.at.returns-then-number-ne0 c).Start) lasts records began c.args.log)
    c.if-number-ne0.true c.if-number-eq12.false
    (refused_printed c.requires.1 (omega arith) (omega arith) c.put_refused-then-number-ne0.ensures)

pub returns-then-not-is_shown : goal.returns-then-not-is_shown
returns-then-not-is_shown c = λ lasts records began. shown_nothing (P (goal.at.returns-then-not-is_shown c).Start) c.args.entry c.args.line (evening (D (goal.at.returns-then-not-is_shown c).Start) lasts records began c.args.log) c.if-number-ne0.false (fails_by c.is_shown.ensures (ap not c.if-not-is_shown.true))

pub put_world-requires : goal.put_world-requires
put_world-requires c =
    let l = c.requires.0 c.if-number-ne0.false in
    let g = c.well_formed in record {
      shape_in_range = (l.0, sym l.2, sym l.3);
      steps_in_bounds = omega (
        arith,
        c.requires.1,
        made_fits (P (goal.at.put_world-requires c).Start) (D (goal.at.put_world-requires c).Start) c.args.log.run c.args.log.steps l.1 (λ i. omega (arith, c.type_inv.depths i))
            (omega (arith, c.well_formed)) (omega (arith, c.well_formed)) (omega (arith, c.well_formed)) (omega (arith, c.well_formed)),
      );
    }

pub returns : goal.returns
returns c =
    let l = c.requires.0 c.if-number-ne0.false in
    λ lasts records began.
    shown-world (P (goal.at.returns c).Start) c.args.entry c.args.line (evening (D (goal.at.returns c).Start) lasts records began c.args.log) c.if-number-ne0.false
    (holds_by c.is_shown.ensures (ap not c.if-not-is_shown.false))
    (prints c.requires.1
    (made_fits (P (goal.at.returns c).Start) (D (goal.at.returns c).Start) c.args.log.run c.args.log.steps l.1 (λ i. omega (arith, c.type_inv.depths i))
    (omega (arith, c.well_formed)) (omega (arith, c.well_formed)) (omega (arith, c.well_formed)) (omega (arith, c.well_formed)))
    c.put_world.ensures)
