-- `survey::sets::all_agree` meets its contract: the first grid that does not agree decides.
-- Assumes nothing.
use mathlib.Core.Path.{ap}
use mathlib.Core.Bool.{not}
use mathlib.Core.Path.{sym, ◌∙◌}
use Rattle.reckon.proofs.TestLaws.{every_fails}
use Rattle.checks.proofs.CheckLaws.{fails_by, holds_by, every_decided}
use Rattle.survey.specs.Sets.{Set, five_files, all_agree}
use Rattle.survey.proofs.SetLaws.{agrees_in}
use Rattle.survey.proofs.sets.all_agree.Goals as goal
use Rattle.survey.proofs.sets.all_agree.Goals.{Start}

abbrev files : Start → Set
files s = five_files s.args.note.now s.args.bed.now s.args.depth.now s.args.roughness.now s.args.rate.now

pub returns-then-not-grid_agrees : goal.returns-then-not-grid_agrees
unfolding all_agree
returns-then-not-grid_agrees c =
    let t = files (goal.at.returns-then-not-grid_agrees c).Start in
    sym (every_fails _ 0 (fails_by (agrees_in t _ _ c.grid_agrees.ensures) (ap not c.if-not-grid_agrees.true)))

pub returns-then-not-grid_agrees-2 : goal.returns-then-not-grid_agrees-2
unfolding all_agree
returns-then-not-grid_agrees-2 c =
    let t = files (goal.at.returns-then-not-grid_agrees-2 c).Start in
    sym (every_fails _ 1 (fails_by (agrees_in t _ _ c.grid_agrees-2.ensures) (ap not c.if-not-grid_agrees-2.true)))

pub returns-then-not-grid_agrees-3 : goal.returns-then-not-grid_agrees-3
unfolding all_agree
returns-then-not-grid_agrees-3 c =
    let t = files (goal.at.returns-then-not-grid_agrees-3 c).Start in
    sym (every_fails _ 2 (fails_by (agrees_in t _ _ c.grid_agrees-3.ensures) (ap not c.if-not-grid_agrees-3.true)))

pub returns : goal.returns
unfolding all_agree
returns c =
    let t = files (goal.at.returns c).Start in
    let last = agrees_in t _ _ c.grid_agrees-4.ensures in
    every_decided _ 3 _ (sym last)
    (λ z. (
      holds_by (agrees_in t _ _ c.grid_agrees.ensures) (ap not c.if-not-grid_agrees.false),
      (
        holds_by (agrees_in t _ _ c.grid_agrees-2.ensures) (ap not c.if-not-grid_agrees-2.false),
        (holds_by (agrees_in t _ _ c.grid_agrees-3.ensures) (ap not c.if-not-grid_agrees-3.false), (sym last ∙ z, tt)),
      ),
    ))
