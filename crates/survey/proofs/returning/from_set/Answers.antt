-- `survey::returning::from_set` meets its contract: each refusal in its order, and then the sheet.
-- Assumes nothing.
use mathlib.Core.Path.{ap}
use mathlib.Core.Bool.{not}
use mathlib.Core.Path.{sym, ◌∙◌}
use borrow.Author.Rules.{rules}
use Rattle.checks.proofs.CheckLaws.{fails_by, holds_by}
use Rattle.survey.specs.Sets.{Set, five_files}
use Rattle.survey.proofs.RefusedLaws.{too_long, text_bad, disagree, shape_bad}
use Rattle.survey.proofs.BackLaws.{note_read, bad_by, moves_back, set_good, shape_wrong}
use Rattle.survey.proofs.returning.from_set.Goals as goal
use Rattle.survey.proofs.returning.from_set.Goals.{Start}

abbrev files : Start → Set
files s = five_files s.args.note.now s.args.bed.now s.args.depth.now s.args.roughness.now s.args.rate.now

pub returns-then-not-all_short : goal.returns-then-not-all_short
returns-then-not-all_short c = too_long _ c.args.out.now (fails_by c.all_short.ensures (ap not c.if-not-all_short.true))

pub returns-then-line-ne0 : goal.returns-then-line-ne0
returns-then-line-ne0 c =
    text_bad _ c.args.out.now (holds_by c.all_short.ensures (ap not c.if-not-all_short.false))
    (bad_by (files (goal.at.returns-then-line-ne0 c).Start) c.read_note-read.ensures c.set_bad-line.ensures) c.if-line-ne0.true

pub all_agree-requires : goal.all_agree-requires
all_agree-requires c = note_read (files (goal.at.all_agree-requires c).Start) c.read_note-read.ensures c.set_bad-line.ensures c.if-line-ne0.false

pub returns-then-not-all_agree : goal.returns-then-not-all_agree
returns-then-not-all_agree c =
    disagree _ c.args.out.now (holds_by c.all_short.ensures (ap not c.if-not-all_short.false))
    (sym (bad_by (files (goal.at.returns-then-not-all_agree c).Start) c.read_note-read.ensures c.set_bad-line.ensures) ∙ c.if-line-ne0.false)
    (fails_by c.all_agree.ensures (ap not c.if-not-all_agree.true))

pub returns-then-not-shape_taken : goal.returns-then-not-shape_taken
returns-then-not-shape_taken c =
    shape_bad _ c.args.out.now (holds_by c.all_short.ensures (ap not c.if-not-all_short.false))
    (sym (bad_by (files (goal.at.returns-then-not-shape_taken c).Start) c.read_note-read.ensures c.set_bad-line.ensures) ∙ c.if-line-ne0.false)
    (holds_by c.all_agree.ensures (ap not c.if-not-all_agree.false))
    (shape_wrong (files (goal.at.returns-then-not-shape_taken c).Start) (note_read (files (goal.at.returns-then-not-shape_taken c).Start) c.read_note-read.ensures c.set_bad-line.ensures c.if-line-ne0.false) (fails_by c.shape_taken.ensures (ap not c.if-not-shape_taken.true)))

pub put_set-requires : goal.put_set-requires
put_set-requires c =
    let n = note_read (files (goal.at.put_set-requires c).Start) c.read_note-read.ensures c.set_bad-line.ensures c.if-line-ne0.false in record {
      note_is = (
        n,
        set_good (files (goal.at.put_set-requires c).Start) n (sym (bad_by (files (goal.at.put_set-requires c).Start) c.read_note-read.ensures c.set_bad-line.ensures) ∙ c.if-line-ne0.false)
            (holds_by c.all_agree.ensures (ap not c.if-not-all_agree.false)) (holds_by c.shape_taken.ensures (ap not c.if-not-shape_taken.false)),
      );
      most_file_in_bounds = search rules;
    }

pub returns : goal.returns
returns c =
    let n = note_read (files (goal.at.returns c).Start) c.read_note-read.ensures c.set_bad-line.ensures c.if-line-ne0.false in
    moves_back (files (goal.at.returns c).Start)
    (set_good (files (goal.at.returns c).Start) n (sym (bad_by (files (goal.at.returns c).Start) c.read_note-read.ensures c.set_bad-line.ensures) ∙ c.if-line-ne0.false)
    (holds_by c.all_agree.ensures (ap not c.if-not-all_agree.false)) (holds_by c.shape_taken.ensures (ap not c.if-not-shape_taken.false)))
    (holds_by c.all_short.ensures (ap not c.if-not-all_short.false)) c.put_set.ensures
