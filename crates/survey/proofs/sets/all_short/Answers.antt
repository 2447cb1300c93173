-- `survey::sets::all_short` meets its contract: each length is looked at, and the first that is too long decides.
-- Assumes nothing.
use mathlib.Core.Path.{refl, sym}
use borrow.Author.Tests.{le-leb, lt-leb}
use Rattle.reckon.proofs.TestLaws.{every_fails}
use Rattle.checks.proofs.CheckLaws.{every_decided}
use Rattle.survey.specs.Sets.{all_short}
use Rattle.survey.proofs.sets.all_short.Goals as goal

pub returns-then-note-gt-MOST_FILE : goal.returns-then-note-gt-MOST_FILE
unfolding all_short
returns-then-note-gt-MOST_FILE c = sym (every_fails _ 0 (lt-leb _ _ c.if-note-gt-MOST_FILE.true))

pub returns-then-bed-gt-MOST_FILE : goal.returns-then-bed-gt-MOST_FILE
unfolding all_short
returns-then-bed-gt-MOST_FILE c = sym (every_fails _ 1 (lt-leb _ _ c.if-bed-gt-MOST_FILE.true))

pub returns-then-depth-gt-MOST_FILE : goal.returns-then-depth-gt-MOST_FILE
unfolding all_short
returns-then-depth-gt-MOST_FILE c = sym (every_fails _ 2 (lt-leb _ _ c.if-depth-gt-MOST_FILE.true))

pub returns-then-roughness-gt-MOST_FILE : goal.returns-then-roughness-gt-MOST_FILE
unfolding all_short
returns-then-roughness-gt-MOST_FILE c = sym (every_fails _ 3 (lt-leb _ _ c.if-roughness-gt-MOST_FILE.true))

pub returns : goal.returns
unfolding all_short
returns c =
    every_decided _ 4 _ refl
    (λ z. (le-leb _ _ c.if-note-gt-MOST_FILE.false, (le-leb _ _ c.if-bed-gt-MOST_FILE.false, (le-leb _ _ c.if-depth-gt-MOST_FILE.false, (le-leb _ _ c.if-roughness-gt-MOST_FILE.false, (z, tt))))))
