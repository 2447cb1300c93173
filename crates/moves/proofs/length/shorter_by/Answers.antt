-- `moves::length::shorter_by` meets its contract: a closed or a dry square has no candidate.
-- Assumes nothing.
use mathlib.Core.Path.{◌≡◌, sym, ◌∙◌}
use mathlib.Core.Bool.{false}
use Rattle.ledger.specs.Runs.{Plan, plan}
use Rattle.ledger.specs.Flows.{shut}
use Rattle.checks.specs.Given.{Ground}
use Rattle.moves.specs.Inner.Fill.{firm}
use Rattle.moves.proofs.DropLaws.{candidacy}
use Rattle.moves.proofs.LengthLaws.{least_closed, least_open, least_dry, shorter_made}
use Rattle.moves.proofs.length.shorter_by.Goals as goal
use Rattle.moves.proofs.length.shorter_by.Goals.{Else-is_closed, Start}

-- ---- what is known there

abbrev p : Start → Plan
p s = plan s.args.way.shape s.args.marks.now

abbrev o : Start → Ground
o s = firm s.args.way.rules s.args.beds.now s.args.roughness.now

is_open : (c : Else-is_closed) → shut (p (goal.at.Else-is_closed c).Start) c.args.at.square ≡ false
is_open c = sym c.is_closed.ensures ∙ c.if-is_closed.false

-- ---- the answers

pub returns-then-is_closed : goal.returns-then-is_closed
returns-then-is_closed c =
    sym
    (least_closed (p (goal.at.returns-then-is_closed c).Start) (o (goal.at.returns-then-is_closed c).Start) c.args.depths.now c.args.best c.args.at.square (sym c.is_closed.ensures ∙ c.if-is_closed.true))

pub returns-then-depth-eq0 : goal.returns-then-depth-eq0
returns-then-depth-eq0 c =
    sym
    (least_dry (p (goal.at.returns-then-depth-eq0 c).Start) (o (goal.at.returns-then-depth-eq0 c).Start) c.args.depths.now c.args.best c.args.at.square (is_open (goal.at.returns-then-depth-eq0 c).Else-is_closed)
    (sym c.number-depth.ensures ∙ c.if-depth-eq0.true))

pub shorter-requires : goal.shorter-requires
shorter-requires c =
    candidacy (p (goal.at.shorter-requires c).Start) (o (goal.at.shorter-requires c).Start) c.args.depths.now c.requires.0 c.args.at.square c.requires.1.inside (is_open (goal.at.shorter-requires c).Else-is_closed)
    c.number-depth.ensures c.number.ensures c.drops_by_sides-drops.ensures

pub returns : goal.returns
returns c =
    sym
    (least_open (p (goal.at.returns c).Start) (o (goal.at.returns c).Start) c.args.depths.now c.args.best c.args.at.square (is_open (goal.at.returns c).Else-is_closed)
    ∙ sym
    (c.shorter.ensures
    ∙ shorter_made c.args.way.rules c.args.best c.number-depth.ensures c.number.ensures
    c.drops_by_sides-drops.ensures))
