-- `evenings::program::go_on` meets its contract: no line is left, the rooms do not fit, or a line is taken.
-- Assumes nothing.
use mathlib.Core.Path.{ap}
use mathlib.Core.Bool.{not}
use native.Mathlib.Omega.{arith}
use Rattle.sheet.specs.Sheet.{rooms}
use Rattle.programs.proofs.EndedLaws.{refused_printed}
use Rattle.checks.proofs.CheckLaws.{fails_by, holds_by}
use Rattle.evenings.specs.Program.{Stores, stores, night_fits}
use Rattle.evenings.proofs.NightLaws.{left_is, left_at, night_none, night_refused}
use Rattle.evenings.proofs.program.go_on.Goals as goal
use Rattle.evenings.proofs.program.go_on.Goals.{Start}

-- what the rooms hold
abbrev R : Start → Stores
R s =
    stores (rooms s.args.marks.now s.args.beds.now s.args.roughness.now s.args.rates.now s.args.depths.now s.args.rain.now s.args.inflow.now)
    s.args.lasts.now s.args.records.now s.args.began.now

pub returns-then-not-is_left : goal.returns-then-not-is_left
returns-then-not-is_left c = night_none c.args.text.now c.args.night (R (goal.at.returns-then-not-is_left c).Start) (left_is c.args.text.now c.args.night (fails_by c.is_left.ensures (ap not c.if-not-is_left.true))) c.over.ensures

pub fits-requires : goal.fits-requires
fits-requires c = omega (arith, left_at c.args.text.now c.args.night (left_is c.args.text.now c.args.night (holds_by c.is_left.ensures (ap not c.if-not-is_left.false))))

pub returns-then-not-fits : goal.returns-then-not-fits
returns-then-not-fits c =
    night_refused c.args.text.now c.args.night (R (goal.at.returns-then-not-fits c).Start)
    (left_is c.args.text.now c.args.night (holds_by c.is_left.ensures (ap not c.if-not-is_left.false)))
    (fails_by {t = night_fits c.args.night (R (goal.at.returns-then-not-fits c).Start)} c.fits.ensures (ap not c.if-not-fits.true))
    c.over-then-not-fits.ensures (refused_printed (omega arith) (omega arith) (omega arith) c.put_refused.ensures)

pub take_held-requires : goal.take_held-requires
take_held-requires c = ((left_is c.args.text.now c.args.night (holds_by c.is_left.ensures (ap not c.if-not-is_left.false))), holds_by {t = night_fits c.args.night (R (goal.at.take_held-requires c).Start)} c.fits.ensures (ap not c.if-not-fits.false))
