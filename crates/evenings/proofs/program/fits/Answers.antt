-- `evenings::program::fits` meets its contract: a night that is not fine, or what its rooms decide.
-- Assumes nothing.
use mathlib.Core.Path.{ap}
use mathlib.Core.Bool.{not}
use mathlib.Core.Path.{sym, ◌∙◌}
use Rattle.sheet.specs.Sheet.{rooms}
use Rattle.checks.proofs.CheckLaws.{fails_by, holds_by}
use Rattle.evenings.specs.Program.{Stores, stores}
use Rattle.evenings.proofs.NightLaws.{fits_not, fits_are}
use Rattle.evenings.proofs.program.fits.Goals as goal
use Rattle.evenings.proofs.program.fits.Goals.{Start}

-- what the rooms hold
abbrev R : Start → Stores
R s =
    stores (rooms s.args.marks.now s.args.beds.now s.args.roughness.now s.args.rates.now s.args.depths.now s.args.rain.now s.args.inflow.now)
    s.args.lasts.now s.args.records.now s.args.began.now

pub returns-then-not-night_fine : goal.returns-then-not-night_fine
returns-then-not-night_fine c = sym (fits_not c.args.night (R (goal.at.returns-then-not-night_fine c).Start) (fails_by c.night_fine.ensures (ap not c.if-not-night_fine.true)))

pub returns : goal.returns
returns c = c.rooms_fit.ensures ∙ fits_are c.args.night (R (goal.at.returns c).Start) (holds_by c.night_fine.ensures (ap not c.if-not-night_fine.false)) c.sizes_of-sizes.ensures
