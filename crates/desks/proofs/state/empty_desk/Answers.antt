-- `desks::state::empty_desk` meets its contract: a night of which nothing is known, with an account of nothing.
-- Assumes nothing.
use mathlib.Core.Bool.{false}
use Rattle.desks.proofs.state.empty_desk.Goals as goal

pub returns : goal.returns
returns c =
    λ j.
    record {
      ready = false;
      heading = (c.no_night-night.ensures j).heading;
      log = (c.no_night-night.ensures j).log;
      account = c.open_account.ensures j;
      series = c.no_series.ensures j;
      length = 0;
    }
