-- Demand 1 holds: each call reads its table row by row, and a run is followed step by step.
-- Assumes nothing.
use mathlib.Core.Path.{refl, sym, ◌∙◌}
use borrow.Author.Tests.{ne_eqb}
use Rattle.reckon.proofs.TestLaws.{pick_false}
use Rattle.ledger.specs.Runs.{Plan}
use Rattle.ledger.specs.TakeBack.{back_refusals, back_number, early_refusals}
use Rattle.ledger.specs.After.{late_refusals}
use Rattle.ledger.proofs.Bridge.{refused_stays}
use Rattle.checks.specs.Refusals.{check_refusals}
use Rattle.checks.specs.Bounds.{bounds_refusals, bounds_number}
use Rattle.flood.specs.Step.{step_number}
use Rattle.checks.specs.Fresh.{fresh_refusals, fresh_number, fresh_lasts}
use Rattle.flood.proofs.RunToLaws.{refused_is, run_checked}
use Rattle.sight.specs.Refusals.{shared_refusals}
use Rattle.sight.specs.Arrows.{arrow_early_refusals, arrow_refusals, arrow_number}
use Rattle.sight.specs.AllArrows.{all_refusals, all_number}
use Rattle.sight.specs.WetRows.{wet_refusals, wet_number}
use Rattle.demands.specs.Demand1.{ExactlyWhen, RefusalsLeave, Demand1}
use Rattle.demands.proofs.Table.{table_says}
use Rattle.demands.proofs.Determined.{determined}
use Rattle.demands.proofs.Loader.{loader_refuses}
use Rattle.flood.proofs.RunInTwoLaws.{run_in_two}
use Rattle.demands.proofs.RunStops.{run_stops}
use Rattle.demands.proofs.Exported.{exports_exactly_when, exports_leave}

-- ---- refusals

exactly_when : (p : Plan) → ExactlyWhen p
unfolding step_number check_refusals late_refusals back_number early_refusals back_refusals fresh_number fresh_refusals bounds_number bounds_refusals arrow_number arrow_refusals arrow_early_refusals shared_refusals all_number all_refusals wet_number wet_refusals
exactly_when p =
    record {
      step = λ g w. table_says _ tt;
      take_back = λ w. table_says _ tt;
      fresh = λ r lasts records. table_says _ tt;
      check = λ g end w. table_says _ tt;
      check_step = λ g w. table_says _ tt;
      step_bounds = λ r clock end. table_says _ tt;
      arrow = λ D w row column. table_says _ tt;
      all_arrows = λ D w old. table_says _ tt;
      wet_rows = λ depths least numbers. table_says _ tt;
    }

refusals_leave : (p : Plan) → RefusalsLeave p
unfolding fresh_lasts
refusals_leave p =
    record {
      step = refused_is p;
      take_back = refused_stays p;
      fresh = λ r lasts records d. pick_false _ _ (ne_eqb _ _ d);
      run-to = λ g end w d. sym (run_checked p g end w refl d);
      all_arrows = λ D w old new n x d. x.rooms_are ∙ pick_false _ _ (ne_eqb _ _ (λ z. d (x.number_is ∙ z)));
      wet_rows = λ depths least old a rows x d. x.rows_are ∙ pick_false _ _ (ne_eqb _ _ d);
    }

pub demand_1 : Demand1
demand_1 =
    record {
      determined = determined;
      exactly_when = exactly_when;
      loader = loader_refuses;
      exports_exactly_when = exports_exactly_when;
      exports_leave = exports_leave;
      refusals_leave = refusals_leave;
      run_stops = run_stops;
      run_in_two = λ p g first end w b f s z. record { same = run_in_two p g first end w b f s z };
    }
