-- Laws of the checks of a sheet that passes them: its rooms are ready for a run, and so are rooms that are alike where no square is closed.
-- Assumes nothing.
use mathlib.Core.Path.{◌≡◌, sym, subst}
use mathlib.Core.Bool.{true, false}
use mathlib.Core.List.{List}
use Prim.Native.Nat.{ℕ, ◌-◌, ◌≤◌}
use native.Mathlib.Omega.{arith}
use lib.ListN.{length, get_or}
use borrow.Author.Tests.{eq-eqb, le-leb, lt-ltb}
use Rattle.reckon.specs.Tests.{refusal}
use Rattle.reckon.specs.Ranges.{most_depth, last_clock, most_outflow, most_soaked, water_fine}
use Rattle.reckon.proofs.TestLaws.{or_right, or_of, every_each, each_every, all_at, all_of, refusal_passed, passed_refusal}
use Rattle.trials.specs.Ring.{ring_fine}
use Rattle.grid.specs.Squares.{squares}
use Rattle.grid.specs.declared.squares.Shape.{Shape}
use Rattle.rule.specs.declared.rules.Rules.{Rules}
use Rattle.ledger.specs.Runs.{world, seen_of, run_values_fine}
use Rattle.ledger.specs.Flows.{shut}
use Rattle.ledger.specs.Record.{room_slots, ring_of}
use Rattle.ledger.specs.Checks.{one_each, waters_fine}
use Rattle.checks.specs.Inner.Ready.{Ready}
use Rattle.checks.specs.Given.{ground, given}
use Rattle.checks.specs.Refusals.{square_ground_fine, grounds_fine, check_refusals, run_checks, step_checks}
use Rattle.checks.specs.Fresh.{fresh_run}
use Rattle.checks.proofs.CheckLaws.{ready, run_checks_step}
use Rattle.sheet.specs.Sheet.{Rooms, plan_in, given_in, start_in, checks_in}

module _ (shape : Shape) (r : Rules) (held : Rooms) (end : ℕ) (e : checks_in shape r held end ≡ 0) where
  pub step_zero :
      refusal
      (step_checks (plan_in shape r held) (given_in shape r held) (ring_of (plan_in shape r held) (start_in shape r held))
      (seen_of (start_in shape r held))) ≡ 0
  unfolding checks_in
  step_zero = run_checks_step _ _ end _ e

  pub is_ready : Ready (plan_in shape r held) (given_in shape r held) (seen_of (start_in shape r held))
  is_ready = ready _ _ _ _ step_zero

-- rooms of one number a square that are alike where no square is closed
pub record Handed (shape : Shape) (r : Rules) (held : Rooms) (beds roughness rates depths lasts records : List ℕ) : Type 0 where
  pub beds_long : length beds ≡ squares shape
  pub roughness_long : length roughness ≡ squares shape
  pub rates_long : length rates ≡ squares shape
  pub depths_long : length depths ≡ squares shape
  pub lasts_long : length lasts ≡ squares shape
  pub beds_alike : (i : ℕ) → shut (plan_in shape r held) i ≡ false → get_or beds i 0 ≡ get_or held.cells.beds i 0
  pub roughness_alike : (i : ℕ) → shut (plan_in shape r held) i ≡ false → get_or roughness i 0 ≡ get_or held.cells.roughness i 0
  pub rates_alike : (i : ℕ) → shut (plan_in shape r held) i ≡ false → get_or rates i 0 ≡ get_or held.cells.rates i 0
  pub depths_alike : (i : ℕ) → shut (plan_in shape r held) i ≡ false → get_or depths i 0 ≡ get_or held.cells.depths i 0
  pub lasts_none : (i : ℕ) → shut (plan_in shape r held) i ≡ false → get_or lasts i 0 ≡ 0
  pub slot_one : 1 ≤ room_slots (plan_in shape r held) records

pub ring_fresh : (K : ℕ) → 1 ≤ K → ring_fine K 0 (K - 1) ≡ true
unfolding ring_fine
ring_fresh K h = each_every _ (lt-ltb 0 K (omega arith), (le-leb 0 K (omega arith), (lt-ltb (K - 1) K (omega arith), tt)))

-- the ground of a square is fine by its numbers
ground_same :
    {b b' k k' s s' : ℕ} → b ≡ b' → k ≡ k' → s ≡ s' → square_ground_fine b' k' s' ≡ true → square_ground_fine b k s ≡ true
ground_same e f g h = rw (e, f, g) h

pub run_passes :
    (shape : Shape) (r : Rules) (held : Rooms) (end : ℕ) → checks_in shape r held end ≡ 0 → (beds roughness rates depths lasts records : List ℕ) →
    Handed shape r held beds roughness rates depths lasts records →
    refusal
    (run_checks (plan_in shape r held) (given (ground r beds roughness rates) held.rain held.inflow) end
    (world depths lasts records (fresh_run r (room_slots (plan_in shape r held) records)))) ≡ 0
unfolding checks_in check_refusals run_values_fine fresh_run one_each waters_fine water_fine grounds_fine
run_passes shape r held end e beds roughness rates depths lasts records g =
    let rows = refusal_passed _ tt e in
    let lent = every_each _ rows.0 in
    let lie = every_each _ rows.1.0 in
    let fine = is_ready shape r held end e in
    let p = plan_in shape r held in
    passed_refusal _ (
      each_every _ (
        lent.0,
        (
          lent.1.0,
          (
            lent.1.1.0,
            (
              eq-eqb _ _ g.beds_long,
              (eq-eqb _ _ g.roughness_long, (eq-eqb _ _ g.rates_long, (eq-eqb _ _ g.depths_long, (eq-eqb _ _ g.lasts_long, tt)))),
            ),
          ),
        ),
      ),
      (
        each_every _ (
          lie.0,
          (
            all_of _ _ (λ i l. or_of (shut p i) _ (λ s.
                ground_same (g.beds_alike i s) (g.roughness_alike i s) (g.rates_alike i s)
                (or_right (shut p i) _ (all_at _ _ lie.1.0 i l) s))),
            tt,
          ),
        ),
        (
          all_of _ _ (λ i l. or_of (shut p i) _ (λ s.
              each_every _ (
                le-leb _ _ (subst (λ (d : ℕ). d ≤ most_depth) (sym (g.depths_alike i s)) (fine.flows.lies.depths_to i l s)),
                (le-leb _ _ (subst (λ (d : ℕ). d ≤ most_depth) (sym (g.lasts_none i s)) (omega arith)), tt),
              ))),
          (
            rows.1.1.1.0,
            (
              rows.1.1.1.1.0,
              (
                each_every _ (
                  ring_fresh (room_slots p records) g.slot_one,
                  (le-leb 0 last_clock (omega arith), ((every_each _ rows.1.1.1.1.1.0).1.1.0, ((every_each _ rows.1.1.1.1.1.0).1.1.1.0, (le-leb 0 most_outflow (omega arith), (le-leb 0 most_soaked (omega arith), tt))))),
                ),
                tt,
              ),
            ),
          ),
        ),
      ),
    )
