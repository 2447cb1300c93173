-- Laws of refusals 1 to 6: what holds where none applies, a run's checks beside a step's, and that a valid world stays valid.
-- Assumes nothing.
use mathlib.Core.Path.{◌≡◌, refl, sym, ap, ◌∙◌}
use mathlib.Core.Bool.{Bool, true, false, ◌||◌, not}
use mathlib.Core.List.{List, [], ◌∷◌}
use Prim.Native.Nat.{ℕ, ◌%◌, ◌≤◌, ◌<◌}
use lib.Dec.{T, leb}
use lib.ListN.{length, get_or}
use borrow.Author.Tests.{leb-true, le-leb, eqb-true, eq-eqb, not-true, not-false}
use Rattle.reckon.specs.Tests.{every, refusal}
use Rattle.reckon.specs.Inner.Rows.{numbered}
use Rattle.reckon.specs.Ranges.{most_depth, most_length, last_clock, most_outflow, most_soak_rate, most_soaked, water_fine, side_fine, rate_fine}
use Rattle.reckon.specs.Tables.{rain_kind, inflow_kind, table_fine}
use Rattle.reckon.proofs.TestLaws.{Each, or_right, or_of, every_each, each_every, every_fails, all_at, all_of, refusal_passed, passed_refusal}
use Rattle.grid.specs.declared.squares.Shape.{Shape}
use Rattle.grid.specs.Squares.{ShapeInRange, squares, shape_fine}
use Rattle.grid.specs.Marks.{Marked, marks_fine, inflow_squares_fine}
use Rattle.grid.proofs.SquareLaws.{ranges_of_fine}
use Rattle.rule.specs.Rules.{ground_fine, rules_fine}
use Rattle.rule.specs.declared.rules.Rules.{Rules}
use Rattle.rule.proofs.RuleLaws.{rules_are, ground_is}
use Rattle.ledger.specs.Runs.{Plan, World, plan, run_values_fine, run_fine, Seen, seen_of}
use Rattle.ledger.specs.Flows.{shut}
use Rattle.trials.specs.Ring.{slots_in}
use Rattle.ledger.specs.Record.{record_size, room_slots, ring_of}
use Rattle.ledger.specs.Checks.{WaterLent, one_each, waters_fine}
use Rattle.ledger.specs.TakeBack.{early_refusals}
use Rattle.ledger.specs.declared.runs.Run.{Run}
use Rattle.checks.specs.Given.{Ground, Given}
use Rattle.checks.specs.Inner.Ready.{Ready}
use Rattle.checks.specs.Refusals.{square_ground_fine, grounds_fine, end_fine, check_refusals, step_checks, run_checks}

-- ---- what a call's answer says of the test that it is

module _ {r t : Bool} (e : r ≡ t) where
  pub fails_by : not r ≡ true → t ≡ false
  fails_by h = sym e ∙ not-true r h

  pub holds_by : not r ≡ false → t ≡ true
  holds_by h = sym e ∙ not-false r h

-- a test decides where the one before it fails
module _ {a : Bool} (b : Bool) where
  pub or_decided : a ≡ false → {r : Bool} → r ≡ b → r ≡ (a || b)
  or_decided e q = rw e q

-- the k-th test decides the list where each other holds
pub every_decided : (bs : List Bool) (k : ℕ) (r : Bool) → get_or bs k true ≡ r → (r ≡ true → Each bs) → r ≡ every bs
every_decided bs k true e f = sym (each_every bs (f refl))
every_decided bs k false e f = sym (every_fails bs k e)

-- ---- each test by its name

-- of what steps leave as it is, but for the rules
record GivenFine (p : Plan) (g : Given) : Type 0 where
  shape-fine : shape_fine p.shape ≡ true
  side-fine : side_fine g.lie.rules.square_side ≡ true
  marks_each : one_each p p.marks ≡ true
  beds_each : one_each p g.lie.beds ≡ true
  roughness_each : one_each p g.lie.roughness ≡ true
  rates_each : one_each p g.lie.rates ≡ true
  marks-fine : marks_fine p.shape p.marks ≡ true
  grounds-fine : grounds_fine p g.lie ≡ true
  rain_fine : table_fine rain_kind g.rain ≡ true
  inflow_fine : table_fine inflow_kind g.inflow ≡ true
  inflow_squares-fine : inflow_squares_fine p.shape p.marks g.inflow ≡ true

-- of what steps change, but for the ring
record SeenFine (p : Plan) (v : Seen) : Type 0 where
  depths_each : one_each p v.depths ≡ true
  lasts_each : one_each p v.lasts ≡ true
  waters-fine : waters_fine p v.depths v.lasts ≡ true
  clock_to : leb v.clock last_clock ≡ true
  length_from : leb 1 v.length ≡ true
  length_to : leb v.length most_length ≡ true
  outflow_to : leb v.outflow most_outflow ≡ true
  soaked_to : leb v.soaked most_soaked ≡ true

record Tested (p : Plan) (g : Given) (five ring : Bool) (v : Seen) : Type 0 where
  given-fine : GivenFine p g
  seen-fine : SeenFine p v
  five_fine : five ≡ true
  ring-fine : ring ≡ true

module _ (p : Plan) (g : Given) (five ring : Bool) (v : Seen) where
  rows_named : T (numbered (check_refusals p g five ring v))
  unfolding check_refusals
  rows_named = tt

  tested : refusal (check_refusals p g five ring v) ≡ 0 → Tested p g five ring v
  unfolding check_refusals run_values_fine
  tested e =
      let rows = refusal_passed _ rows_named e in
      let lent = every_each _ rows.0 in
      let lie = every_each _ rows.1.0 in
      let tables = every_each _ rows.1.1.1.0 in
      let run = every_each _ rows.1.1.1.1.1.0 in
      record {
        given-fine =
            record {
              shape-fine = lent.0;
              side-fine = lent.1.0;
              marks_each = lent.1.1.0;
              beds_each = lent.1.1.1.0;
              roughness_each = lent.1.1.1.1.0;
              rates_each = lent.1.1.1.1.1.0;
              marks-fine = lie.0;
              grounds-fine = lie.1.0;
              rain_fine = tables.0;
              inflow_fine = tables.1.0;
              inflow_squares-fine = tables.1.1.0;
            };
        seen-fine =
            record {
              depths_each = lent.1.1.1.1.1.1.0;
              lasts_each = lent.1.1.1.1.1.1.1.0;
              waters-fine = rows.1.1.0;
              clock_to = run.1.0;
              length_from = run.1.1.0;
              length_to = run.1.1.1.0;
              outflow_to = run.1.1.1.1.0;
              soaked_to = run.1.1.1.1.1.0;
            };
        five_fine = rows.1.1.1.1.0;
        ring-fine = run.0;
      }

  module _ (t : Tested p g five ring v) where
    run-fine : run_values_fine ring v.clock v.length v.outflow v.soaked ≡ true
    unfolding run_values_fine
    run-fine =
        let s = t.seen-fine in
        each_every _ (t.ring-fine, (s.clock_to, (s.length_from, (s.length_to, (s.outflow_to, (s.soaked_to, tt))))))

    passes : refusal (check_refusals p g five ring v) ≡ 0
    unfolding check_refusals
    passes =
        let q = t.given-fine in
        let s = t.seen-fine in
        passed_refusal _ (
          each_every _ (
            q.shape-fine,
            (q.side-fine, (q.marks_each, (q.beds_each, (q.roughness_each, (q.rates_each, (s.depths_each, (s.lasts_each, tt))))))),
          ),
          (
            each_every _ (q.marks-fine, (q.grounds-fine, tt)),
            (
              s.waters-fine,
              (each_every _ (q.rain_fine, (q.inflow_fine, (q.inflow_squares-fine, tt))), (t.five_fine, (run-fine, tt))),
            ),
          ),
        )

    looks : refusal (early_refusals p ring v) ≡ 0
    unfolding early_refusals
    looks =
        let q = t.given-fine in
        let s = t.seen-fine in
        passed_refusal _ (
          each_every _ (q.shape-fine, (q.marks_each, (s.depths_each, (s.lasts_each, tt)))),
          (q.marks-fine, (s.waters-fine, (run-fine, tt))),
        )

-- ---- tests as facts, and back

module _ (p : Plan) where
  pub each_long : (l : List ℕ) → one_each p l ≡ true → length l ≡ squares p.shape
  unfolding one_each
  each_long l e = eqb-true _ _ e

  long_each : (l : List ℕ) → length l ≡ squares p.shape → one_each p l ≡ true
  unfolding one_each
  long_each l e = eq-eqb _ _ e

  ground-at :
      (o : Ground) → grounds_fine p o ≡ true → (i : ℕ) → i < squares p.shape → shut p i ≡ false →
      (ground_fine (get_or o.beds i 0) (get_or o.roughness i 0) ≡ true) × (get_or o.rates i 0 ≤ most_soak_rate)
  unfolding grounds_fine square_ground_fine rate_fine
  ground-at o e i l s = let both = every_each _ (or_right (shut p i) _ (all_at _ _ e i l) s) in (both.0, leb-true _ _ both.1.0)

  module _ (depths lasts : List ℕ) where
    water-at :
        waters_fine p depths lasts ≡ true → (i : ℕ) → i < squares p.shape → shut p i ≡ false →
        (get_or depths i 0 ≤ most_depth) × (get_or lasts i 0 ≤ most_depth)
    unfolding waters_fine water_fine
    water-at e i l s =
        let both = every_each _ (or_right (shut p i) (water_fine (get_or depths i 0) (get_or lasts i 0)) (all_at _ _ e i l) s) in
        (leb-true _ _ both.0, leb-true _ _ both.1.0)

    waters_from :
        ((i : ℕ) → i < squares p.shape → shut p i ≡ false → get_or depths i 0 ≤ most_depth) →
        ((i : ℕ) → i < squares p.shape → shut p i ≡ false → get_or lasts i 0 ≤ most_depth) → waters_fine p depths lasts ≡ true
    unfolding waters_fine water_fine
    waters_from d l =
        all_of _ _ (λ i h. or_of (shut p i) _ (λ s. each_every _ (le-leb _ _ (d i h s), (le-leb _ _ (l i h s), tt))))

-- row 1, for the calls that are lent everything
module _ (s : Shape) (marks : List ℕ) (D : ℕ) (beds roughness rates depths lasts : List ℕ) where
  abbrev pub lent_tests : List Bool
  lent_tests =
      shape_fine s
      ∷ side_fine D
      ∷ one_each (plan s marks) marks
      ∷ one_each (plan s marks) beds
      ∷ one_each (plan s marks) roughness
      ∷ one_each (plan s marks) rates
      ∷ one_each (plan s marks) depths
      ∷ one_each (plan s marks) lasts
      ∷ []

  module _ (e : every lent_tests ≡ true) where
    pub lent-fine : ShapeInRange s
    lent-fine = ranges_of_fine s (every_each _ e).0

    pub lent_marked : Marked s marks
    lent_marked = record { fine = lent-fine; whole = each_long (plan s marks) _ (every_each _ e).1.1.0 }

    pub lent_ground : (Marked s marks) × (length beds ≡ squares s) × (length roughness ≡ squares s) × (length rates ≡ squares s)
    lent_ground =
        let t = every_each _ e in (
          lent_marked,
          each_long (plan s marks) _ t.1.1.1.0,
          each_long (plan s marks) _ t.1.1.1.1.0,
          each_long (plan s marks) _ t.1.1.1.1.1.0,
        )

    pub lent_water : WaterLent (plan s marks) depths lasts
    lent_water =
        let t = every_each _ e in
        record {
          fine = lent-fine;
          marks_long = lent_marked.whole;
          depths_long = each_long (plan s marks) _ t.1.1.1.1.1.1.0;
          lasts_long = each_long (plan s marks) _ t.1.1.1.1.1.1.1.0;
        }

-- how many slots a room has, by how many numbers it has
pub slots_by : (p : Plan) (records : List ℕ) {numbers k : ℕ} → k ≡ slots_in (record_size p) numbers → length records ≡ numbers → k ≡ room_slots p records
unfolding room_slots
slots_by p records e long = e ∙ ap (slots_in (record_size p)) (sym long)

-- row 6, where K is known by another name
pub run-fine_by : {r : Bool} {a b : ℕ} (u : Run) → r ≡ run_fine a u → a ≡ b → r ≡ run_fine b u
run-fine_by u e q = e ∙ ap (λ (k : ℕ). run_fine k u) q

pub update_is : (r : Rules) → rules_fine r ≡ true → 0 < r.update
unfolding rules_fine
update_is r e = leb-true 1 r.update (every_each _ e).1.1.1.1.0

pub end_is : (r : Rules) (end : ℕ) → end_fine r end ≡ true → (end ≤ last_clock) × (end % r.update ≡ 0)
unfolding end_fine
end_is r end e = let both = every_each _ e in (leb-true _ _ both.0, eqb-true _ _ both.1.0)

-- ---- what a step may rely on

module _ (p : Plan) (g : Given) (ring : Bool) (v : Seen) where
  pub checks_named : T (numbered (step_checks p g ring v))
  checks_named = rows_named p g (rules_fine g.lie.rules) ring v

  module _ (e : refusal (step_checks p g ring v) ≡ 0) where
    all_tests : Tested p g (rules_fine g.lie.rules) ring v
    all_tests = tested p g (rules_fine g.lie.rules) ring v e

    pub ready : Ready p g v
    ready =
        let t = all_tests.given-fine in
        let s = all_tests.seen-fine in
        let fine = ranges_of_fine p.shape t.shape-fine in
        let marks_long = each_long p _ t.marks_each in
        let rules = rules_are g.lie.rules t.side-fine all_tests.five_fine in
        record {
          flows =
              record {
                lies =
                    record {
                      sited =
                          record {
                            fine = fine;
                            marks_long = marks_long;
                            beds_long = each_long p _ t.beds_each;
                            depths_long = each_long p _ s.depths_each;
                          };
                      roughness_long = each_long p _ t.roughness_each;
                      rules = rules;
                      grounds = λ i l h. ground_is _ _ (ground-at p g.lie t.grounds-fine i l h).0;
                      depths_to = λ i l h. (water-at p _ _ s.waters-fine i l h).0;
                    };
                lasts_long = each_long p _ s.lasts_each;
                lasts_to = λ i l h. (water-at p _ _ s.waters-fine i l h).1;
                rates_long = each_long p _ t.rates_each;
                rates_to = λ i l h. (ground-at p g.lie t.grounds-fine i l h).1;
              };
          waters =
              record {
                fine = fine;
                marks_long = marks_long;
                rules = rules;
                rain = t.rain_fine;
                inflow = t.inflow_fine;
                inflow_squares = t.inflow_squares-fine;
              };
          clock_to = leb-true _ _ s.clock_to;
          length_from = leb-true _ _ s.length_from;
          length_to = leb-true _ _ s.length_to;
          outflow_to = leb-true _ _ s.outflow_to;
          soaked_to = leb-true _ _ s.soaked_to;
        }

    -- K, kept and newest are in range
    pub ring_is : ring ≡ true
    ring_is = all_tests.ring-fine

    -- what a take-back checks before 10 has passed too
    pub checks_look : refusal (early_refusals p ring v) ≡ 0
    checks_look = looks p g (rules_fine g.lie.rules) ring v all_tests

-- ---- a run to an end

module _ (p : Plan) (g : Given) (end : ℕ) (w : World) (e : refusal (run_checks p g end w) ≡ 0) where
  run_tests : Tested p g (every (rules_fine g.lie.rules ∷ end_fine g.lie.rules end ∷ [])) (ring_of p w) (seen_of w)
  run_tests = tested p g _ (ring_of p w) (seen_of w) e

  pub run_checks_step : refusal (step_checks p g (ring_of p w) (seen_of w)) ≡ 0
  run_checks_step =
      passes p g (rules_fine g.lie.rules) (ring_of p w) (seen_of w)
      (record {
        given-fine = run_tests.given-fine;
        seen-fine = run_tests.seen-fine;
        five_fine = (every_each _ run_tests.five_fine).0;
        ring-fine = run_tests.ring-fine;
      })

  pub run_checks_end : end_fine g.lie.rules end ≡ true
  run_checks_end = (every_each _ run_tests.five_fine).1.0

-- ---- a valid world stays valid

-- what a step leaves: one number a square, and every number of a square not closed and of the run in range
pub record StillFine (p : Plan) (v : Seen) : Type 0 where
  pub depths_long : length v.depths ≡ squares p.shape
  pub lasts_long : length v.lasts ≡ squares p.shape
  pub depths_to : (i : ℕ) → i < squares p.shape → shut p i ≡ false → get_or v.depths i 0 ≤ most_depth
  pub lasts_to : (i : ℕ) → i < squares p.shape → shut p i ≡ false → get_or v.lasts i 0 ≤ most_depth
  pub clock_to : v.clock ≤ last_clock
  pub length_from : 1 ≤ v.length
  pub length_to : v.length ≤ most_length
  pub outflow_to : v.outflow ≤ most_outflow
  pub soaked_to : v.soaked ≤ most_soaked

pub checks_after :
    (p : Plan) (g : Given) (ring ring' : Bool) (v v' : Seen) → refusal (step_checks p g ring v) ≡ 0 → ring' ≡ true → StillFine p v' →
    refusal (step_checks p g ring' v') ≡ 0
checks_after p g ring ring' v v' e r s =
    let t = all_tests p g ring v e in
    passes p g (rules_fine g.lie.rules) ring' v'
    (record {
      given-fine = t.given-fine;
      seen-fine =
          record {
            depths_each = long_each p _ s.depths_long;
            lasts_each = long_each p _ s.lasts_long;
            waters-fine = waters_from p _ _ s.depths_to s.lasts_to;
            clock_to = le-leb _ _ s.clock_to;
            length_from = le-leb _ _ s.length_from;
            length_to = le-leb _ _ s.length_to;
            outflow_to = le-leb _ _ s.outflow_to;
            soaked_to = le-leb _ _ s.soaked_to;
          };
      five_fine = t.five_fine;
      ring-fine = r;
    })
