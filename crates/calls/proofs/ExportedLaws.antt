-- A caller in another language has what the demands say: each exported call gives what the library's own call gives, or 1 and nothing where a slice
-- has not its size.
-- Assumes nothing.
use mathlib.Core.Path.{◌≡◌, refl, sym, ap, ◌∙◌, subst}
use mathlib.Core.Bool.{Bool, true, false, ◌&&◌}
use mathlib.Core.List.{List, [], ◌∷◌}
use Prim.Native.Nat.{ℕ, zero, suc, ◌≤◌}
use native.Mathlib.Omega.{arith}
use lib.Dec.{eqb, leb}
use lib.ListN.{length, get_or}
use lib.Ieee.{Float}
use borrow.Author.Tests.{eq-eqb, le-leb, lt-leb, leb-true}
use Rattle.reckon.specs.Tests.{pick}
use Rattle.reckon.proofs.TestLaws.{and_left, and_right, no_more, pick_true, pick_false}
use Rattle.grid.specs.Masks.{wet_masks}
use Rattle.grid.specs.declared.walks.Walk.{Walk}
use Rattle.rule.specs.declared.rules.Rules.{Rules}
use Rattle.ledger.specs.Runs.{Plan, World, plan, world}
use Rattle.ledger.specs.Record.{room_slots}
use Rattle.ledger.specs.TakeBack.{TakesBack, back_number, taken_back}
use Rattle.ledger.specs.Walls.{Untouched}
use Rattle.ledger.specs.declared.runs.Run.{Run}
use Rattle.ledger.specs.declared.runs.Answer.TheVariants.{Done}
use Rattle.checks.specs.Given.{Given}
use Rattle.flood.specs.Step.{Steps, step_number, stepped}
use Rattle.checks.specs.Bounds.{figures, bounds_of, told_bounds}
use Rattle.checks.specs.Fresh.{Freshens, fresh_number, fresh_run, fresh_lasts}
use Rattle.flood.specs.Run.{Ended, ended, run_to}
use Rattle.flood.specs.declared.run.Ran.{Ran}
use Rattle.checks.specs.declared.bounds.StepBounds.{StepBounds}
use Rattle.checks.specs.declared.bounds.Bounds.{Bounds}
use Rattle.checks.specs.declared.bounds.Bounds.TheVariants.{Bounded}
use Rattle.sight.specs.WetRows.{ones_over}
use Rattle.sheet.specs.Sheet.{Rooms, heading_of, sheet_of, rooms_after}
use Rattle.sheet.specs.declared.reading.Sheet.{Sheet}
use Rattle.sheet.specs.declared.reading.Sheet.TheVariants.{Read}
use Rattle.programs.specs.Program.{most_printed}
use Rattle.exports.specs.Numbers.{rules_from, run_value_from, run_numbers, run_size}
use Rattle.exports.specs.Refusals.{number_if, unless_refused, unless_checks, last_check}
use Rattle.exports.specs.Steps.{answer_number, ExportsFresh, ExportsStep, ExportsRun, ExportsBack, both_sized, ran_sized}
use Rattle.exports.specs.Bounds.{ExportsBounds, bounds_told, figures_in, bounds_sized}
use Rattle.exports.specs.Sights.{ExportsArrow, ExportsWet}
use Rattle.exports.specs.Sheets.{ExportsRead, ExportsMeadow, heading_in, sheet_line, sheet_sized}
use Rattle.demands.specs.Demand2.{StepGives}
use Rattle.demands.specs.Demand3.{stepping, taking_back}
use Rattle.demands.specs.Played.{Played, run_after}
use Rattle.demands.specs.WetAre.{WetAre}
use Rattle.calls.specs.Exported.{AfterFloodFresh, AfterFloodStep, AfterFloodRun, AfterFloodBack, AfterFloodArrow, AfterFloodWet, AfterFloodBounds, AfterFloodRead, AfterFloodMeadow}
use Rattle.demands.proofs.Demand1.{demand_1}
use Rattle.demands.proofs.Demand2.{demand_2}
use Rattle.demands.proofs.Exported.{checks_refuse}
use Rattle.demands.proofs.Loader.{sheet_read}
use Rattle.demands.proofs.Played.{back_records, back_left, plays_step, plays_back}
use Rattle.demands.proofs.StepCount.{step_count}
use Rattle.demands.proofs.WetAre.{wet_are}
use Rattle.calls.proofs.LibraryLaws.{done_of, after-fresh, after_bounds, after_run, after_read, after-meadow}

-- ---- numbers and slices

-- no number means that every slice has its size, and that the call's own number is none
number_none : (sized : Bool) {n number : ℕ} → number ≡ number_if sized n → number ≡ 0 → (sized ≡ true) × (n ≡ 0)
unfolding number_if pick
number_none true e z = (refl, sym e ∙ z)
number_none false e z = absurd (omega (arith, sym e ∙ z))

-- what a slice holds after a call that was not refused
made_of : {A : Type 0} {n m : ℕ} {new : A} (made old : A) → n ≡ m → new ≡ unless_refused m made old → n ≡ 0 → new ≡ made
unfolding unless_refused
made_of made old q e z = e ∙ pick_true _ _ (eq-eqb _ _ (sym q ∙ z))

-- a run's numbers tell the run
run-told : {run : List ℕ} (u : Run) → run ≡ run_numbers u → run_value_from run ≡ u
run-told u e = ap run_value_from e

-- the world of four parts that are known
world-of : {depths lasts records : List ℕ} {u : Run} (w : World) → depths ≡ w.depths → lasts ≡ w.lasts → records ≡ w.records → u ≡ w.run →
    world depths lasts records u ≡ w
world-of w d l r u = λ j. world (d j) (l j) (r j) (u j)

-- what holds where a call is refused and where it is not
either_way : (A : Type 0) (number : ℕ) → (number ≡ 0 → A) → ((number ≡ 0 → ⊥) → A) → A
either_way A zero made refused = made refl
either_way A (suc n) made refused = refused (λ z. omega (arith, z))

stays : (p : Plan) (w : World) → Untouched p w w
stays p w = record { depth_stays = λ i e. refl; last_stays = λ i e. refl }

-- a plan, for calls that are lent none
anywhere : Plan
anywhere = plan (record { rows = 0; columns = 0 }) []

-- ---- a fresh run

pub after_flood_fresh : (p : Plan) (r : Rules) (before records rules old : List ℕ) {number : ℕ} {lasts run : List ℕ} →
    ExportsFresh p r before records rules old number lasts run → AfterFloodFresh p r before records rules old number lasts run
unfolding fresh_run answer_number
after_flood_fresh p r before records rules old {number} {lasts} {run} x =
    let made : number ≡ 0 → run_value_from run ≡ fresh_run r (room_slots p records) = λ z. run-told _ (made_of _ _ x.number_is x.run_is z) in
    let left = (demand_1.exports_leave p).fresh r before records rules old number lasts run x in
    record {
      exactly_when = (demand_1.exports_exactly_when p).fresh r before records rules old number lasts run x;
      as_it_was = left;
      made = made;
      none_left = λ z i h e.
          let fresh = (number_none (both_sized rules old) x.number_is z).1 in
          ap (λ (l : List ℕ). get_or l i 0) (made_of (fresh_lasts p r before records) before x.number_is x.lasts_are z)
          ∙ (after-fresh (freshens fresh)).none_left refl i h e;
      none_altered = λ i e.
          either_way (get_or lasts i 0 ≡ get_or before i 0) number
          (λ z. ap (λ (l : List ℕ). get_or l i 0) (made_of (fresh_lasts p r before records) before x.number_is x.lasts_are z) ∙ (demand_2 p).none_altered.fresh r before records i e)
          (λ d. ap (λ (l : List ℕ). get_or l i 0) (left d).0);
      begins = λ z depths. record { kept_none = ap (λ (u : Run). u.kept) (made z); newest_last = ap (λ (u : Run). u.newest) (made z) };
    }
  where
    freshens : fresh_number p r before records ≡ 0 → Freshens p r before records (Done (fresh_run r (room_slots p records))) (fresh_lasts p r before records)
    freshens z = record { answer = sym (done_of (fresh_number p r before records) _ z); lasts_are = refl }

-- ---- a step and a take_back

pub after_flood_step : (walk : Walk) (p : Plan) (g : Given) {depths lasts records : List ℕ} (rules old : List ℕ) {number : ℕ} {depths' lasts' records' run : List ℕ} →
    let w = world depths lasts records (run_value_from old) in
    ExportsStep p g w rules old number depths' lasts' records' run → AfterFloodStep p g w rules old number (world depths' lasts' records' (run_value_from run)) run
unfolding run_after
after_flood_step walk p g {depths} {lasts} {records} rules old {number} {depths'} {lasts'} {records'} {run} x =
    let w : World = world depths lasts records (run_value_from old) in
    let v : World = world depths' lasts' records' (run_value_from run) in
    let none : number ≡ 0 → step_number p g w ≡ 0 = λ z. (number_none (both_sized rules old) x.number_is z).1 in
    let made : number ≡ 0 → v ≡ stepped p g w = λ z.
    world-of (stepped p g w) (made_of _ _ x.number_is x.depths_are z) (made_of _ _ x.number_is x.lasts_are z)
    (made_of _ _ x.number_is x.records_are z) (run-told _ (made_of _ _ x.number_is x.run_is z)) in
    let left = (demand_1.exports_leave p).step g w rules old number depths' lasts' records' run x in
    let as-was : (number ≡ 0 → ⊥) → v ≡ w = λ d. world-of w (left d).0 (left d).1.0 (left d).1.1.0 (ap run_value_from (left d).1.1.1) in
    record {
      exactly_when = (demand_1.exports_exactly_when p).step g w rules old number depths' lasts' records' run x;
      as_it_was = λ d. (as-was d, (left d).1.1.1);
      gives = λ z. subst (StepGives p g w) (sym (made z)) ((demand_2 p).step_gives g w (none z));
      none_altered =
          either_way (Untouched p w v) number (λ z. subst (Untouched p w) (sym (made z)) ((demand_2 p).none_altered.step g w))
          (λ d. subst (Untouched p w) (sym (as-was d)) (stays p w));
      plays = λ z. subst (Played p (stepping g) w) (sym (made z)) (plays_step walk (steps (none z)));
    }
  where
    steps : {w : World} → step_number p g w ≡ 0 → Steps p g w (Done (stepped p g w).run) (stepped p g w).depths (stepped p g w).lasts (stepped p g w).records
    steps {w} z = record { answer = sym (done_of (step_number p g w) _ z); depths_are = refl; lasts_are = refl; records_are = refl }

pub after_flood_back : (p : Plan) {depths lasts records : List ℕ} (old : List ℕ) {number : ℕ} {depths' lasts' run : List ℕ} →
    let w = world depths lasts records (run_value_from old) in
    ExportsBack p w old number depths' lasts' run → AfterFloodBack p w old number (world depths' lasts' records (run_value_from run)) run
after_flood_back p {depths} {lasts} {records} old {number} {depths'} {lasts'} {run} x =
    let w : World = world depths lasts records (run_value_from old) in
    let v : World = world depths' lasts' records (run_value_from run) in
    let none : number ≡ 0 → back_number p w ≡ 0 = λ z. (number_none (eqb (length old) run_size) x.number_is z).1 in
    let made : number ≡ 0 → v ≡ taken_back p w = λ z.
    world-of (taken_back p w) (made_of _ _ x.number_is x.depths_are z) (made_of _ _ x.number_is x.lasts_are z)
    (sym (back_records p w)) (run-told _ (made_of _ _ x.number_is x.run_is z)) in
    let left = (demand_1.exports_leave p).take_back w old number depths' lasts' run x in
    let as-was : (number ≡ 0 → ⊥) → v ≡ w = λ d. world-of w (left d).0 (left d).1.0 refl (ap run_value_from (left d).1.1) in
    record {
      exactly_when = (demand_1.exports_exactly_when p).take_back w old number depths' lasts' run x;
      as_it_was = λ d. (as-was d, (left d).1.1);
      none_altered =
          either_way (Untouched p w v) number (λ z. subst (Untouched p w) (sym (made z)) ((demand_2 p).none_altered.take_back w))
          (λ d. subst (Untouched p w) (sym (as-was d)) (stays p w));
      plays = λ z. subst (Played p taking_back w) (back_left p w _ _ _ (takes (none z)) ∙ sym (made z)) (plays_back (takes (none z)));
    }
  where
    takes : {w : World} → back_number p w ≡ 0 → TakesBack p w (Done (taken_back p w).run) (taken_back p w).depths (taken_back p w).lasts
    takes {w} z = record { answer = sym (done_of (back_number p w) _ z); depths_are = refl; lasts_are = refl }

-- ---- a run to an end

-- the steps that its slice tells: none where its checks refused it
steps_told : (number made : ℕ) (old : List ℕ) → (1 ≤ number → number ≤ last_check → made ≡ 0) →
    unless_checks number (get_or (unless_checks number (made ∷ []) old) 0 0) 0 ≡ made
unfolding unless_checks
steps_told number made old none = go (leb 1 number && leb number last_check) refl
  where
    go : (b : Bool) → (leb 1 number && leb number last_check) ≡ b →
        pick (leb 1 number && leb number last_check) 0 (get_or (pick (leb 1 number && leb number last_check) old (made ∷ [])) 0 0) ≡ made
    go true e = pick_true _ _ e ∙ sym (none (leb-true 1 number (and_left (leb 1 number) (leb number last_check) e)) (leb-true number last_check (and_right (leb 1 number) (leb number last_check) e)))
    go false e = pick_false _ _ e ∙ ap (λ (l : List ℕ). get_or l 0 0) (pick_false _ _ e)

pub after_flood_run : (walk : Walk) (p : Plan) (g : Given) (end : ℕ) {depths lasts records : List ℕ} (rules old old_steps : List ℕ) {number : ℕ}
    {depths' lasts' records' run steps : List ℕ} →
    let w = world depths lasts records (run_value_from old) in
    ExportsRun p g end w rules old old_steps number depths' lasts' records' run steps →
    AfterFloodRun p g end w rules old old_steps number (world depths' lasts' records' (run_value_from run)) run steps
unfolding number_if
after_flood_run walk p g end {depths} {lasts} {records} rules old old_steps {number} {depths'} {lasts'} {records'} {run} {steps} x =
    record {
      not_its_size = λ d.
          let q : sized ≡ false = no_more sized d in (
            x.number_is ∙ pick_false _ _ q,
            (
              world-of w (x.depths_are ∙ pick_false _ _ q) (x.lasts_are ∙ pick_false _ _ q) (x.records_are ∙ pick_false _ _ q) (ap run_value_from (x.run_is ∙ pick_false _ _ q)),
              (x.run_is ∙ pick_false _ _ q, x.steps_are ∙ pick_false _ _ q),
            ),
          );
      ran = λ q. after_run walk {a = told} (record { ends = ends q });
      none_told = λ low high.
          ((demand_1.exports_leave p).run-checks g end w rules old old_steps number depths' lasts' records' run steps x refl low high).1.1.1.1;
    }
  where
    w : World
    w = world depths lasts records (run_value_from old)

    sized : Bool
    sized = ran_sized p g end w rules old old_steps

    e : Ended
    e = run_to p g end w

    told : Ran
    told = record { refused = number; steps = unless_checks number (get_or steps 0 0) 0; run = run_value_from run }

    ends : sized ≡ true → ended told.refused told.steps (world depths' lasts' records' told.run) ≡ run_to p g end w
    ends q =
        let number_is : number ≡ e.number = x.number_is ∙ pick_true _ _ q in
        let none : 1 ≤ e.number → e.number ≤ last_check → e.steps ≡ 0 = λ low high.
        ap (λ (o : Ended). o.steps) (checks_refuse p g end w rules old old_steps number depths' lasts' records' run steps x low high) in
        let steps_are : unless_checks number (get_or steps 0 0) 0 ≡ e.steps =
        rw (number_is, x.steps_are ∙ pick_true _ _ q) (steps_told e.number e.steps old_steps none) in
        let world_is =
        world-of e.world (x.depths_are ∙ pick_true _ _ q) (x.lasts_are ∙ pick_true _ _ q) (x.records_are ∙ pick_true _ _ q)
        (run-told _ (x.run_is ∙ pick_true _ _ q)) in
        λ j. ended (number_is j) (steps_are j) (world_is j)

-- ---- arrows and wet rows

pub after_flood_arrow : (p : Plan) (D : ℕ) (w : World) (row column : ℕ) (run : List ℕ) (old : List Float) {number : ℕ} {speeds : List Float} →
    ExportsArrow p D w row column run old number speeds → AfterFloodArrow p D w row column run old number speeds
unfolding number_if
after_flood_arrow p D w row column run old {number} {speeds} x =
    record {
      exactly_when = (demand_1.exports_exactly_when p).arrow D w row column run old number speeds x;
      as_it_was = (demand_1.exports_leave p).arrow D w row column run old number speeds x;
      seen = λ e. (x.number_is ∙ pick_true _ _ e, x.speeds_are ∙ pick_true _ _ e);
    }

pub after_flood_wet : (p : Plan) (depths : List ℕ) (least : ℕ) (old_rows old_count : List ℕ) {number : ℕ} {rows count : List ℕ} →
    ExportsWet p depths least old_rows old_count number rows count → AfterFloodWet p depths least old_rows old_count number rows count
after_flood_wet p depths least old_rows old_count {number} {rows} {count} x =
    let masks : List ℕ = wet_masks p.shape p.marks depths least in
    record {
      exactly_when = (demand_1.exports_exactly_when p).wet_rows depths least old_rows old_count number rows count x;
      as_it_was = (demand_1.exports_leave p).wet_rows depths least old_rows old_count number rows count x;
      wet = λ z. (
        ones_over masks,
        (
          made_of _ _ x.number_is x.count_is z,
          subst (λ (l : List ℕ). WetAre p depths least l (ones_over masks)) (sym (made_of masks old_rows x.number_is x.rows_are z)) (wet_are p depths least),
        ),
      );
    }

-- ---- the figures before a run

bounded_told : (n : ℕ) (holds : Bool) (b : StepBounds) → bounds_told (told_bounds n holds b) ≡ 0 → told_bounds n holds b ≡ Bounded b
unfolding bounds_told told_bounds
bounded_told (suc n) holds b z = absurd (omega (arith, z))
bounded_told zero false b z = absurd (omega (arith, z))
bounded_told zero true b z = refl

bounded_is : (r : Rules) (clock end : ℕ) → bounds_told (bounds_of r clock end) ≡ 0 → bounds_of r clock end ≡ Bounded (figures r clock end)
unfolding bounds_of
bounded_is r clock end z = bounded_told _ _ _ z

pub after_flood_bounds : (clock end : ℕ) (rules old : List ℕ) {number : ℕ} {bounds : List ℕ} → ExportsBounds clock end rules old number bounds →
    AfterFloodBounds clock end rules old number bounds
unfolding bounds_told figures_in number_if
after_flood_bounds clock end rules old {number} {bounds} x =
    record {
      exactly_when = (demand_1.exports_exactly_when anywhere).step_bounds clock end rules old number bounds x;
      as_it_was = (demand_1.exports_leave anywhere).step_bounds clock end rules old number bounds x;
      told = λ sized z e l.
          let figures = (after_bounds (rules_from rules) clock end {a = bounds_of (rules_from rules) clock end} refl).told z e l in (
            x.number_is ∙ (pick_true _ _ sized ∙ ap bounds_told figures),
            x.bounds_are ∙ (pick_true _ _ sized ∙ ap (λ (a : Bounds). figures_in a old) figures),
          );
      counted = λ z p g w same at.
          let none = number_none (bounds_sized clock end rules old) x.number_is z in
          let told = bounded_of none.1 in
          let bounds_are = x.bounds_are ∙ (pick_true _ _ none.0 ∙ ap (λ (a : Bounds). figures_in a old) told) in
          rw bounds_are ((step_count.counted p g end w).told _ (rw (same, at) told));
    }
  where
    bounded_of : bounds_told (bounds_of (rules_from rules) clock end) ≡ 0 → bounds_of (rules_from rules) clock end ≡ Bounded (figures (rules_from rules) clock end)
    bounded_of = bounded_is (rules_from rules) clock end

-- ---- a sheet, and `meadow`

pub after_flood_read : (s : List ℕ) (before : Rooms) (old_heading old_line : List ℕ) {number : ℕ} {after : Rooms} {heading line : List ℕ} →
    ExportsRead s before old_heading old_line number after heading line → AfterFloodRead s before old_heading old_line number after heading line
unfolding heading_in number_if
after_flood_read s before old_heading old_line {number} {after} {heading} {line} x =
    record {
      exactly_when = (demand_1.exports_exactly_when anywhere).read_sheet s before old_heading old_line number after heading line x;
      as_it_was = (demand_1.exports_leave anywhere).read_sheet s before old_heading old_line number after heading line x;
      line_told = λ sized. (
        sheet_line (sheet_of s before),
        (
          x.line_is ∙ pick_true _ _ sized,
          rw (x.number_is ∙ pick_true _ _ sized) (demand_1.loader.exactly_when s before),
        ),
      );
      read = λ z.
          let none = number_none (sheet_sized s before old_heading old_line) x.number_is z in
          let told : sheet_of s before ≡ Read (heading_of s) = sheet_read s before none.1 in
          let rooms_are : after ≡ rooms_after s (Read (heading_of s)) before = x.rooms_are ∙ (pick_true _ _ none.0 ∙ ap (λ (a : Sheet). rooms_after s a before) told) in (
            heading_of s,
            (
              x.heading_is ∙ (pick_true _ _ none.0 ∙ ap (λ (a : Sheet). heading_in a old_heading) told),
              after_read (record { answer = sym told; rooms_are = rooms_are }),
            ),
          );
    }

pub after_flood_meadow : (s old : List ℕ) {long : ℕ} {out : List ℕ} → ExportsMeadow s old long out → AfterFloodMeadow s old long out
after_flood_meadow s old {long} {out} x =
    record {
      not_its_size = λ small.
          let short : leb most_printed (length old) ≡ false = lt-leb _ _ small in
          (x.long_is ∙ pick_false _ _ short, x.out_is ∙ pick_false _ _ short);
      printed = λ rooms_good.
          let fits : leb most_printed (length old) ≡ true = le-leb _ _ rooms_good in
          after-meadow s (record { next = omega (arith, x.long_is ∙ pick_true _ _ fits); room = x.out_is ∙ pick_true _ _ fits });
    }
