-- A caller has what the demands say: each call's contract gives the worlds and numbers that they speak of.
-- Assumes nothing.
use mathlib.Core.Path.{◌≡◌, refl, sym, ap, ◌∙◌, subst}
use mathlib.Core.Bool.{Bool, true, false}
use mathlib.Core.List.{List, [], ◌++◌}
use Prim.Native.Nat.{ℕ, zero, suc, ◌%◌, ◌<◌, ◌≤◌}
use native.Mathlib.Omega.{arith}
use lib.ListN.{length, get_or, drop}
use lib.Seq.{take_at, drop_at}
use borrow.Author.Tests.{eq-eqb, le-leb}
use Rattle.reckon.specs.Tests.{refusal}
use Rattle.reckon.specs.Lists.{placed}
use Rattle.reckon.proofs.TestLaws.{not_both, each_every, pick_true}
use Rattle.reckon.proofs.ListLaws.{filled_in}
use Rattle.grid.specs.Squares.{squares, square_at}
use Rattle.grid.proofs.SquareLaws.{square_within, row_of, column_of}
use Rattle.grid.specs.Masks.{wet_masks}
use Rattle.grid.specs.declared.walks.Walk.{Walk}
use Rattle.rule.specs.Length.{is_update}
use Rattle.rule.specs.declared.rules.Rules.{Rules}
use Rattle.ledger.specs.Runs.{Plan, World, plan, world, answered, seen_of}
use Rattle.ledger.specs.Record.{ring_of}
use Rattle.ledger.specs.TakeBack.{TakesBack, back_number, taken_back}
use Rattle.ledger.specs.Walls.{Untouched}
use Rattle.ledger.specs.declared.runs.Run.{Run}
use Rattle.ledger.specs.declared.runs.Answer.{Answer}
use Rattle.ledger.specs.declared.runs.Answer.TheVariants.{Done}
use Rattle.checks.specs.Given.{Given}
use Rattle.checks.specs.Refusals.{Checks, ChecksStep, step_checks, run_checks}
use Rattle.checks.specs.Bounds.{BoundsSteps, bounds_number, spans_whole, figures, told_bounds, bounds_of, bounds_refusals}
use Rattle.flood.specs.Step.{Steps, step_number, stepped}
use Rattle.checks.specs.Fresh.{Freshens, fresh_number, fresh_lasts}
use Rattle.flood.specs.Run.{Ended, RunsTo}
use Rattle.checks.proofs.FreshLaws.{fresh_sizes, sizes_lent}
use Rattle.flood.specs.declared.run.Ran.{Ran}
use Rattle.checks.specs.declared.bounds.StepBounds.{StepBounds}
use Rattle.checks.specs.declared.bounds.Bounds.{Bounds}
use Rattle.checks.specs.declared.bounds.Bounds.TheVariants.{Bounded}
use Rattle.sight.specs.AllArrows.{Sights, kind_of, arrow_in, laid_out, seen_square, SeesAll}
use Rattle.sight.specs.Arrows.{Sees, arrow_number, seen_at, seen_by}
use Rattle.sight.specs.Speeds.{zero64}
use Rattle.sight.proofs.AllArrowsLaws.{get_or_each}
use Rattle.sight.specs.WetRows.{WetRowed, ones_over, wet_number, counted}
use Rattle.sight.specs.declared.arrows.Sight.{Sight}
use Rattle.sight.specs.declared.wet_rows.Wet.{Wet}
use Rattle.sight.specs.declared.wet_rows.Wet.TheVariants.{Count}
use Rattle.sheet.specs.Sheet.{Rooms, Reads}
use Rattle.sheet.specs.declared.reading.Sheet.{Sheet}
use Rattle.sheet.specs.declared.reading.Sheet.TheVariants.{Read, Refused}
use Rattle.text.specs.Writing.{Wrote}
use Rattle.programs.specs.Program.{meadow_text}
use Rattle.exports.specs.Bounds.{bounds_told}
use Rattle.exports.specs.Steps.{answer_number}
use Rattle.exports.specs.Sights.{sight_number, wet_number_of}
use Rattle.exports.proofs.AnswerLaws.{number_answered}
use Rattle.exports.specs.Sheets.{sheet_number}
use Rattle.demands.specs.Table.{FirstFails, TableSays}
use Rattle.demands.specs.Demand1.{StopsBefore}
use Rattle.demands.specs.Demand2.{StepGives}
use Rattle.demands.specs.Played.{run_after}
use Rattle.demands.specs.WetAre.{WetAre}
use Rattle.calls.specs.Library.{AfterStep, AfterRun, AfterBack, AfterFresh, AfterBounds, AfterArrow, AfterAllArrows, AfterWet, AfterRead, AfterMeadow}
use Rattle.demands.proofs.Demand1.{demand_1}
use Rattle.demands.proofs.Demand2.{demand_2}
use Rattle.demands.proofs.Demand3.{demand_3}
use Rattle.demands.proofs.Exported.{seen_number, told_number}
use Rattle.demands.proofs.Fields.{sheet_told}
use Rattle.demands.proofs.Loader.{loader_walls}
use Rattle.demands.proofs.Played.{step_left, back_left, plays_step, plays_run, plays_back}
use Rattle.demands.proofs.StepCount.{step_count}
use Rattle.demands.proofs.WetAre.{wet_are}

pub done_of : (n : ℕ) (u : Run) → n ≡ 0 → answered n u ≡ Done u
unfolding answered
done_of zero u z = refl
done_of (suc n) u z = absurd (omega (arith, z))

bounded_of : (n : ℕ) (holds : Bool) (b : StepBounds) → n ≡ 0 → holds ≡ true → told_bounds n holds b ≡ Bounded b
unfolding told_bounds
bounded_of zero true b z e = refl
bounded_of zero false b z e = not_both e refl
bounded_of (suc n) holds b z e = absurd (omega (arith, z))

-- ---- steps, runs and take-backs

pub after-step : (walk : Walk) {p : Plan} {g : Given} {w : World} {a : Answer} {depths lasts records : List ℕ} → Steps p g w a depths lasts records →
    AfterStep p g w a (world depths lasts records (run_after a w.run))
after-step walk {p} {g} {w} {a} {depths} {lasts} {records} s =
    let left = step_left p g w a depths lasts records s in
    let number : answer_number a ≡ step_number p g w = ap answer_number s.answer ∙ number_answered (step_number p g w) (stepped p g w).run in
    record {
      exactly_when = rw number ((demand_1.exactly_when p).step g w);
      as_it_was = λ d. left ∙ (demand_1.refusals_leave p).step g w (λ z. d (number ∙ z));
      made = λ z. s.answer ∙ (done_of (step_number p g w) _ (sym number ∙ z) ∙ ap (λ (x : World). Done x.run) (sym left));
      gives = λ z. subst (StepGives p g w) (sym left) ((demand_2 p).step_gives g w (sym number ∙ z));
      none_altered = subst (Untouched p w) (sym left) ((demand_2 p).none_altered.step g w);
      plays = plays_step walk s;
    }

pub after_run : (walk : Walk) {p : Plan} {g : Given} {end : ℕ} {w : World} {a : Ran} {depths lasts records : List ℕ} → RunsTo p g end w a depths lasts records →
    AfterRun p g end w a (world depths lasts records a.run)
after_run walk {p} {g} {end} {w} {a} {depths} {lasts} {records} s =
    let says = (demand_1.exactly_when p).check g end w in
    record {
      exactly_when = λ n f.
          let number : refusal (run_checks p g end w) ≡ n = says.applies n f in
          let refused = (demand_1.refusals_leave p).run-to g end w (λ z. says.never_none (subst (FirstFails (run_checks p g end w)) (sym number ∙ z) f)) in
          let as-was = s.ends ∙ refused in
          (ap (λ (e : Ended). e.number) as-was ∙ number, (ap (λ (e : Ended). e.steps) as-was, ap (λ (e : Ended). e.world) as-was));
      stops = λ z. subst (StopsBefore p g end w) (sym s.ends) (demand_1.run_stops p g end w z);
      none_altered = subst (λ (e : Ended). Untouched p w e.world) (sym s.ends) ((demand_2 p).none_altered.run-to g end w);
      plays = plays_run walk s;
    }

pub after-back : {p : Plan} {w : World} {a : Answer} {depths lasts : List ℕ} → TakesBack p w a depths lasts →
    AfterBack p w a (world depths lasts w.records (run_after a w.run))
after-back {p} {w} {a} {depths} {lasts} s =
    let left = back_left p w a depths lasts s in
    let number : answer_number a ≡ back_number p w = ap answer_number s.answer ∙ number_answered (back_number p w) (taken_back p w).run in
    record {
      exactly_when = rw number ((demand_1.exactly_when p).take_back w);
      as_it_was = λ d. left ∙ (demand_1.refusals_leave p).take_back w (λ z. d (number ∙ z));
      made = λ z. s.answer ∙ (done_of (back_number p w) _ (sym number ∙ z) ∙ ap (λ (x : World). Done x.run) (sym left));
      none_altered = subst (Untouched p w) (sym left) ((demand_2 p).none_altered.take_back w);
      plays = plays_back s;
    }

-- ---- a fresh run, its checks and its figures

pub after-fresh : {p : Plan} {r : Rules} {before records : List ℕ} {a : Answer} {lasts : List ℕ} → Freshens p r before records a lasts →
    AfterFresh p r before records a lasts
unfolding fresh_lasts
after-fresh {p} {r} {before} {records} {a} {lasts} s =
    let number : answer_number a ≡ fresh_number p r before records = ap answer_number s.answer ∙ number_answered (fresh_number p r before records) _ in
    record {
      exactly_when = rw number ((demand_1.exactly_when p).fresh r before records);
      as_it_was = λ d. s.lasts_are ∙ (demand_1.refusals_leave p).fresh r before records (λ z. d (number ∙ z));
      made = λ z. s.answer ∙ done_of (fresh_number p r before records) _ (sym number ∙ z);
      none_left = λ z i h e.
          let none : fresh_number p r before records ≡ 0 = sym number ∙ z in
          ap (λ (l : List ℕ). get_or l i 0) (s.lasts_are ∙ pick_true _ _ (eq-eqb _ _ none)) ∙ filled_in _ _ _ before i (long none h) h e;
      none_altered = λ i e. ap (λ (l : List ℕ). get_or l i 0) s.lasts_are ∙ (demand_2 p).none_altered.fresh r before records i e;
      begins = λ depths u e. (demand_3 p).fresh_is r depths records before lasts u (rw (sym e) s);
    }
  where
    long : fresh_number p r before records ≡ 0 → {i : ℕ} → i < squares p.shape → i < length before
    long none h = omega (arith, (sizes_lent p.shape p.marks r.square_side before (fresh_sizes p r before records none)).1)

pub after_check :
    (p : Plan) (g : Given) (end : ℕ) (w : World) {r : ℕ} → Checks p g end w.depths w.lasts (length w.records) w.run r →
    TableSays (run_checks p g end w) r
after_check p g end w s = rw (s w.records refl) ((demand_1.exactly_when p).check g end w)

pub after_check_step :
    (p : Plan) (g : Given) (w : World) {r : ℕ} → ChecksStep p g w.depths w.lasts (length w.records) w.run r →
    TableSays (step_checks p g (ring_of p w) (seen_of w)) r
after_check_step p g w s = rw (s w.records refl) ((demand_1.exactly_when p).check_step g w)

pub after_bounds : (r : Rules) (clock end : ℕ) {a : Bounds} → BoundsSteps r clock end a → AfterBounds r clock end a
unfolding bounds_of figures spans_whole is_update
after_bounds r clock end {a} s =
    record {
      exactly_when = λ l. rw (number l) table;
      told = λ z e l. s ∙ bounded_of (bounds_number r clock end) (spans_whole r clock end) (figures r clock end) z (whole e l);
      counted = λ b e p g w same at.
          (step_count.counted p g end w).told b (rw (same, at) (sym s ∙ e));
    }
  where
    number : bounds_told a < 100 → bounds_told a ≡ bounds_number r clock end
    number l =
        ap bounds_told s ∙ told_number (bounds_number r clock end) (spans_whole r clock end) (figures r clock end) (subst (λ (x : Bounds). bounds_told x < 100) s l)

    whole : clock % r.update ≡ 0 → clock ≤ end → spans_whole r clock end ≡ true
    whole e l = each_every _ (eq-eqb _ _ e, (le-leb _ _ l, tt))

    table : TableSays (bounds_refusals r clock end) (bounds_number r clock end)
    table = (demand_1.exactly_when (plan (record { rows = 0; columns = 0 }) [])).step_bounds r clock end

-- ---- arrows and wet rows

pub after_arrow : (p : Plan) (D : ℕ) (w : World) (row column : ℕ) {a : Sight} → Sees p D w row column a → AfterArrow p D w row column a
unfolding seen_at seen_by
after_arrow p D w row column {a} s =
    record { exactly_when = λ l. rw (number l) ((demand_1.exactly_when p).arrow D w row column); seen = s }
  where
    number : sight_number a < 100 → sight_number a ≡ arrow_number p D w row column
    number l = ap sight_number s ∙ seen_number (arrow_number p D w row column) _ _ _ _ (subst (λ (x : Sight). sight_number x < 100) s l)

-- what is laid out for a square
laid-at : (n : ℕ) (f : ℕ → Sight) {i : ℕ} → i < n →
    (get_or (laid_out n f).kinds i 0 ≡ kind_of (f i))
    × ((get_or (laid_out n f).east i zero64 ≡ (arrow_in (f i)).east) × (get_or (laid_out n f).north i zero64 ≡ (arrow_in (f i)).north))
unfolding laid_out
laid-at n f {i} h =
    (get_or_each n (λ k. kind_of (f k)) 0 i h, (get_or_each n (λ k. (arrow_in (f k)).east) zero64 i h, get_or_each n (λ k. (arrow_in (f k)).north) zero64 i h))

-- asked by its row and column
seen_here : (p : Plan) (D : ℕ) (w : World) {row column : ℕ} → row < p.shape.rows → column < p.shape.columns →
    seen_square p D w (square_at p.shape row column) ≡ seen_at p D w row column
unfolding seen_square
seen_here p D w {row} {column} h g =
    let r = row_of p.shape row g in
    let c = column_of p.shape row g in
    λ k. seen_at p D w (r k) (c k)

-- the arrows of all squares
pub after-all : {p : Plan} {D : ℕ} {w : World} {old new : Sights} {n : ℕ} → SeesAll p D w old n new → AfterAllArrows p D w old n new
after-all {p} {D} {w} {old} {new} {n} s =
    record {
      exactly_when = rw s.number_is ((demand_1.exactly_when p).all_arrows D w old);
      as_it_was = (demand_1.refusals_leave p).all_arrows D w old new n s;
      seen = λ z row column h g. each (s.rooms_are ∙ pick_true _ _ (eq-eqb _ _ (sym s.number_is ∙ z))) row column h g;
    }
  where
    each : new ≡ laid_out (squares p.shape) (seen_square p D w) → (row column : ℕ) → row < p.shape.rows → column < p.shape.columns →
        let i = square_at p.shape row column in
        (get_or new.kinds i 0 ≡ kind_of (seen_at p D w row column))
        × ((get_or new.east i zero64 ≡ (arrow_in (seen_at p D w row column)).east) × (get_or new.north i zero64 ≡ (arrow_in (seen_at p D w row column)).north))
    each e row column h g =
        let at = laid-at (squares p.shape) (seen_square p D w) (square_within p.shape h g) in
        let here = seen_here p D w h g in (
          ap (λ (x : Sights). get_or x.kinds (square_at p.shape row column) 0) e ∙ (at.0 ∙ ap kind_of here),
          (
            ap (λ (x : Sights). get_or x.east (square_at p.shape row column) zero64) e ∙ (at.1.0 ∙ ap (λ (x : Sight). (arrow_in x).east) here),
            ap (λ (x : Sights). get_or x.north (square_at p.shape row column) zero64) e ∙ (at.1.1 ∙ ap (λ (x : Sight). (arrow_in x).north) here),
          ),
        )

-- a count, or a refusal's number
wet-number : (n ones : ℕ) → wet_number_of (counted n ones) ≡ n
unfolding wet_number_of counted
wet-number zero ones = refl
wet-number (suc n) ones = refl

count_of : (n ones : ℕ) → n ≡ 0 → counted n ones ≡ Count ones
unfolding counted
count_of zero ones z = refl
count_of (suc n) ones z = absurd (omega (arith, z))

pub after_wet : {p : Plan} {depths : List ℕ} {least : ℕ} {old : List ℕ} {a : Wet} {rows : List ℕ} → WetRowed p depths least old a rows →
    AfterWet p depths least old a rows
after_wet {p} {depths} {least} {old} {a} {rows} s =
    let masks : List ℕ = wet_masks p.shape p.marks depths least in
    let number : wet_number_of a ≡ wet_number p depths least (length old) = ap wet_number_of s.answer ∙ wet-number _ (ones_over masks) in
    record {
      exactly_when = rw number ((demand_1.exactly_when p).wet_rows depths least (length old));
      as_it_was = λ d. (demand_1.refusals_leave p).wet_rows depths least old a rows s (λ z. d (number ∙ z));
      wet = λ z. (
        ones_over masks,
        (
          s.answer ∙ count_of _ (ones_over masks) (sym number ∙ z),
          subst (λ (l : List ℕ). WetAre p depths least l (ones_over masks)) (sym (s.rows_are ∙ pick_true _ _ (eq-eqb _ _ (sym number ∙ z)))) (wet_are p depths least),
        ),
      );
    }

-- ---- a sheet, and `meadow`

read_refused : (a : Sheet) → (sheet_number a ≡ 0 → ⊥) → (number : ℕ) × ((line : ℕ) × (a ≡ Refused number line))
unfolding sheet_number
read_refused (Read h) d = absurd (d refl)
read_refused (Refused number line) d = (number, (line, refl))

pub after_read : {s : List ℕ} {before : Rooms} {a : Sheet} {after : Rooms} → Reads s before a after → AfterRead s before a after
after_read {s} {before} {a} {after} x =
    record {
      exactly_when = rw x.answer (demand_1.loader.exactly_when s before);
      as_it_was = λ d.
          let refused = read_refused a d in
          demand_1.loader.leaves s before after refused.0 refused.1.0 (subst (λ (b : Sheet). Reads s before b after) refused.1.1 x);
      fields = λ h e. sheet_told.read s before after h (subst (λ (b : Sheet). Reads s before b after) e x);
      none_altered = λ h e. loader_walls.none_altered s before after h (subst (λ (b : Sheet). Reads s before b after) e x);
    }

pub after-meadow : (s : List ℕ) {old new : List ℕ} {long : ℕ} → Wrote (meadow_text s) 0 old new long → AfterMeadow s old new long
unfolding placed
after-meadow s {old} {new} {long} x =
    let text : List ℕ = meadow_text s in
    let whole : long ≡ length text = omega (arith, x.next) in
    let room : new ≡ text ++ drop (length text) old = x.room in
    record {
      printed = rw (room, whole) (take_at text (drop (length text) old) (length text) refl);
      rest_stays = rw (room, whole) (drop_at text (drop (length text) old) (length text) refl);
      says = demand_1.loader.printed s;
    }
