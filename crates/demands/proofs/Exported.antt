-- The demands hold of the exported functions: each gives what the library's own call gives, or 1 and nothing where a slice has not its size.
-- Assumes nothing.
use mathlib.Core.Path.{◌≡◌, refl, sym, ap, ◌∙◌, subst}
use mathlib.Core.Bool.{Bool, true, false, ◌&&◌}
use mathlib.Core.List.{List, [], ◌∷◌}
use Prim.Native.Nat.{ℕ, zero, suc, ◌≤◌, ◌<◌}
use native.Mathlib.Omega.{arith}
use lib.Dec.{T, eqb, leb}
use lib.ListN.{length}
use lib.Ieee.{Float}
use borrow.Author.Tests.{eqb-true, ne_eqb, le-leb, lt-leb}
use Rattle.reckon.specs.Tests.{pick, Row, ◌unless◌, refusal}
use Rattle.reckon.specs.Inner.Rows.{numbered}
use Rattle.reckon.specs.Lists.{placed}
use Rattle.reckon.proofs.TestLaws.{pick_true, pick_false, every_each}
use Rattle.rule.specs.declared.rules.Rules.{Rules}
use Rattle.ledger.specs.Runs.{Plan, World}
use Rattle.ledger.specs.After.{late_refusals}
use Rattle.ledger.specs.TakeBack.{back_refusals, back_number, early_refusals}
use Rattle.checks.specs.Given.{Given}
use Rattle.checks.specs.Refusals.{check_refusals, run_checks}
use Rattle.flood.specs.Step.{step_number}
use Rattle.checks.specs.Fresh.{fresh_refusals, fresh_number}
use Rattle.flood.specs.Run.{Ended, ended, run_to}
use Rattle.flood.proofs.RunToLaws.{run_checked}
use Rattle.checks.specs.Bounds.{bounds_refusals, bounds_number, told_bounds, bounds_of}
use Rattle.checks.specs.declared.bounds.StepBounds.{StepBounds}
use Rattle.checks.specs.declared.bounds.Bounds.{Bounds}
use Rattle.checks.specs.declared.bounds.Bounds.TheVariants.{Bounded, NotBounded}
use Rattle.checks.specs.declared.bounds.Bounds.TheVariants as Spans
use Rattle.sight.specs.Refusals.{shared_refusals}
use Rattle.sight.specs.Arrows.{view, arrow_early_refusals, arrow_refusals, arrow_number, sighted, seen_by, seen_at}
use Rattle.sight.specs.WetRows.{wet_refusals, wet_number, ones_over}
use Rattle.sight.specs.declared.speeds.Arrow.{Arrow}
use Rattle.sight.specs.declared.arrows.Sight.{Sight}
use Rattle.sight.specs.declared.arrows.Sight.TheVariants.{Closed, Dry, Still, Moving, Refused}
use Rattle.sight.proofs.Alike.{AlikeDepths, wet_number_alike}
use Rattle.grid.proofs.MaskLaws.{masks_alike}
use Rattle.text.proofs.WritingLaws.{placed_none}
use Rattle.sheet.specs.Sheet.{Rooms, rooms_after}
use Rattle.programs.specs.Program.{meadow_text}
use Rattle.sheet.specs.declared.reading.Sheet.{Sheet}
use Rattle.sheet.specs.declared.reading.Sheet.TheVariants.{Read}
use Rattle.sheet.specs.declared.reading.Sheet.TheVariants as Reading
use Rattle.exports.specs.Numbers.{run_value_from, run_numbers, run_size, count_size}
use Rattle.exports.specs.Steps.{both_sized, ExportsFresh, ExportsStep, ExportsRun, ExportsBack, fresh_call_number, step_call_number, back_call_number, ran_sized}
use Rattle.exports.specs.Refusals.{number_if, last_check, unless_refused, unless_checks}
use Rattle.exports.specs.Bounds.{bounds_sized, bounds_told, figures_in}
use Rattle.exports.specs.Sights.{ExportsWet, arrow_sized, sight_number, speeds_in, wet_gives}
use Rattle.exports.specs.Sheets.{sheet_sized, sheet_number, sheet_line, heading_in}
use Rattle.demands.specs.Closed.{SameOpen, SameGiven, SameRoom, SameWorld}
use Rattle.demands.specs.Demand2.{NoneDepends}
use Rattle.demands.specs.Table.{TableSays}
use Rattle.demands.specs.Exported.{ExportsExactlyWhen, ExportsLeave, ExportsNoneDepends}
use Rattle.demands.proofs.Table.{table_says}
use Rattle.demands.proofs.Loader.{sheet-number, sheet_alike}
use Rattle.demands.proofs.RunStops.{run_stops}

-- ---- the table

-- 1 before all else, then the call's own rows
sized_says : (sized : Bool) (rows : List Row) {n number : ℕ} → T (numbered rows) → n ≡ refusal rows → number ≡ number_if sized n →
    TableSays (1 unless sized ∷ rows) number
unfolding number_if refusal
sized_says sized rows t q e =
    subst (λ (m : ℕ). TableSays (1 unless sized ∷ rows) m) (sym (e ∙ ap (number_if sized) q)) (table_says (1 unless sized ∷ rows) t)

-- the number of a sight that is below 100 is that of its table
pub seen_number : (n : ℕ) (is_closed is_dry is_still : Bool) (a : Arrow) → sight_number (sighted n is_closed is_dry is_still a) < 100 →
    sight_number (sighted n is_closed is_dry is_still a) ≡ n
unfolding sight_number sighted
seen_number (suc n) c d s a l = refl
seen_number zero true d s a l = absurd (omega (arith, l))
seen_number zero false true s a l = absurd (omega (arith, l))
seen_number zero false false true a l = absurd (omega (arith, l))
seen_number zero false false false a l = refl

-- so is that of figures
pub told_number : (n : ℕ) (holds : Bool) (b : StepBounds) → bounds_told (told_bounds n holds b) < 100 → bounds_told (told_bounds n holds b) ≡ n
unfolding bounds_told told_bounds
told_number (suc n) holds b l = refl
told_number zero false b l = absurd (omega (arith, l))
told_number zero true b l = refl

below_sized : (sized : Bool) {seen table number : ℕ} → number < 100 → (seen < 100 → seen ≡ table) → number ≡ number_if sized seen → number ≡ number_if sized table
unfolding number_if pick
below_sized true l f e = e ∙ f (subst (λ (n : ℕ). n < 100) e l)
below_sized false l f e = e

pub exports_exactly_when : (p : Plan) → ExportsExactlyWhen p
unfolding fresh_number fresh_refusals step_number check_refusals late_refusals back_number early_refusals back_refusals arrow_number arrow_refusals arrow_early_refusals shared_refusals wet_number wet_refusals bounds_number bounds_refusals bounds_of number_if seen_at seen_by
exports_exactly_when p =
    record {
      fresh = λ r before records rules old number lasts run x. sized_says _ _ tt refl x.number_is;
      step = λ g w rules old number depths lasts records run x. sized_says _ _ tt refl x.number_is;
      take_back = λ w old number depths lasts run x. sized_says _ _ tt refl x.number_is;
      run_unsized = λ g end w rules old old_steps number depths lasts records run steps x e. x.number_is ∙ pick_false _ _ e;
      run-sized = λ g end w rules old old_steps number depths lasts records run steps x e. x.number_is ∙ pick_true _ _ e;
      step_bounds = λ clock end rules old number bounds x l.
          sized_says _ _ tt refl (below_sized (bounds_sized clock end rules old) l (told_number _ _ _) x.number_is);
      arrow = λ D w row column run old number speeds x l.
          sized_says _ _ tt refl (below_sized (arrow_sized p D w row column run old) l (seen_number _ _ _ _ _) x.number_is);
      wet_rows = λ depths least old_rows old_count number rows count x. sized_says _ _ tt refl x.number_is;
      read_sheet = λ s before old_heading old_line number after heading line x.
          sized_says _ _ tt (sheet-number s before) x.number_is;
    }

-- ---- what is lent stays

-- what a slice holds after a refused call
left : {A : Type 0} {n m : ℕ} {new : A} (made old : A) → n ≡ m → new ≡ unless_refused m made old → (n ≡ 0 → ⊥) → new ≡ old
unfolding unless_refused
left made old q e d = e ∙ pick_false _ _ (ne_eqb _ _ (λ z. d (q ∙ z)))

-- a run's numbers in a slice of their size are that slice
pub run_back : (l : List ℕ) → length l ≡ run_size → run_numbers (run_value_from l) ≡ l
run_back [] e = absurd (omega (arith, e))
run_back (a ∷ []) e = absurd (omega (arith, e))
run_back (a ∷ (b ∷ [])) e = absurd (omega (arith, e))
run_back (a ∷ (b ∷ (c ∷ []))) e = absurd (omega (arith, e))
run_back (a ∷ (b ∷ (c ∷ (d ∷ [])))) e = absurd (omega (arith, e))
run_back (a ∷ (b ∷ (c ∷ (d ∷ (f ∷ []))))) e = absurd (omega (arith, e))
run_back (a ∷ (b ∷ (c ∷ (d ∷ (f ∷ (g ∷ [])))))) e = refl
run_back (a ∷ (b ∷ (c ∷ (d ∷ (f ∷ (g ∷ (h ∷ l))))))) e = absurd (omega (arith, e))

module _ (p : Plan) (g : Given) (end : ℕ) (w : World) (rules old old_steps : List ℕ) (number : ℕ) (depths lasts records run steps : List ℕ)
    (x : ExportsRun p g end w rules old old_steps number depths lasts records run steps) where
  abbrev sized : Bool
  sized = ran_sized p g end w rules old old_steps

  abbrev e : Ended
  e = run_to p g end w

  -- a run that is refused by a number of its checks made no step
  pub checks_refuse : 1 ≤ e.number → e.number ≤ last_check → e ≡ ended e.number 0 w
  checks_refuse low high = go (refusal (run_checks p g end w)) refl
    where
      go : (n : ℕ) → refusal (run_checks p g end w) ≡ n → e ≡ ended e.number 0 w
      go zero q = absurd (omega (arith, (run_stops p g end w q).late (λ z. omega (arith, z, low))))
      go (suc n) q =
          let checked : e ≡ ended (refusal (run_checks p g end w)) 0 w = sym (run_checked p g end w refl (λ z. omega (arith, sym q ∙ z))) in
          checked ∙ ap (λ (m : ℕ). ended m 0 w) (sym (ap (λ (o : Ended). o.number) checked))

  within_checks : 1 ≤ number → number ≤ last_check → (leb 1 number && leb number last_check) ≡ true
  within_checks low high = rw (le-leb 1 number low, le-leb number last_check high)

  leaves_checks : w.run ≡ run_value_from old → 1 ≤ number → number ≤ last_check →
      (depths ≡ w.depths) × ((lasts ≡ w.lasts) × ((records ≡ w.records) × ((run ≡ old) × (steps ≡ old_steps))))
  unfolding number_if unless_checks
  leaves_checks same low high = go sized refl
    where
      go : (b : Bool) → sized ≡ b → (depths ≡ w.depths) × ((lasts ≡ w.lasts) × ((records ≡ w.records) × ((run ≡ old) × (steps ≡ old_steps))))
      go false q = (
        x.depths_are ∙ pick_false _ _ q,
        (x.lasts_are ∙ pick_false _ _ q, (x.records_are ∙ pick_false _ _ q, (x.run_is ∙ pick_false _ _ q, x.steps_are ∙ pick_false _ _ q))),
      )
      go true q =
          let n : number ≡ e.number = x.number_is ∙ pick_true _ _ q in
          let there : e.world ≡ w = ap (λ (o : Ended). o.world) (checks_refuse (subst (λ (k : ℕ). 1 ≤ k) n low) (subst (λ (k : ℕ). k ≤ last_check) n high)) in
          let long : length old ≡ run_size = eqb-true (length old) run_size (every_each _ q).1.0 in (
            x.depths_are ∙ (pick_true _ _ q ∙ ap (λ (u : World). u.depths) there),
            (
              x.lasts_are ∙ (pick_true _ _ q ∙ ap (λ (u : World). u.lasts) there),
              (
                x.records_are ∙ (pick_true _ _ q ∙ ap (λ (u : World). u.records) there),
                (
                  x.run_is ∙ (pick_true _ _ q ∙ (ap (λ (u : World). run_numbers u.run) there ∙ (ap run_numbers same ∙ run_back old long))),
                  x.steps_are
                      ∙ (pick_true _ _ q ∙ pick_true _ _ (ap (λ (k : ℕ). leb 1 k && leb k last_check) (sym n) ∙ within_checks low high)),
                ),
              ),
            ),
          )

  leaves_steps : last_check < number →
      (depths ≡ e.world.depths) × ((lasts ≡ e.world.lasts) × ((records ≡ e.world.records)
      × ((run ≡ run_numbers e.world.run) × (steps ≡ e.steps ∷ []))))
  unfolding number_if unless_checks
  leaves_steps late = go sized refl
    where
      past : (k : ℕ) → last_check < k → (leb 1 k && leb k last_check) ≡ false
      past k l = rw (le-leb 1 k (omega arith), lt-leb k last_check l)

      go : (b : Bool) → sized ≡ b →
          (depths ≡ e.world.depths) × ((lasts ≡ e.world.lasts) × ((records ≡ e.world.records)
          × ((run ≡ run_numbers e.world.run) × (steps ≡ e.steps ∷ []))))
      go false q = let n : number ≡ 1 = x.number_is ∙ pick_false _ _ q in absurd (omega (arith, n))
      go true q =
          let n : number ≡ e.number = x.number_is ∙ pick_true _ _ q in (
            x.depths_are ∙ pick_true _ _ q,
            (
              x.lasts_are ∙ pick_true _ _ q,
              (
                x.records_are ∙ pick_true _ _ q,
                (x.run_is ∙ pick_true _ _ q, x.steps_are ∙ (pick_true _ _ q ∙ pick_false _ _ (past e.number (subst (λ (k : ℕ). last_check < k) n late)))),
              ),
            ),
          )

-- a sight that is not moving leaves the speeds
speeds_stay : (sight : Sight) (old : List Float) → (sight_number sight ≡ 0 → ⊥) → speeds_in sight old ≡ old
unfolding sight_number speeds_in
speeds_stay Closed old d = refl
speeds_stay Dry old d = refl
speeds_stay Still old d = refl
speeds_stay (Moving a) old d = absurd (d refl)
speeds_stay (Refused n) old d = refl

arrow_left : (sized : Bool) (sight : Sight) {number : ℕ} {speeds old : List Float} → number ≡ number_if sized (sight_number sight) →
    speeds ≡ pick sized (speeds_in sight old) old → (number ≡ 0 → ⊥) → speeds ≡ old
unfolding number_if pick
arrow_left true sight {number} {speeds} {old} n e d = e ∙ speeds_stay sight old (λ z. d (n ∙ z))
arrow_left false sight n e d = e

-- an answer without figures leaves the slice
figures_stay : (a : Bounds) (old : List ℕ) → (bounds_told a ≡ 0 → ⊥) → figures_in a old ≡ old
unfolding bounds_told figures_in
figures_stay (Bounded b) old d = absurd (d refl)
figures_stay NotBounded old d = refl
figures_stay (Spans.Refused n) old d = refl

bounds_left : (sized : Bool) (a : Bounds) {number : ℕ} {bounds old : List ℕ} → number ≡ number_if sized (bounds_told a) →
    bounds ≡ pick sized (figures_in a old) old → (number ≡ 0 → ⊥) → bounds ≡ old
unfolding number_if pick
bounds_left true a {number} {bounds} {old} n e d = e ∙ figures_stay a old (λ z. d (n ∙ z))
bounds_left false a n e d = e

-- a sheet that is refused leaves the rooms and the heading
read_left : (sized : Bool) (s : List ℕ) (a : Sheet) {number : ℕ} {before after : Rooms} {heading old_heading : List ℕ} → number ≡ number_if sized (sheet_number a) →
    after ≡ pick sized (rooms_after s a before) before → heading ≡ pick sized (heading_in a old_heading) old_heading → (number ≡ 0 → ⊥) →
    (after ≡ before) × (heading ≡ old_heading)
unfolding number_if pick sheet_number rooms_after heading_in
read_left false s a n r h d = (r, h)
read_left true s (Read m) n r h d = absurd (d n)
read_left true s (Reading.Refused number line) n r h d = (r, h)

-- a text of no bytes put into a room leaves it
meadow-left : (sized : Bool) (text : List ℕ) {long : ℕ} {out old : List ℕ} → long ≡ pick sized (length text) 0 → out ≡ pick sized (placed old 0 text) old →
    long ≡ 0 → out ≡ old
unfolding pick
meadow-left false text l o z = o
meadow-left true [] {long} {out} {old} l o z = o ∙ placed_none old 0
meadow-left true (b ∷ text) l o z = absurd (omega (arith, sym l ∙ z))

pub exports_leave : (p : Plan) → ExportsLeave p
exports_leave p =
    record {
      fresh = λ r before records rules old number lasts run x d. (left _ _ x.number_is x.lasts_are d, left _ _ x.number_is x.run_is d);
      step = λ g w rules old number depths lasts records run x d. (
        left _ _ x.number_is x.depths_are d,
        (left _ _ x.number_is x.lasts_are d, (left _ _ x.number_is x.records_are d, left _ _ x.number_is x.run_is d)),
      );
      take_back = λ w old number depths lasts run x d. (
        left _ _ x.number_is x.depths_are d,
        (left _ _ x.number_is x.lasts_are d, left _ _ x.number_is x.run_is d),
      );
      run-checks = λ g end w rules old old_steps number depths lasts records run steps x same low high.
          leaves_checks p g end w rules old old_steps number depths lasts records run steps x same low high;
      run_steps = λ g end w rules old old_steps number depths lasts records run steps x late.
          leaves_steps p g end w rules old old_steps number depths lasts records run steps x late;
      step_bounds = λ clock end rules old number bounds x d. bounds_left _ _ x.number_is x.bounds_are d;
      arrow = λ D w row column run old number speeds x d. arrow_left _ _ x.number_is x.speeds_are d;
      wet_rows = λ depths least old_rows old_count number rows count x d. (left _ _ x.number_is x.rows_are d, left _ _ x.number_is x.count_is d);
      read_sheet = λ s before old_heading old_line number after heading line x d. read_left _ s _ x.number_is x.rooms_are x.heading_is d;
      meadow = λ s old long out x z. meadow-left _ (meadow_text s) x.long_is x.out_is z;
    }

-- ---- closed squares do not matter

-- two choices by one test are related as their sides are
both_ways : {A : Type 0} (R : A → A → Type 0) (b : Bool) {made made' old old' x y : A} → R made made' → R old old' →
    x ≡ pick b made old → y ≡ pick b made' old' → R x y
unfolding pick
both_ways {A} R true {made} {made'} {old} {old'} {x} {y} s t e f = subst (λ (z : A). R z y) (sym e) (subst (λ (z : A). R made z) (sym f) s)
both_ways {A} R false {made} {made'} {old} {old'} {x} {y} s t e f = subst (λ (z : A). R z y) (sym e) (subst (λ (z : A). R old z) (sym f) t)

-- so are two slices after calls with one number
unless_both : {A : Type 0} (R : A → A → Type 0) {n m : ℕ} {made made' old old' x y : A} → n ≡ m → R made made' → R old old' →
    x ≡ unless_refused n made old → y ≡ unless_refused m made' old' → R x y
unfolding unless_refused
unless_both {A} R {n} {m} {made} {made'} {old} {old'} q s t e f =
    both_ways R (eqb n 0) s t e (f ∙ ap (λ (k : ℕ). pick (eqb k 0) made' old') (sym q))

abbrev Equal : {A : Type 0} → A → A → Type 0
Equal a b = a ≡ b

module _ (p : Plan) (N : NoneDepends p) where
  fresh_same : (r : Rules) (before others records rooms rules old : List ℕ) (number m : ℕ) (lasts lasts' run run' : List ℕ) →
      SameOpen p before others → SameRoom p records rooms → ExportsFresh p r before records rules old number lasts run →
      ExportsFresh p r others rooms rules old m lasts' run' → (number ≡ m) × (SameOpen p lasts lasts' × (run ≡ run'))
  fresh_same r before others records rooms rules old number m lasts lasts' run run' L R x y =
      let same = N.fresh r before others records rooms L R in
      let q : fresh_call_number p r before records rules old ≡ fresh_call_number p r others rooms rules old = ap (number_if (both_sized rules old)) same.0 in (
        x.number_is ∙ (q ∙ sym y.number_is),
        (unless_both (SameOpen p) q same.2 L x.lasts_are y.lasts_are, unless_both Equal q (ap run_numbers same.1) refl x.run_is y.run_is),
      )

  step_same : (g h : Given) (w v : World) (rules old : List ℕ) (number m : ℕ) (depths depths' lasts lasts' records records' run run' : List ℕ) →
      SameGiven p g h → SameWorld p w v → ExportsStep p g w rules old number depths lasts records run →
      ExportsStep p h v rules old m depths' lasts' records' run' →
      (number ≡ m) × (SameOpen p depths depths' × (SameOpen p lasts lasts' × (SameRoom p records records' × (run ≡ run'))))
  step_same g h w v rules old number m depths depths' lasts lasts' records records' run run' G W x y =
      let same = N.step g h w v G W in
      let q : step_call_number p g w rules old ≡ step_call_number p h v rules old = ap (number_if (both_sized rules old)) same.0 in (
        x.number_is ∙ (q ∙ sym y.number_is),
        (
          unless_both (SameOpen p) q same.1.depths W.depths x.depths_are y.depths_are,
          (
            unless_both (SameOpen p) q same.1.lasts W.lasts x.lasts_are y.lasts_are,
            (
              unless_both (SameRoom p) q same.1.records W.records x.records_are y.records_are,
              unless_both Equal q (ap run_numbers same.1.run) refl x.run_is y.run_is,
            ),
          ),
        ),
      )

  run_same : (g h : Given) (end : ℕ) (w v : World) (rules old old_steps : List ℕ) (number m : ℕ)
      (depths depths' lasts lasts' records records' run run' steps steps' : List ℕ) → SameGiven p g h → SameWorld p w v →
      ExportsRun p g end w rules old old_steps number depths lasts records run steps →
      ExportsRun p h end v rules old old_steps m depths' lasts' records' run' steps' →
      (number ≡ m) × (SameOpen p depths depths' × (SameOpen p lasts lasts' × (SameRoom p records records' × ((run ≡ run') × (steps ≡ steps')))))
  run_same g h end w v rules old old_steps number m depths depths' lasts lasts' records records' run run' steps steps' G W x y =
      let same = N.run-to g h end w v G W in
      let b : Bool = ran_sized p g end w rules old old_steps in (
        x.number_is ∙ (ap (number_if b) same.number ∙ sym y.number_is),
        (
          both_ways (SameOpen p) b same.world.depths W.depths x.depths_are y.depths_are,
          (
            both_ways (SameOpen p) b same.world.lasts W.lasts x.lasts_are y.lasts_are,
            (
              both_ways (SameRoom p) b same.world.records W.records x.records_are y.records_are,
              (
                both_ways Equal b (ap run_numbers same.world.run) refl x.run_is y.run_is,
                both_ways Equal b
                    (ap (λ (n : ℕ). unless_checks n ((run_to p g end w).steps ∷ []) old_steps) same.number
                    ∙ ap (λ (k : ℕ). unless_checks (run_to p h end v).number (k ∷ []) old_steps) same.steps) refl x.steps_are y.steps_are,
              ),
            ),
          ),
        ),
      )

  back_same : (w v : World) (old : List ℕ) (number m : ℕ) (depths depths' lasts lasts' run run' : List ℕ) → SameWorld p w v →
      ExportsBack p w old number depths lasts run → ExportsBack p v old m depths' lasts' run' →
      (number ≡ m) × (SameOpen p depths depths' × (SameOpen p lasts lasts' × (run ≡ run')))
  back_same w v old number m depths depths' lasts lasts' run run' W x y =
      let same = N.take_back w v W in
      let q : back_call_number p w old ≡ back_call_number p v old = ap (number_if (eqb (length old) run_size)) same.0 in (
        x.number_is ∙ (q ∙ sym y.number_is),
        (
          unless_both (SameOpen p) q same.1.depths W.depths x.depths_are y.depths_are,
          (
            unless_both (SameOpen p) q same.1.lasts W.lasts x.lasts_are y.lasts_are,
            unless_both Equal q (ap run_numbers same.1.run) refl x.run_is y.run_is,
          ),
        ),
      )

  wet_same : (depths others : List ℕ) (least : ℕ) (old_rows old_count : List ℕ) (number m : ℕ) (rows rows' count count' : List ℕ) → SameOpen p depths others →
      ExportsWet p depths least old_rows old_count number rows count → ExportsWet p others least old_rows old_count m rows' count' →
      (number ≡ m) × ((rows ≡ rows') × (count ≡ count'))
  wet_same depths others least old_rows old_count number m rows rows' count count' S x y =
      let alike : AlikeDepths p depths others = record { as_many = S.long; alike = S.alike } in
      let masks = masks_alike p.shape p.marks S.alike least in
      let q : wet_gives p depths least old_rows old_count ≡ wet_gives p others least old_rows old_count =
      ap (number_if (eqb (length old_count) count_size)) (wet_number_alike p alike least (length old_rows)) in (
        x.number_is ∙ (q ∙ sym y.number_is),
        (unless_both Equal q masks refl x.rows_are y.rows_are, unless_both Equal q (ap (λ (l : List ℕ). ones_over l ∷ []) masks) refl x.count_is y.count_is),
      )

  pub exports_none_depends : ExportsNoneDepends p
  exports_none_depends =
      record {
        fresh = fresh_same;
        step = step_same;
        run-to = run_same;
        take_back = back_same;
        arrow = λ D depths others room rest u row column run old number m speeds speeds' S l R x y.
            let same = N.arrow D depths others room rest u row column S l R in
            let b : Bool = arrow_sized p D (view depths room u) row column run old in (
              x.number_is ∙ (ap (λ (s : Sight). number_if b (sight_number s)) same ∙ sym y.number_is),
              x.speeds_are ∙ (ap (λ (s : Sight). pick b (speeds_in s old) old) same ∙ sym y.speeds_are),
            );
        wet_rows = wet_same;
        read_sheet = λ s a c old_heading old_line number m after after' heading heading' line line' l x y.
            let same = sheet_alike s a c l in
            let b : Bool = sheet_sized s a old_heading old_line in (
              x.number_is ∙ (ap (λ (z : Sheet). number_if b (sheet_number z)) same ∙ sym y.number_is),
              (
                x.heading_is ∙ (ap (λ (z : Sheet). pick b (heading_in z old_heading) old_heading) same ∙ sym y.heading_is),
                x.line_is ∙ (ap (λ (z : Sheet). pick b (sheet_line z ∷ []) old_line) same ∙ sym y.line_is),
              ),
            );
      }
