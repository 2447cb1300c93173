-- What the exported steps give follows from what the calls below give: a number with a run, or with all as it was.
-- Assumes nothing.
use mathlib.Core.Path.{◌≡◌, sym, ap, ◌∙◌, subst₂, subst₃}
use mathlib.Core.Bool.{true, false}
use mathlib.Core.List.{List, [], ◌∷◌}
use Prim.Native.Nat.{ℕ}
use lib.Dec.{eqb}
use lib.ListN.{length}
use borrow.Author.Tests.{ne_eqb, eq-eqb}
use Rattle.reckon.specs.Lists.{filled}
use Rattle.reckon.proofs.TestLaws.{pick_true, pick_false}
use Rattle.grid.specs.Squares.{squares}
use Rattle.rule.specs.declared.rules.Rules.{Rules}
use Rattle.ledger.specs.Runs.{Plan, World, seen_of}
use Rattle.ledger.specs.Runs.{Plan, World}
use Rattle.ledger.specs.Record.{newest_record, room_slots}
use Rattle.ledger.specs.Flows.{shut}
use Rattle.ledger.specs.Record.{newest_record}
use Rattle.ledger.specs.After.{world_after}
use Rattle.ledger.specs.TakeBack.{TakesBack, back_number, taken_back, world_before}
use Rattle.ledger.specs.declared.runs.Answer.{Answer}
use Rattle.checks.specs.Given.{Given}
use Rattle.moves.specs.Moves.{step_moves}
use Rattle.flood.specs.Step.{Steps, step_number, stepped}
use Rattle.checks.specs.Fresh.{Freshens, fresh_number, fresh_run, fresh_lasts}
use Rattle.flood.specs.Run.{Ended, RunsTo}
use Rattle.flood.specs.declared.run.Ran.{Ran}
use Rattle.exports.specs.Numbers.{run_numbers, run_size}
use Rattle.exports.specs.Refusals.{unless_checks, unless_refused}
use Rattle.exports.specs.Inner.Slices.{answer_run}
use Rattle.exports.specs.Steps.{answer_number, both_sized, fresh_call_number, ExportsFresh, step_call_number, ExportsStep, back_call_number, ExportsBack, ran_sized, ExportsRun}
use Rattle.exports.proofs.AnswerLaws.{sized_number, unsized_number, refused_leaves, chosen_twice, number_answered, run-answered}

-- ---- a fresh run

module _ (p : Plan) (r : Rules) (before records rules old : List ℕ) where
  pub fresh_unsized : both_sized rules old ≡ false → ExportsFresh p r before records rules old 1 before old
  fresh_unsized d =
      let one : fresh_call_number p r before records rules old ≡ 1 = unsized_number _ d in
      record {
        number_is = sym one;
        lasts_are = sym (refused_leaves (fresh_lasts p r before records) before one);
        run_is = sym (refused_leaves (run_numbers (fresh_run r (room_slots p records))) old one);
      }

  fresh_stays : unless_refused (fresh_number p r before records) (fresh_lasts p r before records) before ≡ fresh_lasts p r before records
  unfolding fresh_lasts unless_refused
  fresh_stays =
      chosen_twice (λ (l : List ℕ). l) (eqb (fresh_number p r before records) 0) (filled (squares p.shape) (shut p) (λ i. 0) before) before

  module _ {q : Plan} {s : Rules} {a : Answer} {number : ℕ} {lasts run : List ℕ} where
    pub fresh-told :
        both_sized rules old ≡ true → q ≡ p → s ≡ r → Freshens q s before records a lasts → (number ≡ answer_number a) × (run ≡ answer_run a old) →
        ExportsFresh p r before records rules old number lasts run
    fresh-told h same-plan same-rules made t =
        let f = subst₂ (λ (x : Plan) (y : Rules). Freshens x y before records a lasts) same-plan same-rules made in
        let gives : fresh_call_number p r before records rules old ≡ fresh_number p r before records = sized_number h in
        record {
          number_is = t.0 ∙ (ap answer_number f.answer ∙ (number_answered (fresh_number p r before records) (fresh_run r (room_slots p records)) ∙ sym gives));
          lasts_are = f.lasts_are ∙ (sym fresh_stays ∙ ap (λ (n : ℕ). unless_refused n (fresh_lasts p r before records) before) (sym gives));
          run_is =
              t.1
              ∙ (ap (λ (z : Answer). answer_run z old) f.answer
              ∙ (run-answered (fresh_number p r before records) (fresh_run r (room_slots p records)) old
              ∙ ap (λ (n : ℕ). unless_refused n (run_numbers (fresh_run r (room_slots p records))) old) (sym gives)));
        }

-- ---- a step

module _ (p : Plan) (g : Given) (w : World) (rules old : List ℕ) where
  pub step_unsized : both_sized rules old ≡ false → ExportsStep p g w rules old 1 w.depths w.lasts w.records old
  step_unsized d =
      let one : step_call_number p g w rules old ≡ 1 = unsized_number _ d in
      record {
        number_is = sym one;
        depths_are = sym (refused_leaves (stepped p g w).depths w.depths one);
        lasts_are = sym (refused_leaves (stepped p g w).lasts w.lasts one);
        records_are = sym (refused_leaves (stepped p g w).records w.records one);
        run_is = sym (refused_leaves (run_numbers (stepped p g w).run) old one);
      }

  step_stays : (f : World → List ℕ) → unless_refused (step_number p g w) (f (stepped p g w)) (f w) ≡ f (stepped p g w)
  unfolding stepped unless_refused
  step_stays f = chosen_twice f (eqb (step_number p g w) 0) (world_after p (step_moves p g (seen_of w)) w) w

  module _ {q : Plan} {h : Given} {v : World} {a : Answer} {number : ℕ} {depths lasts records run : List ℕ} where
    pub step-told :
        both_sized rules old ≡ true → q ≡ p → h ≡ g → v ≡ w → Steps q h v a depths lasts records →
        (number ≡ answer_number a) × (run ≡ answer_run a old) → ExportsStep p g w rules old number depths lasts records run
    step-told fits same-plan same_given same-world made t =
        let f = subst₃ (λ (x : Plan) (y : Given) (z : World). Steps x y z a depths lasts records) same-plan same_given same-world made in
        let gives : step_call_number p g w rules old ≡ step_number p g w = sized_number fits in
        let stays : (x : World → List ℕ) → x (stepped p g w) ≡ unless_refused (step_call_number p g w rules old) (x (stepped p g w)) (x w) =
        λ x. sym (step_stays x) ∙ ap (λ (n : ℕ). unless_refused n (x (stepped p g w)) (x w)) (sym gives) in
        record {
          number_is = t.0 ∙ (ap answer_number f.answer ∙ (number_answered (step_number p g w) (stepped p g w).run ∙ sym gives));
          depths_are = f.depths_are ∙ stays (λ (z : World). z.depths);
          lasts_are = f.lasts_are ∙ stays (λ (z : World). z.lasts);
          records_are = f.records_are ∙ stays (λ (z : World). z.records);
          run_is =
              t.1
              ∙ (ap (λ (z : Answer). answer_run z old) f.answer
              ∙ (run-answered (step_number p g w) (stepped p g w).run old
              ∙ ap (λ (n : ℕ). unless_refused n (run_numbers (stepped p g w).run) old) (sym gives)));
        }

-- ---- a take-back

module _ (p : Plan) (w : World) (old : List ℕ) where
  pub back_unsized : (length old ≡ run_size → ⊥) → ExportsBack p w old 1 w.depths w.lasts old
  back_unsized d =
      let one : back_call_number p w old ≡ 1 = unsized_number _ (ne_eqb (length old) run_size d) in
      record {
        number_is = sym one;
        depths_are = sym (refused_leaves (taken_back p w).depths w.depths one);
        lasts_are = sym (refused_leaves (taken_back p w).lasts w.lasts one);
        run_is = sym (refused_leaves (run_numbers (taken_back p w).run) old one);
      }

  back_stays : (f : World → List ℕ) → unless_refused (back_number p w) (f (taken_back p w)) (f w) ≡ f (taken_back p w)
  unfolding taken_back unless_refused
  back_stays f = chosen_twice f (eqb (back_number p w) 0) (world_before p w (newest_record p w)) w

  module _ {q : Plan} {v : World} {a : Answer} {number : ℕ} {depths lasts run : List ℕ} where
    pub back-told :
        length old ≡ run_size → q ≡ p → v ≡ w → TakesBack q v a depths lasts → (number ≡ answer_number a) × (run ≡ answer_run a old) →
        ExportsBack p w old number depths lasts run
    back-told h same-plan same-world made t =
        let f = subst₂ (λ (x : Plan) (y : World). TakesBack x y a depths lasts) same-plan same-world made in
        let gives : back_call_number p w old ≡ back_number p w = sized_number (eq-eqb (length old) run_size h) in
        let stays : (x : World → List ℕ) → x (taken_back p w) ≡ unless_refused (back_call_number p w old) (x (taken_back p w)) (x w) =
        λ x. sym (back_stays x) ∙ ap (λ (n : ℕ). unless_refused n (x (taken_back p w)) (x w)) (sym gives) in
        record {
          number_is = t.0 ∙ (ap answer_number f.answer ∙ (number_answered (back_number p w) (taken_back p w).run ∙ sym gives));
          depths_are = f.depths_are ∙ stays (λ (z : World). z.depths);
          lasts_are = f.lasts_are ∙ stays (λ (z : World). z.lasts);
          run_is =
              t.1
              ∙ (ap (λ (z : Answer). answer_run z old) f.answer
              ∙ (run-answered (back_number p w) (taken_back p w).run old
              ∙ ap (λ (n : ℕ). unless_refused n (run_numbers (taken_back p w).run) old) (sym gives)));
        }

-- ---- a run to an end

module _ (p : Plan) (g : Given) (end : ℕ) (w : World) (rules old old_steps : List ℕ) where
  pub run_unsized :
      ran_sized p g end w rules old old_steps ≡ false → ExportsRun p g end w rules old old_steps 1 w.depths w.lasts w.records old old_steps
  run_unsized unfit =
      record {
        number_is = sym (unsized_number _ unfit);
        depths_are = sym (pick_false _ _ unfit);
        lasts_are = sym (pick_false _ _ unfit);
        records_are = sym (pick_false _ _ unfit);
        run_is = sym (pick_false _ _ unfit);
        steps_are = sym (pick_false _ _ unfit);
      }

  module _ {q : Plan} {h : Given} {v : World} {a : Ran} {number : ℕ} {depths lasts records run steps : List ℕ} where
    pub run-told :
        ran_sized p g end w rules old old_steps ≡ true → q ≡ p → h ≡ g → v ≡ w → RunsTo q h end v a depths lasts records →
        (number ≡ a.refused) × (run ≡ run_numbers a.run) × (steps ≡ unless_checks a.refused (a.steps ∷ []) old_steps) →
        ExportsRun p g end w rules old old_steps number depths lasts records run steps
    run-told fits same-plan same_given same-world made t =
        let f = subst₃ (λ (x : Plan) (y : Given) (z : World). RunsTo x y end z a depths lasts records) same-plan same_given same-world made in
        let e = f.ends in
        record {
          number_is = t.0 ∙ (ap (λ (z : Ended). z.number) e ∙ sym (sized_number fits));
          depths_are = ap (λ (z : Ended). z.world.depths) e ∙ sym (pick_true _ _ fits);
          lasts_are = ap (λ (z : Ended). z.world.lasts) e ∙ sym (pick_true _ _ fits);
          records_are = ap (λ (z : Ended). z.world.records) e ∙ sym (pick_true _ _ fits);
          run_is = t.1 ∙ (ap (λ (z : Ended). run_numbers z.world.run) e ∙ sym (pick_true _ _ fits));
          steps_are = t.2 ∙ (ap (λ (z : Ended). unless_checks z.number (z.steps ∷ []) old_steps) e ∙ sym (pick_true _ _ fits));
        }
