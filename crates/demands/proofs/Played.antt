-- Both engines are read of: a series that is played is the series of demand 3.
-- Assumes nothing.
use mathlib.Core.Path.{◌≡◌, refl, sym, ap, ◌∙◌, subst}
use mathlib.Core.Bool.{Bool, true, false}
use mathlib.Core.List.{List}
use Prim.Native.Nat.{ℕ, zero, suc}
use native.Mathlib.Omega.{arith}
use lib.Dec.{eqb}
use borrow.Author.Tests.{ne_eqb}
use Rattle.reckon.specs.Tests.{pick}
use Rattle.reckon.proofs.TestLaws.{pick_false}
use Rattle.grid.specs.declared.walks.Walk.{Walk}
use Rattle.ledger.specs.Runs.{Plan, World, world, answered}
use Rattle.ledger.specs.Record.{newest_record}
use Rattle.ledger.specs.Account.{held}
use Rattle.ledger.specs.TakeBack.{TakesBack, back_number, taken_back, world_before}
use Rattle.ledger.specs.declared.runs.Run.{Run}
use Rattle.ledger.specs.declared.runs.Answer.{Answer}
use Rattle.ledger.specs.declared.runs.Answer.TheVariants.{Done, Refused}
use Rattle.checks.specs.Given.{Given}
use Rattle.flood.specs.Step.{Steps, step_number, stepped}
use Rattle.flood.specs.Run.{Ended, RunsTo}
use Rattle.flood.specs.declared.run.Ran.{Ran}
use Rattle.flood.proofs.RunToLaws.{refused_is}
use Rattle.demands.specs.EnginesAgree.{StepBy, RunBy}
use Rattle.demands.specs.Demand2.{StepGives}
use Rattle.demands.specs.Demand3.{Call, stepping, running, taking_back, Trail, start, called, series, after_call, NeverMade}
use Rattle.demands.specs.Played.{run_after, Played, by_step, by_run, by_back, Plays, at_rest, then, reached, ReadsOfBoth}
use Rattle.demands.proofs.EnginesAgree.{step_is, run_is}
use Rattle.demands.proofs.Demand2.{demand_2}
use Rattle.demands.proofs.Demand3.{demand_3}
use Rattle.demands.proofs.Account.{account}

-- an answer of a number and a run
done_is : (n : ℕ) (u v : Run) → Done u ≡ answered n v → (n ≡ 0) × (u ≡ v)
unfolding answered
done_is zero u v e = (refl, cc)
done_is (suc n) u v e = absurd (let y : ◌≡◌ {A = ℕ} 0 1 = cc in omega arith)

refused_number : (n k : ℕ) (v : Run) → Refused k ≡ answered n v → k ≡ n
unfolding answered
refused_number zero k v e = absurd (let y : ◌≡◌ {A = ℕ} 0 1 = cc in omega arith)
refused_number (suc n) k v e = cc

refused_some : (n k : ℕ) (v : Run) → Refused k ≡ answered n v → n ≡ 0 → ⊥
unfolding answered
refused_some zero k v e z = let y : ◌≡◌ {A = ℕ} 0 1 = cc in omega arith
refused_some (suc n) k v e z = omega arith

module _ (p : Plan) where
  -- ---- a step, a run and a take-back leave the world of the calls' own definitions

  module _ (g : Given) (w : World) where
    run-after : (n : ℕ) → step_number p g w ≡ n → run_after (answered n (stepped p g w).run) w.run ≡ (stepped p g w).run
    unfolding run_after answered
    run-after zero z = refl
    run-after (suc n) z = sym (ap (λ (x : World). x.run) (refused_is p g w (λ y. omega (arith, z, y))))

    pub step_left : (a : Answer) (depths lasts records : List ℕ) → Steps p g w a depths lasts records →
        world depths lasts records (run_after a w.run) ≡ stepped p g w
    step_left a depths lasts records s =
        let run_is = ap (λ (x : Answer). run_after x w.run) s.answer ∙ run-after (step_number p g w) refl in
        λ j. world (s.depths_are j) (s.lasts_are j) (s.records_are j) (run_is j)

  module _ (w : World) where
    back_refused : (back_number p w ≡ 0 → ⊥) → taken_back p w ≡ w
    unfolding taken_back
    back_refused d = pick_false _ _ (ne_eqb _ _ d)

    back_run : (n : ℕ) → back_number p w ≡ n → run_after (answered n (taken_back p w).run) w.run ≡ (taken_back p w).run
    unfolding run_after answered
    back_run zero z = refl
    back_run (suc n) z = sym (ap (λ (x : World). x.run) (back_refused (λ y. omega (arith, z, y))))

    pub back_records : (taken_back p w).records ≡ w.records
    unfolding taken_back world_before pick
    back_records = go (eqb (back_number p w) 0)
      where
        go : (b : Bool) → (pick b (world_before p w (newest_record p w)) w).records ≡ w.records
        go true = refl
        go false = refl

    pub back_left : (a : Answer) (depths lasts : List ℕ) → TakesBack p w a depths lasts → world depths lasts w.records (run_after a w.run) ≡ taken_back p w
    back_left a depths lasts s =
        let run_is = ap (λ (x : Answer). run_after x w.run) s.answer ∙ back_run (back_number p w) refl in
        let records_are = sym back_records in
        λ j. world (s.depths_are j) (s.lasts_are j) (records_are j) (run_is j)

  played_is : {c : Call} {w v : World} → Played p c w v → v ≡ after_call p c w
  played_is (by_step {g} {w} walk o s) = step_left g w o.0 o.1.0 o.1.1.0 o.1.1.1 (step_is walk p g w o s)
  played_is (by_run {g} {end} {w} walk o s) = ap (λ (e : Ended). e.world) (run_is walk p g end w o s).ends
  played_is (by_back {w} o s) = back_left w o.0 o.1.0 o.1.1 s

  -- ---- call after call

  plays_on : {cs : List Call} {w u : World} (x : Trail p) → w ≡ x.at → Plays p cs w u → u ≡ (series p cs x).at
  unfolding series
  plays_on x e at_rest = e
  plays_on x e (then {c} {cs} {w} {v} {u} one rest) = plays_on (called p c x) (played_is one ∙ ap (after_call p c) e) rest

  pub reads_of_both : ReadsOfBoth p
  reads_of_both =
      record {
        step_made =
            λ walk g w u o s.
            let t = step_is walk p g w (Done u, o) s in
            let made = done_is (step_number p g w) u (stepped p g w).run t.answer in
            subst (StepGives p g w) (λ j. world (sym t.depths_are j) (sym t.lasts_are j) (sym t.records_are j) (sym made.1 j))
            ((demand_2 p).step_gives g w made.0);
        step-refused =
            λ walk g w n o s.
            let t = step_is walk p g w (Refused n, o) s in
            let as-was = refused_is p g w (refused_some (step_number p g w) n (stepped p g w).run t.answer) in (
              refused_number (step_number p g w) n (stepped p g w).run t.answer,
              (λ j. world (t.depths_are j) (t.lasts_are j) (t.records_are j) (sym (ap (λ (x : World). x.run) as-was) j)) ∙ as-was,
            );
        played = played_on;
        never_made =
            λ cs f w fresh s. subst (λ (u : World). NeverMade p f (reached p cs f u)) (sym (played_on cs f w s)) ((demand_3 p).never_made f fresh cs);
        balance =
            λ r depths records before lasts u made cs w s.
            ap (held p) (played_on cs (world depths lasts records u) w s) ∙ (account p).balance r depths records before lasts u made cs;
      }
    where
      played_on : (cs : List Call) (f w : World) → Plays p cs f w → w ≡ (series p cs (start p f)).at
      played_on cs f w s = plays_on (start p f) refl s

-- ---- for the calls themselves

pub plays_step : (walk : Walk) {p : Plan} {g : Given} {w : World} {a : Answer} {depths lasts records : List ℕ} → Steps p g w a depths lasts records →
    Played p (stepping g) w (world depths lasts records (run_after a w.run))
unfolding StepBy
plays_step walk {a = a} {depths} {lasts} {records} s = by_step walk (a, (depths, (lasts, records))) s

pub plays_run : (walk : Walk) {p : Plan} {g : Given} {end : ℕ} {w : World} {a : Ran} {depths lasts records : List ℕ} → RunsTo p g end w a depths lasts records →
    Played p (running g end) w (world depths lasts records a.run)
unfolding RunBy
plays_run walk {a = a} {depths} {lasts} {records} s = by_run walk (a, (depths, (lasts, records))) s

pub plays_back : {p : Plan} {w : World} {a : Answer} {depths lasts : List ℕ} → TakesBack p w a depths lasts →
    Played p taking_back w (world depths lasts w.records (run_after a w.run))
plays_back {a = a} {depths} {lasts} s = by_back (a, (depths, lasts)) s
