-- The engines agree: both contracts are one equation for all that a call gives.
-- Assumes nothing.
use mathlib.Core.List.{List}
use Prim.Native.Nat.{ℕ}
use Rattle.grid.specs.declared.walks.Walk.{Walk}
use Rattle.grid.specs.declared.walks.Walk.TheVariants.{All, Wet}
use Rattle.ledger.specs.Runs.{Plan, World}
use Rattle.ledger.specs.declared.runs.Answer.{Answer}
use Rattle.checks.specs.Given.{Given}
use Rattle.flood.specs.Step.{Steps}
use Rattle.flood.specs.Run.{RunsTo}
use Rattle.flood.specs.declared.run.Ran.{Ran}
use Rattle.exports.specs.Steps.{ExportsStep, ExportsRun}
use Rattle.demands.specs.EnginesAgree.{StepBy, RunBy, ExportedStepBy, ExportedRunBy, EnginesAgree}
use Rattle.demands.proofs.Determined.{flood_determined, exports_determined}

-- ---- each engine's contract is the document's relation

pub step_is :
    (u : Walk) (p : Plan) (g : Given) (w : World) (o : Answer × (List ℕ × (List ℕ × List ℕ))) → StepBy u p g w o →
    Steps p g w o.0 o.1.0 o.1.1.0 o.1.1.1
unfolding StepBy
step_is walk p g w o s = s

pub run_is :
    (u : Walk) (p : Plan) (g : Given) (end : ℕ) (w : World) (o : Ran × (List ℕ × (List ℕ × List ℕ))) → RunBy u p g end w o →
    RunsTo p g end w o.0 o.1.0 o.1.1.0 o.1.1.1
unfolding RunBy
run_is walk p g end w o s = s

exported_step_is :
    (u : Walk) (p : Plan) (g : Given) (w : World) (rules old : List ℕ) (o : ℕ × (List ℕ × (List ℕ × (List ℕ × List ℕ)))) → ExportedStepBy u p g w rules old o →
    ExportsStep p g w rules old o.0 o.1.0 o.1.1.0 o.1.1.1.0 o.1.1.1.1
unfolding ExportedStepBy
exported_step_is All p g w rules old o s = s
exported_step_is Wet p g w rules old o s = s

exported_run_is :
    (u : Walk) (p : Plan) (g : Given) (end : ℕ) (w : World) (rules old old_steps : List ℕ) (o : ℕ × (List ℕ × (List ℕ × (List ℕ × (List ℕ × List ℕ))))) →
    ExportedRunBy u p g end w rules old old_steps o →
    ExportsRun p g end w rules old old_steps o.0 o.1.0 o.1.1.0 o.1.1.1.0 o.1.1.1.1.0 o.1.1.1.1.1
unfolding ExportedRunBy
exported_run_is All p g end w rules old old_steps o s = s
exported_run_is Wet p g end w rules old old_steps o s = s

-- ---- and that leaves one outcome

pub engines_agree : EnginesAgree
engines_agree =
    record {
      step = λ u v p g w a b x y. flood_determined.step p g w a b (step_is u p g w a x) (step_is v p g w b y);
      run-to = λ u v p g end w a b x y. flood_determined.run-to p g end w a b (run_is u p g end w a x) (run_is v p g end w b y);
      exported_step =
          λ u v p g w rules old a b x y.
          exports_determined.step p g w rules old a b (exported_step_is u p g w rules old a x) (exported_step_is v p g w rules old b y);
      exported_run =
          λ u v p g end w rules old old_steps a b x y.
          exports_determined.run-to p g end w rules old old_steps a b (exported_run_is u p g end w rules old old_steps a x)
          (exported_run_is v p g end w rules old old_steps b y);
    }
