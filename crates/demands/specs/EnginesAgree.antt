-- Document 02, #109: the wet walk gives "the plain engine's answer, state and records on each call, refusals too". Each engine's contract
-- stands here by its name; that the functions promise it is what the crate `calls` proves.
-- Assumes nothing.
use Rattle.std.specs.Prelude.{◌≡◌, List, ℕ}
use Rattle.grid.specs.declared.walks.Walk.{Walk}
use Rattle.grid.specs.declared.walks.Walk.TheVariants.{All, Wet}
use Rattle.ledger.specs.Runs.{Plan, World}
use Rattle.ledger.specs.declared.runs.Answer.{Answer}
use Rattle.checks.specs.Given.{Given}
use Rattle.flood.specs.Step.{Steps}
use Rattle.flood.specs.Run.{RunsTo}
use Rattle.flood.specs.declared.run.Ran.{Ran}
use Rattle.exports.specs.Steps.{ExportsStep, ExportsRun}

-- ---- what each engine's contract allows: the answer, then each slice lent for writing

-- `step`, by the walk that it is handed: depths, last leaving and record room
unfoldable pub StepBy : Walk → Plan → Given → World → Answer × (List ℕ × (List ℕ × List ℕ)) → Type 0
StepBy walk p g w o = Steps p g w o.0 o.1.0 o.1.1.0 o.1.1.1

-- `run_to`: the same of a run to an end
unfoldable pub RunBy : Walk → Plan → Given → ℕ → World → Ran × (List ℕ × (List ℕ × List ℕ)) → Type 0
RunBy walk p g end w o = RunsTo p g end w o.0 o.1.0 o.1.1.0 o.1.1.1

-- `flood_step` and `flood_step_wet`, for other languages: and the run
unfoldable pub ExportedStepBy : Walk → Plan → Given → World → List ℕ → List ℕ → ℕ × (List ℕ × (List ℕ × (List ℕ × List ℕ))) → Type 0
ExportedStepBy All p g w rules old o = ExportsStep p g w rules old o.0 o.1.0 o.1.1.0 o.1.1.1.0 o.1.1.1.1
ExportedStepBy Wet p g w rules old o = ExportsStep p g w rules old o.0 o.1.0 o.1.1.0 o.1.1.1.0 o.1.1.1.1

-- `flood_run_to` and `flood_run_to_wet`: and the steps
unfoldable pub ExportedRunBy : Walk → Plan → Given → ℕ → World → List ℕ → List ℕ → List ℕ → ℕ × (List ℕ × (List ℕ × (List ℕ × (List ℕ × List ℕ)))) → Type 0
ExportedRunBy All p g end w rules old old_steps o =
    ExportsRun p g end w rules old old_steps o.0 o.1.0 o.1.1.0 o.1.1.1.0 o.1.1.1.1.0 o.1.1.1.1.1
ExportedRunBy Wet p g end w rules old old_steps o =
    ExportsRun p g end w rules old old_steps o.0 o.1.0 o.1.1.0 o.1.1.1.0 o.1.1.1.1.0 o.1.1.1.1.1

-- ---- any outcome that the one allows is any that the other allows, for every input, refused or not

pub record EnginesAgree : Type 0 where
  pub step : (u v : Walk) (p : Plan) (g : Given) (w : World) (a b : Answer × (List ℕ × (List ℕ × List ℕ))) → StepBy u p g w a → StepBy v p g w b → a ≡ b
  pub run-to : (u v : Walk) (p : Plan) (g : Given) (end : ℕ) (w : World) (a b : Ran × (List ℕ × (List ℕ × List ℕ))) →
      RunBy u p g end w a → RunBy v p g end w b → a ≡ b
  pub exported_step : (u v : Walk) (p : Plan) (g : Given) (w : World) (rules old : List ℕ) (a b : ℕ × (List ℕ × (List ℕ × (List ℕ × List ℕ)))) →
      ExportedStepBy u p g w rules old a → ExportedStepBy v p g w rules old b → a ≡ b
  pub exported_run : (u v : Walk) (p : Plan) (g : Given) (end : ℕ) (w : World) (rules old old_steps : List ℕ)
      (a b : ℕ × (List ℕ × (List ℕ × (List ℕ × (List ℕ × List ℕ))))) → ExportedRunBy u p g end w rules old old_steps a →
      ExportedRunBy v p g end w rules old old_steps b → a ≡ b
