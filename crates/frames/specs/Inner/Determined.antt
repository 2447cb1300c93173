-- The contract of each layer function of this crate leaves one outcome.
-- Assumes nothing.
use Rattle.std.specs.Prelude.{List, ℕ}
use Rattle.reckon.specs.Outcomes.{One}
use Rattle.grid.specs.declared.squares.Shape.{Shape}
use Rattle.checks.specs.declared.bounds.Bounds.{Bounds}
use Rattle.sight.specs.AllArrows.{Sights}
use Rattle.frames.specs.Arrows.{PutArrows}
use Rattle.frames.specs.Bounds.{PutBounds}
use Rattle.frames.specs.Frame.{PutFrame}
use Rattle.frames.specs.declared.frame.Figures.{Figures}

pub record FramesDetermined : Type 0 where
  pub put_frame : (f : Figures) (litres : List ℕ) (s : Shape) (marks depths : List ℕ) (at : ℕ) (room : List ℕ) →
      One {Out = ℕ × List ℕ} (λ o. PutFrame f litres s marks depths at room o.1 o.0)
  pub put_bounds : (b : Bounds) (at : ℕ) (room : List ℕ) → One {Out = ℕ × List ℕ} (λ o. PutBounds b at room o.1 o.0)
  pub put_arrows : (s : Shape) (seen : Sights) (at : ℕ) (room : List ℕ) →
      One {Out = ℕ × List ℕ} (λ o. PutArrows s seen at room o.1 o.0)
