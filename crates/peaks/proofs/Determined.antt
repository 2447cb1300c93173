-- Every contract leaves one outcome: each is an equation for all that a call gives.
-- Assumes nothing.
use mathlib.Core.Path.{◌≡◌, sym, ap, ap₂, ◌∙◌}
use mathlib.Core.Bool.{Bool}
use mathlib.Core.List.{List, ◌++◌}
use Prim.Native.Nat.{ℕ}
use lib.ListN.{take, drop, take-append-drop}
use Rattle.reckon.specs.Outcomes.{One}
use Rattle.grid.specs.Squares.{squares}
use Rattle.flood.specs.declared.run.Ran.{Ran}
use Rattle.sheet.specs.Sheet.{Rooms, plan_in, given_in, start_in}
use Rattle.sheet.specs.declared.reading.Heading.{Heading}
use Rattle.peaks.specs.Peaks.{peaks_over, clocks_over}
use Rattle.peaks.specs.Inner.Raised.{Raises}
use Rattle.peaks.specs.Inner.Sheets.{RunsSheetPeaks}
use Rattle.peaks.specs.Inner.Determined.{PeaksDetermined}

raised_one :
    {first : Bool} {clock : ℕ} {marks depths peaks clocks : List ℕ} →
    One {Out = List ℕ × List ℕ} (λ o. Raises first clock marks depths peaks clocks o.0 o.1)
raised_one a b x y = λ j. ((x.peaks_are ∙ sym y.peaks_are) j, (x.clocks_are ∙ sym y.clocks_are) j)

-- a room is its first numbers and the rest
parts_one : (n : ℕ) {a b : List ℕ} → take n a ≡ take n b → drop n a ≡ drop n b → a ≡ b
parts_one n {a} {b} x y = sym (take-append-drop n a) ∙ (ap₂ ◌++◌ x y ∙ take-append-drop n b)

module _ {h : Heading} {held : Rooms} {depths peaks clocks depths' depths'' peaks' peaks'' clocks' clocks'' : List ℕ} {a b : Ran} (x : RunsSheetPeaks h held depths peaks clocks a depths' peaks' clocks') (y : RunsSheetPeaks h held depths peaks clocks b depths'' peaks'' clocks'') where
  ran_one : a ≡ b
  ran_one =
      λ j. record {
        refused = (x.told.number_is ∙ sym y.told.number_is) j;
        steps = (x.told.steps_are ∙ sym y.told.steps_are) j;
        run = (x.told.run_is ∙ sym y.told.run_is) j;
      }

  steps_one : a.steps ≡ b.steps
  steps_one = x.told.steps_are ∙ sym y.told.steps_are

  peaks_one : peaks' ≡ peaks''
  peaks_one =
      parts_one (squares h.shape)
      (x.told.peaks_are
      ∙ (ap
      (λ (k : ℕ).
      peaks_over (plan_in h.shape h.rules held) (given_in h.shape h.rules held) (start_in h.shape h.rules held) k
      (take (squares h.shape) peaks))
      steps_one ∙ sym y.told.peaks_are))
      (x.peaks_rest ∙ sym y.peaks_rest)

  clocks_one : clocks' ≡ clocks''
  clocks_one =
      parts_one (squares h.shape)
      (x.told.clocks_are
      ∙ (ap
      (λ (k : ℕ).
      clocks_over (plan_in h.shape h.rules held) (given_in h.shape h.rules held) (start_in h.shape h.rules held) k
      (take (squares h.shape) clocks))
      steps_one ∙ sym y.told.clocks_are))
      (x.clocks_rest ∙ sym y.clocks_rest)

  all_one : ◌≡◌ {A = Ran × (List ℕ × (List ℕ × List ℕ))} (a, (depths', (peaks', clocks'))) (b, (depths'', (peaks'', clocks'')))
  all_one = λ j. (ran_one j, ((x.depths_are ∙ sym y.depths_are) j, (peaks_one j, clocks_one j)))

pub peaks_determined : PeaksDetermined
peaks_determined =
    record {
      raise = λ first clock marks depths peaks clocks. raised_one;
      run_sheet_peaks = λ h held depths peaks clocks a b x y. all_one x y;
    }
