-- What `meadow` prints of a text is what a program that prints the run's text does.
-- Assumes nothing.
use mathlib.Core.Path.{◌≡◌, sym, ap, subst, ◌∙◌}
use mathlib.Core.List.{List}
use Prim.Native.Nat.{ℕ}
use lib.Dec.{leb}
use lib.ListN.{length}
use Rattle.reckon.proofs.TestLaws.{pick_true, pick_false}
use Rattle.text.proofs.ReadingLaws.{by_test}
use Rattle.programs.specs.Reading.{sheet_within}
use Rattle.programs.specs.Program.{most_text, run_text, sheet_text, text_printed, meadow_text, Prints}

meadow_is : (s : List ℕ) → text_printed run_text s ≡ meadow_text s
unfolding sheet_within meadow_text sheet_text
meadow_is s =
    by_test (leb (length s) most_text) (λ e. ap (sheet_text s) (pick_true _ _ e) ∙ sym (pick_true _ _ e))
    (λ e. ap (sheet_text s) (pick_false _ _ e) ∙ sym (pick_false _ _ e))

pub meadow-printed :
    (s : List ℕ) {old new : List ℕ} {r : ℕ} → Prints (text_printed run_text s) old new r → Prints (meadow_text s) old new r
meadow-printed s {old} {new} {r} w = subst (λ (t : List ℕ). Prints t old new r) (meadow_is s) w
