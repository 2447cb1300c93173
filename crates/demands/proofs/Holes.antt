-- A sheet that is repaired is what document 02 asks, and so are its refusals.
-- Assumes nothing.
use mathlib.Core.Path.{ap, ◌∙◌}
use mathlib.Core.List.{List}
use Prim.Native.Nat.{ℕ}
use borrow.Author.Tests.{le-leb, lt-leb}
use Rattle.reckon.proofs.TestLaws.{pick_true, pick_false}
use Rattle.sheet.specs.Sheet.{shape_of}
use Rattle.programs.specs.Program.{program_rooms}
use Rattle.holes.specs.Holes.{plugged}
use Rattle.holes.specs.Repaired.{marks_read, seen_beds, repaired_with, repaired_text, repair_text}
use Rattle.holes.proofs.RoundLaws.{rounds_hold}
use Rattle.holes.proofs.RepairsLaws.{repairs}
use Rattle.holes.proofs.WorkedLaws.{rounds_worked, repair_worked}
use Rattle.demands.specs.Holes.{RepairRight, HolesRight}
use Rattle.demands.proofs.HolesRead.{reads_back}
use Rattle.demands.proofs.Loader.{loader_refuses}

pub repair_right : (s : List ℕ) → RepairRight s
unfolding repair_text repaired_text repaired_with
repair_right s =
    record {
      exactly_when = loader_refuses.exactly_when (plugged s) program_rooms;
      too_long = λ l. pick_false _ _ (lt-leb _ _ l);
      not-read = λ l number line e. pick_true _ _ (le-leb _ _ l) ∙ ap (repaired_text s) e;
      written = λ l h e. pick_true _ _ (le-leb _ _ l) ∙ ap (repaired_text s) e;
      kept = repairs s;
      rounds = λ h e. rounds_hold (shape_of s) (marks_read s) (seen_beds s) ((repairs s).beds-seen h e);
      reads_back = reads_back s;
    }

pub holes_right : HolesRight
holes_right = record { right = repair_right; rounds_worked = rounds_worked; repair_worked = repair_worked }
