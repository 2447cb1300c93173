-- Laws of what `repair_of` prints: the refusal of a text that is too long, the ordinary reader's refusals, and a sheet that is repaired.
-- Assumes nothing.
use mathlib.Core.Path.{◌≡◌, sym, ap, subst, ◌∙◌}
use mathlib.Core.List.{List}
use Prim.Native.Nat.{ℕ, ◌^◌, ◌≤◌, ◌<◌}
use native.Mathlib.Omega.{arith}
use lib.ListN.{length, take}
use lib.Seq.{length-take-le}
use borrow.Author.Tests.{le-leb, lt-leb}
use Rattle.reckon.proofs.TestLaws.{pick_true, pick_false}
use Rattle.grid.specs.Squares.{squares}
use Rattle.grid.specs.declared.squares.Shape.{Shape}
use Rattle.text.specs.Writing.{Wrote}
use Rattle.text.proofs.WritingLaws.{wrote_length}
use Rattle.sheet.specs.Sheet.{Rooms, shape_of, sheet_of}
use Rattle.sheet.specs.declared.reading.Heading.{Heading}
use Rattle.sheet.specs.declared.reading.Sheet.{Sheet}
use Rattle.sheet.specs.declared.reading.Sheet.TheVariants.{Read, Refused}
use Rattle.answer.specs.Printed.{refused_text}
use Rattle.answer.proofs.PrintLaws.{refused-short}
use Rattle.programs.specs.Program.{most_text, program_squares, program_rooms}
use Rattle.programs.specs.Reading.{sheet_within, ReadsWithin}
use Rattle.programs.proofs.HeldLaws.{parts_said}
use Rattle.holes.specs.Holes.{looked_at, plugged}
use Rattle.holes.specs.Repaired.{marks_read, beds_read, repaired_text, repair_text, most_repaired, PrintsRepair}
use Rattle.holes.specs.Inner.Steps.{Repairable, PutsRepaired}
use Rattle.holes.proofs.RepairLaws.{plug_short}
use Rattle.holes.proofs.ReaderLaws.{heading-shape, few_squares, all_looked, in_range, beds_low, rooms_are}

printed :
    {s t old new : List ℕ} {r : ℕ} → t ≡ repair_text s → most_repaired ≤ length old → length t ≤ most_repaired → Wrote t 0 old new r → PrintsRepair s old new r
printed {s} {t} {old} {new} {r} e large few w =
    let within : r ≤ length new = omega (arith, large, few, w.next, wrote_length (omega (arith, large, few)) w) in
    record {
      wrote = subst (λ (u : List ℕ). Wrote u 0 old new r) e w;
      fits = subst (λ (u : List ℕ). length u ≤ most_repaired) e few;
      within = within;
      counted = sym (length-take-le r new within);
    }

pub repair_long :
    (s : List ℕ) {old new : List ℕ} {r : ℕ} → most_text < length s → most_repaired ≤ length old → Wrote (refused_text 12 0) 0 old new r → PrintsRepair s old new r
unfolding repair_text
repair_long s h large w =
    printed (sym (pick_false _ _ (lt-leb (length s) most_text h))) large (omega (arith, refused-short 12 0 (omega arith) (omega arith))) w

module _ (s : List ℕ) (short : length s ≤ most_text) where
  as_read : {a : Sheet} {after : Rooms} → ReadsWithin most_text (plugged s) program_rooms a after → a ≡ sheet_of (plugged s) program_rooms
  unfolding sheet_within
  as_read f = f.answer ∙ pick_true _ _ (le-leb (length (plugged s)) most_text (omega (arith, short, plug_short s)))

  repair_is : {a : Sheet} {after : Rooms} → ReadsWithin most_text (plugged s) program_rooms a after → repaired_text s a ≡ repair_text s
  unfolding repair_text
  repair_is f = ap (repaired_text s) (as_read f) ∙ sym (pick_true _ _ (le-leb (length s) most_text short))

  pub repair_refused :
      {number line : ℕ} {after : Rooms} {old new : List ℕ} {r : ℕ} → ReadsWithin most_text (plugged s) program_rooms (Refused number line) after →
      number < 2 ^ 64 → line < 2 ^ 64 → most_repaired ≤ length old → Wrote (refused_text number line) 0 old new r → PrintsRepair s old new r
  unfolding repaired_text
  repair_refused {number} {line} f a b large w = printed (repair_is f) large (omega (arith, refused-short number line a b)) w

  -- a sheet that was read, by the parts of the rooms that belong to it
  module _ {h : Heading} {held : Rooms} (f : ReadsWithin most_text (plugged s) program_rooms (Read h) held) {n : ℕ} (e : n ≡ looked_at s) where
    count_is : n ≡ squares h.shape
    count_is = e ∙ (all_looked s (as_read f) ∙ ap squares (sym (heading-shape s (as_read f))))

    marks_same : take n held.cells.marks ≡ marks_read s
    marks_same =
        ap (λ (k : ℕ). take k held.cells.marks) count_is ∙ ap (λ (z : Rooms). z.cells.marks) (parts_said most_text program_squares (plugged s) f)

    beds_same : take n held.cells.beds ≡ beds_read s
    beds_same =
        ap (λ (k : ℕ). take k held.cells.beds) count_is ∙ ap (λ (z : Rooms). z.cells.beds) (parts_said most_text program_squares (plugged s) f)

    as_said : {shape : Shape} → shape ≡ shape_of s → Repairable s shape (marks_read s) (beds_read s)
    as_said {shape} g =
        subst (λ (k : Shape). Repairable s k (marks_read s) (beds_read s)) (sym g)
        (record {
          short = short;
          shape_is = λ j. shape_of s;
          in_range = in_range s (as_read f);
          few = few_squares s (as_read f);
          all_looked = sym (all_looked s (as_read f));
          marks_long = sym (rooms_are s (as_read f)).0;
          beds_long = sym (rooms_are s (as_read f)).1;
          beds_low = beds_low s (as_read f);
        })

    pub repairable : {shape : Shape} → shape ≡ shape_of s → Repairable s shape (take n held.cells.marks) (take n held.cells.beds)
    repairable {shape} g =
        subst (λ (m : List ℕ). Repairable s shape m (take n held.cells.beds)) (sym marks_same)
        (subst (Repairable s shape (marks_read s)) (sym beds_same) (as_said g))

    pub repair_read :
        {old new : List ℕ} {r : ℕ} → most_repaired ≤ length old → PutsRepaired s (take n held.cells.marks) (take n held.cells.beds) old new r →
        PrintsRepair s old new r
    unfolding repaired_text
    repair_read {old} {new} {r} large w =
        let v : PutsRepaired s (marks_read s) (beds_read s) old new r =
        subst (λ (b : List ℕ). PutsRepaired s (marks_read s) b old new r) beds_same
        (subst (λ (m : List ℕ). PutsRepaired s m (take n held.cells.beds) old new r) marks_same w) in
        printed (repair_is f) large v.fits v.wrote
