-- Laws of what a program prints: it goes by what the reader answers, and by the parts of its rooms.
-- Assumes nothing.
use mathlib.Core.Path.{◌≡◌, sym, ap, subst, ◌∙◌}
use mathlib.Core.List.{List}
use Prim.Native.Nat.{ℕ}
use native.Mathlib.Omega.{arith}
use Rattle.grid.specs.Squares.{squares}
use Rattle.sheet.specs.Sheet.{Rooms, no_lasts, no_records}
use Rattle.sheet.specs.declared.reading.Heading.{Heading}
use Rattle.sheet.specs.declared.reading.Sheet.TheVariants.{Read, Refused}
use Rattle.answer.specs.Printed.{refused_text}
use Rattle.programs.specs.Reading.{ReadsWithin}
use Rattle.programs.specs.Program.{most_text, program_rooms, program_squares, sheet_printed, text_printed, Prints}
use Rattle.programs.specs.Inner.Held.{Begins, Holds, parts_of}
use Rattle.programs.proofs.HeldLaws.{part_long, parts_at, parts_pass, parts_said}

-- the parts of rooms are what a run begins with
pub parts_begin :
    {size n : ℕ} {h : Heading} {held : Rooms} {lasts records : List ℕ} → Holds size h held → n ≡ squares h.shape →
    lasts ≡ no_lasts h.shape h.rules (parts_at n h held) → records ≡ no_records h.shape h.rules (parts_at n h held) →
    Begins size h (parts_at n h held) lasts records
parts_begin {held = held} f e l c =
    record {
      shape = f.shape;
      few = f.few;
      marks_long = sym (part_long _ (omega (arith, f.marks_long, e, f.few))) ∙ e;
      depths_long = sym (part_long _ (omega (arith, f.depths_long, e, f.few))) ∙ e;
      passes = parts_pass {held = held} f e;
      lasts_none = l;
      records_none = c;
    }

module _ (printed : Heading → Rooms → List ℕ) {old new : List ℕ} {r : ℕ} where
  -- as many squares as were counted
  pub printed-parts :
      (h : Heading) (held : Rooms) {n : ℕ} → n ≡ squares h.shape → Prints (printed h (parts_at n h held)) old new r →
      Prints (printed h (parts_of h held)) old new r
  printed-parts h held e w = subst (λ (k : ℕ). Prints (printed h (parts_at k h held)) old new r) e w

  module _ (s : List ℕ) {after : Rooms} where
    pub printed-refused :
        {number line : ℕ} → ReadsWithin most_text s program_rooms (Refused number line) after → Prints (refused_text number line) old new r →
        Prints (text_printed printed s) old new r
    printed-refused f w = subst (λ (t : List ℕ). Prints t old new r) (ap (sheet_printed printed s) f.answer) w

    pub printed-read :
        {h : Heading} → ReadsWithin most_text s program_rooms (Read h) after → Prints (printed h (parts_of h after)) old new r →
        Prints (text_printed printed s) old new r
    printed-read {h} f w =
        subst (λ (t : List ℕ). Prints t old new r)
        (ap (printed h) (parts_said most_text program_squares s f) ∙ ap (sheet_printed printed s) f.answer) w
