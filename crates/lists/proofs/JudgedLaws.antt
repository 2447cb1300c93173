-- Laws of one sheet judged: the reader's refusal, a plan that differs, and the run.
-- Assumes nothing.
use mathlib.Core.Path.{◌≡◌, refl, sym, ap, subst, ◌∙◌}
use mathlib.Core.Bool.{Bool, true, false}
use mathlib.Core.List.{List}
use Prim.Native.Nat.{ℕ, ◌≤◌}
use native.Mathlib.Omega.{arith}
use lib.Dec.{leb}
use lib.ListN.{length, replicate, take}
use Rattle.reckon.specs.Tests.{pick}
use Rattle.reckon.proofs.TestLaws.{pick_true, pick_false}
use Rattle.grid.specs.Squares.{ShapeInRange, squares}
use Rattle.grid.specs.declared.squares.Shape.{Shape}
use Rattle.ledger.specs.Runs.{Plan}
use Rattle.flood.specs.declared.run.Ran.{Ran}
use Rattle.text.proofs.ReadingLaws.{by_test}
use Rattle.sheet.specs.Sheet.{Rooms, rooms, plan_in, given_in, start_in, said, shape_of, heading_of}
use Rattle.sheet.specs.declared.reading.Heading.{Heading}
use Rattle.sheet.specs.declared.reading.Sheet.{Sheet}
use Rattle.sheet.specs.declared.reading.Sheet.TheVariants.{Read, Refused}
use Rattle.sheet.proofs.JudgeLaws.{zeros_are}
use Rattle.sheet.proofs.SheetLaws.{well}
use Rattle.programs.specs.Reading.{sheet_within, ReadsWithin}
use Rattle.programs.specs.Program.{most_text, program_rooms, program_squares}
use Rattle.programs.specs.Inner.Held.{Holds, parts_of}
use Rattle.programs.proofs.HeldLaws.{parts_said, read_holds}
use Rattle.peaks.specs.Peaks.{peaks_over}
use Rattle.peaks.specs.Inner.Sheets.{SheetPeaks}
use Rattle.lists.specs.Sheets.{File, file_of, same_plan, sheet_number, file_number, file_plan, sheet_peaks, file_peaks}
use Rattle.lists.specs.Sheets.File.{holds}
use Rattle.lists.specs.Inner.Judged.{Judges, RunsJudged, refused_with}
use Rattle.lists.specs.declared.judging.Judged.{Judged}
use Rattle.lists.proofs.FileLaws.{never_read, refused_some}
use Rattle.lists.proofs.PlanLaws.{same_shape}

-- ---- what an answer of the reader says

-- a sheet that was read has the shape that its first line says
read_shape : (most : ℕ) (s : List ℕ) (lent : Rooms) {h : Heading} → Read h ≡ sheet_within most s lent → h.shape ≡ shape_of s
unfolding sheet_within heading_of
read_shape most s lent {h} e =
    by_test (leb (length s) most) (λ a. ap (λ (z : Heading). z.shape) (well s lent h (e ∙ pick_true _ _ a)).heading)
    (λ a. never_read (e ∙ pick_false _ _ a))

-- the program's rooms with some marks; those that hold nothing are its own
abbrev with_marks : List ℕ → Rooms
with_marks marks =
    rooms marks program_rooms.cells.beds program_rooms.cells.roughness program_rooms.cells.rates program_rooms.cells.depths
    program_rooms.rain program_rooms.inflow

pub reads_program :
    {s marks : List ℕ} {a : Sheet} {after : Rooms} → marks ≡ replicate program_squares 0 → ReadsWithin most_text s (with_marks marks) a after →
    ReadsWithin most_text s program_rooms a after
reads_program {s} {marks} {a} {after} e f = subst (λ (m : List ℕ). ReadsWithin most_text s (with_marks m) a after) e f

-- ---- a sheet that was read, held against the first accepted one

never_14 : {A : Type 0} {a : Judged} → a ≡ refused_with 14 → a.number ≡ 0 → A
never_14 {a = a} e z = absurd (let q : a.number ≡ 14 = ap (λ (j : Judged). j.number) e in omega (arith, q, z))

module _ {begun : Bool} {q : Plan} {h : Heading} {held : Rooms} {like : Bool} (e : like ≡ pick begun (same_plan (plan_in h.shape h.rules held) q) true) where
  pub judged_other : {a : Judged} {peaks : List ℕ} → like ≡ false → a ≡ refused_with 14 → RunsJudged begun q h held a peaks
  judged_other f g =
      record {
        number_is = ap (λ (j : Judged). j.number) g ∙ sym (pick_false _ _ (sym e ∙ f));
        shape_is = λ z. never_14 g z;
        like_first = λ z b. never_14 g z;
        peaks_are = λ z. never_14 g z;
      }

  pub judged-run :
      {peaks clocks peaks' clocks' : List ℕ} {a : Ran} → like ≡ true → peaks ≡ replicate program_squares 0 → squares h.shape ≤ program_squares →
      SheetPeaks h held peaks clocks a peaks' clocks' → RunsJudged begun q h held (record { number = a.refused; shape = h.shape }) peaks'
  judged-run {peaks} {a = a} f zeros few r =
      record {
        number_is = r.number_is ∙ sym (pick_true _ _ (sym e ∙ f));
        shape_is = λ z. refl;
        like_first = λ z b. same_shape _ q (sym (pick_true _ _ b) ∙ (sym e ∙ f));
        peaks_are =
            λ z.
            r.peaks_are
            ∙ (ap (λ (l : List ℕ). over a.steps l) (ap (take (squares h.shape)) zeros ∙ zeros_are _ program_squares refl few)
            ∙ ap (λ (k : ℕ). over k (replicate (squares h.shape) 0)) r.steps_are);
      }
    where
      over : ℕ → List ℕ → List ℕ
      over = peaks_over (plan_in h.shape h.rules held) (given_in h.shape h.rules held) (start_in h.shape h.rules held)

-- ---- a text read and judged

module _ {begun : Bool} {q : Plan} (s : List ℕ) {after : Rooms} {peaks : List ℕ} {a : Judged} where
  pub judged-refused :
      {marks : List ℕ} {number line : ℕ} → ReadsWithin most_text s program_rooms (Refused number line) after → a ≡ refused_with number →
      Judges begun q (holds s) a marks peaks
  unfolding sheet_number file_number
  judged-refused {number = number} f g =
      record {
        number_is = ap (λ (j : Judged). j.number) g ∙ ap (sheet_number begun q s) f.answer;
        shape_is = λ z. never z;
        like_first = λ z b. never z;
        in_range = λ z. never z;
        few = λ z. never z;
        marks_are = λ z. never z;
        peaks_are = λ z. never z;
      }
    where
      never : {A : Type 0} → a.number ≡ 0 → A
      never z = absurd (let e : a.number ≡ number = ap (λ (j : Judged). j.number) g in omega (arith, refused_some s f.answer, e, z))

  pub judged_read :
      {h : Heading} → ReadsWithin most_text s program_rooms (Read h) after → RunsJudged begun q h (parts_of h after) a peaks →
      Judges begun q (holds s) a after.cells.marks peaks
  unfolding sheet_number file_number file_plan sheet_peaks file_peaks
  judged_read {h} f r =
      record {
        number_is = j.number_is ∙ ap (sheet_number begun q s) f.answer;
        shape_is = λ z. j.shape_is z ∙ shape;
        like_first = λ z b. j.shape_is z ∙ j.like_first z b;
        in_range = λ z. subst ShapeInRange (sym (j.shape_is z)) held.shape;
        few = λ z. subst (λ (d : Shape). squares d ≤ program_squares) (sym (j.shape_is z)) held.few;
        marks_are =
            λ z.
            ap (λ (d : Shape). take (squares d) after.cells.marks) (j.shape_is z)
            ∙ ap (λ (k : Rooms). k.cells.marks) (parts_said most_text program_squares s f);
        peaks_are =
            λ z.
            ap (λ (d : Shape). take (squares d) peaks) (j.shape_is z)
            ∙ (j.peaks_are z ∙ ap (sheet_peaks s) f.answer);
      }
    where
      j : RunsJudged begun q h (said s) a peaks
      j = subst (λ (k : Rooms). RunsJudged begun q h k a peaks) (parts_said most_text program_squares s f) r

      held : Holds program_squares h after
      held = read_holds most_text program_squares s f

      shape : h.shape ≡ shape_of s
      shape = read_shape most_text s program_rooms f.answer

-- ---- what came of a name

module _ {begun : Bool} {q : Plan} (s : List ℕ) {marks peaks : List ℕ} {a : Judged} {opened : Bool} where
  pub judged_not_opened : opened ≡ false → a ≡ refused_with 12 → Judges begun q (file_of opened s) a marks peaks
  unfolding file_number
  judged_not_opened f g =
      subst (λ (k : File). Judges begun q k a marks peaks) (sym (pick_false _ _ f))
      (record {
        number_is = ap (λ (j : Judged). j.number) g;
        shape_is = λ z. never z;
        like_first = λ z b. never z;
        in_range = λ z. never z;
        few = λ z. never z;
        marks_are = λ z. never z;
        peaks_are = λ z. never z;
      })
    where
      never : {A : Type 0} → a.number ≡ 0 → A
      never z = absurd (let e : a.number ≡ 12 = ap (λ (j : Judged). j.number) g in omega (arith, e, z))

  pub judged-opened : opened ≡ true → Judges begun q (holds s) a marks peaks → Judges begun q (file_of opened s) a marks peaks
  judged-opened f j = subst (λ (k : File). Judges begun q k a marks peaks) (sym (pick_true _ _ f)) j
