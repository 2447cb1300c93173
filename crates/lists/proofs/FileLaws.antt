-- Laws of one name of a list: the plan of an accepted sheet, and numbers by plans that agree.
-- Assumes nothing.
use mathlib.Core.Path.{◌≡◌, refl, sym, ap, ap₂, ◌∙◌}
use mathlib.Core.Bool.{Bool, true}
use mathlib.Core.List.{List, [], ◌∷◌}
use Prim.Native.Nat.{ℕ, zero, suc, ◌*◌, ◌≤◌, ◌<◌}
use native.Mathlib.Omega.{arith}
use lib.Dec.{eqb, leb}
use lib.ListN.{length, get_or, replicate, length-replicate}
use borrow.Author.Tests.{eqb-true}
use Rattle.reckon.specs.Tests.{pick, every}
use Rattle.reckon.proofs.TestLaws.{pick_true, pick_false, pick_both, every_fails, all_ext}
use Rattle.reckon.proofs.ListLaws.{length-filled}
use Rattle.grid.specs.Squares.{ShapeInRange, squares}
use Rattle.ledger.specs.Runs.{Plan, plan}
use Rattle.text.proofs.ReadingLaws.{by_test}
use Rattle.sheet.specs.Sheet.{line_one, shape_of, cells_filled, said, plan_in, bad_line, checks_of, heading_of, judged, sheet_of}
use Rattle.sheet.specs.declared.reading.Heading.{Heading}
use Rattle.sheet.specs.declared.reading.Sheet.{Sheet}
use Rattle.sheet.specs.declared.reading.Sheet.TheVariants.{Read, Refused}
use Rattle.sheet.proofs.SheetLaws.{Well, well, rooms-shape, rooms_cells}
use Rattle.programs.specs.Reading.{sheet_within}
use Rattle.programs.specs.Program.{most_text, program_squares, program_rooms, sheet_run}
use Rattle.lists.specs.Sheets.{File, same_marks, same_plan, sheet_number, file_number, file_plan}
use Rattle.lists.specs.Sheets.File.{not_opened, holds}

-- ---- an accepted sheet

-- the number of a refusal by the reader, 1 for none
unfoldable number_in : Sheet → ℕ
number_in (Read h) = 1
number_in (Refused number line) = number

numbered : (s : List ℕ) → 1 ≤ number_in (sheet_within most_text s program_rooms)
unfolding number_in sheet_within sheet_of judged
numbered s =
    pick_both Some _ (pick_both Some _ (pick_both Some _ (by_number (bad_line s) (checks_of s) (heading_of s)) (omega arith)) (omega arith)) (omega arith)
  where
    Some : Sheet → Type 0
    Some a = 1 ≤ number_in a

    by_number : (bad check : ℕ) (h : Heading) → Some (judged bad check h)
    by_number (suc bad) check h = omega arith
    by_number zero (suc check) h = omega arith
    by_number zero zero h = omega arith

pub refused_some : (s : List ℕ) {number line : ℕ} → Refused number line ≡ sheet_within most_text s program_rooms → 1 ≤ number
unfolding number_in
refused_some s e = omega (arith, numbered s, ap number_in e)

-- what the plan of an accepted sheet has
pub record PlanFine (p : Plan) : Type 0 where
  pub shape : ShapeInRange p.shape
  pub few : squares p.shape ≤ program_squares
  pub marks_long : length p.marks ≡ squares p.shape

pub never_read : {A : Type 0} {h : Heading} {n l : ℕ} → Read h ≡ Refused n l → A
never_read e = absurd (let z : ◌≡◌ {A = ℕ} 0 1 = cc in omega arith)

read_fine : (s : List ℕ) (h : Heading) → Read h ≡ sheet_within most_text s program_rooms → PlanFine (file_plan (holds s))
unfolding sheet_within file_plan cells_filled
read_fine s h e =
    by_test (leb (length s) most_text) (λ t. fine (well s program_rooms h (e ∙ pick_true _ _ t))) (λ t. never_read (e ∙ pick_false _ _ t))
  where
    fine : Well s program_rooms h → PlanFine (file_plan (holds s))
    fine w =
        record {
          shape = rooms-shape (shape_of s) (line_one s).side program_rooms w.fine;
          few =
              omega (
                arith,
                (rooms_cells (shape_of s) (line_one s).side program_rooms w.fine).0,
                length-replicate {A = ℕ} program_squares 0,
              );
          marks_long = length-filled (squares (shape_of s)) _ _ (replicate (squares (shape_of s)) 0) ∙ length-replicate {A = ℕ} (squares (shape_of s)) 0;
        }

pub accepted-fine : (begun : Bool) (q : Plan) (f : File) → file_number begun q f ≡ 0 → PlanFine (file_plan f)
unfolding file_number sheet_number
accepted-fine begun q not_opened e = absurd (omega (arith, e))
accepted-fine begun q (holds s) e = go (sheet_within most_text s program_rooms) refl e
  where
    go : (a : Sheet) → a ≡ sheet_within most_text s program_rooms → sheet_number begun q s a ≡ 0 → PlanFine (file_plan (holds s))
    go (Read h) same z = read_fine s h same
    go (Refused number line) same z = absurd (omega (arith, z, refused_some s same))

-- ---- plans that agree in their squares

module _ (q : Plan) (marks : List ℕ) (agree : (i : ℕ) → i < squares q.shape → get_or marks i 0 ≡ get_or q.marks i 0) where
  same-plan : (p : Plan) → same_plan p (plan q.shape marks) ≡ same_plan p q
  unfolding same_plan same_marks
  same-plan p =
      by_test (eqb p.shape.rows q.shape.rows)
      (λ r.
      by_test (eqb p.shape.columns q.shape.columns)
      (λ c.
      ap (λ (b : Bool). every (eqb p.shape.rows q.shape.rows ∷ eqb p.shape.columns q.shape.columns ∷ b ∷ []))
      (all_ext (squares p.shape) _ _ (λ i l. ap (eqb (get_or p.marks i 0)) (agree i (omega (arith, l, as_many r c))))))
      (λ c. every_fails _ 1 c ∙ sym (every_fails _ 1 c)))
      (λ r. every_fails _ 0 r ∙ sym (every_fails _ 0 r))
    where
      as_many :
          eqb p.shape.rows q.shape.rows ≡ true → eqb p.shape.columns q.shape.columns ≡ true → squares p.shape ≡ squares q.shape
      as_many r c = ap₂ ◌*◌ (eqb-true _ _ r) (eqb-true _ _ c)

  pub same_number : (begun : Bool) (f : File) → file_number begun (plan q.shape marks) f ≡ file_number begun q f
  unfolding file_number sheet_number
  same_number begun not_opened = refl
  same_number begun (holds s) = go (sheet_within most_text s program_rooms)
    where
      go : (a : Sheet) → sheet_number begun (plan q.shape marks) s a ≡ sheet_number begun q s a
      go (Refused number line) = refl
      go (Read h) =
          ap (λ (b : Bool). pick (pick begun b true) (sheet_run h (said s)).number 14) (same-plan (plan_in h.shape h.rules (said s)))
