-- A list that is taken name by name ends in the document's list.
-- Assumes nothing.
use mathlib.Core.Path.{◌≡◌, refl, sym, ap, ap₂, ◌∙◌}
use mathlib.Core.Bool.{Bool, true, false}
use mathlib.Core.List.{List, [], ◌∷◌, ◌++◌, append-nil, append_assoc}
use Prim.Native.Nat.{ℕ, suc, ◌+◌, ◌-◌, ◌/◌, ◌%◌, ◌≤◌, ◌<◌}
use native.Mathlib.Nat.{not-suc-le-zero}
use native.Mathlib.Omega.{arith}
use lib.Dec.{eqb, leb}
use lib.ListN.{length, get_or, take, length-append}
use borrow.Author.Tests.{le-leb}
use Rattle.reckon.specs.Tests.{pick, every}
use Rattle.reckon.specs.Lists.{joined}
use Rattle.reckon.proofs.TestLaws.{not_both, pick_true, pick_false, each_every}
use Rattle.reckon.proofs.ListLaws.{joined_none, joined_ext}
use Rattle.grid.specs.Squares.{squares, shape_fine}
use Rattle.grid.specs.Marks.{closed}
use Rattle.grid.specs.declared.squares.Shape.{Shape}
use Rattle.grid.proofs.SquareLaws.{fine_of_ranges}
use Rattle.ledger.specs.Runs.{Plan, plan}
use Rattle.ledger.specs.Flows.{shut}
use Rattle.text.proofs.ReadingLaws.{by_test}
use Rattle.programs.specs.Program.{program_squares}
use Rattle.lists.specs.Names.{most_sheets}
use Rattle.lists.specs.Sheets.{File, file_number, file_peaks}
use Rattle.lists.specs.Drowned.{Accepted, accepted, drowned, deepest_of, first_gave, no_plan, begun_with, plan_with, numbers_from, plan_from, accepted_from, numbers_text, refused_lines, refused_many, numbers_of, first_plan, sheets_run, drowned_line, drowned_text}
use Rattle.lists.specs.Tally.{Rooms, beginning, tally_after, rooms_after, square_text, squares_text, sheets_text, tally_fine, tally_text}
use Rattle.lists.specs.Right.{taken, RoomsLong, ending, ListRight}
use Rattle.lists.specs.declared.tally.Tally.{Tally}
use Rattle.lists.proofs.TallyLaws.{Held, Follows, follows_as, follows_one}

-- ---- name after name

begun_from : Bool → Plan → List File → Bool
begun_from begun q [] = begun
begun_from begun q (f ∷ rest) = begun_from (begun_with begun q f) (plan_with begun q f) rest

-- an accepted sheet before the later ones, or none
pick-before :
    (b : Bool) (sheets : List Accepted) (s : Accepted) {rest later : List Accepted} → rest ≡ later →
    (sheets ++ pick b (s ∷ []) []) ++ rest ≡ sheets ++ pick b (s ∷ later) later
unfolding pick
pick-before true sheets s {rest} e = append_assoc sheets (s ∷ []) rest ∙ ap (λ (l : List Accepted). sheets ++ (s ∷ l)) e
pick-before false sheets s {rest} e = append_assoc sheets [] rest ∙ ap (λ (l : List Accepted). sheets ++ l) e

follows_all :
    {wet : ℕ} (files : List File) (numbers : List ℕ) (sheets : List Accepted) (begun : Bool) (q : Plan) (t : Tally) (r : Rooms) →
    Follows wet numbers sheets begun q t r → length numbers + length files ≤ most_sheets →
    Follows wet (numbers ++ numbers_from begun q files) (sheets ++ accepted_from (length numbers + 1) begun q files) (begun_from begun q files)
    (plan_from begun q files) (taken files (t, r)).0 (taken files (t, r)).1
unfolding taken numbers_from plan_from accepted_from begun_from
follows_all [] numbers sheets begun q t r h most = follows_as (sym (append-nil numbers)) (sym (append-nil sheets)) refl refl refl refl h
follows_all (f ∷ rest) numbers sheets begun q t r h most =
    follows_as (append_assoc numbers (file_number begun q f ∷ []) later)
    (pick-before (eqb (file_number begun q f) 0) sheets (accepted (length numbers + 1) (file_peaks f))
    (ap (λ (k : ℕ). accepted_from k (begun_with begun q f) (plan_with begun q f) rest) next_place_lem))
    refl refl refl refl
    (follows_all rest (numbers ++ (file_number begun q f ∷ [])) _ (begun_with begun q f) (plan_with begun q f) (tally_after t f r) (rooms_after t f r)
    (follows_one h (omega arith) f) (omega (arith, most, length-append numbers (file_number begun q f ∷ []))))
  where
    later : List ℕ
    later = numbers_from (begun_with begun q f) (plan_with begun q f) rest

    next_place_lem : length (numbers ++ (file_number begun q f ∷ [])) + 1 ≡ suc (length numbers + 1)
    next_place_lem = omega (arith, length-append numbers (file_number begun q f ∷ []))

numbers_many : (begun : Bool) (q : Plan) (files : List File) → length (numbers_from begun q files) ≡ length files
unfolding numbers_from
numbers_many begun q [] = refl
numbers_many begun q (f ∷ rest) = ap suc (numbers_many (begun_with begun q f) (plan_with begun q f) rest)

-- ---- at the end

module _ (wet : ℕ) (files : List File) (begun : Bool) {t : Tally} {r : Rooms} (most : length files ≤ most_sheets)
    (h : Follows wet (numbers_of wet files) (sheets_run wet files) begun (first_plan wet files) t r) where
  few_taken : t.taken ≤ most_sheets
  few_taken = omega (arith, h.taken_is, numbers_many false no_plan files, most)

  abbrev shape_kept : Bool
  shape_kept = pick t.begun (every (shape_fine t.shape ∷ leb (squares t.shape) program_squares ∷ [])) true

  few_squares : leb (squares t.shape) program_squares ≡ true
  few_squares = le-leb (squares t.shape) program_squares (omega (arith, ap squares h.shape_is, h.few))

  shape-kept : shape_kept ≡ true
  shape-kept =
      by_test begun
      (λ b.
      pick_true _ _ (h.begun_is ∙ b)
      ∙ each_every _
      (ap shape_fine h.shape_is ∙ fine_of_ranges (first_plan wet files).shape (h.some b).1, (few_squares, tt)))
      (λ b. pick_false _ _ (h.begun_is ∙ b))

  is_fine : tally_fine t ≡ true
  unfolding tally_fine
  is_fine = each_every _ (le-leb t.taken most_sheets few_taken, (shape-kept, tt))

  abbrev line_kept : ℕ → List ℕ
  line_kept = square_text (plan t.shape r.marks) r.counts r.deepest r.places

  line_is : (i : ℕ) → i < squares (first_plan wet files).shape → line_kept i ≡ drowned_line wet files i
  unfolding square_text drowned_line closed
  line_is i low =
      by_test (shut (first_plan wet files) i) (λ c. pick_true _ _ (same_mark ∙ c) ∙ sym (pick_true _ _ c))
      (λ c.
      pick_false _ _ (same_mark ∙ c)
      ∙ (line_as (ap (λ (s : Shape). i / s.columns) h.shape_is) (ap (λ (s : Shape). i % s.columns) h.shape_is) (h.held i low c)
      ∙ sym (pick_false _ _ c)))
    where
      same_mark : closed r.marks i ≡ shut (first_plan wet files) i
      same_mark = ap (λ (m : ℕ). eqb m 0) (h.agree i low)

      line_as :
          {a a' b b' : ℕ} → a ≡ a' → b ≡ b' → Held wet i (sheets_run wet files) r →
          numbers_text (a ∷ b ∷ get_or r.counts i 0 ∷ get_or r.deepest i 0 ∷ get_or r.places i 0 ∷ [])
          ≡ numbers_text (a' ∷ b' ∷ drowned i wet (sheets_run wet files) ∷ deepest_of i (sheets_run wet files) ∷ first_gave i (sheets_run wet files) ∷ [])
      line_as e g x = five e g x.count_is x.deepest_is x.place_is
        where
          five :
              {a a' b b' c c' d d' p p' : ℕ} → a ≡ a' → b ≡ b' → c ≡ c' → d ≡ d' → p ≡ p' →
              numbers_text (a ∷ b ∷ c ∷ d ∷ p ∷ []) ≡ numbers_text (a' ∷ b' ∷ c' ∷ d' ∷ p' ∷ [])
          five v w x y z = cc

  squares_are :
      pick t.begun (squares_text (plan t.shape r.marks) r.counts r.deepest r.places) []
      ≡ joined (squares (first_plan wet files).shape) (drowned_line wet files)
  unfolding squares_text
  squares_are =
      by_test begun
      (λ b.
      pick_true _ _ (h.begun_is ∙ b)
      ∙ (ap (λ (n : ℕ). joined n line_kept) (ap squares h.shape_is) ∙ joined_ext _ _ _ line_is))
      (λ b.
      pick_false _ _ (h.begun_is ∙ b)
      ∙ sym (ap (λ (n : ℕ). joined n (drowned_line wet files)) (h.none b).1 ∙ joined_none (drowned_line wet files)))

  sheets_are :
      sheets_text (take t.taken r.numbers)
      ≡ numbers_text (length (sheets_run wet files) ∷ refused_many (numbers_of wet files) ∷ []) ++ refused_lines 1 (numbers_of wet files)
  unfolding sheets_text
  sheets_are =
      ap sheets_text (ap (λ (k : ℕ). take k r.numbers) h.taken_is ∙ h.told.numbers_are)
      ∙ ap (λ (k : ℕ). numbers_text (k ∷ refused_many (numbers_of wet files) ∷ []) ++ refused_lines 1 (numbers_of wet files))
      (let e : length (numbers_of wet files) - refused_many (numbers_of wet files) ≡ length (sheets_run wet files) = omega (arith, h.told.all_told) in e)

  text_is : tally_text t r ≡ drowned_text wet files
  unfolding tally_text drowned_text
  text_is = pick_true _ _ is_fine ∙ ap₂ ◌++◌ squares_are sheets_are

module _ (wet : ℕ) (files : List File) (r : Rooms) (long : RoomsLong r) (most : length files ≤ most_sheets) where
  start : Follows wet [] [] false no_plan (beginning wet) r
  unfolding refused_many
  start =
      record {
        wet_is = refl;
        taken_is = refl;
        begun_is = refl;
        shape_is = refl;
        told = record { long = long; numbers_are = refl; all_told = refl };
        few = omega arith;
        agree = λ i low. absurd (not-suc-le-zero low);
        none = λ b. (refl, refl);
        some = λ b. not_both b refl;
        held = λ i low land. absurd (not-suc-le-zero low);
      }

  at-end :
      Follows wet (numbers_of wet files) (sheets_run wet files) (begun_from false no_plan files) (first_plan wet files) (ending wet files r).0
      (ending wet files r).1
  at-end = follows_all files [] [] false no_plan (beginning wet) r start (omega (arith, most))

  pub drowned_right : ListRight wet files r
  drowned_right =
      record {
        printed = text_is wet files (begun_from false no_plan files) most at-end;
        counted = λ i low land. let x = at-end.held i low land in record { count_is = x.count_is; deepest_is = x.deepest_is; place_is = x.place_is };
        wet_is = at-end.wet_is;
        taken_is = at-end.taken_is ∙ numbers_many false no_plan files;
        long = at-end.told.long;
      }
