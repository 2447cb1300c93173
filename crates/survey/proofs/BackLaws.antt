-- Laws of a set moved back: the parts of filled rooms are what it says, it can be written where its checks pass, and a row too many shows as
-- well as all of them.
-- Assumes nothing.
use Rattle.sheet.proofs.KindLaws.{run_side}
use mathlib.Core.Path.{◌≡◌, refl, sym, ap, ap₂, subst, ◌∙◌}
use mathlib.Core.Bool.{Bool, true, false, not}
use mathlib.Core.List.{List, [], ◌∷◌}
use Prim.Native.Nat.{ℕ, zero, suc, ◌*◌, ◌≤◌, ◌<◌, min}
use native.Mathlib.Omega.{arith}
use lib.Dec.{eqb, ltb}
use lib.ListN.{length, take, replicate, length-replicate, get_or-eq_default}
use lib.Seq.{get_or-take, length-take-le}
use borrow.Author.Tests.{eq-eqb, ne_eqb, eqb-true, leb-true, ltb-true}
use Rattle.reckon.specs.Tests.{pick, every}
use Rattle.reckon.specs.Lists.{tabulate, filled, placed}
use Rattle.reckon.specs.Ranges.{side_fine, most_table_rows}
use Rattle.reckon.specs.Tables.{rain_kind, inflow_kind}
use Rattle.reckon.proofs.TestLaws.{not_both, pick_true, pick_false, every_each, all_at, failing_before}
use Rattle.reckon.proofs.ListLaws.{length-tabulate, get_or-tabulate, is_tabulate, length-filled, filled_in, length-placed}
use Rattle.grid.specs.Squares.{ShapeInRange, shape_fine, most_squares, squares}
use Rattle.grid.specs.Marks.{closed}
use Rattle.grid.specs.declared.squares.Shape.{Shape}
use Rattle.grid.proofs.SquareLaws.{ranges_of_fine}
use Rattle.checks.proofs.CheckLaws.{ready, run_checks_step}
use Rattle.text.specs.Reading.{most_number, most_fields, line_from}
use Rattle.text.specs.Inner.Standing.{Readable}
use Rattle.text.proofs.ReadingLaws.{by_lt}
use Rattle.raster.specs.Raster.{head_in, value_of, is_shut, last_in_row, place_from, entry_from, entry_of, grid_bad}
use Rattle.raster.specs.declared.amounts.Scale.{Scale}
use Rattle.raster.specs.declared.amounts.Scale.TheVariants.{Metres, Whole}
use Rattle.raster.proofs.RangeLaws.{entry_small, entry_closed}
use Rattle.sheet.specs.Lines.{rain_word, inflow_word}
use Rattle.sheet.specs.Sheet.{has_one, has_two, Rooms, rooms, table_rows, rows_read, checks_in, line_one, line_two, shape_of, rain_at, rain_rows, inflow_at, inflow_rows, heading_of, judged}
use Rattle.sheet.specs.Written.{sheet_written}
use Rattle.sheet.specs.declared.reading.Heading.{Heading}
use Rattle.sheet.proofs.JudgeLaws.{table_taken, looked_same, checks_looked}
use Rattle.sheet.proofs.SheetLaws.{rows_few}
use Rattle.sheet.proofs.WrittenLaws.{row-passes}
use Rattle.sheet.proofs.RoomLaws.{table_long}
use Rattle.programs.specs.Inner.Held.{parts_of}
use Rattle.survey.specs.Sets.{Set, note_mark, marks_read, note_bad, first_of, set_bad, same_closed, agrees, all_agree, column, set_says, set_number, Outcome, moved_back, all_short, set_answer, from_survey}
use Rattle.survey.specs.Sets.Outcome.{moved, refused}
use Rattle.survey.specs.Moving.{Moves, MovesSet}
use Rattle.survey.specs.Inner.Notes.{mark_at, mark_from, NoteIs, NoteRead, looked_rows, looked_heading, Judged, judged_text, Lies, SetGood, looked_says}
use Rattle.survey.specs.Inner.Writing.{Sayable, Writable}
use Rattle.survey.specs.declared.moving.Moved.{Moved}
use Rattle.survey.specs.declared.notes.Note.{Note}
use Rattle.survey.proofs.LinesBack.{readable_tabulate}
use Rattle.survey.proofs.SayableLaws.{Column, first_small, second_small, table_small}
use Rattle.survey.proofs.SetLaws.{shape_is, side_is}

-- ---- the text of a set that is good

first_zero : (a : ℕ) (ns : List ℕ) → first_of (a ∷ ns) ≡ 0 → a ≡ 0
unfolding first_of
first_zero zero ns e = refl
first_zero (suc n) ns e = e

-- nothing in a note is bad
note_good : (t : Set) → set_bad t ≡ 0 → note_bad t.note ≡ 0
unfolding set_bad
note_good t e = first_zero _ _ e

-- the line of the first file that cannot be read, the note's own line being known
module _ (t : Set) {read : Note} {line : ℕ} (r : NoteRead t.note read)
    (e :
    line
    ≡ first_of
    (read.bad ∷ grid_bad Metres t.bed ∷ grid_bad Metres t.depth ∷ grid_bad Whole t.roughness ∷ grid_bad Whole t.rate ∷ []))
  where
    pub bad_by : line ≡ set_bad t
    unfolding set_bad
    bad_by =
        e
        ∙ ap
        (λ (n : ℕ).
        first_of
        (n ∷ grid_bad Metres t.bed ∷ grid_bad Metres t.depth ∷ grid_bad Whole t.roughness ∷ grid_bad Whole t.rate ∷ []))
        r.bad_is

    pub note_read : line ≡ 0 → NoteIs t.note read
    note_read z = r.note_is (r.bad_is ∙ note_good t (sym bad_by ∙ z))

-- shape and side as they were read
module _ (t : Set) {read : Note} (n : NoteIs t.note read) where
  shapes_same :
      every (shape_fine read.heading.shape ∷ side_fine read.heading.rules.square_side ∷ [])
      ≡ every (shape_fine (shape_of t.note) ∷ side_fine (line_one t.note).side ∷ [])
  shapes_same = λ j. every (shape_fine (shape_is n j) ∷ side_fine (side_is n j) ∷ [])

  abbrev Taken : Bool → Type 0
  Taken b = every (shape_fine read.heading.shape ∷ side_fine read.heading.rules.square_side ∷ []) ≡ b

  pub shape_wrong : Taken false → every (shape_fine (shape_of t.note) ∷ side_fine (line_one t.note).side ∷ []) ≡ false
  shape_wrong e = sym shapes_same ∙ e

  pub set_good : set_bad t ≡ 0 → all_agree t ≡ true → Taken true → SetGood t
  set_good text agree e =
      record { text = text; agree = agree; shape = ranges_of_fine (shape_of t.note) (every_each _ (sym shapes_same ∙ e)).0 }

record NoteGood (s : List ℕ) : Type 0 where
  first_line : has_one s ≡ true
  second_line : has_two s ≡ true
  all_marks : squares (shape_of s) ≤ marks_read s

whole_note : (s : List ℕ) → note_bad s ≡ 0 → NoteGood s
unfolding note_bad
whole_note s e =
    let a = row-passes 1 (has_one s) _ (omega arith) e in
    let b = row-passes 2 (has_two s) _ (omega arith) a.1 in
    let c = row-passes _ _ _ (omega arith) b.1 in
    record { first_line = a.0; second_line = b.0; all_marks = leb-true _ _ c.0 }

mark_low : (s : List ℕ) → NoteGood s → (i : ℕ) → i < squares (shape_of s) → note_mark s i < 3
unfolding marks_read
mark_low s g i l =
    ltb-true _ _ (failing_before (squares (shape_of s)) (λ k. ltb (note_mark s k) 3) i (omega (arith, l, g.all_marks)))

-- ---- grids that agree with the note

columns_of : (t : Set) (k : Scale) (grid : List ℕ) → agrees t k grid ≡ true → (head_in grid).shape.columns ≡ (shape_of t.note).columns
unfolding agrees
columns_of t k grid e = eqb-true _ _ (every_each _ e).1.0

record Columns (t : Set) : Type 0 where
  bed : (head_in t.bed).shape.columns ≡ (shape_of t.note).columns
  depth : (head_in t.depth).shape.columns ≡ (shape_of t.note).columns
  roughness : (head_in t.roughness).shape.columns ≡ (shape_of t.note).columns
  rate : (head_in t.rate).shape.columns ≡ (shape_of t.note).columns

columns_all : (t : Set) → all_agree t ≡ true → Columns t
unfolding all_agree
columns_all t e =
    let a = every_each _ e in
    record {
      bed = columns_of t Metres t.bed a.0;
      depth = columns_of t Metres t.depth a.1.0;
      roughness = columns_of t Whole t.roughness a.1.1.0;
      rate = columns_of t Whole t.rate a.1.1.1.0;
    }

-- ---- the first numbers of rooms that were filled

-- one number a square, in a room of zeros
taken-filled :
    (n size : ℕ) (f : ℕ → ℕ) → n ≤ size → take n (filled n (λ i. false) f (replicate size 0)) ≡ tabulate n f
taken-filled n size f h =
    is_tabulate n f _ (length-take-le n room (omega (arith, h, long)))
    (λ i l. get_or-take n room i 0 l ∙ filled_in n (λ j. false) f (replicate size 0) i (omega (arith, h, l, zeros)) l refl)
  where
    room : List ℕ
    room = filled n (λ i. false) f (replicate size 0)

    zeros : length (replicate {A = ℕ} size 0) ≡ size
    zeros = length-replicate {A = ℕ} size 0

    long : length room ≡ size
    long = length-filled n (λ i. false) f (replicate size 0) ∙ zeros

-- what the calls that fill leave in rooms of zeros: marks, a column, a table
abbrev pub MarksFilled : List ℕ → Note → List ℕ → Type 0
MarksFilled note read room =
    room
    ≡ filled (squares read.heading.shape) (λ i. false) (mark_from note read.cells_at read.heading.shape.columns) (replicate most_squares 0)

abbrev pub ColumnFilled : Scale → List ℕ → Shape → List ℕ → Type 0
ColumnFilled k grid shape room =
    room
    ≡ filled (squares shape) (λ i. false) (λ i. value_of (entry_from k grid (head_in grid).next shape.columns i)) (replicate most_squares 0)

abbrev pub TableFilled : List ℕ → ℕ → List ℕ → ℕ → ℕ → List ℕ → Type 0
TableFilled note p word width rows room = room ≡ placed (replicate (width * looked_rows) 0) 0 (table_rows note p word width rows)

record FilledBy (t : Set) (read : Note) (looked : Heading) (held : Rooms) : Type 0 where
  marks : MarksFilled t.note read held.cells.marks
  beds : ColumnFilled Metres t.bed read.heading.shape held.cells.beds
  roughness : ColumnFilled Whole t.roughness read.heading.shape held.cells.roughness
  rates : ColumnFilled Whole t.rate read.heading.shape held.cells.rates
  depths : ColumnFilled Metres t.depth read.heading.shape held.cells.depths
  rain : TableFilled t.note read.rain_at rain_word rain_kind.width looked.rain_rows held.rain
  inflow : TableFilled t.note read.inflow_at inflow_word inflow_kind.width looked.inflow_rows held.inflow

-- ---- what a set says can be written where its checks pass

module _ (t : Set) (good : SetGood t) where
  abbrev s : List ℕ
  s = t.note

  abbrev checks : Rooms → ℕ
  checks held = checks_in (shape_of s) (line_two s).rules held (line_two s).end

  -- the rows looked at are judged as all of them are
  checks_same : checks (looked_says t) ≡ checks (set_says t)
  unfolding looked_says set_says
  checks_same =
      checks_looked (shape_of s) (line_two s).rules _ _ _ _ _ (line_two s).end
      (looked_same s (rain_at s) rain_word rain_kind.width (omega arith) (omega arith) (rain_rows s) rain_kind.most rain_kind.lead)
      (looked_same s (inflow_at s) inflow_word inflow_kind.width (omega arith) (omega arith) (inflow_rows s) inflow_kind.most inflow_kind.lead)

  module _ (pass : checks (set_says t) ≡ 0) where
    rain_few : rain_rows s ≤ most_table_rows
    unfolding checks_in set_says
    rain_few =
        rows_few s (rain_at s) rain_word rain_kind.width (rain_rows s) rain_kind.lead rain_kind.most (omega arith) (omega arith)
        (ready _ _ _ _ (run_checks_step _ _ (line_two s).end _ pass)).waters.rain

    inflow_few : inflow_rows s ≤ most_table_rows
    unfolding checks_in set_says
    inflow_few =
        rows_few s (inflow_at s) inflow_word inflow_kind.width (inflow_rows s) inflow_kind.lead inflow_kind.most (omega arith) (omega arith)
        (ready _ _ _ _ (run_checks_step _ _ (line_two s).end _ pass)).waters.inflow

    rain_all : min (rain_rows s) looked_rows ≡ rain_rows s
    rain_all = omega (arith, rain_few)

    inflow_all : min (inflow_rows s) looked_rows ≡ inflow_rows s
    inflow_all = omega (arith, inflow_few)

    heading_same : looked_heading (heading_of s) ≡ heading_of s
    unfolding looked_heading heading_of
    heading_same =
        λ j.
        record {
          shape = shape_of s;
          rules = (line_two s).rules;
          end = (line_two s).end;
          rain_rows = rain_all j;
          inflow_rows = inflow_all j;
        }

    says_same : looked_says t ≡ set_says t
    unfolding looked_says set_says
    says_same =
        λ j.
        rooms (tabulate (squares (shape_of s)) (note_mark s)) (column t Metres t.bed) (column t Whole t.roughness)
        (column t Whole t.rate) (column t Metres t.depth)
        (table_rows s (rain_at s) rain_word rain_kind.width (rain_all j))
        (table_rows s (inflow_at s) inflow_word inflow_kind.width (inflow_all j))

    note_whole : NoteGood s
    note_whole = whole_note s (note_good t good.text)

    side_same : (line_one s).side ≡ (heading_of s).rules.square_side
    unfolding heading_of
    side_same = sym (run_side s (line_from s 0 1) (line_one s).side)

    says_sayable : Sayable (heading_of s) (set_says t)
    unfolding set_says heading_of
    says_sayable =
        record {
          grid_small =
              subst (λ (d : ℕ). Readable ((shape_of s).rows ∷ (shape_of s).columns ∷ d ∷ [])) side_same (first_small s note_whole.first_line);
          run_small = second_small s (line_from s 0 1) (line_one s).side note_whole.second_line;
          marks_low = λ i l. omega (arith, get_or-tabulate (squares (shape_of s)) (note_mark s) i l, mark_low s note_whole i l);
          rain_long = table_long s (rain_at s) rain_word rain_kind.width (omega arith) (rain_rows s);
          rain_small = table_small s (rain_at s) rain_word rain_kind.width (omega arith);
          inflow_long = table_long s (inflow_at s) inflow_word inflow_kind.width (omega arith) (inflow_rows s);
          inflow_small = table_small s (inflow_at s) inflow_word inflow_kind.width (omega arith);
        }

    column_long : (k : Scale) (grid : List ℕ) → length (column t k grid) ≡ squares (shape_of s)
    unfolding column
    column_long k grid = length-tabulate (squares (shape_of s)) (λ i. value_of (entry_of k grid i))

    value_small : (k : Scale) (grid : List ℕ) (i : ℕ) → value_of (entry_of k grid i) ≤ most_number
    value_small k grid i =
        entry_small k grid (place_from k grid (head_in grid).next (head_in grid).shape.columns i) (last_in_row (head_in grid).shape.columns i)

    column_small : (k : Scale) (grid : List ℕ) → Readable (column t k grid)
    unfolding column
    column_small k grid = readable_tabulate (squares (shape_of s)) (λ i. value_of (entry_of k grid i)) (λ i l. value_small k grid i)

    -- 0 at closed squares, which are the note's
    pub column_is :
        (k : Scale) (grid : List ℕ) → agrees t k grid ≡ true → Column (set_says t).cells.marks (squares (shape_of s)) (column t k grid)
    unfolding set_says column agrees same_closed closed
    column_is k grid a =
        record {
          long = column_long k grid;
          none = λ i l e. get_or-tabulate n value i l ∙ none_at i l (is_shut (entry_of k grid i)) refl (all_at n (same_closed t k grid) (every_each _ a).1.1.1.0 i l) (eqb-true _ 0 (sym (ap (λ (m : ℕ). eqb m 0) (get_or-tabulate n (note_mark s) i l)) ∙ e));
          small = λ i e. by_lt i n (λ l. omega (arith, get_or-tabulate n value i l, value_small k grid i)) (λ l. omega (arith, get_or-eq_default (tabulate n value) 0 {n = i} (omega (arith, l, length-tabulate n value))));
        }
      where
        n : ℕ
        n = squares (shape_of s)

        value : ℕ → ℕ
        value i = value_of (entry_of k grid i)

        none_at : (i : ℕ) → i < n → (b : Bool) → is_shut (entry_of k grid i) ≡ b → pick (is_shut (entry_of k grid i)) (eqb (note_mark s i) 0) (not (eqb (note_mark s i) 0)) ≡ true → note_mark s i ≡ 0 → value i ≡ 0
        none_at i l true c g z =
            entry_closed k grid (place_from k grid (head_in grid).next (head_in grid).shape.columns i) (last_in_row (head_in grid).shape.columns i) c
        none_at i l false c g z =
            not_both (sym (pick_false _ _ c) ∙ g) (ap not (eq-eqb _ 0 z))

    pub says_writable : Writable (heading_of s) (set_says t)
    unfolding set_says heading_of
    says_writable =
        record {
          shape = good.shape;
          say = says_sayable;
          each =
              record {
                marks = length-tabulate (squares (shape_of s)) (note_mark s);
                beds = column_long Metres t.bed;
                roughness = column_long Whole t.roughness;
                rates = column_long Whole t.rate;
                depths = column_long Metres t.depth;
              };
          beds = column_small Metres t.bed;
          roughness = column_small Whole t.roughness;
          rates = column_small Whole t.rate;
          depths = column_small Metres t.depth;
          rain_few = rain_few;
          inflow_few = inflow_few;
        }

    looked_writable : Writable (looked_heading (heading_of s)) (looked_says t)
    looked_writable =
        subst (λ (g : Heading). Writable g (looked_says t)) (sym heading_same)
        (subst (λ (r : Rooms). Writable (heading_of s) r) (sym says_same) says_writable)

  says_judged : Judged (looked_heading (heading_of s)) (looked_says t)
  unfolding looked_heading heading_of
  says_judged e = looked_writable (sym checks_same ∙ e)

  -- ---- judged and written, it is what a set is moved back to

  module _ (short : all_short t ≡ true) where
    answer_is : set_answer t ≡ judged 0 (checks (set_says t)) (heading_of s)
    unfolding set_answer set_number
    answer_is =
        pick_true _ _ short
        ∙ (ap (λ (line : ℕ). judged line (set_number t) (heading_of s)) good.text
        ∙ ap (λ (number : ℕ). judged 0 number (heading_of s)) (pick_true _ _ good.agree))

    by_number :
        (number : ℕ) → checks (set_says t) ≡ number →
        judged_text (looked_heading (heading_of s)) (looked_says t) ≡ moved_back t (judged 0 number (heading_of s))
    unfolding judged_text moved_back judged looked_heading heading_of
    by_number zero e =
        pick_true _ _ (eq-eqb _ 0 (checks_same ∙ e))
        ∙ ap₂ (λ (g : Heading) (r : Rooms). moved (sheet_written g r)) (heading_same e) (says_same e)
    by_number (suc number) e =
        pick_false _ _ (ne_eqb _ 0 (λ z. omega (arith, sym (checks_same ∙ e) ∙ z)))
        ∙ ap (λ (k : ℕ). refused k 0) (checks_same ∙ e)

    says_moved : judged_text (looked_heading (heading_of s)) (looked_says t) ≡ from_survey t
    unfolding from_survey
    says_moved = by_number (checks (set_says t)) refl ∙ ap (moved_back t) (sym answer_is)

    pub moves_back : {old new : List ℕ} {a : Moved} → Moves (judged_text (looked_heading (heading_of s)) (looked_says t)) old a new → MovesSet t old a new
    moves_back {old} {new} {a} m = subst (λ (o : Outcome (List ℕ)). Moves o old a new) says_moved m

module _ (t : Set) (good : SetGood t) {read : Note} (n : NoteIs t.note read) where
  pub shape_in : ShapeInRange read.heading.shape
  shape_in = subst ShapeInRange (sym (shape_is n)) good.shape

  few : squares read.heading.shape ≤ most_squares
  few = shape_in.few

  pub squares_in : squares read.heading.shape ≤ length (replicate {A = ℕ} most_squares 0)
  squares_in = omega (arith, few, length-replicate {A = ℕ} most_squares 0)

  marks_of :
      tabulate (squares read.heading.shape) (mark_from t.note read.cells_at read.heading.shape.columns)
      ≡ tabulate (squares (shape_of t.note)) (note_mark t.note)
  unfolding note_mark mark_at
  marks_of = λ j. tabulate (squares (shape_is n j)) (mark_from t.note (n.cells_at_is j) (shape_is n j).columns)

  column_of :
      (k : Scale) (grid : List ℕ) → (head_in grid).shape.columns ≡ (shape_of t.note).columns →
      tabulate (squares read.heading.shape) (λ i. value_of (entry_from k grid (head_in grid).next read.heading.shape.columns i))
      ≡ column t k grid
  unfolding column
  column_of k grid e =
      (λ j. tabulate (squares (shape_is n j)) (λ i. value_of (entry_from k grid (head_in grid).next (shape_is n j).columns i)))
      ∙ (λ j. tabulate (squares (shape_of t.note)) (λ i. value_of (entry_from k grid (head_in grid).next (sym e j) i)))

  taken-column :
      (k : Scale) (grid room : List ℕ) → (head_in grid).shape.columns ≡ (shape_of t.note).columns →
      ColumnFilled k grid read.heading.shape room → take (squares read.heading.shape) room ≡ column t k grid
  taken-column k grid room e f =
      ap (take (squares read.heading.shape)) f
      ∙ (taken-filled (squares read.heading.shape) most_squares _ few ∙ column_of k grid e)

  rain_shown : (looked_heading read.heading).rain_rows ≡ min (rain_rows t.note) looked_rows
  unfolding looked_heading heading_of
  rain_shown = ap (λ (h : Heading). min h.rain_rows looked_rows) n.heading_is

  inflow_shown : (looked_heading read.heading).inflow_rows ≡ min (inflow_rows t.note) looked_rows
  unfolding looked_heading heading_of
  inflow_shown = ap (λ (h : Heading). min h.inflow_rows looked_rows) n.heading_is

  table_same :
      (word : List ℕ) (width : ℕ) {p q i j : ℕ} → p ≡ q → i ≡ j → table_rows t.note p word width i ≡ table_rows t.note q word width j
  table_same word width e f = cc

  -- the rows looked at are there, and fit
  rain_there : (looked_heading read.heading).rain_rows ≤ rows_read t.note read.rain_at rain_word rain_kind.width
  rain_there =
      omega (arith, rain_shown, ap (λ (p : ℕ). rows_read t.note p rain_word rain_kind.width) n.rain_at_is)

  inflow_there : (looked_heading read.heading).inflow_rows ≤ rows_read t.note read.inflow_at inflow_word inflow_kind.width
  inflow_there =
      omega (arith, inflow_shown, ap (λ (p : ℕ). rows_read t.note p inflow_word inflow_kind.width) n.inflow_at_is)

  rain_fits : rain_kind.width * (looked_heading read.heading).rain_rows ≤ rain_kind.width * looked_rows
  rain_fits = omega (arith, rain_shown)

  inflow_fits : inflow_kind.width * (looked_heading read.heading).inflow_rows ≤ inflow_kind.width * looked_rows
  inflow_fits = omega (arith, inflow_shown)

  module _ {held : Rooms} (f : FilledBy t read (looked_heading read.heading) held) where
    looked-squares : squares (looked_heading read.heading).shape ≡ squares read.heading.shape
    unfolding looked_heading
    looked-squares = refl

    rooms_join :
        {m m' b b' k k' r r' d d' x x' y y' : List ℕ} → m ≡ m' → b ≡ b' → k ≡ k' → r ≡ r' → d ≡ d' → x ≡ x' → y ≡ y' →
        rooms m b k r d x y ≡ rooms m' b' k' r' d' x' y'
    rooms_join a b c d e f h = cc

    -- the parts that belong to the heading are what the set says
    parts_looked : parts_of (looked_heading read.heading) held ≡ looked_says t
    unfolding looked_says looked_heading
    parts_looked =
        let c = columns_all t good.agree in
        rooms_join
        (ap (take (squares read.heading.shape)) f.marks ∙ (taken-filled (squares read.heading.shape) most_squares _ few ∙ marks_of))
        (taken-column Metres t.bed held.cells.beds c.bed f.beds)
        (taken-column Whole t.roughness held.cells.roughness c.roughness f.roughness)
        (taken-column Whole t.rate held.cells.rates c.rate f.rates)
        (taken-column Metres t.depth held.cells.depths c.depth f.depths)
        (table_taken t.note read.rain_at rain_word rain_kind.width (omega arith) _ _ f.rain
        ∙ table_same rain_word rain_kind.width n.rain_at_is rain_shown)
        (table_taken t.note read.inflow_at inflow_word inflow_kind.width (omega arith) _ _ f.inflow
        ∙ table_same inflow_word inflow_kind.width n.inflow_at_is inflow_shown)

    cells_long : (g : ℕ → ℕ) {room : List ℕ} → room ≡ filled (squares read.heading.shape) (λ i. false) g (replicate most_squares 0) → squares read.heading.shape ≤ length room
    cells_long g e =
        omega (
          arith,
          few,
          ap length e ∙ (length-filled (squares read.heading.shape) (λ i. false) g (replicate most_squares 0) ∙ length-replicate {A = ℕ} most_squares 0),
        )

    rows_long :
        (p : ℕ) (word : List ℕ) (width rows : ℕ) {room : List ℕ} → width ≤ most_fields → width * rows ≤ width * looked_rows →
        room ≡ placed (replicate (width * looked_rows) 0) 0 (table_rows t.note p word width rows) → width * rows ≤ length room
    rows_long p word width rows few h e =
        let zeros = length-replicate {A = ℕ} (width * looked_rows) 0 in
        omega (
          arith,
          h,
          zeros,
          ap length e
              ∙ length-placed (replicate (width * looked_rows) 0) 0 (table_rows t.note p word width rows)
              (omega (arith, h, zeros, table_long t.note p word width few rows)),
        )

    looked-shape : ShapeInRange (looked_heading read.heading).shape
    unfolding looked_heading
    looked-shape = shape_in

    lies : Lies (looked_heading read.heading) held
    unfolding looked_heading
    lies =
        record {
          shape = looked-shape;
          marks = cells_long _ f.marks;
          beds = cells_long _ f.beds;
          roughness = cells_long _ f.roughness;
          rates = cells_long _ f.rates;
          depths = cells_long _ f.depths;
          rain_few = omega (arith, rain_shown);
          inflow_few = omega (arith, inflow_shown);
          rain = rows_long read.rain_at rain_word rain_kind.width _ (omega arith) rain_fits f.rain;
          inflow = rows_long read.inflow_at inflow_word inflow_kind.width _ (omega arith) inflow_fits f.inflow;
          judged =
              subst (λ (r : Rooms). Judged (looked_heading read.heading) r) (sym parts_looked)
              (subst (λ (g : Heading). Judged (looked_heading g) (looked_says t)) (sym n.heading_is) (says_judged t good));
        }

    lying_moves :
        {old new : List ℕ} {a : Moved} → Moves (judged_text (looked_heading read.heading) (parts_of (looked_heading read.heading) held)) old a new →
        Moves (judged_text (looked_heading (heading_of t.note)) (looked_says t)) old a new
    lying_moves {old} {new} {a} m =
        subst (λ (g : Heading). Moves (judged_text (looked_heading g) (looked_says t)) old a new) n.heading_is
        (subst (λ (r : Rooms). Moves (judged_text (looked_heading read.heading) r) old a new) parts_looked m)

  -- ---- the same of a heading that was made, and of rooms one by one

  module _ {looked : Heading} (e : looked ≡ looked_heading read.heading) where
    pub rain_asked :
        (looked.rain_rows ≤ rows_read t.note read.rain_at rain_word rain_kind.width) ×
        (rain_kind.width * looked.rain_rows ≤ length (replicate {A = ℕ} (rain_kind.width * looked_rows) 0))
    rain_asked =
        let same = ap (λ (h : Heading). h.rain_rows) e in
        (omega (arith, same, rain_there), omega (arith, same, rain_fits, length-replicate {A = ℕ} (rain_kind.width * looked_rows) 0))

    pub inflow_asked :
        (looked.inflow_rows ≤ rows_read t.note read.inflow_at inflow_word inflow_kind.width) ×
        (inflow_kind.width * looked.inflow_rows ≤ length (replicate {A = ℕ} (inflow_kind.width * looked_rows) 0))
    inflow_asked =
        let same = ap (λ (h : Heading). h.inflow_rows) e in
        (omega (arith, same, inflow_there), omega (arith, same, inflow_fits, length-replicate {A = ℕ} (inflow_kind.width * looked_rows) 0))

    module _ {m b k r d x y : List ℕ} (marks : MarksFilled t.note read m) (beds : ColumnFilled Metres t.bed read.heading.shape b)
        (roughness : ColumnFilled Whole t.roughness read.heading.shape k) (rates : ColumnFilled Whole t.rate read.heading.shape r)
        (depths : ColumnFilled Metres t.depth read.heading.shape d) (rain : TableFilled t.note read.rain_at rain_word rain_kind.width looked.rain_rows x)
        (inflow : TableFilled t.note read.inflow_at inflow_word inflow_kind.width looked.inflow_rows y) where
      filled_by : FilledBy t read (looked_heading read.heading) (rooms m b k r d x y)
      filled_by =
          subst (λ (g : Heading). FilledBy t read g (rooms m b k r d x y)) e
          (record { marks = marks; beds = beds; roughness = roughness; rates = rates; depths = depths; rain = rain; inflow = inflow })

      pub lies_by : Lies looked (rooms m b k r d x y)
      lies_by = subst (λ (g : Heading). Lies g (rooms m b k r d x y)) (sym e) (lies filled_by)

      pub moves_by :
          {old new : List ℕ} {a : Moved} → Moves (judged_text looked (parts_of looked (rooms m b k r d x y))) old a new →
          Moves (judged_text (looked_heading (heading_of t.note)) (looked_says t)) old a new
      moves_by {old} {new} {a} v =
          lying_moves filled_by (subst (λ (g : Heading). Moves (judged_text g (parts_of g (rooms m b k r d x y))) old a new) e v)
