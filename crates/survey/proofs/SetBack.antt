-- The set of what a sheet says reads as the same: no line of it is bad, its files agree, and it says what the sheet says.
-- Assumes nothing.
use Rattle.std.proofs.Common.{Option, Some, None, Result, is_none, unwrap_or}
use mathlib.Core.Path.{◌≡◌, refl, sym, ap, ap₂, ◌∙◌}
use mathlib.Core.Bool.{Bool, true, false, not}
use mathlib.Core.List.{List, [], ◌∷◌}
use Prim.Native.Nat.{ℕ, ◌<◌}
use lib.Dec.{eqb}
use lib.ListN.{length, get_or}
use borrow.Author.Tests.{eq-eqb}
use Rattle.reckon.specs.Tests.{pick, all_below}
use Rattle.reckon.specs.Lists.{tabulate}
use Rattle.reckon.proofs.TestLaws.{pick_true, pick_false, each_every, all_of}
use Rattle.reckon.proofs.ListLaws.{is_tabulate}
use Rattle.grid.specs.Squares.{squares}
use Rattle.grid.specs.Marks.{closed}
use Rattle.grid.specs.declared.squares.Shape.{Shape}
use Rattle.text.proofs.ReadingLaws.{by_test}
use Rattle.raster.specs.Raster.{head_or, head_in, value_of, is_shut, entry_of, grid_bad}
use Rattle.raster.specs.declared.amounts.Scale.{Scale}
use Rattle.raster.specs.declared.amounts.Scale.TheVariants.{Metres, Whole}
use Rattle.raster.specs.declared.reading.Head.{Head}
use Rattle.raster.proofs.GridLaws.{head_read, square_is, grid_read}
use Rattle.sheet.specs.Sheet.{Rooms, rooms, line_one, line_two, shape_of, rain_table, inflow_table, said, heading_of, judged}
use Rattle.sheet.specs.Written.{lines_written}
use Rattle.sheet.specs.declared.lines.RunLine.{RunLine}
use Rattle.sheet.specs.declared.reading.Heading.{Heading}
use Rattle.sheet.specs.declared.reading.Sheet.TheVariants.{Read}
use Rattle.sheet.proofs.SheetLaws.{Well}
use Rattle.survey.specs.Sets.{Set, mark_line, note_text, column_text, set_of, note_mark, note_bad, first_of, set_bad, same_closed, agrees, all_agree, column, set_says, set_number}
use Rattle.survey.specs.Inner.Writing.{Sayable, OneEach}
use Rattle.survey.proofs.LinesBack.{two_back, shape_back, side_back, rain_table_back, inflow_table_back, heading_back}
use Rattle.survey.proofs.NoteBack.{marks_lined, note_lines, mark_is, note_reads}
use Rattle.survey.proofs.SayableLaws.{Column, sayable, marks_long, bed_column, roughness_column, depth-column, rate_column}

-- ---- a set whose note is that of a heading and rooms

module _ (h : Heading) (held : Rooms) (say : Sayable h held) (t : Set) (note_is : t.note ≡ note_text h held) where
  note_same : t.note ≡ lines_written h held (λ i. mark_line h.shape.columns i (get_or held.cells.marks i 0))
  note_same = note_is ∙ note_lines h held say

  note_shape : shape_of t.note ≡ h.shape
  note_shape = ap shape_of note_same ∙ shape_back h held say _ (marks_lined h held say)

  note_side : (line_one t.note).side ≡ h.rules.square_side
  note_side = ap (λ (s : List ℕ). (line_one s).side) note_same ∙ side_back h held say _ (marks_lined h held say)

  note-mark : (i : ℕ) → i < squares h.shape → note_mark t.note i ≡ get_or held.cells.marks i 0
  note-mark i l = ap (λ (s : List ℕ). note_mark s i) note_same ∙ mark_is h held say i l

  note_good : note_bad t.note ≡ 0
  note_good = ap note_bad note_same ∙ note_reads h held say

  note_rain : rain_table t.note ≡ held.rain
  note_rain = ap rain_table note_same ∙ rain_table_back h held say _ (marks_lined h held say)

  note_inflow : inflow_table t.note ≡ held.inflow
  note_inflow = ap inflow_table note_same ∙ inflow_table_back h held say _ (marks_lined h held say)

  note_heading : heading_of t.note ≡ h
  note_heading = ap heading_of note_same ∙ heading_back h held say _ (marks_lined h held say)

  run_same : {r : RunLine} {x : RunLine} → r ≡ x → (r.rules ≡ x.rules) × (r.end ≡ x.end)
  run_same e = (ap (λ (r : RunLine). r.rules) e, ap (λ (r : RunLine). r.end) e)

  note_run : ((line_two t.note).rules ≡ h.rules) × ((line_two t.note).end ≡ h.end)
  note_run = run_same (ap line_two note_same ∙ two_back h held say _ (marks_lined h held say))

  marks_same : length held.cells.marks ≡ squares h.shape → tabulate (squares (shape_of t.note)) (note_mark t.note) ≡ held.cells.marks
  marks_same long =
      ap (λ (x : Shape). tabulate (squares x) (note_mark t.note)) note_shape
      ∙ sym (is_tabulate (squares h.shape) (note_mark t.note) held.cells.marks long (λ i l. sym (note-mark i l)))

  -- one grid of it
  module _ (k : Scale) (col : List ℕ) (c : Column held.cells.marks (squares h.shape) col) where
    abbrev grid : List ℕ
    grid = column_text h held k col

    grid_good : grid_bad k grid ≡ 0
    grid_good =
        grid_read k h.shape held.cells.marks col h.rules.square_side say.grid_small.1.0 say.grid_small.0
        say.grid_small.1.1.0 c.small

    grid_head : ((head_in grid).shape ≡ h.shape) × ((head_in grid).side ≡ h.rules.square_side)
    grid_head =
        let e =
        head_read k h.shape held.cells.marks col h.rules.square_side say.grid_small.1.0 say.grid_small.0
        say.grid_small.1.1.0 c.small in
        (ap (λ (g : Result Head ℕ). (head_or g).shape) e, ap (λ (g : Result Head ℕ). (head_or g).side) e)

    shut_choice : (b : Bool) (v : ℕ) → is_none (pick b None (Some v)) ≡ b
    unfolding pick
    shut_choice true v = refl
    shut_choice false v = refl

    square_closed : (i : ℕ) → i < squares h.shape → is_shut (entry_of k grid i) ≡ closed held.cells.marks i
    square_closed i l =
        ap is_shut
        (square_is k h.shape held.cells.marks col h.rules.square_side say.grid_small.1.0 say.grid_small.0
        say.grid_small.1.1.0 c.small i l)
        ∙ shut_choice (closed held.cells.marks i) (get_or col i 0)

    square_value : (i : ℕ) → i < squares h.shape → value_of (entry_of k grid i) ≡ get_or col i 0
    square_value i l =
        ap value_of
        (square_is k h.shape held.cells.marks col h.rules.square_side say.grid_small.1.0 say.grid_small.0
        say.grid_small.1.1.0 c.small i l)
        ∙ by_test (closed held.cells.marks i)
        (λ e. ap (λ (v : Option ℕ). unwrap_or v 0) (pick_true _ _ e) ∙ sym (c.none i l e))
        (λ e. ap (λ (v : Option ℕ). unwrap_or v 0) (pick_false _ _ e))

    same_both : (b : Bool) → pick b b (not b) ≡ true
    unfolding pick
    same_both true = refl
    same_both false = refl

    square_same : (i : ℕ) → i < squares h.shape → same_closed t k grid i ≡ true
    unfolding same_closed closed
    square_same i l =
        ap₂ (λ (a : Bool) (m : ℕ). pick a (eqb m 0) (not (eqb m 0))) (square_closed i l) (note-mark i l)
        ∙ same_both (eqb (get_or held.cells.marks i 0) 0)

    grid-agrees : agrees t k grid ≡ true
    unfolding agrees
    grid-agrees =
        each_every _ (
          eq-eqb (head_in grid).shape.rows (shape_of t.note).rows (ap (λ (g : Shape). g.rows) (grid_head.0 ∙ sym note_shape)),
          (
            eq-eqb (head_in grid).shape.columns (shape_of t.note).columns (ap (λ (g : Shape). g.columns) (grid_head.0 ∙ sym note_shape)),
            (
              eq-eqb (head_in grid).side (line_one t.note).side (grid_head.1 ∙ sym note_side),
              (
                ap (λ (g : Shape). all_below (squares g) (same_closed t k grid)) note_shape ∙ all_of (squares h.shape)
                    (same_closed t k grid) square_same,
                tt,
              ),
            ),
          ),
        )

    column_is : column t k grid ≡ col
    unfolding column
    column_is =
        ap (λ (g : Shape). tabulate (squares g) (λ i. value_of (entry_of k grid i))) note_shape
        ∙ sym (is_tabulate (squares h.shape) (λ i. value_of (entry_of k grid i)) col c.long (λ i l. sym (square_value i l)))

-- ---- the set of a sheet that is read well

first_none : {a b c d e : ℕ} → a ≡ 0 → b ≡ 0 → c ≡ 0 → d ≡ 0 → e ≡ 0 → first_of (a ∷ b ∷ c ∷ d ∷ e ∷ []) ≡ 0
unfolding first_of
first_none p q r s t = rw (p, q, r, s, t) refl

module _ (s : List ℕ) (lent : Rooms) (well : Well s lent (heading_of s)) where
  abbrev g : Heading
  g = heading_of s

  abbrev t : Set
  t = set_of g (said s)

  pub say : Sayable g (said s)
  say = sayable s lent g well

  note_of : t.note ≡ note_text g (said s)
  unfolding set_of
  note_of = refl

  abbrev Of : List ℕ → Type 0
  Of col = Column (said s).cells.marks (squares g.shape) col

  pub bed : Of (said s).cells.beds
  unfolding heading_of
  bed = bed_column s lent g well

  pub depth : Of (said s).cells.depths
  unfolding heading_of
  depth = depth-column s lent g well

  pub roughness : Of (said s).cells.roughness
  unfolding heading_of
  roughness = roughness_column s lent g well

  pub rate : Of (said s).cells.rates
  unfolding heading_of
  rate = rate_column s lent g well

  marks_whole : length (said s).cells.marks ≡ squares g.shape
  unfolding heading_of
  marks_whole = marks_long s lent g well

  pub each : OneEach (squares g.shape) (said s).cells
  each = record { marks = marks_whole; beds = bed.long; roughness = roughness.long; rates = rate.long; depths = depth.long }

  nothing_bad : set_bad t ≡ 0
  unfolding set_bad set_of
  nothing_bad =
      first_none (note_good g (said s) say t note_of) (grid_good g (said s) say t note_of Metres (said s).cells.beds bed)
      (grid_good g (said s) say t note_of Metres (said s).cells.depths depth)
      (grid_good g (said s) say t note_of Whole (said s).cells.roughness roughness)
      (grid_good g (said s) say t note_of Whole (said s).cells.rates rate)

  agree : all_agree t ≡ true
  unfolding all_agree set_of
  agree =
      each_every _ (
        grid-agrees g (said s) say t note_of Metres (said s).cells.beds bed,
        (
          grid-agrees g (said s) say t note_of Metres (said s).cells.depths depth,
          (
            grid-agrees g (said s) say t note_of Whole (said s).cells.roughness roughness,
            (grid-agrees g (said s) say t note_of Whole (said s).cells.rates rate, tt),
          ),
        ),
      )

  rooms_same :
      {m m' b b' k k' r r' d d' x x' y y' : List ℕ} → m ≡ m' → b ≡ b' → k ≡ k' → r ≡ r' → d ≡ d' → x ≡ x' → y ≡ y' →
      rooms m b k r d x y ≡ rooms m' b' k' r' d' x' y'
  rooms_same a b c d e f h = cc

  -- the set says what the sheet says
  pub says_same : set_says t ≡ said s
  unfolding set_says set_of
  says_same =
      rooms_same (marks_same g (said s) say t note_of marks_whole) (column_is g (said s) say t note_of Metres (said s).cells.beds bed)
      (column_is g (said s) say t note_of Whole (said s).cells.roughness roughness)
      (column_is g (said s) say t note_of Whole (said s).cells.rates rate)
      (column_is g (said s) say t note_of Metres (said s).cells.depths depth) (note_rain g (said s) say t note_of)
      (note_inflow g (said s) say t note_of)

  no_number : set_number t ≡ 0
  unfolding set_number heading_of
  no_number =
      let run = note_run g (said s) say t note_of in
      pick_true _ _ agree
      ∙ (rw (note_shape g (said s) say t note_of, run.0, run.1, says_same) well.checks)

  -- nothing in it is refused
  pub set-judged : judged (set_bad t) (set_number t) (heading_of t.note) ≡ Read g
  unfolding judged
  set-judged = rw (nothing_bad, no_number) (ap Read (note_heading g (said s) say t note_of))
