-- Laws of a note as it is read: which of a square's three lines stands, those passed one after the other, and the first that cannot be read.
-- Assumes nothing.
use Rattle.std.proofs.Common.{Option, Some, None, is_some, option_map}
use Rattle.text.specs.declared.reading.Fields.{Fields}
use mathlib.Core.Path.{◌≡◌, refl, sym, ap, subst, ◌∙◌}
use mathlib.Core.Bool.{Bool, true, false, not}
use mathlib.Core.List.{List, [], ◌∷◌, ◌++◌}
use Prim.Native.Nat.{ℕ, zero, suc, ◌+◌, ◌/◌, ◌%◌, ◌^◌, ◌≤◌, ◌<◌}
use native.Mathlib.Nat.{not-suc-le-zero, le_of_suc-le-suc, div-le_self, mod-le}
use native.Mathlib.Omega.{arith}
use lib.Dec.{ltb, leb}
use lib.ListN.{length, get_or, take, drop, length-append}
use lib.Seq.{take-append_seam}
use borrow.Author.Count.{below_more}
use borrow.Author.Tests.{lt-ltb, le-ltb, le-leb, lt-leb, not-false}
use Rattle.reckon.specs.Lists.{placed}
use Rattle.reckon.specs.Tables.{rain_kind, inflow_kind}
use Rattle.reckon.proofs.TestLaws.{not_both, refusal_here, refusal_later, passed_refusal, failing_le, failing_at, failing_none, failing_fails}
use Rattle.grid.specs.Squares.{squares}
use Rattle.grid.specs.declared.squares.Shape.{Shape}
use Rattle.text.specs.Reading.{LineOf, line_of, tab, newline, most_number, word_at, next_line, line_from}
use Rattle.text.specs.Writing.{fields_text, rest_text, Wrote}
use Rattle.text.proofs.EndLaws.{next-within}
use Rattle.text.proofs.StandLaws.{stands_word}
use Rattle.text.proofs.WritingLaws.{fields_text_short, wrote_length}
use Rattle.sheet.specs.Lines.{grid_word, run_word, cell_word, rain_word, inflow_word, letter_of, line_head}
use Rattle.sheet.specs.Lines.{grid_line, run_line, as_grid, as_run, grid_fields, run_fields}
use Rattle.sheet.specs.Sheet.{grid_or, run_or, has_one, has_two, line_one, line_two, shape_of, cells_at, rain_at, inflow_at, after_all, first_cell, heading_of}
use Rattle.sheet.specs.Inner.Reading.{RowsCounted}
use Rattle.sheet.specs.declared.lines.GridLine.{GridLine}
use Rattle.sheet.specs.declared.lines.RunLine.{RunLine}
use Rattle.sheet.specs.declared.rooms.Scan.{Scan}
use Rattle.sheet.proofs.KindLaws.{Lined, lined_next, lined_forth, row_lined}
use Rattle.sheet.proofs.ReadLaws.{plain-grid, plain-run}
use Rattle.sheet.proofs.RoomLaws.{Passed, passed_more}
use Rattle.survey.specs.Sets.{mark_line, note_mark, marks_read, note_bad}
use Rattle.survey.specs.Inner.Notes.{mark_at, mark_from, marks_from, MarksCounted, NoteRead}
use Rattle.survey.specs.declared.notes.Note.{Note}
use Rattle.survey.proofs.NoteBack.{plain_head}
use Rattle.survey.proofs.SayableLaws.{first_small}

-- ---- a line put into a room of its own

place_below : (columns i : ℕ) → i < 2 ^ 64 → (j : ℕ) → j < 2 → get_or (i / columns ∷ i % columns ∷ []) j 0 < 10 ^ 20
place_below columns i l zero h = omega (arith, div-le_self i columns, l)
place_below columns i l (suc zero) h = omega (arith, mod-le i columns, l)
place_below columns i l (suc (suc j)) h = absurd (not-suc-le-zero (le_of_suc-le-suc (le_of_suc-le-suc h)))

pub line_short : (columns i mark : ℕ) → i < 2 ^ 64 → length (mark_line columns i mark) ≤ 49
unfolding mark_line rest_text fields_text
line_short columns i mark l =
    let place = i / columns ∷ i % columns ∷ [] in
    omega (
      arith,
      length-append (line_head (i / columns) (i % columns) mark) (newline ∷ []),
      length-append cell_word (fields_text place ++ (tab ∷ letter_of mark ∷ [])),
      length-append (fields_text place) (tab ∷ letter_of mark ∷ []),
      fields_text_short 19 place (place_below columns i l),
    )

-- a text put at a room's start is what the room begins with
module _ {t old new : List ℕ} {r : ℕ} (put : Wrote t 0 old new r) where
  put_ends : r ≡ length t
  put_ends = omega (arith, put.next)

  pub put_within : 0 + length t ≤ length old → r ≤ length new
  put_within fits = omega (arith, put_ends, fits, wrote_length fits put)

  pub put_again : take r new ≡ t
  unfolding placed
  put_again =
      ap (λ (n : ℕ). take n new) put_ends
      ∙ (ap (λ (l : List ℕ). take (length t) l) put.room ∙ take-append_seam t (drop (length t) old))

-- ---- which of three lines stands

module _ (s : List ℕ) (p columns i : ℕ) where
  abbrev differs : ℕ → Bool
  differs mark = not (word_at s p (mark_line columns i mark))

  none_before : (k : ℕ) → k < 0 → differs k ≡ true
  none_before k h = absurd (not-suc-le-zero h)

  pub mark_first : word_at s p (mark_line columns i 0) ≡ true → 0 ≡ mark_at s p columns i
  unfolding mark_at
  mark_first x = sym (failing_at 3 differs 0 (omega arith) none_before (ap not x))

  module _ (x : word_at s p (mark_line columns i 0) ≡ false) where
    one_before : (k : ℕ) → k < 1 → differs k ≡ true
    one_before = below_more _ _ none_before (ap not x)

    pub mark_second : word_at s p (mark_line columns i 1) ≡ true → 1 ≡ mark_at s p columns i
    unfolding mark_at
    mark_second o = sym (failing_at 3 differs 1 (omega arith) one_before (ap not o))

    module _ (o : word_at s p (mark_line columns i 1) ≡ false) where
      two_before : (k : ℕ) → k < 2 → differs k ≡ true
      two_before = below_more _ _ one_before (ap not o)

      pub mark_third : word_at s p (mark_line columns i 2) ≡ true → 2 ≡ mark_at s p columns i
      unfolding mark_at
      mark_third e = sym (failing_at 3 differs 2 (omega arith) two_before (ap not e))

      pub mark_none : word_at s p (mark_line columns i 2) ≡ false → 3 ≡ mark_at s p columns i
      unfolding mark_at
      mark_none e = sym (failing_none 3 differs (below_more _ _ two_before (ap not e)))

  pub mark_most : mark_at s p columns i ≤ 3
  unfolding mark_at
  mark_most = failing_le 3 differs

  -- a line that has a mark ends where the next one starts
  mark_stands : mark_at s p columns i < 3 → word_at s p (mark_line columns i (mark_at s p columns i)) ≡ true
  unfolding mark_at
  mark_stands h = not-false _ (failing_fails 3 differs h)

  pub mark_lined : mark_at s p columns i < 3 → Lined s p (next_line s p)
  unfolding mark_line rest_text fields_text
  mark_lined h =
      let mark = mark_at s p columns i in
      let head = line_head (i / columns) (i % columns) mark in
      let plain_is = plain_head (i / columns) (i % columns) mark in
      let line : Lined s p (p + length (mark_line columns i mark)) =
      record { text = head; plain_is = plain_is; stands = stands_word s p (mark_line columns i mark) (mark_stands h) } in
      subst (Lined s p) (sym (lined_next line)) line

-- ---- the lines of the squares, one after the other

module _ (s : List ℕ) (p columns : ℕ) where
  abbrev pub marked : ℕ → Bool
  marked i = ltb (mark_from s p columns i) 3

  -- those passed so far, the next line being in the text
  pub record Marking (next i : ℕ) : Type 0 where
    pub lines : Passed s p marked next i
    pub inside : next ≤ length s

  module _ {next i : ℕ} (a : Marking next i) {mark : ℕ} (m : mark ≡ mark_at s next columns i) where
    mark_here : mark ≡ mark_from s p columns i
    mark_here = m ∙ ap (λ (q : ℕ). mark_at s q columns i) a.lines.here

    pub marking_more : (mark ≡ 3 → ⊥) → {after : ℕ} → after ≡ next_line s next → Marking after (i + 1)
    marking_more d {after} e =
        let low : mark < 3 = omega (arith, d, m, mark_most s next columns i) in
        let line : Lined s next after = subst (Lined s next) (sym e) (mark_lined s next columns i (subst (λ (k : ℕ). k < 3) m low)) in
        record {
          lines = passed_more s p marked a.lines (sym (ap (λ (k : ℕ). ltb k 3) mark_here) ∙ lt-ltb mark 3 low) line;
          inside = subst (λ (q : ℕ). q ≤ length s) (sym e) (next-within s next a.inside);
        }

    pub unmarked : mark ≡ 3 → marked i ≡ false
    unmarked e = sym (ap (λ (k : ℕ). ltb k 3) mark_here) ∙ le-ltb mark 3 (omega arith)

module _ (s : List ℕ) (p : ℕ) (shape : Shape) {next i : ℕ} (a : Marking s p shape.columns next i) where
  pub marks_stop :
      i < squares shape → {mark : ℕ} → mark ≡ mark_at s next shape.columns i → mark ≡ 3 →
      MarksCounted s p shape (record { count = i; next = next })
  marks_stop l m e =
      record {
        count_is = sym (failing_at (squares shape) (marked s p shape.columns) i l a.lines.so_far (unmarked s p shape.columns a m e));
        next_is = a.lines.here;
        passed = a.lines.passed;
      }

  pub marks_all : i ≡ squares shape → MarksCounted s p shape (record { count = squares shape; next = next })
  marks_all e =
      record {
        count_is = sym (failing_none (squares shape) (marked s p shape.columns) (λ k l. a.lines.so_far k (omega (arith, l, e))));
        next_is = rw (← e) a.lines.here;
        passed = omega (arith, e, a.lines.passed);
      }

-- ---- a note

grid_lined : (s : List ℕ) {top : GridLine} → Some top ≡ grid_line s → Lined s 0 top.next
unfolding grid_line as_grid
grid_lined s {top} e = go (line_of s 0 grid_word grid_fields) refl e
  where
    go : (f : Option Fields) → LineOf s 0 grid_word grid_fields f → Some top ≡ option_map as_grid f → Lined s 0 top.next
    go (Some f) q e =
        subst (λ (k : ℕ). Lined s 0 k) (sym (ap (λ (g : Option GridLine). (grid_or g).next) e))
        (row_lined s 0 grid_word grid_fields (omega arith) plain-grid q)
    go None q e = not_both refl (ap is_some e)

run_lined : (s : List ℕ) (p D : ℕ) {run : RunLine} → Some run ≡ run_line s p D → Lined s p run.next
unfolding run_line as_run
run_lined s p D {run} e = go (line_of s p run_word run_fields) refl e
  where
    go : (f : Option Fields) → LineOf s p run_word run_fields f → Some run ≡ option_map (as_run D) f → Lined s p run.next
    go (Some f) q e =
        subst (λ (k : ℕ). Lined s p k) (sym (ap (λ (g : Option RunLine). (run_or D g).next) e))
        (row_lined s p run_word run_fields (omega arith) plain-run q)
    go None q e = not_both refl (ap is_some e)

bad_read : {s : List ℕ} {r : Note} {k : ℕ} → r.bad ≡ k → (k ≡ 0 → ⊥) → k ≡ note_bad s → NoteRead s r
bad_read h d e = record { bad_is = h ∙ e; note_is = λ z. absurd (d (sym h ∙ z)) }

marks_same : (s : List ℕ) → marks_read s ≡ marks_from s (cells_at s) (shape_of s)
unfolding marks_read note_mark mark_at
marks_same s = refl

pub note_top : (s : List ℕ) → None ≡ grid_line s → {r : Note} → r.bad ≡ 1 → NoteRead s r
unfolding note_bad
note_top s g h = bad_read h (λ z. omega (arith, z)) (sym (refusal_here 1 _ (sym (ap is_some g))))

module _ (s : List ℕ) {top : GridLine} (grid_is : Some top ≡ grid_line s) where
  g : top ≡ line_one s
  g = ap grid_or grid_is

  one_found : has_one s ≡ true
  one_found = sym (ap is_some grid_is)

  pub top_small : (top.shape.rows ≤ most_number) × (top.shape.columns ≤ most_number)
  top_small =
      let small = first_small s one_found in
      subst (λ (l : GridLine). (l.shape.rows ≤ most_number) × (l.shape.columns ≤ most_number)) (sym g) (small.0, small.1.0)

  one_lined : Lined s 0 top.next
  one_lined = grid_lined s grid_is

  one_next : top.next ≡ line_from s 0 1
  unfolding line_from
  one_next = sym (lined_next one_lined)

  two_at : run_line s top.next top.side ≡ run_line s (line_from s 0 1) (line_one s).side
  two_at = ap (λ (l : GridLine). run_line s top.next l.side) g ∙ ap (λ (p : ℕ). run_line s p (line_one s).side) one_next

  pub note_run : None ≡ run_line s top.next top.side → {r : Note} → r.bad ≡ 2 → NoteRead s r
  unfolding note_bad
  note_run f h =
      bad_read h (λ z. omega (arith, z)) (sym (refusal_later 1 _ one_found ∙ refusal_here 2 _ (sym (ap is_some (f ∙ two_at)))))

  module _ {run : RunLine} (run_is : Some run ≡ run_line s top.next top.side) where
    two_is : run ≡ line_two s
    two_is = ap (run_or (line_one s).side) (run_is ∙ two_at)

    two_lined : Lined s top.next run.next
    two_lined = run_lined s top.next top.side run_is

    two_next : run.next ≡ cells_at s
    unfolding line_from
    two_next = sym (lined_next two_lined) ∙ ap (next_line s) one_next

    two_low : 2 ≤ run.next
    two_low = omega (arith, lined_forth one_lined, lined_forth two_lined)

    two_found : has_two s ≡ true
    two_found = sym (ap is_some (run_is ∙ two_at))

    -- the squares start in the text
    pub run_inside : run.next ≤ length s
    run_inside =
        let one : top.next ≤ length s = subst (λ (q : ℕ). q ≤ length s) (lined_next one_lined) (next-within s 0 (omega arith)) in
        subst (λ (q : ℕ). q ≤ length s) (lined_next two_lined) (next-within s top.next one)

    module _ {cells : Scan} (c : MarksCounted s run.next top.shape cells) where
      cells_are : MarksCounted s (cells_at s) (shape_of s) cells
      cells_are =
          subst (λ (p : ℕ). MarksCounted s p (shape_of s) cells) two_next
          (subst (λ (l : GridLine). MarksCounted s run.next l.shape cells) g c)

      count_same : cells.count ≡ marks_read s
      count_same = cells_are.count_is ∙ sym (marks_same s)

      shape_same : squares top.shape ≡ squares (shape_of s)
      shape_same = ap (λ (l : GridLine). squares l.shape) g

      pub note_cells : cells.count < squares top.shape → {r : Note} → r.bad ≡ cells.count + first_cell → NoteRead s r
      unfolding note_bad
      note_cells l h =
          bad_read h (λ z. omega (arith, z))
          (sym
          (refusal_later 1 _ one_found
          ∙ (refusal_later 2 _ two_found
          ∙ (refusal_here _ _ (lt-leb (squares (shape_of s)) (marks_read s) (omega (arith, l, shape_same, count_same)))
          ∙ ap (λ (n : ℕ). n + first_cell) (sym count_same)))))

      module _
          (h : squares top.shape ≤ cells.count) {rain inflow : Scan} (ra : RowsCounted s cells.next rain_word rain_kind.width rain)
          (fl : RowsCounted s rain.next inflow_word inflow_kind.width inflow) where
        few_marks : marks_read s ≤ squares (shape_of s)
        unfolding marks_read
        few_marks = failing_le _ _

        all_marks : cells.count ≡ squares (shape_of s)
        all_marks = omega (arith, h, shape_same, count_same, few_marks)

        rain-at : cells.next ≡ rain_at s
        rain-at = cells_are.next_is ∙ ap (line_from s (cells_at s)) all_marks

        rain_are : RowsCounted s (rain_at s) rain_word rain_kind.width rain
        rain_are = subst (λ (p : ℕ). RowsCounted s p rain_word rain_kind.width rain) rain-at ra

        inflow-at : rain.next ≡ inflow_at s
        inflow-at = rain_are.next_is ∙ ap (line_from s (rain_at s)) rain_are.count_is

        inflow_are : RowsCounted s (inflow_at s) inflow_word inflow_kind.width inflow
        inflow_are = subst (λ (p : ℕ). RowsCounted s p inflow_word inflow_kind.width inflow) inflow-at fl

        after-at : inflow.next ≡ after_all s
        after-at = inflow_are.next_is ∙ ap (line_from s (inflow_at s)) inflow_are.count_is

        -- the line after all is not past the numbers that are counted with
        pub note_lines : squares top.shape + rain.count + inflow.count + 2 ≤ inflow.next
        note_lines = omega (arith, two_low, c.passed, ra.passed, fl.passed, h)

        marks-fine : leb (squares (shape_of s)) (marks_read s) ≡ true
        marks-fine = le-leb (squares (shape_of s)) (marks_read s) (omega (arith, all_marks, count_same))

        pub note_rest :
            inflow.next < length s → {r : Note} → r.bad ≡ squares top.shape + rain.count + inflow.count + first_cell → NoteRead s r
        unfolding note_bad
        note_rest l b =
            bad_read b (λ z. omega (arith, z))
            (sym
            (refusal_later 1 _ one_found
            ∙ (refusal_later 2 _ two_found
            ∙ (refusal_later _ _ marks-fine
            ∙ (refusal_here _ _ (lt-leb (length s) (after_all s) (omega (arith, l, after-at)))
            ∙ omega (arith, shape_same, rain_are.count_is, inflow_are.count_is))))))

        heading_here :
            record { shape = top.shape; rules = run.rules; end = run.end; rain_rows = rain.count; inflow_rows = inflow.count }
            ≡ heading_of s
        unfolding heading_of
        heading_here =
            λ j.
            record {
              shape = (g j).shape;
              rules = (two_is j).rules;
              end = (two_is j).end;
              rain_rows = rain_are.count_is j;
              inflow_rows = inflow_are.count_is j;
            }

        pub note_good :
            length s ≤ inflow.next →
            NoteRead s
            (record {
              bad = 0;
              heading =
                  record { shape = top.shape; rules = run.rules; end = run.end; rain_rows = rain.count; inflow_rows = inflow.count };
              cells_at = run.next;
              rain_at = cells.next;
              inflow_at = rain.next;
            })
        unfolding note_bad
        note_good l =
            record {
              bad_is =
                  sym
                  (passed_refusal _ (
                    one_found,
                    (two_found, (marks-fine, (le-leb (length s) (after_all s) (omega (arith, l, after-at)), tt))),
                  ));
              note_is =
                  λ z.
                  record {
                    one_found = one_found;
                    heading_is = heading_here;
                    cells_at_is = two_next;
                    rain_at_is = rain-at;
                    inflow_at_is = inflow-at;
                  };
            }
