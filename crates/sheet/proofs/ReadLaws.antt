-- Laws of a sheet's text: each line starts where the one before it ends, so that the first bad line is the one at which reading stops.
-- Assumes nothing.
use mathlib.Core.Path.{◌≡◌, refl, sym, ap, subst, ◌∙◌}
use mathlib.Core.Bool.{true}
use mathlib.Core.List.{List}
use Prim.Native.Nat.{ℕ, ◌+◌, ◌≤◌, ◌<◌}
use native.Mathlib.Omega.{arith}
use Rattle.std.proofs.Common.{Option, Some, None, is_some, option_map}
use lib.Dec.{leb}
use lib.ListN.{length}
use borrow.Author.Tests.{le-leb, lt-leb}
use Rattle.reckon.specs.Tests.{pick}
use Rattle.reckon.proofs.TestLaws.{not_both, refusal_here, refusal_later, passed_refusal, failing_le}
use Rattle.reckon.specs.Tables.{rain_kind, inflow_kind}
use Rattle.grid.specs.Squares.{squares}
use Rattle.text.specs.Reading.{line_of, next_line, line_from, LineOf}
use Rattle.text.specs.Inner.Standing.{plain}
use Rattle.text.specs.declared.reading.Fields.{Fields}
use Rattle.sheet.specs.Lines.{grid_word, run_word, rain_word, inflow_word, grid_line, run_line, as_grid, as_run, grid_fields, run_fields}
use Rattle.sheet.specs.Sheet.{Cells, grid_or, run_or, line_one, has_two, line_two, shape_of, cells_at, cells_read, rain_at, inflow_at, after_all, first_cell, bad_line, cells_filled}
use Rattle.sheet.specs.Inner.Reading.{CellsRead, RowsCounted, TextRead}
use Rattle.sheet.specs.declared.lines.GridLine.{GridLine}
use Rattle.sheet.specs.declared.lines.RunLine.{RunLine}
use Rattle.sheet.specs.declared.rooms.Scan.{Scan}
use Rattle.sheet.specs.declared.reading.Body.{Body}
use Rattle.sheet.proofs.KindLaws.{Lined, lined_next, lined_forth, row_lined}

pub plain-grid : plain grid_word ≡ true
unfolding plain pick
plain-grid = refl

pub plain-run : plain run_word ≡ true
unfolding plain pick
plain-run = refl

pub plain_rain : plain rain_word ≡ true
unfolding plain pick
plain_rain = refl

pub plain_inflow : plain inflow_word ≡ true
unfolding plain pick
plain_inflow = refl

-- line 1 and line 2 end with their lines
grid_lined : (s : List ℕ) {top : GridLine} → Some top ≡ grid_line s → Lined s 0 top.next
unfolding grid_line as_grid
grid_lined s {top} e = go (line_of s 0 grid_word grid_fields) refl e
  where
    go : (f : Option Fields) → LineOf s 0 grid_word grid_fields f → Some top ≡ option_map as_grid f → Lined s 0 top.next
    go (Some f) q e =
        subst (λ (k : ℕ). Lined s 0 k) (sym (ap (λ (g : Option GridLine). (grid_or g).next) e))
        (row_lined s 0 grid_word grid_fields (omega arith) plain-grid q)
    go None q e = not_both refl (ap is_some e)

run_lined : (s : List ℕ) (p D : ℕ) {run : RunLine} → Some run ≡ run_line s p D → Lined s p run.next
unfolding run_line as_run
run_lined s p D {run} e = go (line_of s p run_word run_fields) refl e
  where
    go : (f : Option Fields) → LineOf s p run_word run_fields f → Some run ≡ option_map (as_run D) f → Lined s p run.next
    go (Some f) q e =
        subst (λ (k : ℕ). Lined s p k) (sym (ap (λ (g : Option RunLine). (run_or D g).next) e))
        (row_lined s p run_word run_fields (omega arith) plain-run q)
    go None q e = not_both refl (ap is_some e)

unread : {s : List ℕ} {b : Body} {before after : Cells} {k : ℕ} → b.bad ≡ k → (k ≡ 0 → ⊥) → k ≡ bad_line s → TextRead s b before after
unread h d e = record { bad_is = h ∙ e; body_is = λ z. absurd (d (sym h ∙ z)); rooms_are = λ z. absurd (d (sym h ∙ z)) }

-- line 1 was found
module _ (s : List ℕ) {top : GridLine} (grid_is : Some top ≡ grid_line s) where
  top_is : top ≡ line_one s
  top_is = ap grid_or grid_is

  one_lined : Lined s 0 top.next
  one_lined = grid_lined s grid_is

  one_next : top.next ≡ line_from s 0 1
  unfolding line_from
  one_next = sym (lined_next one_lined)

  two_at : run_line s top.next top.side ≡ run_line s (line_from s 0 1) (line_one s).side
  two_at = ap (λ (g : GridLine). run_line s top.next g.side) top_is ∙ ap (λ (p : ℕ). run_line s p (line_one s).side) one_next

  pub body_run : None ≡ run_line s top.next top.side → {b : Body} {before after : Cells} → b.bad ≡ 2 → TextRead s b before after
  unfolding bad_line
  body_run f h = unread h (λ z. omega (arith, z)) (sym (refusal_here 2 _ (sym (ap is_some (f ∙ two_at)))))

  -- and so was line 2
  module _ {run : RunLine} (run_is : Some run ≡ run_line s top.next top.side) where
    two_is : run ≡ line_two s
    two_is = ap (run_or (line_one s).side) (run_is ∙ two_at)

    two_lined : Lined s top.next run.next
    two_lined = run_lined s top.next top.side run_is

    two_next : run.next ≡ cells_at s
    unfolding line_from
    two_next = sym (lined_next two_lined) ∙ ap (next_line s) one_next

    pub two_low : 2 ≤ run.next
    two_low = omega (arith, lined_forth one_lined, lined_forth two_lined)

    two_found : has_two s ≡ true
    two_found = sym (ap is_some (run_is ∙ two_at))

    module _ {cells : Scan} {before after : Cells} (c : CellsRead s run.next top.shape cells before after) where
      cells_are : CellsRead s (cells_at s) (shape_of s) cells before after
      cells_are =
          subst (λ (p : ℕ). CellsRead s p (shape_of s) cells before after) two_next
          (subst (λ (g : GridLine). CellsRead s run.next g.shape cells before after) top_is c)

      shape_same : squares top.shape ≡ squares (shape_of s)
      shape_same = ap (λ (g : GridLine). squares g.shape) top_is

      pub body_cells : cells.count < squares top.shape → {b : Body} → b.bad ≡ cells.count + first_cell → TextRead s b before after
      unfolding bad_line
      body_cells l h =
          unread h (λ z. omega (arith, z))
          (sym
          (refusal_later 2 _ two_found
          ∙ (refusal_here _ _ (lt-leb (squares (shape_of s)) (cells_read s (cells_at s) (shape_of s)) (omega (arith, l, shape_same, cells_are.count_is)))
          ∙ ap (λ (k : ℕ). k + first_cell) (sym cells_are.count_is))))

      module _
          (h : squares top.shape ≤ cells.count) {rain inflow : Scan} (ra : RowsCounted s cells.next rain_word rain_kind.width rain)
          (fl : RowsCounted s rain.next inflow_word inflow_kind.width inflow) where
        few_cells : cells_read s (cells_at s) (shape_of s) ≤ squares (shape_of s)
        unfolding cells_read
        few_cells = failing_le _ _

        all-cells : cells.count ≡ squares (shape_of s)
        all-cells = omega (arith, h, shape_same, cells_are.count_is, few_cells)

        rain-at : cells.next ≡ rain_at s
        rain-at = cells_are.next_is ∙ ap (line_from s (cells_at s)) all-cells

        rain_are : RowsCounted s (rain_at s) rain_word rain_kind.width rain
        rain_are = subst (λ (p : ℕ). RowsCounted s p rain_word rain_kind.width rain) rain-at ra

        inflow-at : rain.next ≡ inflow_at s
        inflow-at = rain_are.next_is ∙ ap (line_from s (rain_at s)) rain_are.count_is

        inflow_are : RowsCounted s (inflow_at s) inflow_word inflow_kind.width inflow
        inflow_are = subst (λ (p : ℕ). RowsCounted s p inflow_word inflow_kind.width inflow) inflow-at fl

        after-at : inflow.next ≡ after_all s
        after-at = inflow_are.next_is ∙ ap (line_from s (inflow_at s)) inflow_are.count_is

        pub body_lines : squares top.shape + rain.count + inflow.count + 2 ≤ inflow.next
        body_lines = omega (arith, two_low, c.passed, ra.passed, fl.passed, h)

        cells_fine : leb (squares (shape_of s)) (cells_read s (cells_at s) (shape_of s)) ≡ true
        cells_fine = le-leb (squares (shape_of s)) (cells_read s (cells_at s) (shape_of s)) (omega (arith, all-cells, cells_are.count_is))

        pub body_rest :
            inflow.next < length s → {b : Body} → b.bad ≡ squares top.shape + rain.count + inflow.count + first_cell → TextRead s b before after
        unfolding bad_line
        body_rest l h' =
            unread h' (λ z. omega (arith, z))
            (sym
            (refusal_later 2 _ two_found
            ∙ (refusal_later _ _ cells_fine
            ∙ (refusal_here _ _ (lt-leb (length s) (after_all s) (omega (arith, l, after-at)))
            ∙ omega (arith, shape_same, rain_are.count_is, inflow_are.count_is)))))

        pub body_good :
            length s ≤ inflow.next →
            TextRead s
            (record {
              bad = 0;
              rules = run.rules;
              end = run.end;
              cells_at = run.next;
              rain_at = cells.next;
              rain_rows = rain.count;
              inflow_at = rain.next;
              inflow_rows = inflow.count;
            })
            before after
        unfolding bad_line
        body_good l =
            record {
              bad_is = sym (passed_refusal _ (two_found, (cells_fine, (le-leb (length s) (after_all s) (omega (arith, l, after-at)), tt))));
              body_is =
                  λ z.
                  record {
                    rules_are = ap (λ (g : RunLine). g.rules) two_is;
                    end_is = ap (λ (g : RunLine). g.end) two_is;
                    all-cells = sym cells_are.count_is ∙ all-cells;
                    cells_at_is = two_next;
                    rain_at_is = rain-at;
                    rain_rows_are = rain_are.count_is;
                    inflow_at_is = inflow-at;
                    inflow_rows_are = inflow_are.count_is;
                  };
              rooms_are =
                  λ z.
                  cells_are.rooms_are ∙ ap (λ (k : ℕ). cells_filled s (cells_at s) (shape_of s).columns k before) all-cells;
            }
