-- Laws of the answer to a sheet: each refusal in its order, and a sheet that is read well.
-- Assumes nothing.
use mathlib.Core.Path.{◌≡◌, refl, sym, ap, subst, ◌∙◌}
use mathlib.Core.Bool.{true, false}
use mathlib.Core.List.{List}
use Prim.Native.Nat.{ℕ, zero, suc, ◌/◌, ◌≤◌, ◌<◌}
use native.Mathlib.Nat.{mul-div_cancel_left}
use native.Mathlib.Omega.{arith}
use Rattle.std.proofs.Common.{Some, None, is_some}
use lib.ListN.{length}
use borrow.Author.Tests.{leb-true}
use Rattle.reckon.specs.Lists.{placed}
use Rattle.reckon.specs.Ranges.{most_table_rows}
use Rattle.reckon.specs.Tables.{rain_kind, inflow_kind, table_room, table_fine}
use Rattle.reckon.proofs.TestLaws.{pick_true, pick_false, every_each}
use Rattle.grid.specs.Squares.{ShapeInRange, squares}
use Rattle.grid.specs.declared.squares.Shape.{Shape}
use Rattle.grid.proofs.SquareLaws.{ranges_of_fine}
use Rattle.rule.specs.declared.rules.Rules.{Rules}
use Rattle.checks.proofs.CheckLaws.{ready, run_checks_step}
use Rattle.text.specs.Reading.{most_fields}
use Rattle.text.proofs.ReadingLaws.{by_test}
use Rattle.sheet.specs.Lines.{rain_word, inflow_word, grid_line}
use Rattle.sheet.specs.Sheet.{Cells, Rooms, rooms_fine, grid_or, has_one, line_one, line_two, shape_of, cells_at, rain_at, rain_rows, inflow_at, inflow_rows, bad_line, cells_read, cells_filled, all_cells, rooms_filled, table_rows, checks_in, checks_of, heading_of, judged, sheet_of, rooms_after, Reads}
use Rattle.sheet.specs.Inner.Reading.{CellsRead, Decided, number_of}
use Rattle.sheet.specs.declared.lines.GridLine.{GridLine}
use Rattle.sheet.specs.declared.rooms.Scan.{Scan}
use Rattle.sheet.specs.declared.reading.Verdict.{Verdict}
use Rattle.sheet.specs.declared.reading.Heading.{Heading}
use Rattle.sheet.specs.declared.reading.Sheet.TheVariants.{Read, Refused}
use Rattle.sheet.proofs.RoomLaws.{table_long}

-- ---- what fine rooms and passed checks say

module _ (shape : Shape) (D : ℕ) (lent : Rooms) (f : rooms_fine shape D lent ≡ true) where
  pub rooms-shape : ShapeInRange shape
  unfolding rooms_fine
  rooms-shape = ranges_of_fine shape (every_each _ f).0

  pub rooms_cells :
      (squares shape ≤ length lent.cells.marks) × (squares shape ≤ length lent.cells.beds) × (squares shape ≤ length lent.cells.roughness) ×
      (squares shape ≤ length lent.cells.rates) × (squares shape ≤ length lent.cells.depths)
  unfolding rooms_fine
  rooms_cells =
      let t = every_each _ f in
      (leb-true _ _ t.1.1.0, leb-true _ _ t.1.1.1.0, leb-true _ _ t.1.1.1.1.0, leb-true _ _ t.1.1.1.1.1.0, leb-true _ _ t.1.1.1.1.1.1.0)

  pub rooms-tables : (table_room rain_kind ≤ length lent.rain) × (table_room inflow_kind ≤ length lent.inflow)
  unfolding rooms_fine
  rooms-tables =
      let t = every_each _ f in
      (leb-true (table_room rain_kind) (length lent.rain) t.1.1.1.1.1.1.1.0, leb-true (table_room inflow_kind) (length lent.inflow) t.1.1.1.1.1.1.1.1.0)

pub rows_few :
    (s : List ℕ) (p : ℕ) (word : List ℕ) (width rows lead most : ℕ) → width ≤ most_fields → 0 < width →
    table_fine (record { width = width; lead = lead; most = most }) (table_rows s p word width rows) ≡ true → rows ≤ most_table_rows
unfolding table_fine
rows_few s p word width rows lead most few some e =
    let n : length (table_rows s p word width rows) / width ≡ rows =
    ap (λ (k : ℕ). k / width) (table_long s p word width few rows) ∙ mul-div_cancel_left rows some in
    omega (arith, n, leb-true (length (table_rows s p word width rows) / width) most_table_rows (every_each _ e).1.0)

module _ (s : List ℕ) (e : checks_of s ≡ 0) where
  pub rain_few : rain_rows s ≤ most_table_rows
  unfolding checks_in
  rain_few =
      rows_few s (rain_at s) rain_word rain_kind.width (rain_rows s) rain_kind.lead rain_kind.most (omega arith) (omega arith)
      (ready _ _ _ _ (run_checks_step _ _ (line_two s).end _ e)).waters.rain

  pub inflow_few : inflow_rows s ≤ most_table_rows
  unfolding checks_in
  inflow_few =
      rows_few s (inflow_at s) inflow_word inflow_kind.width (inflow_rows s) inflow_kind.lead inflow_kind.most (omega arith) (omega arith)
      (ready _ _ _ _ (run_checks_step _ _ (line_two s).end _ e)).waters.inflow

-- ---- what was read again, into the rooms that are lent

table_same :
    (s word : List ℕ) (width : ℕ) {p q n k : ℕ} → p ≡ q → n ≡ k → table_rows s p word width n ≡ table_rows s q word width k
table_same s word width e f = cc

filled_same :
    (s : List ℕ) {p : ℕ} {shape : Shape} {scan : Scan} {before after : Cells} → p ≡ cells_at s → shape ≡ shape_of s →
    cells_read s (cells_at s) (shape_of s) ≡ squares (shape_of s) → CellsRead s p shape scan before after → after ≡ all_cells s before
filled_same s {p} {shape} {scan} {before} {after} e f n c =
    let d : CellsRead s (cells_at s) (shape_of s) scan before after =
    subst (λ (k : ℕ). CellsRead s k (shape_of s) scan before after) e (subst (λ (h : Shape). CellsRead s p h scan before after) f c) in
    d.rooms_are ∙ ap (λ (k : ℕ). cells_filled s (cells_at s) (shape_of s).columns k before) (d.count_is ∙ n)

-- ---- the refusals

pub refused-first : (s : List ℕ) → None ≡ grid_line s → (old : Rooms) → Reads s old (Refused 12 1) old
unfolding sheet_of rooms_after
refused-first s e old = record { answer = sym (pick_false _ _ (sym (ap is_some e))); rooms_are = refl }

module _ (s : List ℕ) {top : GridLine} (e : Some top ≡ grid_line s) (old : Rooms) where
  found_one : has_one s ≡ true
  found_one = sym (ap is_some e)

  top_is : top ≡ line_one s
  top_is = ap grid_or e

  pub refused-rooms : rooms_fine top.shape top.side old ≡ false → Reads s old (Refused 1 0) old
  unfolding sheet_of rooms_after
  refused-rooms f =
      record {
        answer =
            sym
            (pick_true _ _ found_one
            ∙ pick_false _ _ (subst (λ (g : GridLine). rooms_fine g.shape g.side old ≡ false) top_is f));
        rooms_are = refl;
      }

  module _ (f : rooms_fine top.shape top.side old ≡ true) {v : Verdict} (d : Decided s v) where
    by_judged : sheet_of s old ≡ judged (bad_line s) (checks_of s) (heading_of s)
    unfolding sheet_of
    by_judged =
        pick_true _ _ found_one ∙ pick_true _ _ (subst (λ (g : GridLine). rooms_fine g.shape g.side old ≡ true) top_is f)

    pub refused_verdict : (v.number ≡ 0 → ⊥) → Reads s old (Refused v.number v.line) old
    unfolding rooms_after judged number_of
    refused_verdict n =
        record { answer = go (bad_line s) (checks_of s) d.line_is d.number_is ∙ sym by_judged; rooms_are = refl }
      where
        go :
            (bad check : ℕ) → v.line ≡ bad → v.number ≡ number_of bad check →
            Refused v.number v.line ≡ judged bad check (heading_of s)
        go (suc bad) check p q = rw (p, q)
        go zero zero p q = absurd (n q)
        go zero (suc check) p q = rw (p, q)

    module _ (z : v.number ≡ 0) where
      pub no_bad : bad_line s ≡ 0
      unfolding number_of
      no_bad = go (bad_line s) d.number_is
        where
          go : (bad : ℕ) → v.number ≡ number_of bad (checks_of s) → bad ≡ 0
          go zero q = refl
          go (suc bad) q = absurd (omega (arith, q, z))

      pub no_check : checks_of s ≡ 0
      unfolding number_of
      no_check = sym (d.number_is ∙ ap (λ (k : ℕ). number_of k (checks_of s)) no_bad) ∙ z

      pub read_well :
          {scan : Scan} {c : Cells} {r i : List ℕ} → CellsRead s v.body.cells_at top.shape scan old.cells c →
          r ≡ placed old.rain 0 (table_rows s v.body.rain_at rain_word rain_kind.width v.body.rain_rows) →
          i ≡ placed old.inflow 0 (table_rows s v.body.inflow_at inflow_word inflow_kind.width v.body.inflow_rows) →
          Reads s old
          (Read
          (record {
            shape = top.shape;
            rules = v.body.rules;
            end = v.body.end;
            rain_rows = v.body.rain_rows;
            inflow_rows = v.body.inflow_rows;
          }))
          (record { cells = c; rain = r; inflow = i })
      unfolding rooms_after rooms_filled judged heading_of
      read_well c p q =
          let body = d.body_is z in
          record {
            answer =
                heading_same (ap (λ (g : GridLine). g.shape) top_is) body.rules_are body.end_is body.rain_rows_are body.inflow_rows_are
                ∙ sym (by_judged ∙ rw (no_bad, no_check));
            rooms_are =
                rooms_same (filled_same s body.cells_at_is (ap (λ (g : GridLine). g.shape) top_is) body.all-cells c)
                (p ∙ ap (placed old.rain 0) (table_same s rain_word rain_kind.width body.rain_at_is body.rain_rows_are))
                (q ∙ ap (placed old.inflow 0) (table_same s inflow_word inflow_kind.width body.inflow_at_is body.inflow_rows_are));
          }
        where
          rooms_same :
              {c c' : Cells} {r r' i i' : List ℕ} → c ≡ c' → r ≡ r' → i ≡ i' →
              ◌≡◌ {A = Rooms} (record { cells = c; rain = r; inflow = i }) (record { cells = c'; rain = r'; inflow = i' })
          rooms_same e f g = cc

          heading_same :
              {a a' : Shape} {u u' : Rules} {h h' x x' y y' : ℕ} → a ≡ a' → u ≡ u' → h ≡ h' → x ≡ x' → y ≡ y' →
              Read (record { shape = a; rules = u; end = h; rain_rows = x; inflow_rows = y }) ≡
              Read (record { shape = a'; rules = u'; end = h'; rain_rows = x'; inflow_rows = y' })
          heading_same e f g h i = cc

-- ---- what an answer says

never_read : {A : Type 0} {h : Heading} {n l : ℕ} → Read h ≡ Refused n l → A
never_read e = absurd (let z : ◌≡◌ {A = ℕ} 0 1 = cc in omega arith)

-- a sheet that was read has a first line, good rooms and no bad line, passes its checks, and its heading is what it says
pub record Well (s : List ℕ) (lent : Rooms) (h : Heading) : Type 0 where
  pub first_line : has_one s ≡ true
  pub fine : rooms_fine (shape_of s) (line_one s).side lent ≡ true
  pub text_good : bad_line s ≡ 0
  pub checks : checks_of s ≡ 0
  pub heading : h ≡ heading_of s

pub well : (s : List ℕ) (lent : Rooms) (h : Heading) → Read h ≡ sheet_of s lent → Well s lent h
unfolding sheet_of judged
well s lent h e =
    by_test (has_one s)
    (λ t.
    by_test (rooms_fine (shape_of s) (line_one s).side lent)
    (λ f. go t f (bad_line s) (checks_of s) refl refl (e ∙ (pick_true _ _ t ∙ pick_true _ _ f)))
    (λ f. never_read (e ∙ (pick_true _ _ t ∙ pick_false _ _ f))))
    (λ t. never_read (e ∙ pick_false _ _ t))
  where
    go :
        has_one s ≡ true → rooms_fine (shape_of s) (line_one s).side lent ≡ true → (bad check : ℕ) → bad_line s ≡ bad → checks_of s ≡ check →
        Read h ≡ judged bad check (heading_of s) → Well s lent h
    go t f (suc bad) check b c q = never_read q
    go t f zero (suc check) b c q = never_read q
    go t f zero zero b c q = record { first_line = t; fine = f; text_good = b; checks = c; heading = cc }
