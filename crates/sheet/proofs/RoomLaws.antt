-- Laws of lines read into rooms: one line more, the first that cannot be read, and the end.
-- Assumes nothing.
use mathlib.Core.Path.{◌≡◌, refl, sym, ap, subst, ◌∙◌}
use mathlib.Core.Bool.{Bool, true, false}
use mathlib.Core.List.{List}
use Prim.Native.Nat.{ℕ, ◌+◌, ◌*◌, ◌/◌, ◌%◌, ◌≤◌, ◌<◌}
use native.Mathlib.Nat.{not-suc-le-zero, mul-suc, mul-le-mul_left}
use native.Mathlib.Decide.{ℕ_discrete}
use native.Mathlib.Omega.{arith}
use Rattle.std.proofs.Common.{Option, Some, None, is_some}
use lib.Dec.{eqb}
use lib.ListN.{length, set, take}
use lib.Seq.{length-take-le}
use borrow.Author.Count.{below_more}
use Rattle.reckon.specs.Tests.{pick, first_failing}
use Rattle.reckon.specs.Lists.{filled, placed}
use Rattle.reckon.proofs.TestLaws.{not_both, pick_false, failing_at, failing_none, failing_before}
use Rattle.reckon.proofs.ListLaws.{length-tabulate, filled_none, filled_store, filled_keep, joined_none, joined_more, length-joined}
use Rattle.grid.specs.Squares.{squares}
use Rattle.grid.specs.declared.squares.Shape.{Shape}
use Rattle.text.specs.Reading.{Reading, most_fields, line_of, next_line, line_from, padded, as_fields, read_line}
use Rattle.text.specs.Reading.Reading.{read, unread}
use Rattle.text.specs.Inner.Standing.{plain}
use Rattle.text.specs.declared.reading.Fields.{Fields}
use Rattle.text.proofs.LineLaws.{line_next}
use Rattle.text.proofs.WritingLaws.{placed_both, placed_none}
use Rattle.sheet.specs.Lines.{cell_line}
use Rattle.sheet.specs.Sheet.{Cells, cell_at, has_cell, cell_or, cell_from, cells_read, row_at, has_row, fields_or, row_line, rows_read, table_rows, cells_rooms, closed_from, cells_filled}
use Rattle.sheet.specs.Inner.Reading.{CellsRead, RowsCounted}
use Rattle.sheet.specs.declared.lines.CellLine.{CellLine}
use Rattle.sheet.proofs.KindLaws.{Lined, lined_next, lined_forth, lined_inside, row_lined, Ends, cell_ends}

-- ---- lines that were read one after the other

-- each of the first i lines was read, and the next one starts at `next`
pub record Passed (s : List ℕ) (p : ℕ) (found : ℕ → Bool) (next i : ℕ) : Type 0 where
  pub so_far : (k : ℕ) → k < i → found k ≡ true
  pub here : next ≡ line_from s p i
  pub passed : p + i ≤ next

module _ (s : List ℕ) (p : ℕ) (found : ℕ → Bool) where
  pub passed_none : Passed s p found p 0
  unfolding line_from
  passed_none = record { so_far = λ k l. absurd (not-suc-le-zero l); here = refl; passed = omega arith }

  pub passed_more : {next i q : ℕ} → Passed s p found next i → found i ≡ true → Lined s next q → Passed s p found q (i + 1)
  passed_more {next} {i} {q} a t l =
      record {
        so_far = below_more _ _ a.so_far t;
        here = sym (lined_next l) ∙ (ap (next_line s) a.here ∙ sym (line_next s p i));
        passed = omega (arith, a.passed, lined_forth l);
      }

-- ---- one square more

module _ (skipped : ℕ → Bool) (f : ℕ → ℕ) (old : List ℕ) (i : ℕ) where
  -- a store where the place is not skipped
  stored : i < length old → {v : ℕ} {l new : List ℕ} {b : Bool} → l ≡ filled i skipped f old → v ≡ f i → b ≡ skipped i →
      new ≡ pick b l (set l i v) → new ≡ filled (i + 1) skipped f old
  unfolding pick
  stored h {v} {l} {new} {b} e q s n = go b s n
    where
      go : (b : Bool) → b ≡ skipped i → new ≡ pick b l (set l i v) → new ≡ filled (i + 1) skipped f old
      go true s n = n ∙ (e ∙ filled_keep skipped f old i h (λ d. not_both (sym s) d))
      go false s n = n ∙ (ap (λ (x : List ℕ). set x i v) e ∙ filled_store skipped f old i h (sym s) q)

-- rooms that hold the same numbers
pub cells_same :
    {x y : Cells} → x.marks ≡ y.marks → x.beds ≡ y.beds → x.roughness ≡ y.roughness → x.rates ≡ y.rates → x.depths ≡ y.depths → x ≡ y
cells_same e f g r h = go e f g r h
  where
    go : {m m' b b' k k' s s' d d' : List ℕ} → m ≡ m' → b ≡ b' → k ≡ k' → s ≡ s' → d ≡ d' → cells_rooms m b k s d ≡ cells_rooms m' b' k' s' d'
    go e f g r h = cc

-- the first squares' lines were read, and the rooms are filled with them
pub record Filling (s : List ℕ) (p columns next i : ℕ) (old new : Cells) : Type 0 where
  pub lines : Passed s p (has_cell s p columns) next i
  pub rooms_are : new ≡ cells_filled s p columns i old

-- a line's numbers are stored, its bed, roughness, rate and depth where it is not closed
pub record Stored (c : CellLine) (i : ℕ) (old new : Cells) : Type 0 where
  pub marks : new.marks ≡ set old.marks i c.mark
  pub beds : new.beds ≡ pick (eqb c.mark 0) old.beds (set old.beds i c.bed)
  pub roughness : new.roughness ≡ pick (eqb c.mark 0) old.roughness (set old.roughness i c.roughness)
  pub rates : new.rates ≡ pick (eqb c.mark 0) old.rates (set old.rates i c.rate)
  pub depths : new.depths ≡ pick (eqb c.mark 0) old.depths (set old.depths i c.depth)

-- a square of each room
pub record Within (i : ℕ) (lent : Cells) : Type 0 where
  pub marks : i < length lent.marks
  pub beds : i < length lent.beds
  pub roughness : i < length lent.roughness
  pub rates : i < length lent.rates
  pub depths : i < length lent.depths

pub filling_none : (s : List ℕ) (p columns : ℕ) (old : Cells) → Filling s p columns p 0 old old
unfolding cells_filled
filling_none s p columns old =
    record {
      lines = passed_none s p (has_cell s p columns);
      rooms_are = cells_same (filled_none _ _ _) (filled_none _ _ _) (filled_none _ _ _) (filled_none _ _ _) (filled_none _ _ _);
    }

module _ (s : List ℕ) (p columns : ℕ) {next i : ℕ} {old new : Cells} (a : Filling s p columns next i old new) where
  cell_here : cell_line s next (i / columns) (i % columns) ≡ cell_at s p columns i
  cell_here = ap (λ (q : ℕ). cell_line s q (i / columns) (i % columns)) a.lines.here

  module _ {c : CellLine} (e : Some c ≡ cell_line s next (i / columns) (i % columns)) where
    this : c ≡ cell_from s p columns i
    this = ap cell_or (e ∙ cell_here)

    pub filling_more : {after : Cells} → Within i old → Stored c i new after → Filling s p columns c.next (i + 1) old after
    unfolding cells_filled
    filling_more {after} in-old w =
        let lined : Lined s next c.next = subst (Ends s next) (sym e) (cell_ends s next (i / columns) (i % columns)) in
        record {
          lines = passed_more s p (has_cell s p columns) a.lines (sym (ap is_some (e ∙ cell_here))) lined;
          rooms_are =
              cells_same
              (stored (λ j. false) (λ j. (cell_from s p columns j).mark) old.marks i in-old.marks
              (ap (λ (r : Cells). r.marks) a.rooms_are) (ap (λ (z : CellLine). z.mark) this) refl (w.marks ∙ sym (pick_false _ _ refl)))
              (kept (λ z. z.bed) _ in-old.beds (ap (λ (r : Cells). r.beds) a.rooms_are) w.beds)
              (kept (λ z. z.roughness) _ in-old.roughness (ap (λ (r : Cells). r.roughness) a.rooms_are) w.roughness)
              (kept (λ z. z.rate) _ in-old.rates (ap (λ (r : Cells). r.rates) a.rooms_are) w.rates)
              (kept (λ z. z.depth) _ in-old.depths (ap (λ (r : Cells). r.depths) a.rooms_are) w.depths);
        }
      where
        -- a room that skips closed squares
        kept :
            (number : CellLine → ℕ) (room : List ℕ) {here after : List ℕ} → i < length room →
            here ≡ filled i (closed_from s p columns) (λ j. number (cell_from s p columns j)) room →
            after ≡ pick (eqb c.mark 0) here (set here i (number c)) →
            after ≡ filled (i + 1) (closed_from s p columns) (λ j. number (cell_from s p columns j)) room
        kept number room h g w =
            stored (closed_from s p columns) (λ j. number (cell_from s p columns j)) room i h g (ap number this)
            (ap (λ (z : CellLine). eqb z.mark 0) this) w

  pub filling_stop :
      None ≡ cell_line s next (i / columns) (i % columns) → (shape : Shape) → columns ≡ shape.columns → i < squares shape →
      CellsRead s p shape (record { count = i; next = next }) old new
  unfolding cells_read
  filling_stop e shape h l =
      record {
        count_is =
            subst (λ (w : ℕ). i ≡ first_failing (squares shape) (has_cell s p w)) h
            (sym (failing_at (squares shape) (has_cell s p columns) i l a.lines.so_far (sym (ap is_some (e ∙ cell_here)))));
        next_is = a.lines.here;
        rooms_are = subst (λ (w : ℕ). new ≡ cells_filled s p w i old) h a.rooms_are;
        passed = a.lines.passed;
      }

  pub filling_all :
      (shape : Shape) → columns ≡ shape.columns → {count : ℕ} → count ≡ squares shape → i ≡ count →
      CellsRead s p shape (record { count = count; next = next }) old new
  unfolding cells_read
  filling_all shape h c e =
      record {
        count_is =
            c
            ∙ subst (λ (w : ℕ). squares shape ≡ first_failing (squares shape) (has_cell s p w)) h
            (sym
            (failing_none (squares shape) (has_cell s p columns)
            (λ j l. a.lines.so_far j (omega (arith, c, e, l)))));
        next_is = rw (← e) a.lines.here;
        rooms_are = rw (← e) (subst (λ (w : ℕ). new ≡ cells_filled s p w i old) h a.rooms_are);
        passed = omega (arith, e, a.lines.passed);
      }

-- ---- lines of a table

module _ (s : List ℕ) (p : ℕ) (word : List ℕ) (width : ℕ) (few : width ≤ most_fields) (plain_is : plain word ≡ true) where
  module _ {next i : ℕ} (a : Passed s p (has_row s p word width) next i) where
    same_row : line_of s next word width ≡ row_at s p word width i
    same_row = ap (λ (q : ℕ). line_of s q word width) a.here

    module _ {f : Fields} (e : Some f ≡ line_of s next word width) where
      pub row_more : Passed s p (has_row s p word width) f.next (i + 1)
      row_more = passed_more s p (has_row s p word width) a (sym (ap is_some (e ∙ same_row))) (row_lined s next word width few plain_is e)

      pub row_forth : next < f.next
      row_forth = lined_forth (row_lined s next word width few plain_is e)

      pub row_inside : next < length s
      row_inside = lined_inside (row_lined s next word width few plain_is e)

    pub rows_stop : None ≡ line_of s next word width → i ≤ length s → RowsCounted s p word width (record { count = i; next = next })
    unfolding rows_read
    rows_stop e h = record { count_is = go (ℕ_discrete i (length s)); next_is = a.here; passed = a.passed }
      where
        go : Dec (i ≡ length s) → i ≡ first_failing (length s) (has_row s p word width)
        go (yes z) = z ∙ sym (failing_none (length s) (has_row s p word width) (λ k b. a.so_far k (omega (arith, z, b))))
        go (no d) = sym (failing_at (length s) (has_row s p word width) i (omega (arith, d, h)) a.so_far (sym (ap is_some (e ∙ same_row))))

-- ---- rows put into a room

pub values_long : (s : List ℕ) (p : ℕ) (word : List ℕ) (width : ℕ) → length (fields_or (line_of s p word width)).values ≡ most_fields
unfolding as_fields padded
values_long s p word width = go (read_line s p word width)
  where
    go : (r : Reading) → length (fields_or (as_fields r)).values ≡ most_fields
    go (read vs q) = length-tabulate most_fields _
    go unread = length-tabulate most_fields _

module _ (s : List ℕ) (p : ℕ) (word : List ℕ) (width : ℕ) (few : width ≤ most_fields) where
  pub row_long : (j : ℕ) → length (take width (row_line s p word width j).values) ≡ width
  row_long j = length-take-le width _ (omega (arith, few, values_long s (line_from s p j) word width))

  pub table_long : (rows : ℕ) → length (table_rows s p word width rows) ≡ width * rows
  unfolding table_rows
  table_long rows = length-joined rows width _ row_long

  pub table_none : (old : List ℕ) → old ≡ placed old 0 (table_rows s p word width 0)
  unfolding table_rows
  table_none old = sym (ap (placed old 0) (joined_none _) ∙ placed_none old 0)

  module _ (old : List ℕ) (i : ℕ) (fits : width * i + width ≤ length old) where
    pub table_more :
        {next : ℕ} {room new : List ℕ} {f : Fields} → next ≡ line_from s p i → room ≡ placed old 0 (table_rows s p word width i) →
        Some f ≡ line_of s next word width → new ≡ placed room (width * i) (take width f.values) → new ≡ placed old 0 (table_rows s p word width (i + 1))
    unfolding table_rows
    table_more {next} {room} {new} {f} h e g n =
        let row : f ≡ row_line s p word width i = ap fields_or (g ∙ ap (λ (q : ℕ). line_of s q word width) h) in
        let at : width * i ≡ 0 + length (table_rows s p word width i) = omega (arith, table_long i) in
        n
        ∙ (ap (λ (z : Fields). placed room (width * i) (take width z.values)) row
        ∙ (ap (λ (l : List ℕ). placed l (width * i) (take width (row_line s p word width i).values)) e
        ∙ (ap (λ (q : ℕ). placed (placed old 0 (table_rows s p word width i)) q (take width (row_line s p word width i).values)) at
        ∙ (placed_both old 0 (table_rows s p word width i) (take width (row_line s p word width i).values)
        (omega (arith, fits, table_long i, row_long i))
        ∙ ap (placed old 0) (sym (joined_more i _))))))

-- one row more fits
pub table_fits : (width : ℕ) {i count long : ℕ} → i < count → width * count ≤ long → width * i + width ≤ long
table_fits width {i} l h = omega (arith, mul-le-mul_left width l, mul-suc width i, h)

-- a row below the number of rows is found
pub row_read :
    (s : List ℕ) (p : ℕ) (word : List ℕ) (width : ℕ) {next i : ℕ} {f : Option Fields} → Passed s p (has_row s p word width) next i →
    f ≡ line_of s next word width → i < rows_read s p word width → is_some f ≡ true
unfolding rows_read
row_read s p word width {next} {i} a e l =
    ap is_some (e ∙ ap (λ (q : ℕ). line_of s q word width) a.here) ∙ failing_before (length s) (has_row s p word width) i l
