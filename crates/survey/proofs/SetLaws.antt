-- Laws of a set as it is read: the first file that cannot be read, closed squares compared one by one, and rooms filled square by square.
-- Assumes nothing.
use Rattle.sheet.proofs.KindLaws.{run_side}
use Rattle.std.proofs.Common.{Option}
use mathlib.Core.Path.{◌≡◌, refl, sym, ap, ap₂, subst, ◌∙◌}
use mathlib.Core.Bool.{Bool, true, false}
use mathlib.Core.List.{List, [], ◌∷◌}
use Prim.Native.Nat.{ℕ, zero, suc, ◌+◌, ◌≤◌, ◌<◌}
use native.Mathlib.Nat.{not-suc-le-zero}
use native.Mathlib.Numerals.{add-one}
use native.Mathlib.Omega.{arith}
use lib.ListN.{length, set}
use borrow.Author.Count.{below_more}
use borrow.Author.Tests.{eq-eqb, ne_eqb}
use Rattle.reckon.specs.Tests.{all_below}
use Rattle.reckon.specs.Lists.{filled}
use Rattle.reckon.proofs.TestLaws.{every_fails, all_of, all_fails}
use Rattle.reckon.proofs.ListLaws.{filled_none, filled_store}
use Rattle.grid.specs.Squares.{squares}
use Rattle.grid.specs.declared.squares.Shape.{Shape}
use Rattle.text.specs.Reading.{most_number, next_line, line_from}
use Rattle.text.proofs.EndLaws.{next-within, start-within}
use Rattle.text.proofs.LineLaws.{line_next}
use Rattle.checks.proofs.CheckLaws.{every_decided}
use Rattle.raster.specs.Raster.{next_of, head_in, is_shut, last_in_row, entry_at, place_from, entry_from}
use Rattle.raster.specs.declared.amounts.Scale.{Scale}
use Rattle.raster.specs.declared.reading.Entry.{Entry}
use Rattle.raster.specs.declared.reading.Head.{Head}
use Rattle.sheet.specs.Sheet.{line_one, shape_of, heading_of}
use Rattle.sheet.specs.declared.reading.Heading.{Heading}
use Rattle.survey.specs.Sets.{Set, note_mark, first_of, same_closed, agrees}
use Rattle.survey.specs.Inner.Notes.{mark_at, mark_from, NoteIs, closed_same, closed_agree, noted}
use Rattle.survey.specs.declared.notes.Note.{Note}
use Rattle.survey.proofs.SayableLaws.{first_small}

-- ---- the first number that is not 0

pub first_here : {a b : ℕ} (ns : List ℕ) → a ≡ b → (a ≡ 0 → ⊥) → a ≡ first_of (b ∷ ns)
unfolding first_of
first_here {b = zero} ns e d = absurd (d e)
first_here {b = suc n} ns e d = e

pub first_later : {a b r : ℕ} (ns : List ℕ) → a ≡ b → a ≡ 0 → r ≡ first_of ns → r ≡ first_of (b ∷ ns)
unfolding first_of
first_later {b = zero} ns e z h = h
first_later {b = suc n} ns e z h = absurd (let n : suc n ≡ 0 = sym e ∙ z in omega (arith, n))

pub first-last : {a b : ℕ} → a ≡ b → a ≡ first_of (b ∷ [])
unfolding first_of
first-last {b = zero} e = e
first-last {b = suc n} e = e

-- ---- a note's lines and a grid's squares, passed one after the other

-- the line of square i is at `line`
pub record AtLine (note : List ℕ) (q line i : ℕ) : Type 0 where
  pub here : line ≡ line_from note q i
  pub inside : line ≤ length note

module _ (note : List ℕ) (q : ℕ) where
  pub line_first : q ≤ length note → AtLine note q q 0
  unfolding line_from
  line_first h = record { here = refl; inside = h }

  module _ {line i : ℕ} (a : AtLine note q line i) where
    pub line_more : {next : ℕ} → next ≡ next_line note line → AtLine note q next (i + 1)
    line_more e =
        record {
          here = e ∙ (ap (next_line note) a.here ∙ sym (line_next note q i));
          inside = subst (λ (k : ℕ). k ≤ length note) (sym e) (next-within note line a.inside);
        }

    pub line_mark : (columns : ℕ) {mark : ℕ} → mark ≡ mark_at note line columns i → mark ≡ mark_from note q columns i
    line_mark columns e = e ∙ ap (λ (p : ℕ). mark_at note p columns i) a.here

module _ (k : Scale) (grid : List ℕ) (p columns : ℕ) where
  pub place_first : p ≡ place_from k grid p columns 0
  unfolding place_from
  place_first = refl

  module _ (i : ℕ) {next : ℕ} (a : next ≡ place_from k grid p columns i) {e : Option Entry} (r : e ≡ entry_at k grid next (last_in_row columns i)) where
    pub entry_is : e ≡ entry_from k grid p columns i
    entry_is = r ∙ ap (λ (x : ℕ). entry_at k grid x (last_in_row columns i)) a

    pub place_more : next_of next e ≡ place_from k grid p columns (i + 1)
    unfolding place_from
    place_more = ap₂ next_of a entry_is ∙ sym (ap (place_from k grid p columns) (add-one i))

-- ---- closed squares

module _ (note : List ℕ) (q : ℕ) (k : Scale) (grid : List ℕ) (p columns : ℕ) where
  abbrev pub same : ℕ → Bool
  same i = closed_same (is_shut (entry_from k grid p columns i)) (mark_from note q columns i)

  -- those of the first i squares agree
  pub record Agreeing (line next i : ℕ) : Type 0 where
    pub lines : AtLine note q line i
    pub place : next ≡ place_from k grid p columns i
    pub so_far : (j : ℕ) → j < i → same j ≡ true

  pub agreeing_none : q ≤ length note → Agreeing q p 0
  agreeing_none h =
      record { lines = line_first note q h; place = place_first k grid p columns; so_far = λ j l. absurd (not-suc-le-zero l) }

  module _ {line next i mark : ℕ} {e : Option Entry} {r : Bool} (a : Agreeing line next i) (f : e ≡ entry_at k grid next (last_in_row columns i))
      (m : mark ≡ mark_at note line columns i) (t : r ≡ closed_same (is_shut e) mark) where
    pub same_here : r ≡ same i
    same_here =
        t
        ∙ ap₂ closed_same (ap is_shut (entry_is k grid p columns i a.place f)) (line_mark note q a.lines columns m)

    pub agreeing_more : r ≡ true → {after : ℕ} → after ≡ next_line note line → Agreeing after (next_of next e) (i + 1)
    agreeing_more h l =
        record {
          lines = line_more note q a.lines l;
          place = place_more k grid p columns i a.place f;
          so_far = below_more _ _ a.so_far (sym same_here ∙ h);
        }

module _ (note : List ℕ) (q : ℕ) (k : Scale) (grid : List ℕ) (p : ℕ) (shape : Shape) where
  pub closed_differ : {i : ℕ} → i < squares shape → same note q k grid p shape.columns i ≡ false → false ≡ closed_agree note q k grid p shape
  unfolding closed_agree
  closed_differ {i} l e = sym (all_fails (squares shape) (same note q k grid p shape.columns) i l e)

  pub closed-agree : {i : ℕ} → squares shape ≤ i → ((j : ℕ) → j < i → same note q k grid p shape.columns j ≡ true) →
      true ≡ closed_agree note q k grid p shape
  unfolding closed_agree
  closed-agree h f = sym (all_of (squares shape) (same note q k grid p shape.columns) (λ j l. f j (omega arith)))

-- ---- a grid and a note

module _ {note : List ℕ} {read : Note} (n : NoteIs note read) where
  pub shape_is : read.heading.shape ≡ shape_of note
  unfolding heading_of
  shape_is = ap (λ (h : Heading). h.shape) n.heading_is

  pub side_is : read.heading.rules.square_side ≡ (line_one note).side
  unfolding heading_of
  side_is = ap (λ (h : Heading). h.rules.square_side) n.heading_is ∙ run_side note (line_from note 0 1) (line_one note).side

  pub cells_inside : read.cells_at ≤ length note
  cells_inside = subst (λ (p : ℕ). p ≤ length note) (sym n.cells_at_is) (start-within note 2)

  pub shape_small : (read.heading.shape.rows ≤ most_number) × (read.heading.shape.columns ≤ most_number)
  shape_small =
      let small = first_small note n.one_found in
      subst (λ (s : Shape). (s.rows ≤ most_number) × (s.columns ≤ most_number)) (sym shape_is) (small.0, small.1.0)

  module _ (k : Scale) (grid : List ℕ) {head : Head} (e : head ≡ head_in grid) where
    pub rows_differ : (head.shape.rows ≡ read.heading.shape.rows → ⊥) → false ≡ agrees (noted note) k grid
    unfolding agrees
    rows_differ d =
        sym (every_fails _ 0 (ne_eqb _ _ (λ z. d (ap (λ (h : Head). h.shape.rows) e ∙ (z ∙ sym (ap (λ (s : Shape). s.rows) shape_is))))))

    pub columns_differ : (head.shape.columns ≡ read.heading.shape.columns → ⊥) → false ≡ agrees (noted note) k grid
    unfolding agrees
    columns_differ d =
        sym (every_fails _ 1 (ne_eqb _ _ (λ z. d (ap (λ (h : Head). h.shape.columns) e ∙ (z ∙ sym (ap (λ (s : Shape). s.columns) shape_is))))))

    pub sides_differ : (head.side ≡ read.heading.rules.square_side → ⊥) → false ≡ agrees (noted note) k grid
    unfolding agrees
    sides_differ d = sym (every_fails _ 2 (ne_eqb _ _ (λ z. d (ap (λ (h : Head). h.side) e ∙ (z ∙ sym side_is)))))

    module _ (rows : head.shape.rows ≡ read.heading.shape.rows) (columns : head.shape.columns ≡ read.heading.shape.columns)
        (side : head.side ≡ read.heading.rules.square_side) where
      rows_are : (head_in grid).shape.rows ≡ (shape_of note).rows
      rows_are = sym (ap (λ (h : Head). h.shape.rows) e) ∙ (rows ∙ ap (λ (s : Shape). s.rows) shape_is)

      columns_are : (head_in grid).shape.columns ≡ (shape_of note).columns
      columns_are = sym (ap (λ (h : Head). h.shape.columns) e) ∙ (columns ∙ ap (λ (s : Shape). s.columns) shape_is)

      side_same : (head_in grid).side ≡ (line_one note).side
      side_same = sym (ap (λ (h : Head). h.side) e) ∙ (side ∙ side_is)

      closed_is :
          closed_agree note read.cells_at k grid head.next read.heading.shape
          ≡ all_below (squares (shape_of note)) (same_closed (noted note) k grid)
      unfolding closed_agree closed_same same_closed note_mark mark_at
      closed_is =
          (λ j. closed_agree note (n.cells_at_is j) k grid (e j).next (shape_is j))
          ∙ (λ j.
          all_below (squares (shape_of note))
          (λ i. closed_same (is_shut (entry_from k grid (head_in grid).next (sym columns_are j) i)) (note_mark note i)))

      pub agrees_by : {r : Bool} → r ≡ closed_agree note read.cells_at k grid head.next read.heading.shape → r ≡ agrees (noted note) k grid
      unfolding agrees
      agrees_by {r} h =
          let last : all_below (squares (shape_of note)) (same_closed (noted note) k grid) ≡ r = sym (h ∙ closed_is) in
          every_decided _ 3 r last (λ t. (eq-eqb _ _ rows_are, (eq-eqb _ _ columns_are, (eq-eqb _ _ side_same, (last ∙ t, tt)))))

-- of a set only the note is looked at
pub agrees_in : (t : Set) (k : Scale) (grid : List ℕ) {r : Bool} → r ≡ agrees (noted t.note) k grid → r ≡ agrees t k grid
unfolding agrees same_closed
agrees_in t k grid e = e

-- ---- rooms filled square by square

-- the first i places hold the rule's numbers
pub record Filling (f : ℕ → ℕ) (old : List ℕ) (i : ℕ) (new : List ℕ) : Type 0 where
  pub same_as : new ≡ filled i (λ j. false) f old

module _ (f : ℕ → ℕ) (old : List ℕ) where
  pub filling_none : Filling f old 0 old
  filling_none = record { same_as = filled_none (λ j. false) f old }

  module _ {i : ℕ} {new : List ℕ} (a : Filling f old i new) where
    pub filling_more : i < length old → {v : ℕ} → v ≡ f i → Filling f old (i + 1) (set new i v)
    filling_more h {v} e = record { same_as = ap (λ (l : List ℕ). set l i v) a.same_as ∙ filled_store (λ j. false) f old i h refl e }

    pub filling_all : {n : ℕ} → i ≡ n → new ≡ filled n (λ j. false) f old
    filling_all e = a.same_as ∙ ap (λ (m : ℕ). filled m (λ j. false) f old) e
