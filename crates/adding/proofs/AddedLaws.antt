-- Laws of the added water: rain reaches every square not closed, an inflow row its own square; a square that no row is for gets no
-- inflow, and where the rows stand apart a row's square gets that row's inflow alone.
-- Assumes nothing.
use mathlib.Core.Path.{◌≡◌, refl, sym, ap, ap₂, ◌∙◌, subst}
use mathlib.Core.Bool.{Bool, true, false, ◌&&◌, ◌||◌, not, or-false}
use mathlib.Core.List.{List}
use Prim.Native.Nat.{ℕ, ◌+◌, ◌-◌, ◌*◌, ◌/◌, ◌%◌, ◌≤◌, ◌<◌}
use native.Mathlib.Nat.{add-zero, zero-add}
use native.Mathlib.Decide.{dec_lt, ℕ_discrete}
use native.Mathlib.Omega.{arith}
use lib.Dec.{leb, eqb}
use lib.ListN.{length, get_or, set, take, drop, replicate, length-set, length-drop}
use Rattle.std.proofs.lemmas.List.{get_or-replicate, length-replicate}
use lib.Seq.{ext_get_or, get_or-set_same, get_or-set_other, get_or-take, get_or-drop, length-take-le}
use borrow.Author.Tests.{eqb-true, eq-eqb, ne_eqb, leb-true, le-leb, lt-leb, lt-ltb, not-true, not-false, ltb-true}
use Rattle.reckon.specs.Tests.{pick, all_below}
use Rattle.reckon.specs.Lists.{filled, sum_below}
use Rattle.reckon.specs.Ranges.{most_depth}
use Rattle.reckon.specs.Tables.{rain_kind, inflow_kind, row_start, ran, row_gives, table_gives, on_square, rain_added, inflow_added, inflow_by}
use Rattle.reckon.specs.Inner.Fits.{Fits}
use Rattle.reckon.proofs.TestLaws.{not_both, pick_true, no_more, and_left, and_right, and_both, or_right, or_of, every_each, all_none, all_at, all_of, all_ext, all_fails, all_beside, all_whole, all_some}
use Rattle.reckon.proofs.ListLaws.{length-filled, filled_in, filled_skipped, sum_ext}
use Rattle.reckon.proofs.SumLaws.{sum_one}
use Rattle.reckon.proofs.TableLaws.{inflow_none, rain_le, fine_fits}
use Rattle.grid.specs.Squares.{squares, square_at}
use Rattle.grid.specs.Marks.{closed, inflow_words, inflow_row, inflow_column, inflow_square_fine, inflow_squares_fine}
use Rattle.grid.specs.declared.squares.Shape.{Shape}
use Rattle.grid.proofs.SquareLaws.{square_in, square_within, row_of, column_of}
use Rattle.rule.specs.declared.rules.Rules.{Rules}
use Rattle.ledger.specs.Runs.{Plan}
use Rattle.ledger.specs.Flows.{shut}
use Rattle.adding.specs.Inner.Added.{amount_at, unpoured, row_square, row_alone, rows_apart, tables, added_fits, RainedAll, PouredRow, PouredAll, Pours, Between, WaterAdded}
use Rattle.checks.specs.Given.{Given}
use Rattle.adding.specs.Added.{added_for}

-- ---- rain

module _ {marks old : List ℕ} {rain : ℕ} where
  -- more rain than a square can hold: nothing is stored, and that is fine where every square is closed
  pub rain_too_deep : {shut-all : Bool} → most_depth < rain → shut-all ≡ all_below (length marks) (closed marks) → RainedAll marks rain old shut-all old
  rain_too_deep h e =
      record {
        fits_is = e ∙ all_ext (length marks) (closed marks) _ (λ i l. sym (or-false (closed marks i)) ∙ ap (λ (b : Bool). closed marks i || b) (sym (lt-leb rain most_depth h)));
        stored = λ t i l c. not_both (all_at (length marks) (closed marks) (sym e ∙ t) i l) c;
        long = refl;
      }

  pub rain_stored :
      {new : List ℕ} → length old ≡ length marks → rain ≤ most_depth → new ≡ replicate (length old) rain → RainedAll marks rain old true new
  rain_stored l h e =
      record {
        fits_is = sym (all_of (length marks) _ (λ i k. or_of (closed marks i) _ (λ z. le-leb rain most_depth h)));
        stored = λ t i k c. ap (λ (x : List ℕ). get_or x i 0) e ∙ get_or-replicate (length old) i rain 0 (omega arith);
        long = ap length e ∙ length-replicate (length old) rain;
      }

-- ---- rows that stand apart

-- a row is for the square that it names
pub row_is_on :
    (inflow : List ℕ) {row column : ℕ} (j : ℕ) → row ≡ inflow_row inflow j → column ≡ inflow_column inflow j → on_square inflow row column j ≡ true
unfolding on_square
row_is_on inflow j a b = and_both _ _ (eq-eqb _ _ (sym a)) (eq-eqb _ _ (sym b))

-- the rows before row j, as the code tests them: one is for its square, or none is
module _ (inflow : List ℕ) (j : ℕ) {row column : ℕ} (r : row ≡ inflow_row inflow j) (c : column ≡ inflow_column inflow j) where
  pub alone_fails : (k : ℕ) → k < j → on_square inflow row column k ≡ true → row_alone inflow j ≡ false
  unfolding row_alone
  alone_fails k h e = all_fails j _ k h (ap not (sym (ap₂ (λ (a b : ℕ). on_square inflow a b k) r c) ∙ e))

  pub alone_whole : {k : ℕ} → all_below k (λ i. not (on_square inflow row column i)) ≡ true → k ≡ j → row_alone inflow j ≡ true
  unfolding row_alone
  alone_whole {k} e h =
      all_whole (λ i. not (on_square inflow (inflow_row inflow j) (inflow_column inflow j) i))
      (sym (ap₂ (λ (a b : ℕ). all_below k (λ i. not (on_square inflow a b i))) r c) ∙ e) h

module _ (inflow : List ℕ) (row column : ℕ) where
  abbrev row_count : ℕ
  row_count = length inflow / inflow_words

  abbrev on : ℕ → Bool
  on = on_square inflow row column

  -- and for no other
  on_row : (k : ℕ) → on k ≡ true → inflow_row inflow k ≡ row
  unfolding on_square
  on_row k e = eqb-true _ _ (and_left _ _ e)

  on_column : (k : ℕ) → on k ≡ true → inflow_column inflow k ≡ column
  unfolding on_square
  on_column k e = eqb-true _ _ (and_right (eqb (inflow_row inflow k) row) _ e)

  module _ (apart : rows_apart inflow ≡ true) where
    -- of two rows that stand apart one at most is for a square
    not_two : (k j : ℕ) → k < j → j < row_count → on k ≡ true → on j ≡ true → ⊥
    unfolding rows_apart row_alone
    not_two k j l h a b =
        not_both {A = ⊥} (row_is_on inflow k (on_row j b ∙ sym (on_row k a)) (on_column j b ∙ sym (on_column k a)))
        (not-true _ (all_at j _ (all_at row_count _ apart j h) k l))

    module _ (j : ℕ) (h : j < row_count) (here : on j ≡ true) where
      only_row : (k : ℕ) → k < row_count → on k ≡ eqb k j
      only_row k l = go (ℕ_discrete k j)
        where
          other : (k ≡ j → ⊥) → Dec (k < j) → on k ≡ true → ⊥
          other d (yes m) t = not_two k j m h t here
          other d (no m) t = not_two j k (omega arith) l here t

          go : Dec (k ≡ j) → on k ≡ eqb k j
          go (yes e) = ap on e ∙ (here ∙ sym (eq-eqb k j e))
          go (no d) = no_more (on k) (other d (dec_lt k j)) ∙ sym (ne_eqb k j d)

      -- so the sum over all rows is what that one gives
      apart_gives : (t : ℕ) → table_gives inflow_kind on inflow t ≡ row_gives inflow (row_start inflow_kind j) t
      unfolding table_gives
      apart_gives t =
          sum_ext row_count _ _ (λ k l. ap (λ (b : Bool). pick b (row_gives inflow (row_start inflow_kind k) t) 0) (only_row k l))
          ∙ (sum_one row_count j (λ k. row_gives inflow (row_start inflow_kind k) t) ∙ pick_true _ _ (lt-ltb j row_count h))

-- ---- the part of a table that is one row

module _ (inflow : List ℕ) (j : ℕ) (h : j < length inflow / inflow_words) where
  abbrev row_part : List ℕ
  row_part = take (inflow_words * j + inflow_words - inflow_words * j) (drop (inflow_words * j) inflow)

  part_words : inflow_words * j + inflow_words - inflow_words * j ≡ inflow_words
  part_words = omega arith

  part_long : length row_part ≡ inflow_words
  part_long =
      length-take-le (inflow_words * j + inflow_words - inflow_words * j) (drop (inflow_words * j) inflow) (omega (arith, part_words, length-drop (inflow_words * j) inflow))
      ∙ part_words

  part_count : length row_part / inflow_words ≡ 1
  part_count = omega (arith, part_long)

  part_at : (i : ℕ) → i < inflow_words → get_or row_part i 0 ≡ get_or inflow (inflow_words * j + i) 0
  part_at i l =
      get_or-take (inflow_words * j + inflow_words - inflow_words * j) (drop (inflow_words * j) inflow) i 0 (omega (arith, part_words, l))
      ∙ get_or-drop (inflow_words * j) inflow i 0

  -- its from, to and amount are the row's
  part_row : (t : ℕ) → row_gives row_part (row_start inflow_kind 0) t ≡ row_gives inflow (row_start inflow_kind j) t
  unfolding row_gives
  part_row t =
      ap₂ (λ (a n : ℕ). a * n) (part_at 4 (omega arith) ∙ ap (λ (k : ℕ). get_or inflow k 0) (omega arith))
      (ap₂ (λ (from to : ℕ). ran from to t) (part_at 2 (omega arith)) (part_at 3 (omega arith) ∙ ap (λ (k : ℕ). get_or inflow k 0) (omega arith)))

  -- it is in range where the whole table is
  pub part_fits : {t : ℕ} → Fits inflow_kind inflow t → Fits inflow_kind row_part t
  part_fits f =
      record {
        few = omega (arith, part_count);
        amounts =
            λ k l.
            let z : k ≡ 0 = omega (arith, part_count, l) in
            let e : get_or row_part (row_start inflow_kind k + 2) 0 ≡ get_or inflow (row_start inflow_kind j + 2) 0
            = ap (λ (i : ℕ). get_or row_part (row_start inflow_kind i + 2) 0) z
            ∙ (part_at 4 (omega arith) ∙ ap (λ (i : ℕ). get_or inflow i 0) (omega arith)) in
            omega (arith, e, f.amounts j h);
        clock = f.clock;
      }

  module _ (row column : ℕ) (here : on_square inflow row column j ≡ true) where
    part_on : on_square row_part row column 0 ≡ on_square inflow row column j
    unfolding on_square
    part_on =
        ap₂ (λ (a b : ℕ). eqb a row && eqb b column) (part_at 0 (omega arith) ∙ ap (λ (k : ℕ). get_or inflow k 0) (omega arith)) (part_at 1 (omega arith))

    -- one row, and it counts
    part_gives : (t : ℕ) → table_gives inflow_kind (on_square row_part row column) row_part t ≡ row_gives inflow (row_start inflow_kind j) t
    unfolding table_gives sum_below
    part_gives t =
        ap (λ (n : ℕ). sum_below n (λ k. pick (on_square row_part row column k) (row_gives row_part (row_start inflow_kind k) t) 0)) part_count
        ∙ (zero-add _ ∙ (pick_true _ _ (part_on ∙ here) ∙ part_row t))

    module _ (apart : rows_apart inflow ≡ true) (side : ℕ) where
      part_by : (t : ℕ) → inflow_by row_part row column side t ≡ inflow_by inflow row column side t
      unfolding inflow_by
      part_by t = ap (λ (x : ℕ). x / (side * side)) (part_gives t ∙ sym (apart_gives inflow row column apart j h here t))

      -- where the rows stand apart, what inflow adds to the square of row j is what that row by itself adds
      pub part_added : (start end : ℕ) → inflow_added row_part row column side start end ≡ inflow_added inflow row column side start end
      part_added start end = ap₂ (λ (a b : ℕ). a - b) (part_by end) (part_by start)

-- ---- a row and its square

module _ (s : Shape) (inflow : List ℕ) (j : ℕ) where
  -- a row that counts for a square is the row of that square
  pub row_for : (i : ℕ) → on_square inflow (i / s.columns) (i % s.columns) j ≡ true → square_at s (inflow_row inflow j) (inflow_column inflow j) ≡ i
  unfolding on_square
  row_for i e =
      let a = eqb-true _ _ (and_left _ _ e) in
      let b = eqb-true _ _ (and_right (eqb (get_or inflow (inflow_words * j) 0) (i / s.columns)) _ e) in
      ap₂ (square_at s) a b ∙ square_in s i

  -- and counts for it
  pub row_counts :
      {i : ℕ} → inflow_column inflow j < s.columns → i ≡ square_at s (inflow_row inflow j) (inflow_column inflow j) →
      on_square inflow (i / s.columns) (i % s.columns) j ≡ true
  unfolding on_square
  row_counts h e =
      and_both _ _
      (eq-eqb _ _ (sym (ap (λ (x : ℕ). x / s.columns) e ∙ row_of s (inflow_row inflow j) h)))
      (eq-eqb _ _ (sym (ap (λ (x : ℕ). x % s.columns) e ∙ column_of s (inflow_row inflow j) h)))

-- each row of a fine table is for a square of the grid that is not closed
pub rows_fine :
    (p : Plan) (inflow : List ℕ) → inflow_squares_fine p.shape p.marks inflow ≡ true → (j : ℕ) → j < length inflow / inflow_words →
    (inflow_row inflow j < p.shape.rows) × (inflow_column inflow j < p.shape.columns)
    × (shut p (square_at p.shape (inflow_row inflow j) (inflow_column inflow j)) ≡ false)
unfolding inflow_squares_fine inflow_square_fine
rows_fine p inflow fine j h =
    let e = every_each _ (all_at (length inflow / inflow_words) _ fine j h) in
    (ltb-true _ _ e.0, ltb-true _ _ e.1.0, not-true _ e.1.1.0)

-- ---- the rows worked so far

module _ (s : Shape) (r : Rules) (inflow : List ℕ) (start end rain : ℕ) where
  abbrev left : ℕ → ℕ → Bool
  left = unpoured s r inflow start end rain

  abbrev amount : ℕ → ℕ
  amount = amount_at s r inflow start end rain

  left_none : (i : ℕ) → left 0 i ≡ true
  unfolding unpoured
  left_none i = all_none _

  left_at : (n i : ℕ) → left n i ≡ true → (k : ℕ) → k < n → on_square inflow (i / s.columns) (i % s.columns) k ≡ false
  unfolding unpoured
  left_at n i e k h = not-true _ (all_at n _ e k h)

  -- row j is for this square
  left_here : (j i : ℕ) → on_square inflow (i / s.columns) (i % s.columns) j ≡ true → left (j + 1) i ≡ false
  unfolding unpoured
  left_here j i e = all_fails (j + 1) _ j (omega arith) (ap not e)

  -- row j is for another
  left_other : (j i : ℕ) → on_square inflow (i / s.columns) (i % s.columns) j ≡ false → left (j + 1) i ≡ left j i
  unfolding unpoured
  left_other j i e = all_beside j (λ k. not (on_square inflow (i / s.columns) (i % s.columns) k)) (ap not e)

  -- nothing is worked yet
  pub pour_none : (old : List ℕ) → old ≡ filled (squares s) (left 0) amount old
  pour_none old =
      ext_get_or 0 old (filled (squares s) (left 0) amount old) (sym (length-filled (squares s) (left 0) amount old))
      (λ i l. sym (filled_skipped (squares s) (left 0) amount old i l (left_none i)))

  -- one row more
  pub pour_more :
      (old : List ℕ) (j : ℕ) {v at : ℕ} → length old ≡ squares s → inflow_row inflow j < s.rows → inflow_column inflow j < s.columns →
      at ≡ row_square s r inflow start end rain j → v ≡ amount at →
      set (filled (squares s) (left j) amount old) at v ≡ filled (squares s) (left (j + 1)) amount old
  pour_more old j {v} {at} e hr hc q w =
      ext_get_or 0 _ _
      (length-set (filled (squares s) (left j) amount old) at v ∙ (length-filled (squares s) (left j) amount old ∙ sym (length-filled (squares s) (left (j + 1)) amount old)))
      (λ i l.
      let h : i < length old = omega (arith, length-set (filled (squares s) (left j) amount old) at v, length-filled (squares s) (left j) amount old, l) in
      go i h (ℕ_discrete i at))
    where
      inside : at < squares s
      inside = subst (λ (x : ℕ). x < squares s) (sym q) (square_within s hr hc)

      same :
          (i : ℕ) → i < length old → (b : Bool) → left j i ≡ b → left (j + 1) i ≡ left j i →
          get_or (filled (squares s) (left j) amount old) i 0 ≡ get_or (filled (squares s) (left (j + 1)) amount old) i 0
      same i h true b z = filled_skipped (squares s) (left j) amount old i h b ∙ sym (filled_skipped (squares s) (left (j + 1)) amount old i h (z ∙ b))
      same i h false b z =
          let l : i < squares s = omega arith in
          filled_in (squares s) (left j) amount old i h l b ∙ sym (filled_in (squares s) (left (j + 1)) amount old i h l (z ∙ b))

      other : (i : ℕ) → (i ≡ at → ⊥) → on_square inflow (i / s.columns) (i % s.columns) j ≡ false
      other i d = no_more (on_square inflow (i / s.columns) (i % s.columns) j) (λ t. d (sym (q ∙ row_for s inflow j i t)))

      go : (i : ℕ) → i < length old → Dec (i ≡ at) → get_or (set (filled (squares s) (left j) amount old) at v) i 0 ≡ get_or (filled (squares s) (left (j + 1)) amount old) i 0
      go i h (yes z) =
          rw z
          (get_or-set_same (filled (squares s) (left j) amount old) at v 0 (omega (arith, length-filled (squares s) (left j) amount old))
          ∙ (w ∙ sym (filled_in (squares s) (left (j + 1)) amount old at (omega arith) inside (left_here j at (row_counts s inflow j hc q)))))
      go i h (no d) = get_or-set_other (filled (squares s) (left j) amount old) at i v 0 d ∙ same i h (left j i) refl (left_other j i (other i d))

  pub poured_turn :
      (old : List ℕ) {room new : List ℕ} (j : ℕ) {done : Bool} → length old ≡ squares s → inflow_row inflow j < s.rows → inflow_column inflow j < s.columns →
      room ≡ filled (squares s) (left j) amount old → PouredRow s r inflow start end rain j room done new → done ≡ true →
      new ≡ filled (squares s) (left (j + 1)) amount old
  poured_turn old j e hr hc q d t =
      d.stored t
      ∙ (ap (λ (l : List ℕ). set l (row_square s r inflow start end rain j) (amount (row_square s r inflow start end rain j))) q
      ∙ pour_more old j e hr hc refl refl)

  -- the amount as the code finds it
  pub amount_made :
      {row column inflowed : ℕ} (j : ℕ) → inflow_column inflow j < s.columns → row ≡ inflow_row inflow j → column ≡ inflow_column inflow j →
      inflowed ≡ inflow_added inflow row column r.square_side start end → rain + inflowed ≡ amount (row_square s r inflow start end rain j)
  unfolding amount_at
  amount_made j hc a b e = rw (e, a, b, row_of s (inflow_row inflow j) hc, column_of s (inflow_row inflow j) hc)

  -- a square that no row is for gets the rain alone
  pub dry_of_rows : (i : ℕ) → left (length inflow / inflow_words) i ≡ true → amount i ≡ rain
  unfolding amount_at
  dry_of_rows i e =
      let n : (t : ℕ) → inflow_by inflow (i / s.columns) (i % s.columns) r.square_side t ≡ 0
      = λ t. inflow_none inflow (i / s.columns) (i % s.columns) r.square_side t (left_at (length inflow / inflow_words) i e) in
      rw (n end, n start) (add-zero rain)

-- ---- rain and inflow together

module _ (p : Plan) (r : Rules) (rain inflow : List ℕ) (start end : ℕ) (b : Between p (tables r rain inflow) start end) where
  abbrev g : Given
  g = tables r rain inflow

  abbrev fallen : ℕ
  fallen = rain_added rain start end

  abbrev s : Shape
  s = p.shape

  abbrev rows : ℕ
  rows = length inflow / inflow_words

  abbrev added : ℕ → ℕ
  added = added_for p g start end

  is_amount : (i : ℕ) → amount_at s r inflow start end fallen i ≡ added i
  unfolding amount_at added_for
  is_amount i = refl

  abbrev row_fine_lem :
      (j : ℕ) → j < rows →
      (inflow_row inflow j < s.rows) × (inflow_column inflow j < s.columns) × (shut p (square_at s (inflow_row inflow j) (inflow_column inflow j)) ≡ false)
  row_fine_lem = rows_fine p inflow b.waters.inflow_squares

  rain_fits : Fits rain_kind rain end
  rain_fits = fine_fits rain_kind rain end b.waters.rain b.end_to

  pub rain_asked : Fits rain_kind rain end × (start ≤ end)
  rain_asked = (rain_fits, b.ordered)

  pub pours : {fell : ℕ} → fell ≡ fallen → Pours s r inflow start end fell
  pours e =
      record {
        fine = b.waters.fine;
        side_from = b.waters.rules.side_from;
        side_to = b.waters.rules.side_to;
        table = fine_fits inflow_kind inflow end b.waters.inflow b.end_to;
        ordered = b.ordered;
        rain_to = omega (arith, rain_le rain rain_fits);
        row_in = λ j h. (row_fine_lem j h).0;
        column_in = λ j h. (row_fine_lem j h).1;
      }

  -- what is added to a square not closed fits where all does
  fits-at : added_fits p g start end ≡ true → (i : ℕ) → i < squares s → shut p i ≡ false → added i ≤ most_depth
  unfolding added_fits
  fits-at e i h c = leb-true _ _ (or_right (shut p i) _ (all_at (squares s) _ e i h) c)

  rain_under : (i : ℕ) → fallen ≤ added i
  unfolding added_for
  rain_under i = omega arith

  -- too much rain is too much for a square
  pub rain_too_much :
      {fell : ℕ} {old new : List ℕ} {t : Bool} → fell ≡ fallen → t ≡ false → RainedAll p.marks fell old t new → WaterAdded p g start end old false new
  rain_too_much {fell} e f a =
      let n : added_fits p g start end ≡ true → ⊥ = λ t. not_both {A = ⊥} (fits t) (sym a.fits_is ∙ f) in
      record { fits_is = sym (no_more _ n); stored = λ t. not_both t refl; long = a.long }
    where
      fits : added_fits p g start end ≡ true → all_below (length p.marks) (λ i. closed p.marks i || leb fell most_depth) ≡ true
      fits t =
          all_of _ _
          (λ i l. or_of (closed p.marks i) _
          (λ c. le-leb fell most_depth (omega (arith, fits-at t i (omega (arith, b.waters.marks_long)) c, rain_under i))))

  module _ {fell : ℕ} {old mid new : List ℕ} {fits done : Bool} (e : fell ≡ fallen) (o : length old ≡ squares s) (all_fit : fits ≡ true)
      (a : RainedAll p.marks fell old fits mid) (q : PouredAll s r inflow start end fell mid done new) where
    rain_ok : (i : ℕ) → i < squares s → shut p i ≡ false → fell ≤ most_depth
    rain_ok i h c =
        leb-true _ _ (or_right (closed p.marks i) _ (all_at (length p.marks) _ (sym a.fits_is ∙ all_fit) i (omega (arith, b.waters.marks_long))) c)

    amount_is : (i : ℕ) → amount_at s r inflow start end fell i ≡ added i
    amount_is i = ap (λ (x : ℕ). amount_at s r inflow start end x i) e ∙ is_amount i

    -- a square is reached by a row, or by none
    reached_by :
        (i : ℕ) → unpoured s r inflow start end fell rows i ≡ false → (j : ℕ) × ((j < rows) × (square_at s (inflow_row inflow j) (inflow_column inflow j) ≡ i))
    unfolding unpoured
    reached_by i c =
        let f : ℕ → Bool = λ k. not (on_square inflow (i / s.columns) (i % s.columns) k) in
        let h = all_some rows f c in
        (h.0, (h.1.0, row_for s inflow h.0 i (not-false _ h.1.1)))

    row_ok : done ≡ true → (j : ℕ) → j < rows → added (square_at s (inflow_row inflow j) (inflow_column inflow j)) ≤ most_depth
    row_ok t j h =
        let k = leb-true _ _ (all_at rows _ (sym q.fits_is ∙ t) j h) in
        subst (λ (x : ℕ). x ≤ most_depth) (amount_is (row_square s r inflow start end fell j)) k

    all_ok : done ≡ true → (i : ℕ) → i < squares s → shut p i ≡ false → added i ≤ most_depth
    all_ok t i h c = go (unpoured s r inflow start end fell rows i) refl
      where
        go : (u : Bool) → unpoured s r inflow start end fell rows i ≡ u → added i ≤ most_depth
        go true u = subst (λ (x : ℕ). x ≤ most_depth) (sym (dry_of_rows s r inflow start end fell i u) ∙ amount_is i) (rain_ok i h c)
        go false u =
            let w = reached_by i u in
            subst (λ (x : ℕ). added x ≤ most_depth) w.1.1 (row_ok t w.0 w.1.0)

    fits_both : (d : Bool) → done ≡ d → d ≡ added_fits p g start end
    unfolding added_fits
    fits_both true t = sym (all_of (squares s) _ (λ i h. or_of (shut p i) _ (λ c. le-leb _ _ (all_ok t i h c))))
    fits_both false t =
        sym (no_more _ (λ u.
        not_both {A = ⊥}
        (all_of rows _
        (λ j h.
        let f = row_fine_lem j h in
        le-leb _ _
        (subst (λ (x : ℕ). x ≤ most_depth) (sym (amount_is (row_square s r inflow start end fell j)))
        (fits-at u (row_square s r inflow start end fell j) (square_within s f.0 f.1) f.2))))
        (sym q.fits_is ∙ t)))

    stands : done ≡ true → (i : ℕ) → i < squares s → shut p i ≡ false → get_or new i 0 ≡ added i
    stands t i h c = ap (λ (l : List ℕ). get_or l i 0) (q.stored t) ∙ (go (unpoured s r inflow start end fell rows i) refl ∙ amount_is i)
      where
        inside : i < length mid
        inside = omega (arith, a.long)

        go :
            (u : Bool) → unpoured s r inflow start end fell rows i ≡ u →
            get_or (filled (squares s) (unpoured s r inflow start end fell rows) (amount_at s r inflow start end fell) mid) i 0
            ≡ amount_at s r inflow start end fell i
        go true u =
            filled_skipped (squares s) (unpoured s r inflow start end fell rows) (amount_at s r inflow start end fell) mid i inside u
            ∙ (a.stored all_fit i (omega (arith, b.waters.marks_long)) c ∙ sym (dry_of_rows s r inflow start end fell i u))
        go false u = filled_in (squares s) (unpoured s r inflow start end fell rows) (amount_at s r inflow start end fell) mid i inside h u

    pub wetted : WaterAdded p g start end old done new
    wetted = record { fits_is = fits_both done refl; stored = stands; long = q.long ∙ a.long }

-- ---- all that is given

module _ (p : Plan) (g : Given) where
  -- what is added goes by rules and tables alone
  pub same_fits : (start end : ℕ) → added_fits p (tables g.lie.rules g.rain g.inflow) start end ≡ added_fits p g start end
  unfolding added_fits added_for
  same_fits start end = refl

  same_added : (start end i : ℕ) → added_for p (tables g.lie.rules g.rain g.inflow) start end i ≡ added_for p g start end i
  unfolding added_for
  same_added start end i = refl

  -- what stands in the room is what a step of so many ms adds
  pub room_made :
      (start ms : ℕ) {end : ℕ} {old room : List ℕ} {fits : Bool} → end ≡ start + ms →
      WaterAdded p (tables g.lie.rules g.rain g.inflow) start end old fits room → fits ≡ true →
      (i : ℕ) → i < squares p.shape → shut p i ≡ false → get_or room i 0 ≡ added_for p g start (start + ms) i
  room_made start ms {end} n t f i h c = t.stored f i h c ∙ (same_added start end i ∙ ap (λ (x : ℕ). added_for p g start x i) n)
