-- Where every `?` is reached, the sheet that is written is that of what the reader found, with the beds given. One byte stands for one byte in the
-- text that goes to the reader, and neither is a newline, so that its lines start where the sheet's own do.
-- Assumes nothing.
use mathlib.Core.Path.{◌≡◌, refl, sym, ap, ap₂, subst, ◌∙◌}
use mathlib.Core.Bool.{true, false}
use mathlib.Core.List.{List, [], ◌∷◌, ◌++◌, append_assoc}
use Prim.Native.Nat.{ℕ, zero, suc, ◌+◌, ◌-◌, ◌/◌, ◌%◌, ◌≤◌, ◌<◌}
use native.Mathlib.Omega.{arith}
use lib.Dec.{eqb}
use lib.ListN.{length, get_or, take, drop, length-append}
use lib.Seq.{length-take-le, drop-append_seam, take-append_seam, get_or-take, get_or-drop}
use Rattle.reckon.specs.Lists.{joined}
use Rattle.reckon.specs.Tables.{rain_kind, inflow_kind}
use Rattle.reckon.proofs.TestLaws.{pick_true, pick_false, no_more}
use Rattle.reckon.proofs.ListLaws.{joined_ext}
use Rattle.grid.specs.Squares.{squares}
use Rattle.grid.specs.Marks.{closed}
use Rattle.grid.specs.declared.squares.Shape.{Shape}
use Rattle.text.specs.Reading.{tab, newline, is_digit, digits_of, value_from, line_length, next_line, line_from}
use Rattle.text.specs.Writing.{decimal, field_text, fields_text, rest_text}
use Rattle.text.specs.Inner.Standing.{StandsAt}
use Rattle.text.proofs.ReadingLaws.{by_test}
use Rattle.text.proofs.WritingLaws.{decimal_small}
use Rattle.text.proofs.RoundTrip.{digits_written, digits_worth, tab-alone}
use Rattle.text.proofs.StandLaws.{stands_both, stands_first, stands_second, front_stands, back_stands, byte_stands}
use Rattle.text.proofs.JoinedLaws.{joined_stands}
use Rattle.text.proofs.LineLaws.{line_add}
use Rattle.text.proofs.EndLaws.{start-within}
use Rattle.sheet.specs.Lines.{rain_word, inflow_word, line_head}
use Rattle.sheet.specs.Sheet.{Rooms, shape_of, cells_at, said, sheet_of}
use Rattle.sheet.specs.Written.{grid_written, run_written, ground_at, cell_written, row_written, lines_written, sheet_written}
use Rattle.sheet.specs.declared.reading.Heading.{Heading}
use Rattle.sheet.specs.declared.reading.Sheet.TheVariants.{Read}
use Rattle.sheet.proofs.WrittenLaws.{SheetStands, said_stands, stands_written}
use Rattle.programs.specs.Program.{program_rooms}
use Rattle.holes.specs.Rounds.{no_bed, after_rounds, filled_beds}
use Rattle.holes.specs.Holes.{question, between, up_to_bed, bed_at, line_with, looked_at, start_of, is_hole, with_beds, plugged}
use Rattle.holes.specs.Repaired.{bed_text, marks_read, beds_read, seen_beds, beds_after, sheet_after, other_beds}
use Rattle.holes.proofs.HoleLaws.{Spot, hole_spot, head_long, line_same, line_kept, between_long, start_next, start_zero, start-in, next_forth, all_same}
use Rattle.holes.proofs.PutLaws.{known_text}
use Rattle.holes.proofs.FillLaws.{known_later}
use Rattle.holes.proofs.RepairLaws.{seen_at, seen_low}
use Rattle.holes.proofs.ReaderLaws.{heading-shape, all_looked, beds_low}

-- ---- texts with newlines in the same places

abbrev Same : List ℕ → List ℕ → Type 0
Same [] [] = Unit {0}
Same [] (b ∷ m) = ⊥
Same (a ∷ l) [] = ⊥
Same (a ∷ l) (b ∷ m) = (eqb a newline ≡ eqb b newline) × Same l m

same_refl : (l : List ℕ) → Same l l
same_refl [] = tt
same_refl (a ∷ l) = (refl, same_refl l)

same_both : (a b c d : List ℕ) → Same a b → Same c d → Same (a ++ c) (b ++ d)
same_both [] [] c d h g = g
same_both [] (y ∷ b) c d h g = absurd h
same_both (x ∷ a) [] c d h g = absurd h
same_both (x ∷ a) (y ∷ b) c d h g = (h.0, same_both a b c d h.1 g)

same_drop : (p : ℕ) (l m : List ℕ) → Same l m → Same (drop p l) (drop p m)
same_drop zero l m h = h
same_drop (suc p) [] [] h = tt
same_drop (suc p) [] (b ∷ m) h = absurd h
same_drop (suc p) (a ∷ l) [] h = absurd h
same_drop (suc p) (a ∷ l) (b ∷ m) h = same_drop p l m h.1

same_long : (l m : List ℕ) → Same l m → length l ≡ length m
same_long [] [] h = refl
same_long [] (b ∷ m) h = absurd h
same_long (a ∷ l) [] h = absurd h
same_long (a ∷ l) (b ∷ m) h = ap suc (same_long l m h.1)

same_line : (l m : List ℕ) → Same l m → line_length l ≡ line_length m
unfolding line_length
same_line [] [] h = refl
same_line [] (b ∷ m) h = absurd h
same_line (a ∷ l) [] h = absurd h
same_line (a ∷ l) (b ∷ m) h =
    by_test (eqb b newline) (λ e. pick_true _ _ (h.0 ∙ e) ∙ sym (pick_true _ _ e))
    (λ e. pick_false _ _ (h.0 ∙ e) ∙ (ap suc (same_line l m h.1) ∙ sym (pick_false _ _ e)))

same_joined : (n : ℕ) (f g : ℕ → List ℕ) → ((i : ℕ) → Same (f i) (g i)) → Same (joined n f) (joined n g)
unfolding joined
same_joined zero f g h = tt
same_joined (suc n) f g h = same_both (joined n f) (joined n g) (f n) (g n) (same_joined n f g h) (h n)

-- ---- two texts that stand in one place

cancel : (a t u : List ℕ) → a ++ t ≡ a ++ u → t ≡ u
cancel a t u e = sym (drop-append_seam a t) ∙ (ap (drop (length a)) e ∙ drop-append_seam a u)

first_same : (a b t u : List ℕ) → length a ≡ length b → a ++ t ≡ b ++ u → a ≡ b
first_same a b t u l e =
    sym (take-append_seam a t) ∙ (ap (take (length a)) e ∙ (ap (λ (k : ℕ). take k (b ++ u)) l ∙ take-append_seam b u))

stands_same : {s : List ℕ} {p q : ℕ} (t u : List ℕ) → StandsAt s p t q → StandsAt s p u q → t ≡ u
stands_same {s} {p} {q} t u a b =
    first_same t u (drop q s) (drop q s) (omega (arith, a.after, b.after)) (sym a.text ∙ b.text)

-- ---- the text that goes to the reader

module _ (s : List ℕ) where
  abbrev L : (ℕ → List ℕ) → ℕ → List ℕ
  L f i = line_with s (start_of s i) (i / (shape_of s).columns) (i % (shape_of s).columns) (f i)

  abbrev zeros : ℕ → List ℕ
  zeros i = 48 ∷ []

  abbrev queries : ℕ → List ℕ
  queries i = question ∷ []

  line_like : (i : ℕ) → Same (L zeros i) (L queries i)
  unfolding line_with
  line_like i =
      let p : ℕ = start_of s i in
      let b : ℕ = bed_at s p (i / (shape_of s).columns) (i % (shape_of s).columns) in
      by_test (is_hole s i)
      (λ e.
      subst (λ (t : List ℕ). Same t (L queries i)) (sym (pick_true _ _ e))
      (subst (λ (t : List ℕ). Same (between s p b ++ ((48 ∷ []) ++ between s (b + 1) (next_line s p))) t) (sym (pick_true _ _ e))
      (same_both (between s p b) (between s p b) ((48 ∷ []) ++ between s (b + 1) (next_line s p)) ((question ∷ []) ++ between s (b + 1) (next_line s p))
      (same_refl (between s p b)) (refl, same_refl (between s (b + 1) (next_line s p))))))
      (λ e.
      subst (λ (t : List ℕ). Same t (L queries i)) (sym (pick_false _ _ e))
      (subst (λ (t : List ℕ). Same (between s p (next_line s p)) t) (sym (pick_false _ _ e)) (same_refl (between s p (next_line s p)))))

  plug_like : Same (plugged s) s
  unfolding with_beds
  plug_like =
      subst (Same (plugged s)) (all_same s)
      (same_both (take (cells_at s) s) (take (cells_at s) s) _ _ (same_refl (take (cells_at s) s))
      (same_both (joined (looked_at s) (L zeros)) (joined (looked_at s) (L queries)) _ _ (same_joined (looked_at s) (L zeros) (L queries) line_like)
      (same_refl (drop (start_of s (looked_at s)) s))))

  from_same : (p k : ℕ) → line_from (plugged s) p k ≡ line_from s p k
  unfolding line_from next_line
  from_same p zero = refl
  from_same p (suc k) =
      ap (next_line (plugged s)) (from_same p k)
      ∙ ap (λ (n : ℕ). line_from s p k + n) (same_line (drop (line_from s p k) (plugged s)) (drop (line_from s p k) s) (same_drop (line_from s p k) (plugged s) s plug_like))

  line_starts : (i : ℕ) → line_from (plugged s) 0 (2 + i) ≡ start_of s i
  line_starts i = from_same 0 (2 + i) ∙ sym (line_add s 0 2 i)

  -- each of its lines is as long as the sheet's own
  line_long : (i : ℕ) → start_of s i + length (L zeros i) ≡ start_of s (suc i)
  line_long i =
      let p : ℕ = start_of s i in
      omega (
        arith,
        same_long (L zeros i) (L queries i) (line_like i),
        ap length (line_same s p (i / (shape_of s).columns) (i % (shape_of s).columns)),
        between_long s p (next_line s p) (next_forth s p) (subst (λ (n : ℕ). n ≤ length s) (start_next s i) (start-in s (suc i))),
        next_forth s p,
        start_next s i,
      )

  lines_long : (i : ℕ) → cells_at s + length (joined i (L zeros)) ≡ start_of s i
  unfolding joined
  lines_long zero = omega (arith, start_zero s)
  lines_long (suc i) = omega (arith, lines_long i, length-append (joined i (L zeros)) (L zeros i), line_long i)

  abbrev A : List ℕ
  A = take (cells_at s) s

  abbrev D : List ℕ
  D = drop (start_of s (looked_at s)) s

  head_is : length A ≡ cells_at s
  head_is = length-take-le (cells_at s) s (start-within s 2)

  plug_parts : plugged s ≡ A ++ (joined (looked_at s) (L zeros) ++ D)
  unfolding with_beds
  plug_parts = refl

  plug_line : (i : ℕ) → i < looked_at s → StandsAt (plugged s) (start_of s i) (L zeros i) (start_of s (suc i))
  plug_line i l =
      let J : List ℕ = joined (looked_at s) (L zeros) in
      let a = subst (λ (t : List ℕ). StandsAt t (length A) (J ++ D) (length t)) (sym plug_parts) (back_stands A (J ++ D)) in
      let b = joined_stands (looked_at s) (L zeros) (stands_first J D a) i l in
      let from : length A + length (joined i (L zeros)) ≡ start_of s i = omega (arith, head_is, lines_long i) in
      let to : length A + length (joined (suc i) (L zeros)) ≡ start_of s (suc i) = omega (arith, head_is, lines_long (suc i)) in
      subst (λ (q : ℕ). StandsAt (plugged s) (start_of s i) (L zeros i) q) to (subst (λ (q : ℕ). StandsAt (plugged s) q (L zeros i) (length A + length (joined (suc i) (L zeros)))) from b)

  plug_head : StandsAt (plugged s) 0 A (cells_at s)
  plug_head =
      subst (λ (q : ℕ). StandsAt (plugged s) 0 A q) head_is
      (subst (λ (t : List ℕ). StandsAt t 0 A (length A)) (sym plug_parts) (front_stands A (joined (looked_at s) (L zeros) ++ D)))

-- ---- a number, where no digit follows

number_apart : (n m : ℕ) (t u : List ℕ) → is_digit (get_or t 0 0) ≡ false → is_digit (get_or u 0 0) ≡ false → decimal n ++ t ≡ decimal m ++ u → t ≡ u
number_apart n m t u e f q =
    let same : n ≡ m =
    sym (digits_worth n)
    ∙ (ap (value_from 0) (sym (digits_written n t e) ∙ (ap digits_of q ∙ digits_written m u f)) ∙ digits_worth m) in
    cancel (decimal m) t u (ap (λ (k : ℕ). decimal k ++ t) (sym same) ∙ q)

-- ---- a text that reads well with `0` for each `?`

module _ (s : List ℕ) {h : Heading} (e : Read h ≡ sheet_of (plugged s) program_rooms) where
  abbrev held : Rooms
  held = said (plugged s)

  stands : SheetStands (plugged s) h held
  stands = said_stands (plugged s) program_rooms h e

  count_is : squares h.shape ≡ looked_at s
  count_is = ap squares (heading-shape s e) ∙ sym (all_looked s e)

  abbrev G : List ℕ
  G = grid_written h

  abbrev R : List ℕ
  R = run_written h

  abbrev W : List ℕ
  W =
      joined h.rain_rows (row_written rain_word rain_kind.width held.rain)
      ++ joined h.inflow_rows (row_written inflow_word inflow_kind.width held.inflow)

  abbrev cell : Rooms → ℕ → List ℕ
  cell = cell_written h.shape.columns

  line_is : (i : ℕ) → i < looked_at s → L s (zeros s) i ≡ cell held i
  line_is i l =
      let z : suc (2 + i) ≡ 2 + suc i = omega arith in
      let a : StandsAt (plugged s) (line_from (plugged s) 0 (2 + i)) (cell held i) (line_from (plugged s) 0 (suc (2 + i))) =
      stands.cells i (omega (arith, l, count_is)) in
      let b = subst (λ (q : ℕ). StandsAt (plugged s) q (cell held i) (line_from (plugged s) 0 (suc (2 + i)))) (line_starts s i) a in
      let c = subst (λ (q : ℕ). StandsAt (plugged s) (start_of s i) (cell held i) q) (ap (line_from (plugged s) 0) z ∙ line_starts s (suc i)) b in
      stands_same (L s (zeros s) i) (cell held i) (plug_line s i l) c

  heads : A s ≡ G ++ R
  unfolding line_from
  heads =
      stands_same (A s) (G ++ R) (plug_head s)
      (subst (λ (q : ℕ). StandsAt (plugged s) 0 (G ++ R) q) (from_same s 0 2) (stands_both stands.grid-line stands.run-line))

  lines_are : joined (looked_at s) (L s (zeros s)) ≡ joined (squares h.shape) (cell held)
  lines_are =
      joined_ext (looked_at s) (L s (zeros s)) (cell held) line_is ∙ ap (λ (k : ℕ). joined k (cell held)) (sym count_is)

  tails : D s ≡ W
  unfolding sheet_written lines_written
  tails =
      let J : List ℕ = joined (squares h.shape) (cell held) in
      let whole : G ++ (R ++ (J ++ D s)) ≡ G ++ (R ++ (J ++ W)) =
      sym (append_assoc G R (J ++ D s))
      ∙ (ap₂ (λ (a j : List ℕ). a ++ (j ++ D s)) (sym heads) (sym lines_are) ∙ (sym (plug_parts s) ∙ stands_written stands)) in
      cancel J (D s) W (cancel R (J ++ D s) (J ++ W) (cancel G (R ++ (J ++ D s)) (R ++ (J ++ W)) whole))

  -- the text with other beds, line by line
  with_lines : (f : ℕ → List ℕ) → with_beds s f ≡ lines_written h held (L s f)
  unfolding with_beds lines_written
  with_lines f =
      ap₂ (λ (a d : List ℕ). a ++ (joined (looked_at s) (L s f) ++ d)) heads tails
      ∙ (append_assoc G R (joined (looked_at s) (L s f) ++ W) ∙ ap (λ (k : ℕ). G ++ (R ++ (joined k (L s f) ++ W))) (sym count_is))

  -- ---- a line with a bed

  abbrev after : Rooms
  after = other_beds held (beds_after s)

  abbrev bed : ℕ → ℕ
  bed i = get_or (beds_after s) i 0

  -- a bed that was known is the one that the reader found
  bed_kept : (i : ℕ) → i < squares (shape_of s) → is_hole s i ≡ false → closed (marks_read s) i ≡ false → bed i ≡ get_or (beds_read s) i 0
  unfolding filled_beds after_rounds
  bed_kept i l t c =
      let seen = seen_low s (marks_read s) (beds_read s) (beds_low s e) in
      let start : get_or (seen_beds s) i 0 ≡ get_or (beds_read s) i 0 = seen_at s (marks_read s) (beds_read s) i l ∙ pick_false _ _ t in
      let z : 0 + squares (shape_of s) ≡ squares (shape_of s) = omega arith in
      ap (λ (k : ℕ). get_or (after_rounds (shape_of s) (marks_read s) (seen_beds s) k) i 0) (sym z)
      ∙ (known_later (shape_of s) (marks_read s) (seen_beds s) seen 0 (squares (shape_of s)) i l
      (λ y. omega (arith, sym start ∙ y, beds_low s e i l c))
      ∙ start)

  ground-kept : (i : ℕ) → i < squares (shape_of s) → is_hole s i ≡ false → ground_at held i ≡ ground_at after i
  unfolding ground_at
  ground-kept i l t =
      by_test (closed (marks_read s) i) (λ c. pick_true _ _ c ∙ sym (pick_true _ _ c))
      (λ c.
      pick_false _ _ c
      ∙ (ap
      (λ (b : ℕ). b ∷ get_or held.cells.roughness i 0 ∷ get_or held.cells.depths i 0 ∷ get_or held.cells.rates i 0 ∷ [])
      (sym (bed_kept i l t c))
      ∙ sym (pick_false _ _ c)))

  module _ (i : ℕ) (l : i < looked_at s) where
    abbrev p : ℕ
    p = start_of s i

    abbrev row : ℕ
    row = i / (shape_of s).columns

    abbrev column : ℕ
    column = i % (shape_of s).columns

    same_head : (mark : ℕ) → line_head (i / h.shape.columns) (i % h.shape.columns) mark ≡ line_head row column mark
    same_head mark = ap (λ (g : ℕ). line_head (i / g) (i % g) mark) (ap (λ (g : Shape). g.columns) (heading-shape s e))

    abbrev text : Rooms → List ℕ
    text r = line_head row column (get_or (marks_read s) i 0) ++ rest_text (ground_at r i)

    cell_is : cell held i ≡ text held
    unfolding cell_written
    cell_is = ap (λ (t : List ℕ). t ++ rest_text (ground_at held i)) (same_head (get_or (marks_read s) i 0))

    after_is : cell after i ≡ text after
    unfolding cell_written
    after_is = ap (λ (t : List ℕ). t ++ rest_text (ground_at after i)) (same_head (get_or (marks_read s) i 0))

    line_with_none : (f : ℕ → List ℕ) → is_hole s i ≡ false → L s f i ≡ cell after i
    line_with_none f t =
        line_kept s p row column (f i) (48 ∷ []) t
        ∙ (line_is i l
        ∙ (cell_is
        ∙ (ap (λ (vs : List ℕ). line_head row column (get_or (marks_read s) i 0) ++ rest_text vs) (ground-kept i (omega (arith, l, all_looked s e)) t) ∙ sym after_is)))

    module _ (t : is_hole s i ≡ true) where
      abbrev spot : Spot s p row column
      spot = hole_spot s p row column t

      abbrev b : ℕ
      b = bed_at s p row column

      abbrev head : List ℕ
      head = up_to_bed s p row column spot.mark

      abbrev Z : List ℕ
      Z = between s (b + 1) (next_line s p)

      spot_is : p + length head ≡ b
      spot_is =
          omega (
            arith,
            length-append (line_head row column spot.mark) (tab ∷ []),
            length-append (line_head row column 1) (tab ∷ []),
            head_long row column spot.mark 1,
          )

      front : between s p b ≡ head
      front =
          let a = stands_first head (question ∷ tab ∷ []) spot.stands in
          let z : b - p ≡ length head = omega (arith, spot_is) in
          ap (λ (k : ℕ). take k (drop p s)) z ∙ (ap (take (length head)) a.text ∙ take-append_seam head (drop (p + length head) s))

      -- a tab follows the `?`
      tab_next : get_or Z 0 0 ≡ tab
      tab_next =
          let a = stands_second head (question ∷ tab ∷ []) spot.stands in
          let c = stands_second (question ∷ []) (tab ∷ []) a in
          let z : p + length head + length (question ∷ []) ≡ b + 1 = omega (arith, spot_is) in
          let y : b + 1 + 0 ≡ b + 1 = omega arith in
          get_or-take (next_line s p - (b + 1)) (drop (b + 1) s) 0 0 (omega (arith, spot.further))
          ∙ (get_or-drop (b + 1) s 0 0 ∙ (ap (λ (k : ℕ). get_or s k 0) (y ∙ sym z) ∙ (byte_stands c).0))

      with_bed : (t' : List ℕ) → line_with s p row column t' ≡ line_head row column spot.mark ++ (tab ∷ (t' ++ Z))
      unfolding line_with
      with_bed t' =
          pick_true _ _ t
          ∙ (ap (λ (a : List ℕ). a ++ (t' ++ Z)) front ∙ append_assoc (line_head row column spot.mark) (tab ∷ []) (t' ++ Z))

      both : line_head row column spot.mark ++ (tab ∷ (48 ∷ Z)) ≡ text held
      both = sym (with_bed (48 ∷ [])) ∙ (line_is i l ∙ cell_is)

      heads_same : line_head row column spot.mark ≡ line_head row column (get_or (marks_read s) i 0)
      heads_same =
          first_same (line_head row column spot.mark) (line_head row column (get_or (marks_read s) i 0)) (tab ∷ (48 ∷ Z)) (rest_text (ground_at held i))
          (head_long row column spot.mark (get_or (marks_read s) i 0)) both

      rests : tab ∷ (48 ∷ Z) ≡ rest_text (ground_at held i)
      rests =
          cancel (line_head row column (get_or (marks_read s) i 0)) (tab ∷ (48 ∷ Z)) (rest_text (ground_at held i))
          (ap (λ (a : List ℕ). a ++ (tab ∷ (48 ∷ Z))) (sym heads_same) ∙ both)

      abbrev F : List ℕ
      F = fields_text (get_or held.cells.roughness i 0 ∷ get_or held.cells.depths i 0 ∷ get_or held.cells.rates i 0 ∷ [])

      not_closed : closed (marks_read s) i ≡ false
      unfolding ground_at rest_text fields_text
      not_closed =
          no_more (closed (marks_read s) i)
          (λ c.
          let z : tab ∷ (48 ∷ Z) ≡ newline ∷ [] = rests ∙ ap rest_text (pick_true _ _ c) in
          omega (arith, ap (λ (a : List ℕ). get_or a 0 0) z))

      rest_is : Z ≡ F ++ (newline ∷ [])
      unfolding ground_at rest_text fields_text field_text
      rest_is =
          let bed₀ : ℕ = get_or (beds_read s) i 0 in
          let z : tab ∷ (48 ∷ Z) ≡ tab ∷ ((decimal bed₀ ++ F) ++ (newline ∷ [])) = rests ∙ ap rest_text (pick_false _ _ not_closed) in
          number_apart 0 bed₀ Z (F ++ (newline ∷ [])) (ap is_digit tab_next ∙ tab-alone) tab-alone
          (ap (λ (a : List ℕ). a ++ Z) (decimal_small 0 (omega arith)) ∙ (ap (drop 1) z ∙ append_assoc (decimal bed₀) F (newline ∷ [])))

      line_with_bed : (bed i ≡ no_bed → ⊥) → L s (λ j. bed_text (bed j)) i ≡ cell after i
      unfolding ground_at rest_text fields_text field_text
      line_with_bed d =
          with_bed (bed_text (bed i))
          ∙ (ap₂ (λ (a z : List ℕ). a ++ (tab ∷ (z ++ Z))) heads_same (known_text (bed i) d)
          ∙ (ap (λ (z : List ℕ). line_head row column (get_or (marks_read s) i 0) ++ (tab ∷ z))
          (ap (λ (z : List ℕ). decimal (bed i) ++ z) rest_is ∙ sym (append_assoc (decimal (bed i)) F (newline ∷ [])))
          ∙ (ap (λ (vs : List ℕ). line_head row column (get_or (marks_read s) i 0) ++ rest_text vs) (sym (pick_false _ _ not_closed)) ∙ sym after_is)))

  pub says_beds :
      ((i : ℕ) → i < squares (shape_of s) → is_hole s i ≡ true → get_or (beds_after s) i 0 ≡ no_bed → ⊥) → sheet_after s ≡ sheet_written h (other_beds (said (plugged s)) (beds_after s))
  unfolding sheet_written lines_written
  says_beds reached =
      with_lines (λ i. bed_text (bed i))
      ∙ same_lines (joined_ext (squares h.shape) (L s (λ i. bed_text (bed i))) (cell after) (λ i l. line-at i (omega (arith, l, count_is))))
    where
      line-at : (i : ℕ) → i < looked_at s → L s (λ j. bed_text (bed j)) i ≡ cell after i
      line-at i l =
          by_test (is_hole s i) (λ t. line_with_bed i l t (reached i (omega (arith, l, all_looked s e)) t)) (λ t. line_with_none i l (λ j. bed_text (bed j)) t)

      same_lines :
          joined (squares h.shape) (L s (λ i. bed_text (bed i))) ≡ joined (squares h.shape) (cell after) →
          lines_written h held (L s (λ i. bed_text (bed i))) ≡ lines_written h after (cell after)
      same_lines q = ap (λ (j : List ℕ). G ++ (R ++ (j ++ W))) q
