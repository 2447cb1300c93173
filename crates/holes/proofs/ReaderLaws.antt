-- Laws of the ordinary reader on a text with other beds for its `?`: line 1 stays, every square is looked at where it reads well, and a `?` is
-- 12 to it.
-- Assumes nothing.
use mathlib.Core.Path.{◌≡◌, refl, sym, ap, subst, ◌∙◌}
use mathlib.Core.Bool.{true, false}
use mathlib.Core.List.{List, [], ◌∷◌, ◌++◌, append_assoc}
use Prim.Native.Nat.{ℕ, ◌+◌, ◌-◌, ◌/◌, ◌%◌, ◌≤◌, ◌<◌}
use native.Mathlib.Omega.{arith}
use lib.ListN.{length, get_or, take, drop, replicate, length-replicate}
use lib.Seq.{take-add, take-append_seam}
use Rattle.reckon.specs.Lists.{joined}
use Rattle.reckon.specs.Ranges.{most_bed}
use Rattle.reckon.proofs.TestLaws.{not_both, every_each}
use Rattle.reckon.proofs.ListLaws.{length-filled}
use Rattle.grid.specs.Squares.{ShapeInRange, squares, shape_fine}
use Rattle.grid.specs.Marks.{closed}
use Rattle.grid.specs.declared.squares.Shape.{Shape}
use Rattle.checks.proofs.CheckLaws.{ready, run_checks_step}
use Rattle.text.specs.Reading.{read_line, line_of, next_line, line_from, as_fields, LineOf}
use Rattle.text.specs.Reading as Reading
use Rattle.text.specs.Writing.{line_text}
use Rattle.text.specs.Inner.Standing.{StandsAt}
use Rattle.text.specs.declared.reading.Fields.{Fields}
use Rattle.text.proofs.ReadingLaws.{by_lt}
use Rattle.text.proofs.StandLaws.{front_stands}
use Rattle.text.proofs.RoundTrip.{line_found, line-back}
use Rattle.sheet.specs.Lines.{grid_word, grid_fields, as_grid, grid_line}
use Rattle.std.proofs.Common.{Option, Some, None, is_some, option_map}
use Rattle.sheet.specs.Sheet.{grid_or, has_one, rooms_fine, line_one, line_two, shape_of, cells_at, cells_filled, said, checks_in, checks_of, heading_of, sheet_of}
use Rattle.sheet.specs.declared.lines.GridLine.{GridLine}
use Rattle.sheet.specs.declared.reading.Heading.{Heading}
use Rattle.sheet.specs.declared.reading.Sheet.TheVariants.{Read}
use Rattle.sheet.proofs.KindLaws.{lined_next, row_lined}
use Rattle.sheet.proofs.ReadLaws.{plain-grid}
use Rattle.sheet.proofs.SheetLaws.{Well, well, rooms-shape, rooms_cells}
use Rattle.programs.specs.Program.{program_squares, program_rooms}
use Rattle.holes.specs.Holes.{looked_at, line_with, start_of, with_beds, plugged}
use Rattle.holes.proofs.HoleLaws.{looked_some, looked_all, next_forth, kept}

-- ---- line 1

module _ (s : List ℕ) (f : ℕ → List ℕ) where
  -- what stands before the first square's line stays
  first_stands : {q : ℕ} (t : List ℕ) → StandsAt s 0 t q → q ≤ cells_at s → StandsAt (with_beds s f) 0 t q
  unfolding with_beds
  first_stands {q} t a h =
      let c : ℕ = cells_at s in
      let rest : List ℕ =
      joined (looked_at s) (λ i. line_with s (start_of s i) (i / (shape_of s).columns) (i % (shape_of s).columns) (f i)) ++ drop (start_of s (looked_at s)) s in
      let long : length t ≡ q = omega (arith, a.after) in
      let z : q + (c - q) ≡ c = omega arith in
      let front : take q s ≡ t = ap (λ (k : ℕ). take k s) (sym long) ∙ (ap (take (length t)) a.text ∙ take-append_seam t (drop q s)) in
      let cut : take c s ≡ t ++ take (c - q) (drop q s) =
      ap (λ (k : ℕ). take k s) (sym z) ∙ (take-add q (c - q) s ∙ ap (λ (l : List ℕ). l ++ take (c - q) (drop q s)) front) in
      let whole : take c s ++ rest ≡ t ++ (take (c - q) (drop q s) ++ rest) =
      ap (λ (l : List ℕ). l ++ rest) cut ∙ append_assoc t (take (c - q) (drop q s)) rest in
      subst (λ (k : ℕ). StandsAt (take c s ++ rest) 0 t k) long
      (subst (λ (l : List ℕ). StandsAt l 0 t (length t)) (sym whole) (front_stands t (take (c - q) (drop q s) ++ rest)))

  second_later : next_line s 0 ≤ cells_at s
  unfolding line_from
  second_later = next_forth s (next_line s 0)

  found_stays : has_one s ≡ true → grid_line (with_beds s f) ≡ grid_line s
  unfolding grid_line
  found_stays t = go (line_of s 0 grid_word grid_fields) refl t
    where
      go : (g : Option Fields) → LineOf s 0 grid_word grid_fields g → is_some (option_map as_grid g) ≡ true →
          option_map as_grid (line_of (with_beds s f) 0 grid_word grid_fields) ≡ option_map as_grid (line_of s 0 grid_word grid_fields)
      go None e t = not_both t refl
      go (Some line) e t =
          let vs : List ℕ = take grid_fields line.values in
          let a = line_found s 0 grid_fields (omega arith) grid_word e in
          let next : next_line s 0 ≡ line.next = lined_next (row_lined s 0 grid_word grid_fields (omega arith) plain-grid e) in
          let here = line-back grid_word vs a.stands a.readable in
          let there = line-back grid_word vs (first_stands (line_text grid_word vs) a.stands (omega (arith, next, second_later))) a.readable in
          let same : read_line (with_beds s f) 0 grid_word grid_fields ≡ read_line s 0 grid_word grid_fields =
          ap (read_line (with_beds s f) 0 grid_word) (sym a.many) ∙ (there ∙ (sym here ∙ ap (read_line s 0 grid_word) a.many)) in
          ap (λ (r : Reading.Reading). option_map as_grid (as_fields r)) same

  pub line_one_stays : grid_line (with_beds s f) ≡ grid_line s
  line_one_stays =
      by_lt 0 (looked_at s) (λ l. found_stays (looked_some (grid_line s) {i = 0} l).found)
      (λ l. ap grid_line (kept s f (λ i h. absurd (omega (arith, h, l)))))

-- ---- a text that reads well with `0` for each `?`

module _ (s : List ℕ) {h : Heading} (e : Read h ≡ sheet_of (plugged s) program_rooms) where
  is_well : Well (plugged s) program_rooms h
  is_well = well (plugged s) program_rooms h e

  same_one : grid_line (plugged s) ≡ grid_line s
  same_one = line_one_stays s (λ i. 48 ∷ [])

  pub same_shape : shape_of (plugged s) ≡ shape_of s
  same_shape = ap (λ (g : Option GridLine). (grid_or g).shape) same_one

  pub heading-shape : h.shape ≡ shape_of s
  unfolding heading_of
  heading-shape = ap (λ (g : Heading). g.shape) is_well.heading ∙ same_shape

  fine-shape : shape_fine (shape_of s) ≡ true
  unfolding rooms_fine
  fine-shape = subst (λ (g : Shape). shape_fine g ≡ true) same_shape (every_each _ is_well.fine).0

  pub few_squares : squares (shape_of s) ≤ program_squares
  few_squares =
      omega (
        arith,
        ap squares same_shape,
        (rooms_cells (shape_of (plugged s)) (line_one (plugged s)).side program_rooms is_well.fine).0,
        length-replicate {A = ℕ} program_squares 0,
      )

  pub all_looked : looked_at s ≡ squares (shape_of s)
  all_looked =
      sym
      (looked_all (grid_line s) (subst (λ (g : Option GridLine). is_some g ≡ true) same_one is_well.first_line) fine-shape few_squares)

  pub in_range : ShapeInRange (shape_of s)
  in_range =
      subst ShapeInRange same_shape
      (rooms-shape (shape_of (plugged s)) (line_one (plugged s)).side program_rooms is_well.fine)

  -- the beds that it found are in range
  beds-fine : (t : List ℕ) → checks_of t ≡ 0 → (i : ℕ) → i < squares (shape_of t) → closed (said t).cells.marks i ≡ false → get_or (said t).cells.beds i 0 ≤ most_bed
  unfolding checks_in
  beds-fine t c i l d = ((ready _ _ _ _ (run_checks_step _ _ (line_two t).end _ c)).flows.lies.grounds i l d).bed_to

  pub beds_low :
      (i : ℕ) → i < squares (shape_of s) → closed (said (plugged s)).cells.marks i ≡ false → get_or (said (plugged s)).cells.beds i 0 ≤ most_bed
  beds_low i l d = beds-fine (plugged s) is_well.checks i (omega (arith, l, ap squares same_shape)) d

  pub rooms_are : (length (said (plugged s)).cells.marks ≡ squares (shape_of s)) × (length (said (plugged s)).cells.beds ≡ squares (shape_of s))
  unfolding cells_filled
  rooms_are =
      let zeros = length-replicate {A = ℕ} (squares (shape_of (plugged s))) 0 in (
        length-filled _ _ _ (replicate (squares (shape_of (plugged s))) 0) ∙ (zeros ∙ ap squares same_shape),
        length-filled _ _ _ (replicate (squares (shape_of (plugged s))) 0) ∙ (zeros ∙ ap squares same_shape),
      )
