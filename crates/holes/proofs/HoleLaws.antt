-- Laws of a text with other beds for its `?`: how many squares are looked at; with `?` for each it is the text; where there is none it is the
-- text whatever is put.
-- Assumes nothing.
use mathlib.Core.Path.{◌≡◌, refl, sym, ap, subst, ◌∙◌}
use mathlib.Core.Bool.{Bool, true, false}
use mathlib.Core.List.{List, [], ◌∷◌, ◌++◌}
use Prim.Native.Nat.{ℕ, zero, suc, ◌+◌, ◌-◌, ◌*◌, ◌/◌, ◌%◌, ◌≤◌, ◌<◌}
use native.Mathlib.Nat.{mul-suc}
use native.Mathlib.Omega.{arith}
use lib.Dec.{eqb, leb}
use lib.ListN.{length, get_or, take, drop, length-append, length-drop, take-append-drop}
use lib.Seq.{take-add, drop-drop, drop-cons, length-take-le}
use borrow.Author.Tests.{le-leb, lt-leb, leb-true}
use Rattle.reckon.specs.Tests.{pick, every}
use Rattle.reckon.specs.Lists.{joined}
use Rattle.reckon.proofs.TestLaws.{not_both, pick_true, pick_false, or_right, every_fails, every_each, each_every}
use Rattle.reckon.proofs.ListLaws.{joined_ext}
use Rattle.grid.specs.Squares.{ShapeInRange, squares, shape_fine}
use Rattle.grid.proofs.SquareLaws.{ranges_of_fine}
use Rattle.text.specs.Reading.{tab, newline, word_at, line_length, next_line, line_from}
use Rattle.text.specs.Writing.{fields_text}
use Rattle.text.specs.Inner.Standing.{plain, StandsAt}
use Rattle.text.proofs.ReadingLaws.{by_test, word_within}
use Rattle.text.proofs.StandLaws.{stands_word, stands_second, byte_stands}
use Rattle.text.proofs.LineLaws.{plain_cons, plain_both, plain_fields, line_add}
use Rattle.text.proofs.EndLaws.{next-within, start-within}
use Rattle.sheet.specs.Lines.{cell_word, letter_of, line_head}
use Rattle.sheet.specs.Sheet.{shape_of, cells_at}
use Rattle.std.proofs.Common.{Option, is_some}
use Rattle.sheet.specs.Sheet.{grid_or}
use Rattle.sheet.specs.declared.lines.GridLine.{GridLine}
use Rattle.programs.specs.Program.{program_squares}
use Rattle.holes.specs.Holes.{question, between, up_to_bed, hole_at, bed_at, line_with, looked_in, looked_at, start_of, is_hole, with_beds}

-- ---- how many squares' lines are looked at

module _ (top : Option GridLine) where
  abbrev tests : List Bool
  tests = is_some top ∷ shape_fine (grid_or top).shape ∷ leb (squares (grid_or top).shape) program_squares ∷ []

  pub looked_unfound : is_some top ≡ false → 0 ≡ looked_in top
  unfolding looked_in
  looked_unfound e = sym (pick_false _ _ (every_fails tests 0 e))

  pub looked_unfine : shape_fine (grid_or top).shape ≡ false → 0 ≡ looked_in top
  unfolding looked_in
  looked_unfine e = sym (pick_false _ _ (every_fails tests 1 e))

  pub looked_many : program_squares < squares (grid_or top).shape → 0 ≡ looked_in top
  unfolding looked_in
  looked_many h = sym (pick_false _ _ (every_fails tests 2 (lt-leb (squares (grid_or top).shape) program_squares h)))

  pub looked_all : is_some top ≡ true → shape_fine (grid_or top).shape ≡ true → squares (grid_or top).shape ≤ program_squares → squares (grid_or top).shape ≡ looked_in top
  unfolding looked_in
  looked_all e f h = sym (pick_true _ _ (each_every tests (e, (f, (le-leb (squares (grid_or top).shape) program_squares h, tt)))))

  -- where there are any, they are all, and the grid is in range
  pub record LookedFine : Type 0 where
    pub found : is_some top ≡ true
    pub shape : ShapeInRange (grid_or top).shape
    pub all : looked_in top ≡ squares (grid_or top).shape
    pub few : squares (grid_or top).shape ≤ program_squares

  pub looked_some : {i : ℕ} → i < looked_in top → LookedFine
  unfolding looked_in
  looked_some {i} h =
      by_test (every tests)
      (λ e.
      let t = every_each tests e in
      record { found = t.0; shape = ranges_of_fine (grid_or top).shape t.1.0; all = pick_true _ _ e; few = leb-true _ _ t.1.1.0 })
      (λ e. absurd (omega (arith, h, pick_false (squares (grid_or top).shape) 0 e)))

  pub looked_few : looked_in top ≤ program_squares
  unfolding looked_in
  looked_few =
      by_test (every tests) (λ e. omega (arith, pick_true (squares (grid_or top).shape) 0 e, leb-true (squares (grid_or top).shape) program_squares (every_each tests e).1.1.0))
      (λ e. omega (arith, pick_false (squares (grid_or top).shape) 0 e))

-- ---- parts of a text

module _ (s : List ℕ) where
  between_both : (a b c : ℕ) → a ≤ b → b ≤ c → between s a b ++ between s b c ≡ between s a c
  between_both a b c h g =
      let z : b - a + (c - b) ≡ c - a = omega arith in
      let y : a + (b - a) ≡ b = omega arith in
      sym
      (ap (λ (k : ℕ). take k (drop a s)) (sym z)
      ∙ (take-add (b - a) (c - b) (drop a s)
      ∙ ap (λ (l : List ℕ). between s a b ++ take (c - b) l) (drop-drop (b - a) a s ∙ ap (λ (k : ℕ). drop k s) y)))

  between_one : (b x : ℕ) → b < length s → get_or s b 0 ≡ x → between s b (b + 1) ≡ x ∷ []
  between_one b x h e =
      let z : b + 1 - b ≡ 1 = omega arith in
      ap (λ (k : ℕ). take k (drop b s)) z ∙ rw (drop-cons s b 0 h, e)

  between_rest : (a b : ℕ) → a ≤ b → between s a b ++ drop b s ≡ drop a s
  between_rest a b h =
      let y : a + (b - a) ≡ b = omega arith in
      ap (λ (l : List ℕ). between s a b ++ l) (sym (drop-drop (b - a) a s ∙ ap (λ (k : ℕ). drop k s) y))
      ∙ take-append-drop (b - a) (drop a s)

  pub between_long : (a b : ℕ) → a ≤ b → b ≤ length s → length (between s a b) ≡ b - a
  between_long a b h g = length-take-le (b - a) (drop a s) (omega (arith, h, g, length-drop a s))

  -- parts one after the other
  betweens : (n : ℕ) (start : ℕ → ℕ) → ((i : ℕ) → start i ≤ start (suc i)) →
      (joined n (λ i. between s (start i) (start (suc i))) ≡ between s (start 0) (start n)) × (start 0 ≤ start n)
  unfolding joined
  betweens zero start h =
      let z : start 0 - start 0 ≡ 0 = omega arith in
      (sym (ap (λ (k : ℕ). take k (drop (start 0) s)) z), omega arith)
  betweens (suc n) start h =
      let ih = betweens n start h in (
        ap (λ (l : List ℕ). l ++ between s (start n) (start (suc n))) ih.0 ∙ between_both (start 0) (start n) (start (suc n)) ih.1 (h n),
        omega (arith, ih.1, h n),
      )

pub next_forth : (s : List ℕ) (p : ℕ) → p ≤ next_line s p
unfolding next_line
next_forth s p = omega arith

-- every square's line starts within the text
pub start-in : (s : List ℕ) (i : ℕ) → start_of s i ≤ length s
start-in s i = omega (arith, line_add s 0 2 i, start-within s (2 + i))

-- ---- a line that has a hole

-- a line is no shorter than what it begins with, if that has no newline
plain_longer : (t r : List ℕ) → plain t ≡ true → length t ≤ line_length (t ++ r)
unfolding plain line_length
plain_longer [] r e = omega arith
plain_longer (b ∷ t) r e =
    by_test (eqb b newline) (λ h. not_both e (pick_true _ _ h))
    (λ h. subst (λ (k : ℕ). suc (length t) ≤ k) (sym (pick_false _ _ h)) (omega (arith, plain_longer t r (sym (pick_false _ _ h) ∙ e))))

line_longer : {s t : List ℕ} {p q : ℕ} → plain t ≡ true → StandsAt s p t q → q ≤ next_line s p
unfolding next_line
line_longer {s} {t} {p} {q} e a =
    omega (arith, a.after, plain_longer t (drop q s) e, ap line_length a.text)

plain_nothing : plain [] ≡ true
unfolding plain
plain_nothing = refl

plain_cell : plain cell_word ≡ true
unfolding plain pick
plain_cell = refl

letter_plain : (mark : ℕ) → letter_of mark ≡ newline → ⊥
unfolding letter_of
letter_plain zero e = omega (arith, e)
letter_plain (suc zero) e = omega (arith, e)
letter_plain (suc (suc zero)) e = omega (arith, e)
letter_plain (suc (suc (suc mark))) e = omega (arith, e)

plain_head : (row column mark : ℕ) → plain (line_head row column mark) ≡ true
plain_head row column mark =
    plain_both cell_word _ plain_cell
    (plain_both (fields_text (row ∷ column ∷ [])) _ (plain_fields (row ∷ column ∷ []))
    (plain_cons tab _ (λ z. omega arith) (plain_cons (letter_of mark) [] (letter_plain mark) plain_nothing)))

-- a letter is one byte
pub head_long : (row column mark other : ℕ) → length (line_head row column mark) ≡ length (line_head row column other)
head_long row column mark other =
    length-append cell_word (fields_text (row ∷ column ∷ []) ++ (tab ∷ letter_of mark ∷ []))
    ∙ (omega (
      arith,
      length-append (fields_text (row ∷ column ∷ [])) (tab ∷ letter_of mark ∷ []),
      length-append (fields_text (row ∷ column ∷ [])) (tab ∷ letter_of other ∷ []),
      length-append cell_word (fields_text (row ∷ column ∷ []) ++ (tab ∷ letter_of other ∷ [])),
    ))

module _ (s : List ℕ) (p row column : ℕ) where
  abbrev holed : ℕ → List ℕ
  holed mark = up_to_bed s p row column mark ++ (question ∷ tab ∷ [])

  -- where the hole stands, and that its line goes on after it
  pub record Spot : Type 0 where
    pub mark : ℕ
    pub not_closed : (mark ≡ 1 → ⊥) → mark ≡ 2
    pub stands : StandsAt s p (up_to_bed s p row column mark ++ (question ∷ tab ∷ [])) (p + length (up_to_bed s p row column mark ++ (question ∷ tab ∷ [])))
    pub byte : get_or s (bed_at s p row column) 0 ≡ question
    pub inside : bed_at s p row column < length s
    pub before : p ≤ bed_at s p row column
    pub after : bed_at s p row column + 1 ≤ next_line s p
    pub further : bed_at s p row column + 2 ≤ next_line s p

  spot : (mark : ℕ) → ((mark ≡ 1 → ⊥) → mark ≡ 2) → word_at s p (holed mark) ≡ true → Spot
  spot mark o e =
      let a = stands_word s p (holed mark) e in
      let b = stands_second (up_to_bed s p row column mark) (question ∷ tab ∷ []) a in
      let k : p + length (up_to_bed s p row column mark) ≡ bed_at s p row column =
      omega (
        arith,
        length-append (line_head row column mark) (tab ∷ []),
        length-append (line_head row column 1) (tab ∷ []),
        head_long row column mark 1,
      ) in
      let c = subst (λ (q : ℕ). StandsAt s q (question ∷ tab ∷ []) (p + length (holed mark))) k b in
      let w = word_within s p (holed mark) e in
      let l = length-append (up_to_bed s p row column mark) (question ∷ tab ∷ []) in
      let pl : plain (holed mark) ≡ true =
      plain_both (up_to_bed s p row column mark) (question ∷ tab ∷ [])
      (plain_both (line_head row column mark) (tab ∷ []) (plain_head row column mark) (plain_cons tab [] (λ z. omega arith) plain_nothing))
      (plain_cons question (tab ∷ []) (λ z. omega arith) (plain_cons tab [] (λ z. omega arith) plain_nothing)) in
      record {
        mark = mark;
        not_closed = o;
        stands = a;
        byte = (byte_stands c).0;
        inside = omega (arith, w, l, k);
        before = omega arith;
        after = omega (arith, line_longer pl a, l, k);
        further = omega (arith, line_longer pl a, l, k);
      }

  pub hole_spot : hole_at s p row column ≡ true → Spot
  unfolding hole_at
  hole_spot e =
      by_test (word_at s p (holed 1)) (λ a. spot 1 (λ d. absurd (d refl)) a) (λ a. spot 2 (λ d. refl) (or_right _ _ e a))

  -- with its own `?` it is the line
  pub line_same : line_with s p row column (question ∷ []) ≡ between s p (next_line s p)
  unfolding line_with
  line_same =
      by_test (hole_at s p row column)
      (λ e.
      let k = hole_spot e in
      pick_true _ _ e
      ∙ (ap (λ (l : List ℕ). between s p (bed_at s p row column) ++ (l ++ between s (bed_at s p row column + 1) (next_line s p)))
      (sym (between_one s (bed_at s p row column) question k.inside k.byte))
      ∙ (ap (λ (l : List ℕ). between s p (bed_at s p row column) ++ l)
      (between_both s (bed_at s p row column) (bed_at s p row column + 1) (next_line s p) (omega arith) k.after)
      ∙ between_both s p (bed_at s p row column) (next_line s p) k.before (omega (arith, k.after)))))
      (λ e. pick_false _ _ e)

  -- a line with no hole is the same whatever is put
  pub line_kept : (t u : List ℕ) → hole_at s p row column ≡ false → line_with s p row column t ≡ line_with s p row column u
  unfolding line_with
  line_kept t u e = pick_false _ _ e ∙ sym (pick_false _ _ e)

  -- how long it is: one byte less and the bed's own
  line_bounded :
      p ≤ length s → (bed : List ℕ) (most : ℕ) → 1 ≤ most → length bed ≤ most → length (line_with s p row column bed) + 1 ≤ next_line s p - p + most
  unfolding line_with
  line_bounded h bed most one few =
      by_test (hole_at s p row column)
      (λ e.
      let k = hole_spot e in
      let first = between_long s p (bed_at s p row column) k.before (omega (arith, k.inside)) in
      let last = between_long s (bed_at s p row column + 1) (next_line s p) k.after (next-within s p h) in
      omega (
        arith,
        ap length (pick_true (between s p (bed_at s p row column) ++ (bed ++ between s (bed_at s p row column + 1) (next_line s p))) (between s p (next_line s p)) e),
        length-append (between s p (bed_at s p row column)) (bed ++ between s (bed_at s p row column + 1) (next_line s p)),
        length-append bed (between s (bed_at s p row column + 1) (next_line s p)),
        first,
        last,
        k.before,
        k.after,
        few,
      ))
      (λ e.
      omega (
        arith,
        ap length (pick_false (between s p (bed_at s p row column) ++ (bed ++ between s (bed_at s p row column + 1) (next_line s p))) (between s p (next_line s p)) e),
        between_long s p (next_line s p) (next_forth s p) (next-within s p h),
        next_forth s p,
        one,
      ))

-- ---- the whole text

module _ (s : List ℕ) where
  abbrev line : (ℕ → List ℕ) → ℕ → List ℕ
  line f i = line_with s (start_of s i) (i / (shape_of s).columns) (i % (shape_of s).columns) (f i)

  starts_rise : (i : ℕ) → start_of s i ≤ start_of s (suc i)
  unfolding line_from
  starts_rise i = next_forth s (start_of s i)

  pub start_next : (n : ℕ) → start_of s (suc n) ≡ next_line s (start_of s n)
  unfolding line_from
  start_next n = refl

  pub start_zero : start_of s 0 ≡ cells_at s
  unfolding line_from
  start_zero = refl

  pub all_same : with_beds s (λ i. question ∷ []) ≡ s
  unfolding with_beds line_from
  all_same =
      let n : ℕ = looked_at s in
      let lines : joined n (line (λ i. question ∷ [])) ≡ joined n (λ i. between s (start_of s i) (start_of s (suc i))) =
      joined_ext n (line (λ i. question ∷ [])) (λ i. between s (start_of s i) (start_of s (suc i)))
      (λ i l. line_same s (start_of s i) (i / (shape_of s).columns) (i % (shape_of s).columns)) in
      let b = betweens s n (start_of s) starts_rise in
      ap (λ (l : List ℕ). take (cells_at s) s ++ (l ++ drop (start_of s n) s)) (lines ∙ b.0)
      ∙ (ap (λ (l : List ℕ). take (cells_at s) s ++ l) (between_rest s (start_of s 0) (start_of s n) b.1) ∙ take-append-drop (cells_at s) s)

  pub kept : (f : ℕ → List ℕ) → ((i : ℕ) → i < looked_at s → is_hole s i ≡ false) → with_beds s f ≡ s
  unfolding with_beds
  kept f none =
      ap (λ (l : List ℕ). take (cells_at s) s ++ (l ++ drop (start_of s (looked_at s)) s))
      (joined_ext (looked_at s) (line f) (line (λ i. question ∷ []))
      (λ i l. line_kept s (start_of s i) (i / (shape_of s).columns) (i % (shape_of s).columns) (f i) (question ∷ []) (none i l)))
      ∙ all_same

  pub with_ext : (f g : ℕ → List ℕ) → ((i : ℕ) → i < looked_at s → f i ≡ g i) → with_beds s f ≡ with_beds s g
  unfolding with_beds
  with_ext f g h =
      ap (λ (l : List ℕ). take (cells_at s) s ++ (l ++ drop (start_of s (looked_at s)) s))
      (joined_ext (looked_at s) (line f) (line g)
      (λ i l. ap (line_with s (start_of s i) (i / (shape_of s).columns) (i % (shape_of s).columns)) (h i l)))

  -- the squares' lines with beds of at most so many bytes
  lines_bounded :
      (f : ℕ → List ℕ) (most : ℕ) → ((i : ℕ) → length (f i) ≤ most + 1) → (n : ℕ) →
      length (joined n (line f)) + start_of s 0 ≤ start_of s n + most * n
  unfolding joined
  lines_bounded f most few zero = omega arith
  lines_bounded f most few (suc n) =
      omega (
        arith,
        lines_bounded f most few n,
        length-append (joined n (line f)) (line f n),
        line_bounded s (start_of s n) (n / (shape_of s).columns) (n % (shape_of s).columns) (start-in s n) (f n) (most + 1) (omega arith) (few n),
        starts_rise n,
        start_next n,
        mul-suc most n,
      )

  -- a text with such beds: so much longer at most for each square that is looked at
  pub with_bounded :
      (f : ℕ → List ℕ) (most : ℕ) → ((i : ℕ) → length (f i) ≤ most + 1) → length (with_beds s f) ≤ length s + most * looked_at s
  unfolding with_beds
  with_bounded f most few =
      let n : ℕ = looked_at s in
      omega (
        arith,
        length-append (take (cells_at s) s) (joined n (line f) ++ drop (start_of s n) s),
        length-append (joined n (line f)) (drop (start_of s n) s),
        length-take-le (cells_at s) s (start-within s 2),
        length-drop (start_of s n) s,
        start-in s n,
        start_zero,
        lines_bounded f most few n,
      )
