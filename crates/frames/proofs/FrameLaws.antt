-- Laws of a frame: a closed square's field, three texts one after the other, how long it can get, and that nothing printed depends on what a closed
-- square holds.
-- Assumes nothing.
use mathlib.Core.Path.{◌≡◌, sym, ap, ◌∙◌}
use mathlib.Core.Bool.{true, false}
use mathlib.Core.List.{List, [], ◌∷◌, ◌++◌}
use Prim.Native.Nat.{ℕ, zero, suc, ◌+◌, ◌*◌, ◌^◌, ◌≤◌, ◌<◌}
use native.Mathlib.Omega.{arith}
use lib.ListN.{length, get_or, length-append}
use Rattle.reckon.specs.Lists.{tabulate, joined}
use Rattle.reckon.proofs.ListLaws.{joined_ext}
use Rattle.reckon.proofs.TestLaws.{pick_true, pick_false, pick_both}
use Rattle.grid.specs.Marks.{closed, Alike}
use Rattle.grid.specs.Squares.{ShapeInRange}
use Rattle.grid.specs.declared.squares.Shape.{Shape}
use Rattle.grid.proofs.MarkLaws.{unless_closed}
use Rattle.text.specs.Reading.{tab, newline}
use Rattle.text.specs.Writing.{field_text, fields_text, Wrote}
use Rattle.text.proofs.JoinedLaws.{joined-short}
use Rattle.text.proofs.WritingLaws.{decimal-short, line_text_long, wrote_both, wrote_length}
use Rattle.frames.specs.Frame.{frame_word, rates_word, row_word, figures_of, figures_text, rates_text, square_text, row_text, rows_text, frame_text}
use Rattle.frames.specs.declared.frame.Figures.{Figures}

module _ (marks depths : List ℕ) (i : ℕ) where
  pub closed-field : closed marks i ≡ true → square_text marks depths i ≡ tab ∷ 120 ∷ []
  unfolding square_text
  closed-field e = pick_true _ _ e

  pub open_field : {d : ℕ} → closed marks i ≡ false → d ≡ get_or depths i 0 → square_text marks depths i ≡ field_text d
  unfolding square_text
  open_field e q = pick_false _ _ e ∙ ap field_text (sym q)

-- ---- three texts, one after the other

module _ (a b c : List ℕ) (at : ℕ) (old : List ℕ) (fits : at + length (a ++ (b ++ c)) ≤ length old) where
  three_length : length (a ++ (b ++ c)) ≡ length a + (length b + length c)
  three_length = omega (arith, length-append a (b ++ c), length-append b c)

  pub first_fits : at + length a ≤ length old
  first_fits = omega (arith, fits, three_length)

  module _ {x : List ℕ} {j : ℕ} (w : Wrote a at old x j) where
    long_x : length x ≡ length old
    long_x = wrote_length first_fits w

    pub second_fits : j + length b ≤ length x
    second_fits = omega (arith, w.next, long_x, fits, three_length)

    module _ {y : List ℕ} {k : ℕ} (v : Wrote b j x y k) where
      long_y : length y ≡ length old
      long_y = wrote_length second_fits v ∙ long_x

      pub third_fits : k + length c ≤ length y
      third_fits = omega (arith, w.next, v.next, long_y, fits, three_length)

      pub three_written : {z : List ℕ} {r : ℕ} → Wrote c k y z r → Wrote (a ++ (b ++ c)) at old z r
      three_written u =
          wrote_both (omega (arith, fits, three_length, length-append b c)) w (wrote_both (omega (arith, w.next, long_x, fits, three_length)) v u)

-- ---- how long a frame can get

-- the bytes that always suffice for it
abbrev pub most_frame : ℕ
most_frame = 46_000

-- a field and fields of numbers of 64 and of 32 bits
long_field : (n : ℕ) → n < 2 ^ 64 → length (field_text n) ≤ 21
unfolding field_text
long_field n h = omega (arith, decimal-short 19 n (omega arith))

short-field : (n : ℕ) → n < 2 ^ 32 → length (field_text n) ≤ 11
unfolding field_text
short-field n h = omega (arith, decimal-short 9 n (omega arith))

no_fields : length (fields_text []) ≤ 0
unfolding fields_text
no_fields = omega arith

long_more : (n k : ℕ) (vs : List ℕ) → n < 2 ^ 64 → length (fields_text vs) ≤ k → length (fields_text (n ∷ vs)) ≤ 21 + k
unfolding fields_text
long_more n k vs h l = omega (arith, length-append (field_text n) (fields_text vs), long_field n h)

short_more : (n k : ℕ) (vs : List ℕ) → n < 2 ^ 32 → length (fields_text vs) ≤ k → length (fields_text (n ∷ vs)) ≤ 11 + k
unfolding fields_text
short_more n k vs h l = omega (arith, length-append (field_text n) (fields_text vs), short-field n h)

short_fields : (n : ℕ) (f : ℕ → ℕ) → ((i : ℕ) → f i < 2 ^ 32) → length (fields_text (tabulate n f)) ≤ 11 * n
unfolding tabulate fields_text
short_fields zero f h = omega arith
short_fields (suc n) f h = omega (arith, short_more (f zero) (11 * n) (tabulate n (λ k. f (suc k))) (h zero) (short_fields n (λ k. f (suc k)) (λ k. h (suc k))))

-- the numbers of a frame fit their words
pub record FrameWords (f : Figures) (litres depths : List ℕ) : Type 0 where
  pub steps_are : f.steps < 2 ^ 64
  pub clock_is : f.clock < 2 ^ 64
  pub length_is : f.length < 2 ^ 64
  pub outflow_is : f.outflow < 2 ^ 64
  pub soaked_is : f.soaked < 2 ^ 64
  pub kept_are : f.kept < 2 ^ 64
  pub room_is : f.room < 2 ^ 64
  pub ground_is : f.on_ground < 2 ^ 64
  pub start_is : f.start < 2 ^ 64
  pub given_is : f.given < 2 ^ 64
  pub litres_are : (i : ℕ) → get_or litres i 0 < 2 ^ 32
  pub depths_are : (i : ℕ) → get_or depths i 0 < 2 ^ 32

module _ (f : Figures) (litres : List ℕ) (s : Shape) (marks depths : List ℕ) (fine : ShapeInRange s) (w : FrameWords f litres depths) where
  ten_short : length (fields_text (figures_of f)) ≤ 210
  ten_short =
      long_more f.steps 189 _ w.steps_are
      (long_more f.clock 168 _ w.clock_is
      (long_more f.length 147 _ w.length_is
      (long_more f.outflow 126 _ w.outflow_is
      (long_more f.soaked 105 _ w.soaked_is
      (long_more f.kept 84 _ w.kept_are
      (long_more f.room 63 _ w.room_is
      (long_more f.on_ground 42 _ w.ground_is (long_more f.start 21 _ w.start_is (long_more f.given 0 [] w.given_is no_fields)))))))))

  figures-short : length (figures_text f) ≤ 216
  unfolding figures_text
  figures-short = omega (arith, line_text_long frame_word (figures_of f), ten_short)

  rates-short : length (rates_text litres) ≤ 105
  unfolding rates_text
  rates-short =
      omega (arith, line_text_long rates_word (tabulate 9 (λ n. get_or litres n 0)), short_fields 9 (λ n. get_or litres n 0) w.litres_are)

  square_short : (i : ℕ) → length (square_text marks depths i) ≤ 11
  unfolding square_text
  square_short i = pick_both (λ (t : List ℕ). length t ≤ 11) (closed marks i) (omega arith) (short-field (get_or depths i 0) (w.depths_are i))

  -- 64 squares a row, 64 rows
  row-short : (first : ℕ) → length (row_text marks depths s.columns first) ≤ 708
  unfolding row_text
  row-short first =
      let squares = joined s.columns (λ c. square_text marks depths (first + c)) in
      omega (
        arith,
        length-append row_word (squares ++ (newline ∷ [])),
        length-append squares (newline ∷ []),
        joined-short s.columns 11 (λ c. square_text marks depths (first + c)) (λ c l. square_short (first + c)),
        fine.columns_high,
      )

  rows_short : length (rows_text s marks depths) ≤ 708 * s.rows
  unfolding rows_text
  rows_short = joined-short s.rows 708 (λ r. row_text marks depths s.columns (r * s.columns)) (λ r l. row-short (r * s.columns))

  pub frame_short : length (frame_text f litres s marks depths) ≤ most_frame
  unfolding frame_text
  frame_short =
      omega (
        arith,
        length-append (figures_text f) (rates_text litres ++ rows_text s marks depths),
        length-append (rates_text litres) (rows_text s marks depths),
        figures-short,
        rates-short,
        rows_short,
        fine.rows_high,
      )

-- ---- walls: depths that agree on squares not closed give the same text

module _ (marks : List ℕ) {d e : List ℕ} (h : Alike marks d e) where
  field_same : (i : ℕ) → square_text marks d i ≡ square_text marks e i
  unfolding square_text
  field_same i = unless_closed marks i (tab ∷ 120 ∷ []) (λ o. ap field_text (h.at i o))

  row_same : (columns first : ℕ) → row_text marks d columns first ≡ row_text marks e columns first
  unfolding row_text
  row_same columns first =
      ap (λ (l : List ℕ). row_word ++ (l ++ (newline ∷ []))) (joined_ext columns _ _ (λ c l. field_same (first + c)))

  pub frame_same : (f : Figures) (litres : List ℕ) (s : Shape) → frame_text f litres s marks d ≡ frame_text f litres s marks e
  unfolding frame_text rows_text
  frame_same f litres s =
      ap (λ (l : List ℕ). figures_text f ++ (rates_text litres ++ l)) (joined_ext s.rows _ _ (λ r l. row_same s.columns (r * s.columns)))
