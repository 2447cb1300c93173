-- Lines that are written of what can be said read back: heading and tables, whatever the squares' lines are, and where each of these stands.
-- Assumes nothing.
use Rattle.std.proofs.Common.{Option, Some, is_some, option_map}
use mathlib.Core.Path.{◌≡◌, refl, sym, ap, ap₂, subst, ◌∙◌}
use mathlib.Core.Bool.{true, false}
use mathlib.Core.List.{List, [], ◌∷◌, ◌++◌, append_assoc}
use Prim.Native.Nat.{ℕ, zero, suc, ◌+◌, ◌*◌, ◌≤◌, ◌<◌}
use native.Mathlib.Nat.{mul-zero, mul-suc, add-zero}
use native.Mathlib.Omega.{arith}
use lib.ListN.{length, get_or, take, drop, length-append, length-drop}
use lib.Seq.{length-take-le, get_or-drop, take-add, take_all}
use Rattle.reckon.specs.Lists.{joined, tabulate}
use Rattle.reckon.specs.Tables.{rain_kind, inflow_kind}
use Rattle.reckon.proofs.TestLaws.{pick_false, failing_at}
use Rattle.reckon.proofs.ListLaws.{length-tabulate, tabulate_ext, joined_ext}
use Rattle.grid.specs.Squares.{squares}
use Rattle.grid.specs.declared.squares.Shape.{Shape}
use Rattle.text.specs.Reading.{Reading, newline, most_number, most_fields, word_at, read_line, as_fields, padded, line_of, next_line, line_from}
use Rattle.text.specs.Reading.Reading.{read}
use Rattle.text.specs.Writing.{fields_text, rest_text, line_text}
use Rattle.text.specs.Inner.Standing.{plain, Readable, StandsAt}
use Rattle.text.specs.declared.reading.Fields.{Fields}
use Rattle.text.proofs.JoinedLaws.{joined_stands}
use Rattle.text.proofs.ReadingLaws.{by_lt, word_past, word_differs}
use Rattle.text.proofs.StandLaws.{stands_first, stands_second, byte_stands, front_stands, back_stands}
use Rattle.text.proofs.LineLaws.{plain_both, plain_fields, line_ends}
use Rattle.text.proofs.RoundTrip.{line-back, take-padded}
use Rattle.text.proofs.WritingLaws.{line_text_long}
use Rattle.sheet.specs.Lines.{grid_word, run_word, rain_word, inflow_word, grid_fields, run_fields, as_grid, grid_line, as_run, run_line}
use Rattle.sheet.specs.Sheet.{grid_or, run_or, fields_or, row_at, has_row, Rooms, row_line, rows_read, table_rows, line_one, line_two, shape_of, cells_at, rain_at, rain_rows, rain_table, inflow_at, inflow_rows, inflow_table, after_all, heading_of}
use Rattle.sheet.specs.Written.{grid_written, run_written, row_written, lines_written}
use Rattle.sheet.specs.declared.lines.GridLine.{GridLine}
use Rattle.sheet.specs.declared.lines.RunLine.{RunLine}
use Rattle.sheet.specs.declared.reading.Heading.{Heading}
use Rattle.sheet.proofs.LetterLaws.{first_of}
use Rattle.sheet.proofs.ReadLaws.{plain-grid, plain-run, plain_rain, plain_inflow}
use Rattle.survey.specs.Inner.Writing.{Sayable}

-- ---- numbers that can be read

pub readable_at : (l : List ℕ) → Readable l → (i : ℕ) → get_or l i 0 ≤ most_number
readable_at [] h i = omega arith
readable_at (v ∷ l) h zero = h.0
readable_at (v ∷ l) h (suc i) = readable_at l h.1 i

pub readable_all : (l : List ℕ) → ((i : ℕ) → i < length l → get_or l i 0 ≤ most_number) → Readable l
readable_all [] h = tt
readable_all (v ∷ l) h = (h 0 (omega arith), readable_all l (λ i k. h (suc i) (omega arith)))

pub readable_tabulate : (n : ℕ) (f : ℕ → ℕ) → ((i : ℕ) → i < n → f i ≤ most_number) → Readable (tabulate n f)
unfolding tabulate
readable_tabulate zero f h = tt
readable_tabulate (suc n) f h = (h 0 (omega arith), readable_tabulate n (λ i. f (suc i)) (λ i l. h (suc i) (omega arith)))

-- ---- a line of a kind

line_next_is : {s : List ℕ} {p q : ℕ} (word vs : List ℕ) → plain word ≡ true → StandsAt s p (line_text word vs) q → next_line s p ≡ q
unfolding line_text rest_text
line_next_is {s} {p} {q} word vs w a =
    line_ends (word ++ fields_text vs) (plain_both word (fields_text vs) w (plain_fields vs))
    (subst (λ (t : List ℕ). StandsAt s p t q) (sym (append_assoc word (fields_text vs) (newline ∷ []))) a)

-- how it is read: as many numbers as it has
line_of_is :
    {s : List ℕ} {p q : ℕ} (word vs : List ℕ) (count : ℕ) → length vs ≡ count → Readable vs → StandsAt s p (line_text word vs) q →
    line_of s p word count ≡ as_fields (read vs q)
line_of_is {s} {p} {q} word vs count e h a = ap as_fields (ap (read_line s p word) (sym e) ∙ line-back word vs a h)

-- ---- lines that stand one after the other, each ended by its newline

pub record Line (t : List ℕ) : Type 0 where
  pub text : List ℕ
  pub plain_is : plain text ≡ true
  pub same : t ≡ text ++ (newline ∷ [])

module _ {s : List ℕ} {p q : ℕ} (n : ℕ) (f : ℕ → List ℕ) (lines : (i : ℕ) → i < n → Line (f i)) (a : StandsAt s p (joined n f) q) where
  start_is : (i : ℕ) → i ≤ n → line_from s p i ≡ p + length (joined i f)
  unfolding line_from joined
  start_is zero h = sym (add-zero p)
  start_is (suc i) h =
      let l : i < n = omega arith in
      let here : StandsAt s (p + length (joined i f)) (f i) (p + length (joined (suc i) f)) = joined_stands n f a i l in
      ap (next_line s) (start_is i (omega arith))
      ∙ line_ends (lines i l).text (lines i l).plain_is
      (subst (λ (t : List ℕ). StandsAt s (p + length (joined i f)) t (p + length (joined (suc i) f))) (lines i l).same here)

  line-at : (i : ℕ) → i < n → StandsAt s (line_from s p i) (f i) (line_from s p (suc i))
  line-at i h =
      subst (λ (k : ℕ). StandsAt s k (f i) (line_from s p (suc i))) (sym (start_is i (omega arith)))
      (subst (λ (k : ℕ). StandsAt s (p + length (joined i f)) (f i) k) (sym (start_is (suc i) h)) (joined_stands n f a i h))

  all_end : line_from s p n ≡ q
  all_end = start_is n (omega arith) ∙ sym a.after

line_long : {t : List ℕ} → Line t → 1 ≤ length t
line_long {t} l = omega (arith, ap length l.same, length-append l.text (newline ∷ []))

joined_many : (n : ℕ) (f : ℕ → List ℕ) → ((i : ℕ) → i < n → 1 ≤ length (f i)) → n ≤ length (joined n f)
unfolding joined
joined_many zero f h = omega arith
joined_many (suc n) f h =
    omega (arith, length-append (joined n f) (f n), joined_many n f (λ i l. h i (omega arith)), h n (omega arith))

row-line : (word vs : List ℕ) → plain word ≡ true → Line (line_text word vs)
unfolding line_text rest_text
row-line word vs w =
    record {
      text = word ++ fields_text vs;
      plain_is = plain_both word (fields_text vs) w (plain_fields vs);
      same = sym (append_assoc word (fields_text vs) (newline ∷ []));
    }

-- ---- a table

-- row j of a table, whose rows stand one after the other
abbrev row_of : ℕ → List ℕ → ℕ → List ℕ
row_of width table j = tabulate width (λ k. get_or table (width * j + k) 0)

row_cut : (width j : ℕ) (table : List ℕ) → width * j + width ≤ length table → take width (drop (width * j) table) ≡ row_of width table j
row_cut width j table h =
    let long : length (take width (drop (width * j) table)) ≡ width = length-take-le width (drop (width * j) table) (omega (arith, length-drop (width * j) table, h)) in
    first_of width (drop (width * j) table) long
    ∙ tabulate_ext width (λ k. get_or (drop (width * j) table) k 0) (λ k. get_or table (width * j + k) 0) (λ k l. get_or-drop (width * j) table k 0)

-- a table that is cut into its rows and joined again
cut_up : (width n : ℕ) (table : List ℕ) → width * n ≤ length table → joined n (row_of width table) ≡ take (width * n) table
unfolding joined
cut_up width zero table h = sym (ap (λ (k : ℕ). take k table) (mul-zero width))
cut_up width (suc n) table h =
    let more = mul-suc width n in
    ap (λ (r : List ℕ). r ++ row_of width table n) (cut_up width n table (omega (arith, more, h)))
    ∙ (ap (λ (r : List ℕ). take (width * n) table ++ r) (sym (row_cut width n table (omega (arith, more, h))))
    ∙ (sym (take-add (width * n) width table) ∙ ap (λ (k : ℕ). take k table) (sym more)))

module _
    {s : List ℕ} {p q : ℕ} (word : List ℕ) (width rows : ℕ) (table : List ℕ) (few : width ≤ most_fields) (w : plain word ≡ true)
    (long : length table ≡ width * rows) (small : Readable table) (a : StandsAt s p (joined rows (row_written word width table)) q)
    (stop : word_at s q word ≡ false) (inside : 1 ≤ p) (within : q ≤ length s) where
  rows_lined : (j : ℕ) → j < rows → Line (row_written word width table j)
  unfolding row_written
  rows_lined j l = row-line word (row_of width table j) w

  row_is : (j : ℕ) → j < rows → row_at s p word width j ≡ as_fields (read (row_of width table j) (line_from s p (suc j)))
  unfolding row_written
  row_is j l =
      line_of_is word (row_of width table j) width (length-tabulate width (λ k. get_or table (width * j + k) 0))
      (readable_tabulate width (λ k. get_or table (width * j + k) 0) (λ k h. readable_at table small (width * j + k)))
      (line-at rows (row_written word width table) rows_lined a j l)

  row-found : (j : ℕ) → j < rows → has_row s p word width j ≡ true
  unfolding as_fields
  row-found j l = ap is_some (row_is j l)

  table_end : line_from s p rows ≡ q
  table_end = all_end rows (row_written word width table) rows_lined a

  last_unfound : has_row s p word width rows ≡ false
  unfolding read_line as_fields
  last_unfound =
      ap (λ (r : Reading). is_some (as_fields r)) (pick_false _ _ (ap (λ (k : ℕ). word_at s k word) table_end ∙ stop))

  rows_back : rows_read s p word width ≡ rows
  unfolding rows_read
  rows_back =
      failing_at (length s) (has_row s p word width) rows
      (omega (arith, joined_many rows (row_written word width table) (λ j l. line_long (rows_lined j l)), a.after, inside, within))
      row-found last_unfound

  values_are : (j : ℕ) → j < rows → take width (row_line s p word width j).values ≡ row_of width table j
  unfolding as_fields
  values_are j l =
      let wide = length-tabulate width (λ k. get_or table (width * j + k) 0) in
      ap (λ (f : Option Fields). take width (fields_or f).values) (row_is j l)
      ∙ (ap (λ (k : ℕ). take k (padded (row_of width table j))) (sym wide) ∙ take-padded (row_of width table j) (omega (arith, wide, few)))

  table_back : (n : ℕ) → n ≡ rows → table_rows s p word width n ≡ table
  unfolding table_rows
  table_back n e =
      ap (λ (k : ℕ). joined k (λ j. take width (row_line s p word width j).values)) e
      ∙ (joined_ext rows (λ j. take width (row_line s p word width j).values) (row_of width table) values_are
      ∙ (cut_up width rows table (omega (arith, long)) ∙ take_all (width * rows) table (omega (arith, long))))

-- ---- the whole

module _
    (h : Heading) (held : Rooms) (say : Sayable h held) (cell : ℕ → List ℕ) (lined : (i : ℕ) → i < squares h.shape → Line (cell i)) where
  abbrev lines : List ℕ
  lines = lines_written h held cell

  abbrev vs₁ : List ℕ
  vs₁ = h.shape.rows ∷ h.shape.columns ∷ h.rules.square_side ∷ []

  abbrev vs₂ : List ℕ
  vs₂ = h.rules.tolerance ∷ h.rules.shortest ∷ h.rules.longest ∷ h.rules.update ∷ h.end ∷ h.rules.edge ∷ h.rules.edition ∷ []

  abbrev t₁ : List ℕ
  t₁ = line_text grid_word vs₁

  abbrev t₂ : List ℕ
  t₂ = line_text run_word vs₂

  abbrev t₃ : List ℕ
  t₃ = joined (squares h.shape) cell

  abbrev t₄ : List ℕ
  t₄ = joined h.rain_rows (row_written rain_word rain_kind.width held.rain)

  abbrev t₅ : List ℕ
  t₅ = joined h.inflow_rows (row_written inflow_word inflow_kind.width held.inflow)

  lines_are : lines ≡ t₁ ++ (t₂ ++ (t₃ ++ (t₄ ++ t₅)))
  unfolding lines_written grid_written run_written
  lines_are = refl

  -- where each part starts
  abbrev p₁ : ℕ
  p₁ = length t₁

  abbrev p₂ : ℕ
  p₂ = p₁ + length t₂

  abbrev p₃ : ℕ
  p₃ = p₂ + length t₃

  abbrev p₄ : ℕ
  p₄ = p₃ + length t₄

  s₁ : StandsAt lines 0 t₁ p₁
  s₁ = rw lines_are (front_stands t₁ (t₂ ++ (t₃ ++ (t₄ ++ t₅))))

  r₁ : StandsAt lines p₁ (t₂ ++ (t₃ ++ (t₄ ++ t₅))) (length lines)
  r₁ = rw lines_are (back_stands t₁ (t₂ ++ (t₃ ++ (t₄ ++ t₅))))

  s₂ : StandsAt lines p₁ t₂ p₂
  s₂ = stands_first t₂ (t₃ ++ (t₄ ++ t₅)) r₁

  r₂ : StandsAt lines p₂ (t₃ ++ (t₄ ++ t₅)) (length lines)
  r₂ = stands_second t₂ (t₃ ++ (t₄ ++ t₅)) r₁

  s₃ : StandsAt lines p₂ t₃ p₃
  s₃ = stands_first t₃ (t₄ ++ t₅) r₂

  r₃ : StandsAt lines p₃ (t₄ ++ t₅) (length lines)
  r₃ = stands_second t₃ (t₄ ++ t₅) r₂

  s₄ : StandsAt lines p₃ t₄ p₄
  s₄ = stands_first t₄ t₅ r₃

  s₅ : StandsAt lines p₄ t₅ (length lines)
  s₅ = stands_second t₄ t₅ r₃

  -- lines 1 and 2

  pub one_there : grid_line lines ≡ Some (record { shape = h.shape; side = h.rules.square_side; next = p₁ })
  unfolding grid_line as_grid as_fields padded tabulate
  one_there = ap (option_map as_grid) (line_of_is grid_word vs₁ grid_fields refl say.grid_small s₁)

  pub one_back : line_one lines ≡ record { shape = h.shape; side = h.rules.square_side; next = p₁ }
  one_back = ap grid_or one_there

  start_two : line_from lines 0 1 ≡ p₁
  unfolding line_from
  start_two = line_next_is grid_word vs₁ plain-grid s₁

  run_back : (p D : ℕ) → p ≡ p₁ → D ≡ h.rules.square_side → run_line lines p D ≡ Some (record { rules = h.rules; end = h.end; next = p₂ })
  unfolding run_line as_run as_fields padded tabulate
  run_back p D e d = rw (e, d) (ap (option_map (as_run h.rules.square_side)) (line_of_is run_word vs₂ run_fields refl say.run_small s₂))

  pub two_there : run_line lines (line_from lines 0 1) (line_one lines).side ≡ Some (record { rules = h.rules; end = h.end; next = p₂ })
  two_there = run_back (line_from lines 0 1) (line_one lines).side start_two (ap (λ (g : GridLine). g.side) one_back)

  pub two_back : line_two lines ≡ record { rules = h.rules; end = h.end; next = p₂ }
  two_back = ap (run_or (line_one lines).side) two_there

  pub shape_back : shape_of lines ≡ h.shape
  shape_back = ap (λ (g : GridLine). g.shape) one_back

  pub side_back : (line_one lines).side ≡ h.rules.square_side
  side_back = ap (λ (g : GridLine). g.side) one_back

  -- the squares' lines

  cells_back : cells_at lines ≡ p₂
  unfolding line_from
  cells_back = ap (next_line lines) start_two ∙ line_next_is run_word vs₂ plain-run s₂

  pub cell_at : (i : ℕ) → i < squares h.shape → StandsAt lines (line_from lines (cells_at lines) i) (cell i) (line_from lines (cells_at lines) (suc i))
  cell_at i l =
      subst (λ (p : ℕ). StandsAt lines (line_from lines p i) (cell i) (line_from lines p (suc i))) (sym cells_back)
      (line-at (squares h.shape) cell lined s₃ i l)

  -- the tables

  rain-at : rain_at lines ≡ p₃
  rain-at = ap₂ (λ (p : ℕ) (g : Shape). line_from lines p (squares g)) cells_back shape_back ∙ all_end (squares h.shape) cell lined s₃

  inflow_stop : word_at lines (length lines) inflow_word ≡ false
  inflow_stop = word_past lines (length lines) inflow_word (omega arith)

  no_rows : (n : ℕ) → n ≡ 0 → length (joined n (row_written inflow_word inflow_kind.width held.inflow)) ≡ 0
  unfolding joined
  no_rows n e = ap (λ (k : ℕ). length (joined k (row_written inflow_word inflow_kind.width held.inflow))) e

  rain_stop : word_at lines p₄ rain_word ≡ false
  unfolding row_written line_text joined
  rain_stop =
      by_lt 0 h.inflow_rows
      (λ l.
      let first = joined_stands h.inflow_rows (row_written inflow_word inflow_kind.width held.inflow) s₅ 0 l in
      let e : get_or lines (p₄ + 0) 0 ≡ 105 = (byte_stands first).0 in
      word_differs lines p₄ rain_word 0 (omega arith) (λ z. omega (arith, e, z)))
      (λ l. word_past lines p₄ rain_word (omega (arith, s₅.after, no_rows h.inflow_rows (omega arith))))

  low : 1 ≤ p₃
  low = omega (arith, line_text_long grid_word vs₁)

  pub rain_rows_back : rain_rows lines ≡ h.rain_rows
  rain_rows_back =
      ap (λ (p : ℕ). rows_read lines p rain_word rain_kind.width) rain-at
      ∙ rows_back rain_word rain_kind.width h.rain_rows held.rain (omega arith) plain_rain say.rain_long
      say.rain_small s₄ rain_stop low (omega (arith, s₅.after))

  pub rain_table_back : rain_table lines ≡ held.rain
  rain_table_back =
      ap (λ (p : ℕ). table_rows lines p rain_word rain_kind.width (rain_rows lines)) rain-at
      ∙ table_back rain_word rain_kind.width h.rain_rows held.rain (omega arith) plain_rain say.rain_long
      say.rain_small s₄ rain_stop low (omega (arith, s₅.after))
      (rain_rows lines) rain_rows_back

  inflow-at : inflow_at lines ≡ p₄
  inflow-at =
      ap₂ (λ (p k : ℕ). line_from lines p k) rain-at rain_rows_back
      ∙ table_end rain_word rain_kind.width h.rain_rows held.rain (omega arith) plain_rain say.rain_long
      say.rain_small s₄ rain_stop low (omega (arith, s₅.after))

  low₄ : 1 ≤ p₄
  low₄ = omega (arith, low)

  pub inflow_rows_back : inflow_rows lines ≡ h.inflow_rows
  inflow_rows_back =
      ap (λ (p : ℕ). rows_read lines p inflow_word inflow_kind.width) inflow-at
      ∙ rows_back inflow_word inflow_kind.width h.inflow_rows held.inflow (omega arith) plain_inflow say.inflow_long
      say.inflow_small s₅ inflow_stop low₄ (omega arith)

  pub inflow_table_back : inflow_table lines ≡ held.inflow
  inflow_table_back =
      ap (λ (p : ℕ). table_rows lines p inflow_word inflow_kind.width (inflow_rows lines)) inflow-at
      ∙ table_back inflow_word inflow_kind.width h.inflow_rows held.inflow (omega arith) plain_inflow say.inflow_long
      say.inflow_small s₅ inflow_stop low₄ (omega arith)
      (inflow_rows lines) inflow_rows_back

  pub after-back : after_all lines ≡ length lines
  after-back =
      ap₂ (λ (p k : ℕ). line_from lines p k) inflow-at inflow_rows_back
      ∙ table_end inflow_word inflow_kind.width h.inflow_rows held.inflow (omega arith) plain_inflow say.inflow_long
      say.inflow_small s₅ inflow_stop low₄ (omega arith)

  heading_same :
      {a b : Shape} {r : RunLine} {m n x y : ℕ} → a ≡ b → r ≡ record { rules = h.rules; end = h.end; next = p₂ } → m ≡ n → x ≡ y →
      ◌≡◌ {A = Heading} (record { shape = a; rules = r.rules; end = r.end; rain_rows = m; inflow_rows = x })
      (record { shape = b; rules = h.rules; end = h.end; rain_rows = n; inflow_rows = y })
  heading_same e f g k = cc

  pub heading_back : heading_of lines ≡ h
  unfolding heading_of
  heading_back = heading_same shape_back two_back rain_rows_back inflow_rows_back
