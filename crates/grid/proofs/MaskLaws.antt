-- Laws of masks: a mask's bits are the answers of the row's squares, and its ones are counted square by square; and a row slice filled
-- row by row is the list of masks.
-- Assumes nothing.
use mathlib.Core.Path.{◌≡◌, refl, sym, ap, ap₂, ◌∙◌}
use mathlib.Core.Bool.{Bool, true, false, ◌&&◌}
use mathlib.Core.List.{List}
use Prim.Native.Nat.{ℕ, zero, suc, ◌+◌, ◌-◌, ◌*◌, ◌/◌, ◌%◌, ◌^◌, ◌≤◌, ◌<◌}
use native.Mathlib.Nat.{le_refl, le_trans, pow-suc, add_comm, add-suc, add-zero, zero-add, add_assoc, suc-mul, zero-mul, mul_assoc, zero-div, div-one, div-div-eq-div-mul}
use native.Mathlib.Decide.{dec_lt}
use native.Mathlib.Omega.{arith}
use lib.Dec.{leb, ltb, eqb, lit<}
use lib.ListN.{length, get_or, set}
use lib.Count.{ones, ones_step}
use lib.Pow.{pow_mono, pow-add}
use borrow.Author.Tests.{lt-ltb, le-ltb}
use Rattle.reckon.specs.Tests.{pick}
use Rattle.reckon.specs.Lists.{tabulate, filled, sum_below}
use Rattle.reckon.proofs.ListLaws.{length-tabulate, get_or-tabulate, is_tabulate, tabulate_ext, length-filled, filled_in, filled_none, filled_store, sum_ext}
use Rattle.grid.specs.declared.squares.Shape.{Shape}
use Rattle.grid.specs.Squares.{squares, square_at}
use Rattle.grid.specs.Marks.{closed, Alike}
use Rattle.grid.specs.Masks.{bits, is_wet, digit, mask_from, row_mask, wet_masks, bit_at}

-- ---- digits

digit_le : (b : Bool) → digit b ≤ 1
unfolding digit pick
digit_le true = omega arith
digit_le false = omega arith

digit_is : (b : Bool) → eqb (digit b) 1 ≡ b
unfolding digit pick
digit_is true = refl
digit_is false = refl

ltb-suc : (a b : ℕ) → ltb a b ≡ ltb (suc a) (suc b)
ltb-suc a b = go (dec_lt a b)
  where
    go : Dec (a < b) → ltb a b ≡ ltb (suc a) (suc b)
    go (yes l) = lt-ltb a b l ∙ sym (lt-ltb (suc a) (suc b) (omega arith))
    go (no l) = le-ltb a b (omega arith) ∙ sym (le-ltb (suc a) (suc b) (omega arith))

-- ---- the bits of a mask

pub bit_low : (x : ℕ) → bit_at x 0 ≡ eqb (x % 2) 1
unfolding bit_at
bit_low x = ap (λ (y : ℕ). eqb (y % 2) 1) (div-one x)

-- the bits from c on
pub bit_shifted : (x c k : ℕ) → bit_at x (c + k) ≡ bit_at (x / 2 ^ c) k
unfolding bit_at
bit_shifted x c k =
    ap (λ (y : ℕ). eqb (y % 2) 1) (ap (λ (y : ℕ). x / y) (pow-add 2 c k) ∙ sym (div-div-eq-div-mul x (2 ^ c) (2 ^ k)))

pub bit_high : (x k : ℕ) → bit_at x (suc k) ≡ bit_at (x / 2) k
bit_high x k = ap (bit_at x) (let e : suc k ≡ 1 + k = omega arith in e) ∙ bit_shifted x 1 k

module _ (says : ℕ → Bool) where
  mask_low : (i n : ℕ) → mask_from says i (suc n) % 2 ≡ digit (says i)
  unfolding mask_from
  mask_low i n = omega (arith, digit_le (says i))

  mask_high : (i n : ℕ) → mask_from says i (suc n) / 2 ≡ mask_from says (suc i) n
  unfolding mask_from
  mask_high i n = omega (arith, digit_le (says i))

  pub mask_small : (i n : ℕ) → mask_from says i n < 2 ^ n
  unfolding mask_from
  mask_small i zero = lit< tt
  mask_small i (suc n) = omega (arith, mask_small (suc i) n, digit_le (says i), pow-suc 2 n)

  no_bit : (i c : ℕ) → bit_at (mask_from says i 0) c ≡ false
  unfolding mask_from bit_at
  no_bit i c = rw (zero-div (2 ^ c))

  -- bit c is set exactly where column c is one of the n and says yes
  pub mask_bit : (i n c : ℕ) → bit_at (mask_from says i n) c ≡ (ltb c n && says (i + c))
  mask_bit i zero c = no_bit i c ∙ rw (le-ltb c 0 (omega arith))
  mask_bit i (suc n) zero =
      rw (lt-ltb 0 (suc n) (omega arith))
      (bit_low (mask_from says i (suc n)) ∙ (ap (λ (y : ℕ). eqb y 1) (mask_low i n) ∙ (digit_is (says i) ∙ ap says (sym (add-zero i)))))
  mask_bit i (suc n) (suc c) =
      bit_high (mask_from says i (suc n)) c
      ∙ (ap (λ (y : ℕ). bit_at y c) (mask_high i n)
      ∙ (mask_bit (suc i) n c
      ∙ ap₂ (λ (b : Bool) (k : ℕ). b && says k) (ltb-suc c n) (let e : suc i + c ≡ i + suc c = omega arith in e)))

  pub mask_in : (i : ℕ) {n c : ℕ} → c < n → bit_at (mask_from says i n) c ≡ says (i + c)
  mask_in i {n} {c} h = mask_bit i n c ∙ rw (lt-ltb c n h)

  pub mask_past : (i : ℕ) {n c : ℕ} → n ≤ c → bit_at (mask_from says i n) c ≡ false
  mask_past i {n} {c} h = mask_bit i n c ∙ rw (le-ltb c n h)

  -- the first n columns and the m after them
  pub mask_parts : (i n m : ℕ) → mask_from says i (n + m) ≡ mask_from says i n + mask_from says (i + n) m * 2 ^ n
  unfolding mask_from
  mask_parts i zero m = ap₂ (mask_from says) (sym (add-zero i)) (zero-add m) ∙ (let e : mask_from says (i + 0) m ≡ 0 + mask_from says (i + 0) m * 1 = omega arith in e)
  mask_parts i (suc n) m =
      ap (mask_from says i) (let e : suc n + m ≡ suc (n + m) = omega arith in e)
      ∙ (ap (λ (x : ℕ). digit (says i) + x * 2) (mask_parts (suc i) n m)
      ∙ (join (digit (says i)) (mask_from says (suc i) n) (mask_from says (suc i + n) m) (2 ^ n)
      ∙ ap₂ (λ (x y : ℕ). digit (says i) + mask_from says (suc i) n * 2 + mask_from says x m * y) (let e : suc i + n ≡ i + suc n = omega arith in e) (sym (pow-suc 2 n))))
    where
      join : (a b c d : ℕ) → a + (b + c * d) * 2 ≡ a + b * 2 + c * (d * 2)
      join a b c d = omega (arith, mul_assoc c d 2)

  -- a row made from its first column up: one column more, and columns that say no
  pub mask_more : (i n : ℕ) → mask_from says i (n + 1) ≡ mask_from says i n + digit (says (i + n)) * 2 ^ n
  unfolding mask_from
  mask_more i n = mask_parts i n 1 ∙ ap (λ (x : ℕ). mask_from says i n + x * 2 ^ n) (let e : digit (says (i + n)) + 0 * 2 ≡ digit (says (i + n)) = omega arith in e)

  no_digit : (x k : ℕ) → x + digit false * 2 ^ k ≡ x
  unfolding digit pick
  no_digit x k = ap (λ (y : ℕ). x + y) (zero-mul (2 ^ k)) ∙ add-zero x

  -- one more that says no changes nothing
  pub mask_idle : (i n : ℕ) → says (i + n) ≡ false → mask_from says i (n + 1) ≡ mask_from says i n
  mask_idle i n e = mask_more i n ∙ (ap (λ (b : Bool). mask_from says i n + digit b * 2 ^ n) e ∙ no_digit (mask_from says i n) n)

-- ---- the ones of masks

pub sum_parts : (n m : ℕ) (f : ℕ → ℕ) → sum_below (n + m) f ≡ sum_below n f + sum_below m (λ k. f (n + k))
unfolding sum_below
sum_parts n zero f = ap (λ (k : ℕ). sum_below k f) (add-zero n) ∙ sym (add-zero (sum_below n f))
sum_parts n (suc m) f =
    ap (λ (k : ℕ). sum_below k f) (add-suc n m)
    ∙ (ap (λ (k : ℕ). k + f (n + m)) (sum_parts n m f) ∙ add_assoc (sum_below n f) (sum_below m (λ k. f (n + k))) (f (n + m)))

no_ones : (says : ℕ → Bool) (i : ℕ) → ones (mask_from says i 0) ≡ sum_below 0 (λ c. digit (says (i + c)))
unfolding mask_from sum_below ones
no_ones says i = refl

sum_first :
    (says : ℕ → Bool) (i n : ℕ) →
    sum_below (suc n) (λ c. digit (says (i + c))) ≡ digit (says i) + sum_below n (λ c. digit (says (suc i + c)))
unfolding sum_below
sum_first says i n =
    ap (λ (k : ℕ). sum_below k (λ c. digit (says (i + c)))) (let e : suc n ≡ 1 + n = omega arith in e)
    ∙ (sum_parts 1 n (λ c. digit (says (i + c)))
    ∙ ap₂ ◌+◌ (zero-add (digit (says (i + 0))) ∙ ap (λ (k : ℕ). digit (says k)) (add-zero i))
    (sum_ext n _ _ (λ k l. ap (λ (j : ℕ). digit (says j)) (let e : i + (1 + k) ≡ suc i + k = omega arith in e))))

pub ones_of_mask : (says : ℕ → Bool) (i n : ℕ) → ones (mask_from says i n) ≡ sum_below n (λ c. digit (says (i + c)))
ones_of_mask says i zero = no_ones says i
ones_of_mask says i (suc n) =
    ones_step (mask_from says i (suc n))
    ∙ (ap₂ (λ (x y : ℕ). x + ones y) (mask_low says i n) (mask_high says i n)
    ∙ (ap (λ (x : ℕ). digit (says i) + x) (ones_of_mask says (suc i) n) ∙ sym (sum_first says i n)))

-- the ones over all rows are the squares that say yes
pub ones_of_rows :
    (s : Shape) (says : ℕ → Bool) → sum_below s.rows (λ row. ones (row_mask s says row)) ≡ sum_below (squares s) (λ i. digit (says i))
unfolding sum_below
ones_of_rows s says = go s.rows
  where
    go : (rows : ℕ) → sum_below rows (λ row. ones (row_mask s says row)) ≡ sum_below (rows * s.columns) (λ i. digit (says i))
    go zero = ap (λ (k : ℕ). sum_below k (λ i. digit (says i))) (sym (zero-mul s.columns))
    go (suc rows) =
        ap₂ ◌+◌ (go rows) (ones_of_mask says (rows * s.columns) s.columns)
        ∙ (sym (sum_parts (rows * s.columns) s.columns (λ i. digit (says i)))
        ∙ ap (λ (k : ℕ). sum_below k (λ i. digit (says i))) (sym (suc-mul rows s.columns)))

-- ---- a row made from its last column down: what is passed so far, one column more, and the end

module _ (says : ℕ → Bool) (first columns : ℕ) where
  abbrev pub Built : ℕ → ℕ → Type 0
  Built left mask = (left ≤ columns) × (mask ≡ mask_from says (first + left) (columns - left))

  pub row_none : Built columns 0
  unfolding mask_from
  row_none = (le_refl columns, ap (mask_from says (first + columns)) (let e : 0 ≡ columns - columns = omega arith in e))

  module _ {left mask : ℕ} (p : Built left mask) where
    pub row_small : 0 < left → columns ≤ bits → mask < 2 ^ 63
    row_small h g =
        rw p.1
        (le_trans (mask_small says (first + left) (columns - left)) (pow_mono {i = columns - left} {j = 63} (omega (arith, p.0))))

    -- one column more fits
    pub bit_fits : (b : Bool) {bit : ℕ} → 0 < left → columns ≤ bits → bit ≡ digit b → mask * 2 + bit < 2 ^ bits
    bit_fits b h g e = omega (arith, row_small h g, digit_le b)

    pub row_more : {bit : ℕ} → 0 < left → bit ≡ digit (says (first + (left - 1))) → Built (left - 1) (mask * 2 + bit)
    unfolding mask_from
    row_more {bit} h e =
        let more : columns - (left - 1) ≡ suc (columns - left) = omega (arith, p.0) in
        let next : first + left ≡ suc (first + (left - 1)) = omega arith in (
          omega (arith, p.0),
          add_comm (mask * 2) bit
              ∙ (ap₂ (λ (x y : ℕ). x + y * 2) e (p.1 ∙ ap (λ (x : ℕ). mask_from says x (columns - left)) next)
              ∙ ap (mask_from says (first + (left - 1))) (sym more)),
        )

    -- n columns more
    pub rows_small : (n : ℕ) → n ≤ left → columns ≤ bits → mask < 2 ^ (bits - n)
    rows_small n h g =
        rw p.1
        (le_trans (mask_small says (first + left) (columns - left)) (pow_mono {i = columns - left} {j = bits - n} (omega (arith, p.0))))

    pub columns_more : (n : ℕ) {part : ℕ} → n ≤ left → part ≡ mask_from says (first + (left - n)) n → Built (left - n) (mask * 2 ^ n + part)
    columns_more n {part} h e =
        let at : first + (left - n) + n ≡ first + left = omega arith in
        let all : n + (columns - left) ≡ columns - (left - n) = omega (arith, p.0) in (
          omega (arith, p.0),
          add_comm (mask * 2 ^ n) part
              ∙ (ap₂ (λ (x y : ℕ). x + y * 2 ^ n) e (p.1 ∙ ap (λ (x : ℕ). mask_from says x (columns - left)) (sym at))
              ∙ (sym (mask_parts says (first + (left - n)) n (columns - left)) ∙ ap (mask_from says (first + (left - n))) all)),
        )

    pub row_whole : left ≤ 0 → mask ≡ mask_from says first columns
    row_whole h =
        p.1
        ∙ ap₂ (mask_from says) (let e : first + left ≡ first = omega arith in e) (let e : columns - left ≡ columns = omega arith in e)

-- ---- wet squares, and depths that are alike

module _ (marks depths : List ℕ) (least i : ℕ) where
  pub wet_closed : closed marks i ≡ true → is_wet marks depths least i ≡ false
  unfolding is_wet
  wet_closed e = rw e

  pub wet_open : closed marks i ≡ false → is_wet marks depths least i ≡ leb least (get_or depths i 0)
  unfolding is_wet
  wet_open e = rw e

wet_alike :
    (marks : List ℕ) {a b : List ℕ} → Alike marks a b → (least i : ℕ) → is_wet marks a least i ≡ is_wet marks b least i
wet_alike marks {a} {b} h least i = go (closed marks i) refl
  where
    go : (t : Bool) → closed marks i ≡ t → is_wet marks a least i ≡ is_wet marks b least i
    go true e = wet_closed marks a least i e ∙ sym (wet_closed marks b least i e)
    go false e = wet_open marks a least i e ∙ (ap (leb least) (h.at i e) ∙ sym (wet_open marks b least i e))

-- the mask of a row depends on no closed square
mask_alike :
    (marks : List ℕ) {a b : List ℕ} → Alike marks a b → (least first n : ℕ) →
    mask_from (is_wet marks a least) first n ≡ mask_from (is_wet marks b least) first n
mask_alike marks h least first n = λ j. mask_from (λ i. wet_alike marks h least i j) first n

-- ---- the masks of all rows

-- no row is skipped
abbrev none : ℕ → Bool
none row = false

-- after some rows: where the next begins, and the slice filled so far
module _ (says : ℕ → Bool) (columns : ℕ) (old : List ℕ) where
  abbrev mask_of : ℕ → ℕ
  mask_of row = mask_from says (row * columns) columns

  abbrev pub Rowed : List ℕ → ℕ → Type 0
  Rowed rows row = rows ≡ filled row none mask_of old

  pub rowed_none : Rowed old 0
  rowed_none = filled_none none mask_of old

  module _ (row : ℕ) {rows : List ℕ} (r : Rowed rows row) where
    pub rowed_long : length rows ≡ length old
    rowed_long = ap length r ∙ length-filled row none mask_of old

    pub rowed_more : {first mask : ℕ} → first ≡ row * columns → row < length old → mask ≡ mask_from says first columns → Rowed (set rows row mask) (row + 1)
    rowed_more {mask = mask} b h e =
        ap (λ (l : List ℕ). set l row mask) r ∙ filled_store none mask_of old row h refl (e ∙ ap (λ (k : ℕ). mask_from says k columns) b)

    rowed_whole : length old ≤ row → rows ≡ tabulate (length old) mask_of
    rowed_whole h =
        r
        ∙ is_tabulate (length old) mask_of (filled row none mask_of old) (length-filled row none mask_of old)
        (λ i l. filled_in row none mask_of old i l (omega arith) refl)

-- all rows
pub rows_whole :
    (s : Shape) (says : ℕ → Bool) (old : List ℕ) (row : ℕ) {rows : List ℕ} → length old ≡ s.rows → s.rows ≤ row →
    Rowed says s.columns old rows row → rows ≡ tabulate s.rows (row_mask s says)
rows_whole s says old row long h r =
    rowed_whole says s.columns old row r (omega arith) ∙ ap (λ (n : ℕ). tabulate n (row_mask s says)) long

module _ (s : Shape) (marks depths : List ℕ) (least : ℕ) where
  pub masks_whole :
      (old : List ℕ) (row : ℕ) {rows : List ℕ} → length old ≡ s.rows → s.rows ≤ row →
      Rowed (is_wet marks depths least) s.columns old rows row → rows ≡ wet_masks s marks depths least
  unfolding wet_masks
  masks_whole old row long h r = rows_whole s (is_wet marks depths least) old row long h r

  pub masks_long : {rows : List ℕ} → rows ≡ wet_masks s marks depths least → length rows ≡ s.rows
  unfolding wet_masks
  masks_long e = ap length e ∙ length-tabulate s.rows _

  -- "bit c set exactly when the square in column c is" wet; past the last column no bit is set
  module _ {row : ℕ} (h : row < s.rows) where
    row_is : get_or (wet_masks s marks depths least) row 0 ≡ row_mask s (is_wet marks depths least) row
    unfolding wet_masks
    row_is = get_or-tabulate s.rows _ row h

    pub bit_is :
        {column : ℕ} → column < s.columns →
        bit_at (get_or (wet_masks s marks depths least) row 0) column ≡ is_wet marks depths least (square_at s row column)
    bit_is {column} l = ap (λ (m : ℕ). bit_at m column) row_is ∙ mask_in (is_wet marks depths least) (row * s.columns) l

    pub bit_past : {column : ℕ} → s.columns ≤ column → bit_at (get_or (wet_masks s marks depths least) row 0) column ≡ false
    bit_past {column} l = ap (λ (m : ℕ). bit_at m column) row_is ∙ mask_past (is_wet marks depths least) (row * s.columns) l

-- nor do the masks of all rows depend on a closed square
pub masks_alike :
    (s : Shape) (marks : List ℕ) {a b : List ℕ} → Alike marks a b → (least : ℕ) → wet_masks s marks a least ≡ wet_masks s marks b least
unfolding wet_masks
masks_alike s marks h least =
    tabulate_ext s.rows _ _ (λ row l. mask_alike marks h least (row * s.columns) s.columns)
