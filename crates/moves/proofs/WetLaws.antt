-- Laws of the walks: which squares a walk works, by their bits; that the others send nothing, soak nothing, have no candidate and stand in a
-- cleared record already; and a row's columns and all rows done one after the other.
-- Assumes nothing.
use mathlib.Core.Path.{◌≡◌, refl, sym, ap, ap₂, ◌∙◌, subst}
use mathlib.Core.Bool.{Bool, true, false, ◌&&◌, not}
use mathlib.Core.List.{List}
use Prim.Native.Nat.{ℕ, ◌+◌, ◌-◌, ◌*◌, ◌/◌, ◌%◌, ◌^◌, ◌≤◌, ◌<◌}
use native.Mathlib.Nat.{div-lt_iff_lt-mul}
use native.Mathlib.Decide.{dec_lt, ℕ_discrete}
use native.Mathlib.Omega.{arith}
use lib.Bits.{bit_or, and_le_l, and_le_r, or_add_and}
use lib.Dec.{eqb}
use lib.ListN.{length, get_or}
use lib.Pow.{pow_mono}
use borrow.Author.Tests.{leb-false, eqb-true, eq-eqb, not-false}
use Rattle.reckon.specs.Tests.{pick}
use Rattle.reckon.specs.Lists.{tabulate}
use Rattle.reckon.proofs.TestLaws.{not_both, and_left, and_right}
use Rattle.reckon.proofs.ListLaws.{get_or-tabulate}
use Rattle.grid.specs.declared.squares.Shape.{Shape}
use Rattle.grid.specs.declared.walks.Walk.{Walk}
use Rattle.grid.specs.declared.walks.Walk.TheVariants.{All, Wet}
use Rattle.grid.specs.Squares.{squares, ShapeInRange}
use Rattle.grid.specs.Masks.{bits, is_wet, digit, mask_from, row_mask, bit_at}
use Rattle.grid.specs.Walks.{bit_of}
use Rattle.grid.specs.Inner.Rows.{least_wet}
use Rattle.grid.proofs.SquareLaws.{square_in, column-within}
use Rattle.grid.proofs.MaskLaws.{Rowed, rows_whole, mask_in, mask_more, mask_idle, mask_small, wet_open}
use Rattle.grid.proofs.WalkLaws.{bit_in_row}
use Rattle.rule.specs.Length.{least_from}
use Rattle.ledger.specs.Runs.{Plan}
use Rattle.ledger.specs.Flows.{shut, gone}
use Rattle.ledger.specs.Inner.Walks.{sends}
use Rattle.checks.specs.Given.{Ground}
use Rattle.moves.specs.Moves.{square_candidates, candidates, leaves_for, soaked_for}
use Rattle.moves.specs.Inner.Fill.{least_below, FilledOne, FilledColumns, stirs, works_on, worked_rows, UnstirredAt, UnstirredBy, LeftTo, LeftKept, sender_rows}
use Rattle.moves.proofs.FillLaws.{soaked_dry, dry-gone, dry_silent, filled_more, filled_idle, filled_on, left_here, left-elsewhere}
use Rattle.moves.proofs.LengthLaws.{least_closed, least_dry, least_begin, least_more, least_all}

-- ---- what the wet rows pass over

module _ (p : Plan) (depths : List ℕ) where
  -- a square that is not wet is closed or dry
  not_wet : (i : ℕ) → is_wet p.marks depths least_wet i ≡ false → shut p i ≡ false → get_or depths i 0 ≡ 0
  not_wet i w c = let l = leb-false least_wet (get_or depths i 0) (sym (wet_open p.marks depths least_wet i c) ∙ w) in omega (arith, l)

  -- a column that the mask of a row's wet squares does not have
  pub dry_clear :
      (first : ℕ) {wet : ℕ} → wet ≡ mask_from (is_wet p.marks depths least_wet) first p.shape.columns → (column : ℕ) → column < p.shape.columns →
      bit_at wet column ≡ false → shut p (first + column) ≡ false → get_or depths (first + column) 0 ≡ 0
  dry_clear first m column l b =
      not_wet (first + column) (sym (ap (λ (x : ℕ). bit_at x column) m ∙ mask_in (is_wet p.marks depths least_wet) first l) ∙ b)

-- ---- the rows of squares that say yes

-- a square's bit in them
bit_by_rows :
    (s : Shape) (says : ℕ → Bool) {i : ℕ} → ShapeInRange s → i < squares s → bit_of s (tabulate s.rows (row_mask s says)) i ≡ says i
unfolding bit_of
bit_by_rows s says {i} fine h =
    ap (λ (mask : ℕ). bit_at mask (i % s.columns)) (get_or-tabulate s.rows (row_mask s says) (i / s.columns) ((div-lt_iff_lt-mul fine.columns_low).1 h))
    ∙ (mask_in says (i / s.columns * s.columns) (column-within s i fine.columns_low refl) ∙ ap says (square_in s i))

-- ---- which squares a walk works

-- both of two numbers are 0 where their digits joined are
or_none : (a b : ℕ) → bit_or a b ≡ 0 → (a ≡ 0) × (b ≡ 0)
or_none a b e = (omega (arith, or_add_and a b, and_le_r a b), omega (arith, or_add_and a b, and_le_l a b))

module _ (depths lasts added : List ℕ) (i : ℕ) where
  abbrev together : ℕ
  together = bit_or (bit_or (get_or depths i 0) (get_or lasts i 0)) (get_or added i 0)

  all_none : (eqb (get_or depths i 0) 0 && eqb (get_or lasts i 0) 0 && eqb (get_or added i 0) 0) ≡ true → (get_or depths i 0 ≡ 0) × (get_or lasts i 0 ≡ 0) × (get_or added i 0 ≡ 0)
  all_none e =
      let two = and_left (eqb (get_or depths i 0) 0 && eqb (get_or lasts i 0) 0) (eqb (get_or added i 0) 0) e in (
        eqb-true _ _ (and_left (eqb (get_or depths i 0) 0) (eqb (get_or lasts i 0) 0) two),
        eqb-true _ _ (and_right (eqb (get_or depths i 0) 0) (eqb (get_or lasts i 0) 0) two),
        eqb-true _ _ (and_right (eqb (get_or depths i 0) 0 && eqb (get_or lasts i 0) 0) (eqb (get_or added i 0) 0) e),
      )

  -- as the code asks
  stirs_none : together ≡ 0 → stirs depths lasts added i ≡ false
  unfolding stirs
  stirs_none e =
      let two = or_none (bit_or (get_or depths i 0) (get_or lasts i 0)) (get_or added i 0) e in
      let one = or_none (get_or depths i 0) (get_or lasts i 0) two.0 in
      rw (eq-eqb (get_or depths i 0) 0 one.0, eq-eqb (get_or lasts i 0) 0 one.1, eq-eqb (get_or added i 0) 0 two.1)

  stirs_some : (together ≡ 0 → ⊥) → stirs depths lasts added i ≡ true
  unfolding stirs
  stirs_some d = go (eqb (get_or depths i 0) 0 && eqb (get_or lasts i 0) 0 && eqb (get_or added i 0) 0) refl
    where
      go :
          (b : Bool) → (eqb (get_or depths i 0) 0 && eqb (get_or lasts i 0) 0 && eqb (get_or added i 0) 0) ≡ b →
          not (eqb (get_or depths i 0) 0 && eqb (get_or lasts i 0) 0 && eqb (get_or added i 0) 0) ≡ true
      go true e = let none = all_none e in absurd (d (ap₂ bit_or (ap₂ bit_or none.0 none.1) none.2))
      go false e = ap not e

  pub stirring_none : (bit : ℕ) → together ≡ 0 → 0 ≡ digit (stirs depths lasts added i) * bit
  unfolding digit pick
  stirring_none bit e = rw (stirs_none e) (omega arith)

  pub stirring_some : (bit : ℕ) → (together ≡ 0 → ⊥) → bit ≡ digit (stirs depths lasts added i) * bit
  unfolding digit pick
  stirring_some bit d = rw (stirs_some d) (omega arith)

  idle_works : (walk : Walk) → works_on walk depths lasts added i ≡ false → (get_or depths i 0 ≡ 0) × (get_or lasts i 0 ≡ 0) × (get_or added i 0 ≡ 0)
  unfolding works_on stirs
  idle_works All w = not_both refl w
  idle_works Wet w = all_none (not-false _ w)

-- ---- the masks of eight squares, and one square's digit

pub digit_low : (b : Bool) → digit b ≤ 1
unfolding digit pick
digit_low true = omega arith
digit_low false = omega arith

module _ (says : ℕ → Bool) (at : ℕ) where
  one_bit : mask_from says at 1 ≡ digit (says at)
  unfolding mask_from
  one_bit = omega arith

  pub eight_bits :
      {a b c d e f g h : ℕ} → a ≡ digit (says at) * 1 → b ≡ digit (says (at + 1)) * 2 → c ≡ digit (says (at + 2)) * 4 →
      d ≡ digit (says (at + 3)) * 8 → e ≡ digit (says (at + 4)) * 16 → f ≡ digit (says (at + 5)) * 32 → g ≡ digit (says (at + 6)) * 64 →
      h ≡ digit (says (at + 7)) * 128 → a + b + c + d + e + f + g + h ≡ mask_from says at 8
  eight_bits a b c d e f g h =
      omega (
        arith,
        a,
        b,
        c,
        d,
        e,
        f,
        g,
        h,
        one_bit,
        mask_more says at 1,
        mask_more says at 2,
        mask_more says at 3,
        mask_more says at 4,
        mask_more says at 5,
        mask_more says at 6,
        mask_more says at 7,
      )

module _ (depths lasts added : List ℕ) (at : ℕ) where
  pub eight_all : {walk : Walk} → walk ≡ All → 255 ≡ mask_from (works_on walk depths lasts added) at 8
  unfolding works_on mask_from digit pick
  eight_all e = rw e refl

  pub eight_wet : {walk : Walk} {n : ℕ} → walk ≡ Wet → n ≡ mask_from (stirs depths lasts added) at 8 → n ≡ mask_from (works_on walk depths lasts added) at 8
  unfolding works_on
  eight_wet e n = n ∙ rw e refl

  pub works_all : {walk : Walk} → walk ≡ All → 1 ≡ digit (works_on walk depths lasts added at)
  unfolding works_on digit pick
  works_all e = rw e refl

  pub works_wet : {walk : Walk} {n : ℕ} → walk ≡ Wet → n ≡ digit (stirs depths lasts added at) * 1 → n ≡ digit (works_on walk depths lasts added at)
  unfolding works_on
  works_wet e n = rw e (omega (arith, n))

module _ (walk : Walk) (s : Shape) (depths lasts added : List ℕ) where
  -- all rows marked
  pub rows_marked :
      (old : List ℕ) (row : ℕ) {rows : List ℕ} → length old ≡ s.rows → s.rows ≤ row →
      Rowed (works_on walk depths lasts added) s.columns old rows row → rows ≡ worked_rows walk s depths lasts added
  unfolding worked_rows
  rows_marked old row l h r = rows_whole s (works_on walk depths lasts added) old row l h r

  -- a square's bit in them
  pub worked_bit_is : {i : ℕ} → ShapeInRange s → i < squares s → bit_of s (worked_rows walk s depths lasts added) i ≡ works_on walk depths lasts added i
  unfolding worked_rows
  worked_bit_is fine h = bit_by_rows s (works_on walk depths lasts added) fine h

module _ (walk : Walk) (p : Plan) (depths lasts added : List ℕ) where
  -- a square that a walk does not work has nothing to work or to write
  pub idle_at : (i : ℕ) → works_on walk depths lasts added i ≡ false → UnstirredAt p depths lasts added i
  idle_at i w c = idle_works depths lasts added i walk w

  pub idle_by : {rows : List ℕ} → ShapeInRange p.shape → rows ≡ worked_rows walk p.shape depths lasts added → UnstirredBy p depths lasts added rows
  idle_by fine e i h b = idle_at i (sym (worked_bit_is walk p.shape depths lasts added fine h) ∙ (ap (λ (r : List ℕ). bit_of p.shape r i) (sym e) ∙ b))

  pub left-kept :
      (o : Ground) (ms : ℕ) (left : List ℕ) {rows : List ℕ} → ShapeInRange p.shape → rows ≡ worked_rows walk p.shape depths lasts added →
      LeftTo p o depths lasts ms rows (squares p.shape) left → LeftKept walk p o depths lasts added ms left
  left-kept o ms left fine e l i h c w = l i h c (ap (λ (r : List ℕ). bit_of p.shape r i) e ∙ (worked_bit_is walk p.shape depths lasts added fine h ∙ w))

  -- nothing leaves it, and nothing soaks there
  pub idle_gone : (o : Ground) (ms i : ℕ) → works_on walk depths lasts added i ≡ false → shut p i ≡ false → gone (leaves_for p o depths lasts ms) i ≡ 0
  idle_gone o ms i w c = dry-gone p o depths lasts ms i c (idle_at i w c).0

  pub idle_soaked : (o : Ground) (start ms i : ℕ) → works_on walk depths lasts added i ≡ false → shut p i ≡ false → soaked_for p o depths lasts start ms i ≡ 0
  idle_soaked o start ms i w c = sym (soaked_dry p o depths lasts start ms i c (idle_at i w c).0)

-- ---- a row's columns done

module _ {p : Plan} {o : Ground} {depths lasts added : List ℕ} {start ms first mask : ℕ} {old before : List ℕ} where
  -- none yet
  pub columns_none : FilledColumns p o depths lasts added start ms first mask 0 old old before before 0
  unfolding mask_from
  columns_none =
      record {
        filled = filled_on (let e : first ≡ first + 0 = omega arith in e) (λ held f. f);
        left_at = λ column l. absurd (omega arith);
        left-before = λ i l. refl;
        senders_are = refl;
      }

  module _ {c : ℕ} {new after : List ℕ} {senders : ℕ} (f : FilledColumns p o depths lasts added start ms first mask c old new before after senders)
      (fits : first + p.shape.columns ≤ squares p.shape) where
    -- one that is passed over
    pub columns_idle :
        c < p.shape.columns → bit_at mask c ≡ false → UnstirredAt p depths lasts added (first + c) →
        FilledColumns p o depths lasts added start ms first mask (c + 1) old new before after senders
    columns_idle l clear idle =
        record {
          filled =
              filled_on (let e : first + c + 1 ≡ first + (c + 1) = omega arith in e) (filled_idle (omega (arith, l, fits)) idle f.filled);
          left_at = λ column g b. at column g b (ℕ_discrete column c);
          left-before = f.left-before;
          senders_are = f.senders_are ∙ sym (mask_idle (sends p (leaves_for p o depths lasts ms)) first c (dry_silent p o depths lasts ms (first + c) (λ z. (idle z).0)));
        }
      where
        at :
            (column : ℕ) → column < c + 1 → bit_at mask column ≡ true → Dec (column ≡ c) → shut p (first + column) ≡ false →
            get_or after (first + column) 0 ≡ gone (leaves_for p o depths lasts ms) (first + column)
        at column g b (yes e) = not_both (ap (bit_at mask) (sym e) ∙ b) clear
        at column g b (no e) = f.left_at column (omega arith) b

    -- one more
    pub columns_more :
        {newer later : List ℕ} {sent : Bool} {bit : ℕ} → c < p.shape.columns → length after ≡ squares p.shape →
        FilledOne p o depths lasts added start ms (first + c) new newer after later sent → bit ≡ digit sent * 2 ^ c →
        FilledColumns p o depths lasts added start ms first mask (c + 1) old newer before later (senders + bit)
    columns_more {newer} {later} {sent} l long one q =
        record {
          filled =
              filled_on (let e : first + c + 1 ≡ first + (c + 1) = omega arith in e) (filled_more (omega (arith, l, fits)) f.filled one);
          left_at = λ column g b z. at column g b z (ℕ_discrete column c);
          left-before = λ i g. left-elsewhere one i (λ z. omega (arith, g, z)) ∙ f.left-before i g;
          senders_are =
              ap₂ (λ (x y : ℕ). x + y) f.senders_are (q ∙ ap (λ (b : Bool). digit b * 2 ^ c) one.sent_is) ∙ sym (mask_more (sends p (leaves_for p o depths lasts ms)) first c);
        }
      where
        at :
            (column : ℕ) → column < c + 1 → bit_at mask column ≡ true → shut p (first + column) ≡ false → Dec (column ≡ c) →
            get_or later (first + column) 0 ≡ gone (leaves_for p o depths lasts ms) (first + column)
        at column g b z (yes e) =
            subst (λ (k : ℕ). get_or later (first + k) 0 ≡ gone (leaves_for p o depths lasts ms) (first + k)) (sym e)
            (left_here one (omega (arith, l, fits, long)) (ap (λ (k : ℕ). shut p (first + k)) (sym e) ∙ z))
        at column g b z (no e) =
            left-elsewhere one (first + column) (λ q. e (omega (arith, q))) ∙ f.left_at column (omega arith) b z

    -- the mask of the senders fits 64 bits
    pub senders_fit : c ≤ bits → senders < 2 ^ bits
    senders_fit h = omega (arith, f.senders_are, mask_small (sends p (leaves_for p o depths lasts ms)) first c, pow_mono {i = c} {j = bits} h)

-- ---- all rows done

module _ (p : Plan) (o : Ground) (depths lasts added : List ℕ) (start ms : ℕ) (rows : List ℕ) where
  pub left_none : (left : List ℕ) → LeftTo p o depths lasts ms rows 0 left
  left_none left i l = absurd (omega arith)

  pub left-row :
      (row : ℕ) {first mask senders : ℕ} {old new before after : List ℕ} → first ≡ row * p.shape.columns → mask ≡ get_or rows row 0 →
      LeftTo p o depths lasts ms rows first before →
      FilledColumns p o depths lasts added start ms first mask p.shape.columns old new before after senders →
      LeftTo p o depths lasts ms rows (first + p.shape.columns) after
  unfolding bit_of
  left-row row {first} {mask} {after = after} e m l f i h c b = go (dec_lt i first)
    where
      go : Dec (i < first) → get_or after i 0 ≡ gone (leaves_for p o depths lasts ms) i
      go (yes z) = f.left-before i z ∙ l i z c b
      go (no z) =
          let q : first + (i - first) ≡ i = omega arith in
          let j : i - first < p.shape.columns = omega arith in
          subst (λ (k : ℕ). get_or after k 0 ≡ gone (leaves_for p o depths lasts ms) k) q
          (f.left_at (i - first) j
          (ap (λ (x : ℕ). bit_at x (i - first)) m ∙ (sym (bit_in_row p.shape row e (λ r. get_or rows r 0) j) ∙ (ap (bit_of p.shape rows) q ∙ b)))
          (ap (shut p) q ∙ c))

module _ (p : Plan) (o : Ground) (depths lasts : List ℕ) (ms : ℕ) where
  -- all rows told
  pub rows_told :
      (old : List ℕ) (row : ℕ) {rows : List ℕ} → length old ≡ p.shape.rows → p.shape.rows ≤ row →
      Rowed (sends p (leaves_for p o depths lasts ms)) p.shape.columns old rows row → rows ≡ sender_rows p o depths lasts ms
  unfolding sender_rows
  rows_told old row l h r = rows_whole p.shape (sends p (leaves_for p o depths lasts ms)) old row l h r

  -- a square's bit in them
  pub sender_bit_is :
      {i : ℕ} → ShapeInRange p.shape → i < squares p.shape →
      bit_of p.shape (sender_rows p o depths lasts ms) i ≡ sends p (leaves_for p o depths lasts ms) i
  unfolding sender_rows
  sender_bit_is fine h = bit_by_rows p.shape (sends p (leaves_for p o depths lasts ms)) fine h

-- ---- candidates of the squares passed over

module _ (p : Plan) (o : Ground) (depths : List ℕ) where
  pub below_none : (best : ℕ) → best ≡ o.rules.longest → best ≡ least_below p o depths 0
  unfolding least_below
  below_none best e = e ∙ least_begin p o depths o.rules.longest

  pub below_more : (i : ℕ) {a b : ℕ} → a ≡ least_below p o depths i → b ≡ least_from a (square_candidates p o depths i) → b ≡ least_below p o depths (i + 1)
  unfolding least_below
  below_more i e h = least_more p o depths o.rules.longest i e h

  pub below_all : {i b : ℕ} → b ≡ least_below p o depths i → i ≡ squares p.shape → b ≡ least_from o.rules.longest (candidates p o depths)
  unfolding least_below
  below_all e h = least_all p o depths o.rules.longest e h

  idle_square : (i best : ℕ) → (shut p i ≡ false → get_or depths i 0 ≡ 0) → least_from best (square_candidates p o depths i) ≡ best
  idle_square i best d = go (shut p i) refl
    where
      go : (b : Bool) → shut p i ≡ b → least_from best (square_candidates p o depths i) ≡ best
      go true c = least_closed p o depths best i c
      go false c = least_dry p o depths best i c (d c)

  pub below_idle : (i : ℕ) → (shut p i ≡ false → get_or depths i 0 ≡ 0) → least_below p o depths i ≡ least_below p o depths (i + 1)
  below_idle i d = below_more i refl (sym (idle_square i (least_below p o depths i) d))
