-- Laws of amounts: a side's case decides what was sent or went off the grid; and sums of 32-bit words stay far below 64 bits.
-- Assumes nothing.
use mathlib.Core.Path.{◌≡◌, refl, sym, ap, ap₂, ◌∙◌}
use mathlib.Core.Bool.{false}
use mathlib.Core.List.{List}
use Prim.Native.Nat.{ℕ, ◌+◌, ◌*◌, ◌≤◌, ◌<◌}
use native.Mathlib.Omega.{arith}
use lib.ListN.{length, get_or}
use borrow.Author.Tests.{lt-ltb, le-ltb}
use Rattle.reckon.specs.Tests.{pick}
use Rattle.reckon.specs.Lists.{sum_below}
use Rattle.reckon.proofs.TestLaws.{pick_true, pick_false, pick_same, pick_both}
use Rattle.reckon.proofs.ListLaws.{sum_le}
use Rattle.grid.specs.Squares.{north, east, south, west, sides, squares, beside, opposite, on_rim}
use Rattle.grid.proofs.SquareLaws.{each_within}
use Rattle.grid.proofs.MarkLaws.{closed_past}
use Rattle.ledger.specs.Runs.{Plan}
use Rattle.ledger.specs.Flows.{Leaves, four_sides, shut, gone, sent, came, off_side, off_square, soaked_square}
use Rattle.ledger.specs.Record.{word_place, added_word, soaked_word, leaves_in, added_in, soaked_in}

pub four-sides : (f : ℕ → ℕ) {a b c d : ℕ} → a ≡ f north → b ≡ f east → c ≡ f south → d ≡ f west → a + b + c + d ≡ four_sides f
four-sides f p q r s = rw (p, q, r, s)

-- ---- what a side has sent, by what lies on it

module _ (p : Plan) (out : Leaves) (i side : ℕ) {at : ℕ} (e : at ≡ beside p.shape i side) where
  -- past the grid every mark reads closed
  pub sent_none : length p.marks ≡ squares p.shape → squares p.shape ≤ at → 0 ≡ sent p out i side
  unfolding sent
  sent_none l h = sym (pick_true _ _ (closed_past p.marks (beside p.shape i side) (omega arith)))

  pub sent_some : {side' : ℕ} → side' ≡ opposite side → pick (shut p at) 0 (out at side') ≡ sent p out i side
  unfolding sent
  sent_some o = ap₂ (λ (j k : ℕ). pick (shut p j) 0 (out j k)) e o

  pub off_inside : at < squares p.shape → 0 ≡ off_side p out i side
  unfolding off_side
  off_inside h = sym (pick_true _ _ (lt-ltb (beside p.shape i side) (squares p.shape) (omega arith)))

  pub off_beyond : squares p.shape ≤ at → out i side ≡ off_side p out i side
  unfolding off_side
  off_beyond h = sym (pick_false _ _ (le-ltb (beside p.shape i side) (squares p.shape) (omega arith)))

-- ---- a square that is not on the rim

module _ (p : Plan) (out : Leaves) (i : ℕ) (off : on_rim p.shape i ≡ false) where
  -- nothing goes off the grid there
  pub off_none : 0 ≡ off_square p out i
  unfolding off_square
  off_none =
      let within : (side : ℕ) → side < sides → 0 ≡ off_side p out i side =
      λ side h. off_inside p out i side refl (each_within p.shape i off side h) in
      sym
      (ap (λ (k : ℕ). pick (shut p i) 0 k)
      (sym (four-sides (off_side p out i) (within north (omega arith)) (within east (omega arith)) (within south (omega arith)) (within west (omega arith))))
      ∙ pick_same (shut p i) 0)

-- ---- a closed square, and one that is not

module _ (p : Plan) (i : ℕ) where
  pub off_open : (out : Leaves) → shut p i ≡ false → four_sides (off_side p out i) ≡ off_square p out i
  unfolding off_square
  off_open out e = sym (pick_false _ _ e)

  module _ (soaked : ℕ → ℕ) where
    pub soaked_open : shut p i ≡ false → soaked_square p soaked i ≡ soaked i
    unfolding soaked_square
    soaked_open e = pick_false _ _ e

-- ---- sums of words

-- the largest word, and the most that the four sides of a square have together
abbrev pub word : ℕ
word = 4294967295

abbrev pub four_words : ℕ
four_words = sides * word

four_small : (f : ℕ → ℕ) → ((side : ℕ) → f side ≤ word) → four_sides f ≤ four_words
four_small f h = omega (arith, h north, h east, h south, h west)

module _ (rec : List ℕ) (words : (k : ℕ) → get_or rec k 0 < 4294967296) where
  pub leaving_small : (i side : ℕ) → leaves_in rec i side ≤ word
  unfolding leaves_in
  leaving_small i side = omega (arith, words (word_place i side))

  pub added_small : (i : ℕ) → added_in rec i ≤ word
  unfolding added_in
  added_small i = omega (arith, words (word_place i added_word))

  pub soaked_small : (i : ℕ) → soaked_in rec i ≤ word
  unfolding soaked_in
  soaked_small i = omega (arith, words (word_place i soaked_word))

  pub gone_small : (i : ℕ) → gone (leaves_in rec) i ≤ four_words
  unfolding gone
  gone_small i = four_small (leaves_in rec i) (leaving_small i)

  module _ (p : Plan) where
    pub sent_small : (i side : ℕ) → sent p (leaves_in rec) i side ≤ word
    unfolding sent
    sent_small i side = pick_both (λ (k : ℕ). k ≤ word) _ (omega arith) (leaving_small _ _)

    pub came_small : (i : ℕ) → came p (leaves_in rec) i ≤ four_words
    unfolding came
    came_small i = four_small (sent p (leaves_in rec) i) (sent_small i)

    pub off_side_small : (i side : ℕ) → off_side p (leaves_in rec) i side ≤ word
    unfolding off_side
    off_side_small i side = pick_both (λ (k : ℕ). k ≤ word) _ (omega arith) (leaving_small _ _)

    pub off_small : (i : ℕ) → off_square p (leaves_in rec) i ≤ four_words
    unfolding off_square
    off_small i = pick_both (λ (k : ℕ). k ≤ four_words) _ (omega arith) (four_small (off_side p (leaves_in rec) i) (off_side_small i))

    pub off_sum_small : (n : ℕ) → sum_below n (off_square p (leaves_in rec)) ≤ n * four_words
    off_sum_small n = sum_le n four_words (off_square p (leaves_in rec)) (λ i l. off_small i)

    -- what soaked of a square not closed, as the code finds it
    pub soaked_made : (i : ℕ) {x : ℕ} → x ≡ pick (shut p i) 0 (soaked_in rec i) → x ≡ soaked_square p (soaked_in rec) i
    unfolding soaked_square
    soaked_made i e = e

    pub soaked_square_small : (i : ℕ) → soaked_square p (soaked_in rec) i ≤ word
    unfolding soaked_square
    soaked_square_small i = pick_both (λ (k : ℕ). k ≤ word) _ (omega arith) (soaked_small i)

    pub soaked_sum_small : (n : ℕ) → sum_below n (soaked_square p (soaked_in rec)) ≤ n * word
    soaked_sum_small n = sum_le n word (soaked_square p (soaked_in rec)) (λ i l. soaked_square_small i)
