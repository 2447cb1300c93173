-- Laws of what is printed of boards: how long it can get, and one piece after another.
-- Assumes nothing.
use mathlib.Core.Path.{◌≡◌, sym, ap, subst}
use mathlib.Core.Bool.{true, false}
use mathlib.Core.List.{List, [], ◌∷◌, ◌++◌}
use Prim.Native.Nat.{ℕ, zero, suc, ◌+◌, ◌*◌, ◌^◌, ◌≤◌, ◌<◌}
use native.Mathlib.Nat.{not-suc-le-zero, le_of_suc-le-suc}
use native.Mathlib.Omega.{arith}
use lib.ListN.{length, get_or, length-append}
use Rattle.reckon.specs.Lists.{joined}
use Rattle.reckon.proofs.TestLaws.{pick_true, pick_false, pick_both}
use Rattle.reckon.proofs.ListLaws.{joined_none, joined_more}
use Rattle.ledger.specs.declared.runs.Run.{Run}
use Rattle.text.specs.Reading.{tab, newline}
use Rattle.text.specs.Writing.{field_text, fields_text, line_text, Wrote}
use Rattle.text.proofs.WritingLaws.{decimal-short, fields_text_short, wrote_both, wrote_length, Left, left_all, left_fits, left_step, left_none}
use Rattle.answer.specs.Printed.{steps_word, clock_word, out_word, soak_word, totals_text}
use Rattle.answer.proofs.PrintLaws.{none_written, totals_short}
use Rattle.display.specs.Boards.{most_boards, no_board, listed}
use Rattle.display.specs.declared.boards.Board.{Board}
use Rattle.display.specs.declared.boards.Boards.{Boards}
use Rattle.levels.specs.Levels.{board_word, dash, first_text, level_text, levels_text, counts_text}
use Rattle.levels.specs.Inner.Put.{level_most, levels_most, AllListed, PutLevel, PutLevels}

-- ---- a board's line

module _ (b : Board) where
  abbrev values : List ℕ
  values = b.row ∷ b.column ∷ b.mark ∷ b.highest ∷ []

  pub first-reached : b.reached ≡ true → first_text b ≡ field_text b.first
  unfolding first_text
  first-reached e = pick_true _ _ e

  pub first_never : b.reached ≡ false → first_text b ≡ tab ∷ dash ∷ []
  unfolding first_text
  first_never e = pick_false _ _ e

  -- its numbers fit their words
  pub record Words : Type 0 where
    pub row_is : b.row < 2 ^ 64
    pub column_is : b.column < 2 ^ 64
    pub mark_is : b.mark < 2 ^ 64
    pub highest_is : b.highest < 2 ^ 64
    pub first_is : b.first < 2 ^ 64

  module _ (w : Words) where
    below : (i : ℕ) → i < 4 → get_or values i 0 < 10 ^ 20
    below zero l = omega (arith, w.row_is)
    below (suc zero) l = omega (arith, w.column_is)
    below (suc (suc zero)) l = omega (arith, w.mark_is)
    below (suc (suc (suc zero))) l = omega (arith, w.highest_is)
    below (suc (suc (suc (suc i)))) l = absurd (not-suc-le-zero (le_of_suc-le-suc (le_of_suc-le-suc (le_of_suc-le-suc (le_of_suc-le-suc l)))))

    first_short : length (first_text b) ≤ 21
    unfolding first_text field_text
    first_short =
        pick_both (λ (t : List ℕ). length t ≤ 21) b.reached (omega (arith, decimal-short 19 b.first (omega (arith, w.first_is)))) (omega arith)

    pub level-short : length (level_text b) ≤ level_most
    unfolding level_text
    level-short =
        omega (
          arith,
          length-append board_word (fields_text values ++ (first_text b ++ (newline ∷ []))),
          length-append (fields_text values) (first_text b ++ (newline ∷ [])),
          length-append (first_text b) (newline ∷ []),
          fields_text_short 19 values below,
          first_short,
        )

  module _ {at : ℕ} {old : List ℕ} (fits : at + length (level_text b) ≤ length old) where
    begun : Left (board_word ++ (fields_text values ++ (first_text b ++ (newline ∷ [])))) at old (level_text b) at old
    unfolding level_text
    begun = left_all (level_text b) at old fits

    module _ {x : List ℕ} {p : ℕ} (word : Wrote board_word at old x p) where
      pub fields_fit : p + length (fields_text values) ≤ length x
      fields_fit = omega (arith, left_fits (fields_text values) (first_text b ++ (newline ∷ [])) (left_step begun word))

      module _ {y : List ℕ} {q : ℕ} (fields : Wrote (fields_text values) p x y q) where
        pub first_fits : q + length (first_text b) ≤ length y
        first_fits = omega (arith, left_fits (first_text b) (newline ∷ []) (left_step (left_step begun word) fields))

        module _ {z : List ℕ} {r : ℕ} (first : Wrote (first_text b) q y z r) where
          ending : Left (newline ∷ []) r z (level_text b) at old
          ending = left_step (left_step (left_step begun word) fields) first

          pub end_fits : r < length z
          end_fits = omega (arith, ending.fits, ending.long, ending.ends)

          pub level-written : {new : List ℕ} {end : ℕ} → Wrote (newline ∷ []) r z new end → Wrote (level_text b) at old new end
          level-written w = left_none (left_step {v = newline ∷ []} {rest = []} ending w)

-- ---- the lines of all boards

abbrev line_of : List Board → ℕ → List ℕ
line_of list k = level_text (get_or list k no_board)

-- the first i of them stand at the room's start
pub record LevelsTo (list : List Board) (i : ℕ) (old new : List ℕ) (next : ℕ) : Type 0 where
  pub wrote : Wrote (joined i (λ k. level_text (get_or list k no_board))) 0 old new next
  pub short : length (joined i (λ k. level_text (get_or list k no_board))) ≤ level_most * i

pub levels_none : (list : List Board) (room : List ℕ) → LevelsTo list 0 room room 0
levels_none list room =
    record { wrote = none_written (line_of list) 0 room; short = omega (arith, ap length (joined_none (line_of list))) }

module _
    (list : List Board) (i : ℕ) {old room : List ℕ} {next : ℕ} (few : i ≤ most_boards) (fits : levels_most ≤ length old)
    (a : LevelsTo list i old room next) where
  pub levels_long : length room ≡ length old
  levels_long = wrote_length (omega (arith, few, fits, a.short)) a.wrote

  module _ (l : i < most_boards) where
    pub level-room : next + level_most ≤ length room
    level-room = omega (arith, l, fits, a.short, a.wrote.next, levels_long)

    pub levels_more :
        {b : Board} {new : List ℕ} {r : ℕ} → b ≡ get_or list i no_board → PutLevel b next room new r → LevelsTo list (i + 1) old new r
    levels_more {b} {new} {r} e w =
        let one : PutLevel (get_or list i no_board) next room new r = subst (λ (z : Board). PutLevel z next room new r) e w in
        let more = joined_more i (line_of list) in
        record {
          wrote =
              subst (λ (t : List ℕ). Wrote t 0 old new r) (sym more)
              (wrote_both (omega (arith, l, fits, a.short, one.fits)) a.wrote one.wrote);
          short =
              omega (arith, ap length more, length-append (joined i (line_of list)) (line_of list i), a.short, one.fits);
        }

-- all that are listed
pub levels_listed :
    (boards : Boards) {i : ℕ} {old new : List ℕ} {next : ℕ} → AllListed boards → i ≡ length (listed boards) →
    LevelsTo (listed boards) i old new next → PutLevels (listed boards) old new next
unfolding levels_text
levels_listed boards {i} {old} {new} {next} h e a =
    let same : joined i (line_of (listed boards)) ≡ joined (length (listed boards)) (line_of (listed boards)) =
    ap (λ (k : ℕ). joined k (line_of (listed boards))) e in
    record {
      wrote = subst (λ (t : List ℕ). Wrote t 0 old new next) same a.wrote;
      fits = omega (arith, ap length same, a.short, e, h.many, h.few);
    }

-- ---- steps and clock

module _ (steps clock : ℕ) where
  abbrev steps_text : List ℕ
  steps_text = line_text steps_word (steps ∷ [])

  abbrev clock_text : List ℕ
  clock_text = line_text clock_word (clock ∷ [])

  counts-length : length (counts_text steps clock) ≡ length steps_text + length clock_text
  unfolding counts_text
  counts-length = length-append steps_text clock_text

  module _ (at : ℕ) (old : List ℕ) (fits : at + length (counts_text steps clock) ≤ length old) where
    pub steps_fit : at + length steps_text ≤ length old
    steps_fit = omega (arith, fits, counts-length)

    module _ {x : List ℕ} {p : ℕ} (first : Wrote steps_text at old x p) where
      pub clock_fits : p + length clock_text ≤ length x
      clock_fits = omega (arith, fits, counts-length, first.next, wrote_length steps_fit first)

      pub counts-written : {new : List ℕ} {r : ℕ} → Wrote clock_text p x new r → Wrote (counts_text steps clock) at old new r
      unfolding counts_text
      counts-written second = wrote_both (omega (arith, fits, counts-length)) first second

-- they are the last two of a run's totals
pub counts-short :
    (u : Run) (steps : ℕ) → u.outflow < 2 ^ 64 → u.soaked < 2 ^ 64 → steps < 2 ^ 64 → u.clock < 2 ^ 64 →
    length (counts_text steps u.clock) ≤ 105
unfolding totals_text counts_text
counts-short u steps hu hk hs hc =
    omega (
      arith,
      totals_short u steps hu hk hs hc,
      length-append (line_text out_word (u.outflow ∷ [])) (line_text soak_word (u.soaked ∷ []) ++ counts_text steps u.clock),
      length-append (line_text soak_word (u.soaked ∷ [])) (counts_text steps u.clock),
    )
