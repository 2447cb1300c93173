-- Laws of what is printed of the highest water: how long it can get, and one piece after another.
-- Assumes nothing.
use mathlib.Core.Path.{◌≡◌, sym, ap₂, subst, ◌∙◌}
use mathlib.Core.Bool.{true, false}
use mathlib.Core.List.{List, [], ◌∷◌, ◌++◌}
use Prim.Native.Nat.{ℕ, suc, ◌+◌, ◌*◌, ◌/◌, ◌%◌, ◌^◌, ◌≤◌, ◌<◌}
use native.Mathlib.Nat.{div-le_self, mod-le}
use native.Mathlib.Omega.{arith}
use lib.ListN.{length, get_or, length-append}
use borrow.Author.Tests.{eq-eqb, ne_eqb}
use Rattle.reckon.proofs.TestLaws.{pick_true, pick_false, pick_both}
use Rattle.grid.specs.Squares.{squares}
use Rattle.ledger.specs.Runs.{Plan}
use Rattle.ledger.specs.Flows.{shut}
use Rattle.flood.specs.declared.run.Ran.{Ran}
use Rattle.text.specs.Writing.{line_text, fields_text, field_text, Wrote}
use Rattle.text.proofs.WritingLaws.{decimal-short, line_text_long, placed_none, wrote_both, wrote_length}
use Rattle.sheet.specs.Lines.{cell_word}
use Rattle.answer.specs.Printed.{refused_text, totals_text}
use Rattle.answer.proofs.PrintLaws.{joined-short, totals_short}
use Rattle.programs.specs.Program.{program_squares, most_printed, Prints}
use Rattle.programs.proofs.EndedLaws.{Words, prints, refused_printed}
use Rattle.peaks.specs.Highest.{high_text, highs_text, high_world_text}
use Rattle.peaks.specs.Inner.Sheets.{PutHighest}

-- ---- how long a line can get

field-short : (k n : ℕ) → n < 10 ^ suc k → length (field_text n) ≤ k + 2
unfolding field_text
field-short k n h = omega (arith, decimal-short k n h)

four_short :
    (a b c d : ℕ) → a < 10 ^ 4 → b < 10 ^ 4 → c < 10 ^ 10 → d < 10 ^ 10 → length (fields_text (a ∷ b ∷ c ∷ d ∷ [])) ≤ 32
unfolding fields_text
four_short a b c d ha hb hc hd =
    omega (
      arith,
      length-append (field_text a) (field_text b ++ (field_text c ++ (field_text d ++ []))),
      length-append (field_text b) (field_text c ++ (field_text d ++ [])),
      length-append (field_text c) (field_text d ++ []),
      length-append (field_text d) [],
      field-short 3 a ha,
      field-short 3 b hb,
      field-short 9 c hc,
      field-short 9 d hd,
    )

-- the most bytes of a square's line
abbrev high_most : ℕ
high_most = 37

module _ (p : Plan) (peaks clocks : List ℕ) where
  pub high_closed : (i : ℕ) {at : ℕ} {room : List ℕ} → shut p i ≡ true → Wrote (high_text p peaks clocks i) at room room at
  unfolding high_text
  high_closed i {at} {room} e =
      subst (λ (t : List ℕ). Wrote t at room room at) (sym (pick_true _ _ e)) (record { next = omega arith; room = sym (placed_none room at) })

  pub high_open :
      (i : ℕ) {a b : ℕ} → shut p i ≡ false → a ≡ get_or peaks i 0 → b ≡ get_or clocks i 0 →
      high_text p peaks clocks i ≡ line_text cell_word (i / p.shape.columns ∷ i % p.shape.columns ∷ a ∷ b ∷ [])
  unfolding high_text
  high_open i e x y =
      pick_false _ _ e
      ∙ ap₂ (λ (j k : ℕ). line_text cell_word (i / p.shape.columns ∷ i % p.shape.columns ∷ j ∷ k ∷ [])) (sym x) (sym y)

  high_short :
      (i : ℕ) → i < program_squares → get_or peaks i 0 < 2 ^ 32 → get_or clocks i 0 < 2 ^ 32 → length (high_text p peaks clocks i) ≤ high_most
  unfolding high_text
  high_short i h x y =
      pick_both (λ (t : List ℕ). length t ≤ high_most) (shut p i) (omega arith)
      (omega (
        arith,
        line_text_long cell_word (i / p.shape.columns ∷ i % p.shape.columns ∷ get_or peaks i 0 ∷ get_or clocks i 0 ∷ []),
        four_short (i / p.shape.columns) (i % p.shape.columns) (get_or peaks i 0) (get_or clocks i 0)
            (omega (arith, div-le_self i p.shape.columns)) (omega (arith, mod-le i p.shape.columns)) (omega arith) (omega arith),
      ))

  highs_short :
      squares p.shape ≤ program_squares → ((i : ℕ) → get_or peaks i 0 < 2 ^ 32) → ((i : ℕ) → get_or clocks i 0 < 2 ^ 32) →
      length (highs_text p peaks clocks) ≤ high_most * squares p.shape
  unfolding highs_text
  highs_short few x y =
      joined-short (squares p.shape) high_most (high_text p peaks clocks) (λ i l. high_short i (omega (arith, l, few)) (x i) (y i))

  -- ---- what a run gave

  module _ (a : Ran) (few : squares p.shape ≤ program_squares) (x : Words peaks a) (y : (i : ℕ) → get_or clocks i 0 < 2 ^ 32) where
    pub highs_fit : length (highs_text p peaks clocks) + length (totals_text a.run a.steps) ≤ most_printed
    highs_fit =
        omega (
          arith,
          few,
          highs_short few x.depths_are y,
          totals_short a.run a.steps x.outflow_is x.soaked_is x.steps_are x.clock_is,
        )

    pub high_refused :
        {old new : List ℕ} {r : ℕ} → most_printed ≤ length old → (a.refused ≡ 0 → ⊥) → Wrote (refused_text a.refused 0) 0 old new r →
        PutHighest p peaks clocks a old new r
    high_refused {old} {new} {r} l d w =
        subst (λ (t : List ℕ). Prints t old new r) (sym (pick_false _ _ (ne_eqb _ _ d))) (refused_printed l x.number_is (omega arith) w)

    pub high_made :
        {old mid new : List ℕ} {next r : ℕ} → most_printed ≤ length old → a.refused ≡ 0 → Wrote (highs_text p peaks clocks) 0 old mid next →
        Wrote (totals_text a.run a.steps) next mid new r → PutHighest p peaks clocks a old new r
    unfolding high_world_text
    high_made {old} {mid} {new} {next} {r} l z v w =
        subst (λ (t : List ℕ). Prints t old new r) (sym (pick_true _ _ (eq-eqb _ _ z)))
        (prints l (omega (arith, highs_fit, length-append (highs_text p peaks clocks) (totals_text a.run a.steps)))
        (wrote_both (omega (arith, l, highs_fit)) v w))

    pub totals_follow :
        {old mid : List ℕ} {next : ℕ} → most_printed ≤ length old → Wrote (highs_text p peaks clocks) 0 old mid next →
        next + length (totals_text a.run a.steps) ≤ length mid
    totals_follow {old} l v = omega (arith, l, highs_fit, v.next, wrote_length (omega (arith, l, highs_fit)) v)
