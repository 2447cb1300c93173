-- Laws of what is printed: how long it can get, and one piece after another.
-- Assumes nothing.
use mathlib.Core.Path.{◌≡◌, sym, ap, subst, ◌∙◌}
use mathlib.Core.Bool.{true, false}
use mathlib.Core.List.{List, [], ◌∷◌, ◌++◌}
use Prim.Native.Nat.{ℕ, zero, suc, ◌+◌, ◌*◌, ◌/◌, ◌%◌, ◌^◌, ◌≤◌, ◌<◌}
use native.Mathlib.Nat.{not-suc-le-zero, le_of_suc-le-suc, div-le_self, mod-le}
use native.Mathlib.Omega.{arith}
use lib.ListN.{length, get_or, length-append}
use Rattle.reckon.proofs.TestLaws.{pick_true, pick_false, pick_both}
use Rattle.grid.specs.Squares.{squares, most_squares}
use Rattle.ledger.specs.Runs.{Plan}
use Rattle.ledger.specs.Flows.{shut}
use Rattle.ledger.specs.declared.runs.Run.{Run}
use Rattle.text.specs.Writing.{line_text, Wrote}
pub use Rattle.text.proofs.JoinedLaws.{joined-short, lines_length, line_fits, line_written, none_written, lines_whole}
pub use Rattle.text.proofs.WritingLaws.{written_as}
use Rattle.text.proofs.WritingLaws.{fields_text_short, line_text_long, placed_none, wrote_both, wrote_length}
use Rattle.sheet.specs.Lines.{cell_word}
use Rattle.answer.specs.Printed.{most_refused, refused_word, out_word, soak_word, steps_word, clock_word, refused_text, cell_text, cells_text, totals_text, made_text}

-- ---- how long a line can get

one_below : (n a : ℕ) → a < n → (i : ℕ) → i < 1 → get_or (a ∷ []) i 0 < n
one_below n a h zero l = h
one_below n a h (suc i) l = absurd (not-suc-le-zero (le_of_suc-le-suc l))

two_below : (n a b : ℕ) → a < n → b < n → (i : ℕ) → i < 2 → get_or (a ∷ b ∷ []) i 0 < n
two_below n a b h g zero l = h
two_below n a b h g (suc i) l = one_below n b g i (le_of_suc-le-suc l)

three_below : (n a b c : ℕ) → a < n → b < n → c < n → (i : ℕ) → i < 3 → get_or (a ∷ b ∷ c ∷ []) i 0 < n
three_below n a b c h g k zero l = h
three_below n a b c h g k (suc i) l = two_below n b c g k i (le_of_suc-le-suc l)

pub refused-short : (number line : ℕ) → number < 2 ^ 64 → line < 2 ^ 64 → length (refused_text number line) ≤ most_refused
unfolding refused_text
refused-short number line h g =
    omega (
      arith,
      line_text_long refused_word (number ∷ line ∷ []),
      fields_text_short 19 (number ∷ line ∷ []) (two_below (10 ^ 20) number line (omega arith) (omega arith)),
    )

total_short : (word : List ℕ) (total : ℕ) → total < 2 ^ 64 → length (line_text word (total ∷ [])) ≤ length word + 22
total_short word total h =
    omega (arith, line_text_long word (total ∷ []), fields_text_short 19 (total ∷ []) (one_below (10 ^ 20) total (omega arith)))

-- the most bytes of a square's line
abbrev cell_most : ℕ
cell_most = 38

cell_short :
    (p : Plan) (depths : List ℕ) (i : ℕ) → i < most_squares → get_or depths i 0 < 2 ^ 32 → length (cell_text p depths i) ≤ cell_most
unfolding cell_text
cell_short p depths i h g =
    pick_both (λ (t : List ℕ). length t ≤ cell_most) (shut p i) (omega arith)
    (omega (
      arith,
      line_text_long cell_word (i / p.shape.columns ∷ i % p.shape.columns ∷ get_or depths i 0 ∷ []),
      fields_text_short 9 (i / p.shape.columns ∷ i % p.shape.columns ∷ get_or depths i 0 ∷ [])
          (three_below (10 ^ 10) _ _ _ (omega (arith, div-le_self i p.shape.columns)) (omega (arith, mod-le i p.shape.columns)) (omega arith)),
    ))

module _ (p : Plan) (depths : List ℕ) where
  pub closed-written : (i : ℕ) {at : ℕ} {room : List ℕ} → shut p i ≡ true → Wrote (cell_text p depths i) at room room at
  unfolding cell_text
  closed-written i {at} {room} e =
      subst (λ (t : List ℕ). Wrote t at room room at) (sym (pick_true _ _ e))
      (record { next = omega arith; room = sym (placed_none room at) })

  pub open_text :
      (i : ℕ) → shut p i ≡ false →
      cell_text p depths i ≡ line_text cell_word (i / p.shape.columns ∷ i % p.shape.columns ∷ get_or depths i 0 ∷ [])
  unfolding cell_text
  open_text i e = pick_false _ _ e

pub line_as :
    {t : List ℕ} (word : List ℕ) (a b : ℕ) {d depth : ℕ} → d ≡ depth → t ≡ line_text word (a ∷ b ∷ depth ∷ []) → t ≡ line_text word (a ∷ b ∷ d ∷ [])
line_as word a b e f = f ∙ ap (λ (k : ℕ). line_text word (a ∷ b ∷ k ∷ [])) (sym e)

-- ---- the totals of a run

module _ (u : Run) (steps : ℕ) where
  abbrev out_text : List ℕ
  out_text = line_text out_word (u.outflow ∷ [])

  abbrev soak_text : List ℕ
  soak_text = line_text soak_word (u.soaked ∷ [])

  abbrev steps_text : List ℕ
  steps_text = line_text steps_word (steps ∷ [])

  abbrev clock_text : List ℕ
  clock_text = line_text clock_word (u.clock ∷ [])

  totals_length : length (totals_text u steps) ≡ length out_text + (length soak_text + (length steps_text + length clock_text))
  unfolding totals_text
  totals_length =
      omega (
        arith,
        length-append out_text (soak_text ++ (steps_text ++ clock_text)),
        length-append soak_text (steps_text ++ clock_text),
        length-append steps_text clock_text,
      )

  -- the most bytes of them
  pub totals_short :
      u.outflow < 2 ^ 64 → u.soaked < 2 ^ 64 → steps < 2 ^ 64 → u.clock < 2 ^ 64 → length (totals_text u steps) ≤ 105
  totals_short hu hk hs hc =
      omega (
        arith,
        totals_length,
        total_short out_word u.outflow hu,
        total_short soak_word u.soaked hk,
        total_short steps_word steps hs,
        total_short clock_word u.clock hc,
      )

  module _ (at : ℕ) (old : List ℕ) (fits : at + length (totals_text u steps) ≤ length old) where
    pub out_fits : at + length out_text ≤ length old
    out_fits = omega (arith, fits, totals_length)

    module _ {b : List ℕ} {j : ℕ} (x : Wrote out_text at old b j) where
      long_b : length b ≡ length old
      long_b = wrote_length out_fits x

      pub soak_fits : j + length soak_text ≤ length b
      soak_fits = omega (arith, x.next, long_b, fits, totals_length)

      module _ {c : List ℕ} {k : ℕ} (s : Wrote soak_text j b c k) where
        long_c : length c ≡ length old
        long_c = wrote_length soak_fits s ∙ long_b

        pub steps_fit : k + length steps_text ≤ length c
        steps_fit = omega (arith, x.next, s.next, long_c, fits, totals_length)

        module _ {d : List ℕ} {l : ℕ} (y : Wrote steps_text k c d l) where
          long_d : length d ≡ length old
          long_d = wrote_length steps_fit y ∙ long_c

          pub clock_fits : l + length clock_text ≤ length d
          clock_fits = omega (arith, x.next, s.next, y.next, long_d, fits, totals_length)

          pub totals_written : {e : List ℕ} {r : ℕ} → Wrote clock_text l d e r → Wrote (totals_text u steps) at old e r
          unfolding totals_text
          totals_written v =
              let three = length-append soak_text (steps_text ++ clock_text) in
              let two = length-append steps_text clock_text in
              wrote_both (omega (arith, fits, totals_length, three, two)) x
              (wrote_both (omega (arith, x.next, long_b, fits, totals_length, two)) s
              (wrote_both (omega (arith, x.next, s.next, long_c, fits, totals_length)) y v))

-- ---- a world

module _ (p : Plan) (depths : List ℕ) (u : Run) (steps : ℕ) where
  made_length : length (made_text p depths u steps) ≡ length (cells_text p depths) + length (totals_text u steps)
  unfolding made_text
  made_length = length-append (cells_text p depths) (totals_text u steps)

  -- the most bytes of so many squares and the totals
  pub made_short :
      squares p.shape ≤ most_squares → ((i : ℕ) → get_or depths i 0 < 2 ^ 32) → u.outflow < 2 ^ 64 → u.soaked < 2 ^ 64 → steps < 2 ^ 64 →
      u.clock < 2 ^ 64 → length (made_text p depths u steps) ≤ cell_most * squares p.shape + 105
  unfolding cells_text
  made_short few words hu hk hs hc =
      omega (
        arith,
        made_length,
        joined-short (squares p.shape) cell_most (cell_text p depths) (λ i l. cell_short p depths i (omega (arith, l, few)) (words i)),
        totals_short u steps hu hk hs hc,
      )

  module _ (at : ℕ) (old : List ℕ) (fits : at + length (made_text p depths u steps) ≤ length old) where
    pub cells_fit : at + length (cells_text p depths) ≤ length old
    cells_fit = omega (arith, fits, made_length)

    module _ {a : List ℕ} {i : ℕ} (w : Wrote (cells_text p depths) at old a i) where
      pub totals_fit : i + length (totals_text u steps) ≤ length a
      totals_fit = omega (arith, w.next, wrote_length cells_fit w, fits, made_length)

      pub made_written : {b : List ℕ} {r : ℕ} → Wrote (totals_text u steps) i a b r → Wrote (made_text p depths u steps) at old b r
      unfolding made_text
      made_written v = wrote_both (omega (arith, fits, made_length)) w v
