-- What follows a whole number, by what the tests say.
-- Assumes nothing.
use mathlib.Core.Path.{◌≡◌, sym, ap, ◌∙◌}
use mathlib.Core.Bool.{true, false}
use mathlib.Core.List.{List, []}
use Prim.Native.Nat.{ℕ, ◌+◌, ◌≤◌, min}
use native.Mathlib.Omega.{arith}
use lib.Dec.{leb}
use lib.ListN.{length, get_or, drop, length-drop}
use lib.Seq.{get_or-drop}
use borrow.Author.Tests.{le-leb, lt-leb}
use Rattle.reckon.proofs.TestLaws.{not_both, pick_true, pick_false, and_both, and_false}
use Rattle.text.specs.Reading.{is_byte, is_digit, digits_of}
use Rattle.text.specs.declared.reading.Number.{Number}
use Rattle.std.proofs.Common.{Option, None}
use Rattle.text.proofs.ReadingLaws.{by_lt, digits_here, digits_end}
use Rattle.text.proofs.RoundTrip.{digits_stop}
use Rattle.raster.specs.Amounts.{point, with_decimals, up_to_most, decimals_after}
use Rattle.raster.specs.Inner.Decimals.{DecimalsAt}
use Rattle.raster.proofs.DecimalLaws.{digits_drop}
use Rattle.raster.proofs.SpaceLaws.{and_no}

module _ (places : ℕ) (s : List ℕ) (n q : ℕ) where
  abbrev ds : List ℕ
  ds = digits_of (drop (q + 1) s)

  pub no_point :
      {v p : ℕ} {r : Option Number} → is_byte s q point ≡ false → is_digit (get_or s q 0) ≡ false → DecimalsAt s q n places v p →
      r ≡ up_to_most v p → r ≡ decimals_after places s n q
  unfolding decimals_after
  no_point {v} {p} b d a g =
      let none = digits_end s q d in
      let z : p ≡ q = omega (arith, a.end, ap length none) in
      let y : v ≡ with_decimals places n [] = a.worth ∙ ap (with_decimals places n) none in
      g ∙ (rw (y, z) (sym (pick_false _ _ b)))

  module _ (b : is_byte s q point ≡ true) where
    pub bare-point : is_digit (get_or s (q + 1) 0) ≡ false → None ≡ decimals_after places s n q
    unfolding decimals_after
    bare-point d =
        let none = ap length (digits_end s (q + 1) d) in
        sym (pick_true _ _ b ∙ pick_false _ _ (and_no _ _ (lt-leb 1 (length ds) (omega (arith, none)))))

    -- the digit after the last that is taken
    end-digit : length ds ≤ places → {p : ℕ} → p ≡ q + 1 + min places (length ds) → is_digit (get_or s p 0) ≡ false
    end-digit h {p} e =
        let z : p ≡ q + 1 + length ds = omega arith in
        ap (λ (k : ℕ). is_digit (get_or s k 0)) z ∙ (ap is_digit (sym (get_or-drop (q + 1) s (length ds) 0)) ∙ digits_stop (drop (q + 1) s))

    pub too_many : {v p : ℕ} → DecimalsAt s (q + 1) n places v p → is_digit (get_or s p 0) ≡ true → None ≡ decimals_after places s n q
    unfolding decimals_after
    too_many {v} {p} a d =
        by_lt places (length ds)
        (λ l. sym (pick_true _ _ b ∙ pick_false _ _ (and_false (leb 1 (length ds)) _ (lt-leb (length ds) places l))))
        (λ l. not_both d (end-digit l a.end))

    pub some_decimals :
        {v p : ℕ} {r : Option Number} → is_digit (get_or s (q + 1) 0) ≡ true → DecimalsAt s (q + 1) n places v p →
        is_digit (get_or s p 0) ≡ false → r ≡ up_to_most v p → r ≡ decimals_after places s n q
    unfolding decimals_after
    some_decimals {v} {p} first a d g =
        by_lt places (length ds)
        (λ l.
        let z : p ≡ q + 1 + places = omega (arith, a.end) in
        absurd
        (omega (
          arith,
          l,
          ap length (digits_end s (q + 1 + places) (ap (λ (k : ℕ). is_digit (get_or s k 0)) (sym z) ∙ d)),
          ap length (digits_drop places s (q + 1) (omega arith)),
          length-drop places ds,
        )))
        (λ l.
        let z : p ≡ q + 1 + length ds = omega (arith, a.end) in
        g ∙ (rw (a.worth, z)
        (sym (pick_true _ _ b ∙ pick_true _ _
        (and_both _ _ (le-leb 1 (length ds) (omega (arith, ap length (digits_here s (q + 1) first)))) (le-leb (length ds) places l))))))
