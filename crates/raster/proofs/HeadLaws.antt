-- Laws of the header: each line as the readers find it, and a header that is written reads back.
-- Assumes nothing.
use mathlib.Core.Path.{◌≡◌, refl, sym, ap, ◌∙◌}
use mathlib.Core.Bool.{true, false, ◌&&◌}
use mathlib.Core.List.{List, [], ◌∷◌, ◌++◌}
use Prim.Native.Nat.{ℕ, ◌+◌, ◌≤◌, ◌<◌}
use native.Mathlib.Omega.{arith}
use lib.ListN.{length, get_or, drop}
use borrow.Author.Tests.{eq-eqb, ne_eqb}
use Rattle.reckon.proofs.TestLaws.{not_both, pick_true, pick_false, and_right, and_both}
use Rattle.grid.specs.declared.squares.Shape.{Shape}
use Rattle.text.specs.Bytes.{bytes_of}
use Rattle.text.specs.Reading.{newline, most_number, is_byte, is_digit, word_at, number}
use Rattle.text.specs.Writing.{decimal}
use Rattle.text.specs.Inner.Standing.{StandsAt}
use Rattle.text.specs.declared.reading.Number.{Number}
use Rattle.std.proofs.Common.{Option, Some, None, Ok, Err, ok_or}
use Rattle.text.proofs.ReadingLaws.{by_test, digit_under, byte_here}
use Rattle.text.proofs.StandLaws.{stands_first, stands_second, stands_within, byte_stands, word_stands}
use Rattle.raster.specs.Amounts.{point, amount_text, amount_at}
use Rattle.raster.specs.Raster.{space, no_data, head_line_text, head_text, spaces_of, past_spaces, line_end_after, no_data_at, head_line, only_zero, head_of}
use Rattle.raster.specs.Inner.Steps.{value_start}
use Rattle.raster.specs.declared.amounts.Scale.TheVariants.{Metres, Whole}
use Rattle.raster.proofs.AmountLaws.{BeginsWithDigit, amount_back, zero_back, decimal_begins}
use Rattle.raster.proofs.SpaceLaws.{spaces_none, one_space, past_more}

-- ---- an answer that is there, or a refusal in its place

pub was_some : {A E : Type 0} {o : Option A} (e : E) {x : A} → Ok x ≡ ok_or o e → o ≡ Some x
was_some {o = Some y} e h = cc
was_some {o = None} e h = absurd (let z : ◌≡◌ {A = ℕ} 0 1 = cc in omega arith)

pub was_none : {A E : Type 0} {o : Option A} (e : E) {d : E} → Err d ≡ ok_or o e → (o ≡ None) × (d ≡ e)
was_none {o = Some y} e h = absurd (let z : ◌≡◌ {A = ℕ} 0 1 = cc in omega arith)
was_none {o = None} e h = (refl, let z = h in cc)

-- ---- as the readers find it

pub only_none : (n q : ℕ) → (n ≡ 0 → ⊥) → only_zero (number n q) ≡ None
unfolding only_zero
only_none n q d = pick_false _ _ (ne_eqb n 0 d)

pub only_kept : (n q : ℕ) → n ≡ 0 → only_zero (number n q) ≡ number n q
unfolding only_zero
only_kept n q e = pick_true _ _ (eq-eqb n 0 e)

-- a line, by where its value starts
module _ (s : List ℕ) (p : ℕ) (word : List ℕ) (value : ℕ → Option Number) {start : ℕ} (e : start ≡ value_start s p word) where
  pub head_none : start ≡ p → None ≡ head_line s p word value
  unfolding head_line
  head_none z =
      by_test (word_at s p word && is_byte s (p + length word) space)
      (λ t.
      absurd
      (omega (arith, z, e ∙ pick_true _ _ t, past_more s (p + length word) (and_right (word_at s p word) _ t))))
      (λ t. sym (pick_false _ _ t))

  pub head_some : (start ≡ p → ⊥) → line_end_after s (value start) ≡ head_line s p word value
  unfolding head_line
  head_some d =
      by_test (word_at s p word && is_byte s (p + length word) space)
      (λ t. ap (λ (k : ℕ). line_end_after s (value k)) (e ∙ pick_true _ _ t) ∙ sym (pick_true _ _ t))
      (λ t. absurd (d (e ∙ pick_false _ _ t)))

-- ---- what follows a number

-- a byte after which a number is over: no digit and no point
pub record Over (s : List ℕ) (q : ℕ) : Type 0 where
  pub alone : is_digit (get_or s q 0) ≡ false
  pub dot : is_byte s q point ≡ false

pub over_byte : {s t : List ℕ} {q r : ℕ} (b : ℕ) → b < 46 → StandsAt s q (b ∷ t) r → Over s q
over_byte {s} {t} {q} {r} b h a =
    let e : get_or s q 0 ≡ b = (byte_stands a).0 in
    let l : q < length s = omega (arith, a.after, stands_within a) in
    record {
      alone = digit_under (get_or s q 0) (omega arith);
      dot = byte_here s q point l ∙ ne_eqb (get_or s q 0) point (λ z. omega arith);
    }

-- ---- spaces before a number

not_space : (b : ℕ) → is_digit b ≡ true → b ≡ space → ⊥
not_space b e z = not_both e (digit_under b (omega arith))

pub digit_clear : {s t : List ℕ} {p q : ℕ} → BeginsWithDigit t → StandsAt s p t q → spaces_of (drop p s) ≡ 0
digit_clear {s} {t} {p} {q} f a =
    spaces_none (drop p s) (not_space (get_or (drop p s) 0 0) (ap (λ (l : List ℕ). is_digit (get_or l 0 0)) a.text ∙ f (drop q s)))

-- ---- a line of the header

-- where its value starts and ends, and where the line ends
record Parts (s : List ℕ) (p : ℕ) (word t : List ℕ) (q : ℕ) : Type 0 where
  start : ℕ
  end : ℕ
  value : StandsAt s start t end
  over : Over s end
  ended : is_byte s end newline ≡ true
  next : end + 1 ≡ q
  worded : (word_at s p word && is_byte s (p + length word) space) ≡ true
  after : spaces_of (drop start s) ≡ 0 → past_spaces s (p + length word) ≡ start

parts : {s : List ℕ} {p q : ℕ} (word t : List ℕ) → StandsAt s p (head_line_text word t) q → Parts s p word t q
unfolding head_line_text
parts {s} {p} {q} word t a =
    let b : StandsAt s (p + length word) (space ∷ (t ++ (newline ∷ []))) q = stands_second word (space ∷ (t ++ (newline ∷ []))) a in
    let gap : StandsAt s (p + length word) (space ∷ []) (p + length word + 1) = stands_first (space ∷ []) (t ++ (newline ∷ [])) b in
    let c : StandsAt s (p + length word + 1) (t ++ (newline ∷ [])) q = stands_second (space ∷ []) (t ++ (newline ∷ [])) b in
    let v : StandsAt s (p + length word + 1) t (p + length word + 1 + length t) = stands_first t (newline ∷ []) c in
    let n : StandsAt s (p + length word + 1 + length t) (newline ∷ []) q = stands_second t (newline ∷ []) c in
    record {
      start = p + length word + 1;
      end = p + length word + 1 + length t;
      value = v;
      over = over_byte newline (omega arith) n;
      ended = (byte_stands n).1;
      next = sym n.after;
      worded =
          and_both _ _ (word_stands (omega (arith, stands_within b, b.after)) (stands_first word (space ∷ (t ++ (newline ∷ []))) a))
          (byte_stands b).1;
      after = one_space gap;
    }

module _ {s : List ℕ} {p q : ℕ} (word t : List ℕ) (a : StandsAt s p (head_line_text word t) q) where
  line-back :
      (value : ℕ → Option Number) (n : ℕ) → spaces_of (drop (parts word t a).start s) ≡ 0 →
      value (parts word t a).start ≡ number n (parts word t a).end →
      head_line s p word value ≡ number n q
  unfolding head_line line_end_after
  line-back value n clear e =
      let k = parts word t a in
      pick_true _ _ k.worded
      ∙ (ap (λ (x : ℕ). line_end_after s (value x)) (k.after clear)
      ∙ (ap (line_end_after s) e ∙ (pick_true _ _ k.ended ∙ ap (number n) k.next)))

module _ {s : List ℕ} {p q : ℕ} (word : List ℕ) where
  whole_line_back :
      (n : ℕ) → n ≤ most_number → StandsAt s p (head_line_text word (decimal n)) q → head_line s p word (amount_at Whole s) ≡ number n q
  unfolding amount_text
  whole_line_back n h a =
      let k = parts word (decimal n) a in
      line-back word (decimal n) a (amount_at Whole s) n (digit_clear (decimal_begins n) k.value)
      (amount_back Whole n k.value k.over.alone k.over.dot h)

  corner_line_back : StandsAt s p (head_line_text word (decimal 0)) q → only_zero (head_line s p word (amount_at Metres s)) ≡ number 0 q
  unfolding only_zero
  corner_line_back a =
      let k = parts word (decimal 0) a in
      ap only_zero
      (line-back word (decimal 0) a (amount_at Metres s) 0 (digit_clear (decimal_begins 0) k.value)
      (zero_back k.value k.over.alone k.over.dot))
      ∙ pick_true _ _ (eq-eqb 0 0 refl)

  no_data_line_back : StandsAt s p (head_line_text word no_data) q → head_line s p word (no_data_at s) ≡ number 0 q
  unfolding no_data_at bytes_of
  no_data_line_back a =
      let k = parts word no_data a in
      line-back word no_data a (no_data_at s) 0
      (spaces_none (drop k.start s) (λ z. absurd (omega (arith, sym (ap (λ (l : List ℕ). get_or l 0 0) k.value.text) ∙ z))))
      (pick_true _ _ (word_stands (stands_within k.value) k.value) ∙ ap (number 0) (sym k.value.after))

-- ---- the header

pub head_back :
    {s : List ℕ} {q : ℕ} (shape : Shape) (D : ℕ) → shape.columns ≤ most_number → shape.rows ≤ most_number → D ≤ most_number →
    StandsAt s 0 (head_text shape D) q → head_of s ≡ Ok (record { shape = shape; side = D; next = q })
unfolding head_text head_of
head_back {s} {q} shape D hc hr hd a =
    let t1 : List ℕ = head_line_text (bytes_of "ncols") (decimal shape.columns) in
    let t2 : List ℕ = head_line_text (bytes_of "nrows") (decimal shape.rows) in
    let t3 : List ℕ = head_line_text (bytes_of "xllcorner") (decimal 0) in
    let t4 : List ℕ = head_line_text (bytes_of "yllcorner") (decimal 0) in
    let t5 : List ℕ = head_line_text (bytes_of "cellsize") (decimal D) in
    let t6 : List ℕ = head_line_text (bytes_of "NODATA_value") no_data in
    let a1 = stands_first t1 (t2 ++ (t3 ++ (t4 ++ (t5 ++ t6)))) a in
    let b1 = stands_second t1 (t2 ++ (t3 ++ (t4 ++ (t5 ++ t6)))) a in
    let a2 = stands_first t2 (t3 ++ (t4 ++ (t5 ++ t6))) b1 in
    let b2 = stands_second t2 (t3 ++ (t4 ++ (t5 ++ t6))) b1 in
    let a3 = stands_first t3 (t4 ++ (t5 ++ t6)) b2 in
    let b3 = stands_second t3 (t4 ++ (t5 ++ t6)) b2 in
    let a4 = stands_first t4 (t5 ++ t6) b3 in
    let b4 = stands_second t4 (t5 ++ t6) b3 in
    let a5 = stands_first t5 t6 b4 in
    let b5 = stands_second t5 t6 b4 in
    rw (
      whole_line_back (bytes_of "ncols") shape.columns hc a1,
      whole_line_back (bytes_of "nrows") shape.rows hr a2,
      corner_line_back (bytes_of "xllcorner") a3,
      corner_line_back (bytes_of "yllcorner") a4,
      whole_line_back (bytes_of "cellsize") D hd a5,
      no_data_line_back (bytes_of "NODATA_value") b5,
    )
