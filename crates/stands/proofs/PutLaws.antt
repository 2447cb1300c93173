-- Laws of the text that is put: each line, one piece after another, and lines in a loop.
-- Assumes nothing.
use mathlib.Core.Path.{◌≡◌, sym, ap, subst, ◌∙◌}
use mathlib.Core.Bool.{true, false}
use mathlib.Core.List.{List, [], ◌∷◌, ◌++◌}
use Prim.Native.Nat.{ℕ, ◌+◌, ◌*◌, ◌≤◌, ◌<◌}
use native.Mathlib.Nat.{mul-suc, mul-le-mul_left}
use native.Mathlib.Numerals.{add-one}
use native.Mathlib.Omega.{arith}
use lib.ListN.{length, get_or, length-append}
use Rattle.reckon.specs.Tests.{pick}
use Rattle.reckon.specs.Lists.{joined}
use Rattle.reckon.proofs.TestLaws.{pick_true, pick_false}
use Rattle.reckon.proofs.ListLaws.{joined_none, joined_more}
use Rattle.grid.specs.Squares.{squares, ShapeInRange}
use Rattle.ledger.specs.Runs.{Plan}
use Rattle.ledger.specs.Flows.{shut}
use Rattle.text.specs.Writing.{line_text, Wrote}
use Rattle.text.proofs.JoinedLaws.{none_written}
use Rattle.text.proofs.WritingLaws.{placed_none, wrote_both, wrote_length, written_as}
use Rattle.answer.specs.Printed.{out_word, soak_word}
use Rattle.hatches.specs.Lines.{hatch_word}
use Rattle.hatches.specs.declared.log.Hatches.{Hatches}
use Rattle.stands.specs.Texts.{stand_word, start_word, given_word, at_word, total_text, first_text, head_text, hatch_text, hatches_text, square_text, squares_text, stand_text, most_stand, PutStand}
use Rattle.stands.specs.Inner.Putting.{PutWithin, most_total, most_first, most_head, most_hatch_lines, most_square}
use Rattle.stands.specs.declared.saved.Saved.{Saved}

-- ---- texts of at most so many bytes

module _ {k at r : ℕ} {t old new : List ℕ} (w : PutWithin k t at old new r) where
  within_next : r ≤ at + k
  within_next = omega (arith, w.wrote.next, w.short)

  within_long : at + k ≤ length old → length new ≡ length old
  within_long h = wrote_length (omega (arith, w.short)) w.wrote

-- the same text under another name
pub within_as : {k at r : ℕ} {t u old new : List ℕ} → t ≡ u → length u ≤ k → Wrote u at old new r → PutWithin k t at old new r
within_as {k} e h w = record { wrote = written_as e w; short = subst (λ (x : List ℕ). length x ≤ k) (sym e) h }

within_none : (k : ℕ) {t : List ℕ} {at : ℕ} {room : List ℕ} → t ≡ [] → PutWithin k t at room room at
within_none k {t} {at} {room} e =
    record {
      wrote = subst (λ (x : List ℕ). Wrote x at room room at) (sym e) (record { next = omega arith; room = sym (placed_none room at) });
      short = omega (arith, ap length e);
    }

within_both : {k m at p r : ℕ} {v u old mid new : List ℕ} → at + k + m ≤ length old → PutWithin k v at old mid p → PutWithin m u p mid new r →
    PutWithin (k + m) (v ++ u) at old new r
within_both {v = v} {u} h a b =
    record { wrote = wrote_both (omega (arith, a.short, b.short)) a.wrote b.wrote; short = omega (arith, length-append v u, a.short, b.short) }

-- ---- one line

pub first-as : (a : Saved) {opening : ℕ} → opening ≡ pick {A = ℕ} a.log.opening 1 0 →
    first_text a ≡ line_text stand_word (a.log.steps ∷ a.log.run.clock ∷ a.log.run.length ∷ opening ∷ [])
unfolding first_text
first-as a e = rw e

module _ (hs : Hatches) (litres : List ℕ) (h : ℕ) where
  pub hatch_none : (k : ℕ) {at : ℕ} {room : List ℕ} → get_or hs.named h false ≡ false → PutWithin k (hatch_text hs litres h) at room room at
  unfolding hatch_text
  hatch_none k e = within_none k (pick_false _ _ e)

  pub hatch-named : {k at r : ℕ} {old new : List ℕ} → get_or hs.named h false ≡ true →
      PutWithin k (line_text hatch_word ((h + 1) ∷ get_or hs.rows h 0 ∷ get_or hs.columns h 0 ∷ get_or litres h 0 ∷ [])) at old new r →
      PutWithin k (hatch_text hs litres h) at old new r
  unfolding hatch_text
  hatch-named e w = within_as (pick_true _ _ e) w.short w.wrote

module _ (p : Plan) (depths lasts : List ℕ) (i : ℕ) where
  pub square_none : (k : ℕ) {at : ℕ} {room : List ℕ} → shut p i ≡ true → PutWithin k (square_text p depths lasts i) at room room at
  unfolding square_text
  square_none k e = within_none k (pick_true _ _ e)

  pub square-as : {depth last : ℕ} → shut p i ≡ false → depth ≡ get_or depths i 0 → last ≡ get_or lasts i 0 →
      square_text p depths lasts i ≡ line_text at_word (i ∷ depth ∷ last ∷ [])
  unfolding square_text
  square-as e h k = rw (h, k) (pick_false _ _ e)

-- ---- lines in a loop, each of at most k bytes

pub record Lines (k : ℕ) (f : ℕ → List ℕ) (at : ℕ) (old room : List ℕ) (next i : ℕ) : Type 0 where
  pub wrote : Wrote (joined i f) at old room next
  pub short : length (joined i f) ≤ k * i

pub lines_none : (k : ℕ) (f : ℕ → List ℕ) (at : ℕ) (room : List ℕ) → Lines k f at room room at 0
lines_none k f at room = record { wrote = none_written f at room; short = omega (arith, ap length (joined_none f)) }

module _ (k : ℕ) (f : ℕ → List ℕ) (at : ℕ) (old : List ℕ) (n : ℕ) (fits : at + k * n ≤ length old) {room : List ℕ} {next i : ℕ} (a : Lines k f at old room next i) where
  one_more : i < n → at + k * i + k ≤ length old
  one_more l = omega (arith, fits, mul-suc k i, mul-le-mul_left k l)

  so_far : i ≤ n → at + k * i ≤ length old
  so_far l = omega (arith, fits, mul-le-mul_left k l)

  pub lines_long : i ≤ n → length room ≡ length old
  lines_long l = wrote_length (omega (arith, a.short, so_far l)) a.wrote

  pub lines_more : {new : List ℕ} {r : ℕ} → i < n → PutWithin k (f i) next room new r → Lines k f at old new r (i + 1)
  lines_more {new} {r} l w =
      record {
        wrote =
            subst (λ (t : List ℕ). Wrote t at old new r) (sym (joined_more i f))
            (wrote_both (omega (arith, a.short, w.short, one_more l)) a.wrote w.wrote);
        short = rw (add-one i) (omega (arith, ap length (joined_more i f), ap (λ (j : ℕ). length (joined j f)) (add-one i), length-append (joined i f) (f i), a.short, w.short, mul-suc k i));
      }

  pub lines_all : i ≡ n → PutWithin (k * n) (joined n f) at old room next
  lines_all e =
      subst (λ (j : ℕ). PutWithin (k * j) (joined j f) at old room next) e (record { wrote = a.wrote; short = a.short })

-- ---- one piece after another

module _ (a : Saved) (at : ℕ) (old : List ℕ) (fits : at + most_head ≤ length old) where
  module _ {r₁ : List ℕ} {p₁ : ℕ} (w₁ : PutWithin most_first (first_text a) at old r₁ p₁) where
    long₁ : length r₁ ≡ length old
    long₁ = within_long w₁ (omega arith)

    pub out_fits : p₁ + most_total ≤ length r₁
    out_fits = omega (arith, within_next w₁, long₁)

    module _ {r₂ : List ℕ} {p₂ : ℕ} (w₂ : PutWithin most_total (total_text out_word a.log.run.outflow) p₁ r₁ r₂ p₂) where
      long₂ : length r₂ ≡ length old
      long₂ = within_long w₂ out_fits ∙ long₁

      pub soak_fits : p₂ + most_total ≤ length r₂
      soak_fits = omega (arith, within_next w₁, within_next w₂, long₂)

      module _ {r₃ : List ℕ} {p₃ : ℕ} (w₃ : PutWithin most_total (total_text soak_word a.log.run.soaked) p₂ r₂ r₃ p₃) where
        long₃ : length r₃ ≡ length old
        long₃ = within_long w₃ soak_fits ∙ long₂

        pub start_fits : p₃ + most_total ≤ length r₃
        start_fits = omega (arith, within_next w₁, within_next w₂, within_next w₃, long₃)

        module _ {r₄ : List ℕ} {p₄ : ℕ} (w₄ : PutWithin most_total (total_text start_word a.start) p₃ r₃ r₄ p₄) where
          long₄ : length r₄ ≡ length old
          long₄ = within_long w₄ start_fits ∙ long₃

          pub given_fits : p₄ + most_total ≤ length r₄
          given_fits = omega (arith, within_next w₁, within_next w₂, within_next w₃, within_next w₄, long₄)

          pub head_put : {r₅ : List ℕ} {p₅ : ℕ} → PutWithin most_total (total_text given_word a.given) p₄ r₄ r₅ p₅ → PutWithin most_head (head_text a) at old r₅ p₅
          unfolding head_text
          head_put w₅ =
              within_both (omega arith) w₁
              (within_both (omega (arith, within_next w₁, long₁)) w₂
              (within_both (omega (arith, within_next w₁, within_next w₂, long₂)) w₃
              (within_both (omega (arith, within_next w₁, within_next w₂, within_next w₃, long₃)) w₄ w₅)))

module _ (p : Plan) (depths lasts : List ℕ) (a : Saved) (at : ℕ) (old : List ℕ) (fine : ShapeInRange p.shape) (fits : at + most_stand ≤ length old) where
  module _ {r₁ : List ℕ} {p₁ : ℕ} (w₁ : PutWithin most_head (head_text a) at old r₁ p₁) where
    head_long : length r₁ ≡ length old
    head_long = within_long w₁ (omega arith)

    pub hatches_fit : p₁ + most_hatch_lines ≤ length r₁
    hatches_fit = omega (arith, within_next w₁, head_long)

    module _ {r₂ : List ℕ} {p₂ : ℕ} (w₂ : PutWithin most_hatch_lines (hatches_text a.log.hatches a.log.litres) p₁ r₁ r₂ p₂) where
      hatches_long : length r₂ ≡ length old
      hatches_long = within_long w₂ hatches_fit ∙ head_long

      pub squares_fit : p₂ + most_square * squares p.shape ≤ length r₂
      squares_fit = omega (arith, within_next w₁, within_next w₂, hatches_long, fine.few)

      pub stand_put : {r₃ : List ℕ} {p₃ : ℕ} → PutWithin (most_square * squares p.shape) (squares_text p depths lasts) p₂ r₂ r₃ p₃ → PutStand p depths lasts a at old r₃ p₃
      unfolding stand_text
      stand_put w₃ =
          let whole =
          within_both (omega (arith, fine.few)) w₁ (within_both (omega (arith, within_next w₁, head_long, fine.few)) w₂ w₃) in
          record { wrote = whole.wrote; short = omega (arith, whole.short, fine.few) }
