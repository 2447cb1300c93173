-- What the exported reading of a sheet and the whole of `meadow` give follows from what the calls below give.
-- Assumes nothing.
use mathlib.Core.Path.{◌≡◌, sym, ap, ◌∙◌}
use mathlib.Core.Bool.{true, false}
use mathlib.Core.List.{List, [], ◌∷◌}
use Prim.Native.Nat.{ℕ, ◌≤◌, ◌<◌}
use native.Mathlib.Omega.{arith}
use lib.ListN.{length, take, drop, replicate, length-replicate}
use lib.Seq.{take-append_seam}
use borrow.Author.Tests.{eq-eqb, le-leb, lt-leb}
use Rattle.reckon.specs.Lists.{placed}
use Rattle.reckon.proofs.TestLaws.{pick_true, pick_false, each_every}
use Rattle.text.specs.Writing.{Wrote}
use Rattle.text.proofs.WritingLaws.{wrote_length}
use Rattle.sheet.specs.Sheet.{Rooms, Reads, rooms_after}
use Rattle.programs.specs.Program.{Prints, meadow_text, most_printed}
use Rattle.sheet.specs.declared.reading.Heading.{Heading}
use Rattle.sheet.specs.declared.reading.Sheet.{Sheet}
use Rattle.sheet.specs.declared.reading.Sheet.TheVariants.{Read, Refused}
use Rattle.exports.specs.Numbers.{heading_numbers, heading_size, line_size}
use Rattle.exports.specs.Sheets.{sheet_number, sheet_line, heading_in, sheet_sized, ExportsRead, ExportsMeadow}
use Rattle.exports.proofs.AnswerLaws.{sized_number, unsized_number}

-- ---- reading

abbrev pub SheetGives : Sheet → List ℕ → ℕ → List ℕ → List ℕ → Type 0
SheetGives a old number heading line = (number ≡ sheet_number a) × (heading ≡ heading_in a old) × (line ≡ sheet_line a ∷ [])

pub read_told : {a : Sheet} {h : Heading} (old : List ℕ) {heading line : List ℕ} → a ≡ Read h → heading ≡ heading_numbers h → line ≡ 0 ∷ [] → SheetGives a old 0 heading line
unfolding sheet_number sheet_line heading_in
read_told old e s l =
    (ap sheet_number (sym e), s ∙ ap (λ (z : Sheet). heading_in z old) (sym e), l ∙ ap (λ (z : Sheet). sheet_line z ∷ []) (sym e))

pub refused-told : {a : Sheet} {n at : ℕ} (old : List ℕ) {line : List ℕ} → a ≡ Refused n at → line ≡ at ∷ [] → SheetGives a old n old line
unfolding sheet_number sheet_line heading_in
refused-told old e l =
    (ap sheet_number (sym e), ap (λ (z : Sheet). heading_in z old) (sym e), l ∙ ap (λ (z : Sheet). sheet_line z ∷ []) (sym e))

module _ (s : List ℕ) (before : Rooms) (old_heading old_line : List ℕ) where
  pub sheet_unsized : sheet_sized s before old_heading old_line ≡ false → ExportsRead s before old_heading old_line 1 before old_heading old_line
  sheet_unsized unfit =
      record {
        number_is = sym (unsized_number _ unfit);
        rooms_are = sym (pick_false _ _ unfit);
        heading_is = sym (pick_false _ _ unfit);
        line_is = sym (pick_false _ _ unfit);
      }

  pub sheet_told :
      {a : Sheet} {number : ℕ} {after : Rooms} {heading line : List ℕ} → length old_heading ≡ heading_size → length old_line ≡ line_size →
      Reads s before a after → SheetGives a old_heading number heading line → ExportsRead s before old_heading old_line number after heading line
  sheet_told h l f t =
      let fits : sheet_sized s before old_heading old_line ≡ true =
      each_every _ (eq-eqb (length old_heading) heading_size h, (eq-eqb (length old_line) line_size l, tt)) in
      record {
        number_is = t.0 ∙ (ap sheet_number f.answer ∙ sym (sized_number fits));
        rooms_are = f.rooms_are ∙ (ap (λ (z : Sheet). rooms_after s z before) f.answer ∙ sym (pick_true _ _ fits));
        heading_is = t.1 ∙ (ap (λ (z : Sheet). heading_in z old_heading) f.answer ∙ sym (pick_true _ _ fits));
        line_is = t.2 ∙ (ap (λ (z : Sheet). sheet_line z ∷ []) f.answer ∙ sym (pick_true _ _ fits));
      }

-- ---- what is printed

-- a text put at the start of a room is read back there
pub printed_again : {t old new : List ℕ} {r : ℕ} → Prints t old new r → take r new ≡ t
unfolding placed
printed_again {t} {old} {new} {r} f =
    let long : r ≡ length t = omega (arith, f.wrote.next) in
    ap (λ (n : ℕ). take n new) long ∙ (ap (λ (l : List ℕ). take (length t) l) f.wrote.room ∙ take-append_seam t (drop (length t) old))

-- it lies within a room that always suffices
pub printed_within : {t new : List ℕ} {r : ℕ} → Prints t (replicate most_printed 0) new r → (r ≤ length new) × (length new ≡ most_printed)
printed_within {t} {new} {r} f =
    let empty = length-replicate {A = ℕ} most_printed 0 in
    let long : length new ≡ most_printed = wrote_length (omega (arith, f.fits, empty)) f.wrote ∙ empty in
    (omega (arith, f.fits, f.wrote.next, long), long)

module _ (s old : List ℕ) where
  pub meadow_unsized : length old < most_printed → ExportsMeadow s old 0 old
  meadow_unsized h =
      let unfit = lt-leb most_printed (length old) h in
      record { long_is = sym (pick_false _ _ unfit); out_is = sym (pick_false _ _ unfit) }

  pub meadow-told :
      {room printed : List ℕ} {n : ℕ} {out : List ℕ} {r : ℕ} → most_printed ≤ length old → Prints (meadow_text s) room printed n →
      Wrote (take n printed) 0 old out r → ExportsMeadow s old r out
  meadow-told {room} {printed} {n} {out} {r} h f g =
      let whole : r ≡ length (take n printed) = omega (arith, g.next) in
      let fits = le-leb most_printed (length old) h in
      record {
        long_is = whole ∙ (ap length (printed_again f) ∙ sym (pick_true _ _ fits));
        out_is = g.room ∙ (ap (placed old 0) (printed_again f) ∙ sym (pick_true _ _ fits));
      }
