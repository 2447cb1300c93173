-- The note of what can be said reads back: the mark of each square is the one whose line stands there.
-- Assumes nothing.
use Rattle.std.proofs.Common.{is_some}
use mathlib.Core.Path.{◌≡◌, refl, sym, ap, subst, ◌∙◌}
use mathlib.Core.Bool.{true, false, not}
use mathlib.Core.List.{List, [], ◌∷◌, ◌++◌, append_assoc}
use Prim.Native.Nat.{ℕ, zero, suc, ◌+◌, ◌/◌, ◌%◌, ◌≤◌, ◌<◌}
use native.Mathlib.Omega.{arith}
use lib.Dec.{ltb}
use lib.ListN.{length, get_or, length-append}
use lib.Seq.{get_or-append_seam}
use borrow.Author.Tests.{lt-ltb, le-leb}
use Rattle.reckon.specs.Tests.{pick, first_failing}
use Rattle.reckon.proofs.TestLaws.{failing_at, failing_none, passed_refusal}
use Rattle.grid.specs.Squares.{squares}
use Rattle.grid.specs.declared.squares.Shape.{Shape}
use Rattle.text.specs.Reading.{tab, newline, word_at, line_from}
use Rattle.text.specs.Writing.{fields_text, rest_text}
use Rattle.text.specs.Inner.Standing.{plain, StandsAt}
use Rattle.text.proofs.ReadingLaws.{by_lt, word_differs}
use Rattle.text.proofs.StandLaws.{stands_second, stands_within, byte_stands, word_stands}
use Rattle.text.proofs.LineLaws.{plain_cons, plain_both, plain_fields}
use Rattle.sheet.specs.Lines.{cell_word, letter_of, line_head}
use Rattle.sheet.specs.Sheet.{Rooms, shape_of, cells_at, after_all}
use Rattle.sheet.specs.Written.{lines_written}
use Rattle.sheet.specs.declared.reading.Heading.{Heading}
use Rattle.survey.specs.Sets.{mark_line, note_text, note_mark, marks_read, note_bad}
use Rattle.survey.specs.Inner.Writing.{Sayable}
use Rattle.survey.proofs.LinesBack.{one_there, two_there, Line, shape_back, cell_at, after-back}

-- ---- the line of a square

-- what it begins with, up to the tab before its mark
abbrev up_to_mark : ℕ → ℕ → List ℕ
up_to_mark columns i = cell_word ++ (fields_text (i / columns ∷ i % columns ∷ []) ++ (tab ∷ []))

marked_is : (columns i mark : ℕ) → mark_line columns i mark ≡ up_to_mark columns i ++ (letter_of mark ∷ newline ∷ [])
unfolding mark_line rest_text fields_text
marked_is columns i mark = simp append_assoc

letter_plain : (mark : ℕ) → letter_of mark ≡ newline → ⊥
unfolding letter_of
letter_plain zero e = omega (arith, e)
letter_plain (suc zero) e = omega (arith, e)
letter_plain (suc (suc zero)) e = omega (arith, e)
letter_plain (suc (suc (suc mark))) e = omega (arith, e)

plain_nothing : plain [] ≡ true
unfolding plain
plain_nothing = refl

plain_cell : plain cell_word ≡ true
unfolding plain pick
plain_cell = refl

-- what a square's line begins with has no newline
pub plain_head : (row column mark : ℕ) → plain (line_head row column mark) ≡ true
plain_head row column mark =
    plain_both cell_word _ plain_cell
    (plain_both (fields_text (row ∷ column ∷ [])) _ (plain_fields (row ∷ column ∷ []))
    (plain_cons tab _ (λ z. omega arith) (plain_cons (letter_of mark) [] (letter_plain mark) plain_nothing)))

marked_line : (columns i mark : ℕ) → Line (mark_line columns i mark)
unfolding mark_line rest_text fields_text
marked_line columns i mark =
    record { text = line_head (i / columns) (i % columns) mark; plain_is = plain_head (i / columns) (i % columns) mark; same = refl }

letters_differ : (k m : ℕ) → k < m → m < 3 → letter_of m ≡ letter_of k → ⊥
unfolding letter_of
letters_differ k m h g e =
    by_lt k 1
    (λ l.
    let ek : k ≡ 0 = omega arith in
    by_lt m 2 (λ n. let em : m ≡ 1 = omega arith in omega (arith, sym (ap letter_of em) ∙ (e ∙ ap letter_of ek)))
    (λ n. let em : m ≡ 2 = omega arith in omega (arith, sym (ap letter_of em) ∙ (e ∙ ap letter_of ek))))
    (λ l.
    let ek : k ≡ 1 = omega arith in
    let em : m ≡ 2 = omega arith in
    omega (arith, sym (ap letter_of em) ∙ (e ∙ ap letter_of ek)))

module _ {s : List ℕ} {p q : ℕ} (columns i mark : ℕ) (low : mark < 3) (a : StandsAt s p (mark_line columns i mark) q) where
  here : StandsAt s p (up_to_mark columns i ++ (letter_of mark ∷ newline ∷ [])) q
  here = subst (λ (t : List ℕ). StandsAt s p t q) (marked_is columns i mark) a

  letter_here : get_or s (p + length (up_to_mark columns i)) 0 ≡ letter_of mark
  letter_here = (byte_stands (stands_second (up_to_mark columns i) (letter_of mark ∷ newline ∷ []) here)).0

  inside : q ≤ length s
  inside = stands_within (stands_second (up_to_mark columns i) (letter_of mark ∷ newline ∷ []) here)

  other : (k : ℕ) → k < mark → word_at s p (mark_line columns i k) ≡ false
  other k h =
      ap (word_at s p) (marked_is columns i k)
      ∙ word_differs s p (up_to_mark columns i ++ (letter_of k ∷ newline ∷ [])) (length (up_to_mark columns i))
      (rw (length-append (up_to_mark columns i) (letter_of k ∷ newline ∷ [])) (omega arith))
      (λ z. letters_differ k mark h low (sym letter_here ∙ (z ∙ get_or-append_seam (up_to_mark columns i) (letter_of k) (newline ∷ []) 0)))

  mark_back : first_failing 3 (λ m. not (word_at s p (mark_line columns i m))) ≡ mark
  mark_back =
      failing_at 3 (λ m. not (word_at s p (mark_line columns i m))) mark low (λ k h. ap not (other k h))
      (ap not (word_stands inside a))

-- ---- the note

module _ (h : Heading) (held : Rooms) (say : Sayable h held) where
  abbrev mark : ℕ → ℕ
  mark i = get_or held.cells.marks i 0

  abbrev cell : ℕ → List ℕ
  cell i = mark_line h.shape.columns i (mark i)

  pub marks_lined : (i : ℕ) → i < squares h.shape → Line (cell i)
  marks_lined i l = marked_line h.shape.columns i (mark i)

  abbrev lines : List ℕ
  lines = lines_written h held cell

  pub note_lines : note_text h held ≡ lines
  unfolding note_text
  note_lines = refl

  pub mark_is : (i : ℕ) → i < squares h.shape → note_mark lines i ≡ mark i
  unfolding note_mark
  mark_is i l =
      ap (λ (g : Shape). first_failing 3 (λ m. not (word_at lines (line_from lines (cells_at lines) i) (mark_line g.columns i m))))
      (shape_back h held say cell marks_lined)
      ∙ mark_back h.shape.columns i (mark i) (say.marks_low i l) (cell_at h held say cell marks_lined i l)

  marks_back : marks_read lines ≡ squares h.shape
  unfolding marks_read
  marks_back =
      ap (λ (g : Shape). first_failing (squares g) (λ i. ltb (note_mark lines i) 3)) (shape_back h held say cell marks_lined)
      ∙ failing_none (squares h.shape) (λ i. ltb (note_mark lines i) 3)
      (λ i l. ap (λ (m : ℕ). ltb m 3) (mark_is i l) ∙ lt-ltb (mark i) 3 (say.marks_low i l))

  pub note_reads : note_bad lines ≡ 0
  unfolding note_bad
  note_reads =
      passed_refusal _ (
        ap is_some (one_there h held say cell marks_lined),
        (
          ap is_some (two_there h held say cell marks_lined),
          (
            le-leb (squares (shape_of lines)) (marks_read lines) (omega (arith, marks_back, ap squares (shape_back h held say cell marks_lined))),
            (le-leb (length lines) (after_all lines) (omega (arith, after-back h held say cell marks_lined)), tt),
          ),
        ),
      )
