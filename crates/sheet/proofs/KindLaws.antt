-- Laws of the kinds of line: a line that is found ends where the next one starts, and a square's line is judged by its place.
-- Assumes nothing.
use mathlib.Core.Path.{◌≡◌, refl, sym, ap, subst, ◌∙◌}
use mathlib.Core.Bool.{Bool, true, false}
use mathlib.Core.List.{List, [], ◌∷◌, ◌++◌, append_assoc}
use Prim.Native.Nat.{ℕ, ◌+◌, ◌≤◌, ◌<◌}
use native.Mathlib.Omega.{arith}
use Rattle.std.proofs.Common.{Option, Some, None, is_some, option_map}
use lib.ListN.{length, get_or, drop, take, length-append, length-drop}
use borrow.Author.Tests.{eq-eqb, ne_eqb}
use Rattle.reckon.specs.Tests.{pick}
use Rattle.reckon.proofs.TestLaws.{not_both, pick_true, pick_false}
use Rattle.text.specs.Reading.{tab, newline, most_fields, is_byte, word_at, fields_at, rest_of_line, line_of, next_line, LineOf, FieldsAt, RestOfLine}
use Rattle.text.specs.Writing.{fields_text, rest_text, line_text}
use Rattle.text.specs.Inner.Standing.{plain, StandsAt}
use Rattle.text.specs.declared.reading.Fields.{Fields}
use Rattle.text.proofs.StandLaws.{stands_both, stands_byte, stands_word}
use Rattle.text.proofs.RoundTrip.{fields_found, rest_found, line_found}
use Rattle.text.proofs.LineLaws.{plain_cons, plain_both, plain_fields, line_ends}
use Rattle.sheet.specs.Lines.{run_word, run_fields, as_run, run_line, cell_word, closed_cell, as_open, open_cell, marked_cell, placed_cell, cell_line, x_letter, o_letter, e_letter, open_fields, place_fields}
use Rattle.sheet.specs.Sheet.{run_or, cell_or}
use Rattle.sheet.specs.declared.lines.CellLine.{CellLine}

-- ---- a line that is found

-- a text with no newline in it stands at p, and then a newline up to q
pub record Lined (s : List ℕ) (p q : ℕ) : Type 0 where
  pub text : List ℕ
  pub plain_is : plain text ≡ true
  pub stands : StandsAt s p (text ++ (newline ∷ [])) q

module _ {s : List ℕ} {p q : ℕ} (l : Lined s p q) where
  pub lined_next : next_line s p ≡ q
  lined_next = line_ends l.text l.plain_is l.stands

  pub lined_forth : p < q
  lined_forth = omega (arith, l.stands.after, length-append l.text (newline ∷ []))

  pub lined_inside : p < length s
  lined_inside =
      omega (
        arith,
        ap length l.stands.text,
        length-append (l.text ++ (newline ∷ [])) (drop q s),
        length-append l.text (newline ∷ []),
        length-drop p s,
      )

lined_after : {s : List ℕ} {p q r : ℕ} (t : List ℕ) → plain t ≡ true → StandsAt s p t q → Lined s q r → Lined s p r
lined_after {s} {p} {q} {r} t e a l =
    record {
      text = t ++ l.text;
      plain_is = plain_both t l.text e l.plain_is;
      stands =
          subst (λ (u : List ℕ). StandsAt s p u r) (sym (append_assoc t l.text (newline ∷ []))) (stands_both a l.stands);
    }

plain_nothing : plain [] ≡ true
unfolding plain
plain_nothing = refl

lined_byte : {s : List ℕ} {q r : ℕ} (p b : ℕ) → (b ≡ newline → ⊥) → is_byte s p b ≡ true → p + 1 ≡ q → Lined s q r → Lined s p r
lined_byte {s} {q} {r} p b d e h l =
    lined_after (b ∷ []) (plain_cons b [] d plain_nothing) (stands_byte s p b e) (subst (λ (k : ℕ). Lined s k r) (sym h) l)

pub row_lined :
    {f : Fields} (s : List ℕ) (p : ℕ) (word : List ℕ) (count : ℕ) → count ≤ most_fields → plain word ≡ true → LineOf s p word count (Some f) →
    Lined s p f.next
unfolding line_text rest_text
row_lined {f} s p word count few w e =
    let vs : List ℕ = take count f.values in
    record {
      text = word ++ fields_text vs;
      plain_is = plain_both word (fields_text vs) w (plain_fields vs);
      stands =
          subst (λ (u : List ℕ). StandsAt s p u f.next) (sym (append_assoc word (fields_text vs) (newline ∷ [])))
          (line_found s p count few word e).stands;
    }

-- a cell line that ends with its line, where it is found
abbrev pub Ends : List ℕ → ℕ → Option CellLine → Type 0
Ends s p (Some c) = Lined s p c.next
Ends s p None = Unit {0}

pub ended : (s : List ℕ) (p : ℕ) (c : Option CellLine) → Ends s p c → is_some c ≡ true → Lined s p (cell_or c).next
ended s p (Some c) l e = l
ended s p None l e = not_both e refl

-- what holds of each side where its test says so holds of the choice
pub choice : {A : Type 0} (P : A → Type 0) (b : Bool) {x y : A} → (b ≡ true → P x) → (b ≡ false → P y) → P (pick b x y)
unfolding pick
choice P true f g = f refl
choice P false f g = g refl

closed_ends : (s : List ℕ) (p : ℕ) → Ends s p (closed_cell s p)
unfolding closed_cell
closed_ends s p =
    choice (Ends s p) (is_byte s p newline)
    (λ h. record { text = []; plain_is = plain_nothing; stands = stands_byte s p newline h }) (λ h. tt)

open_ends : (s : List ℕ) (p mark : ℕ) → Ends s p (open_cell s p mark)
unfolding open_cell as_open rest_text
open_ends s p mark = go (rest_of_line s p open_fields) refl
  where
    go : (f : Option Fields) → RestOfLine s p open_fields f → Ends s p (option_map (as_open mark) f)
    go (Some f) e =
        let vs : List ℕ = take open_fields f.values in
        record {
          text = fields_text vs;
          plain_is = plain_fields vs;
          stands = (rest_found {f = f} s p open_fields (omega arith) e).stands;
        }
    go None e = tt

-- a tab and a mark before what follows
after_mark :
    (s : List ℕ) (p mark : ℕ) (c : Option CellLine) → (mark ≡ newline → ⊥) → is_byte s p tab ≡ true → is_byte s (p + 1) mark ≡ true →
    Ends s (p + 2) c → Ends s p c
after_mark s p mark (Some c) d t h f =
    lined_byte p tab (λ z. omega arith) t refl (lined_byte (p + 1) mark d h (omega arith) f)
after_mark s p mark None d t h f = tt

marked_ends : (s : List ℕ) (p : ℕ) → Ends s p (marked_cell s p)
unfolding marked_cell
marked_ends s p =
    choice (Ends s p) (is_byte s p tab)
    (λ t.
    choice (Ends s p) (is_byte s (p + 1) x_letter)
    (λ h. after_mark s p x_letter (closed_cell s (p + 2)) (λ z. omega arith) t h (closed_ends s (p + 2)))
    (λ n.
    choice (Ends s p) (is_byte s (p + 1) o_letter)
    (λ h. after_mark s p o_letter (open_cell s (p + 2) 1) (λ z. omega arith) t h (open_ends s (p + 2) 1))
    (λ m.
    choice (Ends s p) (is_byte s (p + 1) e_letter)
    (λ h. after_mark s p e_letter (open_cell s (p + 2) 2) (λ z. omega arith) t h (open_ends s (p + 2) 2)) (λ k. tt))))
    (λ n. tt)

-- a word and fields before what follows
after_place :
    {f : Fields} (s : List ℕ) (p : ℕ) (word : List ℕ) (count : ℕ) (c : Option CellLine) → count ≤ most_fields → plain word ≡ true →
    word_at s p word ≡ true → FieldsAt s (p + length word) count (Some f) → Ends s f.next c → Ends s p c
after_place {f} s p word count (Some c) few w t e l =
    let vs : List ℕ = take count f.values in
    lined_after word w (stands_word s p word t)
    (lined_after (fields_text vs) (plain_fields vs) (fields_found {f = f} s (p + length word) count few e).stands l)
after_place s p word count None few w t e l = tt

plain_cell : plain cell_word ≡ true
unfolding plain pick
plain_cell = refl

pub cell_ends : (s : List ℕ) (p row column : ℕ) → Ends s p (cell_line s p row column)
unfolding cell_line placed_cell
cell_ends s p row column =
    choice (Ends s p) (word_at s p cell_word) (λ t. go t (fields_at s (p + length cell_word) place_fields) refl) (λ n. tt)
  where
    go : word_at s p cell_word ≡ true → (f : Option Fields) → FieldsAt s (p + length cell_word) place_fields f → Ends s p (placed_cell s row column f)
    go t (Some f) e =
        choice (Ends s p) _
        (λ r.
        choice (Ends s p) _
        (λ q. after_place {f = f} s p cell_word place_fields (marked_cell s f.next) (omega arith) plain_cell t e (marked_ends s f.next))
        (λ n. tt))
        (λ n. tt)
    go t None e = tt

-- ---- line 2 takes D over from line 1

pub run_side : (s : List ℕ) (p D : ℕ) → (run_or D (run_line s p D)).rules.square_side ≡ D
unfolding run_line as_run
run_side s p D = go (line_of s p run_word run_fields)
  where
    go : (f : Option Fields) → (run_or D (option_map (as_run D) f)).rules.square_side ≡ D
    go (Some f) = refl
    go None = refl

-- ---- the place of a square, as it is judged

module _ {f : Fields} {g : Option Fields} (s : List ℕ) (row column : ℕ) (e : Some f ≡ g) where
  pub place_row : (get_or f.values 0 0 ≡ row → ⊥) → placed_cell s row column g ≡ None
  unfolding placed_cell
  place_row d = subst (λ (k : Option Fields). placed_cell s row column k ≡ None) e (pick_false _ _ (ne_eqb _ _ d))

  module _ (h : get_or f.values 0 0 ≡ row) where
    pub place_column : (get_or f.values 1 0 ≡ column → ⊥) → placed_cell s row column g ≡ None
    unfolding placed_cell
    place_column d =
        subst (λ (k : Option Fields). placed_cell s row column k ≡ None) e
        (pick_true _ _ (eq-eqb _ _ h) ∙ pick_false _ _ (ne_eqb _ _ d))

    pub place_right : get_or f.values 1 0 ≡ column → placed_cell s row column g ≡ marked_cell s f.next
    unfolding placed_cell
    place_right k =
        subst (λ (z : Option Fields). placed_cell s row column z ≡ marked_cell s f.next) e
        (pick_true _ _ (eq-eqb _ _ h) ∙ pick_true _ _ (eq-eqb _ _ k))
