-- What is written can be told apart: texts that begin with lines of one kind and are the same have the same numbers there, however large.
-- Assumes nothing.
use mathlib.Core.Path.{◌≡◌, refl, sym, ap, ◌∙◌}
use mathlib.Core.Bool.{false}
use mathlib.Core.List.{List, [], ◌∷◌, ◌++◌, append_assoc}
use Prim.Native.Nat.{ℕ}
use native.Mathlib.Omega.{arith}
use lib.ListN.{length, get_or, drop}
use lib.Seq.{drop-append_seam}
use Rattle.text.specs.Reading.{newline, is_digit, digits_of, value_from}
use Rattle.text.specs.Writing.{decimal, field_text, fields_text, rest_text, line_text}
use Rattle.text.proofs.RoundTrip.{digits_written, digits_worth, tab-alone, newline-alone}

-- what follows a text that both begin with
same_rest : (a t u : List ℕ) → a ++ t ≡ a ++ u → t ≡ u
same_rest a t u e = sym (drop-append_seam a t) ∙ (ap (drop (length a)) e ∙ drop-append_seam a u)

-- no digit follows a number
abbrev Alone : List ℕ → Type 0
Alone t = is_digit (get_or t 0 0) ≡ false

number_apart : (n m : ℕ) (t u : List ℕ) → Alone t → Alone u → decimal n ++ t ≡ decimal m ++ u → (n ≡ m) × (t ≡ u)
number_apart n m t u e f q =
    let same : n ≡ m =
    sym (digits_worth n)
    ∙ (ap (value_from 0) (sym (digits_written n t e) ∙ (ap digits_of q ∙ digits_written m u f)) ∙ digits_worth m) in
    (same, same_rest (decimal m) t u (ap (λ (k : ℕ). decimal k ++ t) (sym same) ∙ q))

fields_alone : (vs t : List ℕ) → Alone t → Alone (fields_text vs ++ t)
unfolding fields_text field_text
fields_alone [] t e = e
fields_alone (v ∷ vs) t e = tab-alone

fields_apart : (vs ws t u : List ℕ) → length vs ≡ length ws → Alone t → Alone u → fields_text vs ++ t ≡ fields_text ws ++ u → (vs ≡ ws) × (t ≡ u)
unfolding fields_text field_text
fields_apart [] [] t u l e f q = (refl, q)
fields_apart [] (w ∷ ws) t u l e f q = absurd (omega (arith, l))
fields_apart (v ∷ vs) [] t u l e f q = absurd (omega (arith, l))
fields_apart (v ∷ vs) (w ∷ ws) t u l e f q =
    let first =
    number_apart v w (fields_text vs ++ t) (fields_text ws ++ u) (fields_alone vs t e) (fields_alone ws u f)
    (sym (append_assoc (decimal v) (fields_text vs) t) ∙ (ap (drop 1) q ∙ append_assoc (decimal w) (fields_text ws) u)) in
    let others = fields_apart vs ws t u (omega (arith, l)) e f first.1 in
    (ap (λ (k : ℕ). k ∷ vs) first.0 ∙ ap (λ (l : List ℕ). w ∷ l) others.0, others.1)

line_before : (word vs t : List ℕ) → line_text word vs ++ t ≡ word ++ (fields_text vs ++ (newline ∷ t))
unfolding line_text rest_text
line_before word vs t =
    append_assoc word (fields_text vs ++ (newline ∷ [])) t ∙ ap (λ (l : List ℕ). word ++ l) (append_assoc (fields_text vs) (newline ∷ []) t)

pub line_apart : (word vs ws t u : List ℕ) → length vs ≡ length ws → line_text word vs ++ t ≡ line_text word ws ++ u → (vs ≡ ws) × (t ≡ u)
line_apart word vs ws t u l q =
    let whole =
    fields_apart vs ws (newline ∷ t) (newline ∷ u) l newline-alone newline-alone
    (same_rest word _ _ (sym (line_before word vs t) ∙ (q ∙ line_before word ws u))) in
    (whole.0, ap (drop 1) whole.1)
