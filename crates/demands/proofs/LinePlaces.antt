-- A line that can be read ends after it began; so the lines of a log come to an end, and more of them than it has bytes do not matter.
-- Assumes nothing.
use mathlib.Core.Path.{◌≡◌, refl, sym, ap, ◌∙◌}
use mathlib.Core.Bool.{Bool, true, false}
use mathlib.Core.List.{List, [], ◌∷◌, ◌++◌}
use Prim.Native.Nat.{ℕ, zero, suc, ◌+◌, ◌-◌, ◌≤◌, ◌<◌}
use native.Mathlib.Decide.{dec_lt, ℕ_discrete}
use native.Mathlib.Omega.{arith}
use Rattle.std.proofs.Common.{Option, Some, None}
use Rattle.std.specs.Prelude.{is_some}
use lib.Dec.{eqb, leb}
use lib.ListN.{length, drop}
use borrow.Author.Tests.{eq-eqb, ne_eqb, lt-ltb, le-ltb}
use Rattle.reckon.specs.Tests.{pick, refusal}
use Rattle.reckon.proofs.TestLaws.{pick_true, pick_false, not_both}
use Rattle.ledger.specs.Runs.{Plan}
use Rattle.checks.specs.Given.{Given}
use Rattle.text.specs.Reading.{Reading, newline, tab, most_number, is_byte, word_at, digits_of, value_from, well_formed, number, number_from, number_at, field_at, with_number, before, read_fields, line_ended, read_rest, read_line}
use Rattle.text.specs.Reading.Reading.{read, unread}
use Rattle.text.specs.declared.reading.Number.{Number}
use Rattle.hatches.specs.Lines.{hatch_word, hatch_fields, back_word, back_fields, rate_fields, as_hatch, as_back, as_rate, read_rate, entry_from, unread_at, log_line}
use Rattle.hatches.specs.Log.{Evening, entry_refusals}
use Rattle.evenings.specs.Taking.{entry_number, read_number, after_read}
use Rattle.evenings.specs.Shown.{line_shown}
use Rattle.evenings.specs.Program.{lines_text, lines_from}
use Rattle.hatches.specs.declared.lines.Entry.{Entry}
use Rattle.text.proofs.ReadingLaws.{number_parts}

-- ---- readings

is_next : {a b c d : ℕ} → number a b ≡ number c d → b ≡ d
is_next e = (number_parts e).1

not_is : {A : Type 0} {c d : ℕ} → None ≡ number c d → A
not_is e = not_both (ap is_some e) refl

read_next : {v w : List ℕ} {b d : ℕ} → read v b ≡ read w d → b ≡ d
read_next e = cc

not-read : {A : Type 0} {w : List ℕ} {d : ℕ} → unread ≡ read w d → A
not-read e = absurd (let y : ◌≡◌ {A = ℕ} 0 1 = cc in omega arith)

number_forth : (s : List ℕ) (p : ℕ) {v q : ℕ} → number_at s p ≡ number v q → p ≤ q
unfolding number_at number_from pick
number_forth s p {v} {q} e = go (well_formed (digits_of (drop p s))) (leb (value_from 0 (digits_of (drop p s))) most_number) e
  where
    go : (a b : Bool) → pick a (pick b (number (value_from 0 (digits_of (drop p s))) (p + length (digits_of (drop p s)))) None) None ≡ number v q → p ≤ q
    go true true e = omega (arith, is_next e)
    go true false e = not_is e
    go false b e = not_is e

field_forth : (s : List ℕ) (p : ℕ) {v q : ℕ} → field_at s p ≡ number v q → p ≤ q
unfolding field_at pick
field_forth s p {v} {q} e = go (is_byte s p tab) e
  where
    go : (b : Bool) → pick b (number_at s (p + 1)) None ≡ number v q → p ≤ q
    go true e = omega (arith, number_forth s (p + 1) e)
    go false e = not_is e

fields_forth : (s : List ℕ) (count p : ℕ) {vs : List ℕ} {q : ℕ} → read_fields s p count ≡ read vs q → p ≤ q
unfolding read_fields before
fields_forth s zero p e = omega (arith, read_next e)
fields_forth s (suc count) p {vs} {q} e = go (field_at s p) refl (λ k ws j h. fields_forth s count k h) e
  where
    go : (n : Option Number) → field_at s p ≡ n → ((k : ℕ) (ws : List ℕ) (j : ℕ) → read_fields s k count ≡ read ws j → k ≤ j) →
        with_number n unread (λ v k. before (v ∷ []) (read_fields s k count)) ≡ read vs q → p ≤ q
    go None f ih e = not-read e
    go (Some n) f ih e = at (read_fields s n.next count) refl e
      where
        at : (r : Reading) → read_fields s n.next count ≡ r → before (n.value ∷ []) r ≡ read vs q → p ≤ q
        at (read ws j) g e = omega (arith, read_next e, ih n.next ws j g, field_forth s p {v = n.value} {q = n.next} f)
        at unread g e = not-read e

rest_forth : (s : List ℕ) (p count : ℕ) {vs : List ℕ} {q : ℕ} → read_rest s p count ≡ read vs q → p < q
unfolding read_rest line_ended pick
rest_forth s p count {vs} {q} e = go (read_fields s p count) refl e
  where
    go : (r : Reading) → read_fields s p count ≡ r → line_ended s r ≡ read vs q → p < q
    go unread f e = not-read e
    go (read ws j) f e = at (is_byte s j newline) e
      where
        at : (b : Bool) → pick b (read ws (j + 1)) unread ≡ read vs q → p < q
        at true e = omega (arith, read_next e, fields_forth s count p f)
        at false e = not-read e

line_forth : (s : List ℕ) (p : ℕ) (word : List ℕ) (count : ℕ) {vs : List ℕ} {q : ℕ} → read_line s p word count ≡ read vs q → p < q
unfolding read_line pick
line_forth s p word count {vs} {q} e = go (word_at s p word) e
  where
    go : (b : Bool) → pick b (read_rest s (p + length word) count) unread ≡ read vs q → p < q
    go true e = omega (arith, rest_forth s (p + length word) count e)
    go false e = not-read e

rate_forth : (s : List ℕ) (p : ℕ) {vs : List ℕ} {q : ℕ} → read_rate s p ≡ read vs q → p < q
unfolding read_rate before
rate_forth s p {vs} {q} e = go (number_at s p) refl e
  where
    go : (n : Option Number) → number_at s p ≡ n → with_number n unread (λ clock k. before (clock ∷ []) (read_rest s k rate_fields)) ≡ read vs q → p < q
    go None f e = not-read e
    go (Some n) f e = at (read_rest s n.next rate_fields) refl e
      where
        at : (r : Reading) → read_rest s n.next rate_fields ≡ r → before (n.value ∷ []) r ≡ read vs q → p < q
        at (read ws j) g e = omega (arith, read_next e, rest_forth s n.next rate_fields g, number_forth s p {v = n.value} {q = n.next} f)
        at unread g e = not-read e

-- a line that is not unread
pub log_forth : (s : List ℕ) (p : ℕ) → ((log_line s p).entry ≡ None → ⊥) → p < (log_line s p).next
unfolding log_line
log_forth s p d = go (read_line s p hatch_word hatch_fields) refl (read_line s p back_word back_fields) refl (read_rate s p) refl d
  where
    go : (a : Reading) → read_line s p hatch_word hatch_fields ≡ a → (b : Reading) → read_line s p back_word back_fields ≡ b → (c : Reading) → read_rate s p ≡ c →
        ((entry_from a as_hatch (entry_from b as_back (entry_from c as_rate (unread_at p)))).entry ≡ None → ⊥) →
        p < (entry_from a as_hatch (entry_from b as_back (entry_from c as_rate (unread_at p)))).next
    go (read vs q) f b g c h d = line_forth s p hatch_word hatch_fields f
    go unread f (read vs q) g c h d = line_forth s p back_word back_fields g
    go unread f unread g (read vs q) h d = rate_forth s p h
    go unread f unread g unread h d = absurd (d refl)

-- ---- a line that is not refused

module _ (p : Plan) (g : Given) (e : Evening) where
  pub number_zero : (entry : Entry) → entry_number p g e entry ≡ 0 → refusal (entry_refusals p g e entry) ≡ 0
  unfolding entry_number
  number_zero entry z = go (ℕ_discrete (refusal (entry_refusals p g e entry)) 0)
    where
      go : Dec (refusal (entry_refusals p g e entry) ≡ 0) → refusal (entry_refusals p g e entry) ≡ 0
      go (yes y) = y
      go (no d) = sym (pick_false _ _ (ne_eqb _ _ d)) ∙ z

  pub zero_read : (line : Option Entry) → read_number p g e line ≡ 0 → line ≡ None → ⊥
  zero_read line z h = omega (arith, z, ap (read_number p g e) h)

pub zero_forth : (p : Plan) (g : Given) (s : List ℕ) (at : ℕ) (e : Evening) → read_number p g e (log_line s at).entry ≡ 0 → at < (log_line s at).next
zero_forth p g s at e z = log_forth s at (zero_read p g e (log_line s at).entry z)

-- ---- lines one after the other

module _ (p : Plan) (g : Given) (s : List ℕ) where
  abbrev num : ℕ → Evening → ℕ
  num at e = read_number p g e (log_line s at).entry

  abbrev onward : ℕ → ℕ → ℕ → Evening → List ℕ
  onward most at line e =
      line_shown p g s at line e ++ pick (eqb (num at e) 0) (lines_text p g s most (log_line s at).next (line + 1) (after_read p g e (log_line s at).entry)) []

  lines_over : (most at line : ℕ) (e : Evening) → length s ≤ at → lines_text p g s most at line e ≡ []
  unfolding lines_text
  lines_over zero at line e h = refl
  lines_over (suc most) at line e h = pick_false _ _ (le-ltb _ _ h)

  lines_here : (most at line : ℕ) (e : Evening) → at < length s → lines_text p g s (suc most) at line e ≡ onward most at line e
  unfolding lines_text
  lines_here most at line e h = pick_true _ _ (lt-ltb _ _ h)

  lines_enough : (a b at line : ℕ) (e : Evening) → length s - at ≤ a → length s - at ≤ b → lines_text p g s a at line e ≡ lines_text p g s b at line e
  lines_enough zero b at line e h k = lines_over zero at line e (omega arith) ∙ sym (lines_over b at line e (omega arith))
  lines_enough (suc a) zero at line e h k = lines_over (suc a) at line e (omega arith) ∙ sym (lines_over zero at line e (omega arith))
  lines_enough (suc a) (suc b) at line e h k =
      go (dec_lt at (length s)) (ℕ_discrete (num at e) 0)
      (λ m l. lines_enough a b (log_line s at).next (line + 1) (after_read p g e (log_line s at).entry) m l)
    where
      go : Dec (at < length s) → Dec (num at e ≡ 0) →
          (length s - (log_line s at).next ≤ a → length s - (log_line s at).next ≤ b →
          lines_text p g s a (log_line s at).next (line + 1) (after_read p g e (log_line s at).entry) ≡ lines_text p g s b (log_line s at).next (line + 1) (after_read p g e (log_line s at).entry)) →
          lines_text p g s (suc a) at line e ≡ lines_text p g s (suc b) at line e
      go (no l) d ih = lines_over (suc a) at line e (omega arith) ∙ sym (lines_over (suc b) at line e (omega arith))
      go (yes l) (yes z) ih =
          let f = zero_forth p g s at e z in
          lines_here a at line e l
          ∙ (ap (λ (t : List ℕ). line_shown p g s at line e ++ pick (eqb (num at e) 0) t []) (ih (omega arith) (omega arith)) ∙ sym (lines_here b at line e l))
      go (yes l) (no d) ih =
          let f = ne_eqb _ _ d in
          lines_here a at line e l
          ∙ (ap (λ (t : List ℕ). line_shown p g s at line e ++ t) (pick_false _ _ f ∙ sym (pick_false _ _ f)) ∙ sym (lines_here b at line e l))

  pub from_over : (at line : ℕ) (e : Evening) → length s ≤ at → lines_from p g s at line e ≡ []
  from_over at line e h = lines_over (length s - at) at line e h

  pub from_refused : (at line : ℕ) (e : Evening) → at < length s → (num at e ≡ 0 → ⊥) → lines_from p g s at line e ≡ line_shown p g s at line e ++ []
  from_refused at line e h d =
      ap (λ (k : ℕ). lines_text p g s k at line e) (let k : length s - at ≡ suc (length s - at - 1) = omega arith in k)
      ∙ (lines_here (length s - at - 1) at line e h ∙ ap (λ (t : List ℕ). line_shown p g s at line e ++ t) (pick_false _ _ (ne_eqb _ _ d)))

  pub from_taken : (at line : ℕ) (e : Evening) → at < length s → num at e ≡ 0 →
      lines_from p g s at line e ≡ line_shown p g s at line e ++ lines_from p g s (log_line s at).next (line + 1) (after_read p g e (log_line s at).entry)
  from_taken at line e h z =
      let f = zero_forth p g s at e z in
      ap (λ (k : ℕ). lines_text p g s k at line e) (let k : length s - at ≡ suc (length s - at - 1) = omega arith in k)
      ∙ (lines_here (length s - at - 1) at line e h
      ∙ ap (λ (t : List ℕ). line_shown p g s at line e ++ t)
      (pick_true _ _ (eq-eqb _ _ z)
      ∙ lines_enough (length s - at - 1) (length s - (log_line s at).next) (log_line s at).next (line + 1) (after_read p g e (log_line s at).entry) (omega arith) (omega arith)))
