-- Every contract leaves one outcome: each is an equation for all that a call gives.
-- Assumes nothing.
use mathlib.Core.Path.{sym, ◌∙◌}
use mathlib.Core.List.{List}
use Prim.Native.Nat.{ℕ}
use native.Mathlib.Omega.{arith}
use Rattle.reckon.specs.Outcomes.{One}
use Rattle.text.specs.Writing.{Wrote}
use Rattle.reckon.proofs.OutcomeLaws.{exactly}
use Rattle.text.specs.Inner.Determined.{TextDetermined}

-- a number and a room written
pub written : {t : List ℕ} {at : ℕ} {old : List ℕ} → One {Out = ℕ × List ℕ} (λ o. Wrote t at old o.1 o.0)
written a b p q = λ j. ((p.next ∙ sym q.next) j, (p.room ∙ sym q.room) j)

pub text_determined : TextDetermined
text_determined =
    record {
      byte_is = λ text at byte. exactly;
      word-at = λ text at word. exactly;
      is_digit = λ text at. exactly;
      digit = λ text at a b p q. omega (arith, p, q);
      number_at = λ text at. exactly;
      field_at = λ text at. exactly;
      fields-at = λ text at count. exactly;
      rest-of-line = λ text at count. exactly;
      line_of = λ text at word count. exactly;
      line-end = λ text at. exactly;
      next-line = λ text at. exactly;
      line-at = λ text at. exactly;
      nth-line = λ text k. exactly;
      put_byte = λ byte at room. written;
      put_word = λ word at room. written;
      put_number = λ n at room. written;
      put_field = λ n at room. written;
      put_fields = λ values at room. written;
      put_line = λ word values at room. written;
    }
