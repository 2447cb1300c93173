-- The contract of each layer function of this crate leaves one outcome.
-- Assumes nothing.
use Rattle.std.specs.Prelude.{List, ℕ}
use Rattle.reckon.specs.Outcomes.{One}
use Rattle.text.specs.Reading.{ByteIs, WordAt, DigitJudged, DigitAt, FieldAt, FieldsAt, RestOfLine, LineOf}
use Rattle.text.specs.Reading as Reading
use Rattle.text.specs.Lines.{LineEnd, NextLine, LineAt, NthLine}
use Rattle.text.specs.Writing.{PutByte, PutWord, PutNumber, PutField, PutFields, PutLine}

pub record TextDetermined : Type 0 where
  pub byte_is : (text : List ℕ) (at byte : ℕ) → One (ByteIs text at byte)
  pub word-at : (text : List ℕ) (at : ℕ) (word : List ℕ) → One (WordAt text at word)
  pub is_digit : (text : List ℕ) (at : ℕ) → One (DigitJudged text at)
  pub digit : (text : List ℕ) (at : ℕ) → One (DigitAt text at)
  pub number_at : (text : List ℕ) (at : ℕ) → One (Reading.NumberReadAt text at)
  pub field_at : (text : List ℕ) (at : ℕ) → One (FieldAt text at)
  pub fields-at : (text : List ℕ) (at count : ℕ) → One (FieldsAt text at count)
  pub rest-of-line : (text : List ℕ) (at count : ℕ) → One (RestOfLine text at count)
  pub line_of : (text : List ℕ) (at : ℕ) (word : List ℕ) (count : ℕ) → One (LineOf text at word count)
  pub line-end : (text : List ℕ) (at : ℕ) → One (LineEnd text at)
  pub next-line : (text : List ℕ) (at : ℕ) → One (NextLine text at)
  pub line-at : (text : List ℕ) (at : ℕ) → One (LineAt text at)
  pub nth-line : (text : List ℕ) (k : ℕ) → One (NthLine text k)
  pub put_byte : (byte at : ℕ) (room : List ℕ) → One {Out = ℕ × List ℕ} (λ o. PutByte byte at room o.1 o.0)
  pub put_word : (word : List ℕ) (at : ℕ) (room : List ℕ) → One {Out = ℕ × List ℕ} (λ o. PutWord word at room o.1 o.0)
  pub put_number : (n at : ℕ) (room : List ℕ) → One {Out = ℕ × List ℕ} (λ o. PutNumber n at room o.1 o.0)
  pub put_field : (n at : ℕ) (room : List ℕ) → One {Out = ℕ × List ℕ} (λ o. PutField n at room o.1 o.0)
  pub put_fields : (values : List ℕ) (at : ℕ) (room : List ℕ) → One {Out = ℕ × List ℕ} (λ o. PutFields values at room o.1 o.0)
  pub put_line : (word values : List ℕ) (at : ℕ) (room : List ℕ) → One {Out = ℕ × List ℕ} (λ o. PutLine word values at room o.1 o.0)
