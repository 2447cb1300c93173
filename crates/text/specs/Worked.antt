-- Numbers and lines worked by hand: on the left what the definitions give, on the right what they should be.
-- Assumes nothing.
use Rattle.std.specs.Prelude.{◌≡◌, [], ◌∷◌, None}
use Prim.Native.String.{String}
use Rattle.text.specs.Bytes.{bytes_of}
use Rattle.text.specs.Reading.{number, number_at, read_line, next_line}
use Rattle.text.specs.Reading.Reading.{read, unread}
use Rattle.text.specs.Writing.{decimal, line_text}

pub record NumbersWorked : Type 0 where
  pub zero_read : number_at (48 ∷ []) 0 ≡ number 0 1
  pub needless_zero : number_at (bytes_of "07") 0 ≡ None
  pub greatest : number_at (bytes_of "4294967295") 0 ≡ number 4_294_967_295 10
  pub too_great : number_at (bytes_of "4294967296") 0 ≡ None
  pub signed : number_at (bytes_of "-1") 0 ≡ None
  pub nothing : number_at [] 0 ≡ None
  pub zero_written : decimal 0 ≡ 48 ∷ []
  pub greatest_written : decimal 4_294_967_295 ≡ bytes_of "4294967295"

-- document 01's `run` line, with the edge slope and the edition at its end
abbrev run_text : String
run_text = "run\t100\t1000\t1000\t1000\t1000\t10000\t1\n"

pub record LinesWorked : Type 0 where
  pub run_read : read_line (bytes_of run_text) 0 (bytes_of "run") 7 ≡ read (100 ∷ 1_000 ∷ 1_000 ∷ 1_000 ∷ 1_000 ∷ 10_000 ∷ 1 ∷ []) 36
  pub run-written : line_text (bytes_of "run") (100 ∷ 1_000 ∷ 1_000 ∷ 1_000 ∷ 1_000 ∷ 10_000 ∷ 1 ∷ []) ≡ bytes_of run_text
  pub run_next : next_line (bytes_of run_text) 0 ≡ 36
  pub rain_read : read_line (bytes_of "rain\t0\t9\t3\n") 0 (bytes_of "rain") 3 ≡ read (0 ∷ 9 ∷ 3 ∷ []) 11
  pub carriage_return : read_line (bytes_of "rain\t0\t9\t3\r\n") 0 (bytes_of "rain") 3 ≡ unread
  pub no_newline : read_line (bytes_of "rain\t0\t9\t3") 0 (bytes_of "rain") 3 ≡ unread
  pub a_field_too_many : read_line (bytes_of "rain\t0\t9\t3\t1\n") 0 (bytes_of "rain") 3 ≡ unread
