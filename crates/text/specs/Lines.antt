-- Document 02, #107 and #114, "one a line": the lines of a text without their newlines.
-- Assumes nothing.
use Rattle.std.specs.Prelude.{◌≡◌, List, [], ◌∷◌, ℕ, suc, ◌+◌, eqb, drop}
use Rattle.reckon.specs.Tests.{pick}
use Rattle.text.specs.Reading.{newline, is_byte, next_line, line_from}
use Rattle.text.specs.declared.lines.Line.{Line}

-- how many bytes stand before the first newline, all of them where there is none
unfoldable pub before_newline : List ℕ → ℕ
before_newline [] = 0
before_newline (b ∷ rest) = pick (eqb b newline) 0 (suc (before_newline rest))

-- where the line at p ends: its newline, or the end of the text
unfoldable pub line_end : List ℕ → ℕ → ℕ
line_end s p = p + before_newline (drop p s)

-- the line at p, and line k of a text, from 0
abbrev pub line_at : List ℕ → ℕ → Line
line_at s p = record { from = p; to = line_end s p; ended = is_byte s (line_end s p) newline }

abbrev pub nth_line : List ℕ → ℕ → Line
nth_line s k = line_at s (line_from s 0 k)

-- ---- what the public functions give

abbrev pub LineEnd : List ℕ → ℕ → ℕ → Type 0
LineEnd s p r = r ≡ line_end s p

abbrev pub NextLine : List ℕ → ℕ → ℕ → Type 0
NextLine s p r = r ≡ next_line s p

abbrev pub LineAt : List ℕ → ℕ → Line → Type 0
LineAt s p r = r ≡ line_at s p

abbrev pub NthLine : List ℕ → ℕ → Line → Type 0
NthLine s k r = r ≡ nth_line s k
