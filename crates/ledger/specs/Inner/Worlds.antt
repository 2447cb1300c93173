-- What only laws and inner functions ask of worlds and records.
-- Assumes nothing.
use Rattle.std.specs.Prelude.{List, [], ℕ, ◌+◌, ◌*◌}
use Rattle.grid.specs.Squares.{most_squares}
use Rattle.ledger.specs.Runs.{World, world}
use Rattle.ledger.specs.Record.{head_words, square_words}

-- depths alone as a world, for what goes by nothing else of it
abbrev pub of_depths : List ℕ → World
of_depths d = world d [] [] (record { clock = 0; length = 0; outflow = 0; kept = 0; newest = 0; soaked = 0 })

-- the largest record: that of the most squares
abbrev pub most_record : ℕ
most_record = head_words + square_words * most_squares
