-- What the function inside `log_line` gives. No public promise names it.
-- Assumes nothing.
use Rattle.std.specs.Prelude.{List, ℕ, Option, Some, None}
use Rattle.text.specs.Reading.{Reading}
use Rattle.text.specs.Reading.Reading.{read, unread}
use Rattle.hatches.specs.declared.lines.Entry.{Entry}
use Rattle.hatches.specs.declared.lines.LogLine.{LogLine}

-- what a reading says, as it is handed back
abbrev pub handed : Reading → (List ℕ → Entry) → Option LogLine
handed (read vs q) make = Some (record { entry = Some (make vs); next = q })
handed unread make = None
