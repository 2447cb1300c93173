-- What the caller of the hatch log's calls has, in document 02's words (#107).
-- Assumes nothing.
use Rattle.std.specs.Prelude.{◌≡◌, true, false, List, [], ◌∷◌, ◌++◌, ℕ, take, Option, Some, None}
use Rattle.reckon.specs.Tests.{Row, ◌unless◌, refusal}
use Rattle.ledger.specs.Runs.{Plan}
use Rattle.checks.specs.Given.{Given}
use Rattle.programs.specs.Program.{Prints}
use Rattle.hatches.specs.Lines.{log_line}
use Rattle.hatches.specs.Log.{Evening, entry_refusals}
use Rattle.evenings.specs.Taking.{steps_number, entered}
use Rattle.evenings.specs.Shown.{line_shown}
use Rattle.evenings.specs.Program.{Stores, hatchlog_text}
use Rattle.hatches.specs.declared.lines.Entry.{Entry}
use Rattle.evenings.specs.declared.telling.LineTaken.{LineTaken}
use Rattle.evenings.specs.declared.program.Night.{Night}
use Rattle.demands.specs.Table.{FirstFails}
use Rattle.demands.specs.HatchLog.{Page, page_after, Logged}

-- what a line says, taken
pub record AfterEntry (p : Plan) (g : Given) (entry : Entry) (e : Evening) (number : ℕ) (after : Evening) : Type 0 where
  -- "Each line is checked, 12 first, before its steps are made": the first row that applies refuses it, and all is as it was
  pub exactly_when : (n : ℕ) → FirstFails (entry_refusals p g e entry) n → (number ≡ n) × (after ≡ e)
  -- else it does what it says, and its steps may be refused
  pub taken : refusal (entry_refusals p g e entry) ≡ 0 → (number ≡ steps_number p g e entry) × (after ≡ entered p g e entry)
  -- it is the next line of any evening, of which `HatchLog` speaks
  pub goes_on : (x : Page p g) → x.at ≡ e → (page_after p g (Some entry ∷ []) x).at ≡ after

-- the rows of a line of the log: "12 first", and of one that can't be read no other
abbrev pub line_refusals : Plan → Given → Evening → Option Entry → List Row
line_refusals p g e (Some entry) = entry_refusals p g e entry
line_refusals p g e None = 12 unless false ∷ []

-- the same of a line of the log: one that can't be read is 12, and nothing changes
pub record AfterRead (p : Plan) (g : Given) (entry : Option Entry) (e : Evening) (number : ℕ) (after : Evening) : Type 0 where
  pub said : (x : Entry) → entry ≡ Some x → AfterEntry p g x e number after
  pub unread : entry ≡ None → (number ≡ 12) × (after ≡ e)
  -- read or not: the first row that applies refuses it, and it is the next line of any evening, of which `HatchLog` speaks
  pub exactly_when : (n : ℕ) → FirstFails (line_refusals p g e entry) n → (number ≡ n) × (after ≡ e)
  pub goes_on : (x : Page p g) → x.at ≡ e → (page_after p g (entry ∷ []) x).at ≡ after

-- the same of the line at a position, and what is printed of it
pub record AfterLine (p : Plan) (g : Given) (s : List ℕ) (at line : ℕ) (e : Evening) (a : LineTaken) (after : Evening) (old new : List ℕ) : Type 0 where
  pub entry_taken : AfterRead p g (log_line s at).entry e a.number after
  pub next_is : a.next ≡ (log_line s at).next
  pub prints : Prints (line_shown p g s at line e) old new a.length

-- what is put first, and after it whatever the calls of `go_on` put, is the program's whole output
abbrev pub AfterBegin : List ℕ → List ℕ → Night → Stores → List ℕ → Type 0
AfterBegin sheet log a r new = (rest : List ℕ) → Logged log a r rest → take a.length new ++ rest ≡ hatchlog_text sheet log

-- a call while a line is left is one of those calls
abbrev pub AfterGoingOn : List ℕ → Night → Stores → Night → Stores → List ℕ → Type 0
AfterGoingOn s n r a after new = n.more ≡ true → (rest : List ℕ) → Logged s a after rest → Logged s n r (take a.length new ++ rest)
