-- What the functions inside `read_stand` give one another. No public promise names these.
-- Assumes nothing.
use Rattle.std.specs.Prelude.{◌≡◌, List, ℕ, ◌≤◌}
use Rattle.ledger.specs.Runs.{Plan}
use Rattle.hatches.specs.Log.{most_hatches}
use Rattle.stands.specs.Laying.{head_of, named_from, named_in, squares_read, lines_from, start_from, stand_of}
use Rattle.stands.specs.declared.heads.Head.{Head}
use Rattle.stands.specs.declared.laying.Verdict.{Verdict}
use Rattle.stands.specs.declared.naming.Named.{Named}
use Rattle.stands.specs.declared.squares.Scan.{Scan}

-- squares' lines passed from q on
pub record SquaresPassed (s : List ℕ) (q : ℕ) (marks : List ℕ) (n : ℕ) (r : Scan) : Type 0 where
  pub count_is : r.count ≡ squares_read s q marks n
  pub lines_are : r.lines ≡ lines_from s q marks r.count
  pub next_is : r.next ≡ start_from s q marks r.count
  pub few : r.lines ≤ n

-- what stands before the squares
pub record NamedRead (s : List ℕ) (a : Head) (n : Named) : Type 0 where
  pub head_is : a ≡ head_of s
  pub named_is : n ≡ named_from s a.next most_hatches

-- what a text gives
pub record Decided (p : Plan) (inflow : List ℕ) (slots : ℕ) (s : List ℕ) (r : Verdict) : Type 0 where
  pub laid_is : r.laid ≡ stand_of p inflow slots s
  pub at_is : r.squares_at ≡ (named_in s).next
