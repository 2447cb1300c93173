-- Document 02, #114, worked by hand: the list's first line, names and refusals; plans that differ; ties and depths reached exactly; and what is
-- printed, every number another one.
-- Assumes nothing.
use Rattle.std.specs.Prelude.{◌≡◌, true, false, List, [], ◌∷◌, ℕ}
use Prim.Native.String.{String}
use Rattle.ledger.specs.Runs.{Plan, plan}
use Rattle.text.specs.Bytes.{bytes_of}
use Rattle.lists.specs.Names.{list_number, listed}
use Rattle.lists.specs.Sheets.{File, same_plan, file_number}
use Rattle.lists.specs.Sheets.File.{not_opened, holds}
use Rattle.lists.specs.Drowned.{Accepted, accepted, no_plan, drowned, deepest_of, first_gave, drowned_text}
use Rattle.lists.specs.Tally.{Rooms, rooms, tally_after, rooms_after, squares_text, sheets_text, tally_text}
use Rattle.lists.specs.declared.names.Listed.{Listed}
use Rattle.lists.specs.declared.tally.Tally.{Tally}

abbrev list : ℕ → ℕ → ℕ → ℕ → Listed
list number line wet names = record { number = number; line = line; wet = wet; names = names }

-- 2 rows of 3, the first square closed, the third an exit
abbrev meadow : Plan
meadow = plan (record { rows = 2; columns = 3 }) (0 ∷ 1 ∷ 2 ∷ 1 ∷ 1 ∷ 1 ∷ [])

abbrev grid : ℕ → ℕ → Plan
grid rows columns = plan (record { rows = rows; columns = columns }) (0 ∷ 1 ∷ 2 ∷ 1 ∷ 1 ∷ 1 ∷ [])

-- the sheets at places 2, 4 and 7 were accepted; the deepest values of their squares
abbrev sheets : List Accepted
sheets = accepted 2 (40 ∷ 90 ∷ 0 ∷ []) ∷ accepted 4 (70 ∷ 80 ∷ 0 ∷ []) ∷ accepted 7 (70 ∷ 90 ∷ 0 ∷ []) ∷ []

-- a tally after so many names, none accepted, with the number of the newest; and rooms with a number of its own in each
abbrev tallied : ℕ → ℕ → Tally
tallied taken number = record { wet = 70; taken = taken; begun = false; shape = record { rows = 0; columns = 0 }; number = number }

abbrev kept : List ℕ → Rooms
kept numbers = rooms (1 ∷ []) (2 ∷ []) (3 ∷ []) (4 ∷ []) numbers

-- sheets of one square: an exit, an open one that is deeper, and an exit again; and a list of them after a name that can't be opened
abbrev pub shallow : List ℕ
shallow = bytes_of "grid\t1\t1\t1\nrun\t100\t1000\t1000\t1000\t1000\t10000\t1\ncell\t0\t0\te\t0\t100\t10000\t0\n"

abbrev pub bank : List ℕ
bank = bytes_of "grid\t1\t1\t1\nrun\t100\t1000\t1000\t1000\t1000\t10000\t1\ncell\t0\t0\to\t0\t100\t90000\t0\n"

abbrev pub deep : List ℕ
deep = bytes_of "grid\t1\t1\t1\nrun\t100\t1000\t1000\t1000\t1000\t10000\t1\ncell\t0\t0\te\t0\t100\t12000\t0\n"

abbrev pub whole_list : List File
whole_list = not_opened ∷ holds shallow ∷ holds bank ∷ holds deep ∷ []

abbrev pub whole_text : String
whole_text = "0\t0\t2\t12000\t4\n2\t2\n1\t12\n3\t14\n"

pub record ListCases : Type 0 where
  -- a depth, then a name a line; a last one without its newline is a name; a list may have none
  pub two_names : listed (bytes_of "250\nA\nBB\n") ≡ list 0 0 250 2
  pub open_end : listed (bytes_of "250\nA\nBB") ≡ list 0 0 250 2
  pub bare_line : listed (bytes_of "250\n\nA\n") ≡ list 0 0 250 2
  pub no_name : listed (bytes_of "250\n") ≡ list 0 0 250 0
  -- "a first line that can't be read is 12, line 1"
  pub no_depth : listed (bytes_of "A\nBB\n") ≡ list 12 1 0 0
  pub no_line : listed (bytes_of "250") ≡ list 12 1 0 0
  pub two_fields : listed (bytes_of "250\t3\nA\n") ≡ list 12 1 0 0
  pub nothing : listed [] ≡ list 12 1 0 0
  -- "a depth out of range is 5; over 200 sheets is 16", in this order
  pub too_deep : listed (bytes_of "100000001\nA\n") ≡ list 5 0 100_000_001 1
  pub deep : listed (bytes_of "100000000\nA\n") ≡ list 0 0 100_000_000 1
  pub too_many : list_number 100_000_000 201 ≡ 16
  pub both : list_number 100_000_001 201 ≡ 5
  pub many : list_number 100_000_000 200 ≡ 0
  -- "shape or marks differ": rows, columns, a mark; what lies after the marks is no mark
  pub same-plan : same_plan meadow (plan (record { rows = 2; columns = 3 }) (0 ∷ 1 ∷ 2 ∷ 1 ∷ 1 ∷ 1 ∷ 9 ∷ [])) ≡ true
  pub other_rows : same_plan (grid 1 3) (grid 2 3) ≡ false
  pub other_columns : same_plan (grid 2 2) (grid 2 3) ≡ false
  pub turned : same_plan meadow (grid 3 2) ≡ false
  pub other_mark : same_plan meadow (plan (record { rows = 2; columns = 3 }) (0 ∷ 1 ∷ 2 ∷ 1 ∷ 1 ∷ 2 ∷ [])) ≡ false
  pub other_closed : same_plan meadow (plan (record { rows = 2; columns = 3 }) (1 ∷ 1 ∷ 2 ∷ 1 ∷ 1 ∷ 1 ∷ [])) ≡ false
  -- "a sheet that can't be opened counts as refused with 12", the first one and a later one
  pub not_opened_first : file_number false no_plan not_opened ≡ 12
  pub not_opened_later : file_number true meadow not_opened ≡ 12
  -- "at least that deep": reached exactly, and not by one
  pub reached : drowned 0 70 sheets ≡ 2
  pub not_reached : drowned 0 71 sheets ≡ 0
  pub dry : drowned 2 0 sheets ≡ 3
  -- "the deepest value", and the place of "the sheet that first gave it": of two as deep the earlier one
  pub deepest : deepest_of 0 sheets ≡ 70
  pub first-gave : first_gave 0 sheets ≡ 4
  pub first_of_all : first_gave 1 sheets ≡ 2
  pub never_wet : first_gave 2 sheets ≡ 2
  -- what is printed: "row, column, how many sheets .., the deepest value, and the place", of the squares not closed in their order
  pub squares :
      squares_text (plan (record { rows = 2; columns = 2 }) (0 ∷ 1 ∷ 2 ∷ 1 ∷ [])) (9 ∷ 12 ∷ 7 ∷ 13 ∷ []) (9 ∷ 3_400 ∷ 0 ∷ 56 ∷ []) (9 ∷ 8 ∷ 14 ∷ 15 ∷ [])
      ≡ bytes_of "0\t1\t12\t3400\t8\n1\t0\t7\t0\t14\n1\t1\t13\t56\t15\n"
  -- "the counts of sheets run and refused, then each refused one's place and number"
  pub refused : sheets_text (0 ∷ 14 ∷ 0 ∷ 0 ∷ 3 ∷ []) ≡ bytes_of "3\t2\n2\t14\n5\t3\n"
  pub all_run : sheets_text (0 ∷ 0 ∷ []) ≡ bytes_of "2\t0\n"
  -- with none accepted no square
  pub none_accepted : drowned_text 5 (not_opened ∷ not_opened ∷ []) ≡ bytes_of "0\t2\n1\t12\n2\t12\n"
  pub empty_list : drowned_text 5 [] ≡ bytes_of "0\t0\n"
  -- a refused name is noted at its place; where 200 have been taken the next is 16, and nothing is noted
  pub noted_tally : tally_after (tallied 1 8) not_opened (kept (5 ∷ 6 ∷ 7 ∷ [])) ≡ tallied 2 12
  pub noted-rooms : rooms_after (tallied 1 8) not_opened (kept (5 ∷ 6 ∷ 7 ∷ [])) ≡ kept (5 ∷ 12 ∷ 7 ∷ [])
  pub last_name : tally_after (tallied 199 8) not_opened (kept []) ≡ tallied 200 12
  pub full-tally : tally_after (tallied 200 8) not_opened (kept []) ≡ tallied 200 16
  pub full-rooms : rooms_after (tallied 200 8) not_opened (kept (5 ∷ [])) ≡ kept (5 ∷ [])
  -- a tally that no list gives
  pub no_tally : tally_text (tallied 201 8) (kept []) ≡ bytes_of "refused\t1\t0\n"
  -- two of four are run, both at least 10,000 deep in their starting state, the later one deepest; "shape or marks differ" is 14
  pub whole-list : drowned_text 10_000 whole_list ≡ bytes_of whole_text
