-- "A set from elsewhere": what it is moved back to reads well, and says what the set says.
-- Assumes nothing.
use mathlib.Core.Path.{◌≡◌, refl, sym, ap, subst, ◌∙◌}
use mathlib.Core.Bool.{true}
use mathlib.Core.List.{List}
use Prim.Native.Nat.{ℕ, zero, suc}
use native.Mathlib.Omega.{arith}
use lib.Dec.{leb}
use lib.ListN.{length, replicate, length-replicate}
use borrow.Author.Tests.{le-leb}
use Rattle.reckon.specs.Ranges.{side_fine}
use Rattle.reckon.specs.Tables.{rain_kind, inflow_kind, table_room}
use Rattle.reckon.proofs.TestLaws.{pick_true, pick_false, every_each, each_every, refusal_passed}
use Rattle.grid.specs.Squares.{shape_fine, most_squares, squares}
use Rattle.grid.specs.declared.squares.Shape.{Shape}
use Rattle.grid.proofs.SquareLaws.{ranges_of_fine}
use Rattle.checks.specs.Refusals.{check_refusals}
use Rattle.text.proofs.ReadingLaws.{by_test}
use Rattle.raster.specs.declared.amounts.Scale.{Scale}
use Rattle.raster.specs.declared.amounts.Scale.TheVariants.{Metres, Whole}
use Rattle.sheet.specs.Sheet.{Rooms, rooms_fine, line_two, shape_of, checks_in, said, heading_of, judged, sheet_of}
use Rattle.sheet.specs.Written.{sheet_written}
use Rattle.sheet.specs.declared.reading.Heading.{Heading}
use Rattle.sheet.specs.declared.reading.Sheet.TheVariants.{Read, Refused}
use Rattle.sheet.proofs.SheetLaws.{Well}
use Rattle.programs.specs.Reading.{empty_rooms}
use Rattle.survey.specs.Sets.{Set, set_bad, agrees, all_agree, column, set_says, set_number, moved_back, all_short, set_answer, from_survey}
use Rattle.survey.specs.Sets.Outcome.{moved, refused}
use Rattle.survey.specs.Inner.Notes.{SetGood}
use Rattle.survey.specs.Inner.Writing.{Writable}
use Rattle.survey.proofs.BackLaws.{says_writable, column_is}
use Rattle.survey.proofs.SayableLaws.{Column}
use Rattle.survey.proofs.SheetBack.{says_back, well_back}

abbrev pub full : Rooms
full = empty_rooms most_squares

-- the rooms of the most squares are large enough for every shape
pub full-rooms : (shape : Shape) (D : ℕ) → shape_fine shape ≡ true → side_fine D ≡ true → rooms_fine shape D full ≡ true
unfolding rooms_fine
full-rooms shape D a b =
    let few = (ranges_of_fine shape a).few in
    let cells : leb (squares shape) (length (replicate {A = ℕ} most_squares 0)) ≡ true =
    le-leb (squares shape) (length (replicate {A = ℕ} most_squares 0)) (omega (arith, few, length-replicate {A = ℕ} most_squares 0)) in
    let rain : leb (table_room rain_kind) (length (replicate {A = ℕ} (table_room rain_kind) 0)) ≡ true =
    le-leb (table_room rain_kind) (length (replicate {A = ℕ} (table_room rain_kind) 0))
    (omega (arith, length-replicate {A = ℕ} (table_room rain_kind) 0)) in
    let inflow : leb (table_room inflow_kind) (length (replicate {A = ℕ} (table_room inflow_kind) 0)) ≡ true =
    le-leb (table_room inflow_kind) (length (replicate {A = ℕ} (table_room inflow_kind) 0))
    (omega (arith, length-replicate {A = ℕ} (table_room inflow_kind) 0)) in
    each_every _ (a, (b, (cells, (cells, (cells, (cells, (cells, (rain, (inflow, tt)))))))))

pub well_read : (s : List ℕ) (lent : Rooms) → Well s lent (heading_of s) → sheet_of s lent ≡ Read (heading_of s)
unfolding sheet_of judged
well_read s lent w = pick_true _ _ w.first_line ∙ (pick_true _ _ w.fine ∙ rw (w.text_good, w.checks) refl)

-- ---- a set that is moved back

-- a set that is moved has no bad line, its files agree, and its checks pass
record Passes (t : Set) (u : List ℕ) : Type 0 where
  text : set_bad t ≡ 0
  agree : all_agree t ≡ true
  checks : checks_in (shape_of t.note) (line_two t.note).rules (set_says t) (line_two t.note).end ≡ 0
  same : sheet_written (heading_of t.note) (set_says t) ≡ u

never_moved : {A : Type 0} {n l : ℕ} {u : List ℕ} → refused n l ≡ moved u → A
never_moved e = absurd (let z : ◌≡◌ {A = ℕ} 0 1 = cc in omega arith)

module _ (t : Set) where
  agreed :
      set_number t ≡ 0 →
      (all_agree t ≡ true) × (checks_in (shape_of t.note) (line_two t.note).rules (set_says t) (line_two t.note).end ≡ 0)
  unfolding set_number
  agreed z =
      by_test (all_agree t) (λ e. (e, sym (pick_true _ _ e) ∙ z))
      (λ e. absurd (let y : ◌≡◌ {A = ℕ} 14 0 = sym (pick_false _ _ e) ∙ z in omega (arith, y)))

  bad_moved : (line number : ℕ) → moved_back t (judged (suc line) number (heading_of t.note)) ≡ refused 12 (suc line)
  unfolding moved_back judged
  bad_moved line number = refl

  number_moved : (number : ℕ) → moved_back t (judged 0 (suc number) (heading_of t.note)) ≡ refused (suc number) 0
  unfolding moved_back judged
  number_moved number = refl

  long_moved : moved_back t (Refused 12 0) ≡ refused 12 0
  unfolding moved_back
  long_moved = refl

  good_moved : moved_back t (judged 0 0 (heading_of t.note)) ≡ moved (sheet_written (heading_of t.note) (set_says t))
  unfolding moved_back judged
  good_moved = refl

passes : (t : Set) (u : List ℕ) → from_survey t ≡ moved u → Passes t u
unfolding from_survey set_answer
passes t u e =
    by_test (all_short t) (λ s. go (set_bad t) (set_number t) refl refl (sym (ap (moved_back t) (pick_true _ _ s)) ∙ e))
    (λ s. never_moved (sym (long_moved t) ∙ (sym (ap (moved_back t) (pick_false _ _ s)) ∙ e)))
  where
    inside : {a b : List ℕ} → moved a ≡ moved b → a ≡ b
    inside e = cc

    go : (line number : ℕ) → set_bad t ≡ line → set_number t ≡ number → moved_back t (judged line number (heading_of t.note)) ≡ moved u → Passes t u
    go (suc line) number p q f = never_moved (sym (bad_moved t line number) ∙ f)
    go zero (suc number) p q f = never_moved (sym (number_moved t number) ∙ f)
    go zero zero p q f = record { text = p; agree = (agreed t q).0; checks = (agreed t q).1; same = inside (sym (good_moved t) ∙ f) }

module _ (t : Set) (u : List ℕ) (p : Passes t u) where
  abbrev s : List ℕ
  s = t.note

  first-row : (shape_fine (shape_of s) ≡ true) × (side_fine (line_two s).rules.square_side ≡ true)
  unfolding checks_in check_refusals
  first-row =
      let rows = every_each _ (refusal_passed _ tt p.checks).0 in
      (rows.0, rows.1.0)

  set_good : SetGood t
  set_good = record { text = p.text; agree = p.agree; shape = ranges_of_fine (shape_of s) first-row.0 }

  columns : (agrees t Metres t.bed ≡ true) × ((agrees t Metres t.depth ≡ true) × ((agrees t Whole t.roughness ≡ true) × (agrees t Whole t.rate ≡ true)))
  unfolding all_agree
  columns =
      let a = every_each _ p.agree in
      (a.0, (a.1.0, (a.1.1.0, a.1.1.1.0)))

  abbrev h : Heading
  h = heading_of s

  side_same : h.rules.square_side ≡ (line_two s).rules.square_side
  unfolding heading_of
  side_same = refl

  writable : Writable h (set_says t)
  writable = says_writable t set_good p.checks

  abbrev Of : Scale → List ℕ → Type 0
  Of k grid = Column (set_says t).cells.marks (squares h.shape) (column t k grid)

  column_of : (k : Scale) (grid : List ℕ) → agrees t k grid ≡ true → Of k grid
  unfolding heading_of
  column_of k grid a = column_is t set_good p.checks k grid a

  written_says : said (sheet_written h (set_says t)) ≡ set_says t
  unfolding sheet_written set_says
  written_says =
      says_back h (set_says t) writable (column_of Metres t.bed columns.0) (column_of Whole t.roughness columns.1.1.0)
      (column_of Whole t.rate columns.1.1.1) (column_of Metres t.depth columns.1.0)

  written_well : Well (sheet_written h (set_says t)) full h
  unfolding sheet_written set_says heading_of
  written_well =
      well_back h (set_says t) writable (column_of Metres t.bed columns.0) (column_of Whole t.roughness columns.1.1.0)
      (column_of Whole t.rate columns.1.1.1) (column_of Metres t.depth columns.1.0) full
      (full-rooms (shape_of s) (line_two s).rules.square_side first-row.0 first-row.1) p.checks

  becomes : (sheet_of u full ≡ Read h) × (said u ≡ set_says t)
  becomes =
      subst (λ (x : List ℕ). (sheet_of x full ≡ Read h) × (said x ≡ set_says t)) p.same
      (let w = written_well in
      (well_read (sheet_written h (set_says t)) full (headed w) ∙ ap Read (sym w.heading), written_says))
    where
      headed : Well (sheet_written h (set_says t)) full h → Well (sheet_written h (set_says t)) full (heading_of (sheet_written h (set_says t)))
      headed w = subst (λ (g : Heading). Well (sheet_written h (set_says t)) full g) w.heading w

pub becomes_sheet : (t : Set) (u : List ℕ) → from_survey t ≡ moved u → (sheet_of u full ≡ Read (heading_of t.note)) × (said u ≡ set_says t)
becomes_sheet t u e = becomes t u (passes t u e)
