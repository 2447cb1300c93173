-- Laws of rooms that a sheet was read into: how long they are, how much of each belongs to the sheet, and that this is what the sheet says.
-- Assumes nothing.
use mathlib.Core.Path.{◌≡◌, refl, sym, ap, subst, ◌∙◌}
use mathlib.Core.Bool.{Bool}
use mathlib.Core.List.{List, [], ◌++◌}
use Prim.Native.Nat.{ℕ, ◌+◌, ◌*◌, ◌≤◌, ◌<◌}
use native.Mathlib.Omega.{arith}
use lib.Dec.{leb}
use lib.ListN.{length, take, replicate, length-replicate, length-append}
use lib.Seq.{length-take-le, take_at}
use borrow.Author.Tests.{le-leb, lt-leb}
use Rattle.reckon.specs.Tables.{rain_kind, inflow_kind, table_room}
use Rattle.reckon.specs.Lists.{filled, placed}
use Rattle.reckon.proofs.TestLaws.{pick_true, pick_false}
use Rattle.reckon.proofs.ListLaws.{length-filled, length-placed}
use Rattle.grid.specs.Squares.{ShapeInRange, squares}
use Rattle.ledger.specs.Runs.{plan}
use Rattle.ledger.specs.Record.{head_words, square_words, record_size}
use Rattle.text.specs.Reading.{most_fields}
use Rattle.text.proofs.ReadingLaws.{by_test}
use Rattle.sheet.specs.Lines.{rain_word, inflow_word}
use Rattle.sheet.specs.Sheet.{Cells, Rooms, rooms, table_rows, cells_filled, line_one, shape_of, rain_at, rain_rows, inflow_at, inflow_rows, said, rooms_filled, checks_in, heading_of, rooms_after, Reads}
use Rattle.sheet.specs.declared.reading.Heading.{Heading}
use Rattle.sheet.specs.declared.reading.Sheet.{Sheet}
use Rattle.sheet.specs.declared.reading.Sheet.TheVariants.{Read, Refused}
use Rattle.sheet.proofs.JudgeLaws.{said_from, table_taken}
use Rattle.sheet.proofs.RoomLaws.{table_long}
use Rattle.sheet.proofs.SheetLaws.{Well, well, rooms-shape, rooms_cells, rain_few, inflow_few}
use Rattle.programs.specs.Reading.{sheet_within, empty_rooms, ReadsWithin}
use Rattle.programs.specs.Inner.Held.{Holds, parts_of}

-- an answer under another name
pub read_as :
    {most : ℕ} {s : List ℕ} {before after : Rooms} {a a' : Sheet} → a ≡ a' → ReadsWithin most s before a after →
    ReadsWithin most s before a' after
read_as {most} {s} {before} {after} e f = subst (λ (z : Sheet). ReadsWithin most s before z after) e f

-- ---- a text that is too long, and another

pub too_long : (most : ℕ) (s : List ℕ) (lent : Rooms) → most < length s → ReadsWithin most s lent (Refused 12 0) lent
unfolding sheet_within rooms_after
too_long most s lent h = record { answer = sym (pick_false _ _ (lt-leb (length s) most h)); rooms_are = refl }

pub not_too_long :
    {most : ℕ} {s : List ℕ} {before after : Rooms} {a : Sheet} → length s ≤ most → Reads s before a after → ReadsWithin most s before a after
unfolding sheet_within
not_too_long {most} {s} h f = record { answer = f.answer ∙ sym (pick_true _ _ (le-leb (length s) most h)); rooms_are = f.rooms_are }

-- ---- a sheet that was read

never_read : {A : Type 0} {h : Heading} {n l : ℕ} → Read h ≡ Refused n l → A
never_read e = absurd (let z : ◌≡◌ {A = ℕ} 0 1 = cc in omega arith)

-- so many first numbers of a room
pub part_long : {n : ℕ} (room : List ℕ) → n ≤ length room → n ≡ length (take n room)
part_long {n} room h = sym (length-take-le n room h)

table_holds :
    (s : List ℕ) (p : ℕ) (word : List ℕ) (width rows size : ℕ) → width ≤ most_fields → width * rows ≤ size →
    length (placed (replicate size 0) 0 (table_rows s p word width rows)) ≡ size
table_holds s p word width rows size few h =
    let zeros = length-replicate {A = ℕ} size 0 in
    length-placed (replicate size 0) 0 (table_rows s p word width rows) (omega (arith, h, zeros, table_long s p word width few rows)) ∙ zeros

module _ (most size : ℕ) (s : List ℕ) {h : Heading} {held : Rooms} (f : ReadsWithin most s (empty_rooms size) (Read h) held) where
  reads : Reads s (empty_rooms size) (Read h) held
  unfolding sheet_within
  reads =
      by_test (leb (length s) most) (λ e. record { answer = f.answer ∙ pick_true _ _ e; rooms_are = f.rooms_are })
      (λ e. never_read (f.answer ∙ pick_false _ _ e))

  is_well : Well s (empty_rooms size) h
  is_well = well s (empty_rooms size) h reads.answer

  shape_is : h.shape ≡ shape_of s
  unfolding heading_of
  shape_is = ap (λ (z : Heading). z.shape) is_well.heading

  rain_is : h.rain_rows ≡ rain_rows s
  unfolding heading_of
  rain_is = ap (λ (z : Heading). z.rain_rows) is_well.heading

  inflow_is : h.inflow_rows ≡ inflow_rows s
  unfolding heading_of
  inflow_is = ap (λ (z : Heading). z.inflow_rows) is_well.heading

  few_squares : squares (shape_of s) ≤ size
  few_squares =
      omega (arith, (rooms_cells (shape_of s) (line_one s).side (empty_rooms size) is_well.fine).0, length-replicate {A = ℕ} size 0)

  after-rooms : held ≡ rooms_filled s (empty_rooms size)
  unfolding rooms_after
  after-rooms = f.rooms_are

  -- a room of one number a square
  cells_long :
      (room : Rooms → List ℕ) (skipped : ℕ → Bool) (g : ℕ → ℕ) →
      room (rooms_filled s (empty_rooms size)) ≡ filled (squares (shape_of s)) skipped g (replicate size 0) → length (room held) ≡ size
  cells_long room skipped g e =
      ap (λ (z : Rooms). length (room z)) after-rooms
      ∙ (ap length e ∙ (length-filled (squares (shape_of s)) skipped g (replicate size 0) ∙ length-replicate {A = ℕ} size 0))

  same_squares : squares h.shape ≡ squares (shape_of s)
  same_squares = ap squares shape_is

  -- what belongs to the sheet is what it says
  pub parts_said : parts_of h held ≡ said s
  unfolding rooms_filled
  parts_said =
      join (said_from s size same_squares few_squares (ap (λ (z : Rooms). z.cells) after-rooms))
      (ap (λ (j : ℕ). take (rain_kind.width * j) held.rain) rain_is
      ∙ table_taken s (rain_at s) rain_word rain_kind.width (omega arith) _ (rain_rows s) (ap (λ (z : Rooms). z.rain) after-rooms))
      (ap (λ (j : ℕ). take (inflow_kind.width * j) held.inflow) inflow_is
      ∙ table_taken s (inflow_at s) inflow_word inflow_kind.width (omega arith) _ (inflow_rows s) (ap (λ (z : Rooms). z.inflow) after-rooms))
    where
      join :
          {x x' : Cells} {y y' z z' : List ℕ} → x ≡ x' → y ≡ y' → z ≡ z' →
          ◌≡◌ {A = Rooms} (record { cells = x; rain = y; inflow = z }) (record { cells = x'; rain = y'; inflow = z' })
      join p q r = cc

  passed : checks_in h.shape h.rules (parts_of h held) h.end ≡ 0
  unfolding heading_of
  passed =
      ap (λ (z : Rooms). checks_in h.shape h.rules z h.end) parts_said
      ∙ (ap (λ (z : Heading). checks_in z.shape z.rules (said s) z.end) is_well.heading ∙ is_well.checks)

  -- all that a program must know of its rooms once a sheet was read into them
  pub read_holds : Holds size h held
  unfolding rooms_filled cells_filled
  read_holds =
      record {
        shape = subst ShapeInRange (sym shape_is) (rooms-shape (shape_of s) (line_one s).side (empty_rooms size) is_well.fine);
        few = omega (arith, same_squares, few_squares);
        rain_few = omega (arith, rain_is, rain_few s is_well.checks);
        inflow_few = omega (arith, inflow_is, inflow_few s is_well.checks);
        marks_long = cells_long (λ z. z.cells.marks) _ _ refl;
        beds_long = cells_long (λ z. z.cells.beds) _ _ refl;
        roughness_long = cells_long (λ z. z.cells.roughness) _ _ refl;
        rates_long = cells_long (λ z. z.cells.rates) _ _ refl;
        depths_long = cells_long (λ z. z.cells.depths) _ _ refl;
        rain_long =
            ap (λ (z : Rooms). length z.rain) after-rooms
            ∙ table_holds s (rain_at s) rain_word rain_kind.width (rain_rows s) (table_room rain_kind) (omega arith) (omega (arith, rain_few s is_well.checks));
        inflow_long =
            ap (λ (z : Rooms). length z.inflow) after-rooms
            ∙ table_holds s (inflow_at s) inflow_word inflow_kind.width (inflow_rows s) (table_room inflow_kind) (omega arith)
            (omega (arith, inflow_few s is_well.checks));
        passes = passed;
      }

-- ---- parts by a count that is the number of squares

abbrev pub parts_at : ℕ → Heading → Rooms → Rooms
parts_at n h held =
    rooms (take n held.cells.marks) (take n held.cells.beds) (take n held.cells.roughness) (take n held.cells.rates)
    (take n held.cells.depths) (take (rain_kind.width * h.rain_rows) held.rain) (take (inflow_kind.width * h.inflow_rows) held.inflow)

pub parts_pass :
    {size n : ℕ} {h : Heading} {held : Rooms} → Holds size h held → n ≡ squares h.shape →
    checks_in h.shape h.rules (parts_at n h held) h.end ≡ 0
parts_pass {h = h} {held} f e =
    ap (λ (k : ℕ). checks_in h.shape h.rules (parts_at k h held) h.end) e ∙ f.passes

-- one record of the sheet's squares lies in a room for the most squares
pub record-in : {size : ℕ} {h : Heading} {held : Rooms} → Holds size h held → record_size (plan h.shape []) ≤ head_words + square_words * size
record-in f = omega (arith, f.few)

-- a part that was written over, before the rest of its room
pub first_part : {n : ℕ} (new rest : List ℕ) → length new ≡ n → take n (new ++ rest) ≡ new
first_part {n} new rest e = take_at new rest n e
