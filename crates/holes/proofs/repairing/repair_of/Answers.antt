-- `holes::repairing::repair_of` meets its contract: the limit, the ordinary reader's refusals, and a sheet that is repaired.
-- Assumes nothing.
use mathlib.Core.Path.{◌≡◌, sym, ap, subst, ◌∙◌}
use mathlib.Core.List.{List}
use Prim.Native.Nat.{ℕ, ◌≤◌}
use native.Mathlib.Omega.{arith}
use lib.ListN.{length}
use lib.Seq.{length-take-le}
use Rattle.sheet.specs.Sheet.{Rooms, rooms, grid_or}
use Rattle.std.proofs.Common.{Option}
use Rattle.grid.specs.declared.squares.Shape.{Shape}
use Rattle.sheet.specs.Lines.{grid_line}
use Rattle.sheet.specs.declared.lines.GridLine.{GridLine}
use Rattle.sheet.specs.declared.reading.Sheet.{Sheet}
use Rattle.programs.specs.Program.{most_text, program_squares, program_rooms}
use Rattle.programs.specs.Reading.{ReadsWithin}
use Rattle.programs.proofs.HeldLaws.{part_long, read_as, read_holds}
use Rattle.holes.specs.Holes.{looked_in, looked_at, plugged}
use Rattle.holes.proofs.HoleLaws.{looked_few}
use Rattle.holes.proofs.PutLaws.{put_within, put_again}
use Rattle.holes.proofs.RepairLaws.{plug_is, plug_short}
use Rattle.holes.proofs.PrintLaws.{repair_long, repair_refused, repairable, repair_read}
use Rattle.holes.proofs.repairing.repair_of.Goals as goal
use Rattle.holes.proofs.repairing.repair_of.Goals.{After-read_within-sheet}

-- the rooms after the reader, and that it has read them from the text with `0` for each `?`
abbrev rooms-read : After-read_within-sheet → Rooms
rooms-read c =
    let l = c.read_within-sheet.new in
    rooms l.marks l.beds l.roughness l.rates l.depths l.rain l.inflow

reads :
    (c : After-read_within-sheet) {a : Sheet} → c.read_within-sheet.result ≡ a →
    ReadsWithin most_text (plugged c.args.text.now) program_rooms a (rooms-read c)
reads c {a} e =
    subst (λ (t : List ℕ). ReadsWithin most_text t program_rooms a (rooms-read c))
    (put_again c.put_with_beds-length.ensures ∙ plug_is c.args.text.now program_squares) (read_as e c.read_within-sheet.ensures)

-- as many squares as are looked at, which a room holds
count : (c : After-read_within-sheet) → c.looked_in-squares.result ≡ looked_at c.args.text.now
count c =
    let at-grid-line =
    c.grid_line-top in
    let at-looked-in = c.looked_in-squares in
    at-looked-in.ensures ∙ ap looked_in at-grid-line.ensures

few : (c : After-read_within-sheet) → c.looked_in-squares.result ≤ program_squares
few c = omega (arith, count c, looked_few (grid_line c.args.text.now))

pub returns-then-text-gt-MOST_TEXT : goal.returns-then-text-gt-MOST_TEXT
returns-then-text-gt-MOST_TEXT c = repair_long c.args.text.now c.if-text-gt-MOST_TEXT.true (omega arith) c.put_refused.ensures

pub put_with_beds-length-requires : goal.put_with_beds-length-requires
put_with_beds-length-requires c =
    let s = c.args.text.now in record {
      looked = (
        record {
          columns_are = ap (λ (g : Shape). g.columns) (c.shape_in-shape.ensures ∙ ap (λ (g : Option GridLine). (grid_or g).shape) c.grid_line-top.ensures);
          squares_are = c.looked_in-squares.ensures ∙ ap looked_in c.grid_line-top.ensures;
        },
        omega (arith, c.looked_in-squares.ensures, looked_few c.grid_line-top.result),
      );
      beds_in_bounds = omega (arith, ap length (plug_is s program_squares), plug_short s, c.if-text-gt-MOST_TEXT.false);
    }

pub slice_bounds-plugged-end : goal.slice_bounds-plugged-end
slice_bounds-plugged-end c =
    let s = c.args.text.now in
    put_within c.put_with_beds-length.ensures (omega (arith, ap length (plug_is s program_squares), plug_short s, c.if-text-gt-MOST_TEXT.false))

pub slice_bounds-read_within-end : goal.slice_bounds-read_within-end
slice_bounds-read_within-end c =
    let s = c.args.text.now in
    sym (length-take-le _ _ (put_within c.put_with_beds-length.ensures (omega (arith, ap length (plug_is s program_squares), plug_short s, c.if-text-gt-MOST_TEXT.false))))

pub slice_bounds-marks-end : goal.slice_bounds-marks-end
slice_bounds-marks-end c =
    let h = read_holds most_text program_squares (plugged c.args.text.now) (reads (goal.at.slice_bounds-marks-end c).After-read_within-sheet c.in-Read.is) in
    omega (arith, few (goal.at.slice_bounds-marks-end c).After-read_within-sheet, h.marks_long)

pub slice_bounds-put_repaired-end-in-Read : goal.slice_bounds-put_repaired-end-in-Read
slice_bounds-put_repaired-end-in-Read c =
    let h = read_holds most_text program_squares (plugged c.args.text.now) (reads (goal.at.slice_bounds-put_repaired-end-in-Read c).After-read_within-sheet c.in-Read.is) in
    part_long _ (omega (arith, few (goal.at.slice_bounds-put_repaired-end-in-Read c).After-read_within-sheet, h.marks_long))

pub slice_bounds-beds-end : goal.slice_bounds-beds-end
slice_bounds-beds-end c =
    let h = read_holds most_text program_squares (plugged c.args.text.now) (reads (goal.at.slice_bounds-beds-end c).After-read_within-sheet c.in-Read.is) in
    omega (arith, few (goal.at.slice_bounds-beds-end c).After-read_within-sheet, h.beds_long)

pub slice_bounds-put_repaired-end-in-Read-2 : goal.slice_bounds-put_repaired-end-in-Read-2
slice_bounds-put_repaired-end-in-Read-2 c =
    let h = read_holds most_text program_squares (plugged c.args.text.now) (reads (goal.at.slice_bounds-put_repaired-end-in-Read-2 c).After-read_within-sheet c.in-Read.is) in
    part_long _ (omega (arith, few (goal.at.slice_bounds-put_repaired-end-in-Read-2 c).After-read_within-sheet, h.beds_long))

pub put_repaired-requires : goal.put_repaired-requires
put_repaired-requires c =
    let at-if1 =
    c.if-text-gt-MOST_TEXT in
    let at-grid-line =
    c.grid_line-top in
    let s = c.args.text.now in
    let short : length s ≤ most_text = omega (arith, at-if1.false) in (
      repairable s short (reads (goal.at.put_repaired-requires c).After-read_within-sheet c.in-Read.is) (count (goal.at.put_repaired-requires c).After-read_within-sheet)
          (c.shape_in-shape.ensures ∙ ap (λ (g : Option GridLine). (grid_or g).shape) at-grid-line.ensures),
      omega arith,
    )

pub returns-in-Refused : goal.returns-in-Refused
returns-in-Refused c =
    let at-if1 =
    c.if-text-gt-MOST_TEXT in
    let s = c.args.text.now in
    let short : length s ≤ most_text = omega (arith, at-if1.false) in
    repair_refused s short (reads (goal.at.returns-in-Refused c).After-read_within-sheet c.in-Refused.is) (omega arith) (omega arith) (omega arith) c.put_refused-in-Refused.ensures

pub returns-in-Read : goal.returns-in-Read
returns-in-Read c =
    let at-if1 =
    c.if-text-gt-MOST_TEXT in
    let s = c.args.text.now in
    let short : length s ≤ most_text = omega (arith, at-if1.false) in
    repair_read s short (reads (goal.at.returns-in-Read c).After-read_within-sheet c.in-Read.is) (count (goal.at.returns-in-Read c).After-read_within-sheet) (omega arith) c.put_repaired.ensures
