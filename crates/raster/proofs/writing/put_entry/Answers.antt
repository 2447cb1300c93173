-- `raster::writing::put_entry` meets its contract: the square, and the byte after it.
-- Assumes nothing.
use mathlib.Core.Path.{sym, ap}
use mathlib.Core.List.{[], ◌∷◌}
use Prim.Native.Nat.{ℕ, ◌+◌, ◌≤◌}
use native.Mathlib.Omega.{arith}
use lib.ListN.{length, length-append}
use Rattle.text.proofs.WritingLaws.{wrote_both, written_as}
use Rattle.raster.specs.Raster.{entry_text}
use Rattle.raster.specs.Inner.Steps.{value_text, gap_byte}
use Rattle.raster.proofs.writing.put_entry.Goals as goal
use Rattle.raster.proofs.writing.put_entry.Goals.{Start}

fits : (s : Start) → s.args.at + length
    (value_text s.args.scale s.args.marks.now s.args.values.now s.args.square) + 1 ≤ length s.args.room.now
unfolding entry_text
fits s =
    let a = s.args in
    omega (
      arith,
      s.requires.square_in_bounds,
      length-append (value_text a.scale a.marks.now a.values.now a.square)
          (gap_byte a.columns a.square ∷ []),
    )

pub put_value-end-requires : goal.put_value-end-requires
put_value-end-requires c = record {
  square_in_bounds = (c.requires.columns_nonzero.2, c.requires.columns_nonzero.3);
  square_in_bounds_2 = omega (arith, fits (goal.at.put_value-end-requires c).Start);
}

pub gap_after-requires : goal.gap_after-requires
gap_after-requires c = (c.requires.columns_nonzero.0, c.requires.columns_nonzero.1)

pub put_byte-requires : goal.put_byte-requires
put_byte-requires c = omega (arith, fits (goal.at.put_byte-requires c).Start, c.put_value-end.ensures.next, c.put_value-end.auto.room)

pub returns : goal.returns
unfolding entry_text
returns c =
    wrote_both (fits (goal.at.returns c).Start)
    c.put_value-end.ensures
    (written_as (ap (λ (b : ℕ). b ∷ []) (sym c.gap_after.ensures)) c.put_byte.ensures)
