-- `holes::holes::put_line_with` meets its contract: the whole line where it has no hole, and else what is before the hole, the bed, and what is after it.
-- Assumes nothing.
use mathlib.Core.Path.{sym, ap, ◌∙◌}
use Prim.Native.Nat.{◌+◌}
use native.Mathlib.Omega.{arith}
use lib.ListN.{length}
use Rattle.text.proofs.EndLaws.{next-within}
use Rattle.text.proofs.WritingLaws.{written_as}
use Rattle.holes.specs.Holes.{between}
use Rattle.holes.specs.Repaired.{bed_text}
use Rattle.holes.proofs.HoleLaws.{hole_spot, next_forth}
use Rattle.holes.proofs.PutLaws.{told_none, told_at, line_whole, line_parts, first_fits, second_fits, third_fits, three_put}
use Rattle.holes.proofs.holes.put_line_with.Goals as goal

pub slice_bounds-put_word-count : goal.slice_bounds-put_word-count
slice_bounds-put_word-count c =
    let a = c.args in
    omega (arith, c.next_line-end.ensures, next_forth a.text.now a.start, next-within a.text.now a.start c.requires.start_in_bounds)

pub slice_bounds-put_word-start : goal.slice_bounds-put_word-start
slice_bounds-put_word-start c =
    let a = c.args in
    omega (arith, c.next_line-end.ensures, next_forth a.text.now a.start, next-within a.text.now a.start c.requires.start_in_bounds)

pub slice_bounds-put_word-end : goal.slice_bounds-put_word-end
slice_bounds-put_word-end c =
    let a = c.args in
    omega (arith, c.next_line-end.ensures, next_forth a.text.now a.start, next-within a.text.now a.start c.requires.start_in_bounds)

pub put_word-requires : goal.put_word-requires
put_word-requires c =
    let a = c.args in
    let e = told_none a.text.now a.start a.row a.column (sym c.in_default.is ∙ c.hole_at.ensures) in
    omega (arith, c.requires.bed_in_bounds, ap length (line_whole a.text.now a.start a.row a.column (bed_text a.bed) e c.next_line-end.ensures))

pub returns-in_default : goal.returns-in_default
returns-in_default c =
    let a = c.args in
    let e = told_none a.text.now a.start a.row a.column (sym c.in_default.is ∙ c.hole_at.ensures) in
    written_as (line_whole a.text.now a.start a.row a.column (bed_text a.bed) e c.next_line-end.ensures) c.put_word.ensures

pub slice_bounds-put_word-count-2 : goal.slice_bounds-put_word-count-2
slice_bounds-put_word-count-2 c =
    let a = c.args in
    let t = told_at a.text.now a.start a.row a.column (sym c.in-Some.is ∙ c.hole_at.ensures) in
    let k = hole_spot a.text.now a.start a.row a.column t.0 in
    omega (arith, t.1, k.before, k.inside, k.after, c.next_line-end.ensures, next-within a.text.now a.start c.requires.start_in_bounds)

pub slice_bounds-put_word-start-2 : goal.slice_bounds-put_word-start-2
slice_bounds-put_word-start-2 c =
    let a = c.args in
    let t = told_at a.text.now a.start a.row a.column (sym c.in-Some.is ∙ c.hole_at.ensures) in
    let k = hole_spot a.text.now a.start a.row a.column t.0 in
    omega (arith, t.1, k.before, k.inside, k.after, c.next_line-end.ensures, next-within a.text.now a.start c.requires.start_in_bounds)

pub slice_bounds-put_word-end-2 : goal.slice_bounds-put_word-end-2
slice_bounds-put_word-end-2 c =
    let a = c.args in
    let t = told_at a.text.now a.start a.row a.column (sym c.in-Some.is ∙ c.hole_at.ensures) in
    let k = hole_spot a.text.now a.start a.row a.column t.0 in
    omega (arith, t.1, k.before, k.inside, k.after, c.next_line-end.ensures, next-within a.text.now a.start c.requires.start_in_bounds)

pub put_word-before-requires : goal.put_word-before-requires
put_word-before-requires c =
    let a = c.args in
    let spot = c.in-Some.spot in
    let t = told_at a.text.now a.start a.row a.column (sym c.in-Some.is ∙ c.hole_at.ensures) in
    first_fits (between a.text.now a.start spot) (bed_text a.bed) (between a.text.now (spot + 1) c.next_line-end.result)
    (line_parts a.text.now a.start a.row a.column (bed_text a.bed) t.0 t.1 c.next_line-end.ensures) a.at a.out.now
    c.requires.bed_in_bounds

pub put_bed-next-requires : goal.put_bed-next-requires
put_bed-next-requires c =
    let a = c.args in
    let spot = c.in-Some.spot in
    let t = told_at a.text.now a.start a.row a.column (sym c.in-Some.is ∙ c.hole_at.ensures) in
    second_fits (between a.text.now a.start spot) (bed_text a.bed) (between a.text.now (spot + 1) c.next_line-end.result)
    (line_parts a.text.now a.start a.row a.column (bed_text a.bed) t.0 t.1 c.next_line-end.ensures) a.at a.out.now
    c.requires.bed_in_bounds c.put_word-before.ensures

pub overflow_add-rest : goal.overflow_add-rest
overflow_add-rest c =
    let at-next-line = c.next_line-end in
    let at-hole-at = c.hole_at in
    let a = c.args in
    let t = told_at a.text.now a.start a.row a.column (sym c.in-Some.is ∙ at-hole-at.ensures) in
    let k = hole_spot a.text.now a.start a.row a.column t.0 in
    omega (arith, t.1, k.before, k.inside, k.after, at-next-line.ensures, next-within a.text.now a.start c.requires.start_in_bounds)

pub slice_bounds-put_word-count-3 : goal.slice_bounds-put_word-count-3
slice_bounds-put_word-count-3 c =
    let at-next-line = c.next_line-end in
    let at-hole-at = c.hole_at in
    let a = c.args in
    let t = told_at a.text.now a.start a.row a.column (sym c.in-Some.is ∙ at-hole-at.ensures) in
    let k = hole_spot a.text.now a.start a.row a.column t.0 in
    omega (arith, t.1, k.before, k.inside, k.after, at-next-line.ensures, next-within a.text.now a.start c.requires.start_in_bounds)

pub slice_bounds-put_word-start-3 : goal.slice_bounds-put_word-start-3
slice_bounds-put_word-start-3 c =
    let at-next-line = c.next_line-end in
    let at-hole-at = c.hole_at in
    let a = c.args in
    let t = told_at a.text.now a.start a.row a.column (sym c.in-Some.is ∙ at-hole-at.ensures) in
    let k = hole_spot a.text.now a.start a.row a.column t.0 in
    omega (arith, t.1, k.before, k.inside, k.after, at-next-line.ensures, next-within a.text.now a.start c.requires.start_in_bounds)

pub slice_bounds-put_word-end-3 : goal.slice_bounds-put_word-end-3
slice_bounds-put_word-end-3 c =
    let at-next-line = c.next_line-end in
    let at-hole-at = c.hole_at in
    let a = c.args in
    let t = told_at a.text.now a.start a.row a.column (sym c.in-Some.is ∙ at-hole-at.ensures) in
    let k = hole_spot a.text.now a.start a.row a.column t.0 in
    omega (arith, t.1, k.before, k.inside, k.after, at-next-line.ensures, next-within a.text.now a.start c.requires.start_in_bounds)

pub put_word-requires-2 : goal.put_word-requires-2
put_word-requires-2 c =
    let at-next-line =
    c.next_line-end in
    let at-hole-at = c.hole_at in
    let at-put-word2 = c.put_word-before in
    let a = c.args in
    let spot = c.in-Some.spot in
    let t = told_at a.text.now a.start a.row a.column (sym c.in-Some.is ∙ at-hole-at.ensures) in
    third_fits (between a.text.now a.start spot) (bed_text a.bed) (between a.text.now (spot + 1) at-next-line.result)
    (line_parts a.text.now a.start a.row a.column (bed_text a.bed) t.0 t.1 at-next-line.ensures) a.at a.out.now
    c.requires.bed_in_bounds at-put-word2.ensures c.put_bed-next.ensures

pub returns : goal.returns
returns c =
    let at-next-line =
    c.next_line-end in
    let at-hole-at =
    c.hole_at in
    let at-put-word2 = c.put_word-before in
    let at-put-bed = c.put_bed-next in
    let a = c.args in
    let spot = c.in-Some.spot in
    let t = told_at a.text.now a.start a.row a.column (sym c.in-Some.is ∙ at-hole-at.ensures) in
    three_put (between a.text.now a.start spot) (bed_text a.bed) (between a.text.now (spot + 1) at-next-line.result)
    (line_parts a.text.now a.start a.row a.column (bed_text a.bed) t.0 t.1 at-next-line.ensures) a.at a.out.now
    c.requires.bed_in_bounds at-put-word2.ensures at-put-bed.ensures c.put_word-2.ensures
