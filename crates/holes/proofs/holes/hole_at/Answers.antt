-- `holes::holes::hole_at` meets its contract: the line begins as the square's must, and an `o` or an `e` with a `?` follows.
-- Assumes nothing.
use mathlib.Core.Path.{sym, ap, ◌∙◌}
use mathlib.Core.List.{[], ◌∷◌}
use native.Mathlib.Omega.{arith}
use lib.Seq.{length-take-le}
use Rattle.text.specs.Reading.{tab, word_at}
use Rattle.text.proofs.ReadingLaws.{word_within}
use Rattle.holes.specs.Holes.{question}
use Rattle.holes.specs.Inner.Steps.{place_text}
use Rattle.holes.proofs.PutLaws.{place_short, put_within, put_again, hole_unplaced, hole_open, hole_exit, hole_none}
use Rattle.holes.proofs.holes.hole_at.Goals as goal

pub put_place-length-requires : goal.put_place-length-requires
put_place-length-requires c = place_short c.args.row c.args.column c.ranges.row.fits c.ranges.column.fits

pub slice_bounds-room-end : goal.slice_bounds-room-end
slice_bounds-room-end c =
    put_within c.put_place-length.ensures
    (omega (arith, place_short c.args.row c.args.column c.ranges.row.fits c.ranges.column.fits))

pub slice_bounds-word_at-end : goal.slice_bounds-word_at-end
slice_bounds-word_at-end c =
    sym
    (length-take-le _ _
    (put_within c.put_place-length.ensures
    (omega (arith, place_short c.args.row c.args.column c.ranges.row.fits c.ranges.column.fits))))

pub returns-then-not-word_at : goal.returns-then-not-word_at
returns-then-not-word_at c =
    let a = c.args in
    hole_unplaced a.text.now a.at a.row a.column
    (ap (word_at a.text.now a.at) (sym (put_again c.put_place-length.ensures))
    ∙ (sym c.word_at.ensures ∙ c.if-not-word_at.true))

pub overflow_add-after : goal.overflow_add-after
overflow_add-after c =
    let a = c.args in
    omega (
      arith,
      c.put_place-length.ensures.next,
      word_within a.text.now a.at (place_text a.row a.column)
          (ap (word_at a.text.now a.at) (sym (put_again c.put_place-length.ensures)) ∙ (sym c.word_at.ensures ∙ c.if-not-word_at.false)),
    )

pub returns-then-word_at : goal.returns-then-word_at
returns-then-word_at c =
    let a = c.args in
    let at-put-place = c.put_place-length in
    hole_open a.text.now a.at a.row a.column
    (ap (word_at a.text.now a.at) (sym (put_again at-put-place.ensures))
    ∙ (sym c.word_at.ensures ∙ c.if-not-word_at.false))
    (omega (arith, at-put-place.ensures.next)) (sym c.word_at-2.ensures ∙ c.if-word_at.true)

pub overflow_add-result : goal.overflow_add-result
overflow_add-result c = omega (arith, word_within c.args.text.now _ (111 ∷ tab ∷ question ∷ tab ∷ []) (sym c.word_at-2.ensures ∙ c.if-word_at.true))

pub overflow_add-result-then-word_at-2 : goal.overflow_add-result-then-word_at-2
overflow_add-result-then-word_at-2 c = omega (arith, word_within c.args.text.now _ (101 ∷ tab ∷ question ∷ tab ∷ []) (sym c.word_at-3.ensures ∙ c.if-word_at-2.true))

pub returns-then-word_at-2 : goal.returns-then-word_at-2
returns-then-word_at-2 c =
    let a = c.args in
    let at-put-place = c.put_place-length in
    let at-word-at = c.word_at in
    let at-if1 = c.if-not-word_at in
    hole_exit a.text.now a.at a.row a.column
    (ap (word_at a.text.now a.at) (sym (put_again at-put-place.ensures)) ∙ (sym at-word-at.ensures ∙ at-if1.false))
    (omega (arith, at-put-place.ensures.next))
    (sym c.word_at-2.ensures ∙ c.if-word_at.false)
    (sym c.word_at-3.ensures ∙ c.if-word_at-2.true)

pub returns : goal.returns
returns c =
    let a = c.args in
    let at-put-place = c.put_place-length in
    let at-word-at = c.word_at in
    let at-if1 = c.if-not-word_at in
    hole_none a.text.now a.at a.row a.column
    (ap (word_at a.text.now a.at) (sym (put_again at-put-place.ensures)) ∙ (sym at-word-at.ensures ∙ at-if1.false))
    (omega (arith, at-put-place.ensures.next))
    (sym c.word_at-2.ensures ∙ c.if-word_at.false)
    (sym c.word_at-3.ensures ∙ c.if-word_at-2.false)
