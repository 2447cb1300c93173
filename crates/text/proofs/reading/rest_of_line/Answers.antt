-- `text::reading::rest_of_line` meets its contract: the fields, and then the newline, each decide.
-- Assumes nothing.
use mathlib.Core.Path.{sym, ap, ◌∙◌}
use native.Mathlib.Omega.{arith}
use Rattle.text.specs.Reading.{newline, line_ended, read_rest, as_fields}
use Rattle.text.proofs.ReadingLaws.{unfound, unended, ended_found, byte_within}
use Rattle.text.proofs.reading.rest_of_line.Goals as goal

pub returns-in_err-fields : goal.returns-in_err-fields
unfolding read_rest line_ended as_fields
returns-in_err-fields c =
    c.from_residual.ensures
    ∙ ap (λ r. as_fields (line_ended c.args.text.now r)) (sym (unfound _ c.in_err-fields.ensures))

pub returns-then-not-byte_is : goal.returns-then-not-byte_is
unfolding read_rest as_fields
returns-then-not-byte_is c =
    ap as_fields (sym (unended _ c.in_ok-fields.ensures c.args.text.now (sym c.if-not-byte_is.ensures)))

pub overflow_add-result : goal.overflow_add-result
overflow_add-result c =
    omega (arith, byte_within c.args.text.now c.in_ok-fields.fields.next newline (sym c.if-not-byte_is.ensures))

pub returns : goal.returns
unfolding read_rest
returns c = ended_found _ c.in_ok-fields.ensures c.args.text.now (sym c.if-not-byte_is.ensures)
