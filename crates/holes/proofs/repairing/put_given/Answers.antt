-- `holes::repairing::put_given` meets its contract: row and column, and then bed and round, or `-` for both.
-- Assumes nothing.
use mathlib.Core.List.{[], ◌∷◌, ◌++◌}
use native.Mathlib.Omega.{arith}
use lib.ListN.{length-append}
use Rattle.text.specs.Reading.{tab, newline}
use Rattle.text.specs.Writing.{decimal, field_text, fields_text}
use Rattle.holes.proofs.PutLaws.{given_rest, given_is, unknown_given, known_given, first_fits, second_fits, third_fits, three_put, other_fits, both_put}
use Rattle.holes.proofs.repairing.put_given.Goals as goal

pub put_number-first-requires : goal.put_number-first-requires
put_number-first-requires c =
    let a = c.args in
    first_fits (decimal a.row) (field_text a.column) (given_rest a.row a.column a.bed a.turn) (given_is a.row a.column a.bed a.turn) a.at a.out.now c.requires

pub put_field-second-requires : goal.put_field-second-requires
put_field-second-requires c =
    let a = c.args in
    second_fits (decimal a.row) (field_text a.column) (given_rest a.row a.column a.bed a.turn)
    (given_is a.row a.column a.bed a.turn) a.at a.out.now c.requires c.put_number-first.ensures

pub put_word-requires : goal.put_word-requires
put_word-requires c =
    let at-put-number = c.put_number-first in
    let at-put-field = c.put_field-second in
    let a = c.args in
    omega (
      arith,
      third_fits (decimal a.row) (field_text a.column) (tab ∷ 45 ∷ tab ∷ 45 ∷ newline ∷ [])
          (unknown_given a.row a.column a.bed a.turn c.if-bed.true) a.at a.out.now c.requires
          at-put-number.ensures
          at-put-field.ensures,
    )

pub returns-then-bed : goal.returns-then-bed
returns-then-bed c =
    let at-put-number = c.put_number-first in
    let at-put-field = c.put_field-second in
    let at-if1 = c.if-bed in
    let a = c.args in
    three_put (decimal a.row) (field_text a.column) (tab ∷ 45 ∷ tab ∷ 45 ∷ newline ∷ [])
    (unknown_given a.row a.column a.bed a.turn at-if1.true) a.at a.out.now c.requires at-put-number.ensures
    at-put-field.ensures c.put_word.ensures

pub put_fields-end-requires : goal.put_fields-end-requires
put_fields-end-requires c =
    let at-put-number = c.put_number-first in
    let at-put-field = c.put_field-second in
    let a = c.args in
    omega (
      arith,
      length-append (fields_text (a.bed ∷ a.turn ∷ [])) (newline ∷ []),
      third_fits (decimal a.row) (field_text a.column) (fields_text (a.bed ∷ a.turn ∷ []) ++ (newline ∷ []))
          (known_given a.row a.column a.bed a.turn c.if-bed.false) a.at a.out.now c.requires
          at-put-number.ensures
          at-put-field.ensures,
    )

pub put_byte-requires : goal.put_byte-requires
put_byte-requires c =
    let at-put-number = c.put_number-first in
    let at-put-field = c.put_field-second in
    let at-if1 = c.if-bed in
    let a = c.args in
    omega (
      arith,
      other_fits (fields_text (a.bed ∷ a.turn ∷ [])) (newline ∷ []) _ _
          (third_fits (decimal a.row) (field_text a.column) (fields_text (a.bed ∷ a.turn ∷ []) ++ (newline ∷ [])) (known_given a.row a.column a.bed a.turn at-if1.false) a.at a.out.now c.requires at-put-number.ensures
          at-put-field.ensures)
          c.put_fields-end.ensures,
    )

pub returns : goal.returns
returns c =
    let at-put-number =
    c.put_number-first in
    let at-put-field = c.put_field-second in
    let at-if1 = c.if-bed in
    let at-put-fields = c.put_fields-end in
    let a = c.args in
    let rest =
    third_fits (decimal a.row) (field_text a.column) (fields_text (a.bed ∷ a.turn ∷ []) ++ (newline ∷ []))
    (known_given a.row a.column a.bed a.turn at-if1.false) a.at a.out.now c.requires at-put-number.ensures
    at-put-field.ensures in
    three_put (decimal a.row) (field_text a.column) (fields_text (a.bed ∷ a.turn ∷ []) ++ (newline ∷ []))
    (known_given a.row a.column a.bed a.turn at-if1.false) a.at a.out.now c.requires at-put-number.ensures
    at-put-field.ensures
    (both_put (fields_text (a.bed ∷ a.turn ∷ [])) (newline ∷ []) _ _ rest at-put-fields.ensures c.put_byte.ensures)
