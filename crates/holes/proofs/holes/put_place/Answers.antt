-- `holes::holes::put_place` meets its contract: its word, the place and a tab.
-- Assumes nothing.
use mathlib.Core.Path.{refl}
use mathlib.Core.List.{[], ◌∷◌}
use native.Mathlib.Omega.{arith}
use Rattle.text.specs.Reading.{tab}
use Rattle.text.specs.Writing.{fields_text}
use Rattle.sheet.specs.Lines.{cell_word}
use Rattle.holes.proofs.PutLaws.{first_fits, second_fits, third_fits, three_put}
use Rattle.holes.proofs.holes.put_place.Goals as goal

pub put_word-word-requires : goal.put_word-word-requires
put_word-word-requires c = omega (arith, first_fits cell_word (fields_text (c.args.row ∷ c.args.column ∷ [])) (tab ∷ []) refl 0 c.args.room.now (omega (arith, c.requires)))

pub put_fields-fields-requires : goal.put_fields-fields-requires
put_fields-fields-requires c =
    let a = c.args in
    second_fits cell_word (fields_text (a.row ∷ a.column ∷ [])) (tab ∷ []) refl 0 a.room.now (omega (arith, c.requires))
    c.put_word-word.ensures

pub put_word-requires : goal.put_word-requires
put_word-requires c =
    let a = c.args in
    let at-put-word = c.put_word-word in
    omega (
      arith,
      third_fits cell_word (fields_text (a.row ∷ a.column ∷ [])) (tab ∷ []) refl 0 a.room.now (omega (arith, c.requires))
          at-put-word.ensures c.put_fields-fields.ensures,
    )

pub returns : goal.returns
returns c =
    let a = c.args in
    let at-put-word = c.put_word-word in
    let at-put-fields = c.put_fields-fields in
    three_put cell_word (fields_text (a.row ∷ a.column ∷ [])) (tab ∷ []) refl 0 a.room.now (omega (arith, c.requires))
    at-put-word.ensures at-put-fields.ensures c.put_word.ensures
