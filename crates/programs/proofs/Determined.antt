-- Every contract leaves one outcome: each is an equation for all that a call gives.
-- Assumes nothing.
use mathlib.Core.Path.{sym, ap, ◌∙◌}
use mathlib.Core.List.{List}
use Prim.Native.Nat.{ℕ}
use Rattle.reckon.specs.Outcomes.{One}
use Rattle.flood.specs.declared.run.Ran.{Ran}
use Rattle.sheet.specs.Sheet.{Rooms, rooms_after}
use Rattle.sheet.specs.declared.reading.Heading.{Heading}
use Rattle.sheet.specs.declared.reading.Sheet.{Sheet}
use Rattle.programs.specs.Reading.{ReadsWithin}
use Rattle.programs.specs.Program.{RunsSheet}
use Rattle.text.proofs.Determined.{written}
use Rattle.programs.specs.Inner.Determined.{ProgramsDetermined}

sheet_run_one :
    {h : Heading} {held : Rooms} → One {Out = Ran × (List ℕ × (List ℕ × List ℕ))} (λ o. RunsSheet h held o.0 o.1.0 o.1.1.0 o.1.1.1)
sheet_run_one a b x y =
    let e = x.ends ∙ sym y.ends in
    λ j. (record { refused = (e j).number; steps = (e j).steps; run = (e j).world.run }, ((e j).world.depths, ((e j).world.lasts, (e j).world.records)))

within_one :
    {most : ℕ} {text : List ℕ} {before : Rooms} → One {Out = Sheet × Rooms} (λ o. ReadsWithin most text before o.0 o.1)
within_one {most} {text} {before} a b x y =
    let answers = x.answer ∙ sym y.answer in
    let filled = x.rooms_are ∙ (ap (λ (z : Sheet). rooms_after text z before) answers ∙ sym y.rooms_are) in
    λ j. (answers j, filled j)

pub programs_determined : ProgramsDetermined
programs_determined =
    record {
      read_within = λ most text before. within_one;
      run_sheet = λ h held. sheet_run_one;
      put_ran = λ p depths ran at room a b x y. written a b x.wrote y.wrote;
      printed_of = λ printed text old a b x y. written a b x.wrote y.wrote;
    }
