use Rattle.sheet.specs.Sheet.{rooms}
use Rattle.evenings.specs.Program.{stores}
use Rattle.desks.specs.Inner.Further.{FurtherSteps}
use Rattle.desk.proofs.further_steps.Given as goal

abbrev pub invariant-loop : goal.invariant-loop
invariant-loop o l =
    FurtherSteps l.desk (stores (rooms l.marks l.beds l.roughness l.rates l.depths l.rain l.inflow) l.lasts l.records l.began)
