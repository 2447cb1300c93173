use Rattle.hatches.proofs.RatesLaws.{Keeping}
use Rattle.hatches.proofs.rates.keep_rates.Given as goal

abbrev pub invariant-loop : goal.invariant-loop
invariant-loop l = Keeping l.slots l.steps l.newest l.litres l.initial.began l.began l.slot l.counter
