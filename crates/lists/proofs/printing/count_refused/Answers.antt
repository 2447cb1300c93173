-- `lists::printing::count_refused` meets its contract: the numbers that are not 0 are counted.
-- Assumes nothing.
use Rattle.std.proofs.Common.{◌≡◌, ◌∙◌, count_by, eqb, not, rules, sym, ℕ}
use Rattle.lists.proofs.PrintLaws.{refused_counted}
use Rattle.lists.proofs.printing.count_refused.Goals as goal

pub returns : goal.returns
returns c =
    let so_many : c.count.result ≡ count_by (λ (n : ℕ). not (eqb n 0)) c.args.numbers.now = search rules in
    so_many ∙ sym (refused_counted c.args.numbers.now)
