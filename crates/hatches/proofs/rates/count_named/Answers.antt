-- `hatches::rates::count_named` meets its contract: each that is named has one row.
-- Assumes nothing.
use Rattle.std.proofs.Common.{◌≡◌, length, arith, rules, ◌∙◌}
use Rattle.std.specs.List.{count_by}
use Rattle.std.proofs.lemmas.List.Sums.{count_by-le-length}
use Rattle.hatches.specs.Log.{most_hatches}
use Rattle.hatches.proofs.RowLaws.{counted, rows_long}
use Rattle.hatches.proofs.rates.count_named.Goals as goal

pub returns : goal.returns
returns c =
    let nine : length c.args.hatches.named ≡ most_hatches = omega arith in
    let count : c.count.result ≡ count_by (λ one. one) c.args.hatches.named = search rules in
    (λ litres. rows_long c.args.hatches litres (count ∙ counted _ nine), omega (arith, count, count_by-le-length (λ one. one) c.args.hatches.named))
