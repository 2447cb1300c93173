-- `frames::frame::put_rates` meets its contract: one line.
-- Assumes nothing.
use Rattle.std.proofs.Common.{of_calls, ◌≡◌, List, ℕ, ◌<◌, sym, ap, length, get_or}
use native.Mathlib.Omega.{arith}
use Rattle.reckon.proofs.ListLaws.{is_tabulate}
use Rattle.text.specs.Writing.{line_text}
use Rattle.text.proofs.WritingLaws.{written_as}
use Rattle.frames.specs.Frame.{rates_word, rates_text}
use Rattle.frames.proofs.frame.put_rates.Goals as goal

-- the line of numbers that are a list's first nine
same : (values litres : List ℕ) → length values ≡ 9 → ((i : ℕ) → i < 9 → get_or values i 0 ≡ get_or litres i 0) →
    rates_text litres ≡ line_text rates_word values
unfolding rates_text
same values litres long each = ap (line_text rates_word) (sym (is_tabulate 9 (λ i. get_or litres i 0) values long each))

pub put_line-requires : goal.put_line-requires
put_line-requires c =
    let mapped = c.map-values.ensures.items in
    omega (arith, c.requires, ap length (same c.map-values.result c.args.litres mapped.long (λ i l. let h = mapped.at i 0 0 l in search of_calls)))

pub returns : goal.returns
returns c =
    let mapped = c.map-values.ensures.items in
    written_as (same _ c.args.litres mapped.long (λ i l. let h = mapped.at i 0 0 l in search of_calls)) c.put_line.ensures
