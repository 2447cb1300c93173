-- Every contract leaves one outcome: each is an equation for all that a call gives.
-- Assumes nothing.
use mathlib.Core.Path.{◌≡◌, sym, ap, ◌∙◌}
use mathlib.Core.List.{List}
use Prim.Native.Nat.{ℕ}
use Rattle.reckon.specs.Outcomes.{One}
use Rattle.reckon.proofs.OutcomeLaws.{exactly}
use Rattle.text.specs.Reading.{line_from}
use Rattle.sheet.specs.Inner.Determined.{SheetDetermined}
use Rattle.sheet.specs.Inner.Reading.{RowsCounted}
use Rattle.sheet.specs.declared.rooms.Scan.{Scan}

rows_once : (text : List ℕ) (at : ℕ) (word : List ℕ) (width : ℕ) → One (RowsCounted text at word width)
rows_once text at word width a b p q =
    let count : a.count ≡ b.count = p.count_is ∙ sym q.count_is in
    let next : a.next ≡ b.next = p.next_is ∙ (ap (line_from text at) count ∙ sym q.next_is) in
    same count next
  where
    same : {x y m n : ℕ} → x ≡ y → m ≡ n → ◌≡◌ {A = Scan} (record { count = x; next = m }) (record { count = y; next = n })
    same e f = cc

pub sheet_determined : SheetDetermined
sheet_determined =
    record {
      grid-line = λ text. exactly;
      run-line = λ text at side. exactly;
      count_rows = rows_once;
      fill_rows = λ text at word width count room. exactly;
      judge = λ shape rules held end. exactly;
    }
