-- Laws of a desk's value and of the sizes of its rooms.
-- Assumes nothing.
use mathlib.Core.Path.{◌≡◌, refl, ap, ap₂, ◌∙◌}
use mathlib.Core.Bool.{Bool, true}
use mathlib.Core.List.{[]}
use Prim.Native.Nat.{ℕ, zero, suc, ◌*◌, ◌/◌, ◌≤◌, ◌<◌, min}
use native.Mathlib.Nat.{mul-le-mul_right, div-add-mod', mod-lt}
use native.Mathlib.Omega.{arith}
use borrow.Author.Tests.{leb-true}
use Rattle.reckon.specs.Ranges.{most_table_rows}
use Rattle.reckon.specs.Tables.{rain_kind, inflow_kind}
use Rattle.reckon.proofs.TestLaws.{every_each}
use Rattle.grid.specs.Squares.{squares, ShapeInRange}
use Rattle.grid.specs.declared.squares.Shape.{Shape}
use Rattle.grid.proofs.SquareLaws.{ranges_of_fine}
use Rattle.ledger.specs.Runs.{plan}
use Rattle.ledger.specs.Record.{record_size, SizeOf}
use Rattle.ledger.specs.declared.runs.Run.{Run}
use Rattle.checks.specs.Fresh.{fresh_run}
use Rattle.sheet.specs.declared.reading.Heading.{Heading}
use Rattle.hatches.specs.Log.{most_hatches, opened}
use Rattle.hatches.specs.declared.log.Log.{Log}
use Rattle.trying.specs.Given.{most_slots, account_opened}
use Rattle.trying.specs.declared.given.Account.{Account}
use Rattle.desks.specs.State.{desk_numbers, kept_slots, records_on, heading_fine, no_series, fresh_desk, KeptSlots}
use Rattle.desks.specs.Inner.Sizes.{SizesAre}
use Rattle.desks.specs.declared.state.Desk.{Desk}
use Rattle.desks.specs.declared.state.Series.{Series}

-- ---- a desk made of its parts

desk_as : (ready : Bool) (h : Heading) (long : ℕ) {l l' : Log} {a a' : Account} {s s' : Series} → l ≡ l' → a ≡ a' → s ≡ s' →
    ◌≡◌ {A = Desk} (record { ready = ready; heading = h; log = l; account = a; series = s; length = long })
    (record { ready = ready; heading = h; log = l'; account = a'; series = s'; length = long })
desk_as ready h long e f g = cc

pub desk_fresh :
    (h : Heading) (start long : ℕ) {slots : ℕ} {run : Run} {l : Log} {a : Account} {s : Series} → slots ≡ kept_slots h.shape → run ≡ fresh_run h.rules slots →
    l ≡ opened run → a ≡ account_opened start 0 → s ≡ no_series →
    ◌≡◌ {A = Desk} (record { ready = true; heading = h; log = l; account = a; series = s; length = long }) (fresh_desk h start long)
desk_fresh h start long k r l a s =
    desk_as true h long (l ∙ ap opened (r ∙ ap (fresh_run h.rules) k)) a s

-- ---- how many records are kept

module _ (s : Shape) {size : ℕ} (e : SizeOf s size) where
  same_quotient : desk_numbers / size ≡ desk_numbers / record_size (plan s [])
  same_quotient = ap (λ (n : ℕ). desk_numbers / n) e

  pub slots_many : most_slots < desk_numbers / size → KeptSlots s most_slots
  unfolding kept_slots
  slots_many h = omega (arith, same_quotient, h)

  pub slots_few : desk_numbers / size ≤ most_slots → KeptSlots s (desk_numbers / size)
  unfolding kept_slots
  slots_few h = omega (arith, same_quotient, h)

module _ (s : Shape) where
  abbrev size : ℕ
  size = record_size (plan s [])

  whole : desk_numbers / size * size ≤ desk_numbers
  whole = omega (arith, div-add-mod' desk_numbers size)

  pub slots_fit : kept_slots s * size ≤ desk_numbers
  unfolding kept_slots
  slots_fit = omega (arith, whole, mul-le-mul_right {m = min most_slots (desk_numbers / size)} {n = desk_numbers / size} size (omega arith))

  pub slots_most : kept_slots s ≤ most_slots
  unfolding kept_slots
  slots_most = omega arith

  pub slots_some : ShapeInRange s → 0 < kept_slots s
  unfolding kept_slots
  slots_some r = go (desk_numbers / size) refl
    where
      go : (q : ℕ) → desk_numbers / size ≡ q → 0 < min most_slots (desk_numbers / size)
      go zero e =
          let none : desk_numbers / size * size ≡ 0 = ap (λ (k : ℕ). k * size) e ∙ omega arith in
          absurd (omega (arith, none, div-add-mod' desk_numbers size, mod-lt desk_numbers {m = size} (omega arith), r.few))
      go (suc q) e = omega (arith, e)

-- ---- the sizes of what belongs to a sheet

pub record Fine (h : Heading) : Type 0 where
  pub shape : ShapeInRange h.shape
  pub rain : h.rain_rows ≤ most_table_rows
  pub inflow : h.inflow_rows ≤ most_table_rows

pub fine_is : (h : Heading) → heading_fine h ≡ true → Fine h
unfolding heading_fine
fine_is h e =
    let t = every_each _ e in
    record { shape = ranges_of_fine _ t.0; rain = leb-true _ _ t.1.0; inflow = leb-true _ _ t.1.1.0 }

pub sizes_made :
    (h : Heading) → heading_fine h ≡ true → {squares' rain inflow slots size' : ℕ} → squares' ≡ squares h.shape → slots ≡ kept_slots h.shape →
    size' ≡ record_size (plan h.shape []) → rain ≡ rain_kind.width * h.rain_rows → inflow ≡ inflow_kind.width * h.inflow_rows →
    SizesAre h (record { squares = squares'; rain = rain; inflow = inflow; records = slots * size'; began = slots * most_hatches })
sizes_made h e {slots = slots} a b c d f =
    let t = fine_is h e in
    let r : slots * _ ≡ records_on h.shape = ap₂ (λ (x y : ℕ). x * y) b c in
    record {
      fine = t.shape;
      squares_are = a;
      squares_fit = omega (arith, a, t.shape.few);
      rain_is = d;
      rain_fits = omega (arith, d, t.rain);
      inflow_is = f;
      inflow_fits = omega (arith, f, t.inflow);
      records_are = r;
      records_fit = omega (arith, r, slots_fit h.shape);
      began_is = ap (λ (x : ℕ). x * most_hatches) b;
      began_fits = omega (arith, b, slots_most h.shape);
    }
