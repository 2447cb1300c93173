-- Laws of the desk's rooms: what of each belongs to the sheet on the desk, and what a call over it leaves in them.
-- Assumes nothing.
use mathlib.Core.Path.{◌≡◌, sym, ap, subst, ◌∙◌}
use mathlib.Core.Bool.{true}
use mathlib.Core.List.{List, [], ◌++◌}
use Prim.Native.Nat.{ℕ, ◌*◌, ◌/◌, ◌≤◌, ◌<◌}
use native.Mathlib.Nat.{mul-div_cancel}
use native.Mathlib.Omega.{arith}
use lib.ListN.{length, take, drop, take-append-drop}
use lib.Seq.{length-take-le}
use Rattle.reckon.specs.Lists.{placed}
use Rattle.reckon.specs.Tables.{rain_kind, inflow_kind}
use Rattle.reckon.proofs.TestLaws.{refusal_passed}
use Rattle.trials.specs.Ring.{slots_in}
use Rattle.grid.specs.Squares.{squares}
use Rattle.ledger.specs.Runs.{plan}
use Rattle.ledger.specs.Record.{record_size, room_slots}
use Rattle.checks.specs.Given.{given, ground}
use Rattle.flood.specs.Inner.Step.{RoomsLent}
use Rattle.sheet.specs.Sheet.{rooms}
use Rattle.sheet.specs.declared.reading.Heading.{Heading}
use Rattle.hatches.specs.Log.{evening, most_hatches}
use Rattle.evenings.specs.Program.{Stores, stores, given_held}
use Rattle.trying.specs.Inner.Passing.{StepPasses}
use Rattle.desks.specs.State.{kept_slots, records_on, rates_on, heading_fine}
use Rattle.desks.specs.Lines.{Told, order_told, next_told}
use Rattle.desks.specs.Command.{Leaves, plan_on, evening_on, inflow_on, ready_number, stores_with, told_on}
use Rattle.desks.specs.Inner.Further.{StepPassesOn}
use Rattle.desks.specs.Inner.Lent.{Lends, Answers}
use Rattle.desks.specs.Inner.Rooms.{RoomsLong, WorkLong}
use Rattle.desks.specs.Inner.Sizes.{SizesAre}
use Rattle.desks.specs.declared.orders.Order.{Order}
use Rattle.desks.specs.declared.sizes.Sizes.{Sizes}
use Rattle.desks.specs.declared.state.Desk.{Desk}

-- ---- parts of rooms

pub part_long : (n : ℕ) (room : List ℕ) → n ≤ length room → n ≡ length (take n room)
part_long n room h = sym (length-take-le n room h)

placed_first : (part old : List ℕ) {n : ℕ} → length part ≡ n → part ++ drop n old ≡ placed old 0 part
unfolding placed
placed_first part old l = ap (λ (k : ℕ). part ++ drop k old) (sym l)

-- a part that stayed
placed_same : (n : ℕ) (old : List ℕ) → n ≤ length old → old ≡ placed old 0 (take n old)
placed_same n old h = sym (take-append-drop n old) ∙ placed_first (take n old) old (length-take-le n old h)

-- working rooms, as far as they belong to a sheet
pub work_lent :
    (h : Heading) {sizes : Sizes} {left worked senders room : List ℕ} → SizesAre h sizes → WorkLong left worked senders room →
    RoomsLent h.shape (take sizes.squares left) (take h.shape.rows worked) (take h.shape.rows senders) (take sizes.squares room)
work_lent h {left = left} {worked} {senders} {room} z w =
    record {
      left_long = sym (part_long _ left (omega (arith, z.squares_fit, w.left_long))) ∙ z.squares_are;
      worked_long = sym (part_long _ worked (omega (arith, z.fine.rows_high, w.worked_long)));
      senders_long = sym (part_long _ senders (omega (arith, z.fine.rows_high, w.senders_long)));
      room_long = sym (part_long _ room (omega (arith, z.squares_fit, w.room_long))) ∙ z.squares_are;
    }

-- ---- a desk that is ready

pub ready_fine : (d : Desk) → ready_number d ≡ 0 → heading_fine d.heading ≡ true
unfolding ready_number
ready_fine d z = (refusal_passed _ tt z).1.0

-- the sizes in one equation
abbrev sizes_for : Heading → Sizes
sizes_for h =
    record {
      squares = squares h.shape;
      rain = rain_kind.width * h.rain_rows;
      inflow = inflow_kind.width * h.inflow_rows;
      records = records_on h.shape;
      began = rates_on h.shape;
    }

sizes_same : (h : Heading) {z : Sizes} → SizesAre h z → z ≡ sizes_for h
sizes_same h {z} a = join a.squares_are a.rain_is a.inflow_is a.records_are a.began_is
  where
    join : {q q' r r' i i' c c' b b' : ℕ} → q ≡ q' → r ≡ r' → i ≡ i' → c ≡ c' → b ≡ b' →
        ◌≡◌ {A = Sizes} (record { squares = q; rain = r; inflow = i; records = c; began = b }) (record { squares = q'; rain = r'; inflow = i'; records = c'; began = b' })
    join a b c d e = cc

-- how many slots a part of so many records has
whole_slots : (size k : ℕ) (room : List ℕ) {n : ℕ} → 0 < size → n ≡ k * size → n ≤ length room → slots_in size (length (take n room)) ≡ k
whole_slots size k room {n} s e h =
    ap (λ (j : ℕ). j / size) (sym (part_long n room h) ∙ e) ∙ mul-div_cancel k s

pub lends :
    (h : Heading) {z : Sizes} → SizesAre h z → {marks inflow depths lasts records began out : List ℕ} → RoomsLong marks inflow depths lasts records began out →
    Lends (plan h.shape (take z.squares marks)) (take z.squares depths) (take z.squares lasts) (take z.records records) (take z.began began) out
unfolding room_slots
lends h {z} a {marks} {inflow} {depths} {lasts} {records} {began} l =
    record {
      shows = record {
        fine = a.fine;
        marks_long = omega (arith, part_long z.squares marks (omega (arith, l.marks_long, a.squares_fit)), a.squares_are);
        depths_long = omega (arith, part_long z.squares depths (omega (arith, l.depths_long, a.squares_fit)), a.squares_are);
        out_long = l.out_long;
      };
      lasts_long = omega (arith, part_long z.squares lasts (omega (arith, l.lasts_long, a.squares_fit)), a.squares_are);
      slots_are =
          whole_slots (record_size (plan h.shape [])) (kept_slots h.shape) records (omega arith) a.records_are
          (omega (arith, l.records_long, a.records_fit));
      rates_are =
          omega (arith, whole_slots most_hatches (kept_slots h.shape) began (omega arith) a.began_is (omega (arith, l.began_long, a.began_fits)));
    }

-- ---- what a call over the sheet leaves

module _ (d : Desk) (r : Stores) {t : Told} {a : Desk} {depths lasts records began old new : List ℕ} (w : Answers t d a (evening depths lasts records began a.log) old new) where
  pub leaves :
      {after : Stores} → after ≡ stores_with r (evening depths lasts records began a.log) → Leaves (told_on d r t) a after old new
  leaves e = record { desk_is = w.desk_is; rooms_are = e ∙ ap (stores_with r) w.evening_is; puts = w.puts }

module _ (d : Desk) {z : Sizes} (sz : SizesAre d.heading z) (marks beds roughness rates depths rain inflow lasts records began : List ℕ) where
  abbrev R : Stores
  R = stores (rooms marks beds roughness rates depths rain inflow) lasts records began

  stores_as : {x x' y y' u u' v v' : List ℕ} → x ≡ x' → y ≡ y' → u ≡ u' → v ≡ v' →
      stores (rooms marks beds roughness rates x rain inflow) y u v ≡ stores (rooms marks beds roughness rates x' rain inflow) y' u' v'
  stores_as a b c e = cc

  -- a line, which changes neither records nor rates
  pub held_line :
      (text : List ℕ) (o : Order) {a : Desk} {x y old new : List ℕ} → length x ≡ z.squares → length y ≡ z.squares →
      z.records ≤ length records → z.began ≤ length began →
      Answers
      (order_told (plan d.heading.shape (take z.squares marks))
      (evening (take z.squares depths) (take z.squares lasts) (take z.records records) (take z.began began) d.log) d.account d.heading.rules
      (take z.inflow inflow) text o)
      d a (evening x y (take z.records records) (take z.began began) a.log) old new →
      Leaves (told_on d R (order_told (plan_on d R) (evening_on d.heading R d.log) d.account d.heading.rules (inflow_on d.heading R) text o)) a
      (stores (rooms marks beds roughness rates (x ++ drop z.squares depths) rain inflow) (y ++ drop z.squares lasts) records began) old new
  held_line text o {a} {x} {y} {old} {new} lx ly lr lb w =
      leaves d R
      (subst
      (λ (q : Sizes).
      Answers
      (order_told (plan d.heading.shape (take q.squares marks))
      (evening (take q.squares depths) (take q.squares lasts) (take q.records records) (take q.began began) d.log) d.account d.heading.rules
      (take q.inflow inflow) text o)
      d a (evening x y (take z.records records) (take z.began began) a.log) old new)
      (sizes_same d.heading sz) w)
      (stores_as (placed_first x depths lx) (placed_first y lasts ly) (placed_same z.records records lr) (placed_same z.began began lb))

  -- the checks that pass for a step over the sheet, said of the parts that are lent
  pub held_passes :
      StepPassesOn d R →
      StepPasses (plan d.heading.shape (take z.squares marks))
      (given (ground d.heading.rules (take z.squares beds) (take z.squares roughness) (take z.squares rates)) (take z.rain rain) (take z.inflow inflow))
      (evening (take z.squares depths) (take z.squares lasts) (take z.records records) (take z.began began) d.log) d.account
  held_passes =
      subst
      (λ (q : Sizes).
      StepPasses (plan d.heading.shape (take q.squares marks))
      (given (ground d.heading.rules (take q.squares beds) (take q.squares roughness) (take q.squares rates)) (take q.rain rain) (take q.inflow inflow))
      (evening (take q.squares depths) (take q.squares lasts) (take q.records records) (take q.began began) d.log) d.account)
      (sym (sizes_same d.heading sz))

  -- the next step of a line `step`
  pub held-step :
      {a : Desk} {x y u v old new : List ℕ} → length x ≡ z.squares → length y ≡ z.squares → length u ≡ z.records → length v ≡ z.began →
      Answers
      (next_told (plan d.heading.shape (take z.squares marks))
      (given (ground d.heading.rules (take z.squares beds) (take z.squares roughness) (take z.squares rates)) (take z.rain rain) (take z.inflow inflow))
      (evening (take z.squares depths) (take z.squares lasts) (take z.records records) (take z.began began) d.log) d.account d.series)
      d a (evening x y u v a.log) old new →
      Leaves (told_on d R (next_told (plan_on d R) (given_held d.heading R) (evening_on d.heading R d.log) d.account d.series)) a
      (stores (rooms marks beds roughness rates (x ++ drop z.squares depths) rain inflow) (y ++ drop z.squares lasts) (u ++ drop z.records records) (v ++ drop z.began began)) old new
  held-step {a} {x} {y} {u} {v} {old} {new} lx ly lu lv w =
      leaves d R
      (subst
      (λ (q : Sizes).
      Answers
      (next_told (plan d.heading.shape (take q.squares marks))
      (given (ground d.heading.rules (take q.squares beds) (take q.squares roughness) (take q.squares rates)) (take q.rain rain) (take q.inflow inflow))
      (evening (take q.squares depths) (take q.squares lasts) (take q.records records) (take q.began began) d.log) d.account d.series)
      d a (evening x y u v a.log) old new)
      (sizes_same d.heading sz) w)
      (stores_as (placed_first x depths lx) (placed_first y lasts ly) (placed_first u records lu) (placed_first v began lv))
