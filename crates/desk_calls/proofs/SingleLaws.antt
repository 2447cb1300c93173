-- What each call of the desk promises gives what its caller has.
-- Assumes nothing.
use mathlib.Core.Path.{◌≡◌, refl, sym, ap, subst, ◌∙◌}
use mathlib.Core.List.{List, []}
use Prim.Native.Nat.{ℕ}
use lib.Dec.{eqb}
use lib.ListN.{length, take, drop}
use lib.Seq.{take_at}
use Rattle.reckon.specs.Lists.{placed}
use Rattle.reckon.proofs.TestLaws.{pick_both}
use Rattle.sheet.specs.declared.reading.Sheet as reading
use Rattle.sheet.specs.declared.reading.Sheet.TheVariants.{Read, Refused}
use Rattle.programs.specs.Reading.{sheet_within}
use Rattle.evenings.specs.Program.{Stores, given_held}
use Rattle.desks.specs.Orders.{order}
use Rattle.desks.specs.State.{desk_text}
use Rattle.desks.specs.Lines.{Told, ending_text, order_told, next_told}
use Rattle.desks.specs.Command.{Left, Leaves, plan_on, evening_on, inflow_on, told_on, untouched, ready_number, is_sheet, wanted_by, sheet_left, other_left, command_left, step_left}
use Rattle.desks.specs.declared.orders.Order.{Order}
use Rattle.desks.specs.declared.orders.Order.TheVariants.{Show}
use Rattle.desks.specs.declared.state.Desk.{Desk}
use Rattle.demands.proofs.LineDeeds.{desk_lines}
use Rattle.desk_calls.specs.Single.{left_with, AfterCommand, AfterNext}

-- ---- the desk tells how long its answer is

record Long (l : Left) : Type 0 where
  told : l.desk.length ≡ length l.text

told_long : (d : Desk) (r : Stores) (t : Told) → Long (told_on d r t)
told_long d r t = record { told = refl }

untouched_long : (d : Desk) (r : Stores) (text : List ℕ) → Long (untouched d r text)
untouched_long d r text = record { told = refl }

sheet_long : (text : List ℕ) (s : reading.Sheet) (d : Desk) (r : Stores) → Long (sheet_left text s d r)
unfolding sheet_left
sheet_long text (Read h) d r = record { told = refl }
sheet_long text (Refused number line) d r = untouched_long d r (ending_text number line)

command_long : (d : Desk) (r : Stores) (text : List ℕ) (o : Order) → Long (command_left d r text o)
unfolding command_left other_left
command_long d r text o =
    pick_both Long (is_sheet o)
    (pick_both Long (eqb (length text) (wanted_by o)) (sheet_long text (sheet_within desk_text text r.sheet) d r) (untouched_long d r (ending_text 12 0)))
    (pick_both Long (eqb (ready_number d) 0)
    (told_long d r (order_told (plan_on d r) (evening_on d.heading r d.log) d.account d.heading.rules (inflow_on d.heading r) text o))
    (untouched_long d r (ending_text (ready_number d) 0)))

pub command_told : (d : Desk) (r : Stores) (text : List ℕ) (o : Order) → (command_left d r text o).desk.length ≡ length (command_left d r text o).text
command_told d r text o = (command_long d r text o).told

step_long : (d : Desk) (r : Stores) → Long (step_left d r)
unfolding step_left
step_long d r =
    pick_both Long d.series.on
    (pick_both Long (eqb (ready_number d) 0)
    (told_long d r (next_told (plan_on d r) (given_held d.heading r) (evening_on d.heading r d.log) d.account d.series))
    (untouched_long d r (ending_text (ready_number d) 0)))
    (untouched_long d r [])

-- ---- what is left is what the contract says

first_of : (old text : List ℕ) → take (length text) (placed old 0 text) ≡ text
unfolding placed
first_of old text = take_at text (drop (length text) (drop 0 old)) (length text) refl

left_is : {l : Left} {a : Desk} {after : Stores} {old new : List ℕ} → Long l → Leaves l a after old new → left_with a after new ≡ l
left_is {l} {a} {after} {old} {new} long w =
    join w.desk_is w.rooms_are
    (ap (λ (n : ℕ). take n new) (ap (λ (x : Desk). x.length) w.desk_is ∙ long.told) ∙ (ap (take (length l.text)) w.puts.wrote.room ∙ first_of old l.text))
  where
    join : {d d' : Desk} {r r' : Stores} {t t' : List ℕ} → d ≡ d' → r ≡ r' → t ≡ t' →
        ◌≡◌ {A = Left} (record { desk = d; rooms = r; text = t }) (record { desk = d'; rooms = r'; text = t' })
    join p q s = cc

pub command-left : (d : Desk) (r : Stores) (text : List ℕ) (o : Order) {a : Desk} {after : Stores} {old new : List ℕ} →
    Leaves (command_left d r text o) a after old new → left_with a after new ≡ command_left d r text o
command-left d r text o w = left_is (command_long d r text o) w

pub step_left_lem : (d : Desk) (r : Stores) {a : Desk} {after : Stores} {old new : List ℕ} → Leaves (step_left d r) a after old new → left_with a after new ≡ step_left d r
step_left_lem d r w = left_is (step_long d r) w

pub after_command : (d : Desk) (r : Stores) (line text : List ℕ) {a : Desk} {after : Stores} {old new : List ℕ} →
    Leaves (command_left d r text (order line)) a after old new → AfterCommand d r line text (left_with a after new)
after_command d r line text w =
    subst (AfterCommand d r line text) (sym (command-left d r text (order line) w))
    (record {
      is_call = refl;
      looking = λ on l none. desk_lines.looking d r on text (order line) l none;
      does = λ on l. desk_lines.each_line d r on text (order line) l;
      ends = λ on l. desk_lines.line_ends d r on text (order line) l;
      not_ready = λ z q. (desk_lines.not_ready d r z text (order line) q).0;
    })

pub after_next : (d : Desk) (r : Stores) {a : Desk} {after : Stores} {old new : List ℕ} → Leaves (step_left d r) a after old new → AfterNext d r (left_with a after new)
unfolding is_sheet
after_next d r w =
    subst (AfterNext d r) (sym (step_left_lem d r w))
    (record { is_call = refl; does = λ on nine. desk_lines.each_step d r on nine; not_ready = λ z. (desk_lines.not_ready d r z [] Show refl).1 })
