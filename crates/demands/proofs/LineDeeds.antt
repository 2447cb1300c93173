-- What each call of the desk leaves in its rooms, as deeds.
-- Assumes nothing.
use mathlib.Core.Path.{◌≡◌, refl, sym, ap, ap₂, subst, ◌∙◌}
use mathlib.Core.Bool.{Bool, true, false, ◌&&◌}
use mathlib.Core.List.{List, [], ◌∷◌, ◌++◌}
use Prim.Native.Nat.{ℕ, zero, suc, ◌/◌, ◌≤◌, ◌<◌}
use native.Mathlib.Nat.{mul-div_cancel}
use native.Mathlib.Omega.{arith}
use lib.Dec.{eqb, leb}
use lib.ListN.{length, take, drop, take-append-drop}
use lib.Seq.{length-take-le, take_at}
use borrow.Author.Tests.{eq-eqb, ne_eqb}
use Rattle.reckon.specs.Tests.{pick, every, refusal}
use Rattle.reckon.specs.Lists.{placed}
use Rattle.reckon.proofs.TestLaws.{pick_true, pick_false, pick_both, not_both, every_fails, and_true}
use Rattle.text.proofs.ReadingLaws.{by_test}
use Rattle.reckon.proofs.ListLaws.{length-filled, length-placed}
use Rattle.trials.specs.Ring.{slots_in, slot_after}
use Rattle.trials.proofs.RingLaws.{after_below}
use Rattle.trials.proofs.RoomLaws.{length_stored}
use Rattle.grid.specs.Squares.{squares, ShapeInRange}
use Rattle.ledger.specs.Runs.{Plan, plan, World, seen_of}
use Rattle.ledger.specs.Record.{record_size, room_slots}
use Rattle.ledger.specs.After.{world_after, step_record}
use Rattle.ledger.specs.TakeBack.{taken_back, world_before, back_number}
use Rattle.ledger.proofs.ReadBack.{step_long}
use Rattle.checks.specs.Given.{Given}
use Rattle.moves.specs.Moves.{step_moves}
use Rattle.flood.specs.Step.{step_number, stepped}
use Rattle.flood.specs.Run.{Ended, go_on}
use Rattle.hatches.specs.Log.{Evening, evening, most_hatches, rates_kept}
use Rattle.hatches.specs.declared.log.Log.{Log}
use Rattle.evenings.specs.Program.{Stores, stores}
use Rattle.evenings.specs.Taking.{world_of, back_from, after_back}
use Rattle.sight.specs.Arrows.{view, arrow_number}
use Rattle.sheet.specs.Sheet.{rooms}
use Rattle.sheet.specs.declared.reading.Heading.{Heading}
use Rattle.trying.specs.Lines.{Came, came, step_came, back_came, try_refusals, step_given, back_refusals}
use Rattle.trying.specs.declared.given.Account.{Account}
use Rattle.stands.specs.Laying.{stand_of}
use Rattle.programs.specs.Reading.{sheet_within}
use Rattle.sheet.specs.declared.reading.Sheet as reading
use Rattle.sheet.specs.declared.reading.Sheet.TheVariants.{Refused}
use Rattle.desks.specs.State.{desk_text, no_series, desk_squares, desk_numbers, desk_rates, kept_slots, records_on, rates_on}
use Rattle.desks.specs.Lines.{Told, told, order_told, next_told, last_told, made_told, entry_told, back_told, step_told, arrows_told, most_told, stand_told, step_refusals, lay_told, refused_at, state_text, steps_left, ending_text}
use Rattle.desks.specs.Command.{Left, stores_with, evening_on, inflow_on, plan_on, ready_number, is_sheet, wanted_by, sheet_left, told_on, untouched, other_left, command_left, step_left}
use Rattle.desks.specs.declared.orders.Order.{Order}
use Rattle.desks.specs.declared.orders.Order.TheVariants.{Sheet, Entered, Draw, Step, Show, Arrows, Most, Stand, Lay, NoOrder}
use Rattle.desks.specs.declared.state.Desk.{Desk}
use Rattle.desks.specs.declared.state.Series.{Series}
use Rattle.hatches.specs.declared.lines.Entry.TheVariants.{Hatch, Rate, Back}
use Rattle.demands.specs.Desk as deeds
use Rattle.demands.specs.Desk.{Deed, naming, drawing, one_step, going_back, deed_came, desk_with, desk_after}
use Rattle.desks.proofs.RoomLaws.{ready_fine}
use Rattle.demands.specs.DeskLines.{lays_down, deed_of, step_deed, OnDesk, state_on, ground_on, Stays, Does, Ends, EndsAs, DeskLines}
use Rattle.desks.proofs.StateLaws.{fine_is, slots_fit, slots_most, slots_some}

-- ---- rooms and the parts of them that belong to the sheet

first_part : (n : ℕ) (old part : List ℕ) → length part ≡ n → take n (placed old 0 part) ≡ part
unfolding placed
first_part n old part e = take_at part (drop (length part) (drop 0 old)) n e

same_part : (n : ℕ) (old : List ℕ) → n ≤ length old → placed old 0 (take n old) ≡ old
unfolding placed
same_part n old h = ap (λ (k : ℕ). take n old ++ drop k old) (length-take-le n old h) ∙ take-append-drop n old

-- a state of which each part is as long as the sheet's part of its room
pub record Sized (h : Heading) (e : Evening) : Type 0 where
  pub depths : length e.depths ≡ squares h.shape
  pub lasts : length e.lasts ≡ squares h.shape
  pub records : length e.records ≡ records_on h.shape
  pub began : length e.began ≡ rates_on h.shape

evening_as : {d d' l l' c c' b b' : List ℕ} {log log' : Log} → d ≡ d' → l ≡ l' → c ≡ c' → b ≡ b' → log ≡ log' → evening d l c b log ≡ evening d' l' c' b' log'
evening_as p q r s t = cc

pub put_taken : (h : Heading) (r : Stores) (e : Evening) → Sized h e → evening_on h (stores_with r e) e.log ≡ e
put_taken h r e z =
    evening_as (first_part _ r.sheet.cells.depths e.depths z.depths) (first_part _ r.lasts e.lasts z.lasts)
    (first_part _ r.records e.records z.records) (first_part _ r.began e.began z.began) refl

abbrev rooms_of : Stores → List ℕ → List ℕ → List ℕ → List ℕ → Stores
rooms_of r depths lasts records began =
    stores
    (rooms r.sheet.cells.marks r.sheet.cells.beds r.sheet.cells.roughness r.sheet.cells.rates depths r.sheet.rain r.sheet.inflow)
    lasts records began

pub taken_put : (h : Heading) (r : Stores) (log : Log) → squares h.shape ≤ length r.sheet.cells.depths → squares h.shape ≤ length r.lasts →
    records_on h.shape ≤ length r.records → rates_on h.shape ≤ length r.began → stores_with r (evening_on h r log) ≡ r
taken_put h r log a b c d =
    stores_as r (same_part _ r.sheet.cells.depths a) (same_part _ r.lasts b) (same_part _ r.records c) (same_part _ r.began d)
  where
    stores_as : (r : Stores) {x x' y y' u u' v v' : List ℕ} → x ≡ x' → y ≡ y' → u ≡ u' → v ≡ v' → rooms_of r x y u v ≡ rooms_of r x' y' u' v'
    stores_as r a b c d = cc

-- ---- deeds keep the length of each part

record SameLong (w v : World) : Type 0 where
  depths : length v.depths ≡ length w.depths
  lasts : length v.lasts ≡ length w.lasts
  records : length v.records ≡ length w.records

itself_long : (w : World) → SameLong w w
itself_long w = record { depths = refl; lasts = refl; records = refl }

step_same : (p : Plan) (g : Given) (w : World) → 0 < room_slots p w.records → SameLong w (stepped p g w)
unfolding stepped world_after room_slots
step_same p g w some =
    pick_both (SameLong w) (eqb (step_number p g w) 0)
    (record {
      depths = length-filled _ _ _ w.depths;
      lasts = length-filled _ _ _ w.lasts;
      records =
          length_stored (record_size p) (omega arith) w.records (slot_after (slots_in (record_size p) (length w.records)) w.run.newest)
          (step_record p (step_moves p g (seen_of w)) w) (step_long p (step_moves p g (seen_of w)) w)
          (after_below (slots_in (record_size p) (length w.records)) w.run.newest some);
    })
    (itself_long w)

back_same : (p : Plan) (w : World) → SameLong w (taken_back p w)
unfolding taken_back world_before
back_same p w =
    pick_both (SameLong w) (eqb (back_number p w) 0)
    (record { depths = length-filled _ _ _ w.depths; lasts = length-filled _ _ _ w.lasts; records = refl }) (itself_long w)

backs_same : (p : Plan) (n made : ℕ) (w : World) → SameLong w (back_from p n made w).world
unfolding back_from go_on
backs_same p zero made w = itself_long w
backs_same p (suc n) made w = go (back_number p w) (back_from p n (suc made) (taken_back p w)) (then (back_same p w) (backs_same p n (suc made) (taken_back p w)))
  where
    then : {v u : World} → SameLong w v → SameLong v u → SameLong w u
    then a b = record { depths = b.depths ∙ a.depths; lasts = b.lasts ∙ a.lasts; records = b.records ∙ a.records }

    go : (m : ℕ) (rest : Ended) → SameLong w rest.world → SameLong w (go_on m made w rest).world
    go zero rest s = s
    go (suc m) rest s = itself_long w

-- a step keeps the rates that it was made at
abbrev pub Nine : Deed → Evening → Type 0
Nine one_step e = length e.log.litres ≡ most_hatches
Nine (naming n row column) e = Unit {0}
Nine (drawing n litres) e = Unit {0}
Nine (going_back count) e = Unit {0}

module _ (h : Heading) (fine : ShapeInRange h.shape) (marks : List ℕ) (g : Given) where
  abbrev p : Plan
  p = plan h.shape marks

  abbrev K : ℕ
  K = kept_slots h.shape

  pub slots_are : (e : Evening) → Sized h e → room_slots p e.records ≡ K
  unfolding room_slots
  slots_are e z = ap (λ (k : ℕ). k / record_size p) z.records ∙ mul-div_cancel K (omega arith)

  pub rates_are : (e : Evening) → Sized h e → slots_in most_hatches (length e.began) ≡ K
  rates_are e z = ap (λ (k : ℕ). k / most_hatches) z.began ∙ mul-div_cancel K (omega arith)

  sized-world : {e : Evening} {v : World} {began : List ℕ} {log : Log} → Sized h e → SameLong (world_of e) v → length began ≡ length e.began →
      Sized h (evening v.depths v.lasts v.records began log)
  sized-world z s b = record { depths = s.depths ∙ z.depths; lasts = s.lasts ∙ z.lasts; records = s.records ∙ z.records; began = b ∙ z.began }

  sized_log : {e : Evening} {log : Log} → Sized h e → Sized h (evening e.depths e.lasts e.records e.began log)
  sized_log z = record { depths = z.depths; lasts = z.lasts; records = z.records; began = z.began }

  pub sized-came : (d : Deed) (e : Evening) (a : Account) → Nine d e → Sized h e → Sized h (deed_came p g d e a).evening
  unfolding deed_came step_came back_came after_back rates_kept
  sized-came (naming n row column) e a nine z = sized_log z
  sized-came (drawing n litres) e a nine z = sized_log z
  sized-came one_step e a nine z =
      pick_both (λ (c : Came). Sized h c.evening) (eqb (refusal (try_refusals g.inflow e.log a)) 0)
      (pick_both (λ (c : Came). Sized h c.evening) (eqb (step_number p (step_given p g e a) (world_of e)) 0)
      (sized-world z (step_same p (step_given p g e a) (world_of e) (omega (arith, slots_are e z, slots_some h.shape fine)))
      (length_stored most_hatches (omega arith) e.began (slot_after (room_slots p e.records) e.log.run.newest) e.log.litres nine
      (omega (arith, rates_are e z, slots_are e z, after_below (room_slots p e.records) e.log.run.newest (omega (arith, slots_are e z, slots_some h.shape fine))))))
      z)
      z
  sized-came (going_back count) e a nine z =
      pick_both (λ (c : Came). Sized h c.evening) (eqb (refusal (back_refusals e.log count)) 0) (sized-world z (backs_same p count 0 (world_of e)) refl) z

pub never : {A : Type 0} → true ≡ false → A
never e = not_both refl e

-- ---- what is told of a line that looks, and of one that is a deed

module _ (p : Plan) (g : Given) (e : Evening) (a : Account) where
  -- the state and the account that a call tells
  pub record Tells (ds : List Deed) (t : Told) : Type 0 where
    pub evening_is : t.evening ≡ (desk_after p g ds (deeds.at_first e a)).at
    pub account_is : t.account ≡ (desk_after p g ds (deeds.at_first e a)).account

  still : (t : Told) → t.evening ≡ e → t.account ≡ a → Tells [] t
  unfolding desk_after
  still t q s = record { evening_is = q; account_is = s }

  done_by : (d : Deed) (t : Told) → t.evening ≡ (deed_came p g d e a).evening → t.account ≡ (deed_came p g d e a).account → Tells (d ∷ []) t
  unfolding desk_after desk_with
  done_by d t q s = record { evening_is = q; account_is = s }

  pub line_tells : (text : List ℕ) (o : Order) → lays_down o ≡ false → Tells (deed_of o) (order_told p e a g.lie.rules g.inflow text o)
  unfolding order_told entry_told back_told step_told arrows_told most_told stand_told deed_of deed_came lays_down
  line_tells text (Entered (Hatch n row column)) l = done_by (naming n row column) _ refl refl
  line_tells text (Entered (Back count)) l =
      pick_both (Tells (going_back count ∷ [])) (eqb (back_came p e a count).number 0) (done_by (going_back count) _ refl refl) (done_by (going_back count) _ refl refl)
  line_tells text (Entered (Rate clock n litres)) l = still _ refl refl
  line_tells text (Draw n litres) l = done_by (drawing n litres) _ refl refl
  line_tells text (Step count end every') l =
      pick_both (Tells []) (eqb (refusal (step_refusals p e a count end every')) 0) (still _ refl refl) (still _ refl refl)
  line_tells text Show l = still _ refl refl
  line_tells text Arrows l =
      pick_both (Tells []) (eqb (arrow_number p g.lie.rules.square_side (view e.depths e.records e.log.run) 0 0) 0) (still _ refl refl)
      (still _ refl refl)
  line_tells text (Most end) l = still _ refl refl
  line_tells text Stand l = still _ refl refl
  line_tells text NoOrder l = still _ refl refl
  line_tells text (Sheet bytes) l = absurd (never l)
  line_tells text (Lay bytes) l = absurd (never l)

  last_tells : (ds : List Deed) (each : Bool) (c : Came) → Tells ds (told c.evening c.account no_series []) → Tells ds (last_told p each c)
  last_tells ds each c t =
      pick_both (Tells ds) each (record { evening_is = t.evening_is; account_is = t.account_is }) (record { evening_is = t.evening_is; account_is = t.account_is })

  pub step_tells : (s : Series) → Tells (pick (steps_left s e.log.run.clock) (one_step ∷ []) []) (next_told p g e a s)
  unfolding next_told deed_came pick
  step_tells s = go (steps_left s e.log.run.clock)
    where
      made : Came
      made = step_came p g e a

      go : (b : Bool) →
          Tells (pick b (one_step ∷ []) [])
          (pick b (pick (eqb made.number 0) (made_told p s made) (last_told p s.every made)) (last_told p s.every (came 0 e a)))
      go true =
          pick_both (Tells (one_step ∷ [])) (eqb made.number 0) (done_by one_step _ refl refl)
          (last_tells (one_step ∷ []) s.every made (done_by one_step _ refl refl))
      go false = last_tells [] s.every (came 0 e a) (still _ refl refl)

-- ---- what is noted beside them changes neither the state nor the account

state_after : (p : Plan) (g : Given) (ds : List Deed) (x y : deeds.Desk) → x.at ≡ y.at → x.account ≡ y.account →
    ((desk_after p g ds x).at ≡ (desk_after p g ds y).at) × ((desk_after p g ds x).account ≡ (desk_after p g ds y).account)
unfolding desk_after desk_with
state_after p g [] x y q s = (q, s)
state_after p g (d ∷ rest) x y q s =
    state_after p g rest (desk_with p g d x) (desk_with p g d y) (ap₂ (λ (e : Evening) (a : Account). (deed_came p g d e a).evening) q s)
    (ap₂ (λ (e : Evening) (a : Account). (deed_came p g d e a).account) q s)

-- ---- what a call leaves

pub not_sheet : (o : Order) → lays_down o ≡ false → is_sheet o ≡ false
unfolding lays_down is_sheet
not_sheet (Sheet bytes) l = l
not_sheet (Lay bytes) l = refl
not_sheet (Entered entry) l = refl
not_sheet (Draw n litres) l = refl
not_sheet (Step count end every') l = refl
not_sheet Show l = refl
not_sheet Arrows l = refl
not_sheet (Most end) l = refl
not_sheet Stand l = refl
not_sheet NoOrder l = refl

pub stands_still : (d : Desk) (r : Stores) → d.series.on ≡ false → step_left d r ≡ untouched d r []
unfolding step_left
stands_still d r q = pick_false _ _ q

every-second : {b : Bool} → b ≡ true → (c : Bool) → every (b ∷ c ∷ []) ≡ c
unfolding every
every-second q c = ap (λ (b : Bool). b && (c && true)) q ∙ and_true c

module _ (d : Desk) (r : Stores) (on : OnDesk d r) where
  abbrev P : Plan
  P = plan_on d r

  abbrev G : Given
  G = ground_on d r

  abbrev E : Evening
  E = state_on d r

  pub shape-fine : ShapeInRange d.heading.shape
  shape-fine = (fine_is d.heading (ready_fine d on.ready)).shape

  squares_fit : squares d.heading.shape ≤ desk_squares
  squares_fit = shape-fine.few

  records_fit : records_on d.heading.shape ≤ desk_numbers
  records_fit = slots_fit d.heading.shape

  began_fit : rates_on d.heading.shape ≤ desk_rates
  began_fit = omega (arith, slots_most d.heading.shape)

  pub state_sized : Sized d.heading E
  state_sized =
      record {
        depths = length-take-le _ r.sheet.cells.depths (omega (arith, on.whole.depths_long, squares_fit));
        lasts = length-take-le _ r.lasts (omega (arith, on.whole.lasts_long, squares_fit));
        records = length-take-le _ r.records (omega (arith, on.whole.records_long, records_fit));
        began = length-take-le _ r.began (omega (arith, on.whole.began_long, began_fit));
      }

  pub stays_put : stores_with r E ≡ r
  stays_put =
      taken_put d.heading r d.log (omega (arith, on.whole.depths_long, squares_fit)) (omega (arith, on.whole.lasts_long, squares_fit))
      (omega (arith, on.whole.records_long, records_fit)) (omega (arith, on.whole.began_long, began_fit))

  told_stays : (t : Told) → t.evening ≡ E → t.account ≡ d.account → Stays d r (told_on d r t)
  told_stays t q s =
      record {
        rooms_stay = ap (stores_with r) q ∙ stays_put;
        log_stays = ap (λ (x : Evening). x.log) q;
        account_stays = s;
        heading_stays = refl;
        ready_stays = refl;
      }

  pub told-on : (t : Told) → Sized d.heading t.evening → OnDesk (told_on d r t).desk (told_on d r t).rooms
  unfolding ready_number
  told-on t z =
      record {
        ready = on.ready;
        whole = record {
          depths_long = length-placed r.sheet.cells.depths 0 t.evening.depths (omega (arith, z.depths, on.whole.depths_long, squares_fit)) ∙ on.whole.depths_long;
          lasts_long = length-placed r.lasts 0 t.evening.lasts (omega (arith, z.lasts, on.whole.lasts_long, squares_fit)) ∙ on.whole.lasts_long;
          records_long = length-placed r.records 0 t.evening.records (omega (arith, z.records, on.whole.records_long, records_fit)) ∙ on.whole.records_long;
          began_long = length-placed r.began 0 t.evening.began (omega (arith, z.began, on.whole.began_long, began_fit)) ∙ on.whole.began_long;
        };
      }

  told_does : (ds : List Deed) (t : Told) → Tells P G E d.account ds t → Sized d.heading t.evening → Does ds d r (told_on d r t)
  told_does ds t s z =
      record {
        plan_same = refl;
        ground_same = refl;
        still_on = told-on t z;
        does = λ x h.
            record {
              at_is = (state_after P G ds x (deeds.at_first E d.account) h.at_is h.account_is).0 ∙ (sym s.evening_is ∙ sym (put_taken d.heading r t.evening z));
              account_is = (state_after P G ds x (deeds.at_first E d.account) h.at_is h.account_is).1 ∙ sym s.account_is;
            };
      }

  -- no deed, or one
  abbrev pub OneOf : List Deed → Type 0
  OneOf [] = Unit {0}
  OneOf (deed ∷ []) = Nine deed E
  OneOf (deed ∷ (x ∷ rest)) = ⊥

  pub sized_one : (ds : List Deed) → OneOf ds → Sized d.heading (desk_after P G ds (deeds.at_first E d.account)).at
  unfolding desk_after desk_with
  sized_one [] n = state_sized
  sized_one (deed ∷ []) n = sized-came d.heading shape-fine P.marks G deed E d.account n state_sized
  sized_one (deed ∷ (x ∷ rest)) n = absurd n

  one_of : (o : Order) → OneOf (deed_of o)
  unfolding deed_of
  one_of (Entered (Hatch n row column)) = tt
  one_of (Entered (Back count)) = tt
  one_of (Entered (Rate clock n litres)) = tt
  one_of (Draw n litres) = tt
  one_of (Sheet bytes) = tt
  one_of (Lay bytes) = tt
  one_of (Step count end every') = tt
  one_of Show = tt
  one_of Arrows = tt
  one_of (Most end) = tt
  one_of Stand = tt
  one_of NoOrder = tt

  tells_ends : (text : List ℕ) (o : Order) → lays_down o ≡ false → EndsAs d r (deed_of o) (order_told P E d.account d.heading.rules (inflow_on d.heading r) text o).text
  unfolding deed_of order_told entry_told back_told deed_came
  tells_ends text (Entered (Hatch n row column)) l = record { before = []; text_is = refl }
  tells_ends text (Entered (Back count)) l =
      pick_both (λ (t : Told). Ends (back_came P E d.account count).number t.text) (eqb (back_came P E d.account count).number 0)
      (record { before = state_text P (back_came P E d.account count).evening.log (back_came P E d.account count).account (back_came P E d.account count).evening.depths; text_is = refl })
      (record { before = []; text_is = refl })
  tells_ends text (Entered (Rate clock n litres)) l = tt
  tells_ends text (Draw n litres) l = record { before = []; text_is = refl }
  tells_ends text (Step count end every') l = tt
  tells_ends text Show l = tt
  tells_ends text Arrows l = tt
  tells_ends text (Most end) l = tt
  tells_ends text Stand l = tt
  tells_ends text NoOrder l = tt
  tells_ends text (Sheet bytes) l = tt
  tells_ends text (Lay bytes) l = tt

  -- ---- a line

  module _ (text : List ℕ) (o : Order) where
    abbrev T : Told
    T = order_told P E d.account d.heading.rules (inflow_on d.heading r) text o

    pub line_is : is_sheet o ≡ false → command_left d r text o ≡ told_on d r T
    unfolding command_left other_left
    line_is q = pick_false _ _ q ∙ pick_true _ _ (eq-eqb _ _ on.ready)

    pub each_line : lays_down o ≡ false → Does (deed_of o) d r (command_left d r text o)
    each_line l =
        subst (Does (deed_of o) d r) (sym (line_is (not_sheet o l)))
        (told_does (deed_of o) T tells (subst (Sized d.heading) (sym tells.evening_is) (sized_one (deed_of o) (one_of o))))
      where
        tells : Tells P G E d.account (deed_of o) T
        tells = line_tells P G E d.account text o l

    pub looking : lays_down o ≡ false → deed_of o ≡ [] → Stays d r (command_left d r text o)
    unfolding desk_after
    looking l none =
        let tells : Tells P G E d.account [] T = subst (λ (ds : List Deed). Tells P G E d.account ds T) none (line_tells P G E d.account text o l) in
        subst (Stays d r) (sym (line_is (not_sheet o l))) (told_stays T tells.evening_is tells.account_is)

    pub line_ends : lays_down o ≡ false → EndsAs d r (deed_of o) (command_left d r text o).text
    line_ends l = subst (λ (x : Left). EndsAs d r (deed_of o) x.text) (sym (line_is (not_sheet o l))) (tells_ends text o l)

  -- ---- the next step

  pub next_is : (d.series.on ≡ true) → step_left d r ≡ told_on d r (next_told P G E d.account d.series)
  unfolding step_left
  next_is q = pick_true _ _ q ∙ pick_true _ _ (eq-eqb _ _ on.ready)

  untouched_does : (t : List ℕ) → Does [] d r (untouched d r t)
  unfolding desk_after ready_number
  untouched_does t =
      record {
        plan_same = refl;
        ground_same = refl;
        still_on = record { ready = on.ready; whole = on.whole };
        does = λ x h. record { at_is = h.at_is; account_is = h.account_is };
      }

  pub each_step : length d.log.litres ≡ most_hatches → Does (step_deed d) d r (step_left d r)
  unfolding step_deed
  each_step nine = by_test d.series.on runs (λ q. subst (λ (ds : List Deed). Does ds d r (step_left d r)) (sym (pick_false _ _ (every_fails _ 0 q))) (none q))
    where
      none : d.series.on ≡ false → Does [] d r (step_left d r)
      none q = subst (Does [] d r) (sym (stands_still d r q)) (untouched_does [])

      ds : List Deed
      ds = pick (steps_left d.series d.log.run.clock) (one_step ∷ []) []

      tells : Tells P G E d.account ds (next_told P G E d.account d.series)
      tells = step_tells P G E d.account d.series

      runs : d.series.on ≡ true → Does (pick (every (d.series.on ∷ steps_left d.series d.log.run.clock ∷ [])) (one_step ∷ []) []) d r (step_left d r)
      runs q =
          subst (λ (b : Bool). Does (pick b (one_step ∷ []) []) d r (step_left d r)) (sym (every-second q (steps_left d.series d.log.run.clock)))
          (subst (Does ds d r) (sym (next_is q))
          (told_does ds (next_told P G E d.account d.series) tells
          (subst (Sized d.heading) (sym tells.evening_is) (sized_one ds (pick_both OneOf (steps_left d.series d.log.run.clock) nine tt)))))

  -- ---- a saved state

  module _ (text : List ℕ) (bytes : ℕ) where
    abbrev laid_number : ℕ
    laid_number = (stand_of P G.inflow (kept_slots d.heading.shape) text).number

    pub lay_is : command_left d r text (Lay bytes) ≡ told_on d r (lay_told P E d.account G.inflow bytes text)
    unfolding is_sheet order_told
    lay_is = line_is text (Lay bytes) refl

    lay_stays : (t : Told) → lay_told P E d.account G.inflow bytes text ≡ t → t.evening ≡ E → t.account ≡ d.account → Stays d r (command_left d r text (Lay bytes))
    lay_stays t q e a = subst (Stays d r) (sym (lay_is ∙ ap (told_on d r) q)) (told_stays t e a)

    pub lay_cut : (length text ≡ bytes → ⊥) → Stays d r (command_left d r text (Lay bytes))
    unfolding lay_told
    lay_cut z = lay_stays (refused_at P E d.account 12 0) (pick_false _ _ (every_fails _ 0 (ne_eqb _ _ z))) refl refl

    pub lay_refused : (laid_number ≡ 0 → ⊥) → Stays d r (command_left d r text (Lay bytes))
    unfolding lay_told
    lay_refused z =
        by_test (every (eqb (length text) bytes ∷ leb (length text) desk_text ∷ []))
        (λ q. lay_stays (refused_at P E d.account laid_number (stand_of P G.inflow (kept_slots d.heading.shape) text).line) (pick_true _ _ q ∙ pick_false _ _ (ne_eqb _ _ z)) refl refl)
        (λ q. lay_stays (refused_at P E d.account 12 0) (pick_false _ _ q) refl refl)

-- ---- calls that change nothing

module _ (d : Desk) (r : Stores) where
  untouched_stays : (t : List ℕ) → Stays d r (untouched d r t)
  untouched_stays t = record { rooms_stay = refl; log_stays = refl; account_stays = refl; heading_stays = refl; ready_stays = refl }

  unready_line : (ready_number d ≡ 0 → ⊥) → (text : List ℕ) (o : Order) → is_sheet o ≡ false → Stays d r (command_left d r text o)
  unfolding command_left other_left
  unready_line z text o q =
      subst (Stays d r) (sym (pick_false _ _ q ∙ pick_false _ _ (ne_eqb _ _ z))) (untouched_stays (ending_text (ready_number d) 0))

  unready_step : (ready_number d ≡ 0 → ⊥) → Stays d r (step_left d r)
  unfolding step_left
  unready_step z =
      pick_both (Stays d r) d.series.on (subst (Stays d r) (sym (pick_false _ _ (ne_eqb _ _ z))) (untouched_stays (ending_text (ready_number d) 0)))
      (untouched_stays [])

  module _ (text : List ℕ) (bytes : ℕ) where
    sheet_cut : (length text ≡ bytes → ⊥) → Stays d r (command_left d r text (Sheet bytes))
    unfolding command_left is_sheet wanted_by
    sheet_cut z = subst (Stays d r) (sym (pick_true _ _ refl ∙ pick_false _ _ (ne_eqb _ _ z))) (untouched_stays (ending_text 12 0))

    sheet_refused : (number line : ℕ) → sheet_within desk_text text r.sheet ≡ Refused number line → Stays d r (command_left d r text (Sheet bytes))
    unfolding command_left is_sheet wanted_by sheet_left
    sheet_refused number line q =
        subst (Stays d r) (sym (pick_true _ _ refl))
        (pick_both (Stays d r) (eqb (length text) bytes)
        (subst (λ (s : reading.Sheet). Stays d r (sheet_left text s d r)) (sym q) (untouched_stays (ending_text number line)))
        (untouched_stays (ending_text 12 0)))

pub desk_lines : DeskLines
desk_lines =
    record {
      looking = λ d r on text o l none. looking d r on text o l none;
      each_line = λ d r on text o l. each_line d r on text o l;
      line_ends = λ d r on text o l. line_ends d r on text o l;
      each_step = λ d r on nine. each_step d r on nine;
      not_ready = λ d r z text o q. (unready_line d r z text o q, unready_step d r z);
      sheet_cut = λ d r text bytes z. sheet_cut d r text bytes z;
      sheet_refused = λ d r text bytes number line q. sheet_refused d r text bytes number line q;
      lay_cut = λ d r on text bytes z. lay_cut d r on text bytes z;
      lay_refused = λ d r on text bytes z. lay_refused d r on text bytes z;
    }
