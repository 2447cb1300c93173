-- Laws of what the desk's calls leave: a call that is refused, one over the sheet on the desk, and a sheet laid down.
-- Assumes nothing.
use mathlib.Core.Path.{◌≡◌, refl, sym, ap, ap₂, subst, ◌∙◌}
use mathlib.Core.Bool.{Bool, true, false}
use mathlib.Core.List.{List, []}
use Prim.Native.Nat.{ℕ}
use native.Mathlib.Omega.{arith}
use lib.Dec.{eqb, leb}
use lib.ListN.{length}
use borrow.Author.Tests.{eq-eqb, ne_eqb}
use Rattle.reckon.specs.Tests.{pick}
use Rattle.reckon.proofs.TestLaws.{pick_true, pick_false}
use Rattle.grid.specs.Squares.{ShapeInRange}
use Rattle.sheet.specs.Sheet.{Rooms, rooms_after, sheet_of, line_one, shape_of, heading_of}
use Rattle.sheet.proofs.SheetLaws.{Well, well, rooms-shape}
use Rattle.sheet.specs.declared.reading.Heading.{Heading}
use Rattle.sheet.specs.declared.reading.Sheet.{Sheet}
use Rattle.sheet.specs.declared.reading.Sheet.TheVariants.{Read, Refused}
use Rattle.programs.specs.Reading.{sheet_within, ReadsWithin}
use Rattle.text.proofs.ReadingLaws.{by_test}
use Rattle.text.proofs.WritingLaws.{placed_none}
use Rattle.evenings.specs.Program.{Stores, stores, given_held}
use Rattle.desks.specs.State.{desk_text, no_series, desk_with, fresh_desk}
use Rattle.desks.specs.Lines.{ending_text, order_told, next_told, Puts}
use Rattle.desks.specs.Command.{Left, Leaves, plan_on, evening_on, inflow_on, ready_number, start_on, first_text, untouched, sheet_left, other_left, command_left, step_left, told_on, is_sheet, wanted_by}
use Rattle.desks.specs.Inner.Lent.{DeskTold}
use Rattle.desks.specs.Inner.Rooms.{SheetLaid}
use Rattle.desks.specs.declared.orders.Order.{Order}
use Rattle.desks.specs.declared.state.Desk.{Desk}

-- what a call leaves, said otherwise
as_left : {l m : Left} {a : Desk} {after : Stores} {old new : List ℕ} → l ≡ m → Leaves m a after old new → Leaves l a after old new
as_left {a = a} {after} {old} {new} e w = subst (λ (x : Left). Leaves x a after old new) (sym e) w

untouched-left : (d : Desk) (r : Stores) (t : List ℕ) {a : Desk} {old new : List ℕ} → DeskTold d d.log d.account no_series t old new a → Leaves (untouched d r t) a r old new
untouched-left d r t w = record { desk_is = w.desk_is; rooms_are = refl; puts = w.puts }

-- ---- a line other than `sheet`

module _ (d : Desk) (r : Stores) (text : List ℕ) (o : Order) {n : ℕ} (h : n ≡ ready_number d) {a : Desk} {old new : List ℕ} where
  pub other_refused : (n ≡ 0 → ⊥) → DeskTold d d.log d.account no_series (ending_text n 0) old new a → Leaves (other_left d r text o) a r old new
  unfolding other_left
  other_refused z w =
      as_left
      (pick_false _ _ (ne_eqb _ _ (λ y. z (h ∙ y))) ∙ ap (λ (k : ℕ). untouched d r (ending_text k 0)) (sym h))
      (untouched-left d r (ending_text n 0) w)

  pub other_told : {after : Stores} → n ≡ 0 →
      Leaves (told_on d r (order_told (plan_on d r) (evening_on d.heading r d.log) d.account d.heading.rules (inflow_on d.heading r) text o)) a after old new →
      Leaves (other_left d r text o) a after old new
  unfolding other_left
  other_told z w = as_left (pick_true _ _ (eq-eqb _ _ (sym h ∙ z))) w

-- ---- the next step of a line `step`

nothing_put : (room : List ℕ) → Puts [] room room
nothing_put room = record { wrote = record { next = refl; room = sym (placed_none room 0) }; fits = omega arith }

module _ (d : Desk) (r : Stores) where
  pub step_none : (d.series.on ≡ false) → {a : Desk} {room : List ℕ} → a ≡ desk_with d d.log d.account no_series 0 → Leaves (step_left d r) a r room room
  unfolding step_left
  step_none e {room = room} h = as_left (pick_false _ _ e) (record { desk_is = h; rooms_are = refl; puts = nothing_put room })

  module _ (on : d.series.on ≡ true) {n : ℕ} (h : n ≡ ready_number d) {a : Desk} {old new : List ℕ} where
    pub step-refused : (n ≡ 0 → ⊥) → DeskTold d d.log d.account no_series (ending_text n 0) old new a → Leaves (step_left d r) a r old new
    unfolding step_left
    step-refused z w =
        as_left
        (pick_true _ _ on ∙ (pick_false _ _ (ne_eqb _ _ (λ y. z (h ∙ y))) ∙ ap (λ (k : ℕ). untouched d r (ending_text k 0)) (sym h)))
        (untouched-left d r (ending_text n 0) w)

    pub step-told : {after : Stores} → n ≡ 0 →
        Leaves (told_on d r (next_told (plan_on d r) (given_held d.heading r) (evening_on d.heading r d.log) d.account d.series)) a after old new →
        Leaves (step_left d r) a after old new
    unfolding step_left
    step-told z w = as_left (pick_true _ _ on ∙ pick_true _ _ (eq-eqb _ _ (sym h ∙ z))) w

-- ---- `sheet`

module _ (d : Desk) (r : Stores) (text : List ℕ) (bytes : ℕ) where
  abbrev sheet_taken : Left
  sheet_taken = pick (eqb (length text) bytes) (sheet_left text (sheet_within desk_text text r.sheet) d r) (untouched d r (ending_text 12 0))

  pub sheet_short : (length text ≡ bytes → ⊥) → {a : Desk} {old new : List ℕ} → DeskTold d d.log d.account no_series (ending_text 12 0) old new a →
      Leaves sheet_taken a r old new
  sheet_short z w = as_left (pick_false _ _ (ne_eqb _ _ z)) (untouched-left d r (ending_text 12 0) w)

  module _ (e : length text ≡ bytes) {s : Sheet} {held : Rooms} (w : ReadsWithin desk_text text r.sheet s held) where
    taken_is : sheet_taken ≡ sheet_left text s d r
    taken_is = pick_true _ _ (eq-eqb _ _ e) ∙ ap (λ (x : Sheet). sheet_left text x d r) (sym w.answer)

    pub sheet_refused : {a : Desk} {old new : List ℕ} {number line : ℕ} → s ≡ Refused number line → DeskTold d d.log d.account no_series (ending_text number line) old new a →
        Leaves sheet_taken a (stores held r.lasts r.records r.began) old new
    unfolding sheet_left rooms_after
    sheet_refused {number = number} {line} x t =
        as_left (taken_is ∙ ap (λ (y : Sheet). sheet_left text y d r) x)
        (record {
          desk_is = t.desk_is;
          rooms_are = ap (λ (y : Rooms). stores y r.lasts r.records r.began) (w.rooms_are ∙ ap (λ (y : Sheet). rooms_after text y r.sheet) x);
          puts = t.puts;
        })

    pub sheet_read : {a : Desk} {old new : List ℕ} {h : Heading} → s ≡ Read h → {lasts : List ℕ} → SheetLaid h held.cells.marks held.cells.depths r.lasts lasts old new a →
        Leaves sheet_taken a (stores held lasts r.records r.began) old new
    unfolding sheet_left
    sheet_read {a} {old} {new} {h} x {lasts} t =
        as_left (taken_is ∙ ap (λ (y : Sheet). sheet_left text y d r) x)
        (record {
          desk_is = t.desk_is ∙ ap (λ (y : Rooms). fresh_desk h (start_on h y.cells.marks y.cells.depths) (length (first_text h y.cells.marks y.cells.depths))) held_is;
          rooms_are = ap₂ (λ (y : Rooms) (l : List ℕ). stores y l r.records r.began) held_is t.lasts_are;
          puts = subst (λ (y : Rooms). Puts (first_text h y.cells.marks y.cells.depths) old new) held_is t.puts;
        })
      where
        held_is : held ≡ rooms_after text (Read h) r.sheet
        held_is = w.rooms_are ∙ ap (λ (y : Sheet). rooms_after text y r.sheet) x

-- the shape of a sheet that was read
pub read_shape : {most : ℕ} {text : List ℕ} {before held : Rooms} {s : Sheet} {h : Heading} → ReadsWithin most text before s held → s ≡ Read h → ShapeInRange h.shape
unfolding sheet_within heading_of
read_shape {most} {text} {before} {held} {s} {h} w x =
    subst ShapeInRange (sym (ap (λ (z : Heading). z.shape) is_well.heading)) (rooms-shape (shape_of text) (line_one text).side before is_well.fine)
  where
    read : Read h ≡ sheet_of text before
    read = sym x ∙ (w.answer ∙ by_test (leb (length text) most) (λ e. pick_true _ _ e) (λ e. never (sym x ∙ (w.answer ∙ pick_false _ _ e))))
      where
        never : {A : Type 0} {n l : ℕ} → Read h ≡ Refused n l → A
        never e = absurd (let z : ◌≡◌ {A = ℕ} 0 1 = cc in omega arith)

    is_well : Well text before h
    is_well = well text before h read

-- ---- any line

module _ (d : Desk) (r : Stores) (text : List ℕ) (o : Order) {b : Bool} (h : b ≡ is_sheet o) {a : Desk} {after : Stores} {old new : List ℕ} where
  pub command_sheet : b ≡ true → {bytes : ℕ} → bytes ≡ wanted_by o → Leaves (sheet_taken d r text bytes) a after old new → Leaves (command_left d r text o) a after old new
  unfolding command_left
  command_sheet z {bytes} e w = as_left (pick_true _ _ (sym h ∙ z) ∙ ap (sheet_taken d r text) (sym e)) w

  pub command_other : b ≡ false → {asked : Order} → asked ≡ o → Leaves (other_left d r text asked) a after old new → Leaves (command_left d r text o) a after old new
  unfolding command_left
  command_other z e w = as_left (pick_false _ _ (sym h ∙ z) ∙ ap (other_left d r text) (sym e)) w
