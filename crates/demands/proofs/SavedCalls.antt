-- Two desks of calls: each call touches its own desk and rooms. And a text that `stand` printed is laid: what stands can be saved, so its text
-- reads back, into rooms that then hold the same.
-- Assumes nothing.
use mathlib.Core.Path.{◌≡◌, refl, sym, ap, ap₂, subst, ◌∙◌}
use mathlib.Core.Bool.{Bool, true, false}
use mathlib.Core.List.{List, [], ◌∷◌, ◌++◌}
use Prim.Native.Nat.{ℕ, ◌≤◌, ◌<◌}
use native.Mathlib.Omega.{arith}
use lib.ListN.{length, get_or}
use lib.Seq.{ext_get_or, length-take-le}
use borrow.Author.Tests.{eq-eqb, le-leb}
use Rattle.reckon.proofs.TestLaws.{pick_true, each_every}
use Rattle.reckon.proofs.ListLaws.{length-filled}
use Rattle.grid.specs.Squares.{squares}
use Rattle.grid.specs.Marks.{closed}
use Rattle.ledger.specs.Runs.{Plan, Seen, seen_of}
use Rattle.ledger.specs.Account.{water, held}
use Rattle.ledger.specs.Record.{room_slots}
use Rattle.ledger.specs.Checks.{WaterLent}
use Rattle.checks.specs.Given.{Given}
use Rattle.hatches.specs.Log.{Evening}
use Rattle.evenings.specs.Program.{Stores}
use Rattle.evenings.specs.Taking.{world_of}
use Rattle.programs.specs.Reading.{sheet_within}
use Rattle.sheet.specs.Sheet.{heading_of}
use Rattle.sheet.specs.declared.reading.Heading.{Heading}
use Rattle.sheet.specs.declared.reading.Sheet as reading
use Rattle.sheet.specs.declared.reading.Sheet.TheVariants.{Read}
use Rattle.stands.specs.Texts.{stand_text}
use Rattle.stands.specs.Laying.{stand_of, saved_from, Water, water_after, water_from}
use Rattle.stands.specs.Inner.Back.{none_kept, ReadsBack}
use Rattle.stands.specs.declared.saved.Laid.{Laid}
use Rattle.stands.proofs.StandBack.{all_read_back}
use Rattle.stands.proofs.LaidLaws.{laid_savable}
use Rattle.trying.specs.Given.{account_opened}
use Rattle.trying.specs.Lines.{came}
use Rattle.trying.specs.declared.given.Account.{Account}
use Rattle.frames.specs.Frame.{frame_text}
use Rattle.desks.specs.State.{desk_text, desk_squares, kept_slots}
use Rattle.desks.specs.Lines.{Told, shown, saved_of, done_text, ending_text, state_text, order_told, stand_told, lay_told, laid_evening}
use Rattle.desks.specs.Command.{Left, plan_on, is_sheet, wanted_by, sheet_left, command_left, told_on}
use Rattle.desks.specs.declared.orders.Order.TheVariants.{Sheet, Stand, Lay}
use Rattle.desks.specs.declared.state.Desk.{Desk}
use Rattle.demands.specs.Desk as deeds
use Rattle.demands.specs.Desk.{Begins, ShownAlike}
use Rattle.demands.specs.DeskLines.{RoomsWhole, OnDesk, state_on, ground_on}
use Rattle.demands.specs.DeskCalls.{Call, called, after_calls, AllTry, deeds_in, BeginsOn, BalancedOn, frame_on, starts_as, comes_to, CallsCome}
use Rattle.demands.specs.DeskSavedCalls.{CallTurn, call_one, call_other, calls_of_one, calls_of_other, calls_in_turn, TwoDesksCalled, keeping, frame_keeping, SameSheet, saved_text, laid_on, LaidAgain, ReadAgain, StandReadBack}
use Rattle.demands.proofs.DeskSaved.{desk_saved}
use Rattle.demands.proofs.LineDeeds.{Sized, put_taken, slots_are, shape-fine, state_sized, line_is, lay_is}
use Rattle.demands.proofs.CallDeeds.{desk_calls, is_well}
use Rattle.demands.proofs.SavedDeeds.{SavableAt, still_savable}
use Rattle.demands.proofs.SavedSheet.{read_on, read_begins, read_savable}
use Rattle.demands.proofs.SavedShort.{stand_short}

-- ---- two desks

apart : (turns : List CallTurn) (d : Desk) (r : Stores) (d' : Desk) (r' : Stores) →
    calls_in_turn turns d r d' r' ≡ record { one = after_calls (calls_of_one turns) d r; other = after_calls (calls_of_other turns) d' r' }
unfolding calls_in_turn calls_of_one calls_of_other after_calls
apart [] d r d' r' = refl
apart (call_one c ∷ rest) d r d' r' = apart rest (called c d r).desk (called c d r).rooms d' r'
apart (call_other c ∷ rest) d r d' r' = apart rest d r (called c d' r').desk (called c d' r').rooms

pub two_desks_called : TwoDesksCalled
two_desks_called = record { apart = apart }

-- ---- a text laid on a desk

module _ (d : Desk) (r : Stores) (on : OnDesk d r) where
  abbrev P : Plan
  P = plan_on d r

  abbrev G : Given
  G = ground_on d r

  abbrev E : Evening
  E = state_on d r

  abbrev K : ℕ
  K = kept_slots d.heading.shape

  abbrev old : Water
  old = record { depths = E.depths; lasts = E.lasts }

  module _ (text : List ℕ) where
    abbrev laid : Laid
    laid = stand_of P G.inflow K text

    abbrev lay_tells : Told
    lay_tells = shown P (came 0 (laid_evening P E d.account text laid.saved.log) (account_opened laid.saved.start laid.saved.given))

    lay_sized : Sized d.heading lay_tells.evening
    unfolding water_after water_from
    lay_sized =
        let z = state_sized d r on in
        record {
          depths = length-filled _ _ _ E.depths ∙ z.depths;
          lasts = length-filled _ _ _ E.lasts ∙ z.lasts;
          records = z.records;
          began = z.began;
        }

    lay_left : (bytes : ℕ) → length text ≡ bytes → length text ≤ desk_text → laid.number ≡ 0 → command_left d r text (Lay bytes) ≡ told_on d r lay_tells
    unfolding lay_told
    lay_left bytes whole few z =
        lay_is d r on text bytes
        ∙ ap (told_on d r) (pick_true _ _ (each_every _ (eq-eqb _ _ whole, (le-leb _ _ few, tt))) ∙ pick_true _ _ (eq-eqb _ _ z))

    state_laid : state_on (told_on d r lay_tells).desk (told_on d r lay_tells).rooms ≡ lay_tells.evening
    state_laid = put_taken d.heading r lay_tells.evening lay_sized

  module _ (marks : length r.sheet.cells.marks ≡ desk_squares) where
    lent : WaterLent P E.depths E.lasts
    lent =
        record {
          fine = shape-fine d r on;
          marks_long = length-take-le _ r.sheet.cells.marks (omega (arith, marks, (shape-fine d r on).few));
          depths_long = (state_sized d r on).depths;
          lasts_long = (state_sized d r on).lasts;
        }

    -- what was laid can be saved
    laid_can : (text : List ℕ) → (laid text).number ≡ 0 → SavableAt P G K (lay_tells text).evening (lay_tells text).account
    unfolding stand_of saved_from
    laid_can text z = laid_savable P G.inflow K text old lent z

    -- and of what can be saved the text is laid
    module _ (e : Evening) (a : Account) (s : SavableAt P G K e a) (text : List ℕ) (is : text ≡ stand_text P e.depths e.lasts (saved_of e.log a)) where
      back : ReadsBack P G.inflow K e.depths e.lasts (saved_of e.log a)
      back = all_read_back P G.inflow K e.depths e.lasts (saved_of e.log a) s

      answer : laid text ≡ record { number = 0; line = 0; saved = none_kept K (saved_of e.log a) }
      answer = ap (stand_of P G.inflow K) is ∙ back.answer

      number_none : (laid text).number ≡ 0
      number_none = ap (λ (l : Laid). l.number) answer

      module _ (depths_long : length e.depths ≡ squares P.shape) (lasts_long : length e.lasts ≡ squares P.shape)
          (depths-closed : (i : ℕ) → closed P.marks i ≡ true → get_or E.depths i 0 ≡ get_or e.depths i 0)
          (lasts_closed : (i : ℕ) → closed P.marks i ≡ true → get_or E.lasts i 0 ≡ get_or e.lasts i 0) where
        depths_same : e.depths ≡ (water_after P text 0 old).depths
        depths_same =
            ext_get_or 0 _ _ (depths_long ∙ sym (lay_sized text).depths) (λ i l.
            sym (ap (λ (t : List ℕ). get_or (water_after P t 0 old).depths i 0) is ∙ at i (omega (arith, l, depths_long, (state_sized d r on).depths)) (closed P.marks i) refl))
          where
            at : (i : ℕ) → i < length E.depths → (c : Bool) → closed P.marks i ≡ c →
                get_or (water_after P (stand_text P e.depths e.lasts (saved_of e.log a)) 0 old).depths i 0 ≡ get_or e.depths i 0
            at i l true c = back.depths-kept old i c l ∙ depths-closed i c
            at i l false c = (back.depths_alike old lent).at i c

        lasts_same : e.lasts ≡ (water_after P text 0 old).lasts
        lasts_same =
            ext_get_or 0 _ _ (lasts_long ∙ sym (lay_sized text).lasts) (λ i l.
            sym (ap (λ (t : List ℕ). get_or (water_after P t 0 old).lasts i 0) is ∙ at i (omega (arith, l, lasts_long, (state_sized d r on).lasts)) (closed P.marks i) refl))
          where
            at : (i : ℕ) → i < length E.lasts → (c : Bool) → closed P.marks i ≡ c →
                get_or (water_after P (stand_text P e.depths e.lasts (saved_of e.log a)) 0 old).lasts i 0 ≡ get_or e.lasts i 0
            at i l true c = back.lasts_kept old i c l ∙ lasts_closed i c
            at i l false c = (back.lasts_alike old lent).at i c

        shown_laid : (p : Plan) (g : Given) (x : deeds.Desk) → x.at ≡ e → x.account ≡ a →
            ShownAlike p g x (starts_as (told_on d r (lay_tells text)).desk (told_on d r (lay_tells text)).rooms)
        shown_laid p g x at account =
            record {
              seen =
                  ap (λ (v : Evening). seen_of (world_of v)) at ∙ (seen_same ∙ sym (ap (λ (v : Evening). seen_of (world_of v)) (state_laid text)));
              steps = ap (λ (v : Evening). v.log.steps) at ∙ sym (ap (λ (l : Laid). l.saved.log.steps) answer);
              opening = ap (λ (v : Evening). v.log.opening) at ∙ sym (ap (λ (l : Laid). l.saved.log.opening) answer);
              hatches = ap (λ (v : Evening). v.log.hatches) at ∙ sym (ap (λ (l : Laid). l.saved.log.hatches) answer);
              litres = ap (λ (v : Evening). v.log.litres) at ∙ sym (ap (λ (l : Laid). l.saved.log.litres) answer);
              start = ap (λ (b : Account). b.start) account ∙ sym (ap (λ (l : Laid). l.saved.start) answer);
              given = ap (λ (b : Account). b.given) account ∙ sym (ap (λ (l : Laid). l.saved.given) answer);
            }
          where
            seen_as : {v w : Seen} → v.depths ≡ w.depths → v.lasts ≡ w.lasts → v.clock ≡ w.clock → v.length ≡ w.length → v.outflow ≡ w.outflow →
                v.soaked ≡ w.soaked → v ≡ w
            seen_as b c f h i k = λ j. record { depths = b j; lasts = c j; clock = f j; length = h j; outflow = i j; soaked = k j }

            seen_same : seen_of (world_of e) ≡ seen_of (world_of (lay_tells text).evening)
            seen_same =
                seen_as depths_same lasts_same (sym (ap (λ (l : Laid). l.saved.log.run.clock) answer))
                (sym (ap (λ (l : Laid). l.saved.log.run.length) answer)) (sym (ap (λ (l : Laid). l.saved.log.run.outflow) answer))
                (sym (ap (λ (l : Laid). l.saved.log.run.soaked) answer))

-- what is shown alike has one frame, as long as the same number is said to be kept
pub frame_alike : (q : Plan) (p : Plan) (g : Given) (x y : deeds.Desk) → ShownAlike p g x y → (k : ℕ) →
    state_text q (keeping k x.at.log) x.account x.at.depths ≡ state_text q (keeping k y.at.log) y.account y.at.depths
unfolding state_text
frame_alike q p g x y s k = λ j.
    frame_text
    (record {
      steps = s.steps j;
      clock = (s.seen j).clock;
      length = (s.seen j).length;
      outflow = (s.seen j).outflow;
      soaked = (s.seen j).soaked;
      kept = k;
      room = kept_slots q.shape;
      on_ground = water q (s.seen j).depths;
      start = s.start j;
      given = s.given j;
    })
    (s.litres j) q.shape q.marks (s.seen j).depths

-- ---- after calls

savable_as : {p q : Plan} {g h : Given} {e f : Evening} {a b : Account} → p ≡ q → g ≡ h → e ≡ f → a ≡ b →
    SavableAt p g (kept_slots p.shape) e a → SavableAt q h (kept_slots q.shape) f b
savable_as {p} {q} {g} {h} {e} {f} {a} {b} i j k l s =
    subst (λ (x : Plan). SavableAt x h (kept_slots x.shape) f b) i
    (subst (λ (x : Given). SavableAt p x (kept_slots p.shape) f b) j
    (subst (λ (x : Evening). SavableAt p g (kept_slots p.shape) x b) k (subst (λ (x : Account). SavableAt p g (kept_slots p.shape) e x) l s)))

begins_as : {p q : Plan} {g h : Given} {e : Evening} {a : Account} → p ≡ q → g ≡ h → Begins p g e a → Begins q h e a
begins_as {p} {q} {g} {h} {e} {a} i j b = subst (λ (x : Plan). Begins x h e a) i (subst (λ (x : Given). Begins p x e a) j b)

stand-text : (d : Desk) (r : Stores) → OnDesk d r → (text : List ℕ) →
    (command_left d r text Stand).text ≡ stand_text (plan_on d r) (state_on d r).depths (state_on d r).lasts (saved_of d.log d.account) ++ done_text
unfolding is_sheet order_told stand_told
stand-text d r on text = ap (λ (l : Left). l.text) (line_is d r on text Stand refl)

module _ (d : Desk) (r : Stores) (on : OnDesk d r) (first : BeginsOn d r) (q : BalancedOn d r) (s : SavableAt (plan_on d r) (ground_on d r) (kept_slots d.heading.shape) (state_on d r) d.account) (calls : List Call) (t : AllTry calls) where
  abbrev now : Desk
  now = (after_calls calls d r).0

  abbrev rooms : Stores
  rooms = (after_calls calls d r).1

  came-to : CallsCome d r calls now rooms
  came-to = desk_calls.come d r on first calls t

  now_savable : SavableAt (plan_on now rooms) (ground_on now rooms) (kept_slots now.heading.shape) (state_on now rooms) now.account
  unfolding held
  now_savable =
      savable_as (sym came-to.plan_same) (sym came-to.ground_same) came-to.standing.at_is came-to.standing.account_is
      (still_savable (plan_on d r) (ground_on d r) (state_on d r) d.account first q (kept_slots d.heading.shape) s (deeds_in calls d r))

  module _ (d' : Desk) (r' : Stores) (same : SameSheet now rooms d' r') where
    abbrev text : List ℕ
    text = saved_text d r calls d' r'

    abbrev l : Left
    l = laid_on d r calls d' r'

    few : length text ≤ desk_text
    few =
        stand_short (plan_on now rooms) (ground_on now rooms).inflow (kept_slots now.heading.shape) (state_on now rooms).depths (state_on now rooms).lasts
        (saved_of now.log now.account) now_savable

    text_is : text ≡ stand_text (plan_on d' r') (state_on now rooms).depths (state_on now rooms).lasts (saved_of now.log now.account)
    text_is = ap (λ (p : Plan). stand_text p (state_on now rooms).depths (state_on now rooms).lasts (saved_of now.log now.account)) (sym same.plan_same)

    there_savable : SavableAt (plan_on d' r') (ground_on d' r') (kept_slots d'.heading.shape) (state_on now rooms) now.account
    there_savable = savable_as {e = state_on now rooms} {a = now.account} (sym same.plan_same) (sym same.ground_same) refl refl now_savable

    none : (laid d' r' same.on text).number ≡ 0
    none = number_none d' r' same.on same.marks_whole (state_on now rooms) now.account there_savable text text_is

    left_is : l ≡ told_on d' r' (lay_tells d' r' same.on text)
    left_is = lay_left d' r' same.on text (length text) refl few none

    shape_same : squares now.heading.shape ≡ squares d'.heading.shape
    shape_same = ap (λ (p : Plan). squares p.shape) (sym same.plan_same)

    shows : ShownAlike (plan_on d r) (ground_on d r) (comes_to d r calls) (starts_as l.desk l.rooms)
    shows =
        let z = state_sized now rooms came-to.still_on in
        subst (λ (k : Left). ShownAlike (plan_on d r) (ground_on d r) (comes_to d r calls) (starts_as k.desk k.rooms)) (sym left_is)
        (shown_laid d' r' same.on same.marks_whole (state_on now rooms) now.account there_savable text text_is
        (z.depths ∙ shape_same) (z.lasts ∙ shape_same) same.depths-closed same.lasts_closed
        (plan_on d r) (ground_on d r) (comes_to d r calls) came-to.standing.at_is came-to.standing.account_is)

    lay_on : OnDesk l.desk l.rooms × BeginsOn l.desk l.rooms
    lay_on = desk_calls.lay_begins d' r' same.on text (length text) refl few none

    plan_there : plan_on l.desk l.rooms ≡ plan_on d r
    plan_there = ap (λ (k : Left). plan_on k.desk k.rooms) left_is ∙ (same.plan_same ∙ came-to.plan_same)

    ground_there : ground_on l.desk l.rooms ≡ ground_on d r
    ground_there = ap (λ (k : Left). ground_on k.desk k.rooms) left_is ∙ (same.ground_same ∙ came-to.ground_same)

    slots_of : (c : Desk) (u : Stores) → OnDesk c u → room_slots (plan_on c u) (state_on c u).records ≡ kept_slots (plan_on c u).shape
    slots_of c u o = slots_are c.heading (shape-fine c u o) (plan_on c u).marks (ground_on c u) (state_on c u) (state_sized c u o)

    slots_same : room_slots (plan_on d r) (state_on l.desk l.rooms).records ≡ room_slots (plan_on d r) (state_on d r).records
    slots_same =
        subst (λ (p : Plan). room_slots p (state_on l.desk l.rooms).records ≡ kept_slots p.shape) plan_there (slots_of l.desk l.rooms lay_on.0)
        ∙ sym (slots_of d r on)

    frame_there : l.text ≡ frame_on l.desk l.rooms ++ ending_text 0 0
    frame_there =
        subst (λ (k : Left). k.text ≡ frame_on k.desk k.rooms ++ ending_text 0 0) (sym left_is)
        (ap (λ (e : Evening). state_text (plan_on d' r') tells.evening.log tells.account e.depths ++ ending_text 0 0) (sym (state_laid d' r' same.on text)))
      where
        tells : Told
        tells = lay_tells d' r' same.on text

    abbrev there : deeds.Desk
    there = starts_as l.desk l.rooms

    same_frame : l.text ≡ frame_keeping 0 now rooms ++ ending_text 0 0
    same_frame =
        frame_there
        ∙ ap (λ (t : List ℕ). t ++ ending_text 0 0)
        (ap (λ (p : Plan). state_text p there.at.log there.account there.at.depths) (plan_there ∙ sym came-to.plan_same)
        ∙ (ap (λ (k : ℕ). state_text (plan_on now rooms) (keeping k there.at.log) there.account there.at.depths) lay_on.1.fresh.kept_none
        ∙ (sym (frame_alike (plan_on now rooms) (plan_on d r) (ground_on d r) (comes_to d r calls) there shows 0)
        ∙ ap₂ (λ (e : Evening) (a : Account). state_text (plan_on now rooms) (keeping 0 e.log) a e.depths) came-to.standing.at_is came-to.standing.account_is)))

    again : LaidAgain d r calls d' r'
    again =
        record {
          printed = λ other. stand-text now rooms came-to.still_on other;
          on = lay_on.0;
          begins = lay_on.1;
          plan_same = plan_there;
          ground_same = ground_there;
          still = ap (λ (k : Left). k.desk.series) left_is;
          answered = frame_there;
          same_frame = same_frame;
          shown = shows;
          goes_on = λ further w.
              (desk_saved (plan_on d r) (ground_on d r)).goes_on (state_on d r) d.account first (deeds_in calls d r) (state_on l.desk l.rooms) l.desk.account
              (begins_as plan_there ground_there lay_on.1) shows slots_same further w;
        }

module _ (d : Desk) (r : Stores) (on : OnDesk d r) (marks : length r.sheet.cells.marks ≡ desk_squares) (text : List ℕ) (bytes : ℕ) (whole : length text ≡ bytes) (few : length text ≤ desk_text)
    (z : (stand_of (plan_on d r) (ground_on d r).inflow (kept_slots d.heading.shape) text).number ≡ 0) where
  abbrev left : Left
  left = command_left d r text (Lay bytes)

  left_savable : SavableAt (plan_on left.desk left.rooms) (ground_on left.desk left.rooms) (kept_slots left.desk.heading.shape) (state_on left.desk left.rooms) left.desk.account
  left_savable =
      subst (λ (k : Left). SavableAt (plan_on k.desk k.rooms) (ground_on k.desk k.rooms) (kept_slots k.desk.heading.shape) (state_on k.desk k.rooms) k.desk.account)
      (sym (lay_left d r on text bytes whole few z)) (savable_as {g = ground_on d r} {a = (lay_tells d r on text).account} refl refl (sym (state_laid d r on text)) refl (laid_can d r on marks text z))

  from_lay : BalancedOn left.desk left.rooms → ReadAgain left.desk left.rooms
  from_lay q calls t d' r' same =
      let b = desk_calls.lay_begins d r on text bytes whole few z in
      again left.desk left.rooms b.0 b.1 q left_savable calls t d' r' same

-- a sheet that is read has the heading of its text
from_sheet : (d : Desk) (r : Stores) → RoomsWhole r → (text : List ℕ) (bytes : ℕ) (h : Heading) → length text ≡ bytes → sheet_within desk_text text r.sheet ≡ Read h →
    ReadAgain (command_left d r text (Sheet bytes)).desk (command_left d r text (Sheet bytes)).rooms
unfolding command_left is_sheet wanted_by
from_sheet d r whole text bytes h long read =
    subst (λ (k : Left). ReadAgain k.desk k.rooms)
    (sym (pick_true _ _ refl ∙ (pick_true _ _ (eq-eqb _ _ long) ∙ ap (λ (x : reading.Sheet). sheet_left text x d r) own)))
    (λ calls t d' r' same.
    let b = read_begins d r whole text own in
    again _ _ (read_on d r whole text own) b.0 b.1 (read_savable d r whole text own) calls t d' r' same)
  where
    own : sheet_within desk_text text r.sheet ≡ Read (heading_of text)
    own = read ∙ ap (λ (k : Heading). Read k) (is_well d r whole text h read).heading

pub stand_read_back : StandReadBack
stand_read_back =
    record {
      from_sheet = λ d r whole text bytes h long read. from_sheet d r whole text bytes h long read;
      from_lay = λ d r on marks text bytes whole few z q. from_lay d r on marks text bytes whole few z q;
    }
