-- Laws of the lines that name, draw, look, save and lay: what each comes to, told as its answer.
-- Assumes nothing.
use mathlib.Core.Path.{◌≡◌, refl, sym, ap, ap₂, subst, ◌∙◌}
use mathlib.Core.Bool.{Bool, true, false}
use mathlib.Core.List.{List, [], ◌∷◌, ◌++◌}
use Prim.Native.Nat.{ℕ, zero, suc, ◌+◌, ◌*◌, ◌/◌, ◌≤◌, ◌<◌}
use native.Mathlib.Nat.{mul-le-mul, div-add-mod', mod-lt}
use native.Mathlib.Omega.{arith}
use lib.Dec.{eqb, leb}
use lib.ListN.{length, take, length-append}
use lib.Seq.{length-take-le}
use borrow.Author.Tests.{eq-eqb, ne_eqb, le-leb, lt-leb}
use Rattle.reckon.specs.Tests.{every}
use Rattle.reckon.proofs.TestLaws.{pick_true, pick_false, every_fails, each_every, refusal_later}
use Rattle.grid.specs.Squares.{ShapeInRange, squares}
use Rattle.grid.specs.declared.squares.Shape.{Shape}
use Rattle.rule.specs.declared.rules.Rules.{Rules}
use Rattle.ledger.specs.Runs.{Plan, World, plan}
use Rattle.ledger.specs.Record.{record_size}
use Rattle.checks.specs.Bounds.{bounds_number, spans_whole, figures, told_bounds, bounds_of}
use Rattle.checks.specs.declared.bounds.StepBounds.{StepBounds}
use Rattle.checks.specs.declared.bounds.Bounds.{Bounds}
use Rattle.sight.specs.Arrows.{view, arrow_number}
use Rattle.sight.specs.AllArrows.{Sights, SeesAll, seen_square, laid_out, all_number, all_refusals}
use Rattle.text.specs.Writing.{Wrote}
use Rattle.text.proofs.WritingLaws.{wrote_both, wrote_length}
use Rattle.answer.specs.Printed.{refused_text}
use Rattle.hatches.specs.Log.{Evening, evening}
use Rattle.hatches.specs.declared.lines.Entry.{Entry}
use Rattle.hatches.specs.declared.log.Log.{Log}
use Rattle.frames.specs.Arrows.{arrows_text}
use Rattle.frames.specs.Bounds.{bounds_text, most_bounds}
use Rattle.frames.proofs.ArrowsLaws.{Speeds, arrows_short}
use Rattle.frames.proofs.BoundsLaws.{bounds_short}
use Rattle.stands.specs.Texts.{stand_text}
use Rattle.stands.specs.Laying.{Water, water, stand_of, water_after, Lays}
use Rattle.stands.specs.declared.saved.Laid.{Laid}
use Rattle.trying.specs.Given.{account_opened}
use Rattle.trying.specs.Lines.{came}
use Rattle.trying.specs.declared.given.Account.{Account}
use Rattle.trying.specs.declared.lines.Tried.{Tried}
use Rattle.desks.specs.State.{desk_squares, desk_text, desk_out, desk_numbers, kept_slots, no_series, desk_with}
use Rattle.desks.specs.Lines.{Told, told, done_text, ending_text, state_text, saved_of, shown, refused_at, arrows_told, most_told, stand_told, lay_told, entry_told, order_told}
use Rattle.desks.specs.Inner.Lent.{Shows, EndingPut, DeskTold, most_ending, refused_in, Answers}
use Rattle.desks.specs.declared.orders.Order.{Order}
use Rattle.desks.specs.declared.state.Desk.{Desk}
use Rattle.desks.specs.declared.state.Series.{Series}

-- ---- a desk as its answer tells it

module _ {d r : Desk} {old new : List ℕ} where
  pub as_told :
      {log : Log} {a : Account} {s : Series} {t : List ℕ} (depths lasts records began : List ℕ) → DeskTold d log a s t old new r →
      Answers (told (evening depths lasts records began log) a s t) d r (evening depths lasts records began r.log) old new
  as_told depths lasts records began x =
      record {
        desk_is = x.desk_is;
        evening_is = ap (λ (k : Desk). evening depths lasts records began k.log) x.desk_is;
        puts = x.puts;
      }

  -- the same answer under another name
  pub told_as : {t u : Told} {after : Evening} → t ≡ u → Answers u d r after old new → Answers t d r after old new
  told_as {t} {u} {after} e x = subst (λ (k : Told). Answers k d r after old new) (sym e) x

  -- a line that changes the log alone
  pub plainly-told :
      {t u : Tried} (depths lasts records began : List ℕ) → t ≡ u → DeskTold d t.log t.account no_series (ending_text t.number 0) old new r →
      Answers (told (evening depths lasts records began u.log) u.account no_series (ending_text u.number 0)) d r
      (evening depths lasts records began r.log) old new
  plainly-told {t} {u} depths lasts records began e x =
      told_as
      (ap (λ (k : Tried). told (evening depths lasts records began k.log) k.account no_series (ending_text k.number 0)) (sym e))
      (as_told depths lasts records began x)

  -- another account of the same frame
  pub account_as :
      (p : Plan) (depths : List ℕ) {log : Log} {a b : Account} → a ≡ b →
      DeskTold d log a no_series (state_text p log a depths ++ ending_text 0 0) old new r →
      DeskTold d log b no_series (state_text p log b depths ++ ending_text 0 0) old new r
  account_as p depths {log} e x =
      subst (λ (k : Account). DeskTold d log k no_series (state_text p log k depths ++ ending_text 0 0) old new r) e x

-- ---- a text, and the end of the answer after it

module _ {t old mid : List ℕ} {at : ℕ} (k : ℕ) (w : Wrote t 0 old mid at) (short : length t ≤ k) (long : length old ≡ desk_out) where
  pub ending_fits : k + most_ending ≤ desk_out → at + most_ending ≤ length mid
  ending_fits f = omega (arith, w.next, wrote_length {at = 0} (omega arith) w)

  pub text_told :
      {d r : Desk} {new : List ℕ} {number line end : ℕ} → k + most_ending ≤ desk_out → EndingPut number line at mid new end →
      r ≡ desk_with d d.log d.account no_series end →
      DeskTold d d.log d.account no_series (t ++ ending_text number line) old new r
  text_told {d} {r} {new} {number} {line} {end} f e x =
      let both : Wrote (t ++ ending_text number line) 0 old new end = wrote_both (omega (arith, e.short)) w e.wrote in
      let same : end ≡ length (t ++ ending_text number line) = omega (arith, both.next) in
      record {
        desk_is = x ∙ ap (desk_with d d.log d.account no_series) same;
        puts = record {
          wrote = subst (λ (j : ℕ). Wrote (t ++ ending_text number line) 0 old new j) same both;
          fits = omega (arith, length-append t (ending_text number line), e.short);
        };
      }

-- ---- `most`

told_number : (n : ℕ) (holds : Bool) (b : StepBounds) → refused_in (told_bounds n holds b) ≡ n
unfolding told_bounds refused_in
told_number (suc n) holds b = refl
told_number zero false b = refl
told_number zero true b = refl

bounds_number_is : (r : Rules) (clock end : ℕ) → refused_in (bounds_of r clock end) ≡ bounds_number r clock end
unfolding bounds_of
bounds_number_is r clock end = told_number (bounds_number r clock end) (spans_whole r clock end) (figures r clock end)

pub most_short : (r : Rules) (clock end : ℕ) {bounds : Bounds} → bounds ≡ bounds_of r clock end → length (bounds_text bounds) ≤ most_bounds
most_short r clock end e = subst (λ (b : Bounds). length (bounds_text b) ≤ most_bounds) (sym e) (bounds_short r clock end)

pub most-told :
    (p : Plan) (end : ℕ) {d r : Desk} {number : ℕ} {bounds : Bounds} {old new : List ℕ} (depths lasts records began : List ℕ) →
    bounds ≡ bounds_of d.heading.rules d.log.run.clock end → number ≡ refused_in bounds →
    DeskTold d d.log d.account no_series (bounds_text bounds ++ ending_text number 0) old new r →
    Answers (most_told p (evening depths lasts records began d.log) d.account d.heading.rules end) d r
    (evening depths lasts records began r.log) old new
unfolding most_told
most-told p end {d} {r} {number} {bounds} depths lasts records began e n x =
    let rules = d.heading.rules in
    let clock = d.log.run.clock in
    told_as
    (ap₂ (λ (b : Bounds) (k : ℕ). told (evening depths lasts records began d.log) d.account no_series (bounds_text b ++ ending_text k 0))
    (sym e) (sym (n ∙ (ap refused_in e ∙ bounds_number_is rules clock end))))
    (as_told depths lasts records began x)

-- ---- `lay`

-- some step is always kept
pub slots_some : (s : Shape) → ShapeInRange s → {slots : ℕ} → slots ≡ kept_slots s → 0 < slots
unfolding kept_slots
slots_some s fine {slots} e = go (desk_numbers / record_size (plan s [])) refl
  where
    go : (q : ℕ) → desk_numbers / record_size (plan s []) ≡ q → 0 < slots
    go zero z =
        let size = record_size (plan s []) in
        let few : s.rows * s.columns ≤ 64 * 64 = mul-le-mul fine.rows_high fine.columns_high in
        let none : desk_numbers / size * size ≡ 0 = ap (λ (k : ℕ). k * size) z ∙ omega arith in
        absurd (omega (arith, few, none, div-add-mod' desk_numbers size, mod-lt desk_numbers {m = size} (omega arith)))
    go (suc q) z = omega (arith, z, e)

module _ (p : Plan) (depths lasts records began inflow text : List ℕ) (bytes : ℕ) (d : Desk) where
  abbrev standing : Evening
  standing = evening depths lasts records began d.log

  abbrev tests : List Bool
  tests = eqb (length text) bytes ∷ leb (length text) desk_text ∷ []

  unfit : {r : Desk} {old new : List ℕ} → every tests ≡ false → DeskTold d d.log d.account no_series (ending_text 12 0) old new r →
      Answers (lay_told p standing d.account inflow bytes text) d r (evening depths lasts records began r.log) old new
  unfolding lay_told
  unfit e x = told_as (pick_false _ _ e) (as_told depths lasts records began x)

  pub lay_uncounted :
      {r : Desk} {old new : List ℕ} → (length text ≡ bytes → ⊥) → DeskTold d d.log d.account no_series (ending_text 12 0) old new r →
      Answers (lay_told p standing d.account inflow bytes text) d r (evening depths lasts records began r.log) old new
  lay_uncounted n x = unfit (every_fails tests 0 (ne_eqb _ _ n)) x

  pub lay_too_long :
      {r : Desk} {old new : List ℕ} → desk_text < length text → DeskTold d d.log d.account no_series (ending_text 12 0) old new r →
      Answers (lay_told p standing d.account inflow bytes text) d r (evening depths lasts records began r.log) old new
  lay_too_long n x = unfit (every_fails tests 1 (lt-leb _ _ n)) x

  -- a state that is refused leaves the water as it was
  still : (n : ℕ) → (n ≡ 0 → ⊥) → water_after p text n (water depths lasts) ≡ water depths lasts
  unfolding water_after
  still zero f = absurd (f refl)
  still (suc n) f = refl

  module _ (count : length text ≡ bytes) (fits : length text ≤ desk_text) {slots : ℕ} (k : slots ≡ kept_slots p.shape)
      {laid : Laid} {after behind : List ℕ} (l : Lays p inflow slots text (water depths lasts) laid (water after behind)) where
    fit : every tests ≡ true
    fit = each_every tests (eq-eqb _ _ count, (le-leb _ _ fits, tt))

    laid_is : laid ≡ stand_of p inflow (kept_slots p.shape) text
    laid_is = l.answer ∙ ap (λ (j : ℕ). stand_of p inflow j text) k

    number_is : laid.number ≡ (stand_of p inflow (kept_slots p.shape) text).number
    number_is = ap (λ (a : Laid). a.number) laid_is

    pub lay_refused :
        {r : Desk} {old new : List ℕ} → (laid.number ≡ 0 → ⊥) →
        DeskTold d d.log d.account no_series (ending_text laid.number laid.line) old new r →
        Answers (lay_told p standing d.account inflow bytes text) d r (evening after behind records began r.log) old new
    unfolding lay_told
    lay_refused {r} f x =
        let same : water after behind ≡ water depths lasts = l.rooms_are ∙ still laid.number f in
        let a = as_told depths lasts records began x in
        told_as
        (pick_true _ _ fit
        ∙ (pick_false _ _ (ne_eqb _ _ (λ z. f (number_is ∙ z)))
        ∙ ap (λ (v : Laid). refused_at p standing d.account v.number v.line) (sym laid_is)))
        (record {
          desk_is = a.desk_is;
          evening_is = ap (λ (v : Water). evening v.depths v.lasts records began r.log) same ∙ a.evening_is;
          puts = a.puts;
        })

    pub lay_laid :
        {r : Desk} {old new : List ℕ} → laid.number ≡ 0 →
        DeskTold d laid.saved.log (account_opened laid.saved.start laid.saved.given) no_series
        (state_text p laid.saved.log (account_opened laid.saved.start laid.saved.given) after ++ ending_text 0 0) old new r →
        Answers (lay_told p standing d.account inflow bytes text) d r (evening after behind records began r.log) old new
    unfolding lay_told
    lay_laid z x =
        let same : water_after p text 0 (water depths lasts) ≡ water after behind =
        sym (l.rooms_are ∙ ap (λ (j : ℕ). water_after p text j (water depths lasts)) z) in
        told_as
        (pick_true _ _ fit
        ∙ (pick_true _ _ (eq-eqb _ _ (sym number_is ∙ z))
        ∙ ap₂
        (λ (v : Laid) (w : Water).
        shown p (came 0 (evening w.depths w.lasts records began v.saved.log) (account_opened v.saved.start v.saved.given)))
        (sym laid_is) same))
        (as_told after behind records began x)

-- ---- `arrows`

-- the bytes that always suffice for the arrows of 4,096 squares
abbrev pub most_arrows : ℕ
most_arrows = 221_184

few_squares : (s : Shape) → ShapeInRange s → squares s ≤ desk_squares
few_squares s fine = mul-le-mul fine.rows_high fine.columns_high

pub seen-short : (s : Shape) → ShapeInRange s → (seen : Sights) → Speeds seen → length (arrows_text s seen) ≤ most_arrows
seen-short s fine seen w = omega (arith, arrows_short s seen fine w, few_squares s fine)

-- as much of a room as there are squares
pub room_part :
    {A : Type 0} {p : Plan} {depths out : List ℕ} → Shows p depths out → (l : List A) → length l ≡ desk_squares →
    length (take (length p.marks) l) ≡ squares p.shape
room_part {p = p} s l h =
    length-take-le (length p.marks) l (omega (arith, s.marks_long, few_squares p.shape s.fine, h)) ∙ s.marks_long

done_is : done_text ≡ ending_text 0 0
unfolding ending_text
done_is = sym (pick_true done_text (refused_text 0 0) (eq-eqb 0 0 refl))

module _ (p : Plan) (d : Desk) (depths lasts records began : List ℕ) where
  abbrev seeing : World
  seeing = view depths records d.log.run

  abbrev side : ℕ
  side = d.heading.rules.square_side

  module _ {seen after : Sights} {number : ℕ} (s : SeesAll p side seeing seen number after) (marks_long : length p.marks ≡ squares p.shape)
      (kinds_long : length seen.kinds ≡ squares p.shape) (east_long : length seen.east ≡ squares p.shape)
      (north_long : length seen.north ≡ squares p.shape) where
    -- the rooms are long enough, so that an arrow's own rows decide
    number_seen : number ≡ arrow_number p side seeing 0 0
    unfolding all_number all_refusals arrow_number
    number_seen =
        s.number_is
        ∙ refusal_later 1 _
        (each_every _
        (eq-eqb _ _ (kinds_long ∙ sym marks_long), (eq-eqb _ _ (east_long ∙ sym marks_long), (eq-eqb _ _ (north_long ∙ sym marks_long), tt))))

    pub arrows_refused :
        {r : Desk} {old new : List ℕ} → (number ≡ 0 → ⊥) → DeskTold d d.log d.account no_series (ending_text number 0) old new r →
        Answers (arrows_told p (evening depths lasts records began d.log) d.account d.heading.rules) d r
        (evening depths lasts records began r.log) old new
    unfolding arrows_told
    arrows_refused f x =
        told_as
        (pick_false _ _ (ne_eqb _ _ (λ z. f (number_seen ∙ z)))
        ∙ ap (λ (k : ℕ). refused_at p (evening depths lasts records began d.log) d.account k 0) (sym number_seen))
        (as_told depths lasts records began x)

    pub arrows_shown :
        {r : Desk} {old new : List ℕ} → number ≡ 0 →
        DeskTold d d.log d.account no_series (arrows_text p.shape after ++ ending_text 0 0) old new r →
        Answers (arrows_told p (evening depths lasts records began d.log) d.account d.heading.rules) d r
        (evening depths lasts records began r.log) old new
    unfolding arrows_told
    arrows_shown z x =
        let laid : after ≡ laid_out (squares p.shape) (seen_square p side seeing) =
        s.rooms_are ∙ pick_true _ _ (eq-eqb _ _ (sym s.number_is ∙ z)) in
        told_as
        (pick_true _ _ (eq-eqb _ _ (sym number_seen ∙ z))
        ∙ ap₂
        (λ (v : Sights) (t : List ℕ). told (evening depths lasts records began d.log) d.account no_series (arrows_text p.shape v ++ t))
        (sym laid) done_is)
        (as_told depths lasts records began x)

-- ---- `stand`

pub stand-told :
    (p : Plan) (depths lasts records began : List ℕ) {d r : Desk} {old new : List ℕ} →
    DeskTold d d.log d.account no_series (stand_text p depths lasts (saved_of d.log d.account) ++ ending_text 0 0) old new r →
    Answers (stand_told p (evening depths lasts records began d.log) d.account) d r (evening depths lasts records began r.log) old new
unfolding stand_told
stand-told p depths lasts records began {d} x =
    told_as
    (ap
    (λ (t : List ℕ).
    told (evening depths lasts records began d.log) d.account no_series (stand_text p depths lasts (saved_of d.log d.account) ++ t))
    done_is)
    (as_told depths lasts records began x)

-- ---- a line by its kind

module _ (p : Plan) (e : Evening) (a : Account) (r : Rules) (inflow : List ℕ) {d s : Desk} {after : Evening} {old new : List ℕ} where
  pub entry_as : {x y : Entry} → x ≡ y → Answers (entry_told p e a r inflow y) d s after old new → Answers (entry_told p e a r inflow x) d s after old new
  entry_as h t = told_as (ap (entry_told p e a r inflow) h) t

  pub order_as : (text : List ℕ) {x y : Order} → x ≡ y → Answers (order_told p e a r inflow text y) d s after old new → Answers (order_told p e a r inflow text x) d s after old new
  order_as text h t = told_as (ap (order_told p e a r inflow text) h) t
