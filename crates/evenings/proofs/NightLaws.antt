-- Laws of the program's nights: rooms cleared, the sizes of what is lent, and a line taken out of the rooms.
-- Assumes nothing.
use mathlib.Core.Path.{◌≡◌, refl, sym, ap, ap₂, subst, ◌∙◌}
use mathlib.Core.Bool.{Bool, true, false}
use mathlib.Core.List.{List, [], ◌∷◌, ◌++◌}
use Prim.Native.Nat.{ℕ, zero, suc, ◌+◌, ◌*◌, ◌/◌, ◌≤◌, ◌<◌, min}
use native.Mathlib.Nat.{div-add-mod', mod-lt, mul-le-mul_right}
use native.Mathlib.Omega.{arith}
use lib.Dec.{eqb, ltb}
use lib.ListN.{length, take, drop, replicate, length-append, length-drop, length-replicate}
use lib.Seq.{length-take-le, take_at, drop_at}
use borrow.Author.Tests.{leb-true, ltb-true, le-leb, lt-leb}
use Rattle.reckon.specs.Tests.{every}
use Rattle.reckon.specs.Ranges.{most_table_rows}
use Rattle.reckon.specs.Tables.{rain_kind, inflow_kind, table_room}
use Rattle.reckon.proofs.TestLaws.{pick_true, pick_false, every_each, every_fails, and_true}
use Rattle.grid.specs.Squares.{ShapeInRange, squares}
use Rattle.grid.specs.declared.squares.Shape.{Shape}
use Rattle.grid.proofs.SquareLaws.{ranges_of_fine}
use Rattle.ledger.specs.Runs.{Plan, plan}
use Rattle.checks.specs.Given.{Given, ground, given}
use Rattle.ledger.specs.Record.{record_size}
use Rattle.answer.specs.Printed.{refused_text}
use Rattle.programs.specs.Program.{Prints, most_text, program_rooms, program_squares}
use Rattle.sheet.specs.Sheet.{Rooms, rooms, rooms_after, line_one, shape_of, heading_of, Reads}
use Rattle.sheet.proofs.SheetLaws.{well, rooms-shape, rooms_cells}
use Rattle.sheet.specs.declared.reading.Heading.{Heading}
use Rattle.sheet.specs.declared.reading.Sheet.{Sheet}
use Rattle.sheet.specs.declared.reading.Sheet.TheVariants.{Read, Refused}
use Rattle.evenings.proofs.ShownLaws.{nothing_printed}
use Rattle.hatches.specs.Log.{Evening, evening, most_hatches, most_kept, most_numbers, kept_records}
use Rattle.evenings.specs.Program.{Stores, stores, records_lent, rates_lent, plan_held, given_held, evening_held, Holds, is_left, night_fine, rooms_fit, night_fits, night_over, night_line, text_after, evening_after, night_after, first_night, no_night, sheet_begun, sheet_begun_text, begun, begun_text, begun_stores, Begins, GoesOn}
use Rattle.evenings.specs.Shown.{TakesLine}
use Rattle.evenings.specs.Inner.Sizes.{SizesAre, sizes_fit, night_with}
use Rattle.hatches.specs.declared.log.Log.{Log}
use Rattle.evenings.specs.declared.program.Night.{Night}
use Rattle.evenings.specs.declared.program.Sizes.{Sizes}
use Rattle.evenings.specs.declared.telling.LineTaken.{LineTaken}

-- ---- how many records are kept

module _ (s : Shape) where
  abbrev size : ℕ
  size = record_size (plan s [])

  whole : most_numbers / size * size ≤ most_numbers
  whole = omega (arith, div-add-mod' most_numbers size)

  pub kept_fit : kept_records (plan s []) * size ≤ most_numbers
  unfolding kept_records
  kept_fit = omega (arith, whole, mul-le-mul_right {m = min most_kept (most_numbers / size)} {n = most_numbers / size} size (omega arith))

  pub kept_few : kept_records (plan s []) ≤ most_kept
  unfolding kept_records
  kept_few = omega arith

  pub kept_some : squares s ≤ program_squares → 0 < kept_records (plan s [])
  unfolding kept_records
  kept_some h = go (most_numbers / size) refl
    where
      go : (q : ℕ) → most_numbers / size ≡ q → 0 < min most_kept (most_numbers / size)
      go zero e =
          let none : most_numbers / size * size ≡ 0 = ap (λ (k : ℕ). k * size) e ∙ omega arith in
          absurd (omega (arith, none, div-add-mod' most_numbers size, mod-lt most_numbers {m = size} (omega arith)))
      go (suc q) e = omega (arith, e)

-- ---- a night that fits

pub left_is : (s : List ℕ) (n : Night) {b : Bool} → every (n.more ∷ ltb n.at (length s) ∷ []) ≡ b → is_left s n ≡ b
unfolding is_left
left_is s n e = e

pub left_at : (s : List ℕ) (n : Night) → is_left s n ≡ true → n.at < length s
unfolding is_left
left_at s n e = ltb-true _ _ (every_each _ e).1.0

pub record Fine (n : Night) : Type 0 where
  pub shape : ShapeInRange n.heading.shape
  pub few : squares n.heading.shape ≤ program_squares
  pub rain : n.heading.rain_rows ≤ most_table_rows
  pub inflow : n.heading.inflow_rows ≤ most_table_rows
  pub line : n.line ≤ n.at + 1

pub fine_is : (n : Night) → night_fine n ≡ true → Fine n
unfolding night_fine
fine_is n e =
    let t = every_each _ e in
    record {
      shape = ranges_of_fine _ t.0;
      few = leb-true _ _ t.1.0;
      rain = leb-true _ _ t.1.1.0;
      inflow = leb-true _ _ t.1.1.1.0;
      line = leb-true _ _ t.1.1.1.1.0;
    }

-- the sizes of what is lent
pub sizes_made :
    (n : Night) → night_fine n ≡ true → {squares' rain inflow slots size' : ℕ} → squares' ≡ squares n.heading.shape → slots ≡ kept_records (plan n.heading.shape []) →
    size' ≡ record_size (plan n.heading.shape []) → rain ≡ rain_kind.width * n.heading.rain_rows → inflow ≡ inflow_kind.width * n.heading.inflow_rows →
    SizesAre n.heading (record { squares = squares'; rain = rain; inflow = inflow; records = slots * size'; began = slots * most_hatches })
sizes_made n e {slots = slots} a b c d f =
    let t = fine_is n e in
    let r : slots * _ ≡ records_lent n.heading = ap₂ (λ (x y : ℕ). x * y) b c in
    record {
      squares_are = a;
      squares_fit = omega (arith, a, t.few);
      rain_is = d;
      rain_fits = omega (arith, d, t.rain);
      inflow_is = f;
      inflow_fits = omega (arith, f, t.inflow);
      records_are = r;
      records_fit = omega (arith, r, kept_fit n.heading.shape);
      began_is = ap (λ (x : ℕ). x * most_hatches) b;
      began_fits = omega (arith, b, kept_few n.heading.shape);
    }

-- the same sizes in one equation
abbrev sizes_for : Heading → Sizes
sizes_for h = record { squares = squares h.shape; rain = rain_kind.width * h.rain_rows; inflow = inflow_kind.width * h.inflow_rows; records = records_lent h; began = rates_lent h }

pub sizes_same : (h : Heading) {z : Sizes} → SizesAre h z → z ≡ sizes_for h
sizes_same h {z} a = join a.squares_are a.rain_is a.inflow_is a.records_are a.began_is
  where
    join : {q q' r r' i i' c c' b b' : ℕ} → q ≡ q' → r ≡ r' → i ≡ i' → c ≡ c' → b ≡ b' →
        ◌≡◌ {A = Sizes} (record { squares = q; rain = r; inflow = i; records = c; began = b }) (record { squares = q'; rain = r'; inflow = i'; records = c'; began = b' })
    join a b c d e = cc

pub fit_same : (h : Heading) (r : Stores) {z : Sizes} → SizesAre h z → sizes_fit z r ≡ rooms_fit h r
unfolding sizes_fit rooms_fit
fit_same h r a = ap (λ (z : Sizes). sizes_fit z r) (sizes_same h a)

pub record Fitting (z : Sizes) (r : Stores) : Type 0 where
  pub marks : z.squares ≤ length r.sheet.cells.marks
  pub beds : z.squares ≤ length r.sheet.cells.beds
  pub roughness : z.squares ≤ length r.sheet.cells.roughness
  pub rates : z.squares ≤ length r.sheet.cells.rates
  pub rain : z.rain ≤ length r.sheet.rain
  pub inflow : z.inflow ≤ length r.sheet.inflow
  pub depths : z.squares ≤ length r.sheet.cells.depths
  pub lasts : z.squares ≤ length r.lasts
  pub records : z.records ≤ length r.records
  pub began : z.began ≤ length r.began

pub fitting : (z : Sizes) (r : Stores) → sizes_fit z r ≡ true → Fitting z r
unfolding sizes_fit
fitting z r e =
    let t = every_each _ e in
    record {
      marks = leb-true _ _ t.0;
      beds = leb-true _ _ t.1.0;
      roughness = leb-true _ _ t.1.1.0;
      rates = leb-true _ _ t.1.1.1.0;
      rain = leb-true _ _ t.1.1.1.1.0;
      inflow = leb-true _ _ t.1.1.1.1.1.0;
      depths = leb-true _ _ t.1.1.1.1.1.1.0;
      lasts = leb-true _ _ t.1.1.1.1.1.1.1.0;
      records = leb-true _ _ t.1.1.1.1.1.1.1.1.0;
      began = leb-true _ _ t.1.1.1.1.1.1.1.1.1.0;
    }

-- a part of a room is as long as it says
pub part_long : (n : ℕ) (room : List ℕ) → n ≤ length room → n ≡ length (take n room)
part_long n room h = sym (length-take-le n room h)

-- ---- the night before the first line

-- ---- no line is left, or the rooms do not fit

module _ (s : List ℕ) (n : Night) (r : Stores) where
  module _ {a : Night} {old new : List ℕ} (night : a ≡ night_after s n r) (held : evening_after s n r ≡ evening_held n.heading r n.log) (prints : Prints (text_after s n r) old new a.length) where
    night_stays : GoesOn s n r a r.sheet.cells.depths r.lasts r.records r.began old new
    night_stays =
        record {
          night_is = night;
          depths_are = record { first = sym (ap (λ (x : Evening). x.depths) held); rest = refl; long = refl };
          lasts_are = record { first = sym (ap (λ (x : Evening). x.lasts) held); rest = refl; long = refl };
          records_are = record { first = sym (ap (λ (x : Evening). x.records) held); rest = refl; long = refl };
          began_are = record { first = sym (ap (λ (x : Evening). x.began) held); rest = refl; long = refl };
          prints = prints;
        }

  pub night_none : is_left s n ≡ false → {a : Night} {old : List ℕ} → a ≡ night_over n 0 → GoesOn s n r a r.sheet.cells.depths r.lasts r.records r.began old old
  unfolding night_after evening_after text_after
  night_none f {a} {old} e =
      night_stays {a = a} {old = old} {new = old} (e ∙ sym (pick_false _ _ f)) (pick_false _ _ f)
      (subst (λ (t : List ℕ). Prints t old old a.length) (sym (pick_false _ _ f))
      (nothing_printed old (ap (λ (x : Night). x.length) e)))

  pub night_refused : is_left s n ≡ true → night_fits n r ≡ false → {a : Night} {k : ℕ} {old new : List ℕ} → a ≡ night_over n k → Prints (refused_text 1 0) old new k →
      GoesOn s n r a r.sheet.cells.depths r.lasts r.records r.began old new
  unfolding night_after evening_after text_after
  night_refused t f {a} {k} {old} {new} e w =
      let long : k ≡ length (refused_text 1 0) = omega (arith, w.wrote.next) in
      night_stays {a = a} {old = old} {new = new} (e ∙ (ap (night_over n) long ∙ sym (pick_true _ _ t ∙ pick_false _ _ f))) (pick_true _ _ t ∙ pick_false _ _ f)
      (subst (λ (x : List ℕ). Prints x old new a.length) (sym (pick_true _ _ t ∙ pick_false _ _ f))
      (subst (λ (j : ℕ). Prints (refused_text 1 0) old new j) (sym (ap (λ (x : Night). x.length) e)) w))

pub fits_not : (n : Night) (r : Stores) → night_fine n ≡ false → night_fits n r ≡ false
unfolding night_fits
fits_not n r e = every_fails _ 0 e

-- a fine night's rooms decide
rooms_decide : (n : Night) (r : Stores) → night_fine n ≡ true → rooms_fit n.heading r ≡ night_fits n r
unfolding night_fits every
rooms_decide n r e = simp (e, and_true (rooms_fit n.heading r))

pub fits_are : (n : Night) (r : Stores) → night_fine n ≡ true → {z : Sizes} → SizesAre n.heading z → sizes_fit z r ≡ night_fits n r
fits_are n r e a = fit_same n.heading r a ∙ rooms_decide n r e

pub fits_fine : (n : Night) (r : Stores) → night_fits n r ≡ true → night_fine n ≡ true
unfolding night_fits
fits_fine n r e = (every_each _ e).0

pub held_fit : (n : Night) (r : Stores) {z : Sizes} → SizesAre n.heading z → night_fits n r ≡ true → Fitting z r
unfolding night_fits
held_fit n r {z} a e = fitting z r (fit_same n.heading r a ∙ (every_each _ e).1.0)

-- ---- a line taken out of the rooms

pub holds_part : (n : ℕ) (part old : List ℕ) {k : ℕ} {now : List ℕ} → length part ≡ k → k ≡ n → k ≤ length old → part ≡ now → Holds n now old (part ++ drop k old)
holds_part n part old {k} {now} l e f h =
    record {
      first = take_at part (drop k old) n (l ∙ e) ∙ h;
      rest = drop_at part (drop k old) n (l ∙ e) ∙ ap (λ (j : ℕ). drop j old) e;
      long = omega (arith, length-append part (drop k old), length-drop k old);
    }

module _ (s : List ℕ) (n : Night) (r : Stores) where
  -- what is lent of the rooms, so much of each
  abbrev plan_at : Sizes → Plan
  plan_at z = plan n.heading.shape (take z.squares r.sheet.cells.marks)

  abbrev given_at : Sizes → Given
  given_at z =
      given (ground n.heading.rules (take z.squares r.sheet.cells.beds) (take z.squares r.sheet.cells.roughness) (take z.squares r.sheet.cells.rates))
      (take z.rain r.sheet.rain) (take z.inflow r.sheet.inflow)

  abbrev evening_at : Sizes → Evening
  evening_at z = evening (take z.squares r.sheet.cells.depths) (take z.squares r.lasts) (take z.records r.records) (take z.began r.began) n.log

  abbrev come : ℕ → ℕ → ℕ → Log → Night
  come number next long log =
      record { more = every (eqb number 0 ∷ ltb next (length s) ∷ []); at = next; line = n.line + 1; length = long; heading = n.heading; log = log }

  come_same : {a a' b b' c c' : ℕ} {l l' : Log} → a ≡ a' → b ≡ b' → c ≡ c' → l ≡ l' → come a b c l ≡ come a' b' c' l'
  come_same {a} {a'} {b} {b'} {c} {c'} {l} {l'} e f g h =
      ap (λ (x : ℕ). come x b c l) e ∙ (ap (λ (x : ℕ). come a' x c l) f ∙ (ap (λ (x : ℕ). come a' b' x l) g ∙ ap (come a' b' c') h))

  pub night_taken :
      {z : Sizes} → SizesAre n.heading z → Fitting z r → is_left s n ≡ true → night_fits n r ≡ true → {t : LineTaken} {a : Night} {depths lasts records began old new : List ℕ} →
      length depths ≡ z.squares → length lasts ≡ z.squares → length records ≡ z.records → length began ≡ z.began →
      TakesLine (plan_at z) (given_at z) s n.at n.line (evening_at z) t (evening depths lasts records began t.log) old new → a ≡ night_with n t (length s) →
      GoesOn s n r a (depths ++ drop z.squares r.sheet.cells.depths) (lasts ++ drop z.squares r.lasts) (records ++ drop z.records r.records) (began ++ drop z.began r.began) old new
  unfolding night_after evening_after text_after
  night_taken {z} sz fit left fits {t} {a} {depths} {lasts} {records} {began} {old} {new} ld ll lr lb w e =
      let k : TakesLine (plan_held n.heading r) (given_held n.heading r) s n.at n.line (evening_held n.heading r n.log) t (evening depths lasts records began t.log) old new = subst (λ (y : Sizes). TakesLine (plan_at y) (given_at y) s n.at n.line (evening_at y) t (evening depths lasts records began t.log) old new) (sizes_same n.heading sz) w in
      let after : evening depths lasts records began t.log ≡ evening_after s n r = k.evening_is ∙ sym (pick_true _ _ left ∙ pick_true _ _ fits) in
      let long : t.length ≡ length (night_line s n r) = omega (arith, k.prints.wrote.next) in
      record {
        night_is = e ∙ (come_same k.number_is k.next_is long (ap (λ (x : Evening). x.log) k.evening_is) ∙ sym (pick_true _ _ left ∙ pick_true _ _ fits));
        depths_are = holds_part (squares n.heading.shape) depths r.sheet.cells.depths ld sz.squares_are fit.depths (ap (λ (x : Evening). x.depths) after);
        lasts_are = holds_part (squares n.heading.shape) lasts r.lasts ll sz.squares_are fit.lasts (ap (λ (x : Evening). x.lasts) after);
        records_are = holds_part (records_lent n.heading) records r.records lr sz.records_are fit.records (ap (λ (x : Evening). x.records) after);
        began_are = holds_part (rates_lent n.heading) began r.began lb sz.began_is fit.began (ap (λ (x : Evening). x.began) after);
        prints =
            subst (λ (j : ℕ). Prints (text_after s n r) old new j) (sym (ap (λ (x : Night). x.length) e))
            (subst (λ (x : List ℕ). Prints x old new t.length) (sym (pick_true _ _ left ∙ pick_true _ _ fits)) k.prints);
      }

-- ---- the beginning

zeros_same :
    {m b k s d m' b' k' s' d' r r' f f' : List ℕ} → m ≡ m' → b ≡ b' → k ≡ k' → s ≡ s' → d ≡ d' → r ≡ r' → f ≡ f' →
    rooms m b k s d r f ≡ rooms m' b' k' s' d' r' f'
zeros_same a b c d e f g = cc

abbrev pub zeros : ℕ → List ℕ
zeros n = replicate n 0

-- a room that was cleared
pub zeros_of : (n : ℕ) (old : List ℕ) {new : List ℕ} → length old ≡ n → new ≡ replicate (length old) 0 → new ≡ zeros n
zeros_of n old l e = e ∙ ap (λ (k : ℕ). replicate k 0) l

pub read_zero : {s : List ℕ} {x after : Rooms} {a : Sheet} → x ≡ program_rooms → Reads s x a after → Reads s program_rooms a after
read_zero {s} {after = after} {a} e f = subst (λ (y : Rooms). Reads s y a after) e f

pub read_as : {s : List ℕ} {before after : Rooms} {a a' : Sheet} → a ≡ a' → Reads s before a after → Reads s before a' after
read_as {s} {before} {after} e f = subst (λ (z : Sheet). Reads s before z after) e f

-- a sheet that was read has a fine shape of the program's squares
pub read_fine : {s : List ℕ} {h : Heading} {after : Rooms} → Reads s program_rooms (Read h) after → (ShapeInRange h.shape) × (squares h.shape ≤ program_squares)
unfolding heading_of
read_fine {s} {h} f =
    let w = well s program_rooms h f.answer in
    let e : h.shape ≡ shape_of s = ap (λ (z : Heading). z.shape) w.heading in
    let few = (rooms_cells (shape_of s) (line_one s).side program_rooms w.fine).0 in (
      subst ShapeInRange (sym e) (rooms-shape (shape_of s) (line_one s).side program_rooms w.fine),
      omega (arith, few, ap squares e, length-replicate {A = ℕ} program_squares 0),
    )

pub rooms_zero :
    {m b k s d r f : List ℕ} → m ≡ zeros program_squares → b ≡ zeros program_squares → k ≡ zeros program_squares → s ≡ zeros program_squares → d ≡ zeros program_squares →
    r ≡ zeros (table_room rain_kind) → f ≡ zeros (table_room inflow_kind) → rooms m b k s d r f ≡ program_rooms
rooms_zero a b c d e f g = zeros_same a b c d e f g

stores_same : {x x' : Rooms} {l l' c c' b b' : List ℕ} → x ≡ x' → l ≡ l' → c ≡ c' → b ≡ b' → stores x l c b ≡ stores x' l' c' b'
stores_same a b c d = cc

printed_as : (sheet log : List ℕ) (a : Night) {t old new : List ℕ} {k : ℕ} → t ≡ begun_text sheet log → a.length ≡ k → Prints t old new k → Prints (begun_text sheet log) old new a.length
printed_as sheet log a {t} {old} {new} e f w = subst (λ (y : List ℕ). Prints y old new a.length) e (subst (λ (j : ℕ). Prints t old new j) (sym f) w)

module _ (sheet log : List ℕ) {x : Rooms} {l c b old new : List ℕ} (zl : l ≡ zeros program_squares) (zc : c ≡ zeros most_numbers) (zb : b ≡ zeros (most_kept * most_hatches)) where
  pub begin_long : x ≡ program_rooms → most_text < length sheet → {a : Night} {k : ℕ} → a ≡ no_night k → Prints (refused_text 12 0) old new k → Begins sheet log a (stores x l c b) old new
  unfolding begun begun_text begun_stores
  begin_long z h {a} {k} e w =
      let f = lt-leb (length sheet) most_text h in
      let long : k ≡ length (refused_text 12 0) = omega (arith, w.wrote.next) in
      record {
        begun_is = e ∙ (ap no_night long ∙ sym (pick_false _ _ f));
        stores_are = stores_same (z ∙ sym (pick_false _ _ f)) zl zc zb;
        prints = printed_as sheet log a (sym (pick_false _ _ f)) (ap (λ (y : Night). y.length) e) w;
      }

  module _ (short : length sheet ≤ most_text) where
    pub begin_longer : x ≡ program_rooms → most_text < length log → {a : Night} {k : ℕ} → a ≡ no_night k → Prints (refused_text 12 0) old new k → Begins sheet log a (stores x l c b) old new
    unfolding begun begun_text begun_stores
    begin_longer z h {a} {k} e w =
        let t = le-leb (length sheet) most_text short in
        let f = lt-leb (length log) most_text h in
        let long : k ≡ length (refused_text 12 0) = omega (arith, w.wrote.next) in
        record {
          begun_is = e ∙ (ap no_night long ∙ sym (pick_true _ _ t ∙ pick_false _ _ f));
          stores_are = stores_same (z ∙ sym (pick_true _ _ t ∙ pick_false _ _ f)) zl zc zb;
          prints = printed_as sheet log a (sym (pick_true _ _ t ∙ pick_false _ _ f)) (ap (λ (y : Night). y.length) e) w;
        }

    module _ (shorter : length log ≤ most_text) where
      pub begin_refused :
          {number line : ℕ} → Reads sheet program_rooms (Refused number line) x → {a : Night} {k : ℕ} → a ≡ no_night k → Prints (refused_text number line) old new k →
          Begins sheet log a (stores x l c b) old new
      unfolding begun begun_text begun_stores sheet_begun sheet_begun_text
      begin_refused {number} {line} f {a} {k} e w =
          let t = le-leb (length sheet) most_text short in
          let u = le-leb (length log) most_text shorter in
          let long : k ≡ length (refused_text number line) = omega (arith, w.wrote.next) in
          record {
            begun_is = e ∙ (ap no_night long ∙ (ap (sheet_begun (length log)) f.answer ∙ sym (pick_true _ _ t ∙ pick_true _ _ u)));
            stores_are = stores_same (f.rooms_are ∙ (ap (λ (y : Sheet). rooms_after sheet y program_rooms) f.answer ∙ sym (pick_true _ _ t ∙ pick_true _ _ u))) zl zc zb;
            prints = printed_as sheet log a (ap sheet_begun_text f.answer ∙ sym (pick_true _ _ t ∙ pick_true _ _ u)) (ap (λ (y : Night). y.length) e) w;
          }

pub begin_opened :
    (sheet log : List ℕ) {x : Rooms} {l c b old : List ℕ} → l ≡ zeros program_squares → c ≡ zeros most_numbers → b ≡ zeros (most_kept * most_hatches) → length sheet ≤ most_text → length log ≤ most_text →
    {h : Heading} → Reads sheet program_rooms (Read h) x → {a : Night} → a ≡ first_night h (length log) → Begins sheet log a (stores x l c b) old old
unfolding begun begun_text begun_stores sheet_begun sheet_begun_text
begin_opened sheet log {x} {l} {c} {b} {old} zl zc zb short shorter {h} f {a} e =
    let t = le-leb (length sheet) most_text short in
    let u = le-leb (length log) most_text shorter in
    record {
      begun_is = e ∙ (ap (sheet_begun (length log)) f.answer ∙ sym (pick_true _ _ t ∙ pick_true _ _ u));
      stores_are = stores_same (f.rooms_are ∙ (ap (λ (y : Sheet). rooms_after sheet y program_rooms) f.answer ∙ sym (pick_true _ _ t ∙ pick_true _ _ u))) zl zc zb;
      prints =
          printed_as sheet log a (ap sheet_begun_text f.answer ∙ sym (pick_true _ _ t ∙ pick_true _ _ u)) (ap (λ (y : Night). y.length) e)
          (nothing_printed old refl);
    }
