-- The program's calls, one after the other, print the log's text: each prints the next line of it, and no line is left when they stop.
-- Assumes nothing.
use mathlib.Core.Path.{◌≡◌, refl, sym, ap, ap₂, subst, ◌∙◌}
use mathlib.Core.Bool.{Bool, true, false}
use mathlib.Core.List.{List, [], ◌∷◌, ◌++◌, append-nil}
use Prim.Native.Nat.{ℕ, ◌+◌, ◌*◌, ◌≤◌, ◌<◌}
use native.Mathlib.Decide.{dec_lt, ℕ_discrete}
use native.Mathlib.Omega.{arith}
use lib.Dec.{ltb, leb}
use lib.ListN.{length, take, replicate, length-replicate}
use borrow.Author.Tests.{eq-eqb, ne_eqb, lt-ltb, le-ltb, le-leb, leb-true, eqb-true}
use Rattle.reckon.specs.Tests.{pick}
use Rattle.reckon.specs.Lists.{placed}
use Rattle.reckon.specs.Ranges.{most_table_rows}
use Rattle.reckon.specs.Tables.{rain_kind, inflow_kind}
use Rattle.reckon.proofs.ListLaws.{length-filled, length-placed}
use Rattle.sheet.proofs.RoomLaws.{table_long}
use native.Mathlib.Nat.{mul-le-mul_left}
use Rattle.reckon.proofs.TestLaws.{pick_true, pick_false, not_both, every_each, each_every, every_fails}
use Rattle.grid.specs.Squares.{squares, shape_fine}
use Rattle.ledger.specs.Runs.{Plan, plan}
use Rattle.checks.specs.Given.{Given, ground, given}
use Rattle.sheet.specs.Lines.{rain_word, inflow_word}
use Rattle.sheet.specs.Sheet.{Rooms, Cells, cells_rooms, plan_in, given_in, line_one, shape_of, rain_at, rain_rows, inflow_at, inflow_rows, said, rooms_filled, cells_filled, rooms_after, rooms_fine, heading_of, sheet_of}
use Rattle.sheet.specs.declared.reading.Heading.{Heading}
use Rattle.sheet.specs.declared.reading.Sheet.{Sheet}
use Rattle.sheet.specs.declared.reading.Sheet.TheVariants.{Read, Refused}
use Rattle.sheet.proofs.JudgeLaws.{said_from, table_taken, take_put, zeros_are}
use Rattle.sheet.proofs.SheetLaws.{Well, well, rooms_cells, rain_few, inflow_few}
use Rattle.answer.specs.Printed.{refused_text}
use Rattle.programs.specs.Program.{Prints, most_text, program_rooms, program_squares}
use Rattle.hatches.specs.Lines.{log_line}
use Rattle.hatches.specs.Log.{Evening, evening, most_hatches, most_kept, most_numbers}
use Rattle.evenings.specs.Program.{lines_from, first_log, first_evening, sheet_log_text, hatchlog_text, Stores, stores, records_lent, rates_lent, plan_held, given_held, evening_held, is_left, night_fine, rooms_fit, night_fits, night_over, night_number, night_evening, night_line, night_next, text_after, evening_after, night_after, first_night, no_night, sheet_begun, sheet_begun_text, begun, begun_text, begun_stores, GoesOn}
use Rattle.hatches.specs.declared.log.Log.{Log}
use Rattle.evenings.specs.declared.program.Night.{Night}
use Rattle.evenings.proofs.NightLaws.{left_at, kept_fit, kept_few}
use Rattle.demands.specs.HatchLog.{stores_with, Logged, HatchLogRuns}
use Rattle.demands.specs.HatchLog.Logged.{over, on}
use Rattle.demands.proofs.LinePlaces.{zero_forth, from_over, from_refused, from_taken}

-- a text that was put is what stands at the start of the room
put_is : {t old new : List ℕ} {k : ℕ} → Prints t old new k → take k new ≡ t
put_is {t} {old} {new} {k} w = ap (take k) w.wrote.room ∙ take_put old t k (omega (arith, w.wrote.next))

-- what is still to be printed
abbrev rest : List ℕ → Night → Stores → List ℕ
rest s n r = pick (is_left s n) (lines_from (plan_held n.heading r) (given_held n.heading r) s n.at n.line (evening_held n.heading r n.log)) []

not_left : (s : List ℕ) (n : Night) → n.more ≡ false → is_left s n ≡ false
unfolding is_left
not_left s n e = every_fails _ 0 e

evening_same :
    {d d' l l' c c' b b' : List ℕ} {u u' : Log} → d ≡ d' → l ≡ l' → c ≡ c' → b ≡ b' → u ≡ u' → evening d l c b u ≡ evening d' l' c' b' u'
evening_same a b c d e = cc

-- ---- one call

module _ {s : List ℕ} {n a : Night} {r : Stores} {depths lasts records began old new : List ℕ} (w : GoesOn s n r a depths lasts records began old new) (fits : night_fits n r ≡ true) where
  abbrev P : Plan
  P = plan_held n.heading r

  abbrev G : Given
  G = given_held n.heading r

  abbrev E : Evening
  E = evening_held n.heading r n.log

  abbrev R : Stores
  R = stores_with r depths lasts records began

  text_is : take a.length new ≡ text_after s n r
  text_is = put_is w.prints

  module _ (l : is_left s n ≡ true) where
    night_is : a ≡ night_next s n r
    unfolding night_after
    night_is = w.night_is ∙ (pick_true _ _ l ∙ pick_true _ _ fits)

    printed : take a.length new ≡ night_line s n r
    unfolding text_after
    printed = text_is ∙ (pick_true _ _ l ∙ pick_true _ _ fits)

    after_is : evening_after s n r ≡ night_evening s n r
    unfolding evening_after
    after_is = pick_true _ _ l ∙ pick_true _ _ fits

    -- what is lent to the next line is what this one left
    next_evening : evening_held n.heading R (night_evening s n r).log ≡ night_evening s n r
    next_evening =
        evening_same (w.depths_are.first ∙ ap (λ (x : Evening). x.depths) after_is) (w.lasts_are.first ∙ ap (λ (x : Evening). x.lasts) after_is)
        (w.records_are.first ∙ ap (λ (x : Evening). x.records) after_is) (w.began_are.first ∙ ap (λ (x : Evening). x.began) after_is) refl

    number_of : Dec (night_number s n r ≡ 0) → rest s n r ≡ night_line s n r ++ rest s (night_next s n r) R
    unfolding is_left
    number_of (no d) =
        let more : (night_next s n r).more ≡ false = every_fails _ 0 (ne_eqb _ _ d) in
        pick_true _ _ l
        ∙ (from_refused P G s n.at n.line E (left_at s n l) d
        ∙ ap (λ (t : List ℕ). night_line s n r ++ t) (sym (pick_false _ _ (not_left s (night_next s n r) more))))
    number_of (yes z) = go (dec_lt (log_line s n.at).next (length s))
      where
        whole : rest s n r ≡ night_line s n r ++ lines_from P G s (log_line s n.at).next (n.line + 1) (night_evening s n r)
        whole = pick_true _ _ l ∙ from_taken P G s n.at n.line E (left_at s n l) z

        go : Dec ((log_line s n.at).next < length s) → rest s n r ≡ night_line s n r ++ rest s (night_next s n r) R
        go (yes h) =
            let t : ltb (log_line s n.at).next (length s) ≡ true = lt-ltb _ _ h in
            let left : is_left s (night_next s n r) ≡ true = each_every _ (each_every _ (eq-eqb _ _ z, (t, tt)), (t, tt)) in
            whole
            ∙ ap (λ (t : List ℕ). night_line s n r ++ t)
            (ap (lines_from P G s (log_line s n.at).next (n.line + 1)) (sym next_evening) ∙ sym (pick_true _ _ left))
        go (no h) =
            let o : length s ≤ (log_line s n.at).next = omega arith in
            let f : ltb (log_line s n.at).next (length s) ≡ false = le-ltb _ _ o in
            let left : is_left s (night_next s n r) ≡ false = every_fails _ 1 f in
            whole
            ∙ ap (λ (t : List ℕ). night_line s n r ++ t)
            (from_over P G s (log_line s n.at).next (n.line + 1) (night_evening s n r) (omega arith) ∙ sym (pick_false _ _ left))

    -- the rooms fit the next line too
    next_fits : (night_next s n r).more ≡ true → night_fits (night_next s n r) R ≡ true
    unfolding night_fits night_fine rooms_fit
    next_fits more =
        let both = every_each _ fits in
        let fine = every_each _ both.0 in
        let room = every_each _ both.1.0 in
        let z : night_number s n r ≡ 0 = eqb-true _ _ (every_each _ more).0 in
        let forth = zero_forth P G s n.at E z in
        let line : leb (n.line + 1) ((log_line s n.at).next + 1) ≡ true = le-leb (n.line + 1) ((log_line s n.at).next + 1) (omega (arith, forth, leb-true n.line (n.at + 1) fine.1.1.1.1.0)) in
        each_every _ (
          each_every _ (fine.0, (fine.1.0, (fine.1.1.0, (fine.1.1.1.0, (line, tt))))),
          (
            each_every _ (
              room.0,
              (
                room.1.0,
                (
                  room.1.1.0,
                  (
                    room.1.1.1.0,
                    (
                      room.1.1.1.1.0,
                      (
                        room.1.1.1.1.1.0,
                        (
                          still (squares n.heading.shape) w.depths_are.long room.1.1.1.1.1.1.0,
                          (
                            still (squares n.heading.shape) w.lasts_are.long room.1.1.1.1.1.1.1.0,
                            (still (records_lent n.heading) w.records_are.long room.1.1.1.1.1.1.1.1.0, (still (rates_lent n.heading) w.began_are.long room.1.1.1.1.1.1.1.1.1.0, tt)),
                          ),
                        ),
                      ),
                    ),
                  ),
                ),
              ),
            ),
            tt,
          ),
        )
      where
        still : (k : ℕ) {x y : ℕ} → x ≡ y → leb k y ≡ true → leb k x ≡ true
        still k e t = ap (leb k) e ∙ t

  -- where no line is left
  over_is : is_left s n ≡ false → a ≡ night_over n 0
  unfolding night_after
  over_is l = w.night_is ∙ pick_false _ _ l

  nothing : is_left s n ≡ false → take a.length new ≡ []
  unfolding text_after
  nothing l = text_is ∙ pick_false _ _ l

  not_more : is_left s n ≡ false → a.more ≡ false
  not_more l = ap (λ (x : Night). x.more) (over_is l)

  -- a call prints the first of what is left
  prints_first : rest s n r ≡ take a.length new ++ rest s a R
  prints_first = go (is_left s n) refl
    where
      go : (b : Bool) → is_left s n ≡ b → rest s n r ≡ take a.length new ++ rest s a R
      go true l =
          number_of l (ℕ_discrete (night_number s n r) 0)
          ∙ ap₂ (λ (t : List ℕ) (x : Night). t ++ rest s x R) (sym (printed l)) (sym (night_is l))
      go false l =
          pick_false _ _ l
          ∙ (sym (pick_false _ _ (not_left s a (not_more l))) ∙ ap (λ (t : List ℕ). t ++ rest s a R) (sym (nothing l)))

  fits_again : a.more ≡ true → night_fits a R ≡ true
  fits_again m = go (is_left s n) refl
    where
      go : (b : Bool) → is_left s n ≡ b → night_fits a R ≡ true
      go true l =
          let e = night_is l in
          subst (λ (x : Night). night_fits x R ≡ true) (sym e) (next_fits l (ap (λ (x : Night). x.more) (sym e) ∙ m))
      go false l = not_both m (not_more l)

-- ---- all calls

prints_rest : {s : List ℕ} {n : Night} {r : Stores} {out : List ℕ} → Logged s n r out → (n.more ≡ true → night_fits n r ≡ true) → out ≡ rest s n r
prints_rest {s} {n} (over e) f = sym (pick_false _ _ (not_left s n e))
prints_rest (on {a = a} {new = new} {rest = out} m w more) f =
    ap (λ (t : List ℕ). take a.length new ++ t) (prints_rest more (λ h. fits_again w (f m) h)) ∙ sym (prints_first w (f m))

-- ---- the beginning

abbrev zeros : ℕ → List ℕ
zeros n = replicate n 0

module _ (sheet log : List ℕ) (h : Heading) (e : Read h ≡ sheet_of sheet program_rooms) where
  read_well : Well sheet program_rooms h
  read_well = well sheet program_rooms h e

  abbrev opened : Stores
  opened = stores (rooms_filled sheet program_rooms) (zeros program_squares) (zeros most_numbers) (zeros (most_kept * most_hatches))

  shape_is : h.shape ≡ shape_of sheet
  unfolding heading_of
  shape_is = ap (λ (z : Heading). z.shape) read_well.heading

  rain_is : h.rain_rows ≡ rain_rows sheet
  unfolding heading_of
  rain_is = ap (λ (z : Heading). z.rain_rows) read_well.heading

  inflow_is : h.inflow_rows ≡ inflow_rows sheet
  unfolding heading_of
  inflow_is = ap (λ (z : Heading). z.inflow_rows) read_well.heading

  few : squares (shape_of sheet) ≤ program_squares
  few = omega (arith, (rooms_cells (shape_of sheet) (line_one sheet).side program_rooms read_well.fine).0, length-replicate {A = ℕ} program_squares 0)

  few_here : squares h.shape ≤ program_squares
  few_here = omega (arith, few, ap squares shape_is)

  -- of each room the numbers that were read
  abbrev lent_cells : Cells
  lent_cells =
      let c = (rooms_filled sheet program_rooms).cells in
      let n = squares h.shape in
      cells_rooms (take n c.marks) (take n c.beds) (take n c.roughness) (take n c.rates) (take n c.depths)

  cells_are : lent_cells ≡ (said sheet).cells
  unfolding rooms_filled
  cells_are = said_from sheet program_squares (ap squares shape_is) few refl

  rain_are : take (rain_kind.width * h.rain_rows) (rooms_filled sheet program_rooms).rain ≡ (said sheet).rain
  unfolding rooms_filled
  rain_are =
      ap (λ (j : ℕ). take (rain_kind.width * j) (rooms_filled sheet program_rooms).rain) rain_is
      ∙ table_taken sheet (rain_at sheet) rain_word rain_kind.width (omega arith) _ (rain_rows sheet) refl

  inflow_are : take (inflow_kind.width * h.inflow_rows) (rooms_filled sheet program_rooms).inflow ≡ (said sheet).inflow
  unfolding rooms_filled
  inflow_are =
      ap (λ (j : ℕ). take (inflow_kind.width * j) (rooms_filled sheet program_rooms).inflow) inflow_is
      ∙ table_taken sheet (inflow_at sheet) inflow_word inflow_kind.width (omega arith) _ (inflow_rows sheet) refl

  plan_is : plan_held h opened ≡ plan_in h.shape h.rules (said sheet)
  plan_is = ap (λ (c : Cells). plan h.shape c.marks) cells_are

  given_is : given_held h opened ≡ given_in h.shape h.rules (said sheet)
  given_is =
      ap
      (λ (c : Cells).
      given (ground h.rules c.beds c.roughness c.rates) (take (rain_kind.width * h.rain_rows) (rooms_filled sheet program_rooms).rain) (take (inflow_kind.width * h.inflow_rows) (rooms_filled sheet program_rooms).inflow))
      cells_are
      ∙ ap₂ (λ (t u : List ℕ). given (ground h.rules (said sheet).cells.beds (said sheet).cells.roughness (said sheet).cells.rates) t u) rain_are inflow_are

  evening_is : evening_held h opened (first_log h) ≡ first_evening h (said sheet)
  evening_is =
      evening_same (ap (λ (c : Cells). c.depths) cells_are) (zeros_are (squares h.shape) program_squares refl few_here)
      (zeros_are (records_lent h) most_numbers refl (kept_fit h.shape)) (zeros_are (rates_lent h) (most_kept * most_hatches) refl (omega (arith, kept_few h.shape))) refl

  first_rest : rest log (first_night h (length log)) opened ≡ sheet_log_text sheet log (Read h)
  unfolding is_left sheet_log_text
  first_rest = go (dec_lt 0 (length log))
    where
      same : lines_from (plan_held h opened) (given_held h opened) log 0 1 (evening_held h opened (first_log h))
          ≡ lines_from (plan_in h.shape h.rules (said sheet)) (given_in h.shape h.rules (said sheet)) log 0 1 (first_evening h (said sheet))
      same =
          ap₂ (λ (p : Plan) (g : Given). lines_from p g log 0 1 (evening_held h opened (first_log h))) plan_is given_is
          ∙ ap (lines_from (plan_in h.shape h.rules (said sheet)) (given_in h.shape h.rules (said sheet)) log 0 1) evening_is

      go : Dec (0 < length log) → rest log (first_night h (length log)) opened
          ≡ lines_from (plan_in h.shape h.rules (said sheet)) (given_in h.shape h.rules (said sheet)) log 0 1 (first_evening h (said sheet))
      go (yes l) =
          let t : ltb 0 (length log) ≡ true = lt-ltb _ _ l in
          pick_true _ _ (each_every (ltb 0 (length log) ∷ ltb 0 (length log) ∷ []) (t, (t, tt))) ∙ same
      go (no l) =
          let o : length log ≤ 0 = omega arith in
          let f : ltb 0 (length log) ≡ false = le-ltb _ _ o in
          pick_false _ _ (every_fails (ltb 0 (length log) ∷ ltb 0 (length log) ∷ []) 0 f)
          ∙ sym (from_over (plan_in h.shape h.rules (said sheet)) (given_in h.shape h.rules (said sheet)) log 0 1 (first_evening h (said sheet)) o)

  first_fine : night_fine (first_night h (length log)) ≡ true
  unfolding night_fine rooms_fine
  first_fine =
      let shape : shape_fine h.shape ≡ true = ap shape_fine shape_is ∙ (every_each _ read_well.fine).0 in
      each_every _ (
        shape,
        (
          le-leb (squares h.shape) program_squares few_here,
          (
            le-leb h.rain_rows most_table_rows (omega (arith, rain_is, rain_few sheet read_well.checks)),
            (le-leb h.inflow_rows most_table_rows (omega (arith, inflow_is, inflow_few sheet read_well.checks)), (le-leb 1 (0 + 1) (omega arith), tt)),
          ),
        ),
      )

  first_fits : night_fits (first_night h (length log)) opened ≡ true
  unfolding night_fits rooms_fit rooms_filled cells_filled
  first_fits =
      each_every _ (
        first_fine,
        (
          each_every _ (
            enough (length (rooms_filled sheet program_rooms).cells.marks) (length-filled _ _ _ _),
            (
              enough (length (rooms_filled sheet program_rooms).cells.beds) (length-filled _ _ _ _),
              (
                enough (length (rooms_filled sheet program_rooms).cells.roughness) (length-filled _ _ _ _),
                (
                  enough (length (rooms_filled sheet program_rooms).cells.rates) (length-filled _ _ _ _),
                  (
                    table rain_kind.width (said sheet).rain rain_is (rain_few sheet read_well.checks) (table_long sheet (rain_at sheet) rain_word rain_kind.width (omega arith) (rain_rows sheet)),
                    (
                      table inflow_kind.width (said sheet).inflow inflow_is (inflow_few sheet read_well.checks) (table_long sheet (inflow_at sheet) inflow_word inflow_kind.width (omega arith) (inflow_rows sheet)),
                      (
                        enough (length (rooms_filled sheet program_rooms).cells.depths) (length-filled _ _ _ _),
                        (
                          enough (length (zeros program_squares)) refl,
                          (
                            le-leb (records_lent h) (length (zeros most_numbers)) (omega (arith, kept_fit h.shape, length-replicate {A = ℕ} most_numbers 0)),
                            (le-leb (rates_lent h) (length (zeros (most_kept * most_hatches))) (omega (arith, kept_few h.shape, length-replicate {A = ℕ} (most_kept * most_hatches) 0)), tt),
                          ),
                        ),
                      ),
                    ),
                  ),
                ),
              ),
            ),
          ),
          tt,
        ),
      )
    where
      enough : (k : ℕ) → k ≡ length (zeros program_squares) → leb (squares h.shape) k ≡ true
      enough k l = le-leb (squares h.shape) k (omega (arith, l, few_here, length-replicate {A = ℕ} program_squares 0))

      table : (width : ℕ) (t : List ℕ) {rows rows' : ℕ} → rows ≡ rows' → rows' ≤ most_table_rows → length t ≡ width * rows' →
          leb (width * rows) (length (placed (zeros (width * most_table_rows)) 0 t)) ≡ true
      table width t {rows} {rows'} a b c =
          let fit : width * rows' ≤ width * most_table_rows = mul-le-mul_left width b in
          let same : width * rows ≡ width * rows' = ap (λ (k : ℕ). width * k) a in
          let long : length (placed (zeros (width * most_table_rows)) 0 t) ≡ length (zeros (width * most_table_rows)) = length-placed (zeros (width * most_table_rows)) 0 t (omega (arith, fit, c, length-replicate {A = ℕ} (width * most_table_rows) 0)) in
          le-leb (width * rows) (length (placed (zeros (width * most_table_rows)) 0 t)) (omega (arith, same, fit, long, length-replicate {A = ℕ} (width * most_table_rows) 0))

-- ---- the whole

no_rest : (log : List ℕ) (k : ℕ) (r : Stores) → rest log (no_night k) r ≡ []
no_rest log k r = pick_false _ _ (not_left log (no_night k) refl)

module _ (sheet log : List ℕ) where
  abbrev cleared : Rooms → Stores
  cleared x = stores x (zeros program_squares) (zeros most_numbers) (zeros (most_kept * most_hatches))

  begun_whole : (begun_text sheet log ++ rest log (begun sheet log) (begun_stores sheet log) ≡ hatchlog_text sheet log) ×
      ((begun sheet log).more ≡ true → night_fits (begun sheet log) (begun_stores sheet log) ≡ true)
  unfolding begun begun_text begun_stores hatchlog_text sheet_begun sheet_begun_text rooms_after sheet_log_text pick
  begun_whole = go (leb (length sheet) most_text) (leb (length log) most_text) (sheet_of sheet program_rooms) refl
    where
      refused : (t : List ℕ) (k : ℕ) (r : Stores) → (t ++ rest log (no_night k) r ≡ t) × ((no_night k).more ≡ true → night_fits (no_night k) r ≡ true)
      refused t k r = (ap (λ (u : List ℕ). t ++ u) (no_rest log k r) ∙ append-nil t, λ m. not_both m refl)

      go : (a b : Bool) (x : Sheet) → sheet_of sheet program_rooms ≡ x →
          (pick a (pick b (sheet_begun_text x) (refused_text 12 0)) (refused_text 12 0)
          ++ rest log (pick a (pick b (sheet_begun (length log) x) (no_night (length (refused_text 12 0)))) (no_night (length (refused_text 12 0))))
          (cleared (pick a (pick b (rooms_after sheet x program_rooms) program_rooms) program_rooms))
          ≡ pick a (pick b (sheet_log_text sheet log x) (refused_text 12 0)) (refused_text 12 0)) ×
          ((pick a (pick b (sheet_begun (length log) x) (no_night (length (refused_text 12 0)))) (no_night (length (refused_text 12 0)))).more ≡ true →
          night_fits (pick a (pick b (sheet_begun (length log) x) (no_night (length (refused_text 12 0)))) (no_night (length (refused_text 12 0))))
          (cleared (pick a (pick b (rooms_after sheet x program_rooms) program_rooms) program_rooms)) ≡ true)
      go false b x e = refused (refused_text 12 0) _ _
      go true false x e = refused (refused_text 12 0) _ _
      go true true (Refused number line) e = refused (refused_text number line) _ _
      go true true (Read h) e = (first_rest sheet log h (sym e), λ m. first_fits sheet log h (sym e))

pub hatch_log_runs : HatchLogRuns
hatch_log_runs =
    record {
      prints = λ sheet log a r old new out b more.
          let w = begun_whole sheet log in
          let fits : a.more ≡ true → night_fits a r ≡ true =
          λ m.
          subst (λ (x : Stores). night_fits a x ≡ true) (sym b.stores_are)
          (subst (λ (x : Night). night_fits x (begun_stores sheet log) ≡ true) (sym b.begun_is) (w.1 (ap (λ (x : Night). x.more) (sym b.begun_is) ∙ m))) in
          ap₂ (λ (t u : List ℕ). t ++ u) (put_is b.prints) (prints_rest more fits)
          ∙ (ap₂ (λ (n : Night) (x : Stores). begun_text sheet log ++ rest log n x) b.begun_is b.stores_are ∙ w.0);
    }
