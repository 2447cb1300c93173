-- Laws of the checks of a sheet: a fresh run's world, tables with a row too many, and what a passed check says.
-- Assumes nothing.
use mathlib.Core.Path.{◌≡◌, refl, sym, ap, ◌∙◌}
use mathlib.Core.Bool.{Bool, true, false, ◌&&◌}
use mathlib.Core.List.{List, [], ◌∷◌, ◌++◌}
use Prim.Native.Nat.{ℕ, zero, suc, ◌*◌, ◌/◌, ◌≤◌, ◌<◌, min}
use native.Mathlib.Nat.{not-suc-le-zero, le_of_suc-le-suc, div_self, mul-div_cancel_left}
use native.Mathlib.Decide.{dec_lt}
use native.Mathlib.Omega.{arith}
use lib.ListN.{length, get_or, take, drop, replicate, length-replicate}
use lib.Seq.{ext_get_or, get_or-take, length-take-le, take-append-le, take-length}
use borrow.Author.Tests.{lt-leb}
use Rattle.reckon.specs.Tests.{every, refusal}
use Rattle.reckon.specs.Lists.{placed, filled}
use Rattle.reckon.specs.Ranges.{most_table_rows}
use Rattle.reckon.specs.Tables.{rain_kind, inflow_kind, table_fine}
use Rattle.reckon.proofs.TestLaws.{every_fails}
use Rattle.reckon.proofs.ListLaws.{length-filled, filled_in, filled_skipped}
use Rattle.grid.specs.Squares.{squares}
use Rattle.grid.specs.Marks.{inflow_squares_fine}
use Rattle.grid.specs.declared.squares.Shape.{Shape}
use Rattle.rule.specs.declared.rules.Rules.{Rules}
use Rattle.ledger.specs.Runs.{World, world}
use Rattle.ledger.specs.Record.{record_size, room_slots}
use Rattle.ledger.specs.declared.runs.Run.{Run}
use Rattle.checks.specs.Refusals.{check_refusals, run_checks}
use Rattle.checks.specs.Fresh.{fresh_run}
use Rattle.text.specs.Reading.{most_fields}
use Rattle.sheet.specs.Lines.{rain_word, inflow_word}
use Rattle.sheet.specs.Sheet.{Cells, Rooms, cells_rooms, plan_in, given_in, no_lasts, no_records, checks_in, rows_read, table_rows, line_two, shape_of, rain_at, rain_rows, inflow_at, inflow_rows, bad_line, cells_filled, all_cells, no_cells, said, checks_of}
use Rattle.sheet.specs.Inner.Reading.{BodyIs, TextRead, Decided, number_of, looked_rows}
use Rattle.sheet.specs.declared.reading.Body.{Body}
use Rattle.sheet.proofs.RoomLaws.{cells_same, table_long}

-- ---- rooms of zeros

take_zeros : (n m : ℕ) → n ≤ m → take {A = ℕ} n (replicate m 0) ≡ replicate n 0
take_zeros zero m h = refl
take_zeros (suc n) zero h = absurd (not-suc-le-zero h)
take_zeros (suc n) (suc m) h = ap (λ (l : List ℕ). 0 ∷ l) (take_zeros n m (le_of_suc-le-suc h))

pub zeros_are : (n m : ℕ) {k : ℕ} → n ≡ k → k ≤ m → take {A = ℕ} n (replicate m 0) ≡ replicate k 0
zeros_are n m e h = take_zeros n m (omega (arith, e, h)) ∙ ap (λ (j : ℕ). replicate j 0) e

-- so many first numbers of a room that is as long as one of zeros
pub taken_long :
    {n size : ℕ} (room : List ℕ) → n ≤ size → length room ≡ length (replicate {A = ℕ} size 0) → n ≡ length (take n room)
taken_long {n} {size} room l e = sym (length-take-le n room (omega (arith, l, e, length-replicate {A = ℕ} size 0)))

-- the first numbers of a room into which a list was put are that list
pub take_put : (old new : List ℕ) (n : ℕ) → length new ≡ n → take n (placed old 0 new) ≡ new
unfolding placed
take_put old new n e =
    ap (λ (k : ℕ). take k (new ++ drop (length new) (drop 0 old))) (sym e)
    ∙ (take-append-le (length new) new (drop (length new) (drop 0 old)) (omega arith) ∙ take-length new)

-- ---- a fresh run's world

pub one_slot : (shape : Shape) (r : Rules) (held : Rooms) → room_slots (plan_in shape r held) (no_records shape r held) ≡ 1
unfolding room_slots
one_slot shape r held =
    ap (λ (k : ℕ). k / record_size (plan_in shape r held)) (length-replicate (record_size (plan_in shape r held)) 0) ∙ div_self (omega arith)

pub world_same : {d l l' c c' : List ℕ} {u u' : Run} → l ≡ l' → c ≡ c' → u ≡ u' → world d l c u ≡ world d l' c' u'
world_same e f g = cc

pub judge_is :
    {number : ℕ} {lasts records : List ℕ} {u : Run} (shape : Shape) (r : Rules) (held : Rooms) (end : ℕ) →
    number ≡ refusal (run_checks (plan_in shape r held) (given_in shape r held) end (world held.cells.depths lasts records u)) → u ≡ fresh_run r 1 →
    lasts ≡ no_lasts shape r held → records ≡ no_records shape r held → number ≡ checks_in shape r held end
unfolding checks_in
judge_is shape r held end e f l c =
    e
    ∙ ap (λ (w : World). refusal (run_checks (plan_in shape r held) (given_in shape r held) end w))
    (world_same l c (f ∙ ap (fresh_run r) (sym (one_slot shape r held))))

-- ---- tables with a row too many

-- the rows looked at, where a row too many is enough
module _ (s : List ℕ) (p : ℕ) (word : List ℕ) (width : ℕ) (few : width ≤ most_fields) (some : 0 < width) (rows : ℕ) where
  abbrev shown : List ℕ
  shown = table_rows s p word width (min rows looked_rows)

  shown_all : rows ≤ most_table_rows → shown ≡ table_rows s p word width rows
  shown_all h = ap (table_rows s p word width) (omega arith)

  long_is : (n : ℕ) → length (table_rows s p word width n) / width ≡ n
  long_is n = ap (λ (k : ℕ). k / width) (table_long s p word width few n) ∙ mul-div_cancel_left n some

  -- over 64 rows no table is fine, however many there are
  not_fine : (n : ℕ) → most_table_rows < n → (most : ℕ) (lead : ℕ) →
      table_fine (record { width = width; lead = lead; most = most }) (table_rows s p word width n) ≡ false
  unfolding table_fine
  not_fine n h most lead = every_fails _ 1 (lt-leb (length (table_rows s p word width n) / width) most_table_rows (omega (arith, h, long_is n)))

  -- what goes by a table that must be fine goes by the rows looked at
  pub looked_same :
      (most lead : ℕ) (a : Bool) (g : List ℕ → Bool) →
      (a && (table_fine (record { width = width; lead = lead; most = most }) shown && g shown)) ≡
      (a && (table_fine (record { width = width; lead = lead; most = most }) (table_rows s p word width rows) && g (table_rows s p word width rows)))
  looked_same most lead a g = go (dec_lt most_table_rows rows)
    where
      go :
          Dec (most_table_rows < rows) →
          (a && (table_fine (record { width = width; lead = lead; most = most }) shown && g shown)) ≡
          (a && (table_fine (record { width = width; lead = lead; most = most }) (table_rows s p word width rows) && g (table_rows s p word width rows)))
      go (yes h) = rw (not_fine (min rows looked_rows) (omega arith) most lead, not_fine rows h most lead)
      go (no h) = rw (shown_all (omega arith))

tables_same :
    (t t' u u' : List ℕ) (g : List ℕ → Bool) →
    ((a : Bool) (h : List ℕ → Bool) → (a && (table_fine rain_kind t && h t)) ≡ (a && (table_fine rain_kind t' && h t'))) →
    ((a : Bool) (h : List ℕ → Bool) → (a && (table_fine inflow_kind u && h u)) ≡ (a && (table_fine inflow_kind u' && h u'))) →
    every (table_fine rain_kind t ∷ table_fine inflow_kind u ∷ g u ∷ []) ≡ every (table_fine rain_kind t' ∷ table_fine inflow_kind u' ∷ g u' ∷ [])
unfolding every
tables_same t t' u u' g e f =
    e true (λ l. table_fine inflow_kind u && (g u && true)) ∙ f (table_fine rain_kind t') (λ l. g l && true)

-- two tables of which only the rows looked at are handed over
pub checks_looked :
    (shape : Shape) (r : Rules) (c : Cells) (t t' u u' : List ℕ) (end : ℕ) →
    ((a : Bool) (g : List ℕ → Bool) → (a && (table_fine rain_kind t && g t)) ≡ (a && (table_fine rain_kind t' && g t'))) →
    ((a : Bool) (g : List ℕ → Bool) → (a && (table_fine inflow_kind u && g u)) ≡ (a && (table_fine inflow_kind u' && g u'))) →
    checks_in shape r (record { cells = c; rain = t; inflow = u }) end ≡ checks_in shape r (record { cells = c; rain = t'; inflow = u' }) end
unfolding checks_in check_refusals
checks_looked shape r c t t' u u' end e f = rw (tables_same t t' u u' (inflow_squares_fine shape c.marks) e f)

-- ---- what was read, judged

rows_at :
    (s word : List ℕ) (width : ℕ) {rows at place : ℕ} → rows ≡ rows_read s place word width → at ≡ place →
    rows ≡ rows_read s at word width
rows_at s word width e h = e ∙ ap (λ (p : ℕ). rows_read s p word width) (sym h)

module _ {s : List ℕ} {b : Body} (i : BodyIs s b) where
  pub rain_rows_at : b.rain_rows ≡ rows_read s b.rain_at rain_word rain_kind.width
  rain_rows_at = rows_at s rain_word rain_kind.width i.rain_rows_are i.rain_at_is

  pub inflow_rows_at : b.inflow_rows ≡ rows_read s b.inflow_at inflow_word inflow_kind.width
  inflow_rows_at = rows_at s inflow_word inflow_kind.width i.inflow_rows_are i.inflow_at_is

-- a table that was put into a room, and its first numbers
pub table_taken :
    (s : List ℕ) (p : ℕ) (word : List ℕ) (width : ℕ) → width ≤ most_fields → (old : List ℕ) (rows : ℕ) {room : List ℕ} →
    room ≡ placed old 0 (table_rows s p word width rows) → take (width * rows) room ≡ table_rows s p word width rows
table_taken s p word width few old rows e =
    ap (take (width * rows)) e ∙ take_put old (table_rows s p word width rows) (width * rows) (table_long s p word width few rows)

checks_same :
    {shape shape' : Shape} {r r' : Rules} {c c' : Cells} {t t' u u' : List ℕ} {end end' : ℕ} → shape ≡ shape' → r ≡ r' → c ≡ c' → t ≡ t' →
    u ≡ u' → end ≡ end' →
    checks_in shape r (record { cells = c; rain = t; inflow = u }) end ≡
    checks_in shape' r' (record { cells = c'; rain = t'; inflow = u' }) end'
checks_same e f g h i j = cc

shown-at :
    (s : List ℕ) {p place rows all n : ℕ} (word : List ℕ) (width : ℕ) → p ≡ place → rows ≡ min n looked_rows → n ≡ all →
    table_rows s p word width rows ≡ table_rows s place word width (min all looked_rows)
shown-at s word width e f g = cc

pub body_judged :
    (s : List ℕ) {shape : Shape} {b : Body} {c : Cells} {t u : List ℕ} {rows frows number : ℕ} → shape ≡ shape_of s → BodyIs s b →
    c ≡ (said s).cells → rows ≡ min b.rain_rows looked_rows → frows ≡ min b.inflow_rows looked_rows →
    t ≡ table_rows s b.rain_at rain_word rain_kind.width rows → u ≡ table_rows s b.inflow_at inflow_word inflow_kind.width frows →
    number ≡ checks_in shape b.rules (record { cells = c; rain = t; inflow = u }) b.end → number ≡ checks_of s
body_judged s e i c h g p q n =
    n
    ∙ (checks_same e i.rules_are c (p ∙ shown-at s rain_word rain_kind.width i.rain_at_is h i.rain_rows_are)
    (q ∙ shown-at s inflow_word inflow_kind.width i.inflow_at_is g i.inflow_rows_are) i.end_is
    ∙ checks_looked (shape_of s) (line_two s).rules (said s).cells _ _ _ _ (line_two s).end
    (looked_same s (rain_at s) rain_word rain_kind.width (omega arith) (omega arith) (rain_rows s) rain_kind.most rain_kind.lead)
    (looked_same s (inflow_at s) inflow_word inflow_kind.width (omega arith) (omega arith) (inflow_rows s) inflow_kind.most inflow_kind.lead))

-- ---- the first numbers of rooms that were filled

module _ (n : ℕ) (skipped : ℕ → Bool) (f : ℕ → ℕ) (old : List ℕ) (h : n ≤ length old) where
  take-filled : take n (filled n skipped f old) ≡ filled n skipped f (take n old)
  take-filled =
      ext_get_or 0 _ _ (long ∙ sym (length-filled n skipped f (take n old) ∙ first)) (λ i l. at i (omega (arith, l, long)) (skipped i) refl)
    where
      first : length (take n old) ≡ n
      first = length-take-le n old h

      long : length (take n (filled n skipped f old)) ≡ n
      long = length-take-le n (filled n skipped f old) (omega (arith, h, length-filled n skipped f old))

      at : (i : ℕ) → i < n → (b : Bool) → skipped i ≡ b → get_or (take n (filled n skipped f old)) i 0 ≡ get_or (filled n skipped f (take n old)) i 0
      at i l true e =
          get_or-take n (filled n skipped f old) i 0 l
          ∙ (filled_skipped n skipped f old i (omega arith) e
          ∙ (sym (get_or-take n old i 0 l) ∙ sym (filled_skipped n skipped f (take n old) i (omega (arith, l, first)) e)))
      at i l false e =
          get_or-take n (filled n skipped f old) i 0 l
          ∙ (filled_in n skipped f old i (omega arith) l e ∙ sym (filled_in n skipped f (take n old) i (omega (arith, l, first)) l e))

-- rooms of m zeros, of which n numbers are looked at
module _ (n : ℕ) (skipped : ℕ → Bool) (f : ℕ → ℕ) (m : ℕ) (h : n ≤ m) where
  zeros_filled : take n (filled n skipped f (replicate m 0)) ≡ filled n skipped f (replicate n 0)
  zeros_filled =
      take-filled n skipped f (replicate m 0) (omega (arith, h, length-replicate m (the_zero)))
      ∙ ap (filled n skipped f) (take_zeros n m h)
    where
      the_zero : ℕ
      the_zero = 0

-- the first numbers of rooms of zeros that were filled are what the sheet says
pub said_from :
    (s : List ℕ) (size : ℕ) {n : ℕ} {c : Cells} → n ≡ squares (shape_of s) → squares (shape_of s) ≤ size → c ≡ all_cells s (no_cells size) →
    cells_rooms (take n c.marks) (take n c.beds) (take n c.roughness) (take n c.rates) (take n c.depths) ≡ (said s).cells
unfolding cells_filled
said_from s size {n} {c} e h g =
    cells_same (part (λ r. r.marks) _ _ refl) (part (λ r. r.beds) _ _ refl) (part (λ r. r.roughness) _ _ refl) (part (λ r. r.rates) _ _ refl)
    (part (λ r. r.depths) _ _ refl)
  where
    part :
        (room : Cells → List ℕ) (skipped : ℕ → Bool) (f : ℕ → ℕ) →
        room (all_cells s (no_cells size)) ≡ filled (squares (shape_of s)) skipped f (replicate size 0) →
        take n (room c) ≡ filled (squares (shape_of s)) skipped f (replicate (squares (shape_of s)) 0)
    part room skipped f q =
        ap (λ (x : Cells). take n (room x)) g
        ∙ (ap (take n) q
        ∙ (ap (λ (j : ℕ). take j (filled (squares (shape_of s)) skipped f (replicate size 0))) e
        ∙ zeros_filled (squares (shape_of s)) skipped f size h))

-- ---- the verdict

pub decided_bad : {s : List ℕ} {b : Body} {before after : Cells} → TextRead s b before after → (b.bad ≡ 0 → ⊥) → Decided s (record { number = 12; line = b.bad; body = b })
unfolding number_of
decided_bad {s} {b} t d =
    record { line_is = t.bad_is; number_is = go (bad_line s) t.bad_is; body_is = λ z. absurd (omega (arith, z)) }
  where
    go : (k : ℕ) → b.bad ≡ k → 12 ≡ number_of k (checks_of s)
    go zero e = absurd (d e)
    go (suc k) e = refl

pub decided_good :
    {s : List ℕ} {b : Body} {before after : Cells} {number : ℕ} → TextRead s b before after → b.bad ≡ 0 → number ≡ checks_of s →
    Decided s (record { number = number; line = 0; body = b })
unfolding number_of
decided_good {s} {b} t z e =
    let none : bad_line s ≡ 0 = sym t.bad_is ∙ z in
    record { line_is = sym none; number_is = e ∙ ap (λ (k : ℕ). number_of k (checks_of s)) (sym none); body_is = λ y. t.body_is z }
