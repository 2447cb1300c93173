-- Laws of a run with its peaks: the rooms are judged first, then rows 1 to 6, and then it is the plain run; and the run of a sheet.
-- Assumes nothing.
use mathlib.Core.Path.{◌≡◌, refl, sym, ap, subst, ◌∙◌}
use mathlib.Core.Bool.{Bool, true, false}
use mathlib.Core.List.{List, [], ◌∷◌, ◌++◌}
use Prim.Native.Nat.{ℕ}
use native.Mathlib.Omega.{arith}
use lib.Dec.{eqb}
use lib.ListN.{length, take, drop}
use lib.Seq.{length-take-le, drop_at}
use borrow.Author.Tests.{eq-eqb, ne_eqb, eqb-true}
use Rattle.reckon.specs.Tests.{Row, pick, every, refusal, ◌unless◌}
use Rattle.reckon.proofs.TestLaws.{pick_true, pick_false, each_every, every_each}
use Rattle.reckon.proofs.ListLaws.{length-filled}
use Rattle.grid.specs.Squares.{ShapeInRange, squares, shape_fine}
use Rattle.grid.proofs.SquareLaws.{fine_of_ranges}
use Rattle.ledger.specs.Runs.{Plan, World, world}
use Rattle.ledger.specs.declared.runs.Run.{Run}
use Rattle.checks.specs.Given.{Given}
use Rattle.checks.specs.Refusals.{run_checks}
use Rattle.checks.specs.Fresh.{fresh_run}
use Rattle.flood.specs.Run.{Ended, ended, go_on, run_to}
use Rattle.flood.specs.declared.run.Ran.{Ran}
use Rattle.flood.proofs.RunToLaws.{stops, run_passed}
use Rattle.sheet.specs.Sheet.{Rooms, plan_in, given_in, start_in, no_lasts, no_records, checks_in}
use Rattle.sheet.specs.declared.reading.Heading.{Heading}
use Rattle.sheet.proofs.JudgeLaws.{one_slot, world_same}
use Rattle.programs.specs.Program.{sheet_run}
use Rattle.programs.specs.Inner.Held.{Holds, parts_of}
use Rattle.programs.proofs.HeldLaws.{parts_at, first_part}
use Rattle.peaks.specs.Peaks.{peaks_over, clocks_over, peak_checks, peak_run, peaks_after, clocks_after, RunsPeaking}
use Rattle.peaks.specs.Inner.Raised.{PeaksOn}
use Rattle.peaks.specs.Inner.Sheets.{RunsSheetPeaks}

module _ (p : Plan) (g : Given) (end : ℕ) (w : World) (peaks clocks : List ℕ) where
  abbrev rooms_fine : Bool
  rooms_fine = every (shape_fine p.shape ∷ eqb (length peaks) (squares p.shape) ∷ eqb (length clocks) (squares p.shape) ∷ [])

  checks_are : peak_checks p g end w peaks clocks ≡ pick rooms_fine (refusal (run_checks p g end w)) 1
  unfolding peak_checks refusal every pick
  checks_are = go (shape_fine p.shape) (eqb (length peaks) (squares p.shape)) (eqb (length clocks) (squares p.shape)) (run_checks p g end w)
    where
      go : (a b c : Bool) (rows : List Row) → refusal (1 unless a ∷ 1 unless b ∷ 1 unless c ∷ rows) ≡ pick (every (a ∷ b ∷ c ∷ [])) (refusal rows) 1
      go true true true rows = refl
      go true true false rows = refl
      go true false c rows = refl
      go false b c rows = refl

  -- where nothing refuses, each room has one number a square
  pub rooms_long : peak_checks p g end w peaks clocks ≡ 0 → (length peaks ≡ squares p.shape) × (length clocks ≡ squares p.shape)
  rooms_long z = go rooms_fine refl
    where
      go : (b : Bool) → rooms_fine ≡ b → (length peaks ≡ squares p.shape) × (length clocks ≡ squares p.shape)
      go true e = let each = every_each _ e in (eqb-true _ _ each.1.0, eqb-true _ _ each.1.1.0)
      go false e = absurd (let one : 0 ≡ 1 = sym z ∙ (checks_are ∙ pick_false _ _ e) in omega arith)

  -- nothing is made and nothing written
  module _ {n : ℕ} (e : peak_checks p g end w peaks clocks ≡ n) (d : n ≡ 0 → ⊥) where
    pub not_run : ended n 0 w ≡ peak_run p g end w peaks clocks
    unfolding peak_run
    not_run = sym (ap (λ (k : ℕ). go_on k 0 w (run_to p g end w)) e ∙ stops p g end 0 w _ d)

    pub peaks_stay : peaks ≡ peaks_after p g end w peaks clocks
    unfolding peaks_after
    peaks_stay = sym (pick_false _ _ (ne_eqb _ _ (λ z. d (sym e ∙ z))))

    pub clocks_stay : clocks ≡ clocks_after p g end w peaks clocks
    unfolding clocks_after
    clocks_stay = sym (pick_false _ _ (ne_eqb _ _ (λ z. d (sym e ∙ z))))

    refused_by : RunsPeaking p g end w peaks clocks (record { refused = n; steps = 0; run = w.run }) w.depths w.lasts w.records peaks clocks
    refused_by = record { ends = not_run; peaks_are = peaks_stay; clocks_are = clocks_stay }

  -- by the rooms
  pub rooms-refused :
      rooms_fine ≡ false → RunsPeaking p g end w peaks clocks (record { refused = 1; steps = 0; run = w.run }) w.depths w.lasts w.records peaks clocks
  rooms-refused f = refused_by {n = 1} (checks_are ∙ pick_false _ _ f) (λ z. omega (arith, z))

  -- by rows 1 to 6
  pub rows_refused :
      {n : ℕ} → rooms_fine ≡ true → n ≡ refusal (run_checks p g end w) → (n ≡ 0 → ⊥) →
      RunsPeaking p g end w peaks clocks (record { refused = n; steps = 0; run = w.run }) w.depths w.lasts w.records peaks clocks
  rows_refused {n} f e d = refused_by {n = n} (checks_are ∙ (pick_true _ _ f ∙ sym e)) d

  -- the plain run
  module _ (z : peak_checks p g end w peaks clocks ≡ 0) where
    pub run_is : peak_run p g end w peaks clocks ≡ run_to p g end w
    unfolding peak_run go_on
    run_is = rw z

    peaks_then : peaks_after p g end w peaks clocks ≡ peaks_over p g w (peak_run p g end w peaks clocks).steps peaks
    unfolding peaks_after
    peaks_then = pick_true _ _ (eq-eqb _ _ z)

    clocks_then : clocks_after p g end w peaks clocks ≡ clocks_over p g w (peak_run p g end w peaks clocks).steps clocks
    unfolding clocks_after
    clocks_then = pick_true _ _ (eq-eqb _ _ z)

  checks_pass : rooms_fine ≡ true → refusal (run_checks p g end w) ≡ 0 → peak_checks p g end w peaks clocks ≡ 0
  checks_pass f e = checks_are ∙ (pick_true _ _ f ∙ e)

  pub peaks-run :
      {n : ℕ} {a : Ran} {depths lasts records peaks' clocks' : List ℕ} → rooms_fine ≡ true → n ≡ refusal (run_checks p g end w) → n ≡ 0 →
      PeaksOn p g end w peaks clocks a depths lasts records peaks' clocks' → RunsPeaking p g end w peaks clocks a depths lasts records peaks' clocks'
  peaks-run {a = a} f e z o =
      let none = checks_pass f (sym e ∙ z) in
      let same = run_passed p g end w e z o.ends ∙ sym (run_is none) in
      let steps = ap (λ (x : Ended). x.steps) same in
      record {
        ends = same;
        peaks_are = o.peaks_are ∙ (ap (λ (k : ℕ). peaks_over p g w k peaks) steps ∙ sym (peaks_then none));
        clocks_are = o.clocks_are ∙ (ap (λ (k : ℕ). clocks_over p g w k clocks) steps ∙ sym (clocks_then none));
      }

  -- read from its contract
  module _
      {a : Ran} {depths lasts records peaks' clocks' : List ℕ} (none : peak_checks p g end w peaks clocks ≡ 0)
      (f : RunsPeaking p g end w peaks clocks a depths lasts records peaks' clocks') where
    pub ran_is : ended a.refused a.steps (world depths lasts records a.run) ≡ run_to p g end w
    ran_is = f.ends ∙ run_is none

    steps_told : (peak_run p g end w peaks clocks).steps ≡ a.steps
    steps_told = sym (ap (λ (x : Ended). x.steps) f.ends)

    pub peaks-told : peaks' ≡ peaks_over p g w a.steps peaks
    peaks-told = f.peaks_are ∙ (peaks_then none ∙ ap (λ (k : ℕ). peaks_over p g w k peaks) steps_told)

    pub clocks-told : clocks' ≡ clocks_over p g w a.steps clocks
    clocks-told = f.clocks_are ∙ (clocks_then none ∙ ap (λ (k : ℕ). clocks_over p g w k clocks) steps_told)

-- ---- the run of a sheet, by what belongs to it of the rooms

module _ (h : Heading) (held : Rooms) where
  abbrev P : Plan
  P = plan_in h.shape h.rules held

  abbrev G : Given
  G = given_in h.shape h.rules held

  abbrev W : World
  W = start_in h.shape h.rules held

  module _ (peaks clocks : List ℕ) (fine : ShapeInRange h.shape) (x : length peaks ≡ squares h.shape) (y : length clocks ≡ squares h.shape) (passes : checks_in h.shape h.rules held h.end ≡ 0) where
    none_refused : peak_checks P G h.end W peaks clocks ≡ 0
    unfolding checks_in
    none_refused = checks_pass P G h.end W peaks clocks (each_every _ (fine_of_ranges _ fine, (eq-eqb _ _ x, (eq-eqb _ _ y, tt)))) passes

    -- the run starts from nothing
    starts :
        {lasts records : List ℕ} {u : Run} → lasts ≡ no_lasts h.shape h.rules held → records ≡ no_records h.shape h.rules held →
        u ≡ fresh_run h.rules 1 → world held.cells.depths lasts records u ≡ W
    starts l c u = world_same l c (u ∙ ap (fresh_run h.rules) (sym (one_slot h.shape h.rules held)))

    pub sheet_told :
        {a : Ran} {depths lasts records peaks' clocks' : List ℕ} → RunsPeaking P G h.end W peaks clocks a depths lasts records peaks' clocks' →
        (a.refused ≡ (sheet_run h held).number)
        × (a.steps ≡ (sheet_run h held).steps)
        × (a.run ≡ (sheet_run h held).world.run)
        × (peaks' ≡ peaks_over P G W a.steps peaks)
        × (clocks' ≡ clocks_over P G W a.steps clocks)
        × (depths ≡ (sheet_run h held).world.depths)
    sheet_told f =
        let same = ran_is P G h.end W peaks clocks none_refused f in (
          ap (λ (x : Ended). x.number) same,
          ap (λ (x : Ended). x.steps) same,
          ap (λ (x : Ended). x.world.run) same,
          peaks-told P G h.end W peaks clocks none_refused f,
          clocks-told P G h.end W peaks clocks none_refused f,
          ap (λ (x : Ended). x.world.depths) same,
        )

    pub from_nothing :
        {a : Ran} {depths lasts records peaks' clocks' before room : List ℕ} {u : Run} → before ≡ no_lasts h.shape h.rules held →
        room ≡ no_records h.shape h.rules held → u ≡ fresh_run h.rules 1 →
        RunsPeaking P G h.end (world held.cells.depths before room u) peaks clocks a depths lasts records peaks' clocks' →
        RunsPeaking P G h.end W peaks clocks a depths lasts records peaks' clocks'
    from_nothing {a} {depths} {lasts} {records} {peaks'} {clocks'} l c u f =
        subst (λ (x : World). RunsPeaking P G h.end x peaks clocks a depths lasts records peaks' clocks') (starts l c u) f

-- the peaks lie at the start of their rooms
module _ {size : ℕ} (h : Heading) (held : Rooms) (ok : Holds size h held) (peaks clocks : List ℕ) (x : length peaks ≡ size) (y : length clocks ≡ size) where
  taken : (room : List ℕ) → length room ≡ size → length (take (squares h.shape) room) ≡ squares h.shape
  taken room e = length-take-le (squares h.shape) room (omega (arith, ok.few, e))

  -- with as many squares as were counted
  abbrev SheetRuns : ℕ → Ran → List ℕ → List ℕ → List ℕ → List ℕ → List ℕ → Type 0
  SheetRuns n a depths lasts records peaks' clocks' =
      RunsPeaking (plan_in h.shape h.rules (parts_at n h held)) (given_in h.shape h.rules (parts_at n h held)) h.end
      (start_in h.shape h.rules (parts_at n h held)) (take n peaks) (take n clocks) a depths lasts records peaks' clocks'

  abbrev RoomsAfter : ℕ → Ran → List ℕ → List ℕ → List ℕ → Type 0
  RoomsAfter n a depths' peaks' clocks' =
      RunsSheetPeaks h (parts_of h held) held.cells.depths peaks clocks a (depths' ++ drop n held.cells.depths) (peaks' ++ drop n peaks)
      (clocks' ++ drop n clocks)

  told :
      {a : Ran} {depths lasts records peaks' clocks' : List ℕ} → SheetRuns (squares h.shape) a depths lasts records peaks' clocks' →
      length (peaks' ++ drop (squares h.shape) peaks) ≡ length peaks → length (clocks' ++ drop (squares h.shape) clocks) ≡ length clocks →
      RoomsAfter (squares h.shape) a depths peaks' clocks'
  unfolding peaks_over clocks_over
  told {depths = depths} {peaks' = peaks'} {clocks'} f l m =
      let t =
      sheet_told h (parts_of h held) (take (squares h.shape) peaks) (take (squares h.shape) clocks) ok.shape (taken peaks x) (taken clocks y)
      ok.passes f in
      let many : length peaks' ≡ squares h.shape = ap length t.3 ∙ (length-filled (squares h.shape) _ _ (take (squares h.shape) peaks) ∙ taken peaks x) in
      let much : length clocks' ≡ squares h.shape = ap length t.4 ∙ (length-filled (squares h.shape) _ _ (take (squares h.shape) clocks) ∙ taken clocks y) in
      record {
        told =
            record {
              number_is = t.0;
              steps_are = t.1;
              run_is = t.2;
              peaks_are = first_part peaks' (drop (squares h.shape) peaks) many ∙ t.3;
              clocks_are = first_part clocks' (drop (squares h.shape) clocks) much ∙ t.4;
              peaks_long = l;
              clocks_long = m;
            };
        depths_are = ap (λ (d : List ℕ). d ++ drop (squares h.shape) held.cells.depths) t.5;
        peaks_rest = drop_at peaks' (drop (squares h.shape) peaks) (squares h.shape) many;
        clocks_rest = drop_at clocks' (drop (squares h.shape) clocks) (squares h.shape) much;
      }

  pub sheet-peaks :
      {n : ℕ} {a : Ran} {depths lasts records peaks' clocks' : List ℕ} → n ≡ squares h.shape → SheetRuns n a depths lasts records peaks' clocks' →
      length (peaks' ++ drop n peaks) ≡ length peaks → length (clocks' ++ drop n clocks) ≡ length clocks → RoomsAfter n a depths peaks' clocks'
  sheet-peaks {a = a} {depths} {lasts} {records} {peaks'} {clocks'} e =
      subst
      (λ (k : ℕ).
      SheetRuns k a depths lasts records peaks' clocks' → length (peaks' ++ drop k peaks) ≡ length peaks → length (clocks' ++ drop k clocks) ≡ length clocks →
      RoomsAfter k a depths peaks' clocks')
      (sym e) told
