-- What is put reads back: head, hatches and squares in their places, and then the checks.
-- Assumes nothing.
use mathlib.Core.Path.{◌≡◌, refl, sym, ap, ap₂, subst, ◌∙◌}
use mathlib.Core.Bool.{true, false, not}
use mathlib.Core.List.{List, ◌++◌}
use Prim.Native.Nat.{ℕ, ◌+◌, ◌-◌, ◌≤◌, ◌<◌}
use native.Mathlib.Omega.{arith}
use lib.ListN.{length, get_or}
use borrow.Author.Tests.{leb-true, ltb-true}
use Rattle.reckon.specs.Ranges.{last_clock, most_length, most_outflow, most_soaked, most_litres}
use Rattle.reckon.proofs.TestLaws.{not_both, every_each, all_at, or_right, failing_none, passed_refusal}
use Rattle.reckon.proofs.ListLaws.{filled_in, filled_skipped, sum_le}
use Rattle.grid.specs.Squares.{squares}
use Rattle.grid.specs.Marks.{closed}
use Rattle.grid.proofs.MarkLaws.{closed_past}
use Rattle.ledger.specs.Runs.{Plan, run_fine, run_values_fine}
use Rattle.ledger.specs.Flows.{shut}
use Rattle.ledger.specs.Checks.{WaterLent}
use Rattle.text.specs.Reading.{most_number, word_at}
use Rattle.text.specs.Inner.Standing.{StandsAt}
use Rattle.text.proofs.ReadingLaws.{by_lt}
use Rattle.text.proofs.StandLaws.{stands_first, stands_second, front_stands, back_stands}
use Rattle.hatches.specs.Lines.{hatch_word}
use Rattle.hatches.specs.Log.{most_hatches, standing_fine}
use Rattle.hatches.specs.declared.log.Hatches.{Hatches}
use Rattle.stands.specs.Texts.{head_text, hatches_text, squares_text, stand_text}
use Rattle.stands.specs.Laying.{has_square, most_start, most_given, head_of, named_from, named_in, square_from, start_from, depth_from, last_from, squares_read, lines_from, bad_line, hatch_fine, hatches_fine, draws_fine, state_fine, checks_of, saved_from, saved_in, number_of, stand_of, Water, water_from, water_after}
use Rattle.stands.specs.Inner.Back.{none_kept, Savable, ReadsBack, AllReadBack}
use Rattle.stands.specs.Inner.Passing.{SquaresPassed, NamedRead}
use Rattle.stands.specs.declared.heads.Head.{Head}
use Rattle.stands.specs.declared.saved.Saved.{Saved}
use Rattle.stands.specs.declared.squares.SquareLine.{SquareLine}
use Rattle.stands.proofs.HeadBack.{Written, head_as, head_back}
use Rattle.stands.proofs.NameBack.{named_back, rates-back, next_back}
use Rattle.stands.proofs.SquareBack.{square_back, found_back, all_back, waters_back, no_hatch}
use Rattle.stands.proofs.SquareLaws.{one_line}
use Rattle.stands.proofs.LayLaws.{bad_none, laid_same}

module _ (p : Plan) (inflow : List ℕ) (slots : ℕ) (depths lasts : List ℕ) (a : Saved) (w : Savable p inflow slots depths lasts a) where
  abbrev s : List ℕ
  s = stand_text p depths lasts a

  abbrev hatch_lines : List ℕ
  hatch_lines = hatches_text a.log.hatches a.log.litres

  abbrev square_lines : List ℕ
  square_lines = squares_text p depths lasts

  abbrev n : ℕ
  n = squares p.shape

  -- ---- where each part stands

  abbrev q₁ : ℕ
  q₁ = length (head_text a)

  abbrev q₂ : ℕ
  q₂ = q₁ + length hatch_lines

  head_stands : StandsAt s 0 (head_text a) q₁
  unfolding stand_text
  head_stands = front_stands (head_text a) (hatch_lines ++ square_lines)

  rest_stands : StandsAt s q₁ (hatch_lines ++ square_lines) (length s)
  unfolding stand_text
  rest_stands = back_stands (head_text a) (hatch_lines ++ square_lines)

  hatches_stand : StandsAt s q₁ hatch_lines q₂
  hatches_stand = stands_first hatch_lines square_lines rest_stands

  squares_stand : StandsAt s q₂ square_lines (length s)
  squares_stand = stands_second hatch_lines square_lines rest_stands

  -- ---- the numbers can be read

  written : Written a
  unfolding state_fine run_fine run_values_fine standing_fine
  written =
      let t = every_each _ w.state in
      let run = every_each _ t.0 in
      let steps = every_each _ t.1.0 in
      let clock : a.log.run.clock ≤ last_clock = leb-true _ _ run.1.0 in
      record {
        steps_small = omega (arith, leb-true a.log.steps a.log.run.clock steps.1.0);
        clock_small = omega arith;
        length_small = omega (arith, leb-true a.log.run.length most_length run.1.1.1.0);
        out_small = omega (arith, leb-true a.log.run.outflow most_outflow run.1.1.1.1.0);
        soak_small = omega (arith, leb-true a.log.run.soaked most_soaked run.1.1.1.1.1.0);
        start_small = omega (arith, leb-true a.start most_start t.1.1.0);
        given_small = omega (arith, leb-true a.given most_given t.1.1.1.0);
      }

  hatch-fine : (h : ℕ) → h < most_hatches → get_or a.log.hatches.named h false ≡ true →
      hatch_fine p (get_or a.log.hatches.rows h 0) (get_or a.log.hatches.columns h 0) (get_or a.log.litres h 0) ≡ true
  unfolding draws_fine hatches_fine
  hatch-fine h l e = or_right (not (get_or a.log.hatches.named h false)) _ (all_at most_hatches _ (every_each _ w.draws).0 h l) (ap not e)

  small : (h : ℕ) → h < most_hatches → get_or a.log.hatches.named h false ≡ true →
      (get_or a.log.hatches.rows h 0 ≤ most_number) × (get_or a.log.hatches.columns h 0 ≤ most_number) × (get_or a.log.litres h 0 ≤ most_number)
  unfolding hatch_fine
  small h l e =
      let t = every_each _ (hatch-fine h l e) in
      let row : get_or a.log.hatches.rows h 0 < p.shape.rows = ltb-true _ _ t.0 in
      let column : get_or a.log.hatches.columns h 0 < p.shape.columns = ltb-true _ _ t.1.0 in
      let litres : get_or a.log.litres h 0 ≤ most_litres = leb-true _ _ t.1.1.1.0 in
      (omega (arith, w.shape.rows_high), omega (arith, w.shape.columns_high), omega arith)

  -- ---- what each part says

  head_read : head_of s ≡ head_as a q₁
  head_read = head_back a written head_stands

  ends : word_at s q₂ hatch_word ≡ false
  ends = no_hatch p depths lasts w.shape w.waters squares_stand refl

  hatches_at : (head_of s).next ≡ q₁
  hatches_at = ap (λ (x : Head). x.next) head_read

  squares-at : (named_in s).next ≡ q₂
  squares-at =
      ap (λ (q : ℕ). (named_from s q most_hatches).next) hatches_at
      ∙ next_back a.log.hatches a.log.litres w.tidy small hatches_stand ends

  abbrev saved_as : Hatches → List ℕ → Saved
  saved_as hs litres =
      record {
        log =
            record {
              run =
                  record {
                    clock = a.log.run.clock;
                    length = a.log.run.length;
                    outflow = a.log.run.outflow;
                    kept = 0;
                    newest = slots - 1;
                    soaked = a.log.run.soaked;
                  };
              steps = a.log.steps;
              opening = a.log.opening;
              hatches = hs;
              litres = litres;
            };
        start = a.start;
        given = a.given;
      }

  saved_back : saved_in slots s ≡ none_kept slots a
  unfolding saved_from
  saved_back =
      ap (λ (x : Head). saved_from slots x (named_from s x.next most_hatches)) head_read
      ∙ ap₂ saved_as (named_back a.log.hatches a.log.litres w.tidy small hatches_stand ends)
      (rates-back a.log.hatches a.log.litres w.tidy small hatches_stand ends)

  -- ---- nothing is refused

  passed : SquaresPassed s q₂ p.marks n (record { count = n; lines = lines_from s q₂ p.marks n; next = start_from s q₂ p.marks n })
  unfolding squares_read lines_from
  passed =
      record {
        count_is = sym (failing_none n (has_square s q₂ p.marks) (found_back p depths lasts w.shape w.waters squares_stand));
        lines_are = refl;
        next_is = refl;
        few = omega (arith, sum_le n 1 (λ i. (square_from s q₂ p.marks i).lines) (λ i l. one_line s (start_from s q₂ p.marks i) p.marks i));
      }

  bad_back : bad_line s p ≡ 0
  bad_back =
      let k : NamedRead s (head_of s) (named_in s) = record { head_is = refl; named_is = refl } in
      sym
      (bad_none k p (ap (λ (x : Head). x.bad) head_read)
      (subst
      (λ (q : ℕ). SquaresPassed s q p.marks n (record { count = n; lines = lines_from s q₂ p.marks n; next = start_from s q₂ p.marks n }))
      (sym squares-at) passed)
      (omega arith)
      (omega (arith, all_back p depths lasts w.shape w.waters squares_stand)))

  checks_back : checks_of p inflow slots s (named_in s).next (saved_in slots s) ≡ 0
  unfolding checks_of draws_fine
  checks_back =
      ap₂ (checks_of p inflow slots s) squares-at saved_back
      ∙ passed_refusal _ (waters_back p depths lasts w.shape w.waters squares_stand, (w.draws, (w.state, tt)))

  answer_back : stand_of p inflow slots s ≡ record { number = 0; line = 0; saved = none_kept slots a }
  unfolding stand_of number_of
  answer_back = laid_same (ap₂ number_of bad_back checks_back) bad_back saved_back

  -- ---- the rooms

  depth_back : (i : ℕ) → i < n → shut p i ≡ false → depth_from s (named_in s).next p.marks i ≡ get_or depths i 0
  depth_back i l o =
      ap (λ (q : ℕ). depth_from s q p.marks i) squares-at
      ∙ ap (λ (x : SquareLine). x.depth) (square_back p depths lasts w.shape w.waters squares_stand i l o)

  last_back : (i : ℕ) → i < n → shut p i ≡ false → last_from s (named_in s).next p.marks i ≡ get_or lasts i 0
  last_back i l o =
      ap (λ (q : ℕ). last_from s q p.marks i) squares-at
      ∙ ap (λ (x : SquareLine). x.last) (square_back p depths lasts w.shape w.waters squares_stand i l o)

  -- a square not closed is on the grid
  on_grid : {old : Water} → WaterLent p old.depths old.lasts → (i : ℕ) → closed p.marks i ≡ false → i < n
  on_grid lent i o =
      by_lt i n (λ l. l) (λ l. not_both (closed_past p.marks i (omega (arith, l, lent.marks_long))) o)

  pub reads_back : ReadsBack p inflow slots depths lasts a
  unfolding water_after water_from
  reads_back =
      record {
        answer = answer_back;
        depths_alike =
            λ old lent.
            record {
              at =
                  λ i o.
                  let l = on_grid lent i o in
                  filled_in n (shut p) (depth_from s (named_in s).next p.marks) old.depths i (omega (arith, l, lent.depths_long)) l o ∙ depth_back i l o;
            };
        lasts_alike =
            λ old lent.
            record {
              at =
                  λ i o.
                  let l = on_grid lent i o in
                  filled_in n (shut p) (last_from s (named_in s).next p.marks) old.lasts i (omega (arith, l, lent.lasts_long)) l o ∙ last_back i l o;
            };
        depths-kept = λ old i t l. filled_skipped n (shut p) (depth_from s (named_in s).next p.marks) old.depths i l t;
        lasts_kept = λ old i t l. filled_skipped n (shut p) (last_from s (named_in s).next p.marks) old.lasts i l t;
      }

pub all_read_back : AllReadBack
all_read_back p inflow slots depths lasts a w = reads_back p inflow slots depths lasts a w
