-- The text of a state that can be saved is never longer than `lay` takes.
-- Assumes nothing.
use mathlib.Core.Path.{◌≡◌, refl, ap}
use mathlib.Core.Bool.{Bool, true, false, not}
use mathlib.Core.List.{List, ◌++◌}
use Prim.Native.Nat.{ℕ, zero, suc, ◌*◌, ◌^◌, ◌≤◌, ◌<◌}
use native.Mathlib.Nat.{mul-suc}
use native.Mathlib.Omega.{arith}
use lib.ListN.{length, get_or, length-append}
use borrow.Author.Tests.{leb-true, ltb-true}
use Rattle.reckon.specs.Tests.{pick}
use Rattle.reckon.specs.Lists.{joined}
use Rattle.reckon.specs.Ranges.{most_depth, most_length, most_litres, most_outflow, most_soaked, last_clock, water_fine}
use Rattle.reckon.proofs.TestLaws.{every_each, all_at, or_right}
use Rattle.grid.specs.Squares.{squares}
use Rattle.ledger.specs.Runs.{Plan, run_fine, run_values_fine}
use Rattle.ledger.specs.Flows.{shut}
use Rattle.ledger.specs.Checks.{waters_fine}
use Rattle.answer.specs.Printed.{out_word, soak_word}
use Rattle.hatches.specs.Log.{most_hatches, standing_fine}
use Rattle.stands.specs.Texts.{start_word, given_word, total_text, first_text, head_text, hatch_text, hatches_text, square_text, squares_text, stand_text}
use Rattle.stands.specs.Laying.{most_start, most_given, hatch_fine, hatches_fine, draws_fine, state_fine}
use Rattle.stands.specs.Inner.Back.{Savable}
use Rattle.stands.specs.Inner.Putting.{most_hatch, most_square}
use Rattle.stands.specs.declared.saved.Saved.{Saved}
use Rattle.stands.proofs.LengthLaws.{total_short, first_short, hatch_short, square_short}
use Rattle.desks.specs.State.{desk_text}

joined-short : (k : ℕ) (f : ℕ → List ℕ) (n : ℕ) → ((i : ℕ) → i < n → length (f i) ≤ k) → length (joined n f) ≤ k * n
unfolding joined
joined-short k f zero h = omega arith
joined-short k f (suc n) h =
    omega (arith, length-append (joined n f) (f n), joined-short k f n (λ i l. h i (omega arith)), h n (omega arith), mul-suc k n)

module _ (p : Plan) (inflow : List ℕ) (slots : ℕ) (depths lasts : List ℕ) (a : Saved) (w : Savable p inflow slots depths lasts a) where
  opening_low : (b : Bool) → pick {A = ℕ} b 1 0 < 2 ^ 64
  unfolding pick
  opening_low true = omega arith
  opening_low false = omega arith

  head_short : length (head_text a) ≤ 202
  unfolding head_text first_text state_fine run_fine run_values_fine standing_fine
  head_short =
      let t = every_each _ w.state in
      let run = every_each _ t.0 in
      let steps = every_each _ t.1.0 in
      let clock : a.log.run.clock ≤ last_clock = leb-true _ _ run.1.0 in
      let early : a.log.steps ≤ a.log.run.clock = leb-true _ _ steps.1.0 in
      let long : a.log.run.length ≤ most_length = leb-true _ _ run.1.1.1.0 in
      let out : a.log.run.outflow ≤ most_outflow = leb-true _ _ run.1.1.1.1.0 in
      let soak : a.log.run.soaked ≤ most_soaked = leb-true _ _ run.1.1.1.1.1.0 in
      let start : a.start ≤ most_start = leb-true _ _ t.1.1.0 in
      let given : a.given ≤ most_given = leb-true _ _ t.1.1.1.0 in
      let o = total_text out_word a.log.run.outflow in
      let s = total_text soak_word a.log.run.soaked in
      let b = total_text start_word a.start in
      let g = total_text given_word a.given in
      omega (
        arith,
        length-append (first_text a) (o ++ (s ++ (b ++ g))),
        length-append o (s ++ (b ++ g)),
        length-append s (b ++ g),
        length-append b g,
        first_short a.log.steps a.log.run.clock a.log.run.length (pick {A = ℕ} a.log.opening 1 0) (omega arith) (omega arith) (omega arith) (opening_low a.log.opening),
        total_short out_word a.log.run.outflow (omega arith) (omega arith),
        total_short soak_word a.log.run.soaked (omega arith) (omega arith),
        total_short start_word a.start (omega arith) (omega arith),
        total_short given_word a.given (omega arith) (omega arith),
      )

  hatches_short : length (hatches_text a.log.hatches a.log.litres) ≤ most_hatch * most_hatches
  unfolding hatches_text hatch_text pick draws_fine hatches_fine hatch_fine
  hatches_short = joined-short most_hatch (hatch_text a.log.hatches a.log.litres) most_hatches (λ h l. go h l (get_or a.log.hatches.named h false) refl)
    where
      go : (h : ℕ) → h < most_hatches → (c : Bool) → get_or a.log.hatches.named h false ≡ c → length (hatch_text a.log.hatches a.log.litres h) ≤ most_hatch
      go h l false e = rw e (omega arith)
      go h l true e =
          let t = every_each _ (or_right (not (get_or a.log.hatches.named h false)) _ (all_at most_hatches _ (every_each _ w.draws).0 h l) (ap not e)) in
          let row : get_or a.log.hatches.rows h 0 < p.shape.rows = ltb-true _ _ t.0 in
          let column : get_or a.log.hatches.columns h 0 < p.shape.columns = ltb-true _ _ t.1.0 in
          let litres : get_or a.log.litres h 0 ≤ most_litres = leb-true _ _ t.1.1.1.0 in
          rw e (hatch_short h _ _ _ l (omega (arith, row, w.shape.rows_high)) (omega (arith, column, w.shape.columns_high)) (omega (arith, litres)))

  squares-short : length (squares_text p depths lasts) ≤ most_square * squares p.shape
  unfolding squares_text square_text pick waters_fine water_fine
  squares-short = joined-short most_square (square_text p depths lasts) (squares p.shape) (λ i l. go i l (shut p i) refl)
    where
      go : (i : ℕ) → i < squares p.shape → (c : Bool) → shut p i ≡ c → length (square_text p depths lasts i) ≤ most_square
      go i l true e = rw e (omega arith)
      go i l false e =
          let t = every_each _ (or_right (shut p i) _ (all_at (squares p.shape) _ w.waters i l) e) in
          let depth : get_or depths i 0 ≤ most_depth = leb-true _ _ t.0 in
          let last : get_or lasts i 0 ≤ most_depth = leb-true _ _ t.1.0 in
          rw e (square_short i _ _ (omega (arith, l, w.shape.few)) (omega (arith, depth)) (omega (arith, last)))

  pub stand_short : length (stand_text p depths lasts a) ≤ desk_text
  unfolding stand_text
  stand_short =
      omega (
        arith,
        length-append (head_text a) (hatches_text a.log.hatches a.log.litres ++ squares_text p depths lasts),
        length-append (hatches_text a.log.hatches a.log.litres) (squares_text p depths lasts),
        head_short,
        hatches_short,
        squares-short,
        w.shape.few,
      )
