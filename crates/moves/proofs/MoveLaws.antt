-- Laws of what a step moves: no square sends and soaks more than it holds, nothing goes through a wall, off the grid only from an exit, and
-- times stay in range. All of it follows from the weighing's own two laws and from the drops.
-- Assumes nothing.
use mathlib.Core.Path.{◌≡◌, refl, ◌∙◌}
use mathlib.Core.Bool.{Bool, true, false}
use mathlib.Core.List.{List}
use Prim.Native.Nat.{ℕ, zero, suc, ◌+◌, ◌-◌, ◌≤◌, ◌<◌, min}
use native.Mathlib.Nat.{le_trans}
use native.Mathlib.Omega.{arith}
use lib.ListN.{get_or}
use borrow.Author.Tests.{ltb-true, ltb-false}
use Rattle.reckon.specs.Tests.{pick}
use Rattle.reckon.specs.Ranges.{most_length}
use Rattle.reckon.specs.Soaking.{soak_due}
use Rattle.reckon.proofs.TestLaws.{pick_true, pick_false, pick_both}
use Rattle.reckon.proofs.ListLaws.{sum_zero}
use Rattle.grid.specs.Squares.{north, east, south, west, sides, squares, within, beside}
use Rattle.grid.specs.Marks.{exit}
use Rattle.rule.specs.Weighing.{weighed}
use Rattle.rule.proofs.DropLaws.{edge_none}
use Rattle.rule.proofs.WeighingLaws.{weighed_le, weighed_none}
use Rattle.rule.proofs.LengthLaws.{length_from, length_to, lasts_from, lasts_to}
use Rattle.ledger.specs.Runs.{Plan, Seen}
use Rattle.ledger.specs.Flows.{Leaves, shut, gone, off_side, off_square, off_grid}
use Rattle.ledger.specs.Walls.{Walled}
use Rattle.checks.specs.Given.{Ground, Given}
use Rattle.moves.specs.Drops.{side_drop, drops_of}
use Rattle.moves.specs.Moves.{candidates, leaves_for, soaked_for, step_length, step_duration}
use Rattle.checks.specs.Inner.Ready.{Ready}
use Rattle.moves.proofs.DropLaws.{drop-closed, drop-exit, drop_rim}

-- ---- what leaves a square

module _ (p : Plan) (o : Ground) (depths lasts : List ℕ) (ms i : ℕ) where
  abbrev pub weights : List ℕ
  weights = weighed o.rules (get_or depths i 0) (get_or lasts i 0) (get_or o.roughness i 0) ms (drops_of p o.rules o.beds depths i)

  pub leaves_open : (side : ℕ) → shut p i ≡ false → leaves_for p o depths lasts ms i side ≡ get_or weights side 0
  unfolding leaves_for
  leaves_open side e = pick_false _ _ e

  pub leaves_closed : (side : ℕ) → shut p i ≡ true → leaves_for p o depths lasts ms i side ≡ 0
  unfolding leaves_for
  leaves_closed side e = pick_true _ _ e

  -- no square sends more than it holds
  pub covered : shut p i ≡ false → gone (leaves_for p o depths lasts ms) i ≤ get_or depths i 0
  unfolding gone
  covered e =
      rw (leaves_open north e, leaves_open east e, leaves_open south e, leaves_open west e)
      (weighed_le o.rules (get_or depths i 0) (get_or lasts i 0) (get_or o.roughness i 0) ms (drops_of p o.rules o.beds depths i))

  -- nor sends and soaks more
  pub soaked_open :
      (start : ℕ) → shut p i ≡ false →
      soaked_for p o depths lasts start ms i
      ≡ min (soak_due (get_or o.rates i 0) start (start + ms)) (get_or depths i 0 - gone (leaves_for p o depths lasts ms) i)
  unfolding soaked_for
  soaked_open start e = pick_false _ _ e

  pub lost_covered : (start : ℕ) → shut p i ≡ false → gone (leaves_for p o depths lasts ms) i + soaked_for p o depths lasts start ms i ≤ get_or depths i 0
  lost_covered start e = omega (arith, soaked_open start e, covered e)

  -- a side without a drop sends nothing
  drop_at : (side : ℕ) → side < sides → get_or (drops_of p o.rules o.beds depths i) side 0 ≡ side_drop p o.rules o.beds depths i side
  unfolding drops_of
  drop_at zero h = refl
  drop_at (suc zero) h = refl
  drop_at (suc (suc zero)) h = refl
  drop_at (suc (suc (suc zero))) h = refl
  drop_at (suc (suc (suc (suc side)))) h = absurd (omega arith)

  no_drop : (side : ℕ) → side < sides → side_drop p o.rules o.beds depths i side ≡ 0 → leaves_for p o depths lasts ms i side ≡ 0
  unfolding leaves_for
  no_drop side h e =
      pick_both (λ (x : ℕ). x ≡ 0) (shut p i) refl
      (weighed_none o.rules (get_or depths i 0) (get_or lasts i 0) (get_or o.roughness i 0) ms (drops_of p o.rules o.beds depths i) side (drop_at side h ∙ e))

-- the wall rule
pub flood_walled : (p : Plan) (o : Ground) (depths lasts : List ℕ) (ms : ℕ) → Walled p (leaves_for p o depths lasts ms)
flood_walled p o depths lasts ms =
    record {
      closed_in = λ i side h l e. leaves_closed p o depths lasts ms i side e;
      walled = λ i side h l n e. no_drop p o depths lasts ms i side l (drop-closed p o.rules o.beds depths i side refl (ltb-true _ _ n) e);
      rimmed = λ i side h l n e. no_drop p o depths lasts ms i side l (drop_rim p o.rules o.beds depths i side refl (ltb-false _ _ n) e);
    }

-- ---- "With e = 0 nothing leaves"

module _ (p : Plan) (o : Ground) (depths lasts : List ℕ) (ms : ℕ) (e : o.rules.edge ≡ 0) where
  -- there is no drop off the grid, from an exit or from any other square
  off_side_none : (i side : ℕ) → side < sides → off_side p (leaves_for p o depths lasts ms) i side ≡ 0
  unfolding off_side
  off_side_none i side l = go (within p.shape (beside p.shape i side)) (exit p.marks i) refl refl
    where
      leaves : Leaves
      leaves = leaves_for p o depths lasts ms

      go : (on leads : Bool) → within p.shape (beside p.shape i side) ≡ on → exit p.marks i ≡ leads →
          pick (within p.shape (beside p.shape i side)) 0 (leaves i side) ≡ 0
      go true leads b d = pick_true 0 (leaves i side) b
      go false true b d =
          pick_false 0 (leaves i side) b
          ∙ no_drop p o depths lasts ms i side l
          (drop-exit p o.rules o.beds depths i side refl (ltb-false _ _ b) d ∙ edge_none o.rules (get_or depths i 0) e)
      go false false b d =
          pick_false 0 (leaves i side) b
          ∙ no_drop p o depths lasts ms i side l (drop_rim p o.rules o.beds depths i side refl (ltb-false _ _ b) d)

  pub off_none : off_grid p (leaves_for p o depths lasts ms) ≡ 0
  unfolding off_grid off_square
  off_none =
      sum_zero (squares p.shape) _
      (λ i h.
      pick_both (λ (x : ℕ). x ≡ 0) (shut p i) refl
      (rw (off_side_none i north (omega arith), off_side_none i east (omega arith), off_side_none i south (omega arith), off_side_none i west (omega arith))))

-- ---- times

module _ (p : Plan) (g : Given) (v : Seen) (r : Ready p g v) where
  pub step-length_from : 1 ≤ step_length p g v
  unfolding step_length
  step-length_from = length_from g.lie.rules v.clock v.length (candidates p g.lie v.depths) r.waters.rules r.length_from

  pub step-length_to : step_length p g v ≤ most_length
  unfolding step_length
  step-length_to = length_to g.lie.rules v.clock v.length (candidates p g.lie v.depths) r.waters.rules r.length_to

  pub step_lasts_from : 1 ≤ step_duration p g v
  unfolding step_duration
  step_lasts_from = lasts_from g.lie.rules v.clock (step_length p g v) r.waters.rules.update_from step-length_from

  pub step_lasts_to : step_duration p g v ≤ most_length
  unfolding step_duration
  step_lasts_to = le_trans (lasts_to g.lie.rules v.clock (step_length p g v)) step-length_to
