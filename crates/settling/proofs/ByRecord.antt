-- A step settled by its record is the step, for the record is read back as it was written.
-- Assumes nothing.
use Rattle.std.proofs.Common.{◌≡◌, ℕ, ◌+◌, ◌<◌, Bool, true, false, ◌||◌, leb, List, [], ◌∷◌, length, refl, ◌∙◌}
use Rattle.reckon.specs.Tests.{Row, ◌unless◌, refusal}
use Rattle.reckon.specs.Ranges.{most_depth, last_clock, most_outflow, most_soaked}
use Rattle.reckon.proofs.TestLaws.{all_ext, refusal_later}
use Rattle.reckon.proofs.ListLaws.{filled_ext}
use Rattle.grid.specs.Squares.{squares}
use Rattle.ledger.specs.Runs.{Plan, World}
use Rattle.ledger.specs.Flows.{shut, gone}
use Rattle.ledger.specs.After.{Moves, remains, new_depth, depths_fit, new_outflow, new_soaked, late_refusals, step_record, world_after, world_with}
use Rattle.ledger.proofs.ReadBack.{step_lasted, step_off, step_soaked_grid, step-came, step_gone, step_added, step_soaked}
use Rattle.settling.specs.Inner.Settle.{moves_in, settle_refusals, settle_number}

module _ (p : Plan) (m : Moves) (w : World) (marks_long : length p.marks ≡ squares p.shape) where
  abbrev moved : Moves
  moved = moves_in (step_record p m w) m.length

  depth_read : (i : ℕ) → i < squares p.shape → shut p i ≡ false → new_depth p moved w i ≡ new_depth p m w i
  unfolding new_depth remains
  depth_read i inside e = rw (step_gone p m w i inside e, step_soaked p m w i inside e, step-came p m w marks_long i, step_added p m w i inside e)

  outflow_read : new_outflow p moved w ≡ new_outflow p m w
  unfolding new_outflow
  outflow_read = rw (step_off p m w)

  soaked_total_read : new_soaked p moved w ≡ new_soaked p m w
  unfolding new_soaked
  soaked_total_read = rw (step_soaked_grid p m w)

  fit_read : depths_fit p moved w ≡ depths_fit p m w
  unfolding depths_fit
  fit_read = all_ext (squares p.shape) _ _ (λ i inside. at i inside (shut p i) refl)
    where
      at : (i : ℕ) → i < squares p.shape → (b : Bool) → shut p i ≡ b →
          (shut p i || leb (new_depth p moved w i) most_depth) ≡ (shut p i || leb (new_depth p m w i) most_depth)
      at i inside true e = rw e
      at i inside false e = rw (depth_read i inside e)

  -- the world that its record writes is the world after the step
  pub settled_is : world_with p moved w (step_record p m w) ≡ world_after p m w
  unfolding world_after
  settled_is =
      let depths = filled_ext (squares p.shape) (shut p) (new_depth p moved w) (new_depth p m w) w.depths depth_read in
      let lasts = filled_ext (squares p.shape) (shut p) (gone moved.leaves) (gone m.leaves) w.lasts (step_gone p m w) in
      rw (depths, lasts, outflow_read, soaked_total_read, step_lasted p m w)

  abbrev rows : List Row
  rows = 8 unless depths_fit p m w ∷ 9 unless leb (new_outflow p m w) most_outflow ∷ 15 unless leb (new_soaked p m w) most_soaked ∷ []

  -- what is refused where 7 is not: 8, 9 or 15, by the record
  pub late_settled : leb (w.run.clock + m.duration) last_clock ≡ true → refusal (late_refusals p m w) ≡ settle_number p (step_record p m w) m.length w
  unfolding late_refusals settle_number settle_refusals
  late_settled e =
      let same : refusal rows ≡ settle_number p (step_record p m w) m.length w = rw (fit_read, outflow_read, soaked_total_read) in
      refusal_later 7 rows e ∙ same
