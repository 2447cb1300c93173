-- The wall rule at work: a side leads there and back, so water comes to a square not closed or leaves from an exit; closed ones are skipped.
-- Assumes nothing.
use mathlib.Core.Path.{◌≡◌, refl, sym, ap, ◌∙◌}
use mathlib.Core.Bool.{Bool, true, false}
use mathlib.Core.List.{List}
use Prim.Native.Nat.{ℕ, ◌+◌, ◌<◌}
use native.Mathlib.Decide.{dec_lt}
use native.Mathlib.Omega.{arith}
use lib.ListN.{length, get_or, get_or-eq_default}
use borrow.Author.Tests.{ltb-true, lt-ltb}
use Rattle.reckon.specs.Tests.{pick}
use Rattle.reckon.specs.Lists.{filled}
use Rattle.reckon.proofs.TestLaws.{pick_true, pick_false, pick_both}
use Rattle.reckon.proofs.ListLaws.{length-filled, filled_skipped, sum_zero}
use Rattle.grid.specs.Squares.{north, east, south, west, sides, squares, within, beside, opposite}
use Rattle.grid.specs.Marks.{exit}
use Rattle.grid.proofs.SquareLaws.{opposite-opposite, opposite_small, there_and_back}
use Rattle.ledger.specs.Runs.{Plan, World}
use Rattle.ledger.specs.Flows.{Leaves, four_sides, shut, sent, off_side}
use Rattle.ledger.specs.Record.{newest_record}
use Rattle.ledger.specs.After.{Moves, world_after}
use Rattle.ledger.specs.TakeBack.{world_before, taken_back}
use Rattle.ledger.specs.Walls.{Walled, reaches, drains, sent_towards, into_walls, Untouched}

-- ---- where water goes

-- an amount towards a square of the grid: nothing from a closed one or to one
within_goes : (x : ℕ) (own theirs leads : Bool) → (own ≡ true → x ≡ 0) → (theirs ≡ true → x ≡ 0) →
    x ≡ pick true (pick theirs 0 (pick own 0 x)) 0 + pick leads (pick true 0 x) 0
unfolding pick
within_goes x own true true f g = omega (arith, g refl)
within_goes x own true false f g = omega (arith, g refl)
within_goes x true false true f g = omega (arith, f refl)
within_goes x true false false f g = omega (arith, f refl)
within_goes x false false true f g = omega arith
within_goes x false false false f g = omega arith

-- an amount off the grid: nothing but from an exit
off_goes : (x y : ℕ) (leads : Bool) → (leads ≡ false → x ≡ 0) → x ≡ pick false y 0 + pick leads (pick false 0 x) 0
unfolding pick
off_goes x y true f = omega arith
off_goes x y false f = omega (arith, f refl)

module _ (p : Plan) (out : Leaves) (i side : ℕ) (inside : i < squares p.shape) (h : side < sides) where
  abbrev neighbour : ℕ
  neighbour = beside p.shape i side

  -- the neighbour finds the square itself on the opposite side
  back_here : within p.shape neighbour ≡ true → beside p.shape neighbour (opposite side) ≡ i
  back_here on = there_and_back p.shape inside side h (ltb-true neighbour (squares p.shape) on)

  -- what it was sent from there is what went, and nothing from a closed square
  pub sent_back : within p.shape neighbour ≡ true → sent p out neighbour (opposite side) ≡ pick (shut p i) 0 (out i side)
  unfolding sent
  sent_back on = rw (back_here on, opposite-opposite side h)

  -- what goes through a side comes to a neighbour that is not closed, or leaves the grid from an exit
  pub goes_where : Walled p out → out i side ≡ reaches p out i side + drains p out i side
  unfolding reaches drains off_side
  goes_where W = go (within p.shape neighbour) refl
    where
      go : (on : Bool) → within p.shape neighbour ≡ on →
          out i side
          ≡ pick (within p.shape neighbour) (pick (shut p neighbour) 0 (sent p out neighbour (opposite side))) 0
          + pick (exit p.marks i) (pick (within p.shape neighbour) 0 (out i side)) 0
      go true b = rw (b, sent_back b) (within_goes (out i side) (shut p i) (shut p neighbour) (exit p.marks i) (W.closed_in i side inside h) (W.walled i side inside h b))
      go false b = rw b (off_goes (out i side) _ (exit p.marks i) (W.rimmed i side inside h b))

-- nothing arrives in a closed square
module _ (p : Plan) (out : Leaves) (W : Walled p out) where
  none_towards : (i side : ℕ) → i < squares p.shape → side < sides → shut p i ≡ true → sent_towards p out i side ≡ 0
  unfolding sent_towards
  none_towards i side inside h e = go (within p.shape (beside p.shape i side)) refl
    where
      go : (on : Bool) → within p.shape (beside p.shape i side) ≡ on →
          pick (within p.shape (beside p.shape i side)) (out (beside p.shape i side) (opposite side)) 0 ≡ 0
      go false b = pick_false _ _ b
      go true b =
          let at = beside p.shape i side in
          let back : beside p.shape at (opposite side) ≡ i = back_here p out i side inside h b in
          pick_true _ _ b
          ∙ W.walled at (opposite side) (ltb-true at (squares p.shape) b) (opposite_small side)
          (ap (within p.shape) back ∙ lt-ltb i (squares p.shape) inside) (ap (shut p) back ∙ e)

  pub walls_stay_dry : into_walls p out ≡ 0
  unfolding into_walls
  walls_stay_dry =
      sum_zero (squares p.shape) _ (λ i inside. go i inside (shut p i) refl)
    where
      go : (i : ℕ) → i < squares p.shape → (b : Bool) → shut p i ≡ b → pick (shut p i) (four_sides (sent_towards p out i)) 0 ≡ 0
      go i inside false e = pick_false _ _ e
      go i inside true e =
          let n = none_towards i north inside (omega arith) e in
          let t = none_towards i east inside (omega arith) e in
          let s = none_towards i south inside (omega arith) e in
          let w = none_towards i west inside (omega arith) e in
          pick_true _ _ e ∙ rw (n, t, s, w)

-- ---- closed squares stay as they were

skipped_stays : (n : ℕ) (skipped : ℕ → Bool) (f : ℕ → ℕ) (old : List ℕ) (i : ℕ) → skipped i ≡ true →
    get_or (filled n skipped f old) i 0 ≡ get_or old i 0
skipped_stays n skipped f old i e = go (dec_lt i (length old))
  where
    go : Dec (i < length old) → get_or (filled n skipped f old) i 0 ≡ get_or old i 0
    go (yes l) = filled_skipped n skipped f old i l e
    go (no l) =
        get_or-eq_default (filled n skipped f old) 0 (omega (arith, length-filled n skipped f old))
        ∙ sym (get_or-eq_default old 0 (omega arith))

module _ (p : Plan) (w : World) where
  pub after_untouched : (m : Moves) → Untouched p w (world_after p m w)
  unfolding world_after
  after_untouched m = record { depth_stays = skipped_stays _ _ _ _; last_stays = skipped_stays _ _ _ _ }

  pub before-untouched : (rec : List ℕ) → Untouched p w (world_before p w rec)
  unfolding world_before
  before-untouched rec = record { depth_stays = skipped_stays _ _ _ _; last_stays = skipped_stays _ _ _ _ }

  -- refused or made
  pub back_untouched : Untouched p w (taken_back p w)
  unfolding taken_back
  back_untouched =
      pick_both (Untouched p w) _ (before-untouched (newest_record p w)) (record { depth_stays = λ i e. refl; last_stays = λ i e. refl })
