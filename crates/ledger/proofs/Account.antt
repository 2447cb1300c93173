-- The account of one step: what goes from squares not closed comes to squares not closed or leaves the grid, so that water, outflow and
-- soaked grow by just what is added. For any amounts that keep to the wall rule and are covered.
-- Assumes nothing.
use mathlib.Core.Path.{◌≡◌, refl, sym, ap, ◌∙◌}
use mathlib.Core.Bool.{Bool, true, false}
use Prim.Native.Nat.{ℕ, ◌+◌, ◌≤◌, ◌<◌}
use native.Mathlib.Omega.{arith}
use native.Mathlib.Decide.{dec_lt}
use lib.ListN.{length, get_or}
use borrow.Author.Tests.{lt-ltb, le-ltb}
use Rattle.reckon.specs.Tests.{pick}
use Rattle.reckon.specs.Lists.{sum_below}
use Rattle.reckon.proofs.TestLaws.{pick_true, pick_false, pick_same}
use Rattle.reckon.proofs.ListLaws.{sum_ext, sum_zero, filled_in}
use Rattle.reckon.proofs.SumLaws.{sum-add, sum_moved}
use Rattle.grid.specs.Squares.{north, east, south, west, sides, squares, within, beside, opposite}
use Rattle.grid.proofs.SquareLaws.{opposite-opposite, opposite_small, there_and_back}
use Rattle.ledger.specs.Runs.{Plan, World}
use Rattle.ledger.specs.Flows.{Leaves, four_sides, shut, gone, sent, came, off_side, off_square, off_grid, soaked_square, soaked_grid}
use Rattle.ledger.specs.After.{Moves, remains, new_depth, new_outflow, new_soaked, world_after}
use Rattle.ledger.specs.Account.{over_open, water, held}
use Rattle.ledger.specs.Walls.{Walled}
use Rattle.ledger.proofs.FlowLaws.{sent_none}
use Rattle.ledger.proofs.Walls.{sent_back}

-- ---- sums over squares not closed

pick-add : (b : Bool) (x y : ℕ) → pick b 0 (x + y) ≡ pick b 0 x + pick b 0 y
unfolding pick
pick-add true x y = refl
pick-add false x y = refl

module _ (p : Plan) where
  pub open_add : (f g : ℕ → ℕ) → over_open p (λ i. f i + g i) ≡ over_open p f + over_open p g
  unfolding over_open
  open_add f g =
      sum_ext (squares p.shape) _ _ (λ i l. pick-add (shut p i) (f i) (g i))
      ∙ sum-add (squares p.shape) (λ i. pick (shut p i) 0 (f i)) (λ i. pick (shut p i) 0 (g i))

  pub open_ext : (f g : ℕ → ℕ) → ((i : ℕ) → i < squares p.shape → shut p i ≡ false → f i ≡ g i) → over_open p f ≡ over_open p g
  unfolding over_open pick
  open_ext f g h = sum_ext (squares p.shape) _ _ (λ i l. go i l (shut p i) refl)
    where
      go : (i : ℕ) → i < squares p.shape → (b : Bool) → shut p i ≡ b → pick b 0 (f i) ≡ pick b 0 (g i)
      go i l true e = refl
      go i l false e = h i l e

  pub open_zero : (f : ℕ → ℕ) → ((i : ℕ) → i < squares p.shape → shut p i ≡ false → f i ≡ 0) → over_open p f ≡ 0
  unfolding over_open
  open_zero f h = open_ext f (λ i. 0) h ∙ sum_zero (squares p.shape) _ (λ i l. pick_same (shut p i) 0)

  open_four : (f : ℕ → ℕ → ℕ) →
      over_open p (λ i. four_sides (f i)) ≡ over_open p (λ i. f i north) + over_open p (λ i. f i east) + over_open p (λ i. f i south) + over_open p (λ i. f i west)
  open_four f =
      let all = open_add (λ i. f i north + f i east + f i south) (λ i. f i west) in
      let three = open_add (λ i. f i north + f i east) (λ i. f i south) in
      let two = open_add (λ i. f i north) (λ i. f i east) in
      omega (arith, all, three, two)

-- ---- what goes through a side comes through the opposite one, or leaves the grid

module _ (p : Plan) (out : Leaves) (W : Walled p out) (marks_long : length p.marks ≡ squares p.shape) where
  module _ (side : ℕ) (h : side < sides) where
    -- what comes to a square not closed through the opposite side
    abbrev arrives : ℕ → ℕ
    arrives j = pick (shut p j) 0 (sent p out j (opposite side))

    -- of one square
    goes_or_leaves : (i : ℕ) → i < squares p.shape →
        pick (shut p i) 0 (out i side)
        ≡ pick (within p.shape (beside p.shape i side)) (arrives (beside p.shape i side)) 0 + pick (shut p i) 0 (off_side p out i side)
    unfolding off_side pick
    goes_or_leaves i inside = go (within p.shape (beside p.shape i side)) refl (shut p i) refl (shut p (beside p.shape i side)) refl
      where
        go :
            (on : Bool) → within p.shape (beside p.shape i side) ≡ on → (own : Bool) → shut p i ≡ own →
            (theirs : Bool) → shut p (beside p.shape i side) ≡ theirs →
            pick own 0 (out i side) ≡ pick on (pick theirs 0 (sent p out (beside p.shape i side) (opposite side))) 0 + pick own 0 (pick on 0 (out i side))
        go false b own e theirs t = omega arith
        go true b true e true t = omega arith
        go true b true e false t = omega (arith, sent_back p out i side inside h b ∙ pick_true _ _ e)
        go true b false e true t = omega (arith, W.walled i side inside h b t)
        go true b false e false t = omega (arith, sent_back p out i side inside h b ∙ pick_false _ _ e)

    abbrev there : ℕ → ℕ
    there i = beside p.shape i side

    abbrev from : ℕ → ℕ
    from j = beside p.shape j (opposite side)

    -- nothing comes from beyond the grid
    only_within : (j : ℕ) → pick (within p.shape (beside p.shape j (opposite side))) (arrives j) 0 ≡ arrives j
    unfolding pick
    only_within j = go (dec_lt (beside p.shape j (opposite side)) (squares p.shape))
      where
        go : Dec (beside p.shape j (opposite side) < squares p.shape) → pick (within p.shape (beside p.shape j (opposite side))) (arrives j) 0 ≡ arrives j
        go (yes l) = pick_true _ _ (lt-ltb (from j) (squares p.shape) l)
        go (no l) =
            let none : 0 ≡ sent p out j (opposite side) = sent_none p out j (opposite side) refl marks_long (omega (arith, l)) in
            pick_false _ _ (le-ltb (from j) (squares p.shape) (omega (arith, l))) ∙ rw (sym none) (sym (pick_same (shut p j) 0))

    through-side : over_open p (λ i. out i side) ≡ over_open p (λ j. sent p out j (opposite side)) + over_open p (λ i. off_side p out i side)
    unfolding over_open
    through-side =
        let n = squares p.shape in
        sum_ext n _ _ goes_or_leaves
        ∙ (sum-add n (λ i. pick (within p.shape (there i)) (arrives (there i)) 0) (λ i. pick (shut p i) 0 (off_side p out i side))
        ∙ ap (λ (x : ℕ). x + sum_below n (λ i. pick (shut p i) 0 (off_side p out i side)))
        (sum_moved n there from arrives (λ i l m. there_and_back p.shape l side h m) (λ j l m. forth j l m)
        ∙ sum_ext n _ _ (λ j l. only_within j)))
      where
        forth : (j : ℕ) → j < squares p.shape → beside p.shape j (opposite side) < squares p.shape →
            beside p.shape (beside p.shape j (opposite side)) side ≡ j
        forth j l m =
            ap (beside p.shape (beside p.shape j (opposite side))) (sym (opposite-opposite side h))
            ∙ there_and_back p.shape l (opposite side) (opposite_small side) m

  abbrev comes : ℕ → ℕ
  comes side = over_open p (λ j. sent p out j side)

  -- the opposite sides of all four are all four
  opposites : comes (opposite north) + comes (opposite east) + comes (opposite south) + comes (opposite west) ≡ comes north + comes east + comes south + comes west
  unfolding opposite
  opposites = omega arith

  -- over all sides
  pub all_goes : over_open p (gone out) ≡ over_open p (came p out) + over_open p (λ i. four_sides (off_side p out i))
  unfolding gone came
  all_goes =
      omega (
        arith,
        open_four p out,
        open_four p (sent p out),
        open_four p (off_side p out),
        through-side north (omega arith),
        through-side east (omega arith),
        through-side south (omega arith),
        through-side west (omega arith),
        opposites,
      )

-- ---- a step

module _ (p : Plan) (m : Moves) (w : World) where
  -- what a step asks of what it moves, so that the account holds
  pub record Balanced : Type 0 where
    pub walled : Walled p m.leaves
    pub marks_long : length p.marks ≡ squares p.shape
    pub depths_long : length w.depths ≡ squares p.shape
    pub covered : (i : ℕ) → i < squares p.shape → shut p i ≡ false → gone m.leaves i + m.soaked i ≤ get_or w.depths i 0

  module _ (b : Balanced) where
    -- the new depths with what went and soaked are the old ones with what came and was added
    depths_balance :
        over_open p (new_depth p m w) + over_open p (gone m.leaves) + over_open p m.soaked
        ≡ over_open p (λ i. get_or w.depths i 0) + over_open p (came p m.leaves) + over_open p m.added
    unfolding new_depth remains
    depths_balance =
        let left = open_add p (new_depth p m w) (gone m.leaves) in
        let left_all = open_add p (λ i. new_depth p m w i + gone m.leaves i) m.soaked in
        let right = open_add p (λ i. get_or w.depths i 0) (came p m.leaves) in
        let right-all = open_add p (λ i. get_or w.depths i 0 + came p m.leaves i) m.added in
        let same =
        open_ext p (λ i. new_depth p m w i + gone m.leaves i + m.soaked i) (λ i. get_or w.depths i 0 + came p m.leaves i + m.added i)
        (λ i l e. omega (arith, b.covered i l e)) in
        omega (arith, left, left_all, right, right-all, same)

    -- the water after the step, by the new depths
    water-after : water p (world_after p m w).depths ≡ over_open p (new_depth p m w)
    unfolding water world_after
    water-after = open_ext p _ (new_depth p m w) (λ i l e. filled_in _ _ _ w.depths i (omega (arith, b.depths_long)) l e)

    off_is : off_grid p m.leaves ≡ over_open p (λ i. four_sides (off_side p m.leaves i))
    unfolding off_grid off_square over_open
    off_is = refl

    soaked_is : soaked_grid p m.soaked ≡ over_open p m.soaked
    unfolding soaked_grid soaked_square over_open
    soaked_is = refl

    -- water, outflow and soaked grow by what is added
    pub step_balance : held p (world_after p m w) ≡ held p w + over_open p m.added
    unfolding held world_after new_outflow new_soaked water
    step_balance = omega (arith, water-after, depths_balance, all_goes p m.leaves b.walled b.marks_long, off_is, soaked_is)
