-- Laws of the drops: what each side's is, case by case as the code finds it, and that none is above the own level.
-- Assumes nothing.
use mathlib.Core.Path.{◌≡◌, sym, ap, ap₂, ◌∙◌, subst}
use mathlib.Core.Bool.{true, false}
use mathlib.Core.List.{List, [], ◌∷◌}
use Prim.Native.Nat.{ℕ, ◌≤◌, ◌<◌}
use native.Mathlib.Omega.{arith}
use lib.ListN.{get_or}
use borrow.Author.Tests.{lt-ltb, le-ltb}
use Rattle.reckon.specs.Tests.{pick}
use Rattle.reckon.proofs.TestLaws.{pick_true, pick_false, pick_both}
use Rattle.grid.specs.Squares.{squares, within, beside}
use Rattle.grid.specs.Marks.{exit}
use Rattle.rule.specs.Drops.{drop_to, drop_off}
use Rattle.rule.specs.Inner.InRange.{GroundInRange, most_drop, DropsInRange, SquareInRange, Weighable, Candidacy}
use Rattle.rule.specs.declared.rules.Rules.{Rules}
use Rattle.rule.proofs.DropLaws.{off_le}
use Rattle.reckon.specs.Ranges.{most_depth, most_length}
use Rattle.ledger.specs.Runs.{Plan}
use Rattle.ledger.specs.Flows.{shut}
use Rattle.checks.specs.Given.{Ground}
use Rattle.moves.specs.Drops.{level_at, side_drop, drops_of}
use Rattle.checks.specs.Inner.Ready.{MeadowInRange}

-- what stands on a side, as the code finds it
module _ (p : Plan) (r : Rules) (beds depths : List ℕ) (i side : ℕ) {other : ℕ} (q : other ≡ beside p.shape i side) where
  inside : other < squares p.shape → within p.shape (beside p.shape i side) ≡ true
  inside h = lt-ltb _ _ (subst (λ (j : ℕ). j < squares p.shape) q h)

  outside : squares p.shape ≤ other → within p.shape (beside p.shape i side) ≡ false
  outside h = le-ltb _ _ (subst (λ (j : ℕ). squares p.shape ≤ j) q h)

  -- towards a closed square
  pub drop-closed : other < squares p.shape → shut p other ≡ true → side_drop p r beds depths i side ≡ 0
  unfolding side_drop
  drop-closed h e = pick_true _ _ (inside h) ∙ pick_true _ _ (ap (shut p) (sym q) ∙ e)

  -- towards any square, of a level that the code has worked
  pub drop_there :
      {own d : ℕ} → own ≡ level_at p r beds depths i → other < squares p.shape →
      d ≡ pick (shut p other) 0 (drop_to own (level_at p r beds depths other)) → d ≡ side_drop p r beds depths i side
  unfolding side_drop
  drop_there o h e =
      e
      ∙ (ap₂ (λ (k j : ℕ). pick (shut p j) 0 (drop_to k (level_at p r beds depths j))) o q ∙ sym (pick_true _ _ (inside h)))

  -- off the grid from an exit
  pub drop-exit : squares p.shape ≤ other → exit p.marks i ≡ true → side_drop p r beds depths i side ≡ drop_off r (get_or depths i 0)
  unfolding side_drop
  drop-exit h e = pick_false _ _ (outside h) ∙ pick_true _ _ e

  -- off the grid from any other square
  pub drop_rim : squares p.shape ≤ other → exit p.marks i ≡ false → side_drop p r beds depths i side ≡ 0
  unfolding side_drop
  drop_rim h e = pick_false _ _ (outside h) ∙ pick_false _ _ e

module _ (p : Plan) (r : Rules) (beds depths : List ℕ) (i side : ℕ) where
  abbrev other : ℕ
  other = beside p.shape i side

  -- whatever the neighbour holds, a drop is at most the own level
  pub drop_le : GroundInRange (get_or beds i 0) 1 → get_or depths i 0 ≤ most_depth → side_drop p r beds depths i side ≤ most_drop
  unfolding side_drop
  drop_le b d =
      pick_both (λ (x : ℕ). x ≤ most_drop) (within p.shape other)
      (pick_both (λ (x : ℕ). x ≤ most_drop) (shut p other) (omega arith) (omega arith))
      (pick_both (λ (x : ℕ). x ≤ most_drop) (exit p.marks i) (omega (arith, off_le r (get_or depths i 0))) (omega arith))

pub drops_in_range :
    (p : Plan) (r : Rules) (beds depths : List ℕ) (i : ℕ) {k : ℕ} → GroundInRange (get_or beds i 0) k → get_or depths i 0 ≤ most_depth →
    DropsInRange (drops_of p r beds depths i)
unfolding drops_of
drops_in_range p r beds depths i b d =
    let h : GroundInRange (get_or beds i 0) 1 = record { bed_to = b.bed_to; roughness_from = omega arith; roughness_to = omega arith } in
    record { north = drop_le p r beds depths i 0 h d; east = drop_le p r beds depths i 1 h d; south = drop_le p r beds depths i 2 h d; west = drop_le p r beds depths i 3 h d }

-- the four as the code finds them
pub drops_made :
    (p : Plan) (r : Rules) (beds depths : List ℕ) (i : ℕ) {n e s w : ℕ} →
    n ≡ side_drop p r beds depths i 0 → e ≡ side_drop p r beds depths i 1 → s ≡ side_drop p r beds depths i 2 → w ≡ side_drop p r beds depths i 3 →
    n ∷ e ∷ s ∷ w ∷ [] ≡ drops_of p r beds depths i
unfolding drops_of
drops_made p r beds depths i a b c d = rw (a, b, c, d)

-- ---- what the weighing and the candidates of a square not closed may rely on

module _ (p : Plan) (o : Ground) (depths : List ℕ) (l : MeadowInRange p o depths) (i : ℕ) (h : i < squares p.shape) (e : shut p i ≡ false) where
  pub square_in_range : SquareInRange o.rules (get_or depths i 0) (get_or o.roughness i 0)
  square_in_range =
      let g = l.grounds i h e in
      record {
        side_from = l.rules.side_from;
        side_to = l.rules.side_to;
        depth_to = l.depths_to i h e;
        roughness_from = g.roughness_from;
        roughness_to = g.roughness_to;
      }

  drops_fit : DropsInRange (drops_of p o.rules o.beds depths i)
  drops_fit = drops_in_range p o.rules o.beds depths i (l.grounds i h e) (l.depths_to i h e)

  pub candidacy :
      {d k : ℕ} {v : List ℕ} → d ≡ get_or depths i 0 → k ≡ get_or o.roughness i 0 → v ≡ drops_of p o.rules o.beds depths i →
      Candidacy o.rules d k v
  candidacy a b c = rw (a, b, c) (record { square = square_in_range; tolerance_to = l.rules.tolerance_to; drops = drops_fit })

  pub weighable :
      (lasts : List ℕ) {ms d q k : ℕ} {v : List ℕ} → get_or lasts i 0 ≤ most_depth → ms ≤ most_length →
      d ≡ get_or depths i 0 → q ≡ get_or lasts i 0 → k ≡ get_or o.roughness i 0 → v ≡ drops_of p o.rules o.beds depths i →
      Weighable o.rules d q k ms v
  weighable lasts m n a q b c = rw (a, q, b, c) (record { square = square_in_range; last_to = m; lasts_to = n; drops = drops_fit })
