-- Laws of the candidates of all squares: the least of them grows square by square.
-- Assumes nothing.
use mathlib.Core.Path.{◌≡◌, sym, ap, ◌∙◌}
use mathlib.Core.Bool.{true, false}
use mathlib.Core.List.{List}
use Prim.Native.Nat.{ℕ, ◌+◌}
use Rattle.reckon.specs.Lists.{joined}
use Rattle.reckon.proofs.TestLaws.{pick_true, pick_false}
use Rattle.reckon.proofs.ListLaws.{joined_none, joined_more}
use Rattle.grid.specs.Squares.{squares}
use Rattle.rule.specs.Length.{candidates_of, least_from, length_at, fresh_length, is_update}
use Rattle.rule.proofs.LengthLaws.{least_append, least_none, shorter_dry}
use Rattle.rule.specs.declared.rules.Rules.{Rules}
use Rattle.ledger.specs.Runs.{Plan}
use Rattle.ledger.specs.Flows.{shut}
use Rattle.checks.specs.Given.{Ground}
use Rattle.moves.specs.Drops.{drops_of}
use Rattle.moves.specs.Moves.{square_candidates, candidates}
use lib.ListN.{get_or}

module _ (p : Plan) (o : Ground) (depths : List ℕ) where
  pub least_closed : (best i : ℕ) → shut p i ≡ true → least_from best (square_candidates p o depths i) ≡ best
  unfolding square_candidates
  least_closed best i e = ap (least_from best) (pick_true _ _ e) ∙ least_none best

  pub least_open :
      (best i : ℕ) → shut p i ≡ false →
      least_from best (square_candidates p o depths i)
      ≡ least_from best (candidates_of o.rules (get_or depths i 0) (get_or o.roughness i 0) (drops_of p o.rules o.beds depths i))
  unfolding square_candidates
  least_open best i e = ap (least_from best) (pick_false _ _ e)

  pub least_dry : (best i : ℕ) → shut p i ≡ false → get_or depths i 0 ≡ 0 → least_from best (square_candidates p o depths i) ≡ best
  least_dry best i e d = least_open best i e ∙ shorter_dry o.rules (get_or depths i 0) (get_or o.roughness i 0) best (drops_of p o.rules o.beds depths i) d

  -- a loop over the squares
  pub least_begin : (best : ℕ) → best ≡ least_from best (joined 0 (square_candidates p o depths))
  least_begin best = sym (ap (least_from best) (joined_none (square_candidates p o depths)) ∙ least_none best)

  pub least_more :
      (best i : ℕ) {a b : ℕ} → a ≡ least_from best (joined i (square_candidates p o depths)) → b ≡ least_from a (square_candidates p o depths i) →
      b ≡ least_from best (joined (i + 1) (square_candidates p o depths))
  least_more best i e h =
      h
      ∙ (ap (λ (x : ℕ). least_from x (square_candidates p o depths i)) e
      ∙ (sym (least_append best (joined i (square_candidates p o depths)) (square_candidates p o depths i))
      ∙ ap (least_from best) (sym (joined_more i (square_candidates p o depths)))))

  pub least_all : (best : ℕ) {i b : ℕ} → b ≡ least_from best (joined i (square_candidates p o depths)) → i ≡ squares p.shape → b ≡ least_from best (candidates p o depths)
  unfolding candidates
  least_all best e h = e ∙ ap (λ (k : ℕ). least_from best (joined k (square_candidates p o depths))) h

-- the least as the code names its parts
pub shorter_made :
    (r : Rules) (best : ℕ) {d e k l : ℕ} {v w : List ℕ} → d ≡ e → k ≡ l → v ≡ w →
    least_from best (candidates_of r d k v) ≡ least_from best (candidates_of r e l w)
shorter_made r best a b c = rw (a, b, c)

-- ---- held, or worked afresh

pub length_afresh : (r : Rules) (clock held : ℕ) (cs : List ℕ) → is_update r clock ≡ true → length_at r clock held cs ≡ fresh_length r cs
unfolding length_at
length_afresh r clock held cs e = pick_true _ _ e

pub length-kept : (r : Rules) (clock held : ℕ) (cs : List ℕ) → is_update r clock ≡ false → length_at r clock held cs ≡ held
unfolding length_at
length-kept r clock held cs e = pick_false _ _ e
