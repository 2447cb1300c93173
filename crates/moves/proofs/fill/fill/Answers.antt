-- `moves::fill::fill` meets its contract: in a room that is clear but for the head, the walk works the squares that are marked, and all others
-- stand already.
-- Assumes nothing.
use mathlib.Core.Path.{◌≡◌, refl, ap, ◌∙◌}
use mathlib.Core.List.{List}
use Prim.Native.Nat.{ℕ, ◌≤◌, ◌<◌}
use native.Mathlib.Decide.{dec_lt}
use native.Mathlib.Omega.{arith}
use lib.ListN.{length, get_or, replicate, get_or-eq_default}
use Rattle.std.proofs.lemmas.List.{get_or-replicate, length-replicate}
use Rattle.ledger.specs.Runs.{Plan, plan}
use Rattle.checks.specs.Given.{Ground, ground}
use Rattle.moves.specs.Inner.Fill.{Cleared, FilledTo}
use Rattle.moves.proofs.FillLaws.{fills_still, filled_head, filled_whole}
use Rattle.moves.proofs.WetLaws.{idle_by, left-kept}
use Rattle.moves.proofs.fill.fill.Goals as goal
use Rattle.moves.proofs.fill.fill.Goals.{After-put_head, Start}

-- ---- what is known there

abbrev p : Start → Plan
p s = plan s.args.way.shape s.args.marks.now

abbrev o : Start → Ground
o s = ground s.args.way.rules s.args.beds.now s.args.roughness.now s.args.rates.now

abbrev zeros : ℕ → List ℕ
zeros n = replicate n 0

-- a list of zeros reads 0 everywhere, past its end too
cleared : (n : ℕ) {l : List ℕ} → l ≡ zeros n → Cleared l
cleared n {l} e i = ap (λ (x : List ℕ). get_or x i 0) e ∙ go (dec_lt i n)
  where
    go : Dec (i < n) → get_or (zeros n) i 0 ≡ 0
    go (yes h) = get_or-replicate n i 0 0 h
    go (no h) = get_or-eq_default (zeros n) 0 (let p : length (zeros n) ≤ i = omega (arith, length-replicate {A = ℕ} n 0) in p)

-- the record begins with its head, and is clear after it
head_put :
    (c : After-put_head) →
    FilledTo (p (goal.at.After-put_head c).Start) (o (goal.at.After-put_head c).Start) c.args.depths.now c.args.lasts.now c.args.added.now c.args.span.held c.args.span.start c.args.span.duration 0
    c.put_head.new.rec
head_put c =
    filled_head c.fill.new.self (c.fill.ensures.len ∙ c.requires.fills.record_long) (cleared _ (c.fill.ensures.after (λ y e. e))) c.put_head.ensures

-- ---- the answers

pub fill_rows-requires : goal.fill_rows-requires
fill_rows-requires c = record {
  fills = fills_still (c.put_head.auto.rec ∙ c.fill.ensures.len) c.requires.fills;
  unstirred_by = (
    idle_by c.args.way.walk (p (goal.at.fill_rows-requires c).Start) c.args.depths.now c.args.lasts.now c.args.added.now c.requires.fills.flows.lies.sited.fine c.mark_worked.ensures,
    c.mark_worked.auto.worked ∙ c.requires.held_le_most_length.2,
    c.requires.held_le_most_length.1,
    c.requires.held_le_most_length.3,
  );
}

pub returns : goal.returns
returns c = (
  filled_whole refl (c.fill_rows.ensures.0 c.args.span.held (head_put (goal.at.returns c).After-put_head)),
  c.mark_worked.ensures,
  c.fill_rows.ensures.2,
  left-kept c.args.way.walk (p (goal.at.returns c).Start) c.args.depths.now c.args.lasts.now c.args.added.now (o (goal.at.returns c).Start) c.args.span.duration
      c.fill_rows.new.left c.requires.fills.flows.lies.sited.fine c.mark_worked.ensures
      c.fill_rows.ensures.1,
)
