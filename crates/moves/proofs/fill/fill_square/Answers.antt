-- `moves::fill::fill_square` meets its contract: a closed square changes nothing, a dry one sends and soaks nothing, any other is worked.
-- Assumes nothing.
use mathlib.Core.Path.{◌≡◌, refl, sym, ◌∙◌}
use mathlib.Core.Bool.{false}
use Rattle.reckon.proofs.TestLaws.{not_both, pick_true}
use Rattle.ledger.specs.Runs.{Plan, plan}
use Rattle.ledger.specs.Flows.{shut}
use Rattle.checks.specs.Given.{Ground, ground}
use Rattle.moves.proofs.FillLaws.{put_dry, soaked_dry, dry-gone, dry_silent, left-set}
use Rattle.moves.proofs.fill.fill_square.Goals as goal
use Rattle.moves.proofs.fill.fill_square.Goals.{Else-is_closed, Start}

-- ---- what is known there

abbrev p : Start → Plan
p s = plan s.args.way.shape s.args.marks.now

abbrev o : Start → Ground
o s = ground s.args.way.rules s.args.beds.now s.args.roughness.now s.args.rates.now

is_open : (c : Else-is_closed) → shut (p (goal.at.Else-is_closed c).Start) c.args.at.square ≡ false
is_open c = sym c.is_closed.ensures ∙ c.if-is_closed.false

-- ---- the answers

pub returns-then-is_closed : goal.returns-then-is_closed
returns-then-is_closed c =
    let e = sym c.is_closed.ensures ∙ c.if-is_closed.true in
    record {
      closed-kept = λ z. refl;
      open_put = λ z. not_both e z;
      left_is = sym (pick_true _ _ e);
      sent_is = sym (dry_silent (p (goal.at.returns-then-is_closed c).Start) (o (goal.at.returns-then-is_closed c).Start) c.args.depths.now c.args.lasts.now c.args.span.duration c.args.at.square (λ z. not_both e z));
    }

pub returns-then-depths-square-eq0 : goal.returns-then-depths-square-eq0
returns-then-depths-square-eq0 c =
    let e = is_open (goal.at.returns-then-depths-square-eq0 c).Else-is_closed in
    let none = c.if-depths-square-eq0.true in
    record {
      closed-kept = λ z. not_both z e;
      open_put =
          λ z. put_dry c.args.way.rules _ _ c.args.span.duration _ c.args.rec.now c.args.at.square _ _
          none (soaked_dry (p (goal.at.returns-then-depths-square-eq0 c).Start) (o (goal.at.returns-then-depths-square-eq0 c).Start) c.args.depths.now c.args.lasts.now c.args.span.start c.args.span.duration c.args.at.square z none)
          c.put_square.ensures;
      left_is =
          left-set (p (goal.at.returns-then-depths-square-eq0 c).Start) c.args.left.now c.args.at.square e
          (sym (dry-gone (p (goal.at.returns-then-depths-square-eq0 c).Start) (o (goal.at.returns-then-depths-square-eq0 c).Start) c.args.depths.now c.args.lasts.now c.args.span.duration c.args.at.square e none));
      sent_is = sym (dry_silent (p (goal.at.returns-then-depths-square-eq0 c).Start) (o (goal.at.returns-then-depths-square-eq0 c).Start) c.args.depths.now c.args.lasts.now c.args.span.duration c.args.at.square (λ z. none));
    }
