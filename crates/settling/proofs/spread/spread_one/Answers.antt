-- `settling::spread::spread_one` meets its contract: a closed square changes nothing; of another what remains stays, and what leaves is sent.
-- Assumes nothing.
use Rattle.std.proofs.Common.{◌≡◌, ℕ, ◌+◌, ◌-◌, ◌*◌, ◌<◌, ◌≤◌, false, List, get_or, sym, refl, ◌∙◌, mul-le-mul_right, arith, length-set}
use Rattle.reckon.proofs.TestLaws.{not_both}
use Rattle.grid.specs.Squares.{squares}
use Rattle.ledger.specs.Runs.{Plan, plan}
use Rattle.ledger.specs.Inner.Worlds.{of_depths}
use Rattle.ledger.specs.Flows.{shut, gone}
use Rattle.ledger.specs.Record.{leaves_in, soaked_in}
use Rattle.ledger.specs.After.{remains}
use Rattle.settling.specs.Inner.Settle.{moves_in}
use Rattle.ledger.proofs.FlowLaws.{four_words, word, off_small, off_sum_small, soaked_small, soaked_sum_small}
use Rattle.settling.proofs.SpreadLaws.{spread_idle, spread_open, stays_is, next_few, space_next, leaves_few}
use Rattle.settling.proofs.spread.spread_one.Goals as goal
use Rattle.settling.proofs.spread.spread_one.Goals.{After-number-2, After-number-3, After-send-off}

-- ---- what is known where the square is not closed

module _ (c : After-number-2) where
  abbrev p : Plan
  p = plan c.args.shape c.args.marks.now

  abbrev rec : List ℕ
  rec = c.args.rec.now

  abbrev depths : List ℕ
  depths = c.args.depths.now

  abbrev i : ℕ
  i = c.args.square

  words : (k : ℕ) → get_or rec k 0 < 4294967296
  words k = (c.type_inv.rec k).fits

  inside : i < squares p.shape
  inside = c.requires.spreads.1.inside

  open-here : shut p i ≡ false
  open-here = sym c.is_closed.ensures ∙ c.if-is_closed.false

  covered : gone (leaves_in rec) i + soaked_in rec i ≤ get_or depths i 0
  covered = c.requires.spreads.0.covered i inside open-here

  left_is : c.number-2.result ≡ gone (leaves_in rec) i
  left_is = c.number-2.ensures ∙ c.requires.square_in_bounds.1 open-here

  remains-is : c.number.result - (c.number-2.result + c.soaked_by-soaked.result) ≡ remains p (moves_in rec 0) (of_depths depths) i
  remains-is = omega (arith, c.number.ensures, left_is, c.soaked_by-soaked.ensures, stays_is p rec depths i)

-- where the room's number is known too
module _ (c : After-number-3) where
  room_is :
      c.number-3.result + (c.number.result - (c.number-2.result + c.soaked_by-soaked.result))
      ≡ get_or c.args.room.now (i (goal.at.After-number-3 c).After-number-2) 0 + remains (p (goal.at.After-number-3 c).After-number-2) (moves_in (rec (goal.at.After-number-3 c).After-number-2) 0) (of_depths (depths (goal.at.After-number-3 c).After-number-2)) (i (goal.at.After-number-3 c).After-number-2)
  room_is = omega (arith, c.number-3.ensures, remains-is (goal.at.After-number-3 c).After-number-2)

pub returns-then-is_closed : goal.returns-then-is_closed
returns-then-is_closed c =
    spread_idle (plan c.args.shape c.args.marks.now) c.args.rec.now c.args.depths.now
    (λ o. not_both (sym c.is_closed.ensures ∙ c.if-is_closed.true) o) c.requires.spreads.2

pub overflow_cast-room : goal.overflow_cast-room
overflow_cast-room c = record { fits = omega (arith, room_is c, next_few c.requires.spreads.0 c.requires.spreads.2 (inside (goal.at.overflow_cast-room c).After-number-2) (open-here (goal.at.overflow_cast-room c).After-number-2)) }

pub send-off-requires : goal.send-off-requires
send-off-requires c = record {
  sends_few = (
    record {
      recorded = c.requires.spreads.0.recorded;
      on = c.requires.spreads.1;
      few = leaves_few c.requires.spreads.0 (inside (goal.at.send-off-requires c).After-number-2) (open-here (goal.at.send-off-requires c).After-number-2);
    },
    open-here (goal.at.send-off-requires c).After-number-2,
  );
  space_left = (
    space_next c.requires.spreads.0 c.requires.spreads.2 (inside (goal.at.send-off-requires c).After-number-2) (open-here (goal.at.send-off-requires c).After-number-2) (room_is (goal.at.send-off-requires c).After-number-3) refl,
    length-set c.args.room.now (i (goal.at.send-off-requires c).After-number-2) _ ∙ (c.requires.spreads.2.long ∙ sym c.requires.spreads.0.recorded.marks_long),
  );
}

-- ---- after the sending

module _ (c : After-send-off) where
  few_squares : i (goal.at.After-send-off c).After-number-2 * four_words ≤ 4096 * four_words
  few_squares = mul-le-mul_right {n = 4096} four_words (omega (arith, inside (goal.at.After-send-off c).After-number-2, c.requires.spreads.1.fine.few))

  few_words : i (goal.at.After-send-off c).After-number-2 * word ≤ 4096 * word
  few_words = mul-le-mul_right {n = 4096} word (omega (arith, inside (goal.at.After-send-off c).After-number-2, c.requires.spreads.1.fine.few))

pub overflow_add-result : goal.overflow_add-result
overflow_add-result c =
    omega (
      arith,
      c.requires.spreads.2.off_is,
      off_sum_small (rec (goal.at.overflow_add-result c).After-number-2) (words (goal.at.overflow_add-result c).After-number-2) (p (goal.at.overflow_add-result c).After-number-2) (i (goal.at.overflow_add-result c).After-number-2),
      few_squares (goal.at.overflow_add-result c).After-send-off,
      c.send-off.ensures.0,
      off_small (rec (goal.at.overflow_add-result c).After-number-2) (words (goal.at.overflow_add-result c).After-number-2) (p (goal.at.overflow_add-result c).After-number-2) (i (goal.at.overflow_add-result c).After-number-2),
    )

pub overflow_add-result-2 : goal.overflow_add-result-2
overflow_add-result-2 c =
    omega (
      arith,
      c.requires.spreads.2.soaked_is,
      soaked_sum_small (rec (goal.at.overflow_add-result-2 c).After-number-2) (words (goal.at.overflow_add-result-2 c).After-number-2) (p (goal.at.overflow_add-result-2 c).After-number-2) (i (goal.at.overflow_add-result-2 c).After-number-2),
      few_words (goal.at.overflow_add-result-2 c).After-send-off,
      c.soaked_by-soaked.ensures,
      soaked_small (rec (goal.at.overflow_add-result-2 c).After-number-2) (words (goal.at.overflow_add-result-2 c).After-number-2) (i (goal.at.overflow_add-result-2 c).After-number-2),
    )

pub returns : goal.returns
returns c =
    spread_open (p (goal.at.returns c).After-number-2) (rec (goal.at.returns c).After-number-2) (depths (goal.at.returns c).After-number-2) (inside (goal.at.returns c).After-number-2) (open-here (goal.at.returns c).After-number-2) c.requires.spreads.2 (room_is (goal.at.returns c).After-number-3) refl c.send-off.ensures.1 c.send-off.ensures.0
    c.soaked_by-soaked.ensures
