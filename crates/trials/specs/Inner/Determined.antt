-- The contract of each layer function of this crate leaves one outcome.
-- Assumes nothing.
use Rattle.std.specs.Prelude.{ℕ}
use Rattle.reckon.specs.Outcomes.{One}
use Rattle.trials.specs.Ring.{SlotsIn, SlotStart, SlotAfter, SlotBefore, KeptAfter, RingJudged}

pub record TrialsDetermined : Type 0 where
  pub slots-in : (size numbers : ℕ) → One (SlotsIn size numbers)
  pub slot-start : (size slot : ℕ) → One (SlotStart size slot)
  pub slot-after : (k newest : ℕ) → One (SlotAfter k newest)
  pub slot-before : (k newest : ℕ) → One (SlotBefore k newest)
  pub kept-after : (k kept : ℕ) → One (KeptAfter k kept)
  pub ring-fine : (k kept newest : ℕ) → One (RingJudged k kept newest)
