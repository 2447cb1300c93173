-- `evenings::program::rooms_fit` meets its contract: the first test that fails decides, and where each before it holds the last does.
-- Assumes nothing.
use mathlib.Core.Path.{refl, sym}
use borrow.Author.Tests.{lt-leb, le-leb}
use Rattle.reckon.proofs.TestLaws.{every_fails}
use Rattle.checks.proofs.CheckLaws.{every_decided}
use Rattle.evenings.specs.Inner.Sizes.{sizes_fit}
use Rattle.evenings.proofs.program.rooms_fit.Goals as goal

pub returns-then-marks-sizes : goal.returns-then-marks-sizes
unfolding sizes_fit
returns-then-marks-sizes c = sym (every_fails _ 0 (lt-leb _ _ c.if-marks-sizes.true))

pub returns-then-beds-sizes : goal.returns-then-beds-sizes
unfolding sizes_fit
returns-then-beds-sizes c = sym (every_fails _ 1 (lt-leb _ _ c.if-beds-sizes.true))

pub returns-then-roughness-sizes : goal.returns-then-roughness-sizes
unfolding sizes_fit
returns-then-roughness-sizes c = sym (every_fails _ 2 (lt-leb _ _ c.if-roughness-sizes.true))

pub returns-then-rates-sizes : goal.returns-then-rates-sizes
unfolding sizes_fit
returns-then-rates-sizes c = sym (every_fails _ 3 (lt-leb _ _ c.if-rates-sizes.true))

pub returns-then-rain-sizes : goal.returns-then-rain-sizes
unfolding sizes_fit
returns-then-rain-sizes c = sym (every_fails _ 4 (lt-leb _ _ c.if-rain-sizes.true))

pub returns-then-inflow-sizes : goal.returns-then-inflow-sizes
unfolding sizes_fit
returns-then-inflow-sizes c = sym (every_fails _ 5 (lt-leb _ _ c.if-inflow-sizes.true))

pub returns-then-depths-sizes : goal.returns-then-depths-sizes
unfolding sizes_fit
returns-then-depths-sizes c = sym (every_fails _ 6 (lt-leb _ _ c.if-depths-sizes.true))

pub returns-then-lasts-sizes : goal.returns-then-lasts-sizes
unfolding sizes_fit
returns-then-lasts-sizes c = sym (every_fails _ 7 (lt-leb _ _ c.if-lasts-sizes.true))

pub returns-then-records-sizes : goal.returns-then-records-sizes
unfolding sizes_fit
returns-then-records-sizes c = sym (every_fails _ 8 (lt-leb _ _ c.if-records-sizes.true))

pub returns : goal.returns
unfolding sizes_fit
returns c =
    every_decided _ 9 _ refl
    (λ t. (
      le-leb _ _ c.if-marks-sizes.false,
      (
        le-leb _ _ c.if-beds-sizes.false,
        (
          le-leb _ _ c.if-roughness-sizes.false,
          (
            le-leb _ _ c.if-rates-sizes.false,
            (
              le-leb _ _ c.if-rain-sizes.false,
              (
                le-leb _ _ c.if-inflow-sizes.false,
                (le-leb _ _ c.if-depths-sizes.false, (le-leb _ _ c.if-lasts-sizes.false, (le-leb _ _ c.if-records-sizes.false, (t, tt)))),
              ),
            ),
          ),
        ),
      ),
    ))
