-- `desk_calls::several::saved_and_laid` meets its contract: the answer without its `done` is within its room, and what the calls promise is what their
-- caller has.
-- Assumes nothing.
use native.Mathlib.Omega.{arith}
use Rattle.desk_calls.proofs.SeveralLaws.{leaves_fit, after-saved}
use Rattle.desk_calls.proofs.several.saved_and_laid.Goals as goal

pub lay_saved-other-requires : goal.lay_saved-other-requires
lay_saved-other-requires c =
    omega (
      arith,
      c.before_done-end.ensures,
      leaves_fit _ _ _ _ c.command-one.ensures,
      c.lay_saved-arg-2-1.given,
    )

pub returns : goal.returns
returns c = after-saved _ _ _ _ _ _ _ c.command-one.ensures c.before_done-end.ensures c.lay_saved-other.ensures
