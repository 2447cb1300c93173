-- `lists::names::list_after` meets its contract: the depth's line ends there, and the names follow.
-- Assumes nothing.
use mathlib.Core.Path.{◌≡◌, sym, ◌∙◌}
use mathlib.Core.Bool.{true}
use native.Mathlib.Omega.{arith}
use Rattle.reckon.proofs.TestLaws.{pick_false}
use Rattle.text.specs.Reading.{newline, is_byte}
use Rattle.text.proofs.ReadingLaws.{byte_within}
use Rattle.lists.specs.Names.{list_after}
use Rattle.lists.proofs.NameLaws.{list_good}
use Rattle.lists.proofs.names.list_after.Goals as goal
use Rattle.lists.proofs.names.list_after.Goals.{Else-not-byte_is}

-- the line ends where the depth does
ended : (c : Else-not-byte_is) → is_byte c.args.text.now c.args.end newline ≡ true
ended c = sym c.byte_is.ensures ∙ c.if-not-byte_is.false

pub returns-then-not-byte_is : goal.returns-then-not-byte_is
unfolding list_after
returns-then-not-byte_is c = c.refused.ensures ∙ sym (pick_false _ _ (sym c.byte_is.ensures ∙ c.if-not-byte_is.true))

pub overflow_add-end : goal.overflow_add-end
overflow_add-end c = omega (arith, byte_within _ _ _ (ended c))

pub count_names-names-requires : goal.count_names-names-requires
count_names-names-requires c = omega (arith, byte_within _ _ _ (ended c))

pub returns : goal.returns
returns c = list_good _ _ _ (ended (goal.at.returns c).Else-not-byte_is) c.count_names-names.ensures c.list_number.ensures
