-- `files::read_on` meets its contract: what came is put as far as it fits.
-- Assumes nothing.
use Prim.Native.Nat.{ℕ, ◌≤◌, ◌-◌}
use lib.ListN.{length}
use native.Mathlib.Omega.{arith}
use borrow.Author.Rules.{rules}
use Rattle.std.proofs.lemmas.List.{length-take}
use Rattle.files.proofs.FileLaws.{came_fits, put_came}
use Rattle.files.proofs.read_on.Goals as goal

pub returns-in-Ok : goal.returns-in-Ok
returns-in-Ok g c =
    let asked : c.min-fits.result ≤ length c.args.room.now - c.args.at = search rules in
    let most : c.in-Ok.got ≤ c.min-fits.result = omega (arith, c.in-Ok.ensures.bound, c.read.auto.buf, length-take {A = ℕ}) in
    record { some = put_came (came_fits _ _ _ _ _ c.requires asked most) c.put_word.ensures; none = tt }
