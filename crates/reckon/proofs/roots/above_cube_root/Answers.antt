-- `reckon::roots::above_cube_root` meets its contract: the first power of ten whose cube is above n.
-- Assumes nothing.
use native.Mathlib.Omega.{arith}
use Rattle.reckon.proofs.PlaceLaws.{above_at}
use Rattle.reckon.proofs.roots.above_cube_root.Goals as goal

pub returns-then-n-lt1000000 : goal.returns-then-n-lt1000000
returns-then-n-lt1000000 c = above_at 2 (omega arith) (omega arith)

pub returns-then-n-lt1000000000 : goal.returns-then-n-lt1000000000
returns-then-n-lt1000000000 c = above_at 3 (omega arith) (omega arith)

pub returns-then-n-lt1000000000000 : goal.returns-then-n-lt1000000000000
returns-then-n-lt1000000000000 c = above_at 4 (omega arith) (omega arith)

pub returns-then-n-lt1000000000000000 : goal.returns-then-n-lt1000000000000000
returns-then-n-lt1000000000000000 c = above_at 5 (omega arith) (omega arith)

pub returns : goal.returns
returns c = above_at 6 (omega arith) (omega arith)
