-- What the desk prints, worked by hand, every number another one: a meadow of 2 by 3 squares, of which the second is closed.
-- Assumes nothing.
use Rattle.std.specs.Prelude.{◌≡◌, false, true, List, [], ◌∷◌, ℕ, pos, negsuc}
use Rattle.std.specs.Float.{fin, nan}
use Rattle.grid.specs.declared.squares.Shape.{Shape}
use Rattle.checks.specs.declared.bounds.Bounds.TheVariants.{Bounded, NotBounded, Refused}
use Rattle.sight.specs.Speeds.{zero64}
use Rattle.sight.specs.AllArrows.{Sights, sights}
use Rattle.text.specs.Bytes.{bytes_of}
use Rattle.frames.specs.Arrows.{bits_of, arrows_text}
use Rattle.frames.specs.Bounds.{bounds_text}
use Rattle.frames.specs.Frame.{frame_text}
use Rattle.frames.specs.declared.frame.Figures.{Figures}

abbrev pub meadow : Shape
meadow = record { rows = 2; columns = 3 }

abbrev pub marks : List ℕ
marks = 1 ∷ 0 ∷ 1 ∷ 2 ∷ 1 ∷ 1 ∷ []

-- the closed square holds 99, which is not printed
abbrev pub depths : List ℕ
depths = 11 ∷ 99 ∷ 13 ∷ 0 ∷ 15 ∷ 2016 ∷ []

abbrev pub litres : List ℕ
litres = 31 ∷ 32 ∷ 33 ∷ 34 ∷ 35 ∷ 36 ∷ 37 ∷ 38 ∷ 39 ∷ []

abbrev pub figures : Figures
figures =
    record {
      steps = 5;
      clock = 2500;
      length = 500;
      outflow = 61;
      soaked = 40;
      kept = 4;
      room = 256;
      on_ground = 2055;
      start = 1956;
      given = 200;
    }

-- the first square moves by 1 m/s to the east and a quarter to the south, the fourth by a half to the north
abbrev pub seen : Sights
seen =
    sights (0 ∷ 1 ∷ 3 ∷ 0 ∷ 2 ∷ 3 ∷ []) (fin false 1 (pos 0) ∷ zero64 ∷ zero64 ∷ zero64 ∷ zero64 ∷ zero64 ∷ [])
    (fin true 1 (negsuc 1) ∷ zero64 ∷ zero64 ∷ fin false 1 (negsuc 0) ∷ zero64 ∷ zero64 ∷ [])

pub record FrameCases : Type 0 where
  pub a_frame : frame_text figures litres meadow marks depths
      ≡ bytes_of "frame\t5\t2500\t500\t61\t40\t4\t256\t2055\t1956\t200\nrates\t31\t32\t33\t34\t35\t36\t37\t38\t39\nrow\t11\tx\t13\nrow\t0\t15\t2016\n"
  pub some_bounds : bounds_text (Bounded (record { most = 120; least = 2 })) ≡ bytes_of "most\t120\t2\n"
  pub no_bounds : bounds_text NotBounded ≡ bytes_of "unbounded\n"
  pub refused_bounds : bounds_text (Refused 5) ≡ []
  pub some_arrows : arrows_text meadow seen
      ≡ bytes_of "arrow\t0\t0\t4607182418800017408\t13821547256400052224\narrow\t1\t0\t0\t4602678819172646912\n"
  pub no_number : bits_of nan ≡ 0
