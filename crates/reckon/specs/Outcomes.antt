-- That a contract leaves one outcome. The records `...Determined` say it of every public function, with a field for each over the very relation
-- that its contract names: of a layer function in its own crate's specs/inner/Determined.antt, of an entry point in the crate `demands`. What a
-- call hands back comes first, then each slice that it was lent to write, in the order of its parameters. Nothing is assumed of the inputs, also
-- where a function asks for something.
-- Assumes nothing.
use Rattle.std.specs.Prelude.{◌≡◌}

-- any two outcomes that a contract allows are equal
abbrev pub One : {Out : Type 0} → (Out → Type 0) → Type 0
One {Out} allowed = (a b : Out) → allowed a → allowed b → a ≡ b
