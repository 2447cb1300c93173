-- A written record is read back, for each square has its own seven places.
-- Assumes nothing.
use mathlib.Core.Path.{◌≡◌, refl, ap, ◌∙◌}
use mathlib.Core.Bool.{true, false}
use mathlib.Core.List.{List, [], ◌∷◌}
use Prim.Native.Nat.{ℕ, zero, suc, ◌+◌, ◌*◌, ◌<◌}
use native.Mathlib.Omega.{arith}
use lib.ListN.{length, get_or, get_or-replicate}
use lib.Seq.{get_or-append-add}
use Rattle.reckon.specs.Lists.{joined}
use Rattle.reckon.proofs.TestLaws.{pick_true, pick_false, pick_both}
use Rattle.reckon.proofs.ListLaws.{length-joined, get_or-joined, sum_ext}
use Rattle.grid.specs.Squares.{north, east, south, west, sides, squares, beside, opposite}
use Rattle.grid.proofs.SquareLaws.{opposite_small}
use Rattle.grid.proofs.MarkLaws.{marked, unless_closed}
use Rattle.ledger.specs.Runs.{Plan, World}
use Rattle.ledger.specs.Flows.{Leaves, four_sides, shut, gone, sent, came, off_side, off_square, off_grid, soaked_square, soaked_grid}
use Rattle.ledger.specs.Record.{square_words, last_word, added_word, soaked_word, record_size, held_in, lasted_in, word_place, leaves_in, last_in, added_in, soaked_in, square_record, record_of}
use Rattle.ledger.specs.After.{Moves, step_record}

-- what is the same of each side is the same of the four
four_same : {f g : ℕ → ℕ} → ((side : ℕ) → side < sides → f side ≡ g side) → four_sides f ≡ four_sides g
four_same h = rw (h north (omega arith), h east (omega arith), h south (omega arith), h west (omega arith))

-- ---- the words of a record

module _ (p : Plan) (held lasted : ℕ) (out : Leaves) (last added soaked : ℕ → ℕ) where
  abbrev rec : List ℕ
  rec = record_of p held lasted out last added soaked

  square_long : (i : ℕ) → length (square_record p out last added soaked i) ≡ square_words
  unfolding square_record
  square_long i = pick_both (λ (l : List ℕ). length l ≡ square_words) (shut p i) refl refl

  pub record_long : length rec ≡ record_size p
  unfolding record_of
  record_long = omega (arith, length-joined (squares p.shape) square_words (square_record p out last added soaked) square_long)

  pub held_read : held_in rec ≡ held
  unfolding record_of
  held_read = refl

  pub lasted_read : lasted_in rec ≡ lasted
  unfolding record_of
  lasted_read = refl

  module _ (i : ℕ) (inside : i < squares p.shape) where
    word_read : (word : ℕ) → word < square_words → get_or rec (word_place i word) 0 ≡ get_or (square_record p out last added soaked i) word 0
    unfolding record_of
    word_read word h =
        get_or-append-add (held ∷ lasted ∷ []) (joined (squares p.shape) (square_record p out last added soaked)) (square_words * i + word) 0
        ∙ get_or-joined (squares p.shape) square_words (square_record p out last added soaked) square_long i word inside h

    -- "A closed square gets" seven "zeros"
    pub closed_read : shut p i ≡ true → (word : ℕ) → word < square_words → get_or rec (word_place i word) 0 ≡ 0
    unfolding square_record
    closed_read e word h =
        word_read word h ∙ (ap (λ (l : List ℕ). get_or l word 0) (pick_true _ _ e) ∙ get_or-replicate square_words word 0 0 h)

    module _ (not_closed : shut p i ≡ false) where
      abbrev words : List ℕ
      words = out i north ∷ out i east ∷ out i south ∷ out i west ∷ last i ∷ added i ∷ soaked i ∷ []

      open_read : (word : ℕ) → word < square_words → get_or rec (word_place i word) 0 ≡ get_or words word 0
      unfolding square_record
      open_read word h = word_read word h ∙ ap (λ (l : List ℕ). get_or l word 0) (pick_false _ _ not_closed)

      pub leaves_read : (side : ℕ) → side < sides → leaves_in rec i side ≡ out i side
      unfolding leaves_in
      leaves_read side h = open_read side (omega arith) ∙ at side h
        where
          at : (side : ℕ) → side < sides → get_or words side 0 ≡ out i side
          at zero h = refl
          at (suc zero) h = refl
          at (suc (suc zero)) h = refl
          at (suc (suc (suc zero))) h = refl
          at (suc (suc (suc (suc _)))) h = absurd (omega arith)

      pub last_read : last_in rec i ≡ last i
      unfolding last_in
      last_read = open_read last_word (omega arith)

      pub added_read : added_in rec i ≡ added i
      unfolding added_in
      added_read = open_read added_word (omega arith)

      pub soaked_read : soaked_in rec i ≡ soaked i
      unfolding soaked_in
      soaked_read = open_read soaked_word (omega arith)

      pub gone_read : gone (leaves_in rec) i ≡ gone out i
      unfolding gone
      gone_read = four_same leaves_read

  -- what squares not closed sent off the grid: closed ones are not asked
  off_side_read : (i : ℕ) → i < squares p.shape → shut p i ≡ false → (side : ℕ) → side < sides →
      off_side p (leaves_in rec) i side ≡ off_side p out i side
  unfolding off_side
  off_side_read i inside e side h = rw (leaves_read i inside e side h)

  off_square_read : (i : ℕ) → i < squares p.shape → off_square p (leaves_in rec) i ≡ off_square p out i
  unfolding off_square
  off_square_read i inside =
      unless_closed p.marks i 0
      (λ e. four_same (off_side_read i inside e))

  pub off_read : off_grid p (leaves_in rec) ≡ off_grid p out
  unfolding off_grid
  off_read = sum_ext (squares p.shape) _ _ off_square_read

  -- and what soaked into them
  soaked_square_read : (i : ℕ) → i < squares p.shape → soaked_square p (soaked_in rec) i ≡ soaked_square p soaked i
  unfolding soaked_square
  soaked_square_read i inside = unless_closed p.marks i 0 (λ e. soaked_read i inside e)

  pub soaked_grid_read : soaked_grid p (soaked_in rec) ≡ soaked_grid p soaked
  unfolding soaked_grid
  soaked_grid_read = sum_ext (squares p.shape) _ _ soaked_square_read

  -- nor are they asked what they sent to a neighbour
  module _ (marks_long : length p.marks ≡ squares p.shape) where
    pub sent_read : (i side : ℕ) → sent p (leaves_in rec) i side ≡ sent p out i side
    unfolding sent
    sent_read i side =
        let j : ℕ = beside p.shape i side in
        unless_closed p.marks j 0 (λ e. leaves_read j (omega (arith, marked p.marks j e)) e (opposite side) (opposite_small side))

    pub came_read : (i : ℕ) → came p (leaves_in rec) i ≡ came p out i
    unfolding came
    came_read i = four_same (λ side h. sent_read i side)

-- ---- the record of a step

module _ (p : Plan) (m : Moves) (w : World) where
  abbrev last_before : ℕ → ℕ
  last_before i = get_or w.lasts i 0

  pub step_long : length (step_record p m w) ≡ record_size p
  unfolding step_record
  step_long = record_long p w.run.length m.duration m.leaves last_before m.added m.soaked

  pub step-held : held_in (step_record p m w) ≡ w.run.length
  unfolding step_record
  step-held = held_read p w.run.length m.duration m.leaves last_before m.added m.soaked

  pub step_lasted : lasted_in (step_record p m w) ≡ m.duration
  unfolding step_record
  step_lasted = lasted_read p w.run.length m.duration m.leaves last_before m.added m.soaked

  pub step_off : off_grid p (leaves_in (step_record p m w)) ≡ off_grid p m.leaves
  unfolding step_record
  step_off = off_read p w.run.length m.duration m.leaves last_before m.added m.soaked

  pub step_soaked_grid : soaked_grid p (soaked_in (step_record p m w)) ≡ soaked_grid p m.soaked
  unfolding step_record
  step_soaked_grid = soaked_grid_read p w.run.length m.duration m.leaves last_before m.added m.soaked

  pub step-came : length p.marks ≡ squares p.shape → (i : ℕ) → came p (leaves_in (step_record p m w)) i ≡ came p m.leaves i
  unfolding step_record
  step-came marks_long i = came_read p w.run.length m.duration m.leaves last_before m.added m.soaked marks_long i

  module _ (i : ℕ) (inside : i < squares p.shape) (not_closed : shut p i ≡ false) where
    pub step_gone : gone (leaves_in (step_record p m w)) i ≡ gone m.leaves i
    unfolding step_record
    step_gone = gone_read p w.run.length m.duration m.leaves last_before m.added m.soaked i inside not_closed

    pub step-last : last_in (step_record p m w) i ≡ get_or w.lasts i 0
    unfolding step_record
    step-last = last_read p w.run.length m.duration m.leaves last_before m.added m.soaked i inside not_closed

    pub step_added : added_in (step_record p m w) i ≡ m.added i
    unfolding step_record
    step_added = added_read p w.run.length m.duration m.leaves last_before m.added m.soaked i inside not_closed

    pub step_soaked : soaked_in (step_record p m w) i ≡ m.soaked i
    unfolding step_record
    step_soaked = soaked_read p w.run.length m.duration m.leaves last_before m.added m.soaked i inside not_closed
