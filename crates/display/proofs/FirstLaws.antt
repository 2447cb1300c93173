-- Laws of the first boards of a list by a rule: one board more, twice, what is kept, and the two parts of the list.
-- Assumes nothing.
use mathlib.Core.Path.{◌≡◌, refl, sym, ap, ap₂, subst, ◌∙◌}
use mathlib.Core.List.{List, [], ◌∷◌, ◌++◌, map}
use Prim.Native.Nat.{ℕ, zero, suc, ◌+◌, ◌<◌}
use native.Mathlib.Numerals.{add-one}
use lib.ListN.{get_or, set, take, drop, length}
use lib.Seq.{get_or-take}
use Rattle.grid.specs.Squares.{OnGrid}
use Rattle.grid.specs.declared.squares.Shape.{Shape}
use Rattle.display.specs.Boards.{no_board}
use Rattle.display.specs.Inner.Refreshed.{first_mapped, counted, BoardsOn}
use Rattle.display.specs.declared.boards.Board.{Board}
use Rattle.display.specs.declared.boards.Boards.{Boards}

module _ (f : Board → Board) where
  pub first_none : (l : List Board) → first_mapped f 0 l ≡ l
  unfolding first_mapped
  first_none l = refl

  -- the next board is as it was
  pub first_ahead : (n : ℕ) (l : List Board) (d : Board) → get_or (first_mapped f n l) n d ≡ get_or l n d
  unfolding first_mapped
  first_ahead zero l d = refl
  first_ahead (suc n) [] d = refl
  first_ahead (suc n) (b ∷ l) d = first_ahead n l d

  more : (n : ℕ) (l : List Board) (d : Board) → set (first_mapped f n l) n (f (get_or l n d)) ≡ first_mapped f (suc n) l
  unfolding first_mapped
  more zero [] d = refl
  more zero (b ∷ l) d = refl
  more (suc n) [] d = refl
  more (suc n) (b ∷ l) d = ap (λ (r : List Board). f b ∷ r) (more n l d)

  -- one board more
  pub first_more : (n : ℕ) (l : List Board) (d : Board) → set (first_mapped f n l) n (f (get_or l n d)) ≡ first_mapped f (n + 1) l
  first_more n l d = rw (add-one n) (more n l d)

  -- the two parts
  pub first_part : (n : ℕ) (l : List Board) → take n (first_mapped f n l) ≡ map f (take n l)
  unfolding first_mapped
  first_part zero l = refl
  first_part (suc n) [] = refl
  first_part (suc n) (b ∷ l) = ap (λ (r : List Board). f b ∷ r) (first_part n l)

  pub rest_part : (n : ℕ) (l : List Board) → drop n (first_mapped f n l) ≡ drop n l
  unfolding first_mapped
  rest_part zero l = refl
  rest_part (suc n) [] = refl
  rest_part (suc n) (b ∷ l) = rest_part n l

  -- what the rule leaves of each board stays
  pub first_keeps : (what : Board → ℕ) → ((b : Board) → what (f b) ≡ what b) → (n : ℕ) (l : List Board) (k : ℕ) (d : Board) →
      what (get_or (first_mapped f n l) k d) ≡ what (get_or l k d)
  unfolding first_mapped
  first_keeps what h zero l k d = refl
  first_keeps what h (suc n) [] k d = refl
  first_keeps what h (suc n) (b ∷ l) zero d = h b
  first_keeps what h (suc n) (b ∷ l) (suc k) d = first_keeps what h n l k d

-- the same rule by another name
pub first_ext : (f g : Board → Board) → ((b : Board) → f b ≡ g b) → (n : ℕ) (l : List Board) → first_mapped f n l ≡ first_mapped g n l
unfolding first_mapped
first_ext f g h zero l = refl
first_ext f g h (suc n) [] = refl
first_ext f g h (suc n) (b ∷ l) = ap₂ (λ (x : Board) (r : List Board). x ∷ r) (h b) (first_ext f g h n l)

-- one rule after another
pub first-twice :
    (f g h : Board → Board) → ((b : Board) → f (g b) ≡ h b) → (n : ℕ) (l : List Board) → first_mapped f n (first_mapped g n l) ≡ first_mapped h n l
unfolding first_mapped
first-twice f g h e zero l = refl
first-twice f g h e (suc n) [] = refl
first-twice f g h e (suc n) (b ∷ l) = ap₂ (λ (x : Board) (r : List Board). x ∷ r) (e b) (first-twice f g h e n l)

-- a whole list
first_whole : (f : Board → Board) (l : List Board) → first_mapped f (length l) l ≡ map f l
unfolding first_mapped
first_whole f [] = refl
first_whole f (b ∷ l) = ap (λ (r : List Board). f b ∷ r) (first_whole f l)

-- ---- a pass over counted boards, board by board

module _ (f : Board → Board) (bs : Boards) (k : ℕ) {l : List Board} (e : l ≡ first_mapped f k (take bs.count bs.list)) where
  next_is : get_or l k no_board ≡ get_or (take bs.count bs.list) k no_board
  next_is = ap (λ (x : List Board). get_or x k no_board) e ∙ first_ahead f k (take bs.count bs.list) no_board

  -- the next board stands where it stood
  pub next_on : {s : Shape} → BoardsOn s bs → k < bs.count → OnGrid s (get_or l k no_board).row (get_or l k no_board).column
  next_on {s} on h =
      subst (λ (b : Board). OnGrid s b.row b.column) (sym (next_is ∙ get_or-take bs.count bs.list k no_board h)) (on.each k h)

  pub pass_more : {r : Board} → r ≡ f (get_or l k no_board) → set l k r ≡ first_mapped f (k + 1) (take bs.count bs.list)
  pass_more r =
      ap₂ (λ (x : List Board) (b : Board). set x k b) e (r ∙ ap f next_is) ∙ first_more f k (take bs.count bs.list) no_board

  pub pass_whole :
      k ≡ length (take bs.count bs.list) →
      ◌≡◌ {A = Boards} (record { count = bs.count; list = l ++ drop bs.count bs.list }) (counted f bs)
  unfolding first_mapped
  pass_whole h =
      ap {B = Boards} (λ (x : List Board). record { count = bs.count; list = x ++ drop bs.count bs.list })
      (e ∙ (ap (λ (n : ℕ). first_mapped f n (take bs.count bs.list)) h ∙ first_whole f (take bs.count bs.list)))
