-- Laws of the squares' lines: one line, one square more, the first that cannot be read, and the rooms filled.
-- Assumes nothing.
use mathlib.Core.Path.{◌≡◌, refl, sym, ap, ap₂, subst, ◌∙◌}
use mathlib.Core.Bool.{Bool, true, false, ◌||◌}
use mathlib.Core.List.{List}
use Prim.Native.Nat.{ℕ, ◌+◌, ◌≤◌, ◌<◌}
use native.Mathlib.Nat.{not-suc-le-zero}
use native.Mathlib.Numerals.{add-one}
use native.Mathlib.Omega.{arith}
use Rattle.std.proofs.Common.{Option, Some, None, is_some, unwrap_or}
use lib.ListN.{length, get_or, set}
use borrow.Author.Count.{below_more}
use borrow.Author.Tests.{eq-eqb, ne_eqb}
use Rattle.reckon.specs.Tests.{pick, all_below}
use Rattle.reckon.specs.Lists.{tabulate, filled}
use Rattle.reckon.specs.Ranges.{water_fine}
use Rattle.reckon.proofs.TestLaws.{not_both, pick_true, pick_false, pick_both, failing_at, failing_none, all_ext}
use Rattle.reckon.proofs.ListLaws.{get_or-tabulate, filled_store, filled_keep, sum_none, sum_more}
use Rattle.grid.specs.Squares.{squares}
use Rattle.grid.specs.Marks.{closed}
use Rattle.ledger.specs.Runs.{Plan}
use Rattle.ledger.specs.Checks.{waters_fine}
use Rattle.text.specs.Reading.{line_of}
use Rattle.text.specs.declared.reading.Fields.{Fields}
use Rattle.text.proofs.ReadingLaws.{by_test}
use Rattle.stands.specs.Texts.{at_word}
use Rattle.stands.specs.Laying.{square_or, has_square, closed_square, square_fields, as_square, square_line, start_from, square_from, depth_from, last_from, squares_read, lines_from, waters_read}
use Rattle.stands.specs.Inner.Passing.{SquaresPassed}
use Rattle.stands.specs.declared.squares.SquareLine.{SquareLine}

-- ---- one line

pub or_zeros : (l : Option SquareLine) → unwrap_or l (record { depth = 0; last = 0; lines = 0; next = 0 }) ≡ square_or l
or_zeros (Some l) = refl
or_zeros None = refl

module _ (s : List ℕ) (q : ℕ) (marks : List ℕ) (i : ℕ) where
  pub square_closed : closed marks i ≡ true → Some (closed_square q) ≡ square_line s q marks i
  unfolding square_line
  square_closed t = sym (pick_true _ _ t)

  module _ (o : closed marks i ≡ false) where
    pub square_unfound : None ≡ line_of s q at_word square_fields → None ≡ square_line s q marks i
    unfolding square_line as_square
    square_unfound e = ap (as_square i) e ∙ sym (pick_false _ _ o)

    module _ {f : Fields} (e : Some f ≡ line_of s q at_word square_fields) where
      by_fields : square_line s q marks i ≡ as_square i (Some f)
      unfolding square_line
      by_fields = pick_false _ _ o ∙ ap (as_square i) (sym e)

      pub square_other : (get_or f.values 0 0 ≡ i → ⊥) → None ≡ square_line s q marks i
      unfolding as_square
      square_other d = sym (by_fields ∙ pick_false _ _ (ne_eqb _ _ d))

      pub square_here :
          get_or f.values 0 0 ≡ i →
          Some (record { depth = get_or f.values 1 0; last = get_or f.values 2 0; lines = 1; next = f.next }) ≡ square_line s q marks i
      unfolding as_square
      square_here d = sym (by_fields ∙ pick_true _ _ (eq-eqb _ _ d))

  pub one_line : (square_or (square_line s q marks i)).lines ≤ 1
  unfolding square_line closed_square as_square
  one_line = pick_both (λ (l : Option SquareLine). (square_or l).lines ≤ 1) (closed marks i) (omega arith) (go (line_of s q at_word square_fields))
    where
      go : (f : Option Fields) → (square_or (as_square i f)).lines ≤ 1
      go (Some f) = pick_both (λ (l : Option SquareLine). (square_or l).lines ≤ 1) _ (omega arith) (omega arith)
      go None = omega arith

-- ---- one square more

module _ (s : List ℕ) (q : ℕ) (marks : List ℕ) where
  pub start_none : q ≡ start_from s q marks 0
  unfolding start_from
  start_none = refl

  module _ (i : ℕ) {next : ℕ} (h : next ≡ start_from s q marks i) {l : SquareLine} (e : l ≡ square_or (square_line s next marks i)) where
    pub this_line : l ≡ square_from s q marks i
    this_line = e ∙ ap (λ (k : ℕ). square_or (square_line s k marks i)) h

    pub start_more : l.next ≡ start_from s q marks (i + 1)
    unfolding start_from
    start_more = ap (λ (x : SquareLine). x.next) this_line ∙ sym (ap (start_from s q marks) (add-one i))

    pub water_here : {r : Bool} → r ≡ water_fine l.depth l.last → r ≡ water_fine (depth_from s q marks i) (last_from s q marks i)
    water_here w = w ∙ ap (λ (x : SquareLine). water_fine x.depth x.last) this_line

  -- the first squares' lines were passed, and the next one starts at `next`
  pub record Passing (next lines i : ℕ) : Type 0 where
    pub so_far : (k : ℕ) → k < i → has_square s q marks k ≡ true
    pub here : next ≡ start_from s q marks i
    pub counted : lines ≡ lines_from s q marks i
    pub few : lines ≤ i

  pub passing_none : Passing q 0 0
  unfolding lines_from
  passing_none = record { so_far = λ k l. absurd (not-suc-le-zero l); here = start_none; counted = sym (sum_none _); few = omega arith }

  module _ {next lines i : ℕ} (a : Passing next lines i) where
    square_here_is : square_line s next marks i ≡ square_line s (start_from s q marks i) marks i
    square_here_is = ap (λ (k : ℕ). square_line s k marks i) a.here

    module _ {l : SquareLine} (e : Some l ≡ square_line s next marks i) where
      this : l ≡ square_from s q marks i
      this = this_line i a.here (ap square_or e)

      pub line_few : l.lines ≤ 1
      line_few = subst (λ (x : Option SquareLine). (square_or x).lines ≤ 1) (sym e) (one_line s next marks i)

      pub passing_more : Passing l.next (lines + l.lines) (i + 1)
      unfolding lines_from
      passing_more =
          record {
            so_far = below_more _ _ a.so_far (sym (ap is_some (e ∙ square_here_is)));
            here = start_more i a.here (ap square_or e);
            counted = ap₂ (λ (x y : ℕ). x + y) a.counted (ap (λ (x : SquareLine). x.lines) this) ∙ sym (sum_more i _);
            few = omega (arith, a.few, line_few);
          }

    pub passing_stop : None ≡ square_line s next marks i → (n : ℕ) → i < n →
        SquaresPassed s q marks n (record { count = i; lines = lines; next = next })
    unfolding squares_read
    passing_stop e n b =
        record {
          count_is = sym (failing_at n (has_square s q marks) i b a.so_far (sym (ap is_some (e ∙ square_here_is))));
          lines_are = a.counted;
          next_is = a.here;
          few = omega (arith, a.few);
        }

  pub passing_all : {next lines i : ℕ} (a : Passing next lines i) (m n : ℕ) → i ≡ m → m ≡ n → SquaresPassed s q marks n (record { count = m; lines = lines; next = next })
  unfolding squares_read
  passing_all {next} {lines} a m n e b =
      let all : Passing next lines m = subst (Passing next lines) e a in
      record {
        count_is = b ∙ sym (failing_none n (has_square s q marks) (λ k l. all.so_far k (omega (arith, b, l))));
        lines_are = all.counted;
        next_is = all.here;
        few = omega (arith, all.few, b);
      }

-- ---- 3

pub closed-water : (s : List ℕ) (q : ℕ) (marks : List ℕ) (i : ℕ) → closed marks i ≡ true → water_fine (square_or (square_line s q marks i)).depth (square_or (square_line s q marks i)).last ≡ true
unfolding square_line closed_square water_fine Rattle.reckon.specs.Tests.every
closed-water s q marks i t = ap (λ (x : Option SquareLine). water_fine (square_or x).depth (square_or x).last) (pick_true _ _ t)

pub waters_as : (s : List ℕ) (q : ℕ) (p : Plan) →
    waters_read s q p ≡ all_below (squares p.shape) (λ i. water_fine (depth_from s q p.marks i) (last_from s q p.marks i))
unfolding waters_read waters_fine
waters_as s q p = all_ext (squares p.shape) _ _ same
  where
    n : ℕ
    n = squares p.shape

    same : (i : ℕ) → i < n →
        (closed p.marks i || water_fine (get_or (tabulate n (depth_from s q p.marks)) i 0) (get_or (tabulate n (last_from s q p.marks)) i 0))
        ≡ water_fine (depth_from s q p.marks i) (last_from s q p.marks i)
    same i l =
        by_test (closed p.marks i)
        (λ t. rw t (sym (closed-water s (start_from s q p.marks i) p.marks i t)))
        (λ t. rw (t, get_or-tabulate n (depth_from s q p.marks) i l, get_or-tabulate n (last_from s q p.marks) i l))

-- ---- a room filled

pub stored_more : (marks : List ℕ) (f : ℕ → ℕ) (old : List ℕ) (i : ℕ) → i < length old → {l new : List ℕ} {v : ℕ} → l ≡ filled i (closed marks) f old → v ≡ f i →
    new ≡ pick (closed marks i) l (set l i v) → new ≡ filled (i + 1) (closed marks) f old
stored_more marks f old i h {l} {new} {v} e q w =
    by_test (closed marks i)
    (λ t. w ∙ (pick_true _ _ t ∙ (e ∙ filled_keep (closed marks) f old i h (λ d. not_both t d))))
    (λ t. w ∙ (pick_false _ _ t ∙ (ap (λ (x : List ℕ). set x i v) e ∙ filled_store (closed marks) f old i h t q)))

pub filled_whole : (skipped : ℕ → Bool) (f : ℕ → ℕ) (old : List ℕ) {i n : ℕ} {l : List ℕ} → i ≡ n → l ≡ filled i skipped f old → l ≡ filled n skipped f old
filled_whole skipped f old e h = h ∙ ap (λ (k : ℕ). filled k skipped f old) e
