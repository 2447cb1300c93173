-- Laws of squares that are read one after the other, and of the line where the reading stops.
-- Assumes nothing.
use mathlib.Core.Path.{◌≡◌, sym, ap, ap₂, subst, ◌∙◌}
use mathlib.Core.Bool.{Bool, true, false, ◌&&◌}
use mathlib.Core.List.{List}
use Prim.Native.Nat.{ℕ, zero, suc, ◌+◌, ◌≤◌, ◌<◌, min}
use native.Mathlib.Nat.{not-suc-le-zero}
use native.Mathlib.Numerals.{add-one}
use native.Mathlib.Omega.{arith}
use lib.Dec.{leb}
use lib.ListN.{length}
use borrow.Author.Tests.{lt-ltb, le-ltb, le-leb, lt-leb}
use Rattle.reckon.specs.Tests.{pick, first_failing}
use Rattle.reckon.specs.Lists.{sum_below}
use Rattle.reckon.proofs.TestLaws.{pick_true, pick_false, pick_both, failing_at, failing_none}
use Rattle.reckon.proofs.ListLaws.{sum_none, sum_more}
use Rattle.grid.specs.Squares.{squares}
use Rattle.grid.specs.declared.squares.Shape.{Shape}
use Rattle.text.specs.Reading.{newline, is_byte, word_at, number}
use Rattle.std.proofs.Common.{Option, Some, None, Ok, Err, is_some, is_ok}
use Rattle.text.proofs.ReadingLaws.{by_lt, byte_past}
use Rattle.raster.specs.Amounts.{amount_at}
use Rattle.raster.specs.Raster.{no_data, last_in_row, head_of, head_or, head_in, next_of, bare_entry, past_gap, parted, entry_at, place_from, entry_from, line_number, grid_bad}
use Rattle.raster.specs.Inner.Steps.{Stops, read_from}
use Rattle.raster.specs.declared.amounts.Scale.{Scale}
use Rattle.raster.specs.declared.reading.Entry.{Entry}
use Rattle.raster.specs.declared.reading.Head.{Head}

-- ---- one square

module _ (k : Scale) (s : List ℕ) (p : ℕ) (open-word : word_at s p no_data ≡ false) where
  pub bare_none : amount_at k s p ≡ None → bare_entry k s p ≡ None
  unfolding bare_entry
  bare_none e = pick_false _ _ open-word ∙ rw e

  pub bare_some : {n q : ℕ} → amount_at k s p ≡ number n q → bare_entry k s p ≡ Some (record { value = Some n; next = q })
  unfolding bare_entry
  bare_some e = pick_false _ _ open-word ∙ rw e

module _ (s : List ℕ) (last : Bool) (e : Entry) {next : ℕ} (n : next ≡ past_gap s last e.next) where
  pub gap_none : next ≤ e.next → parted s last (Some e) ≡ None
  unfolding parted
  gap_none h = pick_false _ _ (le-ltb e.next (past_gap s last e.next) (subst (λ (q : ℕ). q ≤ e.next) n h))

  pub gap_some : e.next < next → parted s last (Some e) ≡ Some (record { value = e.value; next = next })
  unfolding parted
  gap_some h =
      pick_true _ _ (lt-ltb e.next (past_gap s last e.next) (subst (λ (q : ℕ). e.next < q) n h))
      ∙ (λ j. Some (record { value = e.value; next = sym n j }))

-- ---- the squares from p on

-- i of so many squares are read, and the next starts at `next`
pub record ReadOn (k : Scale) (s : List ℕ) (p columns many i next : ℕ) : Type 0 where
  pub few : i ≤ many
  pub place : next ≡ place_from k s p columns i
  pub there : (j : ℕ) → j < i → is_some (entry_from k s p columns j) ≡ true

module _ (k : Scale) (s : List ℕ) (p columns many : ℕ) where
  pub read_none : ReadOn k s p columns many 0 p
  unfolding place_from
  read_none = record { few = omega arith; place = λ j. p; there = λ j h. absurd (not-suc-le-zero h) }

  module _ {i next : ℕ} (a : ReadOn k s p columns many i next) {last : Bool} (l : last ≡ last_in_row columns i) {e : Option Entry}
      (r : e ≡ entry_at k s next last) where
    pub entry_here : e ≡ entry_from k s p columns i
    entry_here = r ∙ ap₂ (entry_at k s) a.place l

    pub read_more : i < many → is_some e ≡ true → ReadOn k s p columns many (i + 1) (next_of next e)
    unfolding place_from
    read_more h f =
        record {
          few = omega arith;
          place = ap₂ next_of a.place entry_here ∙ sym (ap (place_from k s p columns) (add-one i));
          there = λ j g.
              by_lt j i (a.there j)
              (λ o.
              let z : i ≡ j = omega (arith, g) in
              subst (λ (m : ℕ). is_some (entry_from k s p columns m) ≡ true) z (sym (ap is_some entry_here) ∙ f));
        }

module _ (k : Scale) (s : List ℕ) (p : ℕ) (shape : Shape) {i next : ℕ} (a : ReadOn k s p shape.columns (squares shape) i next) where
  pub stops_here : i < squares shape → is_some (entry_from k s p shape.columns i) ≡ false → Stops k s p shape false next
  stops_here h f =
      let e : read_from k s p shape ≡ i = failing_at (squares shape) _ i h a.there f in
      record {
        whole = sym (ap (leb (squares shape)) e ∙ lt-leb (squares shape) i h);
        place = a.place ∙ ap (place_from k s p shape.columns) (sym e);
      }

  pub stops_whole : squares shape ≤ i → Stops k s p shape true next
  stops_whole h =
      let z : i ≡ squares shape = omega (arith, a.few) in
      let e : read_from k s p shape ≡ squares shape = failing_none (squares shape) _ (λ j g. a.there j (omega arith)) in
      record {
        whole = sym (ap (leb (squares shape)) e ∙ le-leb (squares shape) (squares shape) (omega arith));
        place = a.place ∙ ap (place_from k s p shape.columns) (z ∙ sym e);
      }

-- ---- lines

abbrev ends : List ℕ → ℕ → ℕ
ends s i = pick (is_byte s i newline) 1 0

pub line_first : (s : List ℕ) → line_number s 0 ≡ 1
unfolding line_number
line_first s = omega (arith, sum_none (ends s))

pub line_more : (s : List ℕ) (i : ℕ) → line_number s (i + 1) ≡ line_number s i + ends s i
unfolding line_number
line_more s i = omega (arith, sum_more i (ends s))

ends_few : (s : List ℕ) (i : ℕ) → sum_below i (ends s) ≤ min i (length s)
unfolding sum_below
ends_few s zero = omega arith
ends_few s (suc i) =
    let one : ends s i ≤ 1 = pick_both (λ (n : ℕ). n ≤ 1) (is_byte s i newline) {x = 1} {y = 0} (omega arith) (omega arith) in
    by_lt i (length s) (λ l. omega (arith, ends_few s i, one)) (λ l. omega (arith, ends_few s i, pick_false {A = ℕ} 1 0 (byte_past s i newline l)))

pub line_few : (s : List ℕ) (i : ℕ) → line_number s i ≤ length s + 1
unfolding line_number
line_few s i = omega (arith, ends_few s i)

-- ---- a grid

-- where no header is read, the reading stops at it
pub head_bad : (k : Scale) (s : List ℕ) {at : ℕ} → Err at ≡ head_of s → grid_bad k s ≡ line_number s at
unfolding grid_bad place_from first_failing
head_bad k s {at} e = rw (sym e) (pick_false _ _ (λ j. false))

-- what is told of a grid whose header was read, and its squares up to a position
module _ (k : Scale) (s : List ℕ) {head : Head} {next : ℕ} (e : Ok head ≡ head_of s) where
  judged : {all : Bool} → Stops k s head.next head.shape all next →
      grid_bad k s ≡ pick (all && leb (length s) next) 0 (line_number s next)
  unfolding grid_bad
  judged {all} a =
      let h : head ≡ head_in s = ap head_or e in
      let b = subst (λ (g : Head). Stops k s g.next g.shape all next) h a in
      (λ j. pick (is_ok (sym e j) && (sym b.whole j && leb (length s) (sym b.place j))) 0 (line_number s (sym b.place j)))

  pub squares_bad : Stops k s head.next head.shape false next → grid_bad k s ≡ line_number s next
  squares_bad a = judged a ∙ pick_false _ _ (λ j. false)

  pub more_bad : Stops k s head.next head.shape true next → next < length s → grid_bad k s ≡ line_number s next
  more_bad a h = judged a ∙ pick_false _ _ (lt-leb (length s) next h)

  pub none_bad : Stops k s head.next head.shape true next → length s ≤ next → grid_bad k s ≡ 0
  none_bad a h = judged a ∙ pick_true _ _ (le-leb (length s) next h)
