-- How great what is read can be: a number is at most the most, so that a grid's squares can be counted.
-- Assumes nothing.
use mathlib.Core.Path.{◌≡◌, refl, sym, subst}
use mathlib.Core.Bool.{Bool, true}
use mathlib.Core.List.{List}
use Prim.Native.Nat.{ℕ, zero, suc, ◌*◌, ◌≤◌, ◌<◌}
use native.Mathlib.Nat.{mul-zero}
use native.Mathlib.Omega.{arith}
use lib.Dec.{leb}
use borrow.Author.Tests.{leb-true}
use Rattle.reckon.proofs.TestLaws.{not_both, pick_true, pick_false, pick_both}
use Rattle.text.specs.Bytes.{bytes_of}
use Rattle.text.specs.Reading.{newline, most_number, is_byte, number, number_at, with_number}
use Rattle.text.specs.declared.reading.Number.{Number}
use Rattle.std.proofs.Common.{Option, Some, None, Err}
use Rattle.text.proofs.ReadingLaws.{by_test}
use Rattle.raster.specs.Amounts.{places_of, up_to_most, decimals_after, amount_at}
use Rattle.raster.specs.Raster.{line_end_after, head_line, only_zero, no_data_at, head_of, head_or, head_in, value_of, is_shut, bare_entry, parted, entry_at}
use Rattle.raster.specs.declared.amounts.Scale.{Scale}
use Rattle.raster.specs.declared.amounts.Scale.TheVariants.{Metres, Whole}
use Rattle.raster.specs.declared.reading.Entry.{Entry}
use Rattle.raster.specs.declared.reading.Head.{Head}

-- ---- a number

-- a number at most the most, or none
abbrev Small : Option Number → Type 0
Small (Some v) = v.value ≤ most_number
Small None = Unit {0}

up_small : (n q : ℕ) → Small (up_to_most n q)
unfolding up_to_most
up_small n q =
    by_test (leb n most_number) (λ e. subst Small (sym (pick_true (number n q) None e)) (leb-true n most_number e))
    (λ e. subst Small (sym (pick_false (number n q) None e)) tt)

after_small : (places : ℕ) (s : List ℕ) (n q : ℕ) → Small (decimals_after places s n q)
unfolding decimals_after
after_small places s n q = pick_both Small _ (pick_both Small _ (up_small _ _) tt) (up_small _ _)

amount_small : (k : Scale) (s : List ℕ) (p : ℕ) → Small (amount_at k s p)
unfolding amount_at
amount_small k s p = go (number_at s p)
  where
    go : (v : Option Number) → Small (with_number v None (decimals_after (places_of k) s))
    go (Some v) = after_small (places_of k) s v.value v.next
    go None = tt

-- ---- a line of the header

ended_small : (s : List ℕ) (v : Option Number) → Small v → Small (line_end_after s v)
unfolding line_end_after
ended_small s (Some v) h = pick_both Small (is_byte s v.next newline) h tt
ended_small s None h = tt

line_small : (s : List ℕ) (p : ℕ) (word : List ℕ) {n q : ℕ} → head_line s p word (amount_at Whole s) ≡ number n q → n ≤ most_number
unfolding head_line
line_small s p word e = subst Small e (pick_both Small _ (ended_small s _ (amount_small Whole s _)) tt)

-- ---- the header

by_number : {A : Type 0} (v : Option Number) → ((n q : ℕ) → v ≡ number n q → A) → (v ≡ None → A) → A
by_number (Some v) f g = f v.value v.next refl
by_number None f g = g refl

pub record ShapeSmall (g : Head) : Type 0 where
  pub rows : g.shape.rows ≤ most_number
  pub columns : g.shape.columns ≤ most_number

none_small : (p : ℕ) → ShapeSmall (head_or (Err p))
none_small p = record { rows = omega arith; columns = omega arith }

pub head_small : (s : List ℕ) → ShapeSmall (head_in s)
unfolding head_of
head_small s =
    by_number (head_line s 0 (bytes_of "ncols") (amount_at Whole s))
    (λ columns a ea. by_number (head_line s a (bytes_of "nrows") (amount_at Whole s))
    (λ rows b eb. by_number (only_zero (head_line s b (bytes_of "xllcorner") (amount_at Metres s)))
    (λ x c ec. by_number (only_zero (head_line s c (bytes_of "yllcorner") (amount_at Metres s)))
    (λ y d ed. by_number (head_line s d (bytes_of "cellsize") (amount_at Whole s))
    (λ D e ee. by_number (head_line s e (bytes_of "NODATA_value") (no_data_at s))
    (λ z f ef. rw (ea, eb, ec, ed, ee, ef) (record { rows = line_small s a (bytes_of "nrows") eb; columns = line_small s 0 (bytes_of "ncols") ea }))
    (λ n. rw (ea, eb, ec, ed, ee, n) (none_small e))) (λ n. rw (ea, eb, ec, ed, n) (none_small d))) (λ n. rw (ea, eb, ec, n) (none_small c)))
    (λ n. rw (ea, eb, n) (none_small b))) (λ n. rw (ea, n) (none_small a))) (λ n. rw n (none_small 0))

-- ---- squares

-- its number is at most the most, and 0 where it is closed
record Told (e : Option Entry) : Type 0 where
  small : value_of e ≤ most_number
  none : is_shut e ≡ true → value_of e ≡ 0

none_told : Told None
none_told = record { small = omega arith; none = λ e. refl }

bare_told : (k : Scale) (s : List ℕ) (p : ℕ) → Told (bare_entry k s p)
unfolding bare_entry
bare_told k s p = pick_both Told _ (record { small = omega arith; none = λ e. refl }) (go (amount_at k s p) (amount_small k s p))
  where
    go : (v : Option Number) → Small v → Told (with_number v None (λ n q. Some (record { value = Some n; next = q })))
    go (Some v) h = record { small = h; none = λ e. not_both e refl }
    go None h = none_told

entry_told : (k : Scale) (s : List ℕ) (p : ℕ) (last : Bool) → Told (entry_at k s p last)
unfolding parted
entry_told k s p last = go (bare_entry k s p) (bare_told k s p)
  where
    go : (e : Option Entry) → Told e → Told (parted s last e)
    go (Some e) t = pick_both Told _ (record { small = t.small; none = t.none }) none_told
    go None t = none_told

pub entry_small : (k : Scale) (s : List ℕ) (p : ℕ) (last : Bool) → value_of (entry_at k s p last) ≤ most_number
entry_small k s p last = (entry_told k s p last).small

-- a closed square's number is 0
pub entry_closed : (k : Scale) (s : List ℕ) (p : ℕ) (last : Bool) → is_shut (entry_at k s p last) ≡ true → value_of (entry_at k s p last) ≡ 0
entry_closed k s p last = (entry_told k s p last).none

-- where there is a square there is a column
pub some_column : (rows columns : ℕ) {i : ℕ} → i < rows * columns → 0 < columns
some_column rows zero h = absurd (omega (arith, h, mul-zero rows))
some_column rows (suc n) h = omega arith
