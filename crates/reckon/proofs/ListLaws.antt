-- Laws of lists by rule, of rooms filled in part, of lists joined and placed, and of sums. A list is known by its length and its elements.
-- Assumes nothing.
use mathlib.Core.Path.{◌≡◌, refl, sym, ap, ap₂, ◌∙◌, subst}
use mathlib.Core.Bool.{Bool, true, false, ◌||◌}
use mathlib.Core.List.{List, [], ◌++◌}
use Prim.Native.Nat.{ℕ, zero, suc, ◌+◌, ◌-◌, ◌*◌, ◌≤◌, ◌<◌}
use native.Mathlib.Nat.{le_refl, le_of_suc-le-suc, not-suc-le-zero, add-le-add, suc-mul, mul-le-mul_left, mul-suc}
use native.Mathlib.Numerals.{add-one}
use native.Mathlib.Decide.{dec_lt, ℕ_discrete}
use native.Mathlib.Omega.{arith}
use lib.Dec.{leb}
use lib.ListN.{length, get_or, set, take, drop, length-set, length-append, length-drop, get_or-append}
use lib.Seq.{ext_get_or, get_or-set_same, get_or-set_other, get_or-take, get_or-drop, get_or-append-add, length-take-le}
use borrow.Author.Tests.{le-leb, lt-leb}
use Rattle.reckon.specs.Tests.{pick}
use Rattle.reckon.specs.Lists.{tabulate, filled, joined, placed, sum_below}
use Rattle.reckon.proofs.TestLaws.{pick_true, pick_false}

-- ---- the list of a rule's first n numbers

pub length-tabulate : (n : ℕ) (f : ℕ → ℕ) → length (tabulate n f) ≡ n
unfolding tabulate
length-tabulate zero f = refl
length-tabulate (suc n) f = ap suc (length-tabulate n (λ k. f (suc k)))

pub get_or-tabulate : (n : ℕ) (f : ℕ → ℕ) (i : ℕ) → i < n → get_or (tabulate n f) i 0 ≡ f i
unfolding tabulate
get_or-tabulate zero f i h = absurd (not-suc-le-zero h)
get_or-tabulate (suc n) f zero h = refl
get_or-tabulate (suc n) f (suc i) h = get_or-tabulate n (λ k. f (suc k)) i (le_of_suc-le-suc h)

-- a list of n numbers that are f's
pub is_tabulate : (n : ℕ) (f : ℕ → ℕ) (l : List ℕ) → length l ≡ n → ((i : ℕ) → i < n → get_or l i 0 ≡ f i) → l ≡ tabulate n f
is_tabulate n f l e h =
    ext_get_or 0 l (tabulate n f) (e ∙ sym (length-tabulate n f))
    (λ i lt. let b : i < n = omega (arith, lt, e) in h i b ∙ sym (get_or-tabulate n f i b))

pub tabulate_ext : (n : ℕ) (f g : ℕ → ℕ) → ((i : ℕ) → i < n → f i ≡ g i) → tabulate n f ≡ tabulate n g
tabulate_ext n f g h = is_tabulate n g (tabulate n f) (length-tabulate n f) (λ i lt. get_or-tabulate n f i lt ∙ h i lt)

-- ---- a room filled in part

pub length-filled : (n : ℕ) (skipped : ℕ → Bool) (f : ℕ → ℕ) (old : List ℕ) → length (filled n skipped f old) ≡ length old
unfolding filled
length-filled n skipped f old = length-tabulate (length old) _

or_true : (a : Bool) {b : Bool} → b ≡ true → (a || b) ≡ true
or_true true e = refl
or_true false e = e

module _ (n : ℕ) (skipped : ℕ → Bool) (f : ℕ → ℕ) (old : List ℕ) (i : ℕ) where
  get_or-filled : i < length old → get_or (filled n skipped f old) i 0 ≡ pick (leb n i || skipped i) (get_or old i 0) (f i)
  unfolding filled
  get_or-filled h = get_or-tabulate (length old) _ i h

  -- below n, where not skipped: f's number
  pub filled_in : i < length old → i < n → skipped i ≡ false → get_or (filled n skipped f old) i 0 ≡ f i
  filled_in h l e = get_or-filled h ∙ pick_false _ _ (rw (lt-leb n i l) e)

  -- from n on the old number
  pub filled_past : i < length old → n ≤ i → get_or (filled n skipped f old) i 0 ≡ get_or old i 0
  filled_past h l = get_or-filled h ∙ pick_true _ _ (rw (le-leb n i l))

  -- at skipped places too
  pub filled_skipped : i < length old → skipped i ≡ true → get_or (filled n skipped f old) i 0 ≡ get_or old i 0
  filled_skipped h e = get_or-filled h ∙ pick_true _ _ (or_true (leb n i) e)

-- a list is a filled room where its elements are
pub is_filled :
    (n : ℕ) (skipped : ℕ → Bool) (f : ℕ → ℕ) (old l : List ℕ) → length l ≡ length old →
    ((i : ℕ) → i < length old → get_or l i 0 ≡ pick (leb n i || skipped i) (get_or old i 0) (f i)) → l ≡ filled n skipped f old
unfolding filled
is_filled n skipped f old l e h = is_tabulate (length old) _ l e h

pub filled_ext :
    (n : ℕ) (skipped : ℕ → Bool) (f g : ℕ → ℕ) (old : List ℕ) → ((i : ℕ) → i < n → skipped i ≡ false → f i ≡ g i) →
    filled n skipped f old ≡ filled n skipped g old
filled_ext n skipped f g old h =
    is_filled n skipped g old (filled n skipped f old) (length-filled n skipped f old)
    (λ i l. get_or-filled n skipped f old i l ∙ same i (leb n i) (skipped i) refl refl)
  where
    same :
        (i : ℕ) (a b : Bool) → leb n i ≡ a → skipped i ≡ b →
        pick (leb n i || skipped i) (get_or old i 0) (f i) ≡ pick (leb n i || skipped i) (get_or old i 0) (g i)
    same i true b p q =
        let t : (leb n i || skipped i) ≡ true = rw p in
        pick_true _ _ t ∙ sym (pick_true _ _ t)
    same i false true p q =
        let t : (leb n i || skipped i) ≡ true = rw (p, q) in
        pick_true _ _ t ∙ sym (pick_true _ _ t)
    same i false false p q =
        let t : (leb n i || skipped i) ≡ false = rw (p, q) in
        pick_false _ _ t ∙ (h i (borrow.Author.Tests.leb-false n i p) q ∙ sym (pick_false _ _ t))

-- A loop fills a room from the front: nothing is filled; one place more is stored, or skipped; what is not reached is as it was.
module _ (skipped : ℕ → Bool) (f : ℕ → ℕ) (old : List ℕ) where
  pub filled_none : old ≡ filled 0 skipped f old
  filled_none =
      ext_get_or 0 old (filled 0 skipped f old) (sym (length-filled 0 skipped f old))
      (λ i l. sym (filled_past 0 skipped f old i l (omega arith)))

  module _ (i : ℕ) (h : i < length old) where
    pub filled_ahead : get_or (filled i skipped f old) i 0 ≡ get_or old i 0
    filled_ahead = filled_past i skipped f old i h (le_refl i)

    -- elsewhere than at i nothing changes
    beside : (k : ℕ) → k < length old → (k ≡ i → ⊥) → get_or (filled i skipped f old) k 0 ≡ get_or (filled (suc i) skipped f old) k 0
    beside k l d = get_or-filled i skipped f old k l ∙ go (dec_lt k i) ∙ sym (get_or-filled (suc i) skipped f old k l)
      where
        go :
            Dec (k < i) →
            pick (leb i k || skipped k) (get_or old k 0) (f k) ≡ pick (leb (suc i) k || skipped k) (get_or old k 0) (f k)
        go (yes m) = rw (lt-leb i k m, lt-leb (suc i) k (omega arith))
        go (no m) = rw (le-leb i k (omega arith), le-leb (suc i) k (omega arith))

    pub filled_store : skipped i ≡ false → {v : ℕ} → v ≡ f i → set (filled i skipped f old) i v ≡ filled (i + 1) skipped f old
    filled_store e {v} q =
        rw (add-one i)
        (ext_get_or 0 _ _
        (length-set (filled i skipped f old) i v ∙ (length-filled i skipped f old ∙ sym (length-filled (suc i) skipped f old)))
        (λ k l. at k (omega (arith, length-set (filled i skipped f old) i v, length-filled i skipped f old, l)) (ℕ_discrete k i)))
      where
        at : (k : ℕ) → k < length old → Dec (k ≡ i) → get_or (set (filled i skipped f old) i v) k 0 ≡ get_or (filled (suc i) skipped f old) k 0
        at k l (yes z) =
            rw z
            (get_or-set_same (filled i skipped f old) i v 0 (omega (arith, length-filled i skipped f old))
            ∙ (q ∙ sym (filled_in (suc i) skipped f old i h (omega arith) e)))
        at k l (no z) = get_or-set_other (filled i skipped f old) i k v 0 z ∙ beside k l z

    -- a skipped place, or one that already holds the rule's number
    pub filled_keep : (skipped i ≡ false → get_or old i 0 ≡ f i) → filled i skipped f old ≡ filled (i + 1) skipped f old
    filled_keep e =
        rw (add-one i)
        (ext_get_or 0 _ _ (length-filled i skipped f old ∙ sym (length-filled (suc i) skipped f old))
        (λ k l. at k (omega (arith, length-filled i skipped f old, l)) (ℕ_discrete k i)))
      where
        here : (b : Bool) → skipped i ≡ b → get_or (filled (suc i) skipped f old) i 0 ≡ get_or old i 0
        here true s = filled_skipped (suc i) skipped f old i h s
        here false s = filled_in (suc i) skipped f old i h (omega arith) s ∙ sym (e s)

        at : (k : ℕ) → k < length old → Dec (k ≡ i) → get_or (filled i skipped f old) k 0 ≡ get_or (filled (suc i) skipped f old) k 0
        at k l (yes z) = rw z (filled_ahead ∙ sym (here (skipped i) refl))
        at k l (no z) = beside k l z

-- ---- lists joined

pub joined_none : (f : ℕ → List ℕ) → joined 0 f ≡ []
unfolding joined
joined_none f = refl

pub joined_more : (n : ℕ) (f : ℕ → List ℕ) → joined (n + 1) f ≡ joined n f ++ f n
unfolding joined
joined_more n f = rw add-one

pub joined_ext : (n : ℕ) (f g : ℕ → List ℕ) → ((i : ℕ) → i < n → f i ≡ g i) → joined n f ≡ joined n g
unfolding joined
joined_ext zero f g h = refl
joined_ext (suc n) f g h = ap₂ ◌++◌ (joined_ext n f g (λ i l. h i (omega arith))) (h n (omega arith))

pub length-joined : (n k : ℕ) (f : ℕ → List ℕ) → ((i : ℕ) → length (f i) ≡ k) → length (joined n f) ≡ k * n
unfolding joined
length-joined zero k f h = omega arith
length-joined (suc n) k f h = length-append (joined n f) (f n) ∙ (rw (length-joined n k f h, h n) (sym (mul-suc k n)))

-- number j of part i, where each part has k numbers
pub get_or-joined :
    (n k : ℕ) (f : ℕ → List ℕ) → ((i : ℕ) → length (f i) ≡ k) → (i j : ℕ) → i < n → j < k →
    get_or (joined n f) (k * i + j) 0 ≡ get_or (f i) j 0
unfolding joined
get_or-joined zero k f h i j a b = absurd (not-suc-le-zero a)
get_or-joined (suc n) k f h i j a b = go (ℕ_discrete i n) (λ l. get_or-joined n k f h i j l b)
  where
    long : length (joined n f) ≡ k * n
    long = length-joined n k f h

    go : Dec (i ≡ n) → (i < n → get_or (joined n f) (k * i + j) 0 ≡ get_or (f i) j 0) → get_or (joined n f ++ f n) (k * i + j) 0 ≡ get_or (f i) j 0
    go (yes e) ih = rw e (subst (λ (m : ℕ). get_or (joined n f ++ f n) (m + j) 0 ≡ get_or (f n) j 0) long (get_or-append-add (joined n f) (f n) j 0))
    go (no d) ih =
        let l : i < n = omega arith in
        let m : k * suc i ≤ k * n = mul-le-mul_left k l in
        get_or-append (joined n f) (f n) 0 (k * i + j) (omega (arith, m, mul-suc k i, long)) ∙ ih l

-- ---- a list placed over another

module _ (old : List ℕ) (a : ℕ) (new : List ℕ) (fits : a + length new ≤ length old) where
  head_long : length (take a old) ≡ a
  head_long = length-take-le a old (omega arith)

  pub length-placed : length (placed old a new) ≡ length old
  unfolding placed
  length-placed =
      length-append (take a old) (new ++ drop (length new) (drop a old))
      ∙ rw (head_long, length-append new (drop (length new) (drop a old)), length-drop (length new) (drop a old), length-drop a old)
      (omega arith)

  pub placed-before : (i : ℕ) → i < a → get_or (placed old a new) i 0 ≡ get_or old i 0
  unfolding placed
  placed-before i l =
      get_or-append (take a old) (new ++ drop (length new) (drop a old)) 0 i (omega (arith, head_long)) ∙ get_or-take a old i 0 l

  after_head : (j : ℕ) → get_or (placed old a new) (a + j) 0 ≡ get_or (new ++ drop (length new) (drop a old)) j 0
  unfolding placed
  after_head j =
      subst (λ (m : ℕ). get_or (take a old ++ (new ++ drop (length new) (drop a old))) (m + j) 0 ≡ get_or (new ++ drop (length new) (drop a old)) j 0)
      head_long (get_or-append-add (take a old) (new ++ drop (length new) (drop a old)) j 0)

  pub placed_in : (j : ℕ) → j < length new → get_or (placed old a new) (a + j) 0 ≡ get_or new j 0
  placed_in j l = after_head j ∙ get_or-append new (drop (length new) (drop a old)) 0 j l

  pub placed-after : (i : ℕ) → a + length new ≤ i → get_or (placed old a new) i 0 ≡ get_or old i 0
  placed-after i l =
      let y : ℕ = i - (a + length new) in
      let e : a + (length new + y) ≡ i = omega arith in
      subst (λ (m : ℕ). get_or (placed old a new) m 0 ≡ get_or old m 0) e
      (after_head (length new + y)
      ∙ (get_or-append-add new (drop (length new) (drop a old)) y 0 ∙ (get_or-drop (length new) (drop a old) y 0 ∙ get_or-drop a old (length new + y) 0)))

-- ---- sums

pub sum_none : (f : ℕ → ℕ) → sum_below 0 f ≡ 0
unfolding sum_below
sum_none f = refl

pub sum_more : (n : ℕ) (f : ℕ → ℕ) → sum_below (n + 1) f ≡ sum_below n f + f n
unfolding sum_below
sum_more n f = rw add-one

-- a sum of the first n, and one more
pub sum_again : {s t : ℕ} (n : ℕ) (f : ℕ → ℕ) → s ≡ sum_below n f → t ≡ s + f n → t ≡ sum_below (n + 1) f
sum_again n f e h = h ∙ (ap (λ (k : ℕ). k + f n) e ∙ sym (sum_more n f))

pub sum_ext : (n : ℕ) (f g : ℕ → ℕ) → ((i : ℕ) → i < n → f i ≡ g i) → sum_below n f ≡ sum_below n g
unfolding sum_below
sum_ext zero f g h = refl
sum_ext (suc n) f g h = ap₂ ◌+◌ (sum_ext n f g (λ i l. h i (omega arith))) (h n (omega arith))

-- each term grows, so the sum does
pub sum_mono : (n : ℕ) (f g : ℕ → ℕ) → ((i : ℕ) → i < n → f i ≤ g i) → sum_below n f ≤ sum_below n g
unfolding sum_below
sum_mono zero f g h = le_refl 0
sum_mono (suc n) f g h = add-le-add (sum_mono n f g (λ i l. h i (omega arith))) (h n (omega arith))

-- n terms of at most b
pub sum_le : (n b : ℕ) (f : ℕ → ℕ) → ((i : ℕ) → i < n → f i ≤ b) → sum_below n f ≤ n * b
unfolding sum_below
sum_le zero b f h = omega arith
sum_le (suc n) b f h = rw suc-mul (add-le-add (sum_le n b f (λ i l. h i (omega arith))) (h n (omega arith)))

-- a sum that was carried to its end
pub sum_whole : {s j n : ℕ} (f : ℕ → ℕ) → s ≡ sum_below j f → j ≡ n → s ≡ sum_below n f
sum_whole f e h = e ∙ ap (λ (k : ℕ). sum_below k f) h

pub sum_zero : (n : ℕ) (f : ℕ → ℕ) → ((i : ℕ) → i < n → f i ≡ 0) → sum_below n f ≡ 0
unfolding sum_below
sum_zero zero f h = refl
sum_zero (suc n) f h = ap₂ ◌+◌ (sum_zero n f (λ i l. h i (omega arith))) (h n (omega arith))
