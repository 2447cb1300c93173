-- Laws of choices and tests: a choice takes the side that its test says; a list or a range of tests holds exactly where each does;
-- a table of refusals gives 0 exactly where each of its rows is fine.
-- Assumes nothing.
use mathlib.Core.Path.{◌≡◌, refl, sym, ap, ◌∙◌, subst}
use mathlib.Core.Bool.{Bool, true, false, ◌&&◌, ◌||◌}
use mathlib.Core.List.{List, [], ◌∷◌, ◌++◌}
use Prim.Native.Nat.{ℕ, zero, suc, ◌+◌, ◌≤◌, ◌<◌}
use native.Mathlib.Nat.{not-suc-le-zero}
use native.Mathlib.Numerals.{add-one}
use native.Mathlib.Decide.{ℕ_discrete}
use native.Mathlib.Omega.{arith}
use lib.Dec.{T, leb}
use lib.ListN.{get_or}
use Rattle.reckon.specs.Tests.{pick, every, all_below, first_failing, Row, ◌unless◌, refusal}
use Rattle.reckon.specs.Inner.Rows.{numbered}

pub not_both : {b : Bool} {A : Type 0} → b ≡ true → b ≡ false → A
not_both p q = absurd (let z : true ≡ false = sym p ∙ q in let y : ◌≡◌ {A = ℕ} 0 1 = cc in omega arith)

-- ---- a choice by a test

module _ {A : Type 0} {b : Bool} (x y : A) where
  pub pick_true : b ≡ true → pick b x y ≡ x
  unfolding pick
  pick_true e = rw e

  pub pick_false : b ≡ false → pick b x y ≡ y
  unfolding pick
  pick_false e = rw e

-- what is done to a choice is done to what is chosen
pub pick_ap : {A B : Type 0} (f : A → B) (b : Bool) (x y : A) → f (pick b x y) ≡ pick b (f x) (f y)
unfolding pick
pick_ap f true x y = refl
pick_ap f false x y = refl

pub pick_same : {A : Type 0} (b : Bool) (x : A) → pick b x x ≡ x
unfolding pick
pick_same true x = refl
pick_same false x = refl

-- what holds of both sides holds of the choice
pub pick_both : {A : Type 0} (P : A → Type 0) (b : Bool) {x y : A} → P x → P y → P (pick b x y)
unfolding pick
pick_both P true h g = h
pick_both P false h g = g

-- a test that cannot hold fails
pub no_more : (b : Bool) → (b ≡ true → ⊥) → b ≡ false
no_more true h = absurd (h refl)
no_more false h = refl

-- ---- two tests

pub and_left : (a b : Bool) → (a && b) ≡ true → a ≡ true
and_left true b e = refl
and_left false b e = e

pub and_right : (a b : Bool) → (a && b) ≡ true → b ≡ true
and_right true b e = e
and_right false b e = not_both e refl

pub and_both : (a b : Bool) → a ≡ true → b ≡ true → (a && b) ≡ true
and_both a b p q = rw (p, q)

pub and_true : (a : Bool) → (a && true) ≡ a
and_true true = refl
and_true false = refl

pub and_false : (a b : Bool) → b ≡ false → (a && b) ≡ false
and_false true b e = e
and_false false b e = refl

-- one of the two holds: so the second does where the first fails
pub or_right : (a b : Bool) → (a || b) ≡ true → a ≡ false → b ≡ true
or_right true b e h = not_both e h
or_right false b e h = e

pub or_of : (a b : Bool) → (a ≡ false → b ≡ true) → (a || b) ≡ true
or_of true b f = refl
or_of false b f = f refl

-- ---- a list of tests

abbrev pub Each : List Bool → Type 0
Each [] = Unit {0}
Each (b ∷ bs) = (b ≡ true) × Each bs

pub every_each : (bs : List Bool) → every bs ≡ true → Each bs
unfolding every
every_each [] e = tt
every_each (b ∷ bs) e = (and_left b (every bs) e, every_each bs (and_right b (every bs) e))

pub each_every : (bs : List Bool) → Each bs → every bs ≡ true
unfolding every
each_every [] h = refl
each_every (b ∷ bs) h = and_both b (every bs) h.0 (each_every bs h.1)

-- the k-th of them fails
pub every_fails : (bs : List Bool) (k : ℕ) → get_or bs k true ≡ false → every bs ≡ false
unfolding every
every_fails [] k e = e
every_fails (b ∷ bs) zero e = rw e
every_fails (b ∷ bs) (suc k) e = and_false b (every bs) (every_fails bs k e)

-- ---- a test of each number below n

pub all_none : (f : ℕ → Bool) → all_below 0 f ≡ true
unfolding all_below
all_none f = refl

pub all_more : (f : ℕ → Bool) (i : ℕ) → all_below i f ≡ true → f i ≡ true → all_below (i + 1) f ≡ true
unfolding all_below
all_more f i e h = rw add-one (and_both (all_below i f) (f i) e h)

pub all_at : (n : ℕ) (f : ℕ → Bool) → all_below n f ≡ true → (i : ℕ) → i < n → f i ≡ true
unfolding all_below
all_at zero f e i h = absurd (not-suc-le-zero h)
all_at (suc n) f e i h = go (ℕ_discrete i n) (λ l. all_at n f (and_left (all_below n f) (f n) e) i l)
  where
    go : Dec (i ≡ n) → (i < n → f i ≡ true) → f i ≡ true
    go (yes q) g = rw q (and_right (all_below n f) (f n) e)
    go (no q) g = g (omega arith)

pub all_of : (n : ℕ) (f : ℕ → Bool) → ((i : ℕ) → i < n → f i ≡ true) → all_below n f ≡ true
unfolding all_below
all_of zero f h = refl
all_of (suc n) f h = and_both (all_below n f) (f n) (all_of n f (λ i l. h i (omega arith))) (h n (omega arith))

pub all_fails : (n : ℕ) (f : ℕ → Bool) (i : ℕ) → i < n → f i ≡ false → all_below n f ≡ false
all_fails n f i h e = go (all_below n f) refl
  where
    go : (b : Bool) → all_below n f ≡ b → all_below n f ≡ false
    go false q = q
    go true q = not_both (all_at n f q i h) e

pub all_ext : (n : ℕ) (f g : ℕ → Bool) → ((i : ℕ) → i < n → f i ≡ g i) → all_below n f ≡ all_below n g
unfolding all_below
all_ext zero f g h = refl
all_ext (suc n) f g h = rw (all_ext n f g (λ i l. h i (omega arith)), h n (omega arith))

-- where the range does not hold, some number of it fails
pub all_some : (n : ℕ) (f : ℕ → Bool) → all_below n f ≡ false → (i : ℕ) × ((i < n) × (f i ≡ false))
unfolding all_below
all_some zero f e = not_both refl e
all_some (suc n) f e = go (f n) refl (all_some n f)
  where
    go :
        (b : Bool) → f n ≡ b → (all_below n f ≡ false → (i : ℕ) × ((i < n) × (f i ≡ false))) →
        (i : ℕ) × ((i < suc n) × (f i ≡ false))
    go false b ih = (n, (omega arith, b))
    go true b ih =
        let h = ih (sym (rw b (and_true (all_below n f))) ∙ e) in
        (h.0, (omega (arith, h.1.0), h.1.1))

-- one number more, where its test holds
pub all_beside : (n : ℕ) (f : ℕ → Bool) → f n ≡ true → all_below (n + 1) f ≡ all_below n f
unfolding all_below
all_beside n f e = rw (add-one n, e) (and_true (all_below n f))

-- a range that was carried to its end
pub all_whole : {j n : ℕ} (f : ℕ → Bool) → all_below j f ≡ true → j ≡ n → all_below n f ≡ true
all_whole f e h = subst (λ (k : ℕ). all_below k f ≡ true) h e

-- ---- the first number below n of which a test fails

pub failing_le : (n : ℕ) (f : ℕ → Bool) → first_failing n f ≤ n
unfolding first_failing
failing_le zero f = omega arith
failing_le (suc n) f =
    pick_both (λ (k : ℕ). k ≤ suc n) (f zero) (omega (arith, failing_le n (λ k. f (suc k)))) (omega arith)

-- each before i passes and i fails: it is i
pub failing_at : (n : ℕ) (f : ℕ → Bool) (i : ℕ) → i < n → ((k : ℕ) → k < i → f k ≡ true) → f i ≡ false → first_failing n f ≡ i
unfolding first_failing
failing_at zero f i l h e = absurd (not-suc-le-zero l)
failing_at (suc n) f zero l h e = pick_false (suc (first_failing n (λ k. f (suc k)))) zero e
failing_at (suc n) f (suc i) l h e =
    pick_true (suc (first_failing n (λ k. f (suc k)))) zero (h zero (omega arith))
    ∙ ap suc (failing_at n (λ k. f (suc k)) i (omega arith) (λ k g. h (suc k) (omega arith)) e)

-- none fails: it is n
pub failing_none : (n : ℕ) (f : ℕ → Bool) → ((k : ℕ) → k < n → f k ≡ true) → first_failing n f ≡ n
unfolding first_failing
failing_none zero f h = refl
failing_none (suc n) f h =
    pick_true (suc (first_failing n (λ k. f (suc k)))) zero (h zero (omega arith))
    ∙ ap suc (failing_none n (λ k. f (suc k)) (λ k g. h (suc k) (omega arith)))

-- each number before it passes
pub failing_before : (n : ℕ) (f : ℕ → Bool) (k : ℕ) → k < first_failing n f → f k ≡ true
unfolding first_failing pick
failing_before zero f k l = absurd (not-suc-le-zero l)
failing_before (suc n) f k l = go (f zero) refl l k (failing_before n (λ k. f (suc k)))
  where
    go :
        (b : Bool) → f zero ≡ b → k < pick b (suc (first_failing n (λ k. f (suc k)))) zero → (k' : ℕ) →
        ((j : ℕ) → j < first_failing n (λ k. f (suc k)) → f (suc j) ≡ true) → f k ≡ true
    go false e m k' ih = absurd (not-suc-le-zero m)
    go true e m k' ih = at k m
      where
        at : (j : ℕ) → j < suc (first_failing n (λ k. f (suc k))) → f j ≡ true
        at zero g = e
        at (suc j) g = ih j (omega arith)

-- and it fails itself, where it is below n
pub failing_fails : (n : ℕ) (f : ℕ → Bool) → first_failing n f < n → f (first_failing n f) ≡ false
unfolding first_failing pick
failing_fails zero f l = absurd (not-suc-le-zero l)
failing_fails (suc n) f l = go (f zero) refl l (failing_fails n (λ k. f (suc k)))
  where
    go :
        (b : Bool) → f zero ≡ b → pick b (suc (first_failing n (λ k. f (suc k)))) zero < suc n →
        (first_failing n (λ k. f (suc k)) < n → f (suc (first_failing n (λ k. f (suc k)))) ≡ false) →
        f (pick b (suc (first_failing n (λ k. f (suc k)))) zero) ≡ false
    go false e m ih = e
    go true e m ih = ih (omega arith)

-- ---- a table of refusals

abbrev pub Passed : List Row → Type 0
Passed [] = Unit {0}
Passed (r ∷ rs) = (r.fine ≡ true) × Passed rs

T-right : (a b : Bool) → T (a && b) → T b
T-right true b t = t
T-right false b t = absurd t

pub refusal_passed : (rs : List Row) → T (numbered rs) → refusal rs ≡ 0 → Passed rs
unfolding refusal pick
refusal_passed [] t e = tt
refusal_passed (r ∷ rs) t e = go r.fine r.number t e (λ u q. refusal_passed rs u q)
  where
    go :
        (b : Bool) (n : ℕ) → T (leb 1 n && numbered rs) → pick b (refusal rs) n ≡ 0 →
        (T (numbered rs) → refusal rs ≡ 0 → Passed rs) → (b ≡ true) × Passed rs
    go true n t e f = (refl, f (T-right (leb 1 n) (numbered rs) t) e)
    go false n t e f = absurd (subst (λ (m : ℕ). T (leb 1 m && numbered rs)) e t)

pub passed_refusal : (rs : List Row) → Passed rs → refusal rs ≡ 0
unfolding refusal
passed_refusal [] h = refl
passed_refusal (r ∷ rs) h = pick_true (refusal rs) r.number h.0 ∙ passed_refusal rs h.1

-- the first row fails, or passes and the rest decides
module _ (n : ℕ) {b : Bool} (rs : List Row) where
  pub refusal_here : b ≡ false → refusal (n unless b ∷ rs) ≡ n
  unfolding refusal
  refusal_here e = pick_false (refusal rs) n e

  pub refusal_later : b ≡ true → refusal (n unless b ∷ rs) ≡ refusal rs
  unfolding refusal
  refusal_later e = pick_true (refusal rs) n e

-- one table after another: nothing is refused where neither refuses; a refusal of the first stands; else the second decides
pub refusal_both : (rs ss : List Row) → T (numbered rs) → refusal (rs ++ ss) ≡ 0 → (refusal rs ≡ 0) × (refusal ss ≡ 0)
unfolding refusal pick
refusal_both [] ss t e = (refl, e)
refusal_both (r ∷ rs) ss t e = go r.fine r.number t e (refusal_both rs ss)
  where
    go :
        (b : Bool) (n : ℕ) → T (leb 1 n && numbered rs) → pick b (refusal (rs ++ ss)) n ≡ 0 →
        (T (numbered rs) → refusal (rs ++ ss) ≡ 0 → (refusal rs ≡ 0) × (refusal ss ≡ 0)) →
        (pick b (refusal rs) n ≡ 0) × (refusal ss ≡ 0)
    go true n t e f = f (T-right (leb 1 n) (numbered rs) t) e
    go false n t e f = absurd (subst (λ (m : ℕ). T (leb 1 m && numbered rs)) e t)

pub refusal-first : (rs ss : List Row) → T (numbered rs) → (refusal rs ≡ 0 → ⊥) → refusal (rs ++ ss) ≡ refusal rs
unfolding refusal pick
refusal-first [] ss t d = absurd (d refl)
refusal-first (r ∷ rs) ss t d = go r.fine r.number t d (refusal-first rs ss)
  where
    go :
        (b : Bool) (n : ℕ) → T (leb 1 n && numbered rs) → (pick b (refusal rs) n ≡ 0 → ⊥) →
        (T (numbered rs) → (refusal rs ≡ 0 → ⊥) → refusal (rs ++ ss) ≡ refusal rs) → pick b (refusal (rs ++ ss)) n ≡ pick b (refusal rs) n
    go true n t d f = f (T-right (leb 1 n) (numbered rs) t) d
    go false n t d f = refl

pub refusal-second : (rs ss : List Row) → T (numbered rs) → refusal rs ≡ 0 → refusal (rs ++ ss) ≡ refusal ss
unfolding refusal pick
refusal-second [] ss t e = refl
refusal-second (r ∷ rs) ss t e = go r.fine r.number t e (refusal-second rs ss)
  where
    go :
        (b : Bool) (n : ℕ) → T (leb 1 n && numbered rs) → pick b (refusal rs) n ≡ 0 →
        (T (numbered rs) → refusal rs ≡ 0 → refusal (rs ++ ss) ≡ refusal ss) → pick b (refusal (rs ++ ss)) n ≡ refusal ss
    go true n t e f = f (T-right (leb 1 n) (numbered rs) t) e
    go false n t e f = absurd (subst (λ (m : ℕ). T (leb 1 m && numbered rs)) e t)
