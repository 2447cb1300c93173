-- What is printed tells what it says: two worlds on one plan that are printed alike are alike, line by line from the first.
-- Assumes nothing.
use mathlib.Core.Path.{◌≡◌, refl, sym, ap, subst, ◌∙◌}
use mathlib.Core.Bool.{true, false}
use mathlib.Core.List.{List, [], ◌∷◌, ◌++◌, append_assoc, append-nil}
use Prim.Native.Nat.{ℕ, zero, suc, ◌/◌, ◌%◌, ◌<◌}
use native.Mathlib.Nat.{not-suc-le-zero}
use native.Mathlib.Decide.{ℕ_discrete}
use native.Mathlib.Omega.{arith}
use lib.ListN.{get_or}
use Rattle.reckon.specs.Lists.{joined}
use Rattle.reckon.proofs.TestLaws.{not_both, pick_true}
use Rattle.grid.specs.Squares.{squares}
use Rattle.ledger.specs.Runs.{Plan}
use Rattle.ledger.specs.Flows.{shut}
use Rattle.ledger.specs.declared.runs.Run.{Run}
use Rattle.text.specs.Writing.{line_text}
use Rattle.text.proofs.ReadingLaws.{by_test}
use Rattle.text.proofs.ApartLaws.{line_apart}
use Rattle.sheet.specs.Lines.{cell_word}
use Rattle.answer.specs.Printed.{out_word, soak_word, steps_word, clock_word, refused_word, refused_text, cell_text, cells_text, totals_text, made_text}
use Rattle.answer.proofs.PrintLaws.{open_text}

-- ---- the squares

closed_text : (p : Plan) (d : List ℕ) (i : ℕ) → shut p i ≡ true → cell_text p d i ≡ []
unfolding cell_text
closed_text p d i c = pick_true _ _ c

-- the same depth at square i, if it is not closed
abbrev SameAt : Plan → List ℕ → List ℕ → ℕ → Type 0
SameAt p d e i = shut p i ≡ false → get_or d i 0 ≡ get_or e i 0

module _ (p : Plan) (d e : List ℕ) where
  cell_apart : (i : ℕ) (t u : List ℕ) → cell_text p d i ++ t ≡ cell_text p e i ++ u → SameAt p d e i × (t ≡ u)
  cell_apart i t u q =
      by_test (shut p i)
      (λ c. (λ o. not_both c o, sym (ap (λ (l : List ℕ). l ++ t) (closed_text p d i c)) ∙ (q ∙ ap (λ (l : List ℕ). l ++ u) (closed_text p e i c))))
      (λ c.
      let a =
      line_apart cell_word (i / p.shape.columns ∷ i % p.shape.columns ∷ get_or d i 0 ∷ []) (i / p.shape.columns ∷ i % p.shape.columns ∷ get_or e i 0 ∷ []) t u refl
      (sym (ap (λ (l : List ℕ). l ++ t) (open_text p d i c)) ∙ (q ∙ ap (λ (l : List ℕ). l ++ u) (open_text p e i c))) in
      (λ o. ap (λ (l : List ℕ). get_or l 2 0) a.0, a.1))

  cells_apart :
      (n : ℕ) (t u : List ℕ) → joined n (cell_text p d) ++ t ≡ joined n (cell_text p e) ++ u → ((i : ℕ) → i < n → SameAt p d e i) × (t ≡ u)
  unfolding joined
  cells_apart zero t u q = (λ i l. absurd (not-suc-le-zero l), q)
  cells_apart (suc n) t u q =
      let first =
      cells_apart n (cell_text p d n ++ t) (cell_text p e n ++ u)
      (sym (append_assoc (joined n (cell_text p d)) (cell_text p d n) t) ∙ (q ∙ append_assoc (joined n (cell_text p e)) (cell_text p e n) u)) in
      let last = cell_apart n t u first.1 in
      (λ i l. go i l first.0 last.0 (ℕ_discrete i n), last.1)
    where
      go : (i : ℕ) → i < suc n → ((k : ℕ) → k < n → SameAt p d e k) → SameAt p d e n → Dec (i ≡ n) → SameAt p d e i
      go i l f g (yes z) = subst (SameAt p d e) (sym z) g
      go i l f g (no z) = f i (omega arith)

-- ---- the totals, and all of it

total_apart : (word : List ℕ) (a b : ℕ) (t u : List ℕ) → line_text word (a ∷ []) ++ t ≡ line_text word (b ∷ []) ++ u → (a ≡ b) × (t ≡ u)
total_apart word a b t u q =
    let w = line_apart word (a ∷ []) (b ∷ []) t u refl q in
    (ap (λ (l : List ℕ). get_or l 0 0) w.0, w.1)

pub made_apart :
    (p : Plan) (d e : List ℕ) (u v : Run) (k m : ℕ) → made_text p d u k ≡ made_text p e v m →
    ((i : ℕ) → i < squares p.shape → SameAt p d e i) × (u.outflow ≡ v.outflow) × (u.soaked ≡ v.soaked) × (k ≡ m) × (u.clock ≡ v.clock)
unfolding made_text cells_text totals_text
made_apart p d e u v k m q =
    let cells = cells_apart p d e (squares p.shape) _ _ q in
    let out = total_apart out_word u.outflow v.outflow _ _ cells.1 in
    let soak = total_apart soak_word u.soaked v.soaked _ _ out.1 in
    let steps = total_apart steps_word k m _ _ soak.1 in
    let clock = total_apart clock_word u.clock v.clock [] [] (append-nil _ ∙ (steps.1 ∙ sym (append-nil _))) in
    (cells.0, out.0, soak.0, steps.0, clock.0)

pub refused_apart : (n m l k : ℕ) → refused_text n l ≡ refused_text m k → (n ≡ m) × (l ≡ k)
unfolding refused_text
refused_apart n m l k q =
    let w = line_apart refused_word (n ∷ l ∷ []) (m ∷ k ∷ []) [] [] refl (append-nil _ ∙ (q ∙ sym (append-nil _))) in
    (ap (λ (vs : List ℕ). get_or vs 0 0) w.0, ap (λ (vs : List ℕ). get_or vs 1 0) w.0)

-- ---- no world is printed as a refusal is: it begins with another letter

abbrev Other : List ℕ → Type 0
Other t = get_or t 0 0 < 114

module _ (p : Plan) (d : List ℕ) where
  cell_other : (i : ℕ) (t : List ℕ) → Other t → Other (cell_text p d i ++ t)
  unfolding line_text
  cell_other i t o =
      by_test (shut p i) (λ c. subst (λ (l : List ℕ). Other (l ++ t)) (sym (closed_text p d i c)) o)
      (λ c. subst (λ (l : List ℕ). Other (l ++ t)) (sym (open_text p d i c)) (omega arith))

  cells_other : (n : ℕ) (t : List ℕ) → Other t → Other (joined n (cell_text p d) ++ t)
  unfolding joined
  cells_other zero t o = o
  cells_other (suc n) t o =
      subst Other (sym (append_assoc (joined n (cell_text p d)) (cell_text p d n) t)) (cells_other n (cell_text p d n ++ t) (cell_other n t o))

out_other : (total : ℕ) (t : List ℕ) → Other (line_text out_word (total ∷ []) ++ t)
unfolding line_text
out_other total t = omega arith

made_other : (p : Plan) (d : List ℕ) (u : Run) (steps : ℕ) → Other (made_text p d u steps)
unfolding made_text cells_text totals_text
made_other p d u steps = cells_other p d (squares p.shape) _ (out_other u.outflow _)

pub made_not_refused : (p : Plan) (d : List ℕ) (u : Run) (steps number line : ℕ) → made_text p d u steps ≡ refused_text number line → ⊥
unfolding refused_text line_text
made_not_refused p d u steps number line q = omega (arith, made_other p d u steps, ap (λ (t : List ℕ). get_or t 0 0) q)
