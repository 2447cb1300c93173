-- A table's number is that of its first row that applies: row by row.
-- Assumes nothing.
use mathlib.Core.Path.{◌≡◌, refl, sym, ◌∙◌, subst}
use mathlib.Core.Bool.{Bool, true, false}
use mathlib.Core.List.{List, [], ◌∷◌}
use Prim.Native.Nat.{ℕ}
use lib.Dec.{T}
use Rattle.reckon.specs.Tests.{Row, refusal}
use Rattle.reckon.specs.Inner.Rows.{numbered}
use Rattle.reckon.proofs.TestLaws.{not_both, Passed, refusal_passed, refusal_here, refusal_later}
use Rattle.demands.specs.Table.{FirstFails, here, later, TableSays}

first_fails : (rows : List Row) → (refusal rows ≡ 0 → ⊥) → FirstFails rows (refusal rows)
unfolding refusal
first_fails [] d = absurd (d refl)
first_fails (r ∷ rows) d = go r.fine refl (first_fails rows)
  where
    go : (b : Bool) → r.fine ≡ b → ((refusal rows ≡ 0 → ⊥) → FirstFails rows (refusal rows)) → FirstFails (r ∷ rows) (refusal (r ∷ rows))
    go true e ih =
        let q : refusal (r ∷ rows) ≡ refusal rows = refusal_later r.number rows e in
        subst (λ (n : ℕ). FirstFails (r ∷ rows) n) (sym q) (later e (ih (λ z. d (q ∙ z))))
    go false e ih = subst (λ (n : ℕ). FirstFails (r ∷ rows) n) (sym (refusal_here r.number rows e)) (here e)

fails_first : {n : ℕ} {rows : List Row} → FirstFails rows n → refusal rows ≡ n
fails_first (here {n} {fine} {rows} e) = refusal_here n rows e
fails_first (later {n} {k} {fine} {rows} e x) = refusal_later k rows e ∙ fails_first x

not_passed : {n : ℕ} {rows : List Row} → FirstFails rows n → Passed rows → ⊥
not_passed (here e) h = not_both h.0 e
not_passed (later e x) h = not_passed x h.1

pub table_says : (rows : List Row) → T (numbered rows) → TableSays rows (refusal rows)
table_says rows t =
    record {
      refused = first_fails rows;
      applies = λ n x. fails_first x;
      never_none = λ x. not_passed x (refusal_passed rows t (fails_first x));
    }
