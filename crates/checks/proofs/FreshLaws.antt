-- Laws of a fresh run: what its checks leave as facts, one square more cleared, and its two answers.
-- Assumes nothing.
use mathlib.Core.Path.{◌≡◌, refl, sym, ap, ap₂, ◌∙◌}
use mathlib.Core.Bool.{Bool, true, false}
use mathlib.Core.List.{List, [], ◌∷◌}
use Prim.Native.Nat.{ℕ, ◌+◌, ◌<◌}
use lib.Dec.{T}
use lib.ListN.{length, set}
use borrow.Author.Tests.{eq-eqb, ne_eqb, not-true, eqb-false}
use Rattle.reckon.specs.Tests.{every, pick}
use Rattle.reckon.specs.Inner.Rows.{numbered}
use Rattle.reckon.specs.Lists.{filled}
use Rattle.reckon.proofs.TestLaws.{not_both, pick_true, pick_false, every_each, refusal_passed}
use Rattle.reckon.proofs.ListLaws.{length-filled, filled_store, filled_keep}
use Rattle.grid.specs.declared.squares.Shape.{Shape}
use Rattle.grid.specs.Squares.{squares, shape_fine}
use Rattle.grid.specs.Marks.{Marked, closed}
use Rattle.grid.proofs.SquareLaws.{ranges_of_fine}
use Rattle.reckon.specs.Ranges.{side_fine}
use Rattle.rule.specs.declared.rules.Rules.{Rules}
use Rattle.ledger.specs.Runs.{Plan, answered, plan}
use Rattle.ledger.specs.Flows.{shut}
use Rattle.ledger.specs.Record.{room_slots}
use Rattle.ledger.specs.Checks.{one_each}
use Rattle.ledger.specs.declared.runs.Run.{Run}
use Rattle.ledger.specs.declared.runs.Answer.TheVariants.{Done, Refused}
use Rattle.ledger.proofs.RunLaws.{answered_done, answered-refused}
use Rattle.checks.specs.Fresh.{fresh_refusals, fresh_number, fresh_run, fresh_lasts, Freshens}
use Rattle.checks.proofs.CheckLaws.{each_long}

-- ---- the checks

-- row 1
module _ (s : Shape) (marks : List ℕ) (D : ℕ) (lasts : List ℕ) where
  abbrev pub size_tests : List Bool
  size_tests = shape_fine s ∷ side_fine D ∷ one_each (plan s marks) marks ∷ one_each (plan s marks) lasts ∷ []

  module _ (e : every size_tests ≡ true) where
    pub sizes_marked : Marked s marks
    sizes_marked =
        let t = every_each _ e in
        record { fine = ranges_of_fine s t.0; whole = each_long (plan s marks) _ t.1.1.0 }

    pub sizes_lent : (Marked s marks) × (length lasts ≡ squares s)
    sizes_lent = (sizes_marked, each_long (plan s marks) _ (every_each _ e).1.1.1.0)

module _ (p : Plan) (r : Rules) (lasts records : List ℕ) where
  rows_named : T (numbered (fresh_refusals p r lasts records))
  unfolding fresh_refusals
  rows_named = tt

  module _ (e : fresh_number p r lasts records ≡ 0) where
    pub fresh_sizes : every (size_tests p.shape p.marks r.square_side lasts) ≡ true
    unfolding fresh_number fresh_refusals
    fresh_sizes = (refusal_passed _ rows_named e).0

    -- K is not 0
    pub fresh-slots : room_slots p records ≡ 0 → ⊥
    unfolding fresh_number fresh_refusals
    fresh-slots = eqb-false _ _ (not-true _ (refusal_passed _ rows_named e).1.1.1.0)

-- ---- last leaving cleared below i, and then of square i

pub clear_long : (marks old : List ℕ) (i : ℕ) {l : List ℕ} → l ≡ filled i (closed marks) (λ k. 0) old → length l ≡ length old
clear_long marks old i e = ap length e ∙ length-filled i (closed marks) (λ k. 0) old

pub clear_more :
    (marks old : List ℕ) (i : ℕ) → i < length old → {l new : List ℕ} → l ≡ filled i (closed marks) (λ k. 0) old →
    new ≡ pick (closed marks i) l (set l i 0) → new ≡ filled (i + 1) (closed marks) (λ k. 0) old
clear_more marks old i h {l} {new} e q = go (closed marks i) refl
  where
    go : (b : Bool) → closed marks i ≡ b → new ≡ filled (i + 1) (closed marks) (λ k. 0) old
    go true s = q ∙ (pick_true _ _ s ∙ (e ∙ filled_keep (closed marks) (λ k. 0) old i h (λ f. not_both s f)))
    go false s =
        q
        ∙ (pick_false _ _ s
        ∙ (ap (λ (x : List ℕ). set x i 0) e ∙ filled_store (closed marks) (λ k. 0) old i h s refl))

pub clear_whole :
    (marks old : List ℕ) {i n : ℕ} {l : List ℕ} → l ≡ filled i (closed marks) (λ k. 0) old → i ≡ n →
    l ≡ filled n (closed marks) (λ k. 0) old
clear_whole marks old e q = e ∙ ap (λ (n : ℕ). filled n (closed marks) (λ k. 0) old) q

-- ---- the answers

module _ (p : Plan) (r : Rules) (before records : List ℕ) {n : ℕ} (e : n ≡ fresh_number p r before records) where
  pub fresh-refused : (n ≡ 0 → ⊥) → Freshens p r before records (Refused n) before
  unfolding fresh_lasts
  fresh-refused d =
      record {
        answer = answered-refused n (fresh_run r (room_slots p records)) d ∙ ap (λ (k : ℕ). answered k (fresh_run r (room_slots p records))) e;
        lasts_are = sym (pick_false _ _ (ne_eqb _ _ (λ z. d (e ∙ z))));
      }

  pub fresh_done :
      n ≡ 0 → {lasts : List ℕ} {slots : ℕ} {u : Run} → lasts ≡ filled (squares p.shape) (shut p) (λ i. 0) before → slots ≡ room_slots p records →
      u ≡ fresh_run r slots → Freshens p r before records (Done u) lasts
  unfolding fresh_lasts
  fresh_done z {u = u} q k f =
      record {
        answer = answered_done u z ∙ ap₂ answered e (f ∙ ap (fresh_run r) k);
        lasts_are = q ∙ sym (pick_true _ _ (eq-eqb _ _ (sym e ∙ z)));
      }
