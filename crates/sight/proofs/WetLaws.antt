-- Laws of wet rows: the ones over all rows are the wet squares, and the refusals in their order.
-- Assumes nothing.
use mathlib.Core.Path.{◌≡◌, refl, sym, ap, ◌∙◌}
use mathlib.Core.List.{List}
use Prim.Native.Nat.{ℕ, zero, suc, ◌≤◌, ◌<◌}
use lib.Count.{ones}
use lib.Dec.{eqb}
use lib.ListN.{length, get_or}
use borrow.Author.Tests.{eq-eqb, ne_eqb, le-leb, lt-leb, eqb-true}
use Rattle.reckon.specs.Tests.{refusal}
use Rattle.reckon.specs.Lists.{tabulate, sum_below}
use Rattle.reckon.specs.Ranges.{most_depth}
use Rattle.reckon.proofs.TestLaws.{pick_true, pick_false, refusal_here, refusal-first, refusal-second, passed_refusal, refusal_both}
use Rattle.reckon.proofs.ListLaws.{length-tabulate, get_or-tabulate, sum_ext}
use Rattle.grid.specs.Masks.{is_wet, row_mask, wet_masks, RowsLent}
use Rattle.grid.proofs.MaskLaws.{ones_of_rows}
use Rattle.ledger.specs.Runs.{Plan}
use Rattle.sight.specs.Refusals.{shared_refusals}
use Rattle.sight.specs.WetRows.{ones_over, wet_squares, wet_refusals, wet_number, counted, WetRowed}
use Rattle.sight.specs.declared.wet_rows.Wet.{Wet}
use Rattle.sight.specs.declared.wet_rows.Wet.TheVariants.{Count, Refused}
use Rattle.sight.proofs.RefusalLaws.{lent}

-- ---- the count

pub count_is : (p : Plan) (depths : List ℕ) (least : ℕ) → ones_over (wet_masks p.shape p.marks depths least) ≡ wet_squares p depths least
unfolding ones_over wet_masks wet_squares
count_is p depths least =
    let f = row_mask p.shape (is_wet p.marks depths least) in
    let n = p.shape.rows in
    ap (λ (k : ℕ). sum_below k (λ row. ones (get_or (tabulate n f) row 0))) (length-tabulate n f)
    ∙ (sum_ext n _ _ (λ i l. ap ones (get_or-tabulate n f i l)) ∙ ones_of_rows p.shape (is_wet p.marks depths least))

-- ---- refusals

module _ (p : Plan) (depths : List ℕ) (least numbers : ℕ) {shared : ℕ}
    (s : shared ≡ refusal (shared_refusals p depths (eqb numbers p.shape.rows))) where
  pub wet_shared : (shared ≡ 0 → ⊥) → shared ≡ refusal (wet_refusals p depths least numbers)
  unfolding wet_refusals shared_refusals
  wet_shared n = s ∙ sym (refusal-first _ _ tt (λ e. n (s ∙ e)))

  pub wet_deep : shared ≡ 0 → most_depth < least → 5 ≡ refusal (wet_refusals p depths least numbers)
  unfolding wet_refusals shared_refusals
  wet_deep e h = sym (refusal-second _ _ tt (sym s ∙ e) ∙ refusal_here 5 _ (lt-leb _ _ h))

  pub wet_none : shared ≡ 0 → least ≤ most_depth → 0 ≡ refusal (wet_refusals p depths least numbers)
  unfolding wet_refusals shared_refusals
  wet_none e h = sym (refusal-second _ _ tt (sym s ∙ e) ∙ passed_refusal _ (le-leb _ _ h, tt))

-- ---- the answer

-- the number that an answer gives back, 0 where it is no refusal: by it the cases are kept apart
abbrev pub number_in : Wet → ℕ
number_in (Count n) = 0
number_in (Refused k) = k

pub number_kept : (number count : ℕ) → number_in (counted number count) ≡ number
unfolding counted
number_kept zero count = refl
number_kept (suc k) count = refl

refused_is : (n m k : ℕ) → n ≡ m → (n ≡ 0 → ⊥) → Refused n ≡ counted m k
unfolding counted
refused_is zero m k e h = absurd (h refl)
refused_is (suc n) m k e h = rw (sym e)

module _ (p : Plan) (depths : List ℕ) (least : ℕ) (old : List ℕ) {n : ℕ} (e : n ≡ refusal (wet_refusals p depths least (length old))) where
  pub wet_refused : (n ≡ 0 → ⊥) → WetRowed p depths least old (Refused n) old
  unfolding wet_number
  wet_refused h =
      record { answer = refused_is n _ _ e h; rows_are = sym (pick_false _ _ (ne_eqb _ 0 (λ z. h (e ∙ z)))) }

  pub wet_counted :
      {rows : List ℕ} {count : ℕ} → n ≡ 0 → rows ≡ wet_masks p.shape p.marks depths least → count ≡ ones_over rows →
      WetRowed p depths least old (Count count) rows
  unfolding wet_number counted
  wet_counted {rows} {count} z m c =
      record {
        answer = rw (sym e ∙ z) (ap Count (c ∙ ap ones_over m));
        rows_are = m ∙ sym (pick_true _ _ (eq-eqb _ 0 (sym e ∙ z)));
      }

  pub wet_lent : n ≡ 0 → RowsLent p.shape p.marks depths old
  unfolding wet_refusals shared_refusals
  wet_lent z =
      let parts = refusal_both (shared_refusals p depths (eqb (length old) p.shape.rows)) _ tt (sym e ∙ z) in
      let l = lent p depths _ parts.0 in
      record {
        fine = l.sizes.fine;
        marks_long = l.sizes.marks_long;
        depths_long = l.sizes.depths_long;
        rows_long = eqb-true _ _ l.more_fine;
      }
