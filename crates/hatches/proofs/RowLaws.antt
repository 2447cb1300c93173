-- Laws of the hatches' rows: how many numbers they have, and one row put after another.
-- Assumes nothing.
use mathlib.Core.Path.{◌≡◌, refl, sym, ap, subst, ◌∙◌}
use mathlib.Core.Bool.{Bool, true, false}
use mathlib.Core.List.{List, [], ◌∷◌}
use Prim.Native.Nat.{ℕ, zero, suc, ◌+◌, ◌*◌, ◌≤◌, ◌<◌}
use native.Mathlib.Nat.{le_refl}
use native.Mathlib.Numerals.{add-one}
use native.Mathlib.Omega.{arith}
use lib.ListN.{length, get_or, take, length-append}
use Rattle.std.specs.List.{count_by}
use Rattle.std.proofs.lemmas.List.{take_all}
use Rattle.std.proofs.lemmas.List.Sums.{count_by_more_yes, count_by_more_no}
use Rattle.reckon.specs.Tests.{pick}
use Rattle.reckon.specs.Lists.{joined, placed}
use Rattle.reckon.specs.Ranges.{last_clock}
use Rattle.reckon.specs.Tables.{inflow_kind}
use Rattle.reckon.proofs.TestLaws.{pick_true, pick_false}
use Rattle.reckon.proofs.ListLaws.{joined_none, joined_more}
use Rattle.text.specs.Writing.{Wrote}
use Rattle.text.proofs.ReadingLaws.{by_lt}
use Rattle.text.proofs.WritingLaws.{placed_none, wrote_both, wrote_length}
use Rattle.sheet.proofs.JudgeLaws.{take_put}
use Rattle.hatches.specs.Log.{most_hatches, hatch_row, hatch_rows, table_with}
use Rattle.hatches.specs.declared.log.Hatches.{Hatches}

-- ---- how many are named

-- of the first so many
unfoldable pub named_below : List Bool → ℕ → ℕ
named_below named zero = 0
named_below named (suc n) = named_below named n + pick (get_or named n false) 1 0

-- the library's count, where the list is so long
counted_to : (named : List Bool) (n : ℕ) → n ≤ length named → count_by (λ one. one) (take n named) ≡ named_below named n
unfolding named_below
counted_to named zero h = refl
counted_to named (suc n) h = ap (λ (k : ℕ). count_by (λ one. one) (take k named)) (sym (add-one n)) ∙ go (get_or named n false) refl (counted_to named n (omega arith))
  where
    go : (b : Bool) → get_or named n false ≡ b → count_by (λ one. one) (take n named) ≡ named_below named n →
        count_by (λ one. one) (take (n + 1) named) ≡ named_below named n + pick b 1 0
    go true e before = omega (arith, before, count_by_more_yes (λ one. one) named n false h e, pick_true {A = ℕ} {b = true} 1 0 refl)
    go false e before = omega (arith, before, count_by_more_no (λ one. one) named n false h e, pick_false {A = ℕ} {b = false} 1 0 refl)

pub counted : (named : List Bool) → length named ≡ most_hatches → count_by (λ one. one) named ≡ named_below named most_hatches
counted named nine = ap (count_by (λ one. one)) (sym (take_all most_hatches named (omega (arith, nine)))) ∙ counted_to named most_hatches (omega (arith, nine))

-- ---- how long their rows are

module _ (hs : Hatches) (litres : List ℕ) where
  row_long : (h : ℕ) → length (hatch_row hs litres h) ≡ pick (get_or hs.named h false) 1 0 * inflow_kind.width
  unfolding hatch_row pick
  row_long h = go (get_or hs.named h false)
    where
      go : (b : Bool) →
          length (pick b (get_or hs.rows h 0 ∷ get_or hs.columns h 0 ∷ 0 ∷ last_clock ∷ get_or litres h 0 ∷ []) [])
          ≡ pick b 1 0 * inflow_kind.width
      go true = refl
      go false = refl

  rows_to : (n : ℕ) → length (joined n (hatch_row hs litres)) ≡ named_below hs.named n * inflow_kind.width
  unfolding joined named_below
  rows_to zero = refl
  rows_to (suc n) =
      omega (
        arith,
        length-append (joined n (hatch_row hs litres)) (hatch_row hs litres n),
        rows_to n,
        row_long n,
      )

  pub rows_long : {count : ℕ} → count ≡ named_below hs.named most_hatches → length (hatch_rows hs litres) ≡ count * inflow_kind.width
  unfolding hatch_rows
  rows_long e = rows_to most_hatches ∙ ap (λ (k : ℕ). k * inflow_kind.width) (sym e)

  -- ---- one row

  pub row_named : (h : ℕ) → get_or hs.named h false ≡ true →
      hatch_row hs litres h ≡ get_or hs.rows h 0 ∷ get_or hs.columns h 0 ∷ 0 ∷ last_clock ∷ get_or litres h 0 ∷ []
  unfolding hatch_row
  row_named h e = pick_true _ _ e

  pub row_put : (h : ℕ) {at : ℕ} {table new : List ℕ} → get_or hs.named h false ≡ true →
      new ≡ placed table at (get_or hs.rows h 0 ∷ get_or hs.columns h 0 ∷ 0 ∷ last_clock ∷ get_or litres h 0 ∷ []) →
      Wrote (hatch_row hs litres h) at table new (at + inflow_kind.width)
  row_put h {at} {table} {new} e w =
      subst (λ (t : List ℕ). Wrote t at table new (at + inflow_kind.width)) (sym (row_named h e)) (record { next = refl; room = w })

  pub row_none : (h : ℕ) {at : ℕ} {table : List ℕ} → get_or hs.named h false ≡ false → Wrote (hatch_row hs litres h) at table table at
  unfolding hatch_row
  row_none h {at} {table} e =
      subst (λ (t : List ℕ). Wrote t at table table at) (sym (pick_false _ _ e))
      (record { next = omega arith; room = sym (placed_none table at) })

  -- ---- one after the other

  rows_within : (n i : ℕ) → i ≤ n → length (joined i (hatch_row hs litres)) ≤ length (joined n (hatch_row hs litres))
  unfolding joined
  rows_within zero i h = subst (λ (k : ℕ). length (joined k (hatch_row hs litres)) ≤ length (joined zero (hatch_row hs litres))) (let e : 0 ≡ i = omega arith in e) (le_refl _)
  rows_within (suc n) i h =
      by_lt i (suc n) (λ l. omega (arith, length-append (joined n (hatch_row hs litres)) (hatch_row hs litres n), rows_within n i (omega arith)))
      (λ l. subst (λ (k : ℕ). length (joined k (hatch_row hs litres)) ≤ length (joined (suc n) (hatch_row hs litres))) (let e : suc n ≡ i = omega arith in e) (le_refl _))

  pub rows_first : (at : ℕ) (table : List ℕ) → Wrote (joined 0 (hatch_row hs litres)) at table table at
  rows_first at table =
      record {
        next = omega (arith, ap length (joined_none (hatch_row hs litres)));
        room = sym (ap (placed table at) (joined_none (hatch_row hs litres)) ∙ placed_none table at);
      }

  module _ (at : ℕ) (old : List ℕ) (fits : at + length (hatch_rows hs litres) ≤ length old) where
    so_far : (i : ℕ) → i ≤ most_hatches → at + length (joined i (hatch_row hs litres)) ≤ length old
    unfolding hatch_rows
    so_far i l = omega (arith, fits, rows_within most_hatches i l)

    next_fits : (i : ℕ) → i < most_hatches → at + length (joined i (hatch_row hs litres)) + length (hatch_row hs litres i) ≤ length old
    next_fits i l =
        omega (
          arith,
          so_far (i + 1) (omega arith),
          ap length (joined_more i (hatch_row hs litres)),
          length-append (joined i (hatch_row hs litres)) (hatch_row hs litres i),
        )

    module _ (i : ℕ) {room : List ℕ} {next : ℕ} (w : Wrote (joined i (hatch_row hs litres)) at old room next) where
      pub rows_room : i ≤ most_hatches → length room ≡ length old
      rows_room l = wrote_length (so_far i l) w

      pub row_fits : i < most_hatches → next + length (hatch_row hs litres i) ≤ length room
      row_fits l = omega (arith, w.next, next_fits i l, rows_room (omega arith))

      pub row_written :
          {new : List ℕ} {r : ℕ} → i < most_hatches → Wrote (hatch_row hs litres i) next room new r →
          Wrote (joined (i + 1) (hatch_row hs litres)) at old new r
      row_written {new} {r} l v =
          subst (λ (t : List ℕ). Wrote t at old new r) (sym (joined_more i (hatch_row hs litres))) (wrote_both (next_fits i l) w v)

      pub rows_written : i ≡ most_hatches → Wrote (hatch_rows hs litres) at old room next
      unfolding hatch_rows
      rows_written e = subst (λ (k : ℕ). Wrote (joined k (hatch_row hs litres)) at old room next) e w

-- ---- the whole table

module _ (inflow : List ℕ) (hs : Hatches) (litres : List ℕ) where
  pub table_written :
      {old mid new : List ℕ} {r : ℕ} → length inflow + length (hatch_rows hs litres) ≤ length old → mid ≡ placed old 0 inflow →
      Wrote (hatch_rows hs litres) (length inflow) mid new r → Wrote (table_with inflow hs litres) 0 old new r
  table_written {old} {mid} h e w =
      let first : Wrote inflow 0 old mid (length inflow) = record { next = omega arith; room = e } in
      wrote_both (omega arith) first w

  pub table_is : {old new : List ℕ} {r : ℕ} → Wrote (table_with inflow hs litres) 0 old new r → take r new ≡ table_with inflow hs litres
  table_is {old} {new} {r} w =
      ap (take r) w.room ∙ take_put old (table_with inflow hs litres) r (omega (arith, w.next))

  pub table_next : {old new : List ℕ} {r : ℕ} → Wrote (table_with inflow hs litres) 0 old new r → r ≡ length inflow + length (hatch_rows hs litres)
  table_next w = omega (arith, w.next, length-append inflow (hatch_rows hs litres))

  pub table-room : {old new : List ℕ} {r : ℕ} → length inflow + length (hatch_rows hs litres) ≤ length old → Wrote (table_with inflow hs litres) 0 old new r → length new ≡ length old
  table-room h w = wrote_length (omega (arith, length-append inflow (hatch_rows hs litres))) w
