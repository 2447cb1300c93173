-- Hatches that are not named hold 0: as a log is opened, through each line that names a hatch or sets a rate, and as a text is read.
-- Assumes nothing.
use mathlib.Core.Path.{◌≡◌, refl, sym, ap, ◌∙◌}
use mathlib.Core.Bool.{Bool, true, false}
use mathlib.Core.List.{List}
use Prim.Native.Nat.{ℕ, zero, suc, ◌-◌, ◌≤◌, ◌<◌}
use Rattle.std.proofs.Common.{Option, Some, None}
use native.Mathlib.Omega.{arith}
use lib.ListN.{length, get_or, set, replicate, length-set, length-replicate}
use lib.Seq.{get_or-set_same, get_or-set_other}
use borrow.Author.Tests.{leb-true}
use Rattle.reckon.proofs.TestLaws.{not_both, pick_both, every_each}
use Rattle.ledger.specs.declared.runs.Run.{Run}
use Rattle.text.specs.Reading.{line_of}
use Rattle.text.specs.declared.reading.Fields.{Fields}
use Rattle.hatches.specs.Lines.{hatch_word}
use Rattle.hatches.specs.Log.{most_hatches, is_named, opened, hatch_named}
use Rattle.hatches.specs.declared.log.Hatches.{Hatches}
use Rattle.hatches.specs.declared.log.Log.{Log}
use Rattle.stands.specs.Laying.{hatch_fields, hatch_added, if_hatch, with_hatch, named_from, saved_from, saved_in}
use Rattle.stands.specs.Inner.Back.{Tidy}
use Rattle.stands.specs.declared.naming.Named.{Named}

none_set : {A : Type 0} (n h : ℕ) (d : A) → get_or (replicate n d) h d ≡ d
none_set zero h d = refl
none_set (suc n) zero d = refl
none_set (suc n) (suc h) d = none_set n h d

tidy_none : Tidy (record { named = replicate most_hatches false; rows = replicate most_hatches 0; columns = replicate most_hatches 0 }) (replicate most_hatches 0)
tidy_none =
    record {
      named_long = length-replicate most_hatches false;
      rows_long = length-replicate {A = ℕ} most_hatches 0;
      columns_long = length-replicate {A = ℕ} most_hatches 0;
      litres_long = length-replicate {A = ℕ} most_hatches 0;
      no_row = λ h e. none_set {A = ℕ} most_hatches h 0;
      no_column = λ h e. none_set {A = ℕ} most_hatches h 0;
      no_litres = λ h e. none_set {A = ℕ} most_hatches h 0;
    }

pub tidy_opened : (run : Run) → Tidy (opened run).hatches (opened run).litres
tidy_opened run = tidy_none

-- ---- a hatch named

-- another place is not named where it was not, and the place itself is
module _ (named : List Bool) (h : ℕ) (inside : h < length named) (k : ℕ) (e : get_or (set named h true) k false ≡ false) where
  elsewhere : k ≡ h → ⊥
  elsewhere z = not_both (ap (λ (x : ℕ). get_or (set named h true) x false) z ∙ get_or-set_same named h true false inside) e

  unnamed : get_or named k false ≡ false
  unnamed = sym (get_or-set_other named h k true false elsewhere) ∙ e

module _ {hs : Hatches} {litres : List ℕ} (t : Tidy hs litres) (h : ℕ) (inside : h < most_hatches) where
  here : h < length hs.named
  here = omega (arith, t.named_long)

  abbrev added : ℕ → ℕ → Hatches
  added row column = record { named = set hs.named h true; rows = set hs.rows h row; columns = set hs.columns h column }

  tidy_row : (row column : ℕ) → Tidy (added row column) litres
  tidy_row row column =
      record {
        named_long = length-set hs.named h true ∙ t.named_long;
        rows_long = length-set hs.rows h row ∙ t.rows_long;
        columns_long = length-set hs.columns h column ∙ t.columns_long;
        litres_long = t.litres_long;
        no_row = λ k e. get_or-set_other hs.rows h k row 0 (elsewhere hs.named h here k e) ∙ t.no_row k (unnamed hs.named h here k e);
        no_column = λ k e. get_or-set_other hs.columns h k column 0 (elsewhere hs.named h here k e) ∙ t.no_column k (unnamed hs.named h here k e);
        no_litres = λ k e. t.no_litres k (unnamed hs.named h here k e);
      }

  -- ---- a rate set, of a hatch that is named

  tidy_rate : (rate : ℕ) → get_or hs.named h false ≡ true → Tidy hs (set litres h rate)
  tidy_rate rate n =
      record {
        named_long = t.named_long;
        rows_long = t.rows_long;
        columns_long = t.columns_long;
        litres_long = length-set litres h rate ∙ t.litres_long;
        no_row = t.no_row;
        no_column = t.no_column;
        no_litres = λ k e. get_or-set_other litres h k rate 0 (λ z. not_both n (ap (λ (x : ℕ). get_or hs.named x false) (sym z) ∙ e)) ∙ t.no_litres k e;
      }

pub tidy_named : (log : Log) (n row column : ℕ) → 1 ≤ n → n ≤ most_hatches → Tidy log.hatches log.litres →
    Tidy (hatch_named log n row column).hatches (hatch_named log n row column).litres
tidy_named log n row column h k t = tidy_row t (n - 1) (omega arith) row column

pub tidy_drawn : (hs : Hatches) (litres : List ℕ) (n rate : ℕ) → is_named hs n ≡ true → Tidy hs litres → Tidy hs (set litres (n - 1) rate)
unfolding is_named
tidy_drawn hs litres n rate e t =
    let u = every_each _ e in
    let low : 1 ≤ n = leb-true _ _ u.0 in
    let high : n ≤ most_hatches = leb-true _ _ u.1.0 in
    tidy_rate t (n - 1) (omega arith) rate u.1.1.0

-- ---- as a text is read

tidy_added : (n : Named) (h : ℕ) (f : Fields) → h < most_hatches → Tidy n.hatches n.litres → Tidy (hatch_added n h f).hatches (hatch_added n h f).litres
tidy_added n h f l t =
    tidy_rate (tidy_row t h l (get_or f.values 1 0) (get_or f.values 2 0)) h l (get_or f.values 3 0)
    (get_or-set_same n.hatches.named h true false (omega (arith, t.named_long)))

tidy_with : (s : List ℕ) (n : Named) (h : ℕ) → h < most_hatches → Tidy n.hatches n.litres → Tidy (with_hatch s n h).hatches (with_hatch s n h).litres
unfolding with_hatch if_hatch
tidy_with s n h l t =
    go (line_of s n.next hatch_word hatch_fields)
  where
    go : (f : Option Fields) → Tidy (if_hatch n h f).hatches (if_hatch n h f).litres
    go (Some f) = pick_both (λ (m : Named). Tidy m.hatches m.litres) _ (tidy_added n h f l t) t
    go None = t

named_tidy : (s : List ℕ) (q h : ℕ) → h ≤ most_hatches → Tidy (named_from s q h).hatches (named_from s q h).litres
unfolding named_from
named_tidy s q zero l = tidy_none
named_tidy s q (suc h) l = tidy_with s (named_from s q h) h (omega arith) (named_tidy s q h (omega arith))

pub laid_tidy : (slots : ℕ) (s : List ℕ) → Tidy (saved_in slots s).log.hatches (saved_in slots s).log.litres
unfolding saved_from
laid_tidy slots s = named_tidy s _ most_hatches (omega arith)
