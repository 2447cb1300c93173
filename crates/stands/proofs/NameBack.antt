-- The hatches' lines read back as they are put.
-- Assumes nothing.
use mathlib.Core.Path.{◌≡◌, refl, sym, ap, subst, ◌∙◌}
use mathlib.Core.Bool.{Bool, true, false}
use mathlib.Core.List.{List, [], ◌∷◌}
use Prim.Native.Nat.{ℕ, zero, suc, ◌+◌, ◌-◌, ◌≤◌, ◌<◌}
use native.Mathlib.Nat.{add-zero, not-suc-le-zero}
use native.Mathlib.Decide.{ℕ_discrete}
use Rattle.std.proofs.Common.{Some, None}
use native.Mathlib.Omega.{arith}
use lib.ListN.{length, get_or, set, replicate, length-set, length-replicate, get_or-replicate, length-append}
use lib.Seq.{ext_get_or, get_or-set_same, get_or-set_other}
use Rattle.reckon.specs.Lists.{tabulate, joined}
use Rattle.reckon.proofs.TestLaws.{pick_true, pick_false}
use Rattle.text.specs.Reading.{most_number, padded, as_fields, line_of, word_at, read_line}
use Rattle.text.specs.Reading.Reading.{read}
use Rattle.text.specs.Writing.{line_text}
use Rattle.text.specs.Inner.Standing.{StandsAt}
use Rattle.text.specs.declared.reading.Fields.{Fields}
use Rattle.text.proofs.JoinedLaws.{joined_stands}
use Rattle.text.proofs.ReadingLaws.{by_test}
use Rattle.hatches.specs.Lines.{hatch_word}
use Rattle.hatches.specs.Log.{most_hatches}
use Rattle.hatches.specs.declared.log.Hatches.{Hatches}
use Rattle.stands.specs.Texts.{hatch_text, hatches_text}
use Rattle.stands.specs.Laying.{hatch_fields, with_hatch, named_from}
use Rattle.stands.specs.Inner.Back.{Tidy}
use Rattle.stands.specs.declared.naming.Named.{Named}
use Rattle.stands.proofs.HeadBack.{line_read}
use Rattle.stands.proofs.NameLaws.{hatch_unfound, hatch_other, hatch_here}

-- ---- a list of nine that is filled from the front

record Upto {A : Type 0} (d : A) (full : List A) (h : ℕ) (l : List A) : Type 0 where
  long : length l ≡ most_hatches
  done : (k : ℕ) → k < h → get_or l k d ≡ get_or full k d
  left : (k : ℕ) → h ≤ k → k < most_hatches → get_or l k d ≡ d

module _ {A : Type 0} (d : A) (full : List A) where
  upto_none : Upto d full 0 (replicate most_hatches d)
  upto_none =
      record {
        long = length-replicate most_hatches d;
        done = λ k l. absurd (not-suc-le-zero l);
        left = λ k h l. get_or-replicate most_hatches k d d l;
      }

  module _ (h : ℕ) (inside : h < most_hatches) {l : List A} (u : Upto d full h l) where
    upto_set : (v : A) → v ≡ get_or full h d → Upto d full (suc h) (set l h v)
    upto_set v e =
        record {
          long = length-set l h v ∙ u.long;
          done = λ k b. done_at k b (ℕ_discrete k h);
          left = λ k b m. get_or-set_other l h k v d (λ z. omega (arith, z)) ∙ u.left k (omega arith) m;
        }
      where
        done_at : (k : ℕ) → k < suc h → Dec (k ≡ h) → get_or (set l h v) k d ≡ get_or full k d
        done_at k b (yes z) = rw z (get_or-set_same l h v d (omega (arith, u.long)) ∙ e)
        done_at k b (no z) = get_or-set_other l h k v d z ∙ u.done k (omega arith)

    upto_keep : get_or full h d ≡ d → Upto d full (suc h) l
    upto_keep e =
        record { long = u.long; done = λ k b. done_at k b (ℕ_discrete k h); left = λ k b m. u.left k (omega arith) m }
      where
        done_at : (k : ℕ) → k < suc h → Dec (k ≡ h) → get_or l k d ≡ get_or full k d
        done_at k b (yes z) = rw z (u.left h (omega arith) inside ∙ sym e)
        done_at k b (no z) = u.done k (omega arith)

  upto_all : {l : List A} → length full ≡ most_hatches → Upto d full most_hatches l → l ≡ full
  upto_all {l} e u = ext_get_or d l full (u.long ∙ sym e) (λ k b. u.done k (omega (arith, b, u.long)))

-- ---- the line at a place

-- it does not name the hatch of place h
data Other (s : List ℕ) (x h : ℕ) : Type 0 where
  unfound : None ≡ line_of s x hatch_word hatch_fields → Other s x h
  another : {f : Fields} → Some f ≡ line_of s x hatch_word hatch_fields → (get_or f.values 0 0 ≡ h + 1 → ⊥) → Other s x h

other_kept : (s : List ℕ) (n : Named) (h : ℕ) → Other s n.next h → with_hatch s n h ≡ n
other_kept s n h (unfound e) = sym (hatch_unfound s n h e)
other_kept s n h (another t d) = sym (hatch_other s n h t d)

no_word : (s : List ℕ) (x h : ℕ) → word_at s x hatch_word ≡ false → Other s x h
unfolding read_line as_fields
no_word s x h e = unfound (sym (ap as_fields (pick_false _ _ e)))

-- ---- all nine

abbrev hatches_of : List Bool → List ℕ → List ℕ → Hatches
hatches_of named rows columns = record { named = named; rows = rows; columns = columns }

same_hatches : {a b : List Bool} {c d e g : List ℕ} → a ≡ b → c ≡ d → e ≡ g →
    hatches_of a c e ≡ hatches_of b d g
same_hatches h i j = cc

module _ (hs : Hatches) (litres : List ℕ) (tidy : Tidy hs litres)
    (small : (h : ℕ) → h < most_hatches → get_or hs.named h false ≡ true → (get_or hs.rows h 0 ≤ most_number) × (get_or hs.columns h 0 ≤ most_number) × (get_or litres h 0 ≤ most_number)) where
  abbrev f : ℕ → List ℕ
  f = hatch_text hs litres

  abbrev numbers : ℕ → List ℕ
  numbers h = (h + 1) ∷ get_or hs.rows h 0 ∷ get_or hs.columns h 0 ∷ get_or litres h 0 ∷ []

  none_text : (h : ℕ) → get_or hs.named h false ≡ false → f h ≡ []
  unfolding hatch_text
  none_text h e = pick_false _ _ e

  named_text : (h : ℕ) → get_or hs.named h false ≡ true → f h ≡ line_text hatch_word (numbers h)
  unfolding hatch_text
  named_text h e = pick_true _ _ e

  module _ {s : List ℕ} {q r : ℕ} (stands : StandsAt s q (hatches_text hs litres) r) (after : word_at s r hatch_word ≡ false) where
    abbrev at : ℕ → ℕ
    at h = q + length (joined h f)

    whole : StandsAt s q (joined most_hatches f) r
    unfolding hatches_text
    whole = stands

    line-at : (h : ℕ) → h < most_hatches → get_or hs.named h false ≡ true → line_of s (at h) hatch_word hatch_fields ≡ as_fields (read (numbers h) (at (suc h)))
    line-at h l e =
        let low = small h l e in
        line_read hatch_word (numbers h) (omega arith, (low.0, (low.1, (low.2, tt))))
        (subst (λ (t : List ℕ). StandsAt s (at h) t (at (suc h))) (named_text h e) (joined_stands most_hatches f whole h l))

    same_place : (h : ℕ) → get_or hs.named h false ≡ false → at (suc h) ≡ at h
    unfolding joined
    same_place h e = omega (arith, length-append (joined h f) (f h), ap length (none_text h e))

    -- what stands after a place names a later one, or no hatch
    later : (left j h : ℕ) → left + j ≡ most_hatches → h < j → Other s (at j) h
    unfolding as_fields padded tabulate
    later zero j h e l =
        let z : j ≡ most_hatches = omega (arith, e) in
        no_word s (at j) h (ap (λ (x : ℕ). word_at s x hatch_word) (ap at z ∙ sym whole.after) ∙ after)
    later (suc left) j h e l =
        by_test (get_or hs.named j false)
        (λ t.
        let here = line-at j (omega (arith, e)) t in
        another (sym here) (λ z. omega (arith, z)))
        (λ t. subst (λ (x : ℕ). Other s x h) (same_place j t) (later left (suc j) h (omega (arith, e)) (omega arith)))

    record Places (h : ℕ) (n : Named) : Type 0 where
      named : Upto false hs.named h n.hatches.named
      rows : Upto 0 hs.rows h n.hatches.rows
      columns : Upto 0 hs.columns h n.hatches.columns
      rates : Upto 0 litres h n.litres
      next_is : n.next ≡ at h

    module _ (h : ℕ) (l : h < most_hatches) (n : Named) (u : Places h n) where
      gone : get_or hs.named h false ≡ false → Places (suc h) (with_hatch s n h)
      gone e =
          subst (λ (m : Named). Places (suc h) m)
          (sym (other_kept s n h (subst (λ (x : ℕ). Other s x h) (same_place h e ∙ sym u.next_is) (rest l))))
          (record {
            named = upto_keep false hs.named h l u.named e;
            rows = upto_keep 0 hs.rows h l u.rows (tidy.no_row h e);
            columns = upto_keep 0 hs.columns h l u.columns (tidy.no_column h e);
            rates = upto_keep 0 litres h l u.rates (tidy.no_litres h e);
            next_is = u.next_is ∙ sym (same_place h e);
          })
        where
          rest : h < most_hatches → Other s (at (suc h)) h
          rest b = later (most_hatches - suc h) (suc h) h (omega arith) (omega arith)

      here : get_or hs.named h false ≡ true → Places (suc h) (with_hatch s n h)
      unfolding as_fields padded tabulate
      here e =
          let line : as_fields (read (numbers h) (at (suc h))) ≡ line_of s n.next hatch_word hatch_fields =
          sym (ap (λ (x : ℕ). line_of s x hatch_word hatch_fields) u.next_is ∙ line-at h l e) in
          subst (λ (m : Named). Places (suc h) m) (hatch_here s n h line refl)
          (record {
            named = upto_set false hs.named h l u.named true (sym e);
            rows = upto_set 0 hs.rows h l u.rows (get_or hs.rows h 0) refl;
            columns = upto_set 0 hs.columns h l u.columns (get_or hs.columns h 0) refl;
            rates = upto_set 0 litres h l u.rates (get_or litres h 0) refl;
            next_is = refl;
          })

    places : (h : ℕ) → h ≤ most_hatches → Places h (named_from s q h)
    unfolding named_from joined
    places zero b =
        record {
          named = upto_none false hs.named;
          rows = upto_none 0 hs.rows;
          columns = upto_none 0 hs.columns;
          rates = upto_none 0 litres;
          next_is = sym (add-zero q);
        }
    places (suc h) b =
        let u = places h (omega arith) in
        by_test (get_or hs.named h false) (here h (omega arith) (named_from s q h) u) (gone h (omega arith) (named_from s q h) u)

    pub named_back : (named_from s q most_hatches).hatches ≡ hs
    named_back =
        let u = places most_hatches (omega arith) in
        same_hatches (upto_all false hs.named tidy.named_long u.named) (upto_all 0 hs.rows tidy.rows_long u.rows) (upto_all 0 hs.columns tidy.columns_long u.columns)

    pub rates-back : (named_from s q most_hatches).litres ≡ litres
    rates-back = upto_all 0 litres tidy.litres_long (places most_hatches (omega arith)).rates

    pub next_back : (named_from s q most_hatches).next ≡ r
    next_back = (places most_hatches (omega arith)).next_is ∙ sym whole.after
