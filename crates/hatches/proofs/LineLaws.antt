-- Laws of a line that was read: the fields as they are handed back are those of the reading.
-- Assumes nothing.
use mathlib.Core.Path.{◌≡◌, refl, sym, ap, ◌∙◌}
use mathlib.Core.List.{List, [], ◌∷◌}
use Prim.Native.Nat.{ℕ}
use lib.ListN.{get_or}
use Rattle.reckon.specs.Lists.{tabulate}
use Rattle.reckon.proofs.TestLaws.{not_both}
use Rattle.text.specs.Reading.{Reading, as_fields, padded, before, with_number, number_at, read_rest, read_line}
use Rattle.text.specs.Reading.Reading.{read, unread}
use Rattle.text.specs.declared.reading.Fields.{Fields}
use Rattle.text.specs.declared.reading.Number.{Number}
use Rattle.std.proofs.Common.{Option, Some, None, is_some, unwrap_or}
use Rattle.hatches.specs.Lines.{hatch_word, hatch_fields, back_word, back_fields, rate_fields, as_hatch, as_back, as_rate, read_rate, entry_from, unread_at, log_line}
use Rattle.hatches.specs.Inner.Lines.{handed}
use Rattle.hatches.specs.declared.lines.Entry.{Entry}
use Rattle.hatches.specs.declared.lines.Entry.TheVariants.{Hatch, Rate, Back}
use Rattle.hatches.specs.declared.lines.LogLine.{LogLine}

abbrev line : Entry → ℕ → LogLine
line entry next = record { entry = Some entry; next = next }

-- ---- a reading as it is handed back

hatch_read : (r : Reading) (other : LogLine) {f : Fields} → Some f ≡ as_fields r →
    line (Hatch (get_or f.values 0 0) (get_or f.values 1 0) (get_or f.values 2 0)) f.next ≡ entry_from r as_hatch other
unfolding as_fields padded tabulate
hatch_read (read vs q) other {f} e = let z : f ≡ record { values = padded vs; next = q } = cc in rw z
hatch_read unread other e = not_both refl (ap is_some e)

back_read : (r : Reading) (other : LogLine) {f : Fields} → Some f ≡ as_fields r →
    line (Back (get_or f.values 0 0)) f.next ≡ entry_from r as_back other
unfolding as_fields padded tabulate
back_read (read vs q) other {f} e = let z : f ≡ record { values = padded vs; next = q } = cc in rw z
back_read unread other e = not_both refl (ap is_some e)

not-read : (r : Reading) (make : List ℕ → Entry) (other : LogLine) → None ≡ as_fields r → entry_from r make other ≡ other
unfolding as_fields
not-read (read vs q) make other e = not_both refl (ap is_some (sym e))
not-read unread make other e = refl

-- ---- a rate's line

module _ (s : List ℕ) (p : ℕ) where
  pub rate_none : None ≡ number_at s p → None ≡ handed (read_rate s p) as_rate
  unfolding read_rate
  rate_none e = ap (λ (n : Option Number). handed (with_number n unread (λ clock q. before (clock ∷ []) (read_rest s q rate_fields))) as_rate) e

  module _ {n : Number} (e : Some n ≡ number_at s p) where
    rest_of : read_rate s p ≡ before (n.value ∷ []) (read_rest s n.next rate_fields)
    unfolding read_rate
    rest_of = sym (ap (λ (n : Option Number). with_number n unread (λ clock q. before (clock ∷ []) (read_rest s q rate_fields))) e)

    pub rate_unread : None ≡ as_fields (read_rest s n.next rate_fields) → None ≡ handed (read_rate s p) as_rate
    unfolding as_fields before
    rate_unread h = sym (ap (λ (r : Reading). handed r as_rate) rest_of ∙ go (read_rest s n.next rate_fields) h)
      where
        go : (r : Reading) → None ≡ as_fields r → handed (before (n.value ∷ []) r) as_rate ≡ None
        go (read vs k) z = not_both refl (ap is_some (sym z))
        go unread z = refl

    pub rate_read : {f : Fields} → Some f ≡ as_fields (read_rest s n.next rate_fields) →
        Some (line (Rate n.value (get_or f.values 0 0) (get_or f.values 1 0)) f.next) ≡ handed (read_rate s p) as_rate
    unfolding as_fields before padded tabulate
    rate_read {f} h = go (read_rest s n.next rate_fields) h ∙ sym (ap (λ (r : Reading). handed r as_rate) rest_of)
      where
        go : (r : Reading) → Some f ≡ as_fields r →
            Some (line (Rate n.value (get_or f.values 0 0) (get_or f.values 1 0)) f.next) ≡ handed (before (n.value ∷ []) r) as_rate
        go (read vs k) z = let y : f ≡ record { values = padded vs; next = k } = cc in rw y
        go unread z = not_both refl (ap is_some z)

  -- ---- the three kinds in their order

  pub line_hatch : {f : Fields} → Some f ≡ as_fields (read_line s p hatch_word hatch_fields) →
      line (Hatch (get_or f.values 0 0) (get_or f.values 1 0) (get_or f.values 2 0)) f.next ≡ log_line s p
  unfolding log_line
  line_hatch e = hatch_read (read_line s p hatch_word hatch_fields) _ e

  module _ (n : None ≡ as_fields (read_line s p hatch_word hatch_fields)) where
    pub line-back : {b : Fields} → Some b ≡ as_fields (read_line s p back_word back_fields) →
        line (Back (get_or b.values 0 0)) b.next ≡ log_line s p
    unfolding log_line
    line-back h =
        back_read (read_line s p back_word back_fields) _ h ∙ sym (not-read (read_line s p hatch_word hatch_fields) as_hatch _ n)

    pub line_rate : None ≡ as_fields (read_line s p back_word back_fields) → {r : Option LogLine} → r ≡ handed (read_rate s p) as_rate →
        unwrap_or r (unread_at p) ≡ log_line s p
    unfolding log_line
    line_rate t q =
        ap (λ (x : Option LogLine). unwrap_or x (unread_at p)) q
        ∙ (go (read_rate s p)
        ∙ (sym (not-read (read_line s p back_word back_fields) as_back _ t)
        ∙ sym (not-read (read_line s p hatch_word hatch_fields) as_hatch _ n)))
      where
        go : (r : Reading) → unwrap_or (handed r as_rate) (unread_at p) ≡ entry_from r as_rate (unread_at p)
        go (read vs k) = refl
        go unread = refl
