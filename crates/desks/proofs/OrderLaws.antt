-- Laws of a line that was read: the fields as they are handed back are those of the reading, and the kinds are tried in their order.
-- Assumes nothing.
use mathlib.Core.Path.{◌≡◌, refl, sym, ap, ◌∙◌}
use mathlib.Core.Bool.{true, false}
use mathlib.Core.List.{List}
use Prim.Native.Nat.{ℕ}
use Rattle.std.proofs.Common.{Option, Some, None, is_some}
use lib.ListN.{length}
use borrow.Author.Tests.{eq-eqb, ne_eqb}
use Rattle.reckon.specs.Tests.{pick}
use Rattle.reckon.proofs.TestLaws.{not_both, pick_true, pick_false}
use Rattle.text.specs.Reading.{Reading, as_fields, padded, read_line}
use Rattle.text.specs.Reading.Reading.{read, unread}
use Rattle.text.specs.declared.reading.Fields.{Fields}
use Rattle.desks.specs.Orders.{to_the_end, read_whole, order_from}
use Rattle.desks.specs.declared.orders.Order.{Order}

abbrev next_or : Option Fields → ℕ
next_or (Some f) = f.next
next_or None = 0

-- ---- a line that is the whole text

module _ (s word : List ℕ) (count : ℕ) where
  pub no_line : None ≡ as_fields (read_line s 0 word count) → None ≡ as_fields (read_whole s word count)
  unfolding read_whole as_fields
  no_line e = go (read_line s 0 word count) e
    where
      go : (r : Reading) → None ≡ as_fields r → None ≡ as_fields (to_the_end (length s) r)
      go (read vs q) x = not_both refl (ap is_some (sym x))
      go unread x = refl

  module _ {line : Fields} (e : Some line ≡ as_fields (read_line s 0 word count)) where
    -- it comes to the end
    pub whole_read : line.next ≡ length s → Some line ≡ as_fields (read_whole s word count)
    unfolding read_whole as_fields pick
    whole_read n = go (read_line s 0 word count) e
      where
        go : (r : Reading) → Some line ≡ as_fields r → Some line ≡ as_fields (to_the_end (length s) r)
        go (read vs q) x =
            let z : line.next ≡ q = ap next_or x in
            x ∙ ap as_fields (sym (pick_true _ _ (eq-eqb q (length s) (sym z ∙ n))))
        go unread x = x

    -- or it does not, and nothing is read
    pub not_whole : (line.next ≡ length s → ⊥) → None ≡ as_fields (read_whole s word count)
    unfolding read_whole as_fields pick
    not_whole n = go (read_line s 0 word count) e
      where
        go : (r : Reading) → Some line ≡ as_fields r → None ≡ as_fields (to_the_end (length s) r)
        go (read vs q) x =
            let z : line.next ≡ q = ap next_or x in
            ap as_fields (sym (pick_false _ _ (ne_eqb q (length s) (λ y. n (z ∙ y)))))
        go unread x = refl

-- ---- a reading as it is handed back: the first three fields, and none past them

-- an order made of the fields is that made of the reading's
pub asked : (r : Reading) {f : Fields} → Some f ≡ as_fields r → (make : List ℕ → Order) (other : Order) →
    ((vs : List ℕ) → make (padded vs) ≡ make vs) → make f.values ≡ order_from r make other
unfolding as_fields
asked (read vs q) {f} x make other same = let z : f ≡ record { values = padded vs; next = q } = cc in ap (λ (g : Fields). make g.values) z ∙ same vs
asked unread x make other same = not_both refl (ap is_some x)

-- one that has no fields
pub asked_plain : (r : Reading) {o : Option Fields} → o ≡ as_fields r → is_some o ≡ true → (order other : Order) → order ≡ order_from r (λ vs. order) other
unfolding as_fields
asked_plain (read vs q) x t order other = refl
asked_plain unread x t order other = not_both t (ap is_some x)

pub not_asked : (r : Reading) {o : Option Fields} → o ≡ as_fields r → is_some o ≡ false → (make : List ℕ → Order) (other : Order) →
    other ≡ order_from r make other
unfolding as_fields
not_asked (read vs q) x t make other = not_both (ap is_some x) t
not_asked unread x t make other = refl
