-- Laws of reading at a position, for the loops and returns of the readers: each says what one byte more tells.
-- Assumes nothing.
use mathlib.Core.Path.{◌≡◌, refl, sym, ap, ap₂, ◌∙◌}
use mathlib.Core.Bool.{Bool, true, false, ◌&&◌}
use mathlib.Core.List.{List, [], ◌∷◌, ◌++◌, append_assoc, append-nil}
use Prim.Native.Nat.{ℕ, suc, ◌+◌, ◌-◌, ◌*◌, ◌≤◌, ◌<◌}
use native.Mathlib.Nat.{sub-zero, add-zero}
use native.Mathlib.Numerals.{add-one}
use native.Mathlib.Decide.{ℕ_discrete}
use native.Mathlib.Omega.{arith}
use Rattle.std.proofs.Common.{Option, Some, None}
use lib.Dec.{eqb, ltb, leb}
use lib.ListN.{length, get_or, set, drop, length-set, length-append, drop_of_length-le, get_or-eq_default, get_or-append}
use lib.Seq.{drop-cons, get_or-set_same, get_or-set_other, get_or-append_seam}
use borrow.Author.Tests.{lt-ltb, le-ltb, le-leb, lt-leb, eq-eqb, ne_eqb, ltb-true, ltb-false, leb-true, eqb-true}
use Rattle.reckon.specs.Tests.{all_below}
use Rattle.reckon.proofs.TestLaws.{not_both, pick_true, pick_false, and_left, and_right, and_both, and_false, all_fails}
use Rattle.reckon.proofs.ListLaws.{length-tabulate, get_or-tabulate, is_tabulate}
use Rattle.text.specs.Reading.{newline, most_number, most_fields, is_byte, same_at, word_at, is_digit, digits_of, value_from, well_formed, number, number_from, number_at, field_at, Reading, before, with_number, read_fields, line_ended, padded, as_fields}
use Rattle.text.specs.Reading.Reading.{read, unread}
use Rattle.text.specs.declared.reading.Number.{Number}
use Rattle.text.specs.declared.reading.Fields.{Fields}

-- ---- two cases

pub by_test : {A : Type 0} (b : Bool) → (b ≡ true → A) → (b ≡ false → A) → A
by_test true f g = f refl
by_test false f g = g refl

pub by_lt : {A : Type 0} (m n : ℕ) → (m < n → A) → (n ≤ m → A) → A
by_lt m n f g = by_test (ltb m n) (λ e. f (ltb-true m n e)) (λ e. g (ltb-false m n e))

-- ---- bytes and words

module _ (s : List ℕ) (p b : ℕ) where
  pub byte_past : length s ≤ p → is_byte s p b ≡ false
  unfolding is_byte
  byte_past h = rw (le-ltb p (length s) h)

  pub byte_here : p < length s → is_byte s p b ≡ eqb (get_or s p 0) b
  unfolding is_byte
  byte_here h = rw (lt-ltb p (length s) h)

  pub byte_within : is_byte s p b ≡ true → p < length s
  unfolding is_byte
  byte_within e = ltb-true p (length s) (and_left _ _ e)

  pub byte_same : is_byte s p b ≡ true → get_or s p 0 ≡ b
  unfolding is_byte
  byte_same e = eqb-true (get_or s p 0) b (and_right (ltb p (length s)) _ e)

module _ (s : List ℕ) (p : ℕ) (word : List ℕ) where
  pub word_past : length s < p + length word → word_at s p word ≡ false
  unfolding word_at
  word_past h = rw (lt-leb _ _ h)

  pub word_differs : (i : ℕ) → i < length word → (get_or s (p + i) 0 ≡ get_or word i 0 → ⊥) → word_at s p word ≡ false
  unfolding word_at
  word_differs i h d =
      and_false (leb (p + length word) (length s)) _ (all_fails (length word) (same_at s p word) i h (ne_eqb _ _ d))

  pub word_same : p + length word ≤ length s → all_below (length word) (same_at s p word) ≡ true → word_at s p word ≡ true
  unfolding word_at
  word_same h e = and_both _ _ (le-leb _ _ h) e

  pub word_within : word_at s p word ≡ true → p + length word ≤ length s
  unfolding word_at
  word_within e = leb-true _ _ (and_left _ _ e)

  pub word_all : word_at s p word ≡ true → all_below (length word) (same_at s p word) ≡ true
  unfolding word_at
  word_all e = and_right (leb (p + length word) (length s)) _ e

-- ---- digits

module _ (b : ℕ) where
  pub digit_is : 48 ≤ b → b ≤ 57 → is_digit b ≡ true
  unfolding is_digit
  digit_is h g = and_both _ _ (le-leb 48 b h) (le-leb b 57 g)

  pub digit_under : b < 48 → is_digit b ≡ false
  unfolding is_digit
  digit_under h = rw (lt-leb 48 b h)

  pub digit-leb : 48 ≤ b → is_digit b ≡ leb b 57
  unfolding is_digit
  digit-leb h = rw (le-leb 48 b h)

  pub digit_low : is_digit b ≡ true → 48 ≤ b
  unfolding is_digit
  digit_low e = leb-true 48 b (and_left _ _ e)

  pub digit_high : is_digit b ≡ true → b ≤ 57
  unfolding is_digit
  digit_high e = leb-true b 57 (and_right (leb 48 b) _ e)

module _ (s : List ℕ) (p : ℕ) where
  pub digit_past : length s ≤ p → is_digit (get_or s p 0) ≡ false
  digit_past h = digit_under (get_or s p 0) (omega (arith, get_or-eq_default s 0 h))

  pub digit-within : is_digit (get_or s p 0) ≡ true → p < length s
  digit-within e = by_lt p (length s) (λ l. l) (λ l. not_both e (digit_past l))

  pub digits_here : is_digit (get_or s p 0) ≡ true → digits_of (drop p s) ≡ (get_or s p 0 - 48) ∷ digits_of (drop (p + 1) s)
  unfolding digits_of
  digits_here e = rw (drop-cons s p 0 (digit-within e), add-one) (pick_true _ _ e)

  pub digits_end : is_digit (get_or s p 0) ≡ false → digits_of (drop p s) ≡ []
  unfolding digits_of
  digits_end e =
      by_lt p (length s) (λ l. rw (drop-cons s p 0 l) (pick_false _ _ e)) (λ l. rw (drop_of_length-le s l))

pub value_grows : (ds : List ℕ) (n : ℕ) → n ≤ value_from n ds
unfolding value_from
value_grows [] n = omega arith
value_grows (d ∷ ds) n = omega (arith, value_grows ds (n * 10 + d))

-- the digits from `at` up to p made value
pub record Counted (s : List ℕ) (at value p : ℕ) : Type 0 where
  pub small : value ≤ most_number
  pub worth : value_from 0 (digits_of (drop at s)) ≡ value_from value (digits_of (drop p s))
  pub place : at + length (digits_of (drop at s)) ≡ p + length (digits_of (drop p s))

pub counted_none : (s : List ℕ) (at : ℕ) → Counted s at 0 at
counted_none s at = record { small = omega arith; worth = refl; place = refl }

module _ {s : List ℕ} {at value p : ℕ} (k : Counted s at value p) where
  pub counted-end : is_digit (get_or s p 0) ≡ false → number_from (digits_of (drop at s)) at ≡ number value p
  unfolding number_from value_from
  counted-end e =
      let w : value_from 0 (digits_of (drop at s)) ≡ value = k.worth ∙ rw (digits_end s p e) in
      let q : at + length (digits_of (drop at s)) ≡ p = k.place ∙ (rw (digits_end s p e) (add-zero p)) in
      rw (w, q) (pick_true _ _ (le-leb value most_number k.small))

  module _ (d : ℕ) (e : is_digit (get_or s p 0) ≡ true) (is : d + 48 ≡ get_or s p 0) where
    one_more : value_from 0 (digits_of (drop at s)) ≡ value_from (value * 10 + d) (digits_of (drop (p + 1) s))
    unfolding value_from
    one_more =
        let z : get_or s p 0 - 48 ≡ d = omega arith in
        k.worth ∙ rw (digits_here s p e, z)

    pub counted_over : most_number < value * 10 + d → number_from (digits_of (drop at s)) at ≡ None
    unfolding number_from
    counted_over h =
        pick_false _ _
        (lt-leb (value_from 0 (digits_of (drop at s))) most_number
        (omega (arith, one_more, value_grows (digits_of (drop (p + 1) s)) (value * 10 + d))))

    pub counted_more : value * 10 + d ≤ most_number → Counted s at (value * 10 + d) (p + 1)
    counted_more h =
        record {
          small = h;
          worth = one_more;
          place = k.place ∙ (rw (digits_here s p e) (omega arith));
        }

-- ---- a number: its first byte, and the one after a 0, decide whether it is well formed

pub first_many : (d : ℕ) (ds : List ℕ) → 1 ≤ d → well_formed (d ∷ ds) ≡ true
unfolding well_formed
first_many d [] h = refl
first_many d (e ∷ ds) h = le-leb 1 d h

module _ (s : List ℕ) (p : ℕ) where
  pub number_none : is_digit (get_or s p 0) ≡ false → number_at s p ≡ None
  unfolding number_at well_formed
  number_none e = pick_false _ _ (rw (digits_end s p e))

  module _ (e : is_digit (get_or s p 0) ≡ true) where
    pub number_zero : (eqb (get_or s p 0) 48 && is_digit (get_or s (p + 1) 0)) ≡ true → number_at s p ≡ None
    unfolding number_at well_formed
    number_zero f =
        let z : get_or s p 0 ≡ 48 = eqb-true _ _ (and_left _ _ f) in
        let g : is_digit (get_or s (p + 1) 0) ≡ true = and_right (eqb (get_or s p 0) 48) _ f in
        pick_false _ _ (rw (digits_here s p e, digits_here s (p + 1) g, z))

    pub number_good :
        (eqb (get_or s p 0) 48 && is_digit (get_or s (p + 1) 0)) ≡ false → number_at s p ≡ number_from (digits_of (drop p s)) p
    unfolding number_at well_formed
    number_good f = pick_true _ _ (rw (digits_here s p e) (good (ℕ_discrete (get_or s p 0) 48)))
      where
        good : Dec (get_or s p 0 ≡ 48) → well_formed ((get_or s p 0 - 48) ∷ digits_of (drop (p + 1) s)) ≡ true
        good (yes z) = rw (digits_end s (p + 1) (rw (eq-eqb _ _ z) at f))
        good (no z) = first_many (get_or s p 0 - 48) (digits_of (drop (p + 1) s)) (omega (arith, digit_low (get_or s p 0) e, z))

-- the number and the position that a number read is made of
pub number_parts : {v q n r : ℕ} → number v q ≡ number n r → (v ≡ n) × (q ≡ r)
number_parts e = (
  ap (λ (x : Option Number). with_number x 0 (λ v q. v)) e,
  ap (λ (x : Option Number). with_number x 0 (λ v q. q)) e,
)

-- ---- fields: those read so far, and those that are left

pub before_none : (r : Reading) → before [] r ≡ r
unfolding before
before_none (read vs q) = refl
before_none unread = refl

pub before_both : (vs ws : List ℕ) (r : Reading) → before vs (before ws r) ≡ before (vs ++ ws) r
unfolding before
before_both vs ws (read us q) = rw append_assoc
before_both vs ws unread = refl

pub before_unread : (vs : List ℕ) → before vs unread ≡ unread
unfolding before
before_unread vs = refl

module _ (s : List ℕ) (p : ℕ) where
  pub fields_none : read_fields s p 0 ≡ read [] p
  unfolding read_fields
  fields_none = refl

  pub fields_stop : (k : ℕ) → field_at s p ≡ None → read_fields s p (suc k) ≡ unread
  unfolding read_fields
  fields_stop k e = rw e

  pub fields_more : (k v q : ℕ) → field_at s p ≡ number v q → read_fields s p (suc k) ≡ before (v ∷ []) (read_fields s q k)
  unfolding read_fields
  fields_more k v q e = rw e

pub length-padded : (vs : List ℕ) → length (padded vs) ≡ most_fields
unfolding padded
length-padded vs = length-tabulate most_fields _

pub get_or-padded : (vs : List ℕ) (i : ℕ) → i < most_fields → get_or (padded vs) i 0 ≡ get_or vs i 0
unfolding padded
get_or-padded vs i h = get_or-tabulate most_fields (λ i. get_or vs i 0) i h

-- a value stored after those there are
pub padded_more : (vs : List ℕ) (v : ℕ) → length vs < most_fields → set (padded vs) (length vs) v ≡ padded (vs ++ (v ∷ []))
unfolding padded
padded_more vs v h =
    is_tabulate most_fields (λ i. get_or (vs ++ (v ∷ [])) i 0) (set (padded vs) (length vs) v)
    (length-set (padded vs) (length vs) v ∙ length-padded vs) (λ i l. at i l (ℕ_discrete i (length vs)))
  where
    at : (i : ℕ) → i < most_fields → Dec (i ≡ length vs) → get_or (set (padded vs) (length vs) v) i 0 ≡ get_or (vs ++ (v ∷ [])) i 0
    at i l (yes z) =
        rw z (get_or-set_same (padded vs) (length vs) v 0 (omega (arith, length-padded vs)) ∙ sym (get_or-append_seam vs v [] 0))
    at i l (no z) =
        get_or-set_other (padded vs) (length vs) i v 0 z
        ∙ (get_or-padded vs i l
        ∙ by_lt i (length vs) (λ m. sym (get_or-append vs (v ∷ []) 0 i m))
        (λ m. get_or-eq_default vs 0 m
        ∙ sym (get_or-eq_default (vs ++ (v ∷ [])) 0 (omega (arith, length-append vs (v ∷ []), z)))))

-- i of count fields were read from `at` up to p, and stand in values
pub record Got (s : List ℕ) (at count : ℕ) (values : List ℕ) (p i : ℕ) : Type 0 where
  pub done : List ℕ
  pub many : length done ≡ i
  pub within : i ≤ count
  pub held : values ≡ padded done
  pub left : read_fields s at count ≡ before done (read_fields s p (count - i))

pub got_none : (s : List ℕ) (at count : ℕ) (values : List ℕ) → values ≡ padded [] → Got s at count values at 0
got_none s at count values e =
    record {
      done = [];
      many = refl;
      within = omega arith;
      held = e;
      left = sym (before_none (read_fields s at (count - 0)) ∙ rw sub-zero);
    }

module _ {s : List ℕ} {at count : ℕ} {values : List ℕ} {p i : ℕ} (g : Got s at count values p i) where
  pub got_all : count ≤ i → Some (record { values = values; next = p }) ≡ as_fields (read_fields s at count)
  unfolding as_fields before
  got_all h =
      let z : count - i ≡ 0 = omega (arith, g.within) in
      let e : read_fields s at count ≡ before g.done (read [] p) = g.left ∙ rw (z, fields_none s p) in
      rw (e, g.held, append-nil)

  module _ (h : i < count) where
    one_left : count - i ≡ suc (count - (i + 1))
    one_left = omega arith

    pub got_stop : field_at s p ≡ None → read_fields s at count ≡ unread
    got_stop e = g.left ∙ (rw (one_left, fields_stop s p (count - (i + 1)) e) (before_unread g.done))

    pub got_more : (v q : ℕ) → i < most_fields → field_at s p ≡ number v q → Got s at count (set values i v) q (i + 1)
    got_more v q l e =
        record {
          done = g.done ++ (v ∷ []);
          many = length-append g.done (v ∷ []) ∙ omega (arith, g.many);
          within = omega arith;
          held =
              ap₂ (λ (x : List ℕ) (k : ℕ). set x k v) g.held (sym g.many)
              ∙ padded_more g.done v (omega (arith, g.many));
          left =
              g.left
              ∙ (rw (one_left, fields_more s p (count - (i + 1)) v q e)
              (before_both g.done (v ∷ []) (read_fields s q (count - (i + 1)))));
        }

-- ---- a reading as it is handed back

pub unfound : (r : Reading) → None ≡ as_fields r → r ≡ unread
unfolding as_fields
unfound (read vs q) e = absurd (let z : ◌≡◌ {A = ℕ} 0 1 = cc in omega arith)
unfound unread e = refl

-- what was read, where something was
pub record Found (f : Fields) (r : Reading) : Type 0 where
  pub list : List ℕ
  pub is : r ≡ read list f.next
  pub values : f.values ≡ padded list

pub found_read : {f : Fields} (r : Reading) → Some f ≡ as_fields r → Found f r
unfolding as_fields
found_read {f} (read vs q) e =
    let z : f ≡ record { values = padded vs; next = q } = cc in
    record {
      list = vs;
      is = ap (read vs) (sym (ap (λ (g : Fields). g.next) z));
      values = ap (λ (g : Fields). g.values) z;
    }
found_read unread e = absurd (let z : ◌≡◌ {A = ℕ} 0 1 = cc in omega arith)

module _ {f : Fields} (r : Reading) (e : Some f ≡ as_fields r) (s : List ℕ) where
  pub unended : is_byte s f.next newline ≡ false → line_ended s r ≡ unread
  unfolding line_ended
  unended h = let k = found_read r e in rw k.is (pick_false _ _ h)

  pub ended_found :
      is_byte s f.next newline ≡ true → Some (record { values = f.values; next = f.next + 1 }) ≡ as_fields (line_ended s r)
  unfolding as_fields line_ended
  ended_found h =
      let k = found_read r e in
      ap (λ (vs : List ℕ). Some (record { values = vs; next = f.next + 1 })) k.values
      ∙ sym (ap (λ (x : Reading). as_fields (line_ended s x)) k.is ∙ ap as_fields (pick_true _ _ h))
