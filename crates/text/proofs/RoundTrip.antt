-- What is written reads back, and what is read is what would be written: for a number, for fields and for a line of a kind.
-- A number's digits are read one by one as they are written; fields and lines are parts that stand one after the other.
-- Assumes nothing.
use mathlib.Core.Path.{◌≡◌, refl, sym, ap, subst, ◌∙◌}
use mathlib.Core.Bool.{true, false}
use mathlib.Core.List.{List, [], ◌∷◌, ◌++◌, append_assoc, append-nil}
use Prim.Native.Nat.{ℕ, zero, suc, ◌+◌, ◌-◌, ◌*◌, ◌/◌, ◌%◌, ◌≤◌, ◌<◌}
use native.Mathlib.Nat.{not-suc-le-zero, add-zero}
use native.Mathlib.Omega.{arith}
use Rattle.std.proofs.Common.{Option, Some, None}
use lib.Dec.{leb}
use lib.ListN.{length, get_or, take, drop, length-append, length-drop}
use lib.Seq.{drop-drop, get_or-drop, get_or-take, ext_get_or, length-take-le}
use borrow.Author.Tests.{le-leb, leb-true}
use Rattle.reckon.proofs.TestLaws.{not_both, pick_true, pick_false, pick_both}
use Rattle.text.specs.Reading.{tab, newline, most_number, most_fields, is_byte, word_at, is_digit, digits_of, value_from, well_formed, number, number_from, number_at, field_at, Reading, before, with_number, read_fields, line_ended, read_rest, read_line, padded, as_fields, FieldsAt, RestOfLine, LineOf}
use Rattle.text.specs.Reading.Reading.{read, unread}
use Rattle.text.specs.Writing.{decimal, field_text, fields_text, rest_text, line_text, PutNumber, PutLine}
use Rattle.text.specs.Inner.Standing.{Readable, StandsAt, StandAlone, AsWritten}
use Rattle.text.specs.declared.reading.Number.{Number}
use Rattle.text.specs.declared.reading.Fields.{Fields}
use Rattle.text.proofs.ReadingLaws.{by_test, by_lt, digit_is, digit_under, digit_low, digit_high, first_many, number_parts, found_read, length-padded, get_or-padded, fields_more}
use Rattle.text.proofs.StandLaws.{stands_none, stands_both, stands_first, stands_second, stands_within, stands_byte, byte_stands, stands_word, word_stands, wrote_stands, wrote_after}
use Rattle.text.proofs.WritingLaws.{decimal_small, decimal_large}

-- ---- the digits of a number that is written

-- a text that is all digits, and makes n
record Figures (t : List ℕ) (n : ℕ) : Type 0 where
  apart : (rest : List ℕ) → digits_of (t ++ rest) ≡ digits_of t ++ digits_of rest
  long : length (digits_of t) ≡ length t
  worth : value_from 0 (digits_of t) ≡ n

pub digits_cons : (d : ℕ) (rest : List ℕ) → d < 10 → digits_of ((48 + d) ∷ rest) ≡ d ∷ digits_of rest
unfolding digits_of
digits_cons d rest h =
    let z : 48 + d - 48 ≡ d = omega arith in
    pick_true _ _ (digit_is (48 + d) (omega arith) (omega arith)) ∙ rw z

pub digits_none : digits_of [] ≡ []
unfolding digits_of
digits_none = refl

pub value_append : (ds es : List ℕ) (n : ℕ) → value_from n (ds ++ es) ≡ value_from (value_from n ds) es
unfolding value_from
value_append [] es n = refl
value_append (d ∷ ds) es n = value_append ds es (n * 10 + d)

pub value_one : (n d : ℕ) → value_from n (d ∷ []) ≡ n * 10 + d
unfolding value_from
value_one n d = refl

figures_small : (n : ℕ) → n < 10 → Figures ((48 + n) ∷ []) n
figures_small n h =
    let one : digits_of ((48 + n) ∷ []) ≡ n ∷ [] = digits_cons n [] h ∙ rw digits_none in
    record {
      apart = λ rest. digits_cons n rest h ∙ sym (ap (λ (l : List ℕ). l ++ digits_of rest) one);
      long = ap length one;
      worth = ap (value_from 0) one ∙ (value_one 0 n ∙ omega arith);
    }

figures_more : (t : List ℕ) (n d : ℕ) → d < 10 → Figures t n → Figures (t ++ ((48 + d) ∷ [])) (n * 10 + d)
figures_more t n d h f =
    let one : digits_of ((48 + d) ∷ []) ≡ d ∷ [] = digits_cons d [] h ∙ rw digits_none in
    let all : digits_of (t ++ ((48 + d) ∷ [])) ≡ digits_of t ++ (d ∷ []) =
    f.apart ((48 + d) ∷ []) ∙ ap (λ (l : List ℕ). digits_of t ++ l) one in
    record {
      apart = λ rest.
          ap digits_of (append_assoc t ((48 + d) ∷ []) rest)
          ∙ (f.apart ((48 + d) ∷ rest)
          ∙ (ap (λ (l : List ℕ). digits_of t ++ l) (digits_cons d rest h)
          ∙ sym (ap (λ (l : List ℕ). l ++ digits_of rest) all ∙ append_assoc (digits_of t) (d ∷ []) (digits_of rest))));
      long = ap length all ∙ (length-append (digits_of t) (d ∷ []) ∙ (rw f.long (sym (length-append t ((48 + d) ∷ [])))));
      worth = ap (value_from 0) all ∙ (value_append (digits_of t) (d ∷ []) 0 ∙ rw f.worth (value_one n d));
    }

-- a number other than 0 begins with a digit that is not
lead_append : (ds es : List ℕ) → 1 ≤ get_or ds 0 0 → 1 ≤ get_or (ds ++ es) 0 0
lead_append [] es h = absurd (not-suc-le-zero h)
lead_append (d ∷ ds) es h = h

lead_good : (ds : List ℕ) → 1 ≤ get_or ds 0 0 → well_formed ds ≡ true
lead_good [] h = absurd (not-suc-le-zero h)
lead_good (d ∷ ds) h = first_many d ds h

decimal-figures : (f n : ℕ) → n < f → Figures (decimal n) n × (0 < n → 1 ≤ get_or (digits_of (decimal n)) 0 0)
decimal-figures zero n h = absurd (not-suc-le-zero h)
decimal-figures (suc f) n h =
    by_lt n 10
    (λ l.
    rw (decimal_small n l)
    (figures_small n l, λ o. rw (digits_cons n [] l) o))
    (λ l.
    let ih = decimal-figures f (n / 10) (omega arith) in
    let z : n / 10 * 10 + n % 10 ≡ n = omega arith in
    rw (decimal_large n l) (
      ap_figures (decimal (n / 10) ++ ((48 + n % 10) ∷ [])) z
          (figures_more (decimal (n / 10)) (n / 10) (n % 10) (omega arith) ih.0),
      λ o. rw (ih.0.apart ((48 + n % 10) ∷ [])) (lead_append (digits_of (decimal (n / 10))) _ (ih.1 (omega arith))),
    ))
  where
    ap_figures : (t : List ℕ) {m k : ℕ} → m ≡ k → Figures t m → Figures t k
    ap_figures t e f = subst (λ (k : ℕ). Figures t k) e f

figures : (n : ℕ) → Figures (decimal n) n
figures n = (decimal-figures (suc n) n (omega arith)).0

decimal_formed : (n : ℕ) → well_formed (digits_of (decimal n)) ≡ true
unfolding well_formed
decimal_formed n =
    by_lt 0 n (λ o. lead_good (digits_of (decimal n)) ((decimal-figures (suc n) n (omega arith)).1 o))
    (λ o.
    let z : n < 10 = omega arith in
    rw (decimal_small n z, digits_cons n [] z, digits_none))

-- ---- a number

pub digits_front : (l : List ℕ) → is_digit (get_or l 0 0) ≡ false → digits_of l ≡ []
unfolding digits_of
digits_front [] e = refl
digits_front (b ∷ l) e = pick_false _ _ e

pub front_after : (s : List ℕ) (q : ℕ) → get_or (drop q s) 0 0 ≡ get_or s q 0
front_after s q = get_or-drop q s 0 0 ∙ ap (λ (k : ℕ). get_or s k 0) (add-zero q)

-- a number that was written, with no digit after it: its digits are all that are read, and they make it
pub digits_written : (n : ℕ) (rest : List ℕ) → is_digit (get_or rest 0 0) ≡ false → digits_of (decimal n ++ rest) ≡ digits_of (decimal n)
digits_written n rest e = (figures n).apart rest ∙ (rw (digits_front rest e) (append-nil (digits_of (decimal n))))

pub digits_worth : (n : ℕ) → value_from 0 (digits_of (decimal n)) ≡ n
digits_worth n = (figures n).worth

-- it reads as itself
pub number_back : {s : List ℕ} {p q : ℕ} (n : ℕ) → StandAlone s p (decimal n) (n ∷ []) q → number_at s p ≡ number n q
unfolding number_at number_from
number_back {s} {p} {q} n a =
    let ds : digits_of (drop p s) ≡ digits_of (decimal n) =
    ap digits_of a.stands.text ∙ digits_written n (drop q s) (ap is_digit (front_after s q) ∙ a.alone) in
    let e : p + length (digits_of (decimal n)) ≡ q = rw (figures n).long (sym a.stands.after) in
    rw (ds, decimal_formed n, digits_worth n, e)
    (pick_true _ _ refl ∙ pick_true _ _ (le-leb n most_number a.readable.0))

-- what digits say, written after a number that is not 0, is that number's digits and theirs
digits_text : (l : List ℕ) (v : ℕ) → 0 < v → decimal (value_from v (digits_of l)) ++ drop (length (digits_of l)) l ≡ decimal v ++ l
unfolding digits_of value_from
digits_text [] v o = refl
digits_text (b ∷ l) v o =
    by_test (is_digit b)
    (λ e.
    let z : (v * 10 + (b - 48)) / 10 ≡ v = omega (arith, digit_low b e, digit_high b e) in
    let y : 48 + (v * 10 + (b - 48)) % 10 ≡ b = omega (arith, digit_low b e, digit_high b e) in
    rw (pick_true ((b - 48) ∷ digits_of l) [] e)
    (digits_text l (v * 10 + (b - 48)) (omega arith)
    ∙ (rw (decimal_large (v * 10 + (b - 48)) (omega arith), z, y) (append_assoc (decimal v) (b ∷ []) l))))
    (λ e. rw (pick_false ((b - 48) ∷ digits_of l) [] e))

-- the digits of a text end where no digit stands
pub digits_stop : (l : List ℕ) → is_digit (get_or l (length (digits_of l)) 0) ≡ false
unfolding digits_of
digits_stop [] = digit_under 0 (omega arith)
digits_stop (b ∷ l) =
    by_test (is_digit b) (λ e. rw (pick_true ((b - 48) ∷ digits_of l) [] e) (digits_stop l))
    (λ e. rw (pick_false ((b - 48) ∷ digits_of l) [] e) e)

digits_few : (l : List ℕ) → length (digits_of l) ≤ length l
unfolding digits_of
digits_few [] = omega arith
digits_few (b ∷ l) =
    pick_both (λ (ds : List ℕ). length ds ≤ suc (length l)) (is_digit b) (omega (arith, digits_few l)) (omega arith)

-- digits that are well formed are the digits of their number
formed_text :
    (l : List ℕ) → well_formed (digits_of l) ≡ true → decimal (value_from 0 (digits_of l)) ++ drop (length (digits_of l)) l ≡ l
unfolding digits_of value_from well_formed
formed_text [] w = not_both w refl
formed_text (b ∷ l) w =
    by_test (is_digit b)
    (λ e.
    let z : value_from 0 ((b - 48) ∷ digits_of l) ≡ value_from (b - 48) (digits_of l) =
    ap (λ (k : ℕ). value_from k (digits_of l)) (omega arith) in
    let y : 48 + (b - 48) ≡ b = omega (arith, digit_low b e) in
    let v : well_formed ((b - 48) ∷ digits_of l) ≡ true = rw (pick_true ((b - 48) ∷ digits_of l) [] e) at w in
    rw (pick_true ((b - 48) ∷ digits_of l) [] e, z)
    (by_lt 0 (b - 48)
    (λ o. digits_text l (b - 48) o ∙ rw (decimal_small (b - 48) (omega (arith, digit_high b e)), y))
    (λ o. zero_text b l (digits_of l) refl (omega (arith, digit_low b e)) v)))
    (λ e. not_both (rw (pick_false ((b - 48) ∷ digits_of l) [] e) at w) refl)
  where
    zero_text :
        (b : ℕ) (l ds : List ℕ) → digits_of l ≡ ds → b ≡ 48 → well_formed ((b - 48) ∷ ds) ≡ true →
        decimal (value_from (b - 48) (digits_of l)) ++ drop (length (digits_of l)) l ≡ b ∷ l
    zero_text b l [] e z w = rw (e, z) (ap (λ (t : List ℕ). t ++ l) (decimal_small 0 (omega arith)))
    zero_text b l (d ∷ ds) e z w = not_both w (rw z)

-- a number that is read is what stands there, as it would be written, and no digit follows
pub number_only : (s : List ℕ) (p : ℕ) {n q : ℕ} → number_at s p ≡ number n q → StandAlone s p (decimal n) (n ∷ []) q
unfolding number_at number_from
number_only s p {n} {q} e =
    by_test (well_formed (digits_of (drop p s)))
    (λ w.
    by_test (leb (value_from 0 (digits_of (drop p s))) most_number)
    (λ m. known w (leb-true _ _ m) (sym (pick_true _ _ w ∙ pick_true _ _ m) ∙ e))
    (λ m. none (sym (pick_true _ _ w ∙ pick_false _ _ m) ∙ e)))
    (λ w. none (sym (pick_false _ _ w) ∙ e))
  where
    none : {A : Type 0} → None ≡ number n q → A
    none e = absurd (let z : ◌≡◌ {A = ℕ} 0 1 = cc in omega arith)

    known :
        well_formed (digits_of (drop p s)) ≡ true → value_from 0 (digits_of (drop p s)) ≤ most_number →
        number (value_from 0 (digits_of (drop p s))) (p + length (digits_of (drop p s))) ≡ number n q →
        StandAlone s p (decimal n) (n ∷ []) q
    known w m e =
        let v : value_from 0 (digits_of (drop p s)) ≡ n = (number_parts e).0 in
        let r : p + length (digits_of (drop p s)) ≡ q = (number_parts e).1 in
        let t : decimal n ++ drop (length (digits_of (drop p s))) (drop p s) ≡ drop p s =
        rw v at (formed_text (drop p s) w) in
        record {
          stands = record {
            after =
                omega (
                  arith,
                  ap length t,
                  length-append (decimal n) (drop (length (digits_of (drop p s))) (drop p s)),
                  length-drop (length (digits_of (drop p s))) (drop p s),
                  digits_few (drop p s),
                );
            text =
                sym t ∙ ap (λ (l : List ℕ). decimal n ++ l)
                (drop-drop (length (digits_of (drop p s))) p s ∙ ap (λ (k : ℕ). drop k s) r);
          };
          alone =
              ap (λ (k : ℕ). is_digit (get_or s k 0)) (sym r)
              ∙ (ap is_digit (sym (get_or-drop p s (length (digits_of (drop p s))) 0)) ∙ digits_stop (drop p s));
          readable = (omega arith, tt);
        }

-- ---- fields

pub field_back : {s : List ℕ} {p q : ℕ} (n : ℕ) → StandAlone s p (field_text n) (n ∷ []) q → field_at s p ≡ number n q
unfolding field_at field_text
field_back n a =
    pick_true _ _ (byte_stands a.stands).1
    ∙ number_back n
    (record { stands = stands_second (tab ∷ []) (decimal n) a.stands; alone = a.alone; readable = a.readable })

pub field_only : (s : List ℕ) (p : ℕ) {n q : ℕ} → field_at s p ≡ number n q → StandAlone s p (field_text n) (n ∷ []) q
unfolding field_at field_text
field_only s p {n} {q} e =
    by_test (is_byte s p tab)
    (λ b.
    let a = number_only s (p + 1) (sym (pick_true _ _ b) ∙ e) in
    record { stands = stands_both (stands_byte s p tab b) a.stands; alone = a.alone; readable = a.readable })
    (λ b. let f : None ≡ number n q = sym (pick_false _ _ b) ∙ e in absurd (let z : ◌≡◌ {A = ℕ} 0 1 = cc in omega arith))

pub tab-alone : is_digit tab ≡ false
tab-alone = digit_under tab (omega arith)

pub newline-alone : is_digit newline ≡ false
newline-alone = digit_under newline (omega arith)

-- no digit stands where fields begin, if none stands after them
alone-before :
    {s : List ℕ} {p q : ℕ} (vs : List ℕ) → StandsAt s p (fields_text vs) q → is_digit (get_or s q 0) ≡ false →
    is_digit (get_or s p 0) ≡ false
unfolding fields_text field_text
alone-before {s} {p} {q} [] a e = ap (λ (k : ℕ). is_digit (get_or s k 0)) (omega (arith, a.after)) ∙ e
alone-before (v ∷ vs) a e = ap is_digit (byte_stands a).0 ∙ tab-alone

pub fields_back :
    {s : List ℕ} {p q : ℕ} (vs : List ℕ) → StandAlone s p (fields_text vs) vs q → read_fields s p (length vs) ≡ read vs q
unfolding read_fields fields_text before
fields_back {s} {p} {q} [] a = ap (read []) (omega (arith, a.stands.after))
fields_back {s} {p} {q} (v ∷ vs) a =
    let rest : StandsAt s (p + length (field_text v)) (fields_text vs) q =
    stands_second (field_text v) (fields_text vs) a.stands in
    let here : field_at s p ≡ number v (p + length (field_text v)) =
    field_back v
    (record {
      stands = stands_first (field_text v) (fields_text vs) a.stands;
      alone = alone-before vs rest a.alone;
      readable = (a.readable.0, tt);
    }) in
    let ih : read_fields s (p + length (field_text v)) (length vs) ≡ read vs q =
    fields_back {p = p + length (field_text v)} vs (record { stands = rest; alone = a.alone; readable = a.readable.1 }) in
    fields_more s p (length vs) v (p + length (field_text v)) here ∙ ap (before (v ∷ [])) ih

not-read : {A : Type 0} {vs : List ℕ} {q : ℕ} → unread ≡ read vs q → A
not-read {A} {vs} {q} e = absurd (let z : ◌≡◌ {A = ℕ} 0 1 = cc in omega arith)

pub fields_only :
    (s : List ℕ) (p count : ℕ) {vs : List ℕ} {q : ℕ} → read_fields s p count ≡ read vs q →
    AsWritten s p (fields_text vs) vs count q
unfolding read_fields fields_text before
fields_only s p zero {vs} {q} e =
    let f : [] ≡ vs = cc in
    let g : p ≡ q = cc in
    subst (λ (us : List ℕ). AsWritten s p (fields_text us) us 0 q) f
    (subst (λ (k : ℕ). AsWritten s p [] [] 0 k) g (record { stands = stands_none s p; many = refl; readable = tt }))
fields_only s p (suc count) {vs} {q} e = go (field_at s p) refl e (λ r ws n f. fields_only s r count f)
  where
    more :
        (v r : ℕ) → field_at s p ≡ number v r → (y : Reading) → read_fields s r count ≡ y → before (v ∷ []) y ≡ read vs q →
        ((ws : List ℕ) (n : ℕ) → read_fields s r count ≡ read ws n → AsWritten s r (fields_text ws) ws count n) →
        AsWritten s p (fields_text vs) vs (suc count) q
    more v r h unread f e ih = not-read e
    more v r h (read ws n) f e ih =
        let g : v ∷ ws ≡ vs = cc in
        let k : n ≡ q = cc in
        let a = field_only s p h in
        let b = ih ws n f in
        subst (λ (us : List ℕ). AsWritten s p (fields_text us) us (suc count) q) g
        (subst (λ (m : ℕ). AsWritten s p (field_text v ++ fields_text ws) (v ∷ ws) (suc count) m) k
        (record {
          stands = stands_both a.stands b.stands;
          many = ap suc b.many;
          readable = (a.readable.0, b.readable);
        }))

    go :
        (x : Option Number) → field_at s p ≡ x → with_number x unread (λ v r. before (v ∷ []) (read_fields s r count)) ≡ read vs q →
        ((r : ℕ) (ws : List ℕ) (n : ℕ) → read_fields s r count ≡ read ws n → AsWritten s r (fields_text ws) ws count n) →
        AsWritten s p (fields_text vs) vs (suc count) q
    go None h e ih = not-read e
    go (Some n) h e ih = more n.value n.next h (read_fields s n.next count) refl e (ih n.next)

-- ---- a line

pub rest_back :
    {s : List ℕ} {p q : ℕ} (vs : List ℕ) → StandsAt s p (rest_text vs) q → Readable vs → read_rest s p (length vs) ≡ read vs q
unfolding read_rest line_ended rest_text
rest_back {s} {p} {q} vs a h =
    let end : StandsAt s (p + length (fields_text vs)) (newline ∷ []) q = stands_second (fields_text vs) (newline ∷ []) a in
    let here : read_fields s p (length vs) ≡ read vs (p + length (fields_text vs)) =
    fields_back vs
    (record {
      stands = stands_first (fields_text vs) (newline ∷ []) a;
      alone = ap is_digit (byte_stands end).0 ∙ newline-alone;
      readable = h;
    }) in
    rw here (pick_true _ _ (byte_stands end).1 ∙ ap (read vs) (sym end.after))

pub rest_only :
    (s : List ℕ) (p count : ℕ) {vs : List ℕ} {q : ℕ} → read_rest s p count ≡ read vs q → AsWritten s p (rest_text vs) vs count q
unfolding read_rest line_ended rest_text
rest_only s p count {vs} {q} e = go (read_fields s p count) refl e
  where
    go : (y : Reading) → read_fields s p count ≡ y → line_ended s y ≡ read vs q → AsWritten s p (rest_text vs) vs count q
    go unread f e = not-read e
    go (read ws n) f e =
        by_test (is_byte s n newline)
        (λ b.
        let i : read ws (n + 1) ≡ read vs q = sym (pick_true _ _ b) ∙ e in
        let g : ws ≡ vs = cc in
        let k : n + 1 ≡ q = cc in
        let a = fields_only s p count (f ∙ ap (λ (us : List ℕ). read us n) g) in
        record {
          stands = subst (λ (m : ℕ). StandsAt s p (rest_text vs) m) k (stands_both a.stands (stands_byte s n newline b));
          many = a.many;
          readable = a.readable;
        })
        (λ b. not-read (sym (pick_false _ _ b) ∙ e))

rest_within : {s : List ℕ} {p q : ℕ} (vs : List ℕ) → StandsAt s p (rest_text vs) q → q ≤ length s
unfolding rest_text
rest_within vs a = stands_within (stands_second (fields_text vs) (newline ∷ []) a)

-- a line of a kind that was written from its word and values reads as those values
pub line-back :
    {s : List ℕ} {p q : ℕ} (word vs : List ℕ) → StandsAt s p (line_text word vs) q → Readable vs →
    read_line s p word (length vs) ≡ read vs q
unfolding read_line line_text
line-back {s} {p} {q} word vs a h =
    let rest : StandsAt s (p + length word) (rest_text vs) q = stands_second word (rest_text vs) a in
    let fits : p + length word ≤ length s = omega (arith, rest.after, rest_within vs rest) in
    pick_true _ _ (word_stands fits (stands_first word (rest_text vs) a)) ∙ rest_back vs rest h

-- a line that is read is what would be written from its word and the values read
pub line_only :
    (s : List ℕ) (p : ℕ) (word : List ℕ) (count : ℕ) {vs : List ℕ} {q : ℕ} → read_line s p word count ≡ read vs q →
    AsWritten s p (line_text word vs) vs count q
unfolding read_line line_text
line_only s p word count {vs} {q} e =
    by_test (word_at s p word)
    (λ w.
    let a = rest_only s (p + length word) count (sym (pick_true _ _ w) ∙ e) in
    record { stands = stands_both (stands_word s p word w) a.stands; many = a.many; readable = a.readable })
    (λ w. not-read (sym (pick_false _ _ w) ∙ e))

-- ---- the same of the fields that a call hands back

pub take-padded : (vs : List ℕ) → length vs ≤ most_fields → take (length vs) (padded vs) ≡ vs
take-padded vs h =
    let long : length (take (length vs) (padded vs)) ≡ length vs =
    length-take-le (length vs) (padded vs) (omega (arith, length-padded vs)) in
    ext_get_or 0 (take (length vs) (padded vs)) vs long
    (λ i l. get_or-take (length vs) (padded vs) i 0 (omega arith) ∙ get_or-padded vs i (omega arith))

-- what is found is what would be written from the first count values handed back
module _ {f : Fields} (s : List ℕ) (p count : ℕ) (few : count ≤ most_fields) where
  as_found :
      (text : List ℕ → List ℕ) (r : Reading) → Some f ≡ as_fields r →
      ((vs : List ℕ) (q : ℕ) → r ≡ read vs q → AsWritten s p (text vs) vs count q) →
      AsWritten s p (text (take count f.values)) (take count f.values) count f.next
  as_found text r e only =
      let k = found_read r e in
      let a = only k.list f.next k.is in
      let g : k.list ≡ take count f.values =
      sym (take-padded k.list (omega (arith, a.many)))
      ∙ (ap (λ (n : ℕ). take n (padded k.list)) a.many ∙ ap (take count) (sym k.values)) in
      subst (λ (us : List ℕ). AsWritten s p (text us) us count f.next) g a

  pub fields_found :
      FieldsAt s p count (Some f) → AsWritten s p (fields_text (take count f.values)) (take count f.values) count f.next
  fields_found e = as_found fields_text (read_fields s p count) e (λ vs q. fields_only s p count)

  pub rest_found :
      RestOfLine s p count (Some f) → AsWritten s p (rest_text (take count f.values)) (take count f.values) count f.next
  rest_found e = as_found rest_text (read_rest s p count) e (λ vs q. rest_only s p count)

  pub line_found :
      (word : List ℕ) → LineOf s p word count (Some f) →
      AsWritten s p (line_text word (take count f.values)) (take count f.values) count f.next
  line_found word e = as_found (line_text word) (read_line s p word count) e (λ vs q. line_only s p word count)

-- ---- what was put into a room is read there

pub number_put :
    {old new : List ℕ} {at r : ℕ} (n : ℕ) → at + length (decimal n) ≤ length old → PutNumber n at old new r →
    is_digit (get_or old r 0) ≡ false → n ≤ most_number → number_at new at ≡ number n r
number_put {old} {new} {at} {r} n fits put none small =
    number_back n
    (record {
      stands = wrote_stands fits put;
      alone = ap is_digit (wrote_after fits put) ∙ none;
      readable = (small, tt);
    })

pub line-put :
    {old new : List ℕ} {at r : ℕ} (word vs : List ℕ) → at + length (line_text word vs) ≤ length old →
    PutLine word vs at old new r →
    Readable vs → read_line new at word (length vs) ≡ read vs r
line-put word vs fits put h = line-back word vs (wrote_stands fits put) h
