-- Laws of writing: a number's digits, one by one; a text put into a room piece by piece is the whole text put there.
-- Assumes nothing.
use mathlib.Core.Path.{◌≡◌, refl, sym, ap, subst, ◌∙◌}
use mathlib.Core.List.{List, [], ◌∷◌, ◌++◌, append_assoc}
use Prim.Native.Nat.{ℕ, zero, suc, ◌+◌, ◌*◌, ◌/◌, ◌%◌, ◌^◌, ◌≤◌, ◌<◌}
use native.Mathlib.Nat.{mul-suc, add-zero, add-suc, suc-add, not-suc-le-zero, pow-suc}
use native.Mathlib.Numerals.{add-one}
use native.Mathlib.Omega.{arith}
use lib.ListN.{length, get_or, set, take, drop, length-append, take-append-drop, drop_of_length-le}
use lib.Seq.{sets, sets-eq, paste, drop-drop, drop-cons, take-length}
use Rattle.reckon.specs.Lists.{placed}
use Rattle.reckon.proofs.ListLaws.{length-placed}
use Rattle.text.specs.Reading.{newline}
use Rattle.text.specs.Writing.{digits_in, decimal, field_text, fields_text, rest_text, line_text, Wrote}
use Rattle.text.proofs.ReadingLaws.{by_lt}

-- ---- the digits of a number

in_zero : (f : ℕ) → digits_in f 0 ≡ []
unfolding digits_in
in_zero zero = refl
in_zero (suc f) = refl

-- how many digits are allowed does not matter where they suffice
in_any : (f g n : ℕ) → n ≤ f → n ≤ g → digits_in f n ≡ digits_in g n
unfolding digits_in
in_any zero g n h k =
    let z : n ≡ 0 = omega arith in
    sym (ap (digits_in g) z ∙ in_zero g)
in_any (suc f) zero n h k =
    let z : n ≡ 0 = omega arith in
    ap (digits_in (suc f)) z
in_any (suc f) (suc g) zero h k = refl
in_any (suc f) (suc g) (suc n) h k =
    ap (λ (ds : List ℕ). ds ++ ((48 + suc n % 10) ∷ [])) (in_any f g (suc n / 10) (omega arith) (omega arith))

-- a number below 10 is its digit; another is its tenth's digits and its last
pub decimal_small : (n : ℕ) → n < 10 → decimal n ≡ (48 + n) ∷ []
unfolding decimal digits_in
decimal_small zero h = refl
decimal_small (suc n) h =
    let z : suc n / 10 ≡ 0 = omega arith in
    let y : suc n % 10 ≡ suc n = omega arith in
    rw (z, in_zero n, y)

pub decimal_large : (n : ℕ) → 10 ≤ n → decimal n ≡ decimal (n / 10) ++ ((48 + n % 10) ∷ [])
unfolding decimal digits_in
decimal_large zero h = absurd (not-suc-le-zero h)
decimal_large (suc n) h =
    ap (λ (ds : List ℕ). ds ++ ((48 + suc n % 10) ∷ [])) (tenth (suc n / 10) (omega arith) (omega arith))
  where
    tenth : (m : ℕ) → 0 < m → m ≤ n → digits_in n m ≡ decimal m
    tenth zero o l = absurd (not-suc-le-zero o)
    tenth (suc m) o l = in_any n (suc m) (suc m) l (omega arith)

pub decimal_longer : (n : ℕ) → 10 ≤ n → length (decimal n) ≡ length (decimal (n / 10)) + 1
decimal_longer n h = ap length (decimal_large n h) ∙ length-append (decimal (n / 10)) _

-- a number below 10 ^ k has at most k digits
pub decimal-short : (k n : ℕ) → n < 10 ^ suc k → length (decimal n) ≤ suc k
decimal-short zero n h = omega (arith, ap length (decimal_small n h))
decimal-short (suc k) n h =
    by_lt n 10 (λ l. omega (arith, ap length (decimal_small n l)))
    (λ l. omega (arith, decimal_longer n l, decimal-short k (n / 10) (omega (arith, pow-suc 10 (suc k)))))

-- fields of numbers below 10 ^ k have at most k + 1 bytes each
pub fields_text_short :
    (k : ℕ) (vs : List ℕ) → ((i : ℕ) → i < length vs → get_or vs i 0 < 10 ^ suc k) → length (fields_text vs) ≤ (k + 2) * length vs
unfolding fields_text field_text
fields_text_short k [] h = omega arith
fields_text_short k (v ∷ vs) h =
    omega (
      arith,
      mul-suc (k + 2) (length vs),
      length-append (field_text v) (fields_text vs),
      decimal-short k v (h 0 (omega arith)),
      fields_text_short k vs (λ i l. h (suc i) (omega arith)),
    )

-- ---- a text put into a room

sets_append : (v w l : List ℕ) (i : ℕ) → sets l i (v ++ w) ≡ sets (sets l i v) (i + length v) w
sets_append [] w l i = rw add-zero
sets_append (a ∷ v) w l i = sets_append v w (set l i a) (suc i) ∙ rw (add-suc, suc-add)

placed_sets : (old : List ℕ) (a : ℕ) (t : List ℕ) → a + length t ≤ length old → placed old a t ≡ sets old a t
unfolding placed
placed_sets old a t h =
    rw (drop-drop (length t) a old) (sym (append_assoc (take a old) t (drop (a + length t) old)) ∙ sym (sets-eq t old a h))

-- one text after the other
pub placed_both :
    (old : List ℕ) (a : ℕ) (v w : List ℕ) → a + length v + length w ≤ length old →
    placed (placed old a v) (a + length v) w ≡ placed old a (v ++ w)
placed_both old a v w h =
    let first : a + length v ≤ length old = omega arith in
    let whole : a + length (v ++ w) ≤ length old = rw (length-append v w) (omega arith) in
    let second : a + length v + length w ≤ length (placed old a v) = rw (length-placed old a v first) h in
    placed_sets (placed old a v) (a + length v) w second
    ∙ (rw (placed_sets old a v first) (sym (sets_append v w old a)) ∙ sym (placed_sets old a (v ++ w) whole))

pub placed_byte : (old : List ℕ) (a b : ℕ) → a < length old → set old a b ≡ placed old a (b ∷ [])
placed_byte old a b h = sym (placed_sets old a (b ∷ []) (omega arith))

pub placed_none : (old : List ℕ) (a : ℕ) → placed old a [] ≡ old
unfolding placed
placed_none old a = take-append-drop a old

-- a copy of a whole word
pub placed_paste : (old : List ℕ) (a : ℕ) (word : List ℕ) → paste old a word (length word) ≡ placed old a word
unfolding placed
placed_paste old a word = rw (take-length word, drop-drop (length word) a old, append_assoc)

pub wrote_length :
    {t old new : List ℕ} {at r : ℕ} → at + length t ≤ length old → Wrote t at old new r → length new ≡ length old
wrote_length {t} {old} {new} {at} h w = ap length w.room ∙ length-placed old at t h

pub wrote_both :
    {v w old mid new : List ℕ} {at p r : ℕ} → at + length v + length w ≤ length old → Wrote v at old mid p →
    Wrote w p mid new r →
    Wrote (v ++ w) at old new r
wrote_both {v} {w} {old} {mid} {new} {at} {p} {r} h a b =
    record {
      next = rw (length-append v w) (omega (arith, a.next, b.next));
      room = b.room ∙ (rw (a.room, a.next) (placed_both old at v w h));
    }

-- the same text under another name
pub written_as : {t u : List ℕ} {at r : ℕ} {old new : List ℕ} → t ≡ u → Wrote u at old new r → Wrote t at old new r
written_as {at = at} {r} {old} {new} e w = subst (λ (k : List ℕ). Wrote k at old new r) (sym e) w

-- ---- a text put piece by piece: what is left of it, from p on, makes the whole

pub record Left (rest : List ℕ) (p : ℕ) (room total : List ℕ) (at : ℕ) (old : List ℕ) : Type 0 where
  pub fits : at + length total ≤ length old
  pub long : length room ≡ length old
  pub ends : p + length rest ≡ at + length total
  pub same : placed room p rest ≡ placed old at total

pub left_all : (t : List ℕ) (at : ℕ) (old : List ℕ) → at + length t ≤ length old → Left t at old t at old
left_all t at old h = record { fits = h; long = refl; ends = refl; same = refl }

-- the next piece fits
pub left_fits :
    (v rest : List ℕ) {room total old : List ℕ} {p at : ℕ} → Left (v ++ rest) p room total at old →
    p + length v + length rest ≤ length room
left_fits v rest l = omega (arith, l.fits, l.long, l.ends, length-append v rest)

pub left_step :
    {v rest room new total old : List ℕ} {p q at : ℕ} → Left (v ++ rest) p room total at old → Wrote v p room new q →
    Left rest q new total at old
left_step {v} {rest} {room} {new} {total} {old} {p} {q} {at} l w =
    let h : p + length v + length rest ≤ length room = left_fits v rest l in
    record {
      fits = l.fits;
      long = wrote_length (omega arith) w ∙ l.long;
      ends = omega (arith, l.ends, w.next, length-append v rest);
      same = rw (w.room, w.next) (placed_both room p v rest h) ∙ l.same;
    }

-- nothing is left
pub left_none : {room total old : List ℕ} {p at : ℕ} → Left [] p room total at old → Wrote total at old room p
left_none {room} {total} {old} {p} l =
    record { next = omega (arith, l.ends); room = sym (placed_none room p) ∙ l.same }

-- a field more
pub fields_text_more :
    (vs : List ℕ) (i : ℕ) → i < length vs → fields_text (drop i vs) ≡ field_text (get_or vs i 0) ++ fields_text (drop (i + 1) vs)
unfolding fields_text
fields_text_more vs i h = rw (drop-cons vs i 0 h, add-one)

pub fields_text_end : (vs : List ℕ) (i : ℕ) → length vs ≤ i → fields_text (drop i vs) ≡ []
unfolding fields_text
fields_text_end vs i h = rw (drop_of_length-le vs h)

pub line_text_long : (word vs : List ℕ) → length (line_text word vs) ≡ length word + length (fields_text vs) + 1
unfolding line_text rest_text
line_text_long word vs = simp length-append (omega arith)

-- a line: its word, its fields and its newline
pub wrote_line :
    {word : List ℕ} (vs : List ℕ) {old first second new : List ℕ} {at p q r : ℕ} → at + length (line_text word vs) ≤ length old →
    Wrote word at old first p → Wrote (fields_text vs) p first second q → Wrote (newline ∷ []) q second new r →
    Wrote (line_text word vs) at old new r
unfolding line_text rest_text
wrote_line {word} vs {old} {first} {second} {new} {at} {p} {q} {r} h a b c =
    let l : at + length word + length (fields_text vs) + 1 ≤ length old = omega (arith, line_text_long word vs) in
    let k : length first ≡ length old = wrote_length (omega arith) a in
    wrote_both (rw (length-append (fields_text vs) (newline ∷ [])) (omega arith)) a (wrote_both (omega (arith, a.next)) b c)
