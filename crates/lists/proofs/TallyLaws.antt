-- Laws of the tally: one name more, and it still holds what the document tells of the names so far.
-- Assumes nothing.
use mathlib.Core.Path.{◌≡◌, refl, sym, ap, subst, ◌∙◌}
use mathlib.Core.Bool.{Bool, true, false, ◌&&◌, ◌||◌}
use mathlib.Core.List.{List, [], ◌∷◌, ◌++◌, append-nil}
use Prim.Native.Nat.{ℕ, suc, ◌+◌, ◌≤◌, ◌<◌, max}
use native.Mathlib.Numerals.{add-one}
use native.Mathlib.Omega.{arith}
use lib.Dec.{eqb, leb, ltb}
use lib.ListN.{length, get_or, take, length-append}
use lib.Seq.{take-suc-set}
use borrow.Author.Tests.{lt-ltb, le-ltb, eq-eqb, ne_eqb, eqb-true, eqb-false}
use Rattle.reckon.specs.Tests.{pick, every}
use Rattle.reckon.specs.Lists.{placed}
use Rattle.reckon.proofs.TestLaws.{not_both, pick_true, pick_false, pick_same, and_true}
use Rattle.reckon.proofs.ListLaws.{length-filled, filled_in, length-placed, placed_in}
use Rattle.grid.specs.Squares.{ShapeInRange, squares}
use Rattle.grid.specs.Marks.{closed}
use Rattle.grid.specs.declared.squares.Shape.{Shape}
use Rattle.ledger.specs.Runs.{Plan, plan}
use Rattle.ledger.specs.Flows.{shut}
use Rattle.text.proofs.ReadingLaws.{by_test, by_lt}
use Rattle.text.proofs.WritingLaws.{placed_byte}
use Rattle.programs.specs.Program.{program_squares}
use Rattle.lists.specs.Names.{most_sheets}
use Rattle.lists.specs.Sheets.{File, file_number, file_plan, file_peaks}
use Rattle.lists.specs.Drowned.{Accepted, accepted, drowned, deepest_of, first_gave, refused_many, begun_with, plan_with}
use Rattle.lists.specs.Tally.{Rooms, rooms, counts_with, deepest_with, places_with, number_with, plan_now, tally_after, rooms_after}
use Rattle.lists.specs.Right.{RoomsLong}
use Rattle.lists.specs.declared.tally.Tally.{Tally}
use Rattle.lists.proofs.AcceptedLaws.{drowned_more, drowned_few, deepest_more, first_more, first_alone}
use Rattle.lists.proofs.FileLaws.{PlanFine, accepted-fine, same_number}

-- ---- what the rooms hold of a square

pub record Held (wet i : ℕ) (sheets : List Accepted) (r : Rooms) : Type 0 where
  pub count_is : get_or r.counts i 0 ≡ drowned i wet sheets
  pub deepest_is : get_or r.deepest i 0 ≡ deepest_of i sheets
  pub place_is : get_or r.places i 0 ≡ first_gave i sheets

-- a list's sheets are never too many to be counted
count_as :
    (wet peak count : ℕ) → count < most_sheets →
    pick (every (leb wet peak ∷ ltb count most_sheets ∷ [])) (count + 1) count ≡ pick (leb wet peak) (count + 1) count
unfolding every
count_as wet peak count h =
    ap (λ (b : Bool). pick b (count + 1) count)
    (ap (λ (b : Bool). leb wet peak && (b && true)) (lt-ltb count most_sheets h) ∙ and_true (leb wet peak))

deeper : (d pk : ℕ) → pick (ltb d pk) pk d ≡ max d pk
deeper d pk =
    by_lt d pk (λ l. pick_true _ _ (lt-ltb d pk l) ∙ omega arith) (λ l. pick_false _ _ (le-ltb d pk l) ∙ omega arith)

-- the rooms with an accepted sheet's peaks, and its number 0 at place k from 0
abbrev merged_by : Plan → Bool → ℕ → ℕ → List ℕ → ℕ → Rooms → Rooms
merged_by p begun wet place peaks k r =
    rooms p.marks (counts_with p begun wet place peaks r.counts) (deepest_with p begun wet place peaks r.deepest)
    (places_with p begun wet place peaks r.deepest r.places) (placed r.numbers k (0 ∷ []))

abbrev noted_by : ℕ → ℕ → Rooms → Rooms
noted_by number k r = rooms r.marks r.counts r.deepest r.places (placed r.numbers k (number ∷ []))

-- the plan q, its marks at the start of a room
module _ (q : Plan) (few : squares q.shape ≤ program_squares) (marks : List ℕ) where
  abbrev Agree : Type 0
  Agree = (i : ℕ) → i < squares q.shape → get_or marks i 0 ≡ get_or q.marks i 0

  module _ (agree : Agree) (wet place k : ℕ) (peaks : List ℕ) (r : Rooms) (long : RoomsLong r) (i : ℕ) (low : i < squares q.shape) (land : shut q i ≡ false) where
    open_there : closed marks i ≡ false
    unfolding closed
    open_there = ap (λ (m : ℕ). eqb m 0) (agree i low) ∙ land

    held_first : Held wet i ([] ++ (accepted place peaks ∷ [])) (merged_by (plan q.shape marks) false wet place peaks k r)
    unfolding counts_with deepest_with places_with pick drowned deepest_of
    held_first =
        record {
          count_is =
              filled_in _ _ _ r.counts i (omega (arith, low, few, long.counts_long)) low open_there
              ∙ count_as wet (get_or peaks i 0) 0 (omega arith);
          deepest_is = filled_in _ _ _ r.deepest i (omega (arith, low, few, long.deepest_long)) low open_there ∙ omega arith;
          place_is =
              filled_in _ _ _ r.places i (omega (arith, low, few, long.places_long)) low open_there
              ∙ sym (first_alone i (accepted place peaks));
        }

    held_next :
        (sheets : List Accepted) → 0 < length sheets → length sheets < most_sheets → Held wet i sheets r →
        Held wet i (sheets ++ (accepted place peaks ∷ [])) (merged_by (plan q.shape marks) true wet place peaks k r)
    unfolding counts_with deepest_with places_with pick
    held_next sheets some most h =
        record {
          count_is =
              filled_in _ _ _ r.counts i (omega (arith, low, few, long.counts_long)) low open_there
              ∙ (count_as wet pk (get_or r.counts i 0) (omega (arith, h.count_is, most, drowned_few i wet sheets))
              ∙ (ap (λ (c : ℕ). pick (leb wet pk) (c + 1) c) h.count_is ∙ sym (drowned_more i wet sheets (accepted place peaks))));
          deepest_is =
              filled_in _ _ _ r.deepest i (omega (arith, low, few, long.deepest_long)) low open_there
              ∙ (deeper (get_or r.deepest i 0) pk
              ∙ (ap (λ (d : ℕ). max d pk) h.deepest_is ∙ sym (deepest_more i sheets (accepted place peaks))));
          place_is =
              filled_in _ _ _ r.places i (omega (arith, low, few, long.places_long)) low open_there
              ∙ (ap (λ (d : ℕ). pick (ltb d pk) place (get_or r.places i 0)) h.deepest_is
              ∙ (ap (λ (x : ℕ). pick (ltb (deepest_of i sheets) pk) place x) h.place_is
              ∙ sym (first_more i sheets (accepted place peaks) some)));
        }
      where
        pk : ℕ
        pk = get_or peaks i 0

-- ---- the numbers

refused_more :
    (numbers : List ℕ) (n : ℕ) → refused_many (numbers ++ (n ∷ [])) ≡ pick (eqb n 0) (refused_many numbers) (refused_many numbers + 1)
unfolding refused_many pick
refused_more [] n = refl
refused_more (m ∷ rest) n =
    ap (λ (k : ℕ). pick (eqb m 0) k (suc k)) (refused_more rest n) ∙ swap (eqb m 0) (eqb n 0) (refused_many rest)
  where
    swap : (a b : Bool) (k : ℕ) → pick a (pick b k (k + 1)) (suc (pick b k (k + 1))) ≡ pick b (pick a k (suc k)) (pick a k (suc k) + 1)
    swap true true k = refl
    swap true false k = refl
    swap false true k = refl
    swap false false k = omega arith

numbers_more :
    (numbers room : List ℕ) (n : ℕ) → length numbers < length room → take (length numbers) room ≡ numbers →
    take (length (numbers ++ (n ∷ []))) (placed room (length numbers) (n ∷ [])) ≡ numbers ++ (n ∷ [])
numbers_more numbers room n h e =
    ap (λ (j : ℕ). take j (placed room (length numbers) (n ∷ []))) (length-append numbers (n ∷ []) ∙ add-one (length numbers))
    ∙ (ap (take (suc (length numbers))) (sym (placed_byte room (length numbers) n h))
    ∙ (take-suc-set room (length numbers) n h ∙ ap (λ (l : List ℕ). l ++ (n ∷ [])) e))

-- what is noted of the names so far: rooms of their sizes, the numbers, and as many accepted ones as were not refused
pub record Noted (numbers : List ℕ) (sheets : List Accepted) (r : Rooms) : Type 0 where
  pub long : RoomsLong r
  pub numbers_are : take (length numbers) r.numbers ≡ numbers
  pub all_told : length sheets + refused_many numbers ≡ length numbers

module _ {numbers : List ℕ} {sheets : List Accepted} {r : Rooms} (h : Noted numbers sheets r) (most : length numbers < most_sheets) where
  numbers_long : (n : ℕ) → length (placed r.numbers (length numbers) (n ∷ [])) ≡ most_sheets
  numbers_long n = length-placed r.numbers (length numbers) (n ∷ []) (omega (arith, most, h.long.numbers_long)) ∙ h.long.numbers_long

  noted-refused : (n : ℕ) → (n ≡ 0 → ⊥) → Noted (numbers ++ (n ∷ [])) sheets (noted_by n (length numbers) r)
  unfolding pick
  noted-refused n d =
      record {
        long =
            record {
              marks_long = h.long.marks_long;
              counts_long = h.long.counts_long;
              deepest_long = h.long.deepest_long;
              places_long = h.long.places_long;
              numbers_long = numbers_long n;
            };
        numbers_are = numbers_more numbers r.numbers n (omega (arith, most, h.long.numbers_long)) h.numbers_are;
        all_told =
            omega (
              arith,
              h.all_told,
              length-append numbers (n ∷ []),
              refused_more numbers n ∙ pick_false (refused_many numbers) (refused_many numbers + 1) (ne_eqb n 0 d),
            );
      }

  noted-accepted :
      (p : Plan) (begun : Bool) (wet place : ℕ) (peaks : List ℕ) (s : Accepted) → length p.marks ≡ program_squares →
      Noted (numbers ++ (0 ∷ [])) (sheets ++ (s ∷ [])) (merged_by p begun wet place peaks (length numbers) r)
  unfolding counts_with deepest_with places_with
  noted-accepted p begun wet place peaks s marks_long =
      record {
        long =
            record {
              marks_long = marks_long;
              counts_long = length-filled _ _ _ r.counts ∙ h.long.counts_long;
              deepest_long = length-filled _ _ _ r.deepest ∙ h.long.deepest_long;
              places_long = length-filled _ _ _ r.places ∙ h.long.places_long;
              numbers_long = numbers_long 0;
            };
        numbers_are = numbers_more numbers r.numbers 0 (omega (arith, most, h.long.numbers_long)) h.numbers_are;
        all_told =
            omega (
              arith,
              h.all_told,
              length-append numbers (0 ∷ []),
              length-append sheets (s ∷ []),
              refused_more numbers 0 ∙ pick_true (refused_many numbers) (refused_many numbers + 1) (eq-eqb 0 0 refl),
            );
      }

-- ---- the tally goes with the document's words: its numbers, its accepted sheets and the first one's plan, of the names so far

pub record Follows (wet : ℕ) (numbers : List ℕ) (sheets : List Accepted) (begun : Bool) (q : Plan) (t : Tally) (r : Rooms) : Type 0 where
  pub wet_is : t.wet ≡ wet
  pub taken_is : t.taken ≡ length numbers
  pub begun_is : t.begun ≡ begun
  pub shape_is : t.shape ≡ q.shape
  pub told : Noted numbers sheets r
  pub few : squares q.shape ≤ program_squares
  pub agree : (i : ℕ) → i < squares q.shape → get_or r.marks i 0 ≡ get_or q.marks i 0
  pub none : begun ≡ false → (sheets ≡ []) × (squares q.shape ≡ 0)
  pub some : begun ≡ true → (0 < length sheets) × ShapeInRange q.shape
  pub held : (i : ℕ) → i < squares q.shape → shut q i ≡ false → Held wet i sheets r

abbrev tallied : ℕ → ℕ → Bool → Shape → ℕ → Tally
tallied wet taken begun shape number = record { wet = wet; taken = taken; begun = begun; shape = shape; number = number }

tally_same :
    {w w' k k' n n' : ℕ} {b b' : Bool} {s s' : Shape} → w ≡ w' → k ≡ k' → b ≡ b' → s ≡ s' → n ≡ n' →
    tallied w k b s n ≡ tallied w' k' b' s' n'
tally_same e f g h i = cc

merged_same :
    {p p' : Plan} {b b' : Bool} {w w' l l' k k' : ℕ} (peaks : List ℕ) (r : Rooms) → p ≡ p' → b ≡ b' → w ≡ w' → l ≡ l' → k ≡ k' →
    merged_by p b w l peaks k r ≡ merged_by p' b' w' l' peaks k' r
merged_same peaks r e f g h i = cc

pub follows_as :
    {wet : ℕ} {numbers numbers' : List ℕ} {sheets sheets' : List Accepted} {begun begun' : Bool} {q q' : Plan} {t t' : Tally} {r r' : Rooms} →
    numbers ≡ numbers' → sheets ≡ sheets' → begun ≡ begun' → q ≡ q' → t ≡ t' → r ≡ r' → Follows wet numbers sheets begun q t r →
    Follows wet numbers' sheets' begun' q' t' r'
follows_as {wet} {numbers} {numbers'} {sheets} {sheets'} {begun} {begun'} {q} {q'} {t} {t'} {r} {r'} a b c d e g x =
    subst (λ (z : List ℕ). Follows wet z sheets' begun' q' t' r') a
    (subst (λ (z : List Accepted). Follows wet numbers z begun' q' t' r') b
    (subst (λ (z : Bool). Follows wet numbers sheets z q' t' r') c
    (subst (λ (z : Plan). Follows wet numbers sheets begun z t' r') d
    (subst (λ (z : Tally). Follows wet numbers sheets begun q z r') e (subst (λ (z : Rooms). Follows wet numbers sheets begun q t z) g x)))))

module _ {wet : ℕ} {numbers : List ℕ} {sheets : List Accepted} {begun : Bool} {q : Plan} {t : Tally} {r : Rooms}
    (h : Follows wet numbers sheets begun q t r) (most : length numbers < most_sheets) (f : File) where
  abbrev sheet : Accepted
  sheet = accepted (length numbers + 1) (file_peaks f)

  -- the rooms after it, were it accepted
  abbrev after : Plan → Bool → Rooms
  after p later = merged_by p later wet (length numbers + 1) (file_peaks f) (length numbers) r

  room : ltb t.taken most_sheets ≡ true
  room = lt-ltb t.taken most_sheets (omega (arith, h.taken_is, most))

  number_is : number_with t f r ≡ file_number begun q f
  unfolding number_with
  number_is =
      pick_true _ _ room
      ∙ (ap (λ (b : Bool). file_number b (plan t.shape r.marks) f) h.begun_is
      ∙ (ap (λ (s : Shape). file_number begun (plan s r.marks) f) h.shape_is ∙ same_number q r.marks h.agree begun f))

  -- ---- a refused one

  module _ (d : file_number begun q f ≡ 0 → ⊥) where
    not_zero : eqb (number_with t f r) 0 ≡ false
    not_zero = ne_eqb _ 0 (λ e. d (sym number_is ∙ e))

    tally_refused : tally_after t f r ≡ tallied wet (length numbers + 1) begun q.shape (file_number begun q f)
    unfolding tally_after
    tally_refused =
        tally_same h.wet_is (pick_true _ _ room ∙ ap (λ (k : ℕ). k + 1) h.taken_is) (pick_false _ _ not_zero ∙ h.begun_is)
        (pick_false _ _ not_zero ∙ h.shape_is) number_is

    rooms-refused : rooms_after t f r ≡ noted_by (file_number begun q f) (length numbers) r
    unfolding rooms_after
    rooms-refused =
        pick_true _ _ room
        ∙ (pick_false _ _ not_zero
        ∙ (ap (λ (n : ℕ). noted_by n t.taken r) number_is ∙ ap (λ (k : ℕ). noted_by (file_number begun q f) k r) h.taken_is))

    follows_refused :
        Follows wet (numbers ++ (file_number begun q f ∷ [])) sheets begun q
        (tallied wet (length numbers + 1) begun q.shape (file_number begun q f)) (noted_by (file_number begun q f) (length numbers) r)
    follows_refused =
        record {
          wet_is = refl;
          taken_is = sym (length-append numbers (file_number begun q f ∷ []));
          begun_is = refl;
          shape_is = refl;
          told = noted-refused h.told most (file_number begun q f) d;
          few = h.few;
          agree = h.agree;
          none = h.none;
          some = h.some;
          held = λ i low land. let x = h.held i low land in record { count_is = x.count_is; deepest_is = x.deepest_is; place_is = x.place_is };
        }

  -- ---- an accepted one

  module _ (e : file_number begun q f ≡ 0) where
    is_zero : eqb (number_with t f r) 0 ≡ true
    is_zero = eq-eqb _ 0 (number_is ∙ e)

    module _ (p : Plan) (now_is : plan_now t f r ≡ p) where
      tally_accepted : tally_after t f r ≡ tallied wet (length numbers + 1) true p.shape 0
      unfolding tally_after
      tally_accepted =
          tally_same h.wet_is (pick_true _ _ room ∙ ap (λ (k : ℕ). k + 1) h.taken_is) (pick_true _ _ is_zero)
          (pick_true _ _ is_zero ∙ ap (λ (x : Plan). x.shape) now_is) (number_is ∙ e)

      rooms-accepted : rooms_after t f r ≡ after p begun
      unfolding rooms_after
      rooms-accepted =
          pick_true _ _ room
          ∙ (pick_true _ _ is_zero
          ∙ merged_same (file_peaks f) r now_is h.begun_is h.wet_is (ap (λ (k : ℕ). k + 1) h.taken_is) h.taken_is)

      module _ (Q : Plan) (marks : List ℕ) (p-is : p ≡ plan Q.shape marks) where
        abbrev merged_now : Rooms
        merged_now = after (plan Q.shape marks) begun

        follows_accepted :
            ShapeInRange Q.shape → squares Q.shape ≤ program_squares → length marks ≡ program_squares →
            ((i : ℕ) → i < squares Q.shape → get_or marks i 0 ≡ get_or Q.marks i 0) →
            ((i : ℕ) → i < squares Q.shape → shut Q i ≡ false → Held wet i (sheets ++ (sheet ∷ [])) merged_now) →
            Follows wet (numbers ++ (0 ∷ [])) (sheets ++ (sheet ∷ [])) true Q (tally_after t f r) (rooms_after t f r)
        follows_accepted shape few marks_long agree held =
            follows_as refl refl refl refl (sym (tally_accepted ∙ ap (λ (x : Plan). tallied wet (length numbers + 1) true x.shape 0) p-is))
            (sym (rooms-accepted ∙ ap (λ (x : Plan). after x begun) p-is))
            (record {
              wet_is = refl;
              taken_is = sym (length-append numbers (0 ∷ []));
              begun_is = refl;
              shape_is = refl;
              told =
                  noted-accepted h.told most (plan Q.shape marks) begun wet (length numbers + 1) (file_peaks f) sheet marks_long;
              few = few;
              agree = agree;
              none = λ z. not_both refl z;
              some = λ z. (omega (arith, length-append sheets (sheet ∷ [])), shape);
              held = held;
            })

    -- the first one, and a later one
    follows_first :
        begun ≡ false → Follows wet (numbers ++ (0 ∷ [])) (sheets ++ (sheet ∷ [])) true (file_plan f) (tally_after t f r) (rooms_after t f r)
    follows_first b =
        follows_accepted _ (pick_false _ _ (h.begun_is ∙ b)) (file_plan f) marks refl fine.shape fine.few
        (length-placed r.marks 0 (file_plan f).marks fits ∙ h.told.long.marks_long) agree
        (λ i low land.
        subst (λ (z : Bool). Held wet i (sheets ++ (sheet ∷ [])) (after (plan (file_plan f).shape marks) z))
        (sym b)
        (subst (λ (z : List Accepted). Held wet i (z ++ (sheet ∷ [])) (after (plan (file_plan f).shape marks) false))
        (sym (h.none b).0)
        (held_first (file_plan f) fine.few marks agree wet (length numbers + 1) (length numbers) (file_peaks f) r h.told.long i low land)))
      where
        fine : PlanFine (file_plan f)
        fine = accepted-fine begun q f e

        marks : List ℕ
        marks = placed r.marks 0 (file_plan f).marks

        fits : 0 + length (file_plan f).marks ≤ length r.marks
        fits = omega (arith, fine.marks_long, fine.few, h.told.long.marks_long)

        agree : (i : ℕ) → i < squares (file_plan f).shape → get_or marks i 0 ≡ get_or (file_plan f).marks i 0
        agree i low =
            ap (λ (k : ℕ). get_or marks k 0) (let z : i ≡ 0 + i = omega arith in z)
            ∙ placed_in r.marks 0 (file_plan f).marks fits i (omega (arith, low, fine.marks_long))

    follows_later : begun ≡ true → Follows wet (numbers ++ (0 ∷ [])) (sheets ++ (sheet ∷ [])) true q (tally_after t f r) (rooms_after t f r)
    follows_later b =
        follows_accepted _ (pick_true _ _ (h.begun_is ∙ b)) q r.marks (ap (λ (s : Shape). plan s r.marks) h.shape_is) (h.some b).1 h.few
        h.told.long.marks_long h.agree
        (λ i low land.
        subst (λ (z : Bool). Held wet i (sheets ++ (sheet ∷ [])) (after (plan q.shape r.marks) z))
        (sym b)
        (held_next q h.few r.marks h.agree wet (length numbers + 1) (length numbers) (file_peaks f) r h.told.long i low land sheets (h.some b).0
        (omega (arith, most, h.told.all_told)) (h.held i low land)))

  -- ---- either

  pub follows_one :
      Follows wet (numbers ++ (file_number begun q f ∷ [])) (sheets ++ pick (eqb (file_number begun q f) 0) (sheet ∷ []) []) (begun_with begun q f)
      (plan_with begun q f) (tally_after t f r) (rooms_after t f r)
  follows_one =
      by_test (eqb (file_number begun q f) 0)
      (λ y.
      let z = eqb-true (file_number begun q f) 0 y in
      by_test begun
      (λ b.
      follows_as (numbers_as z) (sheets_as y) (sym (ap (λ (c : Bool). c || eqb (file_number begun q f) 0) b)) (sym (pick_true _ _ b)) refl refl
      (follows_later z b))
      (λ b.
      follows_as (numbers_as z) (sheets_as y) (sym (ap (λ (c : Bool). c || eqb (file_number begun q f) 0) b ∙ y))
      (sym (pick_false _ _ b ∙ pick_true _ _ y)) refl refl (follows_first z b)))
      (λ y.
      let d = eqb-false (file_number begun q f) 0 y in
      follows_as refl (sym (ap (λ (l : List Accepted). sheets ++ l) (pick_false (sheet ∷ []) [] y) ∙ append-nil sheets))
      (sym (ap (λ (c : Bool). begun || c) y ∙ or_none begun)) (sym (ap (λ (x : Plan). pick begun q x) (pick_false _ _ y) ∙ pick_same begun q))
      (sym (tally_refused d)) (sym (rooms-refused d)) (follows_refused d))
    where
      numbers_as : file_number begun q f ≡ 0 → numbers ++ (0 ∷ []) ≡ numbers ++ (file_number begun q f ∷ [])
      numbers_as z = ap (λ (n : ℕ). numbers ++ (n ∷ [])) (sym z)

      sheets_as : eqb (file_number begun q f) 0 ≡ true → sheets ++ (sheet ∷ []) ≡ sheets ++ pick (eqb (file_number begun q f) 0) (sheet ∷ []) []
      sheets_as y = ap (λ (l : List Accepted). sheets ++ l) (sym (pick_true (sheet ∷ []) [] y))

      or_none : (b : Bool) → (b || false) ≡ b
      or_none true = refl
      or_none false = refl
