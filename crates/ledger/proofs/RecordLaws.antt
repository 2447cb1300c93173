-- Laws of a record that is written: squares written from the first on make a record.
-- Assumes nothing.
use mathlib.Core.Path.{◌≡◌, refl, sym, ap, ◌∙◌, subst}
use mathlib.Core.Bool.{true, false}
use mathlib.Core.List.{List, [], ◌∷◌, ◌++◌, append_assoc}
use Prim.Native.Nat.{ℕ, ◌+◌, ◌-◌, ◌≤◌, ◌<◌}
use native.Mathlib.Omega.{arith}
use lib.ListN.{length, get_or, take, drop, replicate, length-append, length-drop}
use lib.Seq.{take_at, take_all, length-take-le}
use Rattle.reckon.specs.Lists.{joined, placed}
use Rattle.reckon.proofs.TestLaws.{pick_true, pick_false}
use Rattle.reckon.proofs.ListLaws.{joined_none, joined_more, length-placed}
use Rattle.trials.specs.Ring.{slots_in, slot_start}
use Rattle.trials.proofs.RingLaws.{slot_within}
use Rattle.grid.specs.Squares.{north, east, south, west, sides, squares}
use Rattle.ledger.specs.Runs.{Plan}
use Rattle.ledger.specs.Flows.{Leaves, shut}
use Rattle.ledger.specs.Record.{head_words, square_words, record_size, word_place, square_record, record_of, room_slots, HeadPut, SquarePut}
use Rattle.ledger.specs.Inner.Walks.{RecordedTo}

-- ---- words placed

pub part_long : (a k : ℕ) (l : List ℕ) → a + k ≤ length l → length (take (a + k - a) (drop a l)) ≡ k
part_long a k l h =
    let e : a + k - a ≡ k = omega arith in
    rw e (length-take-le k (drop a l) (omega (arith, length-drop a l)))

-- what stands up to the end of what was placed
take-placed : (l : List ℕ) (a : ℕ) (v : List ℕ) → a + length v ≤ length l → take (a + length v) (placed l a v) ≡ take a l ++ v
unfolding placed
take-placed l a v h =
    ap (take (a + length v)) (sym (append_assoc (take a l) v (drop (length v) (drop a l))))
    ∙ take_at (take a l ++ v) (drop (length v) (drop a l)) (a + length v)
    (length-append (take a l) v ∙ ap (λ (k : ℕ). k + length v) (length-take-le a l (omega arith)))

-- ---- a record, square by square

module _ {p : Plan} {held lasted : ℕ} {out : Leaves} {last added soaked : ℕ → ℕ} where
  -- the head is put
  pub recorded_none : (old : List ℕ) {rec : List ℕ} → length old ≡ record_size p → HeadPut old held lasted rec → RecordedTo p held lasted out last added soaked 0 rec
  recorded_none old l e =
      let fits : 0 + length (held ∷ lasted ∷ []) ≤ length old = omega arith in
      record {
        long = ap length e ∙ (length-placed old 0 (held ∷ lasted ∷ []) fits ∙ l);
        so_far =
            ap (take head_words) e
            ∙ (take-placed old 0 (held ∷ lasted ∷ []) fits
            ∙ ap (λ (r : List ℕ). held ∷ lasted ∷ r) (sym (joined_none (square_record p out last added soaked))));
      }

  -- the next square's seven words are put
  recorded_next :
      {i : ℕ} {old new : List ℕ} (seven : List ℕ) → i < squares p.shape → length seven ≡ square_words → seven ≡ square_record p out last added soaked i →
      new ≡ placed old (word_place i north) seven → RecordedTo p held lasted out last added soaked i old → RecordedTo p held lasted out last added soaked (i + 1) new
  recorded_next {i} {old} seven h l s e b =
      let fits : word_place i north + length seven ≤ length old = omega (arith, b.long) in
      let next : word_place (i + 1) north ≡ word_place i north + length seven = omega arith in
      record {
        long = ap length e ∙ (length-placed old (word_place i north) seven fits ∙ b.long);
        so_far =
            rw (next, e) (take-placed old (word_place i north) seven fits)
            ∙ (ap (λ (r : List ℕ). r ++ seven) b.so_far
            ∙ ap (λ (r : List ℕ). held ∷ lasted ∷ r) (ap (λ (r : List ℕ). joined i (square_record p out last added soaked) ++ r) s ∙ sym (joined_more i (square_record p out last added soaked))));
      }

  module _ {i : ℕ} (h : i < squares p.shape) {old new : List ℕ} (b : RecordedTo p held lasted out last added soaked i old) where
    pub recorded_open :
        shut p i ≡ false → (leaves : List ℕ) {l a k : ℕ} → ((side : ℕ) → side < sides → get_or leaves side 0 ≡ out i side) → l ≡ last i → a ≡ added i → k ≡ soaked i →
        SquarePut old i leaves l a k new → RecordedTo p held lasted out last added soaked (i + 1) new
    unfolding square_record
    recorded_open c leaves f q r t e =
        recorded_next _ h refl
        (rw (f north (omega arith), f east (omega arith), f south (omega arith), f west (omega arith), q, r, t) (sym (pick_false _ _ c)))
        e b

    pub recorded_closed : shut p i ≡ true → new ≡ placed old (word_place i north) (replicate square_words 0) → RecordedTo p held lasted out last added soaked (i + 1) new
    unfolding square_record
    recorded_closed c e = recorded_next _ h refl (sym (pick_true _ _ c)) e b

  -- all squares are put
  pub recorded_whole : {i : ℕ} {rec : List ℕ} → i ≡ squares p.shape → RecordedTo p held lasted out last added soaked i rec → rec ≡ record_of p held lasted out last added soaked
  unfolding record_of
  recorded_whole {i} {rec} e b =
      sym (take_all (word_place i north) rec (omega (arith, b.long)))
      ∙ (b.so_far ∙ ap (λ (k : ℕ). held ∷ lasted ∷ joined k (square_record p out last added soaked)) e)

-- ---- the slots of a room

pub slots_of : (p : Plan) (records : List ℕ) {size slots : ℕ} → size ≡ record_size p → slots ≡ slots_in size (length records) → slots ≡ room_slots p records
unfolding room_slots
slots_of p records e s = s ∙ ap (λ (k : ℕ). slots_in k (length records)) e

pub slot_fits :
    (p : Plan) (records : List ℕ) {size slots slot : ℕ} → size ≡ record_size p → slots ≡ slots_in size (length records) → slot < slots →
    slot_start size slot + size ≤ length records
slot_fits p records {size} {slots} {slot} e s h =
    slot_within size (omega arith) (subst (λ (k : ℕ). slot < k) s h)
