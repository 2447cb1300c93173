-- Laws of the squares that a step reaches: a row by its mask, squares that are not reached, whether all fit, and numbers written.
-- Assumes nothing.
use Rattle.std.proofs.Common.{◌≡◌, ℕ, ◌+◌, ◌-◌, ◌*◌, ◌/◌, ◌%◌, ◌<◌, ◌≤◌, Bool, true, false, not, ◌||◌, leb, List, length, get_or, set, sym, refl, ap, ◌∙◌, subst, arith, length-set, get_or-set_other, get_or-set_same, eqb-true, le-leb, leb-false, leb-true}
use mathlib.Core.Bool.{or-false}
use native.Mathlib.Decide.{dec_le, ℕ_discrete}
use lib.Seq.{set-get_or}
use borrow.Author.Tests.{lt-leb, not-false, not-true}
use Rattle.reckon.specs.Tests.{pick, all_below}
use Rattle.reckon.specs.Lists.{filled}
use Rattle.reckon.specs.Ranges.{most_depth}
use Rattle.reckon.proofs.TestLaws.{not_both, pick_true, pick_false, or_of, all_some, all_fails, all_ext}
use Rattle.reckon.proofs.ListLaws.{is_filled}
use Rattle.grid.specs.Squares.{north, east, south, west, sides, squares, beside, opposite, ShapeInRange}
use Rattle.grid.specs.Marks.{closed}
use Rattle.grid.specs.Masks.{bit_at}
use Rattle.grid.specs.Walks.{bit_of, beside_set}
use Rattle.grid.proofs.SquareLaws.{opposite_small}
use Rattle.grid.proofs.MarkLaws.{marked}
use Rattle.grid.proofs.BesideLaws.{or_clear, calm_around}
use Rattle.grid.proofs.WalkLaws.{bit_in_row}
use Rattle.ledger.specs.Runs.{Plan}
use Rattle.ledger.specs.Inner.Worlds.{of_depths}
use Rattle.ledger.specs.Flows.{shut, gone, sent, came}
use Rattle.ledger.specs.Record.{leaves_in}
use Rattle.ledger.specs.After.{remains, new_depth, depths_fit}
use Rattle.ledger.specs.Inner.Walks.{sends}
use Rattle.settling.specs.Inner.Settle.{moves_in, depth_by, depths_by, SentBy, WalkTells, RoomDepths, reached_row, reached_at, NoneBeyond, SameBeyond, fits_at, Written, skips_in, skips_by}
use Rattle.ledger.proofs.FlowLaws.{four-sides}
use Rattle.settling.proofs.SpreadLaws.{side_part}

-- ---- squares that are not reached

module _ (p : Plan) (rec rows : List ℕ) (by : SentBy p rec rows) where
  abbrev clear : ℕ → Type 0
  clear i = bit_of p.shape rows i ≡ false

  -- a square that is not among the senders sends nothing
  clear_none : {i : ℕ} → i < squares p.shape → clear i → shut p i ≡ false → gone (leaves_in rec) i ≡ 0
  unfolding sends
  clear_none {i} h c e = eqb-true _ 0 (not-false _ (rw e at (by i h c)))

  module _ (long : length p.marks ≡ squares p.shape) where
    sent_nothing : (i side : ℕ) → (beside p.shape i side < squares p.shape → clear (beside p.shape i side)) → 0 ≡ sent p (leaves_in rec) i side
    unfolding sent
    sent_nothing i side c = go (shut p at) refl
      where
        at : ℕ
        at = beside p.shape i side

        out : ℕ
        out = leaves_in rec at (opposite side)

        go : (b : Bool) → shut p at ≡ b → 0 ≡ pick (shut p at) 0 out
        go true e = sym (pick_true _ _ e)
        go false e =
            let inside : at < squares p.shape = omega (arith, marked p.marks at e) in
            let none : 0 ≡ out = omega (arith, side_part (leaves_in rec) at (opposite side) (opposite_small side), clear_none inside (c inside) e) in
            none ∙ sym (pick_false _ _ e)

    -- nothing comes to a square that no sender is beside
    came_nothing : ShapeInRange p.shape → {i : ℕ} → i < squares p.shape →
        bit_at (beside_set rows (i / p.shape.columns)) (i % p.shape.columns) ≡ false → came p (leaves_in rec) i ≡ 0
    unfolding came
    came_nothing f {i} h c =
        let around = calm_around p.shape rows f h c in
        let none : (side : ℕ) → side < sides → 0 ≡ sent p (leaves_in rec) i side = λ side l. sent_nothing i side (around.1 side l) in
        sym
        (four-sides (sent p (leaves_in rec) i) (none north (omega arith)) (none east (omega arith)) (none south (omega arith)) (none west (omega arith)))

-- a square that is not reached, if it is not closed, has no water before and none after
module _ {p : Plan} {rec depths lasts left worked senders : List ℕ} (t : WalkTells p rec depths lasts left worked senders) (f : ShapeInRange p.shape)
    (l : length p.marks ≡ squares p.shape) where
  module _ {i : ℕ} (h : i < squares p.shape) (c : reached_at p.shape worked senders i ≡ false) (o : shut p i ≡ false) where
    both_clear :
        (bit_at (get_or worked (i / p.shape.columns) 0) (i % p.shape.columns) ≡ false)
        × (bit_at (beside_set senders (i / p.shape.columns)) (i % p.shape.columns) ≡ false)
    unfolding reached_at reached_row
    both_clear = or_clear _ _ _ c

    idle_there : bit_of p.shape worked i ≡ false
    unfolding bit_of
    idle_there = both_clear.0

    dry-before : get_or depths i 0 ≡ 0
    dry-before = (t.idle i h idle_there o).dry

    dry-after : depth_by p rec depths i ≡ 0
    unfolding new_depth remains
    dry-after =
        let idle = t.idle i h idle_there o in
        omega (arith, idle.dry, idle.unadded, came_nothing p rec senders t.sent l f h both_clear.1)

  pub room_beyond : {room : List ℕ} → RoomDepths p rec depths room → NoneBeyond p worked senders room
  room_beyond r i h c o = r.are i h o ∙ dry-after h c o

  pub same_beyond : {room : List ℕ} → RoomDepths p rec depths room → SameBeyond p worked senders depths room
  same_beyond r i h c o = dry-before h c o ∙ sym (room_beyond r i h c o)

-- ---- whether all fit

module _ (marks room : List ℕ) where
  pub fits_low : (i : ℕ) → get_or room i 0 ≤ most_depth → true ≡ fits_at marks room i
  unfolding fits_at
  fits_low i h = sym (or_of (closed marks i) (leb (get_or room i 0) most_depth) (λ z. le-leb (get_or room i 0) most_depth h))

  pub fits_closed : (i : ℕ) {b : Bool} → most_depth < get_or room i 0 → b ≡ closed marks i → b ≡ fits_at marks room i
  unfolding fits_at
  fits_closed i h e = e ∙ rw (lt-leb (get_or room i 0) most_depth h) (sym (or-false (closed marks i)))

  -- where the room has nothing
  pub fits_none : (i : ℕ) → (closed marks i ≡ false → get_or room i 0 ≡ 0) → fits_at marks room i ≡ true
  unfolding fits_at
  fits_none i none = or_of (closed marks i) (leb (get_or room i 0) most_depth) (λ z. le-leb (get_or room i 0) most_depth (omega (arith, none z)))

  -- where one of the squares up to a square does not fit, not all up to a later one do
  pub fails_beyond : {m n : ℕ} → m ≤ n → all_below m (fits_at marks room) ≡ false → all_below n (fits_at marks room) ≡ false
  fails_beyond {m} {n} h e =
      let some = all_some m (fits_at marks room) e in
      all_fails n (fits_at marks room) some.0 (omega (arith, h, some.1.0)) some.1.1

-- the room's new depths fit where the record's do
pub fits_are :
    {p : Plan} {rec depths room : List ℕ} → RoomDepths p rec depths room →
    all_below (squares p.shape) (fits_at p.marks room) ≡ depths_fit p (moves_in rec 0) (of_depths depths)
unfolding depths_fit fits_at
fits_are {p} {rec} {depths} {room} r = all_ext (squares p.shape) _ _ (λ i h. go i h (shut p i) refl)
  where
    go :
        (i : ℕ) → i < squares p.shape → (b : Bool) → shut p i ≡ b →
        (shut p i || leb (get_or room i 0) most_depth) ≡ (shut p i || leb (new_depth p (moves_in rec 0) (of_depths depths) i) most_depth)
    go i h true e = rw e
    go i h false e = ap (λ (k : ℕ). shut p i || leb k most_depth) (r.are i h e)

-- ---- written from one square up to another

-- a store of the number that stands there, or of another
pub store_chosen :
    (l : List ℕ) (i v : ℕ) {b c : Bool} {x : ℕ} → x ≡ pick b (get_or l i 0) v → b ≡ c → set l i x ≡ pick c l (set l i v)
store_chosen l i v {b} {c} {x} e q = go c refl
  where
    go : (d : Bool) → c ≡ d → set l i x ≡ pick c l (set l i v)
    go true z = ap (set l i) (e ∙ pick_true _ _ (q ∙ z)) ∙ (set-get_or l i 0 ∙ sym (pick_true _ _ z))
    go false z = ap (set l i) (e ∙ pick_false _ _ (q ∙ z)) ∙ sym (pick_false _ _ z)

module _ {skips : ℕ → Bool} {amount : ℕ → ℕ} where
  -- one square: the amount is stored, unless it is skipped
  pub one_written :
      {i v : ℕ} {b : Bool} {old new : List ℕ} → i < length old → b ≡ skips i → new ≡ pick b old (set old i v) → v ≡ amount i →
      Written skips amount i (i + 1) old new
  one_written {i} {v} {b} {old} {new} h s e q = go (skips i) refl
    where
      go : (c : Bool) → skips i ≡ c → Written skips amount i (i + 1) old new
      go true c =
          let same : new ≡ old = e ∙ pick_true _ _ (s ∙ c) in
          record {
            long = ap length same;
            written = λ k x y o. not_both c (subst (λ (j : ℕ). skips j ≡ false) (let z : k ≡ i = omega arith in z) o);
            kept = λ k f. ap (λ (l : List ℕ). get_or l k 0) same;
          }
      go false c =
          let stored : new ≡ set old i v = e ∙ pick_false _ _ (s ∙ c) in
          let here : get_or new i 0 ≡ v = ap (λ (l : List ℕ). get_or l i 0) stored ∙ get_or-set_same old i v 0 h in
          record {
            long = ap length stored ∙ length-set old i v;
            written = λ k x y o. let z : k ≡ i = omega arith in subst (λ (j : ℕ). get_or new j 0 ≡ amount j) (sym z) (here ∙ q);
            kept = λ k f. other stored k f (ℕ_discrete k i);
          }
        where
          other :
              new ≡ set old i v → (k : ℕ) → (i ≤ k → k < i + 1 → skips k ≡ true) → Dec (k ≡ i) → get_or new k 0 ≡ get_or old k 0
          other stored k f (yes z) = not_both (subst (λ (j : ℕ). skips j ≡ true) z (f (omega arith) (omega arith))) c
          other stored k f (no z) = ap (λ (l : List ℕ). get_or l k 0) stored ∙ get_or-set_other old i k v 0 z

  -- none, where those that are not skipped have their amounts, or all are skipped
  pub right_written :
      {from to : ℕ} {old : List ℕ} → ((i : ℕ) → from ≤ i → i < to → skips i ≡ false → get_or old i 0 ≡ amount i) → Written skips amount from to old old
  right_written f = record { long = refl; written = f; kept = λ i g. refl }

  pub skip_written :
      {from to : ℕ} {old : List ℕ} → ((i : ℕ) → from ≤ i → i < to → skips i ≡ true) → Written skips amount from to old old
  skip_written f = right_written (λ i x y o. not_both (f i x y) o)

  -- between the same squares, said otherwise
  pub same_written :
      {from n m : ℕ} {old new : List ℕ} → Written skips amount from n old new → n ≡ m → Written skips amount from m old new
  same_written {from} {n} {m} {old} {new} w e = subst (λ (k : ℕ). Written skips amount from k old new) e w

  -- some squares, and those after them
  pub then_written :
      {a b c : ℕ} {old mid new : List ℕ} → a ≤ b → b ≤ c → Written skips amount a b old mid → Written skips amount b c mid new →
      Written skips amount a c old new
  then_written {a} {b} {c} {old} {mid} {new} h l v w =
      record {
        long = w.long ∙ v.long;
        written = λ i x y o. go i x y o (dec_le b i);
        kept = λ i f. w.kept i (λ x y. f (omega arith) y) ∙ v.kept i (λ x y. f x (omega arith));
      }
    where
      go : (i : ℕ) → a ≤ i → i < c → skips i ≡ false → Dec (b ≤ i) → get_or new i 0 ≡ amount i
      go i x y o (yes z) = w.written i z y o
      go i x y o (no z) = w.kept i (λ m n. absurd (omega arith)) ∙ v.written i x (omega arith) o

-- a row's squares are skipped alike by its own mask and by those of all rows
pub alike_written :
    {skips skips' : ℕ → Bool} {amount : ℕ → ℕ} {from to : ℕ} {old new : List ℕ} → ((i : ℕ) → from ≤ i → i < to → skips i ≡ skips' i) →
    Written skips amount from to old new → Written skips' amount from to old new
alike_written f w =
    record {
      long = w.long;
      written = λ i x y o. w.written i x y (f i x y ∙ o);
      kept = λ i g. w.kept i (λ x y. f i x y ∙ g x y);
    }

-- all squares: a list written where it is not skipped, and right already where it is skipped but not closed
all_written :
    {closes skips : ℕ → Bool} {amount : ℕ → ℕ} {n : ℕ} {value : ℕ → ℕ} {old new : List ℕ} → Written skips amount 0 n old new →
    ((i : ℕ) → i < n → closes i ≡ true → skips i ≡ true) → ((i : ℕ) → i < n → closes i ≡ false → skips i ≡ false → amount i ≡ value i) →
    ((i : ℕ) → i < n → closes i ≡ false → skips i ≡ true → get_or old i 0 ≡ value i) → new ≡ filled n closes value old
all_written {closes} {skips} {amount} {n} {value} {old} {new} w sure is was =
    is_filled n closes value old new w.long (λ i l. go i (leb n i) (closes i) (skips i) refl refl refl)
  where
    go :
        (i : ℕ) (a b c : Bool) → leb n i ≡ a → closes i ≡ b → skips i ≡ c →
        get_or new i 0 ≡ pick (leb n i || closes i) (get_or old i 0) (value i)
    go i true b c x y z =
        let t : (leb n i || closes i) ≡ true = rw x in
        w.kept i (λ u v. absurd (omega (arith, leb-true n i x))) ∙ sym (pick_true _ _ t)
    go i false true c x y z =
        let t : (leb n i || closes i) ≡ true = rw (x, y) in
        w.kept i (λ u v. sure i v y) ∙ sym (pick_true _ _ t)
    go i false false true x y z =
        let t : (leb n i || closes i) ≡ false = rw (x, y) in
        w.kept i (λ u v. z) ∙ (was i (leb-false n i x) y z ∙ sym (pick_false _ _ t))
    go i false false false x y z =
        let t : (leb n i || closes i) ≡ false = rw (x, y) in
        w.written i (omega arith) (leb-false n i x) z ∙ (is i (leb-false n i x) y z ∙ sym (pick_false _ _ t))

-- ---- the squares of a row that are skipped

module _ (marks : List ℕ) (first mask column : ℕ) where
  abbrev at : ℕ
  at = first + column

  own_bit : bit_at mask (at - first) ≡ bit_at mask column
  own_bit = ap (bit_at mask) (let z : at - first ≡ column = omega arith in z)

  -- a column that the mask does not have
  pub skips_clear : bit_at mask column ≡ false → skips_in marks first mask at ≡ true
  unfolding skips_in
  skips_clear c = or_of (closed marks at) _ (λ z. ap not (own_bit ∙ c))

  -- one that it has is skipped where it is closed
  pub skips_closed : bit_at mask column ≡ true → closed marks at ≡ skips_in marks first mask at
  unfolding skips_in
  skips_closed c = sym (rw (ap not (own_bit ∙ c)) (or-false (closed marks at)))

-- by its own mask a row's squares are skipped as by those of all rows
pub skips_row :
    (p : Plan) (row : ℕ) {first : ℕ} → first ≡ row * p.shape.columns → (rows : List ℕ) {mask : ℕ} → mask ≡ get_or rows row 0 →
    (i : ℕ) → first ≤ i → i < first + p.shape.columns → skips_in p.marks first mask i ≡ skips_by p rows i
unfolding skips_in skips_by bit_of
skips_row p row {first} e rows q i a b =
    let s = p.shape in
    let at : first + (i - first) ≡ i = omega arith in
    ap (λ (c : Bool). shut p i || not c)
    (ap (λ (x : ℕ). bit_at x (i - first)) q
    ∙ (sym (bit_in_row s row e (λ r. get_or rows r 0) (let l : i - first < s.columns = omega arith in l))
    ∙ ap (λ (k : ℕ). bit_at (get_or rows (k / s.columns) 0) (k % s.columns)) at))

-- ---- the water after a step

or_left : (a b : Bool) → a ≡ true → (a || b) ≡ true
or_left a b e = rw e

module _ {p : Plan} {rec depths lasts left worked senders : List ℕ} (t : WalkTells p rec depths lasts left worked senders) where
  pub lasts_written :
      {new : List ℕ} → Written (skips_by p worked) (λ i. get_or left i 0) 0 (squares p.shape) lasts new →
      new ≡ filled (squares p.shape) (shut p) (gone (leaves_in rec)) lasts
  unfolding skips_by
  lasts_written w =
      all_written w (λ i h z. or_left (shut p i) (not (bit_of p.shape worked i)) z)
      (λ i h o z. t.left_is i h (not-false _ (rw o at z)) o)
      (λ i h o z.
      let clear : bit_of p.shape worked i ≡ false = not-true _ (rw o at z) in
      t.still i h clear o ∙ sym (t.idle i h clear o).quiet)

pub depths-written :
    {p : Plan} {rec depths room new : List ℕ} → RoomDepths p rec depths room →
    Written (shut p) (λ i. get_or room i 0) 0 (squares p.shape) depths new → new ≡ depths_by p rec depths
depths-written r w = all_written w (λ i h z. z) (λ i h o z. r.are i h o) (λ i h o z. not_both z o)
