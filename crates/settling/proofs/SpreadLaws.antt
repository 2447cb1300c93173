-- Laws of spreading: what the squares so far have sent to a square and what remains of it; one square more, worked or not; and all of them.
-- Assumes nothing.
use Rattle.std.proofs.Common.{◌≡◌, ℕ, zero, suc, ◌+◌, ◌-◌, ◌*◌, ◌%◌, ◌^◌, ◌<◌, ◌≤◌, Bool, true, false, eqb, ltb, List, length, get_or, set, sym, refl, ap, ◌∙◌, subst, arith, length-set, get_or-set_other, get_or-set_same, le-ltb, lt-ltb, eq-eqb, ne_eqb}
use native.Mathlib.Decide.{dec_lt, ℕ_discrete}
use Rattle.reckon.specs.Tests.{pick}
use Rattle.reckon.specs.Ranges.{most_depth}
use Rattle.reckon.proofs.TestLaws.{pick_true, pick_false, pick_both}
use Rattle.reckon.proofs.ListLaws.{sum_none, sum_more, sum_whole}
use Rattle.grid.specs.declared.squares.Shape.{Shape}
use Rattle.grid.specs.Squares.{north, east, south, west, sides, squares, beside, opposite}
use Rattle.grid.proofs.SquareLaws.{opposite-opposite, opposite_small, there_and_back}
use Rattle.grid.proofs.MarkLaws.{marked}
use Rattle.ledger.specs.Runs.{Plan}
use Rattle.ledger.specs.Inner.Worlds.{of_depths}
use Rattle.ledger.specs.Flows.{Leaves, four_sides, shut, gone, sent, came, off_side, off_square, off_grid, soaked_square, soaked_grid}
use Rattle.ledger.specs.Record.{leaves_in, added_in, soaked_in}
use Rattle.ledger.specs.After.{remains, new_depth}
use Rattle.settling.specs.declared.spread.Lost.{Lost}
use Rattle.settling.specs.Inner.Settle.{moves_in, Spreads, IdleAt, RoomAdded, came_below, stays_below, brings, brings_all, Grown, most_in_room, SpaceLeft, SpreadTo, SpreadAll}
use Rattle.ledger.proofs.FlowLaws.{four-sides, sent_none, soaked_open}

-- what leaves through a side is part of what leaves
pub side_part : (out : Leaves) (i side : ℕ) → side < sides → out i side ≤ gone out i
unfolding gone
side_part out i zero h = omega arith
side_part out i (suc zero) h = omega arith
side_part out i (suc (suc zero)) h = omega arith
side_part out i (suc (suc (suc zero))) h = omega arith
side_part out i (suc (suc (suc (suc _)))) h = absurd (omega arith)

-- ---- numbers of squares below one

none_below : (b x : ℕ) → pick (ltb b 0) x 0 ≡ 0
none_below b x = pick_false _ _ (le-ltb b 0 (omega arith))

-- below the next: below this one, or this one
one_more_below : (b n x : ℕ) → pick (ltb b (n + 1)) x 0 ≡ pick (ltb b n) x 0 + pick (eqb b n) x 0
one_more_below b n x = go (dec_lt b n) (ℕ_discrete b n)
  where
    go : Dec (b < n) → Dec (b ≡ n) → pick (ltb b (n + 1)) x 0 ≡ pick (ltb b n) x 0 + pick (eqb b n) x 0
    go (yes l) d =
        omega (
          arith,
          pick_true x 0 (lt-ltb b (n + 1) (omega arith)),
          pick_true x 0 (lt-ltb b n l),
          pick_false x 0 (ne_eqb b n (λ z. omega (arith, z))),
        )
    go (no l) (yes e) =
        omega (
          arith,
          pick_true x 0 (lt-ltb b (n + 1) (omega arith)),
          pick_false x 0 (le-ltb b n (omega arith)),
          pick_true x 0 (eq-eqb b n e),
        )
    go (no l) (no d) =
        omega (
          arith,
          pick_false x 0 (le-ltb b (n + 1) (omega (arith, d))),
          pick_false x 0 (le-ltb b n (omega arith)),
          pick_false x 0 (ne_eqb b n d),
        )

-- ---- what the squares so far have sent to a square

module _ (p : Plan) (out : Leaves) where
  came_none : (i : ℕ) → came_below p out 0 i ≡ 0
  unfolding came_below
  came_none i =
      let s = p.shape in
      omega (
        arith,
        none_below (beside s i north) (sent p out i north),
        none_below (beside s i east) (sent p out i east),
        none_below (beside s i south) (sent p out i south),
        none_below (beside s i west) (sent p out i west),
      )

  -- what the n-th square sends to a square
  abbrev from_it : ℕ → ℕ → ℕ → ℕ
  from_it n i side = pick (eqb (beside p.shape i side) n) (sent p out i side) 0

  came_next : (n i : ℕ) → came_below p out (n + 1) i ≡ came_below p out n i + four_sides (from_it n i)
  unfolding came_below
  came_next n i =
      let s = p.shape in
      omega (
        arith,
        one_more_below (beside s i north) n (sent p out i north),
        one_more_below (beside s i east) n (sent p out i east),
        one_more_below (beside s i south) n (sent p out i south),
        one_more_below (beside s i west) n (sent p out i west),
      )

  -- nothing, where it is closed or sends nothing
  module _ (n : ℕ) (none : shut p n ≡ false → gone out n ≡ 0) where
    from_none : (i side : ℕ) → from_it n i side ≡ 0
    unfolding sent
    from_none i side = go (ℕ_discrete (beside p.shape i side) n)
      where
        side' : ℕ
        side' = opposite side

        sent_nothing : (b : Bool) → shut p n ≡ b → pick (shut p n) 0 (out n side') ≡ 0
        sent_nothing true e = pick_true _ _ e
        sent_nothing false e = pick_false _ _ e ∙ omega (arith, side_part out n side' (opposite_small side), none e)

        go : Dec (beside p.shape i side ≡ n) → from_it n i side ≡ 0
        go (yes e) = pick_true _ _ (eq-eqb (beside p.shape i side) n e) ∙ (ap (λ (j : ℕ). pick (shut p j) 0 (out j side')) e ∙ sent_nothing (shut p n) refl)
        go (no d) = pick_false _ _ (ne_eqb (beside p.shape i side) n d)

    pub came_same : (i : ℕ) → came_below p out (n + 1) i ≡ came_below p out n i
    came_same i = omega (arith, came_next n i, from_none i north, from_none i east, from_none i south, from_none i west)

  -- else what leaves it through the opposite side, if that leads there
  module _ {n : ℕ} (inside : n < squares p.shape) (o : shut p n ≡ false) {i : ℕ} (h : i < squares p.shape) where
    from_opposite :
        (side : ℕ) → side < sides →
        from_it n i side ≡ pick (eqb (beside p.shape n (opposite side)) i) (out n (opposite side)) 0
    unfolding sent
    from_opposite side k = go (ℕ_discrete (beside s i side) n)
      where
        s : Shape
        s = p.shape

        go : Dec (beside s i side ≡ n) → from_it n i side ≡ pick (eqb (beside s n (opposite side)) i) (out n (opposite side)) 0
        go (yes e) =
            let back : beside s n (opposite side) ≡ i =
            ap (λ (j : ℕ). beside s j (opposite side)) (sym e) ∙ there_and_back s h side k (omega (arith, e, inside)) in
            pick_true _ _ (eq-eqb (beside p.shape i side) n e)
            ∙ (ap (λ (j : ℕ). pick (shut p j) 0 (out j (opposite side))) e
            ∙ (pick_false _ _ o ∙ sym (pick_true _ _ (eq-eqb (beside s n (opposite side)) i back))))
        go (no d) =
            let forth : beside s n (opposite side) ≡ i → ⊥ =
            λ z.
            d
            (ap (λ (j : ℕ). beside s j side) (sym z)
            ∙ (ap (beside s (beside s n (opposite side))) (sym (opposite-opposite side k))
            ∙ there_and_back s inside (opposite side) (opposite_small side) (omega (arith, z, h)))) in
            pick_false _ _ (ne_eqb (beside p.shape i side) n d) ∙ sym (pick_false _ _ (ne_eqb (beside s n (opposite side)) i forth))

  -- all of them
  pub came_all : length p.marks ≡ squares p.shape → (i : ℕ) → came_below p out (squares p.shape) i ≡ came p out i
  unfolding came_below came
  came_all l i =
      four-sides (sent p out i) (whole north) (whole east) (whole south) (whole west)
    where
      whole : (side : ℕ) → pick (ltb (beside p.shape i side) (squares p.shape)) (sent p out i side) 0 ≡ sent p out i side
      whole side = go (dec_lt (beside p.shape i side) (squares p.shape))
        where
          go :
              Dec (beside p.shape i side < squares p.shape) →
              pick (ltb (beside p.shape i side) (squares p.shape)) (sent p out i side) 0 ≡ sent p out i side
          go (yes k) = pick_true _ _ (lt-ltb (beside p.shape i side) (squares p.shape) k)
          go (no k) = pick_false _ _ (le-ltb (beside p.shape i side) (squares p.shape) (omega (arith, k))) ∙ sent_none p out i side refl l (omega (arith, k))

-- what the n-th square brings, by its own sides
module _ (p : Plan) (rec : List ℕ) {n : ℕ} (inside : n < squares p.shape) (o : shut p n ≡ false) where
  pub came_more : {i : ℕ} → i < squares p.shape → came_below p (leaves_in rec) (n + 1) i ≡ came_below p (leaves_in rec) n i + brings_all p rec n i
  unfolding brings opposite
  came_more {i} h =
      omega (
        arith,
        came_next p (leaves_in rec) n i,
        from_opposite p (leaves_in rec) inside o h north (omega arith),
        from_opposite p (leaves_in rec) inside o h east (omega arith),
        from_opposite p (leaves_in rec) inside o h south (omega arith),
        from_opposite p (leaves_in rec) inside o h west (omega arith),
      )

-- ---- what remains of a square

module _ (p : Plan) (rec depths : List ℕ) where
  abbrev stays : ℕ → ℕ
  stays i = remains p (moves_in rec 0) (of_depths depths) i

  stays_none : (i : ℕ) → stays_below p rec depths 0 i ≡ 0
  unfolding stays_below
  stays_none i = none_below i (stays i)

  pub stays_before : (i : ℕ) → stays_below p rec depths i i ≡ 0
  unfolding stays_below
  stays_before i = pick_false _ _ (le-ltb i i (omega arith))

  stays_at : (i : ℕ) → stays_below p rec depths (i + 1) i ≡ stays i
  unfolding stays_below
  stays_at i = pick_true _ _ (lt-ltb i (i + 1) (omega arith))

  stays_other : (n i : ℕ) → (i ≡ n → ⊥) → stays_below p rec depths (n + 1) i ≡ stays_below p rec depths n i
  unfolding stays_below
  stays_other n i d = omega (arith, one_more_below i n (stays i), pick_false (stays i) 0 (ne_eqb i n d))

  stays_all : (i : ℕ) → i < squares p.shape → stays_below p rec depths (squares p.shape) i ≡ stays i
  unfolding stays_below
  stays_all i h = pick_true _ _ (lt-ltb i (squares p.shape) h)

  stays_small : (n i : ℕ) → stays_below p rec depths n i ≤ get_or depths i 0
  unfolding stays_below remains
  stays_small n i = pick_both (λ (k : ℕ). k ≤ get_or depths i 0) _ (omega arith) (omega arith)

  pub stays_is : (i : ℕ) → get_or depths i 0 - (gone (leaves_in rec) i + soaked_in rec i) ≡ stays i
  unfolding remains
  stays_is i = omega arith

-- ---- how much a room's number can be

module _ {p : Plan} {rec depths : List ℕ} (g : Spreads p rec depths) where
  pub leaves_few : {i : ℕ} → i < squares p.shape → shut p i ≡ false → (side : ℕ) → side < sides → leaves_in rec i side ≤ most_depth
  leaves_few {i} h o side k = omega (arith, side_part (leaves_in rec) i side k, g.covered i h o, g.depths_to i h o)

  sent_few : (i side : ℕ) → sent p (leaves_in rec) i side ≤ most_depth
  unfolding sent
  sent_few i side = go (shut p at) refl
    where
      at : ℕ
      at = beside p.shape i side

      go : (b : Bool) → shut p at ≡ b → pick (shut p at) 0 (leaves_in rec at (opposite side)) ≤ most_depth
      go true e = omega (arith, pick_true 0 (leaves_in rec at (opposite side)) e)
      go false e =
          omega (
            arith,
            pick_false 0 (leaves_in rec at (opposite side)) e,
            leaves_few (omega (arith, marked p.marks at e, g.recorded.marks_long)) e (opposite side) (opposite_small side),
          )

  came_few : (n i : ℕ) → came_below p (leaves_in rec) n i ≤ 4 * most_depth
  unfolding came_below
  came_few n i = omega (arith, side north, side east, side south, side west)
    where
      side : (k : ℕ) → pick (ltb (beside p.shape i k) n) (sent p (leaves_in rec) i k) 0 ≤ most_depth
      side k = pick_both (λ (x : ℕ). x ≤ most_depth) _ (sent_few i k) (omega arith)

  -- the room so far
  module _ {n : ℕ} {lost : Lost} {room : List ℕ} (t : SpreadTo p rec depths n lost room) where
    pub room_few : {i : ℕ} → i < squares p.shape → shut p i ≡ false → get_or room i 0 ≤ 6 * most_depth
    room_few {i} h o =
        omega (arith, t.room_is i h o, g.added_to i h o, came_few n i, stays_small p rec depths n i, g.depths_to i h o)

  -- and with what remains of the next square
  module _ {n : ℕ} {lost : Lost} {room : List ℕ} (t : SpreadTo p rec depths n lost room) (inside : n < squares p.shape) (o : shut p n ≡ false) where
    pub next_few : get_or room n 0 + stays p rec depths n ≤ 6 * most_depth
    unfolding remains
    next_few = omega (arith, t.room_is n inside o, g.added_to n inside o, came_few n n, stays_before p rec depths n, g.depths_to n inside o)

-- ---- sent to a neighbour

module _ (p : Plan) (rec : List ℕ) (n side : ℕ) where
  -- one that is on the grid, where a square not closed has space for it
  pub brought :
      {at amount : ℕ} {old new : List ℕ} → at ≡ beside p.shape n side → at < length old → amount ≡ leaves_in rec n side →
      (shut p at ≡ false → get_or old at 0 + amount < 2 ^ 32) → new ≡ set old at ((get_or old at 0 + amount) % 2 ^ 32) → Grown p (brings p rec n side) old new
  unfolding brings
  brought {at} {amount} {old} {new} e h q fits w =
      record { long = ap length w ∙ length-set old at _; grown = λ i k o. go i k o (ℕ_discrete i at) }
    where
      v : ℕ
      v = (get_or old at 0 + amount) % 2 ^ 32

      go :
          (i : ℕ) → i < squares p.shape → shut p i ≡ false → Dec (i ≡ at) →
          get_or new i 0 ≡ get_or old i 0 + pick (eqb (beside p.shape n side) i) (leaves_in rec n side) 0
      go i k o (yes z) =
          let here : get_or new i 0 ≡ v =
          ap (λ (l : List ℕ). get_or l i 0) w ∙ subst (λ (j : ℕ). get_or (set old at v) j 0 ≡ v) (sym z) (get_or-set_same old at v 0 h) in
          let whole : v ≡ get_or old at 0 + amount = omega (arith, fits (subst (λ (j : ℕ). shut p j ≡ false) z o)) in
          here
          ∙ (whole
          ∙ (ap (λ (j : ℕ). get_or old j 0 + amount) (sym z)
          ∙ ap (λ (k : ℕ). get_or old i 0 + k) (q ∙ sym (pick_true _ _ (eq-eqb (beside p.shape n side) i (sym e ∙ sym z))))))
      go i k o (no z) =
          let other : get_or new i 0 ≡ get_or old i 0 = ap (λ (l : List ℕ). get_or l i 0) w ∙ get_or-set_other old at i v 0 z in
          omega (arith, other, pick_false (leaves_in rec n side) 0 (ne_eqb (beside p.shape n side) i (λ y. z (sym y ∙ sym e))))

  -- one that is not: nothing is brought
  pub brought_none : {room : List ℕ} → squares p.shape ≤ beside p.shape n side → Grown p (brings p rec n side) room room
  unfolding brings
  brought_none h =
      record {
        long = refl;
        grown = λ i k o. omega (arith, pick_false (leaves_in rec n side) 0 (ne_eqb (beside p.shape n side) i (λ y. omega (arith, y, k, h))));
      }

  -- a room with space for more has so much less of it after that
  pub space-after :
      (more : ℕ) {old new : List ℕ} → SpaceLeft p (more + most_depth) old → Grown p (brings p rec n side) old new → leaves_in rec n side ≤ most_depth →
      SpaceLeft p more new
  unfolding brings
  space-after more r g few i k o =
      omega (
        arith,
        r i k o,
        g.grown i k o,
        pick_both (λ (x : ℕ). x ≤ most_depth) (eqb (beside p.shape n side) i) few (let z : 0 ≤ most_depth = omega arith in z),
      )

-- all four
pub brought_all :
    (p : Plan) (rec : List ℕ) (n : ℕ) {a b c d e : List ℕ} → Grown p (brings p rec n north) a b → Grown p (brings p rec n east) b c →
    Grown p (brings p rec n south) c d → Grown p (brings p rec n west) d e → Grown p (brings_all p rec n) a e
brought_all p rec n x y z w =
    record {
      long = w.long ∙ (z.long ∙ (y.long ∙ x.long));
      grown = λ i k o. omega (arith, x.grown i k o, y.grown i k o, z.grown i k o, w.grown i k o);
    }

-- the room with what remains of the next square: space for what that sends
pub space_next :
    {p : Plan} {rec depths : List ℕ} (g : Spreads p rec depths) {n : ℕ} {lost : Lost} {room mid : List ℕ} {x : ℕ} → SpreadTo p rec depths n lost room →
    n < squares p.shape → shut p n ≡ false → x ≡ get_or room n 0 + stays p rec depths n → mid ≡ set room n x → SpaceLeft p (4 * most_depth) mid
space_next {p} {rec} {depths} g {n} {lost} {room} {mid} {x} t inside o q e i h c = go (ℕ_discrete i n)
  where
    go : Dec (i ≡ n) → get_or mid i 0 + 4 * most_depth ≤ most_in_room
    go (yes z) =
        let here : get_or mid i 0 ≡ x =
        ap (λ (l : List ℕ). get_or l i 0) e ∙ subst (λ (j : ℕ). get_or (set room n x) j 0 ≡ x) (sym z) (get_or-set_same room n x 0 (omega (arith, t.long))) in
        omega (arith, here, q, next_few g t inside o)
    go (no z) =
        let other : get_or mid i 0 ≡ get_or room i 0 = ap (λ (l : List ℕ). get_or l i 0) e ∙ get_or-set_other room n i x 0 z in
        omega (arith, other, room_few g t h c)

-- ---- one square more

module _ (p : Plan) (rec depths : List ℕ) where
  pub spread_none : {room : List ℕ} → RoomAdded p rec room → SpreadTo p rec depths 0 (record { off = 0; soaked = 0 }) room
  spread_none a =
      record {
        off_is = sym (sum_none (off_square p (leaves_in rec)));
        soaked_is = sym (sum_none (soaked_square p (soaked_in rec)));
        room_is = λ i h o. omega (arith, a.added i h o, came_none p (leaves_in rec) i, stays_none p rec depths i);
        long = a.long;
      }

  -- up to the same square, said otherwise
  pub spread_same : {n m : ℕ} {lost : Lost} {room : List ℕ} → SpreadTo p rec depths n lost room → n ≡ m → SpreadTo p rec depths m lost room
  spread_same {n} {m} {lost} {room} t e = subst (λ (k : ℕ). SpreadTo p rec depths k lost room) e t

  -- a square that nothing leaves sends nothing off the grid
  off_quiet : (i : ℕ) → (shut p i ≡ false → gone (leaves_in rec) i ≡ 0) → off_square p (leaves_in rec) i ≡ 0
  unfolding off_square off_side
  off_quiet i none = go (shut p i) refl
    where
      go : (b : Bool) → shut p i ≡ b → pick (shut p i) 0 (four_sides (off_side p (leaves_in rec) i)) ≡ 0
      go true e = pick_true _ _ e
      go false e = pick_false _ _ e ∙ omega (arith, side north (omega arith), side east (omega arith), side south (omega arith), side west (omega arith))
        where
          side : (k : ℕ) → k < sides → off_side p (leaves_in rec) i k ≡ 0
          side k h = pick_both (λ (x : ℕ). x ≡ 0) _ refl (omega (arith, side_part (leaves_in rec) i k h, none e))

  soaked_quiet : (i : ℕ) → (shut p i ≡ false → soaked_in rec i ≡ 0) → soaked_square p (soaked_in rec) i ≡ 0
  unfolding soaked_square
  soaked_quiet i none = go (shut p i) refl
    where
      go : (b : Bool) → shut p i ≡ b → pick (shut p i) 0 (soaked_in rec i) ≡ 0
      go true e = pick_true _ _ e
      go false e = pick_false _ _ e ∙ none e

  -- one that is closed or idle: nothing changes
  pub spread_idle :
      {n : ℕ} {lost : Lost} {room : List ℕ} → (shut p n ≡ false → IdleAt rec depths n) → SpreadTo p rec depths n lost room →
      SpreadTo p rec depths (n + 1) lost room
  unfolding remains
  spread_idle {n} {lost} {room} idle t =
      record {
        off_is = omega (arith, t.off_is, sum_more n (off_square p (leaves_in rec)), off_quiet n (λ o. (idle o).quiet));
        soaked_is = omega (arith, t.soaked_is, sum_more n (soaked_square p (soaked_in rec)), soaked_quiet n (λ o. (idle o).firm));
        room_is = λ i h o. at i h o (ℕ_discrete i n);
        long = t.long;
      }
    where
      at :
          (i : ℕ) → i < squares p.shape → shut p i ≡ false → Dec (i ≡ n) →
          get_or room i 0 ≡ added_in rec i + came_below p (leaves_in rec) (n + 1) i + stays_below p rec depths (n + 1) i
      at i h o (yes e) =
          let here = idle (subst (λ (j : ℕ). shut p j ≡ false) e o) in
          let none : stays_below p rec depths (n + 1) n ≡ 0 = stays_at p rec depths n ∙ omega (arith, here.dry) in
          let was : stays_below p rec depths n n ≡ 0 = stays_before p rec depths n in
          t.room_is i h o
          ∙ subst
          (λ (j : ℕ).
          added_in rec j + came_below p (leaves_in rec) n j + stays_below p rec depths n j
          ≡ added_in rec j + came_below p (leaves_in rec) (n + 1) j + stays_below p rec depths (n + 1) j)
          (sym e) (omega (arith, none, was, came_same p (leaves_in rec) n (λ z. (idle z).quiet) n))
      at i h o (no d) = omega (arith, t.room_is i h o, came_same p (leaves_in rec) n (λ z. (idle z).quiet) i, stays_other p rec depths n i d)

  -- one that is not closed: what remains of it stays, and what leaves it is sent
  pub spread_open :
      {n : ℕ} {lost : Lost} {old mid new : List ℕ} {x off soaked : ℕ} → n < squares p.shape → shut p n ≡ false →
      SpreadTo p rec depths n lost old → x ≡ get_or old n 0 + stays p rec depths n → mid ≡ set old n x → Grown p (brings_all p rec n) mid new →
      off ≡ off_square p (leaves_in rec) n → soaked ≡ soaked_in rec n →
      SpreadTo p rec depths (n + 1) (record { off = lost.off + off; soaked = lost.soaked + soaked }) new
  spread_open {n} {lost} {old} {mid} {new} {x} inside o t q e w a b =
      record {
        off_is = omega (arith, t.off_is, a, sum_more n (off_square p (leaves_in rec)));
        soaked_is = omega (arith, t.soaked_is, b, soaked_open p n (soaked_in rec) o, sum_more n (soaked_square p (soaked_in rec)));
        room_is = λ i h c. at i h c (ℕ_discrete i n);
        long = w.long ∙ (ap length e ∙ (length-set old n x ∙ t.long));
      }
    where
      own : get_or mid n 0 ≡ x
      own = ap (λ (l : List ℕ). get_or l n 0) e ∙ get_or-set_same old n x 0 (omega (arith, t.long))

      at :
          (i : ℕ) → i < squares p.shape → shut p i ≡ false → Dec (i ≡ n) →
          get_or new i 0 ≡ added_in rec i + came_below p (leaves_in rec) (n + 1) i + stays_below p rec depths (n + 1) i
      at i h c (yes z) =
          subst
          (λ (j : ℕ). get_or new j 0 ≡ added_in rec j + came_below p (leaves_in rec) (n + 1) j + stays_below p rec depths (n + 1) j)
          (sym z)
          (omega (
            arith,
            w.grown n inside o,
            own,
            q,
            t.room_is n inside o,
            came_more p rec inside o inside,
            stays_before p rec depths n,
            stays_at p rec depths n,
          ))
      at i h c (no d) =
          let other : get_or mid i 0 ≡ get_or old i 0 = ap (λ (l : List ℕ). get_or l i 0) e ∙ get_or-set_other old n i x 0 d in
          omega (arith, w.grown i h c, other, t.room_is i h c, came_more p rec inside o h, stays_other p rec depths n i d)

  -- all squares: the room holds the new depths
  pub spread_all :
      {n : ℕ} {lost : Lost} {room : List ℕ} → length p.marks ≡ squares p.shape → SpreadTo p rec depths n lost room → n ≡ squares p.shape →
      SpreadAll p rec depths lost room
  unfolding off_grid soaked_grid new_depth
  spread_all {n} {lost} {room} l t e =
      record {
        off_is = sum_whole (off_square p (leaves_in rec)) t.off_is e;
        soaked_is = sum_whole (soaked_square p (soaked_in rec)) t.soaked_is e;
        room_is =
            record {
              long = t.long;
              are =
                  λ i h o.
                  omega (arith, whole.room_is i h o, came_all p (leaves_in rec) l i, stays_all p rec depths i h);
            };
      }
    where
      whole : SpreadTo p rec depths (squares p.shape) lost room
      whole = spread_same t e
