-- Laws of the record that a step works out, in a room that was cleared: square by square it is filled, a square with nothing to write stands
-- already, and the whole is the step's record, since the rooms hold what is added and lasts is the step's.
-- Assumes nothing.
use mathlib.Core.Path.{◌≡◌, refl, sym, ap, ◌∙◌, subst}
use mathlib.Core.Bool.{Bool, true, false, not}
use mathlib.Core.List.{List, [], ◌∷◌}
use Prim.Native.Nat.{ℕ, zero, suc, ◌+◌, ◌-◌, ◌^◌, ◌≤◌, ◌<◌, min}
use native.Mathlib.Decide.{dec_lt}
use native.Mathlib.Omega.{arith}
use lib.Dec.{eqb}
use lib.ListN.{length, get_or, set, replicate, get_or-replicate}
use lib.Seq.{ext_get_or, get_or-set_same, get_or-set_other}
use borrow.Author.Tests.{eq-eqb}
use Rattle.reckon.specs.Tests.{pick}
use Rattle.reckon.specs.Ranges.{most_depth}
use Rattle.reckon.specs.Soaking.{soak_due}
use Rattle.reckon.specs.Lists.{placed}
use Rattle.reckon.proofs.TestLaws.{not_both, pick_true, pick_false}
use Rattle.reckon.proofs.ListLaws.{joined_ext, length-placed, placed-before, placed_in, placed-after}
use Rattle.grid.specs.Squares.{north, east, south, west, squares}
use Rattle.grid.proofs.MarkLaws.{unless_closed}
use Rattle.rule.specs.Weighing.{weighed}
use Rattle.rule.specs.Length.{duration_for}
use Rattle.rule.specs.declared.rules.Rules.{Rules}
use Rattle.rule.proofs.WeighingLaws.{weighed-dry, weighed_le}
use Rattle.ledger.specs.Runs.{Plan, World, seen_of}
use Rattle.ledger.specs.Flows.{Leaves, four_sides, shut, gone}
use Rattle.ledger.specs.Record.{square_words, word_place, record_size, square_record, record_of, HeadPut, SquarePut}
use Rattle.ledger.specs.After.{step_record}
use Rattle.ledger.specs.Inner.Walks.{RecordedTo, sends}
use Rattle.ledger.proofs.RecordLaws.{recorded_none, recorded_open, recorded_closed, recorded_whole}
use Rattle.checks.specs.Given.{Ground, Given}
use Rattle.adding.specs.Added.{added_for}
use Rattle.adding.specs.Inner.Added.{tables, WaterAdded}
use Rattle.adding.proofs.AddedLaws.{room_made}
use Rattle.moves.specs.Drops.{drops_of}
use Rattle.moves.specs.Moves.{square_candidates, candidates, leaves_for, soaked_for, step_length, step_duration, step_moves}
use Rattle.moves.specs.Inner.Fill.{firm, LengthWorked, Fills, Cleared, FilledOne, FilledTo, FilledOn, RecordFilled, UnstirredAt}
use Rattle.checks.specs.Inner.Ready.{MeadowInRange}
use Rattle.moves.proofs.MoveLaws.{weights, leaves_open, covered, soaked_open}

-- a record goes by what is added to squares not closed alone
pub record_same :
    (p : Plan) (held lasts : ℕ) (out : Leaves) (last a b soaked : ℕ → ℕ) → ((i : ℕ) → i < squares p.shape → shut p i ≡ false → a i ≡ b i) →
    record_of p held lasts out last a soaked ≡ record_of p held lasts out last b soaked
unfolding record_of square_record
record_same p held lasts out last a b soaked h =
    ap (λ (l : List ℕ). held ∷ lasts ∷ l)
    (joined_ext (squares p.shape) (square_record p out last a soaked) (square_record p out last b soaked)
    (λ i l. unless_closed p.marks i _ (λ e. ap (λ (x : ℕ). out i north ∷ out i east ∷ out i south ∷ out i west ∷ last i ∷ x ∷ soaked i ∷ []) (h i l e))))

-- ---- one square

module _ (r : Rules) (q k ms : ℕ) (v : List ℕ) where
  -- a dry square sends nothing
  pub put_dry :
      {d : ℕ} (old : List ℕ) (i last added : ℕ) {s s' : ℕ} {new : List ℕ} → d ≡ 0 → s ≡ s' → SquarePut old i (0 ∷ 0 ∷ 0 ∷ 0 ∷ []) last added s new →
      SquarePut old i (weighed r d q k ms v) last added s' new
  put_dry {d} old i last added e t h = rw (weighed-dry r d q k ms v e, sym t) h

  -- the weighing as the code names its parts
  pub weighed_made :
      {d d' q' k' : ℕ} {v' leaves : List ℕ} → d' ≡ d → q' ≡ q → k' ≡ k → v' ≡ v → leaves ≡ weighed r d' q' k' ms v' → leaves ≡ weighed r d q k ms v
  weighed_made {d} a b c e l = l ∙ same a b c e
    where
      same : {d' q' k' : ℕ} {v' : List ℕ} → d' ≡ d → q' ≡ q → k' ≡ k → v' ≡ v → weighed r d' q' k' ms v' ≡ weighed r d q k ms v
      same a b c e = rw (a, b, c, e)

  pub put_wet :
      (d : ℕ) {leaves : List ℕ} (old : List ℕ) (i last added : ℕ) {s s' : ℕ} {new : List ℕ} →
      leaves ≡ weighed r d q k ms v → s ≡ s' → SquarePut old i leaves last added s new → SquarePut old i (weighed r d q k ms v) last added s' new
  put_wet d old i last added l t h = rw (sym l, sym t) h

  -- each of the four fits a word, and so does what soaks
  pub words_fit :
      {d s : ℕ} {leaves : List ℕ} → d ≤ most_depth → s ≤ d → leaves ≡ weighed r d q k ms v →
      (get_or leaves 0 0 < 2 ^ 32) × (get_or leaves 1 0 < 2 ^ 32) × (get_or leaves 2 0 < 2 ^ 32) × (get_or leaves 3 0 < 2 ^ 32) × (s < 2 ^ 32)
  words_fit {d} h t e = rw e (let l = weighed_le r d q k ms v in omega arith)

-- what soaks, as the code names its parts
module _ (p : Plan) (o : Ground) (depths lasts : List ℕ) (start ms i : ℕ) (e : shut p i ≡ false) where
  pub soaked_dry : get_or depths i 0 ≡ 0 → 0 ≡ soaked_for p o depths lasts start ms i
  soaked_dry d = omega (arith, soaked_open p o depths lasts ms i start e)

  pub gone_made :
      {leaves : List ℕ} → leaves ≡ weights p o depths lasts ms i → four_sides (λ side. get_or leaves side 0) ≡ gone (leaves_for p o depths lasts ms) i
  unfolding gone
  gone_made l =
      let at : (side : ℕ) → leaves_for p o depths lasts ms i side ≡ get_or (weights p o depths lasts ms i) side 0
      = λ side. leaves_open p o depths lasts ms i side e in
      rw (l, at north, at east, at south, at west)

  pub gone_covered : gone (leaves_for p o depths lasts ms) i ≤ get_or depths i 0
  gone_covered = covered p o depths lasts ms i e

  pub soaked_made :
      {rate d four s : ℕ} → rate ≡ get_or o.rates i 0 → d ≡ get_or depths i 0 → four ≡ gone (leaves_for p o depths lasts ms) i →
      s ≡ min (soak_due rate start (start + ms)) (d - four) → s ≡ soaked_for p o depths lasts start ms i
  soaked_made {rate} {d} {four} a b l s =
      let same : min (soak_due rate start (start + ms)) (d - four)
      ≡ min (soak_due (get_or o.rates i 0) start (start + ms)) (get_or depths i 0 - gone (leaves_for p o depths lasts ms) i) = rw (a, b, l) in
      s ∙ (same ∙ sym (soaked_open p o depths lasts ms i start e))

  -- whether anything leaves, as the code asks
  pub sends_made : {four : ℕ} → four ≡ gone (leaves_for p o depths lasts ms) i → not (eqb four 0) ≡ sends p (leaves_for p o depths lasts ms) i
  unfolding sends
  sends_made q = rw (q, e)

-- ---- closed and dry squares

none_at : (side : ℕ) → ◌≡◌ {A = ℕ} (get_or (0 ∷ 0 ∷ 0 ∷ 0 ∷ []) side 0) 0
none_at zero = refl
none_at (suc zero) = refl
none_at (suc (suc zero)) = refl
none_at (suc (suc (suc zero))) = refl
none_at (suc (suc (suc (suc side)))) = refl

module _ (p : Plan) (o : Ground) (depths lasts : List ℕ) (ms : ℕ) where
  abbrev out : Leaves
  out = leaves_for p o depths lasts ms

  pub dry_leaves : (i side : ℕ) → shut p i ≡ false → get_or depths i 0 ≡ 0 → out i side ≡ 0
  dry_leaves i side c d =
      leaves_open p o depths lasts ms i side c
      ∙ (ap (λ (l : List ℕ). get_or l side 0) (weighed-dry o.rules (get_or depths i 0) (get_or lasts i 0) (get_or o.roughness i 0) ms (drops_of p o.rules o.beds depths i) d)
      ∙ none_at side)

  pub dry-gone : (i : ℕ) → shut p i ≡ false → get_or depths i 0 ≡ 0 → gone out i ≡ 0
  dry-gone i c d = omega (arith, covered p o depths lasts ms i c, d)

  -- neither sends
  pub dry_silent : (i : ℕ) → (shut p i ≡ false → get_or depths i 0 ≡ 0) → sends p out i ≡ false
  unfolding sends
  dry_silent i d = go (shut p i) refl
    where
      go : (b : Bool) → shut p i ≡ b → sends p out i ≡ false
      go true c = rw c
      go false c = rw (c, eq-eqb (gone out i) 0 (dry-gone i c (d c)))

-- ---- the words after those that stand

-- zeros over zeros change nothing
zeros_over :
    (rec : List ℕ) (a : ℕ) → a + square_words ≤ length rec → ((k : ℕ) → a ≤ k → get_or rec k 0 ≡ 0) → rec ≡ placed rec a (replicate square_words 0)
zeros_over rec a fits none =
    ext_get_or 0 rec (placed rec a zeros) (sym (length-placed rec a zeros fits)) (λ k l. at k (dec_lt k a) (dec_lt k (a + square_words)))
  where
    zeros : List ℕ
    zeros = replicate square_words 0

    at : (k : ℕ) → Dec (k < a) → Dec (k < a + square_words) → get_or rec k 0 ≡ get_or (placed rec a zeros) k 0
    at k (yes l) m = sym (placed-before rec a zeros fits k l)
    at k (no l) (yes m) =
        let e : a + (k - a) ≡ k = omega arith in
        let j : k - a < square_words = omega arith in
        none k (omega arith)
        ∙ sym (ap (λ (x : ℕ). get_or (placed rec a zeros) x 0) (sym e) ∙ (placed_in rec a zeros fits (k - a) j ∙ get_or-replicate square_words (k - a) 0 0 j))
    at k (no l) (no m) = sym (placed-after rec a zeros fits k (omega arith))

-- a square's words leave those after them
words_past :
    (old : List ℕ) (i : ℕ) (leaves : List ℕ) (last added soaked : ℕ) {new : List ℕ} → word_place i square_words ≤ length old →
    SquarePut old i leaves last added soaked new → (k : ℕ) → word_place (i + 1) north ≤ k → get_or new k 0 ≡ get_or old k 0
words_past old i leaves last added soaked h put k l = ap (λ (r : List ℕ). get_or r k 0) put ∙ placed-after old (word_place i north) _ (omega arith) k (omega arith)

-- ---- a record filled square by square

-- of a record's room only its length is asked
pub fills_still :
    {p : Plan} {o : Ground} {depths lasts added : List ℕ} {start ms : ℕ} {old rec : List ℕ} → length rec ≡ length old →
    Fills p o depths lasts added start ms old → Fills p o depths lasts added start ms rec
fills_still e f =
    record { flows = f.flows; added_long = f.added_long; duration-for = f.duration-for; end_to = f.end_to; record_long = e ∙ f.record_long }

module _ {p : Plan} {o : Ground} {depths lasts added : List ℕ} {held start ms : ℕ} where
  -- the head, in a room that was cleared
  pub filled_head :
      (old : List ℕ) {rec : List ℕ} → length old ≡ record_size p → Cleared old → HeadPut old held ms rec →
      FilledTo p o depths lasts added held start ms 0 rec
  filled_head old l none put =
      record {
        recorded = recorded_none old l put;
        clean = λ k g. ap (λ (r : List ℕ). get_or r k 0) put ∙ (placed-after old 0 (held ∷ ms ∷ []) (omega (arith, l)) k (omega arith) ∙ none k);
      }

  pub filled_whole : {i : ℕ} {rec : List ℕ} → i ≡ squares p.shape → FilledTo p o depths lasts added held start ms i rec → RecordFilled p o depths lasts added held start ms rec
  filled_whole e f = recorded_whole e f.recorded

  module _ {i : ℕ} (h : i < squares p.shape) where
    -- a square of which there is nothing to write has its zeros already
    idle_turn :
        {rec : List ℕ} → UnstirredAt p depths lasts added i → FilledTo p o depths lasts added held start ms i rec → FilledTo p o depths lasts added held start ms (i + 1) rec
    idle_turn {rec} idle f = record { recorded = go (shut p i) refl; clean = λ k l. f.clean k (omega arith) }
      where
        same : rec ≡ placed rec (word_place i north) (replicate square_words 0)
        same = zeros_over rec (word_place i north) (omega (arith, f.recorded.long, h)) f.clean

        go :
            (c : Bool) → shut p i ≡ c →
            RecordedTo p held ms (leaves_for p o depths lasts ms) (λ k. get_or lasts k 0) (λ k. get_or added k 0) (soaked_for p o depths lasts start ms) (i + 1) rec
        go true c = recorded_closed h f.recorded c same
        go false c =
            let none = idle c in
            recorded_open h f.recorded c (0 ∷ 0 ∷ 0 ∷ 0 ∷ []) (λ side l. none_at side ∙ sym (dry_leaves p o depths lasts ms i side c none.0)) (sym none.1) (sym none.2)
            (soaked_dry p o depths lasts start ms i c none.0) same

    -- a square that is worked
    fill_turn :
        {old new before after : List ℕ} {sent : Bool} → FilledTo p o depths lasts added held start ms i old →
        FilledOne p o depths lasts added start ms i old new before after sent → FilledTo p o depths lasts added held start ms (i + 1) new
    fill_turn {old} {new} f one = go (shut p i) refl
      where
        weighing : List ℕ
        weighing = weights p o depths lasts ms i

        go : (c : Bool) → shut p i ≡ c → FilledTo p o depths lasts added held start ms (i + 1) new
        go true c =
            subst (λ (rec : List ℕ). FilledTo p o depths lasts added held start ms (i + 1) rec) (sym (one.closed-kept c)) (idle_turn (λ e. not_both c e) f)
        go false c =
            record {
              recorded = recorded_open h f.recorded c weighing (λ side l. sym (leaves_open p o depths lasts ms i side c)) refl refl refl (one.open_put c);
              clean =
                  λ k l. words_past old i weighing (get_or lasts i 0) (get_or added i 0) (soaked_for p o depths lasts start ms i)
                  (omega (arith, f.recorded.long, h)) (one.open_put c) k l
                  ∙ f.clean k (omega arith);
            }

-- squares done from one on
module _ {p : Plan} {o : Ground} {depths lasts added : List ℕ} {start ms from : ℕ} where
  -- one more
  pub filled_more :
      {i : ℕ} {old mid new before after : List ℕ} {sent : Bool} → i < squares p.shape → FilledOn p o depths lasts added start ms from i old mid →
      FilledOne p o depths lasts added start ms i mid new before after sent → FilledOn p o depths lasts added start ms from (i + 1) old new
  filled_more h b f held s = fill_turn h (b held s) f

  -- one that is passed over
  pub filled_idle :
      {i : ℕ} {old new : List ℕ} → i < squares p.shape → UnstirredAt p depths lasts added i →
      FilledOn p o depths lasts added start ms from i old new → FilledOn p o depths lasts added start ms from (i + 1) old new
  filled_idle h idle b held s = idle_turn h idle (b held s)

  -- more of them
  pub filled_then :
      {i j k : ℕ} {old mid new : List ℕ} → i ≡ j → FilledOn p o depths lasts added start ms from i old mid → FilledOn p o depths lasts added start ms j k mid new →
      FilledOn p o depths lasts added start ms from k old new
  filled_then {mid = mid} e a b held s = b held (subst (λ (n : ℕ). FilledTo p o depths lasts added held start ms n mid) e (a held s))

  -- up to here, by another name
  pub filled_on :
      {i j : ℕ} {old new : List ℕ} → i ≡ j → FilledOn p o depths lasts added start ms from i old new → FilledOn p o depths lasts added start ms from j old new
  filled_on {old = old} {new} e = subst (λ (k : ℕ). FilledOn p o depths lasts added start ms from k old new) e

-- ---- what left a square that is worked

-- as the code stores it
pub left-set :
    (p : Plan) (before : List ℕ) (i : ℕ) {four amount : ℕ} → shut p i ≡ false → four ≡ amount → set before i four ≡ pick (shut p i) before (set before i amount)
left-set p before i c e = ap (set before i) e ∙ sym (pick_false _ _ c)

module _ {p : Plan} {o : Ground} {depths lasts added : List ℕ} {start ms i : ℕ} {old new before after : List ℕ} {sent : Bool}
    (one : FilledOne p o depths lasts added start ms i old new before after sent) where
  pub left_here : i < length before → shut p i ≡ false → get_or after i 0 ≡ gone (leaves_for p o depths lasts ms) i
  left_here h c =
      ap (λ (l : List ℕ). get_or l i 0) (one.left_is ∙ pick_false _ _ c) ∙ get_or-set_same before i (gone (leaves_for p o depths lasts ms) i) 0 h

  pub left-elsewhere : (k : ℕ) → (k ≡ i → ⊥) → get_or after k 0 ≡ get_or before k 0
  left-elsewhere k d = ap (λ (l : List ℕ). get_or l k 0) one.left_is ∙ go (shut p i) refl
    where
      set_there : List ℕ
      set_there = set before i (gone (leaves_for p o depths lasts ms) i)

      go : (b : Bool) → shut p i ≡ b → get_or (pick (shut p i) before set_there) k 0 ≡ get_or before k 0
      go true c = ap (λ (l : List ℕ). get_or l k 0) (pick_true before set_there c)
      go false c = ap (λ (l : List ℕ). get_or l k 0) (pick_false before set_there c) ∙ get_or-set_other before i k (gone (leaves_for p o depths lasts ms) i) 0 d

-- ---- the step's own times and record, from what the code finds

module _ (p : Plan) (g : Given) (w : World) where
  -- the length goes by the ground without its soak rates
  abbrev pub firmly : Ground
  firmly = firm g.lie.rules g.lie.beds g.lie.roughness

  pub lies_firmly : MeadowInRange p g.lie w.depths → MeadowInRange p firmly w.depths
  lies_firmly l =
      record {
        sited = l.sited;
        roughness_long = l.roughness_long;
        rules = l.rules;
        grounds = l.grounds;
        depths_to = l.depths_to;
      }

  pub length_made :
      {len : ℕ} → LengthWorked p firmly w.depths w.run.clock w.run.length len → len ≡ step_length p g (seen_of w)
  unfolding step_length candidates square_candidates
  length_made e = e

  pub lasts_made :
      {len ms : ℕ} → LengthWorked p firmly w.depths w.run.clock w.run.length len →
      ms ≡ duration_for g.lie.rules w.run.clock len → ms ≡ step_duration p g (seen_of w)
  unfolding step_duration
  lasts_made l e = e ∙ ap (duration_for g.lie.rules w.run.clock) (length_made l)

  pub record_made :
      {ms end : ℕ} {old room rec : List ℕ} {fits : Bool} → ms ≡ step_duration p g (seen_of w) → end ≡ w.run.clock + ms →
      WaterAdded p (tables g.lie.rules g.rain g.inflow) w.run.clock end old fits room → fits ≡ true →
      rec ≡ record_of p w.run.length ms (leaves_for p g.lie w.depths w.lasts ms) (λ i. get_or w.lasts i 0) (λ i. get_or room i 0)
      (soaked_for p g.lie w.depths w.lasts w.run.clock ms) →
      rec ≡ step_record p (step_moves p g (seen_of w)) w
  unfolding step_record
  record_made {ms} {room = room} e n t f q =
      q
      ∙ (record_same p w.run.length ms (leaves_for p g.lie w.depths w.lasts ms) (λ i. get_or w.lasts i 0) (λ i. get_or room i 0)
      (added_for p g w.run.clock (w.run.clock + ms)) (soaked_for p g.lie w.depths w.lasts w.run.clock ms) (room_made p g w.run.clock ms n t f)
      ∙ ap
      (λ (x : ℕ).
      record_of p w.run.length x (leaves_for p g.lie w.depths w.lasts x) (λ i. get_or w.lasts i 0) (added_for p g w.run.clock (w.run.clock + x))
      (soaked_for p g.lie w.depths w.lasts w.run.clock x))
      e)
