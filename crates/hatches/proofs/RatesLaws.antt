-- The ring of rates goes with the ring of records: through a step, through a run's steps, and through a take-back.
-- Assumes nothing.
use mathlib.Core.Path.{◌≡◌, refl, sym, ap, ap₂, subst, ◌∙◌}
use mathlib.Core.List.{List, [], ◌∷◌, ◌++◌}
use Prim.Native.Nat.{ℕ, zero, suc, ◌+◌, ◌-◌, ◌*◌, ◌≤◌, ◌<◌}
use native.Mathlib.Omega.{arith}
use lib.ListN.{length, get_or, take, drop, replicate, length-take, length-drop}
use lib.Seq.{take-length}
use Rattle.trials.specs.Ring.{slots_in, slot_start, slot_after, slot_before, slot_ago, kept_after}
use Rattle.trials.specs.Room.{record_in, stored_in}
use Rattle.reckon.proofs.ListLaws.{length-placed}
use Rattle.sheet.proofs.JudgeLaws.{take_put}
use Rattle.trials.proofs.RingLaws.{slot_within, after_below, before_below, before-after, ago_none, ago_more, ago_other}
use Rattle.trials.proofs.RoomLaws.{length_stored, read_stored, read_other}
use Rattle.hatches.specs.Log.{most_hatches, rates_kept, rates_back}
use Rattle.hatches.specs.declared.log.Log.{Log}
use Rattle.reckon.specs.Lists.{placed}
use Rattle.hatches.specs.Inner.Rates.{newest_after, kept_steps, Beside}

module _ {K kept newest : ℕ} {began : List ℕ} {standing : List (List ℕ)} (b : Beside K kept newest began standing) where
  -- ---- a step at some rates

  module _ (litres : List ℕ) (nine : length litres ≡ most_hatches) where
    abbrev new : ℕ
    new = slot_after K newest

    new_below : new < K
    new_below = after_below K newest b.some

    in_room : new < slots_in most_hatches (length began)
    in_room = omega (arith, new_below, b.room)

    older : (i : ℕ) → slot_ago K new (suc i) ≡ slot_ago K newest i
    older i = ago_more K new i ∙ ap (λ (w : ℕ). slot_ago K w i) (before-after K newest b.newest_below)

    rates-after : (j : ℕ) → j < kept_after K kept → record_in most_hatches (stored_in most_hatches began new litres) (slot_ago K new j) ≡ get_or (litres ∷ standing) j []
    rates-after zero h = ap (record_in most_hatches (stored_in most_hatches began new litres)) (ago_none K new) ∙ read_stored most_hatches (omega arith) began new litres nine in_room
    rates-after (suc i) h =
        ap (record_in most_hatches (stored_in most_hatches began new litres)) (older i)
        ∙ (read_other most_hatches (omega arith) began new litres nine in_room (slot_ago K newest i)
        (λ e. ago_other K i new new_below (omega arith) (older i ∙ e))
        ∙ b.rates i (omega arith))

    pub beside-step : Beside K (kept_after K kept) new (stored_in most_hatches began new litres) (litres ∷ standing)
    beside-step =
        record {
          some = b.some;
          kept_fits = omega arith;
          newest_below = new_below;
          room = subst (λ (n : ℕ). K ≤ slots_in most_hatches n) (sym (length_stored most_hatches (omega arith) began new litres nine in_room)) b.room;
          few = omega (arith, b.few);
          rates = rates-after;
        }

-- ---- a run's steps, all at the same rates

prepend : (n : ℕ) (litres : List ℕ) (standing : List (List ℕ)) → replicate {A = List ℕ} n litres ++ (litres ∷ standing) ≡ litres ∷ (replicate {A = List ℕ} n litres ++ standing)
prepend zero litres standing = refl
prepend (suc n) litres standing = ap (λ (r : List (List ℕ)). litres ∷ r) (prepend n litres standing)

pub beside_steps : (n K kept newest : ℕ) (began : List ℕ) (standing : List (List ℕ)) (litres : List ℕ) → length litres ≡ most_hatches → Beside K kept newest began standing →
    Beside K (kept_steps K n kept) (newest_after K n newest) (rates_kept K n newest litres began) (replicate {A = List ℕ} n litres ++ standing)
unfolding kept_steps newest_after rates_kept
beside_steps zero K kept newest began standing litres nine b = b
beside_steps (suc n) K kept newest began standing litres nine b =
    subst (Beside K (kept_steps K n (kept_after K kept)) (newest_after K n (slot_after K newest)) (rates_kept K n (slot_after K newest) litres (stored_in most_hatches began (slot_after K newest) litres)))
    (prepend n litres standing)
    (beside_steps n K (kept_after K kept) (slot_after K newest) (stored_in most_hatches began (slot_after K newest) litres) (litres ∷ standing) litres nine (beside-step b litres nine))

-- ---- a take-back

later : (standing : List (List ℕ)) (j : ℕ) → get_or standing (suc j) [] ≡ get_or (drop 1 standing) j []
later [] j = refl
later (s ∷ rest) j = refl

fewer : (kept : ℕ) (standing : List (List ℕ)) → suc kept ≤ length standing → kept ≤ length (drop 1 standing)
fewer kept [] h = omega arith
fewer kept (s ∷ rest) h = omega arith

pub beside_back : {K kept newest : ℕ} {began : List ℕ} {standing : List (List ℕ)} → Beside K (suc kept) newest began standing →
    Beside K kept (slot_before K newest) began (drop 1 standing)
beside_back {K} {kept} {newest} {began} {standing} b =
    record {
      some = b.some;
      kept_fits = omega (arith, b.kept_fits);
      newest_below = before_below K newest b.newest_below;
      room = b.room;
      few = fewer kept standing b.few;
      rates = λ j h. ap (record_in most_hatches began) (sym (ago_more K newest j)) ∙ (b.rates (suc j) (omega arith) ∙ later standing j);
    }

-- ---- in a loop: what is still to be kept, from where it has come to

pub record Keeping (K steps newest : ℕ) (litres began₀ began : List ℕ) (slot step : ℕ) : Type 0 where
  pub most : step ≤ steps
  pub slot_below : slot < K
  pub long : length began ≡ length began₀
  pub rest : (left : ℕ) → left + step ≡ steps → rates_kept K left slot litres began ≡ rates_kept K steps newest litres began₀

pub keeping_next : {K steps newest : ℕ} {litres began₀ began began' : List ℕ} {slot slot' step : ℕ} → Keeping K steps newest litres began₀ began slot step → step < steps →
    length litres ≡ most_hatches → K ≤ slots_in most_hatches (length began₀) → slot' ≡ slot_after K slot → began' ≡ stored_in most_hatches began slot' litres → Keeping K steps newest litres began₀ began' slot' (step + 1)
unfolding rates_kept
keeping_next {K} {steps} {newest} {litres} {began₀} {began} {began'} {slot} {slot'} {step} k l nine room e f =
    let below : slot_after K slot < K = after_below K slot (omega (arith, k.slot_below)) in
    let within : slot_after K slot < slots_in most_hatches (length began) = subst (λ (n : ℕ). slot_after K slot < slots_in most_hatches n) (sym k.long) (omega (arith, below, room)) in
    rw (f, e)
    (record {
      most = omega arith;
      slot_below = below;
      long = length_stored most_hatches (omega arith) began (slot_after K slot) litres nine within ∙ k.long;
      rest = λ left h. k.rest (suc left) (omega (arith, h));
    })

pub keeping-last : {K steps newest : ℕ} {litres began₀ began : List ℕ} {slot step : ℕ} → Keeping K steps newest litres began₀ began slot step → steps ≤ step → began ≡ rates_kept K steps newest litres began₀
unfolding rates_kept
keeping-last k h = k.rest 0 (omega (arith, k.most, h))

-- ---- slots passed on the way back

pub ago_step : (K w j : ℕ) → slot_ago K w (suc j) ≡ slot_before K (slot_ago K w j)
ago_step K w zero = ago_more K w 0 ∙ (ago_none K (slot_before K w) ∙ ap (slot_before K) (sym (ago_none K w)))
ago_step K w (suc j) = ago_more K w (suc j) ∙ (ago_step K (slot_before K w) j ∙ ap (slot_before K) (sym (ago_more K w j)))

pub keeping-within : {K steps newest : ℕ} {litres began₀ began : List ℕ} {slot slot' step : ℕ} → Keeping K steps newest litres began₀ began slot step →
    K ≤ slots_in most_hatches (length began₀) → slot' ≡ slot_after K slot → slot' < slots_in most_hatches (length began)
keeping-within {K} {steps} {newest} {litres} {began₀} {began} {slot} {slot'} k room e =
    subst (λ (n : ℕ). slot' < slots_in most_hatches n) (sym k.long) (omega (arith, e, after_below K slot (omega (arith, k.slot_below)), room))

-- ---- the rates in a slot, copied over nine zeros

-- nine numbers lie in a slot
pub nine_in : (began : List ℕ) (slot : ℕ) → slot < slots_in most_hatches (length began) → length (record_in most_hatches began slot) ≡ most_hatches
unfolding record_in
nine_in began slot h =
    length-take most_hatches (drop (slot_start most_hatches slot) began)
    ∙ omega (arith, length-drop (slot_start most_hatches slot) began, slot_within most_hatches (omega arith) h)

pub slot_copied :
    (began : List ℕ) (slot : ℕ) {at end : ℕ} {new : List ℕ} → slot < slots_in most_hatches (length began) → at ≡ slot * most_hatches → end ≡ at + most_hatches →
    new ≡ placed (replicate most_hatches 0) 0 (take (end - at) (drop at began)) → new ≡ record_in most_hatches began slot
unfolding record_in
slot_copied began slot {at} {end} {new} h a b e =
    let nine : end - at ≡ most_hatches = omega (arith, b) in
    let same : take (end - at) (drop at began) ≡ record_in most_hatches began slot = ap₂ (λ (n k : ℕ). take n (drop k began)) nine a in
    let put : new ≡ placed (replicate most_hatches 0) 0 (record_in most_hatches began slot) = e ∙ ap (placed (replicate most_hatches 0) 0) same in
    let long : length (placed (replicate most_hatches 0) 0 (record_in most_hatches began slot)) ≡ most_hatches = length-placed (replicate most_hatches 0) 0 (record_in most_hatches began slot) (omega (arith, nine_in began slot h)) in
    put
    ∙ (sym (ap (λ (n : ℕ). take n (placed (replicate most_hatches 0) 0 (record_in most_hatches began slot))) (sym long) ∙ take-length (placed (replicate most_hatches 0) 0 (record_in most_hatches began slot)))
    ∙ take_put (replicate most_hatches 0) (record_in most_hatches began slot) most_hatches (nine_in began slot h))

-- some steps taken back
pub back_some :
    (slots : ℕ) (began : List ℕ) (log : Log) {steps slot : ℕ} {rates : List ℕ} → 0 < steps → slot ≡ slot_ago slots log.run.newest (steps - 1) →
    rates ≡ record_in most_hatches began slot → rates ≡ rates_back slots began log steps
unfolding rates_back
back_some slots began log {steps = zero} h e f = absurd (omega arith)
back_some slots began log {steps = suc n} h e f =
    f ∙ ap (record_in most_hatches began) (e ∙ ap (slot_ago slots log.run.newest) (omega arith))
