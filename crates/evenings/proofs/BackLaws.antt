-- Laws of take-backs one after the other: what is still to be taken back, from where a loop has come to, is the whole.
-- Assumes nothing.
use mathlib.Core.Path.{◌≡◌, refl, sym, ap, ap₂, subst, ◌∙◌}
use mathlib.Core.List.{List}
use Prim.Native.Nat.{ℕ, zero, suc, ◌+◌, ◌-◌, ◌≤◌, ◌<◌}
use native.Mathlib.Numerals.{add-one}
use native.Mathlib.Omega.{arith}
use lib.Dec.{eqb}
use borrow.Author.Tests.{ne_eqb}
use Rattle.reckon.proofs.TestLaws.{pick_ap, pick_same, pick_false, every_each, refusal_passed}
use Rattle.trials.proofs.RingLaws.{fine_ring}
use Rattle.ledger.specs.Runs.{Plan, World, world, answered, run_values_fine}
use Rattle.ledger.specs.Record.{newest_record, room_slots}
use Rattle.ledger.specs.TakeBack.{back_number, back_refusals, early_refusals, taken_back, world_before, TakesBack}
use Rattle.ledger.specs.declared.runs.Run.{Run}
use Rattle.ledger.specs.declared.runs.Answer.{Answer}
use Rattle.ledger.specs.declared.runs.Answer.TheVariants.{Done, Refused}
use Rattle.flood.specs.Run.{Ended, ended, go_on}
use Rattle.evenings.specs.Taking.{back_from}
use Rattle.evenings.specs.Inner.Backs.{BacksOnce}

-- ---- one take-back, as the library answers it

same_records : (p : Plan) (w : World) → (taken_back p w).records ≡ w.records
unfolding taken_back world_before
same_records p w = pick_ap (λ (x : World). x.records) (eqb (back_number p w) 0) (world_before p w (newest_record p w)) w ∙ pick_same (eqb (back_number p w) 0) w.records

pub done_is : (n : ℕ) (r u : Run) → Done u ≡ answered n r → (u ≡ r) × (0 ≡ n)
unfolding answered
done_is zero r u e = (cc, refl)
done_is (suc n) r u e = absurd (let y : ◌≡◌ {A = ℕ} 0 1 = cc in omega arith)

pub refused_is : (n k : ℕ) (r : Run) → Refused k ≡ answered n r → (k ≡ n) × (n ≡ 0 → ⊥)
unfolding answered
refused_is zero k r e = absurd (let y : ◌≡◌ {A = ℕ} 0 1 = cc in omega arith)
refused_is (suc n) k r e = (cc, λ z. omega arith)

stays : (p : Plan) (w : World) → (back_number p w ≡ 0 → ⊥) → taken_back p w ≡ w
unfolding taken_back
stays p w d = pick_false _ _ (ne_eqb _ _ d)

module _ (p : Plan) (w : World) {a : Answer} {depths lasts : List ℕ} (t : TakesBack p w a depths lasts) where
  pub back_done : {u : Run} → a ≡ Done u → BacksOnce p w 0 (world depths lasts w.records u)
  back_done {u} e =
      let d = done_is (back_number p w) (taken_back p w).run u (sym e ∙ t.answer) in
      record {
        number_is = d.1;
        world_is =
            ap (λ (d : List ℕ). world d lasts w.records u) t.depths_are
            ∙ (ap (λ (l : List ℕ). world (taken_back p w).depths l w.records u) t.lasts_are
            ∙ (ap (λ (c : List ℕ). world (taken_back p w).depths (taken_back p w).lasts c u) (sym (same_records p w))
            ∙ ap (λ (v : Run). world (taken_back p w).depths (taken_back p w).lasts (taken_back p w).records v) d.0));
      }

  pub back_refused : {k : ℕ} → a ≡ Refused k → BacksOnce p w k (world depths lasts w.records w.run)
  back_refused {k} e =
      let d = refused_is (back_number p w) k (taken_back p w).run (sym e ∙ t.answer) in
      record {
        number_is = d.0;
        world_is =
            ap (λ (l : List ℕ). world l lasts w.records w.run) (t.depths_are ∙ ap (λ (x : World). x.depths) (stays p w d.1))
            ∙ (ap (λ (l : List ℕ). world w.depths l w.records w.run) (t.lasts_are ∙ ap (λ (x : World). x.lasts) (stays p w d.1))
            ∙ sym (stays p w d.1));
      }

-- ---- so many

goes_on : {n : ℕ} (made : ℕ) (w : World) (rest : Ended) → n ≡ 0 → go_on n made w rest ≡ rest
unfolding go_on
goes_on made w rest e = rw e

stops : {n : ℕ} (made : ℕ) (w : World) (rest : Ended) → (n ≡ 0 → ⊥) → go_on n made w rest ≡ ended n made w
unfolding go_on
stops {n = zero} made w rest d = absurd (d refl)
stops {n = suc n} made w rest d = refl

pub record Backing (p : Plan) (count : ℕ) (start now : World) (steps : ℕ) : Type 0 where
  pub most : steps ≤ count
  pub rest : (left : ℕ) → left + steps ≡ count → back_from p left steps now ≡ back_from p count 0 start

module _ (p : Plan) (count : ℕ) (start : World) where
  module _ {now after : World} {steps n : ℕ} (b : Backing p count start now steps) (l : steps < count) (m : BacksOnce p now n after) where
    pub backing_on : n ≡ 0 → Backing p count start after (steps + 1)
    unfolding back_from
    backing_on z =
        record {
          most = omega arith;
          rest = λ left h.
              ap₂ (λ (k : ℕ) (x : World). back_from p left k x) (add-one steps) m.world_is
              ∙ (sym (goes_on steps now _ (sym m.number_is ∙ z)) ∙ b.rest (suc left) (omega (arith, h)));
        }

    pub backing_stops : (n ≡ 0 → ⊥) → ended n steps after ≡ back_from p count 0 start
    unfolding back_from
    backing_stops d =
        let q : back_number p now ≡ 0 → ⊥ = λ z. d (m.number_is ∙ z) in
        ap₂ (λ (k : ℕ) (x : World). ended k steps x) m.number_is (m.world_is ∙ stays p now q)
        ∙ (sym (stops steps now _ q) ∙ b.rest (suc (count - steps - 1)) (omega arith))

  pub backing_ends : {now : World} {steps : ℕ} → Backing p count start now steps → count ≤ steps → ended 0 count now ≡ back_from p count 0 start
  unfolding back_from
  backing_ends {now} b h = ap (λ (k : ℕ). ended 0 k now) (omega (arith, b.most)) ∙ b.rest 0 (omega (arith, b.most, h))

-- ---- where they come to

-- as many as were made were not refused
unfoldable pub backs : Plan → ℕ → World → World
backs p zero w = w
backs p (suc n) w = backs p n (taken_back p w)

pub record Backed (p : Plan) (count made : ℕ) (w : World) (e : Ended) : Type 0 where
  pub more : ℕ
  pub steps_are : e.steps ≡ made + more
  pub few : more ≤ count
  pub world_is : e.world ≡ backs p more w
  pub each_made : (k : ℕ) → k < more → back_number p (backs p k w) ≡ 0

pub backed : (p : Plan) (count made : ℕ) (w : World) → Backed p count made w (back_from p count made w)
unfolding back_from backs
backed p zero made w = record { more = 0; steps_are = omega arith; few = omega arith; world_is = refl; each_made = λ k h. absurd (omega arith) }
backed p (suc n) made w = go (back_number p w) refl (backed p n (suc made) (taken_back p w))
  where
    none : Backed p (suc n) made w (ended (back_number p w) made w)
    none = record { more = 0; steps_are = omega arith; few = omega arith; world_is = refl; each_made = λ k h. absurd (omega arith) }

    each : {more : ℕ} → back_number p w ≡ 0 → ((k : ℕ) → k < more → back_number p (backs p k (taken_back p w)) ≡ 0) → (k : ℕ) → k < suc more → back_number p (backs p k w) ≡ 0
    each z f zero h = z
    each z f (suc k) h = f k (omega arith)

    go : (m : ℕ) → back_number p w ≡ m → Backed p n (suc made) (taken_back p w) (back_from p n (suc made) (taken_back p w)) →
        Backed p (suc n) made w (go_on (back_number p w) made w (back_from p n (suc made) (taken_back p w)))
    go zero z b =
        subst (Backed p (suc n) made w) (sym (goes_on made w _ z))
        (record {
          more = suc b.more;
          steps_are = omega (arith, b.steps_are);
          few = omega (arith, b.few);
          world_is = b.world_is;
          each_made = λ k h. each z b.each_made k h;
        })
    go (suc m) z b = subst (Backed p (suc n) made w) (sym (stops made w _ (λ y. omega (arith, sym z ∙ y)))) none

-- where some were made, the ring is in range
module _ (p : Plan) (count : ℕ) (w : World) {e : Ended} (h : e ≡ back_from p count 0 w) where
  same_steps : e.steps ≡ (back_from p count 0 w).steps
  same_steps = ap (λ (x : Ended). x.steps) h

  pub backs_few : e.steps ≤ count
  backs_few = omega (arith, same_steps, (backed p count 0 w).steps_are, (backed p count 0 w).few)

  pub backs_newest : 0 < e.steps → w.run.newest < room_slots p w.records
  unfolding backs back_number back_refusals early_refusals run_values_fine
  backs_newest l =
      let some : 0 < (backed p count 0 w).more = omega (arith, same_steps, (backed p count 0 w).steps_are) in
      let first : back_number p w ≡ 0 = (backed p count 0 w).each_made 0 some in
      let rows = refusal_passed _ tt first in
      (fine_ring _ _ _ (every_each _ rows.1.1.1.0).0).newest_below
