-- Laws of a sheet that lies in the rooms: what is lent of it, and its frame.
-- Assumes nothing.
use mathlib.Core.Path.{◌≡◌, sym, ap, subst, ◌∙◌}
use mathlib.Core.List.{List, ◌++◌}
use Prim.Native.Nat.{ℕ, ◌≤◌}
use native.Mathlib.Omega.{arith}
use lib.ListN.{length, take, replicate, length-append}
use Rattle.grid.specs.Squares.{squares, ShapeInRange}
use Rattle.ledger.specs.Runs.{plan}
use Rattle.ledger.specs.Checks.{WaterLent}
use Rattle.ledger.specs.Account.{water}
use Rattle.text.specs.Writing.{Wrote}
use Rattle.text.proofs.WritingLaws.{wrote_both}
use Rattle.sheet.specs.declared.reading.Heading.{Heading}
use Rattle.trying.specs.Given.{account_opened}
use Rattle.desks.specs.State.{desk_squares, desk_out, fresh_log, fresh_desk}
use Rattle.desks.specs.Lines.{ending_text, state_text, Puts}
use Rattle.desks.specs.Inner.Lent.{Shows, StatePut, EndingPut}
use Rattle.desks.specs.Inner.Rooms.{SheetLaid}
use Rattle.desks.specs.declared.state.Desk.{Desk}
use Rattle.desks.proofs.RoomLaws.{part_long}

module _ (h : Heading) {n : ℕ} (e : n ≡ squares h.shape) (fine : ShapeInRange h.shape) where
  taken : (room : List ℕ) → length room ≡ desk_squares → length (take n room) ≡ squares h.shape
  taken room l = sym (part_long n room (omega (arith, l, e, fine.few))) ∙ e

  module _ (marks depths : List ℕ) (m : length marks ≡ desk_squares) (d : length depths ≡ desk_squares) where
    pub laid-water : WaterLent (plan h.shape (take n marks)) (take n depths) (take n depths)
    laid-water = record { fine = fine; marks_long = taken marks m; depths_long = taken depths d; lasts_long = taken depths d }

    pub laid_shows : {out : List ℕ} → length out ≡ desk_out → Shows (plan h.shape (take n marks)) (take n depths) out
    laid_shows o = record { fine = fine; marks_long = taken marks m; depths_long = taken depths d; out_long = o }

-- a frame, and the end of an answer after it
pub both_put : {t u old mid new : List ℕ} {j k : ℕ} → length old ≡ desk_out → StatePut t old mid j → Wrote u j mid new k → length u ≤ 50 →
    (k ≡ length (t ++ u)) × Puts (t ++ u) old new
both_put {t} {u} {old} {mid} {new} {j} {k} o s w l =
    let long : length (t ++ u) ≤ length old = omega (arith, length-append t u, s.short, o) in
    let both : Wrote (t ++ u) 0 old new k = wrote_both (omega (arith, long)) s.wrote w in
    let next : k ≡ length (t ++ u) = omega (arith, both.next) in
    (next, record { wrote = subst (Wrote (t ++ u) 0 old new) next both; fits = omega (arith, long, o) })

pub laid_whole :
    (h : Heading) (marks depths : List ℕ) {n start : ℕ} {fresh a : Desk} {old mid new old_lasts lasts : List ℕ} {j k : ℕ} → n ≡ squares h.shape →
    start ≡ water (plan h.shape (take n marks)) (take n depths) → fresh ≡ fresh_desk h start 0 → length old ≡ desk_out →
    StatePut (state_text (plan h.shape (take n marks)) fresh.log fresh.account (take n depths)) old mid j → EndingPut 0 0 j mid new k →
    a ≡ fresh_desk h start k → lasts ≡ replicate (length old_lasts) 0 → SheetLaid h marks depths old_lasts lasts old new a
laid_whole h marks depths {n} {start} {fresh} {a} {old} {mid} {new} {j = j} {k} e w f o s t q c =
    let s' : StatePut (state_text (plan h.shape (take n marks)) (fresh_log h) (account_opened start 0) (take n depths)) old mid j =
    subst (λ (x : Desk). StatePut (state_text (plan h.shape (take n marks)) x.log x.account (take n depths)) old mid j) f s in
    let b = both_put o s' t.wrote t.short in
    record {
      desk_is = q ∙ (ap (fresh_desk h start) b.0 ∙ (ap (λ (x : ℕ). fresh_desk h x (length (text n x))) w ∙ ap (λ (i : ℕ). fresh_desk h (at i) (length (text i (at i)))) e));
      lasts_are = c;
      puts = subst (λ (i : ℕ). Puts (text i (at i)) old new) e (subst (λ (x : ℕ). Puts (text n x) old new) w b.1);
    }
  where
    at : ℕ → ℕ
    at i = water (plan h.shape (take i marks)) (take i depths)

    text : ℕ → ℕ → List ℕ
    text i x = state_text (plan h.shape (take i marks)) (fresh_log h) (account_opened x 0) (take i depths) ++ ending_text 0 0
