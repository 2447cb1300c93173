-- Laws of reads into a room: bytes that were put leave what stands after them; read after read; a whole file.
-- Assumes nothing.
use mathlib.Core.Path.{◌≡◌, refl, sym, ap, subst, ◌∙◌}
use mathlib.Core.Bool.{Bool, false, not}
use mathlib.Core.List.{List, ◌++◌}
use Prim.Native.Nat.{ℕ, ◌+◌, ◌-◌, ◌≤◌}
use native.Mathlib.Omega.{arith}
use lib.Dec.{ltb}
use lib.ListN.{length, take, drop, drop_of_length-le, length-drop}
use Rattle.std.proofs.lemmas.List.{length-take}
use lib.Seq.{drop-drop, drop_at, drop-append_seam, length-take-le}
use borrow.Author.Tests.{lt-ltb}
use Rattle.reckon.specs.Tests.{pick}
use Rattle.reckon.specs.Lists.{placed}
use Rattle.reckon.proofs.TestLaws.{not_both, pick_true, pick_false, pick_same, pick_both}
use Rattle.text.specs.Lines.{nth_line}
use Rattle.text.specs.Writing.{Wrote}
use Rattle.text.specs.declared.lines.Line.{Line}
use Rattle.text.proofs.EndLaws.{start-within, end-within}
use Rattle.text.proofs.WritingLaws.{wrote_length}
use Rattle.files.specs.Files.{InputCame, FileCame, NamedCame, HandedOn, OneCame, not_read}
use Rattle.files.specs.Inner.Reading.{CameOn, handed_of}
use Rattle.files.specs.declared.Came.{Came}

drop-placed :
    (old : List ℕ) (at : ℕ) (t : List ℕ) → at + length t ≤ length old → drop (at + length t) (placed old at t) ≡ drop (at + length t) old
unfolding placed
drop-placed old at t h =
    let rest = drop (length t) (drop at old) in
    sym (drop-drop (length t) at (take at old ++ (t ++ rest)))
    ∙ (ap (drop (length t)) (drop_at (take at old) (t ++ rest) at (length-take-le at old (omega arith)))
    ∙ (drop-append_seam t rest ∙ drop-drop (length t) at old))

pub put_came : {t old new : List ℕ} {at r : ℕ} → at + length t ≤ length old → Wrote t at old new r → CameOn at r old new
put_came {t} {old} {new} {at} {r} h w =
    record {
      long = wrote_length h w;
      on = omega (arith, w.next);
      within = omega (arith, w.next);
      rest = rw (w.room, w.next) (drop-placed old at t h);
    }

-- what came of a read is no more than was asked for, so it fits
pub came_fits : (long at got most : ℕ) (s : List ℕ) → at ≤ long → most ≤ long - at → got ≤ most → at + length (take got s) ≤ long
came_fits long at got most s h f k = omega (arith, length-take got s)

pub more_came : {old mid new : List ℕ} {from at to : ℕ} → CameOn from at old mid → CameOn at to mid new → CameOn from to old new
more_came {old} {mid} {new} {from} {at} {to} a b =
    let on : at + (to - at) ≡ to = omega (arith, b.on) in
    record {
      long = b.long ∙ a.long;
      on = omega (arith, a.on, b.on);
      within = omega (arith, b.within, a.long);
      rest =
          b.rest
          ∙ (sym (ap (λ (k : ℕ). drop k mid) on)
          ∙ (sym (drop-drop (to - at) at mid)
          ∙ (ap (drop (to - at)) a.rest ∙ (drop-drop (to - at) at old ∙ ap (λ (k : ℕ). drop k old) on))));
    }

-- a line lies in the names
module _ (names : List ℕ) (k : ℕ) {line : Line} (e : line ≡ nth_line names k) where
  pub line_forth : line.from ≤ line.to
  line_forth =
      omega (
        arith,
        (end-within names _ (start-within names k)).0,
        ap (λ (l : Line). l.from) e,
        ap (λ (l : Line). l.to) e,
      )

  pub line_inside : line.to ≤ length names
  line_inside = omega (arith, (end-within names _ (start-within names k)).1, ap (λ (l : Line). l.to) e)

  pub line_long : length (take (line.to - line.from) (drop line.from names)) ≡ line.to - line.from
  line_long = length-take-le _ _ (omega (arith, line_forth, line_inside, length-drop line.from names))

-- a name that is a line with its newline
pub named-came :
    (names : List ℕ) (k : ℕ) {line : Line} {name old new : List ℕ} {r : Came} → line ≡ nth_line names k → not line.ended ≡ false →
    length name ≡ line.to - line.from → FileCame name old new r → NamedCame names k old new r
named-came names k e h l f =
    record {
      came = f.came;
      too_long = λ g. f.too_long (omega (arith, l, ap (λ (x : Line). x.to) e, ap (λ (x : Line). x.from) e));
      no_newline = λ g. not_both (ap not (ap (λ (x : Line). x.ended) e ∙ g)) h;
    }

-- ---- the bytes that are handed on

-- all of a room
whole_room : {old new : List ℕ} → length new ≡ length old → HandedOn old new (length new)
whole_room {old} {new} e =
    record {
      long = e;
      within = omega arith;
      counted = sym (length-take-le (length new) new (omega arith));
      rest = drop_of_length-le new {i = length new} (omega arith) ∙ sym (drop_of_length-le old {i = length new} (omega (arith, e)));
    }

pub came_handed : {old new : List ℕ} {r : Came} {room n : ℕ} → InputCame old new r → room ≡ length new → n ≡ handed_of r room → HandedOn old new n
came_handed {old} {new} {r} {room} {n} f e h =
    subst (HandedOn old new) (sym h)
    (pick_both (HandedOn old new) r.whole (record { long = f.long; within = f.within; counted = f.counted; rest = f.rest })
    (subst (HandedOn old new) (sym e) (whole_room f.long)))

pub last_handed :
    (more : Bool) {old new : List ℕ} {r : Came} {room n : ℕ} → InputCame old new r → room ≡ length new → n ≡ pick more room (handed_of r room) →
    HandedOn old new n
last_handed more {old} {new} {r} {room} f e h =
    subst (HandedOn old new) (sym h)
    (pick_both (HandedOn old new) more (subst (HandedOn old new) (sym e) (whole_room f.long)) (came_handed f e refl))

-- one file of just so many names
pub one_handed :
    (names : List ℕ) (k of : ℕ) {after : Line} {old new : List ℕ} {r : Came} {room n : ℕ} → after ≡ nth_line names of →
    NamedCame names k old new r → room ≡ length new → n ≡ pick (ltb after.from (length names)) room (handed_of r room) →
    OneCame names k of old new n
one_handed names k of {after} {old} {new} {r} {room} {n} a f e h =
    record {
      came = last_handed (ltb after.from (length names)) f.came e h;
      more = λ l. h ∙ (pick_true _ _ (lt-ltb after.from (length names) (omega (arith, l, ap (λ (x : Line). x.from) a))) ∙ e);
      no_newline = λ l. h ∙ (all_of (f.no_newline l) ∙ e);
      too_long = λ l. h ∙ (all_of (f.too_long l) ∙ e);
    }
  where
    all_of : r ≡ not_read → pick (ltb after.from (length names)) room (handed_of r room) ≡ room
    all_of z =
        ap (pick (ltb after.from (length names)) room) (ap (λ (x : Came). handed_of x room) z ∙ pick_false _ _ refl)
        ∙ pick_same (ltb after.from (length names)) room
