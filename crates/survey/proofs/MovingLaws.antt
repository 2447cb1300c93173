-- Laws of a sheet's part put into a room: what each part is, that it fits, and what is answered.
-- Assumes nothing.
use mathlib.Core.Path.{◌≡◌, refl, sym, ap, subst, ◌∙◌}
use mathlib.Core.List.{List}
use Prim.Native.Nat.{ℕ, ◌+◌, ◌≤◌}
use native.Mathlib.Nat.{zero-add}
use native.Mathlib.Omega.{arith}
use lib.Dec.{leb}
use lib.ListN.{length, take, drop, length-append}
use lib.Seq.{length-take-le}
use borrow.Author.Tests.{eq-eqb, ne_eqb}
use Rattle.reckon.specs.Lists.{placed}
use Rattle.reckon.proofs.TestLaws.{pick_true, pick_false}
use Rattle.grid.specs.Squares.{most_squares, squares}
use Rattle.text.specs.Writing.{Wrote}
use Rattle.text.proofs.ReadingLaws.{by_test}
use Rattle.raster.specs.declared.amounts.Scale.{Scale}
use Rattle.raster.specs.declared.amounts.Scale.TheVariants.{Metres, Whole}
use Rattle.sheet.specs.Sheet.{Rooms, said, checks_in}
use Rattle.sheet.specs.Written.{lines_written, sheet_written}
use Rattle.sheet.specs.declared.reading.Heading.{Heading}
use Rattle.sheet.specs.declared.reading.Sheet.{Sheet}
use Rattle.sheet.specs.declared.reading.Sheet.TheVariants as sheet
use Rattle.sheet.proofs.SheetLaws.{Well, well}
use Rattle.programs.specs.Reading.{sheet_within, ReadsWithin}
use Rattle.programs.specs.Inner.Held.{parts_of}
use Rattle.programs.proofs.HeldLaws.{parts_said, parts_at}
use Rattle.survey.specs.Sets.{most_file, note_text, column_text, set_of, Outcome, moved_out, to_survey}
use Rattle.survey.specs.Sets.Outcome.{moved, refused}
use Rattle.survey.specs.Moving.{part_of, part_moved, answered, room_after, Moves, MovesPart}
use Rattle.survey.specs.Inner.Notes.{Judged, judged_text}
use Rattle.survey.specs.Inner.Writing.{Writable, only_noted}
use Rattle.survey.specs.declared.moving.Part.{Part}
use Rattle.survey.specs.declared.moving.Part.TheVariants as part
use Rattle.survey.specs.declared.moving.Moved.{Moved}
use Rattle.survey.specs.declared.moving.Moved.TheVariants as Moved-as
use Rattle.survey.proofs.LinesBack.{readable_at}
use Rattle.survey.proofs.FitLaws.{note_fits, column_fits}
use Rattle.survey.proofs.FromElsewhere.{full}
use Rattle.survey.proofs.ReturnLaws.{full_well, writable}

-- ---- the parts

module _ (h : Heading) (held : Rooms) where
  noted_same : note_text h held ≡ note_text h (only_noted held.cells.marks held.rain held.inflow)
  unfolding note_text lines_written
  noted_same = refl

  pub note_part : part_of part.Note (set_of h held) ≡ note_text h (only_noted held.cells.marks held.rain held.inflow)
  unfolding part_of set_of
  note_part = noted_same

  pub bed_part : part_of part.Bed (set_of h held) ≡ column_text h held Metres held.cells.beds
  unfolding part_of set_of
  bed_part = refl

  pub depth_part : part_of part.Depth (set_of h held) ≡ column_text h held Metres held.cells.depths
  unfolding part_of set_of
  depth_part = refl

  pub roughness_part : part_of part.Roughness (set_of h held) ≡ column_text h held Whole held.cells.roughness
  unfolding part_of set_of
  roughness_part = refl

  pub rate_part : part_of part.Rate (set_of h held) ≡ column_text h held Whole held.cells.rates
  unfolding part_of set_of
  rate_part = refl

  -- each fits into a room for a file
  module _ (w : Writable h held) (out : List ℕ) (large : most_file ≤ length out) where
    pub note_room : length (note_text h (only_noted held.cells.marks held.rain held.inflow)) ≤ length out
    note_room = omega (arith, large, note_fits h held w, ap length noted_same)

    abbrev Fits : Scale → List ℕ → Type 0
    Fits k column = length (column_text h held k column) ≤ length out

    pub bed_room : Fits Metres held.cells.beds
    bed_room = omega (arith, large, column_fits h held w Metres held.cells.beds (λ i e. readable_at held.cells.beds w.beds i))

    pub depth-room : Fits Metres held.cells.depths
    depth-room = omega (arith, large, column_fits h held w Metres held.cells.depths (λ i e. readable_at held.cells.depths w.depths i))

    pub roughness_room : Fits Whole held.cells.roughness
    roughness_room =
        omega (arith, large, column_fits h held w Whole held.cells.roughness (λ i e. readable_at held.cells.roughness w.roughness i))

    pub rate_room : Fits Whole held.cells.rates
    rate_room = omega (arith, large, column_fits h held w Whole held.cells.rates (λ i e. readable_at held.cells.rates w.rates i))

-- ---- a sheet that was read, or refused

never_read : {A : Type 0} {h : Heading} {n l : ℕ} → sheet.Read h ≡ sheet.Refused n l → A
never_read e = absurd (let z : ◌≡◌ {A = ℕ} 0 1 = cc in omega arith)

module _ (s : List ℕ) {h : Heading} {held : Rooms} (f : ReadsWithin most_file s full (sheet.Read h) held) where
  read_well : Well s full h
  unfolding sheet_within
  read_well =
      by_test (leb (length s) most_file) (λ e. well s full h (f.answer ∙ pick_true _ _ e)) (λ e. never_read (f.answer ∙ pick_false _ _ e))

  pub read_writable : Writable h (parts_of h held)
  read_writable =
      subst (λ (r : Rooms). Writable h r) (sym (parts_said most_file most_squares s f))
      (subst (λ (g : Heading). Writable g (said s)) (sym read_well.heading) (writable s (full_well s full h read_well)))

  moved_is : to_survey s ≡ moved (set_of h (said s))
  unfolding to_survey moved_out
  moved_is = ap (moved_out s) (sym f.answer)

  pub part_put : (k : Part) {old new : List ℕ} {r : ℕ} → Wrote (part_of k (set_of h (parts_of h held))) 0 old new r → MovesPart s k old
      (Moved-as.Wrote r) new
  unfolding part_moved answered room_after
  part_put k {old} {new} {r} w =
      let same : part_of k (set_of h (parts_of h held)) ≡ part_of k (set_of h (said s)) =
      ap (λ (x : Rooms). part_of k (set_of h x)) (parts_said most_file most_squares s f) in
      let o : part_moved k (to_survey s) ≡ moved (part_of k (set_of h (said s))) = ap (part_moved k) moved_is in
      put (part_moved k (to_survey s)) (o ∙ ap moved (sym same)) w
    where
      put : {t : List ℕ} (o : Outcome (List ℕ)) → o ≡ moved t → Wrote t 0 old new r → Moves o old (Moved-as.Wrote r) new
      put {t} o e v =
          record {
            answer = ap Moved-as.Wrote (v.next ∙ zero-add (length t)) ∙ sym (ap answered e);
            room = v.room ∙ sym (ap (λ (x : Outcome (List ℕ)). room_after x old) e);
          }

pub part_refused : (s : List ℕ) (k : Part) {after : Rooms} {n l : ℕ} (old : List ℕ) → ReadsWithin most_file s full (sheet.Refused n l) after →
    MovesPart s k old (Moved-as.Refused n l) old
unfolding to_survey moved_out part_moved answered room_after
part_refused s k old f =
    record {
      answer = ap (λ (a : Sheet). answered (part_moved k (moved_out s a))) f.answer;
      room = ap (λ (a : Sheet). room_after (part_moved k (moved_out s a)) old) f.answer;
    }

-- ---- parts of rooms by a count that is the number of squares

module _ {n : ℕ} (h : Heading) (held : Rooms) (e : n ≡ squares h.shape) where
  pub parts_writable : Writable h (parts_of h held) → Writable h (parts_at n h held)
  parts_writable w = subst (λ (k : ℕ). Writable h (parts_at k h held)) (sym e) w

  pub parts_judged : Judged h (parts_of h held) → Judged h (parts_at n h held)
  parts_judged w = subst (λ (k : ℕ). Judged h (parts_at k h held)) (sym e) w

  pub parts_moved : {old new : List ℕ} {a : Moved} → Moves (judged_text h (parts_at n h held)) old a new → Moves (judged_text h (parts_of h held)) old a new
  parts_moved {old} {new} {a} m = subst (λ (k : ℕ). Moves (judged_text h (parts_at k h held)) old a new) e m

  pub parts_wrote : (k : Part) {old new : List ℕ} {r : ℕ} → Wrote (part_of k (set_of h (parts_at n h held))) 0 old new r →
      Wrote (part_of k (set_of h (parts_of h held))) 0 old new r
  parts_wrote k {old} {new} {r} w = subst (λ (m : ℕ). Wrote (part_of k (set_of h (parts_at m h held))) 0 old new r) e w

-- ---- what rooms hold, judged

module _ (h : Heading) (held : Rooms) {number : ℕ} (e : number ≡ checks_in h.shape h.rules held h.end) where
  pub judged-refused : (old : List ℕ) → (number ≡ 0 → ⊥) → Moves (judged_text h held) old (Moved-as.Refused number 0) old
  unfolding judged_text answered room_after
  judged-refused old d =
      let o : judged_text h held ≡ refused number 0 =
      pick_false _ _ (ne_eqb _ 0 (λ z. d (e ∙ z))) ∙ ap (λ (n : ℕ). refused n 0) (sym e) in
      record { answer = sym (ap answered o); room = sym (ap (λ (x : Outcome (List ℕ)). room_after x old) o) }

  pub judged_put : {old new : List ℕ} {r : ℕ} → number ≡ 0 → Wrote (sheet_written h held) 0 old new r → Moves (judged_text h held) old (Moved-as.Wrote r) new
  unfolding judged_text answered room_after
  judged_put {old} z v =
      let o : judged_text h held ≡ moved (sheet_written h held) = pick_true _ _ (eq-eqb _ 0 (sym e ∙ z)) in
      record {
        answer = ap Moved-as.Wrote (v.next ∙ zero-add (length (sheet_written h held))) ∙ sym (ap answered o);
        room = v.room ∙ sym (ap (λ (x : Outcome (List ℕ)). room_after x old) o);
      }

-- ---- what was written lies in the room

pub record Lying (n : ℕ) (new : List ℕ) : Type 0 where
  pub within : n ≤ length new
  pub counted : n ≡ length (take n new)

pub wrote_lies : (o : Outcome (List ℕ)) {old new : List ℕ} {n : ℕ} {a : Moved} → a ≡ Moved-as.Wrote n → Moves o old a new → Lying n new
unfolding answered room_after placed
wrote_lies (moved t) {old} {new} {n} w m =
    let e : n ≡ length t = same (sym w ∙ m.answer) in
    let long : length new ≡ length t + length (drop (length t) (drop 0 old)) =
    ap length m.room ∙ length-append t (drop (length t) (drop 0 old)) in
    let inside : n ≤ length new = omega (arith, e, long) in
    record { within = inside; counted = sym (length-take-le n new inside) }
  where
    same : {i j : ℕ} → Moved-as.Wrote i ≡ Moved-as.Wrote j → i ≡ j
    same e = cc
wrote_lies (refused number line) w m = never (sym w ∙ m.answer)
  where
    never : {A : Type 0} {i j k : ℕ} → Moved-as.Wrote i ≡ Moved-as.Refused j k → A
    never e = absurd (let z : ◌≡◌ {A = ℕ} 0 1 = cc in omega arith)
