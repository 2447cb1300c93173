-- "A sheet that reads well returns byte for byte, and a set we wrote returns likewise": the texts, and what the calls promise of them.
-- Assumes nothing.
use mathlib.Core.Path.{◌≡◌, refl, sym, ap, ◌∙◌}
use mathlib.Core.Bool.{true}
use mathlib.Core.List.{List}
use Prim.Native.Nat.{ℕ, ◌≤◌}
use native.Mathlib.Omega.{arith}
use lib.Dec.{leb}
use lib.ListN.{length, take}
use borrow.Author.Tests.{le-leb}
use Rattle.reckon.proofs.TestLaws.{pick_true, pick_false, every_each, each_every}
use Rattle.grid.specs.Squares.{squares}
use Rattle.grid.specs.declared.squares.Shape.{Shape}
use Rattle.text.proofs.ReadingLaws.{by_test}
use Rattle.raster.specs.declared.amounts.Scale.{Scale}
use Rattle.raster.specs.declared.amounts.Scale.TheVariants.{Metres, Whole}
use Rattle.sheet.specs.Sheet.{Rooms, rooms_fine, line_one, shape_of, said, heading_of, sheet_of}
use Rattle.sheet.specs.Written.{sheet_written}
use Rattle.sheet.specs.declared.reading.Heading.{Heading}
use Rattle.sheet.specs.declared.reading.Sheet.{Sheet}
use Rattle.sheet.specs.declared.reading.Sheet.TheVariants.{Read, Refused}
use Rattle.sheet.proofs.JudgeLaws.{take_put}
use Rattle.sheet.proofs.SheetLaws.{Well, well, rooms-shape, rain_few, inflow_few}
use Rattle.sheet.proofs.WrittenLaws.{stands_written, said_stands}
use Rattle.programs.specs.Reading.{sheet_within}
use Rattle.survey.specs.Sets.{Set, five_files, most_file, note_text, column_text, set_of, Outcome, moved_out, to_survey, moved_back, all_short, set_answer, from_survey}
use Rattle.survey.specs.Sets.Outcome.{moved, refused}
use Rattle.survey.specs.Moving.{part_of, part_moved, answered, room_after, Moves, MovesPart, MovesSet}
use Rattle.survey.specs.Worked.{Returns}
use Rattle.survey.specs.declared.moving.Part.{Part}
use Rattle.survey.specs.declared.moving.Part.TheVariants.{Note, Bed, Depth, Roughness, Rate}
use Rattle.survey.specs.declared.moving.Moved.{Moved}
use Rattle.survey.specs.declared.moving.Moved.TheVariants.{Wrote}
use Rattle.survey.specs.Inner.Writing.{Writable}
use Rattle.survey.proofs.SayableLaws.{Column, column_readable}
use Rattle.survey.proofs.SetBack.{say, each, bed, depth, roughness, rate, says_same, set-judged}
use Rattle.survey.proofs.FitLaws.{sheet_fits, note_fits, column_fits}
use Rattle.survey.proofs.FromElsewhere.{full, full-rooms, well_read, becomes_sheet}

-- ---- a sheet that reads well with some rooms reads well with those of the most squares

full-fine : (shape : Shape) (D : ℕ) (lent : Rooms) → rooms_fine shape D lent ≡ true → rooms_fine shape D full ≡ true
unfolding rooms_fine
full-fine shape D lent f =
    let t = every_each _ f in
    full-rooms shape D t.0 t.1.0

pub full_well : (s : List ℕ) (lent : Rooms) (h : Heading) → Well s lent h → Well s full (heading_of s)
full_well s lent h w =
    record {
      first_line = w.first_line;
      fine = full-fine (shape_of s) (line_one s).side lent w.fine;
      text_good = w.text_good;
      checks = w.checks;
      heading = refl;
    }

-- ---- a sheet that reads well

module _ (s : List ℕ) (w : Well s full (heading_of s)) where
  abbrev g : Heading
  g = heading_of s

  abbrev t : Set
  t = set_of g (said s)

  written : sheet_written g (said s) ≡ s
  written = sym (stands_written (said_stands s full g (sym (well_read s full w))))

  pub writable : Writable g (said s)
  unfolding heading_of
  writable =
      record {
        shape = rooms-shape (shape_of s) (line_one s).side full w.fine;
        say = say s full w;
        each = each s full w;
        beds = column_readable (bed s full w);
        roughness = column_readable (roughness s full w);
        rates = column_readable (rate s full w);
        depths = column_readable (depth s full w);
        rain_few = rain_few s w.checks;
        inflow_few = inflow_few s w.checks;
      }

  short : length s ≤ most_file
  short = omega (arith, ap length written, sheet_fits g (said s) writable)

  there : to_survey s ≡ moved t
  unfolding to_survey moved_out sheet_within
  there = ap (moved_out s) (pick_true _ _ (le-leb (length s) most_file short) ∙ well_read s full w)

  all_short_lem : all_short t ≡ true
  unfolding all_short set_of
  all_short_lem =
      each_every _ (
        le-leb (length (note_text g (said s))) most_file (note_fits g (said s) writable),
        (
          column-short Metres (bed s full w),
          (column-short Metres (depth s full w), (column-short Whole (roughness s full w), (column-short Whole (rate s full w), tt))),
        ),
      )
    where
      column-short : (k : Scale) {col : List ℕ} → Column (said s).cells.marks (squares g.shape) col →
          leb (length (column_text g (said s) k col)) most_file ≡ true
      column-short k {col} c = le-leb (length (column_text g (said s) k col)) most_file (column_fits g (said s) writable k col c.small)

  back : from_survey t ≡ moved s
  unfolding from_survey set_answer moved_back
  back =
      ap (moved_back t) (pick_true _ _ all_short_lem ∙ set-judged s full w)
      ∙ ap moved (ap (sheet_written g) (says_same s full w) ∙ written)

-- ---- a sheet that is moved reads well, and the set is that of what it says

record Moving (s : List ℕ) (t : Set) : Type 0 where
  reads : Well s full (heading_of s)
  same : set_of (heading_of s) (said s) ≡ t

moving : (s : List ℕ) (t : Set) → to_survey s ≡ moved t → Moving s t
unfolding to_survey moved_out sheet_within
moving s t e =
    by_test (leb (length s) most_file) (λ b. go (sheet_of s full) refl (sym (ap (moved_out s) (pick_true _ _ b)) ∙ e))
    (λ b. never (sym (ap (moved_out s) (pick_false _ _ b)) ∙ e))
  where
    never : {A : Type 0} {n l : ℕ} → refused n l ≡ moved t → A
    never e = absurd (let z : ◌≡◌ {A = ℕ} 0 1 = cc in omega arith)

    go : (a : Sheet) → sheet_of s full ≡ a → moved_out s a ≡ moved t → Moving s t
    go (Refused n l) q e = never e
    go (Read h) q e =
        let w : Well s full h = well s full h (sym q) in
        let f : set_of h (said s) ≡ t = cc in
        record { reads = full_well s full h w; same = ap (λ (g : Heading). set_of g (said s)) (sym w.heading) ∙ f }

-- ---- the theorem

moves_there : (s : List ℕ) (lent : Rooms) (h : Heading) → Read h ≡ sheet_of s lent → to_survey s ≡ moved (set_of h (said s))
moves_there s lent h e =
    let w = well s lent h e in
    there s (full_well s lent h w) ∙ ap (λ (g : Heading). moved (set_of g (said s))) (sym w.heading)

returns_sheet : (s : List ℕ) (t : Set) → to_survey s ≡ moved t → from_survey t ≡ moved s
returns_sheet s t e =
    let m = moving s t e in
    ap from_survey (sym m.same) ∙ back s m.reads

returns_set : (s u : List ℕ) (t : Set) → to_survey s ≡ moved t → from_survey t ≡ moved u → to_survey u ≡ moved t
returns_set s u t e f = go (sym (returns_sheet s t e) ∙ f)
  where
    go : moved s ≡ moved u → to_survey u ≡ moved t
    go q = let z : s ≡ u = cc in ap to_survey (sym z) ∙ e

-- what a promise says where a text is moved
text_moved : {o : Outcome (List ℕ)} (t : List ℕ) {old new : List ℕ} {a : Moved} → o ≡ moved t → Moves o old a new →
    (a ≡ Wrote (length t)) × (take (length t) new ≡ t)
unfolding answered room_after
text_moved t {old} {new} e m =
    (m.answer ∙ ap answered e, ap (take (length t)) (m.room ∙ ap (λ (o : Outcome (List ℕ)). room_after o old) e) ∙ take_put old t (length t) refl)

part_moved_lem : (s : List ℕ) (t : Set) (k : Part) {old new : List ℕ} {n : ℕ} → to_survey s ≡ moved t → MovesPart s k old
    (Wrote n) new → take n new ≡ part_of k t
unfolding part_moved
part_moved_lem s t k {old} {new} {n} e m =
    let a = text_moved (part_of k t) (ap (part_moved k) e) m in
    let z : n ≡ length (part_of k t) = wrote_same a.0 in
    ap (λ (i : ℕ). take i new) z ∙ a.1
  where
    wrote_same : {i j : ℕ} → Wrote i ≡ Wrote j → i ≡ j
    wrote_same e = cc

set_same :
    {n n' b b' d d' k k' r r' : List ℕ} → n ≡ n' → b ≡ b' → d ≡ d' → k ≡ k' → r ≡ r' →
    five_files n b d k r ≡ five_files n' b' d' k' r'
set_same e f g h i = cc

returns_parts :
    (s : List ℕ) (lent : Rooms) (h : Heading) → Read h ≡ sheet_of s lent → (old : List ℕ) (n b d k r : ℕ) (N B D K R : List ℕ) →
    MovesPart s Note old (Wrote n) N → MovesPart s Bed old (Wrote b) B → MovesPart s Depth old (Wrote d) D →
    MovesPart s Roughness old (Wrote k) K → MovesPart s Rate old (Wrote r) R → (a : Moved) (before after : List ℕ) →
    MovesSet (five_files (take n N) (take b B) (take d D) (take k K) (take r R)) before a after →
    (a ≡ Wrote (length s)) × (take (length s) after ≡ s)
unfolding part_of
returns_parts s lent h e old n b d k r N B D K R mn mb md mk mr a before after m =
    let f : to_survey s ≡ moved (set_of h (said s)) = moves_there s lent h e in
    let same =
    set_same (part_moved_lem s (set_of h (said s)) Note f mn) (part_moved_lem s (set_of h (said s)) Bed f mb) (part_moved_lem s (set_of h (said s)) Depth f md)
    (part_moved_lem s (set_of h (said s)) Roughness f mk) (part_moved_lem s (set_of h (said s)) Rate f mr) in
    text_moved s (ap from_survey same ∙ returns_sheet s (set_of h (said s)) f) m

pub returns : Returns
returns =
    record {
      sheet_moves = moves_there;
      sheet_returns = returns_sheet;
      set_returns = returns_set;
      elsewhere = becomes_sheet;
      there_and_back = returns_parts;
    }
