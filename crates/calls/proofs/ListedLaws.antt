-- What each call for the highest water and for lists of sheets promises gives what its caller has.
-- Assumes nothing.
use mathlib.Core.Path.{◌≡◌, refl, sym, ap, ◌∙◌, subst}
use mathlib.Core.Bool.{false}
use mathlib.Core.List.{List, [], ◌∷◌, ◌++◌}
use Prim.Native.Nat.{ℕ, ◌+◌, ◌≤◌, ◌<◌}
use native.Mathlib.Omega.{arith}
use lib.Dec.{leb}
use lib.ListN.{length, get_or, take, drop}
use lib.Seq.{take_at, drop_at}
use borrow.Author.Tests.{leb-true, le-leb, lt-leb}
use Rattle.reckon.specs.Tests.{◌unless◌}
use Rattle.reckon.specs.Ranges.{most_depth}
use Rattle.reckon.specs.Lists.{placed}
use Rattle.reckon.specs.Most.{most_over}
use Rattle.reckon.proofs.TestLaws.{refusal_passed, pick_true, pick_false, pick_both, no_more}
use Rattle.reckon.proofs.ListLaws.{filled_in}
use Rattle.reckon.proofs.MostLaws.{most_is}
use Rattle.grid.specs.Squares.{squares}
use Rattle.ledger.specs.Runs.{Plan, World, world}
use Rattle.ledger.specs.Flows.{shut}
use Rattle.checks.specs.Given.{Given}
use Rattle.checks.specs.Refusals.{check_refusals}
use Rattle.flood.specs.Run.{Ended, RunsTo}
use Rattle.flood.specs.declared.run.Ran.{Ran}
use Rattle.grid.specs.declared.walks.Walk.TheVariants.{Wet}
use Rattle.text.specs.Reading.{number_at, with_number, is_byte, newline}
use Rattle.text.specs.declared.reading.Number.{Number}
use Rattle.std.proofs.Common.{Option, Some, None}
use Rattle.text.specs.Writing.{Wrote}
use Rattle.programs.specs.Program.{Prints, most_text}
use Rattle.peaks.specs.Peaks.{depth_after, peak_of, peak_clock, peaks_over, clocks_over, peak_rows, peak_checks, RunsPeaking}
use Rattle.peaks.specs.Highest.{highest_text}
use Rattle.peaks.proofs.RunPeakLaws.{not_run, peaks_stay, clocks_stay, rooms_long, ran_is, peaks-told, clocks-told}
use Rattle.lists.specs.Names.{most_sheets, list_number, list_after, listed, list_refused, names_from}
use Rattle.lists.specs.Sheets.{File}
use Rattle.lists.specs.Tally.{Rooms, Begins, TakesSheet, PutsDrowned, beginning, tally_after, rooms_after, tally_text}
use Rattle.lists.specs.Right.{taken}
use Rattle.lists.specs.declared.names.Listed.{Listed}
use Rattle.lists.specs.declared.tally.Tally.{Tally}
use Rattle.lists.proofs.RightLaws.{drowned_right}
use Rattle.demands.specs.Table.{FirstFails, TableSays}
use Rattle.demands.proofs.Table.{table_says}
use Rattle.calls.specs.Listed.{PeakIs, AfterPeaks, AfterHighest, FirstLine, ListTold, AfterList, AfterBeginning, AfterSheet, AfterDrowned}
use Rattle.calls.proofs.LibraryLaws.{after_run}

-- ---- a run with its peaks

module _ (p : Plan) (g : Given) (end : ℕ) (w : World) (peaks clocks : List ℕ) {a : Ran} {depths lasts records peaks' clocks' : List ℕ} (f : RunsPeaking p g end w peaks clocks a depths lasts records peaks' clocks') where
  -- the rows are a table
  says : TableSays (peak_rows p g end w peaks clocks) (peak_checks p g end w peaks clocks)
  unfolding peak_checks check_refusals
  says = table_says _ tt

  refused :
      (n : ℕ) → FirstFails (peak_rows p g end w peaks clocks) n →
      (a.refused ≡ n) × (a.steps ≡ 0) × (world depths lasts records a.run ≡ w) × (peaks' ≡ peaks) × (clocks' ≡ clocks)
  refused n first =
      let e : peak_checks p g end w peaks clocks ≡ n = says.applies n first in
      let d : n ≡ 0 → ⊥ = λ z. says.never_none (subst (FirstFails (peak_rows p g end w peaks clocks)) z first) in
      let as-was = f.ends ∙ sym (not_run p g end w peaks clocks e d) in (
        ap (λ (x : Ended). x.number) as-was,
        ap (λ (x : Ended). x.steps) as-was,
        ap (λ (x : Ended). x.world) as-was,
        f.peaks_are ∙ sym (peaks_stay p g end w peaks clocks e d),
        f.clocks_are ∙ sym (clocks_stay p g end w peaks clocks e d),
      )

  module _ (none : peak_checks p g end w peaks clocks ≡ 0) where
    plain : RunsTo p g end w a depths lasts records
    plain = record { ends = ran_is p g end w peaks clocks none f }

    module _ (i : ℕ) (l : i < squares p.shape) (o : shut p i ≡ false) where
      peak_at : get_or peaks' i 0 ≡ most_over a.steps (depth_after p g w i)
      unfolding peaks_over peak_of
      peak_at =
          ap (λ (x : List ℕ). get_or x i 0) (peaks-told p g end w peaks clocks none f)
          ∙ filled_in (squares p.shape) (shut p) _ peaks i (omega (arith, l, (rooms_long p g end w peaks clocks none).0)) l o

      clock_at : get_or clocks' i 0 ≡ peak_clock p g w a.steps i
      unfolding clocks_over
      clock_at =
          ap (λ (x : List ℕ). get_or x i 0) (clocks-told p g end w peaks clocks none f)
          ∙ filled_in (squares p.shape) (shut p) _ clocks i (omega (arith, l, (rooms_long p g end w peaks clocks none).1)) l o

      peak_is : PeakIs p g w a.steps i (get_or peaks' i 0) (get_or clocks' i 0)
      unfolding peak_clock
      peak_is = record { most = most_is a.steps (depth_after p g w i); peak_is = peak_at; clock_is = clock_at }

  pub after-peaks : AfterPeaks p g end w peaks clocks a (world depths lasts records a.run) peaks' clocks'
  after-peaks = record { exactly_when = refused; same_run = λ none. after_run Wet (plain none); highest = peak_is }

-- ---- what is printed

-- a text at the start of a room
pub printed : {t old new : List ℕ} {long : ℕ} → Wrote t 0 old new long → (take long new ≡ t) × (drop long new ≡ drop long old)
unfolding placed
printed {t} {old} {new} {long} x =
    let whole : long ≡ length t = omega (arith, x.next) in
    let room : new ≡ t ++ drop (length t) old = x.room in
    (rw (room, whole) (take_at t (drop (length t) old) (length t) refl), rw (room, whole) (drop_at t (drop (length t) old) (length t) refl))

pub after_highest : {s old new : List ℕ} {long : ℕ} → Prints (highest_text s) old new long → AfterHighest s old new long
after_highest x = record { printed = (printed x.wrote).0; rest_stays = (printed x.wrote).1 }

-- ---- a list

-- a list's number is 0 only where both rows pass
number_passes : (wet names : ℕ) → list_number wet names ≡ 0 → (wet ≤ most_depth) × (names ≤ most_sheets)
unfolding list_number
number_passes wet names e =
    let rows = refusal_passed (5 unless leb wet most_depth ∷ 16 unless leb names most_sheets ∷ []) tt e in
    (leb-true _ _ rows.0, leb-true _ _ rows.1.0)

abbrev InRange : Listed → Type 0
InRange a = a.number ≡ 0 → (a.wet ≤ most_depth) × (a.names ≤ most_sheets)

refused_out : (line : ℕ) → InRange (list_refused line)
refused_out line z = absurd (let e : 12 ≡ 0 = z in omega arith)

list_in_range : (s : List ℕ) → InRange (listed s)
unfolding listed list_after
list_in_range s = pick_both InRange (leb (length s) most_text) (go (number_at s 0)) (refused_out 0)
  where
    go : (n : Option Number) → InRange (with_number n (list_refused 1) (list_after s))
    go (Some n) = pick_both InRange (is_byte s n.next newline) (λ z. number_passes n.value (names_from s (n.next + 1)) z) (refused_out 1)
    go None = refused_out 1

module _ (s : List ℕ) {a : Listed} (e : a ≡ listed s) where
  list_too_long : most_text < length s → a ≡ list_refused 0
  unfolding listed
  list_too_long h = e ∙ pick_false _ _ (lt-leb (length s) most_text h)

  module _ (short : length s ≤ most_text) where
    by_first : a ≡ with_number (number_at s 0) (list_refused 1) (list_after s)
    unfolding listed
    by_first = e ∙ pick_true _ _ (le-leb (length s) most_text short)

    list_not_read : ((wet q : ℕ) → FirstLine s wet q → ⊥) → a ≡ list_refused 1
    unfolding list_after
    list_not_read none = by_first ∙ go (number_at s 0) refl
      where
        go : (n : Option Number) → number_at s 0 ≡ n → with_number n (list_refused 1) (list_after s) ≡ list_refused 1
        go (Some n) z = pick_false _ _ (no_more (is_byte s n.next newline) (λ t. none n.value n.next (record { read = z; ended = t })))
        go None z = refl

    list-told : (wet q : ℕ) → FirstLine s wet q → ListTold wet (names_from s (q + 1)) a
    unfolding list_after list_number
    list-told wet q h =
        let z : a ≡ record { number = list_number wet (names_from s (q + 1)); line = 0; wet = wet; names = names_from s (q + 1) }
        = by_first ∙ (ap (λ (n : Option Number). with_number n (list_refused 1) (list_after s)) h.read ∙ pick_true _ _ h.ended) in
        record {
          depth_is = ap (λ (x : Listed). x.wet) z;
          names_are = ap (λ (x : Listed). x.names) z;
          no_line = ap (λ (x : Listed). x.line) z;
          exactly_when = subst (TableSays _) (sym (ap (λ (x : Listed). x.number) z)) (table_says _ tt);
        }

  pub after_list : AfterList s a
  after_list =
      let known : InRange a = subst InRange (sym e) (list_in_range s) in
      record {
        too_long = list_too_long;
        not-read = list_not_read;
        told = list-told;
        depth_in_range = λ z. (known z).0;
        names_few = λ z. (known z).1;
      }

-- one name more at the end of a list
taken_more :
    (files : List File) (f : File) (kept : Tally × Rooms) →
    taken (files ++ (f ∷ [])) kept ≡ (tally_after (taken files kept).0 f (taken files kept).1, rooms_after (taken files kept).0 f (taken files kept).1)
unfolding taken
taken_more [] f kept = refl
taken_more (g ∷ rest) f kept = taken_more rest f (tally_after kept.0 g kept.1, rooms_after kept.0 g kept.1)

pub after-beginning : (wet : ℕ) {a : Tally} → Begins wet a → AfterBeginning wet a
unfolding taken
after-beginning wet {a} e r long = record { before = r; long = long; stands = ap (λ (t : Tally). (t, r)) (sym e) }

pub after_sheet : {t a : Tally} {f : File} {r after : Rooms} → TakesSheet t f r a after → AfterSheet t f r a after
after_sheet {t} {a} {f} {r} {after} x wet files s =
    record {
      before = s.before;
      long = s.long;
      stands =
          taken_more files f (beginning wet, s.before)
          ∙ (ap (λ (k : Tally × Rooms). (tally_after k.0 f k.1, rooms_after k.0 f k.1)) s.stands
          ∙ (λ j. (sym x.tally_is j, sym x.rooms_are j)));
    }

pub after-drowned : {t : Tally} {r : Rooms} {old new : List ℕ} {long : ℕ} → PutsDrowned t r old new long → AfterDrowned t r new long
after-drowned {t} {r} x =
    record {
      printed = λ wet files few s.
          (printed x.wrote).0
          ∙ (ap (λ (k : Tally × Rooms). tally_text k.0 k.1) (sym s.stands) ∙ (drowned_right wet files s.before s.long few).printed);
      right = λ wet files few s. drowned_right wet files s.before s.long few;
    }
