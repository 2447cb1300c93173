-- Laws of the highest water of one sheet: what is printed goes by what the run's answer tells and by the peaks.
-- Assumes nothing.
use mathlib.Core.Path.{◌≡◌, ap, subst, ◌∙◌}
use mathlib.Core.List.{List}
use Prim.Native.Nat.{ℕ}
use lib.Dec.{eqb}
use lib.ListN.{length-replicate, replicate}
use Rattle.reckon.specs.Tests.{pick}
use Rattle.grid.specs.Squares.{squares}
use Rattle.ledger.specs.Runs.{Plan, world}
use Rattle.ledger.specs.declared.runs.Run.{Run}
use Rattle.checks.specs.Given.{Given}
use Rattle.checks.specs.Fresh.{fresh_run}
use Rattle.flood.specs.declared.run.Ran.{Ran}
use Rattle.sheet.specs.Sheet.{Rooms, plan_in, given_in, start_in}
use Rattle.sheet.specs.declared.reading.Heading.{Heading}
use Rattle.answer.specs.Printed.{refused_text}
use Rattle.programs.specs.Program.{program_squares, Prints}
use Rattle.programs.specs.Inner.Held.{Begins}
use Rattle.peaks.specs.Peaks.{peaks_over, clocks_over, RunsPeaking}
use Rattle.peaks.specs.Highest.{high_world_text, high_run_text}
use Rattle.peaks.specs.Inner.Sheets.{high_ran_text, PutHighest}
use Rattle.peaks.proofs.RunPeakLaws.{from_nothing, sheet_told}

-- what is printed of a run, told by another answer that is equal
told_as :
    (p : Plan) {x x' y y' : List ℕ} {n n' k k' : ℕ} {u u' : Run} → x ≡ x' → y ≡ y' → n ≡ n' → k ≡ k' → u ≡ u' →
    pick (eqb n 0) (high_world_text p x y u k) (refused_text n 0) ≡ pick (eqb n' 0) (high_world_text p x' y' u' k') (refused_text n' 0)
told_as p a b c d e = cc

-- the run of a sheet from nothing, printed with its peaks
module _ (h : Heading) (parts : Rooms) where
  abbrev P : Plan
  P = plan_in h.shape h.rules parts

  abbrev G : Given
  G = given_in h.shape h.rules parts

  abbrev zeros : List ℕ
  zeros = replicate (squares h.shape) 0

  run-told :
      {a : Ran} {depths lasts records before room peaks' clocks' : List ℕ} {u : Run} → Begins program_squares h parts before room → u ≡ fresh_run h.rules 1 →
      RunsPeaking P G h.end (world parts.cells.depths before room u) zeros zeros a depths lasts records peaks' clocks' →
      high_ran_text P peaks' clocks' a ≡ high_run_text h parts
  unfolding high_run_text
  run-told b u f =
      let none = length-replicate {A = ℕ} (squares h.shape) 0 in
      let t = sheet_told h parts zeros zeros b.shape none none b.passes (from_nothing h parts zeros zeros b.shape none none b.passes b.lasts_none b.records_none u f) in
      told_as P
      (t.3 ∙ ap (λ (k : ℕ). peaks_over P G (start_in h.shape h.rules parts) k zeros) t.1)
      (t.4 ∙ ap (λ (k : ℕ). clocks_over P G (start_in h.shape h.rules parts) k zeros) t.1) t.0 t.1 t.2

  pub highest_printed :
      {a : Ran} {depths lasts records before room peaks clocks peaks' clocks' shown told old new : List ℕ} {u : Run} {r : ℕ} →
      Begins program_squares h parts before room → u ≡ fresh_run h.rules 1 → peaks ≡ zeros → clocks ≡ zeros →
      RunsPeaking P G h.end (world parts.cells.depths before room u) peaks clocks a depths lasts records peaks' clocks' →
      shown ≡ peaks' → told ≡ clocks' → PutHighest P shown told a old new r → Prints (high_run_text h parts) old new r
  highest_printed {a} {depths} {lasts} {records} {before} {room} {peaks} {clocks} {peaks'} {clocks'} {old = old} {new} {u} {r} b e x y f s t w =
      let began : RunsPeaking P G h.end (world parts.cells.depths before room u) zeros zeros a depths lasts records peaks' clocks' = rw (x, y) at f in
      subst (λ (t : List ℕ). Prints t old new r) (ap (λ (p : List ℕ × List ℕ). high_ran_text P p.0 p.1 a) (λ j. (s j, t j)) ∙ run-told b e began) w
