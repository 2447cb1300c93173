-- Laws of what is printed of a line.
-- Assumes nothing.
use mathlib.Core.Path.{◌≡◌, refl, sym, ap, ap₂, subst, ◌∙◌}
use mathlib.Core.Bool.{true, false}
use mathlib.Core.List.{List, []}
use Prim.Native.Nat.{ℕ, zero, suc, ◌≤◌, ◌<◌, ◌^◌}
use native.Mathlib.Omega.{arith}
use Rattle.std.proofs.Common.{Option, Some, None}
use lib.ListN.{length, get_or}
use borrow.Author.Tests.{eq-eqb, ne_eqb}
use Rattle.reckon.specs.Tests.{pick, refusal}
use Rattle.reckon.proofs.TestLaws.{pick_true, pick_false}
use Rattle.grid.specs.Squares.{squares}
use Rattle.ledger.specs.Runs.{Plan}
use Rattle.checks.specs.Given.{Given}
use Rattle.ledger.specs.declared.runs.Run.{Run}
use Rattle.answer.proofs.PrintLaws.{made_short}
use Rattle.text.proofs.WritingLaws.{placed_none}
use Rattle.answer.specs.Printed.{refused_text, made_text}
use Rattle.programs.specs.Program.{Prints, most_printed, program_squares}
use Rattle.hatches.specs.Lines.{log_line}
use Rattle.hatches.specs.Log.{Evening, entry_refusals}
use Rattle.evenings.specs.Taking.{entry_number, read_number, after_read, TakesEntry}
use Rattle.evenings.specs.Shown.{is_shown, stands_text, entry_text, shown_of, TakesLine}
use Rattle.hatches.specs.declared.lines.LogLine.{LogLine}
use Rattle.hatches.specs.declared.log.Log.{Log}
use Rattle.hatches.specs.declared.lines.Entry.{Entry}
use Rattle.hatches.proofs.RefusalLaws.{Lent, entered_is}

-- the program's room holds a world of its squares
pub made_fits :
    (p : Plan) (depths : List ℕ) (u : Run) (steps : ℕ) → squares p.shape ≤ program_squares → ((i : ℕ) → get_or depths i 0 < 2 ^ 32) → u.outflow < 2 ^ 64 → u.soaked < 2 ^ 64 →
    steps < 2 ^ 64 → u.clock < 2 ^ 64 → length (made_text p depths u steps) ≤ most_printed
made_fits p depths u steps few words hu hk hs hc = omega (arith, made_short p depths u steps (omega (arith, few)) words hu hk hs hc, few)

module _ (p : Plan) (entry : Entry) (line : ℕ) (e : Evening) {old new : List ℕ} {r : ℕ} where
  pub shown_line : {number : ℕ} → number ≡ 12 → Prints (refused_text 12 line) old new r → Prints (entry_text p number entry line e) old new r
  unfolding entry_text pick
  shown_line z w = rw z w

  pub shown-refused : {number : ℕ} → (number ≡ 0 → ⊥) → (number ≡ 12 → ⊥) → Prints (refused_text number 0) old new r → Prints (entry_text p number entry line e) old new r
  unfolding entry_text
  shown-refused {number} d f w =
      subst (λ (t : List ℕ). Prints t old new r)
      (sym (pick_false _ _ (ne_eqb _ _ d) ∙ ap (refused_text number) (pick_false _ _ (ne_eqb _ _ f)))) w

  pub shown-world : {number : ℕ} → number ≡ 0 → is_shown entry ≡ true → Prints (stands_text p e) old new r → Prints (entry_text p number entry line e) old new r
  unfolding entry_text
  shown-world z h w =
      subst (λ (t : List ℕ). Prints t old new r) (sym (pick_true _ _ (eq-eqb _ _ z) ∙ pick_true _ _ h)) w

-- nothing is printed
pub nothing_printed : (old : List ℕ) {r : ℕ} → r ≡ 0 → Prints [] old old r
nothing_printed old e = rw e (record { wrote = record { next = omega arith; room = sym (placed_none old 0) }; fits = omega arith; within = omega arith; counted = refl })

pub shown_nothing : (p : Plan) (entry : Entry) (line : ℕ) (e : Evening) {old : List ℕ} {number : ℕ} → number ≡ 0 → is_shown entry ≡ false → Prints (entry_text p number entry line e) old old 0
unfolding entry_text
shown_nothing p entry line e {old} z h =
    subst (λ (t : List ℕ). Prints t old old 0) (sym (pick_true _ _ (eq-eqb _ _ z) ∙ pick_false _ _ h))
    (nothing_printed old refl)

-- a line that is not refused was lent enough
pub shown_lent : (p : Plan) (g : Given) (e : Evening) (entry : Entry) {number : ℕ} → number ≡ entry_number p g e entry → number ≡ 0 → Lent p e.depths e.records e.began
unfolding entry_number
shown_lent p g e entry h z = go (refusal (entry_refusals p g e entry)) refl
  where
    go : (k : ℕ) → refusal (entry_refusals p g e entry) ≡ k → Lent p e.depths e.records e.began
    go zero y = (entered_is p g e entry y).lent
    go (suc k) y =
        let d : refusal (entry_refusals p g e entry) ≡ 0 → ⊥ = λ x. omega (arith, sym y ∙ x) in
        absurd (d (sym (h ∙ pick_false _ _ (ne_eqb _ _ d)) ∙ z))

-- a line read, taken and printed
module _ (p : Plan) (g : Given) (s : List ℕ) (at line : ℕ) (e : Evening) {l : LogLine} (h : l ≡ log_line s at) where
  pub shown_whole :
      {entry : Entry} {number r : ℕ} {after : Evening} {log : Log} {old new : List ℕ} → l.entry ≡ Some entry →
      TakesEntry p g (Some entry) e number after → Prints (entry_text p number entry line after) old new r →
      TakesLine p g s at line e (record { number = number; next = l.next; length = r; log = log }) after old new
  shown_whole {entry} {number} {r} {after} {log} {old} {new} q t w =
      let k : Some entry ≡ (log_line s at).entry = sym q ∙ ap (λ (x : LogLine). x.entry) h in
      record {
        number_is = t.number_is ∙ ap (read_number p g e) k;
        next_is = ap (λ (x : LogLine). x.next) h;
        evening_is = t.evening_is ∙ ap (after_read p g e) k;
        prints =
            subst (λ (x : List ℕ). Prints x old new r)
            (ap₂ (λ (n : ℕ) (x : Evening). entry_text p n entry line x) t.number_is t.evening_is
            ∙ ap (λ (x : Option Entry). shown_of p (read_number p g e x) x line (after_read p g e x)) k)
            w;
      }

  -- one that cannot be read
  pub shown_unread :
      {r : ℕ} {log : Log} {old new : List ℕ} → l.entry ≡ None → Prints (refused_text 12 line) old new r →
      TakesLine p g s at line e (record { number = 12; next = l.next; length = r; log = log }) e old new
  shown_unread {r} {log} {old} {new} q w =
      let k : None ≡ (log_line s at).entry = sym q ∙ ap (λ (x : LogLine). x.entry) h in
      record {
        number_is = ap (read_number p g e) k;
        next_is = ap (λ (x : LogLine). x.next) h;
        evening_is = ap (after_read p g e) k;
        prints =
            subst (λ (x : List ℕ). Prints x old new r)
            (ap (λ (x : Option Entry). shown_of p (read_number p g e x) x line (after_read p g e x)) k)
            w;
      }
