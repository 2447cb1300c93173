-- What each call of the hatch log promises gives what its caller has.
-- Assumes nothing.
use mathlib.Core.Path.{sym, ap, ◌∙◌, subst}
use mathlib.Core.List.{List}
use Prim.Native.Nat.{ℕ}
use borrow.Author.Tests.{eq-eqb, ne_eqb}
use Rattle.std.specs.Prelude.{◌≡◌, false, [], ◌∷◌, Option, Some, None}
use Rattle.reckon.specs.Tests.{pick, ◌unless◌, refusal}
use Rattle.reckon.proofs.TestLaws.{pick_true, pick_false}
use Rattle.ledger.specs.Runs.{Plan}
use Rattle.checks.specs.Given.{Given}
use Rattle.hatches.specs.Log.{Evening, entry_refusals}
use Rattle.evenings.specs.Taking.{entry_number, after_entry, read_number, after_read, TakesEntry}
use Rattle.evenings.specs.Shown.{TakesLine}
use Rattle.evenings.specs.Program.{Stores, Begins, GoesOn}
use Rattle.hatches.specs.declared.lines.Entry.{Entry}
use Rattle.evenings.specs.declared.telling.LineTaken.{LineTaken}
use Rattle.evenings.specs.declared.program.Night.{Night}
use Rattle.demands.specs.Table.{FirstFails, TableSays}
use Rattle.demands.proofs.Table.{table_says}
use Rattle.demands.specs.HatchLog.{page_after, on, stores_with}
use Rattle.demands.proofs.HatchRuns.{hatch_log_runs}
use Rattle.calls.specs.Evenings.{line_refusals, AfterEntry, AfterRead, AfterLine, AfterBegin, AfterGoingOn}

module _ (p : Plan) (g : Given) (entry : Entry) (e : Evening) where
  -- the rows are a table
  says : TableSays (entry_refusals p g e entry) (refusal (entry_refusals p g e entry))
  unfolding entry_refusals
  says = table_says _ tt

  after-entry : {number : ℕ} {after : Evening} → TakesEntry p g (Some entry) e number after → AfterEntry p g entry e number after
  unfolding entry_number after_entry page_after
  after-entry s =
      record {
        exactly_when = λ n first.
            let e' = says.applies n first in
            let refused = ne_eqb (refusal (entry_refusals p g e entry)) 0 (λ z. says.never_none (subst (FirstFails (entry_refusals p g e entry)) (sym e' ∙ z) first)) in
            (s.number_is ∙ (pick_false _ _ refused ∙ e'), s.evening_is ∙ pick_false _ _ refused);
        taken = λ z.
            let passed = eq-eqb (refusal (entry_refusals p g e entry)) 0 z in
            (s.number_is ∙ pick_true _ _ passed, s.evening_is ∙ pick_true _ _ passed);
        goes_on = λ x q. ap (λ (at : Evening). after_entry p g at entry) q ∙ sym s.evening_is;
      }

-- a line that cannot be read has one row, which applies
unread_says : (n : ℕ) → FirstFails (12 unless false ∷ []) n → 12 ≡ n
unfolding refusal pick
unread_says n first = (table_says (12 unless false ∷ []) tt).applies n first

-- read or not, the first row that applies refuses it
refused_when :
    (p : Plan) (g : Given) (entry : Option Entry) (e : Evening) {number : ℕ} {after : Evening} → TakesEntry p g entry e number after →
    (n : ℕ) → FirstFails (line_refusals p g e entry) n → (number ≡ n) × (after ≡ e)
refused_when p g (Some entry) e t = (after-entry p g entry e t).exactly_when
refused_when p g None e t = λ n first. (t.number_is ∙ unread_says n first, t.evening_is)

pub after_read-entry :
    (p : Plan) (g : Given) (entry : Option Entry) (e : Evening) {number : ℕ} {after : Evening} → TakesEntry p g entry e number after → AfterRead p g entry e number after
unfolding page_after
after_read-entry p g entry e t =
    record {
      said = λ x h. after-entry p g x e (record { number_is = t.number_is ∙ ap (read_number p g e) h; evening_is = t.evening_is ∙ ap (after_read p g e) h });
      unread = λ h. (t.number_is ∙ ap (read_number p g e) h, t.evening_is ∙ ap (after_read p g e) h);
      exactly_when = refused_when p g entry e t;
      goes_on = λ x q. ap (λ (at : Evening). after_read p g at entry) q ∙ sym t.evening_is;
    }

pub after_line :
    (p : Plan) (g : Given) (s : List ℕ) (at line : ℕ) (e : Evening) {a : LineTaken} {after : Evening} {old new : List ℕ} →
    TakesLine p g s at line e a after old new → AfterLine p g s at line e a after old new
after_line p g s at line e t =
    record {
      entry_taken = after_read-entry p g _ e (record { number_is = t.number_is; evening_is = t.evening_is });
      next_is = t.next_is;
      prints = t.prints;
    }

pub after_begin : {sheet log : List ℕ} {a : Night} {r : Stores} {old new : List ℕ} → Begins sheet log a r old new → AfterBegin sheet log a r new
after_begin {sheet} {log} {a} {r} {old} {new} b rest l = hatch_log_runs.prints sheet log a r old new rest b l

pub after-going_on :
    {s : List ℕ} {n a : Night} {r : Stores} {depths lasts records began old new : List ℕ} → GoesOn s n r a depths lasts records began old new →
    AfterGoingOn s n r a (stores_with r depths lasts records began) new
after-going_on o more rest l = on more o l
