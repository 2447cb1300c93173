-- Laws of the lines before the hatches: what was read of each makes the whole.
-- Assumes nothing.
use mathlib.Core.Path.{◌≡◌, ap, ◌∙◌}
use Rattle.std.proofs.Common.{Some, None}
use mathlib.Core.Bool.{true, false}
use mathlib.Core.List.{List, [], ◌∷◌}
use Prim.Native.Nat.{ℕ, ◌+◌, ◌*◌}
use lib.Dec.{eqb, leb}
use lib.ListN.{get_or}
use Rattle.reckon.specs.Tests.{◌unless◌, refusal}
use Rattle.text.specs.Reading.{line_of}
use Rattle.text.specs.declared.reading.Fields.{Fields}
use Rattle.answer.specs.Printed.{out_word, soak_word}
use Rattle.stands.specs.Texts.{stand_word, start_word, given_word, half}
use Rattle.stands.specs.Laying.{first_fields, as_first, stand_line, total_fields, as_total, total_line, head_of}
use Rattle.stands.specs.declared.heads.Head.{Head}
use Rattle.stands.specs.declared.heads.StandLine.{StandLine}
use Rattle.stands.specs.declared.heads.TotalLine.{TotalLine}

pub first_none : (s : List ℕ) → None ≡ line_of s 0 stand_word first_fields →
    record { found = false; steps = 0; clock = 0; length = 0; opening = false; next = 0 } ≡ stand_line s
unfolding stand_line as_first
first_none s e = ap as_first e

pub first_is : (s : List ℕ) {f : Fields} → Some f ≡ line_of s 0 stand_word first_fields →
    record {
      found = leb (get_or f.values 3 0) 1;
      steps = get_or f.values 0 0;
      clock = get_or f.values 1 0;
      length = get_or f.values 2 0;
      opening = eqb (get_or f.values 3 0) 1;
      next = f.next;
    }
    ≡ stand_line s
unfolding stand_line as_first
first_is s e = ap as_first e

pub total_none : (s : List ℕ) (q : ℕ) (word : List ℕ) → None ≡ line_of s q word total_fields →
    record { found = false; value = 0; next = q } ≡ total_line s q word
unfolding total_line as_total
total_none s q word e = ap (as_total q) e

pub total_is : (s : List ℕ) (q : ℕ) (word : List ℕ) {f : Fields} {value : ℕ} → Some f ≡ line_of s q word total_fields →
    value ≡ get_or f.values 0 0 * half + get_or f.values 1 0 → record { found = true; value = value; next = f.next } ≡ total_line s q word
unfolding total_line as_total
total_is s q word {f} e h = ap (λ (v : ℕ). record { found = true; value = v; next = f.next }) h ∙ ap (as_total q) e

abbrev whole : ℕ → StandLine → TotalLine → TotalLine → TotalLine → TotalLine → Head
whole bad a b c d e =
    record {
      bad = bad;
      steps = a.steps;
      clock = a.clock;
      length = a.length;
      opening = a.opening;
      outflow = b.value;
      soaked = c.value;
      start = d.value;
      given = e.value;
      next = e.next;
    }

pub head_is : (s : List ℕ) {bad : ℕ} {a : StandLine} {b c d e : TotalLine} → a ≡ stand_line s → b ≡ total_line s a.next out_word →
    c ≡ total_line s b.next soak_word → d ≡ total_line s c.next start_word → e ≡ total_line s d.next given_word →
    bad ≡ refusal (1 unless a.found ∷ 2 unless b.found ∷ 3 unless c.found ∷ 4 unless d.found ∷ 5 unless e.found ∷ []) →
    whole bad a b c d e ≡ head_of s
unfolding head_of
head_is s h i j k l m = rw (m, l, k, j, i, h)
