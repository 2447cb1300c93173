-- Every contract leaves one outcome: each is an equation for all that a call gives.
-- Assumes nothing.
use mathlib.Core.Path.{sym, ◌∙◌}
use mathlib.Core.List.{[]}
use Rattle.reckon.proofs.OutcomeLaws.{exactly}
use Rattle.rule.specs.declared.rules.Rules.{Rules}
use Rattle.text.proofs.Determined.{written}
use Rattle.hatches.specs.Inner.Determined.{HatchesDetermined}

-- any rules: a hatch's line does not ask them
abbrev no_rules : Rules
no_rules = record { square_side = 0; tolerance = 0; shortest = 0; longest = 0; update = 0; edge = 0; edition = 0 }

pub hatches_determined : HatchesDetermined
hatches_determined =
    record {
      log-line = λ text at a b x y. x ∙ sym y;
      kept-records = λ s a b x y. x ∙ sym y;
      open_log = λ run a b x y. x ∙ sym y;
      is-named = λ hs n. exactly;
      fill_table = λ inflow hs litres old. written;
      keep_made = λ slots steps newest litres old a b x y. x ∙ sym y;
      slot-ago = λ slots newest places. exactly;
      rates-back = λ slots began log steps a b x y. x ∙ sym y;
      entry-number = λ p r inflow depths records began log entry a b x y. x [] [] [] [] [] ∙ sym (y [] [] [] [] []);
      hatch_line_fine = λ log n a b x y. x no_rules 0 0 ∙ sym (y no_rules 0 0);
      hatch_draw_fine = λ p inflow log row column a b x y. x 0 ∙ sym (y 0);
      table_fits = λ numbers hs more a b x y. x [] ∙ sym (y []);
      standing-fine = λ log a b x y. x ∙ sym y;
    }
