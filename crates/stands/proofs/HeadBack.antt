-- The lines before the hatches read back as they are put.
-- Assumes nothing.
use mathlib.Core.Path.{◌≡◌, refl, sym, ap, ◌∙◌}
use mathlib.Core.Bool.{Bool, true, false}
use mathlib.Core.List.{List, [], ◌∷◌, ◌++◌}
use Prim.Native.Nat.{ℕ, ◌+◌, ◌*◌, ◌/◌, ◌%◌, ◌≤◌}
use native.Mathlib.Omega.{arith}
use lib.ListN.{length}
use Rattle.reckon.specs.Tests.{pick, refusal}
use Rattle.reckon.specs.Lists.{tabulate}
use Rattle.reckon.proofs.TestLaws.{pick_both}
use Rattle.text.specs.Reading.{most_number, padded, as_fields, line_of}
use Rattle.text.specs.Reading.Reading.{read}
use Rattle.text.specs.Writing.{line_text}
use Rattle.text.specs.Inner.Standing.{Readable, StandsAt}
use Rattle.text.proofs.StandLaws.{stands_first, stands_second}
use Rattle.text.proofs.RoundTrip.{line-back}
use Rattle.answer.specs.Printed.{out_word, soak_word}
use Rattle.stands.specs.Texts.{stand_word, start_word, given_word, half, total_text, first_text, head_text}
use Rattle.stands.specs.Laying.{as_first, stand_line, as_total, total_line, head_of}
use Rattle.stands.specs.declared.heads.Head.{Head}
use Rattle.stands.specs.declared.heads.StandLine.{StandLine}
use Rattle.stands.specs.declared.heads.TotalLine.{TotalLine}
use Rattle.stands.specs.declared.saved.Saved.{Saved}
use Rattle.stands.proofs.HeadLaws.{head_is}

-- a line of a kind, read with as many fields as it has
pub line_read : {s : List ℕ} {p q : ℕ} (word vs : List ℕ) → Readable vs → StandsAt s p (line_text word vs) q →
    line_of s p word (length vs) ≡ as_fields (read vs q)
line_read {s} {p} {q} word vs h a = ap as_fields (line-back word vs a h)

-- ---- the first line

abbrev first_as : ℕ → ℕ → ℕ → Bool → ℕ → StandLine
first_as steps clock length opening next =
    record { found = true; steps = steps; clock = clock; length = length; opening = opening; next = next }

as_first_lem : (steps clock length q : ℕ) (b : Bool) →
    as_first (as_fields (read (steps ∷ clock ∷ length ∷ pick {A = ℕ} b 1 0 ∷ []) q)) ≡ first_as steps clock length b q
unfolding as_first as_fields padded tabulate pick
as_first_lem steps clock length q true = refl
as_first_lem steps clock length q false = refl

-- ---- a total

abbrev total_as : ℕ → ℕ → TotalLine
total_as value next = record { found = true; value = value; next = next }

total_back : {s : List ℕ} {p q : ℕ} (word : List ℕ) (n : ℕ) → n / half ≤ most_number → StandsAt s p (total_text word n) q → total_line s p word ≡ total_as n q
unfolding total_text total_line as_total as_fields padded tabulate
total_back {s} {p} {q} word n h a =
    let whole : n / half * half + n % half ≡ n = omega arith in
    ap (as_total p) (line_read word (n / half ∷ n % half ∷ []) (h, (omega arith, tt)) a) ∙ ap (λ (v : ℕ). total_as v q) whole

-- ---- all five

-- numbers that can be read
pub record Written (a : Saved) : Type 0 where
  pub steps_small : a.log.steps ≤ most_number
  pub clock_small : a.log.run.clock ≤ most_number
  pub length_small : a.log.run.length ≤ most_number
  pub out_small : a.log.run.outflow / half ≤ most_number
  pub soak_small : a.log.run.soaked / half ≤ most_number
  pub start_small : a.start / half ≤ most_number
  pub given_small : a.given / half ≤ most_number

-- what they say, the hatches' lines starting at q
abbrev pub head_as : Saved → ℕ → Head
head_as a q =
    record {
      bad = 0;
      steps = a.log.steps;
      clock = a.log.run.clock;
      length = a.log.run.length;
      opening = a.log.opening;
      outflow = a.log.run.outflow;
      soaked = a.log.run.soaked;
      start = a.start;
      given = a.given;
      next = q;
    }

module _ {s : List ℕ} {q : ℕ} (a : Saved) (w : Written a) (stands : StandsAt s 0 (head_text a) q) where
  abbrev t₂ : List ℕ
  t₂ = total_text out_word a.log.run.outflow

  abbrev t₃ : List ℕ
  t₃ = total_text soak_word a.log.run.soaked

  abbrev t₄ : List ℕ
  t₄ = total_text start_word a.start

  abbrev t₅ : List ℕ
  t₅ = total_text given_word a.given

  all : StandsAt s 0 (first_text a ++ (t₂ ++ (t₃ ++ (t₄ ++ t₅)))) q
  unfolding head_text
  all = stands

  abbrev p₁ : ℕ
  p₁ = 0 + length (first_text a)

  abbrev p₂ : ℕ
  p₂ = p₁ + length t₂

  abbrev p₃ : ℕ
  p₃ = p₂ + length t₃

  abbrev p₄ : ℕ
  p₄ = p₃ + length t₄

  r₁ : StandsAt s p₁ (t₂ ++ (t₃ ++ (t₄ ++ t₅))) q
  r₁ = stands_second (first_text a) (t₂ ++ (t₃ ++ (t₄ ++ t₅))) all

  r₂ : StandsAt s p₂ (t₃ ++ (t₄ ++ t₅)) q
  r₂ = stands_second t₂ (t₃ ++ (t₄ ++ t₅)) r₁

  r₃ : StandsAt s p₃ (t₄ ++ t₅) q
  r₃ = stands_second t₃ (t₄ ++ t₅) r₂

  first_back : stand_line s ≡ first_as a.log.steps a.log.run.clock a.log.run.length a.log.opening p₁
  unfolding stand_line first_text
  first_back =
      let low : pick {A = ℕ} a.log.opening 1 0 ≤ most_number = pick_both (λ (v : ℕ). v ≤ most_number) a.log.opening (omega arith) (omega arith) in
      ap as_first
      (line_read stand_word (a.log.steps ∷ a.log.run.clock ∷ a.log.run.length ∷ pick {A = ℕ} a.log.opening 1 0 ∷ [])
      (w.steps_small, (w.clock_small, (w.length_small, (low, tt))))
      (stands_first (first_text a) (t₂ ++ (t₃ ++ (t₄ ++ t₅))) all))
      ∙ as_first_lem a.log.steps a.log.run.clock a.log.run.length p₁ a.log.opening

  pub head_back : head_of s ≡ head_as a q
  unfolding refusal pick
  head_back =
      sym
      (head_is s {bad = 0} {b = total_as a.log.run.outflow p₂} {c = total_as a.log.run.soaked p₃} {d = total_as a.start p₄} {e = total_as a.given q}
      (sym first_back)
      (sym (total_back out_word a.log.run.outflow w.out_small (stands_first t₂ (t₃ ++ (t₄ ++ t₅)) r₁)))
      (sym (total_back soak_word a.log.run.soaked w.soak_small (stands_first t₃ (t₄ ++ t₅) r₂)))
      (sym (total_back start_word a.start w.start_small (stands_first t₄ t₅ r₃)))
      (sym (total_back given_word a.given w.given_small (stands_second t₄ t₅ r₃)))
      refl)
