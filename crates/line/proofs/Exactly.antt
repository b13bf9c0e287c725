-- Where the table of refusals gives each number of a line, said by the spelling rules, both ways: 2, 1 or 3; 4; 10 or 11; and 0.
-- Assumes nothing.
use mathlib.Core.Path.{◌≡◌, refl, ap}
use Rattle.std.specs.Prelude.{Err}
use mathlib.Core.Logic.{◌↔◌}
use mathlib.Core.List.{List}
use Prim.Native.Nat.{ℕ, ◌<◌}
use native.Mathlib.Omega.{arith}
use Rattle.laws.specs.declared.Refusal.TheVariants.{BadAddress}
use Rattle.laws.specs.Refusals.{Verdict, ACCEPTED, number_of as number}
use Rattle.laws.proofs.Refusals.{not_both}
use Rattle.phrase.proofs.WordsNumbered.{Misspelt, bad_command_lem, bad_data_lem}
use Rattle.line.specs.Reading.{LineRead, number_of}
use Rattle.line.specs.Spelling.{Asked, Words, bare, addressed, with_axis, Line, line}
use Rattle.line.specs.Refusals.{refusal_of}
use Rattle.line.proofs.Composed.{Composed, composed, composed_read}
use Rattle.line.proofs.Demand3.{first_word}
use Rattle.line.proofs.EveryLine.{Outside, no_number, an_address, Unframed, too_long, not_line, bad_sum, Reads, unframed, misaddressed, misspelt, spelled, every_line}
use Rattle.line.proofs.Refused.{line_refused}

-- a line with `/`, checksum and footer, whose first word begins as a number and is no address word
pub record Misaddressed (l : List ℕ) : Type 0 where
  pub words : List (List ℕ)
  pub composed : Composed l words
  pub address : Outside words

-- one whose address is not wrong, and whose words are written for no command
pub record Misworded (l : List ℕ) : Type 0 where
  pub words : List (List ℕ)
  pub composed : Composed l words
  pub address : Outside words → ⊥
  pub none : (a : Asked) → Words words a → ⊥

-- one whose words are written for a command
record Worded (l : List ℕ) (a : Asked) : Type 0 where
  words : List (List ℕ)
  composed : Composed l words
  spelled : Words words a

-- ---- the numbers are apart
unframed_from : {v : Verdict} → Unframed v → 0 < number v
unframed_from too_long = omega arith
unframed_from not_line = omega arith
unframed_from bad_sum = omega arith

unframed_to : {v : Verdict} → Unframed v → number v < 4
unframed_to too_long = omega arith
unframed_to not_line = omega arith
unframed_to bad_sum = omega arith

misspelt_from : {v : Verdict} → Misspelt v → 9 < number v
misspelt_from bad_command_lem = omega arith
misspelt_from bad_data_lem = omega arith

-- ---- and so are the cases
worded : {l : List ℕ} {a : Asked} → Line l a → Worded l a
worded (line c w k f h) = record { words = _; composed = composed c k f h; spelled = w }

-- a line is composed of one list of words
one_words : {l : List ℕ} {ws vs : List (List ℕ)} → Composed l ws → Composed l vs → ws ≡ vs
one_words c d = let x = composed_read c in let y = composed_read d in cc (x.frame, x.words, y.frame, y.words)

words_address : {ws : List (List ℕ)} {a : Asked} → Words ws a → Outside ws → ⊥
words_address (bare r) h = no_number (first_word r).0 h
words_address (addressed a r) h = an_address a h
words_address (with_axis a x r) h = an_address a h

-- a line that is written for a command is composed of no other words
line_address : {l : List ℕ} {ws : List (List ℕ)} {a : Asked} → Composed l ws → Outside ws → Line l a → ⊥
line_address c h w = let v = worded w in words_address v.spelled (rw (one_words v.composed c) h)

line_words_lem : {l : List ℕ} {ws : List (List ℕ)} {a : Asked} → Composed l ws → ((a : Asked) → Words ws a → ⊥) → Line l a → ⊥
line_words_lem {a = a} c none w = let v = worded w in none a (rw (one_words c v.composed) v.spelled)

module _ {l : List ℕ} where
  unframed_so : {r : LineRead} → Reads l r → Unframed (number_of r) → (ws : List (List ℕ)) → Composed l ws → ⊥
  unframed_so (unframed h none) u ws d = none ws d
  unframed_so (misaddressed c h) u ws d = omega (arith, unframed_to u)
  unframed_so (misspelt c h none x) u ws d = omega (arith, unframed_to u, misspelt_from x)
  unframed_so (spelled w) u ws d = omega (arith, unframed_from u)

  unframed_if : {r : LineRead} → Reads l r → ((ws : List (List ℕ)) → Composed l ws → ⊥) → Unframed (number_of r)
  unframed_if (unframed h none) u = h
  unframed_if (misaddressed c h) u = absurd (u _ c)
  unframed_if (misspelt c h none x) u = absurd (u _ c)
  unframed_if (spelled w) u = absurd (u _ (worded w).composed)

  address_so : {r : LineRead} → Reads l r → number_of r ≡ Err BadAddress → Misaddressed l
  address_so (unframed h none) e = absurd (omega (arith, unframed_to h, ap number e))
  address_so (misaddressed c h) e = record { words = _; composed = c; address = h }
  address_so (misspelt c h none x) e = absurd (omega (arith, misspelt_from x, ap number e))
  address_so (spelled w) e = absurd (omega (arith, ap number e))

  address_if : {r : LineRead} → Reads l r → Misaddressed l → number_of r ≡ Err BadAddress
  address_if (unframed h none) m = absurd (none _ m.composed)
  address_if (misaddressed c h) m = refl
  address_if (misspelt c h none x) m = absurd (h (rw (one_words c m.composed) m.address))
  address_if (spelled w) m = absurd (line_address m.composed m.address w)

  misspelt_so : {r : LineRead} → Reads l r → Misspelt (number_of r) → Misworded l
  misspelt_so (unframed h none) m = absurd (omega (arith, unframed_to h, misspelt_from m))
  misspelt_so (misaddressed c h) m = absurd (omega (arith, misspelt_from m))
  misspelt_so (misspelt c h none x) m = record { words = _; composed = c; address = h; none = none }
  misspelt_so (spelled w) m = absurd (omega (arith, misspelt_from m))

  misspelt_if : {r : LineRead} → Reads l r → Misworded l → Misspelt (number_of r)
  misspelt_if (unframed h none) m = absurd (none _ m.composed)
  misspelt_if (misaddressed c h) m = absurd (m.address (rw (one_words m.composed c) h))
  misspelt_if (misspelt c h none x) m = x
  misspelt_if (spelled w) m = absurd (line_words_lem m.composed m.none w)

  accepted_so : {r : LineRead} → Reads l r → number_of r ≡ ACCEPTED → (a : Asked) × Line l a
  accepted_so (unframed h none) e = not_both _ e
  accepted_so (misaddressed c h) e = not_both _ e
  accepted_so (misspelt c h none x) e = not_both _ e
  accepted_so (spelled w) e = (_, w)

  accepted_if : {r : LineRead} → Reads l r → (a : Asked) × Line l a → number_of r ≡ ACCEPTED
  accepted_if (unframed h none) w = absurd (none _ (worded w.1).composed)
  accepted_if (misaddressed c h) w = absurd (line_address c h w.1)
  accepted_if (misspelt c h none x) w = absurd (line_words_lem c none w.1)
  accepted_if (spelled w) v = refl

-- ---- the number of the table, for every line
module _ (l : List ℕ) where
  -- 2, 1 or 3 exactly where the line is composed of no words at all
  pub unframed_exactly : Unframed (refusal_of l) ↔ ((ws : List (List ℕ)) → Composed l ws → ⊥)
  unframed_exactly = rw (← line_refused l) (unframed_so (every_line l), unframed_if (every_line l))

  -- 4 exactly where its frame is right, and its first word begins as a number and is no address word of any
  pub bad_address_exactly : (refusal_of l ≡ Err BadAddress) ↔ Misaddressed l
  bad_address_exactly = rw (← line_refused l) (address_so (every_line l), address_if (every_line l))

  -- 10 or 11 exactly where frame and address are right, and its words are written for no command
  pub misspelt_exactly : Misspelt (refusal_of l) ↔ Misworded l
  misspelt_exactly = rw (← line_refused l) (misspelt_so (every_line l), misspelt_if (every_line l))

  -- 0 exactly where the line is written for a command
  pub accepted_exactly : (refusal_of l ≡ ACCEPTED) ↔ ((a : Asked) × Line l a)
  accepted_exactly = rw (← line_refused l) (accepted_so (every_line l), accepted_if (every_line l))
