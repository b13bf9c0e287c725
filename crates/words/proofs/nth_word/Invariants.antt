-- Invariant: so many words are passed.
use mathlib.Core.Path.{◌≡◌}
use lib.ListN.{drop}
use Rattle.words.specs.Cutting.{cut}
use Rattle.words.proofs.nth_word.Given as goal

abbrev pub invariant-loop : goal.invariant-loop
invariant-loop l = cut (drop l.place l.s) ≡ drop l.counter (cut l.s)
