-- The tests for a space, and the two answers of `word_at`.
-- Assumes nothing.
use mathlib.Core.Path.{◌≡◌}
use mathlib.Core.Bool.{true, false}
use mathlib.Core.List.{List}
use Prim.Native.Nat.{ℕ, ◌+◌, ◌≤◌, ◌<◌}
use lib.ListN.{length, drop}
use borrow.Author.Tests.{eq-eqb, ne_eqb, lt-ltb, le-ltb}
use Rattle.laws.specs.Lists.{span}
use Rattle.words.specs.Cutting.{is_space, no_space, word_at}

pub space_yes : (c : ℕ) → c ≡ 32 → is_space c ≡ true
unfolding is_space
space_yes c h = eq-eqb c 32 h

pub space_not : (c : ℕ) → (c ≡ 32 → ⊥) → is_space c ≡ false
unfolding is_space
space_not c h = ne_eqb c 32 h

pub other_yes : (c : ℕ) → (c ≡ 32 → ⊥) → no_space c ≡ true
unfolding no_space
other_yes c h = rw (ne_eqb c 32 h)

pub other_not : (c : ℕ) → c ≡ 32 → no_space c ≡ false
unfolding no_space
other_not c h = rw (eq-eqb c 32 h)

-- The two answers of `word_at`, at the place a where the word may start.
module _ (s : List ℕ) (at a : ℕ) (e : a ≡ at + span is_space (drop at s)) where
  pub at_end : length s ≤ a → word_at s at ≡ record { start = length s; end = length s }
  unfolding word_at
  at_end h = rw (← e, le-ltb a (length s) h)

  pub at_word : a < length s → word_at s at ≡ record { start = a; end = a + span no_space (drop a s) }
  unfolding word_at
  at_word h = rw (← e, lt-ltb a (length s) h)
