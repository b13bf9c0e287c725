-- Bytes that are kept in a buffer, one behind the other: those that are counted stand in it.
-- Assumes nothing.
use mathlib.Core.Path.{◌≡◌, refl, ap, ◌∙◌}
use mathlib.Core.List.{List}
use Prim.Native.Nat.{ℕ, ◌+◌, ◌-◌, ◌≤◌, min}
use native.Mathlib.Omega.{arith}
use lib.ListN.{length, take, length-take}
use Rattle.buffer.specs.Wrote.{Wrote}
use Rattle.buffer.proofs.Wrote.{wrote_length}

-- n bytes are kept in the buffer b, which has the length of the one that was lent
pub record Kept (lent b : List ℕ) (n : ℕ) : Type 0 where
  pub inside : n ≤ length b
  pub size : length b ≡ length lent

pub kept_none : (b : List ℕ) → Kept b b 0
kept_none b = record { inside = omega arith; size = refl }

pub kept_more : {lent b t c : List ℕ} {n r : ℕ} → Kept lent b n → Wrote b n t c r → Kept lent c r
kept_more {lent} {b} {t} {c} {n} {r} k w =
    let fits : r ≡ n + min (length b - n) (length t) = w.place ∙ ap (λ m. n + m) (length-take (length b - n) t) in
    record { inside = omega (arith, wrote_length w, k.inside); size = wrote_length w ∙ k.size }

pub kept_counts : {lent b : List ℕ} {n : ℕ} → Kept lent b n → (n ≤ length b) × (n ≡ length (take n b))
kept_counts {lent} {b} {n} k = (k.inside, rw length-take (omega (arith, k.inside)))
