-- A warning raised in a mask: a bit that is set by `or`.
-- Assumes nothing.
use mathlib.Core.Path.{◌≡◌, sym, ap}
use mathlib.Core.Logic.{◌⊎◌, inl, inr, ⊎_elim}
use Prim.Native.Nat.{ℕ, zero, suc, ◌+◌, ◌-◌, ◌*◌, ◌/◌, ◌%◌, ◌^◌, max, ◌≤◌, ◌<◌}
use native.Mathlib.Omega.{arith}
use native.Mathlib.Nat.{pow-suc}
use Rattle.std.proofs.Math.Nat.{pow-succ', div-div-eq-div-mul}
use lib.Bits.{bit_or, or_step, or_zero_r}
use Rattle.std.proofs.Math.Pow.{pow-lt}
use Rattle.flags.proofs.Bits.{digit}
use Rattle.axis.specs.RaisedWarnings.{raise}

-- the bit k, counted twice where it was set already
or_pow : (k m : ℕ) → bit_or m (2 ^ k) + m / 2 ^ k % 2 * 2 ^ k ≡ m + 2 ^ k
or_pow zero m = let e = or_step m 1 in let z = or_zero_r (m / 2) in omega arith
or_pow (suc k) m =
    let p = pow-suc 2 k in
    let half : 2 ^ suc k / 2 ≡ 2 ^ k = omega arith in
    let even : 2 ^ suc k % 2 ≡ 0 = omega arith in
    let step : bit_or m (2 ^ suc k) ≡ bit_or (m / 2) (2 ^ k) * 2 + max (m % 2) 0 = rw (half, even) at (or_step m (2 ^ suc k)) in
    let digits : m / 2 ^ suc k ≡ m / 2 / 2 ^ k = rw (pow-succ' 2 k) (sym (div-div-eq-div-mul m 2 (2 ^ k))) in
    let rest = or_pow k (m / 2) in
    let doubled = rw p at step in
    rw (digits, p) (omega arith)

pub raise_is : (k m : ℕ) → 1 ≤ k → k ≤ 7 → bit_or m (1 * 2 ^ (k - 1) % 4294967296) ≡ raise k m
unfolding raise
raise_is k m h g =
    let small : 2 ^ (k - 1) < 4294967296 = pow-lt {i = k - 1} {j = 32} (omega arith) in
    let itself : 1 * 2 ^ (k - 1) % 4294967296 ≡ 2 ^ (k - 1) = omega arith in
    let sum = or_pow (k - 1) m in
    rw itself (⊎_elim (λ (e : m / 2 ^ (k - 1) % 2 ≡ 0). simp e (omega (arith, rw e at sum)))
    (λ (e : m / 2 ^ (k - 1) % 2 ≡ 1). simp e (omega (arith, rw e at sum))) (digit (m / 2 ^ (k - 1))))
