-- Where a reader stops in a word: what stands before the place can still become a word, what goes beyond it cannot.
-- `Stops Y N s k`: the first k bytes of s can go on to some Y; what begins with more of s is an N, whatever follows.
use mathlib.Core.Path.{◌≡◌, ap, ◌∙◌}
use mathlib.Core.Logic.{◌⊎◌, ◌↔◌, ⊎_elim}
use mathlib.Core.List.{List, [], ◌∷◌, ◌++◌}
use Prim.Native.Nat.{ℕ, zero, suc, ◌≤◌, ◌<◌}
use native.Mathlib.Omega.{arith}
use lib.ListN.{length, take}
use Rattle.laws.proofs.Order.{lt_or_le}
use Rattle.numbers.specs.Place.{Begins, LongestFront}

pub record Stops (Y N : List ℕ → Type 0) (s : List ℕ) (k : ℕ) : Type 0 where
  pub inside : k ≤ length s
  pub rest : List ℕ
  pub begins : Y (take k s ++ rest)
  pub stays : (q : ℕ) → k < q → q ≤ length s → (t : List ℕ) → N (take q s ++ t)

-- at the end of a word that stopped too soon
pub stops_end : {Y N : List ℕ → Type 0} (r : List ℕ) → Y r → Stops Y N [] 0
stops_end r v = record { inside = omega arith; rest = r; begins = v; stays = λ q h l t. absurd (omega arith) }

-- at the first byte
pub stops_here : {Y N : List ℕ → Type 0} {c : ℕ} {s : List ℕ} (r : List ℕ) → Y r → ((t : List ℕ) → N (c ∷ t)) → Stops Y N (c ∷ s) 0
stops_here {Y} {N} {c} {s} r v n = record { inside = omega arith; rest = r; begins = v; stays = stays }
  where
    stays : (q : ℕ) → 0 < q → q ≤ length (c ∷ s) → (t : List ℕ) → N (take q (c ∷ s) ++ t)
    stays zero h l t = absurd (omega arith)
    stays (suc q) h l t = n (take q s ++ t)

-- one byte further, behind a byte that was taken
pub stops_behind : {Y N Y' N' : List ℕ → Type 0} {s : List ℕ} {k : ℕ} (c : ℕ) → ((x : List ℕ) → Y x → Y' (c ∷ x))
    → ((x : List ℕ) → N x → N' (c ∷ x)) → Stops Y N s k → Stops Y' N' (c ∷ s) (suc k)
stops_behind {Y} {N} {Y'} {N'} {s} {k} c f g p = record
    { inside = omega (arith, p.inside); rest = p.rest; begins = f (take k s ++ p.rest) p.begins; stays = stays }
  where
    stays : (q : ℕ) → suc k < q → q ≤ length (c ∷ s) → (t : List ℕ) → N' (take q (c ∷ s) ++ t)
    stays zero h l t = absurd (omega arith)
    stays (suc q) h l t = g (take q s ++ t) (p.stays q (omega arith) (omega arith) t)

-- the same stop behind the first byte, said of other words that begin with that byte
pub stops_beyond : {Y N Y' N' : List ℕ → Type 0} {c : ℕ} {s : List ℕ} {k : ℕ} → ((x : List ℕ) → Y (c ∷ x) → Y' (c ∷ x))
    → ((x : List ℕ) → N (c ∷ x) → N' (c ∷ x)) → Stops Y N (c ∷ s) (suc k) → Stops Y' N' (c ∷ s) (suc k)
stops_beyond {Y} {N} {Y'} {N'} {c} {s} {k} f g p =
    record { inside = p.inside; rest = p.rest; begins = f (take k s ++ p.rest) p.begins; stays = stays }
  where
    stays : (q : ℕ) → suc k < q → q ≤ length (c ∷ s) → (t : List ℕ) → N' (take q (c ∷ s) ++ t)
    stays zero h l t = absurd (omega arith)
    stays (suc q) h l t = g (take q s ++ t) (p.stays (suc q) h l t)

-- a stop is the longest front
pub stops_longest : {W Y N : List ℕ → Type 0} {s : List ℕ} {k : ℕ} → ((x : List ℕ) → Y x → W x) → ((x : List ℕ) → N x → W x → ⊥)
    → Stops Y N s k → LongestFront W s k
stops_longest {W} {Y} {N} {s} {k} f g p = record {
  inside = p.inside;
  begins =
      record { rest = p.rest; word = f _ p.begins };
  longest = longest;
}
  where
    longest : (q : ℕ) → q ≤ length s → Begins W (take q s) → q ≤ k
    longest q l b = ⊎_elim (λ h. absurd (g _ (p.stays q h l b.rest) b.word)) (λ h. h) (lt_or_le k q)

-- there is one longest front
pub longest_one : {W : List ℕ → Type 0} {s : List ℕ} {p q : ℕ} → LongestFront W s p → LongestFront W s q → p ≡ q
longest_one {W} {s} {p} {q} a b = omega (arith, a.longest q b.inside b.begins, b.longest p a.inside a.begins)

-- A reader refuses a word at place p exactly where the word is no W, and p is the length of its longest front that begins one.
-- This follows where it refuses no W, where it refuses at such a place, and where it refuses all that is no W.
module _ {R : Type 0} (f : List ℕ → R) (refused : ℕ → R) (W : List ℕ → Type 0)
    (never : (w : List ℕ) (p : ℕ) → f w ≡ refused p → W w → ⊥)
    (place : (w : List ℕ) (p : ℕ) → f w ≡ refused p → LongestFront W w p)
    (either : (w : List ℕ) → W w ⊎ ((p : ℕ) × (f w ≡ refused p))) where
  pub refused_iff : (w : List ℕ) (p : ℕ) → (f w ≡ refused p) ↔ ((W w → ⊥) × LongestFront W w p)
  refused_iff w p = (
    (λ e. (never w p e, place w p e)),
    (λ k. ⊎_elim (λ v. absurd (k.0 v)) (λ r. r.1 ∙ ap refused (longest_one (place w r.0 r.1) k.1)) (either w)),
  )
