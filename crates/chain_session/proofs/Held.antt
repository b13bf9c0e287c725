-- A chain that is held by value, place by place: the places that a line hears, and one record of them.
-- Assumes nothing.
use mathlib.Core.Path.{◌≡◌, refl, sym, ap, ◌∙◌}
use mathlib.Core.List.{List, [], ◌∷◌, ◌++◌}
use Prim.Native.Nat.{ℕ, zero, suc, ◌<◌, min}
use native.Mathlib.Omega.{arith}
use lib.ListN.{length, take, drop, get_or, set, length-take, take-append-drop}
use Rattle.laws.proofs.Answers.{one_answer}
use Rattle.device.specs.declared.Device.{Device}
use Rattle.chain.specs.Chain.{Chained}
use Rattle.chain_session.specs.declared.Cable.{Cable}
use Rattle.chain_session.specs.declared.Heard.{Heard}
use Rattle.chain_session.specs.Held.{records_of, holding, Hears}

-- an element of the first n, changed where it stands
pub set_front : {X : Type 0} (xs : List X) (n i : ℕ) (x : X) → i < n → i < length xs → set xs i x ≡ set (take n xs) i x ++ drop n xs
set_front [] n i x h k = absurd (omega arith)
set_front (y ∷ xs) zero i x h k = absurd (omega arith)
set_front (y ∷ xs) (suc n) zero x h k = ap (λ (z : List _). x ∷ z) (sym (take-append-drop n xs))
set_front (y ∷ xs) (suc n) (suc i) x h k = ap (λ (z : List _). y ∷ z) (set_front xs n i x (omega arith) (omega arith))

-- and one that is read there
pub get_d_front : {X : Type 0} (xs : List X) (n i : ℕ) (d e : X) → i < n → i < length xs → get_or xs i d ≡ get_or (take n xs) i e
get_d_front [] n i d e h k = absurd (omega arith)
get_d_front (y ∷ xs) zero i d e h k = absurd (omega arith)
get_d_front (y ∷ xs) (suc n) zero d e h k = refl
get_d_front (y ∷ xs) (suc n) (suc i) d e h k = get_d_front xs n i d e (omega arith) (omega arith)

pub holding_same : (c : Cable) → c ≡ holding c (records_of c)
holding_same c = ap (λ (ds : List Device). record { devices = ds; count = c.count }) (sym (take-append-drop c.count c.devices))

module _ (c : Cable) (full : length c.devices ≡ 16) {n : ℕ} (is : n ≡ min c.count 16) where
  same_count : n ≡ min c.count (length c.devices)
  same_count = is ∙ ap (min c.count) (sym full)

  pub records_count : length (records_of c) ≡ n
  records_count = length-take c.count c.devices ∙ sym same_count

-- The promise of `hear` leaves no choice.
pub hears_one : {s : Chained} {c : Cable} {b b₁ b₂ : List ℕ} {q r : Heard} → Hears s c b b₁ q → Hears s c b b₂ r → (q ≡ r) × (b₁ ≡ b₂)
hears_one {q = q} {r = r} g h =
    let told = one_answer g.told h.told in
    let next = one_answer g.next h.next in
    ((λ i. record { told = told i; next = next i }), one_answer g.left h.left)
