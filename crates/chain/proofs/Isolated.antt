-- Order 2's statement: "with all records good and buffers of the same length, two chains of the same length that differ only in the records
-- at other places give this place the same reply and the same next record, for every line"; and the same info lines. Assumes nothing.
use Rattle.std.specs.Prelude.{is_ok}
use mathlib.Core.Path.{◌≡◌, refl, sym, ap, ◌∙◌}
use mathlib.Core.Bool.{Bool, true, false, cond}
use mathlib.Core.List.{List, [], ◌∷◌, map}
use Prim.Native.Nat.{ℕ, zero, suc, ◌<◌}
use native.Mathlib.Omega.{arith}
use lib.ListN.{length, take, drop, get_or}
use Rattle.laws.specs.Lists.{all}
use Rattle.line.specs.Reading.{read_line}
use Rattle.device.specs.declared.Device.{Device}
use Rattle.device.specs.Good.{good}
use Rattle.chain.specs.declared.Told.{Told}
use Rattle.chain.specs.Chain.{next_of, text_of, refusal_of, refused, Chained, responds, refuses, chain, Gives, answer_at, begins_at}
use Rattle.chain.proofs.BackToBack.{answer_there}

-- place i of both chains, counted from 0: d is what is given for beyond their ends, and of no account
pub record Same (i : ℕ) (d : Device) (s t : Chained) : Type 0 where
  pub answer : answer_at i s ≡ answer_at i t
  pub next : get_or s.devices i d ≡ get_or t.devices i d

-- what is made of each record for itself
pub made_at : {X : Type 0} (f : Device → X) (xs : List Device) (i : ℕ) (d : Device) (x : X) → i < length xs
    → get_or (map f xs) i x ≡ f (get_or xs i d)
made_at f [] i d x h = absurd (omega arith)
made_at f (y ∷ xs) zero d x h = refl
made_at f (y ∷ xs) (suc i) d x h = made_at f xs i d x (omega arith)

pub isolated : (xs ys : List Device) (l b c : List ℕ) (i : ℕ) (d : Device) → all good xs ≡ true → all good ys ≡ true
    → length xs ≡ length ys → length b ≡ length c → i < length xs → get_or xs i d ≡ get_or ys i d
    → Same i d (chain xs l (length b)) (chain ys l (length c))
unfolding chain
isolated xs ys l b c i d g h n m k e = rw (sym m, both) (go (is_ok (refused xs l (length b))))
  where
    both : refusal_of (length ys) (length b) (all good ys) (read_line l) ≡ refusal_of (length xs) (length b) (all good xs) (read_line l)
    both = rw (n, g, h)

    go : (t : Bool) → Same i d
        (cond t (responds l xs) (refuses (refused xs l (length b)) xs)) (cond t (responds l ys) (refuses (refused xs l (length b)) ys))
    go true =
        let k' : i < length ys = omega (arith, k, n) in
        record {
          answer = made_at (text_of l) xs i d [] k ∙ ap (text_of l) e ∙ sym (made_at (text_of l) ys i d [] k');
          next = made_at (next_of l) xs i d d k ∙ ap (next_of l) e ∙ sym (made_at (next_of l) ys i d d k');
        }
    go false = record { answer = refl; next = e }

-- the same of two calls: the bytes of this place's answer in each buffer, from where it begins there, and the records
module _ (xs ys : List Device) (l b c : List ℕ) {xs' ys' : List Device} {b' c' : List ℕ} {r s : Told}
    (g : Gives (chain xs l (length b)) b r xs' b') (h : Gives (chain ys l (length c)) c s ys' c') where
  pub isolated_calls : (i : ℕ) (d : Device) → all good xs ≡ true → all good ys ≡ true → length xs ≡ length ys → length b ≡ length c
      → i < length xs → get_or xs i d ≡ get_or ys i d
      → (take (length (answer_at i (chain xs l (length b)))) (drop (begins_at i (chain xs l (length b))) b')
      ≡ take (length (answer_at i (chain ys l (length c)))) (drop (begins_at i (chain ys l (length c))) c'))
      × (get_or xs' i d ≡ get_or ys' i d)
  isolated_calls i d p q n m k e =
      let same = isolated xs ys l b c i d p q n m k e in (
        answer_there i g ∙ same.answer ∙ sym (answer_there i h),
        ap (λ (v : List Device). get_or v i d) g.devices ∙ same.next ∙ sym (ap (λ (v : List Device). get_or v i d) h.devices),
      )
