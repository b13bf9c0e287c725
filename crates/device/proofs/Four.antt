-- Some neighbouring places of four, place by place: a place that is not one of them counts for nothing.
-- Assumes that there are four places, which every device record has.
use mathlib.Core.Path.{◌≡◌, refl, sym}
use mathlib.Core.Bool.{Bool, true, false, cond, ◌&&◌, ◌||◌}
use mathlib.Core.List.{List, [], ◌∷◌}
use Prim.Native.Nat.{ℕ, zero, suc, ◌+◌, ◌≤◌}
use native.Mathlib.Omega.{arith}
use lib.ListN.{length, get_or, take, drop}
use Rattle.laws.specs.Lists.{fold, all, any}
use Rattle.laws.proofs.Bools.{and_true, or_false}
use Rattle.flags.specs.Flags.{bits, mask, either, union}
use Rattle.flags.proofs.Unions.{bits_union, union_start}
use Rattle.device.specs.declared.walks.Stretch.{Stretch}
use Rattle.device.specs.Each.{covers}

module _ {X : Type 0} where
  abbrev keep : Bool → X → List X → List X
  keep b x xs = cond b (x ∷ xs) xs

  -- those of four elements that the stretch covers
  abbrev pub kept : Stretch → X → X → X → X → List X
  kept p a b c d = keep (covers p 0) a (keep (covers p 1) b (keep (covers p 2) c (keep (covers p 3) d [])))

  of_four : (a b c d : X) (i n : ℕ) → i + n ≤ 4 → take n (drop i (a ∷ b ∷ c ∷ d ∷ [])) ≡ kept (record { from = i; many = n }) a b c d
  unfolding covers
  of_four a b c d zero zero h = refl
  of_four a b c d zero (suc zero) h = refl
  of_four a b c d zero (suc (suc zero)) h = refl
  of_four a b c d zero (suc (suc (suc zero))) h = refl
  of_four a b c d zero (suc (suc (suc (suc zero)))) h = refl
  of_four a b c d zero (suc (suc (suc (suc (suc n))))) h = absurd (omega arith)
  of_four a b c d (suc zero) zero h = refl
  of_four a b c d (suc zero) (suc zero) h = refl
  of_four a b c d (suc zero) (suc (suc zero)) h = refl
  of_four a b c d (suc zero) (suc (suc (suc zero))) h = refl
  of_four a b c d (suc zero) (suc (suc (suc (suc n)))) h = absurd (omega arith)
  of_four a b c d (suc (suc zero)) zero h = refl
  of_four a b c d (suc (suc zero)) (suc zero) h = refl
  of_four a b c d (suc (suc zero)) (suc (suc zero)) h = refl
  of_four a b c d (suc (suc zero)) (suc (suc (suc n))) h = absurd (omega arith)
  of_four a b c d (suc (suc (suc zero))) zero h = refl
  of_four a b c d (suc (suc (suc zero))) (suc zero) h = refl
  of_four a b c d (suc (suc (suc zero))) (suc (suc n)) h = absurd (omega arith)
  of_four a b c d (suc (suc (suc (suc zero)))) zero h = refl
  of_four a b c d (suc (suc (suc (suc zero)))) (suc n) h = absurd (omega arith)
  of_four a b c d (suc (suc (suc (suc (suc i))))) n h = absurd (omega arith)

  pub stretch_kept : (xs : List X) (z : X) → length xs ≡ 4 → (p : Stretch) → p.from + p.many ≤ 4
      → take p.many (drop p.from xs) ≡ kept p (get_or xs 0 z) (get_or xs 1 z) (get_or xs 2 z) (get_or xs 3 z)
  stretch_kept [] z e p h = absurd (omega arith)
  stretch_kept (a ∷ []) z e p h = absurd (omega arith)
  stretch_kept (a ∷ b ∷ []) z e p h = absurd (omega arith)
  stretch_kept (a ∷ b ∷ c ∷ []) z e p h = absurd (omega arith)
  stretch_kept (a ∷ b ∷ c ∷ d ∷ []) z e p h = of_four a b c d p.from p.many h
  stretch_kept (a ∷ b ∷ c ∷ d ∷ x ∷ xs) z e p h = absurd (omega arith)

module _ {X : Type 0} (f : X → Bool) where
  any_keep : (b : Bool) (x : X) (xs : List X) → any f (keep b x xs) ≡ ((b && f x) || any f xs)
  unfolding fold
  any_keep true x xs = refl
  any_keep false x xs = refl

  -- whether some place of the stretch passes, from whether each place is one of them and passes
  pub any_stretch : (xs : List X) (z : X) → length xs ≡ 4 → (p : Stretch) → p.from + p.many ≤ 4 → {a b c d : Bool}
      → a ≡ (covers p 0 && f (get_or xs 0 z)) → b ≡ (covers p 1 && f (get_or xs 1 z)) → c ≡ (covers p 2 && f (get_or xs 2 z))
      → d ≡ (covers p 3 && f (get_or xs 3 z))
      → (a || (b || (c || d))) ≡ any f (take p.many (drop p.from xs))
  unfolding fold
  any_stretch xs z four p inside ea eb ec ed =
      rw (ea, eb, ec, ed, stretch_kept xs z four p inside, any_keep, any_keep, any_keep, any_keep, or_false)

module _ {X : Type 0} (f : X → Bool) where
  all_keep : (b : Bool) (x : X) (xs : List X) → all f (keep b x xs) ≡ (cond b (f x) true && all f xs)
  unfolding fold
  all_keep true x xs = refl
  all_keep false x xs = refl

  -- whether every place of the stretch passes, from whether each place passes or is none of them
  pub all_stretch : (xs : List X) (z : X) → length xs ≡ 4 → (p : Stretch) → p.from + p.many ≤ 4 → {a b c d : Bool}
      → a ≡ cond (covers p 0) (f (get_or xs 0 z)) true → b ≡ cond (covers p 1) (f (get_or xs 1 z)) true
      → c ≡ cond (covers p 2) (f (get_or xs 2 z)) true → d ≡ cond (covers p 3) (f (get_or xs 3 z)) true
      → (a && (b && (c && d))) ≡ all f (take p.many (drop p.from xs))
  unfolding fold
  all_stretch xs z four p inside ea eb ec ed =
      rw (ea, eb, ec, ed, stretch_kept xs z four p inside, all_keep, all_keep, all_keep, all_keep, and_true)

-- f gives eight flags
module _ {X : Type 0} (f : X → List Bool) (eight : (x : X) → bits 8 (mask (f x)) ≡ f x) where
  union_keep : (b : Bool) (x : X) (xs : List X) → union f (keep b x xs) ≡ either (cond b (f x) (bits 8 0)) (union f xs)
  unfolding fold
  union_keep true x xs = refl
  union_keep false x xs = sym (union_start f xs)

  as_bits : (b : Bool) (x : X) → cond b (f x) (bits 8 0) ≡ bits 8 (cond b (mask (f x)) 0)
  as_bits true x = sym (eight x)
  as_bits false x = refl

  joined : (b : Bool) (x : X) (w : ℕ) {r : ℕ} (xs : List X) → r ≡ mask (either (cond b (f x) (bits 8 0)) (bits 8 w)) → bits 8 w ≡ union f xs
      → bits 8 r ≡ union f (keep b x xs)
  joined b x w xs e h =
      rw (e, as_bits b x, bits_union (cond b (mask (f x)) 0) w, ← as_bits b x, h, union_keep b x xs)

  none : bits 8 0 ≡ union f []
  unfolding bits fold
  none = refl

  -- the flags of the stretch, joined from the last place to the first
  pub union_stretch : (xs : List X) (z : X) → length xs ≡ 4 → (p : Stretch) → p.from + p.many ≤ 4 → {a b c d : ℕ}
      → d ≡ mask (either (cond (covers p 3) (f (get_or xs 3 z)) (bits 8 0)) (bits 8 0))
      → c ≡ mask (either (cond (covers p 2) (f (get_or xs 2 z)) (bits 8 0)) (bits 8 d))
      → b ≡ mask (either (cond (covers p 1) (f (get_or xs 1 z)) (bits 8 0)) (bits 8 c))
      → a ≡ mask (either (cond (covers p 0) (f (get_or xs 0 z)) (bits 8 0)) (bits 8 b))
      → a ≡ mask (union f (take p.many (drop p.from xs)))
  union_stretch xs z four p inside ed ec eb ea =
      let hd = joined (covers p 3) (get_or xs 3 z) 0 [] ed none in
      let hc = joined (covers p 2) (get_or xs 2 z) _ _ ec hd in
      let hb = joined (covers p 1) (get_or xs 1 z) _ _ eb hc in
      rw (ea, hb, stretch_kept xs z four p inside, union_keep (covers p 0) (get_or xs 0 z))
