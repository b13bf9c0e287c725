-- A buffer that a stream fills: what stands at its front is what the stream gave, read by read.
-- Assumes nothing.
use Rattle.std.proofs.Common.{◌≡◌, ℕ, ◌+◌, ◌-◌, ◌≤◌, ◌<◌, List, [], ◌++◌, Some, arith, length, take, drop, slice_range, sym, ap, min, ◌∙◌, subst, le_refl, drop_at, length-append, length-take-le, Option}
use Rattle.std.proofs.lemmas.Slice.{take-put_mid_below}
use Rattle.std.specs.Io.KnownBytes.{Consumes}
use Rattle.std.proofs.KnownBytes.{Consumes-trans}
use borrow.Rule.Slice.PartMut.{put_mid, post_of}
use lib.Seq.{take-add, take-append-le, take-append_seam}

-- n bytes that are read to the places from a on stand there
module _ (a k n : ℕ) (xs ys : List ℕ) (within : a ≤ length xs) where
  read_part : n ≤ length ys → slice_range (put_mid a k xs ys) a (a + n) ≡ take n ys
  read_part fits =
      let same : (a + n) - a ≡ n = omega arith in
      let behind = post_of a k xs in
      ap (take ((a + n) - a)) (drop_at (take a xs) (ys ++ behind) a (length-take-le a xs within))
      ∙ ap (λ m. take m (ys ++ behind)) same ∙ take-append-le n ys behind fits

  -- and behind the bytes that stood before them
  pub read_more : n ≤ length ys → take a xs ++ take n ys ≡ take (a + n) (put_mid a k xs ys)
  read_more fits =
      let new : List ℕ = put_mid a k xs ys in
      let same : (a + n) - a ≡ n = omega arith in
      let front : take a new ≡ take a xs = take-put_mid_below _ _ _ _ _ (le_refl _) within in
      ap (λ l. take a xs ++ l) (sym (read_part fits)) ∙ ap (λ l. l ++ slice_range new a (a + n)) (sym front)
      ∙ ap (λ m. take a new ++ take m (drop a new)) same ∙ sym (take-add a n new)

  pub front_more : (r s t : Option (List ℕ)) → n ≤ length ys → Consumes r s (take a xs) → Consumes s t (take n ys)
      → Consumes r t (take (a + n) (put_mid a k xs ys))
  front_more r s t fits p q = subst (Consumes r t) (read_more fits) (Consumes-trans r s t _ _ p q)

-- of all xs bytes that are known n are read to a buffer of b, and ys are left
count_of : (xs ys n b : ℕ) → xs ≡ n + ys → n ≤ b → (n < b → ys ≡ 0) → n ≡ min xs b
count_of xs ys n b all within ended = grind arith

-- of known bytes just those are read that fill the buffer, or all: how many count, and which, is told
module _ (xs : List ℕ) (b ys : List ℕ) (n : ℕ) (within : n ≤ length b) (front : Consumes (Some xs) (Some ys) (take n b))
    (ended : n < length b → ys ≡ []) where
  pub filled_count : n ≡ min (length xs) (length b)
  filled_count =
      let all : length xs ≡ n + length ys =
      ap length front ∙ length-append (take n b) ys ∙ ap (λ i. i + length ys) (length-take-le n b within) in
      count_of (length xs) (length ys) n (length b) all within (λ h. ap length (ended h))

  pub filled_front : take n b ≡ take (min (length xs) (length b)) xs
  filled_front =
      sym (take-append_seam (take n b) ys) ∙ ap (λ i. take i (take n b ++ ys)) (length-take-le n b within)
      ∙ ap (take n) (sym front) ∙ ap (λ i. take i xs) filled_count
