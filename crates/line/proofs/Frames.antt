-- The cases of the frame's reading, as the tests of the code have them.
-- Assumes nothing.
use Rattle.laws.specs.declared.Refusal.TheVariants.{TooLong, NotLine, BadSum}
use Rattle.std.specs.Prelude.{Err, Ok}
use mathlib.Core.Path.{◌≡◌, refl, sym, ap, ◌∙◌}
use mathlib.Core.Logic.{⊎_elim}
use mathlib.Core.Bool.{Bool, true, false, cond}
use mathlib.Core.List.{List, [], ◌∷◌}
use Prim.Native.Nat.{ℕ, ◌+◌, ◌-◌, ◌≤◌, ◌<◌}
use native.Mathlib.Omega.{arith}
use lib.Dec.{eqb, ltb}
use lib.ListN.{length, get_or, take, drop, length-drop, length-take, drop_of_length-le}
use lib.Seq.{get_or-drop}
use borrow.Author.Tests.{lt-ltb, le-ltb, ltb-false, le-leb, lt-leb, eq-eqb, ne_eqb}
use Rattle.laws.specs.Lists.{span}
use Rattle.laws.specs.Text.{slash}
use Rattle.laws.proofs.Bools.{and_false, clash}
use Rattle.laws.proofs.Lists.{rest}
use Rattle.laws.proofs.Order.{lt_or_le}
use Rattle.laws.proofs.Span.{span_le}
use Rattle.numbers.specs.Reading.{read_pair, says_sum, PairRead}
use Rattle.line.specs.Reading.{printable, no_colon, is_end, is_footer, checked, parted, after_slash, slashed, frame_of, Frame}
use Rattle.line.specs.Spelling.{longest_line}

-- ---- bytes
module _ (c : ℕ) where
  pub low : c < 32 → printable c ≡ false
  unfolding printable
  low h = rw (lt-leb 32 c h)

  pub high : 126 < c → printable c ≡ false
  unfolding printable
  high h = rw (lt-leb c 126 h, and_false)

  pub between : 32 ≤ c → c ≤ 126 → printable c ≡ true
  unfolding printable
  between h k = rw (le-leb 32 c h, le-leb c 126 k)

  pub colon_not : c ≡ 58 → no_colon c ≡ false
  unfolding no_colon
  colon_not h = rw (eq-eqb c 58 h)

  pub other_yes : (c ≡ 58 → ⊥) → no_colon c ≡ true
  unfolding no_colon
  other_yes h = rw (ne_eqb c 58 h)

-- ---- the checksum
sum_other : (c : ℕ) (b r : List ℕ) → (length r ≡ 0 → ⊥) → (length r ≡ 3 → ⊥) → checked c b r ≡ Err BadSum
unfolding checked
sum_other c b [] h k = absurd (h refl)
sum_other c b (x ∷ []) h k = refl
sum_other c b (x ∷ y ∷ []) h k = refl
sum_other c b (x ∷ y ∷ z ∷ []) h k = absurd (k refl)
sum_other c b (x ∷ y ∷ z ∷ u ∷ r) h k = refl

sum_3 : (c : ℕ) (b r : List ℕ) (t : Bool) → length r ≡ 3 → says_sum b (read_pair (get_or r 1 0) (get_or r 2 0)) ≡ t
    → checked c b r ≡ cond t (Ok c) (Err BadSum)
unfolding checked
sum_3 c b [] t h e = absurd (omega arith)
sum_3 c b (x ∷ []) t h e = absurd (omega arith)
sum_3 c b (x ∷ y ∷ []) t h e = absurd (omega arith)
sum_3 c b (x ∷ y ∷ z ∷ []) t h e = rw e
sum_3 c b (x ∷ y ∷ z ∷ u ∷ r) t h e = absurd (omega arith)

-- the answers of `read_body`, at the place c of the first colon
module _ (b : List ℕ) (c : ℕ) (at : c ≡ span no_colon b) where
  pub no_sum : length b ≤ c → parted b ≡ Ok c
  unfolding parted checked
  no_sum h = rw (← at, drop_of_length-le b h)

  pub not_3 : c < length b → (length b - c ≡ 3 → ⊥) → parted b ≡ Err BadSum
  unfolding parted
  not_3 h k =
      rw (← at)
      (sum_other c (take c b) (drop c b) (λ (z : length (drop c b) ≡ 0). omega (arith, length-drop c b))
      (λ (z : length (drop c b) ≡ 3). k (sym (length-drop c b) ∙ z)))

  pub sum_is : (t : Bool) {p : PairRead} → length b - c ≡ 3 → p ≡ read_pair (get_or b (c + 1) 0) (get_or b (c + 2) 0) → t ≡ says_sum (take c b) p
      → parted b ≡ cond t (Ok c) (Err BadSum)
  unfolding parted
  sum_is t h q e = rw (← at) (sum_3 c (take c b) (drop c b) t (length-drop c b ∙ h) (simp get_or-drop (rw (← q) (sym e))))

-- ---- the tail and the whole
module _ (t : List ℕ) (e : ℕ) (at : e ≡ span printable t) where
  pub tail_yes : is_footer (drop e t) ≡ true → after_slash t ≡ parted (take e t)
  unfolding after_slash
  tail_yes h = rw (← at, h)

  pub tail_not : is_footer (drop e t) ≡ false → after_slash t ≡ Err NotLine
  unfolding after_slash
  tail_not h = rw (← at, h)

  -- whether a footer stands there, as it is told of the part that the code hands over
  pub footer_told : {b : Bool} → b ≡ is_footer (take (length t - e) (drop e t)) → is_footer (drop e t) ≡ b
  footer_told told = rw (rest e t) at (sym told)

  pub tail_fits : e ≤ length t
  tail_fits = rw at (span_le printable t)

module _ (l : List ℕ) where
  pub too_long_lem : longest_line < length l → frame_of l ≡ Err TooLong
  unfolding frame_of
  too_long_lem h = rw (lt-ltb longest_line (length l) h)

pub empty : (l : List ℕ) → length l ≡ 0 → frame_of l ≡ Err NotLine
unfolding frame_of slashed
empty [] h = refl
empty (x ∷ l) h = absurd (omega arith)

pub no_slash : (l : List ℕ) → length l ≤ longest_line → (get_or l 0 0 ≡ 47 → ⊥) → frame_of l ≡ Err NotLine
unfolding frame_of slashed
no_slash [] h e = refl
no_slash (x ∷ l) h e = rw (le-ltb longest_line (length (x ∷ l)) h, ne_eqb x 47 e)

pub slash_first : (l : List ℕ) → length l ≤ longest_line → get_or l 0 0 ≡ 47 → frame_of l ≡ after_slash (drop 1 l)
unfolding frame_of slashed
slash_first [] h e = absurd (omega arith)
slash_first (x ∷ l) h e = rw (le-ltb longest_line (length (x ∷ l)) h, eq-eqb x 47 e)

-- a content that is found lies within its line
checked_fits : (c n : ℕ) (b r : List ℕ) → checked c b r ≡ Ok n → n ≡ c
unfolding checked
checked_fits c n b [] e = cc
checked_fits c n b (x ∷ []) e = let z : ◌≡◌ {A = ℕ} 0 1 = cc in absurd (omega arith)
checked_fits c n b (x ∷ y ∷ []) e = let z : ◌≡◌ {A = ℕ} 0 1 = cc in absurd (omega arith)
checked_fits c n b (x ∷ y ∷ z ∷ []) e = go (says_sum b (read_pair y z)) e
  where
    go : (t : Bool) → cond t (Ok c) (Err BadSum) ≡ Ok n → n ≡ c
    go true e = cc
    go false e = let z : ◌≡◌ {A = ℕ} 0 1 = cc in absurd (omega arith)
checked_fits c n b (x ∷ y ∷ z ∷ u ∷ r) e = let z : ◌≡◌ {A = ℕ} 0 1 = cc in absurd (omega arith)

pub parted_fits : (b : List ℕ) (n : ℕ) → parted b ≡ Ok n → n ≡ span no_colon b
unfolding parted
parted_fits b n e = checked_fits (span no_colon b) n (take (span no_colon b) b) (drop (span no_colon b) b) e

-- a footer is not empty
footer_some : (t : List ℕ) (e : ℕ) → is_footer (drop e t) ≡ true → e < length t
unfolding is_footer
footer_some t e h = ⊎_elim (λ l. l) (λ l. clash h (ap is_footer (drop_of_length-le t l))) (lt_or_le e (length t))

tail_content : (t : List ℕ) (n : ℕ) → after_slash t ≡ Ok n → n < length t
unfolding after_slash
tail_content t n e = go (is_footer (drop (span printable t) t)) refl e
  where
    go : (b : Bool) → is_footer (drop (span printable t) t) ≡ b → cond b (parted (take (span printable t) t)) (Err NotLine) ≡ Ok n
        → n < length t
    go true f e =
        let x = take (span printable t) t in
        omega (arith, parted_fits x n e, span_le no_colon x, length-take (span printable t) t, footer_some t (span printable t) f)
    go false f e = let z : ◌≡◌ {A = ℕ} 0 1 = cc in absurd (omega arith)

slashed_content : (l : List ℕ) (n : ℕ) → slashed l ≡ Ok n → n + 1 < length l
unfolding slashed
slashed_content [] n e = let z : ◌≡◌ {A = ℕ} 0 1 = cc in absurd (omega arith)
slashed_content (c ∷ t) n e = go (eqb c slash) e
  where
    go : (b : Bool) → cond b (after_slash t) (Err NotLine) ≡ Ok n → n + 1 < length (c ∷ t)
    go true e = omega (arith, tail_content t n e)
    go false e = let z : ◌≡◌ {A = ℕ} 0 1 = cc in absurd (omega arith)

-- a content stands between the `/` and the footer of a line that is not too long
pub content_fits : (l : List ℕ) {r : Frame} (n : ℕ) → r ≡ frame_of l → r ≡ Ok n → (n + 1 < length l) × (length l ≤ longest_line)
unfolding frame_of
content_fits l n q h = go (ltb longest_line (length l)) refl (sym q ∙ h)
  where
    go : (b : Bool) → ltb longest_line (length l) ≡ b → cond b (Err TooLong) (slashed l) ≡ Ok n → (n + 1 < length l)
        × (length l ≤ longest_line)
    go true f e = let z : ◌≡◌ {A = ℕ} 0 1 = cc in absurd (omega arith)
    go false f e = (slashed_content l n e, ltb-false longest_line (length l) f)
