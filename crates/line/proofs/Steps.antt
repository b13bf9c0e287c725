-- The cases of the reading of address, axis and line, as the tests of the code have them.
-- Assumes nothing.
use Rattle.std.specs.Prelude.{Ok}
use mathlib.Core.Path.{◌≡◌, refl, sym, ap, ◌∙◌}
use mathlib.Core.Logic.{⊎_elim}
use mathlib.Core.Bool.{true, false}
use mathlib.Core.List.{List, [], ◌∷◌}
use Prim.Native.Nat.{ℕ, zero, suc, ◌+◌, ◌-◌, ◌≤◌, ◌<◌}
use native.Mathlib.Numerals.{add-one}
use native.Mathlib.Omega.{arith}
use lib.Dec.{ltb}
use lib.ListN.{length, get_or, take, drop, length-drop, length-take}
use lib.Seq.{drop-cons}
use borrow.Author.Tests.{eq-eqb, ne_eqb, lt-ltb, le-ltb}
use Rattle.laws.specs.Lists.{span}
use Rattle.laws.proofs.Order.{lt_or_le, eq_or_ne}
use Rattle.laws.proofs.Span.{span_yes, span_not, span_none, span_le}
use Rattle.numbers.specs.Reading.{value_of}
use Rattle.words.specs.Cutting.{no_space, bytes_of, words_at, head_word, start_of, end_of}
use Rattle.words.proofs.Space.{other_yes, other_not}
use Rattle.words.proofs.Cut.{head_at, words_none, words_some}
use Rattle.phrase.specs.Reading.{read_command}
use Rattle.line.specs.declared.Addressed.{Addressed}
use Rattle.line.specs.Reading.{begins_number, starts_number, axis_digit, axis_of, sent}
use Rattle.line.specs.Opening.{digit_at}

-- ---- a byte that begins a number
pub begins_plus : (c : ℕ) → c ≡ 43 → begins_number c ≡ true
unfolding begins_number
begins_plus c h = rw (eq-eqb c 43 h)

pub begins_minus : (c : ℕ) → (c ≡ 43 → ⊥) → c ≡ 45 → begins_number c ≡ true
unfolding begins_number
begins_minus c k h = rw (ne_eqb c 43 k, eq-eqb c 45 h)

pub begins_digit : (c : ℕ) → (c ≡ 43 → ⊥) → (c ≡ 45 → ⊥) → begins_number c ≡ ltb (value_of c) 10
unfolding begins_number
begins_digit c k j = rw (ne_eqb c 43 k, ne_eqb c 45 j)

pub starts_none : starts_number [] ≡ false
unfolding starts_number
starts_none = refl

-- ---- the first word from `at` on, which may start at a
module _ (s : List ℕ) (at : ℕ) {a : ℕ} (q : a ≡ start_of s at) where
  pub number_none : length s ≤ a → false ≡ starts_number (head_word (bytes_of (words_at s at)))
  unfolding head_word
  number_none l = rw (words_none s at q l) (sym starts_none)

  axis_none : length s ≤ a → 99 ≡ axis_digit (head_word (bytes_of (words_at s at)))
  unfolding head_word axis_digit
  axis_none l = rw (words_none s at q l)

  module _ (l : a < length s) where
    pub number_first : begins_number (get_or s a 0) ≡ starts_number (head_word (bytes_of (words_at s at)))
    unfolding starts_number
    number_first = rw (head_at s at q l)

    -- the bytes behind its first: none, a space, or more of it
    axis-by : (t : List ℕ) → drop (suc a) s ≡ t → (n : ℕ) → span no_space t ≡ n
        → axis_digit (head_word (bytes_of (words_at s at))) ≡ axis_digit (get_or s a 0 ∷ take n t)
    axis-by t e n m = rw (head_at s at q l, e, m)

    axis-last : length s - a ≡ 1 → value_of (get_or s a 0) ≡ axis_digit (head_word (bytes_of (words_at s at)))
    unfolding axis_digit
    axis-last h = go (drop (suc a) s) refl
      where
        go : (t : List ℕ) → drop (suc a) s ≡ t → value_of (get_or s a 0) ≡ axis_digit (head_word (bytes_of (words_at s at)))
        go [] e = sym (axis-by [] e 0 (span_none no_space))
        go (d ∷ t) e = absurd (omega (arith, length-drop (suc a) s, ap length e))

    module _ (h : length s - a ≡ 1 → ⊥) where
      behind : drop (suc a) s ≡ get_or s (suc a) 0 ∷ drop (suc (suc a)) s
      behind = drop-cons s (suc a) 0 (more (length s) l h)
        where
          more : (n : ℕ) → a < n → (n - a ≡ 1 → ⊥) → suc a < n
          more n i j = omega arith

      axis-alone : get_or s (a + 1) 0 ≡ 32 → value_of (get_or s a 0) ≡ axis_digit (head_word (bytes_of (words_at s at)))
      unfolding axis_digit
      axis-alone e = sym (axis-by _ behind 0 (span_not no_space _ _ (other_not _ (rw add-one at e))))

      axis-longer : (get_or s (a + 1) 0 ≡ 32 → ⊥) → 99 ≡ axis_digit (head_word (bytes_of (words_at s at)))
      unfolding axis_digit
      axis-longer e = sym (axis-by _ behind _ (span_yes no_space _ _ (other_yes _ (rw add-one at e))))

-- ---- the digit at a place, as the tests of the code have it
module _ (s : List ℕ) (i : ℕ) where
  pub digit_none : length s ≤ i → 99 ≡ digit_at s i
  unfolding digit_at
  digit_none h = rw (le-ltb i (length s) h)

  module _ (l : i < length s) where
    pub digit_last : length s - i ≡ 1 → value_of (get_or s i 0) ≡ digit_at s i
    unfolding digit_at
    digit_last h = rw (lt-ltb i (length s) l, eq-eqb (length s - i) 1 h)

    module _ (h : length s - i ≡ 1 → ⊥) where
      pub digit_alone : get_or s (i + 1) 0 ≡ 32 → value_of (get_or s i 0) ≡ digit_at s i
      unfolding digit_at
      digit_alone e = rw (lt-ltb i (length s) l, ne_eqb (length s - i) 1 h, eq-eqb (get_or s (i + 1) 0) 32 e)

      pub digit_longer : (get_or s (i + 1) 0 ≡ 32 → ⊥) → 99 ≡ digit_at s i
      unfolding digit_at
      digit_longer e = rw (lt-ltb i (length s) l, ne_eqb (length s - i) 1 h, ne_eqb (get_or s (i + 1) 0) 32 e)

  -- where a digit is told, the place is in the content
  pub axis_there : {d : ℕ} → d ≡ digit_at s i → d < 10 → i < length s
  axis_there e h = ⊎_elim (λ l. l) (λ l. absurd (omega (arith, digit_none l))) (lt_or_le i (length s))

-- ---- the words behind the address: the first of them may start at a
one_byte : (w : List ℕ) → axis_digit w < 10 → length w ≡ 1
unfolding axis_digit
one_byte [] h = absurd (omega arith)
one_byte (c ∷ []) h = refl
one_byte (c ∷ d ∷ w) h = absurd (omega arith)

module _ (s : List ℕ) (at : ℕ) {a : ℕ} (q : a ≡ start_of s at) where
  digit_axis : digit_at s a ≡ axis_digit (head_word (bytes_of (words_at s at)))
  digit_axis =
      ⊎_elim (λ l. ⊎_elim (λ h. sym (digit_last s a l h) ∙ axis-last s at q l h)
      (λ h. ⊎_elim (λ e. sym (digit_alone s a l h e) ∙ axis-alone s at q l h e)
      (λ e. sym (digit_longer s a l h e) ∙ axis-longer s at q l h e)
      (eq_or_ne (get_or s (a + 1) 0) 32)) (eq_or_ne (length s - a) 1))
      (λ l. sym (digit_none s a l) ∙ axis_none s at q l)
      (lt_or_le a (length s))

  module _ (l : a < length s) where
    abbrev first : List ℕ
    first = take (end_of s a - a) (drop a s)

    axis-first : digit_at s a ≡ axis_digit first
    unfolding head_word
    axis-first = digit_axis ∙ rw (words_some s at q l)

    -- behind an axis word
    behind-axis : digit_at s a < 10 → a + 1 ≡ end_of s a
    behind-axis h =
        let one = one_byte first (rw axis-first at h) in
        let in-text = span_le no_space (drop a s) in
        omega (arith, length-take (end_of s a - a) (drop a s), length-drop a s)

  module _ (n : ℕ) {d : ℕ} (is : d ≡ digit_at s a) where
    pub with_axis : {r : Addressed} → d < 10 → r ≡ sent n d (length s) (read_command (words_at s (a + 1)))
        → Ok r ≡ axis_of n (length s) (words_at s at)
    unfolding axis_of
    with_axis h e =
        let l = axis_there s a is h in
        rw (words_some s at q l, ← axis-first l, ← is, lt-ltb d 10 h, ← behind-axis l (rw is at h)) (ap Ok e)

    pub without_axis : {r : Addressed} → 10 ≤ d → r ≡ sent n 0 (length s) (read_command (words_at s at))
        → Ok r ≡ axis_of n (length s) (words_at s at)
    unfolding axis_of
    without_axis h e = ap Ok e ∙ ⊎_elim
        (λ (l : a < length s). rw (words_some s at q l, ← axis-first l, ← is, le-ltb d 10 h))
        (λ (l : length s ≤ a). rw (words_none s at q l))
        (lt_or_le a (length s))

-- ---- the content stands behind the `/`
pub behind_slash : (n : ℕ) (l : List ℕ) → drop 1 (take (suc n) l) ≡ take n (drop 1 l)
behind_slash zero [] = refl
behind_slash (suc n) [] = refl
behind_slash zero (c ∷ l) = refl
behind_slash (suc n) (c ∷ l) = refl

-- as many bytes as a front has are that front
pub take_whole : (n : ℕ) (l : List ℕ) → take (length (take n l)) l ≡ take n l
take_whole zero l = refl
take_whole (suc n) [] = refl
take_whole (suc n) (c ∷ l) = ap (λ (x : List ℕ). c ∷ x) (take_whole n l)
