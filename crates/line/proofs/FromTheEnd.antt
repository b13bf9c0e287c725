-- The frame found from the line's end, as the code has it, is the one that specs/Reading.antt finds from its front.
-- Assumes nothing.
use Rattle.laws.specs.declared.Refusal.TheVariants.{NotLine, BadSum}
use Rattle.std.specs.Prelude.{Err, Ok}
use mathlib.Core.Path.{◌≡◌, refl, sym, ap, ◌∙◌}
use mathlib.Core.Logic.{⊎_elim}
use mathlib.Core.Bool.{Bool, true, false, cond, not, ◌&&◌}
use mathlib.Core.List.{List, [], ◌∷◌, ◌++◌}
use Prim.Native.Nat.{ℕ, zero, suc, ◌+◌, ◌-◌, ◌≤◌, ◌<◌}
use native.Mathlib.Omega.{arith}
use lib.ListN.{length, get_or, take, drop, length-take, length-drop, take-append-drop}
use lib.Seq.{take-append_seam, drop-append_seam, take-take, take_all, drop-cons}
use borrow.Author.Tests.{le-leb, lt-leb, eq-eqb, ne_eqb}
use Rattle.laws.specs.Lists.{span, fold, all}
use Rattle.laws.proofs.Order.{lt_or_le, eq_or_ne}
use Rattle.laws.proofs.Bools.{and_false, and_assoc, and_left, and_right, clash}
use Rattle.laws.proofs.Span.{span_not, span_le}
use Rattle.laws.proofs.Lists.{rest}
use Rattle.laws.proofs.Passes.{Passes, pass_append, pass_both, front_passes, take_passes, passes_all, all_passes}
use Rattle.numbers.specs.Reading.{read_pair, says_sum, PairRead}
use Rattle.line.specs.Spelling.{Footer}
use Rattle.line.specs.Reading.{printable, no_colon, is_end, is_footer, parted, after_slash, frame_of, Frame}
use Rattle.line.specs.Refusals.{footer_size, body, not_line}
use Rattle.line.specs.FromTheEnd.{plain, content_length, refused_body, body_read}
use Rattle.line.proofs.Frames.{colon_not, no_sum, not_3, sum_is, tail_yes, tail_not, slash_first}
use Rattle.line.proofs.Composed.{footer_yes, footer_stops, footer_of, sum_printable, body_of, slash_cons}
use Rattle.line.proofs.Ends.{body_is, is_line, Split, split, no_end, slash_printable}
use Rattle.line.proofs.Sums.{colon_here}

-- ---- the footer
-- a line of a `/` alone has none
pub slash_alone : (l : List ℕ) → length l < 2 → get_or l 0 0 ≡ 47 → footer_size l ≡ 0
unfolding footer_size
slash_alone [] l h = absurd (omega arith)
slash_alone (x ∷ []) l h = rw (h, no_end 47 slash_printable)
slash_alone (x ∷ y ∷ l) k h = absurd (omega arith)

one_or_two : (a b : Bool) → cond a (cond b 2 1) 0 ≤ 2
one_or_two true true = omega arith
one_or_two true false = omega arith
one_or_two false b = omega arith

one_at_most : (a : Bool) → cond a 1 0 ≤ 1
one_at_most true = omega arith
one_at_most false = omega arith

-- the footer stands behind the `/`
pub footer_fits : (l : List ℕ) {f : ℕ} → get_or l 0 0 ≡ 47 → f ≡ footer_size l → f < length l
unfolding footer_size
footer_fits [] h e = absurd (omega arith)
footer_fits (x ∷ []) h e = let z = rw (h, no_end 47 slash_printable) at e in omega arith
footer_fits (x ∷ y ∷ []) h e = let z = rw (h, no_end 47 slash_printable) at e in omega (arith, z, one_at_most (is_end y))
footer_fits (x ∷ y ∷ u ∷ l) h e =
    let m = x ∷ y ∷ u ∷ l in
    let k : footer_size m ≤ 2 = one_or_two (is_end (get_or m (length m - 1) 0)) (is_end (get_or m (length m - 2) 0)) in
    omega arith

-- ---- the line
-- with its slash, a body b and a footer f
pub frame_is : (b f : List ℕ) → Passes printable b → Footer f → length (47 ∷ (b ++ f)) ≤ 80 → frame_of (47 ∷ (b ++ f)) ≡ parted b
frame_is b f k g fits =
    let e : length b ≡ span printable (b ++ f) = sym (pass_append printable b f k (footer_stops g)) in
    slash_first (47 ∷ (b ++ f)) fits refl ∙ tail_yes (b ++ f) (length b) e (ap is_footer (drop-append_seam b f) ∙ footer_yes g)
    ∙ ap parted (take-append_seam b f)

-- where 1 refuses, no footer stands behind the printable bytes
pub footer_missing : (t : List ℕ) (b : Bool) → not_line (47 ∷ t) ≡ true → is_footer (drop (span printable t) t) ≡ b
    → after_slash t ≡ Err NotLine
footer_missing t false e h = tail_not t (span printable t) refl h
footer_missing t true e h =
    let n = span printable t in
    clash e (rw (take-append-drop n t) at (is_line (take n t) (drop n t) (front_passes printable t) (footer_of (drop n t) h)))

split_frame : (t : List ℕ) → Split t → length (47 ∷ t) ≤ 80 → frame_of (47 ∷ t) ≡ parted (body (47 ∷ t))
split_frame t s h =
    rw (← s.whole)
    (frame_is s.front s.back s.passes s.footer (rw s.whole h)
    ∙ ap parted (sym (body_is s.front s.back s.passes s.footer)))

slash_frame : (t : List ℕ) (b : Bool) → length (47 ∷ t) ≤ 80 → not_line (47 ∷ t) ≡ b
    → frame_of (47 ∷ t) ≡ cond b (Err NotLine) (parted (body (47 ∷ t)))
slash_frame t true h e = slash_first (47 ∷ t) h refl ∙ footer_missing t _ e refl
slash_frame t false h e = split_frame t (split t e) h

module _ (l : List ℕ) (fits : length l ≤ 80) (first : get_or l 0 0 ≡ 47) where
  from_end : (b : Bool) → not_line l ≡ b → frame_of l ≡ cond b (Err NotLine) (parted (body l))
  from_end b e = go (drop 1 l) (slash_cons l first) fits e
    where
      go : (t : List ℕ) → l ≡ 47 ∷ t → length l ≤ 80 → not_line l ≡ b → frame_of l ≡ cond b (Err NotLine) (parted (body l))
      go t q h e = rw q (slash_frame t b (rw q at h) (rw q at e))

  module _ {f : ℕ} (size : f ≡ footer_size l) where
    pub footer_none : f ≡ 0 → Err NotLine ≡ frame_of l
    unfolding not_line
    footer_none h = sym (from_end true (simp (eq-eqb (get_or l 0 0) 47 first, eq-eqb (footer_size l) 0 (sym size ∙ h))))

    body-test : (f ≡ 0 → ⊥) → not_line l ≡ not (all printable (body l))
    unfolding not_line
    body-test h = simp (eq-eqb (get_or l 0 0) 47 first, ne_eqb (footer_size l) 0 (λ (z : footer_size l ≡ 0). h (size ∙ z)))

    body-frame : (b : Bool) → (f ≡ 0 → ⊥) → all printable (body l) ≡ b → frame_of l ≡ body_read (body l)
    unfolding body_read
    body-frame true h e = rw e (from_end false (body-test h ∙ ap not e))
    body-frame false h e = rw e (from_end true (body-test h ∙ ap not e))

    -- of the part that the code hands over
    pub footer_some : {r : Frame} → (f ≡ 0 → ⊥)
        → r ≡ body_read (take (length (take (length l - 1) (drop 1 l)) - f) (take (length l - 1) (drop 1 l))) → r ≡ frame_of l
    unfolding body
    footer_some h q =
        let n : length (drop 1 l) - f ≡ length l - 1 - footer_size l = omega (arith, length-drop 1 l) in
        (rw (rest 1 l) at q) ∙ ap (λ (k : ℕ). body_read (take k (drop 1 l))) n ∙ sym (body-frame _ h refl)

-- ---- the body
-- bytes that a content may have are those that pass both tests
plain_both : (s : List ℕ) → all plain s ≡ all printable s && all no_colon s
unfolding fold plain
plain_both [] = refl
plain_both (c ∷ s) = rw (plain_both s) (swap (printable c) (no_colon c) (all printable s) (all no_colon s))
  where
    swap : (a b x y : Bool) → (a && b) && (x && y) ≡ (a && x) && (b && y)
    swap true true x y = refl
    swap true false x y = sym (and_false x)
    swap false b x y = refl

-- the tests of `content_len`
module _ (b : List ℕ) where
  pub length_3 : 3 ≤ length b → get_or b (length b - 3) 0 ≡ 58 → content_length b ≡ length b - 3
  unfolding content_length
  length_3 h k = simp (le-leb 3 (length b) h, eq-eqb (get_or b (length b - 3) 0) 58 k)

  pub length_other : (get_or b (length b - 3) 0 ≡ 58 → ⊥) → content_length b ≡ length b
  unfolding content_length
  length_other h = simp (ne_eqb (get_or b (length b - 3) 0) 58 h, and_false)

  pub length_short : length b < 3 → content_length b ≡ length b
  unfolding content_length
  length_short h = simp (lt-leb 3 (length b) h)

-- all bytes pass where those of a front and those of the rest do
all_split : (p : ℕ → Bool) (n : ℕ) (l : List ℕ) → all p l ≡ all p (take n l) && all p (drop n l)
unfolding fold
all_split p zero l = refl
all_split p (suc n) [] = refl
all_split p (suc n) (c ∷ l) = rw (all_split p n l) (sym (and_assoc (p c) _ _))

-- the tests of `refusal`
module _ (s : List ℕ) (n : ℕ) (is : n ≡ span printable s) where
  pub some_forbidden : n < length s → Err NotLine ≡ refused_body s
  unfolding refused_body
  some_forbidden h = go (all printable s) refl
    where
      go : (t : Bool) → all printable s ≡ t → ◌≡◌ {A = Frame} (Err NotLine) (Err (cond (all printable s) BadSum NotLine))
      go true e = absurd (omega (arith, all_passes printable s e))
      go false e = rw e

  pub none_forbidden : length s ≤ n → Err BadSum ≡ refused_body s
  unfolding refused_body
  none_forbidden h = rw (passes_all printable s (omega (arith, span_le printable s)))

body_refused : (b : List ℕ) → parted b ≡ Err BadSum → body_read b ≡ refused_body b
unfolding body_read refused_body
body_refused b e = go (all printable b)
  where
    go : (t : Bool) → cond t (parted b) (Err NotLine) ≡ Err (cond t BadSum NotLine)
    go true = e
    go false = refl

body_forbidden : (b : List ℕ) → all printable b ≡ false → refused_body b ≡ body_read b
unfolding body_read refused_body
body_forbidden b e = rw e

-- a colon among the first c bytes
colon_before : (b : List ℕ) (c : ℕ) → all no_colon (take c b) ≡ false → span no_colon b < c
colon_before b c e =
    ⊎_elim (λ h. h)
    (λ h. let k : Passes no_colon (take c (take (span no_colon b) b)) = take_passes no_colon c _ (front_passes no_colon b) in
    clash (passes_all no_colon (take c b) (rw (take-take c (span no_colon b) b h) at k)) e)
    (lt_or_le (span no_colon b) c)

-- where bytes stand behind the content, these are a colon and two more
module _ (b : List ℕ) (c : ℕ) (is : c ≡ content_length b) where
  pub content_in : c ≤ length b
  content_in =
      ⊎_elim (λ h. omega (arith, length_short b h))
      (λ h. ⊎_elim (λ k. omega (arith, length_3 b h k)) (λ k. omega (arith, length_other b k)) (eq_or_ne (get_or b (length b - 3) 0) 58))
      (lt_or_le (length b) 3)

  pub behind_3 : c < length b → length b - c ≡ 3
  behind_3 l =
      ⊎_elim (λ h. absurd (omega (arith, length_short b h)))
      (λ h. ⊎_elim (λ k. omega (arith, length_3 b h k)) (λ k. absurd (omega (arith, length_other b k)))
      (eq_or_ne (get_or b (length b - 3) 0) 58))
      (lt_or_le (length b) 3)

  behind_colon : c < length b → get_or b c 0 ≡ 58
  behind_colon l =
      let q : length b - 3 ≡ c = omega (arith, behind_3 l) in
      ⊎_elim (λ k. rw q at k) (λ k. absurd (omega (arith, length_other b k))) (eq_or_ne (get_or b (length b - 3) 0) 58)

  -- all bytes of the content are plain
  module _ (ok : all plain (take c b) ≡ true) where
    both : all printable (take c b) && all no_colon (take c b) ≡ true
    both = sym (plain_both (take c b)) ∙ ok

    printable-front : Passes printable (take c b)
    printable-front = all_passes printable (take c b) (and_left (all printable (take c b)) _ both)

    colon-first : c < length b → c ≡ span no_colon b
    colon-first l =
        let d : span no_colon (drop c b) ≡ 0 = rw (drop-cons b c 0 l)
        (span_not no_colon (get_or b c 0) _ (colon_not (get_or b c 0) (behind_colon l))) in
        let k : Passes no_colon (take c b) = all_passes no_colon (take c b) (and_right (all printable (take c b)) _ both) in
        let n : length (take c b) ≡ c = omega (arith, length-take c b) in
        sym (ap (span no_colon) (sym (take-append-drop c b)) ∙ pass_append no_colon (take c b) (drop c b) k d ∙ n)

    pub no_checksum : length b ≤ c → Ok c ≡ body_read b
    unfolding body_read
    no_checksum l =
        let w : take c b ≡ b = take_all c b l in
        let p : all printable b ≡ true = rw w at (and_left (all printable (take c b)) _ both) in
        let k : Passes no_colon b = all_passes no_colon b (rw w at (and_right (all printable (take c b)) _ both)) in
        let e : c ≡ span no_colon b = omega (arith, content_in) in
        rw p (sym (no_sum b c e l))

    -- the checksum is right
    pub checksum_right_lem : {p : PairRead} {t : Bool} → c < length b → p ≡ read_pair (get_or b (c + 1) 0) (get_or b (c + 2) 0)
        → t ≡ says_sum (take c b) p → t ≡ true → Ok c ≡ body_read b
    unfolding body_read
    checksum_right_lem l q e h =
        let r : parted b ≡ Ok c = sum_is b c (colon-first l) true (behind_3 l) q (sym h ∙ e) in
        let w : Passes printable (take c b ++ drop c b) = pass_both printable _ _ printable-front (sum_printable (body_of b c r)) in
        rw (passes_all printable b (rw (take-append-drop c b) at w)) (sym r)

    -- it is wrong: if a byte is forbidden, it stands behind the content
    pub checksum_wrong : {p : PairRead} {t : Bool} {r : Frame} → c < length b → p ≡ read_pair (get_or b (c + 1) 0) (get_or b (c + 2) 0)
        → t ≡ says_sum (take c b) p → t ≡ false → r ≡ refused_body (take (length b - c) (drop c b)) → r ≡ body_read b
    unfolding refused_body
    checksum_wrong l q e h g =
        let w : all printable b ≡ all printable (drop c b) =
        rw (all_split printable c b, passes_all printable (take c b) printable-front) in
        g ∙ ap refused_body (rest c b) ∙ rw (← w) (sym (body_refused b (sum_is b c (colon-first l) false (behind_3 l) q (sym h ∙ e))))

  -- a byte before the checksum is forbidden, or a colon out of place
  pub content_bad : {r : Frame} → all plain (take c b) ≡ false → r ≡ refused_body b → r ≡ body_read b
  content_bad bad g = g ∙ go (all printable b) refl
    where
      misplaced : Passes printable b → parted b ≡ Err BadSum
      misplaced k =
          let n = span no_colon b in
          let f : all printable (take c b) ≡ true = passes_all printable (take c b) (take_passes printable c b k) in
          let some : all no_colon (take c b) ≡ false = rw f at (sym (plain_both (take c b)) ∙ bad) in
          let l : n < c = colon_before b c some in
          let m : n < length b = omega (arith, content_in) in
          not_3 b n refl m (λ (z : length b - n ≡ 3).
          let q : length b - 3 ≡ n = omega arith in
          omega (arith, length_3 b (omega arith) (rw q (colon_here b m))))

      go : (t : Bool) → all printable b ≡ t → refused_body b ≡ body_read b
      go true h = sym (body_refused b (misplaced (all_passes printable b h)))
      go false h = body_forbidden b h
