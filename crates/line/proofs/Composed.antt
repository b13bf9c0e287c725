-- A line's frame is read where the line is composed so, and nowhere else.
-- Assumes nothing.
use Rattle.laws.specs.declared.Refusal.TheVariants.{BadSum}
use Rattle.std.specs.Prelude.{Ok, Err}
use mathlib.Core.Path.{◌≡◌, refl, sym, ap, ◌∙◌}
use mathlib.Core.Logic.{⊎_elim}
use mathlib.Core.Bool.{Bool, true, false, cond}
use mathlib.Core.List.{List, [], ◌∷◌, ◌++◌, append_assoc}
use Prim.Native.Nat.{ℕ, ◌≤◌, ◌<◌}
use native.Mathlib.Omega.{arith}
use lib.ListN.{length, get_or, take, drop, length-take, take-append-drop}
use lib.Seq.{take-append_seam, drop-append_seam, take-take}
use borrow.Author.Tests.{eq-eqb, ne_eqb}
use Rattle.laws.specs.Lists.{span}
use Rattle.laws.specs.Text.{text}
use Rattle.laws.proofs.Order.{lt_or_le, eq_or_ne}
use Rattle.laws.proofs.Bools.{clash, and_left, and_right}
use Rattle.laws.proofs.Span.{span_yes, span_not, span_none, span_le}
use Rattle.laws.proofs.Passes.{Passes, pass_cons, pass_head, pass_append, pass_both, front_passes, take_passes}
use Rattle.numbers.specs.Checksum.{checksum}
use Rattle.numbers.specs.Spelling.{Digit, figure, capital, small, HexPair, pair}
use Rattle.numbers.specs.Reading.{read_pair, says_sum}
use Rattle.numbers.proofs.Numbers.{pair_read, says_pair}
use Rattle.words.specs.Spelling.{Content}
use Rattle.words.specs.Cutting.{cut}
use Rattle.words.proofs.Content.{Plain, done, space, byte, content_cut, cut_content, content_plain}
use Rattle.line.specs.Spelling.{End, Footer, Checksum}
use Rattle.line.specs.Reading.{printable, no_colon, is_end, is_footer, checked, parted, after_slash, frame_of}
use Rattle.line.proofs.Frames.{low, high, between, colon_not, other_yes, tail_yes, tail_not, too_long_lem, no_slash, slash_first, parted_fits}

-- ---- contents
plain_printable : {b : List ℕ} → Plain b → Passes printable b
plain_printable done = span_none printable
plain_printable (space {s} k) = pass_cons printable 32 s (between 32 (omega arith) (omega arith)) (plain_printable k)
plain_printable (byte {c} {s} h k) = pass_cons printable c s (between c (omega (arith, h.low)) h.high) (plain_printable k)

plain_no_colon : {b : List ℕ} → Plain b → Passes no_colon b
plain_no_colon done = span_none no_colon
plain_no_colon (space {s} k) = pass_cons no_colon 32 s (other_yes 32 (λ (z : ◌≡◌ {A = ℕ} 32 58). omega arith)) (plain_no_colon k)
plain_no_colon (byte {c} {s} h k) = pass_cons no_colon c s (other_yes c h.no_colon) (plain_no_colon k)

printable_is : (c : ℕ) → printable c ≡ true → (32 ≤ c) × (c ≤ 126)
printable_is c e =
    ⊎_elim (λ h. clash e (low c h)) (λ h. ⊎_elim (λ k. clash e (high c k)) (λ k. (h, k)) (lt_or_le 126 c)) (lt_or_le c 32)

plain_of : (b : List ℕ) → Passes printable b → Passes no_colon b → Plain b
plain_of [] k j = done
plain_of (c ∷ b) k j =
    let r = pass_head printable c b (printable c) refl k in
    let q = pass_head no_colon c b (no_colon c) refl j in
    plain-cons c b (printable_is c r.0) q.0 (plain_of b r.1 q.1)
  where
    plain-cons : (c : ℕ) (b : List ℕ) → (32 ≤ c) × (c ≤ 126) → no_colon c ≡ true → Plain b → Plain (c ∷ b)
    plain-cons c b r q k =
        ⊎_elim (λ e. rw e (space k))
        (λ h. byte (record { low = omega arith; high = r.1; no_colon = λ (e : c ≡ 58). clash q (colon_not c e) }) k)
        (eq_or_ne c 32)

-- ---- footers
pub end_yes : {c : ℕ} → End c → is_end c ≡ true
unfolding is_end
end_yes End.cr = refl
end_yes End.lf = refl

pub end_low : {c : ℕ} → End c → c < 32
end_low End.cr = omega arith
end_low End.lf = omega arith

pub end_of : (c : ℕ) → is_end c ≡ true → End c
unfolding is_end
end_of c e =
    ⊎_elim (λ h. rw h End.cr)
    (λ h. ⊎_elim (λ k. rw k End.lf)
    (λ k. let z : ◌≡◌ {A = ℕ} 0 1 = cc (ne_eqb c 13 h, ne_eqb c 10 k) in absurd (omega arith)) (eq_or_ne c 10))
    (eq_or_ne c 13)

pub footer_yes : {f : List ℕ} → Footer f → is_footer f ≡ true
unfolding is_footer
footer_yes (Footer.one h) = end_yes h
footer_yes (Footer.two h k) = rw (end_yes h) (end_yes k)

pub footer_stops : {f : List ℕ} → Footer f → span printable f ≡ 0
footer_stops (Footer.one {c} h) = span_not printable c [] (low c (end_low h))
footer_stops (Footer.two {c} {d} h k) = span_not printable c (d ∷ []) (low c (end_low h))

pub footer_of : (f : List ℕ) → is_footer f ≡ true → Footer f
unfolding is_footer
footer_of [] e = let z : ◌≡◌ {A = ℕ} 0 1 = cc in absurd (omega arith)
footer_of (c ∷ []) e = Footer.one (end_of c e)
footer_of (c ∷ d ∷ []) e = Footer.two (end_of c (and_left (is_end c) (is_end d) e)) (end_of d (and_right (is_end c) (is_end d) e))
footer_of (c ∷ d ∷ x ∷ f) e = let z : ◌≡◌ {A = ℕ} 0 1 = cc in absurd (omega arith)

-- ---- checksums
digit_printable : {b c d : ℕ} → b ≤ 16 → Digit b c d → printable c ≡ true
digit_printable {b} {c} {d} h (figure l t e) = between c (omega arith) (omega arith)
digit_printable {b} {c} {d} h (capital l t e) = between c (omega arith) (omega arith)
digit_printable {b} {c} {d} h (small l t e) = between c (omega arith) (omega arith)

pair_printable : {d : List ℕ} {n : ℕ} → HexPair d n → Passes printable d
pair_printable (pair {h} {l} x y) =
    pass_cons printable h (l ∷ []) (digit_printable (omega arith) x)
    (pass_cons printable l [] (digit_printable (omega arith) y) (span_none printable))

pub sum_printable : {s k : List ℕ} → Checksum s k → Passes printable k
unfolding text
sum_printable Checksum.none = span_none printable
sum_printable (Checksum.sum {d} r) = pass_cons printable 58 d (between 58 (omega arith) (omega arith)) (pair_printable r)

sum_stops : {s k : List ℕ} → Checksum s k → span no_colon k ≡ 0
unfolding text
sum_stops Checksum.none = span_none no_colon
sum_stops (Checksum.sum {d} r) = span_not no_colon 58 d (colon_not 58 refl)

says : (s : List ℕ) (h l n : ℕ) → n ≡ checksum s → HexPair (h ∷ l ∷ []) n → says_sum s (read_pair h l) ≡ true
says s h l n e r = rw (pair_read r) (eq-eqb n (checksum s) e)

sum_pair : {d : List ℕ} {n : ℕ} (c : ℕ) (s : List ℕ) → n ≡ checksum s → HexPair d n → checked c s (text ":" ++ d) ≡ Ok c
unfolding checked text
sum_pair c s e (pair {h} {l} x y) = rw (says s h l _ e (pair x y))

sum_yes : {s k : List ℕ} (c : ℕ) → Checksum s k → checked c s k ≡ Ok c
unfolding checked
sum_yes c Checksum.none = refl
sum_yes {s} c (Checksum.sum r) = sum_pair c s refl r

-- what stands behind the content is its checksum, if it begins with a colon
sum_of : (c n : ℕ) (s k : List ℕ) → (0 < length k → get_or k 0 0 ≡ 58) → checked c s k ≡ Ok n → Checksum s k
unfolding checked text
sum_of c n s [] b e = Checksum.none
sum_of c n s (x ∷ []) b e = let z : ◌≡◌ {A = ℕ} 0 1 = cc in absurd (omega arith)
sum_of c n s (x ∷ h ∷ []) b e = let z : ◌≡◌ {A = ℕ} 0 1 = cc in absurd (omega arith)
sum_of c n s (x ∷ h ∷ l ∷ []) b e = go (says_sum s (read_pair h l)) refl e
  where
    go : (t : Bool) → says_sum s (read_pair h l) ≡ t → cond t (Ok c) (Err BadSum) ≡ Ok n
        → Checksum s (x ∷ h ∷ l ∷ [])
    go true q r = rw (b (omega arith)) (Checksum.sum (says_pair s h l q))
    go false q r = let z : ◌≡◌ {A = ℕ} 0 1 = cc in absurd (omega arith)
sum_of c n s (x ∷ h ∷ l ∷ y ∷ r) b e = let z : ◌≡◌ {A = ℕ} 0 1 = cc in absurd (omega arith)

-- where the bytes before the first colon end, a colon stands
pub stop_byte : (l : List ℕ) → 0 < length (drop (span no_colon l) l) → get_or (drop (span no_colon l) l) 0 0 ≡ 58
stop_byte [] h = let y = rw (span_none no_colon) at h in absurd (omega arith)
stop_byte (c ∷ l) h =
    ⊎_elim (λ e. rw (span_not no_colon c l (colon_not c e)) e)
    (λ k. rw (span_yes no_colon c l (other_yes c k)) (stop_byte l (rw (span_yes no_colon c l (other_yes c k)) at h)))
    (eq_or_ne c 58)

-- ---- how a line is composed: what the words are is left open
pub data Composed : List ℕ → List (List ℕ) → Type 0 where
  composed : {s k f : List ℕ} {ws : List (List ℕ)} → Content s ws → Checksum s k → Footer f → length (text "/" ++ s ++ k ++ f) ≤ 80
      → Composed (text "/" ++ s ++ k ++ f) ws

module _ {s k f : List ℕ} (p : Plain s) (c : Checksum s k) (g : Footer f) where
  body_read_lem : parted (s ++ k) ≡ Ok (length s)
  unfolding parted
  body_read_lem = rw (pass_append no_colon s k (plain_no_colon p) (sum_stops c), take-append_seam s k, drop-append_seam s k)
      (sum_yes (length s) c)

  tail_read : after_slash ((s ++ k) ++ f) ≡ Ok (length s)
  tail_read =
      let x = s ++ k in
      let e : length x ≡ span printable (x ++ f) =
      sym (pass_append printable x f (pass_both printable s k (plain_printable p) (sum_printable c)) (footer_stops g)) in
      tail_yes (x ++ f) (length x) e (ap is_footer (drop-append_seam x f) ∙ footer_yes g) ∙ ap parted (take-append_seam x f) ∙ body_read_lem

-- where the line is read, its content is n bytes, and these are cut into ws
pub record Framed (l : List ℕ) (ws : List (List ℕ)) : Type 0 where
  pub size : ℕ
  pub frame : frame_of l ≡ Ok size
  pub words : cut (take size (drop 1 l)) ≡ ws

pub composed_read : {l : List ℕ} {ws : List (List ℕ)} → Composed l ws → Framed l ws
unfolding text
composed_read (composed {s} {k} {f} r c g h) =
    record {
      size = length s;
      frame = slash_first (text "/" ++ s ++ k ++ f) h refl ∙ tail_read (content_plain r) c g;
      words = ap cut (front s k f) ∙ content_cut r;
    }
  where
    front : (s k f : List ℕ) → take (length s) (s ++ k ++ f) ≡ s
    front s k f = rw append_assoc (take-append_seam s (k ++ f))

-- a body that is read has its content up to its first colon
pub body_of : (x : List ℕ) (n : ℕ) → parted x ≡ Ok n → Checksum (take n x) (drop n x)
unfolding parted
body_of x n e = rw (parted_fits x n e) (sum_of (span no_colon x) n (take (span no_colon x) x) (drop (span no_colon x) x) (stop_byte x) e)

compose : (t : List ℕ) (e n : ℕ) → n ≤ e → Plain (take n (take e t)) → Checksum (take n (take e t)) (drop n (take e t)) → Footer (drop e t)
    → length (47 ∷ t) ≤ 80 → Composed (47 ∷ t) (cut (take n t))
unfolding text
compose t e n h p c g len =
    let x = take e t in
    let whole : take n x ++ drop n x ++ drop e t ≡ t = ap (λ (y : List ℕ). y ++ drop e t) (take-append-drop n x) ∙ take-append-drop e t in
    put whole (ap cut (take-take n e t h)) (cut_content p) c g len
  where
    put : {s k f t : List ℕ} {ws vs : List (List ℕ)} → s ++ k ++ f ≡ t → ws ≡ vs → Content s ws → Checksum s k → Footer f
        → length (47 ∷ t) ≤ 80 → Composed (47 ∷ t) vs
    put q r s k f h = rw (← q, ← r) (composed s k f (rw q h))

tail_of : (t : List ℕ) (n : ℕ) → length (47 ∷ t) ≤ 80 → after_slash t ≡ Ok n → Composed (47 ∷ t) (cut (take n t))
tail_of t n len q = go (is_footer (drop (span printable t) t)) refl
  where
    go : (b : Bool) → is_footer (drop (span printable t) t) ≡ b → Composed (47 ∷ t) (cut (take n t))
    go true h =
        let e = span printable t in
        let x = take e t in
        let r = sym (tail_yes t e refl h) ∙ q in
        let m = parted_fits x n r in
        let le : n ≤ e = omega (arith, m, span_le no_colon x, length-take e t) in
        let j : Passes no_colon (take n x) = rw m (front_passes no_colon x) in
        compose t e n le (plain_of (take n x) (take_passes printable n x (front_passes printable t)) j) (body_of x n r)
        (footer_of (drop e t) h) len
    go false h = let z : ◌≡◌ {A = ℕ} 0 1 = cc (tail_not t (span printable t) refl h) in absurd (omega arith)

pub slash_cons : (l : List ℕ) → get_or l 0 0 ≡ 47 → l ≡ 47 ∷ drop 1 l
slash_cons [] h = absurd (omega arith)
slash_cons (x ∷ l) h = rw h

pub composed_of : (l : List ℕ) (n : ℕ) → frame_of l ≡ Ok n → Composed l (cut (take n (drop 1 l)))
composed_of l n e =
    ⊎_elim (λ h. let z : ◌≡◌ {A = ℕ} 0 1 = cc (too_long_lem l h) in absurd (omega arith))
    (λ h. ⊎_elim (λ k. as-slash (drop 1 l) (slash_cons l k) h (sym (slash_first l h k) ∙ e))
    (λ k. let z : ◌≡◌ {A = ℕ} 0 1 = cc (no_slash l h k) in absurd (omega arith))
    (eq_or_ne (get_or l 0 0) 47))
    (lt_or_le 80 (length l))
  where
    as-slash : (t : List ℕ) → l ≡ 47 ∷ t → length l ≤ 80 → after_slash t ≡ Ok n → Composed l (cut (take n t))
    as-slash t q h r = rw q (tail_of t n (rw q at h) r)
