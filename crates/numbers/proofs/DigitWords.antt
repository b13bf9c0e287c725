-- Digits are read exactly as Spelling writes them, in any base up to 16: one induction over the length each way.
-- Assumes nothing.
use Rattle.std.specs.Prelude.{Ok}
use mathlib.Core.Path.{◌≡◌, refl, sym, ap, ◌∙◌}
use mathlib.Core.Logic.{⊎_elim}
use mathlib.Core.List.{List, [], ◌∷◌, ◌++◌, append-nil}
use Prim.Native.Nat.{ℕ, suc, ◌+◌, ◌*◌, ◌≤◌, ◌<◌}
use native.Mathlib.Omega.{arith}
use native.Mathlib.Nat.{mul-le-mul_left}
use lib.ListN.{length, length-append}
use lib.Seq.{append_snoc}
use Rattle.laws.proofs.Order.{lt_or_le}
use Rattle.numbers.specs.Reading.{value_of, scan, digits_from}
use Rattle.numbers.specs.Spelling.{Digit, Digits, one, more}
use Rattle.numbers.proofs.Value.{digit_value, digit_below, digit_of}
use Rattle.numbers.proofs.Scan.{scan_digit, scan_stop, scan_past, at_most, digits_most}

-- where a value was read, its first byte was a digit that may stand there
pub record First (b most n i c : ℕ) (s : List ℕ) (v : ℕ) : Type 0 where
  pub digit : value_of c < b
  pub small : n * b + value_of c ≤ most
  pub others : scan b most (n * b + value_of c) (suc i) s ≡ Ok v

pub scan_first : (b most n i c : ℕ) (s : List ℕ) (v : ℕ) → scan b most n i (c ∷ s) ≡ Ok v → First b most n i c s v
scan_first b most n i c s v e =
    ⊎_elim (λ (h : value_of c < b). ⊎_elim (λ p. let z : ◌≡◌ {A = ℕ} 0 1 = cc (scan_past b most n i c s p) in absurd (omega arith))
    (λ p. record { digit = h; small = p; others = sym (scan_digit b most n i c s h p) ∙ e })
    (lt_or_le most (n * b + value_of c)))
    (λ h. let z : ◌≡◌ {A = ℕ} 0 1 = cc (scan_stop b most n i c s h) in absurd (omega arith))
    (lt_or_le (value_of c) b)

-- digits written behind each other are read one after the other
scan_behind : (b most n i v : ℕ) (s : List ℕ) (c : ℕ) → scan b most n i s ≡ Ok v
    → scan b most n i (s ++ c ∷ []) ≡ scan b most v (i + length s) (c ∷ [])
unfolding scan
scan_behind b most n i v [] c e =
    let q : n ≡ v = cc in
    let z : i ≡ i + 0 = omega arith in
    rw (q, ← z)
scan_behind b most n i v (a ∷ s) c e =
    let f = scan_first b most n i a s v e in
    let z : i + suc (length s) ≡ suc i + length s = omega arith in
    scan_digit b most n i a (s ++ c ∷ []) f.digit f.small ∙ rw z (scan_behind b most (n * b + value_of a) (suc i) v s c f.others)

-- one digit more
scan_one : (b most n i : ℕ) {c d : ℕ} → b ≤ 16 → Digit b c d → n * b + d ≤ most → scan b most n i (c ∷ []) ≡ Ok (n * b + d)
unfolding scan
scan_one b most n i {c} {d} hb x h =
    let e : value_of c ≡ d = digit_value hb x in
    rw (scan_digit b most n i c [] (rw e (digit_below x)) (rw e h), e)

-- what Spelling writes is read
scan_read : {b : ℕ} {s : List ℕ} {n : ℕ} (most i : ℕ) → b ≤ 16 → Digits b s n → n ≤ most → scan b most 0 i s ≡ Ok n
scan_read {b} most i hb (one {c} {d} x) h =
    let z : 0 * b + d ≡ d = omega arith in
    scan_one b most 0 i hb x (omega arith) ∙ ap Ok z
scan_read {b} most i hb (more {s} {n} {c} {d} r x) h =
    let k : n ≤ most = omega (arith, mul-le-mul_left n (one_below (digit_below x))) in
    scan_behind b most 0 i n s c (scan_read most i hb r k) ∙ scan_one b most n (i + length s) hb x h
  where
    one_below : {b d : ℕ} → d < b → 1 ≤ b
    one_below l = omega arith

pub digits_read : {b : ℕ} {s : List ℕ} {n : ℕ} (most i : ℕ) → b ≤ 16 → Digits b s n → n ≤ most → digits_from b most i s ≡ Ok n
unfolding digits_from
digits_read {b} {s} {n} most i hb r h = started s (some r) ∙ scan_read most i hb r h
  where
    some : {b : ℕ} {s : List ℕ} {n : ℕ} → Digits b s n → length s ≡ 0 → ⊥
    some (one x) z = omega arith
    some (more {s} {n} {c} r x) z = omega (arith, length-append s (c ∷ []))

    started : (s : List ℕ) → (length s ≡ 0 → ⊥) → digits_from b most i s ≡ scan b most 0 i s
    started [] z = absurd (z refl)
    started (c ∷ s) z = refl

-- what is read is what Spelling writes: digits s behind digits p
scan_is : (b most i : ℕ) → b ≤ 16 → (p s : List ℕ) (n v : ℕ) → Digits b p n → scan b most n i s ≡ Ok v → Digits b (p ++ s) v
unfolding scan
scan_is b most i hb p [] n v r e = let q : n ≡ v = cc in rw (append-nil, ← q) r
scan_is b most i hb p (c ∷ s) n v r e =
    let f = scan_first b most n i c s v e in
    rw append_snoc at (scan_is b most (suc i) hb (p ++ c ∷ []) s (n * b + value_of c) v (more r (digit_of b c hb f.digit)) f.others)

pub digits_is : (b most i : ℕ) → b ≤ 16 → (s : List ℕ) (v : ℕ) → digits_from b most i s ≡ Ok v → Digits b s v × (v ≤ most)
unfolding digits_from
digits_is b most i hb s v e = (spelled s e, at_most (digits_from b most i s) (digits_most b most i s) e)
  where
    spelled : (s : List ℕ) → digits_from b most i s ≡ Ok v → Digits b s v
    spelled [] e = let z : ◌≡◌ {A = ℕ} 0 1 = cc in absurd (omega arith)
    spelled (c ∷ s) e =
        let f = scan_first b most 0 i c s v e in
        let z : 0 * b + value_of c ≡ value_of c = omega arith in
        scan_is b most (suc i) hb (c ∷ []) s (0 * b + value_of c) v (rw z (one (digit_of b c hb f.digit))) f.others
