-- The place that a refusal tells is the length of the longest front that some number's word begins with.
-- For numbers and for addresses. Assumes nothing.
use Rattle.std.specs.Prelude.{Err, Ok}
use mathlib.Core.Path.{◌≡◌, refl, sym, ap, subst, ◌∙◌}
use mathlib.Core.Logic.{◌↔◌, ◌⊎◌, inl, inr, ⊎_elim}
use mathlib.Core.Bool.{Bool, true, false}
use mathlib.Core.List.{List, [], ◌∷◌, ◌++◌}
use Prim.Native.Nat.{ℕ, zero, suc, ◌+◌, ◌*◌, ◌≤◌, ◌<◌}
use native.Mathlib.Omega.{arith}
use lib.IntN.{ℤ, pos, neg_ℤ}
use lib.ListN.{length, take, drop}
use Rattle.laws.specs.Text.{text}
use Rattle.laws.proofs.Order.{lt_or_le, eq_or_ne}
use Rattle.numbers.specs.Place.{ANumber, AnAddress, LongestFront}
use Rattle.numbers.specs.Reading.{value_of, scan, digits_from, starts_hex, unsigned_from, read_address, above, below, read_number, UnsignedRead, NumberRead}
use Rattle.numbers.specs.Spelling.{bare}
use Rattle.numbers.proofs.Value as value
use Rattle.numbers.proofs.Scan.{scan_digit, scan_stop, scan_past, hex_one, hex_not_0, hex_second, unsigned_hex, unsigned_decimal}
use Rattle.numbers.proofs.Front.{Stops, stops_end, stops_here, stops_behind, stops_beyond, stops_longest, refused_iff}
use Rattle.numbers.proofs.Numbers.{decimal_plain, hex_front, unsigned_is, number_read, number_of, address_read, address_of_lem}
use Rattle.numbers.proofs.Answers as answers

-- a reader f that gives a value, and one that refuses at place p
Reads : (List ℕ → UnsignedRead) → List ℕ → Type 0
Reads f s = (n : ℕ) × (f s ≡ Ok n)

Refuses : (List ℕ → UnsignedRead) → ℕ → List ℕ → Type 0
Refuses f p s = f s ≡ Err p

-- a reader that begins at place i and refuses at place p stops p - i bytes behind
record StopsAt (f : List ℕ → UnsignedRead) (i : ℕ) (s : List ℕ) (p : ℕ) : Type 0 where
  passed : ℕ
  place : p ≡ i + passed
  stops : Stops (Reads f) (Refuses f p) s passed

refused_is : {p q : ℕ} → ◌≡◌ {A = UnsignedRead} (Err p) (Err q) → p ≡ q
refused_is e = cc

-- ---- digits
scan_stops : (b most n i : ℕ) (s : List ℕ) (p : ℕ) → scan b most n i s ≡ Err p → StopsAt (scan b most n i) i s p
unfolding scan Reads Refuses
scan_stops b most n i [] p e = let z : ◌≡◌ {A = ℕ} 0 1 = cc in absurd (omega arith)
scan_stops b most n i (c ∷ s) p e =
    ⊎_elim (λ (h : value_of c < b). ⊎_elim (λ o. here (λ t. scan_past b most n i c t o))
    (λ o. further h o (scan_stops b most (n * b + value_of c) (suc i) s p (sym (scan_digit b most n i c s h o) ∙ e)))
    (lt_or_le most (n * b + value_of c)))
    (λ h. here (λ t. scan_stop b most n i c t h))
    (lt_or_le (value_of c) b)
  where
    here : ((t : List ℕ) → scan b most n i (c ∷ t) ≡ Err i) → StopsAt (scan b most n i) i (c ∷ s) p
    here f =
        let q : i ≡ p = refused_is (sym (f s) ∙ e) in
        record { passed = 0; place = omega arith; stops = stops_here [] (n, refl) (λ t. f t ∙ ap Err q) }

    further : value_of c < b → n * b + value_of c ≤ most → StopsAt (scan b most (n * b + value_of c) (suc i)) (suc i) s p
        → StopsAt (scan b most n i) i (c ∷ s) p
    further h o r =
        record {
          passed = suc r.passed;
          place = omega (arith, r.place);
          stops = stops_behind c (λ x v. (v.0, scan_digit b most n i c x h o ∙ v.1)) (λ x v. scan_digit b most n i c x h o ∙ v)
              r.stops;
        }

-- a nought is read in any base, so that it can always follow where a digit may
module _ (b most i : ℕ) (some : 0 < b) where
  nought : digits_from b most i (48 ∷ []) ≡ Ok (0 * b + value_of 48)
  unfolding digits_from scan
  nought =
      let z = value.figure_value 48 (omega arith) (omega arith) in
      scan_digit b most 0 i 48 [] (omega arith) (omega arith)

  digits_stops : (s : List ℕ) (p : ℕ) → digits_from b most i s ≡ Err p → StopsAt (digits_from b most i) i s p
  unfolding digits_from Reads Refuses
  digits_stops [] p e =
      let q : i ≡ p = refused_is e in
      record { passed = 0; place = omega arith; stops = stops_end (48 ∷ []) (0 * b + value_of 48, nought) }
  digits_stops (c ∷ s) p e = go (scan_stops b most 0 i (c ∷ s) p e)
    where
      at : (k : ℕ) → Stops (Reads (scan b most 0 i)) (Refuses (scan b most 0 i) p) (c ∷ s) k
          → Stops (Reads (digits_from b most i)) (Refuses (digits_from b most i) p) (c ∷ s) k
      at zero r = stops_here (48 ∷ []) (0 * b + value_of 48, nought) (λ t. r.stays 1 (omega arith) (omega arith) t)
      at (suc k) r = stops_beyond (λ x v. v) (λ x v. v) r

      go : StopsAt (scan b most 0 i) i (c ∷ s) p → StopsAt (digits_from b most i) i (c ∷ s) p
      go r = record { passed = r.passed; place = r.place; stops = at r.passed r.stops }

-- ---- unsigned numbers
module _ (most i : ℕ) where
  hex_stops : (s : List ℕ) (p : ℕ) → digits_from 16 most (i + 2) s ≡ Err p → StopsAt (unsigned_from most i) i (48 ∷ 120 ∷ s) p
  unfolding Reads Refuses
  hex_stops s p e =
      let r = digits_stops 16 most (i + 2) (omega arith) s p e in
      record {
        passed = suc (suc r.passed);
        place = omega (arith, r.place);
        stops =
            stops_behind {Y = λ x. Reads (unsigned_from most i) (48 ∷ x)} {N = λ x. Refuses (unsigned_from most i) p (48 ∷ x)} 48 (λ x v. v)
            (λ x v. v)
            (stops_behind 120 (λ x v. (v.0, unsigned_hex most i (48 ∷ 120 ∷ x) (hex_second 120 x) ∙ v.1))
            (λ x v. unsigned_hex most i (48 ∷ 120 ∷ x) (hex_second 120 x) ∙ v) r.stops);
      }

  -- where more of s than was passed stands in front, no `0x` does
  plain_front : (s : List ℕ) (k p : ℕ) → starts_hex s ≡ false → Stops (Reads (digits_from 10 most i)) (Refuses (digits_from 10 most i) p) s k
      → (q : ℕ) → k < q → q ≤ length s → (t : List ℕ) → starts_hex (take q s ++ t) ≡ false
  unfolding starts_hex Reads Refuses
  plain_front s k p h r zero l m t = absurd (omega arith)
  plain_front [] k p h r (suc q) l m t = absurd (omega arith)
  plain_front (c ∷ []) k p h r (suc (suc q)) l m t = absurd (omega arith)
  plain_front (c ∷ d ∷ s) k p h r (suc (suc q)) l m t = h
  plain_front (c ∷ s) k p h r (suc zero) l m t = hex_not_0 c t no_nought
    where
      no_nought : c ≡ 48 → ⊥
      no_nought z =
          let e : digits_from 10 most i (48 ∷ []) ≡ Err p = rw z at (r.stays 1 l m []) in
          let y : ◌≡◌ {A = ℕ} 0 1 = cc (nought 10 most i (omega arith)) in
          omega arith

  decimal_stops : (s : List ℕ) (p : ℕ) → starts_hex s ≡ false → digits_from 10 most i s ≡ Err p → StopsAt (unsigned_from most i) i s p
  unfolding Reads Refuses
  decimal_stops s p h e =
      let r = digits_stops 10 most i (omega arith) s p e in
      let f = r.stops in
      record {
        passed = r.passed;
        place = r.place;
        stops =
            record {
              inside = f.inside;
              rest = f.rest;
              begins = (f.begins.0, unsigned_decimal most i _ (decimal_plain most i _ f.begins.0 f.begins.1) ∙ f.begins.1);
              stays = λ q l m t. unsigned_decimal most i _ (plain_front s r.passed p h f q l m t) ∙ f.stays q l m t;
            };
      }

  unsigned_stops : (s : List ℕ) (p : ℕ) → unsigned_from most i s ≡ Err p → StopsAt (unsigned_from most i) i s p
  unfolding text
  unsigned_stops s p e = go (starts_hex s) refl
    where
      go : (t : Bool) → starts_hex s ≡ t → StopsAt (unsigned_from most i) i s p
      go true h = rw (hex_front s h) (hex_stops (drop 2 s) p (sym (unsigned_hex most i s h) ∙ e))
      go false h = decimal_stops s p h (sym (unsigned_decimal most i s h) ∙ e)

-- ---- numbers
abbrev NumberReads : List ℕ → Type 0
NumberReads s = (v : ℤ) × (read_number s ≡ Ok (record { 0 = v }))

abbrev NumberRefuses : ℕ → List ℕ → Type 0
NumberRefuses p s = read_number s ≡ Err p

above_refused : (m : UnsignedRead) (p : ℕ) → above m ≡ Err p → m ≡ Err p
above_refused (Ok n) p e = let z : ◌≡◌ {A = ℕ} 0 1 = cc in absurd (omega arith)
above_refused (Err q) p e = let z : q ≡ p = cc in rw z

below_refused : (m : UnsignedRead) (p : ℕ) → below m ≡ Err p → m ≡ Err p
below_refused (Ok n) p e = let z : ◌≡◌ {A = ℕ} 0 1 = cc in absurd (omega arith)
below_refused (Err q) p e = let z : q ≡ p = cc in rw z

-- an unsigned number that is read is a number without a sign
bare_read : (x : List ℕ) → Reads (unsigned_from 2147483647 0) x → NumberReads x
unfolding Reads
bare_read x v = let u = unsigned_is 2147483647 0 x v.0 v.1 in (pos v.0, number_read (bare u.0 u.1))

number_stops : (w : List ℕ) (p : ℕ) → read_number w ≡ Err p → Stops NumberReads (NumberRefuses p) w p
unfolding read_number Reads Refuses
number_stops [] p e =
    let z : 0 ≡ p = cc in
    rw (← z) (stops_end (48 ∷ []) (bare_read (48 ∷ [])
    (0 * 10 + value_of 48, unsigned_decimal 2147483647 0 (48 ∷ []) (hex_one 48) ∙ nought 10 2147483647 0 (omega arith))))
number_stops (c ∷ s) p e =
    ⊎_elim (λ m. let k = answers.read_minus (c ∷ s) m in
    behind below (λ n. neg_ℤ (pos n)) (λ n. refl) (λ q. refl) 2147483648 (λ x. answers.read_minus (c ∷ x) m)
    (below_refused (unsigned_from 2147483648 1 s) p (sym k ∙ e)))
    (λ m. ⊎_elim (λ q. let k = answers.read_plus (c ∷ s) q in
    behind above (λ n. pos n) (λ n. refl) (λ q. refl) 2147483647 (λ x. answers.read_plus (c ∷ x) q)
    (above_refused (unsigned_from 2147483647 1 s) p (sym k ∙ e)))
    (λ q. let none : (x : List ℕ) → read_number (c ∷ x) ≡ above (unsigned_from 2147483647 0 (c ∷ x)) = λ x. answers.read_bare (c ∷ x)
    (λ (z : length (c ∷ x) ≡ 0). omega arith) m q in
    plainly none (unsigned_stops 2147483647 0 (c ∷ s) p (above_refused (unsigned_from 2147483647 0 (c ∷ s)) p (sym (none s) ∙ e))))
    (eq_or_ne c 43))
    (eq_or_ne c 45)
  where
    -- behind a sign
    behind : (sign : UnsignedRead → NumberRead) (signed : ℕ → ℤ) → ((n : ℕ) → sign (Ok n) ≡ Ok (record { 0 = signed n }))
        → ((q : ℕ) → sign (Err q) ≡ Err q)
        → (most : ℕ) → ((x : List ℕ) → read_number (c ∷ x) ≡ sign (unsigned_from most 1 x)) → unsigned_from most 1 s ≡ Err p
        → Stops NumberReads (NumberRefuses p) (c ∷ s) p
    behind sign signed value-is refused most reads r =
        let u = unsigned_stops most 1 s p r in
        let z : suc u.passed ≡ p = omega (arith, u.place) in
        subst (λ (k : ℕ). Stops NumberReads (NumberRefuses p) (c ∷ s) k) z
        (stops_behind c (λ x v. (signed v.0, reads x ∙ ap sign v.1 ∙ value-is v.0)) (λ x v. reads x ∙ ap sign v ∙ refused p)
        u.stops)

    -- without a sign
    plainly : ((x : List ℕ) → read_number (c ∷ x) ≡ above (unsigned_from 2147483647 0 (c ∷ x)))
        → StopsAt (unsigned_from 2147483647 0) 0 (c ∷ s) p → Stops NumberReads (NumberRefuses p) (c ∷ s) p
    plainly none u =
        let z : u.passed ≡ p = omega (arith, u.place) in
        let f = u.stops in
        subst (λ (k : ℕ). Stops NumberReads (NumberRefuses p) (c ∷ s) k) z
        (record { inside = f.inside; rest = f.rest; begins = bare_read _ f.begins; stays = stays f })
      where
        stays : {k : ℕ} → Stops (Reads (unsigned_from 2147483647 0)) (Refuses (unsigned_from 2147483647 0) p) (c ∷ s) k
            → (q : ℕ) → k < q → q ≤ length (c ∷ s) → (t : List ℕ) → read_number (take q (c ∷ s) ++ t) ≡ Err p
        stays f zero h l t = absurd (omega arith)
        stays f (suc q) h l t = none (take q s ++ t) ∙ ap above (f.stays (suc q) h l t)

-- ---- what the place means

number_never : (w : List ℕ) (p : ℕ) → read_number w ≡ Err p → ANumber w → ⊥
number_never w p e n = let z : ◌≡◌ {A = ℕ} 0 1 = cc (number_read n.1) in omega arith

number_place : (w : List ℕ) (p : ℕ) → read_number w ≡ Err p → LongestFront ANumber w p
number_place w p e = stops_longest (λ x v. (v.0, number_of x v.0 v.1)) (λ x r. number_never x p r) (number_stops w p e)

number_either : (w : List ℕ) → ANumber w ⊎ ((p : ℕ) × (read_number w ≡ Err p))
number_either w = go (read_number w) refl
  where
    go : (r : NumberRead) → read_number w ≡ r → ANumber w ⊎ ((p : ℕ) × (read_number w ≡ Err p))
    go (Ok v) e = inl (v.0, number_of w v.0 e)
    go (Err p) e = inr (p, e)

-- The reader refuses a word at place p exactly where the word is no number's, and p is the length of its longest front that begins one.
pub number_refused : (w : List ℕ) (p : ℕ) → (read_number w ≡ Err p) ↔ ((ANumber w → ⊥) × LongestFront ANumber w p)
number_refused = refused_iff read_number Err ANumber number_never number_place number_either

address_never : (w : List ℕ) (p : ℕ) → read_address w ≡ Err p → AnAddress w → ⊥
address_never w p e n = let z : ◌≡◌ {A = ℕ} 0 1 = cc (address_read n.1) in omega arith

address_place_lem : (w : List ℕ) (p : ℕ) → read_address w ≡ Err p → LongestFront AnAddress w p
unfolding read_address Reads Refuses
address_place_lem w p e =
    let u = unsigned_stops 99 0 w p e in
    let z : u.passed ≡ p = omega (arith, u.place) in
    subst (λ (k : ℕ). LongestFront AnAddress w k) z
    (stops_longest (λ x v. (v.0, address_of_lem x v.0 v.1)) (λ x r. address_never x p r) u.stops)

address_either : (w : List ℕ) → AnAddress w ⊎ ((p : ℕ) × (read_address w ≡ Err p))
address_either w = go (read_address w) refl
  where
    go : (r : UnsignedRead) → read_address w ≡ r → AnAddress w ⊎ ((p : ℕ) × (read_address w ≡ Err p))
    go (Ok n) e = inl (n, address_of_lem w n e)
    go (Err p) e = inr (p, e)

-- The same for an address.
pub address_refused_lem : (w : List ℕ) (p : ℕ) → (read_address w ≡ Err p) ↔ ((AnAddress w → ⊥) × LongestFront AnAddress w p)
address_refused_lem = refused_iff read_address Err AnAddress address_never address_place_lem address_either
