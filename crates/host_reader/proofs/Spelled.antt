-- The parts of a message as Spelling has them, and as they are read: each way, part by part.
-- Assumes nothing.
use mathlib.Core.Path.{◌≡◌, refl, sym, ap, subst, ◌∙◌}
use mathlib.Core.Logic.{⊎_elim}
use mathlib.Core.Bool.{Bool, true, false, not, ◌&&◌, ◌||◌}
use mathlib.Core.List.{List, [], ◌∷◌, ◌++◌}
use Prim.Native.Nat.{ℕ, zero, suc, ◌≤◌, ◌<◌}
use native.Mathlib.Omega.{arith}
use lib.Dec.{eqb, ltb, leb}
use lib.ListN.{length, get_or, take, drop}
use borrow.Author.Tests.{eq-eqb, ne_eqb, eqb-false, le-leb, leb-true, ltb-true, not-true}
use Rattle.std.specs.Prelude.{Some}
use Rattle.laws.specs.Lists.{fold, all, span}
use Rattle.laws.specs.Text.{text, same}
use Rattle.laws.proofs.Order.{eq_or_ne}
use Rattle.laws.proofs.Bools.{and_left, and_right, clash}
use Rattle.laws.proofs.Each.{Each}
use Rattle.laws.proofs.Same.{same_true}
use Rattle.laws.proofs.Spaced.{trail}
use Rattle.laws.proofs.Span.{span_yes, span_not, span_none}
use Rattle.numbers.specs.Checksum.{checksum}
use Rattle.numbers.specs.Reading.{read_pair, says_sum}
use Rattle.numbers.specs.Spelling.{HexPair, pair}
use Rattle.numbers.proofs.Numbers.{pair_read, says_pair}
use Rattle.words.specs.Find.{index}
use Rattle.words.specs.Spelling.{WordByte}
use Rattle.words.proofs.Index.{index_is}
use Rattle.flags.specs.Flags.{warning_names}
use Rattle.host_reader.specs.Spelling.{Verdict, accepted, rejected, Status, idle, busy, Warning, fd, fq, fs, ft, fb, fp, fe, wr, Bytes, gap, byte, Data, begun, End, bare, summed}
use Rattle.host_reader.specs.Reading.{stands, verdicts, statuses, warnings, second, data_byte, right_end}
use Rattle.host_reader.proofs.Options.{then_is}

-- ---- the words of the three lists
pub data Two : List ℕ → Type 0 where
  two : {a b : ℕ} → Two (a ∷ b ∷ [])

pub data Four : List ℕ → Type 0 where
  four : {a b c d : ℕ} → Four (a ∷ b ∷ c ∷ d ∷ [])

-- a word of a list is known by its place
module _ (ws : List (List ℕ)) (w : List ℕ) where
  pub at_place : index w ws < length ws → w ≡ get_or ws (index w ws) []
  at_place h = sym (index_is w ws h)

verdict_at : (k : ℕ) → k < 2 → {v : List ℕ} → v ≡ get_or verdicts k [] → Verdict v (eqb k 1)
unfolding verdicts
verdict_at zero h e = rw e rejected
verdict_at (suc zero) h e = rw e accepted
verdict_at (suc (suc k)) h e = absurd (omega arith)

pub verdict_of : (v : List ℕ) {t : Bool} → second (index v verdicts) ≡ Some t → Verdict v t
unfolding verdicts
verdict_of v e =
    let h = then_is (ltb (index v verdicts) 2) e in
    let below = ltb-true (index v verdicts) 2 h.0 in
    subst (Verdict v) h.1 (verdict_at (index v verdicts) below (at_place verdicts v below))

status_at : (k : ℕ) → k < 2 → {v : List ℕ} → v ≡ get_or statuses k [] → Status v (eqb k 1)
unfolding statuses
status_at zero h e = rw e idle
status_at (suc zero) h e = rw e busy
status_at (suc (suc k)) h e = absurd (omega arith)

pub status_of : (v : List ℕ) {t : Bool} → second (index v statuses) ≡ Some t → Status v t
unfolding statuses
status_of v e =
    let h = then_is (ltb (index v statuses) 2) e in
    let below = ltb-true (index v statuses) 2 h.0 in
    subst (Status v) h.1 (status_at (index v statuses) below (at_place statuses v below))

warning_at_lem : (k : ℕ) → k < 9 → {w : List ℕ} → w ≡ get_or warnings k [] → Warning w k
unfolding warnings warning_names
warning_at_lem zero h e = rw e Warning.none
warning_at_lem (suc zero) h e = rw e fd
warning_at_lem (suc (suc zero)) h e = rw e fq
warning_at_lem (suc (suc (suc zero))) h e = rw e fs
warning_at_lem (suc (suc (suc (suc zero)))) h e = rw e ft
warning_at_lem (suc (suc (suc (suc (suc zero))))) h e = rw e fb
warning_at_lem (suc (suc (suc (suc (suc (suc zero)))))) h e = rw e fp
warning_at_lem (suc (suc (suc (suc (suc (suc (suc zero))))))) h e = rw e fe
warning_at_lem (suc (suc (suc (suc (suc (suc (suc (suc zero)))))))) h e = rw e wr
warning_at_lem (suc (suc (suc (suc (suc (suc (suc (suc (suc k))))))))) h e = absurd (omega arith)

pub warning_of : (w : List ℕ) → index w warnings < 9 → Warning w (index w warnings)
unfolding warnings warning_names
warning_of w h = warning_at_lem (index w warnings) h (at_place warnings w h)

-- what a reading of such a word finds
pub record Known (w : List ℕ) (k : ℕ) (ws : List (List ℕ)) (n : ℕ) : Type 0 where
  pub place : index w ws ≡ k
  pub below : k < n

pub verdict_read : {v : List ℕ} {ok : Bool} → Verdict v ok → second (index v verdicts) ≡ Some ok
unfolding verdicts index text same
verdict_read accepted = refl
verdict_read rejected = refl

pub status_read : {v : List ℕ} {t : Bool} → Status v t → second (index v statuses) ≡ Some t
unfolding statuses index text same
status_read idle = refl
status_read busy = refl

pub warning_read : {w : List ℕ} {k : ℕ} → Warning w k → Known w k warnings 9
unfolding warnings warning_names index text same
warning_read Warning.none = record { place = refl; below = omega arith }
warning_read fd = record { place = refl; below = omega arith }
warning_read fq = record { place = refl; below = omega arith }
warning_read fs = record { place = refl; below = omega arith }
warning_read ft = record { place = refl; below = omega arith }
warning_read fb = record { place = refl; below = omega arith }
warning_read fp = record { place = refl; below = omega arith }
warning_read fe = record { place = refl; below = omega arith }
warning_read wr = record { place = refl; below = omega arith }

pub verdict_two : {v : List ℕ} {ok : Bool} → Verdict v ok → Two v
unfolding text
verdict_two accepted = two
verdict_two rejected = two

pub status_four : {v : List ℕ} {t : Bool} → Status v t → Four v
unfolding text
status_four idle = four
status_four busy = four

pub warning_two : {w : List ℕ} {k : ℕ} → Warning w k → Two w
unfolding text
warning_two Warning.none = two
warning_two fd = two
warning_two fq = two
warning_two fs = two
warning_two ft = two
warning_two fb = two
warning_two fp = two
warning_two fe = two
warning_two wr = two

-- ---- texts
space_is_data : data_byte 32 ≡ true
space_is_data = refl

word_is_data : {c : ℕ} → WordByte c → data_byte c ≡ true
word_is_data {c} h = simp (le-leb 32 c (omega (arith, h.low)), le-leb c 126 h.high, ne_eqb c 58 h.no_colon)

pub data_is_word : (c : ℕ) → data_byte c ≡ true → (c ≡ 32 → ⊥) → WordByte c
data_is_word c t h =
    let both = and_left (leb 32 c && leb c 126) (not (eqb c 58)) t in
    let low = leb-true 32 c (and_left (leb 32 c) (leb c 126) both) in
    let high = leb-true c 126 (and_right (leb 32 c) (leb c 126) both) in
    record {
      low = lower low h;
      high = high;
      no_colon = eqb-false c 58 (not-true (eqb c 58) (and_right (leb 32 c && leb c 126) (not (eqb c 58)) t));
    }
  where
    lower : 32 ≤ c → (c ≡ 32 → ⊥) → 33 ≤ c
    lower l k = omega arith

pub bytes_span : {d : List ℕ} (e : List ℕ) → Bytes d → span data_byte e ≡ 0 → span data_byte (d ++ e) ≡ length d
bytes_span e Bytes.none h = h
bytes_span e (gap {s} b) h = span_yes data_byte 32 (s ++ e) space_is_data ∙ ap suc (bytes_span e b h)
bytes_span e (byte {c} {s} w b) h = span_yes data_byte c (s ++ e) (word_is_data w) ∙ ap suc (bytes_span e b h)

-- what the test of a byte says of a whole text
all_bytes : (s : List ℕ) → all data_byte s ≡ true → Bytes s
unfolding fold
all_bytes [] t = Bytes.none
all_bytes (c ∷ s) t =
    let h = and_left (data_byte c) (all data_byte s) t in
    let b = all_bytes s (and_right (data_byte c) (all data_byte s) t) in
    ⊎_elim (λ e. rw e (gap b)) (λ k. byte (data_is_word c h k) b) (eq_or_ne c 32)

pub verdict_bytes : {v : List ℕ} {ok : Bool} → Verdict v ok → Bytes v
unfolding text fold
verdict_bytes {v} accepted = all_bytes v refl
verdict_bytes {v} rejected = all_bytes v refl

pub status_bytes : {v : List ℕ} {t : Bool} → Status v t → Bytes v
unfolding text fold
status_bytes {v} idle = all_bytes v refl
status_bytes {v} busy = all_bytes v refl

pub warning_bytes : {w : List ℕ} {k : ℕ} → Warning w k → Bytes w
unfolding text fold
warning_bytes {w} Warning.none = all_bytes w refl
warning_bytes {w} fd = all_bytes w refl
warning_bytes {w} fq = all_bytes w refl
warning_bytes {w} fs = all_bytes w refl
warning_bytes {w} ft = all_bytes w refl
warning_bytes {w} fb = all_bytes w refl
warning_bytes {w} fp = all_bytes w refl
warning_bytes {w} fe = all_bytes w refl
warning_bytes {w} wr = all_bytes w refl

pub data_bytes : {d : List ℕ} → Data d → Bytes d
data_bytes (begun w b) = byte w b

bytes_then : {s t : List ℕ} → Bytes s → Bytes t → Bytes (s ++ t)
bytes_then Bytes.none k = k
bytes_then (gap b) k = gap (bytes_then b k)
bytes_then (byte w b) k = byte w (bytes_then b k)

-- words of such bytes, each behind a space
pub trail_bytes : {ws : List (List ℕ)} → Each Bytes ws → Bytes (trail ws)
unfolding trail
trail_bytes Each.none = Bytes.none
trail_bytes (Each.more b bs) = gap (bytes_then b (trail_bytes bs))

pub bytes_of : (r : List ℕ) → Bytes (take (span data_byte r) r)
bytes_of [] = rw (span_none data_byte) Bytes.none
bytes_of (c ∷ r) = go (data_byte c) refl (bytes_of r)
  where
    go : (t : Bool) → data_byte c ≡ t → Bytes (take (span data_byte r) r) → Bytes (take (span data_byte (c ∷ r)) (c ∷ r))
    go true h b =
        rw (span_yes data_byte c r h)
        (⊎_elim (λ e. rw e (gap b)) (λ k. byte (data_is_word c h k) b) (eq_or_ne c 32))
    go false h b = rw (span_not data_byte c r h) Bytes.none

pub data_of : (r : List ℕ) → 0 < span data_byte r → (get_or r 0 0 ≡ 32 → ⊥) → Data (take (span data_byte r) r)
data_of [] h k = absurd (omega (arith, span_none data_byte))
data_of (c ∷ r) h k = go (data_byte c) refl
  where
    go : (t : Bool) → data_byte c ≡ t → Data (take (span data_byte (c ∷ r)) (c ∷ r))
    go true y = rw (span_yes data_byte c r y) (begun (data_is_word c y k) (bytes_of r))
    go false y = absurd (omega (arith, span_not data_byte c r y))

-- ---- the end
pub end_some : {s e : List ℕ} → End s e → 0 < length e
unfolding text
end_some bare = omega arith
end_some (summed h) = omega arith

pub end_span : {s e : List ℕ} → End s e → span data_byte e ≡ 0
unfolding text span
end_span bare = refl
end_span (summed h) = refl

sum_read : {p : List ℕ} {n : ℕ} → HexPair p n → (s : List ℕ) → n ≡ checksum s → right_end s (text ":" ++ p ++ text "\r\n") ≡ true
unfolding text same
sum_read (pair {h} {l} x y) s e = rw (pair_read (pair x y), eq-eqb _ _ e)

pub end_read : {s e : List ℕ} → End s e → right_end s e ≡ true
unfolding text same
end_read bare = refl
end_read {s} (summed h) = sum_read h s refl

summed_of : (s e : List ℕ) → (stands e 0 (text ":") && same (drop 3 e) (text "\r\n") && says_sum s (read_pair (get_or e 1 0) (get_or e 2 0)))
    ≡ true → End s e
unfolding text same
summed_of s [] t = clash t refl
summed_of s (a ∷ []) t = clash (and_right (same (a ∷ []) (text ":")) false (and_left _ _ t)) refl
summed_of s (a ∷ b ∷ []) t = clash (and_right (same (a ∷ []) (text ":")) false (and_left _ _ t)) refl
summed_of s (a ∷ b ∷ c ∷ r) t =
    let both = and_left (same (a ∷ []) (text ":") && same r (text "\r\n")) (says_sum s (read_pair b c)) t in
    let colon = same_true (a ∷ []) (text ":") (and_left (same (a ∷ []) (text ":")) (same r (text "\r\n")) both) in
    let footer = same_true r (text "\r\n") (and_right (same (a ∷ []) (text ":")) (same r (text "\r\n")) both) in
    let sum = says_pair s b c (and_right (same (a ∷ []) (text ":") && same r (text "\r\n")) (says_sum s (read_pair b c)) t) in
    put (ap (λ (l : List ℕ). get_or l 0 0) colon) footer sum
  where
    put : a ≡ 58 → r ≡ text "\r\n" → HexPair (b ∷ c ∷ []) (checksum s) → End s (a ∷ b ∷ c ∷ r)
    put p q h = rw (p, q) (summed h)

pub end_of : (s e : List ℕ) → right_end s e ≡ true → End s e
end_of s e t = go (same e (text "\r\n")) refl t
  where
    go : (b : Bool) → same e (text "\r\n") ≡ b → (b ||
        (stands e 0 (text ":") && same (drop 3 e) (text "\r\n") && says_sum s (read_pair (get_or e 1 0) (get_or e 2 0)))) ≡ true → End s e
    go true h t = rw (same_true e (text "\r\n") h) bare
    go false h t = summed_of s e t
