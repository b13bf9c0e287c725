-- The laws of writes: two writes are one, whatever the room; where there is room, the text stands there and can be read back.
-- Assumes nothing.
use mathlib.Core.Path.{◌≡◌, refl, sym, ap, ◌∙◌}
use mathlib.Core.Logic.{⊎_elim}
use mathlib.Core.List.{List, [], ◌∷◌, ◌++◌, append-nil, append_assoc}
use Prim.Native.Nat.{ℕ, suc, ◌+◌, ◌-◌, ◌≤◌, ◌<◌, min, max}
use native.Mathlib.Nat.{suc-add, add-suc, add-zero}
use native.Mathlib.Numerals.{add-one}
use native.Mathlib.Omega.{arith}
use lib.ListN.{length, get_or, set, take, drop, length-append, length-take, length-drop, length-set, take-append-drop, drop_of_length-le}
use lib.Seq.{take-suc, take_at, take_all, drop-drop, take-suc-set, drop-set-lt, sets, length-sets, set_out}
use Rattle.laws.proofs.Answers.{one_answer}
use Rattle.laws.proofs.Lists.{rest}
use Rattle.laws.proofs.Order.{lt_or_le}
use Rattle.buffer.specs.Wrote.{Wrote, fitting}

-- ---- a text stored byte by byte: the library's `sets`
-- nothing is stored past the end
sets_out : (t b : List ℕ) (at : ℕ) → length b ≤ at → sets b at t ≡ b
sets_out [] b at h = refl
sets_out (x ∷ t) b at h = rw (set_out b at x h) (sets_out t b (suc at) (omega arith))

sets_append : (s t b : List ℕ) (at : ℕ) → sets b at (s ++ t) ≡ sets (sets b at s) (at + length s) t
sets_append [] t b at = rw add-zero
sets_append (x ∷ s) t b at = rw (add-suc, ← suc-add) (sets_append s t (set b at x) (suc at))

-- the place after n bytes from `at` on in a buffer of len bytes
abbrev after : ℕ → ℕ → ℕ → ℕ
after len at n = min (at + n) (max at len)

sets_next : (s t b : List ℕ) (at : ℕ) → sets (sets b at s) (after (length b) at (length s)) t ≡ sets b at (s ++ t)
sets_next s t b at =
    ⊎_elim
    (λ (h : max at (length b) < at + length s).
    let end : length (sets b at s) ≤ after (length b) at (length s) = rw length-sets (omega arith) in
    let out : length (sets b at s) ≤ at + length s = rw length-sets (omega arith) in
    sets_out t (sets b at s) _ end ∙ sym (sets_append s t b at ∙ sets_out t (sets b at s) _ out))
    (λ h. let e : after (length b) at (length s) ≡ at + length s = omega arith in rw (e, sets_append))
    (lt_or_le (max at (length b)) (at + length s))

-- ---- what is stored so is what `Wrote` says
abbrev laid : List ℕ → ℕ → List ℕ → List ℕ
laid b at t = take at b ++ fitting b at t ++ drop (at + length t) b

laid_out : (t b : List ℕ) (at : ℕ) → length b ≤ at → laid b at t ≡ b
laid_out t b at h =
    let none : length b - at ≡ 0 = omega arith in
    let past : length b ≤ at + length t = omega arith in
    rw (take_all at b h, none, drop_of_length-le b past) (simp append-nil)

sets_laid : (t b : List ℕ) (at : ℕ) → sets b at t ≡ laid b at t
sets_laid [] b at = let e : fitting b at [] ≡ [] = take_all (length b - at) [] (omega arith) in
    rw (e, add-zero, append-nil) (sym (take-append-drop at b))
sets_laid (x ∷ t) b at =
    ⊎_elim
    (λ (h : at < length b).
    let e : length b - at ≡ suc (length b - suc at) = omega arith in
    let n : at + suc (length t) ≡ suc at + length t = omega arith in
    sets_laid t (set b at x) (suc at)
    ∙ rw (take-suc-set b at x h, length-set, drop-set-lt (suc at + length t) b at x (omega arith), e, n) (simp append_assoc))
    (λ h. sets_out (x ∷ t) b at h ∙ sym (laid_out (x ∷ t) b at h))
    (lt_or_le at (length b))

-- one byte that has a place
pub wrote_byte : (b : List ℕ) (at x : ℕ) → at < length b → Wrote b at (x ∷ []) (set b at x) (at + 1)
wrote_byte b at x h = record { bytes = sets_laid (x ∷ []) b at; place = rw length-take (omega arith) }

-- ---- writes joined
-- a write keeps the buffer's length
pub wrote_length : {b : List ℕ} {at : ℕ} {t c : List ℕ} {r : ℕ} → Wrote b at t c r → length c ≡ length b
wrote_length {b} {at} {t} w = ap length (w.bytes ∙ sym (sets_laid t b at)) ∙ length-sets b at t

-- two writes, the second at the place that the first gave, are one; written between them: `v ▸ w ▸ x`
infixl 60 ◌▸◌
pub ◌▸◌ : {b : List ℕ} {at : ℕ} {s c : List ℕ} {r : ℕ} {t d : List ℕ} {q : ℕ}
    → Wrote b at s c r → Wrote c r t d q → Wrote b at (s ++ t) d q
◌▸◌ {b} {at} {s} {c} {r} {t} v w =
    let stored : c ≡ sets b at s = v.bytes ∙ sym (sets_laid s b at) in
    let place : r ≡ after (length b) at (length s) = v.place ∙ rw length-take (omega arith) in
    record {
      bytes = w.bytes ∙ sym (sets_laid t c r) ∙ rw (stored, place) (sets_next s t b at) ∙ sets_laid (s ++ t) b at;
      place = w.place ∙ simp (length-take, wrote_length v, place, length-append) (omega arith);
    }

-- nothing written
pub wrote_none : (b : List ℕ) (at : ℕ) → Wrote b at [] b at
wrote_none b at = record { bytes = sets_laid [] b at; place = rw length-take (omega arith) }

-- a turn of a loop that stores a text byte by byte where there is room: each byte has its place
pub wrote_next : {b : List ℕ} {at : ℕ} {c : List ℕ} (t : List ℕ) (i : ℕ) → i < length t → at + i < length c
    → Wrote b at (take i t) c (at + i) → Wrote b at (take (i + 1) t) (set c (at + i) (get_or t i 0)) (at + (i + 1))
wrote_next {b} {at} {c} t i h k v =
    let e : at + i + 1 ≡ at + (i + 1) = omega arith in
    let w : Wrote b at (take (i + 1) t) (set c (at + i) (get_or t i 0)) (at + i + 1) =
    rw (add-one, take-suc t i 0 h) (v ▸ wrote_byte c (at + i) (get_or t i 0) k) in
    rw e at w

-- where there is room, the whole text stands there
pub wrote_room : {b : List ℕ} {at : ℕ} {t c : List ℕ} {r : ℕ} → Wrote b at t c r → at + length t ≤ length b
    → (c ≡ take at b ++ t ++ drop (at + length t) b) × (r ≡ at + length t)
wrote_room {b} {at} {t} w h =
    let whole : fitting b at t ≡ t = take_all (length b - at) t (omega arith) in
    (rw whole at w.bytes, rw whole at w.place)

-- and can be read back
pub wrote_read : {b t c : List ℕ} {r : ℕ} → Wrote b 0 t c r → length t ≤ length b → take r c ≡ t
wrote_read {b} {t} {c} {r} w h =
    let k = wrote_room w (omega arith) in
    let e : r ≡ length t = k.1 ∙ omega arith in
    rw (e, k.0) (take_at t (drop (0 + length t) b) (length t) refl)

-- a write into what stands from a place on, as the code lends it, is one into the whole; nothing lies behind what is lent
pub rest_over : (k : ℕ) (b : List ℕ) → drop (length b - k) (drop k b) ≡ []
rest_over k b = let h : length (drop k b) ≤ length b - k = rw length-drop (omega arith) in drop_of_length-le (drop k b) h

pub wrote_rest : {b : List ℕ} {at : ℕ} {t c : List ℕ} {r : ℕ} → Wrote (take (length b - at) (drop at b)) 0 t c r
    → Wrote b at t (take at b ++ (c ++ drop (length b - at) (drop at b))) (at + r)
wrote_rest {b} {at} {t} {c} {r} w =
    let room : length (drop at b) - 0 ≡ length b - at = omega (arith, length-drop at b) in
    let sum : at + (0 + length t) ≡ at + length t = omega arith in
    let behind : drop (0 + length t) (drop at b) ≡ drop (at + length t) b = drop-drop (0 + length t) at b ∙ rw sum in
    let v : Wrote (drop at b) 0 t c r = rw (rest at b) at w in
    record {
      bytes = ap (λ (l : List ℕ). take at b ++ l) (rw (rest_over at b) (append-nil c) ∙ v.bytes ∙ rw (room, behind))
          ∙ sym (append_assoc (take at b) (fitting b at t) _);
      place = ap (λ n. at + n) v.place ∙ rw room (omega arith);
    }

-- the promise leaves no choice
pub wrote_one : {b : List ℕ} {at : ℕ} {t c d : List ℕ} {r q : ℕ} → Wrote b at t c r → Wrote b at t d q → (c ≡ d) × (r ≡ q)
wrote_one v w = (one_answer v.bytes w.bytes, one_answer v.place w.place)

-- the place behind a write from the front stands in the buffer
pub wrote_inside : {b t c : List ℕ} {r : ℕ} → Wrote b 0 t c r → r ≤ length c
wrote_inside {b} {t} {c} {r} w =
    let fits : r ≡ 0 + min (length b - 0) (length t) = w.place ∙ ap (λ n. 0 + n) (length-take (length b - 0) t) in
    omega (arith, wrote_length w)
