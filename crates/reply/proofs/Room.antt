-- A reply has 22 bytes besides its data with a checksum and 19 without, so with data of at most 74 or 77 bytes it never exceeds
-- 96, and nothing of it is cut. An alert has 18 or 15, and an info line 11 or 8 besides its text.
-- Assumes nothing.
use mathlib.Core.Path.{◌≡◌, refl, sym, ap, ◌∙◌}
use mathlib.Core.Bool.{Bool, true, false, cond}
use mathlib.Core.List.{List, [], ◌∷◌, ◌++◌, append_assoc}
use Prim.Native.Nat.{ℕ, zero, suc, ◌+◌, ◌≤◌, ◌<◌}
use native.Mathlib.Omega.{arith}
use lib.ListN.{length, take, drop, length-append}
use Rattle.laws.specs.Text.{text, spaced}
use Rattle.laws.proofs.Spaced.{trail}
use Rattle.numbers.specs.Checksum.{sum_text}
use Rattle.numbers.specs.Decimal.{last_digit, digits, two_digits, hex_pair}
use Rattle.numbers.proofs.Decimal.{digits_one}
use Rattle.buffer.specs.Wrote.{Wrote}
use Rattle.buffer.proofs.Wrote.{◌▸◌, wrote_read}
use Rattle.flags.specs.Flags.{bits, first, warning_names}
use Rattle.reply.specs.Pieces.{warning_at}
use Rattle.reply.specs.Reply.{longest_reply, verdict, status, highest, ending, body_of, message, body, reply, alert_body, alert, text_words, info_body, info}
use Rattle.reply.specs.declared.Head.{Head}
use Rattle.reply.proofs.Texts.{highest_is, body_front, body_is}

verdict_length : (b : Bool) → length (verdict b) ≡ 2
unfolding verdict text
verdict_length true = refl
verdict_length false = refl

status_length : (b : Bool) → length (status b) ≡ 4
unfolding status text
status_length true = refl
status_length false = refl

warning_length : (k : ℕ) → length (warning_at k) ≡ 2
unfolding warning_at warning_names text
warning_length zero = refl
warning_length (suc zero) = refl
warning_length (suc (suc zero)) = refl
warning_length (suc (suc (suc zero))) = refl
warning_length (suc (suc (suc (suc zero)))) = refl
warning_length (suc (suc (suc (suc (suc zero))))) = refl
warning_length (suc (suc (suc (suc (suc (suc zero)))))) = refl
warning_length (suc (suc (suc (suc (suc (suc (suc zero))))))) = refl
warning_length (suc (suc (suc (suc (suc (suc (suc (suc k)))))))) = refl

highest_length : (m : ℕ) → length (highest m) ≡ 2
highest_length m = rw (← highest_is m) (warning_length (first (bits 8 m)))

-- the most bytes of data that fit, with a checksum and without
abbrev pub most_data_lem : Bool → ℕ
most_data_lem sum = cond sum 74 77

pub most_data : (sum : Bool) → 74 ≤ most_data_lem sum
most_data true = omega arith
most_data false = omega arith

-- the most bytes of an info line's text
abbrev pub most_text_lem : Bool → ℕ
most_text_lem sum = cond sum 85 88

pub most_text : (sum : Bool) → most_text_lem sum ≡ most_data_lem sum + 11
most_text true = refl
most_text false = refl

pub ending_length : (sum : Bool) (s : List ℕ) → most_data_lem sum + length (ending sum s) ≡ 79
unfolding ending sum_text hex_pair text
ending_length true s = refl
ending_length false s = refl

-- an axis is one digit
one_digit : (axis : ℕ) → axis < 10 → length (digits axis) ≡ 1
unfolding last_digit
one_digit axis h = rw (digits_one axis h)

-- two digits, a space and a digit stand before what a kind of message has
front_four : (address axis : ℕ) → axis < 10 → length (body_of address axis []) ≡ 4
unfolding two_digits spaced
front_four address axis h = simp length-append (omega (arith, one_digit axis h))

front_length : (address axis : ℕ) (ws : List (List ℕ)) → axis < 10 → length (body_of address axis ws) ≡ 4 + length (trail ws)
front_length address axis ws h =
    ap length (sym (body_front address axis ws)) ∙ length-append (body_of address axis []) (trail ws)
    ∙ ap (λ n. n + length (trail ws)) (front_four address axis h)

-- A message that fits into 96 bytes is written from its mark and body, and its end: what is summed is "after the `@`".
module _ (mark : ℕ) (s : List ℕ) (sum : Bool) (short : length (message (mark ∷ []) s sum) ≤ longest_reply) where
  pub message_wrote : {b c d : List ℕ} {p q : ℕ} → longest_reply ≤ length b → Wrote b 0 (mark ∷ s) c p
      → Wrote c p (ending sum (drop 1 (take p c))) d q → Wrote b 0 (message (mark ∷ []) s sum) d q
  message_wrote {b} room v w =
      let small : length (mark ∷ s) ≤ length b = omega (arith, length-append (mark ∷ s) (ending sum s)) in
      v ▸ (rw (wrote_read v small) at w)

-- ---- a reply
module _ (h : Head) (axis : h.axis < 10) where
  pub head_length : length (text "@" ++ body h (text "")) ≡ 17
  unfolding body text trail
  head_length =
      let ws = verdict h.ok ∷ status h.busy ∷ highest h.warnings ∷ [] ∷ [] in
      simp (front_length h.address h.axis ws axis, length-append, verdict_length, status_length, highest_length)

  pub reply_length : (sum : Bool) (words : List ℕ) → length words ≤ most_data_lem sum → length (reply h sum words) ≤ 96
  unfolding reply
  reply_length sum words k =
      rw (← body_is h words, ← append_assoc (text "@") (body h (text "")) words, length-append, length-append)
      (omega (arith, head_length, ending_length sum (body h (text "") ++ words)))

  pub reply_wrote : (sum : Bool) (words : List ℕ) → length words ≤ 74 → {b c d e : List ℕ} {p q r : ℕ} → 96 ≤ length b
      → Wrote b 0 (text "@" ++ body h (text "")) c p → Wrote c p words d q → Wrote d q (ending sum (drop 1 (take q d))) e r
      → Wrote b 0 (reply h sum words) e r
  unfolding reply text
  reply_wrote sum words k {b} {c} {d} {e} {p} {q} {r} room u v w =
      let short = reply_length sum words (omega (arith, most_data sum)) in
      let front : Wrote b 0 (64 ∷ body h words) d q = rw (← body_is h words) (u ▸ v) in
      message_wrote 64 (body h words) sum short room front w

-- ---- an alert
module _ (h : Head) (axis : h.axis < 10) where
  pub alert_length : (sum : Bool) → length (alert h sum) ≤ 18
  unfolding alert alert_body text trail
  alert_length sum =
      let ws = status h.busy ∷ highest h.warnings ∷ [] in
      simp (length-append, front_length h.address h.axis ws axis, status_length, highest_length)
      (omega (arith, ending_length sum (body_of h.address h.axis ws), most_data sum))

  pub alert_wrote : (sum : Bool) {b c d : List ℕ} {p q : ℕ} → 96 ≤ length b → Wrote b 0 (text "!" ++ alert_body h) c p
      → Wrote c p (ending sum (drop 1 (take p c))) d q → Wrote b 0 (alert h sum) d q
  unfolding alert text
  alert_wrote sum room v w = message_wrote 33 (alert_body h) sum (omega (arith, alert_length sum)) room v w

-- ---- an info line
module _ (address axis : ℕ) (one : axis < 10) (sum : Bool) (t : List ℕ) where
  words_length : (t : List ℕ) → length (trail (text_words t)) ≤ 1 + length t
  unfolding trail
  words_length [] = omega arith
  words_length (c ∷ t) = simp length-append (omega arith)

  pub info_length : length t ≤ most_text_lem sum → length (info address axis sum t) ≤ 96
  unfolding info info_body text
  info_length h =
      simp (length-append, front_length address axis (text_words t) one)
      (omega (arith, ending_length sum (body_of address axis (text_words t)), words_length t, most_text sum))

  pub info_wrote : length t ≤ most_text_lem sum → {b c d : List ℕ} {p q : ℕ} → 96 ≤ length b
      → Wrote b 0 (text "#" ++ info_body address axis t) c p
      → Wrote c p (ending sum (drop 1 (take p c))) d q → Wrote b 0 (info address axis sum t) d q
  unfolding info text
  info_wrote h room v w = message_wrote 35 (info_body address axis t) sum (info_length h) room v w
