-- A message's text as its writers have it: piece behind piece.
-- Assumes nothing.
use mathlib.Core.Path.{◌≡◌, refl, sym, ap, ◌∙◌}
use mathlib.Core.Logic.{⊎_elim}
use mathlib.Core.Bool.{Bool, true, false, cond}
use mathlib.Core.List.{List, [], ◌∷◌, ◌++◌, append-nil, append_assoc}
use Prim.Native.Nat.{ℕ, zero, suc, ◌-◌, ◌≤◌, ◌<◌, min}
use native.Mathlib.Omega.{arith}
use lib.ListN.{length, take, drop}
use lib.Seq.{take_all, take-nil}
use mir.Val.{bool_byte}
use Rattle.laws.specs.Text.{space, text, spaced}
use Rattle.laws.proofs.Order.{lt_or_le}
use Rattle.laws.proofs.Spaced.{trail, spaced_trail, trail_append}
use Rattle.numbers.specs.Checksum.{checksum, sum_text}
use Rattle.numbers.specs.Decimal.{digits, two_digits, hex_pair}
use Rattle.flags.specs.Flags.{bits, first}
use Rattle.flags.proofs.Names.{warnings_highest}
use Rattle.reply.specs.Data.{warnings_in}
use Rattle.reply.specs.Pieces.{warning_at}
use Rattle.reply.specs.Reply.{verdict, status, highest, body_of, body, alert_body, text_words, info_body}
use Rattle.reply.specs.declared.Head.{Head}

-- the highest warning stands at the place of the first flag
pub highest_is : (m : ℕ) → warning_at (first (bits 8 m)) ≡ highest m
unfolding highest warnings_in warning_at
highest_is m = sym (warnings_highest m (text "--"))

-- a word behind a space, and status with a space on either side
pub verdict_is : (ok : Bool) → cond ok (text " OK") (text " RJ") ≡ trail (verdict ok ∷ [])
unfolding verdict text trail
verdict_is true = refl
verdict_is false = refl

status_is : (busy : Bool) → cond busy (text " BUSY ") (text " IDLE ") ≡ (space ∷ status busy) ++ (space ∷ [])
unfolding status text
status_is true = refl
status_is false = refl

pub state_is : (busy : Bool) (m : ℕ) → cond busy (text " BUSY ") (text " IDLE ") ++ highest m ≡ trail (status busy ∷ highest m ∷ [])
unfolding trail
state_is busy m = rw (status_is busy) (simp (append_assoc, append-nil))

-- the words that a kind of message has behind the axis: each behind a space
pub body_front : (address axis : ℕ) (ws : List (List ℕ)) → body_of address axis [] ++ trail ws ≡ body_of address axis ws
body_front address axis ws =
    rw (spaced_trail (two_digits address) (digits axis ∷ []), spaced_trail (two_digits address) (digits axis ∷ ws))
    (append_assoc (two_digits address) (trail (digits axis ∷ [])) (trail ws)
    ∙ ap (λ (l : List ℕ). two_digits address ++ l) (sym (trail_append (digits axis ∷ []) ws)))

pub front_is : (address axis : ℕ) → two_digits address ++ (space ∷ []) ++ digits axis ≡ body_of address axis []
unfolding spaced
front_is address axis = append_assoc (two_digits address) (space ∷ []) (digits axis)

trails : (s : List ℕ) (vs ws : List (List ℕ)) → s ++ trail vs ++ trail ws ≡ s ++ trail (vs ++ ws)
trails s vs ws = append_assoc s (trail vs) (trail ws) ∙ ap (λ (l : List ℕ). s ++ l) (sym (trail_append vs ws))

-- the three kinds, with their marks
module _ (h : Head) where
  pub head_is : ((64 ∷ body_of h.address h.axis []) ++ trail (verdict h.ok ∷ [])
      ++ trail (status h.busy ∷ highest h.warnings ∷ []))
      ++ (space ∷ []) ≡ text "@" ++ body h (text "")
  unfolding body text trail
  head_is =
      let front : List ℕ = 64 ∷ body_of h.address h.axis [] in
      let state : List (List ℕ) = status h.busy ∷ highest h.warnings ∷ [] in
      ap (λ (l : List ℕ). l ++ (space ∷ [])) (trails front (verdict h.ok ∷ []) state)
      ∙ trails front (verdict h.ok ∷ state) ([] ∷ [])
      ∙ ap (λ (l : List ℕ). 64 ∷ l) (body_front h.address h.axis (verdict h.ok ∷ state ++ ([] ∷ [])))

  pub alert_is : (33 ∷ body_of h.address h.axis []) ++ trail (status h.busy ∷ highest h.warnings ∷ []) ≡ text "!" ++ alert_body h
  unfolding alert_body text
  alert_is = ap (λ (l : List ℕ). 33 ∷ l) (body_front h.address h.axis (status h.busy ∷ highest h.warnings ∷ []))

pub info_is : (address axis : ℕ) (t : List ℕ) → (35 ∷ body_of address axis []) ++ trail (text_words t) ≡ text "#" ++ info_body address axis t
unfolding info_body text
info_is address axis t = ap (λ (l : List ℕ). 35 ∷ l) (body_front address axis (text_words t))

-- the data stands behind the head
pub body_is : (h : Head) (words : List ℕ) → body h (text "") ++ words ≡ body h words
unfolding body spaced text
body_is h words = simp append_assoc

pub sum_wanted : (wanted : Bool) (s : List ℕ) → wanted ≡ true → sum_text wanted s ≡ text ":" ++ hex_pair (checksum s)
unfolding sum_text
sum_wanted wanted s h = rw h

pub sum_unwanted : (wanted : Bool) (s : List ℕ) → wanted ≡ false → sum_text wanted s ≡ []
unfolding sum_text
sum_unwanted wanted s h = rw h
