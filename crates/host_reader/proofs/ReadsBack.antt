-- Writing, then reading, gives the message back, for each kind: replies with every data that fits into 96 bytes, alerts, and info
-- lines with every text that fits. It is so because what is written is a spelling of that message. Assumes nothing.
use mathlib.Core.Path.{◌≡◌, refl, subst, ◌∙◌}
use mathlib.Core.Bool.{Bool, true, false, cond}
use mathlib.Core.List.{List, [], ◌∷◌, ◌++◌}
use Prim.Native.Nat.{ℕ, zero, suc, ◌+◌, ◌*◌, ◌/◌, ◌%◌, ◌≤◌, ◌<◌}
use native.Mathlib.Omega.{arith}
use native.Mathlib.Nat.{mod-eq_of_lt}
use lib.Dec.{ltb}
use lib.ListN.{length, length-append}
use borrow.Author.Tests.{le-ltb}
use Rattle.std.specs.Prelude.{Some}
use Rattle.laws.specs.Text.{text, spaced}
use Rattle.laws.proofs.Spaced.{trail}
use Rattle.numbers.specs.Checksum.{checksum}
use Rattle.numbers.specs.Decimal.{last_digit, digits, two_digits}
use Rattle.numbers.specs.Spelling.{Digit}
use Rattle.numbers.proofs.Decimal.{digits_one, pair_spelled}
use Rattle.flags.specs.Flags.{warning_names, bits, first}
use Rattle.reply.specs.Pieces.{warning_at}
use Rattle.reply.specs.Reply.{verdict, status, highest, body, ending, message, reply, alert_body, alert, info_body, info}
use Rattle.reply.specs.declared.Head.{Head}
use Rattle.reply.proofs.Texts.{highest_is, sum_wanted, sum_unwanted}
use Rattle.reply.proofs.Room.{most_data_lem, ending_length, most_text_lem, most_text}
use Rattle.host_reader.specs.Spelling.{Address, Axis, Verdict, accepted, rejected, Status, idle, busy, Warning, fd, fq, fs, ft, fb, fp, fe, wr, Data, End, bare, summed, Says}
use Rattle.host_reader.specs.Spelling as spelling
use Rattle.host_reader.specs.Reading.{field, data_place, text_place, front_end, read_message}
use Rattle.host_reader.specs.declared.Said.{Said}
use Rattle.host_reader.specs.declared.Said.TheVariants.{Reply, Alert, Info}
use Rattle.host_reader.specs.declared.State.{State}
use Rattle.host_reader.specs.declared.Message.{Message}
use Rattle.host_reader.proofs.Spelled.{verdict_two, status_four, warning_two}
use Rattle.host_reader.proofs.SpelledIsRead.{One, at_sign, bang, hash, front_size, reply_size, alert_size, info_size}
use Rattle.host_reader.proofs.Messages.{message_read}
use Rattle.host_reader.proofs.TextStands.{text_stands, InfoText}

-- ---- what was put in
-- the place of the highest flag of a mask, from 1; 0 where there is none
abbrev place_of : ℕ → ℕ
place_of k = cond (ltb k 8) (suc k) 0

abbrev pub highest_place : ℕ → ℕ
highest_place m = place_of (first (bits 8 m))

abbrev pub state_of : Head → State
state_of h = record { busy = h.busy; warning = highest_place h.warnings }

abbrev heard_for : Head → Said → Message
heard_for h said = record { address = h.address; axis = h.axis; said = said }

abbrev pub heard_reply : Head → List ℕ → Message
heard_reply h words = heard_for h (Reply h.ok (state_of h) (record { place = data_place; length = length words }))

abbrev pub heard_alert : Head → Message
heard_alert h = heard_for h (Alert (state_of h))

-- an empty text has no space before it
abbrev pub place_for_lem : List ℕ → ℕ
place_for_lem [] = front_end
place_for_lem (c ∷ t) = text_place

abbrev pub heard_info : ℕ → ℕ → List ℕ → Message
heard_info address axis t = record { address = address; axis = axis; said = Info (record { place = place_for_lem t; length = length t }) }

-- ---- the texts of the fields
figure : (n : ℕ) → Digit 10 (48 + n % 10) (n % 10)
figure n = Digit.figure (omega arith) (omega arith) refl

address_spelled : (n : ℕ) → 1 ≤ n → n ≤ 99 → Address (two_digits n) n
unfolding two_digits
address_spelled n some h =
    let e : n / 10 % 10 * 10 + n % 10 ≡ n = omega arith in
    subst (Address (two_digits n)) e (Address.two (figure (n / 10)) (figure n) (omega arith))

axis_spelled : (k : ℕ) → k ≤ 9 → Axis (digits k) k
unfolding last_digit
axis_spelled k h =
    let small : k < 10 = omega arith in
    rw (digits_one k small) (subst (Axis (last_digit k)) (mod-eq_of_lt small) (Axis.one (figure k)))

verdict_spelled : (ok : Bool) → Verdict (verdict ok) ok
unfolding verdict
verdict_spelled true = accepted
verdict_spelled false = rejected

status_spelled : (t : Bool) → Status (status t) t
unfolding status
status_spelled true = busy
status_spelled false = idle

warning_spelled : (k : ℕ) → Warning (warning_at k) (place_of k)
unfolding warning_at warning_names
warning_spelled zero = fd
warning_spelled (suc zero) = fq
warning_spelled (suc (suc zero)) = fs
warning_spelled (suc (suc (suc zero))) = ft
warning_spelled (suc (suc (suc (suc zero)))) = fb
warning_spelled (suc (suc (suc (suc (suc zero))))) = fp
warning_spelled (suc (suc (suc (suc (suc (suc zero)))))) = fe
warning_spelled (suc (suc (suc (suc (suc (suc (suc zero))))))) = wr
warning_spelled (suc (suc (suc (suc (suc (suc (suc (suc k)))))))) =
    rw (le-ltb (suc (suc (suc (suc (suc (suc (suc (suc k)))))))) 8 (omega arith)) Warning.none

highest_spelled : (m : ℕ) → Warning (highest m) (highest_place m)
highest_spelled m = rw (← highest_is m) (warning_spelled (first (bits 8 m)))

-- ---- the end
sum_byte : (s : List ℕ) → checksum s < 256
unfolding checksum
sum_byte s = omega arith

end_spelled : (sum : Bool) (s : List ℕ) → End s (ending sum s)
unfolding ending
end_spelled true s = rw (sum_wanted true s refl) (summed (pair_spelled (checksum s) (sum_byte s)))
end_spelled false s = rw (sum_unwanted false s refl) bare

-- the most bytes of data that fit into a reply, and the end
-- ---- the whole, for every kind
module _ {mark a k : List ℕ} {n j : ℕ} (m : One mark) (address : Address a n) (axis : Axis k j) where
  before : (ws : List (List ℕ)) → length (mark ++ spaced (a ∷ k ∷ ws)) ≡ 5 + length (trail ws)
  before ws = go address axis
    where
      go : {a k : List ℕ} {n j : ℕ} → Address a n → Axis k j → length (mark ++ spaced (a ∷ k ∷ ws)) ≡ 5 + length (trail ws)
      go (Address.two {c} {d} x y some) (Axis.one {c = k} z) = front_size c d k ws m

  spelled : (sum : Bool) {ws : List (List ℕ)} {said : Said} → Says a k mark ws said → 5 + length (trail ws) ≤ 17 + most_data_lem sum
      → spelling.Message (message mark (spaced (a ∷ k ∷ ws)) sum) (record { address = n; axis = j; said = said })
  spelled sum {ws} says short =
      let s = spaced (a ∷ k ∷ ws) in
      let small : length (mark ++ s ++ ending sum s) ≤ 96 = rw (length-append (mark ++ s) (ending sum s))
      (omega (arith, before ws, ending_length sum s)) in
      spelling.message address axis says (end_spelled sum s) small

module _ (h : Head) (sum : Bool) (some : 1 ≤ h.address) (most : h.address ≤ 99) (one_digit : h.axis ≤ 9) where
  place_is : length (text "@" ++ body h []) ≡ data_place
  unfolding body
  place_is =
      let a = address_spelled h.address some most in
      let k = axis_spelled h.axis one_digit in
      let v = verdict_two (verdict_spelled h.ok) in
      let s = status_four (status_spelled h.busy) in
      let w = warning_two (highest_spelled h.warnings) in
      before at_sign a k (verdict h.ok ∷ status h.busy ∷ highest h.warnings ∷ [] ∷ []) ∙ reply_size [] v s w

  -- ---- replies: 77 bytes of data without a checksum, 74 with one
  pub reply_spelled : (words : List ℕ) → Data words → length words ≤ most_data_lem sum
      → spelling.Message (reply h sum words) (heard_reply h words)
  unfolding reply body
  reply_spelled words said short =
      let a = address_spelled h.address some most in
      let k = axis_spelled h.axis one_digit in
      let v = verdict_spelled h.ok in
      let s = status_spelled h.busy in
      let w = highest_spelled h.warnings in
      let size = reply_size words (verdict_two v) (status_four s) (warning_two w) in
      rw place_is at (spelled at_sign a k sum (Says.reply v s w said) (omega (arith, size)))

  -- the data stand where the message says
  pub reply_text : (words : List ℕ) → field (reply h sum words) data_place (length words) ≡ words
  unfolding reply body
  reply_text words =
      rw (← place_is)
      (text_stands (text "@") (two_digits h.address) (digits h.axis ∷ verdict h.ok ∷ status h.busy ∷ highest h.warnings ∷ [])
      words (ending sum (body h words)))

  pub reply_back : (words : List ℕ) → Data words → length words ≤ most_data_lem sum
      → read_message (reply h sum words) ≡ Some (heard_reply h words)
  reply_back words said short = message_read (reply_spelled words said short)

  -- ---- alerts
  pub alert_spelled : spelling.Message (alert h sum) (heard_alert h)
  unfolding alert alert_body
  alert_spelled =
      let s = status_spelled h.busy in
      let w = highest_spelled h.warnings in
      spelled bang (address_spelled h.address some most) (axis_spelled h.axis one_digit) sum (Says.alert s w)
      (omega (arith, alert_size (status_four s) (warning_two w)))

  pub alert_back : read_message (alert h sum) ≡ Some (heard_alert h)
  alert_back = message_read alert_spelled

-- ---- info lines: 88 bytes of text without a checksum, 85 with one
module _ (address axis : ℕ) (sum : Bool) (some : 1 ≤ address) (most : address ≤ 99) (one_digit : axis ≤ 9) where
  text_place_lem : length (text "#" ++ spaced (two_digits address ∷ digits axis ∷ [] ∷ [])) ≡ text_place
  text_place_lem = before hash (address_spelled address some most) (axis_spelled axis one_digit) ([] ∷ []) ∙ info_size []

  pub info_spelled : {t : List ℕ} → InfoText t → length t ≤ most_text_lem sum
      → spelling.Message (info address axis sum t) (heard_info address axis t)
  unfolding info info_body trail
  info_spelled InfoText.empty short =
      let a = address_spelled address some most in
      let k = axis_spelled axis one_digit in
      rw (before hash a k []) at (spelled hash a k sum Says.empty (omega arith))
  info_spelled (InfoText.said (Data.begun {c} {s} w b)) short =
      let a = address_spelled address some most in
      let k = axis_spelled axis one_digit in
      rw text_place_lem at (spelled hash a k sum (Says.info (Data.begun w b)) (omega (arith, info_size (c ∷ s), most_text sum)))

  -- the text stands where the message says
  pub info_text : (t : List ℕ) → field (info address axis sum t) (place_for_lem t) (length t) ≡ t
  unfolding info info_body
  info_text [] = refl
  info_text (c ∷ t) =
      rw (← text_place_lem)
      (text_stands (text "#") (two_digits address) (digits axis ∷ []) (c ∷ t) (ending sum (info_body address axis (c ∷ t))))

  pub info_back : {t : List ℕ} → InfoText t → length t ≤ most_text_lem sum
      → read_message (info address axis sum t) ≡ Some (heard_info address axis t)
  info_back x short = message_read (info_spelled x short)
