-- The texts that a device sends: replies, and with order 5 of document 02 alerts and info lines. All have a mark, "address in two
-- digits, axis"; what their kind has; "single spaces between; `:CC` in upper case ..., if comm.checksum is 1; CR LF."
use Rattle.std.specs.Prelude.{Bool, cond, List, [], ◌∷◌, ◌++◌, ℕ, get_or}
use Rattle.laws.specs.Lists.{fold}
use Rattle.laws.specs.Text.{text, spaced}
use Rattle.numbers.specs.Checksum.{sum_text}
use Rattle.numbers.specs.Decimal.{digits, two_digits}
use Rattle.reply.specs.Data.{warnings_in}
use Rattle.reply.specs.declared.Head.{Head}

-- "reply buffer under 96 bytes" is NOROOM: no reply is longer (proofs/Room.antt)
abbrev pub longest_reply : ℕ
longest_reply = 96

unfoldable pub verdict : Bool → List ℕ
verdict ok = cond ok (text "OK") (text "RJ")

unfoldable pub status : Bool → List ℕ
status busy = cond busy (text "BUSY") (text "IDLE")

-- "highest warning or `--`"
unfoldable pub highest : ℕ → List ℕ
highest m = get_or (warnings_in m) 0 (text "--")

-- the checksum of s, where it is wanted, and the footer
unfoldable pub ending : Bool → List ℕ → List ℕ
ending sum s = sum_text sum s ++ text "\r\n"

-- what is summed of a message: address, axis, and the words ws that its kind has behind them
abbrev pub body_of : ℕ → ℕ → List (List ℕ) → List ℕ
body_of address axis ws = spaced (two_digits address ∷ digits axis ∷ ws)

-- its mark; that, "summed from after the `@`"; and its end
abbrev pub message : List ℕ → List ℕ → Bool → List ℕ
message mark s sum = mark ++ s ++ ending sum s

-- messages one behind the other
unfoldable pub joined : List (List ℕ) → List ℕ
joined ts = fold ◌++◌ [] (λ t. t) ts

-- "`@`, address in two digits, axis, OK or RJ, IDLE or BUSY, highest warning or `--`, data"
unfoldable pub body : Head → List ℕ → List ℕ
body h words = body_of h.address h.axis (verdict h.ok ∷ status h.busy ∷ highest h.warnings ∷ words ∷ [])

unfoldable pub reply : Head → Bool → List ℕ → List ℕ
reply h sum words = message (text "@") (body h words) sum

-- "alerts (`!`, address, axis, status, warning flag)"
unfoldable pub alert_body : Head → List ℕ
alert_body h = body_of h.address h.axis (status h.busy ∷ highest h.warnings ∷ [])

unfoldable pub alert : Head → Bool → List ℕ
alert h sum = message (text "!") (alert_body h) sum

-- "info (`#`, address, axis, text)"; the text "is empty with no space before it", or one word behind a space
abbrev pub text_words : List ℕ → List (List ℕ)
text_words [] = []
text_words (c ∷ t) = (c ∷ t) ∷ []

unfoldable pub info_body : ℕ → ℕ → List ℕ → List ℕ
info_body address axis t = body_of address axis (text_words t)

unfoldable pub info : ℕ → ℕ → Bool → List ℕ → List ℕ
info address axis sum t = message (text "#") (info_body address axis t) sum
