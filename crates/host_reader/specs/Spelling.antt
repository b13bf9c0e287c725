-- How the messages of a device are spelled: replies, alerts and info lines. Every rule composes a text from smaller ones.
-- Nothing here says how one is read. Read `rule : A → B → S s n` as: from an A and a B, the bytes s are a spelling S of n.
use Rattle.std.specs.Prelude.{Bool, true, false, List, [], ◌∷◌, ◌++◌, ℕ, ◌+◌, ◌*◌, ◌≤◌, length}
use Rattle.laws.specs.Text.{space, text, spaced}
use Rattle.numbers.specs.Checksum.{checksum}
use Rattle.numbers.specs.Spelling.{Digit, HexPair}
use Rattle.words.specs.Spelling.{WordByte}
use Rattle.reply.specs.Reply.{longest_reply}
use Rattle.host_reader.specs.declared.Said.{Said}
use Rattle.host_reader.specs.declared.Said.TheVariants.{Reply, Alert, Info}
use Rattle.host_reader.specs.declared.Message.{Message as Meaning}

-- "address in two digits", "address 01 to 99"
pub data Address : List ℕ → ℕ → Type 0 where
  two : {c d t u : ℕ} → Digit 10 c t → Digit 10 d u → 1 ≤ t * 10 + u → Address (c ∷ d ∷ []) (t * 10 + u)

-- "axis 0 to 9"
pub data Axis : List ℕ → ℕ → Type 0 where
  one : {c k : ℕ} → Digit 10 c k → Axis (c ∷ []) k

-- "OK or RJ": whether it is OK
pub data Verdict : List ℕ → Bool → Type 0 where
  accepted : Verdict (text "OK") true
  rejected : Verdict (text "RJ") false

-- "IDLE or BUSY": whether it is BUSY
pub data Status : List ℕ → Bool → Type 0 where
  idle : Status (text "IDLE") false
  busy : Status (text "BUSY") true

-- "highest warning or `--`": its place among "FD FQ FS FT FB FP FE WR", from 1; 0 for none
pub data Warning : List ℕ → ℕ → Type 0 where
  none : Warning (text "--") 0
  fd : Warning (text "FD") 1
  fq : Warning (text "FQ") 2
  fs : Warning (text "FS") 3
  ft : Warning (text "FT") 4
  fb : Warning (text "FB") 5
  fp : Warning (text "FP") 6
  fe : Warning (text "FE") 7
  wr : Warning (text "WR") 8

-- "bytes 32 to 126, no colon": spaces and the bytes of words
pub data Bytes : List ℕ → Type 0 where
  none : Bytes []
  gap : {s : List ℕ} → Bytes s → Bytes (space ∷ s)
  byte : {c : ℕ} {s : List ℕ} → WordByte c → Bytes s → Bytes (c ∷ s)

-- "data of one or more bytes ..., first byte no space"
pub data Data : List ℕ → Type 0 where
  begun : {c : ℕ} {s : List ℕ} → WordByte c → Bytes s → Data (c ∷ s)

-- "checksum optional but right if present (either case)", summed over s; CR LF
pub data End (s : List ℕ) : List ℕ → Type 0 where
  bare : End s (text "\r\n")
  summed : {p : List ℕ} → HexPair p (checksum s) → End s (text ":" ++ p ++ text "\r\n")

-- The three kinds: the mark, the words behind the address a and the axis k, and what is said by them. A text stands behind all that is
-- composed before it.
pub data Says (a k : List ℕ) : List ℕ → List (List ℕ) → Said → Type 0 where
  -- "`@`, address in two digits, axis, OK or RJ, IDLE or BUSY, highest warning or `--`, data"
  reply : {v s w d : List ℕ} {i : ℕ} {ok busy : Bool} → Verdict v ok → Status s busy → Warning w i → Data d
      → Says a k (text "@") (v ∷ s ∷ w ∷ d ∷ [])
      (Reply ok (record { busy = busy; warning = i })
      (record { place = length (text "@" ++ spaced (a ∷ k ∷ v ∷ s ∷ w ∷ [] ∷ [])); length = length d }))
  -- "alerts (`!`, address, axis, status, warning flag)"
  alert : {s w : List ℕ} {i : ℕ} {busy : Bool} → Status s busy → Warning w i
      → Says a k (text "!") (s ∷ w ∷ []) (Alert (record { busy = busy; warning = i }))
  -- "info (`#`, address, axis, text)"; "Text follows the rule for reply data, or is empty with no space before it."
  info : {d : List ℕ} → Data d
      → Says a k (text "#") (d ∷ []) (Info (record { place = length (text "#" ++ spaced (a ∷ k ∷ [] ∷ [])); length = length d }))
  empty : Says a k (text "#") [] (Info (record { place = length (text "#" ++ spaced (a ∷ k ∷ [])); length = 0 }))

-- "single spaces between", "checksum and footer as in replies", "at most 96 bytes in all"
pub data Message : List ℕ → Meaning → Type 0 where
  message : {mark a k e : List ℕ} {ws : List (List ℕ)} {n m : ℕ} {said : Said} → Address a n → Axis k m → Says a k mark ws said
      → End (spaced (a ∷ k ∷ ws)) e → length (mark ++ spaced (a ∷ k ∷ ws) ++ e) ≤ longest_reply
      → Message (mark ++ spaced (a ∷ k ∷ ws) ++ e) (record { address = n; axis = m; said = said })
