-- How a command line is spelled: every rule composes a text from smaller ones. Nothing here says how a line is read.
-- Read `rule : A → B → S s n` as: from an A and a B, the bytes s are a spelling S of n.
use Rattle.std.specs.Prelude.{List, [], ◌∷◌, ◌++◌, ℕ, ◌≤◌, length}
use Rattle.laws.specs.Text.{CR, LF, text}
use Rattle.numbers.specs.Checksum.{checksum}
use Rattle.numbers.specs.Spelling.{Digit, AddressWord, HexPair}
use Rattle.words.specs.Spelling.{Content}
use Rattle.command.specs.declared.Command.{Command}
use Rattle.phrase.specs.Spelling.{Row}

-- "Footer: one or two bytes, each CR or LF."
pub data End : ℕ → Type 0 where
  cr : End CR
  lf : End LF

pub data Footer : List ℕ → Type 0 where
  one : {c : ℕ} → End c → Footer (c ∷ [])
  two : {c d : ℕ} → End c → End d → Footer (c ∷ d ∷ [])

-- "Checksum: `:` and two hex digits of either case", of the value of the content s; or none
pub data Checksum (s : List ℕ) : List ℕ → Type 0 where
  none : Checksum s []
  sum : {d : List ℕ} → HexPair d (checksum s) → Checksum s (text ":" ++ d)

-- "Axis word: one decimal digit"
pub data AxisWord : List ℕ → ℕ → Type 0 where
  digit : {c k : ℕ} → Digit 10 c k → AxisWord (c ∷ []) k

-- "A command is its address, its axis and what its row carries."
pub record Asked : Type 0 where
  pub address : ℕ
  pub axis : ℕ
  pub command : Command
  pub echo : List (List ℕ)

-- the address "may be left out, meaning 0, if no axis is written"; the axis stands "directly after the address. Left out means 0."
pub data Words : List (List ℕ) → Asked → Type 0 where
  bare : {ws es : List (List ℕ)} {c : Command} → Row ws c es → Words ws (record { address = 0; axis = 0; command = c; echo = es })
  addressed : {w : List ℕ} {n : ℕ} {ws es : List (List ℕ)} {c : Command} → AddressWord w n → Row ws c es
      → Words (w ∷ ws) (record { address = n; axis = 0; command = c; echo = es })
  with_axis : {w v : List ℕ} {n k : ℕ} {ws es : List (List ℕ)} {c : Command} → AddressWord w n → AxisWord v k → Row ws c es
      → Words (w ∷ v ∷ ws) (record { address = n; axis = k; command = c; echo = es })

-- "A line is `/`, content, optional checksum, footer; at most 80 bytes in all."
abbrev pub longest_line : ℕ
longest_line = 80

pub data Line : List ℕ → Asked → Type 0 where
  line : {s k f : List ℕ} {ws : List (List ℕ)} {a : Asked} → Content s ws → Words ws a → Checksum s k → Footer f
      → length (text "/" ++ s ++ k ++ f) ≤ longest_line → Line (text "/" ++ s ++ k ++ f) a
