-- Every command that is in range and whose line fits is read from some line: a reader that refuses everything is shut out.
-- Assumes nothing.
use mathlib.Core.Path.{◌≡◌, refl, subst}
use mathlib.Core.List.{List, [], ◌∷◌, ◌++◌, append-nil}
use mathlib.Core.Option.{some}
use Prim.Native.Nat.{ℕ, zero, suc, ◌≤◌, ◌<◌}
use native.Mathlib.Omega.{arith}
use native.Mathlib.Nat.{mod-eq_of_lt}
use lib.ListN.{length}
use Rattle.laws.proofs.Each.{Each}
use Rattle.laws.specs.Text.{text, spaced}
use Rattle.numbers.specs.Spelling.{Digit, UnsignedWord, AddressWord, address}
use Rattle.numbers.specs.Decimal.{last_digit, digits, two_digits}
use Rattle.numbers.proofs.Decimal.{digits_one, digits_spelled, address_spelled}
use Rattle.words.specs.Spelling.{Spaces, Word, Content, blank, last, next}
use Rattle.words.proofs.Content.{content_space}
use Rattle.command.specs.declared.Command.{Command}
use Rattle.command.specs.Commands.{command_words}
use Rattle.phrase.specs.Spelling.{Row}
use Rattle.phrase.proofs.Written.{row_written, written_words, unsigned_word, digit_word}
use Rattle.line.specs.Spelling.{Asked, AxisWord, Footer, End, Checksum, Words, bare, addressed, with_axis, Line, line}
use Rattle.line.specs.Reading.{read_asked}
use Rattle.line.specs.Writing.{content_for, line_for, InRange}
use Rattle.line.proofs.Demand3.{demand_3}

-- words with single spaces between are composed of these words
pub spaced_content : {ws : List (List ℕ)} → Each Word ws → Content (spaced ws) ws
unfolding spaced
spaced_content Each.none = blank Spaces.none
spaced_content (Each.more w Each.none) = last Spaces.none w
spaced_content (Each.more w (Each.more v r)) = next Spaces.none w (content_space (spaced_content (Each.more v r)))

-- the digit of an axis spells it; the words of axis and address are words
pub axis_spelled : (k : ℕ) → k ≤ 9 → AxisWord (digits k) k
unfolding last_digit
axis_spelled k h =
    let l : k < 10 = omega arith in
    rw (digits_one k l) (subst (AxisWord (last_digit k)) (mod-eq_of_lt l) (AxisWord.digit (Digit.figure (omega arith) (omega arith) refl)))

pub axis_word : {w : List ℕ} {k : ℕ} → AxisWord w k → Word w
axis_word (AxisWord.digit x) = digit_word (omega arith) x

pub address_word : {w : List ℕ} {n : ℕ} → AddressWord w n → Word w
address_word (address u h) = unsigned_word u

-- the words of a command with single spaces between, and a checksum or none: where they fit, they are a line of it
spaced_line : {ws : List (List ℕ)} {a : Asked} {t : List ℕ} → Each Word ws → Words ws a → Checksum (spaced ws) t
    → length (text "/" ++ spaced ws ++ t ++ text "\n") ≤ 80
    → Line (text "/" ++ spaced ws ++ t ++ text "\n") a
unfolding text
spaced_line words spelled check fits = line (spaced_content words) spelled check (Footer.one End.lf) fits

pub plain_line : {ws : List (List ℕ)} {a : Asked} → Each Word ws → Words ws a → length (text "/" ++ spaced ws ++ text "\n") ≤ 80
    → Line (text "/" ++ spaced ws ++ text "\n") a
unfolding text
plain_line {ws} words spelled fits =
    let s = spaced ws in
    rw (append-nil s) at (spaced_line words spelled Checksum.none (rw (append-nil s) fits))

-- ---- with both, as the host writes it: an address in two digits, an axis, the words of a command
abbrev pub content : ℕ → ℕ → List (List ℕ) → List ℕ
content n k ws = spaced (two_digits n ∷ digits k ∷ ws)

pub line_spelled : (n k : ℕ) {ws : List (List ℕ)} {c : Command} {es : List (List ℕ)} {t : List ℕ} → n ≤ 99 → k ≤ 9 → Row ws c es
    → Each Word ws → Checksum (content n k ws) t → length (text "/" ++ content n k ws ++ t ++ text "\n") ≤ 80
    → Line (text "/" ++ content n k ws ++ t ++ text "\n") (record { address = n; axis = k; command = c; echo = es })
line_spelled n k g h row words check fits =
    let x = address_spelled n g in
    let y = axis_spelled k h in
    spaced_line (Each.more (address_word x) (Each.more (axis_word y) words)) (with_axis x y row) check fits

module _ (a : Asked) (h : InRange a) where
  abbrev own : List (List ℕ)
  own = command_words a.command a.echo

  spelled : Row own a.command a.echo
  spelled = row_written a.command a.echo h.command

  words : Each Word own
  words = written_words a.command a.echo h.command

  every_line : length (line_for a) ≤ 80 → Line (line_for a) a
  unfolding line_for content_for
  every_line fits =
      let x = address_spelled a.address h.address in
      let y = axis_spelled a.axis h.axis in
      plain_line (Each.more (address_word x) (Each.more (axis_word y) words)) (with_axis x y spelled) fits

  -- Every command that is in range, and whose line fits, is read from that line.
  pub every_command : length (line_for a) ≤ 80 → read_asked (line_for a) ≡ some a
  every_command fits = (demand_3 (line_for a) a).0 (every_line fits)

-- ---- as short as it goes: no leading zero, and what is 0 is left out where it may be
abbrev pub lead : ℕ → ℕ → List (List ℕ)
lead zero zero = []
lead (suc n) zero = digits (suc n) ∷ []
lead n (suc k) = digits n ∷ digits (suc k) ∷ []

short_address : (n : ℕ) → n ≤ 99 → AddressWord (digits n) n
short_address n h = address (UnsignedWord.decimal (digits_spelled n (omega arith))) h

module _ {ws es : List (List ℕ)} {c : Command} (row : Row ws c es) where
  pub lead_spelled : (n k : ℕ) → n ≤ 99 → k ≤ 9 → Words (lead n k ++ ws) (record { address = n; axis = k; command = c; echo = es })
  lead_spelled zero zero g h = bare row
  lead_spelled (suc n) zero g h = addressed (short_address (suc n) g) row
  lead_spelled n (suc k) g h = with_axis (short_address n g) (axis_spelled (suc k) h) row

pub lead_words : {ws : List (List ℕ)} (n k : ℕ) → n ≤ 99 → k ≤ 9 → Each Word ws → Each Word (lead n k ++ ws)
lead_words zero zero g h words = words
lead_words (suc n) zero g h words = Each.more (address_word (short_address (suc n) g)) words
lead_words n (suc k) g h words = Each.more (address_word (short_address n g)) (Each.more (axis_word (axis_spelled (suc k) h)) words)

abbrev pub short_for : Asked → List ℕ
short_for a = text "/" ++ spaced (lead a.address a.axis ++ command_words a.command a.echo) ++ text "\n"

-- Every command that is in range, and whose shortest line fits, is read from that line: an echo of 67 bytes for address 0 and axis 0 too.
pub every_short_command : (a : Asked) → InRange a → length (short_for a) ≤ 80 → read_asked (short_for a) ≡ some a
every_short_command a h fits =
    (demand_3 (short_for a) a).0
    (plain_line (lead_words a.address a.axis h.address h.axis (words a h))
    (lead_spelled (spelled a h) a.address a.axis h.address h.axis) fits)
