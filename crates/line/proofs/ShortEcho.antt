-- An echo that some line holds is read from its shortest line too: no line of it is shorter.
-- Assumes nothing.
use mathlib.Core.Path.{◌≡◌, refl}
use mathlib.Core.Logic.{⊎_elim}
use mathlib.Core.Bool.{cond}
use mathlib.Core.List.{List, [], ◌∷◌, ◌++◌}
use mathlib.Core.Option.{some}
use Prim.Native.Nat.{ℕ, zero, suc, ◌+◌, ◌≤◌, ◌<◌}
use native.Mathlib.Omega.{arith}
use lib.Dec.{eqb}
use lib.ListN.{length, length-append}
use borrow.Author.Tests.{ne_eqb}
use Rattle.laws.specs.Text.{text, spaced, space}
use Rattle.laws.proofs.Each.{Each}
use Rattle.laws.proofs.Order.{lt_or_le}
use Rattle.numbers.specs.Spelling.{Digits, UnsignedWord, AddressWord, address}
use Rattle.numbers.specs.Decimal.{digits}
use Rattle.numbers.proofs.Decimal.{digits_length}
use Rattle.numbers.proofs.Value.{digit_below}
use Rattle.words.specs.Spelling.{WordByte, Spaces, Word, Content, blank, last, next}
use Rattle.command.specs.declared.DeviceCommand.TheVariants.{Echo}
use Rattle.command.specs.declared.Command.TheVariants.{OfDevice}
use Rattle.phrase.specs.Spelling.{Row}
use Rattle.line.specs.Spelling.{Asked, AxisWord, Footer, Words, bare, addressed, with_axis, Line, line}
use Rattle.line.specs.Reading.{read_asked}
use Rattle.line.proofs.Demand3.{demand_3}
use Rattle.line.proofs.Every.{lead, lead_spelled, lead_words, short_for, plain_line}

-- ---- a content has no fewer bytes than its words with single spaces between, and one more where it begins with a space
unfoldable leads : List ℕ → ℕ
leads [] = 0
leads (c ∷ s) = cond (eqb c space) 1 0

byte_leads : {c : ℕ} (s : List ℕ) → WordByte c → leads (c ∷ s) ≡ 0
unfolding leads
byte_leads {c} s b = rw (ne_eqb c 32 (λ (e : c ≡ 32). omega (arith, b.low))) refl

word_leads : {w : List ℕ} → Word w → leads w ≡ 0
word_leads (Word.one b) = byte_leads [] b
word_leads (Word.more {w = w} b r) = byte_leads w b

front_leads : {w : List ℕ} (x : List ℕ) → Word w → leads (w ++ x) ≡ 0
front_leads x (Word.one b) = byte_leads x b
front_leads x (Word.more {w = w} b r) = byte_leads (w ++ x) b

spaces_lead : {p : List ℕ} (t : List ℕ) → Spaces p → leads t ≡ 0 → leads (p ++ t) ≤ length p
unfolding leads
spaces_lead t Spaces.none e = omega (arith, e)
spaces_lead t (Spaces.more r) e = omega arith

blank_leads : {p : List ℕ} → Spaces p → leads p ≤ length p
unfolding leads
blank_leads Spaces.none = omega arith
blank_leads (Spaces.more r) = omega arith

spaced_most : (w : List ℕ) (ws : List (List ℕ)) → length (spaced (w ∷ ws)) ≤ length w + suc (length (spaced ws))
unfolding spaced
spaced_most w [] = omega arith
spaced_most w (v ∷ ws) = rw (length-append w (32 ∷ spaced (v ∷ ws))) (omega arith)

content_least : {s : List ℕ} {ws : List (List ℕ)} → Content s ws → length (spaced ws) + leads s ≤ length s
unfolding spaced leads
content_least (blank p) = omega (arith, blank_leads p)
content_least (last {p = p} {w = w} sp h) = rw (length-append p w) (omega (arith, spaces_lead w sp (word_leads h)))
content_least (next {p = p} {w = w} {s = s} {ws = ws} sp h c) =
    let t = w ++ 32 ∷ s in
    rw (length-append p t, length-append w (32 ∷ s))
    (omega (arith, spaces_lead t sp (front_leads (32 ∷ s) h), spaced_most w ws, content_least c))

content_words : {s : List ℕ} {ws : List (List ℕ)} → Content s ws → Each Word ws
content_words (blank p) = Each.none
content_words (last sp h) = Each.more h Each.none
content_words (next sp h c) = Each.more h (content_words c)

-- ---- no address word is shorter than its digits without a leading zero
some_digit : {b n : ℕ} {s : List ℕ} → Digits b s n → 1 ≤ length s
some_digit (Digits.one x) = omega arith
some_digit (Digits.more {s = s} {c = c} ds x) = rw (length-append s (c ∷ [])) (omega arith)

two_digits : {n : ℕ} {s : List ℕ} → Digits 10 s n → 10 ≤ n → 2 ≤ length s
two_digits (Digits.one x) h = absurd (omega (arith, digit_below x))
two_digits (Digits.more {s = s} {c = c} ds x) h = rw (length-append s (c ∷ [])) (omega (arith, some_digit ds))

unsigned_least : {w : List ℕ} {n : ℕ} → UnsignedWord w n → (1 ≤ length w) × (10 ≤ n → 2 ≤ length w)
unfolding text
unsigned_least (UnsignedWord.decimal ds) = (some_digit ds, two_digits ds)
unsigned_least (UnsignedWord.hex {s = s} ds) = (omega arith, (λ h. omega arith))

address_least : {w : List ℕ} {n : ℕ} → AddressWord w n → (length (digits n) ≤ length w) × (n ≤ 99)
address_least {w} {n} (address u h) =
    let least = unsigned_least u in
    let size : length (digits n) ≤ length w =
    ⊎_elim (λ (l : n < 10). omega (arith, digits_length 0 n l, least.0))
    (λ (l : 10 ≤ n). omega (arith, digits_length 1 n (omega arith), least.1 l))
    (lt_or_le n 10) in
    (size, h)

axis_least : {v : List ℕ} {k : ℕ} → AxisWord v k → (length (digits k) ≤ length v) × (k ≤ 9)
axis_least {k = k} (AxisWord.digit x) =
    let l = digit_below x in (omega (arith, digits_length 0 k l), omega arith)

-- ---- the words

-- what stands before the words t ∷ ts of a command is nowhere shorter than `lead`
module _ (t : List ℕ) (ts : List (List ℕ)) where
  spaced_two : (w v : List ℕ) (ws : List (List ℕ)) → length (spaced (w ∷ v ∷ ws)) ≡ length w + suc (length (spaced (v ∷ ws)))
  unfolding spaced
  spaced_two w v ws = length-append w (32 ∷ spaced (v ∷ ws))

  one_before : (w : List ℕ) (n : ℕ) → length (digits n) ≤ length w → length (spaced (lead n 0 ++ t ∷ ts)) ≤ length (spaced (w ∷ t ∷ ts))
  one_before w zero h = omega (arith, spaced_two w t ts)
  one_before w (suc n) h = omega (arith, spaced_two w t ts, spaced_two (digits (suc n)) t ts)

  two_before : (w v : List ℕ) (n k : ℕ) → length (digits n) ≤ length w → length (digits k) ≤ length v
      → length (spaced (lead n k ++ t ∷ ts)) ≤ length (spaced (w ∷ v ∷ t ∷ ts))
  two_before w v n zero h i = omega (arith, one_before w n h, spaced_two w t ts, spaced_two w v (t ∷ ts), spaced_two v t ts)
  two_before w v n (suc k) h i =
      let x = digits (suc k) in
      omega (arith, spaced_two w v (t ∷ ts), spaced_two v t ts, spaced_two (digits n) x (t ∷ ts), spaced_two x t ts)

abbrev pub echoing : ℕ → ℕ → List (List ℕ) → Asked
echoing n k es = record { address = n; axis = k; command = OfDevice Echo; echo = es }

abbrev own : List (List ℕ) → List (List ℕ)
own es = text "tools" ∷ text "echo" ∷ es

record Short (n k : ℕ) (es ws : List (List ℕ)) : Type 0 where
  least : length (spaced (lead n k ++ own es)) ≤ length (spaced ws)
  address : n ≤ 99
  axis : k ≤ 9
  words : Each Word (own es)

short_of : {n k : ℕ} {es ws : List (List ℕ)} → Words ws (echoing n k es) → Each Word ws → Short n k es ws
short_of (bare Row.echo) h = record { least = omega arith; address = omega arith; axis = omega arith; words = h }
short_of {n} {k} {es} (addressed {w = w} x Row.echo) (Each.more u h) =
    let a = address_least x in
    record { least = one_before (text "tools") (text "echo" ∷ es) w n a.0; address = a.1; axis = omega arith; words = h }
short_of {n} {k} {es} (with_axis {w = w} {v = v} x y Row.echo) (Each.more u (Each.more q h)) =
    let a = address_least x in
    let b = axis_least y in
    record { least = two_before (text "tools") (text "echo" ∷ es) w v n k a.0 b.0; address = a.1; axis = b.1; words = h }

foot_some : {f : List ℕ} → Footer f → 1 ≤ length f
foot_some (Footer.one e) = omega arith
foot_some (Footer.two e g) = omega arith

-- Every echo that some line holds is read from its shortest line.
pub every_echo : {l : List ℕ} (n k : ℕ) (es : List (List ℕ)) → Line l (echoing n k es)
    → read_asked (short_for (echoing n k es)) ≡ some (echoing n k es)
unfolding text
every_echo n k es (line {s = s} {k = sum} {f = f} c w check foot fits) =
    let h = short_of w (content_words c) in
    let short = spaced (lead n k ++ own es) in
    let held : length (s ++ sum ++ f) ≤ 79 = omega (arith, fits) in
    let room = rw (length-append (s ++ sum) f, length-append s sum) at held in
    let size : length (short ++ text "\n") ≤ 79 =
    rw (length-append short (text "\n")) (omega (arith, h.least, content_least c, foot_some foot, room)) in
    (demand_3 (short_for (echoing n k es)) (echoing n k es)).0
    (plain_line (lead_words n k h.address h.axis h.words) (lead_spelled Row.echo n k h.address h.axis) (omega (arith, size)))
