-- The texts of a reply's data are data as the host reads it: words of printable bytes without a colon, with single spaces between.
-- Assumes nothing.
use mathlib.Core.Path.{◌≡◌, refl}
use mathlib.Core.Bool.{Bool, true, false, cond}
use mathlib.Core.List.{List, [], ◌∷◌, ◌++◌, map}
use Prim.Native.Nat.{ℕ, zero, suc, ◌+◌, ◌/◌, ◌%◌, ◌<◌}
use native.Mathlib.Omega.{arith}
use lib.Dec.{ltb}
use lib.IntN.{ℤ, pos, negsuc}
use lib.ListN.{length, take, drop}
use Rattle.laws.specs.Text.{text, spaced}
use Rattle.laws.proofs.Each.{Each, none, more}
use Rattle.laws.proofs.Spaced.{trail, spaced_trail}
use Rattle.units.specs.declared.Number.{Number}
use Rattle.numbers.specs.Decimal.{last_digit, digits_within, digits, decimal, two_digits}
use Rattle.words.specs.Spelling.{WordByte, Word}
use Rattle.flags.specs.Flags.{bits, named, warning_names}
use Rattle.reply.specs.Data.{values, warnings_in, warning_list, echoed}
use Rattle.host_reader.specs.Spelling.{Bytes, Data}
use Rattle.phrase.proofs.Written.{word_of}

-- ---- words with single spaces between are data
word_bytes : {w t : List ℕ} → Word w → Bytes t → Bytes (w ++ t)
word_bytes (Word.one h) k = Bytes.byte h k
word_bytes (Word.more h w) k = Bytes.byte h (word_bytes w k)

trail_bytes : {ws : List (List ℕ)} → Each Word ws → Bytes (trail ws)
unfolding trail
trail_bytes none = Bytes.none
trail_bytes (more h hs) = Bytes.gap (word_bytes h (trail_bytes hs))

word_data : {w t : List ℕ} → Word w → Bytes t → Data (w ++ t)
word_data (Word.one h) k = Data.begun h k
word_data (Word.more h w) k = Data.begun h (word_bytes w k)

pub spaced_data : {w : List ℕ} {ws : List (List ℕ)} → Word w → Each Word ws → Data (spaced (w ∷ ws))
spaced_data {w} {ws} h hs = rw (spaced_trail w ws) (word_data h (trail_bytes hs))

pub one_data : {w : List ℕ} → Word w → Data w
unfolding spaced
one_data h = spaced_data h none

-- ---- decimal numbers, of any size
figure_byte : (n : ℕ) → WordByte (48 + n % 10)
figure_byte n = record { low = omega arith; high = omega arith; no_colon = λ (e : 48 + n % 10 ≡ 58). omega arith }

last_word : (n : ℕ) → Word (last_digit n)
unfolding last_digit
last_word n = Word.one (figure_byte n)

word_then : {w v : List ℕ} → Word w → Word v → Word (w ++ v)
word_then (Word.one h) k = Word.more h k
word_then (Word.more h w) k = Word.more h (word_then w k)

within_word : (k n : ℕ) → Word (digits_within k n)
unfolding digits_within
within_word zero n = last_word n
within_word (suc k) n = go (ltb n 10) (within_word k (n / 10))
  where
    go : (t : Bool) → Word (digits_within k (n / 10)) → Word (cond t (last_digit n) (digits_within k (n / 10) ++ last_digit n))
    go true h = last_word n
    go false h = word_then h (last_word n)

pub decimal_word : (z : ℤ) → Word (decimal z)
unfolding decimal digits text
decimal_word (pos n) = within_word 19 n
decimal_word (negsuc n) = word_then (word_of (text "-") refl) (within_word 19 (suc n))

-- ---- values
decimals_words : (ns : List Number) → Each Word (map (λ n. decimal n.0) ns)
decimals_words [] = none
decimals_words (n ∷ ns) = more (decimal_word n.0) (decimals_words ns)

pub values_data : (ns : List Number) → 0 < length ns → Data (values ns)
unfolding values
values_data [] h = absurd (omega arith)
values_data (n ∷ ns) h = spaced_data (decimal_word n.0) (decimals_words ns)

-- ---- the list of warnings
two_word : (n : ℕ) → Word (two_digits n)
unfolding two_digits
two_word n = Word.more (figure_byte (n / 10)) (Word.one (figure_byte n))

named_words : (fs : List Bool) {ns : List (List ℕ)} → Each Word ns → Each Word (named fs ns)
unfolding named
named_words [] hs = none
named_words (f ∷ fs) none = none
named_words (true ∷ fs) (more h hs) = more h (named_words fs hs)
named_words (false ∷ fs) (more h hs) = named_words fs hs

names_words : Each Word warning_names
unfolding warning_names text
names_words =
    more (word_of (text "FD") refl)
    (more (word_of (text "FQ") refl)
    (more (word_of (text "FS") refl)
    (more (word_of (text "FT") refl)
    (more (word_of (text "FB") refl)
    (more (word_of (text "FP") refl)
    (more (word_of (text "FE") refl)
    (more (word_of (text "WR") refl) none)))))))

pub list_data : (m : ℕ) → Data (warning_list m)
unfolding warning_list warnings_in
list_data m = spaced_data (two_word (length (warnings_in m))) (named_words (bits 8 m) names_words)

-- ---- the words of an echo
each_take : {X : Type 0} {P : X → Type 0} {xs : List X} (k : ℕ) → Each P xs → Each P (take k xs)
each_take zero hs = none
each_take (suc k) none = none
each_take (suc k) (more h hs) = more h (each_take k hs)

pub each_drop : {X : Type 0} {P : X → Type 0} {xs : List X} (k : ℕ) → Each P xs → Each P (drop k xs)
each_drop zero hs = hs
each_drop (suc k) none = none
each_drop (suc k) (more h hs) = each_drop k hs

pub echoed_data : {ws : List (List ℕ)} → Each Word ws → Data (echoed ws)
unfolding echoed text
echoed_data none = one_data (word_of (text "0") refl)
echoed_data (more h hs) = spaced_data h (each_take 16 hs)
