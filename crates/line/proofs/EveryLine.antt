-- What a line is read as, said by the spelling rules alone: they write it for a command; or they compose it, and its words are
-- wrong; or they do not compose it. Each case has its numbers. Assumes nothing.
use Rattle.std.specs.Prelude.{Err, Ok}
use mathlib.Core.Path.{◌≡◌, refl, sym, ap, ◌∙◌}
use mathlib.Core.Logic.{⊎_elim}
use mathlib.Core.Bool.{Bool, true, false, cond, not}
use mathlib.Core.List.{List, [], ◌∷◌}
use Prim.Native.Nat.{ℕ, ◌+◌}
use native.Mathlib.Omega.{arith}
use lib.Dec.{eqb, ltb}
use lib.ListN.{length, take, drop}
use borrow.Author.Tests.{le-ltb}
use Rattle.laws.specs.Lists.{span}
use Rattle.laws.specs.Text.{plus_sign, minus_sign, slash}
use Rattle.laws.specs.declared.Refusal.{Refusal}
use Rattle.laws.specs.declared.Refusal.TheVariants.{TooLong, NotLine, BadSum, BadAddress}
use Rattle.laws.specs.Refusals.{Verdict, NOWHERE, in_byte, refusal_at}
use Rattle.laws.proofs.Order.{lt_or_le, eq_or_ne}
use Rattle.laws.proofs.Bools.{clash}
use Rattle.numbers.specs.Spelling.{Digit, AddressWord}
use Rattle.numbers.specs.Reading.{value_of, read_address, read_pair, says_sum, UnsignedRead}
use Rattle.numbers.proofs.Value.{digit_value, digit_below, digit_of}
use Rattle.numbers.proofs.Numbers.{address_read, address_of_lem}
use Rattle.words.specs.Cutting.{Placed, bytes_of, words_at, head_word}
use Rattle.command.specs.declared.Command.{Command}
use Rattle.phrase.specs.Reading.{read_command, WordsRead, worded}
use Rattle.phrase.proofs.WordsNumbered.{Misspelt, misspelt_at, NumberedWords, words_numbered}
use Rattle.line.specs.Reading.{Frame, printable, no_colon, is_footer, checked, parted, after_slash, slashed, frame_of, starts_number, read_words, framed, read_line, carried_by, asked_by, read_asked, LineRead, sent}
use Rattle.line.specs.Spelling.{Asked, Words, Line, longest_line}
use Rattle.line.specs.Refusals.{is_address, bad_address}
use Rattle.line.proofs.ByWords.{Own, by_words}
use Rattle.line.proofs.Steps.{begins_plus, begins_minus, begins_digit, starts_none}
use Rattle.line.proofs.Composed.{Composed, composed_read, composed_of}
use Rattle.line.proofs.Carried.{up_to, content_words}
use Rattle.line.proofs.Demand3.{digit_begins, no_asked, together, demand_3}

-- "A first word that begins with a digit, `+` or `-` is always the address word."
pub data BeginsNumber : List ℕ → Type 0 where
  digit : {c d : ℕ} {w : List ℕ} → Digit 10 c d → BeginsNumber (c ∷ w)
  plus : {w : List ℕ} → BeginsNumber (plus_sign ∷ w)
  minus : {w : List ℕ} → BeginsNumber (minus_sign ∷ w)

-- "address word outside the rule": a first word that begins so, and is the address word of no number
pub data Outside : List (List ℕ) → Type 0 where
  bad_address_lem : {w : List ℕ} {ws : List (List ℕ)} → BeginsNumber w → ((n : ℕ) → AddressWord w n → ⊥) → Outside (w ∷ ws)

-- the numbers of a line that is not composed of `/`, content, checksum and footer
pub data Unframed : Verdict → Type 0 where
  too_long : Unframed (Err TooLong)
  not_line : Unframed (Err NotLine)
  bad_sum : Unframed (Err BadSum)

-- the line l, and what is read of it
pub data Reads (l : List ℕ) : LineRead → Type 0 where
  unframed : {n : Refusal} → Unframed (Err n) → ((ws : List (List ℕ)) → Composed l ws → ⊥) → Reads l (Err (refusal_at n NOWHERE))
  misaddressed : {ws : List (List ℕ)} {p : ℕ} → Composed l ws → Outside ws → Reads l (Err (refusal_at BadAddress p))
  misspelt : {ws : List (List ℕ)} {m : Refusal} {p n k end : ℕ} → Composed l ws → (Outside ws → ⊥) → ((a : Asked) → Words ws a → ⊥) → Misspelt (Err m)
      → Reads l (Ok (sent n k end (Err (refusal_at m p))))
  spelled : {n k end from : ℕ} {c : Command}
      → Line l (record { address = n; axis = k; command = c; echo = carried_by c (drop from (take end l)) })
      → Reads l (Ok (sent n k end (Ok (worded c from))))

-- ---- a word that begins as a number
begins : (w : List ℕ) → starts_number w ≡ true → BeginsNumber w
unfolding starts_number
begins [] e = clash e starts_none
begins (c ∷ w) e =
    ⊎_elim (λ p. rw p plus)
    (λ p. ⊎_elim (λ m. rw m minus)
    (λ m. ⊎_elim (λ h. digit (digit_of 10 c (omega arith) h)) (λ h. clash e (begins_digit c p m ∙ le-ltb (value_of c) 10 h))
    (lt_or_le (value_of c) 10)) (eq_or_ne c 45))
    (eq_or_ne c 43)

starts : {w : List ℕ} → BeginsNumber w → starts_number w ≡ true
unfolding starts_number
starts (digit {c} {d} x) =
    let v = digit_value (omega arith) x in
    let l = digit_below x in
    digit_begins c (omega arith)
starts plus = begins_plus 43 refl
starts minus = begins_minus 45 (λ (z : ◌≡◌ {A = ℕ} 45 43). omega arith) refl

-- ---- the words
pub no_number : {ws : List (List ℕ)} → starts_number (head_word ws) ≡ false → Outside ws → ⊥
unfolding head_word
no_number e (bad_address_lem b h) = clash (starts b) e

pub an_address : {w : List ℕ} {n : ℕ} {ws : List (List ℕ)} → AddressWord w n → Outside (w ∷ ws) → ⊥
an_address {n = n} a (bad_address_lem b h) = h n a

data WordsTold (ws : List (List ℕ)) : LineRead → Type 0 where
  wrong : {p : ℕ} → Outside ws → WordsTold ws (Err (refusal_at BadAddress p))
  right : {n k end : ℕ} {w : WordsRead} → (Outside ws → ⊥) → NumberedWords w → WordsTold ws (Ok (sent n k end w))

either : {X : Type 0} (P : X → Type 0) (t : Bool) {x y : X} → P x → P y → P (cond t x y)
either P true p q = p
either P false p q = q

-- no address word is wrong, as the table of refusals says it and as the spelling rules do
none_bad : (ws : List Placed) → bad_address ws ≡ false → Outside (bytes_of ws) → ⊥
unfolding bad_address
none_bad [] e x = elim x [ ]
none_bad (w ∷ ws) e (bad_address_lem b h) = go (read_address w.bytes) refl (rw (starts b) at e)
  where
    go : (u : UnsignedRead) → read_address w.bytes ≡ u → not (is_address u) ≡ false → ⊥
    go (Ok n) q z = h n (address_of_lem w.bytes n q)
    go (Err p) q z = clash refl z

own_told : (ws ts : List Placed) (n k end : ℕ) → Own ws ts → WordsTold (bytes_of ws) (Ok (sent n k end (read_command ts)))
own_told ws ts n k end o = right (none_bad ws o.right) (words_numbered ts)

wrong_told : (w : Placed) (t : List Placed) (p : ℕ) → starts_number w.bytes ≡ true → read_address w.bytes ≡ Err p
    → WordsTold (bytes_of (w ∷ t)) (Err (refusal_at BadAddress (in_byte (w.start + p))))
wrong_told w t p e q = wrong (bad_address_lem (begins w.bytes e) (λ n a. no_address n (sym q ∙ address_read a)))
  where
    no_address : (n : ℕ) → Err p ≡ Ok n → ⊥
    no_address n e = let z : ◌≡◌ {A = ℕ} 0 1 = cc in omega arith

words_told : (end : ℕ) (ws : List Placed) → WordsTold (bytes_of ws) (read_words end ws)
words_told = by_words (λ ws r. WordsTold (bytes_of ws) r) wrong_told own_told

-- ---- the frame
abbrev pub NumberedFrame : Frame → Type 0
NumberedFrame (Ok n) = Unit
NumberedFrame (Err n) = Unframed (Err n)

checked_numbered : (n : ℕ) (s r : List ℕ) → NumberedFrame (checked n s r)
unfolding checked
checked_numbered n s [] = tt
checked_numbered n s (x ∷ []) = bad_sum
checked_numbered n s (x ∷ h ∷ []) = bad_sum
checked_numbered n s (x ∷ h ∷ l ∷ []) = either NumberedFrame (says_sum s (read_pair h l)) tt bad_sum
checked_numbered n s (x ∷ h ∷ l ∷ y ∷ r) = bad_sum

slashed_numbered : (l : List ℕ) → NumberedFrame (slashed l)
unfolding slashed after_slash parted
slashed_numbered [] = not_line
slashed_numbered (c ∷ t) =
    let s = take (span printable t) t in
    let n = span no_colon s in
    either NumberedFrame (eqb c slash)
    (either NumberedFrame (is_footer (drop (span printable t) t)) (checked_numbered n (take n s) (drop n s)) not_line)
    not_line

pub frame_numbered : (l : List ℕ) → NumberedFrame (frame_of l)
unfolding frame_of
frame_numbered l = either NumberedFrame (ltb longest_line (length l)) too_long (slashed_numbered l)

-- ---- the line
module _ (l : List ℕ) where
  no_frame : {n : Refusal} → frame_of l ≡ Err n → (ws : List (List ℕ)) → Composed l ws → ⊥
  no_frame q ws c = let z : ◌≡◌ {A = ℕ} 0 1 = cc (q, (composed_read c).frame) in omega arith

  content_told : {ws : List (List ℕ)} (r : LineRead) → read_line l ≡ r → Composed l ws → WordsTold ws r → Reads l r
  unfolding read_asked
  content_told (Err e) q c (wrong h) = misaddressed c h
  content_told (Ok u) q c (right h x) = words_in_it u.words q x
    where
      words_in_it : (w : WordsRead) → read_line l ≡ Ok (sent u.address u.axis u.end w) → NumberedWords w → Reads l (Ok (sent u.address u.axis u.end w))
      words_in_it (Err e) q x = misspelt c h (λ a w. no_asked (sym (ap (asked_by l) q) ∙ (demand_3 l a).0 (together c w))) (misspelt_at x)
      words_in_it (Ok w) q x = spelled ((demand_3 l _).1 (ap (asked_by l) q))

  -- Every line is read as the spelling rules say.
  pub every_line : Reads l (read_line l)
  unfolding read_line
  every_line = go (frame_of l) refl (frame_numbered l)
    where
      go : (f : Frame) → frame_of l ≡ f → NumberedFrame f → Reads l (framed l f)
      go (Err n) q h = unframed h (no_frame q)
      go (Ok n) q h =
          let s = up_to l n in
          content_told _ (ap (framed l) q) (composed_of l n q) (rw (← content_words l n) (words_told (length s) (words_at s 1)))
