-- A line is read as a command exactly where the spelling rules write it for that command, and no line is written for two.
-- Every row, every setting, every number of 32 bits, every line to 80 bytes. Assumes nothing.
use Rattle.std.specs.Prelude.{Err, Ok}
use mathlib.Core.Path.{◌≡◌, refl, sym, ap, subst, ◌∙◌}
use mathlib.Core.Logic.{◌↔◌, ⊎_elim}
use mathlib.Core.Bool.{Bool, true, false, cond}
use mathlib.Core.List.{List, [], ◌∷◌}
use mathlib.Core.Option.{none, some}
use Prim.Native.Nat.{ℕ, ◌<◌}
use native.Mathlib.Omega.{arith}
use lib.ListN.{length, get_or, take, drop}
use borrow.Author.Tests.{lt-ltb, le-ltb}
use Rattle.laws.specs.Text.{text}
use Rattle.laws.proofs.Order.{lt_or_le}
use Rattle.laws.proofs.Each as Each
use Rattle.numbers.specs.Spelling.{AddressWord, address}
use Rattle.numbers.specs.Reading.{value_of, read_address, UnsignedRead}
use Rattle.numbers.proofs.Value.{digit_value, digit_below, digit_of, none_below}
use Rattle.numbers.proofs.Numbers.{unsigned_first, address_read, address_of_lem}
use Rattle.words.specs.Cutting.{Placed, behind, bytes_of, words_at, cut, head_word}
use Rattle.words.proofs.Cut.{first_stands}
use Rattle.words.proofs.Table.{by_entry}
use Rattle.command.specs.declared.Command.{Command}
use Rattle.command.specs.Commands.{echo_of}
use Rattle.phrase.specs.Spelling.{Row}
use Rattle.phrase.specs.Reading.{unknown, firsts, read_command, WordsRead, worded}
use Rattle.phrase.proofs.Among.{◌also◌}
use Rattle.phrase.proofs.Rows.{no_command, standing, bytes_standing, row_standing, row_read, row_echo, row_of, place_of}
use Rattle.line.specs.Reading.{Frame, frame_of, begins_number, starts_number, axis_digit, axis_of, address_of, read_words, read_content, framed, read_line, carried_by, asked_by, read_asked, sent}
use Rattle.line.specs.Spelling.{AxisWord, digit, Asked, Words, bare, addressed, with_axis, Line, line}
use Rattle.line.proofs.Steps.{begins_digit}
use Rattle.line.proofs.Carried.{carried_echo, up_to, content_words, content_there}
use Rattle.line.proofs.Composed.{Composed, composed, composed_read, composed_of}

-- ---- the words: address, axis, and those of the command

-- no command's first word begins as a number or is an axis
abbrev NoNumber : List ℕ → Type 0
NoNumber w = (starts_number w ≡ false) × (axis_digit w ≡ 99)

read_first : (ws : List Placed) {c : Command} {q : ℕ} → read_command ws ≡ Ok (worded c q) → NoNumber (head_word (bytes_of ws))
unfolding read_command starts_number begins_number axis_digit head_word text value_of
read_first [] e = (refl, refl)
read_first (w ∷ t) e = by_entry unknown NoNumber w.bytes (firsts t) e no_command
    ((λ q. (refl, refl))
    also (λ q. (refl, refl))
    also (λ q. (refl, refl))
    also (λ q. (refl, refl))
    also (λ q. (refl, refl))
    also (λ q. (refl, refl))
    also (λ q. (refl, refl))
    also (λ q. (refl, refl))
    also (λ q. (refl, refl))
    also Each.none)

pub first_word : {ws : List (List ℕ)} {c : Command} {es : List (List ℕ)} → Row ws c es → NoNumber (head_word ws)
first_word {ws} r =
    let none : ℕ → ℕ = λ i. 0 in
    subst (λ (vs : List (List ℕ)). NoNumber (head_word vs)) (bytes_standing none ws) (read_first (standing none ws) (row_standing none r))

pub digit_begins : (c : ℕ) → value_of c < 10 → begins_number c ≡ true
digit_begins c v =
    let low = none_below c in
    begins_digit c (λ (e : c ≡ 43). omega (arith, low (omega arith))) (λ (e : c ≡ 45). omega (arith, low (omega arith)))
    ∙ lt-ltb (value_of c) 10 v

address_starts : {w : List ℕ} {n : ℕ} → AddressWord w n → starts_number w ≡ true
unfolding starts_number
address_starts {w} (address u h) = go w (unsigned_first u)
  where
    go : (w : List ℕ) → value_of (get_or w 0 0) < 10 → starts_number w ≡ true
    go [] v = absurd (omega (arith, none_below 0 (omega arith)))
    go (c ∷ w) v = digit_begins c v

axis_read : {v : List ℕ} {k : ℕ} → AxisWord v k → (axis_digit v ≡ k) × (k < 10)
unfolding axis_digit
axis_read (digit x) = (digit_value (omega arith) x, digit_below x)

abbrev asked : ℕ → ℕ → Command → List (List ℕ) → Asked
asked n k c es = record { address = n; axis = k; command = c; echo = es }

-- the words ts of the line, from `at` on, spell a command
row_asked : (l : List ℕ) (end n k at : ℕ) (ts : List Placed) {es : List (List ℕ)} {c : Command} → words_at (take end l) at ≡ ts
    → Row (bytes_of ts) c es → asked_by l (Ok (sent n k end (read_command ts))) ≡ some (asked n k c es)
row_asked l end n k at ts {es} {c} there r =
    rw (row_read ts r) (ap (λ (xs : List (List ℕ)). some (asked n k c xs)) (carried_echo c (take end l) at ts there r ∙ row_echo r))

module _ (l : List ℕ) (end : ℕ) where
  abbrev others : (at : ℕ) {w : Placed} {ws : List Placed} → words_at (take end l) at ≡ w ∷ ws → words_at (take end l) (behind w) ≡ ws
  others at there = (first_stands (take end l) at there).others

  words_read : (ws : List Placed) {a : Asked} → words_at (take end l) 1 ≡ ws → Words (bytes_of ws) a → asked_by l (read_words end ws) ≡ some a
  unfolding read_words axis_of head_word
  words_read [] there (bare r) = row_asked l end 0 0 1 [] there r
  words_read (v ∷ []) there (bare r) = rw (first_word r).0 (row_asked l end 0 0 1 (v ∷ []) there r)
  words_read (v ∷ []) there (addressed {n = n} a r) =
      rw (address_starts a, address_read a) (row_asked l end n 0 (behind v) [] (others 1 there) r)
  words_read (v ∷ u ∷ ws) there (bare r) = rw (first_word r).0 (row_asked l end 0 0 1 (v ∷ u ∷ ws) there r)
  words_read (v ∷ u ∷ ws) there (addressed {n = n} a r) =
      rw (address_starts a, address_read a, (first_word r).1) (row_asked l end n 0 (behind v) (u ∷ ws) (others 1 there) r)
  words_read (v ∷ u ∷ ws) there (with_axis {n = n} {k = k} a x r) =
      rw (address_starts a, address_read a, (axis_read x).0, lt-ltb k 10 (axis_read x).1)
      (row_asked l end n k (behind u) ws (others (behind v) (others 1 there)) r)

-- what is read was written
pub no_asked : {A : Type 0} {a : Asked} → none ≡ some a → A
no_asked e = let z : ◌≡◌ {A = ℕ} 0 1 = cc in absurd (omega arith)

axis_is : (v : List ℕ) → axis_digit v < 10 → AxisWord v (axis_digit v)
unfolding axis_digit
axis_is [] h = absurd (omega arith)
axis_is (c ∷ []) h = digit (digit_of 10 c (omega arith) h)
axis_is (c ∷ d ∷ v) h = absurd (omega arith)

some_one : {a b : Asked} → some a ≡ some b → a ≡ b
some_one e = cc

-- the command that the words ts come to
record Told (n k : ℕ) (ts : List (List ℕ)) (a : Asked) : Type 0 where
  command : Command
  row : Row ts command (echo_of command ts)
  is : asked n k command (echo_of command ts) ≡ a

module _ (l : List ℕ) (end : ℕ) where
  told : (n k at : ℕ) (ts : List Placed) (a : Asked) (r : WordsRead) → read_command ts ≡ r → words_at (take end l) at ≡ ts
      → asked_by l (Ok (sent n k end r)) ≡ some a → Told n k (bytes_of ts) a
  told n k at ts a (Err u) q there e = no_asked e
  told n k at ts a (Ok x) q there e =
      let row = row_of x.from ts x.command q in
      record {
        command = x.command;
        row = row;
        is = ap (asked n k x.command) (sym (carried_echo x.command (take end l) at ts there row))
            ∙ ap (λ (i : ℕ). asked n k x.command (carried_by x.command (drop i (take end l)))) (sym (place_of x.from ts x.command q)) ∙ some_one e;
      }

  axis_of_lem : (at : ℕ) (w : List ℕ) (n : ℕ) (t : List Placed) (a : Asked) → words_at (take end l) at ≡ t → AddressWord w n
      → asked_by l (axis_of n end t) ≡ some a → Words (w ∷ bytes_of t) a
  unfolding axis_of
  axis_of_lem at w n [] a there h e = let m = told n 0 at [] a (read_command []) refl there e in rw (← m.is) (addressed h m.row)
  axis_of_lem at w n (v ∷ t) a there h e =
      ⊎_elim (λ i. let m = told n (axis_digit v.bytes) (behind v) t a (read_command t) refl (others l end at there)
      (rw (lt-ltb (axis_digit v.bytes) 10 i) at e) in
      rw (← m.is) (with_axis h (axis_is v.bytes i) m.row))
      (λ i. let m = told n 0 at (v ∷ t) a (read_command (v ∷ t)) refl there (rw (le-ltb (axis_digit v.bytes) 10 i) at e) in
      rw (← m.is) (addressed h m.row))
      (lt_or_le (axis_digit v.bytes) 10)

  words_of : (ws : List Placed) (a : Asked) → words_at (take end l) 1 ≡ ws → asked_by l (read_words end ws) ≡ some a → Words (bytes_of ws) a
  unfolding read_words
  words_of [] a there e = let m = told 0 0 1 [] a (read_command []) refl there e in rw (← m.is) (bare m.row)
  words_of (w ∷ t) a there e = go (starts_number w.bytes) refl e
    where
      address : (u : UnsignedRead) → read_address w.bytes ≡ u → asked_by l (address_of w.start u end t) ≡ some a
          → Words (bytes_of (w ∷ t)) a
      address (Err p) q e = no_asked e
      address (Ok n) q e = axis_of_lem (behind w) w.bytes n t a (others l end 1 there) (address_of_lem w.bytes n q) e

      go : (b : Bool) → starts_number w.bytes ≡ b
          → asked_by l (cond b (address_of w.start (read_address w.bytes) end t) (Ok (sent 0 0 end (read_command (w ∷ t))))) ≡ some a
          → Words (bytes_of (w ∷ t)) a
      go true h e = address (read_address w.bytes) refl e
      go false h e = let m = told 0 0 1 (w ∷ t) a (read_command (w ∷ t)) refl there e in rw (← m.is) (bare m.row)

-- ---- the line
-- the content of a line, of n bytes behind its `/`
module _ (l : List ℕ) (n : ℕ) where
  abbrev s : List ℕ
  s = up_to l n

  content_read : {a : Asked} → Words (cut (take n (drop 1 l))) a → asked_by l (read_content s) ≡ some a
  content_read w = words_read l (length s) (words_at s 1) (content_there l n) (rw (content_words l n) w)

  content_of : (a : Asked) → asked_by l (read_content s) ≡ some a → Words (cut (take n (drop 1 l))) a
  content_of a e = rw (← content_words l n) (words_of l (length s) (words_at s 1) a (content_there l n) e)

written_read : {l : List ℕ} {a : Asked} → Line l a → read_asked l ≡ some a
unfolding read_asked read_line
written_read {l} (line c w k f h) =
    let r = composed_read (composed c k f h) in rw r.frame (content_read l r.size (rw r.words w))

pub together : {l : List ℕ} {ws : List (List ℕ)} {a : Asked} → Composed l ws → Words ws a → Line l a
together (composed c k f h) w = line c w k f h

read_written : (l : List ℕ) (a : Asked) (f : Frame) → frame_of l ≡ f → asked_by l (framed l f) ≡ some a → Line l a
read_written l a (Err n) q e = no_asked e
read_written l a (Ok n) q e = together (composed_of l n q) (content_of l n a e)

-- For every line and every command, the line is read as the command exactly when the spelling rules write that line for it.
pub demand_3 : (l : List ℕ) (a : Asked) → Line l a ↔ (read_asked l ≡ some a)
unfolding read_asked read_line
demand_3 l a = (written_read, read_written l a (frame_of l) refl)

-- No line is written for two commands.
pub one_command : {l : List ℕ} {a b : Asked} → Line l a → Line l b → a ≡ b
one_command p q = cc (written_read p, written_read q)
