-- The words that a command carries, which the reader tells by their place, are those behind the command's first two; and no more than
-- 74 bytes lie between the places that it tells. Assumes nothing.
use Rattle.laws.specs.declared.Refusal.{Refusal}
use Rattle.std.specs.Prelude.{Err, Ok, is_err}
use mathlib.Core.Path.{◌≡◌, refl, sym, ap, ◌∙◌}
use mathlib.Core.Bool.{true≢false, Bool, true, false, cond}
use mathlib.Core.List.{List, [], ◌∷◌}
use Prim.Native.Nat.{ℕ, zero, suc, ◌+◌, ◌≤◌}
use native.Mathlib.Omega.{arith}
use lib.Dec.{ltb}
use lib.ListN.{length, take, drop, length-take, length-drop}
use lib.Seq.{length-take-le}
use Rattle.numbers.specs.Reading.{read_address, UnsignedRead}
use Rattle.words.specs.Cutting.{Placed, behind, bytes_of, words_at, cut}
use Rattle.words.proofs.Cut.{bytes_cut, first_stands}
use Rattle.command.specs.declared.Command.{Command}
use Rattle.command.specs.Commands.{carries_words, echo_of}
use Rattle.phrase.specs.Spelling.{Row}
use Rattle.phrase.specs.Reading.{read_command, worded, WordsRead}
use Rattle.phrase.proofs.Rows.{behind_two, echo_place, Begins, begins, row_of, row_begins, place_of}
use Rattle.line.specs.Reading.{Frame, frame_of, starts_number, axis_digit, axis_of, address_of, read_words, framed, read_line, carried_by, LineRead, sent}
use Rattle.line.proofs.Frames.{content_fits}
use Rattle.line.proofs.Steps.{behind_slash, take_whole}
use Rattle.laws.specs.Refusals.{refusal_at}

-- a command's first two words, from `at` on in s: behind them stand the others, and they take up room
two_behind : (s : List ℕ) (at : ℕ) (ts : List Placed) → words_at s at ≡ ts → Begins ts
    → (cut (drop (behind_two ts) s) ≡ drop 2 (bytes_of ts)) × (at + 6 ≤ behind_two ts)
two_behind s at ts there (begins v w vs long) =
    let first = first_stands s at there in
    let second = first_stands s (behind v) first.others in (
      sym (bytes_cut (behind w) (drop (behind w) s)) ∙ ap bytes_of second.others,
      omega (arith, first.from, long, second.from, second.some),
    )

pub carried_echo : (c : Command) (s : List ℕ) (at : ℕ) (ts : List Placed) {es : List (List ℕ)} → words_at s at ≡ ts → Row (bytes_of ts) c es
    → carried_by c (drop (echo_place c ts) s) ≡ echo_of c (bytes_of ts)
unfolding echo_of
carried_echo c s at ts there r = go (carries_words c) refl
  where
    go : (t : Bool) → carries_words c ≡ t → cond t (cut (drop (cond t (behind_two ts) 0) s)) [] ≡ cond t (drop 2 (bytes_of ts)) []
    go true e = (two_behind s at ts there (row_begins ts r e)).0
    go false e = refl

-- the content of a line l, of n bytes behind its `/`
module _ (l : List ℕ) (n : ℕ) where
  abbrev pub up_to : List ℕ
  up_to = take (suc n) l

  pub content_words : bytes_of (words_at up_to 1) ≡ cut (take n (drop 1 l))
  content_words = bytes_cut 1 (drop 1 up_to) ∙ ap cut (behind_slash n l)

  pub content_there : words_at (take (length up_to) l) 1 ≡ words_at up_to 1
  content_there = rw (take_whole (suc n) l)

drop_more : (i : ℕ) (ws : List (List ℕ)) {vs : List (List ℕ)} {w : List ℕ} → drop i ws ≡ w ∷ vs → drop (suc i) ws ≡ vs
drop_more zero [] e = let z : ◌≡◌ {A = ℕ} 0 1 = cc in absurd (omega arith)
drop_more zero (v ∷ ws) e = cc
drop_more (suc i) [] e = let z : ◌≡◌ {A = ℕ} 0 1 = cc in absurd (omega arith)
drop_more (suc i) (v ∷ ws) e = drop_more i ws e

-- the words es of a command c in a line l: they are of its content, and stand in a part of it of 74 bytes at most
pub record Carried (l : List ℕ) (c : Command) (es : List (List ℕ)) : Type 0 where
  pub size : ℕ
  pub frame : frame_of l ≡ Ok size
  pub skip : ℕ
  pub words : es ≡ echo_of c (drop skip (cut (take size (drop 1 l))))
  pub part : List ℕ
  pub parted : es ≡ carried_by c part
  pub short : carries_words c ≡ true → length part ≤ 74

-- a command c, told with the place `from`, in a content that ends at `end`
module _ (l : List ℕ) (a k end from : ℕ) (c : Command) where
  abbrev is : LineRead
  is = Ok (sent a k end (Ok (worded c from)))

  no_command : {n : Refusal} {p : ℕ} → ◌≡◌ {A = LineRead} (Err (refusal_at n p)) is → {A : Type 0} → A
  no_command e = absurd (true≢false (ap is_err e))

  -- what is read of a line is read once
  abbrev ends_read : LineRead → ℕ
  ends_read (Ok x) = x.end
  ends_read (Err e) = 0

  abbrev words_read : LineRead → WordsRead
  words_read (Ok x) = x.words
  words_read (Err e) = Err e

  -- its words stand behind some others of ws, and what it carries behind two more
  record Skipped (e : ℕ) (ws : List (List ℕ)) : Type 0 where
    ends : e ≡ end
    skip : ℕ
    words : carried_by c (drop from (take end l)) ≡ echo_of c (drop skip ws)
    far : carries_words c ≡ true → 7 ≤ from

  module _ (e : ℕ) (ws : List (List ℕ)) where
    found : (at i n j : ℕ) (ts : List Placed) → 1 ≤ at → words_at (take e l) at ≡ ts → drop i ws ≡ bytes_of ts
        → Ok (sent n j e (read_command ts)) ≡ is → Skipped e ws
    found at i n j ts low there q h =
        let r : read_command ts ≡ Ok (worded c from) = ap words_read h in
        let m : e ≡ end = ap ends_read h in
        let row = row_of from ts c r in
        let place : from ≡ echo_place c ts = place_of from ts c r in
        record {
          ends = m;
          skip = i;
          words = rw (q, ← m, place) (carried_echo c (take e l) at ts there row);
          far = λ w. rw (place, w) (omega (arith, (two_behind (take e l) at ts there (row_begins ts row w)).1));
        }

    by_axis : (at i n : ℕ) (t : List Placed) → 1 ≤ at → words_at (take e l) at ≡ t → drop i ws ≡ bytes_of t → axis_of n e t ≡ is → Skipped e ws
    unfolding axis_of
    by_axis at i n [] low there q h = found at i n 0 [] low there q h
    by_axis at i n (w ∷ t) low there q h = go (ltb (axis_digit w.bytes) 10) h
      where
        go : (x : Bool) → cond x (Ok (sent n (axis_digit w.bytes) e (read_command t))) (Ok (sent n 0 e (read_command (w ∷ t)))) ≡ is
            → Skipped e ws
        go true h =
            let first = first_stands (take e l) at there in
            found (behind w) (suc i) n _ t (omega (arith, first.from)) first.others (drop_more i ws q) h
        go false h = found at i n 0 (w ∷ t) low there q h

  by_words : (e : ℕ) (ws : List Placed) → words_at (take e l) 1 ≡ ws → read_words e ws ≡ is → Skipped e (bytes_of ws)
  unfolding read_words
  by_words e [] there h = found e [] 1 0 0 0 [] (omega arith) there refl h
  by_words e (w ∷ t) there h = go (starts_number w.bytes) h
    where
      address : (u : UnsignedRead) → address_of w.start u e t ≡ is → Skipped e (bytes_of (w ∷ t))
      address (Err p) h = no_command h
      address (Ok n) h =
          let first = first_stands (take e l) 1 there in
          by_axis e (bytes_of (w ∷ t)) (behind w) 1 n t (omega (arith, first.from)) first.others refl h

      go : (x : Bool) → cond x (address_of w.start (read_address w.bytes) e t) (Ok (sent 0 0 e (read_command (w ∷ t)))) ≡ is
          → Skipped e (bytes_of (w ∷ t))
      go true h = address (read_address w.bytes) h
      go false h = found e (bytes_of (w ∷ t)) 1 0 0 0 (w ∷ t) (omega arith) there refl h

  by_frame : (f : Frame) → frame_of l ≡ f → framed l f ≡ is → Carried l c (carried_by c (drop from (take end l)))
      × (carries_words c ≡ true → end ≤ from + 74)
  by_frame (Err n) q h = no_command h
  by_frame (Ok n) q h =
      let fits = content_fits l n (sym q) refl in
      let w = by_words (length (up_to l n)) (words_at (up_to l n) 1) (content_there l n) h in
      let size : length (up_to l n) ≡ suc n = length-take-le (suc n) l (omega (arith, fits.0)) in
      let part = drop from (take end l) in
      let near : carries_words c ≡ true → end ≤ from + 74 = λ h. omega (arith, w.far h, fits.0, fits.1, size, w.ends) in
      let short : carries_words c ≡ true → length part ≤ 74 = λ h. rw (length-drop, length-take) (omega (arith, near h)) in (
        record {
          size = n;
          frame = q;
          skip = w.skip;
          words = rw (content_words l n) at w.words;
          part = part;
          parted = refl;
          short = short;
        },
        near,
      )

  -- For every line: what a command that is read from it carries are words of its content.
  pub carried_of : read_line l ≡ is → Carried l c (carried_by c (drop from (take end l)))
  unfolding read_line
  carried_of h = (by_frame (frame_of l) refl h).0

  pub carried_near : read_line l ≡ is → carries_words c ≡ true → end ≤ from + 74
  unfolding read_line
  carried_near h = (by_frame (frame_of l) refl h).1
