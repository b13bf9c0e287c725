-- What the place of a refusal says of a line: order 3's own words, for every line.
-- Assumes nothing.
use Rattle.laws.specs.declared.Refusal.{Refusal}
use Rattle.std.specs.Prelude.{Err, Ok}
use mathlib.Core.Path.{◌≡◌, refl, sym, ap, subst, ◌∙◌}
use mathlib.Core.Logic.{◌⊎◌, inl, inr, ⊎_elim}
use mathlib.Core.Bool.{Bool, true, false, cond}
use mathlib.Core.List.{List, [], ◌∷◌}
use Prim.Native.Nat.{ℕ, zero, suc, ◌+◌, ◌≤◌, ◌<◌}
use native.Mathlib.Omega.{arith}
use lib.ListN.{length, take, drop}
use lib.Seq.{length-take-le, take-take}
use Rattle.laws.specs.Lists.{any}
use Rattle.laws.specs.declared.Refusal.TheVariants.{BadAddress, BadData, BadCommand}
use Rattle.laws.specs.Refusals.{Verdict, ACCEPTED, number_of as told_as, first_of, NOWHERE, in_byte, refusal_at}
use Rattle.laws.proofs.Each.{OneOf}
use Rattle.numbers.specs.Place.{ANumber, AnAddress}
use Rattle.numbers.specs.Reading.{read_address}
use Rattle.numbers.proofs.Places.{address_refused_lem}
use Rattle.words.specs.Cutting.{Placed, bytes_of}
use Rattle.words.proofs.Cut.{one_stands}
use Rattle.command.specs.Commands.{table}
use Rattle.phrase.specs.Reading.{read_command, WordsRead}
use Rattle.phrase.specs.Refusals.{bad_command, bad_data, words_number, words_refusal}
use Rattle.phrase.specs.Place.{words_place, place_told}
use Rattle.phrase.proofs.Refused.{words_refused, words_placed}
use Rattle.phrase.proofs.WordsNumbered.{NumberedWords, no_place, a_place, words_numbered}
use Rattle.phrase.proofs.WentWrong.{WrongAt, wrong_there, wrong_of, its_row, words_wrong}
use Rattle.line.specs.Spelling.{longest_line}
use Rattle.line.specs.Reading.{frame_of, starts_number, read_words, read_line, number_of, place_read, Frame, LineRead, sent}
use Rattle.line.specs.Refusals.{own, words_in, refusal_of}
use Rattle.line.specs.Place.{place_of}
use Rattle.line.proofs.ByWords.{Own, by_words}
use Rattle.line.proofs.EveryLine.{Unframed, too_long, not_line, bad_sum, NumberedFrame, frame_numbered}
use Rattle.line.proofs.Frames.{content_fits}
use Rattle.line.proofs.Refused.{line_refused, line_placed, line_words_lem}

-- ---- the words of a line, the number of their refusal, and its place
data WordsTold (ws : List Placed) : Verdict → ℕ → Type 0 where
  address : {p : ℕ} → WrongAt AnAddress ws p → WordsTold ws (Err BadAddress) p
  number : {p : ℕ} → WrongAt ANumber ws p → WordsTold ws (Err BadData) p
  no_row : {p : ℕ} → p ≡ NOWHERE → any (its_row (own ws)) table ≡ false → WordsTold ws (Err BadData) p
  other : {v : Verdict} → (v ≡ Err BadAddress → ⊥) → (v ≡ Err BadData → ⊥) → WordsTold ws v NOWHERE

-- 11 says that no row fits
refused_data : (ws : List (List ℕ)) → words_refusal ws ≡ Err BadData → bad_data ws ≡ true
unfolding words_refusal first_of
refused_data ws e = go (bad_command ws) (bad_data ws) e
  where
    go : (a b : Bool) → ◌≡◌ {A = Verdict} (cond a (Err BadCommand) (cond b (Err BadData) ACCEPTED)) (Err BadData) → b ≡ true
    go true b e = absurd (omega (arith, ap told_as e))
    go false true e = refl
    go false false e = absurd (omega (arith, ap told_as e))

WordsTell : List Placed → LineRead → Type 0
WordsTell ws r = WordsTold ws (number_of r) (place_read r)

own_told : (ws ts : List Placed) (n k end : ℕ) → Own ws ts → WordsTell ws (Ok (sent n k end (read_command ts)))
unfolding WordsTell
own_told ws ts n k end o = go (read_command ts) (words_numbered ts) (words_placed ts) (words_refused ts)
  where
    go : (r : WordsRead) → NumberedWords r → place_told r ≡ words_place ts → words_number r ≡ words_refusal (bytes_of ts)
        → WordsTold ws (number_of (Ok (sent n k end r))) (place_told r)
    go (Ok x) h q m = other {v = ACCEPTED} (λ z. omega (arith, ap told_as z)) (λ z. omega (arith, ap told_as z))
    go (Err e) no_place q r = other {v = Err BadCommand} (λ z. omega (arith, ap told_as z)) (λ z. omega (arith, ap told_as z))
    go (Err e) a_place q r =
        ⊎_elim (λ x. number (wrong_of o.among (rw (← q) at x))) (λ x. no_row (q ∙ x.0) (rw o.are x.1))
        (words_wrong ts (refused_data (bytes_of ts) (sym r)))

wrong_told : (w : Placed) (t : List Placed) (p : ℕ) → starts_number w.bytes ≡ true → read_address w.bytes ≡ Err p
    → WordsTell (w ∷ t) (Err (refusal_at BadAddress (in_byte (w.start + p))))
unfolding WordsTell
wrong_told w t p h q = let x = (address_refused_lem w.bytes p).0 q in address (wrong_there OneOf.first x.0 x.1)

words_told : (end : ℕ) (ws : List Placed) → WordsTold ws (number_of (read_words end ws)) (place_read (read_words end ws))
unfolding WordsTell
words_told = by_words WordsTell wrong_told own_told

-- ---- the line
-- a word of the line which is no W refuses at the place p, and stands in the line at the place that it has
pub record WrongIn (W : List ℕ → Type 0) (l : List ℕ) (p : ℕ) : Type 0 where
  pub at : WrongAt W (words_in l) p
  pub place : p ≡ at.word.start + at.before
  pub there : take (length at.word.bytes) (drop at.word.start l) ≡ at.word.bytes
  pub within : p < length l
  pub short : length l ≤ longest_line

-- What a place says of a line: with 4, its address word refuses there; with 11, a number of its row does; and where none is told, the
-- number is not 4, and either not 11 or no row of as many words has all its other words in place.
pub data PlaceTold (l : List ℕ) : ℕ → Type 0 where
  address : {p : ℕ} → refusal_of l ≡ Err BadAddress → WrongIn AnAddress l p → PlaceTold l p
  number : {p : ℕ} → refusal_of l ≡ Err BadData → WrongIn ANumber l p → PlaceTold l p
  nowhere : (refusal_of l ≡ Err BadAddress → ⊥) → (refusal_of l ≡ Err BadData → any (its_row (own (words_in l))) table ≡ false) → PlaceTold l NOWHERE

-- a part of a front of the line is that part of the line
front_part : (k i m : ℕ) (l : List ℕ) → i + k ≤ m → take k (drop i (take m l)) ≡ take k (drop i l)
front_part k zero m l h = take-take k m l (omega arith)
front_part k (suc i) zero l h = absurd (omega arith)
front_part k (suc i) (suc m) [] h = refl
front_part k (suc i) (suc m) (c ∷ l) h = front_part k i m l (omega arith)

-- a line whose frame is right, with a content of n bytes
module _ (l : List ℕ) (n : ℕ) (q : frame_of l ≡ Ok n) where
  abbrev s : List ℕ
  s = take (suc n) l

  wrong_in : {W : List ℕ → Type 0} {p : ℕ} → WrongAt W (words_in l) p → WrongIn W l p
  wrong_in {p = p} x =
      let fits = content_fits l n (sym q) refl in
      let size : length s ≡ suc n = length-take-le (suc n) l (omega (arith, fits.0)) in
      let stands = one_stands s 1 (sym (line_words_lem l n q)) x.of in
      let last = stands.0 in
      let place : p ≡ x.word.start + x.before = omega (arith, x.place, x.inside, last, size, fits.0, fits.1) in
      record {
        at = x;
        there = sym (front_part (length x.word.bytes) x.word.start (suc n) l (omega (arith, last, size))) ∙ stands.1;
        place = place;
        within = omega (arith, place, x.inside, last, size, fits.0);
        short = fits.1;
      }

  lift : {m : Verdict} {p : ℕ} → refusal_of l ≡ m → WordsTold (words_in l) m p → PlaceTold l p
  lift e (address x) = PlaceTold.address e (wrong_in x)
  lift e (number x) = PlaceTold.number e (wrong_in x)
  lift e (no_row z none) = rw z (nowhere (λ a. omega (arith, ap told_as (sym a ∙ e))) (λ d. none))
  lift e (other a d) = nowhere (λ z. a (sym e ∙ z)) (λ z. absurd (d (sym e ∙ z)))

  content_told : PlaceTold l (place_of l)
  unfolding read_line
  content_told =
      let r : read_line l ≡ read_words (length s) (words_in l) = rw (q, line_words_lem l n q) in
      lift (sym (line_refused l) ∙ ap number_of r)
      (subst (WordsTold (words_in l) (number_of (read_words (length s) (words_in l)))) (sym (ap place_read r) ∙ line_placed l)
      (words_told (length s) (words_in l)))

unframed_told : (l : List ℕ) (n : Refusal) → frame_of l ≡ Err n → Unframed (Err n) → PlaceTold l (place_of l)
unfolding read_line
unframed_told l n q u =
    let r : read_line l ≡ Err (refusal_at n NOWHERE) = rw q in
    let e : Err n ≡ refusal_of l = sym (ap number_of r) ∙ line_refused l in
    subst (PlaceTold l) (sym (ap place_read r) ∙ line_placed l)
    (nowhere (λ z. small u (e ∙ z)) (λ z. absurd (large u (e ∙ z))))
  where
    small : {m : Verdict} → Unframed m → m ≡ Err BadAddress → ⊥
    small too_long z = omega (arith, ap told_as z)
    small not_line z = omega (arith, ap told_as z)
    small bad_sum z = omega (arith, ap told_as z)

    large : {m : Verdict} → Unframed m → m ≡ Err BadData → ⊥
    large too_long z = omega (arith, ap told_as z)
    large not_line z = omega (arith, ap told_as z)
    large bad_sum z = omega (arith, ap told_as z)

-- For every line, the place that is told says what order 3 says.
pub went_wrong : (l : List ℕ) → PlaceTold l (place_of l)
went_wrong l = go (frame_of l) refl (frame_numbered l)
  where
    go : (f : Frame) → frame_of l ≡ f → NumberedFrame f → PlaceTold l (place_of l)
    go (Err n) q u = unframed_told l n q u
    go (Ok n) q u = content_told l n q

-- so a place that is told is one of the line's
pub place_short : (l : List ℕ) → (place_of l ≡ NOWHERE) ⊎ (place_of l < longest_line)
place_short l = go (went_wrong l)
  where
    go : {p : ℕ} → PlaceTold l p → (p ≡ NOWHERE) ⊎ (p < longest_line)
    go (PlaceTold.address e x) = inr (omega (arith, x.within, x.short))
    go (PlaceTold.number e x) = inr (omega (arith, x.within, x.short))
    go (nowhere a d) = inl refl
