-- A line that is read in two steps, its opening and what stands behind it, is read as specs/Reading.antt says.
-- Assumes nothing.
use Rattle.std.specs.Prelude.{Err, Ok, Result}
use Rattle.std.specs.Result.{MatchResult, IsErrAnd}
use mathlib.Core.Path.{◌≡◌, refl, sym, ap, ◌∙◌}
use mathlib.Core.Logic.{⊎_elim}
use mathlib.Core.Bool.{Bool, true, false}
use mathlib.Core.List.{List, [], ◌∷◌}
use Prim.Native.Nat.{ℕ, suc, ◌+◌, ◌-◌}
use native.Mathlib.Numerals.{add-one}
use native.Mathlib.Omega.{arith}
use mir.Syntax.{w64}
use mir.Val.{Fits}
use lib.ListN.{length, take, drop, length-take}
use Rattle.laws.specs.Refusals.{NOWHERE, refusal_at}
use Rattle.laws.proofs.Bools.{clash}
use Rattle.laws.proofs.Order.{eq_or_ne}
use Rattle.numbers.specs.Reading.{read_address, UnsignedRead}
use Rattle.numbers.proofs.Places.{address_refused_lem}
use Rattle.words.specs.Cutting.{Placed, behind, bytes_of, words_at, head_word, word_at}
use Rattle.words.specs.declared.Word.{Word}
use Rattle.words.proofs.Cut.{word_whole, word_within, words_empty, words_full, word_behind, first_stands}
use Rattle.phrase.specs.Reading.{read_command}
use Rattle.line.specs.declared.Addressed.{Addressed}
use Rattle.line.specs.Reading.{Frame, frame_of, starts_number, axis_of, address_of, read_words, read_content, framed, read_line, LineRead, sent}
use Rattle.laws.specs.declared.Refusal.{Refusal}
use Rattle.laws.specs.declared.RefusedAt.{RefusedAt}
use Rattle.line.specs.declared.Opening.{Opening}
use Rattle.line.specs.declared.Opening.TheVariants.{Bare, To}
use Rattle.line.specs.Opening.{AddressPlaces, addressee, open_first, open_words, opened, open_line, read_on}
use Rattle.line.proofs.Steps.{starts_none, take_whole}

-- ---- what the code opens
bare_first : (end : ℕ) (ws : List Placed) → starts_number (head_word (bytes_of ws)) ≡ false → Ok (Bare end) ≡ open_first end ws
unfolding open_first head_word
bare_first end [] h = refl
bare_first end (w ∷ ws) h = rw h

module _ (s : List ℕ) {b : Bool} (is : b ≡ starts_number (head_word (bytes_of (words_at s 1)))) where
  pub open_address : b ≡ true → {w : Word} → w ≡ word_at s 1
      → {u : UnsignedRead} → u ≡ read_address (take (w.end - w.start) (drop w.start s))
      → {r : Result Opening RefusedAt} → r ≡ addressee w.start u w.end (length s) → r ≡ open_words s
  unfolding open_first head_word
  open_address h {w} q e z =
      ⊎_elim (λ n. clash (sym is ∙ h) (rw (words_empty s 1 q n) starts_none))
      (λ n. let full = words_full s 1 q n in
      rw (full, rw full at (sym is ∙ h), ← e, word_behind s 1 q n) z)
      (eq_or_ne w.start w.end)

  pub open_bare : b ≡ false → Ok (Bare (length s)) ≡ open_words s
  open_bare h = bare_first (length s) (words_at s 1) (sym is ∙ h)

-- where the address word refuses is a place of the line
pub address_places : (s : List ℕ) {w : Word} → w ≡ word_at s 1 → Fits w64 (length s)
    → {u : UnsignedRead} → u ≡ read_address (take (w.end - w.start) (drop w.start s)) → AddressPlaces w.start u
address_places s {w} q size {u} e = go u e
  where
    go : (u : UnsignedRead) → u ≡ read_address (take (w.end - w.start) (drop w.start s)) → AddressPlaces w.start u
    go (Ok n) e = tt
    go (Err p) e =
        let first = take (w.end - w.start) (drop w.start s) in
        let inside = ((address_refused_lem first p).0 (sym e)).1.inside in
        let long = length-take (w.end - w.start) (drop w.start s) in
        record { fits = omega (arith, inside, long, word_whole s 1 q, word_within s 1 q, size.fits) }

module _ (l : List ℕ) {f : Frame} (is : f ≡ frame_of l) where
  -- m is what is refused, with no place
  pub open_silent : {m : Result ℕ RefusedAt} (e : RefusedAt) → m ≡ Err e
      → MatchResult f (λ n. m ≡ Ok n) (λ n. IsErrAnd m (λ r. r ≡ refusal_at n NOWHERE)) → Err e ≡ open_line l
  unfolding open_line
  open_silent {m} e h cases = rw (← is) (go f (rw h at cases))
    where
      go : (f : Frame) → MatchResult f (λ n. ◌≡◌ {A = Result ℕ RefusedAt} (Err e) (Ok n)) (λ n. IsErrAnd {T = ℕ} (Err e) (λ r. r ≡ refusal_at n NOWHERE)) → Err e ≡ opened l f
      go (Ok n) k = let z : ◌≡◌ {A = ℕ} 0 1 = cc in absurd (omega arith)
      go (Err n) k = ap Err k

  pub open_content : (n : ℕ) {o : Result Opening RefusedAt} → f ≡ Ok n → o ≡ open_words (take (n + 1) l) → o ≡ open_line l
  unfolding open_line
  open_content n h e = rw (sym is ∙ h) (e ∙ ap (λ (k : ℕ). open_words (take k l)) (add-one n))

-- ---- what the code reads behind it
module _ (l : List ℕ) {o : Result Opening RefusedAt} where
  pub on_bare : (end : ℕ) → o ≡ Ok (Bare end) → (t : List ℕ) → t ≡ take end l
      → {r : Addressed} → r ≡ sent 0 0 (length t) (read_command (words_at t 1)) → Ok r ≡ read_on l o
  on_bare end e t q p = rw (e, ← q) (ap Ok p)

  pub on_to : (n at end : ℕ) → o ≡ Ok (To n at end) → (t : List ℕ) → t ≡ take end l
      → {r : LineRead} → r ≡ axis_of n (length t) (words_at t at) → r ≡ read_on l o
  on_to n at end e t q p = rw (e, ← q) p

-- ---- the two steps together
content_opened : (l s : List ℕ) → take (length s) l ≡ s → read_on l (open_words s) ≡ read_content s
unfolding open_first read_words
content_opened l s e = go (words_at s 1) refl
  where
    go : (ws : List Placed) → words_at s 1 ≡ ws → read_on l (open_first (length s) ws) ≡ read_words (length s) ws
    go [] q = rw (e, q)
    go (w ∷ t) q = by (starts_number w.bytes) refl
      where
        address : (u : UnsignedRead) → read_address w.bytes ≡ u
            → read_on l (addressee w.start u (behind w) (length s)) ≡ address_of w.start u (length s) t
        address (Err p) r = refl
        address (Ok n) r = rw (e, (first_stands s 1 q).others)

        by : (b : Bool) → starts_number w.bytes ≡ b → read_on l (open_first (length s) (w ∷ t)) ≡ read_words (length s) (w ∷ t)
        by true h = rw h (address (read_address w.bytes) refl)
        by false h = rw (h, e, q)

frame_opened : (l : List ℕ) (f : Frame) → read_on l (opened l f) ≡ framed l f
frame_opened l (Err n) = refl
frame_opened l (Ok n) = content_opened l (take (suc n) l) (take_whole (suc n) l)

-- For every line, its opening and what is read behind it are what the line is read as.
pub opened_read : (l : List ℕ) → read_on l (open_line l) ≡ read_line l
unfolding open_line read_line
opened_read l = frame_opened l (frame_of l)
