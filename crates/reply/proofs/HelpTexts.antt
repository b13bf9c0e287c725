-- The texts of `help commands` and their info lines: how many they are, that each fits, and that a loop writes them all.
-- Assumes nothing.
use mathlib.Core.Path.{◌≡◌, refl, sym, ap, subst, ◌∙◌}
use mathlib.Core.Bool.{Bool, true, false}
use mathlib.Core.List.{List, [], ◌∷◌, ◌++◌, map, append-nil, append_assoc}
use Prim.Native.Nat.{ℕ, zero, suc, ◌+◌, ◌*◌, ◌≤◌, ◌<◌}
use native.Mathlib.Numerals.{add-one}
use native.Mathlib.Omega.{arith}
use lib.ListN.{length, get_or, take, length-append, length-map}
use lib.Seq.{take-suc, take_all}
use borrow.Author.Tests.{leb-true}
use lib.Dec.{leb}
use Rattle.laws.specs.Lists.{fold, all}
use Rattle.laws.specs.Text.{text}
use Rattle.laws.proofs.Bools.{and_left, and_right}
use Rattle.laws.proofs.Each.{Each, none, more}
use Rattle.laws.proofs.Lists.{beyond}
use Rattle.laws.proofs.Spaced.{trail}
use Rattle.buffer.specs.Wrote.{Wrote}
use Rattle.buffer.proofs.Wrote.{◌▸◌, wrote_none}
use Rattle.reply.specs.Help.{help_texts, help_text, longest_answer, longest_infos, info_lines}
use Rattle.reply.specs.Reply.{longest_reply, text_words, info, joined}
use Rattle.reply.proofs.Room.{most_text_lem, info_length}

pub texts_eleven : length help_texts ≡ 11
unfolding help_texts
texts_eleven = refl

pub answer_room : longest_reply * suc (length help_texts) ≡ longest_answer
unfolding help_texts
answer_room = refl

-- beyond the last text nothing is written
pub text_none : (i : ℕ) → 11 ≤ i → [] ≡ trail (text_words (help_text i))
unfolding trail
text_none i h = rw (← beyond help_texts i [] (rw texts_eleven h)) refl

-- ---- each text is short, so that its line fits: a test that antt computes
abbrev short : List ℕ → Bool
short t = leb (length t) 85

texts_tested : all short help_texts ≡ true
unfolding fold help_texts text
texts_tested = refl

some_short : (ts : List (List ℕ)) (i : ℕ) → all short ts ≡ true → length (get_or ts i []) ≤ 85
unfolding fold
some_short [] i e = omega arith
some_short (t ∷ ts) zero e = leb-true (length t) 85 (and_left (short t) (all short ts) e)
some_short (t ∷ ts) (suc i) e = some_short ts i (and_right (short t) (all short ts) e)

pub text_fits : (sum : Bool) (i : ℕ) → length (help_text i) ≤ most_text_lem sum
text_fits true i = some_short help_texts i texts_tested
text_fits false i = omega (arith, some_short help_texts i texts_tested)

-- ---- lines one behind the other
joined_append : (ss ts : List (List ℕ)) → joined (ss ++ ts) ≡ joined ss ++ joined ts
unfolding joined fold
joined_append [] ts = refl
joined_append (s ∷ ss) ts = ap (λ (l : List ℕ). s ++ l) (joined_append ss ts) ∙ sym (append_assoc s (joined ss) (joined ts))

joined_one : (t : List ℕ) → joined (t ∷ []) ≡ t
unfolding joined fold
joined_one t = append-nil t

pub joined_short : (ts : List (List ℕ)) → Each (λ (t : List ℕ). length t ≤ longest_reply) ts → length (joined ts) ≤ longest_reply * length ts
unfolding joined fold
joined_short [] none = omega arith
joined_short (t ∷ ts) (more h hs) = rw (length-append t (joined ts)) (omega (arith, joined_short ts hs))

each_info : (address : ℕ) (sum : Bool) (ts : List (List ℕ)) → all short ts ≡ true
    → Each (λ (t : List ℕ). length t ≤ longest_reply) (map (info address 0 sum) ts)
unfolding fold
each_info address sum [] e = none
each_info address sum (t ∷ ts) e =
    more (info_length address 0 (omega arith) sum t (fits sum (leb-true (length t) 85 (and_left (short t) (all short ts) e))))
    (each_info address sum ts (and_right (short t) (all short ts) e))
  where
    fits : (b : Bool) {n : ℕ} → n ≤ 85 → n ≤ most_text_lem b
    fits true h = h
    fits false h = omega arith

-- all of them together have eleven times 96 bytes at most
pub infos_short : (address : ℕ) (sum : Bool) → length (joined (info_lines address sum)) ≤ longest_infos
unfolding info_lines
infos_short address sum =
    let most = joined_short (map (info address 0 sum) help_texts) (each_info address sum help_texts texts_tested) in
    omega (arith, most, length-map help_texts (info address 0 sum), texts_eleven)

-- ---- a loop that writes them
module _ (address : ℕ) (sum : Bool) where
  abbrev lines : List (List ℕ)
  lines = info_lines address sum

  count : length lines ≡ 11
  unfolding info_lines
  count = length-map help_texts (info address 0 sum) ∙ texts_eleven

  -- the lines before the place i
  abbrev pub before : ℕ → List ℕ
  before i = joined (take i lines)

  line_at : (i : ℕ) → i < 11 → get_or lines i [] ≡ info address 0 sum (help_text i)
  unfolding info_lines
  line_at i h = go help_texts i (rw texts_eleven h)
    where
      go : (ts : List (List ℕ)) (i : ℕ) → i < length ts → get_or (map (info address 0 sum) ts) i [] ≡ info address 0 sum (get_or ts i [])
      go [] i h = absurd (omega arith)
      go (t ∷ ts) zero h = refl
      go (t ∷ ts) (suc i) h = go ts i (omega arith)

  pub infos_first : (b : List ℕ) (at : ℕ) → Wrote b at (before 0) b at
  unfolding joined fold
  infos_first b at = wrote_none b at

  pub infos_more : {b : List ℕ} {at : ℕ} {c : List ℕ} {r : ℕ} {d : List ℕ} {q : ℕ} (i : ℕ) → i < 11 → Wrote b at (before i) c r
      → Wrote c r (info address 0 sum (help_text i)) d q → Wrote b at (before (i + 1)) d q
  infos_more i h v w =
      rw (add-one, take-suc lines i [] (rw count h), joined_append (take i lines) (get_or lines i [] ∷ []), joined_one, line_at i h) (v ▸ w)

  pub infos_end : {b : List ℕ} {at : ℕ} {c : List ℕ} {r : ℕ} (i : ℕ) → 11 ≤ i → Wrote b at (before i) c r → Wrote b at (joined lines) c r
  infos_end {b} {at} {c} {r} i h v = subst (λ (ts : List (List ℕ)). Wrote b at (joined ts) c r) (take_all i lines (rw count h)) v
