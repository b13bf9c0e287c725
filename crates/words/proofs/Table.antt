-- A word's meaning in a table is the one at the word's place; and it is that of the entry which has the word.
-- Assumes nothing.
use mathlib.Core.Path.{◌≡◌, refl, sym, ◌∙◌}
use mathlib.Core.Bool.{Bool, true, false}
use mathlib.Core.List.{List, [], ◌∷◌, map}
use Prim.Native.Nat.{ℕ, zero, suc, ◌≤◌}
use native.Mathlib.Omega.{arith}
use lib.ListN.{length}
use Rattle.laws.specs.Text.{same}
use Rattle.laws.proofs.Each.{Each, none, more}
use Rattle.laws.proofs.Same.{same_true}
use Rattle.words.specs.Find.{index, Entry, meaning_of, entry_at}
use Rattle.words.proofs.Index.{index_here, index_past}

module _ {X : Type 0} (d : X) where
  abbrev words_of : List (Entry X) → List (List ℕ)
  words_of es = map (λ (e : Entry X). e.word) es

  meaning_here : (w : List ℕ) (e : Entry X) (es : List (Entry X)) → same w e.word ≡ true → meaning_of d w (e ∷ es) ≡ e.meaning
  unfolding meaning_of
  meaning_here w e es h = rw h

  meaning_past : (w : List ℕ) (e : Entry X) (es : List (Entry X)) → same w e.word ≡ false → meaning_of d w (e ∷ es) ≡ meaning_of d w es
  unfolding meaning_of
  meaning_past w e es h = rw h

  meaning_none : (w : List ℕ) → meaning_of d w [] ≡ d
  unfolding meaning_of
  meaning_none w = refl

  -- by its place, as the code has it
  meaning_place : (w : List ℕ) (es : List (Entry X)) → meaning_of d w es ≡ entry_at d (index w (words_of es)) es
  meaning_place w [] = meaning_none w
  meaning_place w (e ∷ es) = go (same w e.word) refl (meaning_place w es)
    where
      go : (b : Bool) → same w e.word ≡ b → meaning_of d w es ≡ entry_at d (index w (words_of es)) es
          → meaning_of d w (e ∷ es) ≡ entry_at d (index w (words_of (e ∷ es))) (e ∷ es)
      go true h ih = rw (index_here w e.word (words_of es) h) (meaning_here w e es h)
      go false h ih = rw (index_past w e.word (words_of es) h) (meaning_past w e es h ∙ ih)

  pub meaning_at : (w : List ℕ) (es : List (Entry X)) (k : ℕ) → k ≡ index w (words_of es) → entry_at d k es ≡ meaning_of d w es
  meaning_at w es k e = rw e (sym (meaning_place w es))

  pub past_table : (es : List (Entry X)) (k : ℕ) → length es ≤ k → d ≡ entry_at d k es
  past_table [] k h = refl
  past_table (e ∷ es) zero h = absurd (omega arith)
  past_table (e ∷ es) (suc k) h = past_table es k (omega arith)

  -- a meaning r is that of an entry which has the word, or there is no such entry: so what holds of these words holds of this one
  pub by_entry : (P : List ℕ → Type 0) {r : X} (w : List ℕ) (es : List (Entry X)) → meaning_of d w es ≡ r → (d ≡ r → P w)
      → Each (λ (e : Entry X). e.meaning ≡ r → P e.word) es → P w
  by_entry P w [] q missing none = missing (sym (meaning_none w) ∙ q)
  by_entry P {r} w (e ∷ es) q missing (more h hs) = go (same w e.word) refl (λ k. by_entry P w es k missing hs)
    where
      go : (b : Bool) → same w e.word ≡ b → (meaning_of d w es ≡ r → P w) → P w
      go true k rest = rw (same_true w e.word k) (h (sym (meaning_here w e es k) ∙ q))
      go false k rest = rest (sym (meaning_past w e es k) ∙ q)
