-- A word among others: what holds of each of them, and of a word that differs from all, holds of every word; the words of each table differ.
-- Assumes nothing.
use mathlib.Core.Path.{◌≡◌, refl}
use mathlib.Core.Bool.{Bool, true, false}
use mathlib.Core.List.{List, [], ◌∷◌, map}
use Prim.Native.Nat.{ℕ}
use Rattle.laws.specs.Text.{text, same}
use Rattle.laws.proofs.Each.{Each, none, more}
use Rattle.laws.proofs.Same.{same_true}
use Rattle.words.specs.Find.{Entry, index}
use Rattle.words.proofs.Index.{distinct}
use Rattle.command.specs.Settings.{axis_settings, device_settings, name_of}
use Rattle.phrase.specs.Reading.{firsts, moves, tools, parkings, device_names, names}

-- what holds of each element, listed in order
infixr 40 ◌also◌
pub ◌also◌ : {X : Type 0} {P : X → Type 0} {x : X} {xs : List X} → P x → Each P xs → Each P (x ∷ xs)
h also hs = more h hs

abbrev pub Differs : List ℕ → List (List ℕ) → Type 0
Differs w [] = Unit
Differs w (v ∷ vs) = (same w v ≡ false) × Differs w vs

pub among : (P : List ℕ → Type 0) (w : List ℕ) {vs : List (List ℕ)} → Each P vs → (Differs w vs → P w) → P w
among P w none other = other tt
among P w (more {x = v} {xs = vs} h hs) other = go (same w v) refl (λ k. among P w hs k)
  where
    go : (b : Bool) → same w v ≡ b → ((Differs w vs → P w) → P w) → P w
    go true e rest = rw (same_true w v e) h
    go false e rest = rest (λ d. other (e, d))

-- ---- the words of each table are all different
abbrev words_of : {X : Type 0} → List (Entry X) → List (List ℕ)
words_of es = map (λ e. e.word) es

pub firsts_apart : distinct (words_of (firsts [])) ≡ true
unfolding distinct index same text
firsts_apart = refl

pub moves_apart : distinct (words_of (moves [])) ≡ true
unfolding distinct index same text
moves_apart = refl

pub tools_apart : distinct (words_of (tools 0 [])) ≡ true
unfolding distinct index same text
tools_apart = refl

pub parkings_apart : distinct (words_of (parkings [])) ≡ true
unfolding distinct index same text
parkings_apart = refl

pub device_names_apart : distinct (words_of device_names) ≡ true
unfolding distinct index same text device_settings name_of
device_names_apart = refl

pub names_apart : distinct (words_of names) ≡ true
unfolding distinct index same text axis_settings device_settings name_of
names_apart = refl
