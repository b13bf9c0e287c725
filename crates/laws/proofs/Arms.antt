-- What holds of each variant that an arm of a `match` names holds of the value that came to it: for every enum.
-- Assumes nothing.
use mathlib.Core.Path.{◌≡◌, ◌∙◌, sym, ap}
use mathlib.Core.List.{List, [], ◌∷◌}
use mathlib.Core.Logic.{inl, inr}
use Prim.Native.Nat.{ℕ}
use types.Run.{OneOf}
use denote.Enum.Declared.{Record, declared, tag_of}
use borrow.Enum.Known.{ValuesAt, at, lives_at}
use Rattle.laws.proofs.Each.{Each, none, more}

module _ (enum : Record) {R : Type 0} (f : enum.D → R) (r : R) where
  -- f is r at the variant of this number, whatever it carries
  abbrev pub There : ℕ → Type 0
  There k = (v : ValuesAt enum.parts k) → r ≡ f (at enum k v)

  module _ (x : enum.D) where
    told : (k : ℕ) → tag_of (declared enum) x ≡ k → There k → r ≡ f x
    told k h e = let v = lives_at enum x k h in e v.0 ∙ ap f (sym v.1)

    pub arm : (ks : List ℕ) → OneOf ks (tag_of (declared enum) x) → Each There ks → r ≡ f x
    arm [] h e = absurd h
    arm (k ∷ []) h (more e none) = told k h e
    arm (k ∷ j ∷ ks) (inl h) (more e es) = told k h e
    arm (k ∷ j ∷ ks) (inr h) (more e es) = arm (j ∷ ks) h es
