-- A loop that writes words, each behind a space: what it has written, with the words that are left, is the whole.
-- Assumes nothing.
use mathlib.Core.Path.{◌≡◌, refl, sym, ◌∙◌}
use mathlib.Core.Bool.{Bool, true, false, cond}
use mathlib.Core.List.{List, [], ◌∷◌, ◌++◌, append-nil}
use Prim.Native.Nat.{ℕ}
use Rattle.laws.specs.Text.{space}
use Rattle.laws.proofs.Spaced.{trail, trail_more, trail_end}
use Rattle.buffer.specs.Wrote.{Wrote}
use Rattle.buffer.proofs.Wrote.{◌▸◌, wrote_none}

pub record Writing (b : List ℕ) (at : ℕ) (whole : List ℕ) (left : List (List ℕ)) (c : List ℕ) (r : ℕ) : Type 0 where
  pub text : List ℕ
  pub wrote : Wrote b at text c r
  pub so : text ++ trail left ≡ whole

-- before the loop
pub writing_first : (b : List ℕ) (at : ℕ) (ws : List (List ℕ)) → Writing b at (trail ws) ws b at
writing_first b at ws = record { text = []; wrote = wrote_none b at; so = refl }

module _ {b : List ℕ} {at : ℕ} {whole : List ℕ} where
  -- a word behind a space, or nothing
  pub writing_if : {ws : List (List ℕ)} {c d : List ℕ} {r q : ℕ} (t : Bool) (w : List ℕ) → Writing b at whole (cond t (w ∷ ws) ws) c r
      → Wrote c r (cond t (space ∷ w) []) d q → Writing b at whole ws d q
  writing_if {ws} true w p v = record { text = p.text ++ (space ∷ w); wrote = p.wrote ▸ v; so = trail_more p.text w ws ∙ p.so }
  writing_if {ws} false w p v = record { text = p.text ++ []; wrote = p.wrote ▸ v; so = rw append-nil p.so }

  pub writing_more : {ws : List (List ℕ)} {w c d : List ℕ} {r q : ℕ} → Writing b at whole (w ∷ ws) c r → Wrote c r (space ∷ w) d q
      → Writing b at whole ws d q
  writing_more {w = w} p v = writing_if true w p v

  -- after the loop
  pub writing_end : {c : List ℕ} {r : ℕ} → Writing b at whole [] c r → Wrote b at whole c r
  writing_end {c} {r} p = rw (sym p.so ∙ trail_end p.text) p.wrote
