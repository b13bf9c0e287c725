-- A walk over the words of a text of rows: what each turn leaves to be written.
-- Assumes nothing.
use mathlib.Core.Path.{◌≡◌, refl, sym, ap, ◌∙◌}
use mathlib.Core.Bool.{Bool, true, false}
use mathlib.Core.List.{List, [], ◌∷◌, ◌++◌, map, append_assoc}
use Prim.Native.Nat.{ℕ, zero, suc, ◌-◌, ◌<◌, ◌≤◌}
use native.Mathlib.Omega.{arith}
use lib.ListN.{length, get_or, drop, drop_of_length-le}
use Rattle.laws.specs.Text.{text, same}
use Rattle.laws.proofs.Spaced.{trail, trail_append}
use Rattle.words.specs.Cutting.{cut}
use Rattle.words.specs.Find.{found, entry_at}
use Rattle.words.proofs.Index.{found_place}
use Rattle.std.specs.Prelude.{Option, Some}
use Rattle.std.specs.Option.{unwrap_or}
use Rattle.words.proofs.Cut.{cut_none}
use Rattle.words.proofs.Table.{meaning_at, past_table}
use Rattle.command.specs.declared.forms.Form.{Form}
use Rattle.buffer.specs.Wrote.{Wrote}
use Rattle.buffer.proofs.Wrote.{◌▸◌}
use Rattle.reply.proofs.Writing.{Writing, writing_end}
use Rattle.host_writer.specs.Rows.{carried, words_for, filled_row}

-- at the end of a text no word is left
pub no_words : (s : List ℕ) (at : ℕ) → length s ≤ at → cut (drop at s) ≡ []
no_words s at h = ap cut (drop_of_length-le s h) ∙ cut_none

-- each word leaves fewer
pub fewer : {ws : List (List ℕ)} {w : List ℕ} {vs : List (List ℕ)} → ws ≡ w ∷ vs → length vs < length ws
fewer {vs = vs} e = rw e (omega arith)

-- several words written, each behind a space
writing_words : {b : List ℕ} {at : ℕ} {whole : List ℕ} (vs : List (List ℕ)) {ws : List (List ℕ)} {c d : List ℕ} {r q : ℕ}
    → Writing b at whole (vs ++ ws) c r → Wrote c r (trail vs) d q → Writing b at whole ws d q
writing_words vs {ws} p v =
    record {
      text = p.text ++ trail vs;
      wrote = p.wrote ▸ v;
      so = append_assoc p.text (trail vs) (trail ws) ∙ ap (λ (t : List ℕ). p.text ++ t) (sym (trail_append vs ws)) ∙ p.so;
    }

-- a place that is none of the first four, as the code has it
pub behind_names : {k : ℕ} (r : Option ℕ) → (((Unit {0} × (k ≡ 0 → ⊥)) × (k ≡ 1 → ⊥)) × (k ≡ 2 → ⊥)) × (k ≡ 3 → ⊥) → r ≡ Some k → 4 ≤ unwrap_or r 4
behind_names r n e = rw e (omega (arith, n.1, n.0.1, n.0.0.1, n.0.0.0.1))

-- ---- what stands for a word, by its place r among the names, or none
module _ (f : Form) (es : List (List ℕ)) (w : List ℕ) (r : Option ℕ) (e : r ≡ found w (map (λ n. n.word) (carried f es))) where
  pub stands : trail (entry_at (w ∷ []) (unwrap_or r 4) (carried f es)) ≡ trail (words_for f es w)
  unfolding words_for
  stands = ap trail (meaning_at (w ∷ []) w (carried f es) (unwrap_or r 4) (rw e (found_place w (map (λ n. n.word) (carried f es)))))

  pub stands_itself : 4 ≤ unwrap_or r 4 → trail (w ∷ []) ≡ trail (words_for f es w)
  stands_itself h = ap trail (past_table (w ∷ []) (carried f es) (unwrap_or r 4) h) ∙ stands

-- ---- the turns of the walk, at a word w of the words ws
module _ {b : List ℕ} {at : ℕ} {whole : List ℕ} (f : Form) (es : List (List ℕ)) {ws : List (List ℕ)} {c : List ℕ} {r : ℕ}
    (p : Writing b at whole (filled_row f es ws) c r) where
  pub walk_none : ws ≡ [] → Wrote b at whole c r
  unfolding filled_row
  walk_none e = writing_end (rw e at p)

  pub walk_more : {w : List ℕ} {vs : List (List ℕ)} → ws ≡ w ∷ vs → {d : List ℕ} {n : ℕ} → Wrote c r (trail (words_for f es w)) d n
      → Writing b at whole (filled_row f es vs) d n
  unfolding filled_row
  walk_more {w} {vs} e v = writing_words (words_for f es w) (rw e at p) v
