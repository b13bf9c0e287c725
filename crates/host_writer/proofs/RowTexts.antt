-- A row of the code has the words of the table's row, and a command's words are those of its row.
-- Assumes nothing.
use mathlib.Core.Path.{◌≡◌, sym, ap}
use mathlib.Core.Bool.{cond}
use mathlib.Core.List.{List, [], ◌∷◌, ◌++◌, map}
use Prim.Native.Nat.{ℕ}
use Rattle.laws.proofs.Lists.{map_at}
use Rattle.laws.proofs.Spaced.{trail}
use Rattle.command.specs.declared.Command.{Command}
use Rattle.command.specs.declared.forms.Form.{Form}
use Rattle.command.specs.Forms.{form_of}
use Rattle.command.specs.declared.kinds.Kind.{Kind}
use Rattle.command.specs.Commands.{Row, none, table, row_at, is_words, filled, command_words}
use Rattle.words.specs.Cutting.{cut}
use Rattle.buffer.specs.Wrote.{Wrote}
use Rattle.host_writer.specs.Rows.{filled_row, row_words}

row_is : (c : Command) (es : List (List ℕ)) → row_words (form_of c) es (form_of c).row ≡ command_words c es
unfolding row_words
row_is c es =
    let f = form_of c in
    let words = map (filled f) ((row_at f.row).front ++ (row_at f.row).behind) in
    ap (λ (x : Kind). words ++ cond (is_words x.reply) es []) (sym (map_at (λ (r : Row). r.kind) (none ∷ table) f.row none))

-- a row of the code, at its place
pub spelled : {k : ℕ} (n : ℕ) (s : List ℕ) → k ≡ n → ((f : Form) (es : List (List ℕ)) → filled_row f es (cut s) ≡ row_words f es n)
    → (f : Form) (es : List (List ℕ)) → filled_row f es (cut s) ≡ row_words f es k
spelled n s e h f es = rw e (h f es)

pub command_written : (c : Command) (f : Form) (es ws : List (List ℕ)) {b d : List ℕ} {at r : ℕ} → f ≡ form_of c
    → filled_row f es ws ≡ row_words f es f.row → Wrote b at (trail (filled_row f es ws)) d r → Wrote b at (trail (command_words c es)) d r
command_written c f es ws e q v = rw (← row_is c es, ← e, ← q) v
