-- The words of a line: each is a word as the spelling has it, and so are those that a command carries.
-- Assumes nothing.
use mathlib.Core.Bool.{Bool, true, false, cond}
use mathlib.Core.List.{List, []}
use Prim.Native.Nat.{ℕ}
use lib.ListN.{drop}
use Rattle.laws.proofs.Each.{Each, none}
use Rattle.words.specs.Spelling.{Word}
use Rattle.command.specs.declared.Command.{Command}
use Rattle.command.specs.Commands.{carries_words, echo_of}
use Rattle.line.proofs.Carried.{Carried}
use Rattle.line.proofs.Composed.{Composed, composed, composed_of}
use Rattle.roundtrip.proofs.WrittenWords.{content_words}
use Rattle.roundtrip.proofs.Texts.{each_drop}

composed_words : {l : List ℕ} {ws : List (List ℕ)} → Composed l ws → Each Word ws
composed_words (composed c k f h) = content_words c

-- the words that a command carries are among them
echo_words : {ws : List (List ℕ)} (c : Command) → Each Word ws → Each Word (echo_of c ws)
unfolding echo_of
echo_words {ws} c h = go (carries_words c)
  where
    go : (t : Bool) → Each Word (cond t (drop 2 ws) [])
    go true = each_drop 2 h
    go false = none

pub carried_words : {c : Command} {es : List (List ℕ)} (l : List ℕ) → Carried l c es → Each Word es
carried_words {c} l h = rw h.words (echo_words c (each_drop h.skip (composed_words (composed_of l h.size h.frame))))
