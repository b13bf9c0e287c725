-- The words that the writer writes for a command spell that command, and they are words.
-- Assumes nothing.
use mathlib.Core.Path.{◌≡◌, refl}
use mathlib.Core.Logic.{⊎_elim}
use mathlib.Core.Bool.{Bool, true, false, cond, not, ◌&&◌}
use mathlib.Core.List.{List, [], ◌∷◌}
use Prim.Native.Nat.{ℕ}
use borrow.Author.Tests.{not-false}
use Rattle.laws.specs.Lists.{fold, all}
use Rattle.laws.proofs.Order.{eq_or_ne}
use Rattle.laws.proofs.Bools.{and_left, and_right, or_left, or_right}
use Rattle.laws.proofs.Each.{Each, none, more}
use Rattle.words.specs.Cutting.{cut}
use Rattle.words.specs.Spelling.{Word, Content, blank, last, next}
use Rattle.words.proofs.Content.{Plain, done, space, byte, cut_content}
use Rattle.command.specs.declared.Command.{Command}
use Rattle.command.specs.Commands.{demands, carries_words, command_words}
use Rattle.phrase.specs.Spelling.{Row}
use Rattle.phrase.proofs.Written.{row_filled, words_filled}
use Rattle.host_reader.specs.Reading.{data_byte}
use Rattle.host_reader.proofs.Spelled.{data_is_word}
use Rattle.host_writer.specs.Writing.{unfit}
use Rattle.roundtrip.specs.Held.{Held}

-- ---- the words of a message
plain_of : (s : List ℕ) → all data_byte s ≡ true → Plain s
unfolding fold
plain_of [] t = done
plain_of (c ∷ s) t =
    let here = and_left (data_byte c) (all data_byte s) t in
    let others = plain_of s (and_right (data_byte c) (all data_byte s) t) in
    ⊎_elim (λ e. rw e (space others)) (λ k. byte (data_is_word c here k) others) (eq_or_ne c 32)

pub content_words : {s : List ℕ} {ws : List (List ℕ)} → Content s ws → Each Word ws
content_words (blank p) = none
content_words (last p w) = more w none
content_words (next p w k) = more w (content_words k)

message_words : (message : List ℕ) → all data_byte message ≡ true → Each Word (cut message)
message_words message t = content_words (cut_content (plain_of message t))

-- ---- the words of a command that the writer does not refuse

-- "An echo command carries its words"; no other command carries any
abbrev pub carried : Command → List ℕ → List (List ℕ)
carried c message = cond (carries_words c) (cut message) []

module _ (c : Command) (message : List ℕ) (held : Held c) (fit : unfit c message ≡ false) where
  pub row : Row (command_words c (cut message)) c (carried c message)
  row = row_filled c (cut message) held.0 held.1 (or_left (demands c).barred (carries_words c && not (all data_byte message)) fit)

  pub command_words_lem : Each Word (command_words c (cut message))
  command_words_lem = go (carries_words c) refl
    where
      plain : carries_words c ≡ true → all data_byte message ≡ true
      plain e = not-false (all data_byte message)
          (rw e at (or_right (demands c).barred (carries_words c && not (all data_byte message)) fit))

      go : (t : Bool) → carries_words c ≡ t → Each Word (command_words c (cut message))
      go true e = words_filled c (cut message) held.0 held.1 (message_words message (plain e))
      go false e = rw e (rw e at (words_filled c [] held.0 held.1 none))
