-- How many bytes the answer to what was read may take: a reply's, or with info lines twelve times as many.
-- Assumes nothing.
use Rattle.laws.specs.declared.Refusal.TheVariants.{NoRoom}
use Rattle.std.specs.Prelude.{Ok, Err}
use mathlib.Core.Path.{◌≡◌, refl, sym, ◌∙◌}
use mathlib.Core.Bool.{Bool, true, false, cond}
use Prim.Native.Nat.{ℕ, suc, ◌*◌, ◌≤◌, ◌<◌}
use native.Mathlib.Omega.{arith}
use lib.ListN.{length}
use borrow.Author.Tests.{lt-ltb, le-ltb}
use Rattle.command.specs.declared.AxisCommand.{AxisCommand}
use Rattle.command.specs.declared.Command.{Command}
use Rattle.command.specs.declared.Command.TheVariants.{OfAxes}
use Rattle.command.specs.declared.forms.Form.{Form}
use Rattle.command.specs.declared.kinds.Demands.{Demands}
use Rattle.command.specs.Forms.{form_of}
use Rattle.command.specs.Commands.{demands_of, is_info, informs}
use Rattle.command.proofs.Informing.{axes_inform_not}
use Rattle.phrase.specs.Reading.{WordsRead, worded}
use Rattle.line.specs.Reading.{LineRead}
use Rattle.reply.specs.Help.{help_texts, longest_answer}
use Rattle.reply.specs.Reply.{longest_reply}
use Rattle.reply.proofs.HelpTexts.{answer_room}
use Rattle.carriage.specs.Step.{command_room, words_room, room_for}
use Rattle.carriage.specs.Rulings.{roomy}
use Rattle.laws.specs.Refusals.{refusal_at}

-- ---- a command
room_by : (t : Bool) → longest_reply * cond t (suc (length help_texts)) 1 ≡ cond t longest_answer longest_reply
room_by true = answer_room
room_by false = refl

pub command_room_lem : (c : Command) → command_room c ≡ cond (informs c) longest_answer longest_reply
command_room_lem c = room_by (informs c)

between : (t : Bool) → (longest_reply ≤ cond t longest_answer longest_reply) × (cond t longest_answer longest_reply ≤ longest_answer)
between true = (omega arith, omega arith)
between false = (omega arith, omega arith)

pub command_least : (c : Command) → longest_reply ≤ command_room c
command_least c = rw (command_room_lem c) (between (informs c)).0

-- no command of axes has info lines
pub axes_room : {c : Command} {a : AxisCommand} {n : ℕ} → c ≡ OfAxes a → longest_reply ≤ n → command_room c ≤ n
axes_room {a = a} is h = rw (is, axes_inform_not a) h

-- as the code looks it up
module _ (c : Command) {f : Form} {y : Demands} {t : Bool} (p : f ≡ form_of c) (q : y ≡ demands_of f) (e : t ≡ is_info y.reply) where
  looked_up : t ≡ informs c
  looked_up = e ∙ rw (q, p)

  pub informing_room : {w : WordsRead} {from : ℕ} → w ≡ Ok (worded c from) → t ≡ true → longest_answer ≡ words_room w
  informing_room is h = rw (is, command_room_lem c, sym looked_up ∙ h)

-- ---- what was read
words_between : (w : WordsRead) → (longest_reply ≤ words_room w) × (words_room w ≤ longest_answer)
words_between (Err e) = (omega arith, omega arith)
words_between (Ok x) = rw (command_room_lem x.command) (between (informs x.command))

pub least_room : (r : LineRead) → longest_reply ≤ room_for r
least_room (Err e) = omega arith
least_room (Ok x) = (words_between x.words).0

pub most_room : (r : LineRead) → room_for r ≤ longest_answer
most_room (Err e) = omega arith
most_room (Ok x) = (words_between x.words).1

module _ (room : ℕ) (r : LineRead) where
  pub roomy_enough : room_for r ≤ room → r ≡ roomy room r
  roomy_enough h = rw (le-ltb room (room_for r) h)

  pub roomy_all : longest_answer ≤ room → r ≡ roomy room r
  roomy_all h = roomy_enough (omega (arith, most_room r))

  pub roomy_short : room < room_for r → Err (refusal_at NoRoom 255) ≡ roomy room r
  roomy_short h = rw (lt-ltb room (room_for r) h)
