-- The reply, and the info lines where what is told has them.
use mathlib.Core.Path.{sym, ◌∙◌}
use native.Mathlib.Omega.{arith}
use Rattle.reply.specs.Told.{told_text, informs}
use Rattle.reply.proofs.Room.{most_data, reply_length}
use Rattle.carriage.proofs.InfoLines.{lines_room, lines_behind, no_lines, reply_room, all_room}
use Rattle.carriage.proofs.put_answer.Goals as goal

pub put_reply-end-requires : goal.put_reply-end-requires
put_reply-end-requires c =
    (reply_room (informs c.args.x) c.requires.0, c.requires.1, c.requires.2)

pub put_infos-requires : goal.put_infos-requires
put_infos-requires c =
    let a = c.args in
    let h = a.h in
    let words = told_text a.line.now a.x in
    let yes = sym c.informs.ensures ∙ c.if-informs.true in
    let short = reply_length h.head c.requires.1 h.sum words (omega (arith, c.requires.2, most_data h.sum)) in
    lines_room _ c.put_reply-end.ensures short (all_room yes c.requires.0)

pub returns-then-informs : goal.returns-then-informs
returns-then-informs c =
    lines_behind _ c.put_reply-end.ensures _ (sym c.informs.ensures ∙ c.if-informs.true) c.put_infos.ensures

pub returns-else-informs : goal.returns-else-informs
returns-else-informs c =
    no_lines _ c.put_reply-end.ensures _ (sym c.informs.ensures ∙ c.if-informs.false)
