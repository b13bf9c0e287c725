-- What was read, and is heard, is silence, a rejection, or a command that only shows or makes a next record.
use mathlib.Core.Path.{◌≡◌, ◌∙◌}
use native.Mathlib.Omega.{arith}
use Rattle.reply.proofs.Lengths.{refusal_length}
use Rattle.carriage.specs.ReadOnce.{respond_to}
use Rattle.carriage.proofs.Answers.{once_as, silence_gives, rejection_digit, rejection_gives, joined, told_fits, answer_fits, acceptance_digit, acceptance_gives}
use Rattle.rules.specs.Effects.{next}
use Rattle.carriage.proofs.respond.Goals as goal
use Rattle.carriage.proofs.respond.Goals.{then-not-x, else-not-x}

pub returns-in-Silent : goal.returns-in-Silent
unfolding respond_to
returns-in-Silent c =
    let a = c.args in
    silence_gives _ _ _ _ _
    (once_as a.d a.line.now a.r a.reply.now c.good-good.ensures c.overhear.ensures
    c.rule.ensures c.in-Silent.is)

pub returns-in-Rejected : goal.returns-in-Rejected
unfolding respond_to
returns-in-Rejected c =
    let a = c.args in
    let w = once_as a.d a.line.now a.r a.reply.now c.good-good.ensures c.overhear.ensures
    c.rule.ensures c.in-Rejected.is in
    rejection_gives _ _ _ _ _ _ w c.heading_of.ensures c.put_reply-length.ensures

pub put_reply-length-requires : goal.put_reply-length-requires
put_reply-length-requires c =
    let a = c.args in
    let w = once_as a.d a.line.now a.r a.reply.now c.good-good.ensures c.overhear.ensures
    c.rule.ensures c.in-Rejected.is in
    (w.fair.0, rejection_digit _ _ _ _ _ _ w c.heading_of.ensures, omega (arith, refusal_length c.in-Rejected.refusal))

pub put_answer-length-requires : goal.put_answer-length-requires
put_answer-length-requires c =
    let a = c.args in
    let w = once_as a.d a.line.now a.r a.reply.now c.good-good.ensures c.overhear.ensures
    c.rule.ensures c.in-Accepted.is in
    let next_is : c.if-not-x.d ≡ next a.d c.in-Accepted.k c.in-Accepted.c =
    elim c.if-not-x.branch [
      | then-not-x n ↦ n.d-is ∙ n.next-d.ensures
      | else-not-x n ↦ joined _ _ _ _ _ _ _ _ _ w n.if-not-x.false n.d-is
    ] in (
      answer_fits _ _ _ _ _ _ _ _ _ w c.form.ensures c.end_within.ensures (c.told-told.ensures.told, c.told-told.ensures.places),
      acceptance_digit _ _ _ _ _ _ _ _ _ w c.form.ensures c.end_within.ensures (c.told-told.ensures.told, c.told-told.ensures.places) next_is c.heading_of-in-Accepted.ensures,
      told_fits _ _ _ _ _ _ _ _ _ w c.form.ensures c.end_within.ensures (c.told-told.ensures.told, c.told-told.ensures.places),
    )

pub returns-after-not-x : goal.returns-after-not-x
unfolding respond_to
returns-after-not-x c =
    let a = c.args in
    let w = once_as a.d a.line.now a.r a.reply.now c.good-good.ensures c.overhear.ensures
    c.rule.ensures c.in-Accepted.is in
    let next_is : c.if-not-x.d ≡ next a.d c.in-Accepted.k c.in-Accepted.c =
    elim c.if-not-x.branch [
      | then-not-x n ↦ n.d-is ∙ n.next-d.ensures
      | else-not-x n ↦ joined _ _ _ _ _ _ _ _ _ w n.if-not-x.false n.d-is
    ] in
    acceptance_gives _ _ _ _ _ _ _ _ _ w c.form.ensures c.end_within.ensures (c.told-told.ensures.told, c.told-told.ensures.places) next_is c.heading_of-in-Accepted.ensures c.put_answer-length.ensures
