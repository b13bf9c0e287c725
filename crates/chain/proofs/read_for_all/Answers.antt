-- The refusal; or no room for every answer to what is read of the line; or that.
use mathlib.Core.Path.{sym, ◌∙◌}
use Rattle.chain.proofs.Chains.{few, reads_refused, reads_short, reads_all}
use Rattle.chain.proofs.read_for_all.Goals as goal

pub returns-in-Err : goal.returns-in-Err
returns-in-Err c =
    let a = c.args in
    rw c.nowhere.ensures (reads_refused a.n a.room a.good a.line.now c.refusal.ensures _ c.in-Err.is)

pub room_for_all-requires : goal.room_for_all-requires
room_for_all-requires c =
    let a = c.args in
    few a.n a.room a.good (sym c.refusal.ensures ∙ c.in_default.is)

pub returns-then-room-room_for_all : goal.returns-then-room-room_for_all
returns-then-room-room_for_all c =
    let a = c.args in
    rw c.nowhere-then-room-room_for_all.ensures (reads_short a.n a.room a.good a.line.now c.refusal.ensures c.in_default.is
    c.open_line.ensures c.read_line-read.ensures.read c.room_for_all.ensures c.if-room-room_for_all.true)

pub returns : goal.returns
returns c =
    let a = c.args in
    reads_all a.n a.room a.good a.line.now c.refusal.ensures c.in_default.is
    c.open_line.ensures c.read_line-read.ensures.read c.room_for_all.ensures c.if-room-room_for_all.false
