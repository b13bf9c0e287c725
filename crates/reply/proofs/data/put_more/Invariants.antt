-- `reply::data::put_more` meets its contract. Invariant: what is written, with the words that are left, is the whole.
use Prim.Native.Nat.{◌-◌}
use lib.ListN.{take, drop}
use Rattle.laws.proofs.Spaced.{trail}
use Rattle.words.specs.Cutting.{cut}
use Rattle.reply.proofs.Writing.{Writing}
use Rattle.reply.proofs.data.put_more.Given as goal

abbrev pub invariant-loop : goal.invariant-loop
invariant-loop l = Writing l.initial.buf l.at (trail (take 16 (cut (drop l.from l.s)))) (take (16 - l.counter) (cut (drop l.place l.s))) l.buf l.next
