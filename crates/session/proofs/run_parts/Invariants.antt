-- What is printed, with what the parts of the rest print, is the whole.
use Rattle.session.proofs.Turns.{Running}
use Rattle.session.proofs.run_parts.Given as goal

abbrev pub invariant-loop-part : goal.invariant-loop-part
invariant-loop-part l = Running l.initial.d l.input l.initial.out l.d l.out l.place l.part-iterator.rest.now
