-- Invariant: the records, what is carried on and the buffer stand as after as many turns as records were met.
use mathlib.Core.Path.{◌≡◌}
use Rattle.chain.proofs.Walks.{run_to, halfway}
use Rattle.chain.proofs.walk.Given as goal

abbrev pub invariant-loop-device : goal.invariant-loop-device
invariant-loop-device l = record {
  devices : l.devices ≡ halfway l.line l.initial.p l.initial.reply l.initial.devices l.device-index;
  pass : l.p ≡ (run_to l.line l.initial.p l.initial.reply l.initial.devices l.device-index).pass;
  buffer : l.reply ≡ (run_to l.line l.initial.p l.initial.reply l.initial.devices l.device-index).buffer;
}
