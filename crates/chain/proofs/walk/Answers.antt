-- A record takes its turn where it heeds the line, and stays as it is where not.
use native.Mathlib.Omega.{arith}
use mathlib.Core.Path.{◌≡◌, refl, sym, ◌∙◌}
use Prim.Native.Nat.{◌+◌, ◌<◌}
use lib.ListN.{length, take}
use Rattle.chain.specs.Walk.{run}
use Rattle.chain.proofs.Walks.{run_fits, run_to, halfway, heeded, unmoved}
use Rattle.chain.proofs.walk.Goals as goal
use Rattle.chain.proofs.walk.Goals.{then-heeds, else-heeds}

pub loop-device-init : goal.loop-device-init
unfolding run
loop-device-init c = record { devices = refl; pass = refl; buffer = refl }

pub take_turn-t-requires : goal.take_turn-t-requires
take_turn-t-requires c =
    let a = c.args in
    let s = c.loop-device.invariant in
    rw (s.pass, s.buffer) (run_fits a.line.now (take c.loop-device.device-index a.devices.now) a.start a.reply.now c.requires)

pub loop-device-preserved : goal.loop-device-preserved
loop-device-preserved c =
    let a = c.args in
    let s = c.loop-device.invariant in
    let i = c.loop-device.device-index in
    let within : i < length a.devices.now = omega (arith, c.loop-device-test.true, c.loop-device.auto.devices) in
    let next : (c.if-heeds.devices ≡ halfway a.line.now a.start a.reply.now a.devices.now (i + 1))
    × ((c.if-heeds.p ≡ (run_to a.line.now a.start a.reply.now a.devices.now (i + 1)).pass)
    × (c.if-heeds.reply ≡ (run_to a.line.now a.start a.reply.now a.devices.now (i + 1)).buffer)) =
    elim c.if-heeds.branch [
      | then-heeds w ↦
          heeded a.line.now a.start a.reply.now a.devices.now i _ within s.devices s.pass s.buffer
          (sym c.heeds.ensures ∙ w.if-heeds.true) w.take_turn-t.ensures w.devices-is w.p-is w.reply-is
      | else-heeds w ↦
          unmoved a.line.now a.start a.reply.now a.devices.now i _ within s.devices s.pass s.buffer
          (sym c.heeds.ensures ∙ w.if-heeds.false) w.devices-is w.p-is w.reply-is
    ] in
    record { devices = next.0; pass = next.1.0; buffer = next.1.1 }
