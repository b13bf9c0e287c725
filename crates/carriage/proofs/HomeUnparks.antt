-- From the bytes of a line to the carriage: a home that is accepted leaves the device unparked and the axes concerned homing, and
-- nothing else changed; and a device accepts it, parked or not. Over every record and buffer. Assumes nothing.
use Rattle.laws.specs.Refusals.{ACCEPTED}
use mathlib.Core.Path.{◌≡◌, ap, ◌∙◌}
use mathlib.Core.Bool.{true, false}
use mathlib.Core.List.{List, map}
use Prim.Native.Nat.{ℕ, ◌≤◌}
use lib.ListN.{length}
use Rattle.command.specs.declared.AxisCommand.TheVariants.{Home}
use Rattle.command.specs.declared.Command.{Command}
use Rattle.command.specs.declared.Command.TheVariants.{OfAxes}
use Rattle.axis.specs.declared.Motion.TheVariants.{Homing}
use Rattle.axis.specs.Record.{with_motion}
use Rattle.line.specs.Spelling.{Asked, Line}
use Rattle.device.specs.declared.Device.{Device}
use Rattle.device.specs.Record.{many, axes_of, on_axes, with_parked}
use Rattle.device.specs.Good.{good}
use Rattle.rules.specs.Refusals.{bad_axis}
use Rattle.rules.specs.Effects.{obey}
use Rattle.rules.proofs.HomeUnparks.{homing, home_taken}
use Rattle.rules.proofs.HomeUnparks as Rules
use Rattle.reply.specs.Reply.{longest_reply}
use Rattle.carriage.specs.Step.{Stepped, concerns, step}
use Rattle.carriage.proofs.AnswerRoom.{axes_room}
use Rattle.carriage.proofs.SpelledIsObeyed.{spelled_is_obeyed, obeyed_verdict, accepted_line}
use Rattle.carriage.proofs.MoveGoesWhereAsked.{motions, motions_after}

-- a line that is written for home, of any scope
module _ {l : List ℕ} {a : Asked} (d : Device) (b : List ℕ) (w : Line l a) (c : a.command ≡ OfAxes Home) where
  -- Accepted: the device is unparked, each axis concerned is homing, and nothing else has changed.
  pub home_unparks : (step d l b).answer.verdict ≡ ACCEPTED → (step d l b).answer.next ≡ homing a.axis d
  home_unparks e = let m = accepted_line d b w c e in m.1 ∙ Rules.home_unparks d a.axis m.0

  pub home_leaves_unparked : (step d l b).answer.verdict ≡ ACCEPTED → (step d l b).answer.next.parked ≡ false
  unfolding on_axes
  home_leaves_unparked e = ap (λ (n : Device). n.parked) (home_unparks e)

  -- Axis by axis.
  pub home_sets_homing : (step d l b).answer.verdict ≡ ACCEPTED
      → motions (step d l b).answer.next a.axis ≡ map (λ x. Homing) (axes_of d a.axis)
  unfolding axes_of many
  home_sets_homing e =
      ap (λ (n : Device). motions n a.axis) (home_unparks e) ∙ motions_after (with_motion Homing) a.axis (with_parked false d)

  -- A line that this device is to obey is accepted, parked or not, where there is the axis that it names.
  pub home_is_accepted : good d ≡ true → longest_reply ≤ length b → concerns d a.address ≡ true → bad_axis d a.axis ≡ false
      → (step d l b).answer.verdict ≡ ACCEPTED
  home_is_accepted g room mine there =
      ap (λ (s : Stepped). s.answer.verdict) (spelled_is_obeyed d b w g (axes_room c room) mine)
      ∙ obeyed_verdict d a.axis a.echo a.command b
      ∙ ap (λ (x : Command). (obey d a.axis x).verdict) c
      ∙ home_taken d a.axis g there
