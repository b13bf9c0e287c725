-- An accepted move's target is the number asked for, never another; and no axis moves unless all do.
-- Over every record, good or not.
use Rattle.laws.proofs.Refusals.{accepted_or}
use Rattle.laws.specs.Refusals.{ACCEPTED}
use mathlib.Core.Path.{◌≡◌, refl, ap, ◌∙◌}
use mathlib.Core.Bool.{true}
use mathlib.Core.List.{List}
use mathlib.Core.Logic.{◌⊎◌, inl, inr, ⊎_elim}
use Prim.Native.Nat.{ℕ, ◌-◌}
use Rattle.laws.proofs.Walks.{change_agree}
use Rattle.units.specs.Units.{position}
use Rattle.command.specs.declared.AxisCommand.TheVariants.{MoveTo}
use Rattle.command.specs.declared.Command.TheVariants.{OfAxes}
use Rattle.settings.specs.Types.{Position, Target, Abs}
use Rattle.axis.specs.declared.Motion.TheVariants.{To}
use Rattle.axis.specs.declared.Axis.{Axis}
use Rattle.axis.specs.Record.{with_motion}
use Rattle.axis.specs.Travel.{target, may_move_to}
use Rattle.axis.specs.Moves.{moved}
use Rattle.device.specs.declared.Device.{Device}
use Rattle.device.specs.Record.{many, axes_of, on_axes, with_axes}
use Rattle.rules.specs.Effects.{next, obey}
use Rattle.rules.proofs.Accepted.{each_permits}
use Rattle.rules.proofs.RefusalKeeps.{refusal_keeps, accepted_next}

-- an axis in motion to the target that was asked for
abbrev pub sent : Target → Axis → Axis
sent t a = with_motion (To (position (target t a))) a

goes : (t : Target) (a : Axis) → may_move_to t a ≡ true → moved t a ≡ sent t a
unfolding moved
goes t a h = simp h

-- an accepted move sends each axis that it concerns to the target that was asked for, and does nothing else
pub target_exact : (d : Device) (k : ℕ) (t : Target) → (obey d k (OfAxes (MoveTo t))).verdict ≡ ACCEPTED
    → (obey d k (OfAxes (MoveTo t))).next ≡ on_axes (sent t) k d
unfolding obey next on_axes axes_of
target_exact d k t e =
    accepted_next d k (OfAxes (MoveTo t)) e
    ∙ ap (λ (l : List Axis). with_axes l d) (change_agree (may_move_to t) (moved t) (sent t) (goes t) (k - 1) (many d k) d.axes
    (each_permits d k (MoveTo t) e))

-- of `move abs N` the target is N itself
pub abs_exact : (p : Position) (a : Axis) → sent (Abs p) a ≡ with_motion (To p) a
abs_exact p a = refl

-- all axes that a move concerns are sent, or the record stays as it was
pub all_or_none : (d : Device) (k : ℕ) (t : Target)
    → ((obey d k (OfAxes (MoveTo t))).next ≡ d) ⊎ ((obey d k (OfAxes (MoveTo t))).next ≡ on_axes (sent t) k d)
all_or_none d k t =
    ⊎_elim (λ e. inr (target_exact d k t e)) (λ h. inl (refusal_keeps d k (OfAxes (MoveTo t)) h)) (accepted_or (obey d k (OfAxes (MoveTo t))).verdict)
