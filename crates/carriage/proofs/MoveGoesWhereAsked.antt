-- From the bytes of a line to the carriage: an accepted move sends each axis concerned to the number asked for; and whatever is
-- answered, all of them go or none does. Over every record and buffer. Assumes nothing.
use Rattle.laws.specs.Refusals.{ACCEPTED}
use mathlib.Core.Path.{◌≡◌, refl, ap, ◌∙◌}
use mathlib.Core.List.{List, [], ◌∷◌, map}
use mathlib.Core.Logic.{◌⊎◌, inl}
use Prim.Native.Nat.{ℕ, zero, suc, ◌-◌}
use lib.ListN.{take, drop}
use Rattle.laws.specs.Lists.{change_first, change_from}
use Rattle.units.specs.Units.{position}
use Rattle.command.specs.declared.AxisCommand.TheVariants.{MoveTo}
use Rattle.command.specs.declared.Command.{Command}
use Rattle.command.specs.declared.Command.TheVariants.{OfAxes}
use Rattle.command.specs.declared.Target.{Target}
use Rattle.axis.specs.declared.Axis.{Axis}
use Rattle.axis.specs.declared.Motion.{Motion}
use Rattle.axis.specs.declared.Motion.TheVariants.{To}
use Rattle.axis.specs.Travel.{target}
use Rattle.line.specs.Spelling.{Asked, Line}
use Rattle.device.specs.declared.Device.{Device}
use Rattle.device.specs.Record.{many, axes_of, on_axes}
use Rattle.rules.specs.Effects.{obey}
use Rattle.rules.proofs.TargetExact.{sent, target_exact}
use Rattle.rules.proofs.TargetExact as Rules
use Rattle.carriage.specs.Step.{silent, obeyed, step}
use Rattle.carriage.proofs.SpelledIsObeyed.{spelled_answer, obeyed_next, accepted_line}

-- the axes that were changed, read back
module _ {X Y : Type 0} (f : X → Y) (g : X → X) where
  first_read : (n : ℕ) (xs : List X) → map f (take n (change_first g n xs)) ≡ map (λ x. f (g x)) (take n xs)
  unfolding change_first
  first_read zero xs = refl
  first_read (suc n) [] = refl
  first_read (suc n) (x ∷ xs) = ap (λ (l : List Y). f (g x) ∷ l) (first_read n xs)

  change_read : (i n : ℕ) (xs : List X) → map f (take n (drop i (change_from g i n xs))) ≡ map (λ x. f (g x)) (take n (drop i xs))
  unfolding change_from
  change_read zero n xs = first_read n xs
  change_read (suc i) zero [] = refl
  change_read (suc i) (suc n) [] = refl
  change_read (suc i) n (x ∷ xs) = change_read i n xs

-- the motions of the axes that the number k means, axis by axis
abbrev pub motions : Device → ℕ → List Motion
motions d k = map (λ (x : Axis). x.motion) (axes_of d k)

-- each of them in motion to its own target
abbrev pub targets : Target → Device → ℕ → List Motion
targets t d k = map (λ x. To (position (target t x))) (axes_of d k)

pub motions_after : (g : Axis → Axis) (k : ℕ) (d : Device) → motions (on_axes g k d) k ≡ map (λ x. (g x).motion) (axes_of d k)
unfolding axes_of on_axes many
motions_after g k d = change_read (λ (x : Axis). x.motion) g (k - 1) (many d k) d.axes

-- a line that is written for a move: `move abs`, `rel`, `min`, `max` or `stored`
module _ {l : List ℕ} {a : Asked} (t : Target) (d : Device) (b : List ℕ) (w : Line l a) (c : a.command ≡ OfAxes (MoveTo t)) where
  obeyed_as : (obeyed d a.axis a.echo a.command b).answer.next ≡ (obey d a.axis (OfAxes (MoveTo t))).next
  obeyed_as = obeyed_next d a.axis a.echo a.command b ∙ ap (λ (x : Command). (obey d a.axis x).next) c

  -- Accepted: each axis concerned is sent to the target asked for, and nothing else has changed.
  pub move_does_nothing_else : (step d l b).answer.verdict ≡ ACCEPTED → (step d l b).answer.next ≡ on_axes (sent t) a.axis d
  move_does_nothing_else e = let m = accepted_line d b w c e in m.1 ∙ target_exact d a.axis t m.0

  -- Axis by axis: in motion to just the number asked for.
  pub move_goes_where_asked : (step d l b).answer.verdict ≡ ACCEPTED → motions (step d l b).answer.next a.axis ≡ targets t d a.axis
  move_goes_where_asked e =
      ap (λ (n : Device). motions n a.axis) (move_does_nothing_else e) ∙ motions_after (sent t) a.axis d

  -- All axes concerned go, or the record stays as it was: whatever is answered.
  pub all_or_none : ((step d l b).answer.next ≡ d) ⊎ ((step d l b).answer.next ≡ on_axes (sent t) a.axis d)
  unfolding silent
  all_or_none =
      spelled_answer (λ s. (s.answer.next ≡ d) ⊎ (s.answer.next ≡ on_axes (sent t) a.axis d)) d b w (λ n h. inl refl)
      (rw obeyed_as (Rules.all_or_none d a.axis t))
