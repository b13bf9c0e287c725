-- A ruling: the first row that applies to a command that demands x, and x.
-- Assumes that it is what the command demands.
use mathlib.Core.Path.{◌≡◌, ap, ◌∙◌}
use Prim.Native.Nat.{ℕ}
use Rattle.laws.specs.Refusals.{first_of, Verdict}
use Rattle.command.specs.declared.Command.{Command}
use Rattle.command.specs.declared.kinds.Demands.{Demands}
use Rattle.command.specs.Commands.{demands}
use Rattle.device.specs.declared.Device.{Device}
use Rattle.rules.specs.declared.refusals.Ruled.{Ruled}
use Rattle.rules.specs.Refusals.{rows, refusal, ruled}

pub by_demands : (d : Device) (k : ℕ) (c : Command) (v : Verdict) (x : Demands) → v ≡ first_of (rows d k c x) → x ≡ demands c
    → ◌≡◌ {A = Ruled} (record { verdict = v; demands = x }) (ruled d k c)
unfolding refusal
by_demands d k c v x h e = λ i. record { verdict = (h ∙ ap (λ (q : Demands). first_of (rows d k c q)) e) i; demands = e i }
