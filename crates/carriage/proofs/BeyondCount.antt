-- No line, spelled or not, changes a place beyond the axis count. Over every record, line and buffer.
-- Assumes nothing.
use mathlib.Core.Path.{◌≡◌, refl, sym, ap, ◌∙◌}
use mathlib.Core.List.{List}
use Prim.Native.Nat.{ℕ, ◌≤◌}
use Rattle.device.specs.declared.Device.{Device}
use Rattle.rules.specs.Effects.{obey}
use Rattle.rules.proofs.BeyondCount.{at}
use Rattle.rules.proofs.BeyondCount as Rules
use Rattle.rules.proofs.RefusalKeeps.{accepted_next}
use Rattle.carriage.specs.Step.{silent, written, rejected, accepted, step}
use Rattle.carriage.proofs.Demands.{every_answer}

pub beyond_count : (d : Device) (l b : List ℕ) (i : ℕ) → d.count ≤ i → at (step d l b).answer.next i ≡ at d i
unfolding silent rejected accepted written obey
beyond_count d l b i h =
    every_answer (λ s. at s.answer.next i ≡ at d i) d l b refl (λ n k g. refl)
    (λ k c es g e w. ap (λ (x : Device). at x i) (sym (accepted_next d k c e)) ∙ Rules.beyond_count d k c i h)
