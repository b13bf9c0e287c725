-- `input::parts::put_reported` meets its contract: the number, and the first bytes of the alert's buffer.
use native.Mathlib.Omega.{arith}
use lib.ListN.{length-take}
use Rattle.laws.specs.Text.{text}
use Rattle.input.proofs.Prints.{report_alert}
use Rattle.input.proofs.parts.put_reported.Goals as goal

pub slice_bounds-put_text-end : goal.slice_bounds-put_text-end
slice_bounds-put_text-end c = simp length-take (omega (arith, c.min.ensures))

pub returns : goal.returns
unfolding text
returns c =
    report_alert _ _ _ c.put_told-end.ensures c.min.ensures c.put_text.ensures
