-- A line that is refused, or what stands behind its opening: with no address, or with one.
use mathlib.Core.Path.{ap, ◌∙◌}
use Rattle.std.specs.Prelude.{Ok}
use Rattle.std.proofs.Common.{rules}
use Rattle.line.proofs.Opened.{on_bare, on_to}
use Rattle.line.proofs.Refused.{answered}
use Rattle.line.proofs.reading.read_line.Goals as goal

pub returns-in_err-end : goal.returns-in_err-end
returns-in_err-end c =
    let told = answered _ _ (search rules) in
    record { read = told.0; number = told.1.0; place = told.1.1.0; asked = told.1.1.1 }

pub returns-in-Bare : goal.returns-in-Bare
returns-in-Bare c =
    let told = answered _ _ (on_bare _ _ (c.in_ok-end.was ∙ ap Ok c.in-Bare.is) _ c.up_to.ensures c.addressed.ensures) in
    record { read = told.0; number = told.1.0; place = told.1.1.0; asked = told.1.1.1 }

pub returns-in-To : goal.returns-in-To
returns-in-To c =
    let told = answered _ _ (on_to _ _ _ _ (c.in_ok-end.was ∙ ap Ok c.in-To.is) _ c.up_to-in-To.ensures c.read_axis.ensures) in
    record { read = told.0; number = told.1.0; place = told.1.1.0; asked = told.1.1.1 }
