-- The frame refuses the line, or gives its content, which has an address or none.
use native.Mathlib.Omega.{arith}
use mathlib.Core.Path.{◌≡◌, sym, ◌∙◌}
use lib.ListN.{length-take}
use Rattle.std.proofs.Common.{rules, Err, Ok}
use Rattle.line.proofs.Frames.{content_fits}
use Rattle.line.proofs.Opened.{open_silent, open_content}
use Rattle.line.proofs.reading.open_line.Goals as goal

pub overflow_add-c : goal.overflow_add-c
overflow_add-c c =
    let framed : c.read_frame.result ≡ Ok c.in_ok-c.c = search rules in
    omega (arith, content_fits _ _ c.read_frame.ensures framed)

pub slice_bounds-open_words-end : goal.slice_bounds-open_words-end
slice_bounds-open_words-end c =
    let framed : c.read_frame.result ≡ Ok c.in_ok-c.c = search rules in
    simp length-take (omega (arith, content_fits _ _ c.read_frame.ensures framed))

pub returns : goal.returns
returns c =
    let framed : c.read_frame.result ≡ Ok c.in_ok-c.c = search rules in
    open_content _ c.read_frame.ensures _ framed c.open_words.ensures

pub returns-in_err-c : goal.returns-in_err-c
returns-in_err-c c =
    let told : c.from_residual.result ≡ Err c.in_err-c.field-0.0 = search rules in
    told ∙ open_silent _ c.read_frame.ensures _ c.in_err-c.was c.map_err.ensures.cases
