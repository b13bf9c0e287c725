-- `input::reports::content` meets its contract: what stands before the footer, if the line is not too long and what is left is a footer.
use mathlib.Core.Path.{◌∙◌}
use native.Mathlib.Omega.{arith}
use lib.ListN.{length-take}
use Rattle.line.proofs.Frames.{footer_told, tail_fits}
use Rattle.input.proofs.ReportLines.{too_long, footer_yes, footer_not}
use Rattle.input.proofs.reports.content.Goals as goal

pub returns-then-s-gt-LONGEST_LINE : goal.returns-then-s-gt-LONGEST_LINE
returns-then-s-gt-LONGEST_LINE c = too_long c.args.s.now c.if-s-gt-LONGEST_LINE.true

pub slice_bounds-is_footer-count : goal.slice_bounds-is_footer-count
slice_bounds-is_footer-count c = omega (arith, tail_fits _ _ c.printable_len-end.ensures)

pub slice_bounds-is_footer-start : goal.slice_bounds-is_footer-start
slice_bounds-is_footer-start c = omega (arith, tail_fits _ _ c.printable_len-end.ensures)

pub slice_bounds-result-end-then-is_footer : goal.slice_bounds-result-end-then-is_footer
slice_bounds-result-end-then-is_footer c = simp length-take (omega (arith, tail_fits _ _ c.printable_len-end.ensures))

pub returns-then-is_footer : goal.returns-then-is_footer
returns-then-is_footer c =
    let e = c.printable_len-end.ensures in
    footer_yes _ e c.if-s-gt-LONGEST_LINE.false (footer_told _ _ e c.is_footer.ensures ∙ c.if-is_footer.true)

pub returns : goal.returns
returns c =
    let e = c.printable_len-end.ensures in
    footer_not _ e c.if-s-gt-LONGEST_LINE.false (footer_told _ _ e c.is_footer.ensures ∙ c.if-is_footer.false)
