-- No checksum, a right or a wrong one behind a content; else what is refused.
use lib.ListN.{length-take}
use mathlib.Core.Path.{sym, ◌∙◌}
use native.Mathlib.Omega.{arith}
use Rattle.line.proofs.FromTheEnd.{content_in, behind_3, no_checksum, checksum_right_lem, checksum_wrong, content_bad}
use Rattle.line.proofs.framing.read_body.Goals as goal

pub slice_bounds-all_plain-end : goal.slice_bounds-all_plain-end
slice_bounds-all_plain-end c = simp length-take (omega (arith, content_in _ _ c.content_len-c.ensures))

pub returns-then-b-c : goal.returns-then-b-c
returns-then-b-c c =
    no_checksum _ _ c.content_len-c.ensures (sym c.all_plain.ensures ∙ c.if-all_plain.true) c.if-b-c.true

pub slice_bounds-says_sum-end : goal.slice_bounds-says_sum-end
slice_bounds-says_sum-end c = simp length-take (omega arith)

pub bounds-b-c : goal.bounds-b-c
bounds-b-c c =
    omega (arith, behind_3 _ _ c.content_len-c.ensures c.if-b-c.false)

pub bounds-b-c-then-all_plain : goal.bounds-b-c-then-all_plain
bounds-b-c-then-all_plain c =
    omega (arith, behind_3 _ _ c.content_len-c.ensures c.if-b-c.false)

pub returns-then-says_sum : goal.returns-then-says_sum
returns-then-says_sum c =
    checksum_right_lem _ _ c.content_len-c.ensures (sym c.all_plain.ensures ∙ c.if-all_plain.true) c.if-b-c.false
    c.read_pair.ensures c.says_sum.ensures c.if-says_sum.true

pub returns-then-all_plain : goal.returns-then-all_plain
returns-then-all_plain c =
    checksum_wrong _ _ c.content_len-c.ensures (sym c.all_plain.ensures ∙ c.if-all_plain.true) c.if-b-c.false
    c.read_pair.ensures c.says_sum.ensures c.if-says_sum.false c.refusal.ensures

pub returns : goal.returns
returns c =
    content_bad _ _ c.content_len-c.ensures (sym c.all_plain.ensures ∙ c.if-all_plain.false) c.refusal-2.ensures
