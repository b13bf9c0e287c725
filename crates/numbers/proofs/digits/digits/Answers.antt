-- `numbers::digits::digits` meets its contract. Invariant: reading on from i with n is reading from the first place on.
use native.Mathlib.Omega.{arith}
use Rattle.numbers.proofs.Scan as scan-laws
use Rattle.numbers.proofs.Value.{told_some, told_none}
use Rattle.numbers.proofs.digits.digits.Goals as goal

pub returns-then-w-from : goal.returns-then-w-from
returns-then-w-from c = scan-laws.digits_none _ _ _ _ c.if-w-from.true

pub loop-i-init : goal.loop-i-init
loop-i-init c = (omega arith, scan-laws.digits_first _ _ _ _ c.if-w-from.false)

pub returns-in_default : goal.returns-in_default
returns-in_default c =
    let d = (told_some _ c.in-Some.ensures).0 in
    scan-laws.digits_past _ _ _ _ _ _ c.loop-i.invariant.1 c.loop-i-test.true (rw d at c.if-n-b.false)

pub returns-in_default-2 : goal.returns-in_default-2
returns-in_default-2 c =
    let d = (told_some _ c.in-Some.ensures).0 in
    scan-laws.digits_other _ _ _ _ _ _ c.loop-i.invariant.1 c.loop-i-test.true (rw d at c.if-d-b.false)

pub returns-in_default-3 : goal.returns-in_default-3
returns-in_default-3 c =
    let none = told_none _ c.in_default.ensures in
    scan-laws.digits_other _ _ _ _ _ _ c.loop-i.invariant.1 c.loop-i-test.true (omega (arith, none, c.requires))

pub loop-i-preserved : goal.loop-i-preserved
loop-i-preserved c =
    let d = (told_some _ c.in-Some.ensures).0 in
    (c.if-n-b.true, rw d (scan-laws.digits_more _ _ _ _ _ _ c.loop-i.invariant.1 c.loop-i-test.true (rw d at c.if-d-b.true) (rw d at c.if-n-b.true)))

pub returns : goal.returns
returns c = scan-laws.digits_end _ _ _ _ _ _ c.loop-i.invariant.1 c.loop-i-test.false
