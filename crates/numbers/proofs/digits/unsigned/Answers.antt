-- `numbers::digits::unsigned` meets its contract: with `0x` in front or without.
use mathlib.Core.Path.{sym, ◌∙◌}
use native.Mathlib.Omega.{arith}
use Rattle.numbers.proofs.Scan.{hex_room, read_hex, read_decimal}
use Rattle.numbers.proofs.digits.unsigned.Goals as goal

pub overflow_add-from : goal.overflow_add-from
overflow_add-from c =
    let a = c.args in
    omega (arith, hex_room a.w.now a.from (sym c.starts_hex.ensures ∙ c.if-starts_hex.true))

pub returns-then-starts_hex : goal.returns-then-starts_hex
returns-then-starts_hex c = read_hex _ _ _ (sym c.starts_hex.ensures ∙ c.if-starts_hex.true) c.digits.ensures

pub returns-else-starts_hex : goal.returns-else-starts_hex
returns-else-starts_hex c = read_decimal _ _ _ (sym c.starts_hex.ensures ∙ c.if-starts_hex.false) c.digits-else-starts_hex.ensures
