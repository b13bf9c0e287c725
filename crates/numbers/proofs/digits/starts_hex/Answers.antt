-- `numbers::digits::starts_hex` meets its contract: what stands from the place on begins with `0x`.
use Rattle.std.proofs.Common.{◌∙◌, length, drop, arith}
use Rattle.std.proofs.lemmas.Slice.{between_to_end}
use Rattle.numbers.proofs.Scan.{hex_is}
use Rattle.numbers.proofs.digits.starts_hex.Goals as goal

pub returns-in-Some : goal.returns-in-Some
returns-in-Some c =
    let w = c.args.w.now in
    let rest = c.in-Some.ensures.lookup.0.2 ∙ between_to_end w c.args.from (length w) (omega arith) in
    c.starts_with.ensures.value ∙ rw rest (hex_is (drop c.args.from w))
