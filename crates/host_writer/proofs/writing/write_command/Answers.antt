-- `host_writer::writing::write_command` meets its contract: 20, 11, 2, or the line.
use mathlib.Core.Path.{refl, sym, ◌∙◌}
use native.Mathlib.Omega.{arith}
use lib.ListN.{length-take}
use Rattle.host_writer.proofs.LineTexts.{no_room, bad_data_lem, too_long, accepted}
use Rattle.host_writer.proofs.writing.write_command.Goals as goal

pub returns-then-buf-lt-LONGEST_LINE : goal.returns-then-buf-lt-LONGEST_LINE
returns-then-buf-lt-LONGEST_LINE c = no_room _ _ _ _ _ _ c.if-buf-lt-LONGEST_LINE.true

pub returns-then-is_unspellable : goal.returns-then-is_unspellable
returns-then-is_unspellable c = bad_data_lem _ _ _ _ _ _ c.if-buf-lt-LONGEST_LINE.false (sym c.is_unspellable.ensures ∙ c.if-is_unspellable.true)

pub returns-then-end-gt-LONGEST_LINE : goal.returns-then-end-gt-LONGEST_LINE
returns-then-end-gt-LONGEST_LINE c =
    too_long _ _ _ _ _ _ c.if-buf-lt-LONGEST_LINE.false (sym c.is_unspellable.ensures ∙ c.if-is_unspellable.false)
    c.put_line-end.ensures refl c.if-end-gt-LONGEST_LINE.true

pub returns : goal.returns
returns c =
    accepted _ _ _ _ _ _ c.if-buf-lt-LONGEST_LINE.false (sym c.is_unspellable.ensures ∙ c.if-is_unspellable.false)
    c.put_line-end.ensures refl c.if-end-gt-LONGEST_LINE.false c.put_text.ensures

pub slice_bounds-put_text-end : goal.slice_bounds-put_text-end
slice_bounds-put_text-end c = simp length-take (omega (arith, c.put_line-end.auto.buf))
