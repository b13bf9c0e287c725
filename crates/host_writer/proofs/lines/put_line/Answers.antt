-- `host_writer::lines::put_line` meets its contract: front, command, checksum and LF, one behind the other.
use Rattle.laws.specs.Text.{text}
use Rattle.buffer.proofs.Wrote.{◌▸◌}
use Rattle.host_writer.specs.Writing.{line_end}
use Rattle.host_writer.proofs.LineTexts.{content_is, line_done}
use Rattle.host_writer.proofs.lines.put_line.Goals as goal

pub returns : goal.returns
unfolding line_end text
returns c =
    let content = rw (content_is _ _ _ _) at (c.put_front-front.ensures ▸ c.put_command-at.ensures) in
    line_done _ _ _ _ _ content (c.put_sum-end.ensures ▸ c.put_byte.ensures)
