-- `host_writer::rows::put_command` meets its contract: the words of its row.
use Rattle.host_writer.proofs.RowTexts.{command_written}
use Rattle.host_writer.proofs.rows.put_command.Goals as goal

pub returns : goal.returns
returns c = command_written c.args.c _ _ _ c.form-f.ensures (c.row.ensures _ _) c.put_row.ensures
