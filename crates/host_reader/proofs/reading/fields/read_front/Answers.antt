-- `host_reader::reading::fields::read_front` meets its contract: each field stands at its place.
use Rattle.std.proofs.Common.{rules}
use Rattle.laws.specs.Text.{text}
use Rattle.host_reader.proofs.Marks.{mark_is}
use Rattle.host_reader.proofs.reading.fields.read_front.Goals as goal

pub returns-in_err-kind : goal.returns-in_err-kind
returns-in_err-kind c = search (rules, mark_is c.args.line.now)

pub returns : goal.returns
unfolding text
returns c = search (rules, mark_is c.args.line.now)
