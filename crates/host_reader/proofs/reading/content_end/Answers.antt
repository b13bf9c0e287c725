-- `host_reader::reading::content_end` meets its contract: what stands before the first byte that is no data.
use mathlib.Core.Bool.{not}
use Rattle.std.proofs.Common.{rules, tests}
use Rattle.std.proofs.lemmas.Iterator.{YieldsList-from_slice}
use Rattle.std.proofs.lemmas.Iterator.Search.{position_from_yields_List}
use Rattle.host_reader.specs.Reading.{data_byte}
use Rattle.laws.proofs.Span.{stop_is}
use Rattle.host_reader.proofs.reading.content_end.Goals as goal

pub returns : goal.returns
returns c =
    let s = c.rest-behind.result.now in
    let stop = position_from_yields_List (λ x. not (data_byte x)) _ _ c.position-stop.result c.position-stop.ensures.ran
    (YieldsList-from_slice s cc) (λ x b q k. search (rules, tests)) in
    rw (c.unwrap_or.ensures, stop, stop_is data_byte s, c.rest-behind.ensures)
