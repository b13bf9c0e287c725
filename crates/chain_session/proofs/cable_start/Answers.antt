-- Four fresh records, and places behind them.
use Rattle.device.specs.Good.{ask_fresh, may_be_fresh}
use Rattle.chain_session.specs.Cable.{cable_records, cable_start}
use Rattle.chain_session.proofs.cable_start.Goals as goal

pub returns : goal.returns
unfolding cable_start cable_records ask_fresh may_be_fresh
returns c =
    rw (
      c.fresh-fourth.ensures,
      c.fresh-third.ensures,
      c.fresh-second.ensures,
      c.fresh-first.ensures,
    )
