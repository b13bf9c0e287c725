-- A chain that is held by value: sixteen places, of which the first hear a line; the others stay as they are.
-- Order 2: "up to 16".
use Rattle.std.specs.Prelude.{◌≡◌, List, ◌++◌, ℕ, length, take, drop}
use Rattle.device.specs.declared.Device.{Device}
use Rattle.reply.specs.Reply.{joined}
use Rattle.chain.specs.Chain.{Chained}
use Rattle.chain_session.specs.declared.Cable.{Cable}
use Rattle.chain_session.specs.declared.Heard.{Heard}

-- the records of the chain
abbrev pub records_of : Cable → List Device
records_of c = take c.count c.devices

-- the chain with other records, as many as it had
abbrev pub holding : Cable → List Device → Cable
holding c ys = record { devices = ys ++ drop c.count c.devices; count = c.count }

-- what a line leaves, where s is what it makes of the records
pub record Hears (s : Chained) (c : Cable) (b b' : List ℕ) (r : Heard) : Type 0 where
  pub told : r.told ≡ record { verdict = s.verdict; length = length (joined s.answers) }
  pub next : r.next ≡ holding c s.devices
  pub left : b' ≡ joined s.answers ++ drop (length (joined s.answers)) b
