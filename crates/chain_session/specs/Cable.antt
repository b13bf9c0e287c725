-- What the program `cable` prints, from the bytes of its standard input to those of its standard output. It is for a chain what bench
-- is for one record: a part is a line or a motor report; it prints one line, or the answers of the chain, or a report and its alert, and
-- makes the next records.
use Rattle.std.specs.Prelude.{◌≡◌, Option, None, Some, cond, ◌&&◌, List, [], ◌∷◌, ◌++◌, ℕ, ◌-◌, ◌*◌, leb, pos as plus, length, take, get_or, set, replicate, Err}
use Rattle.laws.specs.Refusals.{number_of, Verdict}
use Rattle.laws.specs.declared.Refusal.TheVariants.{BadReport}
use Rattle.units.specs.Units.{number, place}
use Rattle.buffer.specs.Wrote.{Wrote}
use Rattle.device.specs.declared.Device.{Device}
use Rattle.device.specs.Record.{fresh}
use Rattle.reply.specs.Help.{longest_answer}
use Rattle.reply.specs.Reply.{longest_reply, joined}
use Rattle.carriage.specs.Report.{report}
use Rattle.chain.specs.Chain.{chain}
use Rattle.input.specs.declared.parts.Turned.{Turned}
use Rattle.input.specs.declared.reports.MotorReport.{MotorReport}
use Rattle.input.specs.declared.reports.PlacedReport.{PlacedReport}
use Rattle.input.specs.ReportLines.{read_placed}
use Rattle.input.specs.Parts.{parts}
use Rattle.input.specs.Prints.{is_report, reported, answered}
use Rattle.chain_session.specs.declared.Cable.{Cable}
use Rattle.chain_session.specs.declared.Heard.{Heard}
use Rattle.chain_session.specs.Held.{holding}

-- ---- a motor report for the record at a place of the chain, counted from 1

-- what it comes to, the text of its alert, if it has one, and the next records
pub record Outcome : Type 0 where
  pub verdict : Verdict
  pub alert : List ℕ
  pub next : List Device

abbrev fresh_as : ℕ → ℕ → ℕ → Device
fresh_as address count id = fresh (number (plus address)) count (number (plus id))

-- the record at place i, counted from 0; what is given for a place beyond the chain is of no account
abbrev pub record_at : List Device → ℕ → Device
record_at xs i = get_or xs i (fresh_as 1 1 0)

-- it takes the report, with the buffer b for its alert
abbrev pub takes : List Device → ℕ → MotorReport → List ℕ → Outcome
takes xs i r b =
    let s = report (record_at xs i) r.axis r.kind r.last b in
    record { verdict = s.answer.verdict; alert = take s.answer.length s.buffer; next = set xs i s.answer.next }

abbrev pub missed : List Device → Outcome
missed xs = record { verdict = Err BadReport; alert = []; next = xs }

-- "22 if misspelt, over 80 bytes, without a footer, or if there is no such place"
unfoldable pub outcome_at : List Device → ℕ → MotorReport → List ℕ → Outcome
outcome_at xs p r b = cond (leb 1 p && leb p (length xs)) (takes xs (p - 1) r b) (missed xs)

abbrev pub outcome : List Device → Option PlacedReport → List ℕ → Outcome
outcome xs None b = missed xs
outcome xs (Some r) b = outcome_at xs (place r.place.0) r.report b

-- a verdict, an alert at the front of the buffer b' and a chain afterwards that are just that
pub record Reports (o : Outcome) (c : Cable) (r : Heard) (b' : List ℕ) : Type 0 where
  pub verdict : r.told.verdict ≡ o.verdict
  pub alert : take r.told.length b' ≡ o.alert
  pub next : r.next ≡ holding c o.next

-- ---- a turn

-- what a part prints, and the next records
pub record Turn : Type 0 where
  pub prints : List ℕ
  pub next : List Device

-- "it prints `report N`", and behind it the alert; the buffer that is lent for it has 96 bytes
unfoldable pub report_turn : List Device → Option PlacedReport → Turn
report_turn xs r =
    let o = outcome xs r (replicate longest_reply 0) in
    record { prints = reported (number_of o.verdict) (length o.alert) o.alert; next = o.next }

-- "it prints the replies one behind the other, or `silent N` where there is none"; with order 5 the buffer that it lends has 96 bytes for
-- the reply and for each info line of each record
unfoldable pub line_turn : List Device → List ℕ → Turn
line_turn xs p =
    let s = chain xs p (longest_answer * length xs) in
    record { prints = answered (number_of s.verdict) (length (joined s.answers)) (joined s.answers); next = s.devices }

-- "A part whose first byte is `R` is `R device axis kind p` ... Any other part is a line"
unfoldable pub turn : List Device → List ℕ → Turn
turn xs p = cond (is_report p) (report_turn xs (read_placed p)) (line_turn xs p)

unfoldable pub turns : List Device → List (List ℕ) → List ℕ
turns xs [] = []
turns xs (p ∷ ps) = (turn xs p).prints ++ turns (turn xs p).next ps

-- "A chain of four fresh records: addresses 1, 2, 1, 9; 2, 1, 4, 3 axes; device ids 100, 101, 102, 103."
unfoldable pub cable_records : List Device
cable_records = fresh_as 1 2 100 ∷ fresh_as 2 1 101 ∷ fresh_as 1 4 102 ∷ fresh_as 9 3 103 ∷ []

-- the same, held by value: the places behind them are of no account
unfoldable pub cable_start : Cable
cable_start = record { devices = cable_records ++ replicate 12 (fresh_as 1 2 100); count = 4 }

-- "It reads and parts standard input as bench does"
unfoldable pub cable : List ℕ → List ℕ
cable input = turns cable_records (parts (take 4096 input))

-- b' is b with what the turn t prints from place `at` on, and r the place behind it and the chain afterwards
pub record Took (t : Turn) (c : Cable) (b : List ℕ) (at : ℕ) (r : Turned Cable) (b' : List ℕ) : Type 0 where
  pub prints : Wrote b at t.prints b' r.place
  pub next : r.next ≡ holding c t.next
