-- What the program `bench` prints, from the bytes of its standard input to those of its standard output.
-- A part is a line or a motor report; it prints one line, or several with info lines or an alert, and makes the next record.
use Rattle.std.specs.Prelude.{◌≡◌, Option, None, Some, cond, List, [], ◌∷◌, ◌++◌, ℕ, pos as plus, take, replicate, Err}
use Rattle.laws.specs.declared.Refusal.TheVariants.{BadReport}
use Rattle.units.specs.Units.{number}
use Rattle.buffer.specs.Wrote.{Wrote}
use Rattle.device.specs.declared.Device.{Device}
use Rattle.device.specs.Record.{fresh}
use Rattle.reply.specs.Help.{longest_answer}
use Rattle.reply.specs.Reply.{longest_reply}
use Rattle.carriage.specs.Step.{Stepped, silent, step, refused_at}
use Rattle.carriage.specs.Report.{report}
use Rattle.input.specs.declared.parts.Turned.{Turned}
use Rattle.input.specs.declared.reports.MotorReport.{MotorReport}
use Rattle.input.specs.ReportLines.{read_report}
use Rattle.input.specs.Parts.{parts}
use Rattle.input.specs.Prints.{is_report, reported, answered, caret}
use Rattle.laws.specs.Refusals.{number_of}

-- what a part prints, and the next record
pub record Turn : Type 0 where
  pub prints : List ℕ
  pub next : Device

-- "22 if misspelt, over 80 bytes or without a footer"
abbrev pub report_answer : Device → Option MotorReport → List ℕ → Stepped
report_answer d None b = silent (Err BadReport) d b
report_answer d (Some r) b = report d r.axis r.kind r.last b

-- "it prints `report N`", and behind it the alert; the buffer that is lent has 96 bytes
unfoldable pub report_turn : Device → Option MotorReport → Turn
report_turn d r =
    let s = report_answer d r (replicate longest_reply 0) in
    record { prints = reported (number_of s.answer.verdict) s.answer.length s.buffer; next = s.answer.next }

-- "prints the reply, or `silent N`"; the buffer that is lent has 96 bytes for the reply and for each info line
unfoldable pub line_turn : Device → List ℕ → Turn
line_turn d p =
    let s = step d p (replicate longest_answer 0) in
    record { prints = answered (number_of s.answer.verdict) s.answer.length s.buffer; next = s.answer.next }

unfoldable pub turn : Device → List ℕ → Turn
turn d p = cond (is_report p) (report_turn d (read_report p)) (line_turn d p)

-- order 3: a person is shown where a line went wrong, and then what bench prints
unfoldable pub shown : Device → List ℕ → Turn
shown d p = record { prints = caret (refused_at d p) ++ (turn d p).prints; next = (turn d p).next }

unfoldable pub turns : Device → List (List ℕ) → List ℕ
turns d [] = []
turns d (p ∷ ps) = (turn d p).prints ++ turns (turn d p).next ps

-- "that fresh record with device id 100": address 1, two axes
unfoldable pub bench_device : Device
bench_device = fresh (number (plus 1)) 2 (number (plus 100))

-- "reads at most 4,096 bytes of standard input ... later input is not read"
abbrev pub longest_input : ℕ
longest_input = 4096

unfoldable pub bench : List ℕ → List ℕ
bench input = turns bench_device (parts (take longest_input input))

-- c is b with what the turn t prints from place `at` on, and r the place behind it and the next record
pub record Took (t : Turn) (b : List ℕ) (at : ℕ) (r : Turned Device) (c : List ℕ) : Type 0 where
  pub prints : Wrote b at t.prints c r.place
  pub next : r.next ≡ t.next
