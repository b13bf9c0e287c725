-- Cases of 02's order 5, as one table under one statement: what came before, a line or a motor report with the room lent for it, the number
-- and every message that is sent. Over the very definitions that `step` and `report` promise, by computation.
use Rattle.std.specs.Prelude.{Err}
use mathlib.Core.Path.{◌≡◌, refl}
use mathlib.Core.List.{List, [], ◌∷◌, ◌++◌, map}
use Prim.Native.Nat.{ℕ, ◌-◌}
use Prim.Native.String.{String}
use lib.IntN.{pos}
use lib.ListN.{replicate}
use Rattle.laws.specs.Text.{text}
use Rattle.laws.specs.declared.Refusal.TheVariants.{NoRoom, NotMine, BadData, BadAxis, DeviceOnly, BadReport}
use Rattle.laws.specs.Refusals.{ACCEPTED, Verdict}
use Rattle.units.specs.Units.{number}
use Rattle.axis.specs.RaisedWarnings.{raise, raised}
use Rattle.axis.specs.Reports.{report_of}
use Rattle.rules.specs.Reports.{is_axis, bad_report, report_refusal}
use Rattle.rules.specs.Reports as Device
use Rattle.reply.specs.Help.{longest_answer}
use Rattle.reply.specs.Reply.{joined, alert_body, alert}
use Rattle.device.specs.declared.Device.{Device}
use Rattle.carriage.specs.Step.{Stepped, step}
use Rattle.carriage.specs.Report.{alert_of, report}
use Rattle.carriage.specs.Open.{answering}
use Rattle.carriage.proofs.Demands.{sent_in}
use Rattle.carriage.proofs.GoodForEver.{Event, line, motor, reached}
use Rattle.carriage.proofs.Cases.{fresh_device}

abbrev asked : String → ℕ → Event
asked l room = line (text l) (replicate room 0)

abbrev reports : ℕ → ℕ → ℕ → ℕ → Event
reports axis kind last room = motor (number (pos axis)) (number (pos kind)) (number (pos last)) (replicate room 0)

-- homing, with comm.alert 0 and 1
abbrev homing : List Event
homing = asked "/home\n" 96 ∷ []

abbrev alerting : List Event
alerting = asked "/set comm.alert 1\n" 96 ∷ homing

pub record Case : Type 0 where
  pub before : List Event
  pub event : Event
  pub verdict : Verdict
  pub sent : List String

abbrev case : List Event → Event → Verdict → List String → Case
case b e v t = record { before = b; event = e; verdict = v; sent = t }

abbrev infos : List String
infos =
    "#01 0 home:86\r\n"
    ∷ "#01 0 stop:69\r\n"
    ∷ "#01 0 estop:04\r\n"
    ∷ "#01 0 move:78\r\n"
    ∷ "#01 0 get:EF\r\n"
    ∷ "#01 0 set:E3\r\n"
    ∷ "#01 0 tools storepos:5F\r\n"
    ∷ "#01 0 warnings:C6\r\n"
    ∷ "#01 0 tools parking:F2\r\n"
    ∷ "#01 0 tools echo:3F\r\n"
    ∷ "#01 0 help commands:14\r\n"
    ∷ []

unfoldable pub cases : List Case
cases =
    -- `help commands`: its room; a rejected one writes the reply alone
    case [] (asked "/help commands\n" longest_answer) ACCEPTED ("@01 0 OK IDLE WR 0:3E\r\n" ∷ infos)
    ∷ case [] (asked "/help commands\n" (longest_answer - 1)) (Err NoRoom) []
    ∷ case [] (asked "/2 help commands\n" longest_answer) (Err NotMine) []
    ∷ case [] (asked "/2 help commands\n" (longest_answer - 1)) (Err NoRoom) []
    ∷ case [] (asked "/1 1 help commands\n" longest_answer) (Err DeviceOnly) ("@01 1 RJ IDLE WR DEVICEONLY:79\r\n" ∷ [])
    ∷ case [] (asked "/1 1 help commands\n" (longest_answer - 1)) (Err NoRoom) []
    ∷ case [] (asked "/1 7 help commands\n" longest_answer) (Err BadAxis) ("@01 0 RJ IDLE WR BADAXIS:70\r\n" ∷ [])
    ∷ case [] (asked "/help\n" 96) (Err BadData) ("@01 0 RJ IDLE WR BADDATA:8B\r\n" ∷ [])
    ∷ case [] (asked "/help x\n" 96) (Err BadData) ("@01 0 RJ IDLE WR BADDATA:8B\r\n" ∷ [])
    ∷ case [] (asked "/help commands x\n" 96) (Err BadData) ("@01 0 RJ IDLE WR BADDATA:8B\r\n" ∷ [])
    ∷ case [] (asked "/2 help x\n" 96) (Err NotMine) []
    -- reports: an alert on kinds 2 and 3 where comm.alert is 1, of the record after the report
    ∷ case homing (reports 1 3 0 96) ACCEPTED []
    ∷ case alerting (reports 1 3 0 96) ACCEPTED ("!01 1 IDLE --:96\r\n" ∷ [])
    ∷ case alerting (reports 2 2 5 96) ACCEPTED ("!01 2 IDLE WR:46\r\n" ∷ [])
    ∷ case alerting (reports 1 1 5 96) ACCEPTED []
    ∷ case alerting (reports 1 4 3 96) ACCEPTED []
    ∷ case alerting (reports 1 5 0 96) ACCEPTED []
    ∷ case (alerting ++ reports 1 4 3 96 ∷ []) (reports 1 3 0 96) ACCEPTED ("!01 1 IDLE FS:57\r\n" ∷ [])
    ∷ case (alerting ++ asked "/set comm.checksum 0\n" 96 ∷ []) (reports 1 3 0 96) ACCEPTED ("!01 1 IDLE --\r\n" ∷ [])
    ∷ case (alerting ++ reports 1 3 0 96 ∷ []) (reports 1 3 0 96) (Err BadReport) []
    -- room for an alert is asked for where none would be written, and before 22
    ∷ case alerting (reports 1 3 0 95) (Err NoRoom) []
    ∷ case homing (reports 1 5 0 95) (Err NoRoom) []
    ∷ case homing (reports 9 9 0 95) (Err NoRoom) []
    ∷ []

-- the number, and the bytes that are sent
pub record Said : Type 0 where
  pub verdict : Verdict
  pub bytes : List ℕ

abbrev answer : Device → Event → Stepped
answer d (line l b) = step d l b
answer d (motor axis kind last b) = report d axis kind last b

unfoldable pub said : Case → Said
said c =
    let s = answer (reached fresh_device c.before) c.event in record { verdict = s.answer.verdict; bytes = sent_in s }

unfoldable pub wanted : Case → Said
wanted c = record { verdict = c.verdict; bytes = joined (map text c.sent) }

pub sent_cases : map said cases ≡ map wanted cases
unfolding answering fresh_device reached report Device.report report_refusal bad_report is_axis report_of raise raised alert_of alert alert_body
    cases said wanted
sent_cases = refl
