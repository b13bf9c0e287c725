-- The cases of document 01 that are marked P, with the checksums of 02's order 1, and some beside them, as one table under one statement:
-- what came before, the line, the verdict and the whole reply. Over the very definitions that `step` and `report` promise, by computation.
use Rattle.std.specs.Prelude.{Err}
use mathlib.Core.Path.{◌≡◌, refl}
use mathlib.Core.List.{List, [], ◌∷◌, ◌++◌, map}
use Prim.Native.Nat.{ℕ}
use Prim.Native.String.{String}
use lib.IntN.{pos}
use lib.ListN.{take, replicate}
use Rattle.laws.specs.Text.{text}
use Rattle.laws.specs.declared.Refusal.TheVariants.{NotLine, BadSum, BadAddress, NotMine, BadCommand, BadData, BadAxis, DeviceOnly, NoAccess, Parked, StatusBusy}
use Rattle.laws.specs.Refusals.{ACCEPTED, Verdict}
use Rattle.units.specs.Units.{number}
use Rattle.axis.specs.RaisedWarnings.{raise, raised}
use Rattle.axis.specs.Reports.{report_of}
use Rattle.device.specs.declared.Device.{Device}
use Rattle.device.specs.Record.{fresh}
use Rattle.rules.specs.Reports.{is_axis, bad_report, report_refusal}
use Rattle.rules.specs.Reports as Device
use Rattle.reply.specs.Help.{longest_answer}
use Rattle.carriage.specs.Step.{step}
use Rattle.carriage.specs.Report.{report}
use Rattle.carriage.specs.Open.{answering}
use Rattle.carriage.proofs.GoodForEver.{Event, line, motor, reached}

-- "fresh, address 1, two axes"
unfoldable pub fresh_device : Device
fresh_device = fresh (number (pos 1)) 2 (number (pos 100))

-- what came before: a line; a motor report of an axis, its kind and its last number
abbrev sent : String → Event
sent l = line (text l) (replicate longest_answer 0)

abbrev told : ℕ → ℕ → ℕ → Event
told axis kind last = motor (number (pos axis)) (number (pos kind)) (number (pos last)) (replicate 96 0)

infixl 20 ◌then◌
abbrev ◌then◌ : List Event → String → List Event
b then l = b ++ sent l ∷ []

-- "Homed": both axes have reached home, at 0; and then axis 2 has gone to 10000, or the device was parked
abbrev homed : List Event
homed = sent "/home\n" ∷ told 1 3 0 ∷ told 2 3 0 ∷ []

abbrev gone : List Event
gone = homed ++ sent "/1 2 move abs 10000\n" ∷ told 2 2 10000 ∷ []

abbrev in_park : List Event
in_park = homed then "/tools parking park\n"

pub record Case : Type 0 where
  pub before : List Event
  pub line : String
  pub verdict : Verdict
  pub reply : String

abbrev case : List Event → String → Verdict → String → Case
case b l v r = record { before = b; line = l; verdict = v; reply = r }

unfoldable pub cases : List Case
cases =
    case [] "/\n" ACCEPTED "@01 0 OK IDLE WR 0:3E\r\n"
    ∷ case [] "/" (Err NotLine) ""
    ∷ case [] "/01 tools echo:8F\n" ACCEPTED "@01 0 OK IDLE WR 0:3E\r\n"
    ∷ case [] "/01 tools echo:8E\n" (Err BadSum) ""
    ∷ case [] "/0x63 home\n" (Err NotMine) ""
    ∷ case [] "/0x64 home\n" (Err BadAddress) ""
    ∷ case [] "/-1\n" (Err BadAddress) ""
    ∷ case [] "/1 7 home\n" (Err BadAxis) "@01 0 RJ IDLE WR BADAXIS:70\r\n"
    ∷ case [] "/1 1 get comm.alert\n" (Err DeviceOnly) "@01 1 RJ IDLE WR DEVICEONLY:79\r\n"
    ∷ case [] "/set driver.dir 1\n" (Err NoAccess) "@01 0 RJ IDLE WR NOACCESS:1D\r\n"
    ∷ case [] "/01 set comm.address 5\n" ACCEPTED "@05 0 OK IDLE WR 0:3A\r\n"
    ∷ case homed "/move abs 305381\n" ACCEPTED "@01 0 OK BUSY -- 0:68\r\n"
    ∷ case homed "/move abs 305382\n" (Err BadData) "@01 0 RJ IDLE -- BADDATA:DA\r\n"
    -- beside those of document 01: an axis that is not 0, data that are not 0, values of both axes, replies without a checksum
    ∷ case [] "/1 2 home\n" ACCEPTED "@01 2 OK BUSY WR 0:17\r\n"
    ∷ case [] "/1 2 get limit.max\n" ACCEPTED "@01 2 OK IDLE WR 305381:38\r\n"
    ∷ case [] "/1 get maxspeed\n" ACCEPTED "@01 0 OK IDLE WR 153600 153600:F0\r\n"
    ∷ case [] "/tools echo a  b\n" ACCEPTED "@01 0 OK IDLE WR a b:8B\r\n"
    ∷ case [] "/set comm.checksum 0\n" ACCEPTED "@01 0 OK IDLE WR 0\r\n"
    ∷ case ([] then "/set comm.checksum 0\n") "/set comm.checksum 1\n" ACCEPTED "@01 0 OK IDLE WR 0:3E\r\n"
    ∷ case [] "/1 2 moves\n" (Err BadCommand) "@01 2 RJ IDLE WR BADCOMMAND:A4\r\n"
    ∷ case homed "/1 2 move abs 305382\n" (Err BadData) "@01 2 RJ IDLE -- BADDATA:D8\r\n"
    ∷ case gone "/get pos\n" ACCEPTED "@01 0 OK IDLE -- 0 10000:7C\r\n"
    ∷ case gone "/1 2 get pos\n" ACCEPTED "@01 2 OK IDLE -- 10000:CA\r\n"
    ∷ case (gone then "/1 1 home\n") "/1 2\n" ACCEPTED "@01 2 OK IDLE -- 0:8B\r\n"
    ∷ case (gone then "/1 1 home\n") "/1\n" ACCEPTED "@01 0 OK BUSY -- 0:68\r\n"
    ∷ case (gone then "/1 1 home\n") "/1 1 set pos 5\n" (Err StatusBusy) "@01 1 RJ BUSY -- STATUSBUSY:6E\r\n"
    ∷ case (told 2 4 3 ∷ []) "/1 1 warnings\n" ACCEPTED "@01 1 OK IDLE WR 01 WR:43\r\n"
    ∷ case (told 2 4 3 ∷ []) "/warnings\n" ACCEPTED "@01 0 OK IDLE FS 02 FS WR:9A\r\n"
    -- on a parked device: home unparks (02, order 4), for one axis as for all, and one that is refused does not
    ∷ case in_park "/stop\n" (Err Parked) "@01 0 RJ IDLE -- PARKED:04\r\n"
    ∷ case in_park "/move abs 5\n" (Err Parked) "@01 0 RJ IDLE -- PARKED:04\r\n"
    ∷ case in_park "/home\n" ACCEPTED "@01 0 OK BUSY -- 0:68\r\n"
    ∷ case in_park "/1 2 home\n" ACCEPTED "@01 2 OK BUSY -- 0:66\r\n"
    ∷ case (in_park then "/1 2 home\n") "/tools parking state\n" ACCEPTED "@01 0 OK BUSY -- 0:68\r\n"
    ∷ case (in_park then "/1 2 home\n") "/1 1 move abs 5\n" ACCEPTED "@01 1 OK BUSY -- 0:67\r\n"
    ∷ case (in_park then "/1 7 home\n") "/tools parking state\n" ACCEPTED "@01 0 OK IDLE -- 1:8C\r\n"
    ∷ case (in_park then "/2 home\n") "/estop\n" (Err Parked) "@01 0 RJ IDLE -- PARKED:04\r\n"
    ∷ []

-- the verdict, and the bytes of the reply
pub record Said : Type 0 where
  pub verdict : Verdict
  pub bytes : List ℕ

unfoldable pub said : Case → Said
said c =
    let s = step (reached fresh_device c.before) (text c.line) (replicate longest_answer 0) in
    record { verdict = s.answer.verdict; bytes = take s.answer.length s.buffer }

unfoldable pub wanted : Case → Said
wanted c = record { verdict = c.verdict; bytes = text c.reply }

pub all_cases : map said cases ≡ map wanted cases
unfolding answering fresh_device reached report Device.report report_refusal bad_report is_axis report_of raise raised cases said wanted
all_cases = refl
