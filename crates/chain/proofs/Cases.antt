-- Lines to the four devices of the program `cable`, two of them of one address, and to chains that are refused, as one table: the records,
-- the line, the room, the verdict and each place's answer. Over the very definitions that `chain` promises, by computation.
use Rattle.std.specs.Prelude.{Err}
use mathlib.Core.Path.{◌≡◌, refl}
use mathlib.Core.List.{List, [], ◌∷◌, map}
use Prim.Native.Nat.{ℕ}
use Prim.Native.String.{String}
use lib.IntN.{pos}
use lib.ListN.{replicate}
use Rattle.laws.specs.Text.{text}
use Rattle.laws.specs.declared.Refusal.TheVariants.{NotLine, TooLong, BadSum, BadAddress, NotMine, NoRoom, BadState}
use Rattle.laws.specs.Refusals.{ACCEPTED, Verdict}
use Rattle.units.specs.Units.{number}
use Rattle.phrase.specs.Reading.{read_help}
use Rattle.device.specs.declared.Device.{Device}
use Rattle.device.specs.Record.{fresh}
use Rattle.reply.specs.Reply.{joined}
use Rattle.carriage.specs.Open.{answering}
use Rattle.chain.specs.Chain.{blank, next_of, text_of, verdict_of, refusal, refusal_of, chain}

-- address, how many axes, device id
abbrev device : ℕ → ℕ → ℕ → Device
device address count id = fresh (number (pos address)) count (number (pos id))

unfoldable pub cable : List Device
cable = device 1 2 100 ∷ device 2 1 101 ∷ device 1 4 102 ∷ device 9 3 103 ∷ []

-- with one record that is not good: it has no axis
unfoldable pub spoilt : List Device
spoilt = device 1 2 100 ∷ device 2 0 101 ∷ []

-- what the records become
abbrev after : String → List Device → List Device
after l xs = (chain xs (text l) 384).devices

pub record Case : Type 0 where
  pub devices : List Device
  pub line : String
  pub room : ℕ
  pub verdict : Verdict
  pub answers : List (List ℕ)

abbrev case : List Device → String → ℕ → Verdict → List String → Case
case xs l b v ts = record { devices = xs; line = l; room = b; verdict = v; answers = map text ts }

-- the same where an answer is several messages, one behind the other
abbrev told : List Device → String → ℕ → List (List String) → Case
told xs l b tss = record { devices = xs; line = l; room = b; verdict = ACCEPTED; answers = map (λ ts. joined (map text ts)) tss }

-- the answers to `help commands` of devices 1, 2 and 9
abbrev helped1 : List String
helped1 =
    "@01 0 OK IDLE WR 0:3E\r\n" ∷ "#01 0 home:86\r\n" ∷ "#01 0 stop:69\r\n" ∷ "#01 0 estop:04\r\n"
    ∷ "#01 0 move:78\r\n" ∷ "#01 0 get:EF\r\n" ∷ "#01 0 set:E3\r\n" ∷ "#01 0 tools storepos:5F\r\n"
    ∷ "#01 0 warnings:C6\r\n" ∷ "#01 0 tools parking:F2\r\n" ∷ "#01 0 tools echo:3F\r\n" ∷ "#01 0 help commands:14\r\n"
    ∷ []

abbrev helped2 : List String
helped2 =
    "@02 0 OK IDLE WR 0:3D\r\n" ∷ "#02 0 home:85\r\n" ∷ "#02 0 stop:68\r\n" ∷ "#02 0 estop:03\r\n"
    ∷ "#02 0 move:77\r\n" ∷ "#02 0 get:EE\r\n" ∷ "#02 0 set:E2\r\n" ∷ "#02 0 tools storepos:5E\r\n"
    ∷ "#02 0 warnings:C5\r\n" ∷ "#02 0 tools parking:F1\r\n" ∷ "#02 0 tools echo:3E\r\n" ∷ "#02 0 help commands:13\r\n"
    ∷ []

abbrev helped9 : List String
helped9 =
    "@09 0 OK IDLE WR 0:36\r\n" ∷ "#09 0 home:7E\r\n" ∷ "#09 0 stop:61\r\n" ∷ "#09 0 estop:FC\r\n"
    ∷ "#09 0 move:70\r\n" ∷ "#09 0 get:E7\r\n" ∷ "#09 0 set:DB\r\n" ∷ "#09 0 tools storepos:57\r\n"
    ∷ "#09 0 warnings:BE\r\n" ∷ "#09 0 tools parking:EA\r\n" ∷ "#09 0 tools echo:37\r\n" ∷ "#09 0 help commands:0C\r\n"
    ∷ []

abbrev nothing : List String
nothing = "" ∷ "" ∷ "" ∷ "" ∷ []

unfoldable pub cases : List Case
cases =
    case cable "/get deviceid\n" 384 ACCEPTED
    ("@01 0 OK IDLE WR 100:DD\r\n" ∷ "@02 0 OK IDLE WR 101:DB\r\n" ∷ "@01 0 OK IDLE WR 102:DB\r\n" ∷ "@09 0 OK IDLE WR 103:D2\r\n" ∷ [])
    -- "two devices with one address both answer"
    ∷ case cable "/1 get deviceid\n" 384 ACCEPTED ("@01 0 OK IDLE WR 100:DD\r\n" ∷ "" ∷ "@01 0 OK IDLE WR 102:DB\r\n" ∷ "" ∷ [])
    ∷ case cable "/1 3 home\n" 384 ACCEPTED ("@01 0 RJ IDLE WR BADAXIS:70\r\n" ∷ "" ∷ "@01 3 OK BUSY WR 0:16\r\n" ∷ "" ∷ [])
    -- what a device rejects is no number of the chain
    ∷ case cable "/2 2 home\n" 384 ACCEPTED ("" ∷ "@02 0 RJ IDLE WR BADAXIS:6F\r\n" ∷ "" ∷ "" ∷ [])
    ∷ case cable "/nonsense\n" 384 ACCEPTED
    ("@01 0 RJ IDLE WR BADCOMMAND:A6\r\n" ∷ "@02 0 RJ IDLE WR BADCOMMAND:A5\r\n" ∷ "@01 0 RJ IDLE WR BADCOMMAND:A6\r\n"
    ∷ "@09 0 RJ IDLE WR BADCOMMAND:9E\r\n" ∷ [])
    -- the line's 1 to 4, and 5
    ∷ case cable "home\n" 384 (Err NotLine) nothing
    ∷ case cable "/tools echo aaaaaaaaaaaaaaaaaaaaaaaaaaaaaaaaaaaaaaaaaaaaaaaaaaaaaaaaaaaaaaaaaaaa\n" 384 (Err TooLong) nothing
    ∷ case cable "/1 home:00\n" 384 (Err BadSum) nothing
    ∷ case cable "/+1 home\n" 384 (Err BadAddress) nothing
    ∷ case cable "/5 nonsense\n" 384 (Err NotMine) nothing
    -- a record changes where it stands, and is heeded by its address before the line
    ∷ case cable "/9 0 set comm.address 2\n" 384 ACCEPTED ("" ∷ "" ∷ "" ∷ "@02 0 OK IDLE WR 0:3D\r\n" ∷ [])
    ∷ case (after "/9 0 set comm.address 2\n" cable) "/2 get deviceid\n" 384 ACCEPTED
    ("" ∷ "@02 0 OK IDLE WR 101:DB\r\n" ∷ "" ∷ "@02 0 OK IDLE WR 103:D9\r\n" ∷ [])
    ∷ case (after "/9 0 set comm.address 2\n" cable) "/9 get deviceid\n" 384 (Err NotMine) nothing
    -- refusals, before the line is read: 20, then 21
    ∷ case cable "/get deviceid\n" 383 (Err NoRoom) []
    ∷ case [] "/get deviceid\n" 384 (Err NoRoom) []
    ∷ case (replicate 17 (device 1 2 100)) "/get deviceid\n" 1632 (Err NoRoom) []
    ∷ case (replicate 16 (device 1 2 100)) "/5 home\n" 1536 (Err NotMine) (replicate 16 "")
    ∷ case spoilt "home\n" 192 (Err BadState) []
    ∷ case spoilt "home\n" 191 (Err NoRoom) []
    -- order 5: a reply and its info lines, device by device; 96 bytes for each of them, times the records, whomever the line concerns
    ∷ told cable "/help commands\n" 4608 (helped1 ∷ helped2 ∷ helped1 ∷ helped9 ∷ [])
    ∷ told cable "/2 0 help commands\n" 4608 ([] ∷ helped2 ∷ [] ∷ [] ∷ [])
    ∷ case cable "/help commands\n" 4607 (Err NoRoom) []
    ∷ case cable "/2 help commands\n" 4607 (Err NoRoom) []
    ∷ case cable "/5 help commands\n" 4607 (Err NoRoom) []
    ∷ case cable "/5 help commands\n" 4608 (Err NotMine) nothing
    ∷ case cable "/2 3 help commands\n" 4607 (Err NoRoom) []
    ∷ case cable "/2 3 help commands\n" 4608 ACCEPTED ("" ∷ "@02 0 RJ IDLE WR BADAXIS:6F\r\n" ∷ "" ∷ "" ∷ [])
    ∷ case cable "/2 help\n" 384 ACCEPTED ("" ∷ "@02 0 RJ IDLE WR BADDATA:8A\r\n" ∷ "" ∷ "" ∷ [])
    ∷ case cable "/1 home:00\n" 4607 (Err BadSum) nothing
    ∷ case spoilt "/help commands\n" 192 (Err BadState) []
    ∷ []

-- the verdict, and the bytes of each place's answer
pub record Said : Type 0 where
  pub verdict : Verdict
  pub answers : List (List ℕ)

unfoldable pub said : Case → Said
said c =
    let s = chain c.devices (text c.line) c.room in record { verdict = s.verdict; answers = s.answers }

unfoldable pub wanted : Case → Said
wanted c = record { verdict = c.verdict; answers = c.answers }

pub all_cases : map said cases ≡ map wanted cases
unfolding answering cable spoilt blank next_of text_of verdict_of refusal refusal_of chain cases said wanted joined read_help
all_cases = refl

-- "Replies follow in chain order": the bytes that a call leaves
pub in_order : joined (chain cable (text "/1 get deviceid\n") 384).answers ≡ text "@01 0 OK IDLE WR 100:DD\r\n@01 0 OK IDLE WR 102:DB\r\n"
unfolding answering cable blank next_of text_of verdict_of refusal refusal_of chain joined
in_order = refl
