-- Lines and what the host reads in them, closed by computation: messages of each kind at the ends of each rule, and lines just
-- beyond. Each case is a quoted line; `fill n` stands for n more bytes of text.
use mathlib.Core.Path.{◌≡◌, refl}
use mathlib.Core.Bool.{Bool, true, false}
use mathlib.Core.List.{List, [], ◌∷◌, ◌++◌, map}
use Prim.Native.Nat.{ℕ}
use Prim.Native.String.{String}
use lib.ListN.{replicate}
use Rattle.std.specs.Prelude.{Option, None, Some}
use Rattle.laws.specs.Lists.{span}
use Rattle.laws.specs.Text.{text, same}
use Rattle.numbers.specs.Checksum.{total, checksum}
use Rattle.numbers.specs.Reading.{value_of, read_pair}
use Rattle.words.specs.Find.{index}
use Rattle.flags.specs.Flags.{warning_names}
use Rattle.host_reader.specs.Reading.{marks, verdicts, statuses, warnings, kind_at, read_message}
use Rattle.host_reader.specs.declared.Said.{Said}
use Rattle.host_reader.specs.declared.Said.TheVariants.{Reply, Alert, Info}
use Rattle.host_reader.specs.declared.Message.{Message}

pub record Row : Type 0 where
  pub line : List ℕ
  pub answer : Option Message

-- address, axis, and what is said for it
abbrev says : List ℕ → ℕ → ℕ → Said → Row
says l a k s = record { line = l; answer = Some (record { address = a; axis = k; said = s }) }

-- OK, BUSY, the warning's place, the data's length
abbrev reply : Bool → Bool → ℕ → ℕ → Said
reply ok busy w n = Reply ok (record { busy = busy; warning = w }) (record { place = 17; length = n })

abbrev alert : Bool → ℕ → Said
alert busy w = Alert (record { busy = busy; warning = w })

-- the text's place and length
abbrev info : ℕ → ℕ → Said
info i n = Info (record { place = i; length = n })

abbrev none : String → Row
none l = record { line = text l; answer = None }

abbrev fill : ℕ → List ℕ
fill n = replicate n 120

unfoldable pub rows : List Row
rows =
    says (text "@01 0 OK IDLE WR 0\r\n") 1 0 (reply true false 8 1)
    ∷ says (text "@99 9 RJ BUSY -- BADDATA\r\n") 99 9 (reply false true 0 7)
    ∷ says (text "@10 1 OK BUSY FD 0\r\n") 10 1 (reply true true 1 1)
    ∷ says (text "@01 0 OK IDLE FE 02 FE WR\r\n") 1 0 (reply true false 7 8)
    -- spaces inside and behind the data are data
    ∷ says (text "@01 0 OK IDLE -- a  b  \r\n") 1 0 (reply true false 0 6)
    -- a right checksum in either case
    ∷ says (text "@01 0 OK IDLE WR 0:3E\r\n") 1 0 (reply true false 8 1)
    ∷ says (text "@01 0 OK IDLE WR 0:3e\r\n") 1 0 (reply true false 8 1)
    ∷ none "@01 0 OK IDLE WR 0:3F\r\n"
    ∷ none "@01 0 OK IDLE WR 0:E3\r\n"
    ∷ none "@01 0 OK IDLE WR 0:3\r\n"
    ∷ none "@01 0 OK IDLE WR 0:3E \r\n"
    ∷ none "@01 0 OK IDLE WR 0:3E:3E\r\n"
    -- footer
    ∷ none "@01 0 OK IDLE WR 0\n"
    ∷ none "@01 0 OK IDLE WR 0\r"
    ∷ none "@01 0 OK IDLE WR 0\n\r"
    ∷ none "@01 0 OK IDLE WR 0"
    ∷ none "@01 0 OK IDLE WR 0\r\n\r\n"
    -- fields
    ∷ none "@00 0 OK IDLE WR 0\r\n"
    ∷ none "@1 0 OK IDLE WR 0\r\n"
    ∷ none "@0A 0 OK IDLE WR 0\r\n"
    ∷ none "@01 A OK IDLE WR 0\r\n"
    ∷ none "@01 10 OK IDLE WR 0\r\n"
    ∷ none "@01 0 ok IDLE WR 0\r\n"
    ∷ none "@01 0 OK IDLE NI 0\r\n"
    ∷ none "/01 0 OK IDLE WR 0\r\n"
    ∷ none "@01 0 OK  IDLE WR 0\r\n"
    ∷ none "@01 0 OK IDLE WR  0\r\n"
    ∷ none "@01 0 OK IDLE WR \r\n"
    ∷ none "@01 0 OK IDLE WR\r\n"
    ∷ none "\r\n"
    ∷ none ""
    -- 96 bytes are read, 97 are not
    ∷ says (text "@01 0 OK IDLE WR " ++ fill 77 ++ text "\r\n") 1 0 (reply true false 8 77)
    ∷ record { line = text "@01 0 OK IDLE WR " ++ fill 78 ++ text "\r\n"; answer = None }
    -- alerts: each status, the first and the last warning, none, and a checksum in either case
    ∷ says (text "!01 2 IDLE --\r\n") 1 2 (alert false 0)
    ∷ says (text "!99 9 BUSY WR\r\n") 99 9 (alert true 8)
    ∷ says (text "!10 0 IDLE FD\r\n") 10 0 (alert false 1)
    ∷ says (text "!01 2 IDLE --:95\r\n") 1 2 (alert false 0)
    ∷ says (text "!99 3 BUSY WR:0f\r\n") 99 3 (alert true 8)
    ∷ none "!01 2 IDLE --:96\r\n"
    ∷ none "!01 2 IDLE --:59\r\n"
    ∷ none "!01 2 IDLE --:9\r\n"
    ∷ none "!01 2 IDLE --\n"
    ∷ none "!01 2 IDLE --"
    -- an alert has no data, nor a space behind its flag, and no field is left out
    ∷ none "!01 2 IDLE -- 0\r\n"
    ∷ none "!01 2 IDLE -- \r\n"
    ∷ none "!01 2 IDLE --0\r\n"
    ∷ none "!01 2 IDLE\r\n"
    ∷ none "!01 2 IDLE -\r\n"
    ∷ none "!01 2 IDLE NI\r\n"
    ∷ none "!01 2 idle --\r\n"
    ∷ none "!01 2  IDLE --\r\n"
    ∷ none "!01 2 IDLE  --\r\n"
    ∷ none "!00 2 IDLE --\r\n"
    ∷ none "!1 2 IDLE --\r\n"
    ∷ none "!01 10 IDLE --\r\n"
    ∷ none "!01 IDLE --\r\n"
    -- the words of one kind under the mark of another
    ∷ none "@01 2 IDLE --\r\n"
    ∷ none "!01 0 OK IDLE WR 0\r\n"
    ∷ none "@01 0 tools echo\r\n"
    ∷ none "!01 0 tools echo\r\n"
    ∷ none "!01 0\r\n"
    ∷ none "@01 0\r\n"
    ∷ says (text "#01 0 OK IDLE WR 0\r\n") 1 0 (info 6 12)
    ∷ says (text "#01 2 IDLE --\r\n") 1 2 (info 6 7)
    -- info lines: a text, one byte of it, none, and a checksum in either case
    ∷ says (text "#01 0 tools echo\r\n") 1 0 (info 6 10)
    ∷ says (text "#99 9 ~\r\n") 99 9 (info 6 1)
    ∷ says (text "#01 0 !\r\n") 1 0 (info 6 1)
    ∷ says (text "#01 0 a  b  \r\n") 1 0 (info 6 6)
    ∷ says (text "#01 0\r\n") 1 0 (info 5 0)
    ∷ says (text "#01 0 tools echo:3F\r\n") 1 0 (info 6 10)
    ∷ says (text "#01 0 tools echo:3f\r\n") 1 0 (info 6 10)
    ∷ says (text "#01 0:4F\r\n") 1 0 (info 5 0)
    ∷ none "#01 0 tools echo:3E\r\n"
    ∷ none "#01 0:50\r\n"
    ∷ none "#01 0:4F:4F\r\n"
    -- no space before an empty text, one before any other, and no more
    ∷ none "#01 0 \r\n"
    ∷ none "#01 0  \r\n"
    ∷ none "#01 0 :2F\r\n"
    ∷ none "#01 0  a\r\n"
    ∷ none "#01 0a\r\n"
    ∷ none "#01 0:\r\n"
    ∷ none "#01 0 a:b\r\n"
    ∷ none "#01 \r\n"
    ∷ none "#01\r\n"
    ∷ none "#01 A\r\n"
    ∷ none "#00 0\r\n"
    ∷ none "#01 0\n"
    ∷ none "#01 0"
    ∷ none "#\r\n"
    ∷ none "#"
    -- no mark, or another
    ∷ none "01 0\r\n"
    ∷ none " 01 0\r\n"
    ∷ none "/01 0\r\n"
    ∷ none "##01 0\r\n"
    -- the bytes on both sides of 32 to 126
    ∷ record { line = text "#01 0 a" ++ (31 ∷ text "\r\n"); answer = None }
    ∷ record { line = text "#01 0 a" ++ (127 ∷ text "\r\n"); answer = None }
    -- 96 bytes are read, 97 are not
    ∷ says (text "#01 0 " ++ fill 88 ++ text "\r\n") 1 0 (info 6 88)
    ∷ record { line = text "#01 0 " ++ fill 89 ++ text "\r\n"; answer = None }
    ∷ []

pub message_cases : map (λ r. read_message r.line) rows ≡ map (λ r. r.answer) rows
unfolding rows marks verdicts statuses warnings kind_at warning_names span index value_of read_pair total checksum text same
message_cases = refl
