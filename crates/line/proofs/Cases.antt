-- Document 01's lines and those of the settled readings, as one table under one statement: antt computes the reader on each.
-- Assumes nothing.
use Rattle.laws.specs.declared.Refusal.TheVariants.{TooLong, NotLine, BadSum, BadAddress, BadCommand, BadData}
use Rattle.std.specs.Prelude.{Ok, Err}
use mathlib.Core.Path.{◌≡◌, refl}
use mathlib.Core.List.{List, [], ◌∷◌, map}
use Prim.Native.String.{String}
use lib.IntN.{pos}
use Rattle.laws.specs.Text.{text}
use Rattle.units.specs.Units.{minus, position, number}
use Rattle.command.specs.declared.AxisSetting.TheVariants.{Pos, DriverDir}
use Rattle.command.specs.declared.DeviceSetting.TheVariants.{CommAddress, CommAlert}
use Rattle.command.specs.declared.Target.TheVariants.{Abs}
use Rattle.command.specs.declared.AxisCommand.TheVariants.{Nothing, Home, MoveTo, Set, StoreposCurrent}
use Rattle.command.specs.declared.DeviceCommand.TheVariants.{Echo}
use Rattle.command.specs.declared.DeviceCommand.TheVariants as Device
use Rattle.command.specs.declared.Command.TheVariants.{OfAxes, OfDevice}
use Rattle.line.specs.Reading.{LineRead, read_line, sent}
use Rattle.line.specs.Open.{reading}
use Rattle.phrase.specs.Reading.{worded}
use Rattle.laws.specs.Refusals.{refusal_at}

-- a line, and what it is read as, or what else is told of it
pub record Case (X : Type 0) : Type 0 where
  pub line : String
  pub answer : X

infix 70 ◌is◌
abbrev pub ◌is◌ : {X : Type 0} → String → X → Case X
l is a = record { line = l; answer = a }

abbrev pub table : List (Case LineRead)
table =
    "/\n" is Ok (sent 0 0 1 (Ok (worded (OfAxes Nothing) 0)))
    ∷ "/home" is Err (refusal_at NotLine 255)
    ∷ "home\n" is Err (refusal_at NotLine 255)
    ∷ "/home\r\r\n" is Err (refusal_at NotLine 255)
    ∷ "/01 tools echo:8F\n" is Ok (sent 1 0 14 (Ok (worded (OfDevice Echo) 14)))
    ∷ "/01 tools echo:8f\r\n" is Ok (sent 1 0 14 (Ok (worded (OfDevice Echo) 14)))
    ∷ "/01 tools echo:8E\n" is Err (refusal_at BadSum 255)
    ∷ "/a:b\n" is Err (refusal_at BadSum 255)
    ∷ "/:00\n" is Ok (sent 0 0 1 (Ok (worded (OfAxes Nothing) 0)))
    ∷ "/0x63 home\n" is Ok (sent 99 0 10 (Ok (worded (OfAxes Home) 0)))
    ∷ "/0x64 home\n" is Err (refusal_at BadAddress 4)
    ∷ "/-1\n" is Err (refusal_at BadAddress 1)
    ∷ "/+1\n" is Err (refusal_at BadAddress 1)
    ∷ "/1 7 home\n" is Ok (sent 1 7 9 (Ok (worded (OfAxes Home) 0)))
    ∷ "/1 12 home\n" is Ok (sent 1 0 10 (Err (refusal_at BadCommand 255)))
    ∷ "/1 01 home\n" is Ok (sent 1 0 10 (Err (refusal_at BadCommand 255)))
    ∷ "/1 5\n" is Ok (sent 1 5 4 (Ok (worded (OfAxes Nothing) 0)))
    ∷ "/1 1 get comm.alert\n" is Ok (sent 1 1 19 (Ok (worded (OfDevice (Device.Get CommAlert)) 0)))
    ∷ "/set driver.dir 1\n" is Ok (sent 0 0 17 (Ok (worded (OfAxes (Set DriverDir (number (pos 1)))) 0)))
    ∷ "/01 set comm.address 5\n" is Ok (sent 1 0 22 (Ok (worded (OfDevice (Device.Set CommAddress (number (pos 5)))) 0)))
    ∷ "/move abs 305381\n" is Ok (sent 0 0 16 (Ok (worded (OfAxes (MoveTo (Abs (position (pos 305381))))) 0)))
    ∷ "/move abs 305382\n" is Ok (sent 0 0 16 (Ok (worded (OfAxes (MoveTo (Abs (position (pos 305382))))) 0)))
    ∷ "/set pos 2147483648\n" is Ok (sent 0 0 19 (Err (refusal_at BadData 18)))
    ∷ "/set pos 2147483647\n" is Ok (sent 0 0 19 (Ok (worded (OfAxes (Set Pos (number (pos 2147483647)))) 0)))
    ∷ "/set pos -2147483648\n" is Ok (sent 0 0 20 (Ok (worded (OfAxes (Set Pos (number (minus 2147483648)))) 0)))
    ∷ "/get nothing now\n" is Ok (sent 0 0 16 (Err (refusal_at BadCommand 255)))
    ∷ "/set deviceid x y\n" is Ok (sent 0 0 17 (Err (refusal_at BadCommand 255)))
    ∷ "/set deviceid\n" is Ok (sent 0 0 13 (Err (refusal_at BadCommand 255)))
    ∷ "/move\n" is Ok (sent 0 0 5 (Err (refusal_at BadCommand 255)))
    ∷ "/tools\n" is Ok (sent 0 0 6 (Err (refusal_at BadCommand 255)))
    ∷ "/tools parking\n" is Ok (sent 0 0 14 (Err (refusal_at BadData 255)))
    ∷ "/tools parking x\n" is Ok (sent 0 0 16 (Err (refusal_at BadData 255)))
    ∷ "/tools storepos 1 current\n" is Ok (sent 0 0 25 (Ok (worded (OfAxes (StoreposCurrent (number (pos 1)))) 0)))
    ∷ "/warnings now\n" is Ok (sent 0 0 13 (Err (refusal_at BadData 255)))
    ∷ "/2 nonsense\n" is Ok (sent 2 0 11 (Err (refusal_at BadCommand 255)))
    ∷ "/move abs 0x\n" is Ok (sent 0 0 12 (Err (refusal_at BadData 12)))
    ∷ "/tools echo xxxxxxxxxxxxxxxxxxxxxxxxxxxxxxxxxxxxxxxxxxxxxxxxxxxxxxxxxxxxxxxxxxx\n" is Ok (sent 0 0 79 (Ok (worded (OfDevice Echo) 11)))
    ∷ "/tools echo xxxxxxxxxxxxxxxxxxxxxxxxxxxxxxxxxxxxxxxxxxxxxxxxxxxxxxxxxxxxxxxxxxxx\n" is Err (refusal_at TooLong 255)
    ∷ []

pub cases : map (λ (c : Case LineRead). read_line (text c.line)) table ≡ map (λ (c : Case LineRead). c.answer) table
unfolding reading
cases = refl
