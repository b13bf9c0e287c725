-- Settings that are all in range stay so when one of them is set within its range.
-- Assumes nothing.
use mathlib.Core.Path.{◌≡◌}
use mathlib.Core.Bool.{Bool, true}
use native.Mathlib.Omega.{arith}
use lib.IntN.{pos}
use lib.Signed.{le_z}
use Rattle.laws.specs.Lists.{fold, all}
use Rattle.laws.proofs.Bools.{and_both}
use Rattle.laws.proofs.Walks.{nth}
use Rattle.units.specs.Units.{minus}
use Rattle.units.proofs.Ranges.{above_least, below_most}
use Rattle.command.specs.Settings.{axis_settings}
use Rattle.settings.specs.Types.{Number, AxisSetting, Pos, LimitMin, LimitMax, MaxSpeed, Accel, DriverCurrentMax, DriverCurrentRun, DriverCurrentHold, DriverDir, EncoderIndexCount}
use Rattle.settings.specs.declared.Settings.{Settings}
use Rattle.settings.specs.Settings.{allows, in_range, put}

-- all settings pass a test where each does, and each where all do
module _ (f : AxisSetting → Bool) where
  every : f Pos ≡ true → f LimitMin ≡ true → f LimitMax ≡ true → f MaxSpeed ≡ true → f Accel ≡ true → f DriverCurrentMax ≡ true
      → f DriverCurrentRun ≡ true → f DriverCurrentHold ≡ true → f DriverDir ≡ true → f EncoderIndexCount ≡ true → all f axis_settings ≡ true
  unfolding fold axis_settings
  every a b c d e g h i j k = simp (a, b, c, d, e, g, h, i, j, k)

  pub one : all f axis_settings ≡ true → (s : AxisSetting) → f s ≡ true
  unfolding axis_settings
  one h Pos = nth f axis_settings Pos 0 (omega arith) h
  one h LimitMin = nth f axis_settings Pos 1 (omega arith) h
  one h LimitMax = nth f axis_settings Pos 2 (omega arith) h
  one h MaxSpeed = nth f axis_settings Pos 3 (omega arith) h
  one h Accel = nth f axis_settings Pos 4 (omega arith) h
  one h DriverCurrentMax = nth f axis_settings Pos 5 (omega arith) h
  one h DriverCurrentRun = nth f axis_settings Pos 6 (omega arith) h
  one h DriverCurrentHold = nth f axis_settings Pos 7 (omega arith) h
  one h DriverDir = nth f axis_settings Pos 8 (omega arith) h
  one h EncoderIndexCount = nth f axis_settings Pos 9 (omega arith) h

-- each clause names what each setting is now in range by: the number set, or what was so before
module _ (n : Number) (s : Settings) (good : all (in_range s) axis_settings ≡ true) where
  old : (x : AxisSetting) → in_range s x ≡ true
  old = one (in_range s) good

  pub put_good : (x : AxisSetting) → allows x n s ≡ true → all (in_range (put x n s)) axis_settings ≡ true
  put_good Pos h =
      every (in_range (put Pos n s)) h (old LimitMin) (old LimitMax) (old MaxSpeed) (old Accel) (old DriverCurrentMax)
      (old DriverCurrentRun) (old DriverCurrentHold) (old DriverDir) (old EncoderIndexCount)
  put_good LimitMin h =
      every (in_range (put LimitMin n s)) (old Pos) h
      (and_both (le_z n.0 s.limit.max.0) (le_z s.limit.max.0 (pos 1000000000))
      (below_most (minus 1000000000) s.limit.max.0 n.0 h)
      (below_most s.limit.min.0 (pos 1000000000) s.limit.max.0 (old LimitMax)))
      (old MaxSpeed) (old Accel) (old DriverCurrentMax) (old DriverCurrentRun) (old DriverCurrentHold) (old DriverDir)
      (old EncoderIndexCount)
  put_good LimitMax h =
      every (in_range (put LimitMax n s)) (old Pos)
      (and_both (le_z (minus 1000000000) s.limit.min.0) (le_z s.limit.min.0 n.0)
      (above_least (minus 1000000000) s.limit.max.0 s.limit.min.0 (old LimitMin))
      (above_least s.limit.min.0 (pos 1000000000) n.0 h))
      h (old MaxSpeed) (old Accel) (old DriverCurrentMax) (old DriverCurrentRun) (old DriverCurrentHold) (old DriverDir)
      (old EncoderIndexCount)
  put_good MaxSpeed h =
      every (in_range (put MaxSpeed n s)) (old Pos) (old LimitMin) (old LimitMax) h (old Accel) (old DriverCurrentMax)
      (old DriverCurrentRun) (old DriverCurrentHold) (old DriverDir) (old EncoderIndexCount)
  put_good Accel h =
      every (in_range (put Accel n s)) (old Pos) (old LimitMin) (old LimitMax) (old MaxSpeed) h (old DriverCurrentMax)
      (old DriverCurrentRun) (old DriverCurrentHold) (old DriverDir) (old EncoderIndexCount)
  put_good DriverCurrentMax h = good
  put_good DriverCurrentRun h =
      every (in_range (put DriverCurrentRun n s)) (old Pos) (old LimitMin) (old LimitMax) (old MaxSpeed) (old Accel)
      (old DriverCurrentMax) h (old DriverCurrentHold) (old DriverDir) (old EncoderIndexCount)
  put_good DriverCurrentHold h =
      every (in_range (put DriverCurrentHold n s)) (old Pos) (old LimitMin) (old LimitMax) (old MaxSpeed) (old Accel) (old DriverCurrentMax)
      (old DriverCurrentRun) h (old DriverDir) (old EncoderIndexCount)
  put_good DriverDir h =
      every (in_range (put DriverDir n s)) (old Pos) (old LimitMin) (old LimitMax) (old MaxSpeed) (old Accel) (old DriverCurrentMax)
      (old DriverCurrentRun) (old DriverCurrentHold) h (old EncoderIndexCount)
  put_good EncoderIndexCount h =
      every (in_range (put EncoderIndexCount n s)) (old Pos) (old LimitMin) (old LimitMax) (old MaxSpeed) (old Accel) (old DriverCurrentMax)
      (old DriverCurrentRun) (old DriverCurrentHold) (old DriverDir) h
