-- Of a part over 80 bytes the first 81 are enough: they print and show the same, and make the same record. The program console
-- keeps no more.
-- Assumes nothing.
use mathlib.Core.Path.{◌≡◌, refl}
use mathlib.Core.Bool.{Bool, true, false, cond, ◌&&◌}
use mathlib.Core.List.{List, [], ◌∷◌}
use Prim.Native.Nat.{ℕ, ◌<◌}
use native.Mathlib.Omega.{arith}
use lib.ListN.{length, take, replicate, length-take}
use Rattle.laws.specs.declared.Refusal.TheVariants.{TooLong}
use Rattle.laws.specs.Refusals.{NOWHERE, refusal_at}
use borrow.Author.Tests.{lt-ltb}
use Rattle.line.specs.Reading.{read_line}
use Rattle.line.proofs.Frames.{too_long_lem}
use Rattle.std.specs.Prelude.{None, Err}
use Rattle.input.specs.ReportLines.{read_report}
use Rattle.input.specs.Prints.{is_report}
use Rattle.device.specs.declared.Device.{Device}
use Rattle.device.specs.Good.{good}
use Rattle.reply.specs.Help.{longest_answer}
use Rattle.carriage.specs.Step.{step, respond, refused_at}
use Rattle.session.specs.Bench.{line_turn, turn, shown}

long_line : (l : List ℕ) → 80 < length l → read_line l ≡ Err (refusal_at TooLong NOWHERE)
unfolding read_line
long_line l h = simp (too_long_lem l h)

-- whatever the line, 2 is answered alike
long_step : (d : Device) (l m b : List ℕ) → 80 < length l → 80 < length m → step d l b ≡ step d m b
unfolding step respond
long_step d l m b h k = simp (long_line l h, long_line m k)

long_report : (p : List ℕ) → 80 < length p → read_report p ≡ None
unfolding read_report
long_report p h = simp (lt-ltb 80 (length p) h)

same_front : (p : List ℕ) → is_report (take 81 p) ≡ is_report p
unfolding is_report
same_front [] = refl
same_front (c ∷ s) = refl

pub long_part : (d : Device) (p : List ℕ) → 80 < length p → turn d (take 81 p) ≡ turn d p
unfolding turn line_turn
long_part d p h =
    let long : 80 < length (take 81 p) = rw length-take (omega (arith, h)) in
    simp (same_front p, long_report p h, long_report (take 81 p) long, long_step d (take 81 p) p (replicate longest_answer 0) long h)

long_place : (d : Device) (l : List ℕ) → 80 < length l → refused_at d l ≡ NOWHERE
unfolding refused_at
long_place d l h = simp (long_line l h) (go (good d))
  where
    go : (t : Bool) → cond (t && true) NOWHERE NOWHERE ≡ NOWHERE
    go true = refl
    go false = refl

-- and so does what a person is shown
pub long_shown : (d : Device) (p : List ℕ) → 80 < length p → shown d (take 81 p) ≡ shown d p
unfolding shown
long_shown d p h =
    let long : 80 < length (take 81 p) = rw length-take (omega (arith, h)) in
    simp (long_part d p h, long_place d p h, long_place d (take 81 p) long)
