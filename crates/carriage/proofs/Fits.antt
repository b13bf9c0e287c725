-- On a good record the data of every reply fits: 74 bytes at most.
-- Assumes nothing.
use Rattle.laws.specs.Refusals.{ACCEPTED}
use mathlib.Core.Path.{◌≡◌, refl}
use mathlib.Core.Logic.{⊎_elim}
use mathlib.Core.Bool.{Bool, true, false, cond}
use mathlib.Core.List.{List, [], ◌∷◌, map}
use Prim.Native.Nat.{ℕ, zero, suc, ◌+◌, ◌-◌, ◌≤◌, ◌<◌}
use native.Mathlib.Omega.{arith}
use lib.IntN.{ℤ, pos, negsuc}
use lib.ListN.{length, get_or, take, drop, length-take, length-drop, length-map}
use borrow.Author.Tests.{eq-eqb, ne_eqb, ltb-false}
use mir.Syntax.{w32}
use mir.Val.{SFits}
use Rattle.laws.specs.Lists.{fold, all}
use Rattle.laws.specs.Text.{text}
use Rattle.laws.proofs.Order.{eq_or_ne}
use Rattle.laws.proofs.Bools.{and_left, and_right}
use Rattle.laws.proofs.Each.{Each, none, more}
use Rattle.laws.proofs.Walks.{nth}
use Rattle.units.specs.Units.{minus, position, number, place, within, bound, ◌to◌}
use Rattle.units.specs.declared.Position.{Position}
use Rattle.units.specs.declared.Number.{Number}
use Rattle.units.proofs.Signed.{within_fits}
use Rattle.units.proofs.Ranges.{above_least, below_most, wider}
use Rattle.numbers.specs.Decimal.{decimal}
use Rattle.numbers.proofs.Decimal.{decimal_length}
use Rattle.command.specs.declared.AxisSetting.{AxisSetting}
use Rattle.command.specs.declared.AxisSetting.TheVariants as Axis
use Rattle.command.specs.declared.DeviceSetting.{DeviceSetting}
use Rattle.command.specs.declared.DeviceSetting.TheVariants.{CommAddress, CommAlert, CommChecksum, SystemAccess, DeviceId, SystemAxisCount}
use Rattle.command.specs.declared.Setting.{Setting}
use Rattle.command.specs.declared.Setting.TheVariants.{OfAxis, OfDevice}
use Rattle.command.specs.declared.forms.Form.{Form}
use Rattle.command.specs.declared.kinds.Data.{Data}
use Rattle.command.specs.Forms.{form_of}
use Rattle.command.specs.Commands.{demands, carries_words}
use Rattle.command.specs.declared.Command.{Command}
use Rattle.command.specs.Settings.{device_settings}
use Rattle.settings.specs.declared.Settings.{Settings}
use Rattle.settings.specs.Settings.{in_range, value}
use Rattle.settings.proofs.GoodStays.{one}
use Rattle.axis.specs.declared.Axis.{Axis}
use Rattle.axis.specs.Travel.{is_place, stored}
use Rattle.axis.specs.Good.{good_position, good_axis}
use Rattle.axis.proofs.GoodStays.{settings_good, stored_good}
use Rattle.device.specs.declared.Device.{Device}
use Rattle.device.specs.Record.{many, axes_of}
use Rattle.device.specs.Good.{good}
use Rattle.device.specs.Record as Record
use Rattle.device.specs.Good as Good
use Rattle.rules.specs.Refusals.{bad_axis, refusal}
use Rattle.rules.proofs.Accepted.{within_count}
use Rattle.rules.proofs.GoodStays.{Good, goodness}
use Rattle.reply.specs.Data.{values, echoed}
use Rattle.reply.proofs.Lengths.{Short, values_length, list_length, echoed_none, echo_fits}
use Rattle.view.specs.View.{value_in, values_of, warnings_of}
use Rattle.view.specs.declared.Value.{Value}
use Rattle.words.specs.Cutting.{cut}
use Rattle.line.specs.Reading.{carried_by}
use Rattle.line.proofs.Carried.{Carried}
use Rattle.rules.proofs.GoodStays.{good_count}
use Rattle.view.specs.Data.{setting_data, parked_data, text_of, data_of}

-- what lies in a range of 32 bits takes 11 bytes at most
short_in : (l h z : ℤ) → SFits w32 l → SFits w32 h → within (l to h) z ≡ true → length (decimal z) ≤ 11
short_in l h z a b e = decimal_length z (within_fits l h z a b e)

above : (n : ℕ) → n < 2147483648 → SFits w32 (pos n)
above n h = record { sfits = h }

below : (n : ℕ) → n < 2147483648 → SFits w32 (negsuc n)
below n h = record { sfits = h }

short_bound : (z : ℤ) → within bound z ≡ true → length (decimal z) ≤ 11
short_bound z e = short_in (minus 1000000000) (pos 1000000000) z (below 999999999 (omega arith)) (above 1000000000 (omega arith)) e

-- from 0 up to some number
short_up : (n : ℕ) (z : ℤ) → n < 2147483648 → within (pos 0 to pos n) z ≡ true → length (decimal z) ≤ 11
short_up n z h e = short_in (pos 0) (pos n) z (above 0 (omega arith)) (above n h) e

-- ---- the values of an axis
module _ (a : Axis) (good : good_axis a ≡ true) where
  abbrev s : Settings
  s = a.settings

  ranged : (x : AxisSetting) → in_range s x ≡ true
  ranged = one (in_range s) (settings_good a good)

  most_current : (z : ℤ) → within (pos 0 to s.current.max.0) z ≡ true → within (pos 0 to pos 255) z ≡ true
  most_current z e = wider (pos 0) (pos 255) (pos 0) s.current.max.0 z refl
      (below_most (pos 0) (pos 255) s.current.max.0 (ranged Axis.DriverCurrentMax)) e

  setting_short : (x : AxisSetting) → Short (value x s)
  setting_short Axis.Pos = short_bound s.pos.0 (ranged Axis.Pos)
  setting_short Axis.LimitMin =
      short_bound s.limit.min.0
      (wider (minus 1000000000) (pos 1000000000) (minus 1000000000) s.limit.max.0 s.limit.min.0 refl
      (below_most s.limit.min.0 (pos 1000000000) s.limit.max.0 (ranged Axis.LimitMax)) (ranged Axis.LimitMin))
  setting_short Axis.LimitMax =
      short_bound s.limit.max.0
      (wider (minus 1000000000) (pos 1000000000) s.limit.min.0 (pos 1000000000) s.limit.max.0
      (above_least (minus 1000000000) s.limit.max.0 s.limit.min.0 (ranged Axis.LimitMin)) refl (ranged Axis.LimitMax))
  setting_short Axis.MaxSpeed = short_in (pos 1) (pos 1000000000) s.maxspeed.0 (above 1 (omega arith)) (above 1000000000 (omega arith))
      (ranged Axis.MaxSpeed)
  setting_short Axis.Accel = short_up 32767 s.accel.0 (omega arith) (ranged Axis.Accel)
  setting_short Axis.DriverCurrentMax = short_up 255 s.current.max.0 (omega arith) (ranged Axis.DriverCurrentMax)
  setting_short Axis.DriverCurrentRun = short_up 255 s.current.run.0 (omega arith)
      (most_current s.current.run.0 (ranged Axis.DriverCurrentRun))
  setting_short Axis.DriverCurrentHold = short_up 255 s.current.hold.0 (omega arith)
      (most_current s.current.hold.0 (ranged Axis.DriverCurrentHold))
  setting_short Axis.DriverDir = short_up 1 s.dir.0 (omega arith) (ranged Axis.DriverDir)
  setting_short Axis.EncoderIndexCount = short_in (minus 32768) (pos 32767) s.index.0 (below 32767 (omega arith))
      (above 32767 (omega arith)) (ranged Axis.EncoderIndexCount)

  -- any element of a list that passes, or the one beyond its end
  some_position : (ps : List Position) (i : ℕ) → all good_position ps ≡ true → good_position (get_or ps i (position (pos 0))) ≡ true
  unfolding fold
  some_position [] i e = refl
  some_position (p ∷ ps) zero e = and_left (good_position p) (all good_position ps) e
  some_position (p ∷ ps) (suc i) e = some_position ps i (and_right (good_position p) (all good_position ps) e)

  stored_short : (n : Number) → Short (number (stored n a).0)
  unfolding stored
  stored_short n = go (is_place n)
    where
      go : (t : Bool) → length (decimal (cond t (get_or a.stored (place n.0 - 1) (position (pos 0))) (position (pos 0))).0) ≤ 11
      go true = short_bound (get_or a.stored (place n.0 - 1) (position (pos 0))).0
          (some_position a.stored (place n.0 - 1) (stored_good a good))
      go false = short_bound (pos 0) refl

  pub value_short : (v : Value) → Short (value_in v a)
  value_short (Value.Of x) = setting_short x
  value_short (Value.Stored n) = stored_short n
  value_short Value.Pos = setting_short Axis.Pos

-- ---- the values of the axes that a number means
each_of : {X Y : Type 0} (p : X → Bool) (Q : Y → Type 0) (f : X → Y) → ((x : X) → p x ≡ true → Q (f x)) → (xs : List X) → all p xs ≡ true
    → Each Q (map f xs)
unfolding fold
each_of p Q f h [] e = none
each_of p Q f h (x ∷ xs) e = more {x = f x} (h x (and_left (p x) (all p xs) e)) (each_of p Q f h xs (and_right (p x) (all p xs) e))

all_front : {X : Type 0} (p : X → Bool) (n m : ℕ) (xs : List X) → n ≤ m → all p (take m xs) ≡ true → all p (take n xs) ≡ true
unfolding fold
all_front p zero m xs h e = refl
all_front p (suc n) zero xs h e = absurd (omega arith)
all_front p (suc n) (suc m) [] h e = refl
all_front p (suc n) (suc m) (x ∷ xs) h e = simp (
  and_left (p x) (all p (take m xs)) e,
  all_front p n m xs (omega arith) (and_right (p x) (all p (take m xs)) e),
)

all_part : {X : Type 0} (p : X → Bool) (i n m : ℕ) (xs : List X) → i + n ≤ m → all p (take m xs) ≡ true → all p (take n (drop i xs)) ≡ true
unfolding fold
all_part p zero n m xs h e = all_front p n m xs (omega arith) e
all_part p (suc i) zero m [] h e = refl
all_part p (suc i) (suc n) m [] h e = refl
all_part p (suc i) n zero (x ∷ xs) h e = absurd (omega arith)
all_part p (suc i) n (suc m) (x ∷ xs) h e = all_part p i n m xs (omega arith) (and_right (p x) (all p (take m xs)) e)

module _ (d : Device) (k : ℕ) (g : Good d) (few : d.count ≤ 4) (there : k ≤ d.count) where
  -- the axes that k means are among those up to the count
  axes_good : all good_axis (axes_of d k) ≡ true
  unfolding axes_of many
  axes_good =
      ⊎_elim (λ z. rw (z) g.axes)
      (λ z. rw (ne_eqb k 0 z) (all_part good_axis (k - 1) 1 d.count d.axes (omega arith) g.axes))
      (eq_or_ne k 0)

  many_few : many d k ≤ 4
  unfolding many
  many_few =
      ⊎_elim (λ (z : k ≡ 0). rw (eq-eqb k 0 z) few) (λ (z : k ≡ 0 → ⊥). rw (ne_eqb k 0 z) (omega arith)) (eq_or_ne k 0)

  axes_few : length (axes_of d k) ≤ 4
  unfolding axes_of
  axes_few = rw length-take (omega (arith, many_few))

  values_fit : (v : Value) → length (values (values_of v d k)) ≤ 47
  unfolding values_of
  values_fit v =
      values_length (each_of good_axis Short (value_in v) (λ a h. value_short a h v) (axes_of d k) axes_good)
      (rw (length-map (axes_of d k) (value_in v)) axes_few)

  -- ---- the values of the device
  at : (i : ℕ) → i < 6 → Good.in_range d (get_or device_settings i CommAddress) ≡ true
  unfolding device_settings
  at i h = nth (Good.in_range d) device_settings CommAddress i h g.settings

  device_short : (x : DeviceSetting) → length (decimal (Record.value x d).0) ≤ 11
  unfolding device_settings
  device_short CommAddress = short_in (pos 1) (pos 99) d.comm.address.0 (above 1 (omega arith)) (above 99 (omega arith))
      (at 0 (omega arith))
  device_short CommAlert = short_up 1 d.comm.alert.0 (omega arith) (at 1 (omega arith))
  device_short CommChecksum = short_up 1 d.comm.checksum.0 (omega arith) (at 2 (omega arith))
  device_short SystemAccess = short_in (pos 1) (pos 2) d.access.0 (above 1 (omega arith)) (above 2 (omega arith)) (at 3 (omega arith))
  device_short DeviceId = short_up 2147483647 d.id.0 (omega arith) (at 4 (omega arith))
  device_short SystemAxisCount = short_in (pos 1) (pos 4) (pos d.count) (above 1 (omega arith)) (above 4 (omega arith))
      (at 5 (omega arith))

  -- ---- the data of each kind
  setting_fits : (x : Setting) → length (setting_data d k x) ≤ 74
  setting_fits (OfAxis x) = omega (arith, values_fit (Value.Of x))
  setting_fits (OfDevice x) = omega (arith, device_short x)

  text_fits : (ws : List (List ℕ)) → length (echoed ws) ≤ 74 → (f : Form) (x : Data) → length (text_of d k ws f x) ≤ 74
  unfolding text parked_data
  text_fits ws h f Data.Nought = omega arith
  text_fits ws h f Data.Values = setting_fits f.setting
  text_fits ws h f Data.Stored = omega (arith, values_fit (Value.Stored f.first))
  text_fits ws h f Data.Position = omega (arith, values_fit Value.Pos)
  text_fits ws h f Data.Active = omega (arith, list_length (warnings_of d k))
  text_fits ws h f Data.Parked = go d.parked
    where
      go : (t : Bool) → length (cond t (text "1") (text "0")) ≤ 74
      go true = omega arith
      go false = omega arith
  text_fits ws h f Data.Words = h
  text_fits ws h f Data.Info = omega arith

-- the echo of words that stand in 74 bytes, and of none
pub echo_short : (c : Command) (s : List ℕ) → (carries_words c ≡ true → length s ≤ 74) → length (echoed (carried_by c s)) ≤ 74
echo_short c s h = go (carries_words c) h
  where
    go : (t : Bool) → (t ≡ true → length s ≤ 74) → length (echoed (cond t (cut s) [])) ≤ 74
    go true k = echo_fits s (k refl)
    go false k = omega (arith, echoed_none)

pub part_short : (l : List ℕ) (from end : ℕ) → end ≤ from + 74 → length (drop from (take end l)) ≤ 74
part_short l from end h = rw (length-drop, length-take) (omega (arith, h))

pub data_fits : (d : Device) (k : ℕ) (c : Command) (es : List (List ℕ)) → good d ≡ true → refusal d k c ≡ ACCEPTED → length (echoed es) ≤ 74
    → length (data_of d k es c) ≤ 74
unfolding data_of bad_axis
data_fits d k c es g e h =
    text_fits d k (goodness d g) (good_count d g) (ltb-false d.count k (within_count d k c e)) es h (form_of c) (demands c).reply

-- the words that a line carries
pub line_fits : (d : Device) (k : ℕ) (c : Command) (es : List (List ℕ)) (l : List ℕ) → good d ≡ true → refusal d k c ≡ ACCEPTED → Carried l c es
    → length (data_of d k es c) ≤ 74
line_fits d k c es l g e h = data_fits d k c es g e (rw h.parted (echo_short c h.part h.short))
