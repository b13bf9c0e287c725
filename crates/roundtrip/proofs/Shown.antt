-- On a good record the data of every accepted command's reply is data as the host reads it.
-- The record has four axis places, as every device record has.
use Rattle.laws.specs.Refusals.{ACCEPTED}
use mathlib.Core.Path.{◌≡◌, refl}
use mathlib.Core.Logic.{⊎_elim}
use mathlib.Core.Bool.{Bool, true, false, cond}
use mathlib.Core.List.{List, map}
use Prim.Native.Nat.{ℕ, ◌≤◌, ◌<◌}
use native.Mathlib.Omega.{arith}
use lib.IntN.{ℤ, pos, negsuc}
use lib.ListN.{length, get_or, length-take, length-drop, length-map}
use borrow.Author.Tests.{eq-eqb, ne_eqb, leb-true, ltb-false}
use Rattle.laws.specs.Text.{text}
use Rattle.laws.proofs.Order.{eq_or_ne}
use Rattle.laws.proofs.Each.{Each}
use Rattle.laws.proofs.Walks.{nth}
use Rattle.units.specs.Units.{place, within, ◌to◌}
use Rattle.units.proofs.Ranges.{above_least, below_most}
use Rattle.words.specs.Spelling.{Word}
use Rattle.command.specs.declared.DeviceSetting.TheVariants.{CommAddress}
use Rattle.command.specs.declared.Setting.{Setting}
use Rattle.command.specs.declared.Setting.TheVariants.{OfAxis, OfDevice}
use Rattle.command.specs.declared.Command.{Command}
use Rattle.command.specs.Settings.{device_settings}
use Rattle.device.specs.declared.Device.{Device}
use Rattle.device.specs.Record.{value, many, axes_of}
use Rattle.device.specs.Good.{in_range, good}
use Rattle.rules.specs.Refusals.{bad_axis, refusal}
use Rattle.rules.proofs.Accepted.{within_count}
use Rattle.rules.proofs.GoodStays.{goodness}
use Rattle.reply.specs.Data.{values}
use Rattle.host_reader.specs.Spelling.{Data}
use Rattle.view.specs.View.{value_in, values_of, warnings_of}
use Rattle.view.specs.declared.Value.{Value}
use Rattle.view.specs.Data.{setting_data, parked_data, text_of, data_of}
use Rattle.command.specs.declared.forms.Form.{Form}
use Rattle.command.specs.declared.kinds.Data.{Data as Kind}
use Rattle.command.specs.Forms.{form_of}
use Rattle.command.specs.Commands.{demands}
use Rattle.rules.proofs.GoodStays.{good_count}
use Rattle.phrase.proofs.Written.{word_of}
use Rattle.roundtrip.proofs.Texts.{one_data, decimal_word, values_data, list_data, echoed_data}

-- ---- what a good record says of its address and its axis count
module _ (d : Device) (g : good d ≡ true) where
  at : (i : ℕ) → i < 6 → in_range d (get_or device_settings i CommAddress) ≡ true
  unfolding device_settings
  at i h = nth (in_range d) device_settings CommAddress i h (goodness d g).settings

  pub good_some : 1 ≤ d.count
  unfolding device_settings
  good_some = leb-true 1 d.count (above_least (pos 1) (pos 4) (pos d.count) (at 5 (omega arith)))

  pub good_address : (1 ≤ place d.comm.address.0) × (place d.comm.address.0 ≤ 99)
  unfolding device_settings
  good_address = go d.comm.address.0 (at 0 (omega arith))
    where
      go : (z : ℤ) → within (pos 1 to pos 99) z ≡ true → (1 ≤ place z) × (place z ≤ 99)
      go (pos n) e = (leb-true 1 n (above_least (pos 1) (pos 99) (pos n) e), leb-true n 99 (below_most (pos 1) (pos 99) (pos n) e))
      go (negsuc n) e = let z : ◌≡◌ {A = ℕ} 0 1 = cc (above_least (pos 1) (pos 99) (negsuc n) e) in absurd (omega arith)

-- ---- the values of the axes that a number means: there is one at least
module _ (d : Device) (k : ℕ) (four : length d.axes ≡ 4) (some : 1 ≤ d.count) (few : d.count ≤ 4) (there : k ≤ d.count) where
  axes_some : 0 < length (axes_of d k)
  unfolding axes_of many
  axes_some =
      ⊎_elim (λ (z : k ≡ 0). rw (eq-eqb k 0 z, length-take, length-drop) (omega arith))
      (λ (z : k ≡ 0 → ⊥). rw (ne_eqb k 0 z, length-take, length-drop) (omega arith)) (eq_or_ne k 0)

  values_said : (v : Value) → Data (values (values_of v d k))
  unfolding values_of
  values_said v = values_data (map (value_in v) (axes_of d k)) (rw (length-map (axes_of d k) (value_in v)) axes_some)

  setting_said : (x : Setting) → Data (setting_data d k x)
  setting_said (OfAxis x) = values_said (Value.Of x)
  setting_said (OfDevice x) = one_data (decimal_word (value x d).0)

  text_said : {ws : List (List ℕ)} → Each Word ws → (f : Form) (x : Kind) → Data (text_of d k ws f x)
  unfolding text parked_data
  text_said h f Kind.Nought = one_data (word_of (text "0") refl)
  text_said h f Kind.Values = setting_said f.setting
  text_said h f Kind.Stored = values_said (Value.Stored f.first)
  text_said h f Kind.Position = values_said Value.Pos
  text_said h f Kind.Active = list_data (warnings_of d k)
  text_said h f Kind.Parked = go d.parked
    where
      go : (t : Bool) → Data (cond t (text "1") (text "0"))
      go true = one_data (word_of (text "1") refl)
      go false = one_data (word_of (text "0") refl)
  text_said h f Kind.Words = echoed_data h
  text_said h f Kind.Info = one_data (word_of (text "0") refl)

pub data_said : {ws : List (List ℕ)} (d : Device) (k : ℕ) (c : Command) → length d.axes ≡ 4 → good d ≡ true → refusal d k c ≡ ACCEPTED
    → Each Word ws → Data (data_of d k ws c)
unfolding data_of bad_axis
data_said d k c four g e h =
    text_said d k four (good_some d g) (good_count d g) (ltb-false d.count k (within_count d k c e)) h (form_of c) (demands c).reply
