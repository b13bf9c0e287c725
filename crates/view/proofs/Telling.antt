-- What is told has the text that the reply's data is: the values that are listed are those of the axes that the number means.
-- Assumes that there are four axis places, which every device record has.
use mathlib.Core.Path.{◌≡◌, refl, sym, ap, ◌∙◌}
use mathlib.Core.Bool.{false}
use mathlib.Core.List.{List, [], ◌∷◌, map}
use Prim.Native.Nat.{ℕ, zero, suc, ◌<◌}
use native.Mathlib.Omega.{arith}
use lib.ListN.{length, get_or, take, drop, length-map}
use Rattle.units.specs.declared.Number.{Number}
use Rattle.words.specs.Cutting.{cut}
use Rattle.command.specs.declared.Setting.{Setting}
use Rattle.command.specs.declared.Setting.TheVariants.{OfAxis, OfDevice}
use Rattle.command.specs.declared.forms.Form.{Form}
use Rattle.command.specs.Commands.{is_info}
use Rattle.command.specs.declared.kinds.Data.{Data}
use Rattle.command.specs.declared.kinds.Data.TheVariants.{Nought, Values, Stored, Position, Active, Parked, Words, Info}
use Rattle.axis.specs.declared.Axis.{Axis}
use Rattle.axis.specs.Record.{fresh_axis}
use Rattle.device.specs.declared.Device.{Device}
use Rattle.device.specs.declared.walks.Stretch.{Stretch}
use Rattle.device.specs.Each.{stretch_of}
use Rattle.device.specs.Record.{many, axes_of}
use Rattle.device.proofs.Stretches.{stretch_axes}
use Rattle.reply.specs.Data.{values}
use Rattle.reply.specs.declared.told.Listed.{Listed}
use Rattle.reply.specs.Told.{listed_of, carried, told_text, informs}
use Rattle.view.specs.View.{value_in, values_of, listed_for}
use Rattle.view.specs.Data.{setting_data, parked_data, text_of, setting_told, told_of}
use Rattle.view.specs.declared.Value.{Value}

-- ---- lists of what a function makes of each element
pub unmapped : (X Y : Type 0) (f : X → Y) (xs : List X) (n : ℕ) → length (map f xs) ≡ n → length xs ≡ n
unmapped X Y f xs n e = sym (length-map xs f) ∙ e

map_take : {X Y : Type 0} (f : X → Y) (n : ℕ) (xs : List X) → take n (map f xs) ≡ map f (take n xs)
map_take f zero xs = refl
map_take f (suc n) [] = refl
map_take f (suc n) (x ∷ xs) = ap (λ (l : List _). f x ∷ l) (map_take f n xs)

map_part : {X Y : Type 0} (f : X → Y) (i n : ℕ) (xs : List X) → take n (drop i (map f xs)) ≡ map f (take n (drop i xs))
map_part f zero n xs = map_take f n xs
map_part f (suc i) n [] = map_take f n []
map_part f (suc i) n (x ∷ xs) = map_part f i n xs

-- what a function makes of four elements, each at its place
four_places : {X Y : Type 0} (f : X → Y) (xs : List X) (a b c e : X) → length xs ≡ 4
    → f (get_or xs 0 a) ∷ f (get_or xs 1 b) ∷ f (get_or xs 2 c) ∷ f (get_or xs 3 e) ∷ [] ≡ map f xs
four_places f [] a b c e h = absurd (omega arith)
four_places f (w ∷ []) a b c e h = absurd (omega arith)
four_places f (w ∷ x ∷ []) a b c e h = absurd (omega arith)
four_places f (w ∷ x ∷ y ∷ []) a b c e h = absurd (omega arith)
four_places f (w ∷ x ∷ y ∷ z ∷ []) a b c e h = refl
four_places f (w ∷ x ∷ y ∷ z ∷ v ∷ xs) a b c e h = absurd (omega arith)

module _ (d : Device) (k : ℕ) (four : length d.axes ≡ 4) where
  -- "Values for axis 0 are listed from axis 1"
  pub listed_values : (v : Value) → listed_of (listed_for v d k) ≡ values_of v d k
  unfolding listed_for values_of axes_of
  listed_values v =
      let p = stretch_of (many d k) k in
      map_part (value_in v) p.from p.many d.axes ∙ ap (map (value_in v)) (stretch_axes d.axes (many d k) k p four refl)

  -- what the code lists: the four values, each of the axis at its place
  pub listed_is : (v : Value) (p : Stretch) (w x y z : Axis) {a b c e : Number} → p ≡ stretch_of (many d k) k
      → a ≡ value_in v (get_or d.axes 0 w) → b ≡ value_in v (get_or d.axes 1 x)
      → c ≡ value_in v (get_or d.axes 2 y) → e ≡ value_in v (get_or d.axes 3 z)
      → record { from = p.from; many = p.many; values = a ∷ b ∷ c ∷ e ∷ [] } ≡ listed_for v d k
  unfolding listed_for
  listed_is v p w x y z q f g h i = rw (q, f, g, h, i) (rw (four_places (value_in v) d.axes w x y z four))

  listed_text : (v : Value) → values (listed_of (listed_for v d k)) ≡ values (values_of v d k)
  listed_text v = ap values (listed_values v)

  setting_text : (l : List ℕ) (s : Setting) → told_text l (setting_told d k s) ≡ setting_data d k s
  setting_text l (OfAxis s) = listed_text (Value.Of s)
  setting_text l (OfDevice s) = refl

  -- the words of an echo stand in the line from a place to another
  pub told_text_lem : (l : List ℕ) (f : Form) (x : Data) (from end : ℕ)
      → told_text l (told_of d k f x from end) ≡ text_of d k (cut (carried l from end)) f x
  unfolding parked_data
  told_text_lem l f Nought from end = refl
  told_text_lem l f Values from end = setting_text l f.setting
  told_text_lem l f Stored from end = listed_text (Value.Stored f.first)
  told_text_lem l f Position from end = listed_text Value.Pos
  told_text_lem l f Active from end = refl
  told_text_lem l f Parked from end = refl
  told_text_lem l f Words from end = refl
  told_text_lem l f Info from end = refl

-- info lines are told of where the data say so
setting_informs : (d : Device) (k : ℕ) (s : Setting) → informs (setting_told d k s) ≡ false
setting_informs d k (OfAxis s) = refl
setting_informs d k (OfDevice s) = refl

pub told_informs : (d : Device) (k : ℕ) (f : Form) (x : Data) (from end : ℕ) → informs (told_of d k f x from end) ≡ is_info x
told_informs d k f Nought from end = refl
told_informs d k f Values from end = setting_informs d k f.setting
told_informs d k f Stored from end = refl
told_informs d k f Position from end = refl
told_informs d k f Active from end = refl
told_informs d k f Parked from end = refl
told_informs d k f Words from end = refl
told_informs d k f Info from end = refl
