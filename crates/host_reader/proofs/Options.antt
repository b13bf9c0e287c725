-- What is known where a part that may be wrong was found.
-- Assumes nothing.
use mathlib.Core.Path.{◌≡◌, refl}
use mathlib.Core.Bool.{Bool, true, false}
use Rattle.std.specs.Prelude.{Option, None, Some, option_and_then}
use Rattle.std.specs.Bool.{then_some}

pub then_is : {A : Type 0} (t : Bool) {x y : A} → then_some t x ≡ Some y → (t ≡ true) × (x ≡ y)
then_is true e = (refl, cc)
then_is false e = cc

pub bind_is : {A B : Type 0} (o : Option A) (f : A → Option B) {y : B} → option_and_then f o ≡ Some y → (x : A) × (o ≡ Some x) × (f x ≡ Some y)
bind_is None f e = cc
bind_is (Some x) f e = (x, refl, e)
