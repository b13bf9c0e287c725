-- The table in two parts: the rows above the last answer where one of them applies, and else the last one does.
-- Assumes nothing.
use Rattle.laws.proofs.Refusals.{not_both}
use Rattle.laws.specs.declared.Refusal.{Refusal}
use Rattle.std.specs.Prelude.{Err, is_err}
use mathlib.Core.Path.{◌≡◌, refl, sym, ap, ◌∙◌}
use mathlib.Core.Bool.{Bool, true, false, cond}
use mathlib.Core.List.{List, [], ◌∷◌, ◌++◌}
use Prim.Native.Nat.{ℕ}
use Rattle.laws.specs.Lists.{fold, all}
use Rattle.laws.specs.declared.Refusal.TheVariants.{BadData}
use Rattle.laws.specs.Refusals.{Row, ◌when◌, first_of, ACCEPTED, Verdict}
use Rattle.laws.proofs.Bools.{clash, and_left, and_right}
use Rattle.command.specs.declared.Command.{Command}
use Rattle.command.specs.declared.kinds.Demands.{Demands}
use Rattle.device.specs.declared.Device.{Device}
use Rattle.rules.specs.Refusals.{bad_data, standing_rows, rows}

held : (t : Bool) (n : Verdict) {u v : Verdict} → (cond t n u ≡ ACCEPTED → ⊥) → ((u ≡ ACCEPTED → ⊥) → u ≡ v) → cond t n u ≡ cond t n v
held true n h f = refl
held false n h f = f h

passed : (t : Bool) (n : Verdict) {u v w : Verdict} → is_err n ≡ true → cond t n u ≡ ACCEPTED → (u ≡ ACCEPTED → v ≡ w) → cond t n v ≡ w
passed true n p h f = clash p (ap is_err h)
passed false n p h f = f h

abbrev refusing : Row → Bool
refusing r = is_err r.verdict

module _ (ys : List Row) where
  first_part : (xs : List Row) → (first_of xs ≡ ACCEPTED → ⊥) → first_of xs ≡ first_of (xs ++ ys)
  unfolding first_of
  first_part [] h = absurd (h refl)
  first_part (r ∷ xs) h = held r.applies r.verdict h (first_part xs)

  second_part : (xs : List Row) → all refusing xs ≡ true → first_of xs ≡ ACCEPTED → first_of (xs ++ ys) ≡ first_of ys
  unfolding first_of fold
  second_part [] p h = refl
  second_part (r ∷ xs) p h =
      passed r.applies r.verdict (and_left (refusing r) (all refusing xs) p) h
      (second_part xs (and_right (refusing r) (all refusing xs) p))

module _ (d : Device) (k : ℕ) (c : Command) (x : Demands) {v : Verdict} (e : v ≡ first_of (standing_rows d k c x)) where
  pub stands : {n : Refusal} → v ≡ Err n → v ≡ first_of (rows d k c x)
  stands {n} q = e ∙ first_part _ (standing_rows d k c x) (λ z. not_both n (sym q ∙ e ∙ z))

  pub last_row : v ≡ ACCEPTED → (b : Bool) → bad_data d k c ≡ b → cond b (Err BadData) ACCEPTED ≡ first_of (rows d k c x)
  unfolding first_of fold
  last_row z b h = rw (← h) (sym (second_part (BadData when bad_data d k c ∷ []) (standing_rows d k c x) refl (sym e ∙ z)))
