-- How long a reply's data can be: values, the list of warnings, the words of an echo, a refusal's name.
-- Assumes nothing.
use Rattle.laws.specs.declared.Refusal.TheVariants.{NoRoom, BadState, TooLong, NotLine, BadSum, BadAddress, NotMine, BadCommand, BadData, BadAxis, DeviceOnly, NoAccess, Parked, StatusBusy, BadReport, NotReply, Other}
use Rattle.laws.specs.declared.Refusal.{Refusal}
use mathlib.Core.Path.{◌≡◌, refl, sym, subst}
use mathlib.Core.Logic.{⊎_elim}
use mathlib.Core.Bool.{Bool, true, false}
use mathlib.Core.List.{List, [], ◌∷◌}
use Prim.Native.Nat.{ℕ, zero, suc, ◌+◌, ◌*◌, ◌≤◌}
use native.Mathlib.Omega.{arith}
use lib.Dec.{leb→le}
use lib.ListN.{length, take, length-append}
use Rattle.laws.specs.Text.{space, text, spaced}
use Rattle.laws.proofs.Order.{eq_or_ne}
use Rattle.laws.proofs.Bools.{clash}
use Rattle.laws.proofs.Each.{Each, none, more}
use Rattle.laws.proofs.Spaced.{trail, spaced_trail}
use Rattle.units.specs.declared.Number.{Number}
use Rattle.numbers.specs.Decimal.{decimal, two_digits}
use Rattle.words.specs.Cutting.{begins, grow, cut}
use Rattle.words.proofs.Space.{other_yes, other_not}
use Rattle.words.proofs.Cut.{cut_none, cut_space, cut_inside, cut_alone}
use Rattle.flags.specs.Flags.{bits, named, warning_names}
use Rattle.reply.specs.Data.{values, warning_list, echoed, refusal_name}
use Rattle.reply.proofs.Lists.{decimals, list_split}

-- ---- values: each of at most 11 bytes, behind a space
abbrev pub Short : Number → Type 0
Short n = length (decimal n.0) ≤ 11

trail_short : {ns : List Number} → Each Short ns → length (trail (decimals ns)) ≤ 12 * length ns
unfolding trail decimals
trail_short none = omega arith
trail_short (more {x = n} {xs = ns} h s) = rw (length-append (space ∷ decimal n.0) (trail (decimals ns))) (omega (arith, trail_short s))

pub values_length : {ns : List Number} → Each Short ns → length ns ≤ 4 → length (values ns) ≤ 47
unfolding values spaced decimals
values_length none h = omega arith
values_length (more {x = n} {xs = ns} k s) h = rw (spaced_trail (decimal n.0) (decimals ns), length-append)
    (omega (arith, trail_short s))

-- ---- the list of warnings: names of two bytes
abbrev Two : List ℕ → Type 0
Two w = length w ≡ 2

named_trail : (fs : List Bool) {ns : List (List ℕ)} → Each Two ns → length (trail (named fs ns)) ≤ 3 * length fs
unfolding named trail
named_trail [] t = omega arith
named_trail (f ∷ fs) none = omega arith
named_trail (true ∷ fs) (more {x = w} {xs = ws} h t) =
    rw (length-append (space ∷ w) (trail (named fs ws))) (omega (arith, named_trail fs t))
named_trail (false ∷ fs) (more {x = w} {xs = ws} h t) = omega (arith, named_trail fs t)

names_two : Each Two warning_names
unfolding warning_names text
names_two = more refl (more refl (more refl (more refl (more refl (more refl (more refl (more refl none)))))))

pub list_length : (m : ℕ) → length (warning_list m) ≤ 26
unfolding two_digits bits
list_length m = rw (list_split m, length-append) (omega (arith, named_trail (bits 8 m) names_two))

-- ---- the words of an echo: no longer with single spaces than they stand in a text
trail_take : (k : ℕ) (ws : List (List ℕ)) → length (trail (take k ws)) ≤ length (trail ws)
unfolding trail
trail_take zero ws = omega arith
trail_take (suc k) [] = omega arith
trail_take (suc k) (w ∷ ws) = rw (length-append (space ∷ w) (trail (take k ws)), length-append (space ∷ w) (trail ws))
    (omega (arith, trail_take k ws))

echoed_some : (w : List ℕ) (ws : List (List ℕ)) → length (echoed (w ∷ ws)) + 1 ≤ length (trail (w ∷ ws))
unfolding echoed trail
echoed_some w ws =
    rw (spaced_trail w (take 16 ws), length-append w (trail (take 16 ws)), length-append (space ∷ w) (trail ws))
    (omega (arith, trail_take 16 ws))

pub echoed_none : length (echoed []) ≡ 1
unfolding echoed text
echoed_none = refl

-- words cut from a text stand there with a space between them at least
grown_trail : (c : ℕ) (ws : List (List ℕ)) → 1 ≤ length ws → length (trail (grow c ws)) ≤ length (trail ws) + 1
unfolding grow trail
grown_trail c [] h = absurd (omega arith)
grown_trail c (w ∷ ws) h = rw (length-append (space ∷ (c ∷ w)) (trail ws), length-append (space ∷ w) (trail ws)) (omega arith)

-- by the first byte: a space, a byte before another of the same word, or a word alone
module _ (P : List ℕ → List (List ℕ) → Type 0) (empty : P [] []) (gap : (s : List ℕ) → P s (cut s) → P (32 ∷ s) (cut s))
    (inside : (c : ℕ) (s : List ℕ) → begins (c ∷ s) ≡ true → begins s ≡ true → P s (cut s) → P (c ∷ s) (grow c (cut s)))
    (alone : (c : ℕ) (s : List ℕ) → begins (c ∷ s) ≡ true → begins s ≡ false → P s (cut s) → P (c ∷ s) ((c ∷ []) ∷ cut s)) where
  by_cut : (s : List ℕ) → P s (cut s)
  by_cut [] = subst (P []) (sym cut_none) empty
  by_cut (c ∷ s) =
      ⊎_elim (λ e. subst (λ (x : ℕ). P (x ∷ s) (cut (x ∷ s))) (sym e) (subst (P (32 ∷ s)) (sym (cut_space s)) (gap s (by_cut s))))
      (λ h. go (begins s) refl h (by_cut s))
      (eq_or_ne c 32)
    where
      go : (t : Bool) → begins s ≡ t → (c ≡ 32 → ⊥) → P s (cut s) → P (c ∷ s) (cut (c ∷ s))
      go true b h p = subst (P (c ∷ s)) (sym (cut_inside c s h b)) (inside c s (other_yes c h) b p)
      go false b h p = subst (P (c ∷ s)) (sym (cut_alone c s h b)) (alone c s (other_yes c h) b p)

-- at most one byte more than the text, and none more where no word begins the text
record Close (s : List ℕ) (ws : List (List ℕ)) : Type 0 where
  some : begins s ≡ true → 1 ≤ length ws
  near : length (trail ws) ≤ length s + 1
  gapped : begins s ≡ false → length (trail ws) ≤ length s

grown_some : (c : ℕ) (ws : List (List ℕ)) → 1 ≤ length (grow c ws)
unfolding grow
grown_some c [] = omega arith
grown_some c (w ∷ ws) = omega arith

close_none : Close [] []
unfolding trail
close_none = record { some = λ b. clash b refl; near = omega arith; gapped = λ b. omega arith }

close_gap : (s : List ℕ) → Close s (cut s) → Close (32 ∷ s) (cut s)
close_gap s p = record { some = λ b. clash b (other_not 32 refl); near = omega (arith, p.near); gapped = λ b. omega (arith, p.near) }

close_inside : (c : ℕ) (s : List ℕ) → begins (c ∷ s) ≡ true → begins s ≡ true → Close s (cut s) → Close (c ∷ s) (grow c (cut s))
close_inside c s h b p =
    record { some = λ e. grown_some c (cut s); near = omega (arith, p.near, grown_trail c (cut s) (p.some b)); gapped = λ e. clash h e }

close_alone : (c : ℕ) (s : List ℕ) → begins (c ∷ s) ≡ true → begins s ≡ false → Close s (cut s) → Close (c ∷ s) ((c ∷ []) ∷ cut s)
unfolding trail
close_alone c s h b p =
    record {
      some = λ e. omega arith;
      near = rw (length-append (space ∷ (c ∷ [])) (trail (cut s)))
          (omega (arith, p.gapped b));
      gapped = λ e. clash h e;
    }

cut_trail : (s : List ℕ) → length (trail (cut s)) ≤ length s + 1
cut_trail s = (by_cut Close close_none close_gap close_inside close_alone s).near

-- so the echo of words that stand in 74 bytes fits
pub echo_fits : (s : List ℕ) → length s ≤ 74 → length (echoed (cut s)) ≤ 74
echo_fits s h = go (cut s) (cut_trail s)
  where
    go : (ws : List (List ℕ)) → length (trail ws) ≤ length s + 1 → length (echoed ws) ≤ 74
    go [] k = omega (arith, echoed_none)
    go (w ∷ ws) k = omega (arith, echoed_some w ws)

-- ---- a refusal's name
pub refusal_length : (n : Refusal) → length (refusal_name n) ≤ 10
unfolding refusal_name text
refusal_length NoRoom = leb→le 0 10 tt
refusal_length BadState = leb→le 0 10 tt
refusal_length TooLong = leb→le 0 10 tt
refusal_length NotLine = leb→le 0 10 tt
refusal_length BadSum = leb→le 0 10 tt
refusal_length BadAddress = leb→le 0 10 tt
refusal_length NotMine = leb→le 0 10 tt
refusal_length BadCommand = leb→le 10 10 tt
refusal_length BadData = leb→le 7 10 tt
refusal_length BadAxis = leb→le 7 10 tt
refusal_length DeviceOnly = leb→le 10 10 tt
refusal_length NoAccess = leb→le 8 10 tt
refusal_length Parked = leb→le 6 10 tt
refusal_length StatusBusy = leb→le 10 10 tt
refusal_length BadReport = leb→le 0 10 tt
refusal_length NotReply = leb→le 0 10 tt
refusal_length (Other n) = leb→le 0 10 tt
