-- The loops of `put_listed`, `put_warnings` and `put_echo`: which words are left at each turn.
-- Assumes nothing.
use mathlib.Core.Path.{◌≡◌, refl}
use mathlib.Core.Bool.{cond}
use mathlib.Core.List.{List, [], ◌∷◌, ◌++◌, map, map-append, append-nil, append_assoc}
use Prim.Native.Nat.{ℕ, zero, suc, ◌+◌, ◌-◌, ◌/◌, ◌%◌, ◌≤◌, ◌<◌}
use native.Mathlib.Omega.{arith}
use native.Mathlib.Numerals.{add-one}
use lib.Dec.{eqb}
use lib.ListN.{length, take, drop}
use lib.Seq.{drop-cons, take_all}
use borrow.Author.Tests.{eq-eqb, ne_eqb}
use Rattle.laws.specs.Text.{space, text, spaced}
use Rattle.laws.proofs.Spaced.{trail, spaced_trail, trail_append}
use Rattle.units.specs.declared.Number.{Number}
use Rattle.numbers.specs.Decimal.{decimal, two_digits}
use Rattle.flags.specs.Flags.{bits, named, count, warning_names}
use Rattle.flags.proofs.Names.{warnings_number}
use Rattle.buffer.specs.Wrote.{Wrote}
use Rattle.reply.specs.Data.{values, warnings_in, warning_list, echoed}
use Rattle.reply.specs.Pieces.{warning_at}
use Rattle.reply.proofs.Writing.{Writing, writing_more}

-- ---- values
unfoldable pub decimals : List Number → List (List ℕ)
decimals ns = map (λ n. decimal n.0) ns

-- one value more, the first or behind a space
pub values_first : (ns : List Number) (x : Number) → length ns ≡ 0 → values ns ++ decimal x.0 ≡ values (ns ++ (x ∷ []))
unfolding values spaced
values_first [] x h = refl
values_first (n ∷ ns) x h = absurd (omega arith)

pub values_next : (ns : List Number) (x : Number) → 0 < length ns
    → values ns ++ (space ∷ []) ++ decimal x.0 ≡ values (ns ++ (x ∷ []))
unfolding values trail
values_next [] x h = absurd (omega arith)
values_next (n ∷ ns) x h =
    let w = decimal n.0 in
    let ws = map (λ (n : Number). decimal n.0) ns in
    let v = decimal x.0 in
    rw (spaced_trail w ws, map-append, spaced_trail w (ws ++ (v ∷ [])), trail_append) (simp (append_assoc, append-nil))

-- ---- the list of warnings
pub list_split : (m : ℕ) → warning_list m ≡ two_digits (count (bits 8 m)) ++ trail (named (bits 8 m) warning_names)
unfolding warning_list warnings_in
list_split m = rw (warnings_number m) (spaced_trail _ _)

module _ (left i : ℕ) where
  pub names_more : i < 8 → named (bits (8 - i) left) (drop i warning_names)
      ≡ cond (eqb (left % 2) 1) (warning_at i ∷ named (bits (8 - (i + 1)) (left / 2)) (drop (i + 1) warning_names))
      (named (bits (8 - (i + 1)) (left / 2)) (drop (i + 1) warning_names))
  unfolding bits named warning_names warning_at
  names_more h =
      let e : 8 - i ≡ suc (8 - (i + 1)) = omega arith in
      rw (e, drop-cons warning_names i (text "--") h, add-one)

  pub names_end : 8 ≤ i → named (bits (8 - i) left) (drop i warning_names) ≡ []
  unfolding bits named
  names_end h = let e : 8 - i ≡ 0 = omega arith in rw e

  -- a turn: the name behind a space where its bit is 1, and nothing where it is not
  module _ (h : i < 8) {b : List ℕ} {at : ℕ} {whole c d : List ℕ} {r q : ℕ}
      (p : Writing b at whole (named (bits (8 - i) left) (drop i warning_names)) c r) where
    pub names_yes : left % 2 ≡ 1 → {e : List ℕ} {n : ℕ} → Wrote c r (space ∷ warning_at i) e n → d ≡ e → q ≡ n
        → Writing b at whole (named (bits (8 - (i + 1)) (left / 2)) (drop (i + 1) warning_names)) d q
    names_yes t v x y = rw (x, y) (writing_more (rw (names_more h, eq-eqb (left % 2) 1 t) at p) v)

    pub names_no : (left % 2 ≡ 1 → ⊥) → d ≡ c → q ≡ r
        → Writing b at whole (named (bits (8 - (i + 1)) (left / 2)) (drop (i + 1) warning_names)) d q
    names_no t x y = rw (x, y) (rw (names_more h, ne_eqb (left % 2) 1 t) at p)

-- ---- the words of an echo: ws are those that are left
pub echo_none : (ws : List (List ℕ)) → ws ≡ [] → echoed ws ≡ text "0"
unfolding echoed
echo_none ws e = rw e

pub echo_some : (ws : List (List ℕ)) {w : List ℕ} {vs : List (List ℕ)} → ws ≡ w ∷ vs → echoed ws ≡ w ++ trail (take 16 vs)
unfolding echoed
echo_some ws {w} {vs} e = rw e (spaced_trail w (take 16 vs))

module _ (i : ℕ) where
  pub echo_turn : i < 16 → {ws : List (List ℕ)} {w : List ℕ} {vs : List (List ℕ)} → ws ≡ w ∷ vs
      → {b : List ℕ} {at : ℕ} {whole c d : List ℕ} {r q : ℕ} → Writing b at whole (take (16 - i) ws) c r
      → Wrote c r (space ∷ w) d q → Writing b at whole (take (16 - (i + 1)) vs) d q
  echo_turn h e p v = let n : 16 - i ≡ suc (16 - (i + 1)) = omega arith in writing_more (rw (n, e) at p) v

  -- no word is left, or none may be written
  pub echo_end : (ws : List (List ℕ)) → ws ≡ [] → take (16 - i) ws ≡ []
  echo_end ws e = rw e (take_all (16 - i) [] (omega arith))

  pub echo_full : (ws : List (List ℕ)) → 16 ≤ i → take (16 - i) ws ≡ []
  echo_full ws h = let z : 16 - i ≡ 0 = omega arith in rw z
