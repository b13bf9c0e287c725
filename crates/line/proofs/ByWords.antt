-- What the words of a content are read as: a wrong address word, or the command's own words behind a right one or none. What holds of
-- both holds of every list of words. Assumes nothing.
use Rattle.std.specs.Prelude.{Err, Ok}
use mathlib.Core.Path.{◌≡◌, refl}
use mathlib.Core.Bool.{Bool, true, false, cond}
use mathlib.Core.List.{List, [], ◌∷◌}
use Prim.Native.Nat.{ℕ, ◌+◌}
use lib.Dec.{ltb}
use Rattle.laws.specs.declared.Refusal.TheVariants.{BadAddress}
use Rattle.laws.specs.Refusals.{in_byte, refusal_at}
use Rattle.laws.proofs.Each.{OneOf, later}
use Rattle.numbers.specs.Reading.{read_address, UnsignedRead}
use Rattle.words.specs.Cutting.{Placed}
use Rattle.phrase.specs.Reading.{read_command}
use Rattle.line.specs.Reading.{starts_number, axis_digit, axis_of, address_of, read_words, LineRead, sent}
use Rattle.line.specs.Refusals.{bad_address, behind_axis, own}

-- the command's own words are ts, which are some of ws
pub record Own (ws ts : List Placed) : Type 0 where
  pub right : bad_address ws ≡ false
  pub are : own ws ≡ ts
  pub among : (w : Placed) → OneOf w ts → OneOf w ws

module _ (X : List Placed → LineRead → Type 0)
    (wrong : (w : Placed) (t : List Placed) (p : ℕ) → starts_number w.bytes ≡ true → read_address w.bytes ≡ Err p
    → X (w ∷ t) (Err (refusal_at BadAddress (in_byte (w.start + p)))))
    (worded : (ws ts : List Placed) (n k end : ℕ) → Own ws ts → X ws (Ok (sent n k end (read_command ts)))) where
  by_axis : (w : Placed) (t : List Placed) (n end : ℕ) → starts_number w.bytes ≡ true → read_address w.bytes ≡ Ok n
      → X (w ∷ t) (axis_of n end t)
  unfolding axis_of own behind_axis bad_address
  by_axis w [] n end s q =
      worded (w ∷ []) [] n 0 end (record { right = rw (s, q); are = rw s; among = λ x o. later o })
  by_axis w (v ∷ t) n end s q = go (ltb (axis_digit v.bytes) 10) refl
    where
      go : (b : Bool) → ltb (axis_digit v.bytes) 10 ≡ b → X (w ∷ v ∷ t)
          (cond b (Ok (sent n (axis_digit v.bytes) end (read_command t))) (Ok (sent n 0 end (read_command (v ∷ t)))))
      go true e = worded (w ∷ v ∷ t) t n (axis_digit v.bytes) end
          (record { right = rw (s, q); are = rw (s, e); among = λ x o. later (later o) })
      go false e = worded (w ∷ v ∷ t) (v ∷ t) n 0 end (record { right = rw (s, q); are = rw (s, e); among = λ x o. later o })

  pub by_words : (end : ℕ) (ws : List Placed) → X ws (read_words end ws)
  unfolding read_words bad_address own
  by_words end [] = worded [] [] 0 0 end (record { right = refl; are = refl; among = λ x o. o })
  by_words end (w ∷ t) = go (starts_number w.bytes) refl
    where
      address : (u : UnsignedRead) → read_address w.bytes ≡ u → starts_number w.bytes ≡ true → X (w ∷ t) (address_of w.start u end t)
      address (Err p) q h = wrong w t p h q
      address (Ok n) q h = by_axis w t n end h q

      go : (b : Bool) → starts_number w.bytes ≡ b → X (w ∷ t)
          (cond b (address_of w.start (read_address w.bytes) end t) (Ok (sent 0 0 end (read_command (w ∷ t)))))
      go true h = address (read_address w.bytes) refl h
      go false h = worded (w ∷ t) (w ∷ t) 0 0 end (record { right = rw h; are = rw h; among = λ x o. o })
