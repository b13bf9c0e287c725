-- A chain whose number is not 0 leaves all records and all bytes as they were; and a chain of good records stays good, whatever the line.
-- Assumes nothing.
use Rattle.laws.specs.declared.Refusal.TheVariants.{NotMine}
use Rattle.laws.specs.declared.RefusedAt.{RefusedAt}
use Rattle.std.specs.Prelude.{Ok, Err, is_ok}
use Rattle.laws.proofs.Refusals.{accepted_is}
use mathlib.Core.Path.{◌≡◌, refl, sym, ap, ◌∙◌}
use mathlib.Core.Bool.{Bool, true, false, cond}
use mathlib.Core.List.{List, [], ◌∷◌, map}
use Prim.Native.Nat.{ℕ}
use native.Mathlib.Omega.{arith}
use lib.Dec.{eqb}
use lib.ListN.{length, length-append}
use borrow.Author.Tests.{eqb-true}
use Rattle.laws.specs.Lists.{fold, all}
use Rattle.laws.proofs.Bools.{and_left, and_right, and_both}
use Rattle.line.specs.Reading.{LineRead, read_line, sent}
use Rattle.device.specs.declared.Device.{Device}
use Rattle.device.specs.Good.{good}
use Rattle.reply.specs.Reply.{joined}
use Rattle.carriage.proofs.Demands.{good_goes_on}
use Rattle.chain.specs.declared.Told.{Told}
use Rattle.chain.specs.Walk.{heeds}
use Rattle.chain.specs.Chain.{blank, next_of, text_of, verdict_of, refused, Chained, responds, refuses, chain, Gives}
use Rattle.chain.proofs.Alone.{quiet_next, quiet_text, aloud_text}
use Rattle.chain.proofs.Chains.{texts, told_verdict, none_early, some, all_are}
use Rattle.laws.specs.Refusals.{ACCEPTED}

-- nothing is written, and the records stay
pub record Kept (xs : List Device) (s : Chained) : Type 0 where
  pub devices : s.devices ≡ xs
  pub answers : joined s.answers ≡ []

module _ (l : List ℕ) where
  -- a line that no record heeds
  abbrev unheeded : List Device → Type 0
  unheeded xs = (map (next_of l) xs ≡ xs) × (texts l xs ≡ [])

  quiet_all : (xs : List Device) → all good xs ≡ true → length (texts l xs) ≡ 0 → unheeded xs
  unfolding fold joined
  quiet_all [] g z = (refl, refl)
  quiet_all (d ∷ ds) g z = go (heeds d (read_line l)) refl (quiet_all ds (and_right (good d) (all good ds) g))
    where
      one : good d ≡ true
      one = and_left (good d) (all good ds) g

      go : (t : Bool) → heeds d (read_line l) ≡ t → (length (texts l ds) ≡ 0 → unheeded ds) → unheeded (d ∷ ds)
      go true e ih = absurd (aloud_text d l one (read_line l) refl e (omega (arith, z, length-append (text_of l d) (texts l ds))))
      go false e ih =
          let rest = ih (omega (arith, z, length-append (text_of l d) (texts l ds))) in
          (rw (quiet_next d l one e, rest.0), rw (quiet_text d l one e) rest.1)

  silent_texts : (u : RefusedAt) → read_line l ≡ Err u → (xs : List Device) → all good xs ≡ true → length (texts l xs) ≡ 0
  unfolding fold joined
  silent_texts u e [] g = refl
  silent_texts u e (d ∷ ds) g =
      rw (quiet_text d l (and_left (good d) (all good ds) g) (rw e refl)) (silent_texts u e ds (and_right (good d) (all good ds) g))

  -- where the line is refused, no record has answered
  no_texts : (xs : List Device) → all good xs ≡ true → (length xs ≡ 0 → ⊥) → (verdict_of l xs ≡ ACCEPTED → ⊥) → length (texts l xs) ≡ 0
  no_texts xs g some h = go (read_line l) refl
    where
      k : ℕ
      k = length (texts l xs)

      go : (r : LineRead) → read_line l ≡ r → k ≡ 0
      go (Err u) e = silent_texts u e xs g
      go (Ok x) e = test (eqb k 0) refl
        where
          verdict : cond (eqb k 0) (Err NotMine) ACCEPTED ≡ verdict_of l xs
          verdict = told_verdict l xs g some (Ok (sent x.address x.axis x.end x.words)) e

          test : (t : Bool) → eqb k 0 ≡ t → k ≡ 0
          test true q = eqb-true k 0 q
          test false q = absurd (h (sym verdict ∙ rw q))

-- "NOROOM ... BADSTATE", the line's 1 to 4, and 5
pub refusal_keeps : (xs : List Device) (l : List ℕ) (room : ℕ) → ((chain xs l room).verdict ≡ ACCEPTED → ⊥) → Kept xs (chain xs l room)
unfolding chain joined fold
refusal_keeps xs l room = go (is_ok (refused xs l room)) refl
  where
    go : (t : Bool) → is_ok (refused xs l room) ≡ t
        → ((cond t (responds l xs) (refuses (refused xs l room) xs)).verdict ≡ ACCEPTED → ⊥)
        → Kept xs (cond t (responds l xs) (refuses (refused xs l room) xs))
    go true e h =
        let z = none_early (length xs) room (all good xs) (read_line l) (accepted_is (refused xs l room) e) in
        let g = all_are (length xs) room (all good xs) z in
        let q = quiet_all l xs g (no_texts l xs g (some (length xs) room (all good xs) z) h) in
        record { devices = q.0; answers = q.1 }
    go false e h = record { devices = refl; answers = refl }

-- the same of a call: all records and all bytes, and the length is 0
pub refused_call : (xs : List Device) (l b : List ℕ) {r : Told} {ys : List Device} {c : List ℕ} → Gives (chain xs l (length b)) b r ys c
    → (r.verdict ≡ ACCEPTED → ⊥) → (ys ≡ xs) × (c ≡ b) × (r.length ≡ 0)
refused_call xs l b {r} g h =
    let k = refusal_keeps xs l (length b) (λ z. h (ap (λ (t : Told). t.verdict) g.result ∙ z)) in
    (g.devices ∙ k.devices, g.left ∙ rw k.answers, ap (λ (t : Told). t.length) g.result ∙ rw k.answers)

-- ---- "BADSTATE if any record is not good" is met by a chain that was good once only if someone else changes a record
next_good : (l : List ℕ) (xs : List Device) → all good xs ≡ true → all good (map (next_of l) xs) ≡ true
unfolding fold next_of
next_good l [] g = refl
next_good l (d ∷ ds) g =
    and_both (good (next_of l d)) (all good (map (next_of l) ds)) (good_goes_on d l blank (and_left (good d) (all good ds) g))
    (next_good l ds (and_right (good d) (all good ds) g))

pub good_stays : (xs : List Device) (l : List ℕ) (room : ℕ) → all good xs ≡ true → all good (chain xs l room).devices ≡ true
unfolding chain
good_stays xs l room g = go (is_ok (refused xs l room))
  where
    go : (t : Bool) → all good (cond t (responds l xs) (refuses (refused xs l room) xs)).devices ≡ true
    go true = next_good l xs g
    go false = g
