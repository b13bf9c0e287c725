-- Each answer of a chain, read by the host, is that device's: for every chain, line and buffer, and each place that answers.
-- The record there has four axis places, as every one that is reached from a fresh record. Nothing else is assumed.
use Rattle.std.specs.Prelude.{is_ok}
use mathlib.Core.Path.{◌≡◌, refl, ap, ◌∙◌}
use mathlib.Core.Bool.{Bool, true, false, cond}
use mathlib.Core.List.{List, []}
use Prim.Native.Nat.{ℕ, ◌<◌}
use lib.Dec.{eqb}
use lib.ListN.{length, take, drop, get_or}
use Rattle.line.specs.Reading.{read_line}
use Rattle.device.specs.declared.Device.{Device}
use Rattle.carriage.specs.Step.{step}
use Rattle.carriage.proofs.Demands.{sent_in}
use Rattle.chain.specs.declared.Told.{Told}
use Rattle.chain.specs.Chain.{blank, text_of, refused, Chained, responds, refuses, chain, Gives, answer_at, begins_at}
use Rattle.chain.proofs.Alone.{text_long}
use Rattle.chain.proofs.BackToBack.{answer_there}
use Rattle.chain.proofs.Isolated.{made_at}
use Rattle.roundtrip.proofs.ReplyReadsBack.{Understood, reply_reads_back}

-- What the host receives of place i, cut out of the buffer c: the very answer that the device d gives where it hears the line alone, and
-- understood as that: its reply, with address, axis, OK or not, status, highest warning and data; and its info lines.
pub record Received (i : ℕ) (s : Chained) (c : List ℕ) (d : Device) (l : List ℕ) : Type 0 where
  pub stands : take (length (answer_at i s)) (drop (begins_at i s) c) ≡ sent_in (step d l blank)
  pub heard : Understood d l (read_line l) (step d l blank)

-- a place that answers is one of a chain that is not refused: its answer is the device's own
own_answer : (xs : List Device) (l : List ℕ) (room i : ℕ) (d : Device) → i < length xs → (length (answer_at i (chain xs l room)) ≡ 0 → ⊥)
    → answer_at i (chain xs l room) ≡ text_of l (get_or xs i d)
unfolding chain
own_answer xs l room i d k = go (is_ok (refused xs l room))
  where
    go : (t : Bool) → let s = cond t (responds l xs) (refuses (refused xs l room) xs) in
        (length (answer_at i s) ≡ 0 → ⊥) → answer_at i s ≡ text_of l (get_or xs i d)
    go true h = made_at (text_of l) xs i d [] k
    go false h = absurd (h refl)

module _ (xs : List Device) (l b : List ℕ) {r : Told} {ys : List Device} {c : List ℕ} (g : Gives (chain xs l (length b)) b r ys c) where
  -- places are counted from 0; d is what is given for beyond the chain's end, and of no account
  pub chain_reads_back : (i : ℕ) (d : Device) → i < length xs → length (get_or xs i d).axes ≡ 4
      → (length (answer_at i (chain xs l (length b))) ≡ 0 → ⊥) → Received i (chain xs l (length b)) c (get_or xs i d) l
  unfolding text_of
  chain_reads_back i d k four h =
      let own = own_answer xs l (length b) i d k h in
      record {
        stands = answer_there i g ∙ own;
        heard = reply_reads_back (get_or xs i d) l blank four (λ z. h (ap length own ∙ text_long (get_or xs i d) l ∙ z));
      }
