-- What a call leaves in the buffer: the answers, one behind the other, and behind the last what stood there; and the promise leaves no
-- choice. Assumes nothing.
use mathlib.Core.Path.{◌≡◌, refl, ap}
use mathlib.Core.List.{List, [], ◌∷◌, ◌++◌, append_assoc}
use Prim.Native.Nat.{ℕ, zero, suc}
use lib.ListN.{length, take, drop, get_or, length-append}
use lib.Seq.{take_at, drop_at, take-append_seam, drop-append-add}
use Rattle.laws.specs.Lists.{fold}
use Rattle.laws.proofs.Answers.{one_answer}
use Rattle.device.specs.declared.Device.{Device}
use Rattle.reply.specs.Reply.{joined}
use Rattle.chain.specs.declared.Told.{Told}
use Rattle.chain.specs.Chain.{Chained, Gives, answer_at, begins_at}

module _ {s : Chained} {b : List ℕ} {r : Told} {ys : List Device} {c : List ℕ} (g : Gives s b r ys c) where
  abbrev all_answers : List ℕ
  all_answers = joined s.answers

  long : r.length ≡ length all_answers
  long = ap (λ (t : Told). t.length) g.result

  -- "Replies follow in chain order": the first bytes, as many as are told, are the answers back to back
  pub answers_stand : take r.length c ≡ joined s.answers
  answers_stand = rw g.left (take_at all_answers (drop (length all_answers) b) r.length (ap (λ (n : ℕ). n) (rw long)))

  -- nothing behind the last answer is written
  pub behind_stays : drop r.length c ≡ drop r.length b
  behind_stays = rw (g.left, long) (drop_at all_answers (drop (length all_answers) b) (length all_answers) refl)

-- the answer of a place stands whole behind those of the places before it
in_joined : (ts : List (List ℕ)) (i : ℕ) (z : List ℕ) → take (length (get_or ts i [])) (drop (length (joined (take i ts))) (joined ts ++ z)) ≡
    get_or ts i []
unfolding fold joined
in_joined [] zero z = refl
in_joined [] (suc i) z = refl
in_joined (t ∷ ts) zero z = rw (append_assoc t (joined ts) z) (take-append_seam t (joined ts ++ z))
in_joined (t ∷ ts) (suc i) z =
    rw (append_assoc t (joined ts) z, length-append, drop-append-add t (joined ts ++ z) (length (joined (take i ts)))) (in_joined ts i z)

pub answer_there : {s : Chained} {b : List ℕ} {r : Told} {ys : List Device} {c : List ℕ} (i : ℕ) → Gives s b r ys c
    → take (length (answer_at i s)) (drop (begins_at i s) c) ≡ answer_at i s
answer_there {s} {b} i g = rw g.left (in_joined s.answers i (drop (length (joined s.answers)) b))

-- The promise of a chain leaves no choice: two results, records and buffers that meet it are the same.
pub gives_one : {s : Chained} {b : List ℕ} {q r : Told} {xs ys : List Device} {c d : List ℕ} → Gives s b q xs c → Gives s b r ys d
    → (q ≡ r) × (xs ≡ ys) × (c ≡ d)
gives_one g h = (one_answer g.result h.result, one_answer g.devices h.devices, one_answer g.left h.left)
