-- A line that is read once for several records is answered for each as if it were read for that record alone.
-- Assumes nothing.
use Rattle.laws.specs.declared.Refusal.TheVariants.{NoRoom, BadState}
use Rattle.phrase.specs.Reading.{WordsRead}
use Rattle.std.specs.Prelude.{Ok, Err}
use mathlib.Core.Path.{◌≡◌, refl, ap}
use mathlib.Core.Bool.{Bool, true, false, cond}
use mathlib.Core.List.{List, []}
use Prim.Native.Nat.{ℕ, ◌+◌, ◌≤◌, ◌<◌}
use lib.ListN.{take, drop}
use borrow.Author.Tests.{lt-ltb, le-ltb, le-leb}
use Rattle.words.specs.Cutting.{cut}
use Rattle.command.specs.declared.Command.{Command}
use Rattle.command.specs.Commands.{carries_words}
use Rattle.line.specs.Reading.{LineRead, read_line, carried_by, sent}
use Rattle.line.proofs.Carried.{carried_near}
use Rattle.device.specs.declared.Device.{Device}
use Rattle.carriage.specs.Step.{silence, respond, step}
use Rattle.carriage.specs.Rulings.{roomy}
use Rattle.carriage.specs.ReadOnce.{end_within, fitting, respond_to, overheard}
use Rattle.laws.specs.Refusals.{refusal_at}

-- ---- the end of words that begin at `from`
module _ (from end : ℕ) where
  pub within_short : end ≤ from + 74 → end_within from end ≡ end
  within_short h = rw (le-leb end (from + 74) h)

-- ---- what is heard of what was read
module _ (good : Bool) (r : LineRead) (room : ℕ) where
  pub overheard_small : room < 96 → Err (refusal_at NoRoom 255) ≡ overheard good r room
  overheard_small h = rw (lt-ltb room 96 h)

  module _ (h : 96 ≤ room) where
    pub overheard_read : good ≡ true → {x : LineRead} → x ≡ roomy room r → x ≡ overheard good r room
    overheard_read g e = rw (le-ltb room 96 h, g) e

    pub overheard_bad : good ≡ false → Err (refusal_at BadState 255) ≡ overheard good r room
    overheard_bad g = rw (le-ltb room 96 h, g)

-- ---- the words that a line carries are all looked at
module _ (d : Device) (l b : List ℕ) where
  carried_all : (c : Command) (from end : ℕ) → (carries_words c ≡ true → end ≤ from + 74)
      → carried_by c (drop from (take (end_within from end) l)) ≡ carried_by c (drop from (take end l))
  carried_all c from end near = go (carries_words c) near
    where
      go : (t : Bool) → (t ≡ true → end ≤ from + 74)
          → cond t (cut (drop from (take (end_within from end) l))) [] ≡ cond t (cut (drop from (take end l))) []
      go true h = ap (λ (e : ℕ). cut (drop from (take e l))) (within_short from end (h refl))
      go false h = refl

  fitting_same : (r : LineRead) → read_line l ≡ r → respond d l (fitting r) b ≡ respond d l r b
  unfolding respond silence
  fitting_same (Err u) e = refl
  fitting_same (Ok x) e = go x.words e
    where
      go : (w : WordsRead) → read_line l ≡ Ok (sent x.address x.axis x.end w)
          → respond d l (fitting (Ok (sent x.address x.axis x.end w))) b ≡ respond d l (Ok (sent x.address x.axis x.end w)) b
      go (Err u) e = refl
      go (Ok y) e = rw (carried_all y.command y.from x.end (carried_near l x.address x.axis x.end y.from y.command e))

  pub read_once : respond_to d l (read_line l) b ≡ step d l b
  unfolding respond_to step
  read_once = fitting_same (read_line l) refl
