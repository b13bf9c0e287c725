-- A line that the spelling rules write for no command is refused: its number is one of the reader's, or one that comes before
-- these in the table, and the record stays as it was. Over every record, line and buffer. Assumes nothing.
use Rattle.laws.specs.declared.Refusal.{Refusal}
use Rattle.std.specs.Prelude.{Ok, Err}
use mathlib.Core.Path.{◌≡◌, refl, subst}
use mathlib.Core.Logic.{⊎_elim}
use mathlib.Core.Bool.{Bool, true, false}
use mathlib.Core.List.{List}
use Prim.Native.Nat.{ℕ, ◌≤◌}
use lib.ListN.{length}
use Rattle.laws.specs.declared.Refusal.TheVariants.{NoRoom, BadState, TooLong, NotLine, BadSum, BadAddress, NotMine, BadCommand, BadData}
use Rattle.laws.proofs.Order.{lt_or_le}
use Rattle.phrase.proofs.WordsNumbered.{Misspelt}
use Rattle.phrase.proofs.WordsNumbered as Words
use Rattle.line.specs.Reading.{read_line, LineRead, sent}
use Rattle.line.specs.Spelling.{Asked, Line}
use Rattle.line.proofs.EveryLine.{Unframed, Reads, unframed, misaddressed, misspelt, spelled, every_line}
use Rattle.line.proofs.EveryLine as Frame
use Rattle.device.specs.declared.Device.{Device}
use Rattle.device.specs.Good.{good}
use Rattle.carriage.specs.Step.{Stepped, silent, written, rejected, concerns, respond, step}
use Rattle.carriage.proofs.Steps.{respond_silent, respond_mine, respond_other, respond_small, respond_bad}
use Rattle.laws.specs.Refusals.{refusal_at, Verdict}

-- the numbers, in the table's order
pub data Unspelled : Verdict → Type 0 where
  no_room : Unspelled (Err NoRoom)
  bad_state : Unspelled (Err BadState)
  too_long : Unspelled (Err TooLong)
  not_line : Unspelled (Err NotLine)
  bad_sum : Unspelled (Err BadSum)
  bad_address_lem : Unspelled (Err BadAddress)
  not_mine_lem : Unspelled (Err NotMine)
  bad_command_lem : Unspelled (Err BadCommand)
  bad_data_lem : Unspelled (Err BadData)

-- an answer that refuses with one of them, and leaves the record d
pub record Refused (d : Device) (s : Stepped) : Type 0 where
  pub verdict : Unspelled s.answer.verdict
  pub next : s.answer.next ≡ d

of_frame : {v : Verdict} → Unframed v → Unspelled v
of_frame Frame.too_long = too_long
of_frame Frame.not_line = not_line
of_frame Frame.bad_sum = bad_sum

of_words : {v : Verdict} → Misspelt v → Unspelled v
of_words Words.bad_command_lem = bad_command_lem
of_words Words.bad_data_lem = bad_data_lem

answers : {d : Device} {s t : Stepped} → s ≡ t → Refused d s → Refused d t
answers {d} e h = subst (Refused d) e h

module _ (d : Device) (b : List ℕ) where
  quiet : {n : Refusal} → Unspelled (Err n) → Refused d (silent (Err n) d b)
  unfolding silent
  quiet h = record { verdict = h; next = refl }

  aloud : {n : Refusal} (k : ℕ) → Unspelled (Err n) → Refused d (rejected n d k b)
  unfolding rejected written
  aloud k h = record { verdict = h; next = refl }

module _ {l : List ℕ} (d : Device) (b : List ℕ) where
  -- a good record and a buffer with room: the reader's number, or 5
  module _ (room : 96 ≤ length b) (g : good d ≡ true) (unwritten : (a : Asked) → Line l a → ⊥) where
    heard-refused : {r : LineRead} → Reads l r → Refused d (respond d l r b)
    heard-refused (unframed h none) = answers (respond_silent d l b room g _) (quiet d b (of_frame h))
    heard-refused (misaddressed c h) = answers (respond_silent d l b room g _) (quiet d b bad_address_lem)
    heard-refused (misspelt {m = m} {p = p} {n = n} {k = k} {end = end} c h none x) = go (concerns d n) refl
      where
        go : (t : Bool) → concerns d n ≡ t → Refused d (respond d l (Ok (sent n k end (Err (refusal_at m p)))) b)
        go true e = answers (respond_mine d l b room g n k end _ room e) (aloud d b k (of_words x))
        go false e = answers (respond_other d l b room g n k end _ room e) (quiet d b not_mine_lem)
    heard-refused (spelled w) = absurd (unwritten _ w)

  -- A line that is written for no command is refused, and the record stays as it was.
  pub unspelled_is_refused : ((a : Asked) → Line l a → ⊥) → Refused d (step d l b)
  unfolding step
  unspelled_is_refused unwritten =
      ⊎_elim (λ small. answers (respond_small d l (read_line l) b small) (quiet d b no_room)) (λ room. go room (good d) refl)
      (lt_or_le (length b) 96)
    where
      go : 96 ≤ length b → (t : Bool) → good d ≡ t → Refused d (step d l b)
      go room true g = heard-refused room g unwritten (every_line l)
      go room false g = answers (respond_bad d l (read_line l) b room g) (quiet d b bad_state)
