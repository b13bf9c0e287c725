-- The ways of a line through the table of silences, as the tests of the code have them.
-- Assumes nothing.
use Rattle.laws.specs.declared.Refusal.TheVariants.{NoRoom, BadState, NotMine}
use Rattle.laws.specs.declared.RefusedAt.{RefusedAt}
use Rattle.std.specs.Prelude.{Ok, Err}
use mathlib.Core.Path.{◌≡◌, refl, subst}
use mathlib.Core.Bool.{true, false}
use mathlib.Core.List.{List}
use Prim.Native.Nat.{ℕ, ◌≤◌, ◌<◌}
use native.Mathlib.Omega.{arith}
use lib.ListN.{length}
use borrow.Author.Tests.{lt-ltb, le-ltb}
use Rattle.laws.specs.Refusals.{first_of, Verdict}
use Rattle.laws.proofs.Bools.{not_true, clash}
use Rattle.phrase.specs.Reading.{WordsRead}
use Rattle.line.specs.Reading.{LineRead, sent}
use Rattle.device.specs.declared.Device.{Device}
use Rattle.device.specs.Good.{good}
use Rattle.carriage.specs.declared.Answer.{Answer}
use Rattle.carriage.specs.Step.{Stepped, Gives, silent, concerns, addressed, not_mine, words_room, room_for, silence, respond}

pub gives_as : {s t : Stepped} {r : Answer} {c : List ℕ} → s ≡ t → Gives s r c → Gives t r c
gives_as {r = r} {c = c} e g = subst (λ (x : Stepped). Gives x r c) e g

pub silent_gives : (v : Verdict) (d : Device) (b : List ℕ) {r : Answer} → r ≡ record { verdict = v; length = 0; next = d }
    → Gives (silent v d b) r b
unfolding silent
silent_gives v d b e = record { result = e; left = refl }

-- a good record and a buffer with room
module _ (d : Device) (l b : List ℕ) (room : 96 ≤ length b) (g : good d ≡ true) where
  pub respond_silent : (e : RefusedAt) → silent (Err e.refusal) d b ≡ respond d l (Err e) b
  unfolding respond silence first_of
  respond_silent e = rw (le-ltb (length b) 96 room, g)

  -- and room for the answer to these words
  module _ (a k end : ℕ) (w : WordsRead) (enough : words_room w ≤ length b) where
    pub respond_mine : concerns d a ≡ true → addressed d l k end w b ≡ respond d l (Ok (sent a k end w)) b
    unfolding respond silence first_of
    respond_mine h = rw (le-ltb (length b) 96 room, g, le-ltb (length b) (words_room w) enough, h)

    pub respond_other : concerns d a ≡ false → silent (Err NotMine) d b ≡ respond d l (Ok (sent a k end w)) b
    unfolding respond silence first_of
    respond_other h = rw (le-ltb (length b) 96 room, g, le-ltb (length b) (words_room w) enough, h)

  pub respond_not_mine : (r : LineRead) → room_for r ≤ length b → not_mine d r ≡ true → silent (Err NotMine) d b ≡ respond d l r b
  respond_not_mine (Err e) enough h = clash h refl
  respond_not_mine (Ok x) enough h = respond_other x.address x.axis x.end x.words enough (not_true (concerns d x.address) h)

  -- or none for it
  pub respond_short : (r : LineRead) → length b < room_for r → silent (Err NoRoom) d b ≡ respond d l r b
  unfolding respond silence first_of
  respond_short (Err e) h = absurd (omega arith)
  respond_short (Ok x) h = rw (le-ltb (length b) 96 room, g, lt-ltb (length b) (words_room x.words) h)

-- no room, or a record that is not good
module _ (d : Device) (l : List ℕ) (r : LineRead) (b : List ℕ) where
  pub respond_small : length b < 96 → silent (Err NoRoom) d b ≡ respond d l r b
  unfolding respond silence first_of
  respond_small h = rw (lt-ltb (length b) 96 h)

  pub respond_bad : 96 ≤ length b → good d ≡ false → silent (Err BadState) d b ≡ respond d l r b
  unfolding respond silence first_of
  respond_bad room h = rw (le-ltb (length b) 96 room, h)
