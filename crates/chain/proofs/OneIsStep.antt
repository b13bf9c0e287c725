-- A chain of one record is `step`, but for the number of a line that the record rejects: "else 0".
-- Assumes nothing.
use Rattle.std.specs.Prelude.{Ok, Err}
use Rattle.laws.specs.declared.Refusal.TheVariants.{NoRoom, BadState}
use Rattle.laws.specs.Refusals.{Verdict, ACCEPTED}
use Rattle.laws.specs.declared.Refusal.{Refusal}
use mathlib.Core.Path.{◌≡◌, refl, sym, ap, ◌∙◌}
use mathlib.Core.Bool.{Bool, true, false, cond}
use mathlib.Core.List.{List, [], ◌∷◌, ◌++◌, append-nil}
use mathlib.Core.Logic.{⊎_elim}
use Prim.Native.Nat.{ℕ, ◌<◌, ◌≤◌}
use native.Mathlib.Omega.{arith}
use native.Mathlib.Nat.{mul-one}
use lib.Dec.{eqb}
use lib.ListN.{length, drop}
use borrow.Author.Tests.{ne_eqb}
use Rattle.laws.specs.Lists.{fold, all}
use Rattle.laws.proofs.Bools.{clash, and_true}
use Rattle.laws.proofs.Order.{lt_or_le}
use Rattle.line.specs.Reading.{LineRead, read_line}
use Rattle.device.specs.declared.Device.{Device}
use Rattle.device.specs.Good.{good}
use Rattle.reply.specs.Reply.{joined}
use Rattle.carriage.specs.Step.{Stepped, silent, written, room_for, step}
use Rattle.carriage.proofs.AnswerRoom.{least_room}
use Rattle.carriage.proofs.Steps.{respond_small, respond_bad, respond_short}
use Rattle.chain.specs.Walk.{heeds, told}
use Rattle.chain.specs.Chain.{text_of, verdict_of, refusal, refused, Chained, chain}
use Rattle.chain.proofs.Alone.{verdict_alone, alone, quiet_verdict, quiet_text, aloud_text}
use Rattle.chain.proofs.Chains.{told_verdict, refused_small, unless_bad, refused_early, refused_short, refused_not}

-- what an answer of this length comes to
abbrev pub unless_replied : Stepped → Verdict
unless_replied s = cond (eqb s.answer.length 0) s.answer.verdict ACCEPTED

-- what a chain of one makes is what the step s makes of the buffer b
pub record AsStep (b : List ℕ) (s : Stepped) (c : Chained) : Type 0 where
  pub verdict : c.verdict ≡ unless_replied s
  pub device : c.devices ≡ s.answer.next ∷ []
  pub long : length (joined c.answers) ≡ s.answer.length
  pub buffer : joined c.answers ++ drop (length (joined c.answers)) b ≡ s.buffer

module _ (d : Device) (l b : List ℕ) where
  abbrev one : List Device
  one = d ∷ []

  abbrev made : Chained
  made = chain one l (length b)

  -- a silence of the step that is a refusal of the chain
  shut : (n : Refusal) → silent (Err n) d b ≡ step d l b → refused one l (length b) ≡ Err n → AsStep b (step d l b) made
  unfolding chain silent joined fold
  shut n e q = rw (← e, q) (record { verdict = refl; device = refl; long = refl; buffer = refl })

  -- before the line is read: whether the record is good
  by_good : 96 ≤ length b → (t : Bool) → good d ≡ t → cond t ACCEPTED (Err BadState) ≡ refusal 1 (length b) (all good one)
  unfolding fold
  by_good room t g =
      unless_bad 1 (length b) (all good one) (omega arith) (λ z. omega (arith, z)) (omega (arith, room)) {t = t} (and_true (good d) ∙ g)

  -- a refusal then is the chain's
  early : (n : Refusal) → Err n ≡ refusal 1 (length b) (all good one) → refused one l (length b) ≡ Err n
  early n e = sym (refused_early 1 (length b) (all good one) (read_line l) n (sym e))

  -- and so is one of what was read, of a good record
  short : 96 ≤ length b → good d ≡ true → length b < room_for (read_line l) → refused one l (length b) ≡ Err NoRoom
  short room g h =
      sym (refused_short 1 (length b) (all good one) (read_line l) (sym (by_good room true g)) (rw (mul-one (room_for (read_line l))) h))

  module _ (room : room_for (read_line l) ≤ length b) (g : good d ≡ true) where
    accepted : refused one l (length b) ≡ ACCEPTED
    accepted =
        let early = by_good (omega (arith, room, least_room (read_line l))) true g in
        sym (refused_not 1 (length b) (all good one) (read_line l) (sym early) (rw (mul-one (room_for (read_line l))) room))

    -- what it comes to
    verdict_one : verdict_of l one ≡ cond (eqb (length (text_of l d)) 0) (verdict_alone d l) ACCEPTED
    unfolding fold joined
    verdict_one = sym (rw (append-nil (text_of l d)) at (told_verdict l one (rw g) (λ z. omega (arith, z)) (read_line l) refl))
        ∙ go (heeds d (read_line l)) refl
      where
        loud : (r : LineRead) → heeds d r ≡ true → (k : ℕ) → (k ≡ 0 → ⊥) → (told r k).verdict ≡ ACCEPTED
        loud (Err u) e k h = clash e refl
        loud (Ok x) e k h = rw (ne_eqb k 0 h)

        go : (t : Bool) → heeds d (read_line l) ≡ t
            → (told (read_line l) (length (text_of l d))).verdict ≡ cond (eqb (length (text_of l d)) 0) (verdict_alone d l) ACCEPTED
        go true e =
            let some = aloud_text d l g (read_line l) refl e in
            loud (read_line l) e (length (text_of l d)) some ∙ sym (rw (ne_eqb (length (text_of l d)) 0 some))
        go false e = rw (quiet_text d l g e) (sym (quiet_verdict d l g e))

    heard : AsStep b (step d l b) made
    unfolding chain written joined fold
    heard = rw (alone d l b room, accepted)
        (record { verdict = verdict_one; device = refl; long = ap length (append-nil (text_of l d)); buffer = rw (append-nil (text_of l d)) })

  -- For every record, line and buffer.
  pub one_is_step : AsStep b (step d l b) made
  unfolding step
  one_is_step =
      ⊎_elim (λ small. shut NoRoom (respond_small d l (read_line l) b small)
      (early NoRoom (refused_small 1 (length b) (all good one) (omega arith))))
      (λ room. go room (good d) refl) (lt_or_le (length b) 96)
    where
      go : 96 ≤ length b → (t : Bool) → good d ≡ t → AsStep b (step d l b) made
      go room true g =
          ⊎_elim (λ less. shut NoRoom (respond_short d l b room g (read_line l) less) (short room g less))
          (λ enough. heard enough g) (lt_or_le (length b) (room_for (read_line l)))
      go room false g =
          shut BadState (respond_bad d l (read_line l) b room g)
          (early BadState (by_good room false g))
