-- "1 to 5, 20, 21 are silent: length 0, nothing written", by the number that the caller sees: with one of these nothing is changed,
-- and no other answer is without a reply. Over every record, line and buffer. Assumes nothing.
use Rattle.std.specs.Prelude.{Err, is_err}
use Rattle.laws.proofs.Refusals.{not_both}
use mathlib.Core.Path.{◌≡◌, refl, sym, subst, ◌∙◌}
use mathlib.Core.Bool.{Bool, true, false, cond}
use mathlib.Core.List.{List, ◌++◌}
use Prim.Native.Nat.{ℕ, ◌≤◌}
use native.Mathlib.Omega.{arith}
use lib.ListN.{length, take, drop, length-append}
use Rattle.laws.specs.declared.Refusal.TheVariants.{NoRoom, BadState, TooLong, NotLine, BadSum, BadAddress, NotMine}
use Rattle.laws.specs.Refusals.{number_of, Row, first_of, Verdict, ACCEPTED}
use Rattle.laws.specs.Text.{text}
use Rattle.laws.proofs.Bools.{clash}
use Rattle.laws.proofs.Each.{Each, none, more}
use Rattle.command.specs.declared.Command.{Command}
use Rattle.phrase.proofs.WordsNumbered.{Misspelt, bad_command_lem, bad_data_lem}
use Rattle.line.specs.Reading.{LineRead, read_line, carried_by}
use Rattle.line.proofs.EveryLine.{Reads, unframed, misaddressed, misspelt, spelled, every_line}
use Rattle.line.proofs.EveryLine as Line
use Rattle.device.specs.declared.Device.{Device}
use Rattle.rules.specs.Refusals.{refusal}
use Rattle.rules.specs.Effects.{next}
use Rattle.reply.specs.Reply.{reply, joined}
use Rattle.view.specs.Data.{data_of}
use Rattle.carriage.specs.Step.{silent, written, reply_of, rejected, infos_of, accepted, unread, silence, step}
use Rattle.carriage.proofs.Demands.{Unchanged, each_answer}

-- "1 to 5, 20, 21"
pub data Silence : Verdict → Type 0 where
  no_room : Silence (Err NoRoom)
  bad_state : Silence (Err BadState)
  too_long : Silence (Err TooLong)
  not_line : Silence (Err NotLine)
  bad_sum : Silence (Err BadSum)
  bad_address_lem : Silence (Err BadAddress)
  not_mine_lem : Silence (Err NotMine)

-- ---- none of them is a number that has a reply
record Replied (v : Verdict) : Type 0 where
  least : 10 ≤ number_of v
  most : number_of v ≤ 16

not_accepted : Silence ACCEPTED → ⊥
not_accepted s = go s refl
  where
    go : {v : Verdict} → Silence v → v ≡ ACCEPTED → ⊥
    go no_room e = not_both _ e
    go bad_state e = not_both _ e
    go too_long e = not_both _ e
    go not_line e = not_both _ e
    go bad_sum e = not_both _ e
    go bad_address_lem e = not_both _ e
    go not_mine_lem e = not_both _ e

not_replied : {v : Verdict} → Silence v → Replied v → ⊥
not_replied no_room r = omega (arith, r.most)
not_replied bad_state r = omega (arith, r.most)
not_replied too_long r = omega (arith, r.least)
not_replied not_line r = omega (arith, r.least)
not_replied bad_sum r = omega (arith, r.least)
not_replied bad_address_lem r = omega (arith, r.least)
not_replied not_mine_lem r = omega (arith, r.least)

words_replied : {v : Verdict} → Misspelt v → Replied v
words_replied bad_command_lem = record { least = omega arith; most = omega arith }
words_replied bad_data_lem = record { least = omega arith; most = omega arith }

-- ---- what holds of the verdict of every row that applies, holds of the first
first_applies : (P : Verdict → Type 0) {rows : List Row} → Each (λ (r : Row). r.applies ≡ true → P r.verdict) rows
    → (first_of rows ≡ ACCEPTED → ⊥) → P (first_of rows)
unfolding first_of
first_applies P none z = absurd (z refl)
first_applies P (more {x = r} {xs = rows} h hs) z = go r.applies h z (first_applies P hs)
  where
    go : (t : Bool) → (t ≡ true → P r.verdict) → (cond t r.verdict (first_of rows) ≡ ACCEPTED → ⊥)
        → ((first_of rows ≡ ACCEPTED → ⊥) → P (first_of rows))
        → P (cond t r.verdict (first_of rows))
    go true h z below = h refl
    go false h z below = below z

device_replied : (d : Device) (k : ℕ) (c : Command) → (refusal d k c ≡ ACCEPTED → ⊥) → Replied (refusal d k c)
unfolding refusal
device_replied d k c =
    first_applies Replied
    (more (λ e. record { least = omega arith; most = omega arith })
    (more (λ e. record { least = omega arith; most = omega arith })
    (more (λ e. record { least = omega arith; most = omega arith })
    (more (λ e. record { least = omega arith; most = omega arith })
    (more (λ e. record { least = omega arith; most = omega arith })
    (more (λ e. record { least = omega arith; most = omega arith })
    (more (λ e. record { least = omega arith; most = omega arith }) none)))))))

unread_silence : {l : List ℕ} {r : LineRead} → Reads l r → is_err (unread r) ≡ true → Silence (unread r)
unread_silence (unframed Line.too_long x) e = too_long
unread_silence (unframed Line.not_line x) e = not_line
unread_silence (unframed Line.bad_sum x) e = bad_sum
unread_silence (misaddressed c h) e = bad_address_lem
unread_silence (misspelt c h x m) e = clash e refl
unread_silence (spelled w) e = clash e refl

silence_number : (d : Device) (l b : List ℕ) → (silence d (read_line l) b ≡ ACCEPTED → ⊥) → Silence (silence d (read_line l) b)
unfolding silence
silence_number d l b =
    first_applies Silence (more (λ e. no_room) (more (λ e. bad_state) (more (unread_silence (every_line l))
    (more (λ e. no_room) (more (λ e. not_mine_lem) none)))))

-- ---- a reply has bytes
pub reply_some : (d : Device) (k : ℕ) (ok : Bool) (words : List ℕ) → length (reply_of d k ok words) ≡ 0 → ⊥
unfolding reply_of reply text
reply_some d k ok words e = omega arith

-- Where the number is one of these, the length is 0, and the buffer and the record are as they were.
pub silence_by_number : (d : Device) (l b : List ℕ) → Silence (step d l b).answer.verdict → Unchanged d b (step d l b)
unfolding silent rejected accepted written
silence_by_number d l b =
    each_answer (λ s. Silence s.answer.verdict → Unchanged d b s) d l b
    (λ h n. record { next = refl; length = refl; buffer = refl })
    (λ a k end m p is w g n. absurd (not_replied n (words_replied w)))
    (λ a k end from c n is g h z. absurd (not_replied z (subst Replied h (device_replied d k c (λ e. not_both n (sym h ∙ e))))))
    (λ a k end from c is g e n. absurd (not_accepted n))

-- And the length is 0 with no other number.
pub no_reply_is_silence : (d : Device) (l b : List ℕ) → (step d l b).answer.length ≡ 0 → Silence (step d l b).answer.verdict
unfolding silent rejected accepted written
no_reply_is_silence d l b =
    each_answer (λ s. s.answer.length ≡ 0 → Silence s.answer.verdict) d l b
    (λ h e. silence_number d l b h)
    (λ a k end m p is w g e. absurd (reply_some d k false _ e))
    (λ a k end from c n is g h e. absurd (reply_some d k false _ e))
    (λ a k end from c is g z e.
    let t = reply_of (next d k c) k true (data_of d k (carried_by c (drop from (take end l))) c) in
    absurd (reply_some (next d k c) k true _ (front-none t (joined (infos_of (next d k c) c)) e)))
  where
    front-none : (s t : List ℕ) → length (s ++ t) ≡ 0 → length s ≡ 0
    front-none s t e = omega (arith, length-append s t)
