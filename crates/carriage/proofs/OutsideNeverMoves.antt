-- From the bytes of a line to the carriage: a move whose target lies outside the limits of an axis concerned is refused out loud or
-- in silence, and nothing moves. Over every record and buffer. Assumes nothing.
use Rattle.std.specs.Prelude.{Ok, Err}
use Rattle.laws.proofs.Refusals.{refused_by}
use Rattle.laws.specs.Refusals.{Verdict, ACCEPTED}
use Rattle.laws.specs.declared.Refusal.{Refusal}
use mathlib.Core.Path.{◌≡◌, refl, sym, ap, ◌∙◌}
use mathlib.Core.Bool.{Bool, true, false}
use mathlib.Core.List.{List}
use Prim.Native.Nat.{ℕ, ◌≤◌, ◌<◌}
use lib.ListN.{length, get_or}
use Rattle.laws.specs.declared.Refusal.TheVariants.{BadData}
use Rattle.laws.proofs.Bools.{clash}
use Rattle.laws.proofs.Walks.{nth}
use Rattle.command.specs.declared.AxisCommand.TheVariants.{MoveTo}
use Rattle.command.specs.declared.Command.{Command}
use Rattle.command.specs.declared.Command.TheVariants.{OfAxes}
use Rattle.command.specs.declared.Target.{Target}
use Rattle.axis.specs.declared.Axis.{Axis}
use Rattle.axis.specs.Record.{fresh_axis}
use Rattle.axis.specs.Travel.{target, between}
use Rattle.line.specs.Spelling.{Asked, Line}
use Rattle.device.specs.declared.Device.{Device}
use Rattle.device.specs.Record.{axes_of}
use Rattle.device.specs.Good.{good}
use Rattle.rules.specs.Refusals.{bad_axis}
use Rattle.rules.specs.Effects.{obey}
use Rattle.rules.proofs.OutsideRefused.{inside, outside_refused, outside_11}
use Rattle.reply.specs.Reply.{longest_reply}
use Rattle.carriage.specs.Step.{Stepped, silent, written, rejected, concerns, step}
use Rattle.carriage.proofs.AnswerRoom.{axes_room}
use Rattle.carriage.proofs.SpelledIsObeyed.{spelled_is_obeyed, spelled_answer, obeyed_refused}

-- An answer that does nothing: it refuses, the record d stays, and where there is a reply it is the rejecting one, its data the
-- refusal's name.
pub record NeverMoves (d : Device) (k : ℕ) (b : List ℕ) (s : Stepped) : Type 0 where
  pub refusal : Refusal
  pub refused : s.answer.verdict ≡ Err refusal
  pub next : s.answer.next ≡ d
  pub reply : (s.answer.length ≡ 0 → ⊥) → s ≡ rejected refusal d k b

module _ (d : Device) (k : ℕ) (b : List ℕ) where
  quiet : (v : Verdict) → (v ≡ ACCEPTED → ⊥) → NeverMoves d k b (silent v d b)
  unfolding silent
  quiet (Ok u) h = absurd (h refl)
  quiet (Err n) h = record { refusal = n; refused = refl; next = refl; reply = λ z. absurd (z refl) }

  aloud : (n : Refusal) → NeverMoves d k b (rejected n d k b)
  unfolding rejected written
  aloud n = record { refusal = n; refused = refl; next = refl; reply = λ z. refl }

-- the limits of one axis concerned are enough: the target lies outside those of the axis at place i of them
pub one_outside : (t : Target) (xs : List Axis) (i : ℕ) → i < length xs
    → between (get_or xs i fresh_axis) (target t (get_or xs i fresh_axis)) ≡ false → inside t xs ≡ false
one_outside t xs i h out = go (inside t xs) refl
  where
    go : (v : Bool) → inside t xs ≡ v → v ≡ false
    go true e = clash (nth (λ x. between x (target t x)) xs fresh_axis i h e) out
    go false e = refl

-- a line that is written for a move: `move abs`, `rel`, `min`, `max` or `stored`
module _ {l : List ℕ} {a : Asked} (t : Target) (d : Device) (b : List ℕ) (w : Line l a) (c : a.command ≡ OfAxes (MoveTo t)) where
  -- Refused, and nothing moves.
  pub outside_never_moves : inside t (axes_of d a.axis) ≡ false → NeverMoves d a.axis b (step d l b)
  outside_never_moves out =
      let k = a.axis in
      let h : (obey d k a.command).verdict ≡ ACCEPTED → ⊥ = λ e. outside_refused d k t out
      (ap (λ (x : Command). (obey d k x).verdict) (sym c) ∙ e) in
      let r = refused_by _ h in
      spelled_answer (NeverMoves d k b) d b w (quiet d k b) (rw (obeyed_refused d k a.echo a.command b r.1) (aloud d k b r.0))

  -- Out loud: a line that this device is to obey is answered with the rejecting reply BADDATA, unless 12 or 15 comes first.
  pub outside_is_said : inside t (axes_of d a.axis) ≡ false → good d ≡ true → longest_reply ≤ length b → concerns d a.address ≡ true
      → bad_axis d a.axis ≡ false → d.parked ≡ false → step d l b ≡ rejected BadData d a.axis b
  outside_is_said out g room mine there p =
      let k = a.axis in
      let n : (obey d k a.command).verdict ≡ Err BadData = ap (λ (x : Command). (obey d k x).verdict) c ∙ outside_11 d k t g there p out in
      spelled_is_obeyed d b w g (axes_room c room) mine ∙ obeyed_refused d k a.echo a.command b n
