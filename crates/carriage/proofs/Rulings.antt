-- What a line comes to, and what was read of it, is answered as the step says; and what holds of a command that meets no refusal.
-- Assumes nothing.
use Rattle.laws.specs.declared.Refusal.TheVariants.{NoRoom, BadState, NotMine}
use Rattle.laws.specs.declared.RefusedAt.{RefusedAt}
use Rattle.laws.specs.declared.Refusal.{Refusal}
use Rattle.std.specs.Prelude.{Ok, Err, Result}
use mathlib.Core.Path.{◌≡◌, refl, sym, ap, subst, ◌∙◌}
use mathlib.Core.Bool.{Bool, true, false, cond, ◌&&◌}
use mathlib.Core.List.{List}
use Prim.Native.Nat.{ℕ, ◌+◌, ◌≤◌}
use native.Mathlib.Omega.{arith}
use lib.Dec.{ltb, leb}
use lib.ListN.{length, take, drop}
use borrow.Author.Tests.{ltb-true, ltb-false, leb-true}
use Rattle.laws.proofs.Bools.{and_left, and_right}
use Rattle.units.specs.Units.{place}
use Rattle.command.specs.declared.Command.{Command}
use Rattle.command.specs.declared.kinds.Demands.{Demands}
use Rattle.command.specs.Commands.{demands, carries_words}
use Rattle.phrase.specs.Reading.{WordsRead, worded}
use Rattle.line.specs.Reading.{LineRead, read_line, carried_by, sent}
use Rattle.line.specs.declared.Opening.{Opening}
use Rattle.line.specs.Opening.{open_line, read_on}
use Rattle.line.proofs.Opened.{opened_read}
use Rattle.line.proofs.Carried.{carried_near}
use Rattle.device.specs.declared.Device.{Device}
use Rattle.device.specs.Good.{good}
use Rattle.rules.specs.Refusals.{refusal}
use Rattle.reply.specs.Help.{longest_answer}
use Rattle.reply.specs.Reply.{longest_reply}
use Rattle.view.specs.Data.{data_of}
use Rattle.carriage.specs.declared.Ruling.{Ruling}
use Rattle.carriage.specs.declared.Ruling.TheVariants.{Silent, Rejected, Accepted}
use Rattle.carriage.specs.Step.{Stepped, silent, rejected, accepted, obeyed, concerns, command_room, words_room, room_for, respond, judged}
use Rattle.carriage.specs.ReadOnce.{end_within, fitting, overheard, end_fitting}
use Rattle.carriage.specs.Rulings.{foreign, roomy, heard_on, heard, rule_words, rule, ruled_so}
use Rattle.carriage.proofs.Fits.{echo_short, part_short, data_fits}
use Rattle.carriage.proofs.Steps.{respond_silent, respond_mine, respond_other, respond_not_mine, respond_short, respond_small, respond_bad}
use Rattle.carriage.proofs.AnswerRoom.{most_room}
use Rattle.carriage.proofs.Heard.{foreign_is}
use Rattle.laws.specs.Refusals.{refusal_at, Verdict, ACCEPTED}

-- a ruling on words of which no more are looked at than fit
abbrev pub fitted : Ruling → Ruling
fitted (Silent n) = Silent n
fitted (Rejected k n) = Rejected k n
fitted (Accepted k from end c x) = Accepted k from (end_within from end) c x

within_near : (from end : ℕ) → end_within from end ≤ from + 74
within_near from end = go (leb end (from + 74)) refl
  where
    go : (t : Bool) → leb end (from + 74) ≡ t → cond t end (from + 74) ≤ from + 74
    go true e = leb-true end (from + 74) e
    go false e = omega arith

module _ (d : Device) (l b : List ℕ) where
  abbrev pub answering : Ruling → Stepped
  answering (Silent n) = silent (Err n) d b
  answering (Rejected k n) = rejected n d k b
  answering (Accepted k from end c x) = accepted d k (carried_by c (drop from (take end l))) c b

  -- a command that is accepted meets no refusal, and its words fit
  pub record Sound (k from end : ℕ) (c : Command) (x : Demands) : Type 0 where
    pub room : 96 ≤ length b
    pub enough : command_room c ≤ length b
    pub good : good d ≡ true
    pub refused : refusal d k c ≡ ACCEPTED
    pub demanded : x ≡ demands c
    pub near : carries_words c ≡ true → end ≤ from + 74

  pub sound_fits : (k from end : ℕ) (c : Command) (x : Demands) → Sound k from end c x
      → length (data_of d k (carried_by c (drop from (take end l))) c) ≤ 74
  sound_fits k from end c x h =
      data_fits d k c _ h.good h.refused (echo_short c (drop from (take end l)) (λ w. part_short l from end (h.near w)))

  abbrev pub Fair : Ruling → Type 0
  Fair (Silent n) = Unit
  Fair (Rejected k n) = (96 ≤ length b) × (good d ≡ true)
  Fair (Accepted k from end c x) = Sound k from end c x

  -- what was read comes to x
  pub record Comes (r : LineRead) (x : Ruling) : Type 0 where
    pub answers : answering x ≡ respond d l r b
    pub fair : Fair x

  -- the words of what was read fit
  abbrev NearWords : WordsRead → ℕ → Type 0
  NearWords (Err e) end = Unit
  NearWords (Ok x) end = carries_words x.command ≡ true → end ≤ x.from + 74

  abbrev Near : LineRead → Type 0
  Near (Err e) = Unit
  Near (Ok x) = NearWords x.words x.end

  module _ (room : 96 ≤ length b) (g : good d ≡ true) where
    module _ (a k end : ℕ) (h : concerns d a ≡ true) where
      command_comes : (c : Command) (from : ℕ) → command_room c ≤ length b → (carries_words c ≡ true → end ≤ from + 74)
          → Comes (Ok (sent a k end (Ok (worded c from)))) (rule_words d k end (Ok (worded c from)))
      unfolding obeyed
      command_comes c from enough near = go (refusal d k c) refl
        where
          es : List (List ℕ)
          es = carried_by c (drop from (take end l))

          whole : obeyed d k es c b ≡ respond d l (Ok (sent a k end (Ok (worded c from)))) b
          whole = respond_mine d l b room g a k end (Ok (worded c from)) enough h

          go : (v : Verdict) → refusal d k c ≡ v → Comes (Ok (sent a k end (Ok (worded c from)))) (ruled_so v k from end c)
          go (Ok u) e = record {
            answers = ap (λ (v : Verdict). judged v d k es c b) (sym e) ∙ whole;
            fair = record {
              room = room;
              enough = enough;
              good = g;
              refused = e;
              demanded = refl;
              near = near;
            };
          }
          go (Err n) e = record { answers = ap (λ (v : Verdict). judged v d k es c b) (sym e) ∙ whole; fair = (room, g) }

      words_come : (w : WordsRead) → words_room w ≤ length b → Near (Ok (sent a k end w))
          → Comes (Ok (sent a k end w)) (rule_words d k end w)
      words_come (Ok x) enough near = command_comes x.command x.from enough near
      words_come (Err e) enough near =
          record { answers = respond_mine d l b room g a k end (Err e) enough h; fair = (room, g) }

    read_comes : (r : LineRead) → room_for r ≤ length b → Near r → Comes r (rule d r)
    read_comes (Err e) enough near = record { answers = respond_silent d l b room g e; fair = tt }
    read_comes (Ok x) enough near = go (concerns d x.address) refl
      where
        go : (t : Bool) → concerns d x.address ≡ t → Comes (Ok (sent x.address x.axis x.end x.words)) (cond t (rule_words d x.axis x.end x.words) (Silent NotMine))
        go true e = words_come x.address x.axis x.end e x.words enough near
        go false e = record { answers = respond_other d l b room g x.address x.axis x.end x.words enough e; fair = tt }

    -- with room for the answer to it, or 20
    roomy_comes : (r : LineRead) → Near r → Comes r (rule d (roomy (length b) r))
    roomy_comes r near = go (ltb (length b) (room_for r)) refl
      where
        go : (t : Bool) → ltb (length b) (room_for r) ≡ t → Comes r (rule d (cond t (Err (refusal_at NoRoom 255)) r))
        go true e = record { answers = respond_short d l b room g r (ltb-true (length b) (room_for r) e); fair = tt }
        go false e = read_comes r (ltb-false (length b) (room_for r) e) near

    -- a line that is read no further than a foreign address
    foreign_silent : (o : Result Opening RefusedAt) → (leb longest_answer (length b) && foreign (place d.comm.address.0) o) ≡ true
        → silent (Err NotMine) d b ≡ respond d l (read_on l o) b
    foreign_silent o e =
        let all = leb-true longest_answer (length b) (and_left (leb longest_answer (length b)) _ e) in
        respond_not_mine d l b room g (read_on l o) (omega (arith, most_room (read_on l o)))
        (foreign_is d l o ∙ and_right (leb longest_answer (length b)) _ e)

    line_near : (r : LineRead) → read_line l ≡ r → Near r
    line_near (Err u) e = tt
    line_near (Ok x) e = go x.words e
      where
        go : (w : WordsRead) → read_line l ≡ Ok (sent x.address x.axis x.end w) → NearWords w x.end
        go (Err u) e = tt
        go (Ok y) e = carried_near l x.address x.axis x.end y.from y.command e

    heard_comes : (o : Result Opening RefusedAt) → read_on l o ≡ read_line l
        → Comes (read_line l) (rule d (heard_on (place d.comm.address.0) l (length b) o))
    heard_comes o q = go (leb longest_answer (length b) && foreign (place d.comm.address.0) o) refl
      where
        go : (t : Bool) → (leb longest_answer (length b) && foreign (place d.comm.address.0) o) ≡ t
            → Comes (read_line l) (rule d (cond t (Err (refusal_at NotMine 255)) (roomy (length b) (read_on l o))))
        go true e = record { answers = foreign_silent o e ∙ ap (λ (r : LineRead). respond d l r b) q; fair = tt }
        go false e = subst (λ (r : LineRead). Comes (read_line l) (rule d (roomy (length b) r))) (sym q)
            (roomy_comes (read_line l) (line_near (read_line l) refl))

  -- 20, 21, or what comes of a good record and a buffer with room
  unless_shut : (r x : LineRead) (f : Ruling → Ruling) → ((n : Refusal) → f (Silent n) ≡ Silent n)
      → (96 ≤ length b → good d ≡ true → Comes r (f (rule d x)))
      → Comes r (f (rule d (cond (ltb (length b) 96) (Err (refusal_at NoRoom 255)) (cond (good d) x (Err (refusal_at BadState 255))))))
  unless_shut r x f same heeds = small (ltb (length b) 96) refl
    where
      bad : 96 ≤ length b → (t : Bool) → good d ≡ t → Comes r (f (rule d (cond t x (Err (refusal_at BadState 255)))))
      bad room true g = heeds room g
      bad room false g = subst (Comes r) (sym (same BadState)) (record { answers = respond_bad d l r b room g; fair = tt })

      small : (t : Bool) → ltb (length b) 96 ≡ t → Comes r (f (rule d (cond t (Err (refusal_at NoRoom 255)) (cond (good d) x (Err (refusal_at BadState 255))))))
      small true e = subst (Comes r) (sym (same NoRoom)) (record { answers = respond_small d l r b (ltb-true (length b) 96 e); fair = tt })
      small false e = bad (ltb-false (length b) 96 e) (good d) refl

  -- what is heard of a line comes to its answer
  pub comes : Comes (read_line l) (rule d (heard (place d.comm.address.0) (good d) l (length b)))
  comes = unless_shut (read_line l) _ (λ x. x) (λ n. refl) (λ room g. heard_comes room g (open_line l) (opened_read l))

  rule_fitted : (r : LineRead) → rule d (fitting r) ≡ fitted (rule d r)
  rule_fitted (Err e) = refl
  rule_fitted (Ok x) = go (concerns d x.address) x.words
    where
      by : (k from end : ℕ) (c : Command) (v : Verdict) → ruled_so v k from (end_within from end) c ≡ fitted (ruled_so v k from end c)
      by k from end c (Ok u) = refl
      by k from end c (Err n) = refl

      go : (t : Bool) (w : WordsRead) → cond t (rule_words d x.axis (end_fitting w x.end) w) (Silent NotMine)
          ≡ fitted (cond t (rule_words d x.axis x.end w) (Silent NotMine))
      go true (Err e) = refl
      go true (Ok y) = by x.axis y.from x.end y.command (refusal d x.axis y.command)
      go false w = refl

  fitting_near : (r : LineRead) → Near (fitting r)
  fitting_near (Err e) = tt
  fitting_near (Ok x) = go x.words
    where
      go : (w : WordsRead) → NearWords w (end_fitting w x.end)
      go (Err e) = tt
      go (Ok y) = λ w. within_near y.from x.end

  roomy_fitting : (r : LineRead) → roomy (length b) (fitting r) ≡ fitting (roomy (length b) r)
  roomy_fitting (Err e) = go (ltb (length b) longest_reply)
    where
      go : (t : Bool) → ◌≡◌ {A = LineRead} (cond t (Err (refusal_at NoRoom 255)) (Err e)) (fitting (cond t (Err (refusal_at NoRoom 255)) (Err e)))
      go true = refl
      go false = refl
  roomy_fitting (Ok x) = go (ltb (length b) (words_room x.words))
    where
      go : (t : Bool) → ◌≡◌ {A = LineRead} (cond t (Err (refusal_at NoRoom 255)) (fitting (Ok x))) (fitting (cond t (Err (refusal_at NoRoom 255)) (Ok x)))
      go true = refl
      go false = refl

  -- and so does what is heard of what was read
  pub comes_once : (r : LineRead) → Comes (fitting r) (fitted (rule d (overheard (good d) r (length b))))
  comes_once r = unless_shut (fitting r) (roomy (length b) r) fitted (λ n. refl)
      (λ room g. subst (Comes (fitting r)) (ap (rule d) (roomy_fitting r) ∙ rule_fitted (roomy (length b) r))
      (roomy_comes room g (fitting r) (fitting_near r)))
