-- The three ways to answer what a line comes to: silence, a rejecting reply, or an accepting one.
-- Assumes nothing.
use Rattle.std.specs.Prelude.{Err}
use Rattle.laws.specs.Refusals.{ACCEPTED}
use Rattle.laws.specs.declared.Refusal.{Refusal}
use mathlib.Core.Path.{◌≡◌, refl, sym, ap, subst, ◌∙◌}
use mathlib.Core.Bool.{Bool, true, false, cond, not}
use mathlib.Core.List.{List, [], ◌++◌}
use Prim.Native.Nat.{ℕ, ◌≤◌, ◌<◌}
use native.Mathlib.Omega.{arith}
use lib.ListN.{length, take, drop}
use Rattle.laws.proofs.Bools.{not_false}
use Rattle.units.specs.Units.{place}
use Rattle.words.specs.Cutting.{cut}
use Rattle.command.specs.declared.Command.{Command}
use Rattle.command.specs.declared.forms.Form.{Form}
use Rattle.command.specs.declared.kinds.Data.{Data}
use Rattle.command.specs.declared.kinds.Demands.{Demands}
use Rattle.command.specs.Forms.{form_of}
use Rattle.command.specs.Commands.{demands, is_words, is_info}
use Rattle.command.specs.Commands as Table
use Rattle.buffer.specs.Wrote.{Wrote}
use Rattle.line.specs.Reading.{LineRead, read_line, carried_by}
use Rattle.device.specs.declared.Device.{Device}
use Rattle.device.specs.Good.{good}
use Rattle.rules.specs.Effects.{next}
use Rattle.rules.proofs.OnlyShows.{shows_same}
use Rattle.rules.proofs.GoodStays.{good_count}
use Rattle.reply.specs.Data.{refusal_name}
use Rattle.reply.specs.Help.{longest_answer, info_lines}
use Rattle.reply.specs.Reply.{longest_reply, reply, joined as joined-lines}
use Rattle.reply.specs.Told.{carried, told_text, informs}
use Rattle.reply.proofs.Lengths.{refusal_length}
use Rattle.reply.specs.declared.told.Told.{Told}
use Rattle.view.specs.Data.{text_of, data_of, told_of}
use Rattle.view.specs.View.{head_of}
use Rattle.view.proofs.Telling.{told_text_lem, told_informs}
use Rattle.carriage.specs.declared.Heading.{Heading}
use Rattle.carriage.specs.declared.Ruling.{Ruling}
use Rattle.carriage.specs.declared.Ruling.TheVariants.{Silent, Rejected, Accepted}
use Rattle.carriage.specs.Step.{Gives, reply_of, rejected, infos_of, accepted, respond}
use Rattle.carriage.specs.ReadOnce.{fitting, overheard}
use Rattle.carriage.specs.Rulings.{heading_of, heard, rule}
use Rattle.carriage.proofs.Steps.{gives_as, silent_gives}
use Rattle.carriage.proofs.AnswerRoom.{command_room_lem}
use Rattle.carriage.proofs.Replies.{head_digit, next_few, reply_short, infos_as, answer_short, wrote_gives}
use Rattle.carriage.proofs.Rulings.{Comes, comes, fitted, comes_once, sound_fits}

-- the bytes s are looked at by a command that carries words alone
carried_same : (d : Device) (k : ℕ) (s : List ℕ) (c : Command)
    → text_of d k (cut s) (form_of c) (demands c).reply ≡ data_of d k (carried_by c s) c
unfolding data_of
carried_same d k s c = go (demands c).reply
  where
    go : (x : Data) → text_of d k (cut s) (form_of c) x ≡ text_of d k (cond (is_words x) (cut s) []) (form_of c) x
    go Data.Nought = refl
    go Data.Values = refl
    go Data.Stored = refl
    go Data.Position = refl
    go Data.Active = refl
    go Data.Parked = refl
    go Data.Words = refl
    go Data.Info = refl

-- what the code hears of the line, and what that comes to
pub comes_as : (d : Device) (l b : List ℕ) {g : Bool} {own : ℕ} {r : LineRead} {x y : Ruling} → g ≡ good d
    → own ≡ place d.comm.address.0 → r ≡ heard own g l (length b) → x ≡ rule d r → x ≡ y → Comes d l b (read_line l) y
comes_as d l b {g} {own} p q u v e =
    let same : heard own g l (length b) ≡ heard (place d.comm.address.0) (good d) l (length b) = rw (p, q) in
    subst (Comes d l b (read_line l)) (sym (v ∙ ap (rule d) (u ∙ same)) ∙ e) (comes d l b)

-- what it hears of what was read
pub once_as : (d : Device) (l : List ℕ) (r : LineRead) (b : List ℕ) {g : Bool} {h : LineRead} {x y : Ruling} → g ≡ good d
    → h ≡ overheard g r (length b) → x ≡ rule d h → x ≡ y → Comes d l b (fitting r) (fitted y)
once_as d l r b {g} p u v e =
    let same : overheard g r (length b) ≡ overheard (good d) r (length b) = rw p in
    subst (λ (z : Ruling). Comes d l b (fitting r) (fitted z)) (sym (v ∙ ap (rule d) (u ∙ same)) ∙ e) (comes_once d l b r)

module _ (d : Device) (l : List ℕ) (r : LineRead) (b : List ℕ) where
  pub silence_gives : (n : Refusal) → Comes d l b r (Silent n) → Gives (respond d l r b) (record { verdict = Err n; length = 0; next = d }) b
  silence_gives n w = gives_as w.answers (silent_gives (Err n) d b refl)

  module _ (k : ℕ) (n : Refusal) (w : Comes d l b r (Rejected k n)) {h : Heading} (p : h ≡ heading_of d k false) where
    pub rejection_digit : h.head.axis < 10
    rejection_digit = head_digit d k false p (good_count d w.fair.1)

    pub rejection_gives : {q : ℕ} {f : List ℕ} → Wrote b 0 (reply h.head h.sum (refusal_name n)) f q
        → Gives (respond d l r b) (record { verdict = Err n; length = q; next = d }) f
    unfolding rejected reply_of
    rejection_gives v =
        let fits = reply_short d k (good_count d w.fair.1) false (refusal_name n) (omega (arith, refusal_length n)) in
        gives_as w.answers (wrote_gives (Err n) d (reply_of d k false (refusal_name n)) (rw p at v) (omega (arith, fits, w.fair.0)) refl)

  module _ (k from end : ℕ) (c : Command) (y : Demands) (w : Comes d l b r (Accepted k from end c y)) where
    -- the next record is made, unless the command only shows
    pub joined : {e : Device} → not y.shows ≡ false → e ≡ d → e ≡ next d k c
    joined h q = q ∙ sym (shows_same d k c (sym (ap (λ (x : Demands). x.shows) w.fair.demanded) ∙ not_false _ h))

    module _ {f : Form} (p : f ≡ form_of c) {stop : ℕ} (u : stop ≡ end) {t : Told}
        (q : (t ≡ told_of d k f y.reply from stop) × (length d.axes ≡ 4)) where
      told-data : told_text l t ≡ data_of d k (carried_by c (drop from (take end l))) c
      unfolding carried
      told-data =
          ap (told_text l) (q.0 ∙ ap (told_of d k f y.reply from) u) ∙ told_text_lem d k q.1 l f y.reply from end
          ∙ rw (p, w.fair.demanded) (carried_same d k (drop from (take end l)) c)

      pub told_fits : length (told_text l t) ≤ 74
      told_fits = rw told-data (sound_fits d l b k from end c y w.fair)

      told-informing : informs t ≡ Table.informs c
      told-informing =
          ap informs q.0 ∙ told_informs d k f y.reply from stop ∙ ap (λ (x : Demands). is_info x.reply) w.fair.demanded

      pub answer_fits : cond (informs t) longest_answer longest_reply ≤ length b
      answer_fits = rw (told-informing, ← command_room_lem c) w.fair.enough

      module _ {e : Device} (m : e ≡ next d k c) {h : Heading} (z : h ≡ heading_of e k true) where
        pub acceptance_digit : h.head.axis < 10
        acceptance_digit = head_digit e k true z (next_few d k c w.fair.good m)

        -- the reply, and the info lines behind it
        abbrev lines : List ℕ
        lines = cond (informs t) (joined-lines (info_lines h.head.address h.sum)) []

        pub acceptance_gives : {x : ℕ} {g : List ℕ} → Wrote b 0 (reply h.head h.sum (told_text l t) ++ lines) g x
            → Gives (respond d l r b) (record { verdict = ACCEPTED; length = x; next = e }) g
        unfolding accepted reply_of head_of
        acceptance_gives {x} {g} v =
            let words = data_of d k (carried_by c (drop from (take end l))) c in
            let text = reply_of (next d k c) k true words ++ joined-lines (infos_of (next d k c) c) in
            let whole : Wrote b 0 text g x = rw (infos_as (next d k c) c, ← told-informing) (rw (z, m, told-data) at v) in
            let few = next_few d k c w.fair.good refl in
            let fits = answer_short (next d k c) k c words few (sound_fits d l b k from end c y w.fair) in
            gives_as w.answers (wrote_gives ACCEPTED (next d k c) text whole (omega (arith, fits, w.fair.enough))
            (ap (λ (e : Device). record { verdict = ACCEPTED; length = x; next = e }) m))
