-- Whatever line a device answers, the host reads its reply, and each info line behind it, as what was put in: every record, line and
-- buffer.
-- A record has four axis places, as every one that is reached from a fresh record. Nothing else is assumed.
use Rattle.laws.specs.declared.Refusal.{Refusal}
use mathlib.Core.Path.{◌≡◌, refl, sym, ap, subst, ◌∙◌}
use mathlib.Core.Bool.{Bool, true, false, cond}
use mathlib.Core.List.{List, [], ◌++◌, map, append-nil}
use Prim.Native.Nat.{ℕ, ◌≤◌}
use native.Mathlib.Omega.{arith}
use lib.Dec.{eqb}
use lib.ListN.{length, take, drop}
use lib.Seq.{take_at}
use Rattle.std.specs.Prelude.{Option, None, Some, Ok, Err, is_ok}
use Rattle.laws.specs.Lists.{fold}
use Rattle.units.specs.Units.{place}
use Rattle.units.specs.declared.Number.{Number}
use Rattle.command.specs.declared.Command.{Command}
use Rattle.command.specs.Commands.{informs}
use Rattle.phrase.specs.Reading.{WordsRead, worded}
use Rattle.line.specs.Reading.{LineRead, read_line, carried_by, sent}
use Rattle.line.proofs.Carried.{carried_of}
use Rattle.device.specs.declared.Device.{Device}
use Rattle.device.specs.Good.{good, ask_fresh}
use Rattle.rules.specs.Refusals.{refusal}
use Rattle.rules.specs.Effects.{next}
use Rattle.reply.specs.Data.{refusal_name}
use Rattle.reply.specs.Help.{help_texts, info_lines}
use Rattle.reply.specs.Reply.{joined}
use Rattle.reply.proofs.Lengths.{refusal_length}
use Rattle.reply.proofs.Room.{most_data}
use Rattle.view.specs.View.{head_of}
use Rattle.view.specs.Data.{data_of}
use Rattle.carriage.specs.Step.{Stepped, silent, written, wants_sum, reply_of, rejected, infos_of, accepted, step}
use Rattle.carriage.proofs.Fits.{line_fits}
use Rattle.rules.proofs.GoodStays.{good_count}
use Rattle.carriage.proofs.Replies.{shown_digit}
use Rattle.carriage.proofs.Demands.{Rejects, data_for, infos_for, sent_in, each_answer, every_answer, good_goes_on}
use Rattle.carriage.proofs.GoodForEver.{Event, reached, good_for_ever}
use Rattle.host_reader.specs.Spelling.{Data}
use Rattle.host_reader.specs.Reading.{field, read_message}
use Rattle.host_reader.specs.declared.Said.{Said}
use Rattle.host_reader.specs.declared.Said.TheVariants.{Reply, Alert, Info}
use Rattle.host_reader.specs.declared.Message.{Message}
use Rattle.host_reader.proofs.ReadsBack.{heard_reply, heard_info, reply_text, reply_back}
use Rattle.host_reader.proofs.HelpReadsBack.{help_reads_back}
use Rattle.roundtrip.proofs.Rejecting.{Rejecting, bad_command_lem, bad_data_lem, bad_axis_lem, device_only_lem, no_access, parked, status_busy_lem, name_data, device_rejects, line_rejects}
use Rattle.roundtrip.proofs.ReadWords.{carried_words}
use Rattle.roundtrip.proofs.Shown.{good_address, data_said}
use Rattle.laws.specs.Refusals.{refusal_at, Verdict, ACCEPTED}

-- an info line of the device, and its text
abbrev pub heard : ℕ → List ℕ → Option Message
heard address t = Some (heard_info address 0 t)

-- What the host understands of a reply of the next record for the axis k: that it is a reply; address, status and highest warning of
-- that record, the axis, OK or not, and the data, byte for byte, from byte 17 on, as many as the message says.
-- Behind the reply stand the info lines, of that address and axis 0, one for each text, and nothing else.
pub record Heard (s : Stepped) (k : ℕ) (ok : Bool) (words : List ℕ) (infos texts : List (List ℕ)) : Type 0 where
  pub stands : sent_in s ≡ reply_of s.answer.next k ok words ++ joined infos
  pub message : read_message (reply_of s.answer.next k ok words) ≡ Some (heard_reply (head_of s.answer.next k ok) words)
  pub data_is : field (reply_of s.answer.next k ok words) 17 (length words) ≡ words
  pub informed : map read_message infos ≡ map (heard (place s.answer.next.comm.address.0)) texts

-- the texts of the info lines behind a reply beside a verdict
abbrev pub texts_of : Command → List (List ℕ)
texts_of c = cond (informs c) help_texts []

abbrev pub texts_for : WordsRead → Verdict → List (List ℕ)
texts_for (Err e) v = []
texts_for (Ok x) v = cond (is_ok v) (texts_of x.command) []

-- What the host understands of the answer s to a line: the axis is the one that was read of the line, OK stands exactly where it
-- is accepted, and the data are the refusal's name or those of the command that was read. A line that is not read has no reply.
abbrev pub Understood : Device → List ℕ → LineRead → Stepped → Type 0
Understood d l (Err e) s = ⊥
Understood d l (Ok x) s =
    let v = s.answer.verdict in
    Heard s x.axis (is_ok v) (data_for d l x.axis x.end x.words v) (infos_for s.answer.next x.words v) (texts_for x.words v)

-- ---- a record that replies is good
replies_good : (d : Device) (l b : List ℕ) → ((step d l b).answer.length ≡ 0 → ⊥) → good d ≡ true
unfolding silent
replies_good d l b = every_answer (λ s. (s.answer.length ≡ 0 → ⊥) → good d ≡ true) d l b (λ h. absurd (h refl)) (λ n k g h. g)
    (λ k c es g e w h. g)

-- ---- the info lines of a good record
informed_by : (d : Device) (c : Command) → good d ≡ true
    → map read_message (infos_of d c) ≡ map (heard (place d.comm.address.0)) (texts_of c)
unfolding infos_of
informed_by d c g = go (informs c)
  where
    go : (t : Bool) → map read_message (cond t (info_lines (place d.comm.address.0) (wants_sum d)) [])
        ≡ map (heard (place d.comm.address.0)) (cond t help_texts [])
    go true = let address = good_address d g in help_reads_back (place d.comm.address.0) (wants_sum d) address.0 address.1
    go false = refl

-- ---- one answer: a reply, and info lines behind it
module _ (v : Verdict) (d : Device) (k : ℕ) (ok : Bool) (words b : List ℕ) (g : good d ≡ true) (said : Data words)
    (short : length words ≤ 74) (infos texts : List (List ℕ))
    (back : map read_message infos ≡ map (heard (place d.comm.address.0)) texts) where
  answer_heard : Heard (written v d (reply_of d k ok words ++ joined infos) b) k ok words infos texts
  unfolding written reply_of head_of
  answer_heard =
      let t = reply_of d k ok words ++ joined infos in
      let digit = shown_digit d k (good_count d g) in
      let address = good_address d g in
      record {
        stands = take_at t (drop (length t) b) (length t) refl;
        message = reply_back (head_of d k ok) (wants_sum d) address.0 address.1 (omega (arith, digit)) words said
            (omega (arith, most_data (wants_sum d)));
        data_is = reply_text (head_of d k ok) (wants_sum d) address.0 address.1 (omega (arith, digit)) words;
        informed = back;
      }

-- ---- the theorem
module _ (d : Device) (l b : List ℕ) where
  abbrev Reading : Stepped → Type 0
  Reading s = (s.answer.length ≡ 0 → ⊥) → good s.answer.next ≡ true → Understood d l (read_line l) s

  refused_heard : (n : Refusal) (k : ℕ) → Rejecting n → good d ≡ true → Heard (rejected n d k b) k false (refusal_name n) [] []
  unfolding rejected joined fold
  refused_heard n k r g =
      let short : length (refusal_name n) ≤ 74 = omega (arith, refusal_length n) in
      subst (λ (t : List ℕ). Heard (written (Err n) d t b) k false (refusal_name n) [] []) (append-nil (reply_of d k false (refusal_name n)))
      (answer_heard (Err n) d k false (refusal_name n) b g (name_data r) short [] [] refl)

  misspelt_reads : (a k end : ℕ) (m : Refusal) (p : ℕ) → read_line l ≡ Ok (sent a k end (Err (refusal_at m p))) → good d ≡ true → Reading (rejected m d k b)
  unfolding rejected written
  misspelt_reads a k end m p is g h after =
      let r : Rejecting m = subst (Rejects Rejecting) is (line_rejects l) in rw is (refused_heard m k r g)

  refused_reads : (a k end from : ℕ) (c : Command) (n : Refusal) → read_line l ≡ Ok (sent a k end (Ok (worded c from))) → good d ≡ true
      → refusal d k c ≡ Err n → Reading (rejected n d k b)
  unfolding rejected written
  refused_reads a k end from c n is g z h after = rw is (refused_heard n k (device_rejects d k c z) g)

  accepted_reads : length d.axes ≡ 4 → (a k end from : ℕ) (c : Command) → read_line l ≡ Ok (sent a k end (Ok (worded c from)))
      → good d ≡ true → refusal d k c ≡ ACCEPTED → Reading (accepted d k (carried_by c (drop from (take end l))) c b)
  unfolding accepted written
  accepted_reads four a k end from c is g e h after =
      let es = carried_by c (drop from (take end l)) in
      let w = carried_of l a k end from c is in
      rw is
      (answer_heard ACCEPTED (next d k c) k true (data_of d k es c) b after (data_said d k c four g e (carried_words l w))
      (line_fits d k c es l g e w) (infos_of (next d k c) c) (texts_of c) (informed_by (next d k c) c after))

  -- Whatever a record with four axis places answers with a reply, the host understands as this.
  pub reply_reads_back : length d.axes ≡ 4 → ((step d l b).answer.length ≡ 0 → ⊥) → Understood d l (read_line l) (step d l b)
  unfolding silent
  reply_reads_back four h =
      each_answer Reading d l b (λ z h. absurd (h refl)) (λ a k end m p is w g. misspelt_reads a k end m p is g) refused_reads
      (accepted_reads four)
      h
      (good_goes_on d l b (replies_good d l b h))

-- From a fresh record on, whatever lines and motor reports came before: no condition is left.
pub fresh_reads_back : (address : Number) (count : ℕ) (id : Number) (es : List Event) (l b : List ℕ)
    → let d = reached (ask_fresh address count id).next es in
    ((step d l b).answer.length ≡ 0 → ⊥) → Understood d l (read_line l) (step d l b)
fresh_reads_back address count id es l b h =
    reply_reads_back (reached (ask_fresh address count id).next es) l b (good_for_ever address count id es).places h

-- how many bytes of data a message says
abbrev size_in : Said → ℕ
size_in (Reply ok state words) = words.length
size_in (Alert state) = 0
size_in (Info words) = words.length

abbrev size : Option Message → ℕ
size (Some m) = size_in m.said
size None = 0

-- Replies with different data differ: a reply is heard with one data alone.
pub one_data : {s t : Stepped} {k j : ℕ} {ok fine : Bool} {words other : List ℕ} {is us js vs : List (List ℕ)}
    → Heard s k ok words is us → Heard t j fine other js vs
    → reply_of s.answer.next k ok words ≡ reply_of t.answer.next j fine other → words ≡ other
one_data {s} {t} {j = j} {fine = fine} {words = words} {other = other} x y e =
    let m : length words ≡ length other = ap size (sym x.message ∙ ap read_message e ∙ y.message) in
    sym x.data_is
    ∙ ap (λ (z : List ℕ). field z 17 (length words)) e
    ∙ ap (λ (i : ℕ). field (reply_of t.answer.next j fine other) 17 i) m
    ∙ y.data_is
