-- What bench prints always has room in its buffer of 96 times 4,096 bytes: a part prints 96 bytes at most for each of its own.
-- So nothing that it prints is ever cut. Assumes nothing.
use mathlib.Core.Path.{◌≡◌, refl}
use mathlib.Core.Logic.{◌⊎◌, inl}
use mathlib.Core.Bool.{Bool, true, false, cond, not, ◌&&◌}
use mathlib.Core.List.{List, [], ◌∷◌}
use Prim.Native.Nat.{ℕ, suc, ◌+◌, ◌*◌, ◌≤◌, ◌<◌}
use native.Mathlib.Omega.{arith}
use lib.Dec.{eqb}
use lib.ListN.{length, take, replicate, length-append, length-take}
use borrow.Author.Tests.{eqb-true}
use Rattle.laws.specs.Text.{LF, text}
use Rattle.laws.proofs.Each.{Each, none, more}
use Rattle.words.specs.Cutting.{grow}
use Rattle.command.specs.declared.Command.{Command}
use Rattle.command.specs.Commands.{informs}
use Rattle.line.specs.Reading.{LineRead, read_line, place_read, sent}
use Rattle.line.proofs.Refused.{line_placed}
use Rattle.line.proofs.WentWrong.{place_short}
use Rattle.device.specs.declared.Device.{Device}
use Rattle.device.specs.Good.{good}
use Rattle.reply.specs.Help.{longest_answer}
use Rattle.reply.specs.Reply.{longest_reply}
use Rattle.reply.specs.Data.{refusal_name}
use Rattle.carriage.specs.Step.{Stepped, silent, written, rejected, accepted, not_mine, room_for, step, refused_at, words_room}
use Rattle.carriage.specs.Report.{report}
use Rattle.carriage.proofs.AnswerRoom.{command_room_lem, least_room, most_room}
use Rattle.carriage.proofs.Demands.{every_answer}
use Rattle.carriage.proofs.Room.{answer_within, silence_small, report_small, report_within}
use Rattle.carriage.proofs.SilentNumbers.{reply_some}
use Rattle.std.specs.Prelude.{Option, None, Some, Ok, Err}
use Rattle.input.specs.declared.reports.MotorReport.{MotorReport}
use Rattle.input.specs.ReportLines.{read_report}
use Rattle.input.specs.Parts.{parts}
use Rattle.input.specs.Prints.{is_report, told, reported, answered}
use Rattle.input.proofs.Prints.{told_short, caret_short}
use Rattle.session.proofs.HelpLines.{help_long}
use Rattle.session.specs.Bench.{report_turn, line_turn, turn, shown, turns, bench_device, bench}
use Rattle.phrase.specs.Reading.{worded, WordsRead}
use Rattle.laws.specs.Refusals.{number_of}

-- ---- a report: its number, and its alert
report_short : (d : Device) (r : Option MotorReport) → length (report_turn d r).prints ≤ 28
unfolding report_turn reported text silent
report_short d None = rw length-append (omega (arith, told_short (text "report ") 22 (omega arith) (omega arith)))
report_short d (Some r) =
    let s = report d r.axis r.kind r.last (replicate 96 0) in
    let small = report_small d r.axis r.kind r.last (replicate 96 0) in
    let name = told_short (text "report ") (number_of s.answer.verdict) (omega arith) (omega (arith, small)) in
    rw (length-append, length-take) (omega (arith, name, report_within d r.axis r.kind r.last (replicate 96 0)))

-- ---- a line
silent_small : (d : Device) (l b : List ℕ) → (step d l b).answer.length ≡ 0 → number_of (step d l b).answer.verdict < 100
unfolding silent rejected accepted written
silent_small d l b =
    every_answer (λ s. s.answer.length ≡ 0 → number_of s.answer.verdict < 100) d l b (λ h. omega (arith, silence_small d l b))
    (λ n k g h. absurd (reply_some d k false (refusal_name n) h))
    (λ k c es g e w h. omega arith)

line_within : (d : Device) (p : List ℕ) → length (line_turn d p).prints ≤ room_for (read_line p)
unfolding line_turn answered text
line_within d p = go (eqb s.answer.length 0) refl
  where
    s : Stepped
    s = step d p (replicate longest_answer 0)

    go : (t : Bool) → eqb s.answer.length 0 ≡ t
        → length (cond t (told (text "silent ") (number_of s.answer.verdict)) (take s.answer.length s.buffer)) ≤ room_for (read_line p)
    go true e =
        let small = silent_small d p (replicate longest_answer 0) (eqb-true s.answer.length 0 e) in
        omega (arith, told_short (text "silent ") (number_of s.answer.verdict) (omega arith) small, least_room (read_line p))
    go false e = rw length-take (omega (arith, answer_within d p (replicate longest_answer 0)))

-- the room that is asked for a line is 96 bytes for each of its own: one that is answered with info lines is long enough
room_long : (p : List ℕ) → 1 ≤ length p → room_for (read_line p) ≤ 96 * length p
room_long p some = go (read_line p) refl
  where
    by : (a k end from : ℕ) (c : Command) → read_line p ≡ Ok (sent a k end (Ok (worded c from))) → (t : Bool) → informs c ≡ t
        → cond t longest_answer longest_reply ≤ 96 * length p
    by a k end from c is true e = omega (arith, help_long p a k end from c is e)
    by a k end from c is false e = omega arith

    go : (r : LineRead) → read_line p ≡ r → room_for r ≤ 96 * length p
    go (Err e) is = omega arith
    go (Ok x) is = words x.words is
      where
        words : (w : WordsRead) → read_line p ≡ Ok (sent x.address x.axis x.end w) → words_room w ≤ 96 * length p
        words (Err e) is = omega arith
        words (Ok y) is = rw (command_room_lem y.command) (by x.address x.axis x.end y.from y.command is (informs y.command) refl)

-- ---- a part
turn_within : (P : ℕ → Type 0) (d : Device) (p : List ℕ) → ((n : ℕ) → n ≤ 28 → P n) → P (length (line_turn d p).prints)
    → P (length (turn d p).prints)
unfolding turn
turn_within P d p report line = go (is_report p)
  where
    go : (t : Bool) → P (length (cond t (report_turn d (read_report p)) (line_turn d p)).prints)
    go true = report _ (report_short d (read_report p))
    go false = line

turn_short : (d : Device) (p : List ℕ) → 1 ≤ length p → length (turn d p).prints ≤ 96 * length p
turn_short d p some =
    turn_within (λ n. n ≤ 96 * length p) d p (λ n h. omega arith) (omega (arith, line_within d p, room_long p some))

turn_most : (d : Device) (p : List ℕ) → length (turn d p).prints ≤ longest_answer
turn_most d p = turn_within (λ n. n ≤ longest_answer) d p (λ n h. omega arith) (omega (arith, line_within d p, most_room (read_line p)))

-- the place of a line is told for this device, or none is
place_for : (d : Device) (l : List ℕ) → (refused_at d l ≡ 255) ⊎ (refused_at d l < 80)
unfolding refused_at
place_for d l = go (good d && not (not_mine d (read_line l))) (rw (← line_placed l) at (place_short l))
  where
    go : (t : Bool) → (place_read (read_line l) ≡ 255) ⊎ (place_read (read_line l) < 80)
        → (cond t (place_read (read_line l)) 255 ≡ 255) ⊎ (cond t (place_read (read_line l)) 255 < 80)
    go true h = h
    go false h = inl refl

-- what a person is shown of one part has room in console's buffer of 1,233 bytes
pub shown_short : (d : Device) (p : List ℕ) → length (shown d p).prints ≤ 81 + longest_answer
unfolding shown
shown_short d p = rw length-append (omega (arith, caret_short (refused_at d p) (place_for d p), turn_most d p))

-- ---- the parts, one behind the other
abbrev bytes : List (List ℕ) → ℕ
bytes [] = 0
bytes (p ∷ ps) = length p + bytes ps

turns_short : (d : Device) (ps : List (List ℕ)) → Each (λ (p : List ℕ). 1 ≤ length p) ps → length (turns d ps) ≤ 96 * bytes ps
unfolding turns
turns_short d [] none = omega arith
turns_short d (p ∷ ps) (more h hs) = rw length-append (omega (arith, turn_short d p h, turns_short (turn d p).next ps hs))

-- every part has a byte at least, and together they are the input
record Parted (ps : List (List ℕ)) (n : ℕ) : Type 0 where
  some : Each (λ (p : List ℕ). 1 ≤ length p) ps
  long : bytes ps ≡ n

grown : (c : ℕ) (ps : List (List ℕ)) {n : ℕ} → Parted ps n → Parted (grow c ps) (suc n)
unfolding grow
grown c [] h = record { some = more {x = c ∷ []} (omega arith) none; long = omega (arith, h.long) }
grown c (p ∷ ps) h = record { some = longer h.some; long = omega (arith, h.long) }
  where
    longer : Each (λ (p : List ℕ). 1 ≤ length p) (p ∷ ps) → Each (λ (p : List ℕ). 1 ≤ length p) ((c ∷ p) ∷ ps)
    longer (more k ks) = more {x = c ∷ p} (omega arith) ks

all_parted : (s : List ℕ) → Parted (parts s) (length s)
unfolding parts
all_parted [] = record { some = none; long = refl }
all_parted (c ∷ s) = go (eqb c LF) (all_parted s)
  where
    go : (t : Bool) → Parted (parts s) (length s) → Parted (cond t ((c ∷ []) ∷ parts s) (grow c (parts s))) (suc (length s))
    go true h = record { some = more {x = c ∷ []} (omega arith) h.some; long = omega (arith, h.long) }
    go false h = grown c (parts s) h

pub bench_fits : (input : List ℕ) → length (bench input) ≤ 393216
unfolding bench
bench_fits input =
    let h = all_parted (take 4096 input) in
    omega (arith, turns_short bench_device (parts (take 4096 input)) h.some, h.long, length-take 4096 input)
