-- A part prints at most 96 bytes for the reply and for each info line of each record of the chain, and leaves as many records as there
-- were: nothing that `cable` prints from its buffer of 4,608 bytes is ever cut. Assumes nothing.
use mathlib.Core.Path.{◌≡◌, refl}
use mathlib.Core.Bool.{Bool, true, false, cond, ◌&&◌}
use mathlib.Core.List.{List, [], ◌∷◌}
use Prim.Native.Nat.{ℕ, ◌-◌, ◌*◌, ◌≤◌}
use native.Mathlib.Omega.{arith}
use lib.Dec.{eqb, leb}
use lib.ListN.{length, take, replicate, length-append, length-take, length-set, length-map}
use Rattle.laws.specs.Text.{text}
use Rattle.laws.specs.Lists.{fold, all}
use Rattle.laws.specs.Refusals.{number_of}
use Rattle.laws.proofs.Each.{none, more}
use Rattle.laws.proofs.Refusals.{of_rows}
use Rattle.units.specs.Units.{place}
use Rattle.line.specs.Reading.{LineRead, read_line}
use Rattle.device.specs.declared.Device.{Device}
use Rattle.device.specs.Good.{good}
use Rattle.reply.specs.Help.{longest_answer}
use Rattle.reply.specs.Reply.{joined}
use Rattle.carriage.proofs.AnswerRoom.{most_room}
use Rattle.carriage.proofs.Room.{unread_at_most_11, report_small, report_within}
use Rattle.chain.specs.Chain.{Chained, next_of, verdict_of, refusal, refusal_of, refused, responds, refuses, chain}
use Rattle.chain.proofs.Alone.{text_short}
use Rattle.chain.proofs.Chains.{texts}
use Rattle.std.specs.Prelude.{Option, None, Some, is_ok}
use Rattle.input.specs.declared.reports.PlacedReport.{PlacedReport}
use Rattle.input.specs.ReportLines.{read_placed}
use Rattle.input.specs.Prints.{is_report, told, reported, answered}
use Rattle.input.proofs.Prints.{told_short}
use Rattle.chain_session.specs.Cable.{Outcome, record_at, takes, missed, outcome_at, outcome, report_turn, line_turn, turn}

-- ---- a report
record Reported (xs : List Device) (o : Outcome) : Type 0 where
  small : number_of o.verdict ≤ 22
  short : length o.alert ≤ 18
  many : length o.next ≡ length xs

none_reported : (xs : List Device) → Reported xs (missed xs)
none_reported xs = record { small = omega arith; short = omega arith; many = refl }

all_reported : (xs : List Device) (r : Option PlacedReport) (b : List ℕ) → Reported xs (outcome xs r b)
unfolding outcome_at
all_reported xs None b = none_reported xs
all_reported xs (Some r) b = go (leb 1 n && leb n (length xs))
  where
    n : ℕ
    n = place r.place.0

    go : (t : Bool) → Reported xs (cond t (takes xs (n - 1) r.report b) (missed xs))
    go true = record {
      small = report_small (record_at xs (n - 1)) r.report.axis r.report.kind r.report.last b;
      short = rw length-take (omega (arith, report_within (record_at xs (n - 1)) r.report.axis r.report.kind r.report.last b));
      many = length-set xs (n - 1) _;
    }
    go false = none_reported xs

-- ---- a line
texts_short : (l : List ℕ) (xs : List Device) → length (texts l xs) ≤ longest_answer * length xs
unfolding joined fold
texts_short l [] = omega arith
texts_short l (d ∷ ds) = rw length-append (omega (arith, text_short d l, most_room (read_line l), texts_short l ds))

verdict_small : (l : List ℕ) (xs : List Device) → number_of (verdict_of l xs) ≤ 11
unfolding verdict_of
verdict_small l xs = of_rows (λ v. number_of v ≤ 11) (omega arith) (more (unread_at_most_11 l) (more (omega arith) none))

refusal_small : (n room : ℕ) (g : Bool) → number_of (refusal n room g) ≤ 21
unfolding refusal
refusal_small n room g =
    of_rows (λ v. number_of v ≤ 21) (omega arith) (more (omega arith) (more (omega arith) (more (omega arith) (more (omega arith) none))))

refused_small : (n room : ℕ) (g : Bool) (r : LineRead) → number_of (refusal_of n room g r) ≤ 21
unfolding refusal_of
refused_small n room g r = of_rows (λ v. number_of v ≤ 21) (omega arith) (more (refusal_small n room g) (more (omega arith) none))

record Heard (xs : List Device) (s : Chained) : Type 0 where
  small : number_of s.verdict ≤ 21
  short : length (joined s.answers) ≤ longest_answer * length xs
  many : length s.devices ≡ length xs

heard : (xs : List Device) (l : List ℕ) (room : ℕ) → Heard xs (chain xs l room)
unfolding chain joined fold
heard xs l room = go (is_ok (refused xs l room))
  where
    go : (t : Bool) → Heard xs (cond t (responds l xs) (refuses (refused xs l room) xs))
    go true = record { small = omega (arith, verdict_small l xs); short = texts_short l xs; many = length-map xs (next_of l) }
    go false = record { small = refused_small (length xs) room (all good xs) (read_line l); short = omega arith; many = refl }

-- ---- a part
module _ (xs : List Device) where
  report_short : (r : Option PlacedReport) → length (report_turn xs r).prints ≤ 28
  unfolding report_turn reported text
  report_short r =
      let o = outcome xs r (replicate 96 0) in
      let h = all_reported xs r (replicate 96 0) in
      let name = told_short (text "report ") (number_of o.verdict) (omega arith) (omega (arith, h.small)) in
      rw (length-append, length-take) (omega (arith, name, h.short))

  line_short : (p : List ℕ) → 1 ≤ length xs → length (line_turn xs p).prints ≤ longest_answer * length xs
  unfolding line_turn answered text
  line_short p some = go (eqb (length j) 0)
    where
      s : Chained
      s = chain xs p (longest_answer * length xs)

      j : List ℕ
      j = joined s.answers

      h : Heard xs s
      h = heard xs p (longest_answer * length xs)

      go : (t : Bool) → length (cond t (told (text "silent ") (number_of s.verdict)) (take (length j) j)) ≤ longest_answer * length xs
      go true = omega (arith, told_short (text "silent ") (number_of s.verdict) (omega arith) (omega (arith, h.small)))
      go false = rw length-take (omega (arith, h.short))

  pub turn_short : (p : List ℕ) → 1 ≤ length xs → length (turn xs p).prints ≤ longest_answer * length xs
  unfolding turn
  turn_short p some = go (is_report p)
    where
      go : (t : Bool) → length (cond t (report_turn xs (read_placed p)) (line_turn xs p)).prints ≤ longest_answer * length xs
      go true = omega (arith, report_short (read_placed p))
      go false = line_short p some

  pub turn_many : (p : List ℕ) → length (turn xs p).next ≡ length xs
  unfolding turn report_turn line_turn
  turn_many p = go (is_report p)
    where
      go : (t : Bool) → length (cond t (report_turn xs (read_placed p)) (line_turn xs p)).next ≡ length xs
      go true = (all_reported xs (read_placed p) (replicate 96 0)).many
      go false = (heard xs p (longest_answer * length xs)).many
