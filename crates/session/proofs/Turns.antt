-- What a turn prints and leaves, as the code makes it; and the loop over the parts.
-- Assumes nothing.
use mathlib.Core.Path.{◌≡◌, refl, sym, ◌∙◌}
use mathlib.Core.Bool.{Bool, true, false}
use mathlib.Core.List.{List, [], ◌∷◌, ◌++◌, append-nil, append_assoc}
use Prim.Native.Nat.{ℕ, min}
use native.Mathlib.Omega.{arith}
use lib.ListN.{length, take, replicate}
use Rattle.laws.proofs.Answers.{one_answer}
use Rattle.buffer.specs.Wrote.{Wrote}
use Rattle.buffer.proofs.Wrote.{◌▸◌, wrote_none, wrote_one}
use Rattle.device.specs.declared.Device.{Device}
use Rattle.reply.specs.Help.{longest_answer}
use Rattle.carriage.specs.declared.Answer.{Answer}
use Rattle.carriage.specs.Step.{Gives, step, refused_at}
use Rattle.std.specs.Prelude.{Option}
use Rattle.input.specs.declared.parts.Turned.{Turned}
use Rattle.input.specs.declared.reports.MotorReport.{MotorReport}
use Rattle.input.specs.ReportLines.{read_report}
use Rattle.input.specs.Parts.{parts}
use Rattle.input.specs.Prints.{is_report, reported, answered, caret}
use Rattle.input.proofs.Prints.{first_bytes}
use Rattle.session.specs.Bench.{Turn, Took, report_answer, line_turn, report_turn, turn, shown, turns, bench_device, bench}
use Rattle.laws.specs.Refusals.{number_of}

-- ---- a line, a report
module _ (d : Device) (p : List ℕ) {b o : List ℕ} {at r : ℕ} where
  pub took_line : {a : Answer} {c : List ℕ} → Gives (step d p (replicate longest_answer 0)) a c
      → Wrote b at (answered (number_of a.verdict) a.length c) o r
      → Took (line_turn d p) b at (record { place = r; next = a.next }) o
  unfolding line_turn
  took_line g w = rw (← g.result, ← g.left) (record { prints = w; next = refl })

  pub took_report : {q : Option MotorReport} {a : Answer} {c : List ℕ} → q ≡ read_report p → Gives (report_answer d q (replicate 96 0)) a c
      → Wrote b at (reported (number_of a.verdict) a.length c) o r
      → Took (report_turn d (read_report p)) b at (record { place = r; next = a.next }) o
  unfolding report_turn
  took_report q g w = rw (← q, ← g.result, ← g.left) (record { prints = w; next = refl })

-- the promise of a turn leaves no choice
pub took_one : {t : Turn} {b : List ℕ} {at : ℕ} {r q : Turned Device} {c o : List ℕ} → Took t b at r c → Took t b at q o → (r ≡ q) × (c ≡ o)
took_one x y =
    let printed = wrote_one x.prints y.prints in
    let next = one_answer x.next y.next in
    ((λ i. record { place = printed.1 i; next = next i }), printed.0)

-- ---- a part
module _ (d : Device) (p : List ℕ) {b o : List ℕ} {at : ℕ} {r : Turned Device} {t : Bool} (said : t ≡ is_report p) where
  pub turn_report : t ≡ true → Took (report_turn d (read_report p)) b at r o → Took (turn d p) b at r o
  unfolding turn
  turn_report h k = rw (sym said ∙ h) k

  pub turn_line : t ≡ false → Took (line_turn d p) b at r o → Took (turn d p) b at r o
  unfolding turn
  turn_line h k = rw (sym said ∙ h) k

-- what a part shows: its caret, and behind that what bench prints
pub took_shown : (d : Device) (p : List ℕ) {b o c : List ℕ} {at r q : ℕ} {t : Turned Device} → r ≡ refused_at d p → Wrote b at (caret r) o q
    → Took (turn d p) o q t c
    → Took (shown d p) b at t c
unfolding shown
took_shown d p e v k = record { prints = rw (← e) (v ▸ k.prints); next = k.next }

-- ---- the loop over the parts: what it has printed, with what the parts of the rest print, is the whole
pub record Running (first : Device) (s b : List ℕ) (d : Device) (o : List ℕ) (place : ℕ) (rest : List ℕ) : Type 0 where
  pub printed : List ℕ
  pub wrote : Wrote b 0 printed o place
  pub whole : printed ++ turns d (parts rest) ≡ turns first (parts s)

pub running_first : (first : Device) (s b : List ℕ) → Running first s b first b 0 s
running_first first s b = record { printed = []; wrote = wrote_none b 0; whole = refl }

module _ {first : Device} {s b : List ℕ} {d : Device} {o : List ℕ} {place : ℕ} {rest : List ℕ} (h : Running first s b d o place rest) where
  pub running_more : {p left : List ℕ} {r : Turned Device} {c : List ℕ} → parts rest ≡ p ∷ parts left → Took (turn d p) o place r c
      → Running first s b r.next c r.place left
  unfolding turns
  running_more {p} {left} {r} {c} e t =
      record {
        printed = h.printed ++ (turn d p).prints;
        wrote = h.wrote ▸ t.prints;
        whole = rw (t.next, append_assoc) (rw e at h.whole);
      }

  pub running_end : length rest ≡ 0 → Wrote b 0 (turns first (parts s)) o place
  unfolding turns parts
  running_end l = go rest l h.whole
    where
      go : (r : List ℕ) → length r ≡ 0 → h.printed ++ turns d (parts r) ≡ turns first (parts s) → Wrote b 0 (turns first (parts s)) o place
      go [] l e = rw (← e, append-nil) h.wrote
      go (c ∷ r) l e = absurd (omega arith)

-- ---- the whole run
pub ran : (s b : List ℕ) {n : ℕ} {d : Device} {c : List ℕ} {r : ℕ} → n ≡ min 4096 (length s) → d ≡ bench_device
    → Wrote b 0 (turns d (parts (take n s))) c r → Wrote b 0 (bench s) c r
unfolding bench
ran s b {n} e q w = rw (← first_bytes n 4096 s e, ← q) w
