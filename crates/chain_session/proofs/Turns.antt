-- What a turn of a chain prints and leaves, as the code makes it.
-- Assumes nothing.
use Rattle.laws.specs.declared.Refusal.TheVariants.{BadReport}
use mathlib.Core.Path.{◌≡◌, refl, sym, ap, ◌∙◌}
use mathlib.Core.Bool.{Bool, true, false, cond}
use mathlib.Core.List.{List, [], ◌++◌, append_assoc}
use Prim.Native.Nat.{ℕ, ◌-◌, ◌*◌, ◌<◌, ◌≤◌, min}
use native.Mathlib.Omega.{arith}
use lib.Dec.{eqb, leb}
use lib.ListN.{length, take, get_or, set, replicate}
use lib.Seq.{take_at, take_all}
use Rattle.laws.specs.Text.{text}
use borrow.Author.Tests.{le-leb, lt-leb}
use Rattle.laws.proofs.Answers.{one_answer}
use Rattle.laws.proofs.Bools.{and_false}
use Rattle.buffer.specs.Wrote.{Wrote}
use Rattle.buffer.proofs.Wrote.{wrote_one}
use Rattle.device.specs.declared.Device.{Device}
use Rattle.reply.specs.Help.{longest_answer}
use Rattle.carriage.specs.declared.Answer.{Answer}
use Rattle.carriage.specs.Step.{Stepped, Gives}
use Rattle.carriage.specs.Report.{report}
use Rattle.chain.specs.Chain.{chain}
use Rattle.std.specs.Prelude.{Option, Err}
use Rattle.input.specs.declared.parts.Turned.{Turned}
use Rattle.input.specs.declared.reports.MotorReport.{MotorReport}
use Rattle.input.specs.declared.reports.PlacedReport.{PlacedReport}
use Rattle.input.specs.ReportLines.{read_placed}
use Rattle.input.specs.Prints.{is_report, told, reported, answered}
use Rattle.laws.specs.Refusals.{number_of}
use Rattle.chain_session.specs.declared.Cable.{Cable}
use Rattle.chain_session.specs.declared.Heard.{Heard}
use Rattle.chain_session.specs.Held.{records_of, Hears}
use Rattle.chain_session.specs.Cable.{record_at, missed, outcome_at, outcome, Reports, Turn, report_turn, line_turn, turn, Took}
use Rattle.chain_session.proofs.Held.{set_front, get_d_front, holding_same, records_count}

-- the first bytes of a buffer are the answers, whatever stands behind them
answers_first : (n : ℕ) (j x y : List ℕ) → answered n (length j) ((j ++ x) ++ y) ≡ answered n (length j) j
unfolding answered
answers_first n j x y =
    ap (λ (z : List ℕ). cond (eqb (length j) 0) (told (text "silent ") n) z)
    (ap (take (length j)) (append_assoc j x y) ∙ take_at j (x ++ y) (length j) refl ∙ sym (take_all (length j) j (omega arith)))

-- ---- a line
module _ (c : Cable) (full : length c.devices ≡ 16) {n : ℕ} (is : n ≡ min c.count 16) (p : List ℕ) {b o : List ℕ} {at r : ℕ} where
  pub took_line : {k : ℕ} → k ≡ longest_answer * n → (rest : List ℕ) {h : Heard} {zs buf : List ℕ}
      → Hears (chain (records_of c) p k) c zs buf h
      → Wrote b at (answered (number_of h.told.verdict) h.told.length (buf ++ rest)) o r → Took (line_turn (records_of c) p) c b at
      (record { place = r; next = h.next }) o
  unfolding line_turn
  took_line {k} e rest g w =
      let room : longest_answer * length (records_of c) ≡ k = ap (λ (m : ℕ). longest_answer * m) (records_count c full is) ∙ sym e in
      rw room (record { prints = rw (g.told, g.left, answers_first) at w; next = g.next })

-- ---- a report
abbrev none_heard : Cable → Heard
none_heard c = record { told = record { verdict = Err BadReport; length = 0 }; next = c }

pub reports_none : (c : Cable) (b : List ℕ) → Reports (missed (records_of c)) c (none_heard c) b
reports_none c b = record { verdict = refl; alert = refl; next = holding_same c }

module _ (c : Cable) (p : ℕ) (m : MotorReport) (b : List ℕ) where
  pub no_place : p ≡ 0 → Reports (outcome_at (records_of c) p m b) c (none_heard c) b
  unfolding outcome_at
  no_place z = rw z (reports_none c b)

  module _ (full : length c.devices ≡ 16) {n : ℕ} (is : n ≡ min c.count 16) where
    pub beyond : n < p → Reports (outcome_at (records_of c) p m b) c (none_heard c) b
    unfolding outcome_at
    beyond h =
        let e = lt-leb p (length (records_of c)) (omega (arith, h, records_count c full is)) in
        rw (e, and_false (leb 1 p)) (reports_none c b)

    pub reported_at : (p ≡ 0 → ⊥) → p ≤ n → (d : Device) {a : Answer} {b' : List ℕ}
        → Gives (report (get_or c.devices (p - 1) d) m.axis m.kind m.last b) a b'
        → (let next : Cable = record { devices = set c.devices (p - 1) a.next; count = c.count } in
        Reports (outcome_at (records_of c) p m b) c (record { told = record { verdict = a.verdict; length = a.length }; next = next }) b')
    unfolding outcome_at
    reported_at z h d {a} {b'} g =
        let few : p - 1 < c.count = omega (arith, z, h, is) in
        let within : p - 1 < length c.devices = omega (arith, z, h, is, full) in
        let same : report (get_or c.devices (p - 1) d) m.axis m.kind m.last b ≡ report (record_at (records_of c) (p - 1)) m.axis m.kind m.last b =
        ap (λ (x : Device). report x m.axis m.kind m.last b) (get_d_front c.devices c.count (p - 1) d (record_at [] 0) few within) in
        let answer = g.result ∙ ap (λ (s : Stepped). s.answer) same in
        let left = g.left ∙ ap (λ (s : Stepped). s.buffer) same in
        rw (le-leb 1 p (omega (arith, z)), le-leb p (length (records_of c)) (omega (arith, h, records_count c full is)), ← answer, ← left)
        (record {
          verdict = refl;
          alert = refl;
          next = ap (λ (ds : List Device). record { devices = ds; count = c.count })
              (set_front c.devices c.count (p - 1) a.next few within);
        })

-- the first bytes of a buffer are the alert
alert_first : (n k : ℕ) (b : List ℕ) {t : List ℕ} → take k b ≡ t → reported n k b ≡ reported n (length t) t
unfolding reported
alert_first n k b {t} e =
    ap (λ (x : List ℕ). told (text "report ") n ++ x) (e ∙ sym (take_all (length t) t (omega arith)))

module _ (c : Cable) (p : List ℕ) {b o : List ℕ} {at r : ℕ} where
  pub took_report : {q : Option PlacedReport} {x : Heard} {a : List ℕ} → q ≡ read_placed p
      → Reports (outcome (records_of c) q (replicate 96 0)) c x a → Wrote b at (reported (number_of x.told.verdict) x.told.length a) o r
      → Took (report_turn (records_of c) (read_placed p)) c b at (record { place = r; next = x.next }) o
  unfolding report_turn
  took_report {a = a} q e w =
      rw (← q) (record { prints = rw (alert_first _ _ a e.alert, e.verdict) at w; next = e.next })

-- ---- a part
module _ (c : Cable) (p : List ℕ) {b o : List ℕ} {at : ℕ} {r : Turned Cable} {t : Bool} (said : t ≡ is_report p) where
  pub turn_report : t ≡ true → Took (report_turn (records_of c) (read_placed p)) c b at r o → Took (turn (records_of c) p) c b at r o
  unfolding turn
  turn_report h k = rw (sym said ∙ h) k

  pub turn_line : t ≡ false → Took (line_turn (records_of c) p) c b at r o → Took (turn (records_of c) p) c b at r o
  unfolding turn
  turn_line h k = rw (sym said ∙ h) k

-- the promise of a turn leaves no choice
pub took_one : {t : Turn} {c : Cable} {b : List ℕ} {at : ℕ} {q r : Turned Cable} {x y : List ℕ} → Took t c b at q x → Took t c b at r y
    → (q ≡ r) × (x ≡ y)
took_one g h =
    let printed = wrote_one g.prints h.prints in
    let next = one_answer g.next h.next in
    ((λ i. record { place = printed.1 i; next = next i }), printed.0)
