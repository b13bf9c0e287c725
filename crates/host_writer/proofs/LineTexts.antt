-- A whole line: its content piece by piece, its end behind it, and the answers of `write_command`.
-- Assumes nothing.
use Rattle.std.specs.Prelude.{Ok, Err, Result}
use Rattle.laws.specs.declared.Refusal.TheVariants.{NoRoom, TooLong, BadData}
use Rattle.laws.specs.declared.Refusal.{Refusal}
use mathlib.Core.Path.{◌≡◌, refl, sym, ap, ◌∙◌}
use mathlib.Core.Logic.{⊎_elim}
use mathlib.Core.Bool.{Bool, true, false}
use mathlib.Core.List.{List, [], ◌∷◌, ◌++◌, append-nil, append_assoc}
use Prim.Native.Nat.{ℕ, ◌+◌, ◌-◌, ◌≤◌, ◌<◌}
use native.Mathlib.Nat.{zero-add}
use native.Mathlib.Omega.{arith}
use lib.ListN.{length, take, drop, length-append, length-take, drop_of_length-le}
use lib.Seq.{take-append-le}
use borrow.Author.Tests.{lt-ltb, le-ltb}
use Rattle.laws.specs.Text.{space, text, spaced}
use Rattle.laws.specs.Refusals.{first_of}
use Rattle.laws.proofs.Answers.{one_answer}
use Rattle.laws.proofs.Order.{lt_or_le}
use Rattle.laws.proofs.Spaced.{trail, spaced_trail}
use Rattle.numbers.specs.Decimal.{digits, two_digits}
use Rattle.words.specs.Cutting.{cut}
use Rattle.command.specs.declared.Command.{Command}
use Rattle.command.specs.Commands.{command_words}
use Rattle.buffer.specs.Wrote.{Wrote}
use Rattle.buffer.proofs.Wrote.{◌▸◌, wrote_room, wrote_read}
use Rattle.host_writer.specs.Writing.{line_words, front_text, line_end, line_text, unspellable, writer_refusal, Outcome, outcome, write_line}

-- what is left of a write where the buffer is full before its end
full : {b : List ℕ} (p q t : List ℕ) {c : List ℕ} {r : ℕ} → length b ≤ length p → Wrote b 0 (p ++ q) c r → Wrote b 0 (p ++ t) c r
full {b} p q t h w =
    let same : take (length b - 0) (p ++ q) ≡ take (length b - 0) (p ++ t) = take-append-le (length b - 0) p q (omega arith)
    ∙ sym (take-append-le (length b - 0) p t (omega arith)) in
    let past : (u : List ℕ) → length b ≤ 0 + length (p ++ u) = λ u. rw length-append (omega arith) in
    record {
      bytes = w.bytes ∙ rw (same, drop_of_length-le b (past q), drop_of_length-le b (past t));
      place = w.place ∙ rw same;
    }

pub front_is : (address axis : ℕ) → text "/" ++ two_digits address ++ (space ∷ []) ++ digits axis ≡ front_text address axis
unfolding front_text spaced
front_is address axis = simp append_assoc

module _ (address axis : ℕ) (c : Command) (message : List ℕ) where
  abbrev content : List ℕ
  content = spaced (line_words address axis c message)

  pub content_is : front_text address axis ++ trail (command_words c (cut message)) ≡ text "/" ++ content
  unfolding front_text line_words trail
  content_is = rw (spaced_trail, spaced_trail) (simp (append_assoc, append-nil))

  behind_slash : drop 1 (text "/" ++ content) ≡ content
  unfolding text
  behind_slash = refl

  module _ (sum : Bool) where
    -- the end is written behind the content, and sums it
    pub line_done : {b d e : List ℕ} {at r : ℕ} → Wrote b 0 (text "/" ++ content) d at → Wrote d at (line_end sum (drop 1 (take at d))) e r
        → Wrote b 0 (line_text address axis c message sum) e r
    unfolding line_text
    line_done {b} {d} {e} {at} v w =
        ⊎_elim (λ (h : length b < length (text "/" ++ content)). full (text "/" ++ content) (line_end sum (drop 1 (take at d)))
        (line_end sum content) (omega arith) (v ▸ w))
        (λ h. v ▸ (rw (wrote_read v h, behind_slash) at w))
        (lt_or_le (length b) (length (text "/" ++ content)))

    abbrev t : List ℕ
    t = line_text address axis c message sum

    module _ (b : List ℕ) where
      pub no_room : length b < 80 → outcome (Err NoRoom) b ≡ write_line address axis c message sum b
      unfolding write_line writer_refusal first_of
      no_room h = rw (lt-ltb (length b) 80 h)

      module _ (room : 80 ≤ length b) where
        pub bad_data_lem : unspellable address axis c message ≡ true
            → outcome (Err BadData) b ≡ write_line address axis c message sum b
        unfolding write_line writer_refusal first_of
        bad_data_lem h = rw (le-ltb (length b) 80 room, h)

        module _ (good : unspellable address axis c message ≡ false) {z x : List ℕ} {end : ℕ} (w : Wrote z 0 t x end)
            (own : length z ≡ 81) where
          place : end ≡ length (take 81 t)
          place = w.place ∙ rw (zero-add, own)

          pub too_long : 80 < end → outcome (Err TooLong) b ≡ write_line address axis c message sum b
          unfolding write_line writer_refusal first_of
          too_long h = rw (le-ltb (length b) 80 room, good, lt-ltb 80 (length t) (omega (arith, place, length-take 81 t)))

          pub accepted : end ≤ 80 → {d : List ℕ} {r : ℕ} → Wrote b 0 (take end x) d r
              → outcome (Ok r) d ≡ write_line address axis c message sum b
          unfolding write_line writer_refusal first_of
          accepted h {d} {r} v =
              let short : length t ≤ 80 = omega (arith, place, length-take 81 t) in
              let line : take end x ≡ t = wrote_read w (omega arith) in
              let put : Wrote b 0 t d r = rw line at v in
              let k = wrote_room put (omega arith) in
              rw (le-ltb (length b) 80 room, good, le-ltb 80 (length t) short, k.0, k.1, zero-add)

-- the promise of the writer leaves no choice
pub outcome_one : {x : Outcome} {r q : Result ℕ Refusal} {b c : List ℕ} → outcome r b ≡ x → outcome q c ≡ x → (r ≡ q) × (b ≡ c)
outcome_one p q = let same = one_answer p q in (ap (λ (o : Outcome). o.answer) same, ap (λ (o : Outcome). o.buffer) same)
