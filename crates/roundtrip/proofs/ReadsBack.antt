-- Every command that the host's writer accepts is written as a spelling of that command, with a checksum and without.
-- So, by demand 3, the line reader reads it as that same command. Assumes nothing.
use Rattle.std.specs.Prelude.{Ok, Err, Result, is_err}
use Rattle.laws.specs.declared.Refusal.TheVariants.{NoRoom, TooLong, BadData}
use Rattle.laws.proofs.Refusals.{not_both}
use Rattle.laws.specs.declared.Refusal.{Refusal}
use mathlib.Core.Path.{◌≡◌, refl, sym, subst, ap}
use mathlib.Core.Bool.{true≢false, Bool, true, false, ◌||◌}
use mathlib.Core.List.{List, ◌++◌, append_assoc}
use mathlib.Core.Option.{some}
use Prim.Native.Nat.{ℕ, ◌≤◌, ◌<◌}
use native.Mathlib.Omega.{arith}
use lib.Dec.{eqb, ltb}
use lib.ListN.{length, take}
use lib.Seq.{take_at}
use borrow.Author.Tests.{ltb-false, eq-eqb, eqb-true}
use Rattle.laws.specs.Text.{text, spaced}
use Rattle.laws.specs.Refusals.{first_of, Verdict, ACCEPTED}
use Rattle.laws.proofs.Bools.{clash, or_left, or_right}
use Rattle.numbers.specs.Checksum.{checksum, sum_text}
use Rattle.numbers.proofs.Decimal.{pair_spelled}
use Rattle.command.specs.declared.Command.{Command}
use Rattle.line.specs.Spelling.{Checksum, Asked, Line}
use Rattle.line.specs.Reading.{read_asked}
use Rattle.line.proofs.Demand3.{demand_3}
use Rattle.line.proofs.Every.{line_spelled as composed}
use Rattle.host_writer.specs.Writing.{line_words, line_end, line_text, unfit, unspellable, writer_refusal, write_line, settled}
use Rattle.roundtrip.specs.Held.{Held}
use Rattle.roundtrip.proofs.WrittenWords.{carried, row, command_words_lem}

-- what was put in
abbrev pub asked : ℕ → ℕ → Command → List ℕ → Asked
asked address axis c message = record { address = address; axis = axis; command = c; echo = carried c message }

sum_byte : (s : List ℕ) → checksum s < 256
unfolding checksum
sum_byte s = omega arith

checked : (sum : Bool) (s : List ℕ) → Checksum s (sum_text sum s)
unfolding sum_text
checked true s = Checksum.sum (pair_spelled (checksum s) (sum_byte s))
checked false s = Checksum.none

-- ---- what the writer's four tests say of a command that it accepts
record Accepted (n k : ℕ) (c : Command) (message : List ℕ) (sum : Bool) (b : List ℕ) : Type 0 where
  room : 80 ≤ length b
  address : n ≤ 99
  axis : k ≤ 9
  fit : unfit c message ≡ false
  short : length (line_text n k c message sum) ≤ 80

module _ (address axis : ℕ) (c : Command) (message : List ℕ) (sum : Bool) (b : List ℕ) where
  accepted : writer_refusal address axis c message sum b ≡ ACCEPTED → Accepted address axis c message sum b
  unfolding writer_refusal first_of unspellable
  accepted e = one (ltb (length b) 80) refl
    where
      three : (t : Bool) → ltb 80 (length (line_text address axis c message sum)) ≡ t → ltb (length b) 80 ≡ false
          → unspellable address axis c message ≡ false → Accepted address axis c message sum b
      three true h p q = not_both TooLong (rw (p, q, h) at e)
      three false h p q =
          let u = or_left (ltb 99 address || ltb 9 axis) (unfit c message) q in
          record {
            room = ltb-false (length b) 80 p;
            address = ltb-false 99 address (or_left (ltb 99 address) (ltb 9 axis) u);
            axis = ltb-false 9 axis (or_right (ltb 99 address) (ltb 9 axis) u);
            fit = or_right (ltb 99 address || ltb 9 axis) (unfit c message) q;
            short = ltb-false 80 _ h;
          }

      two : (t : Bool) → unspellable address axis c message ≡ t → ltb (length b) 80 ≡ false → Accepted address axis c message sum b
      two true h p = not_both BadData (rw (p, h) at e)
      two false h p = three (ltb 80 (length (line_text address axis c message sum))) refl p h

      one : (t : Bool) → ltb (length b) 80 ≡ t → Accepted address axis c message sum b
      one true h = not_both NoRoom (rw h at e)
      one false h = two (unspellable address axis c message) refl h

  module _ (held : Held c) (ok : writer_refusal address axis c message sum b ≡ ACCEPTED) where
    abbrev s : List ℕ
    s = spaced (line_words address axis c message)

    pub line_spelled : Line (line_text address axis c message sum) (asked address axis c message)
    unfolding line_text line_end line_words text
    line_spelled =
        let a = accepted ok in
        let k = sum_text sum s in
        let same : text "/" ++ s ++ (k ++ text "\n") ≡ text "/" ++ s ++ k ++ text "\n" = sym (append_assoc (text "/" ++ s) k (text "\n")) in
        rw same
        (composed address axis a.address a.axis (row c message held a.fit) (command_words_lem c message held a.fit) (checked sum s)
        (subst (λ (l : List ℕ). length l ≤ 80) same a.short))

    -- the line reader reads the line as the command that was put in
    pub reads_back : read_asked (line_text address axis c message sum) ≡ some (asked address axis c message)
    reads_back = (demand_3 (line_text address axis c message sum) (asked address axis c message)).0 line_spelled

  -- so what the writer leaves in the buffer, where it refuses nothing, reads back
  pub buffer_reads_back : Held c → {n : ℕ} → (write_line address axis c message sum b).answer ≡ Ok n
      → read_asked (take n (write_line address axis c message sum b).buffer) ≡ some (asked address axis c message)
  unfolding write_line
  buffer_reads_back held {n} e = go (writer_refusal address axis c message sum b) refl e
    where
      long : Result ℕ Refusal → ℕ
      long (Ok k) = k
      long (Err k) = 0

      t : List ℕ
      t = line_text address axis c message sum

      go : (v : Verdict) → writer_refusal address axis c message sum b ≡ v → (settled v t b).answer ≡ Ok n
          → read_asked (take n (settled v t b).buffer) ≡ some (asked address axis c message)
      go (Ok u) h e = rw (← ap long e, take_at t _ _ refl) (reads_back held h)
      go (Err m) h e = absurd (true≢false (ap is_err e))
