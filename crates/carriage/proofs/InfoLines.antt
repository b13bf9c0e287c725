-- One info line, written into what stands of the buffer from a place on; and info lines behind a reply.
-- Assumes nothing.
use mathlib.Core.Path.{◌≡◌}
use mathlib.Core.Bool.{Bool, true, false, cond}
use mathlib.Core.List.{List, [], ◌++◌, append-nil}
use Prim.Native.Nat.{ℕ, ◌+◌, ◌-◌, ◌≤◌}
use native.Mathlib.Omega.{arith}
use lib.ListN.{length, take, drop, length-take, length-drop}
use Rattle.laws.specs.Text.{text}
use Rattle.buffer.specs.Wrote.{Wrote}
use Rattle.buffer.proofs.Wrote.{◌▸◌, wrote_inside, wrote_length, wrote_rest}
use Rattle.reply.specs.Help.{longest_answer, longest_infos, help_text}
use Rattle.reply.specs.Reply.{longest_reply, ending, info_body, info}
use Rattle.reply.proofs.HelpTexts.{text_fits}
use Rattle.reply.proofs.Room.{info_length, info_wrote}

-- the place behind it is no more than 96 bytes on
pub line_within : (address : ℕ) (sum : Bool) (i : ℕ) {b : List ℕ} {at : ℕ} {c : List ℕ} {r : ℕ}
    → Wrote b at (info address 0 sum (help_text i)) c r → r ≤ at + 96
line_within address sum i {b} {at} w =
    omega (
      arith,
      w.place,
      length-take (length b - at) (info address 0 sum (help_text i)),
      info_length address 0 (omega arith) sum (help_text i) (text_fits sum i),
    )

module _ (address : ℕ) (sum : Bool) (i : ℕ) (b : List ℕ) (at : ℕ) (room : at + 96 ≤ length b) {c e : List ℕ} {p q : ℕ}
    (v : Wrote (take (length b - at) (drop at b)) 0 (text "#" ++ info_body address 0 (help_text i)) c p)
    (w : Wrote c p (ending sum (drop 1 (take p c))) e q) where
  lent : length (take (length b - at) (drop at b)) ≡ length b - at
  lent = rw (length-take, length-drop) (omega arith)

  whole : Wrote (take (length b - at) (drop at b)) 0 (info address 0 sum (help_text i)) e q
  whole = info_wrote address 0 (omega arith) sum (help_text i) (text_fits sum i) (omega (arith, lent)) v w

  pub line_inside : at + q ≤ length b
  line_inside = omega (arith, wrote_inside whole, wrote_length whole, lent)

  pub line_wrote : Wrote b at (info address 0 sum (help_text i)) (take at b ++ (e ++ drop (length b - at) (drop at b))) (at + q)
  line_wrote = wrote_rest whole

-- ---- a reply s, and the lines t behind it where there are any: y is what the test says
module _ (s : List ℕ) {b c : List ℕ} {r : ℕ} (v : Wrote b 0 s c r) where
  pub lines_room : length s ≤ 96 → longest_answer ≤ length b → r + longest_infos ≤ length c
  lines_room short room = omega (arith, wrote_length v, v.place, length-take (length b - 0) s)

  pub lines_behind : (t : List ℕ) {y : Bool} {d : List ℕ} {q : ℕ} → y ≡ true → Wrote c r t d q → Wrote b 0 (s ++ cond y t []) d q
  lines_behind t e w = rw e (v ▸ w)

  pub no_lines : (t : List ℕ) {y : Bool} → y ≡ false → Wrote b 0 (s ++ cond y t []) c r
  no_lines t e = rw (e, append-nil s) v

pub reply_room : (y : Bool) {n : ℕ} → cond y longest_answer longest_reply ≤ n → 96 ≤ n
reply_room true h = omega arith
reply_room false h = h

pub all_room : {y : Bool} {n : ℕ} → y ≡ true → cond y longest_answer longest_reply ≤ n → longest_answer ≤ n
all_room e h = rw e at h
