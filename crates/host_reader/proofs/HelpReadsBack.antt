-- Each info line of `help commands` is read by the host as the info line of that text, with a checksum and without.
-- Assumes nothing.
use mathlib.Core.Path.{◌≡◌, refl, ap₂, subst}
use mathlib.Core.Bool.{Bool, true, false, not, ◌&&◌}
use mathlib.Core.List.{List, [], ◌∷◌, map}
use Prim.Native.Nat.{ℕ, ◌≤◌, ◌<◌}
use native.Mathlib.Omega.{arith}
use lib.Dec.{eqb, ltb, leb}
use lib.ListN.{length, get_or}
use lib.Seq.{take_all}
use borrow.Author.Tests.{eqb-true, eqb-false, ltb-true, leb-true, not-true}
use Rattle.std.specs.Prelude.{Option, Some}
use Rattle.laws.specs.Lists.{fold, all, span}
use Rattle.laws.specs.Text.{text}
use Rattle.laws.proofs.Bools.{and_left, and_right}
use Rattle.reply.specs.Reply.{info}
use Rattle.reply.specs.Help.{help_texts, info_lines}
use Rattle.reply.proofs.Room.{most_text_lem}
use Rattle.host_reader.specs.Spelling.{Data}
use Rattle.host_reader.specs.Reading.{data_byte, read_message}
use Rattle.host_reader.specs.declared.Message.{Message}
use Rattle.host_reader.proofs.Spelled.{data_of}
use Rattle.host_reader.proofs.TextStands.{InfoText}
use Rattle.host_reader.proofs.ReadsBack.{heard_info, info_back}

-- a test that antt computes, and what it says of a text
unfoldable fits : List ℕ → Bool
fits t = eqb (span data_byte t) (length t) && ltb 0 (length t) && not (eqb (get_or t 0 0) 32) && leb (length t) 85

fits_data : (t : List ℕ) → fits t ≡ true → Data t × (length t ≤ 85)
unfolding fits
fits_data t h =
    let n = length t in
    let all_of = eqb (span data_byte t) n in
    let three = and_left (all_of && ltb 0 n && not (eqb (get_or t 0 0) 32)) (leb n 85) h in
    let two = and_left (all_of && ltb 0 n) (not (eqb (get_or t 0 0) 32)) three in
    let size : span data_byte t ≡ n = eqb-true (span data_byte t) n (and_left all_of (ltb 0 n) two) in
    let some : 0 < n = ltb-true 0 n (and_right all_of (ltb 0 n) two) in
    let first = not-true (eqb (get_or t 0 0) 32) (and_right (all_of && ltb 0 n) (not (eqb (get_or t 0 0) 32)) three) in (
      subst Data (take_all (span data_byte t) t (omega arith)) (data_of t (omega arith) (eqb-false (get_or t 0 0) 32 first)),
      leb-true n 85 (and_right (all_of && ltb 0 n && not (eqb (get_or t 0 0) 32)) (leb n 85) h),
    )

help_fits : all fits help_texts ≡ true
unfolding fits help_texts text fold span
help_fits = refl

most_text : (sum : Bool) → 85 ≤ most_text_lem sum
most_text true = omega arith
most_text false = omega arith

module _ (address : ℕ) (sum : Bool) (some : 1 ≤ address) (most : address ≤ 99) where
  abbrev pub heard : List ℕ → Option Message
  heard t = Some (heard_info address 0 t)

  each_back : (ts : List (List ℕ)) → all fits ts ≡ true → map read_message (map (info address 0 sum) ts) ≡ map heard ts
  unfolding fold
  each_back [] h = refl
  each_back (t ∷ ts) h =
      let x = fits_data t (and_left (fits t) (all fits ts) h) in
      let back = info_back address 0 sum some most (omega arith) (InfoText.said x.0) (omega (arith, x.1, most_text sum)) in
      ap₂ (λ (y : Option Message) (ys : List (Option Message)). y ∷ ys) back (each_back ts (and_right (fits t) (all fits ts) h))

  pub help_reads_back : map read_message (info_lines address sum) ≡ map heard help_texts
  unfolding info_lines
  help_reads_back = each_back help_texts help_fits
