-- What a device hears of a line, as the tests of the code have it.
-- Assumes nothing.
use Rattle.laws.specs.declared.Refusal.TheVariants.{NoRoom, BadState, NotMine}
use Rattle.laws.specs.declared.RefusedAt.{RefusedAt}
use Rattle.std.specs.Prelude.{Ok, Err, Result}
use mathlib.Core.Path.{◌≡◌, refl, ap, ◌∙◌}
use mathlib.Core.Bool.{Bool, true, false, cond, not, ◌&&◌}
use mathlib.Core.List.{List, [], ◌∷◌}
use Prim.Native.Nat.{ℕ, ◌≤◌, ◌<◌}
use native.Mathlib.Omega.{arith}
use lib.Dec.{leb, ltb}
use lib.ListN.{length, take}
use borrow.Author.Tests.{lt-ltb, le-ltb}
use Rattle.laws.proofs.Bools.{not_true, not_false}
use Rattle.units.specs.Units.{place}
use Rattle.words.specs.Cutting.{Placed, words_at}
use Rattle.phrase.specs.Reading.{read_command}
use Rattle.device.specs.declared.Device.{Device}
use Rattle.device.specs.Good.{good}
use Rattle.line.specs.declared.Opening.{Opening}
use Rattle.line.specs.Reading.{LineRead, axis_digit, axis_of, place_read, sent}
use Rattle.line.specs.Opening.{open_line, read_on}
use Rattle.line.proofs.Opened.{opened_read}
use Rattle.reply.specs.Help.{longest_answer}
use Rattle.carriage.specs.Step.{concerns, not_mine, refused_at}
use Rattle.carriage.specs.Rulings.{foreign, roomy, heard}
use Rattle.carriage.proofs.AnswerRoom.{roomy_all}
use Rattle.laws.specs.Refusals.{refusal_at}

-- whether a line is another's, said of its opening and of what is read behind that
axis_mine : (d : Device) (a end : ℕ) (ws : List Placed) → not_mine d (axis_of a end ws) ≡ not (concerns d a)
unfolding axis_of
axis_mine d a end [] = refl
axis_mine d a end (w ∷ ws) = go (ltb (axis_digit w.bytes) 10)
  where
    go : (t : Bool)
        → not_mine d (cond t (Ok (sent a (axis_digit w.bytes) end (read_command ws))) (Ok (sent a 0 end (read_command (w ∷ ws)))))
        ≡ not (concerns d a)
    go true = refl
    go false = refl

pub foreign_is : (d : Device) (l : List ℕ) (o : Result Opening RefusedAt) → not_mine d (read_on l o) ≡ foreign (place d.comm.address.0) o
unfolding concerns
foreign_is d l (Err e) = refl
foreign_is d l (Ok (Opening.Bare end)) = refl
foreign_is d l (Ok (Opening.To a at end)) = axis_mine d a (length (take end l)) (words_at (take end l) at)

-- the place of what is heard, where there is room for every answer
place_heard : (d : Device) (l : List ℕ) → place_read (heard (place d.comm.address.0) (good d) l longest_answer) ≡ refused_at d l
unfolding refused_at
place_heard d l =
    rw (← opened_read l, foreign_is d l (open_line l), ← roomy_all longest_answer (read_on l (open_line l)) (omega arith))
    (go (good d) (foreign (place d.comm.address.0) (open_line l)))
  where
    go : (g t : Bool) → place_read (cond g (cond t (Err (refusal_at NotMine 255)) (read_on l (open_line l))) (Err (refusal_at BadState 255)))
        ≡ cond (g && not t) (place_read (read_on l (open_line l))) 255
    go true true = refl
    go true false = refl
    go false t = refl

pub heard_place : (d : Device) (l : List ℕ) {g : Bool} {own p : ℕ} {r : LineRead} → g ≡ good d → own ≡ place d.comm.address.0
    → r ≡ heard own g l longest_answer → p ≡ place_read r → p ≡ refused_at d l
heard_place d l {g} {own} e q u p =
    let same : heard own g l longest_answer ≡ heard (place d.comm.address.0) (good d) l longest_answer = rw (e, q) in
    p ∙ ap place_read (u ∙ same) ∙ place_heard d l

module _ (own : ℕ) (good : Bool) (l : List ℕ) (room : ℕ) where
  pub heard_small : room < 96 → Err (refusal_at NoRoom 255) ≡ heard own good l room
  heard_small h = rw (lt-ltb room 96 h)

  module _ (h : 96 ≤ room) where
    pub heard_bad : not good ≡ true → Err (refusal_at BadState 255) ≡ heard own good l room
    heard_bad g = rw (le-ltb room 96 h, not_true good g)

    module _ (g : not good ≡ false) {o : Result Opening RefusedAt} (is : o ≡ open_line l) {t : Bool} (q : t ≡ foreign own o) where
      pub heard_foreign : (leb longest_answer room && t) ≡ true → Err (refusal_at NotMine 255) ≡ heard own good l room
      heard_foreign e = rw (le-ltb room 96 h, not_false good g, ← is, ← q, e)

      pub heard_line : (leb longest_answer room && t) ≡ false → {r x : LineRead} → r ≡ read_on l o → x ≡ roomy room r
          → x ≡ heard own good l room
      heard_line e p z = rw (le-ltb room 96 h, not_false good g, ← is, ← q, e) (z ∙ ap (roomy room) p)
