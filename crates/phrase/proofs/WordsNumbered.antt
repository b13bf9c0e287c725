-- Words that are refused are refused with 10 or 11 and with no other number, so never with 0, which means accepted; and 10 has no
-- place. Assumes nothing.
use Rattle.std.specs.Prelude.{Err, None, Ok, Some}
use mathlib.Core.Bool.{Bool, true, false, cond}
use mathlib.Core.List.{List, [], ◌∷◌}
use Prim.Native.Nat.{ℕ}
use Rattle.laws.specs.declared.Refusal.{Refusal}
use Rattle.laws.specs.declared.Refusal.TheVariants.{BadCommand, BadData}
use Rattle.laws.specs.Refusals.{Verdict, NOWHERE, refusal_at}
use Rattle.laws.specs.Text.{text, same}
use Rattle.laws.proofs.Each.{Each, none, more}
use Rattle.numbers.specs.Reading.{read_number, NumberRead}
use Rattle.words.specs.Cutting.{Placed}
use Rattle.words.specs.Find.{Entry, meaning_of}
use Rattle.command.specs.declared.Command.{Command}
use Rattle.command.specs.Settings.{read_only}
use Rattle.phrase.specs.declared.Numbered.{Numbered}
use Rattle.phrase.specs.declared.Numbered.TheVariants as With
use Rattle.phrase.specs.Reading.{SettingRead, ended, made, one_number, read_move, read_setting, get_of, read_get, set_of, read_set, store_at, read_storepos, read_parking, read_tools, read_warnings, read_help, read_command, WordsRead}
use Rattle.phrase.proofs.Among.{◌also◌}

-- the numbers that words are refused with; and the places of each
pub data Misspelt : Verdict → Type 0 where
  bad_command_lem : Misspelt (Err BadCommand)
  bad_data_lem : Misspelt (Err BadData)

pub data MisspeltAt : Refusal → ℕ → Type 0 where
  no_place : MisspeltAt BadCommand NOWHERE
  a_place : {p : ℕ} → MisspeltAt BadData p

pub misspelt_at : {n : Refusal} {p : ℕ} → MisspeltAt n p → Misspelt (Err n)
misspelt_at no_place = bad_command_lem
misspelt_at a_place = bad_data_lem

abbrev pub NumberedWords : WordsRead → Type 0
NumberedWords (Ok x) = Unit
NumberedWords (Err e) = MisspeltAt e.refusal e.place

either : {X : Type 0} (P : X → Type 0) (t : Bool) {x y : X} → P x → P y → P (cond t x y)
either P true p q = p
either P false p q = q

meaning : {n : Refusal} (w : List ℕ) {es : List (Entry WordsRead)} → MisspeltAt n NOWHERE
    → Each (λ (e : Entry WordsRead). NumberedWords e.meaning) es
    → NumberedWords (meaning_of (Err (refusal_at n NOWHERE)) w es)
unfolding meaning_of
meaning w h none = h
meaning w h (more {x = e} p ps) = either NumberedWords (same w e.word) p (meaning w h ps)

end : (c : Command) (ws : List Placed) → NumberedWords (ended c ws)
unfolding ended
end c [] = tt
end c (w ∷ ws) = a_place

make : (k : Numbered) (i : ℕ) (r : NumberRead) → NumberedWords (made k i r)
make k i (Ok n) = tt
make k i (Err p) = a_place

one : (k : Numbered) (ws : List Placed) → NumberedWords (one_number k ws)
unfolding one_number
one k [] = a_place
one k (w ∷ []) = make k w.start (read_number w.bytes)
one k (w ∷ v ∷ ws) = a_place

move_numbered : (ws : List Placed) → NumberedWords (read_move ws)
unfolding read_move
move_numbered [] = no_place
move_numbered (w ∷ ws) = meaning w.bytes no_place (one _ _ also one _ _ also one _ _ also end _ _ also end _ _ also one _ _ also none)

get_of_numbered : (s : SettingRead) (ws : List Placed) → NumberedWords (get_of s ws)
get_of_numbered None ws = no_place
get_of_numbered (Some s) ws = end _ ws

get_numbered : (ws : List Placed) → NumberedWords (read_get ws)
unfolding read_get
get_numbered [] = no_place
get_numbered (w ∷ ws) = get_of_numbered (read_setting w.bytes) ws

set_of_numbered : (s : SettingRead) (ws : List Placed) → NumberedWords (set_of s ws)
set_of_numbered None ws = no_place
set_of_numbered (Some s) ws = either NumberedWords (read_only s) no_place (one (With.SetTo s) ws)

set_numbered : (ws : List Placed) → NumberedWords (read_set ws)
unfolding read_set
set_numbered [] = no_place
set_numbered (w ∷ ws) = set_of_numbered (read_setting w.bytes) ws

store_numbered : (i : ℕ) (r : NumberRead) (v : Placed) → NumberedWords (store_at i r v)
store_numbered i (Err p) v = a_place
store_numbered i (Ok n) v = make (With.StoreAt n) v.start (read_number v.bytes)

storepos_numbered : (ws : List Placed) → NumberedWords (read_storepos ws)
unfolding read_storepos
storepos_numbered [] = a_place
storepos_numbered (w ∷ []) = make With.Store w.start (read_number w.bytes)
storepos_numbered (w ∷ v ∷ []) =
    let n = read_number w.bytes in
    either NumberedWords (same v.bytes (text "current")) (make With.StoreCurrent w.start n) (store_numbered w.start n v)
storepos_numbered (w ∷ v ∷ u ∷ ws) = a_place

parking_numbered : (ws : List Placed) → NumberedWords (read_parking ws)
unfolding read_parking
parking_numbered [] = a_place
parking_numbered (w ∷ ws) = meaning w.bytes a_place (end _ _ also end _ _ also end _ _ also none)

tools_numbered : (ws : List Placed) → NumberedWords (read_tools ws)
unfolding read_tools
tools_numbered [] = no_place
tools_numbered (w ∷ t) = meaning w.bytes no_place (storepos_numbered t also parking_numbered t also tt also none)

warnings_numbered : (ws : List Placed) → NumberedWords (read_warnings ws)
unfolding read_warnings
warnings_numbered [] = tt
warnings_numbered (w ∷ ws) = either NumberedWords (same w.bytes (text "clear")) (end _ ws) a_place

help_numbered : (ws : List Placed) → NumberedWords (read_help ws)
unfolding read_help
help_numbered [] = a_place
help_numbered (w ∷ ws) = either NumberedWords (same w.bytes (text "commands")) (end _ ws) a_place

-- What the words of a command are refused with is 10 or 11.
pub words_numbered : (ws : List Placed) → NumberedWords (read_command ws)
unfolding read_command
words_numbered [] = tt
words_numbered (w ∷ ws) =
    meaning w.bytes no_place
    (end _ ws
    also end _ ws
    also end _ ws
    also move_numbered ws
    also get_numbered ws
    also set_numbered ws
    also tools_numbered ws
    also warnings_numbered ws
    also help_numbered ws
    also none)
