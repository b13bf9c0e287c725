-- What a reply tells behind its head: a small value, taken out of a record before anything is written, and its text.
-- Which of these a command has is said where the record is known; here is how each is written.
use Rattle.std.specs.Prelude.{Bool, true, false, cond, List, [], ◌∷◌, ℕ, take, drop}
use Rattle.laws.specs.Text.{text}
use Rattle.units.specs.declared.Number.{Number}
use Rattle.numbers.specs.Decimal.{decimal}
use Rattle.words.specs.Cutting.{cut}
use Rattle.reply.specs.Data.{values, warning_list, echoed, refusal_name}
use Rattle.reply.specs.declared.told.Listed.{Listed}
use Rattle.reply.specs.declared.told.Told.{Told}
use Rattle.reply.specs.declared.told.Told.TheVariants.{Nought, One, Values, Active, Parked, Words, Name, Info}

-- the values of the four axes that are listed: "Values for axis 0 are listed from axis 1"
abbrev pub listed_of : Listed → List Number
listed_of v = take v.many (drop v.from v.values)

-- the bytes of a line from a place up to another
unfoldable pub carried : List ℕ → ℕ → ℕ → List ℕ
carried l from end = drop from (take end l)

-- the text of what is told; the words of an echo stand in the line l
abbrev pub told_text : List ℕ → Told → List ℕ
told_text l Nought = text "0"
told_text l (One n) = decimal n.0
told_text l (Values v) = values (listed_of v)
told_text l (Active m) = warning_list m
told_text l (Parked p) = cond p (text "1") (text "0")
told_text l (Words from end) = echoed (cut (carried l from end))
told_text l (Name n) = refusal_name n
told_text l Info = text "0"

-- order 5: whether info lines stand behind the reply
abbrev pub informs : Told → Bool
informs Nought = false
informs (One n) = false
informs (Values v) = false
informs (Active m) = false
informs (Parked p) = false
informs (Words from end) = false
informs (Name n) = false
informs Info = true
