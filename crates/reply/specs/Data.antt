-- A reply's data: values, the list of warnings, the words of an echo, or a refusal's name.
-- Which of them a command has is said where the command is obeyed.
use Rattle.std.specs.Prelude.{List, [], ◌∷◌, map, ℕ, length, take}
use Rattle.laws.specs.Text.{text, spaced}
use Rattle.laws.specs.declared.Refusal.{Refusal}
use Rattle.laws.specs.declared.Refusal.TheVariants.{BadCommand, BadData, BadAxis, DeviceOnly, NoAccess, Parked, StatusBusy}
use Rattle.units.specs.declared.Number.{Number}
use Rattle.numbers.specs.Decimal.{decimal, two_digits}
use Rattle.flags.specs.Flags.{bits, named, warning_names}

-- "Values for axis 0 are listed from axis 1, parted by one space."
unfoldable pub values : List Number → List ℕ
values ns = spaced (map (λ n. decimal n.0) ns)

-- the names of the warnings that a mask has, "highest first"
unfoldable pub warnings_in : ℕ → List (List ℕ)
warnings_in m = named (bits 8 m) warning_names

-- "The list is the number of active warnings in two digits, then their names, highest first"
unfoldable pub warning_list : ℕ → List ℕ
warning_list m = spaced (two_digits (length (warnings_in m)) ∷ warnings_in m)

-- "first 17 words, single spaces; 0 if none"
abbrev pub echoed_words : ℕ
echoed_words = 17

unfoldable pub echoed : List (List ℕ) → List ℕ
echoed [] = text "0"
echoed (w ∷ ws) = spaced (take echoed_words (w ∷ ws))

-- "the rejecting reply, its data the name": no other refusal is replied
unfoldable pub refusal_name : Refusal → List ℕ
refusal_name BadCommand = text "BADCOMMAND"
refusal_name BadData = text "BADDATA"
refusal_name BadAxis = text "BADAXIS"
refusal_name DeviceOnly = text "DEVICEONLY"
refusal_name NoAccess = text "NOACCESS"
refusal_name Parked = text "PARKED"
refusal_name StatusBusy = text "STATUSBUSY"
refusal_name n = []
