-- What a part of the input is, and the texts that are printed for it, all of them lines.
-- "Replies end CR LF, the others LF."
use Rattle.std.specs.Prelude.{Bool, cond, List, [], ◌++◌, ℕ, eqb, take, replicate}
use Rattle.laws.specs.Text.{text, same, space}
use Rattle.laws.specs.Refusals.{NOWHERE}
use Rattle.numbers.specs.Decimal.{digits}

-- "A part whose first byte is `R` ... is a motor report"
unfoldable pub is_report : List ℕ → Bool
is_report p = same (take 1 p) (text "R")

-- a name and a number, as in `report 22`
unfoldable pub told : List ℕ → ℕ → List ℕ
told name n = name ++ digits n ++ text "\n"

-- "it prints `report N`", and 02, order 5: "the bench prints it after `report N`": the alert's bytes stand at the front of its buffer
unfoldable pub reported : ℕ → ℕ → List ℕ → List ℕ
reported number long buffer = told (text "report ") number ++ take long buffer

-- "prints the reply, or `silent N`": the reply's bytes stand at the front of its buffer
unfoldable pub answered : ℕ → ℕ → List ℕ → List ℕ
answered number long buffer = cond (eqb long 0) (told (text "silent ") number) (take long buffer)

-- order 3: a caret under the byte at place p of the line above; nothing where no place is told
unfoldable pub caret : ℕ → List ℕ
caret p = cond (eqb p NOWHERE) [] (replicate p space ++ text "^\n")
