-- A line's frame as the code finds it, from its end: the steps that specs/Reading.antt has no name for.
-- proofs/FromTheEnd.antt shows that they come to the same frame.
use Rattle.std.specs.Prelude.{Bool, cond, ◌&&◌, List, ℕ, ◌-◌, eqb, leb, length, get_or, Err}
use Rattle.laws.specs.Lists.{all}
use Rattle.laws.specs.Text.{colon}
use Rattle.laws.specs.declared.Refusal.TheVariants.{NotLine, BadSum}
use Rattle.line.specs.Reading.{printable, no_colon, parted, Frame}

-- a byte that a content may have
unfoldable pub plain : ℕ → Bool
plain c = printable c && no_colon c

-- how many bytes stand before the checksum, by the colon third from the end; or all of them
unfoldable pub content_length : List ℕ → ℕ
content_length b = cond (leb 3 (length b) && eqb (get_or b (length b - 3) 0) colon) (length b - 3) (length b)

-- the refusal of bytes that have no right checksum: 1 comes before 3
unfoldable pub refused_body : List ℕ → Frame
refused_body b = Err (cond (all printable b) BadSum NotLine)

-- what stands between `/` and footer, where a byte of it may be forbidden
unfoldable pub body_read : List ℕ → Frame
body_read b = cond (all printable b) (parted b) (Err NotLine)
