-- A line that is answered with info lines has twelve bytes at least: it is `help commands`, whose words stand in it.
-- Assumes nothing.
use Rattle.std.specs.Prelude.{Ok}
use mathlib.Core.Path.{◌≡◌, refl, subst, ap}
use mathlib.Core.Bool.{true}
use mathlib.Core.List.{List, [], ◌∷◌, ◌++◌}
use Prim.Native.Nat.{ℕ, ◌+◌, ◌≤◌}
use native.Mathlib.Omega.{arith}
use lib.ListN.{length, take, drop, length-append}
use Rattle.laws.specs.Text.{text}
use Rattle.words.specs.Spelling.{Content}
use Rattle.command.specs.declared.DeviceCommand.TheVariants.{Help}
use Rattle.command.specs.declared.Command.{Command}
use Rattle.command.specs.declared.Command.TheVariants.{OfDevice}
use Rattle.command.specs.Commands.{informs}
use Rattle.command.proofs.Informing.{only_help_informs}
use Rattle.phrase.specs.Spelling.{Row}
use Rattle.line.specs.Spelling.{Asked, Line, line}
use Rattle.line.specs.Spelling as Spelling
use Rattle.line.specs.Reading.{read_line, carried_by, asked_by, read_asked, sent}
use Rattle.line.proofs.Demand3.{demand_3}
use Rattle.phrase.specs.Reading.{worded}

-- the bytes of words, without the spaces between them
abbrev bytes : List (List ℕ) → ℕ
bytes [] = 0
bytes (w ∷ ws) = length w + bytes ws

content_long : {s : List ℕ} {ws : List (List ℕ)} → Content s ws → bytes ws ≤ length s
content_long (Content.blank p) = omega arith
content_long (Content.last {p} {w} x y) = rw (length-append p w) (omega arith)
content_long (Content.next {p} {w} {s} {ws} x y z) =
    rw (length-append p (w ++ 32 ∷ s), length-append w (32 ∷ s)) (omega (arith, content_long z))

help_row : {ws es : List (List ℕ)} → Row ws (OfDevice Help) es → bytes ws ≡ 12
unfolding text
help_row Row.help = refl

row_long : {ws es : List (List ℕ)} {c : Command} → informs c ≡ true → Row ws c es → 12 ≤ bytes ws
row_long {ws} {es} {c} e r = omega (arith, help_row (subst (λ (x : Command). Row ws x es) (only_help_informs c e) r))

words_long : {ws : List (List ℕ)} {a : Asked} → informs a.command ≡ true → Spelling.Words ws a → 12 ≤ bytes ws
words_long e (Spelling.bare r) = row_long e r
words_long e (Spelling.addressed w r) = omega (arith, row_long e r)
words_long e (Spelling.with_axis w v r) = omega (arith, row_long e r)

line_long : {l : List ℕ} {a : Asked} → informs a.command ≡ true → Line l a → 12 ≤ length l
unfolding text
line_long e (line {s = s} {k = k} {f = f} c w x y short) =
    omega (arith, content_long c, words_long e w, length-append (47 ∷ s) k, length-append (47 ∷ s ++ k) f)

pub help_long : (l : List ℕ) (a k end from : ℕ) (c : Command) → read_line l ≡ Ok (sent a k end (Ok (worded c from))) → informs c ≡ true
    → 12 ≤ length l
unfolding read_asked
help_long l a k end from c is e =
    let asked : Asked = record { address = a; axis = k; command = c; echo = carried_by c (drop from (take end l)) } in
    line_long {a = asked} e ((demand_3 l asked).1 (ap (asked_by l) is))
