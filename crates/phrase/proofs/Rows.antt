-- A command's words are read as a command exactly where Spelling writes them for it: every row, every setting.
-- Assumes nothing.
use Rattle.std.specs.Prelude.{Err, None, Ok, Some, is_err}
use mathlib.Core.Path.{◌≡◌, refl, sym, ap, subst, ◌∙◌}
use mathlib.Core.Logic.{◌↔◌}
use mathlib.Core.Bool.{Bool, true, false, cond, not, ◌||◌, true≢false}
use mathlib.Core.List.{List, [], ◌∷◌, ◌++◌, map}
use Prim.Native.Nat.{ℕ, suc, ◌≤◌}
use native.Mathlib.Omega.{arith}
use lib.Dec.{leb}
use lib.IntN.{ℤ}
use lib.ListN.{length, get_or}
use borrow.Author.Tests.{leb-true}
use Rattle.laws.specs.Text.{text, same}
use Rattle.laws.proofs.Bools.{clash}
use Rattle.laws.proofs.Each.{Each, none}
use Rattle.laws.proofs.Same.{same_true}
use Rattle.units.specs.Units.{number}
use Rattle.numbers.specs.Spelling.{NumberWord}
use Rattle.numbers.specs.Reading.{read_number, value_of, unsigned_from, digits_from, scan, starts_hex, NumberRead}
use Rattle.numbers.proofs.Numbers.{number_read, number_of}
use Rattle.words.specs.Cutting.{Placed, placed, behind, bytes_of}
use Rattle.words.specs.Find.{Entry, meaning_of}
use Rattle.words.proofs.Table.{by_entry}
use Rattle.command.specs.Settings.{axis_settings, device_settings, name_of, read_only}
use Rattle.command.specs.Commands.{carries_words, echo_of, get_command, set_command}
use Rattle.command.specs.declared.AxisSetting.TheVariants as AxisSetting
use Rattle.command.specs.declared.DeviceSetting.TheVariants as DeviceSetting
use Rattle.command.specs.declared.Setting.{Setting}
use Rattle.command.specs.declared.Setting.TheVariants.{OfAxis, OfDevice}
use Rattle.command.specs.declared.Command.{Command}
use Rattle.command.specs.declared.Command.TheVariants as Of
use Rattle.command.specs.declared.AxisCommand.TheVariants.{Nothing}
use Rattle.phrase.specs.Reading.{SettingRead, unknown, misspelt, ended, numbered, made, one_number, moves, read_move, settings, named, names, read_setting, get_of, read_get, set_of, read_set, store_at, read_storepos, parkings, read_parking, tools, read_tools, read_warnings, read_help, firsts, read_command, WordsRead, worded}
use Rattle.phrase.specs.declared.Numbered.{Numbered}
use Rattle.phrase.specs.declared.Numbered.TheVariants as With
use Rattle.phrase.specs.Spelling.{Row}
use Rattle.phrase.proofs.Among.{◌also◌}
use Rattle.laws.specs.declared.Refusal.{Refusal}
use Rattle.laws.specs.Refusals.{refusal_at}

-- ---- what is spelled is read
setting_read : (s : Setting) → read_setting (name_of s) ≡ Some s
unfolding read_setting axis_settings device_settings name_of meaning_of same text
setting_read (OfAxis AxisSetting.Pos) = refl
setting_read (OfAxis AxisSetting.LimitMin) = refl
setting_read (OfAxis AxisSetting.LimitMax) = refl
setting_read (OfAxis AxisSetting.MaxSpeed) = refl
setting_read (OfAxis AxisSetting.Accel) = refl
setting_read (OfAxis AxisSetting.DriverCurrentMax) = refl
setting_read (OfAxis AxisSetting.DriverCurrentRun) = refl
setting_read (OfAxis AxisSetting.DriverCurrentHold) = refl
setting_read (OfAxis AxisSetting.DriverDir) = refl
setting_read (OfAxis AxisSetting.EncoderIndexCount) = refl
setting_read (OfDevice DeviceSetting.CommAddress) = refl
setting_read (OfDevice DeviceSetting.CommAlert) = refl
setting_read (OfDevice DeviceSetting.CommChecksum) = refl
setting_read (OfDevice DeviceSetting.SystemAccess) = refl
setting_read (OfDevice DeviceSetting.DeviceId) = refl
setting_read (OfDevice DeviceSetting.SystemAxisCount) = refl

one_read : (k : Numbered) (i : ℕ) {w : List ℕ} {n : ℤ} → NumberWord w n
    → one_number k (placed i w ∷ []) ≡ Ok (worded (numbered k (number n)) 0)
unfolding one_number
one_read k i h = ap (made k i) (number_read h)

set_read : (s : Setting) (i : ℕ) {w : List ℕ} {n : ℤ} → read_only s ≡ false → NumberWord w n
    → set_of (Some s) (placed i w ∷ []) ≡ Ok (worded (numbered (With.SetTo s) (number n)) 0)
set_read s i r h = rw r (one_read (With.SetTo s) i h)

-- the word `current` is no number
pub current_refused : read_number (text "current") ≡ Err 0
unfolding read_number unsigned_from digits_from scan starts_hex value_of same text
current_refused = refl

no_current : {w : List ℕ} {n : ℤ} → NumberWord w n → same w (text "current") ≡ false
no_current {w} h = go (same w (text "current")) refl
  where
    go : (b : Bool) → same w (text "current") ≡ b → same w (text "current") ≡ false
    go false e = e
    go true e = let z : ◌≡◌ {A = ℕ} 0 1 = cc (same_true w (text "current") e, number_read h, current_refused) in absurd (omega arith)

-- a command that carries words has two of its own, and the first is no shorter than `tools`
abbrev Begun : List (List ℕ) → Bool
Begun [] = false
Begun (v ∷ []) = false
Begun (v ∷ w ∷ ws) = leb 5 (length v)

-- where the words begin that a command carries, behind its first two; 0 where it carries none
abbrev pub behind_two : List Placed → ℕ
behind_two [] = 0
behind_two (v ∷ []) = 0
behind_two (v ∷ w ∷ ws) = behind w

abbrev pub echo_place : Command → List Placed → ℕ
echo_place c ws = cond (carries_words c) (behind_two ws) 0

-- words at places of their own
abbrev pub standing : (ℕ → ℕ) → List (List ℕ) → List Placed
standing at [] = []
standing at (w ∷ ws) = placed (at 0) w ∷ standing (λ i. at (suc i)) ws

pub bytes_standing : (at : ℕ → ℕ) (ws : List (List ℕ)) → bytes_of (standing at ws) ≡ ws
bytes_standing at [] = refl
bytes_standing at (w ∷ ws) = ap (λ (vs : List (List ℕ)). w ∷ vs) (bytes_standing (λ i. at (suc i)) ws)

standing_all : (ws : List Placed) → standing (λ i. get_or (map (λ (w : Placed). w.start) ws) i 0) (bytes_of ws) ≡ ws
standing_all [] = refl
standing_all (w ∷ ws) = ap (λ (vs : List Placed). w ∷ vs) (standing_all ws)

-- the command that a row's words are read as, where its words begin, which it carries, and what stands before them
row_told : (at : ℕ → ℕ) {ws : List (List ℕ)} {c : Command} {es : List (List ℕ)} → Row ws c es
    → (read_command (standing at ws) ≡ Ok (worded c (echo_place c (standing at ws))))
    × (echo_of c ws ≡ es)
    × ((not (carries_words c) || Begun ws) ≡ true)
unfolding read_command read_move read_get read_set read_tools read_storepos read_parking read_warnings read_help ended meaning_of same text echo_of
row_told at Row.nothing = (refl, refl, refl)
row_told at Row.home = (refl, refl, refl)
row_told at Row.stop = (refl, refl, refl)
row_told at Row.estop = (refl, refl, refl)
row_told at (Row.move_abs h) = (one_read With.MoveAbs _ h, refl, refl)
row_told at (Row.move_rel h) = (one_read With.MoveRel _ h, refl, refl)
row_told at (Row.move_vel h) = (one_read With.MoveVel _ h, refl, refl)
row_told at Row.move_min = (refl, refl, refl)
row_told at Row.move_max = (refl, refl, refl)
row_told at (Row.move_stored h) = (one_read With.MoveStored _ h, refl, refl)
row_told at (Row.get {s}) = (rw (setting_read (OfAxis s)) refl, refl, refl)
row_told at (Row.get_device {s}) = (rw (setting_read (OfDevice s)) refl, refl, refl)
row_told at (Row.set {s} r h) = (rw (setting_read (OfAxis s)) (set_read (OfAxis s) _ r h), refl, refl)
row_told at (Row.set_device {s} r h) = (rw (setting_read (OfDevice s)) (set_read (OfDevice s) _ r h), refl, refl)
row_told at (Row.storepos h) = (ap (made With.Store _) (number_read h), refl, refl)
row_told at (Row.storepos_at h k) = (rw (no_current k, number_read h, number_read k) refl, refl, refl)
row_told at (Row.storepos_current h) = (ap (made With.StoreCurrent _) (number_read h), refl, refl)
row_told at Row.warnings = (refl, refl, refl)
row_told at Row.warnings_clear = (refl, refl, refl)
row_told at Row.parking_state = (refl, refl, refl)
row_told at Row.park = (refl, refl, refl)
row_told at Row.unpark = (refl, refl, refl)
row_told at Row.echo = (refl, refl, refl)
row_told at Row.help = (refl, refl, refl)

pub row_standing : (at : ℕ → ℕ) {ws : List (List ℕ)} {c : Command} {es : List (List ℕ)} → Row ws c es
    → read_command (standing at ws) ≡ Ok (worded c (echo_place c (standing at ws)))
row_standing at r = (row_told at r).0

pub row_read : (ws : List Placed) {c : Command} {es : List (List ℕ)} → Row (bytes_of ws) c es
    → read_command ws ≡ Ok (worded c (echo_place c ws))
row_read ws {c} r = subst (λ (vs : List Placed). read_command vs ≡ Ok (worded c (echo_place c vs))) (standing_all ws) (row_standing _ r)

pub row_echo : {ws : List (List ℕ)} {c : Command} {es : List (List ℕ)} → Row ws c es → echo_of c ws ≡ es
row_echo r = (row_told (λ i. 0) r).1

pub data Begins : List Placed → Type 0 where
  begins : (v w : Placed) (ws : List Placed) → 5 ≤ length v.bytes → Begins (v ∷ w ∷ ws)

pub row_begins : (ws : List Placed) {c : Command} {es : List (List ℕ)} → Row (bytes_of ws) c es → carries_words c ≡ true → Begins ws
row_begins ws {c} r e = go ws (rw e at (row_told (λ i. 0) r).2)
  where
    go : (ws : List Placed) → Begun (bytes_of ws) ≡ true → Begins ws
    go [] t = clash t refl
    go (v ∷ []) t = clash t refl
    go (v ∷ w ∷ ws) t = begins v w ws (leb-true 5 (length v.bytes) t)

-- ---- what is read is spelled
abbrev Spelled : List (List ℕ) → Command → Type 0
Spelled ws c = (es : List (List ℕ)) × Row ws c es

-- a refusal is no command
pub no_command : {A : Type 0} {n : Refusal} {p : ℕ} {c : Command} {q : ℕ} → ◌≡◌ {A = WordsRead} (Err (refusal_at n p)) (Ok (worded c q)) → A
no_command e = absurd (true≢false (ap is_err e))

-- what is read is one command, from one place on
abbrev command_read : WordsRead → Command
command_read (Ok x) = x.command
command_read (Err e) = Of.OfAxes Nothing

abbrev place_read : WordsRead → ℕ
place_read (Ok x) = x.from
place_read (Err e) = 0

pub read_once : {c d : Command} {p q : ℕ} → ◌≡◌ {A = WordsRead} (Ok (worded c p)) (Ok (worded d q)) → (c ≡ d) × (p ≡ q)
read_once e = (ap command_read e, ap place_read e)

put : {ws vs : List (List ℕ)} {c d : Command} {es : List (List ℕ)} → vs ≡ ws → d ≡ c → Row vs d es → Spelled ws c
put {es = es} p q r = (es, rw (← p, ← q) r)

ended_row : (front : List (List ℕ)) (t : List Placed) {x c : Command} {q : ℕ} → Row (front ++ []) x [] → ended x t ≡ Ok (worded c q)
    → Spelled (front ++ bytes_of t) c
unfolding ended
ended_row front [] r e = put refl (read_once e).0 r
ended_row front (w ∷ t) r e = no_command e

record Made (k : Numbered) (w : List ℕ) (c : Command) : Type 0 where
  value : ℤ
  word : NumberWord w value
  is : numbered k (number value) ≡ c

made_is : (k : Numbered) (i : ℕ) (w : List ℕ) {c : Command} {q : ℕ} → made k i (read_number w) ≡ Ok (worded c q) → Made k w c
made_is k i w {c} {q} e = go (read_number w) refl e
  where
    go : (r : NumberRead) → read_number w ≡ r → made k i r ≡ Ok (worded c q) → Made k w c
    go (Ok n) q e = record { value = n.0; word = number_of w n.0 q; is = (read_once e).0 }
    go (Err p) q e = no_command e

number_row : (k : Numbered) (front : List (List ℕ)) (t : List Placed) {c : Command} {q : ℕ}
    → ((w : List ℕ) (n : ℤ) → NumberWord w n → Row (front ++ w ∷ []) (numbered k (number n)) []) → one_number k t ≡ Ok (worded c q)
    → Spelled (front ++ bytes_of t) c
unfolding one_number
number_row k front [] r e = no_command e
number_row k front (w ∷ []) r e = let m = made_is k w.start w.bytes e in put refl m.is (r w.bytes m.value m.word)
number_row k front (w ∷ v ∷ t) r e = no_command e

behind_move : (ws : List Placed) {c : Command} {q : ℕ} → read_move ws ≡ Ok (worded c q) → Spelled (text "move" ∷ bytes_of ws) c
unfolding read_move
behind_move [] e = no_command e
behind_move (u ∷ t) {c} e = by_entry unknown (λ (v : List ℕ). Spelled (text "move" ∷ v ∷ bytes_of t) c) u.bytes (moves t) e no_command
    (number_row With.MoveAbs (text "move" ∷ text "abs" ∷ []) t (λ w n h. Row.move_abs h)
    also number_row With.MoveRel (text "move" ∷ text "rel" ∷ []) t (λ w n h. Row.move_rel h)
    also number_row With.MoveVel (text "move" ∷ text "vel" ∷ []) t (λ w n h. Row.move_vel h)
    also ended_row (text "move" ∷ text "min" ∷ []) t Row.move_min
    also ended_row (text "move" ∷ text "max" ∷ []) t Row.move_max
    also number_row With.MoveStored (text "move" ∷ text "stored" ∷ []) t (λ w n h. Row.move_stored h)
    also none)

-- a word that is read as a setting is its name
names_is : (l : List Setting) (s : Setting) → Each (λ (e : Entry SettingRead). e.meaning ≡ Some s → e.word ≡ name_of s) (map named l)
names_is [] s = none
names_is (x ∷ l) s = (λ q. let e : x ≡ s = cc in ap name_of e) also names_is l s

setting_is : (w : List ℕ) (s : Setting) → read_setting w ≡ Some s → w ≡ name_of s
unfolding read_setting
setting_is w s e = by_entry None (λ (w : List ℕ). w ≡ name_of s) w names e (λ q. let z : ◌≡◌ {A = ℕ} 0 1 = cc in absurd (omega arith))
    (names_is settings s)

pub setting_none : read_setting [] ≡ None
unfolding read_setting axis_settings device_settings name_of meaning_of same text
setting_none = refl

-- a word u behind `get` or `set`, which is v, and the words t behind it
setting_row : (v : List ℕ) (read : SettingRead → List Placed → WordsRead) (u : List ℕ) (t : List Placed) {c : Command} {q : ℕ}
    → read None t ≡ unknown → ((s : Setting) → read (Some s) t ≡ Ok (worded c q) → Spelled (v ∷ name_of s ∷ bytes_of t) c)
    → read (read_setting u) t ≡ Ok (worded c q) → Spelled (v ∷ u ∷ bytes_of t) c
setting_row v read u t {c} {q} missing r e = go (read_setting u) refl e
  where
    go : (x : SettingRead) → read_setting u ≡ x → read x t ≡ Ok (worded c q) → Spelled (v ∷ u ∷ bytes_of t) c
    go None q e = no_command (sym missing ∙ e)
    go (Some s) q e = rw (setting_is u s q) (r s e)

get_row : (s : Setting) → Row (text "get" ∷ name_of s ∷ []) (get_command s) []
get_row (OfAxis s) = Row.get
get_row (OfDevice s) = Row.get_device

behind_get : (ws : List Placed) {c : Command} {q : ℕ} → read_get ws ≡ Ok (worded c q) → Spelled (text "get" ∷ bytes_of ws) c
unfolding read_get
behind_get [] e = no_command e
behind_get (u ∷ t) e =
    setting_row (text "get") get_of u.bytes t refl (λ s. ended_row (text "get" ∷ name_of s ∷ []) t (get_row s)) e

set_row : (s : Setting) {w : List ℕ} {n : ℤ} → read_only s ≡ false → NumberWord w n
    → Row (text "set" ∷ name_of s ∷ w ∷ []) (set_command s (number n)) []
set_row (OfAxis s) r h = Row.set r h
set_row (OfDevice s) r h = Row.set_device r h

after_set : (s : Setting) (t : List Placed) {c : Command} {q : ℕ} (b : Bool) → read_only s ≡ b
    → cond b unknown (one_number (With.SetTo s) t) ≡ Ok (worded c q) → Spelled (text "set" ∷ name_of s ∷ bytes_of t) c
after_set s t true r e = no_command e
after_set s t false r e = number_row (With.SetTo s) (text "set" ∷ name_of s ∷ []) t (λ w n h. set_row s r h) e

behind_set : (ws : List Placed) {c : Command} {q : ℕ} → read_set ws ≡ Ok (worded c q) → Spelled (text "set" ∷ bytes_of ws) c
unfolding read_set
behind_set [] e = no_command e
behind_set (u ∷ t) e = setting_row (text "set") set_of u.bytes t refl (λ s. after_set s t (read_only s) refl) e

after_storepos : (t : List Placed) {c : Command} {q : ℕ} → read_storepos t ≡ Ok (worded c q)
    → Spelled (text "tools" ∷ text "storepos" ∷ bytes_of t) c
unfolding read_storepos
after_storepos [] e = no_command e
after_storepos (w ∷ []) e = let m = made_is With.Store w.start w.bytes e in put refl m.is (Row.storepos m.word)
after_storepos (w ∷ v ∷ []) {c} {q} e = go (same v.bytes (text "current")) refl e
  where
    at : (n : NumberRead) → read_number w.bytes ≡ n → store_at w.start n v ≡ Ok (worded c q)
        → Spelled (text "tools" ∷ text "storepos" ∷ w.bytes ∷ v.bytes ∷ []) c
    at (Err p) q e = no_command e
    at (Ok n) q e = let m = made_is (With.StoreAt n) v.start v.bytes e in
        put refl m.is (Row.storepos_at (number_of w.bytes n.0 q) m.word)

    go : (b : Bool) → same v.bytes (text "current") ≡ b
        → cond b (made With.StoreCurrent w.start (read_number w.bytes)) (store_at w.start (read_number w.bytes) v)
        ≡ Ok (worded c q)
        → Spelled (text "tools" ∷ text "storepos" ∷ w.bytes ∷ v.bytes ∷ []) c
    go true q e = let m = made_is With.StoreCurrent w.start w.bytes e in
        rw (same_true v.bytes (text "current") q) (put refl m.is (Row.storepos_current m.word))
    go false q e = at (read_number w.bytes) refl e
after_storepos (w ∷ v ∷ u ∷ t) e = no_command e

behind_parking : (ws : List Placed) {c : Command} {q : ℕ} → read_parking ws ≡ Ok (worded c q)
    → Spelled (text "tools" ∷ text "parking" ∷ bytes_of ws) c
unfolding read_parking
behind_parking [] e = no_command e
behind_parking (u ∷ t) {c} e =
    by_entry misspelt (λ (v : List ℕ). Spelled (text "tools" ∷ text "parking" ∷ v ∷ bytes_of t) c) u.bytes (parkings t) e no_command
    (ended_row (text "tools" ∷ text "parking" ∷ text "state" ∷ []) t Row.parking_state
    also ended_row (text "tools" ∷ text "parking" ∷ text "park" ∷ []) t Row.park
    also ended_row (text "tools" ∷ text "parking" ∷ text "unpark" ∷ []) t Row.unpark
    also none)

behind_tools : (ws : List Placed) {c : Command} {q : ℕ} → read_tools ws ≡ Ok (worded c q) → Spelled (text "tools" ∷ bytes_of ws) c
unfolding read_tools
behind_tools [] e = no_command e
behind_tools (u ∷ t) {c} e =
    by_entry unknown (λ (v : List ℕ). Spelled (text "tools" ∷ v ∷ bytes_of t) c) u.bytes (tools (behind u) t) e no_command
    (after_storepos t also behind_parking t also (λ q. put refl (read_once q).0 Row.echo) also none)

-- a word u behind the first word v: x where it is w, and 11 where it is not
word_row : (v w : List ℕ) (u : List ℕ) (t : List Placed) {x c : Command} {q : ℕ} → Row (v ∷ w ∷ []) x []
    → cond (same u w) (ended x t) misspelt ≡ Ok (worded c q) → Spelled (v ∷ u ∷ bytes_of t) c
word_row v w u t {x} {c} {q} r e = go (same u w) refl e
  where
    go : (b : Bool) → same u w ≡ b → cond b (ended x t) misspelt ≡ Ok (worded c q) → Spelled (v ∷ u ∷ bytes_of t) c
    go true q e = rw (same_true u w q) (ended_row (v ∷ w ∷ []) t r e)
    go false q e = no_command e

after_warnings : (t : List Placed) {c : Command} {q : ℕ} → read_warnings t ≡ Ok (worded c q) → Spelled (text "warnings" ∷ bytes_of t) c
unfolding read_warnings
after_warnings [] e = put refl (read_once e).0 Row.warnings
after_warnings (u ∷ t) e = word_row (text "warnings") (text "clear") u.bytes t Row.warnings_clear e

after_help : (t : List Placed) {c : Command} {q : ℕ} → read_help t ≡ Ok (worded c q) → Spelled (text "help" ∷ bytes_of t) c
unfolding read_help
after_help [] e = no_command e
after_help (u ∷ t) e = word_row (text "help") (text "commands") u.bytes t Row.help e

spelled : (q : ℕ) (ws : List Placed) (c : Command) → read_command ws ≡ Ok (worded c q) → Spelled (bytes_of ws) c
unfolding read_command
spelled q [] c e = put refl (read_once e).0 Row.nothing
spelled q (w ∷ t) c e = by_entry unknown (λ (v : List ℕ). Spelled (v ∷ bytes_of t) c) w.bytes (firsts t) e no_command
    (ended_row (text "home" ∷ []) t Row.home
    also ended_row (text "stop" ∷ []) t Row.stop
    also ended_row (text "estop" ∷ []) t Row.estop
    also behind_move t
    also behind_get t
    also behind_set t
    also behind_tools t
    also after_warnings t
    also after_help t
    also none)

pub row_of : (q : ℕ) (ws : List Placed) (c : Command) → read_command ws ≡ Ok (worded c q) → Row (bytes_of ws) c (echo_of c (bytes_of ws))
row_of q ws c e = let s = spelled q ws c e in rw (row_echo s.1) s.1

-- the place that is read is the one where the command's words begin
pub place_of : (q : ℕ) (ws : List Placed) (c : Command) → read_command ws ≡ Ok (worded c q) → q ≡ echo_place c ws
place_of q ws c e = (read_once (sym e ∙ row_read ws (row_of q ws c e))).1

-- Words are read as a command exactly where they are spelled so; and they spell one command at most.
pub row_iff : (ws : List Placed) (c : Command) (es : List (List ℕ)) → Row (bytes_of ws) c es
    ↔ ((read_command ws ≡ Ok (worded c (echo_place c ws))) × (echo_of c (bytes_of ws) ≡ es))
row_iff ws c es = ((λ r. (row_read ws r, row_echo r)), (λ h. rw (← h.1) (row_of (echo_place c ws) ws c h.0)))

pub row_one : {ws es fs : List (List ℕ)} {c d : Command} → Row ws c es → Row ws d fs → c ≡ d
row_one p q = (read_once (sym (row_standing (λ i. 0) p) ∙ row_standing (λ i. 0) q)).0
