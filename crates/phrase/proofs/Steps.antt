-- The cases of the reading of a command's words, as the tests of the code have them.
-- Assumes nothing.
use Rattle.std.specs.Prelude.{Err, Ok}
use mathlib.Core.Path.{◌≡◌, refl, sym, ap, subst, ◌∙◌}
use mathlib.Core.Logic.{⊎_elim}
use mathlib.Core.Bool.{true, false}
use mathlib.Core.List.{List, [], ◌∷◌}
use Prim.Native.Nat.{ℕ, ◌+◌, ◌-◌, ◌≤◌, ◌<◌}
use native.Mathlib.Omega.{arith}
use mir.Syntax.{w64}
use mir.Val.{Fits}
use lib.ListN.{length, take, drop, length-take}
use Rattle.laws.specs.Text.{text, same}
use Rattle.laws.proofs.Bools.{clash}
use Rattle.laws.proofs.Order.{eq_or_ne}
use Rattle.numbers.specs.Reading.{read_number, NumberRead}
use Rattle.numbers.proofs.Places.{number_refused}
use Rattle.words.specs.Cutting.{Placed, placed, words_at, start_of, word_at}
use Rattle.words.specs.Find.{meaning_of}
use Rattle.words.specs.declared.Word.{Word}
use Rattle.words.proofs.Cut.{word_whole, word_within, words_empty, words_full, word_behind, words_none, words_some}
use Rattle.command.specs.declared.AxisCommand.TheVariants.{Nothing, Warnings, WarningsClear}
use Rattle.command.specs.declared.DeviceCommand.TheVariants.{Help}
use Rattle.command.specs.declared.Command.{Command}
use Rattle.command.specs.declared.Command.TheVariants.{OfAxes, OfDevice}
use Rattle.phrase.specs.Reading.{SettingRead, unknown, misspelt, ended, made, one_number, moves, read_move, read_setting, get_of, read_get, set_of, read_set, store_at, read_storepos, parkings, read_parking, tools, read_tools, read_warnings, read_help, firsts, read_command, WordsRead, worded}
use Rattle.phrase.specs.declared.Numbered.{Numbered}
use Rattle.phrase.specs.declared.Numbered.TheVariants as With
use Rattle.phrase.specs.Place.{Places}
use Rattle.phrase.proofs.Rows.{setting_none}

-- no word is left from `at` on, or some word is: a is where `start_of` finds that it may start
module _ (s : List ℕ) (at : ℕ) {a : ℕ} (q : a ≡ start_of s at) (c : Command) where
  pub ended_yes : length s ≤ a → Ok (worded c 0) ≡ ended c (words_at s at)
  unfolding ended
  ended_yes l = rw (words_none s at q l)

  pub ended_not : a < length s → misspelt ≡ ended c (words_at s at)
  unfolding ended
  ended_not l = rw (words_some s at q l)

-- ---- w is where `word_at` finds the first of the words from `at` on
module _ (s : List ℕ) (at : ℕ) {w : Word} (is : w ≡ word_at s at) where
  abbrev words : List Placed
  words = words_at s at

  abbrev first : List ℕ
  first = take (w.end - w.start) (drop w.start s)

  abbrev rest : List Placed
  rest = words_at s w.end

  -- there is none, or there is one, which ends where the words behind it begin
  by_word : (X : List ℕ → ℕ → List Placed → Type 0) → X [] w.end [] → X first (w.start + length first) (placed w.start first ∷ rest)
      → X first w.end words
  by_word X missing there =
      ⊎_elim (λ e. let z : w.end - w.start ≡ 0 = omega arith in rw (words_empty s at is e, z) missing)
      (λ n. rw (words_full s at is n) (subst (λ (e : ℕ). X first e (placed w.start first ∷ rest)) (word_behind s at is n) there))
      (eq_or_ne w.start w.end)

  -- it is looked up in a table of what may follow
  pub move_word : {r : WordsRead} → r ≡ meaning_of unknown first (moves rest) → r ≡ read_move words
  unfolding read_move meaning_of same text
  move_word {r} = by_word (λ v e ws. r ≡ meaning_of unknown v (moves rest) → r ≡ read_move ws) (λ z. z) (λ z. z)

  pub parking_word : {r : WordsRead} → r ≡ meaning_of misspelt first (parkings rest) → r ≡ read_parking words
  unfolding read_parking meaning_of same text
  parking_word {r} = by_word (λ v e ws. r ≡ meaning_of misspelt v (parkings rest) → r ≡ read_parking ws) (λ z. z) (λ z. z)

  pub tools_word : {r : WordsRead} → r ≡ meaning_of unknown first (tools w.end rest) → r ≡ read_tools words
  unfolding read_tools meaning_of same text
  tools_word {r} = by_word (λ v e ws. r ≡ meaning_of unknown v (tools e rest) → r ≡ read_tools ws) (λ z. z) (λ z. z)

  -- it is the name of a setting
  pub get_word : {x : SettingRead} {r : WordsRead} → x ≡ read_setting first → r ≡ get_of x rest → r ≡ read_get words
  unfolding read_get
  get_word {x} {r} = by_word (λ v e ws. x ≡ read_setting v → r ≡ get_of x rest → r ≡ read_get ws)
      (λ q z. z ∙ rw (q, setting_none)) (λ q z. z ∙ ap (λ (y : SettingRead). get_of y rest) q)

  pub set_word : {x : SettingRead} {r : WordsRead} → x ≡ read_setting first → r ≡ set_of x rest → r ≡ read_set words
  unfolding read_set
  set_word {x} {r} = by_word (λ v e ws. x ≡ read_setting v → r ≡ set_of x rest → r ≡ read_set ws)
      (λ q z. z ∙ rw (q, setting_none)) (λ q z. z ∙ ap (λ (y : SettingRead). set_of y rest) q)

  -- it is `commands`, or another or none
  pub help_commands : {r : WordsRead} → same first (text "commands") ≡ true → r ≡ ended (OfDevice Help) rest → r ≡ read_help words
  unfolding read_help same text
  help_commands {r} = by_word (λ v e ws. same v (text "commands") ≡ true → r ≡ ended (OfDevice Help) rest → r ≡ read_help ws)
      (λ t z. clash t refl) (λ t z. rw t z)

  pub help_other : same first (text "commands") ≡ false → misspelt ≡ read_help words
  unfolding read_help
  help_other = by_word (λ v e ws. same v (text "commands") ≡ false → misspelt ≡ read_help ws) (λ t. refl) (λ t. rw t)

  -- there is none: `warnings` alone; no word at all; a number that is missing
  module _ (e : w.start ≡ w.end) where
    pub warnings_alone : Ok (worded (OfAxes Warnings) 0) ≡ read_warnings words
    unfolding read_warnings
    warnings_alone = rw (words_empty s at is e)

    pub command_none : Ok (worded (OfAxes Nothing) 0) ≡ read_command words
    unfolding read_command
    command_none = rw (words_empty s at is e)

    pub number_none : (k : Numbered) → misspelt ≡ one_number k words
    unfolding one_number
    number_none k = rw (words_empty s at is e)

    pub store_none : misspelt ≡ read_storepos words
    unfolding read_storepos
    store_none = rw (words_empty s at is e)

  -- there is one
  module _ (h : w.start ≡ w.end → ⊥) where
    -- `warnings clear`, `warnings` with any other word, and a first word
    pub warnings_clear : {r : WordsRead} → same first (text "clear") ≡ true → r ≡ ended (OfAxes WarningsClear) rest → r ≡ read_warnings words
    unfolding read_warnings
    warnings_clear e z = rw (words_full s at is h, e) z

    pub warnings_other : same first (text "clear") ≡ false → misspelt ≡ read_warnings words
    unfolding read_warnings
    warnings_other e = rw (words_full s at is h, e)

    pub command_first : {r : WordsRead} → r ≡ meaning_of unknown first (firsts rest) → r ≡ read_command words
    unfolding read_command
    command_first z = rw (words_full s at is h) z

    -- a is where `start_of` finds that a second word may start: the first one is a number and is the last
    module _ {a : ℕ} (q : a ≡ start_of s w.end) (k : Numbered) where
      pub number_alone_lem : {n : NumberRead} {r : WordsRead} → length s ≤ a → n ≡ read_number first → r ≡ made k w.start n
          → r ≡ one_number k words
      unfolding one_number
      number_alone_lem l e z = rw (words_full s at is h, words_none s w.end q l, ← e) z

      pub number_more : a < length s → misspelt ≡ one_number k words
      unfolding one_number
      number_more l = rw (words_full s at is h, words_some s w.end q l)

    -- v is where `word_at` finds the second word
    module _ {v : Word} (is-second : v ≡ word_at s w.end) {n : NumberRead} (e : n ≡ read_number first) where
      abbrev second : List ℕ
      second = take (v.end - v.start) (drop v.start s)

      pub store_one : {r : WordsRead} → v.start ≡ v.end → r ≡ made With.Store w.start n → r ≡ read_storepos words
      unfolding read_storepos
      store_one d z = rw (words_full s at is h, words_empty s w.end is-second d, ← e) z

      -- a is where `start_of` finds that a third word may start
      module _ (g : v.start ≡ v.end → ⊥) {a : ℕ} (q : a ≡ start_of s v.end) where
        pub store_more : a < length s → misspelt ≡ read_storepos words
        unfolding read_storepos
        store_more l = rw (words_full s at is h, words_full s w.end is-second g, words_some s v.end q l)

        module _ (l : length s ≤ a) where
          pub store_current : {r : WordsRead} → same second (text "current") ≡ true → r ≡ made With.StoreCurrent w.start n
              → r ≡ read_storepos words
          unfolding read_storepos
          store_current t z = rw (words_full s at is h, words_full s w.end is-second g, words_none s v.end q l, t, ← e) z

          pub store_at_lem : {r : WordsRead} → same second (text "current") ≡ false → r ≡ store_at w.start n (placed v.start second)
              → r ≡ read_storepos words
          unfolding read_storepos
          store_at_lem t z = rw (words_full s at is h, words_full s w.end is-second g, words_none s v.end q l, t, ← e) z

  -- where a number that is read there refuses is a place of the text
  pub number_places : Fits w64 (length s) → {n : NumberRead} → n ≡ read_number first → Places w.start n
  number_places size {n} e = go n e
    where
      go : (n : NumberRead) → n ≡ read_number first → Places w.start n
      go (Ok m) q = tt
      go (Err p) q =
          let inside = ((number_refused first p).0 (sym q)).1.inside in
          let long = length-take (w.end - w.start) (drop w.start s) in
          record { fits = omega (arith, inside, long, word_whole s at is, word_within s at is, size.fits) }
