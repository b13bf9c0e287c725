-- `host_writer::rows::row` meets its contract: that a row spells its words is computed, for any command.
use mathlib.Core.Path.{refl}
use mathlib.Core.List.{append-nil}
use Rattle.laws.specs.Text.{text, same}
use Rattle.words.specs.Cutting.{is_space, no_space, grow_at, words_from, cut}
use Rattle.words.specs.Find.{meaning_of}
use Rattle.host_writer.specs.Rows.{words_for, filled_row, row_words}
use Rattle.host_writer.proofs.RowTexts.{spelled}
use Rattle.host_writer.proofs.rows.row.Goals as goal

pub returns-in-9 : goal.returns-in-9
unfolding text same cut is_space no_space grow_at words_from meaning_of words_for filled_row row_words
returns-in-9 c = spelled 9 (text "move stored N") c.in-9.is (λ f es. refl)

pub returns-in-11 : goal.returns-in-11
unfolding text same cut is_space no_space grow_at words_from meaning_of words_for filled_row row_words
returns-in-11 c = spelled 11 (text "set SETTING N") c.in-11.is (λ f es. refl)

pub returns-in-12 : goal.returns-in-12
unfolding text same cut is_space no_space grow_at words_from meaning_of words_for filled_row row_words
returns-in-12 c = spelled 12 (text "tools storepos N") c.in-12.is (λ f es. refl)

pub returns-in-13 : goal.returns-in-13
unfolding text same cut is_space no_space grow_at words_from meaning_of words_for filled_row row_words
returns-in-13 c = spelled 13 (text "tools storepos N P") c.in-13.is (λ f es. refl)

pub returns-in-14 : goal.returns-in-14
unfolding text same cut is_space no_space grow_at words_from meaning_of words_for filled_row row_words
returns-in-14 c = spelled 14 (text "tools storepos N current") c.in-14.is (λ f es. refl)

pub returns-in-17 : goal.returns-in-17
unfolding text same cut is_space no_space grow_at words_from meaning_of words_for filled_row row_words
returns-in-17 c = spelled 17 (text "tools parking state") c.in-17.is (λ f es. refl)

pub returns-in-18 : goal.returns-in-18
unfolding text same cut is_space no_space grow_at words_from meaning_of words_for filled_row row_words
returns-in-18 c = spelled 18 (text "tools parking park") c.in-18.is (λ f es. refl)

pub returns-in-19 : goal.returns-in-19
unfolding text same cut is_space no_space grow_at words_from meaning_of words_for filled_row row_words
returns-in-19 c = spelled 19 (text "tools parking unpark") c.in-19.is (λ f es. refl)

pub returns-in-20 : goal.returns-in-20
unfolding text same cut is_space no_space grow_at words_from meaning_of words_for filled_row row_words
returns-in-20 c = spelled 20 (text "tools echo WORDS") c.in-20.is (λ f es. rw (append-nil es))

pub returns-in-21 : goal.returns-in-21
unfolding text same cut is_space no_space grow_at words_from meaning_of words_for filled_row row_words
returns-in-21 c = spelled 21 (text "help commands") c.in-21.is (λ f es. refl)
