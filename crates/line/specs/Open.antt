-- Every definition that reading or refusing a line goes through, by one name: a proof that computes a line says `unfolding reading`,
-- or `unfolding refusing`.
-- Nothing is defined here.
use Rattle.std.specs.Prelude.{ℕ}
use Rattle.laws.specs.Text as Text
use Rattle.laws.specs.Lists as Lists
use Rattle.laws.specs.Refusals as Refusals
use Rattle.numbers.specs.Checksum as Checksum
use Rattle.numbers.specs.Reading as Number
use Rattle.words.specs.Cutting as Words
use Rattle.words.specs.Find as Find
use Rattle.command.specs.Settings as Settings
use Rattle.phrase.specs.Reading as Phrase
use Rattle.phrase.specs.Refusals as PhraseRefusals
use Rattle.phrase.specs.Place as PhrasePlace
use Rattle.line.specs.Reading as Line
use Rattle.line.specs.Refusals as LineRefusals
use Rattle.line.specs.Place as LinePlace

unfoldable open_bytes : ℕ
unfolding Text.text Text.same Lists.span Checksum.total Checksum.checksum
open_bytes = 0

unfoldable open_numbers : ℕ
unfolding Number.value_of Number.scan Number.digits_from Number.starts_hex Number.unsigned_from Number.read_address Number.read_number
    Number.read_pair
open_numbers = 0

unfoldable open_words : ℕ
unfolding Words.is_space Words.no_space Words.grow_at Words.words_from Words.cut Find.meaning_of
open_words = 0

unfoldable open_command : ℕ
unfolding Settings.axis_settings Settings.device_settings Settings.name_of
open_command = 0

unfoldable open_phrase : ℕ
unfolding Phrase.ended Phrase.one_number Phrase.read_move Phrase.read_setting Phrase.read_get Phrase.read_set Phrase.read_storepos
    Phrase.read_parking Phrase.read_tools Phrase.read_warnings Phrase.read_help Phrase.read_command
open_phrase = 0

unfoldable open_line : ℕ
unfolding Line.printable Line.no_colon Line.is_end Line.is_footer Line.checked Line.parted Line.after_slash Line.slashed Line.frame_of
    Line.begins_number Line.starts_number Line.axis_digit Line.axis_of Line.read_words Line.read_line Line.read_asked
open_line = 0

unfoldable pub reading : ℕ
unfolding open_bytes open_numbers open_words open_command open_phrase open_line
reading = 0

-- the same for a line's refusal and its place, as the tables say them
unfoldable open_tables : ℕ
unfolding Lists.fold Refusals.first_of PhraseRefusals.begin_so PhraseRefusals.just_so PhraseRefusals.bad_command PhraseRefusals.bad_data
    PhrasePlace.other_words_fit PhrasePlace.first_refused PhrasePlace.place_among PhrasePlace.words_place
open_tables = 0

unfoldable open_refusals : ℕ
unfolding LineRefusals.footer_size LineRefusals.body LineRefusals.too_long LineRefusals.not_line LineRefusals.checksum_right LineRefusals.bad_sum
    LineRefusals.content LineRefusals.bad_address LineRefusals.behind_axis LineRefusals.own LineRefusals.words_in LineRefusals.refusal_of
    LinePlace.address_place LinePlace.place_with LinePlace.place_of
open_refusals = 0

unfoldable pub refusing : ℕ
unfolding open_bytes open_numbers open_words open_command open_phrase open_line open_tables open_refusals
refusing = 0
