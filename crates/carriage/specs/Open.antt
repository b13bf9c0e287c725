-- Every definition that the answer to a line goes through, by one name: a proof that computes an answer says `unfolding answering`.
-- Nothing is defined here.
use Rattle.std.specs.Prelude.{ℕ}
use Rattle.laws.specs.Lists as LawsLists
use Rattle.laws.specs.Refusals as LawsRefusals
use Rattle.laws.specs.Text as LawsText
use Rattle.numbers.specs.Checksum as NumberChecksum
use Rattle.numbers.specs.Decimal as NumberDecimal
use Rattle.flags.specs.Flags as Flags
use Rattle.command.specs.Settings as CommandSettings
use Rattle.settings.specs.Record as SettingsRecord
use Rattle.axis.specs.Aim as AxisAim
use Rattle.axis.specs.Good as AxisGood
use Rattle.axis.specs.Moves as AxisMoves
use Rattle.axis.specs.Record as AxisRecord
use Rattle.axis.specs.Travel as AxisTravel
use Rattle.device.specs.Each as StateEach
use Rattle.device.specs.Good as StateGood
use Rattle.device.specs.Record as StateRecord
use Rattle.rules.specs.Effects as DeviceEffects
use Rattle.rules.specs.Refusals as DeviceRefusals
use Rattle.reply.specs.Data as Data
use Rattle.reply.specs.Help as Help
use Rattle.reply.specs.Reply as Reply
use Rattle.view.specs.View as View
use Rattle.view.specs.Data as ShownData
use Rattle.line.specs.Open.{reading}
use Rattle.carriage.specs.Step as Step

unfoldable open_laws : ℕ
unfolding LawsLists.fold LawsLists.span LawsLists.change_first LawsLists.change_from LawsRefusals.first_of LawsText.text LawsText.same
    LawsText.spaced
open_laws = 0

unfoldable open_number : ℕ
unfolding NumberChecksum.sum_text NumberDecimal.last_digit NumberDecimal.digits_within NumberDecimal.digits NumberDecimal.decimal
    NumberDecimal.two_digits NumberDecimal.hex_digit NumberDecimal.hex_pair
open_number = 0

unfoldable open_flags : ℕ
unfolding Flags.warning_names Flags.bits Flags.mask Flags.active Flags.either Flags.named Flags.count Flags.first
open_flags = 0

unfoldable open_command : ℕ
unfolding CommandSettings.axis_settings CommandSettings.device_settings CommandSettings.name_of
open_command = 0

unfoldable open_settings : ℕ
unfolding SettingsRecord.fresh_settings
open_settings = 0

unfoldable open_axis : ℕ
unfolding AxisAim.aim AxisGood.good_axis AxisMoves.moved AxisMoves.store AxisRecord.stopped AxisRecord.fresh_axis AxisTravel.stored
    AxisTravel.may_move_to AxisTravel.may_run_at AxisTravel.may_store
open_axis = 0

unfoldable open_state : ℕ
unfolding StateEach.stretch_of StateGood.good StateGood.may_be_fresh StateGood.ask_fresh StateRecord.many StateRecord.axes_of StateRecord.on_axes
    StateRecord.fresh
open_state = 0

unfoldable open_device : ℕ
unfolding DeviceEffects.next DeviceEffects.obey DeviceRefusals.bad_axis DeviceRefusals.device_only DeviceRefusals.no_access
    DeviceRefusals.parked DeviceRefusals.status_busy DeviceRefusals.bad_data DeviceRefusals.refusal
open_device = 0

unfoldable open_data : ℕ
unfolding Data.values Data.warnings_in Data.warning_list Data.echoed Data.refusal_name
open_data = 0

unfoldable open_reply : ℕ
unfolding Reply.verdict Reply.status Reply.highest Reply.body Reply.ending Reply.reply Reply.info_body Reply.info Reply.joined Help.help_texts
    Help.info_lines
open_reply = 0

unfoldable open_view : ℕ
unfolding View.warnings_of View.shown_axis View.busy View.head_of View.values_of
open_view = 0

unfoldable open_shown : ℕ
unfolding ShownData.parked_data ShownData.data_of
open_shown = 0

unfoldable open_step : ℕ
unfolding Step.silent Step.written Step.wants_sum Step.reply_of Step.rejected Step.infos_of Step.accepted Step.obeyed Step.concerns
    Step.silence Step.respond Step.step
open_step = 0

unfoldable pub answering : ℕ
unfolding reading open_laws open_number open_flags open_command open_settings open_axis open_state open_device open_data open_reply open_view
    open_shown open_step
answering = 0
