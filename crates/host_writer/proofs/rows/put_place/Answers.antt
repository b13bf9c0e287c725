-- `host_writer::rows::put_place` meets its contract: what stands for each name, or the word itself.
use mathlib.Core.List.{append-nil}
use native.Mathlib.Omega.{arith}
use Rattle.laws.specs.Text.{text}
use Rattle.laws.proofs.Spaced.{trail}
use Rattle.words.specs.Cutting.{is_space, no_space, grow_at, words_from, cut}
use Rattle.std.specs.Option.{unwrap_or}
use Prim.Native.Nat.{◌≤◌}
use Rattle.host_writer.proofs.RowWalks.{behind_names, stands, stands_itself}
use Rattle.host_writer.proofs.rows.put_place.Goals as goal
use Rattle.host_writer.proofs.rows.put_place.Goals.{in_default-via-in-Some+in_default, in_default-via-in_default}

pub returns-in-Some-eq0 : goal.returns-in-Some-eq0
unfolding trail text cut is_space no_space grow_at words_from
returns-in-Some-eq0 c =
    let arm = c.in-Some-eq0 in
    rw (← stands _ _ _ _ c.find_word.ensures, arm.is, arm.field-0-test, append-nil) c.put_numbered.ensures

pub returns-in-Some-eq1 : goal.returns-in-Some-eq1
unfolding trail text cut is_space no_space grow_at words_from
returns-in-Some-eq1 c =
    let arm = c.in-Some-eq1 in
    rw (← stands _ _ _ _ c.find_word.ensures, arm.is, arm.field-0-test, append-nil) c.put_numbered-in-Some-eq1.ensures

pub returns-in-Some-eq2 : goal.returns-in-Some-eq2
unfolding trail text cut is_space no_space grow_at words_from
returns-in-Some-eq2 c =
    let arm = c.in-Some-eq2 in
    rw (← stands _ _ _ _ c.find_word.ensures, arm.is, arm.field-0-test, append-nil) c.put_setting.ensures

pub returns-in-Some-eq3 : goal.returns-in-Some-eq3
unfolding trail text cut is_space no_space grow_at words_from
returns-in-Some-eq3 c =
    let arm = c.in-Some-eq3 in
    rw (← stands _ _ _ _ c.find_word.ensures, arm.is, arm.field-0-test) c.put_message.ensures

pub returns-in_default : goal.returns-in_default
unfolding trail text cut is_space no_space grow_at words_from
returns-in_default c =
    let past : 4 ≤ unwrap_or c.find_word.result 4 =
    elim c.in_default.branch [
      | in_default-via-in-Some+in_default w ↦ behind_names c.find_word.result w.in_default.field-0-test (cc)
      | in_default-via-in_default w ↦ rw w.in_default.is (omega arith)
    ]
    in
    rw (← stands_itself _ _ _ _ c.find_word.ensures past, append-nil) c.put_word.ensures
