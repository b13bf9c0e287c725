-- Whatever comes, in whatever order: from a fresh record, every record reached is good and has its four axis places.
-- Over every list of lines, with the buffers lent for them, and of motor reports. Assumes nothing.
use mathlib.Core.Path.{◌≡◌, refl, sym, ap, ◌∙◌}
use mathlib.Core.Bool.{Bool, true, false, cond}
use mathlib.Core.List.{List, [], ◌∷◌}
use Prim.Native.Nat.{ℕ, ◌-◌}
use mathlib.Core.Logic.{⊎_elim}
use Rattle.laws.proofs.Refusals.{accepted_or}
use lib.ListN.{length}
use Rattle.laws.proofs.Walks.{length_change}
use Rattle.units.specs.Units.{place}
use Rattle.units.specs.declared.Number.{Number}
use Rattle.axis.specs.declared.reports.Report.{Report as Motor}
use Rattle.axis.specs.Reports.{report_of}
use Rattle.axis.specs.Reports as Axis
use Rattle.device.specs.declared.Device.{Device}
use Rattle.device.specs.declared.Outcome.{Outcome}
use Rattle.device.specs.Record.{many, on_axes, fresh}
use Rattle.device.specs.Good.{good, may_be_fresh, ask_fresh}
use Rattle.device.proofs.FreshGood.{fresh_good}
use Rattle.rules.specs.Effects.{obey}
use Rattle.rules.specs.Reports as Device
use Rattle.rules.proofs.RefusalKeeps.{accepted_next, report_keeps, report_next}
use Rattle.rules.proofs.GoodStays.{report_good}
use Rattle.rules.proofs.BeyondCount.{places_stay}
use Rattle.carriage.specs.Step.{silent, written, rejected, accepted, step}
use Rattle.carriage.specs.Report.{report}
use Rattle.carriage.proofs.Demands.{every_answer, good_goes_on}
use Rattle.carriage.proofs.Room.{by_report}

-- what can come: a line with the buffer lent for its answer, or a motor report with its three numbers and the buffer lent for its alert
pub data Event : Type 0 where
  line : List ℕ → List ℕ → Event
  motor : Number → Number → Number → List ℕ → Event

-- the record after an event
abbrev pub after : Device → Event → Device
after d (line l b) = (step d l b).answer.next
after d (motor axis kind last b) = (report d axis kind last b).answer.next

-- the record that a list of events leads to
unfoldable pub reached : Device → List Event → Device
reached d [] = d
reached d (e ∷ es) = reached (after d e) es

-- "One device record holds four axis places"
pub record Well (d : Device) : Type 0 where
  pub good : good d ≡ true
  pub places : length d.axes ≡ 4

-- ---- the places stay
step_places : (d : Device) (l b : List ℕ) → length (step d l b).answer.next.axes ≡ length d.axes
unfolding silent rejected accepted written obey
step_places d l b =
    every_answer (λ s. length s.answer.next.axes ≡ length d.axes) d l b refl (λ n k g. refl)
    (λ k c es g e w. ap (λ (x : Device). length x.axes) (sym (accepted_next d k c e)) ∙ places_stay d k c)

report_places : (d : Device) (axis : Number) (r : Motor) → length (Device.report d axis r).next.axes ≡ length d.axes
unfolding on_axes
report_places d axis r =
    let k = place axis.0 in
    ⊎_elim (λ e. ap (λ (x : Device). length x.axes) (report_next d axis r e) ∙ length_change (Axis.reported r) (k - 1) (many d k) d.axes)
    (λ h. ap (λ (x : Device). length x.axes) (report_keeps d axis r h))
    (accepted_or (Device.report d axis r).verdict)

-- one event
pub well_after : (d : Device) (e : Event) → Well d → Well (after d e)
unfolding silent written
well_after d (line l b) w = record { good = good_goes_on d l b w.good; places = step_places d l b ∙ w.places }
well_after d (motor axis kind last b) w = by_report (λ s. Well s.answer.next) d axis kind last b (λ h. w) (λ h z. reported) reported
  where
    reported : Well (Device.report d axis (report_of kind last)).next
    reported = record {
      good = report_good d axis (report_of kind last) w.good;
      places = report_places d axis (report_of kind last) ∙ w.places;
    }

-- any events, any number of them
pub stays_well : (d : Device) (es : List Event) → Well d → Well (reached d es)
unfolding reached
stays_well d [] w = w
stays_well d (e ∷ es) w = stays_well (after d e) es (well_after d e w)

-- ---- the fresh record, whatever it is asked for with
module _ (address : Number) (count : ℕ) (id : Number) where
  fresh_places : length (ask_fresh address count id).next.axes ≡ 4
  unfolding ask_fresh fresh
  fresh_places = go (may_be_fresh address count id) _ _ refl refl
    where
      go : (t : Bool) (x y : Outcome) → length x.next.axes ≡ 4 → length y.next.axes ≡ 4 → length (cond t x y).next.axes ≡ 4
      go true x y p q = p
      go false x y p q = q

  pub fresh_well : Well (ask_fresh address count id).next
  fresh_well = record { good = fresh_good address count id; places = fresh_places }

  -- From every fresh record, whatever comes: the record is good, and has its four places.
  pub good_for_ever : (es : List Event) → Well (reached (ask_fresh address count id).next es)
  good_for_ever es = stays_well (ask_fresh address count id).next es fresh_well
