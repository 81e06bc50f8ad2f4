-- What a device asks of a session, by what is pending.
use Rattle.std.proofs.Common.{◌≡◌, ℕ, Bool, false, List, [], Option, Some, None, sym, subst}
use Rattle.std.specs.Prelude.{if◌then◌else◌}
use Rattle.std.specs.Option.{IsSomeAnd}
use Rattle.device.specs.declared.staged.Stage.{Stage}
use Rattle.device.specs.declared.staged.Stage.TheVariants as stages
use Rattle.device.specs.Devices.{Device, Pending}
use Rattle.device.specs.Lawful.{MayEnd, next_boot, no_failures}
use Rattle.histories.specs.Phases.{Duty, duty_in, idle}
use Rattle.law_histories.proofs.Facts.{none_at}

abbrev pub duty_by : Device → Option Pending → Duty
duty_by d o = elim o [
  | None ↦ record { origin = d.origin; phase = idle; items = d.set; counts = no_failures; boots = []; next_bootstrap = None; begun = false }
  | Some q ↦ duty_in d q
]

-- whose end may be recorded is the next one
pub next_is : (d : Device) (name : List ℕ) (o : Option Pending) → IsSomeAnd o (MayEnd name) → (duty_by d o).next_bootstrap ≡ Some name
next_is d name None may = absurd may
next_is d name (Some q) may = by q.stage may.1
  where
    by : (s : Stage) → next_boot (record q { stage = s }) ≡ Some name → (duty_in d (record q { stage = s })).next_bootstrap ≡ Some name
    by stages.Booting next = subst (λ (b : Bool). (if b then None else next_boot (record q { stage = stages.Booting })) ≡ Some name) (sym may.0) next
    by stages.Activating next = absurd (none_at q.ended name next)
    by stages.Backing next = subst (λ (b : Bool). (if b then None else next_boot (record q { stage = stages.Backing })) ≡ Some name) (sym may.0) next
    by stages.Rolling next = absurd (none_at q.ended name next)
