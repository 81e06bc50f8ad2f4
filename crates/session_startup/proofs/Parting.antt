-- A stage by itself, behind what was done in it as one of both.
use Rattle.std.specs.Prelude.{ℕ, Bool, true, false, Some, List, ◌++◌}
use Rattle.std.proofs.Common.{◌≡◌, sym, ap, subst}
use Rattle.disk_model.specs.Disk.{Image}
use Rattle.nuc_base.specs.declared.kinds.Outcome.{Outcome}
use Rattle.device.specs.Devices.{Device}
use Rattle.deploy_state.specs.States.{OwnsActivating, OwnsRolling, activating_device, rolling_device}
use Rattle.deploy_state.specs.declared.state.Activating.{Activating}
use Rattle.deploy_state.specs.declared.state.Rolling.{Rolling}
use Rattle.step_runner.specs.Entries.{Told}
use Rattle.components.specs.Components.{Components}
use Rattle.histories.specs.Phases.{Generation}
use Rattle.histories.specs.TraceEvents.{TraceEvent, records_of}
use Rattle.histories.specs.States.{SessionState, state_after}
use Rattle.histories.proofs.Joined.{left-append}
use Rattle.session_startup.specs.Coming.{OwnsComing, coming_device}
use Rattle.session_startup.specs.Ended.{ClosesAs, ClosesLast, HasBroken, HasClosed}
use Rattle.session_startup.specs.Runs.{HasNoActLeft}
use Rattle.session_startup.proofs.Entering.{comes_of}
use Rattle.session_startup.specs.Turns.{TurnLeft}
use Rattle.session_startup.specs.declared.coming.Coming.{Coming}
use Rattle.session_startup.specs.declared.coming.Coming.TheVariants as coming
use Rattle.session_startup.specs.declared.turns.Turned.{Turned}

pub apart : true ≡ false → ⊥
apart is = absurd cc

pub left_plan : {J : Type 0} (s : Coming J) (a : Activating J) (k t : Turned) (q : SessionState) (world : Components) (told : Told) (living : List ℕ) →
    s ≡ coming.Plan a → k ≡ t → TurnLeft (Some k) q (coming_device s) world told living → TurnLeft (Some t) q (activating_device a) world told living
left_plan s a k t q world told living is kind h = subst (λ (x : Turned). TurnLeft (Some x) q (activating_device a) world told living) kind
    (subst (λ (d : Device). TurnLeft (Some k) q d world told living) (ap coming_device is) h)

pub left_set : {J : Type 0} (s : Coming J) (a : Rolling J) (k t : Turned) (q : SessionState) (world : Components) (told : Told) (living : List ℕ) →
    s ≡ coming.Set a → k ≡ t → TurnLeft (Some k) q (coming_device s) world told living → TurnLeft (Some t) q (rolling_device a) world told living
left_set s a k t q world told living is kind h = subst (λ (x : Turned). TurnLeft (Some x) q (rolling_device a) world told living) kind
    (subst (λ (d : Device). TurnLeft (Some k) q d world told living) (ap coming_device is) h)

pub held_plan : {J D : Type 0} (is_modelled : Bool) (may_leave : D → Image → Type 0) (stands : J → Image → List (List ℕ) → Type 0) (end : J → ℕ)
    (s : Coming J) (a : Activating J) (disk : D) → s ≡ coming.Plan a → OwnsComing is_modelled may_leave stands end s disk →
    OwnsActivating is_modelled may_leave stands end a disk
held_plan is_modelled may_leave stands end s a disk is h = subst (λ (x : Coming _). OwnsComing is_modelled may_leave stands end x disk) is h

pub held_set : {J D : Type 0} (is_modelled : Bool) (may_leave : D → Image → Type 0) (stands : J → Image → List (List ℕ) → Type 0) (end : J → ℕ) (s : Coming J)
    (a : Rolling J) (disk : D) → s ≡ coming.Set a → OwnsComing is_modelled may_leave stands end s disk → OwnsRolling is_modelled may_leave stands end a disk
held_set is_modelled may_leave stands end s a disk is h = subst (λ (x : Coming _). OwnsComing is_modelled may_leave stands end x disk) is h

-- where it closed last, that is the last record
pub closes_as : (o : Outcome) (h : List TraceEvent) → ClosesLast o h → ClosesAs o (records_of h)
closes_as o h last = (records_of last.0, ap (λ (l : List TraceEvent). records_of l) last.1)

-- the last of the second part is that of both
pub closes_on : (o : Outcome) (h g : List TraceEvent) → ClosesLast o g → ClosesLast o (g ++ h)
closes_on o h g last = (last.0 ++ h, ap (λ (l : List TraceEvent). l ++ h) last.1)

pub closed_on : (o : Outcome) (c : Generation) (p : SessionState) (h g : List TraceEvent) (d : Device) (world : Components) (told : Told) (living : List ℕ) →
    HasClosed o c g (state_after (state_after p h) g) d world told living → HasClosed o c (g ++ h) (state_after p (g ++ h)) d world told living
closed_on o c p h g d world told living is = subst (λ (q : SessionState). HasClosed o c (g ++ h) q d world told living) (sym (left-append p g h)) (record {
  stands = is.stands;
  back = is.back;
  generation_is = is.generation_is;
  quiet = is.quiet;
  orderly = is.orderly;
  closed = closes_on o h g is.closed;
})

pub broken_of : (q : SessionState) (d : Device) (world : Components) (told : Told) (living : List ℕ) → HasNoActLeft q d true world told living →
    HasBroken q d world told living
broken_of q d world told living r = record { comes = comes_of q d world told living r.runs r.device_is; quiet = r.quiet; counts = r.counts }
