-- A history, what it leaves outside, where the objects of a session are, and the history of a whole call.
use Rattle.std.specs.Prelude.{◌≡◌, ◌⊎◌, ◌≤◌, ◌↔◌, ℕ, Bool, true, false, List, ◌++◌, None, Contains}
use Rattle.std.specs.List.{list_any}
use Rattle.nuc_base.specs.declared.status.Status.{Status}
use Rattle.nuc_base.specs.declared.status.Status.TheVariants as statuses
use Rattle.records.specs.Stored.{Record}
use Rattle.device.specs.Devices.{Device}
use Rattle.device.specs.Lawful.{Run}
use Rattle.step_runner.specs.Entries.{HasGrownBy, Told}
use Rattle.components.specs.Components.{Components, is_childless, is_stopped}
use Rattle.components.specs.Turns.{IsQuiet, owes}
use Rattle.components.specs.Answers.{has_answered}
use Rattle.components.specs.Events.{later}
use Rattle.histories.specs.Phases.{duty_of, is_idle, is_current, is_shutting_down}
use Rattle.histories.specs.TraceEvents.{TraceEvent, records_of, entries_of}
use Rattle.histories.specs.States.{SessionState, beginning, state_after}
use Rattle.histories.specs.Follows.{IsProper, IsLiving}

-- From a state on this happened. The records are those that were added, each lawful in order, and the entries those that the runner told.
pub record Course (p : SessionState) (h : List TraceEvent) (old new : Told) (old_kept new_kept : List Record) : Type 0 where
  pub proper : IsProper p h
  pub list : HasGrownBy old.list new.list (entries_of h)
  pub kept : new_kept ≡ old_kept ++ records_of h
  pub lawful : Run p.device (records_of h) (state_after p h).device

-- The device, the components and the runner are where the history leaves them. The supervisor may not know yet of the moment that was asked for last.
pub record IsStateOf (p : SessionState) (device : Device) (world : Components) (told : Told) (living : List ℕ) : Type 0 where
  pub device_is : p.device ≡ device
  pub world_is : p.world ≡ later told.moment world
  pub answered : has_answered world ≡ true
  pub not_before : world.moment ≤ told.moment
  pub asked : told.asked ≡ p.fresh
  pub children : (n : ℕ) → Contains living n ↔ IsLiving n p

-- No component may act by the moment that was told last.
abbrev pub IsAtRest : Told → Components → Type 0
IsAtRest told world = IsQuiet (later told.moment world)

-- no child lives
pub record IsBare (p : SessionState) : Type 0 where
  pub parts : is_childless p.world ≡ true
  pub boot : p.boot ≡ None

-- ---- a call that comes back with the device in hand

-- Nothing is pending and nothing is open. The components are those of the stage that was closed, or none stands. From
-- here all may be stopped, or the next document is taken.
pub record IsBack (p : SessionState) : Type 0 where
  pub idle_is : is_idle (duty_of p.device).phase ≡ true
  pub going : is_shutting_down p.generation ≡ false
  pub there : (is_current p.generation ≡ true) ⊎ (is_stopped p.world ≡ true)
  pub boot : p.boot ≡ None
  pub boot_end : p.boot_end ≡ None
  pub owes_none : list_any owes p.world.parts ≡ false
  pub over : p.over ≡ false
  pub cut : p.cut ≡ false

-- ---- a whole call

-- with these the call gives up: its children are killed where they are
abbrev pub gives_up : Status → Bool
gives_up statuses.Disk = true
gives_up statuses.Edge = true
gives_up statuses.Memory = true
gives_up s = false

-- with these a failure of the disk or of a stream left the last failures without a record
abbrev pub leaves_open : Status → Bool
leaves_open statuses.Disk = true
leaves_open statuses.Edge = true
leaves_open s = false

abbrev pub is_restart : Status → Bool
is_restart statuses.Restart = true
is_restart statuses.Reboot = true
is_restart s = false

abbrev pub IsStart : SessionState → Type 0
IsStart p = p ≡ beginning p.serves p.turns p.device p.world.moment p.fresh

-- What a call leaves that answers this status; `rose` says whether the disk failed in it.
pub record IsEnd (p : SessionState) (status : Status) (rose : Bool) : Type 0 where
  pub bare : IsBare p
  pub stopped : gives_up status ≡ false → is_stopped p.world ≡ true
  pub cut : p.cut ≡ true → gives_up status ≡ true
  pub owes_none : leaves_open status ≡ false → list_any owes p.world.parts ≡ false
  pub recorded : (p.boot_end ≡ None) ⊎ ((leaves_open status ≡ true) × (rose ≡ true))
  pub restarts : is_restart status ≡ true → p.over ≡ true
  pub over : p.over ≡ true → (is_restart status ≡ true) ⊎ (gives_up status ≡ true)

-- the history of a call, from its start to its end
pub record IsWhole (p : SessionState) (h : List TraceEvent) (status : Status) (rose : Bool) : Type 0 where
  pub start : IsStart p
  pub proper : IsProper p h
  pub end : IsEnd (state_after p h) status rose

-- All components are stopped, as a call stops them that was come back from: with their shutdown steps, and none killed but by its component.
pub record IsStopping (p : SessionState) (h : List TraceEvent) : Type 0 where
  pub back : IsBack p
  pub proper : IsProper p h
  pub stopped : is_stopped (state_after p h).world ≡ true
  pub cut : (state_after p h).cut ≡ false
