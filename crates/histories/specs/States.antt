-- What a history leaves: the device, the components, the bootstrap, and how far the call is.
use Rattle.std.specs.Prelude.{ℕ, ◌==◌, ◌-◌, Bool, true, false, ◌&&◌, ◌||◌, List, [], ◌∷◌, Option, Some, None, is_none, is_some, if◌then◌else◌, pos}
use Rattle.std.specs.Ordering.{int_eq}
use Rattle.nuc_base.specs.declared.kinds.Step.{Step}
use Rattle.nuc_base.specs.declared.kinds.Step.TheVariants as step
use Rattle.nuc_base.specs.declared.kinds.Exit.{Exit}
use Rattle.nuc_base.specs.declared.kinds.Exit.TheVariants as exits
use Rattle.records.specs.Stored.{Record, Accepted, BootEnded, StepFailed, Closed}
use Rattle.device.specs.Devices.{Device}
use Rattle.device.specs.Lawful.{applied, goes_on}
use Rattle.step_runner.specs.declared.entries.Seen.{Seen}
use Rattle.step_runner.specs.declared.entries.Seen.TheVariants as seen
use Rattle.components.specs.Components.{Components, Child, owner, child_gone, is_stopped}
use Rattle.components.specs.Deadlines.{deadline_after}
use Rattle.components.specs.Lives.{lived_at}
use Rattle.components.specs.Events.{started, refused, skipped, killed, ended, heard_at, heard_of, later}
use Rattle.components.specs.Changes.{changed_to, all_stopped, steadied}
use Rattle.components.specs.declared.kinds.Prepared.{Prepared}
use Rattle.histories.specs.Phases.{duty_of, is_idle, begins_stage, Generation, previous, draining, current, shutting_down}
use Rattle.histories.specs.TraceEvents.{TraceEvent, Answer, Ran, Booted, WaitElapsed, KilledOnAbort, Recorded, Moved, ReadClock, Heard, InboxAsked, Changed}
use Rattle.histories.specs.TraceEvents.{StopsAll}

pub record SessionState : Type 0 where
  pub serves : Bool  -- the call is `serve`
  pub device : Device
  pub world : Components
  pub generation : Generation  -- who the components are
  pub opened : Bool  -- in `serve`: the set was brought up where nothing was pending
  pub turns : ℕ  -- in `serve`: how often the inbox may still be asked
  pub answer : Option Answer  -- in `serve`: what the inbox answered, while that stands open
  pub taken : Bool  -- a document was taken in this call, or one is pending since before it
  pub boot : Option Child  -- the bootstrap that lives
  pub boot_end : Option Exit  -- an end of a bootstrap that is not recorded yet
  pub probed : Bool  -- the step that is to be started was just probed, and is not to be skipped
  pub fresh : Bool  -- a moment was asked for since the last entry
  pub due : Bool  -- a moment has to be asked for before the next entry
  pub over : Bool  -- the device is to be restarted: the call ends here
  pub cut : Bool  -- the call has given up

-- The call begins: nothing stands, and a moment is asked for before the first entry.
abbrev pub beginning : Bool → ℕ → Device → ℕ → Bool → SessionState
beginning serves turns d moment fresh = record {
  serves = serves;
  device = d;
  world = record { parts = []; moment = moment; steady = true };
  generation = draining;
  opened = false;
  turns = turns;
  answer = None;
  taken = is_some d.pending;
  boot = None;
  boot_end = None;
  probed = false;
  fresh = fresh;
  due = true;
  over = false;
  cut = false;
}

abbrev pub is_wait : Seen → Bool
is_wait (seen.Ended n e l) = true
is_wait (seen.Elapsed l) = true
is_wait s = false

-- a probe that answered no
abbrev pub says_no : Seen → Bool
says_no (seen.Exists x false) = true
says_no (seen.OnPath x false) = true
says_no s = false

-- the wait of a turn in which the inbox had nothing
abbrev pub waited_for : Seen → Option Answer → Option Answer
waited_for s a = if is_wait s then None else a

abbrev pub noted : Seen → SessionState → SessionState
noted s p = record p { probed = says_no s; fresh = false; due = is_wait s; answer = waited_for s p.answer }

-- an entry for a step of the component of this number
abbrev pub ran : Seen → ℕ → Step → Components → Components
ran (seen.Started n c) k s w = started k s n w
ran (seen.Refused c) k s w = refused k s w
ran (seen.Killed n) k s w = killed n w
ran (seen.Exists x true) k s w = skipped k w
ran (seen.Exists x false) k s w = w
ran (seen.OnPath x true) k s w = skipped k w
ran (seen.OnPath x false) k s w = w
ran (seen.Ended n e l) k s w = ended n e w
ran (seen.Elapsed l) k s w = w

-- the bootstrap was skipped: it counts as done
abbrev pub boot_skipped : SessionState → SessionState
boot_skipped p = record p { boot_end = Some (exits.Code (pos 0)) }

abbrev pub booted : Seen → Prepared → SessionState → SessionState
booted (seen.Started n c) m p = record p { boot = Some (record { number = n; of = step.Bootstrap; deadline = deadline_after m.limit_ms p.world.moment }) }
booted (seen.Refused c) m p = record p { boot_end = Some exits.NotStarted }
booted (seen.Killed n) m p = record p { boot = None; boot_end = Some exits.TimedOut }
booted (seen.Exists x true) m p = boot_skipped p
booted (seen.Exists x false) m p = p
booted (seen.OnPath x true) m p = boot_skipped p
booted (seen.OnPath x false) m p = p
booted (seen.Ended n e l) m p = record p { boot = None; boot_end = Some e }
booted (seen.Elapsed l) m p = p

-- a record and the components: a failure is recorded, and at a close all failures are forgotten
abbrev pub kept_by : Record → Components → Components
kept_by (StepFailed n s e) w = heard_of n w
kept_by (Closed o) w = steadied w
kept_by r w = w

abbrev pub ends_boot : Record → Bool
ends_boot (BootEnded n e) = true
ends_boot r = false

-- a stage begins, and with it a document is taken
abbrev pub takes_document : Record → Bool
takes_document (Accepted x) = true
takes_document r = false

-- Where a stage begins, those that stand are those of before it; where none stands, all are stopped already.
abbrev pub generation_after : Record → Components → Generation → Generation
generation_after r w c = if begins_stage r then (if is_stopped w then draining else previous) else c

-- an end that asks for a restart or a reboot
abbrev pub asks_restart : Exit → Bool
asks_restart (exits.Code z) = int_eq z (pos 100) || int_eq z (pos 101)
asks_restart e = false

-- A bootstrap's end after which the device is restarted: it asked for that, or was the last one and good. It leaves this device.
abbrev pub restarts : Record → Device → Bool
restarts (BootEnded n e) d = asks_restart e || (goes_on e && is_none (duty_of d).next_bootstrap)
restarts r d = false

abbrev pub kept : Record → SessionState → SessionState
kept r p = record p {
  device = applied p.device r;
  world = kept_by r p.world;
  generation = generation_after r p.world p.generation;
  answer = if takes_document r then None else p.answer;
  taken = p.taken || takes_document r;
  boot_end = if ends_boot r then None else p.boot_end;
  probed = false;
  over = restarts r (applied p.device r);
}

-- the child of this number lives no more, whosever it is
abbrev pub cut_child : ℕ → Components → Components
cut_child n w = elim (owner n w.parts) [ None ↦ w | Some o ↦ child_gone o.0 n w ]

abbrev pub cut_boot : ℕ → Option Child → Option Child
cut_boot n None = None
cut_boot n (Some c) = if c.number == n then None else Some c

abbrev pub cut_off : Seen → SessionState → SessionState
cut_off (seen.Killed n) p = record p { world = cut_child n p.world; boot = cut_boot n p.boot; cut = true }
cut_off s p = record p { cut = true }

abbrev pub leaves : SessionState → TraceEvent → SessionState
leaves p (Ran e k s) = noted e.seen (record p { world = ran e.seen k s p.world })
leaves p (Booted e m) = noted e.seen (booted e.seen m p)
leaves p (WaitElapsed e) = noted e.seen p
leaves p (KilledOnAbort e) = noted e.seen (cut_off e.seen p)
leaves p (Recorded r) = kept r p
leaves p (Moved k e) = record p { world = lived_at k e p.world; probed = false }
leaves p (ReadClock m) = record p { world = later m p.world; fresh = true; probed = false }
leaves p (Heard k) = record p { world = heard_at k p.world; probed = false }
leaves p (InboxAsked a) = record p { answer = Some a; turns = p.turns - 1; probed = false }
leaves p (Changed f c b) = record p {
  world = changed_to f c b p.world;
  generation = current;
  opened = p.opened || is_idle (duty_of p.device).phase;
  probed =
      false;
}
leaves p StopsAll = record p { world = all_stopped p.world; generation = if is_idle (duty_of p.device).phase then shutting_down else draining; probed = false }

-- what a history leaves that began in a state
abbrev pub state_after : SessionState → List TraceEvent → SessionState
state_after p [] = p
state_after p (e ∷ h) = leaves (state_after p h) e
