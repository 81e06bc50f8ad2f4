use Rattle.std.specs.Prelude.{ℕ, [], length, false}
use Rattle.std.proofs.Common.{◌≡◌, ◌+◌, ◌++◌, ◌∙◌, refl, sym, ap, subst, arith}
use Rattle.std.proofs.KnownBytes.{Appends-nil}
use Rattle.std.proofs.lemmas.Bool.{false≢true}
use Rattle.nuc_base.specs.declared.status.Status.TheVariants as statuses
use Rattle.device.specs.Devices.{Device}
use Rattle.deploy_state.specs.States.{idle_device}
use Rattle.step_runner.specs.Entries.{Listed}
use Rattle.histories.specs.States.{state_after}
use Rattle.session_serving.specs.Causes.{IsCaused, observation}
use Rattle.session_serving.specs.Documents.{IsDeployedThere}
use Rattle.session_serving.specs.Parts.{outside}
use Rattle.session_serving.specs.Rounds.{Spent, WantOfMemory}
use Rattle.session_serving.specs.Served.{ended_line}
use Rattle.session_serving.specs.Turns.{HasEnded, TurnsLeft, status_of_turned}
use Rattle.session_serving.specs.declared.turned.Turned.{Turned}
use Rattle.session_serving.proofs.Causing.{caused_line, caused_none, caused_on, memory_quiet, over_other}
use Rattle.session_serving.proofs.Ending.{ended, over_none, served_over, served_shut}
use Rattle.session_serving.proofs.Held.{held_on, held_shut, shut_up, turned_up}
use Rattle.session_serving.proofs.Joining.{goes_acts, stands_acts, sure_acts}
use Rattle.session_serving.proofs.Turning.{never_memory}
use Rattle.session_serving.proofs.calls.serve_turns.Goals as goal

none_left : (left gone most all : ℕ) → left + gone ≡ all → gone ≡ most → all ≡ most → left ≡ 0
none_left left gone most all a b d = omega (arith, a, b, d)

-- ---- the inbox was asked often enough

pub stop_spent-requires-clause-up : goal.stop_spent-requires-clause-up
stop_spent-requires-clause-up g c =
    (idle_device c.in-On.idle, turned_up c.take_turns.result c.in-On.idle (g.S.Supervise.world c.take_turns.new.supervisor) c.in-On.is c.take_turns.ensures.up)

pub stop_spent-requires-clause-from_state : goal.stop_spent-requires-clause-from_state
stop_spent-requires-clause-from_state g c =
    let q = c.requires.from_state in
    let p = q.0 in
    let old = outside g.D.Disk g.K.Sink g.R.Runner g.L.Library g.I.Inbox c.args.disk.now c.args.sink.now c.args.runner.now c.args.library.now c.args.inbox.now
    in
    let mid = outside g.D.Disk g.K.Sink g.R.Runner g.L.Library g.I.Inbox c.take_turns.new.disk c.take_turns.new.sink c.take_turns.new.runner
    c.take_turns.new.library c.take_turns.new.inbox in
    let told = Listed g.R.Runner.list g.R.Runner.told g.R.Runner.asked c.take_turns.new.runner in
    let t = c.take_turns.ensures.left p q.1 q.2 in
    let l = subst (λ (x : Turned _). TurnsLeft g.D.Disk g.J.Journal IsDeployedThere x c.args.turns old mid p t.0 (g.S.Supervise.world c.take_turns.new.supervisor) told
    (g.R.Runner.living c.take_turns.new.runner)) c.in-On.is t.1 in
    (state_after p t.0, idle_device c.in-On.idle, l.3, none_left (state_after p t.0).turns (length l.0) c.args.turns p.turns l.1.turns l.2 q.2)

pub returns-then-not-stop_spent-clause-served : goal.returns-then-not-stop_spent-clause-served
returns-then-not-stop_spent-clause-served g c = λ p serving full.
    let old = outside g.D.Disk g.K.Sink g.R.Runner g.L.Library g.I.Inbox c.args.disk.now c.args.sink.now c.args.runner.now c.args.library.now c.args.inbox.now
    in
    let mid = outside g.D.Disk g.K.Sink g.R.Runner g.L.Library g.I.Inbox c.take_turns.new.disk c.take_turns.new.sink c.take_turns.new.runner
    c.take_turns.new.library c.take_turns.new.inbox in
    let new = outside g.D.Disk g.K.Sink g.R.Runner g.L.Library g.I.Inbox c.take_turns.new.disk c.take_turns.new.sink c.stop_spent.new.runner
    c.take_turns.new.library c.take_turns.new.inbox in
    let told = Listed g.R.Runner.list g.R.Runner.told g.R.Runner.asked c.take_turns.new.runner in
    let t = c.take_turns.ensures.left p serving full in
    let l = subst (λ (x : Turned _). TurnsLeft g.D.Disk g.J.Journal IsDeployedThere x c.args.turns old mid p t.0 (g.S.Supervise.world c.take_turns.new.supervisor) told
    (g.R.Runner.living c.take_turns.new.runner)) c.in-On.is t.1 in
    let q = state_after p t.0 in
    let k = c.stop_spent.ensures.killed c.if-not-stop_spent.true q (idle_device c.in-On.idle) l.3 in
    let now = c.take_turns.new.disk in
    let a = g.R.Runner.list c.take_turns.new.runner in
    let b = g.R.Runner.list c.stop_spent.new.runner in
    let held = g.K.Sink.held c.take_turns.new.sink in
    let count = l.2 in (
      k.0 ++ t.0,
      ended g.D.Disk g.J.Journal g.met.D.Disk.laws IsDeployedThere c.args.turns old mid new p t.0 k.0 l.0
          WantOfMemory statuses.Memory false [] l.1 (omega (arith, count))
          (goes_acts g.D.Disk g.J.Journal g.met.D.Disk.laws now a b q k.0 l.1.stands k.1)
          (sure_acts g.D.Disk g.J.Journal g.met.D.Disk.laws now a b q k.0 l.1.stands k.1) k.1.none
          (refl, record { answered = refl; waiting = refl; library = refl })
          ([], [], refl, Appends-nil held) (λ other. Appends-nil held) (λ is. cc) refl
          (λ none. stands_acts g.D.Disk g.J.Journal g.met.D.Disk.laws now a b q k.0 l.1.stands k.1) tt (λ is. absurd (never_memory is)) (λ disk edge. refl)
          (λ on. absurd (false≢true on)) k.2,
    )

pub returns-else-not-stop_spent-clause-served : goal.returns-else-not-stop_spent-clause-served
returns-else-not-stop_spent-clause-served g c = λ p serving full.
    let old = outside g.D.Disk g.K.Sink g.R.Runner g.L.Library g.I.Inbox c.args.disk.now c.args.sink.now c.args.runner.now c.args.library.now c.args.inbox.now
    in
    let mid = outside g.D.Disk g.K.Sink g.R.Runner g.L.Library g.I.Inbox c.take_turns.new.disk c.take_turns.new.sink c.take_turns.new.runner
    c.take_turns.new.library c.take_turns.new.inbox in
    let new = outside g.D.Disk g.K.Sink g.R.Runner g.L.Library g.I.Inbox c.take_turns.new.disk c.say_ended.new.sink c.stop_spent.new.runner
    c.take_turns.new.library c.take_turns.new.inbox in
    let told = Listed g.R.Runner.list g.R.Runner.told g.R.Runner.asked c.take_turns.new.runner in
    let t = c.take_turns.ensures.left p serving full in
    let l = subst (λ (x : Turned _). TurnsLeft g.D.Disk g.J.Journal IsDeployedThere x c.args.turns old mid p t.0 (g.S.Supervise.world c.take_turns.new.supervisor) told
    (g.R.Runner.living c.take_turns.new.runner)) c.in-On.is t.1 in
    let q = state_after p t.0 in
    let k = c.stop_spent.ensures.stopped c.if-not-stop_spent.false q (idle_device c.in-On.idle) l.3
    (none_left q.turns (length l.0) c.args.turns p.turns l.1.turns l.2 full) in
    let now = c.take_turns.new.disk in
    let a = g.R.Runner.list c.take_turns.new.runner in
    let b = g.R.Runner.list c.stop_spent.new.runner in
    let status = c.say_ended.result in
    let count = l.2 in
    let none = ap (λ (x : Device). x.pending) l.3.stands.device_is
    ∙ (held_on g.D.Disk g.J.Journal c.take_turns.result c.in-On.idle c.take_turns.new.disk c.in-On.is c.take_turns.ensures.held).1 in (
      k.0 ++ t.0,
      ended g.D.Disk g.J.Journal g.met.D.Disk.laws IsDeployedThere c.args.turns old mid new p t.0 k.0 l.0 Spent status false (ended_line c.args.turns) l.1
          (omega (arith, count)) (goes_acts g.D.Disk g.J.Journal g.met.D.Disk.laws now a b q k.0 l.1.stands k.1)
          (sure_acts g.D.Disk g.J.Journal g.met.D.Disk.laws now a b q k.0 l.1.stands k.1) k.1.none
          (l.2, c.say_ended.ensures.answers, record { answered = refl; waiting = refl; library = refl }, none)
          c.say_ended.ensures.says.0 c.say_ended.ensures.says.1 (λ is. refl) tt
          (λ all. stands_acts g.D.Disk g.J.Journal g.met.D.Disk.laws now a b q k.0 l.1.stands k.1) tt
          (λ is. absurd (over_other status c.say_ended.ensures.answers is)) (λ disk edge. refl) (λ on. absurd (false≢true on))
          (k.2 status (over_none status c.say_ended.ensures.answers)),
    )

-- ---- it is closed

pub stop_all-requires-clause-up : goal.stop_all-requires-clause-up
stop_all-requires-clause-up g c = (
  idle_device c.in-Shut.idle,
  shut_up c.take_turns.result c.in-Shut.idle (g.S.Supervise.world c.take_turns.new.supervisor) c.in-Shut.is
      c.take_turns.ensures.up,
)

pub stop_all-requires-clause-from_state : goal.stop_all-requires-clause-from_state
stop_all-requires-clause-from_state g c =
    let q = c.requires.from_state in
    let p = q.0 in
    let old = outside g.D.Disk g.K.Sink g.R.Runner g.L.Library g.I.Inbox c.args.disk.now c.args.sink.now c.args.runner.now c.args.library.now c.args.inbox.now
    in
    let mid = outside g.D.Disk g.K.Sink g.R.Runner g.L.Library g.I.Inbox c.take_turns.new.disk c.take_turns.new.sink c.take_turns.new.runner
    c.take_turns.new.library c.take_turns.new.inbox in
    let told = Listed g.R.Runner.list g.R.Runner.told g.R.Runner.asked c.take_turns.new.runner in
    let t = c.take_turns.ensures.left p q.1 q.2 in
    let l = subst (λ (x : Turned _). TurnsLeft g.D.Disk g.J.Journal IsDeployedThere x c.args.turns old mid p t.0 (g.S.Supervise.world c.take_turns.new.supervisor) told
    (g.R.Runner.living c.take_turns.new.runner)) c.in-Shut.is t.1 in
    (state_after p t.0, idle_device c.in-Shut.idle, l.8)

pub returns-in-Shut-clause-served : goal.returns-in-Shut-clause-served
returns-in-Shut-clause-served g c = λ p serving full.
    let old = outside g.D.Disk g.K.Sink g.R.Runner g.L.Library g.I.Inbox c.args.disk.now c.args.sink.now c.args.runner.now c.args.library.now c.args.inbox.now
    in
    let mid = outside g.D.Disk g.K.Sink g.R.Runner g.L.Library g.I.Inbox c.take_turns.new.disk c.take_turns.new.sink c.take_turns.new.runner
    c.take_turns.new.library c.take_turns.new.inbox in
    let told = Listed g.R.Runner.list g.R.Runner.told g.R.Runner.asked c.take_turns.new.runner in
    let t = c.take_turns.ensures.left p serving full in
    let l = subst (λ (x : Turned _). TurnsLeft g.D.Disk g.J.Journal IsDeployedThere x c.args.turns old mid p t.0 (g.S.Supervise.world c.take_turns.new.supervisor) told
    (g.R.Runner.living c.take_turns.new.runner)) c.in-Shut.is t.1 in
    let k = c.stop_all.ensures.trace (state_after p t.0) (idle_device c.in-Shut.idle) l.8 in
    let none = ap (λ (x : Device). x.pending) l.8.stands.device_is
    ∙ (held_shut g.D.Disk g.J.Journal c.take_turns.result c.in-Shut.idle c.take_turns.new.disk c.in-Shut.is c.take_turns.ensures.held).1 in
    served_shut g.D.Disk g.J.Journal g.met.D.Disk.laws IsDeployedThere c.args.turns old l.2 mid p t.0 l.0 l.1 k.0 l.3 (g.R.Runner.list c.stop_all.new.runner) l.4 l.5 l.6
    l.7 k.1 none (k.2 statuses.Done refl)

-- ---- the call ended before

pub returns-in-Over-clause-served : goal.returns-in-Over-clause-served
returns-in-Over-clause-served g c = λ p serving full.
    let old = outside g.D.Disk g.K.Sink g.R.Runner g.L.Library g.I.Inbox c.args.disk.now c.args.sink.now c.args.runner.now c.args.library.now c.args.inbox.now
    in
    let new = outside g.D.Disk g.K.Sink g.R.Runner g.L.Library g.I.Inbox c.take_turns.new.disk c.take_turns.new.sink c.take_turns.new.runner
    c.take_turns.new.library c.take_turns.new.inbox in
    let told = Listed g.R.Runner.list g.R.Runner.told g.R.Runner.asked c.take_turns.new.runner in
    let t = c.take_turns.ensures.left p serving full in
    let l = subst (λ (x : Turned _). TurnsLeft g.D.Disk g.J.Journal IsDeployedThere x c.args.turns old new p t.0 (g.S.Supervise.world c.take_turns.new.supervisor) told
    (g.R.Runner.living c.take_turns.new.runner)) c.in-Over.is t.1 in
    served_over g.D.Disk g.J.Journal g.met.D.Disk.laws IsDeployedThere c.args.turns old l.2 new p t.0 l.0 l.1 l.3 l.4 c.in-Over.status l.5 l.6 l.7 l.8 l.9

pub returns-in-Over-clause-none : goal.returns-in-Over-clause-none
returns-in-Over-clause-none g c = c.take_turns.ensures.none (subst (λ (x : Turned _). HasEnded x) (sym c.in-Over.is) tt)

-- ---- the counts of faults

pub returns-then-not-stop_spent-clause-caused : goal.returns-then-not-stop_spent-clause-caused
returns-then-not-stop_spent-clause-caused g c =
    let m = g.D.Disk.is_modelled in
    let files = g.J.Journal.files in
    let old = observation g.D.Disk g.K.Sink g.L.Library g.I.Inbox c.args.disk.now c.args.sink.now c.args.library.now c.args.inbox.now in
    let mid = observation g.D.Disk g.K.Sink g.L.Library g.I.Inbox c.take_turns.new.disk c.take_turns.new.sink c.take_turns.new.library c.take_turns.new.inbox in
    let one = subst (λ (x : Turned _). IsCaused m files (status_of_turned x) old mid) c.in-On.is c.take_turns.ensures.caused in
    caused_on m files statuses.Memory old mid mid one (caused_none m files statuses.Memory mid memory_quiet)

pub returns-else-not-stop_spent-clause-caused : goal.returns-else-not-stop_spent-clause-caused
returns-else-not-stop_spent-clause-caused g c =
    let m = g.D.Disk.is_modelled in
    let files = g.J.Journal.files in
    let old = observation g.D.Disk g.K.Sink g.L.Library g.I.Inbox c.args.disk.now c.args.sink.now c.args.library.now c.args.inbox.now in
    let mid = observation g.D.Disk g.K.Sink g.L.Library g.I.Inbox c.take_turns.new.disk c.take_turns.new.sink c.take_turns.new.library c.take_turns.new.inbox in
    let new = observation g.D.Disk g.K.Sink g.L.Library g.I.Inbox c.take_turns.new.disk c.say_ended.new.sink c.take_turns.new.library c.take_turns.new.inbox in
    let one = subst (λ (x : Turned _). IsCaused m files (status_of_turned x) old mid) c.in-On.is c.take_turns.ensures.caused in
    caused_on m files c.say_ended.result old mid new one
    (caused_line m files c.say_ended.result mid (g.K.Sink.faults c.say_ended.new.sink) (over_other c.say_ended.result c.say_ended.ensures.answers)
    c.say_ended.ensures.edge c.say_ended.ensures.quiet c.say_ended.ensures.later)

pub returns-in-Shut-clause-caused : goal.returns-in-Shut-clause-caused
returns-in-Shut-clause-caused g c =
    let m = g.D.Disk.is_modelled in
    let files = g.J.Journal.files in
    let old = observation g.D.Disk g.K.Sink g.L.Library g.I.Inbox c.args.disk.now c.args.sink.now c.args.library.now c.args.inbox.now in
    let mid = observation g.D.Disk g.K.Sink g.L.Library g.I.Inbox c.take_turns.new.disk c.take_turns.new.sink c.take_turns.new.library c.take_turns.new.inbox in
    subst (λ (x : Turned _). IsCaused m files (status_of_turned x) old mid) c.in-Shut.is c.take_turns.ensures.caused

pub returns-in-Over-clause-caused : goal.returns-in-Over-clause-caused
returns-in-Over-clause-caused g c =
    let m = g.D.Disk.is_modelled in
    let files = g.J.Journal.files in
    let old = observation g.D.Disk g.K.Sink g.L.Library g.I.Inbox c.args.disk.now c.args.sink.now c.args.library.now c.args.inbox.now in
    let mid = observation g.D.Disk g.K.Sink g.L.Library g.I.Inbox c.take_turns.new.disk c.take_turns.new.sink c.take_turns.new.library c.take_turns.new.inbox in
    subst (λ (x : Turned _). IsCaused m files (status_of_turned x) old mid) c.in-Over.is c.take_turns.ensures.caused
