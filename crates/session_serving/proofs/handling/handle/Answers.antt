use Rattle.std.specs.Prelude.{Bool, false, option_map, if◌then◌else◌}
use Rattle.std.proofs.Common.{◌++◌, ◌∙◌, inl, refl, sym, ap, subst}
use Rattle.edges.specs.Inboxes.{after_done}
use Rattle.edges.specs.Waiting.{without_first}
use Rattle.nuc_base.specs.declared.status.Status.TheVariants as statuses
use Rattle.deploy_state.specs.States.{idle_device}
use Rattle.step_runner.specs.Entries.{Listed}
use Rattle.histories.specs.States.{state_after}
use Rattle.deploy_state.specs.Objects.{OwnsOver}
use Rattle.session.specs.Parts.{IsBack, OwnsRan, status_of_ran}
use Rattle.session.specs.declared.ran.Ran.{Ran}
use Rattle.session_serving.specs.Causes.{IsCaused, observation}
use Rattle.session_serving.specs.Documents.{IsDeployedThere}
use Rattle.session_serving.specs.Parts.{outside}
use Rattle.session_serving.specs.Turns.{DocumentLeft, UpRan, inbox_line, status_of_turned}
use Rattle.session_serving.proofs.Again.{again_left, ready_returned}
use Rattle.session_serving.proofs.Causing.{back_stays, caused_inbox, caused_on, caused_quiet, caused_then, exact_quiet, restart_quiet}
use Rattle.session_serving.proofs.Doing.{done_fails, done_now, done_over, restart_fails}
use Rattle.session_serving.proofs.States.{edge_again}
use Rattle.session_serving.proofs.handling.handle.Goals as goal

-- ---- the call goes on

pub stand_again-requires-clause-held : goal.stand_again-requires-clause-held
stand_again-requires-clause-held g c =
    subst (λ (x : Ran _). OwnsOver g.D.Disk g.J.Journal OwnsRan x c.deploy_given.new.disk) c.in-Back.is c.deploy_given.ensures.held

pub stand_again-requires-clause-up : goal.stand_again-requires-clause-up
stand_again-requires-clause-up g c = subst (λ (x : Ran _). UpRan x (g.S.Supervise.world c.deploy_given.new.supervisor)) c.in-Back.is c.deploy_given.ensures.up

pub stand_again-requires-clause-from_state : goal.stand_again-requires-clause-from_state
stand_again-requires-clause-from_state g c =
    let q = c.requires.from_state in
    let old = outside g.D.Disk g.K.Sink g.R.Runner g.L.Library g.I.Inbox c.args.disk.now c.args.sink.now c.args.runner.now c.args.library.now c.args.inbox.now
    in
    let mid = outside g.D.Disk g.K.Sink g.R.Runner g.L.Library g.I.Inbox c.deploy_given.new.disk c.deploy_given.new.sink c.deploy_given.new.runner
    c.deploy_given.new.library c.args.inbox.now in
    let told = Listed g.R.Runner.list g.R.Runner.told g.R.Runner.asked c.deploy_given.new.runner in
    let t = c.deploy_given.ensures.left q.0 q.1 in
    let l = subst (λ (x : Ran _). DocumentLeft g.D.Disk g.J.Journal IsDeployedThere c.args.document.now x old mid q.0
    t.0 (g.S.Supervise.world c.deploy_given.new.supervisor) told (g.R.Runner.living c.deploy_given.new.runner)) c.in-Back.is t.1 in
    (state_after q.0 t.0, l.3)

pub returns-in-Ok-clause-left : goal.returns-in-Ok-clause-left
returns-in-Ok-clause-left g c = λ p asked.
    let old = outside g.D.Disk g.K.Sink g.R.Runner g.L.Library g.I.Inbox c.args.disk.now c.args.sink.now c.args.runner.now c.args.library.now c.args.inbox.now
    in
    let mid = outside g.D.Disk g.K.Sink g.R.Runner g.L.Library g.I.Inbox c.deploy_given.new.disk c.deploy_given.new.sink c.deploy_given.new.runner
    c.deploy_given.new.library c.args.inbox.now in
    let told = Listed g.R.Runner.list g.R.Runner.told g.R.Runner.asked c.deploy_given.new.runner in
    let t = c.deploy_given.ensures.left p asked in
    let l = subst (λ (x : Ran _). DocumentLeft g.D.Disk g.J.Journal IsDeployedThere c.args.document.now x old mid p
    t.0 (g.S.Supervise.world c.deploy_given.new.supervisor) told (g.R.Runner.living c.deploy_given.new.runner)) c.in-Back.is t.1 in
    let k = c.stand_again.ensures.trace (state_after p t.0) l.3 in
    let done = done_now g.D.Disk g.J.Journal g.met.D.Disk.laws IsDeployedThere old mid p t.0 l.0 (g.I.Inbox.answered c.done.new.self) (g.I.Inbox.waiting c.done.new.self)
    l.2 c.in-Ok.ensures.counted c.in-Ok.ensures.told in (
      k.0 ++ t.0,
      again_left g.D.Disk g.J.Journal g.met.D.Disk.laws IsDeployedThere old
          (outside g.D.Disk g.K.Sink g.R.Runner g.L.Library g.I.Inbox c.deploy_given.new.disk c.deploy_given.new.sink c.deploy_given.new.runner
          c.deploy_given.new.library c.done.new.self) p t.0 k.0 l.0 c.args.document.now (g.R.Runner.list c.stand_again.new.runner) c.stand_again.result
          c.in-Back.idle (g.S.Supervise.world c.stand_again.new.supervisor)
          (Listed g.R.Runner.list g.R.Runner.told g.R.Runner.asked c.stand_again.new.runner) (g.R.Runner.living c.stand_again.new.runner) l.1 done k.1
          c.stand_again.ensures.exact k.2,
    )

-- ---- it could not be done

pub give_up-requires : goal.give_up-requires
give_up-requires g c =
    let q = c.requires.from_state in
    let old = outside g.D.Disk g.K.Sink g.R.Runner g.L.Library g.I.Inbox c.args.disk.now c.args.sink.now c.args.runner.now c.args.library.now c.args.inbox.now
    in
    let mid = outside g.D.Disk g.K.Sink g.R.Runner g.L.Library g.I.Inbox c.deploy_given.new.disk c.deploy_given.new.sink c.deploy_given.new.runner
    c.deploy_given.new.library c.args.inbox.now in
    let told = Listed g.R.Runner.list g.R.Runner.told g.R.Runner.asked c.deploy_given.new.runner in
    let world = g.S.Supervise.world c.deploy_given.new.supervisor in
    let living = g.R.Runner.living c.deploy_given.new.runner in
    let t = c.deploy_given.ensures.left q.0 q.1 in
    let l = subst (λ (x : Ran _). DocumentLeft g.D.Disk g.J.Journal IsDeployedThere c.args.document.now x old mid q.0
    t.0 world told living) c.in-Back.is t.1 in
    record {
      from_state = (
        state_after q.0 t.0,
        idle_device c.in-Back.idle,
        ready_returned c.in-Back.standing (state_after q.0 t.0) (idle_device c.in-Back.idle) world told living l.3,
      );
    }

pub returns-in-Err-clause-left : goal.returns-in-Err-clause-left
returns-in-Err-clause-left g c = λ p asked.
    let old = outside g.D.Disk g.K.Sink g.R.Runner g.L.Library g.I.Inbox c.args.disk.now c.args.sink.now c.args.runner.now c.args.library.now c.args.inbox.now
    in
    let mid = outside g.D.Disk g.K.Sink g.R.Runner g.L.Library g.I.Inbox c.deploy_given.new.disk c.deploy_given.new.sink c.deploy_given.new.runner
    c.deploy_given.new.library c.args.inbox.now in
    let told = Listed g.R.Runner.list g.R.Runner.told g.R.Runner.asked c.deploy_given.new.runner in
    let world = g.S.Supervise.world c.deploy_given.new.supervisor in
    let living = g.R.Runner.living c.deploy_given.new.runner in
    let t = c.deploy_given.ensures.left p asked in
    let l = subst (λ (x : Ran _). DocumentLeft g.D.Disk g.J.Journal IsDeployedThere c.args.document.now x old mid p t.0 world told living) c.in-Back.is t.1 in
    let k = c.give_up.ensures.trace (state_after p t.0) (idle_device c.in-Back.idle)
    (ready_returned c.in-Back.standing (state_after p t.0) (idle_device c.in-Back.idle) world told living l.3) in (
      k.0 ++ t.0,
      inl (
        l.0,
        false,
        l.1,
        done_fails g.D.Disk g.J.Journal g.met.D.Disk.laws IsDeployedThere old mid p t.0 l.0 (g.R.Runner.list c.give_up.new.runner) (g.K.Sink.held c.say_inbox.new.sink)
            (g.I.Inbox.answered c.done.new.self) (g.I.Inbox.waiting c.done.new.self) k.0 c.say_inbox.result inbox_line refl l.2 k.1 c.say_inbox.ensures.line
            c.say_inbox.ensures.status c.in-Err.ensures.uncounted c.in-Err.ensures.told (k.2 statuses.Edge false refl),
      ),
    )

-- ---- its handling ends the call

pub returns-then-not-asks_restart-clause-left : goal.returns-then-not-asks_restart-clause-left
returns-then-not-asks_restart-clause-left g c = λ p asked.
    let old = outside g.D.Disk g.K.Sink g.R.Runner g.L.Library g.I.Inbox c.args.disk.now c.args.sink.now c.args.runner.now c.args.library.now c.args.inbox.now
    in
    let mid = outside g.D.Disk g.K.Sink g.R.Runner g.L.Library g.I.Inbox c.deploy_given.new.disk c.deploy_given.new.sink c.deploy_given.new.runner
    c.deploy_given.new.library c.args.inbox.now in
    let told = Listed g.R.Runner.list g.R.Runner.told g.R.Runner.asked c.deploy_given.new.runner in
    let t = c.deploy_given.ensures.left p asked in
    let l = subst (λ (x : Ran _). DocumentLeft g.D.Disk g.J.Journal IsDeployedThere c.args.document.now x old mid p t.0
    (g.S.Supervise.world c.deploy_given.new.supervisor) told (g.R.Runner.living c.deploy_given.new.runner)) c.in-Over.is t.1 in
    let own = sym c.asks_restart.ensures ∙ c.if-not-asks_restart.true in
    let answered = g.I.Inbox.answered c.args.inbox.now in
    let waiting = g.I.Inbox.waiting c.args.inbox.now in (
      t.0,
      inl (
        l.0,
        l.1,
        l.2,
        done_over g.D.Disk g.J.Journal g.met.D.Disk.laws IsDeployedThere old mid p t.0 l.0 answered (g.I.Inbox.waiting c.args.inbox.now) c.in-Over.status l.1 l.3
            (ap (λ (b : Bool). if b then after_done answered else answered) (sym own))
            (ap (λ (b : Bool). if b then option_map without_first waiting else waiting) (sym own)),
      ),
    )

pub returns-in-Ok-done-clause-left : goal.returns-in-Ok-done-clause-left
returns-in-Ok-done-clause-left g c = λ p asked.
    let old = outside g.D.Disk g.K.Sink g.R.Runner g.L.Library g.I.Inbox c.args.disk.now c.args.sink.now c.args.runner.now c.args.library.now c.args.inbox.now
    in
    let mid = outside g.D.Disk g.K.Sink g.R.Runner g.L.Library g.I.Inbox c.deploy_given.new.disk c.deploy_given.new.sink c.deploy_given.new.runner
    c.deploy_given.new.library c.args.inbox.now in
    let told = Listed g.R.Runner.list g.R.Runner.told g.R.Runner.asked c.deploy_given.new.runner in
    let t = c.deploy_given.ensures.left p asked in
    let l = subst (λ (x : Ran _). DocumentLeft g.D.Disk g.J.Journal IsDeployedThere c.args.document.now x old mid p t.0
    (g.S.Supervise.world c.deploy_given.new.supervisor) told (g.R.Runner.living c.deploy_given.new.runner)) c.in-Over.is t.1 in
    let own = sym c.asks_restart.ensures ∙ c.if-not-asks_restart.false in
    let answered = g.I.Inbox.answered c.args.inbox.now in
    let waiting = g.I.Inbox.waiting c.args.inbox.now in (
      t.0,
      inl (
        l.0,
        l.1,
        l.2,
        done_over g.D.Disk g.J.Journal g.met.D.Disk.laws IsDeployedThere old mid p t.0 l.0 (g.I.Inbox.answered c.done-in-Over.new.self)
            (g.I.Inbox.waiting c.done-in-Over.new.self) c.in-Over.status l.1 l.3
            (c.in-Ok-done.ensures.counted ∙ ap (λ (b : Bool). if b then after_done answered else answered) (sym own))
            (c.in-Ok-done.ensures.told ∙ ap (λ (b : Bool). if b then option_map without_first waiting else waiting) (sym own)),
      ),
    )

pub returns-in-Err-done-clause-left : goal.returns-in-Err-done-clause-left
returns-in-Err-done-clause-left g c = λ p asked.
    let old = outside g.D.Disk g.K.Sink g.R.Runner g.L.Library g.I.Inbox c.args.disk.now c.args.sink.now c.args.runner.now c.args.library.now c.args.inbox.now
    in
    let mid = outside g.D.Disk g.K.Sink g.R.Runner g.L.Library g.I.Inbox c.deploy_given.new.disk c.deploy_given.new.sink c.deploy_given.new.runner
    c.deploy_given.new.library c.args.inbox.now in
    let told = Listed g.R.Runner.list g.R.Runner.told g.R.Runner.asked c.deploy_given.new.runner in
    let t = c.deploy_given.ensures.left p asked in
    let l = subst (λ (x : Ran _). DocumentLeft g.D.Disk g.J.Journal IsDeployedThere c.args.document.now x old mid p t.0
    (g.S.Supervise.world c.deploy_given.new.supervisor) told (g.R.Runner.living c.deploy_given.new.runner)) c.in-Over.is t.1 in
    let own = sym c.asks_restart.ensures ∙ c.if-not-asks_restart.false in (
      t.0,
      inl (
        l.0,
        l.1,
        l.2,
        restart_fails g.D.Disk g.J.Journal g.met.D.Disk.laws IsDeployedThere old mid p t.0 l.0 (g.K.Sink.held c.say_inbox-in-Err-done.new.sink)
            (g.I.Inbox.answered c.done-in-Over.new.self) (g.I.Inbox.waiting c.done-in-Over.new.self) c.say_inbox-in-Err-done.result c.in-Over.status l.1
            inbox_line refl l.3 own
            c.say_inbox-in-Err-done.ensures.line c.say_inbox-in-Err-done.ensures.status c.in-Err-done.ensures.uncounted c.in-Err-done.ensures.told
            (edge_again (state_after p t.0) c.in-Over.status l.1 own l.3.end),
      ),
    )

-- ---- the counts of faults

pub returns-in-Ok-clause-caused : goal.returns-in-Ok-clause-caused
returns-in-Ok-clause-caused g c =
    let m = g.D.Disk.is_modelled in
    let files = g.J.Journal.files in
    let old = observation g.D.Disk g.K.Sink g.L.Library g.I.Inbox c.args.disk.now c.args.sink.now c.args.library.now c.args.inbox.now in
    let mid = observation g.D.Disk g.K.Sink g.L.Library g.I.Inbox c.deploy_given.new.disk c.deploy_given.new.sink c.deploy_given.new.library c.args.inbox.now in
    let r = c.deploy_given.result in
    let stays = back_stays r (subst (λ (x : Ran _). IsBack x) (sym c.in-Back.is) tt) c.deploy_given.ensures.stays in
    caused_then m files (status_of_turned c.stand_again.result) old mid (g.I.Inbox.faults c.done.new.self)
    (exact_quiet c.stand_again.result c.in-Back.idle c.stand_again.ensures.exact)
    (caused_quiet m files (status_of_ran r) old mid stays c.deploy_given.ensures.caused) c.in-Ok.ensures.quiet

pub returns-in-Err-clause-caused : goal.returns-in-Err-clause-caused
returns-in-Err-clause-caused g c =
    let m = g.D.Disk.is_modelled in
    let files = g.J.Journal.files in
    let old = observation g.D.Disk g.K.Sink g.L.Library g.I.Inbox c.args.disk.now c.args.sink.now c.args.library.now c.args.inbox.now in
    let mid = observation g.D.Disk g.K.Sink g.L.Library g.I.Inbox c.deploy_given.new.disk c.deploy_given.new.sink c.deploy_given.new.library c.args.inbox.now in
    let new = observation g.D.Disk g.K.Sink g.L.Library g.I.Inbox c.deploy_given.new.disk c.say_inbox.new.sink c.deploy_given.new.library c.done.new.self in
    let r = c.deploy_given.result in
    let stays = back_stays r (subst (λ (x : Ran _). IsBack x) (sym c.in-Back.is) tt) c.deploy_given.ensures.stays in
    caused_on m files c.say_inbox.result old mid new
    (caused_quiet m files (status_of_ran r) old mid stays c.deploy_given.ensures.caused)
    (caused_inbox m files c.say_inbox.result mid (g.K.Sink.faults c.say_inbox.new.sink) (g.I.Inbox.faults c.done.new.self) c.say_inbox.ensures.status
    c.in-Err.ensures.cause.failed c.say_inbox.ensures.later)

pub returns-then-not-asks_restart-clause-caused : goal.returns-then-not-asks_restart-clause-caused
returns-then-not-asks_restart-clause-caused g c =
    let m = g.D.Disk.is_modelled in
    let files = g.J.Journal.files in
    let old = observation g.D.Disk g.K.Sink g.L.Library g.I.Inbox c.args.disk.now c.args.sink.now c.args.library.now c.args.inbox.now in
    let mid = observation g.D.Disk g.K.Sink g.L.Library g.I.Inbox c.deploy_given.new.disk c.deploy_given.new.sink c.deploy_given.new.library c.args.inbox.now in
    subst (λ (x : Ran _). IsCaused m files (status_of_ran x) old mid) c.in-Over.is c.deploy_given.ensures.caused

pub returns-in-Ok-done-clause-caused : goal.returns-in-Ok-done-clause-caused
returns-in-Ok-done-clause-caused g c =
    let m = g.D.Disk.is_modelled in
    let files = g.J.Journal.files in
    let old = observation g.D.Disk g.K.Sink g.L.Library g.I.Inbox c.args.disk.now c.args.sink.now c.args.library.now c.args.inbox.now in
    let mid = observation g.D.Disk g.K.Sink g.L.Library g.I.Inbox c.deploy_given.new.disk c.deploy_given.new.sink c.deploy_given.new.library c.args.inbox.now in
    let quiet = restart_quiet c.in-Over.status (sym c.asks_restart.ensures ∙ c.if-not-asks_restart.false) in
    let one = subst (λ (x : Ran _). IsCaused m files (status_of_ran x) old mid) c.in-Over.is c.deploy_given.ensures.caused in
    caused_then m files c.in-Over.status old mid (g.I.Inbox.faults c.done-in-Over.new.self) quiet
    (caused_quiet m files c.in-Over.status old mid quiet.1 one) c.in-Ok-done.ensures.quiet

pub returns-in-Err-done-clause-caused : goal.returns-in-Err-done-clause-caused
returns-in-Err-done-clause-caused g c =
    let m = g.D.Disk.is_modelled in
    let files = g.J.Journal.files in
    let old = observation g.D.Disk g.K.Sink g.L.Library g.I.Inbox c.args.disk.now c.args.sink.now c.args.library.now c.args.inbox.now in
    let mid = observation g.D.Disk g.K.Sink g.L.Library g.I.Inbox c.deploy_given.new.disk c.deploy_given.new.sink c.deploy_given.new.library c.args.inbox.now in
    let new = observation g.D.Disk g.K.Sink g.L.Library g.I.Inbox c.deploy_given.new.disk c.say_inbox-in-Err-done.new.sink c.deploy_given.new.library
    c.done-in-Over.new.self in
    let quiet = restart_quiet c.in-Over.status (sym c.asks_restart.ensures ∙ c.if-not-asks_restart.false) in
    let one = subst (λ (x : Ran _). IsCaused m files (status_of_ran x) old mid) c.in-Over.is c.deploy_given.ensures.caused in
    caused_on m files c.say_inbox-in-Err-done.result old mid new (caused_quiet m files c.in-Over.status old mid quiet.1 one)
    (caused_inbox m files c.say_inbox-in-Err-done.result mid (g.K.Sink.faults c.say_inbox-in-Err-done.new.sink) (g.I.Inbox.faults c.done-in-Over.new.self)
    c.say_inbox-in-Err-done.ensures.status c.in-Err-done.ensures.cause.failed c.say_inbox-in-Err-done.ensures.later)
