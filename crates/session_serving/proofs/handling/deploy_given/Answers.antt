use Rattle.std.specs.Prelude.{ℕ, false}
use Rattle.std.proofs.Common.{◌≤◌, ◌∙◌, ◌++◌, inl, refl, sym, ap, subst, arith}
use Rattle.nuc_base.specs.declared.status.Status.TheVariants as statuses
use Rattle.device.specs.Devices.{Device}
use Rattle.deploy_state.specs.States.{idle_device}
use Rattle.components.specs.Components.{Components}
use Rattle.components.specs.Platforms.{AllRunFor}
use Rattle.step_runner.specs.Entries.{Listed}
use Rattle.histories.specs.States.{state_after}
use Rattle.law_serving.specs.Alike.{alone}
use Rattle.deploy_state.specs.Objects.{OwnsOver}
use Rattle.session.specs.Calls.{HasNotFallen}
use Rattle.session.specs.Endings.{is_failing}
use Rattle.session.specs.Parts.{IsOver, OwnsRan, status_of_ran}
use Rattle.session.specs.declared.ran.Ran.{Ran}
use Rattle.session_serving.specs.Parts.{outside}
use Rattle.session_serving.specs.Turns.{StaysRan, UpRan}
use Rattle.session_serving.proofs.Again.{ready_returned}
use Rattle.session_serving.proofs.Causing.{rose_since, stays_same}
use Rattle.session_serving.proofs.Deploying.{asked_deploys, asked_open, back_left, over_left, ran_course, ready_left, refreshed_stays, stays_ran, unsaid_left}
use Rattle.session_serving.proofs.Doing.{edge_disk}
use Rattle.session_serving.proofs.Held.{idle_stands, origin_of}
use Rattle.session_serving.proofs.Up.{made_standing, orderly_world, up_ran}
use Rattle.session_serving.proofs.handling.deploy_given.Goals as goal

pub run_document-requires-clause-drives : goal.run_document-requires-clause-drives
run_document-requires-clause-drives g c = c.requires.up.drives

pub run_document-requires-clause-orderly : goal.run_document-requires-clause-orderly
run_document-requires-clause-orderly g c =
    let q = c.requires.from_state in
    orderly_world q.0 (g.S.Supervise.world c.args.supervisor.now) q.1.turn.world_is q.1.turn.within.orderly

pub run_document-requires-clause-made : goal.run_document-requires-clause-made
run_document-requires-clause-made g c = made_standing (idle_device c.args.idle) (g.S.Supervise.world c.args.supervisor.now) c.requires.up.made

pub run_document-requires-clause-from_state : goal.run_document-requires-clause-from_state
run_document-requires-clause-from_state g c =
    let q = c.requires.from_state in
    let told = Listed g.R.Runner.list g.R.Runner.told g.R.Runner.asked c.args.runner.now in
    (alone q.0, asked_open q.0 (idle_device c.args.idle) (g.S.Supervise.world c.args.supervisor.now) told (g.R.Runner.living c.args.runner.now) q.1)

-- ---- it comes back

pub returns-in-Ok-clause-left : goal.returns-in-Ok-clause-left
returns-in-Ok-clause-left g c = λ p asked.
    let d = idle_device c.args.idle in
    let world = g.S.Supervise.world c.args.supervisor.now in
    let told = Listed g.R.Runner.list g.R.Runner.told g.R.Runner.asked c.args.runner.now in
    let living = g.R.Runner.living c.args.runner.now in
    let later = g.S.Supervise.world c.run_document.new.supervisor in
    let now = Listed g.R.Runner.list g.R.Runner.told g.R.Runner.asked c.run_document.new.runner in
    let lives = g.R.Runner.living c.run_document.new.runner in
    let r = c.run_document.result in
    let t = c.run_document.ensures.call (alone p) (asked_open p d world told living asked) (inl refl) in
    let part = t.2.0 in
    let alike = c.deployments_serve_alike.ensures p part.history (asked_deploys p d world told living asked) asked.steady.over part.trace.proper part.trace.run
    (ran_course r (alone p) part.history (alone p).generation (is_failing part.ending) later now lives c.run_document.ensures.ends_call part.quits part.left) in
    let old = outside g.D.Disk g.K.Sink g.R.Runner g.L.Library g.I.Inbox c.args.disk.now c.args.sink.now c.args.runner.now c.args.library.now c.args.inbox.now
    in
    let mid = outside g.D.Disk g.K.Sink g.R.Runner g.L.Library g.I.Inbox c.run_document.new.disk c.run_document.new.sink c.run_document.new.runner
    c.run_document.new.library c.args.inbox.now in
    let refreshed = refreshed_stays old.library (g.L.Library.content c.refresh.new.self) (g.L.Library.coming c.refresh.new.self)
    (g.L.Library.coming c.run_document.new.library) c.refresh.ensures.told c.refresh.ensures.tells c.run_document.ensures.kept.coming in (
      part.history,
      back_left g.D.Disk g.J.Journal g.met.D.Disk.laws g.met.J.Journal.laws c.requires.apart c.requires.own (g.L.Library.content c.refresh.new.self)
          (g.L.Library.faults c.refresh.new.self) c.args.idle c.args.document.now old mid refreshed c.run_document.ensures.kept.content c.refresh.ensures.quiet
          c.requires.held p world told living asked r later now lives part alike t.0 t.1 t.2.1 t.2.2 t.4 t.5 t.6
          c.run_document.ensures.library_later t.3 t.7 c.run_document.ensures.disk c.run_document.ensures.quiet_disk
          c.in-Back.idle c.in-Back.status c.in-Back.standing c.in-Back.is
          (idle_stands g.D.Disk g.J.Journal g.met.D.Disk.laws g.met.J.Journal.laws c.in-Back.idle c.run_document.new.disk
          (subst (λ (x : Ran _). OwnsOver g.D.Disk g.J.Journal OwnsRan x c.run_document.new.disk) c.in-Back.is c.run_document.ensures.held)
          (idle_device c.in-Back.idle) refl)
          (g.K.Sink.held c.say_if_no_memory.new.sink) c.in-Ok.ensures.whole,
    )

pub returns-in-Ok-clause-held : goal.returns-in-Ok-clause-held
returns-in-Ok-clause-held g c =
    subst (λ (x : Ran _). OwnsOver g.D.Disk g.J.Journal OwnsRan x c.run_document.new.disk) c.in-Back.is c.run_document.ensures.held

pub returns-in-Ok-clause-stays : goal.returns-in-Ok-clause-stays
returns-in-Ok-clause-stays g c =
    let q = c.requires.from_state in
    let p = q.0 in
    let d = idle_device c.args.idle in
    let told = Listed g.R.Runner.list g.R.Runner.told g.R.Runner.asked c.args.runner.now in
    let now = Listed g.R.Runner.list g.R.Runner.told g.R.Runner.asked c.run_document.new.runner in
    let t = c.run_document.ensures.call (alone p)
    (asked_open p d (g.S.Supervise.world c.args.supervisor.now) told (g.R.Runner.living c.args.runner.now) q.1) (inl refl) in
    let part = t.2.0 in
    subst (λ (x : Ran _). StaysRan x) c.in-Back.is
    (stays_ran c.run_document.result (alone p).generation (is_failing part.ending) (state_after (alone p) part.history)
    (g.S.Supervise.world c.run_document.new.supervisor) now (g.R.Runner.living c.run_document.new.runner) part.left)

pub returns-in-Ok-clause-up : goal.returns-in-Ok-clause-up
returns-in-Ok-clause-up g c =
    let q = c.requires.from_state in
    let p = q.0 in
    let asked = q.1 in
    let d = idle_device c.args.idle in
    let world = g.S.Supervise.world c.args.supervisor.now in
    let told = Listed g.R.Runner.list g.R.Runner.told g.R.Runner.asked c.args.runner.now in
    let living = g.R.Runner.living c.args.runner.now in
    let later = g.S.Supervise.world c.run_document.new.supervisor in
    let now = Listed g.R.Runner.list g.R.Runner.told g.R.Runner.asked c.run_document.new.runner in
    let lives = g.R.Runner.living c.run_document.new.runner in
    let t = c.run_document.ensures.call (alone p) (asked_open p d world told living asked) (inl refl) in
    let part = t.2.0 in
    let o = origin_of d.origin c.requires.held.0.origin in
    subst (λ (x : Ran _). UpRan x later) c.in-Back.is
    (up_ran c.components_run_their_items.ensures c.idle_calls_are_steady.ensures (alone p) part.history o.0
    (ap (λ (x : Device). x.origin) asked.device_is ∙ o.1) part.trace.proper part.trace.run
    (subst (λ (w : Components). AllRunFor o.0.platform w.parts) asked.turn.world_is (c.requires.up.made o.0 o.1))
    (λ is. sym (ap (λ (w : Components). w.steady) asked.turn.world_is) ∙ c.requires.up.steady) c.run_document.result (is_failing part.ending)
    (alone p).generation later
    now lives part.left c.run_document.ensures.drives)

pub returns-in-Ok-clause-caused : goal.returns-in-Ok-clause-caused
returns-in-Ok-clause-caused g c =
    let same = ap status_of_ran c.in-Back.is in
    let q = c.requires.from_state in
    let told = Listed g.R.Runner.list g.R.Runner.told g.R.Runner.asked c.args.runner.now in
    let now = Listed g.R.Runner.list g.R.Runner.told g.R.Runner.asked c.run_document.new.runner in
    let t = c.run_document.ensures.call (alone q.0)
    (asked_open q.0 (idle_device c.args.idle) (g.S.Supervise.world c.args.supervisor.now) told (g.R.Runner.living c.args.runner.now) q.1) (inl refl) in
    let part = t.2.0 in
    let stays = subst (λ (x : Ran _). StaysRan x) c.in-Back.is
    (stays_ran c.run_document.result (alone q.0).generation (is_failing part.ending) (state_after (alone q.0) part.history)
    (g.S.Supervise.world c.run_document.new.supervisor) now (g.R.Runner.living c.run_document.new.runner) part.left) in
    let later = c.say_if_no_memory.ensures.later in
    let still = c.in-Ok.ensures.quiet in
    record {
      disk = λ is. c.run_document.ensures.disk (same ∙ is);
      edge = λ is. absurd (stays.0 is);
      quiet_edges = λ edge. (still ∙ c.run_document.ensures.quiet_sink (λ is. edge (sym same ∙ is)), refl);
      later = (
        c.run_document.ensures.later.0,
        subst (λ (n : ℕ). HasNotFallen (g.K.Sink.faults c.args.sink.now) n) (sym still) c.run_document.ensures.later.1,
        stays_same (g.I.Inbox.faults c.args.inbox.now),
      );
      library_later = subst (λ (n : ℕ). n ≤ g.L.Library.faults c.run_document.new.library) c.refresh.ensures.quiet c.run_document.ensures.library_later;
      others = c.run_document.ensures.others;
    }

-- ---- that there was no memory could not be said

pub give_up-requires : goal.give_up-requires
give_up-requires g c =
    let q = c.requires.from_state in
    let p = q.0 in
    let asked = q.1 in
    let d = idle_device c.args.idle in
    let world = g.S.Supervise.world c.args.supervisor.now in
    let told = Listed g.R.Runner.list g.R.Runner.told g.R.Runner.asked c.args.runner.now in
    let living = g.R.Runner.living c.args.runner.now in
    let later = g.S.Supervise.world c.run_document.new.supervisor in
    let now = Listed g.R.Runner.list g.R.Runner.told g.R.Runner.asked c.run_document.new.runner in
    let lives = g.R.Runner.living c.run_document.new.runner in
    let r = c.run_document.result in
    let t = c.run_document.ensures.call (alone p) (asked_open p d world told living asked) (inl refl) in
    let part = t.2.0 in
    let alike = c.deployments_serve_alike.ensures p part.history (asked_deploys p d world told living asked) asked.steady.over part.trace.proper part.trace.run
    (ran_course r (alone p) part.history (alone p).generation (is_failing part.ending) later now lives c.run_document.ensures.ends_call part.quits part.left) in
    let old = outside g.D.Disk g.K.Sink g.R.Runner g.L.Library g.I.Inbox c.args.disk.now c.args.sink.now c.args.runner.now c.args.library.now c.args.inbox.now
    in
    let mid = outside g.D.Disk g.K.Sink g.R.Runner g.L.Library g.I.Inbox c.run_document.new.disk c.run_document.new.sink c.run_document.new.runner
    c.run_document.new.library c.args.inbox.now in
    let refreshed = refreshed_stays old.library (g.L.Library.content c.refresh.new.self) (g.L.Library.coming c.refresh.new.self)
    (g.L.Library.coming c.run_document.new.library) c.refresh.ensures.told c.refresh.ensures.tells c.run_document.ensures.kept.coming in
    let ready = ready_left g.D.Disk g.J.Journal g.met.D.Disk.laws g.met.J.Journal.laws c.requires.apart c.requires.own (g.L.Library.content c.refresh.new.self)
    (g.L.Library.faults c.refresh.new.self) c.args.idle c.args.document.now old mid refreshed c.run_document.ensures.kept.content c.refresh.ensures.quiet
    c.requires.held p world told living asked r later now lives part alike t.0 t.1 t.2.1 t.2.2 t.4 t.5 t.6
    c.run_document.ensures.library_later t.3 t.7 c.run_document.ensures.disk c.run_document.ensures.quiet_disk
    c.in-Back.idle c.in-Back.status c.in-Back.standing c.in-Back.is
    (idle_stands g.D.Disk g.J.Journal g.met.D.Disk.laws g.met.J.Journal.laws c.in-Back.idle c.run_document.new.disk
    (subst (λ (x : Ran _). OwnsOver g.D.Disk g.J.Journal OwnsRan x c.run_document.new.disk) c.in-Back.is c.run_document.ensures.held)
    (idle_device c.in-Back.idle) refl) in
    record {
      from_state = (
        state_after p part.history,
        idle_device c.in-Back.idle,
        ready_returned c.in-Back.standing (state_after p part.history) (idle_device c.in-Back.idle) later now lives ready,
      );
    }

pub returns-in-Err-clause-left : goal.returns-in-Err-clause-left
returns-in-Err-clause-left g c = λ p asked.
    let d = idle_device c.args.idle in
    let world = g.S.Supervise.world c.args.supervisor.now in
    let told = Listed g.R.Runner.list g.R.Runner.told g.R.Runner.asked c.args.runner.now in
    let living = g.R.Runner.living c.args.runner.now in
    let later = g.S.Supervise.world c.run_document.new.supervisor in
    let now = Listed g.R.Runner.list g.R.Runner.told g.R.Runner.asked c.run_document.new.runner in
    let lives = g.R.Runner.living c.run_document.new.runner in
    let r = c.run_document.result in
    let t = c.run_document.ensures.call (alone p) (asked_open p d world told living asked) (inl refl) in
    let part = t.2.0 in
    let alike = c.deployments_serve_alike.ensures p part.history (asked_deploys p d world told living asked) asked.steady.over part.trace.proper part.trace.run
    (ran_course r (alone p) part.history (alone p).generation (is_failing part.ending) later now lives c.run_document.ensures.ends_call part.quits part.left) in
    let old = outside g.D.Disk g.K.Sink g.R.Runner g.L.Library g.I.Inbox c.args.disk.now c.args.sink.now c.args.runner.now c.args.library.now c.args.inbox.now
    in
    let mid = outside g.D.Disk g.K.Sink g.R.Runner g.L.Library g.I.Inbox c.run_document.new.disk c.run_document.new.sink c.run_document.new.runner
    c.run_document.new.library c.args.inbox.now in
    let refreshed = refreshed_stays old.library (g.L.Library.content c.refresh.new.self) (g.L.Library.coming c.refresh.new.self)
    (g.L.Library.coming c.run_document.new.library) c.refresh.ensures.told c.refresh.ensures.tells c.run_document.ensures.kept.coming in
    let ready = ready_left g.D.Disk g.J.Journal g.met.D.Disk.laws g.met.J.Journal.laws c.requires.apart c.requires.own (g.L.Library.content c.refresh.new.self)
    (g.L.Library.faults c.refresh.new.self) c.args.idle c.args.document.now old mid refreshed c.run_document.ensures.kept.content c.refresh.ensures.quiet
    c.requires.held p world told living asked r later now lives part alike t.0 t.1 t.2.1 t.2.2 t.4 t.5 t.6
    c.run_document.ensures.library_later t.3 t.7 c.run_document.ensures.disk c.run_document.ensures.quiet_disk
    c.in-Back.idle c.in-Back.status c.in-Back.standing c.in-Back.is
    (idle_stands g.D.Disk g.J.Journal g.met.D.Disk.laws g.met.J.Journal.laws c.in-Back.idle c.run_document.new.disk
    (subst (λ (x : Ran _). OwnsOver g.D.Disk g.J.Journal OwnsRan x c.run_document.new.disk) c.in-Back.is c.run_document.ensures.held)
    (idle_device c.in-Back.idle) refl) in
    let k = c.give_up.ensures.trace (state_after p part.history) (idle_device c.in-Back.idle)
    (ready_returned c.in-Back.standing (state_after p part.history) (idle_device c.in-Back.idle) later now lives ready) in (
      k.0 ++ part.history,
      unsaid_left g.D.Disk g.J.Journal g.met.D.Disk.laws g.met.J.Journal.laws c.requires.apart c.requires.own (g.L.Library.content c.refresh.new.self)
          (g.L.Library.faults c.refresh.new.self) c.args.idle c.args.document.now old mid refreshed c.run_document.ensures.kept.content c.refresh.ensures.quiet
          c.requires.held p world told living asked r later now lives part alike t.0 t.1 t.2.1 t.2.2 t.4 t.5 t.6
          c.run_document.ensures.library_later t.3 t.7 c.run_document.ensures.disk c.run_document.ensures.quiet_disk
          c.in-Back.idle c.in-Back.status c.in-Back.standing c.in-Back.is
          (idle_stands g.D.Disk g.J.Journal g.met.D.Disk.laws g.met.J.Journal.laws c.in-Back.idle c.run_document.new.disk
          (subst (λ (x : Ran _). OwnsOver g.D.Disk g.J.Journal OwnsRan x c.run_document.new.disk) c.in-Back.is c.run_document.ensures.held)
          (idle_device c.in-Back.idle) refl)
          (g.R.Runner.list c.give_up.new.runner) (g.K.Sink.held c.say_if_no_memory.new.sink) k.0
          (Listed g.R.Runner.list g.R.Runner.told g.R.Runner.asked c.give_up.new.runner) (g.R.Runner.living c.give_up.new.runner) c.say_if_no_memory.ensures.line k.1
          (k.2 statuses.Edge false refl),
    )

pub returns-in-Err-clause-caused : goal.returns-in-Err-clause-caused
returns-in-Err-clause-caused g c =
    let later = c.say_if_no_memory.ensures.later in
    let rose = c.in-Err.ensures.edge in
    let before = c.run_document.ensures.later.1 in
    record {
      disk = λ is. absurd (edge_disk is);
      edge = λ is. inl (rose_since (g.K.Sink.faults c.args.sink.now) (g.K.Sink.faults c.run_document.new.sink) (g.K.Sink.faults c.say_if_no_memory.new.sink) before rose);
      quiet_edges = λ edge. absurd (edge refl);
      later = (
        c.run_document.ensures.later.0,
        omega (arith, before, later),
        stays_same (g.I.Inbox.faults c.args.inbox.now),
      );
      library_later = subst (λ (n : ℕ). n ≤ g.L.Library.faults c.run_document.new.library) c.refresh.ensures.quiet c.run_document.ensures.library_later;
      others = c.run_document.ensures.others;
    }

-- ---- its handling ends the call

pub returns-in-Over-clause-left : goal.returns-in-Over-clause-left
returns-in-Over-clause-left g c = λ p asked.
    let d = idle_device c.args.idle in
    let world = g.S.Supervise.world c.args.supervisor.now in
    let told = Listed g.R.Runner.list g.R.Runner.told g.R.Runner.asked c.args.runner.now in
    let living = g.R.Runner.living c.args.runner.now in
    let later = g.S.Supervise.world c.run_document.new.supervisor in
    let now = Listed g.R.Runner.list g.R.Runner.told g.R.Runner.asked c.run_document.new.runner in
    let lives = g.R.Runner.living c.run_document.new.runner in
    let r = c.run_document.result in
    let t = c.run_document.ensures.call (alone p) (asked_open p d world told living asked) (inl refl) in
    let part = t.2.0 in
    let alike = c.deployments_serve_alike.ensures p part.history (asked_deploys p d world told living asked) asked.steady.over part.trace.proper part.trace.run
    (ran_course r (alone p) part.history (alone p).generation (is_failing part.ending) later now lives c.run_document.ensures.ends_call part.quits part.left) in
    let old = outside g.D.Disk g.K.Sink g.R.Runner g.L.Library g.I.Inbox c.args.disk.now c.args.sink.now c.args.runner.now c.args.library.now c.args.inbox.now
    in
    let mid = outside g.D.Disk g.K.Sink g.R.Runner g.L.Library g.I.Inbox c.run_document.new.disk c.run_document.new.sink c.run_document.new.runner
    c.run_document.new.library c.args.inbox.now in
    let refreshed = refreshed_stays old.library (g.L.Library.content c.refresh.new.self) (g.L.Library.coming c.refresh.new.self)
    (g.L.Library.coming c.run_document.new.library) c.refresh.ensures.told c.refresh.ensures.tells c.run_document.ensures.kept.coming in (
      part.history,
      over_left g.D.Disk g.J.Journal g.met.D.Disk.laws g.met.J.Journal.laws c.requires.apart c.requires.own (g.L.Library.content c.refresh.new.self)
          (g.L.Library.faults c.refresh.new.self) c.args.idle c.args.document.now old mid refreshed c.run_document.ensures.kept.content c.refresh.ensures.quiet
          c.requires.held p world told living asked r later now lives part alike t.0 t.1 t.2.1 t.2.2 t.4 t.5 t.6
          c.run_document.ensures.library_later t.3 t.7 c.run_document.ensures.disk c.run_document.ensures.quiet_disk
          c.in-Over.status c.in-Over.is c.run_document.ensures.ends_call c.run_document.ensures.no_memory,
    )

pub returns-in-Over-clause-none : goal.returns-in-Over-clause-none
returns-in-Over-clause-none g c = λ over. c.run_document.ensures.none (subst (λ (x : Ran _). IsOver x) (sym c.in-Over.is) tt)

pub returns-in-Over-clause-caused : goal.returns-in-Over-clause-caused
returns-in-Over-clause-caused g c =
    let same = ap status_of_ran c.in-Over.is in
    record {
      disk = λ is. c.run_document.ensures.disk (same ∙ is);
      edge = λ is. inl (c.run_document.ensures.edge (same ∙ is));
      quiet_edges = λ edge. (c.run_document.ensures.quiet_sink (λ is. edge (sym same ∙ is)), refl);
      later = (c.run_document.ensures.later.0, c.run_document.ensures.later.1, stays_same (g.I.Inbox.faults c.args.inbox.now));
      library_later = subst (λ (n : ℕ). n ≤ g.L.Library.faults c.run_document.new.library) c.refresh.ensures.quiet c.run_document.ensures.library_later;
      others = c.run_document.ensures.others;
    }
