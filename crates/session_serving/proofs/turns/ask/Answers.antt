use Rattle.std.specs.Prelude.{ℕ, List, [], ◌∷◌, IfSome, Err}
use Rattle.nuc_base.specs.declared.status.Status.TheVariants as statuses
use Rattle.std.proofs.Common.{◌≡◌, ◌++◌, ◌∙◌, refl, sym, ap, subst, arith}
use Rattle.edges.specs.Inboxes.{after_answer, kind_of}
use Rattle.edges.specs.Waiting.{next_of}
use Rattle.edges.specs.declared.answered.Answered.{Answered}
use Rattle.edges.specs.declared.inbox.Incoming.{Incoming}
use Rattle.edges.specs.declared.inbox.Incoming.TheVariants.{Document as GivesDocument}
use Rattle.deploy_state.specs.States.{idle_device}
use Rattle.step_runner.specs.Entries.{Listed}
use Rattle.histories.specs.States.{SessionState, state_after}
use Rattle.histories.specs.TraceEvents.{Answer, InboxAsked, closed, document, nothing}
use Rattle.histories.proofs.Joined.{left-append}
use Rattle.session_boots.proofs.Acting.{acts_on}
use Rattle.session_steady.specs.Serves.{IsServing}
use Rattle.session_serving.specs.Causes.{observation}
use Rattle.session_serving.specs.Documents.{IsDeployedThere}
use Rattle.session_serving.specs.Parts.{outside}
use Rattle.session_serving.specs.Rounds.{Waited}
use Rattle.session_serving.specs.Turns.{status_of_turned}
use Rattle.session_serving.proofs.Asking.{asked_here, asked_on, closed_stops, waiting_of}
use Rattle.session_serving.proofs.Causing.{caused_asking, caused_none, caused_on, caused_then, done_quiet}
use Rattle.session_serving.proofs.Held.{idle_stands}
use Rattle.session_serving.proofs.Questions.{not_asked, questions-append}
use Rattle.session_serving.proofs.Steady.{up_on}
use Rattle.session_serving.proofs.Turning.{fault_over, handled, shut, waited}
use Rattle.session_serving.proofs.turns.ask.Goals as goal

-- ---- it had nothing

pub wait_turn-requires-clause-now : goal.wait_turn-requires-clause-now
wait_turn-requires-clause-now g c = (c.requires.now.0, omega (arith, c.requires.now.1))

pub wait_turn-requires-clause-drives : goal.wait_turn-requires-clause-drives
wait_turn-requires-clause-drives g c = c.requires.up.drives

pub wait_turn-requires-clause-from_state : goal.wait_turn-requires-clause-from_state
wait_turn-requires-clause-from_state g c =
    let q = c.requires.from_state in
    let d = idle_device c.args.idle in
    let told = Listed g.R.Runner.list g.R.Runner.told g.R.Runner.asked c.args.runner.now in
    let world = g.S.Supervise.world c.args.supervisor.now in
    let living = g.R.Runner.living c.args.runner.now in
    let p = state_after q.0 (InboxAsked nothing ∷ []) in
    (p, d, waiting_of p d world told living (asked_on q.0 d world told living nothing q.1))

pub returns-in-Nothing-clause-left : goal.returns-in-Nothing-clause-left
returns-in-Nothing-clause-left g c = λ p asking left.
    let d = idle_device c.args.idle in
    let told = Listed g.R.Runner.list g.R.Runner.told g.R.Runner.asked c.args.runner.now in
    let world = g.S.Supervise.world c.args.supervisor.now in
    let living = g.R.Runner.living c.args.runner.now in
    let a = g.R.Runner.list c.args.runner.now in
    let b = g.R.Runner.list c.wait_turn.new.runner in
    let h = InboxAsked nothing ∷ [] in
    let q = state_after p h in
    let here = asked_here p d world told living nothing a asking left in
    let t = c.wait_turn.ensures.trace q d (waiting_of q d world told living (asked_on p d world told living nothing asking)) in
    let old = outside g.D.Disk g.K.Sink g.R.Runner g.L.Library g.I.Inbox c.args.disk.now c.args.sink.now c.args.runner.now c.args.library.now c.args.inbox.now
    in
    let waiting = g.I.Inbox.waiting c.args.inbox.now in
    let stands = idle_stands g.D.Disk g.J.Journal g.met.D.Disk.laws g.met.J.Journal.laws c.args.idle c.args.disk.now c.requires.held p.device
    asking.device_is in
    let acts = acts_on p h t.0 a a b here t.1 in
    let on = t.2.same.turns in
    let all = ap (λ (x : SessionState). x.turns) (left-append p t.0 h) in (
      t.0 ++ h,
      (
        Waited,
        waited g.D.Disk g.J.Journal g.met.D.Disk.laws IsDeployedThere old p stands b
            (g.I.Inbox.answered c.next.new.self) (g.I.Inbox.waiting c.next.new.self) (t.0 ++ h) acts (omega (arith, left, on, all))
            (questions-append t.0 h ∙ ap (λ (l : List Answer). nothing ∷ l) (not_asked q t.0 t.1.proper on))
            (c.in-Ok.ensures.counted ∙ ap (λ (i : Incoming). after_answer (kind_of i) (g.I.Inbox.answered c.args.inbox.now)) c.in-Nothing.is)
            c.next.ensures.waiting (subst (λ (i : Incoming). IfSome waiting (λ w. i ≡ next_of w.documents w.closed)) c.in-Nothing.is c.in-Ok.ensures.told),
        subst (λ (x : SessionState). IsServing x d (g.S.Supervise.world c.wait_turn.new.supervisor)
            (Listed g.R.Runner.list g.R.Runner.told g.R.Runner.asked c.wait_turn.new.runner) (g.R.Runner.living c.wait_turn.new.runner))
            (sym (left-append p t.0 h)) t.2.serving,
      ),
    )

pub returns-in-Nothing-clause-up : goal.returns-in-Nothing-clause-up
returns-in-Nothing-clause-up g c = up_on (idle_device c.args.idle) (g.S.Supervise.world c.args.supervisor.now)
    (g.S.Supervise.world c.wait_turn.new.supervisor) c.requires.up c.wait_turn.ensures.stays

-- ---- it was closed

pub returns-in-Closed-clause-left : goal.returns-in-Closed-clause-left
returns-in-Closed-clause-left g c = λ p asking left.
    let d = idle_device c.args.idle in
    let told = Listed g.R.Runner.list g.R.Runner.told g.R.Runner.asked c.args.runner.now in
    let world = g.S.Supervise.world c.args.supervisor.now in
    let living = g.R.Runner.living c.args.runner.now in
    let a = g.R.Runner.list c.args.runner.now in
    let old = outside g.D.Disk g.K.Sink g.R.Runner g.L.Library g.I.Inbox c.args.disk.now c.args.sink.now c.args.runner.now c.args.library.now c.args.inbox.now
    in
    let waiting = g.I.Inbox.waiting c.args.inbox.now in
    let stands = idle_stands g.D.Disk g.J.Journal g.met.D.Disk.laws g.met.J.Journal.laws c.args.idle c.args.disk.now c.requires.held p.device
    asking.device_is in (
      InboxAsked closed ∷ [],
      (
        shut g.D.Disk g.J.Journal g.met.D.Disk.laws IsDeployedThere old p stands a
            (g.I.Inbox.answered c.next.new.self) (g.I.Inbox.waiting c.next.new.self) (InboxAsked closed ∷ [])
            (asked_here p d world told living closed a asking left)
            (c.in-Ok.ensures.counted ∙ ap (λ (i : Incoming). after_answer (kind_of i) (g.I.Inbox.answered c.args.inbox.now)) c.in-Closed.is)
            c.next.ensures.waiting (subst (λ (i : Incoming). IfSome waiting (λ w. i ≡ next_of w.documents w.closed)) c.in-Closed.is c.in-Ok.ensures.told),
        closed_stops p d world told living asking,
      ),
    )

-- ---- it gave a document

pub handle-turned-requires-clause-given : goal.handle-turned-requires-clause-given
handle-turned-requires-clause-given g c =
    ap (λ (x : Answered). x.is_given) (c.in-Ok.ensures.counted ∙ ap (λ (i : Incoming). after_answer (kind_of i) (g.I.Inbox.answered c.args.inbox.now))
    c.in-Document.is)

pub handle-turned-requires-clause-from_state : goal.handle-turned-requires-clause-from_state
handle-turned-requires-clause-from_state g c =
    let q = c.requires.from_state in
    let d = idle_device c.args.idle in
    let told = Listed g.R.Runner.list g.R.Runner.told g.R.Runner.asked c.args.runner.now in (
      state_after q.0 (InboxAsked document ∷ []),
      asked_on q.0 d (g.S.Supervise.world c.args.supervisor.now) told (g.R.Runner.living c.args.runner.now)
          document q.1,
    )

pub returns-in-Document-clause-left : goal.returns-in-Document-clause-left
returns-in-Document-clause-left g c = λ p asking left.
    let d = idle_device c.args.idle in
    let told = Listed g.R.Runner.list g.R.Runner.told g.R.Runner.asked c.args.runner.now in
    let world = g.S.Supervise.world c.args.supervisor.now in
    let living = g.R.Runner.living c.args.runner.now in
    let a = g.R.Runner.list c.args.runner.now in
    let h = InboxAsked document ∷ [] in
    let t = c.handle-turned.ensures.left (state_after p h) (asked_on p d world told living document asking) in
    let old = outside g.D.Disk g.K.Sink g.R.Runner g.L.Library g.I.Inbox c.args.disk.now c.args.sink.now c.args.runner.now c.args.library.now c.args.inbox.now
    in
    let new = outside g.D.Disk g.K.Sink g.R.Runner g.L.Library g.I.Inbox c.handle-turned.new.disk c.handle-turned.new.sink c.handle-turned.new.runner
    c.handle-turned.new.library c.handle-turned.new.inbox in
    let waiting = g.I.Inbox.waiting c.args.inbox.now in
    let stands = idle_stands g.D.Disk g.J.Journal g.met.D.Disk.laws g.met.J.Journal.laws c.args.idle c.args.disk.now c.requires.held p.device
    asking.device_is in
    let next : IfSome waiting (λ w. GivesDocument c.as_slice.result.now ≡ next_of w.documents w.closed) =
    subst (λ (l : List ℕ). IfSome waiting (λ w. GivesDocument l ≡ next_of w.documents w.closed)) (sym c.as_slice.ensures)
    (subst (λ (i : Incoming). IfSome waiting (λ w. i ≡ next_of w.documents w.closed)) c.in-Document.is c.in-Ok.ensures.told) in (
      t.0 ++ h,
      handled g.D.Disk g.J.Journal g.met.D.Disk.laws IsDeployedThere old p stands a
          (g.I.Inbox.answered c.next.new.self) (g.I.Inbox.waiting c.next.new.self) new c.as_slice.result.now h t.0 c.handle-turned.result
          (g.S.Supervise.world c.handle-turned.new.supervisor) (Listed g.R.Runner.list g.R.Runner.told g.R.Runner.asked c.handle-turned.new.runner)
          (g.R.Runner.living c.handle-turned.new.runner) (asked_here p d world told living document a asking left) (omega (arith, left)) refl
          (c.in-Ok.ensures.counted ∙ ap (λ (i : Incoming). after_answer (kind_of i) (g.I.Inbox.answered c.args.inbox.now)) c.in-Document.is)
          c.next.ensures.waiting next t.1,
    )

-- ---- it gave no answer

pub give_up_asking-requires : goal.give_up_asking-requires
give_up_asking-requires g c = let q = c.requires.from_state in record { from_state = (q.0, idle_device c.args.idle, q.1) }

pub returns-in-Err-clause-left : goal.returns-in-Err-clause-left
returns-in-Err-clause-left g c = λ p asking left.
    let d = idle_device c.args.idle in
    let old = outside g.D.Disk g.K.Sink g.R.Runner g.L.Library g.I.Inbox c.args.disk.now c.args.sink.now c.args.runner.now c.args.library.now c.args.inbox.now
    in
    let new = outside g.D.Disk g.K.Sink g.R.Runner g.L.Library g.I.Inbox c.args.disk.now c.give_up_asking.new.sink c.give_up_asking.new.runner
    c.args.library.now
    c.next.new.self in
    let stands = idle_stands g.D.Disk g.J.Journal g.met.D.Disk.laws g.met.J.Journal.laws c.args.idle c.args.disk.now c.requires.held p.device
    asking.device_is in
    let t = c.give_up_asking.ensures.trace p d asking in (
      t.0,
      fault_over g.D.Disk g.J.Journal g.met.D.Disk.laws IsDeployedThere old p stands c.in-Err.fault
          c.give_up_asking.result new t.0 refl refl t.1
          (record { answered = c.in-Err.ensures.uncounted; waiting = c.next.ensures.waiting; library = refl }) c.give_up_asking.ensures.status
          c.give_up_asking.ensures.line
          c.give_up_asking.ensures.whole t.2,
    )

-- ---- the counts of faults

pub returns-in-Nothing-clause-caused : goal.returns-in-Nothing-clause-caused
returns-in-Nothing-clause-caused g c =
    let m = g.D.Disk.is_modelled in
    let files = g.J.Journal.files in
    let old = observation g.D.Disk g.K.Sink g.L.Library g.I.Inbox c.args.disk.now c.args.sink.now c.args.library.now c.args.inbox.now in
    caused_then m files statuses.Done old old (g.I.Inbox.faults c.next.new.self) done_quiet (caused_none m files statuses.Done old done_quiet)
    (c.in-Ok.ensures.quiet (λ failed. cc))

pub returns-in-Closed-clause-caused : goal.returns-in-Closed-clause-caused
returns-in-Closed-clause-caused g c =
    let m = g.D.Disk.is_modelled in
    let files = g.J.Journal.files in
    let old = observation g.D.Disk g.K.Sink g.L.Library g.I.Inbox c.args.disk.now c.args.sink.now c.args.library.now c.args.inbox.now in
    caused_then m files statuses.Done old old (g.I.Inbox.faults c.next.new.self) done_quiet (caused_none m files statuses.Done old done_quiet)
    (c.in-Ok.ensures.quiet (λ failed. cc))

pub returns-in-Document-clause-caused : goal.returns-in-Document-clause-caused
returns-in-Document-clause-caused g c =
    let m = g.D.Disk.is_modelled in
    let files = g.J.Journal.files in
    let old = observation g.D.Disk g.K.Sink g.L.Library g.I.Inbox c.args.disk.now c.args.sink.now c.args.library.now c.args.inbox.now in
    let mid = observation g.D.Disk g.K.Sink g.L.Library g.I.Inbox c.args.disk.now c.args.sink.now c.args.library.now c.next.new.self in
    let new = observation g.D.Disk g.K.Sink g.L.Library g.I.Inbox c.handle-turned.new.disk c.handle-turned.new.sink c.handle-turned.new.library
    c.handle-turned.new.inbox in
    caused_on m files (status_of_turned c.handle-turned.result) old mid new
    (caused_then m files statuses.Done old old (g.I.Inbox.faults c.next.new.self) done_quiet (caused_none m files statuses.Done old done_quiet)
    (c.in-Ok.ensures.quiet (λ failed. cc))) c.handle-turned.ensures.caused

pub returns-in-Err-clause-caused : goal.returns-in-Err-clause-caused
returns-in-Err-clause-caused g c =
    let m = g.D.Disk.is_modelled in
    let files = g.J.Journal.files in
    let old = observation g.D.Disk g.K.Sink g.L.Library g.I.Inbox c.args.disk.now c.args.sink.now c.args.library.now c.args.inbox.now in
    caused_asking m files c.in-Err.fault c.give_up_asking.result old (g.K.Sink.faults c.give_up_asking.new.sink) (g.I.Inbox.faults c.next.new.self)
    c.give_up_asking.ensures.status (λ failed. c.in-Err.ensures.cause (ap Err failed)) (λ other. c.in-Err.ensures.quiet (λ failed. other cc))
    c.give_up_asking.ensures.later c.give_up_asking.ensures.quiet
