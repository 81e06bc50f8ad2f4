use Rattle.std.proofs.Common.{◌++◌, inl, inr, refl, ◌∙◌, subst, sym}
use Rattle.step_runner.specs.Entries.{Listed}
use Rattle.histories.specs.States.{state_after}
use Rattle.histories.specs.TraceEvents.{records_of}
use Rattle.histories.proofs.Joined.{records-append}
use Rattle.deploy_state.specs.Objects.{OwnsOver}
use Rattle.session.specs.Parts.{IsBack, IsOver, OwnsRan, status_of_ran}
use Rattle.session.specs.declared.ran.Ran.{Ran}
use Rattle.session_serving.specs.Causes.{IsCaused, observation}
use Rattle.session_serving.specs.Parts.{outside}
use Rattle.session_serving.specs.Served.{AreClosed, FinishLeft}
use Rattle.session_serving.specs.Turns.{UpRan}
use Rattle.session_serving.proofs.Causing.{back_stays, caused_on, caused_quiet}
use Rattle.session_serving.proofs.Closing.{closed_both, finished_closed, halted_memory, served_memory}
use Rattle.session_serving.proofs.Joining.{goes_both}
use Rattle.session_serving.proofs.calls.serve.Goals as goal

pub finish_pending-requires-clause-from_state : goal.finish_pending-requires-clause-from_state
finish_pending-requires-clause-from_state g c = let q = c.requires.from_state in (q.0, c.args.turns, q.1)

pub serve_set-requires-clause-held : goal.serve_set-requires-clause-held
serve_set-requires-clause-held g c =
    subst (λ (x : Ran _). OwnsOver g.D.Disk g.J.Journal OwnsRan x c.finish_pending.new.disk) c.in-Back.is c.finish_pending.ensures.held

pub serve_set-requires-clause-up : goal.serve_set-requires-clause-up
serve_set-requires-clause-up g c = subst (λ (x : Ran _). UpRan x (g.S.Supervise.world c.finish_pending.new.supervisor)) c.in-Back.is c.finish_pending.ensures.up

pub serve_set-requires-clause-from_state : goal.serve_set-requires-clause-from_state
serve_set-requires-clause-from_state g c =
    let q = c.requires.from_state in
    let old = outside g.D.Disk g.K.Sink g.R.Runner g.L.Library g.I.Inbox c.args.disk.now c.args.sink.now c.args.runner.now c.args.library.now c.args.inbox.now
    in
    let mid = outside g.D.Disk g.K.Sink g.R.Runner g.L.Library g.I.Inbox c.finish_pending.new.disk c.finish_pending.new.sink c.finish_pending.new.runner
    c.args.library.now c.args.inbox.now in
    let told = Listed g.R.Runner.list g.R.Runner.told g.R.Runner.asked c.finish_pending.new.runner in
    let t = c.finish_pending.ensures.left q.0 c.args.turns q.1 in
    let l = subst (λ (x : Ran _). FinishLeft g.D.Disk g.J.Journal x old mid q.0 t.0 (g.S.Supervise.world c.finish_pending.new.supervisor) told
    (g.R.Runner.living c.finish_pending.new.runner)) c.in-Back.is t.1 in
    (state_after q.0 t.0, l.1, l.0.turns ∙ q.1.turns_are)

pub returns-in-Back-clause-served : goal.returns-in-Back-clause-served
returns-in-Back-clause-served g c = λ p begun.
    let old = outside g.D.Disk g.K.Sink g.R.Runner g.L.Library g.I.Inbox c.args.disk.now c.args.sink.now c.args.runner.now c.args.library.now c.args.inbox.now
    in
    let mid = outside g.D.Disk g.K.Sink g.R.Runner g.L.Library g.I.Inbox c.finish_pending.new.disk c.finish_pending.new.sink c.finish_pending.new.runner
    c.args.library.now c.args.inbox.now in
    let told = Listed g.R.Runner.list g.R.Runner.told g.R.Runner.asked c.finish_pending.new.runner in
    let t = c.finish_pending.ensures.left p c.args.turns begun in
    let l = subst (λ (x : Ran _). FinishLeft g.D.Disk g.J.Journal x old mid p t.0 (g.S.Supervise.world c.finish_pending.new.supervisor) told
    (g.R.Runner.living c.finish_pending.new.runner)) c.in-Back.is t.1 in
    let f = l.0 in
    let new = outside g.D.Disk g.K.Sink g.R.Runner g.L.Library g.I.Inbox c.serve_set.new.disk c.serve_set.new.sink c.serve_set.new.runner
    c.serve_set.new.library c.serve_set.new.inbox in
    let s = c.serve_set.ensures.served (state_after p t.0) l.1 (f.turns ∙ begun.turns_are) in (
      s.0 ++ t.0,
      record {
        goes = goes_both g.D.Disk g.J.Journal g.met.D.Disk.laws c.args.disk.now c.finish_pending.new.disk c.serve_set.new.disk
            (g.R.Runner.list c.args.runner.now) (g.R.Runner.list c.finish_pending.new.runner) (g.R.Runner.list c.serve_set.new.runner) p t.0 s.0 f.goes f.holds
            s.1.goes;
        memory = λ is. subst AreClosed (sym (records-append s.0 t.0))
            (closed_both (records_of t.0) (records_of s.0) (finished_closed g.D.Disk g.J.Journal old mid p t.0 f)
            (served_memory g.D.Disk g.J.Journal c.args.turns mid new (state_after p t.0) s.0 c.serve_set.result s.1
            is));
        parts = inr (t.0, s.0, mid, refl, refl, refl, refl, f, s.1);
      },
    )

pub returns-in-Over-clause-served : goal.returns-in-Over-clause-served
returns-in-Over-clause-served g c = λ p begun.
    let old = outside g.D.Disk g.K.Sink g.R.Runner g.L.Library g.I.Inbox c.args.disk.now c.args.sink.now c.args.runner.now c.args.library.now c.args.inbox.now
    in
    let mid = outside g.D.Disk g.K.Sink g.R.Runner g.L.Library g.I.Inbox c.finish_pending.new.disk c.finish_pending.new.sink c.finish_pending.new.runner
    c.args.library.now c.args.inbox.now in
    let told = Listed g.R.Runner.list g.R.Runner.told g.R.Runner.asked c.finish_pending.new.runner in
    let t = c.finish_pending.ensures.left p c.args.turns begun in
    let l = subst (λ (x : Ran _). FinishLeft g.D.Disk g.J.Journal x old mid p t.0 (g.S.Supervise.world c.finish_pending.new.supervisor) told
    (g.R.Runner.living c.finish_pending.new.runner)) c.in-Over.is t.1 in (
      t.0,
      record {
        goes = l.goes;
        memory = halted_memory g.D.Disk g.J.Journal old mid p t.0 c.in-Over.status l;
        parts = inl (l, refl, refl, refl);
      },
    )

pub returns-in-Over-clause-none : goal.returns-in-Over-clause-none
returns-in-Over-clause-none g c = c.finish_pending.ensures.none (subst (λ (x : Ran _). IsOver x) (sym c.in-Over.is) tt)

-- ---- the counts of faults

pub returns-in-Back-clause-caused : goal.returns-in-Back-clause-caused
returns-in-Back-clause-caused g c =
    let m = g.D.Disk.is_modelled in
    let files = g.J.Journal.files in
    let old = observation g.D.Disk g.K.Sink g.L.Library g.I.Inbox c.args.disk.now c.args.sink.now c.args.library.now c.args.inbox.now in
    let mid = observation g.D.Disk g.K.Sink g.L.Library g.I.Inbox c.finish_pending.new.disk c.finish_pending.new.sink c.args.library.now c.args.inbox.now in
    let new = observation g.D.Disk g.K.Sink g.L.Library g.I.Inbox c.serve_set.new.disk c.serve_set.new.sink c.serve_set.new.library c.serve_set.new.inbox in
    let r = c.finish_pending.result in
    let stays = back_stays r (subst (λ (x : Ran _). IsBack x) (sym c.in-Back.is) tt) c.finish_pending.ensures.stays in
    caused_on m files c.serve_set.result old mid new
    (caused_quiet m files (status_of_ran r) old mid stays c.finish_pending.ensures.caused) c.serve_set.ensures.caused

pub returns-in-Over-clause-caused : goal.returns-in-Over-clause-caused
returns-in-Over-clause-caused g c =
    let m = g.D.Disk.is_modelled in
    let files = g.J.Journal.files in
    let old = observation g.D.Disk g.K.Sink g.L.Library g.I.Inbox c.args.disk.now c.args.sink.now c.args.library.now c.args.inbox.now in
    let mid = observation g.D.Disk g.K.Sink g.L.Library g.I.Inbox c.finish_pending.new.disk c.finish_pending.new.sink c.args.library.now c.args.inbox.now in
    subst (λ (x : Ran _). IsCaused m files (status_of_ran x) old mid) c.in-Over.is c.finish_pending.ensures.caused
