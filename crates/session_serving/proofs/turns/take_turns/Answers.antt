use Rattle.std.proofs.Common.{◌≡◌, ◌≤◌, ◌<◌, ◌+◌, ◌++◌, ◌∷◌, [], List, ℕ, length, refl, sym, ap, subst, ◌∙◌, append_assoc, arith}
use Rattle.std.proofs.lemmas.List.{length_push}
use Rattle.nuc_base.specs.declared.status.Status.TheVariants as statuses
use Rattle.deploy_state.specs.States.{idle_device}
use Rattle.step_runner.specs.Entries.{Listed}
use Rattle.histories.specs.States.{SessionState, state_after}
use Rattle.histories.specs.TraceEvents.{TraceEvent}
use Rattle.histories.proofs.Joined.{left-append}
use Rattle.session_shutdown.specs.Stops.{MayStop}
use Rattle.session_steady.specs.Serves.{IsServing}
use Rattle.session_serving.specs.Causes.{IsCaused, observation}
use Rattle.session_serving.specs.Documents.{IsDeployedThere}
use Rattle.session_serving.specs.Parts.{CallEnded, outside}
use Rattle.session_serving.specs.Turns.{EndsBy, TurnLeft, status_of_turned}
use Rattle.session_serving.proofs.Causing.{caused_none, caused_on, done_quiet}
use Rattle.session_serving.proofs.Held.{held_on, idle_stands, turned_up}
use Rattle.session_serving.proofs.Joining.{turns_both, turns_none}
use Rattle.session_serving.proofs.Rounding.{length_both}
use Rattle.session_serving.proofs.turns.take_turns.Goals as goal

pub turns-init : goal.turns-init
turns-init g c = record {
  held = c.requires.held;
  up = c.requires.up;
  caused = caused_none g.D.Disk.is_modelled g.J.Journal.files statuses.Done
      (observation g.D.Disk g.K.Sink g.L.Library g.I.Inbox c.args.disk.now c.args.sink.now c.args.library.now c.args.inbox.now) done_quiet;
  left = λ p serving full. (
    [],
    [],
    turns_none g.D.Disk g.J.Journal g.met.D.Disk.laws IsDeployedThere
        (outside g.D.Disk g.K.Sink g.R.Runner g.L.Library g.I.Inbox c.args.disk.now c.args.sink.now c.args.runner.now c.args.library.now c.args.inbox.now) p
        (idle_stands g.D.Disk g.J.Journal g.met.D.Disk.laws g.met.J.Journal.laws c.args.idle c.args.disk.now c.requires.held p.device
        serving.stands.device_is),
    refl,
    serving,
  );
}

pub turn-requires-clause-held : goal.turn-requires-clause-held
turn-requires-clause-held g c = c.turns.invariant.held

pub turn-requires-clause-up : goal.turn-requires-clause-up
turn-requires-clause-up g c = c.turns.invariant.up

left_over : (all left gone most at : ℕ) → all ≡ most → left + gone ≡ all → gone ≡ at → at < most → 1 ≤ left
left_over all left gone most at a b d e = omega (arith, a, b, d, e)

pub turn-requires-clause-from_state : goal.turn-requires-clause-from_state
turn-requires-clause-from_state g c =
    let q = c.requires.from_state in
    let w = c.turns.invariant.left q.0 q.1 q.2 in
    (state_after q.0 w.0, w.4, left_over q.0.turns (state_after q.0 w.0).turns (length w.1) c.args.turns c.turns._turn q.2 w.2.turns w.3 c.turns-test.true)

pub returns-in-Shut-clause-left : goal.returns-in-Shut-clause-left
returns-in-Shut-clause-left g c = λ p serving full.
    let w = c.turns.invariant.left p serving full in
    let mid = outside g.D.Disk g.K.Sink g.R.Runner g.L.Library g.I.Inbox c.turns.disk c.turns.sink c.turns.runner c.turns.library c.turns.inbox in
    let new = outside g.D.Disk g.K.Sink g.R.Runner g.L.Library g.I.Inbox c.turn.new.disk c.turn.new.sink c.turn.new.runner c.turn.new.library c.turn.new.inbox
    in
    let world = g.S.Supervise.world c.turn.new.supervisor in
    let told = Listed g.R.Runner.list g.R.Runner.told g.R.Runner.asked c.turn.new.runner in
    let living = g.R.Runner.living c.turn.new.runner in
    let t = c.turn.ensures.left (state_after p w.0) w.4
    (left_over p.turns (state_after p w.0).turns (length w.1) c.args.turns c.turns._turn full w.2.turns w.3 c.turns-test.true) in
    let l = subst (λ (r : _). TurnLeft g.D.Disk g.J.Journal IsDeployedThere r mid new (state_after p w.0) t.0 world told living) c.in-Shut.is t.1 in
    let below = c.turns-test.true in
    let at = w.3 in (
      t.0 ++ w.0,
      (
        w.0,
        t.0,
        mid,
        w.1,
        refl,
        w.2,
        l.0,
        omega (arith, below, at),
        subst (λ (q : SessionState). MayStop q (idle_device c.in-Shut.last) world told living) (sym (left-append p t.0 w.0)) l.1,
      ),
    )

pub returns-in-Over-clause-left : goal.returns-in-Over-clause-left
returns-in-Over-clause-left g c = λ p serving full.
    let w = c.turns.invariant.left p serving full in
    let old = outside g.D.Disk g.K.Sink g.R.Runner g.L.Library g.I.Inbox c.args.disk.now c.args.sink.now c.args.runner.now c.args.library.now c.args.inbox.now
    in
    let mid = outside g.D.Disk g.K.Sink g.R.Runner g.L.Library g.I.Inbox c.turns.disk c.turns.sink c.turns.runner c.turns.library c.turns.inbox in
    let new = outside g.D.Disk g.K.Sink g.R.Runner g.L.Library g.I.Inbox c.turn.new.disk c.turn.new.sink c.turn.new.runner c.turn.new.library c.turn.new.inbox
    in
    let world = g.S.Supervise.world c.turn.new.supervisor in
    let told = Listed g.R.Runner.list g.R.Runner.told g.R.Runner.asked c.turn.new.runner in
    let living = g.R.Runner.living c.turn.new.runner in
    let t = c.turn.ensures.left (state_after p w.0) w.4
    (left_over p.turns (state_after p w.0).turns (length w.1) c.args.turns c.turns._turn full w.2.turns w.3 c.turns-test.true) in
    let l = subst (λ (r : _). TurnLeft g.D.Disk g.J.Journal IsDeployedThere r mid new (state_after p w.0) t.0 world told living) c.in-Over.is t.1 in
    let at = w.3 in
    let below = c.turns-test.true in
    let few = l.9 in
    let both = length_both w.1 l.3 in (
      t.0 ++ w.0,
      (
        l.0 ++ w.0,
        l.1,
        l.2,
        w.1 ++ l.3,
        l.4,
        l.5,
        ap (λ (k : List TraceEvent). k ++ w.0) l.6 ∙ append_assoc l.1 l.0 w.0,
        turns_both g.D.Disk g.J.Journal g.met.D.Disk.laws IsDeployedThere old mid l.2 p w.0 l.0 w.1 l.3 w.2 l.7,
        subst (λ (q : SessionState). CallEnded g.D.Disk g.J.Journal (EndsBy IsDeployedThere) l.2 new q l.1 l.4 c.in-Over.status l.5) (sym (left-append p l.0 w.0)) l.8,
        omega (arith, below, at, few, both),
      ),
    )

pub turns-preserved : goal.turns-preserved
turns-preserved g c = record {
  held = held_on g.D.Disk g.J.Journal c.turn.result c.in-On.next c.turn.new.disk c.in-On.is c.turn.ensures.held;
  up = turned_up c.turn.result c.in-On.next (g.S.Supervise.world c.turn.new.supervisor) c.in-On.is c.turn.ensures.up;
  caused = caused_on g.D.Disk.is_modelled g.J.Journal.files statuses.Done
      (observation g.D.Disk g.K.Sink g.L.Library g.I.Inbox c.args.disk.now c.args.sink.now c.args.library.now c.args.inbox.now)
      (observation g.D.Disk g.K.Sink g.L.Library g.I.Inbox c.turns.disk c.turns.sink c.turns.library c.turns.inbox)
      (observation g.D.Disk g.K.Sink g.L.Library g.I.Inbox c.turn.new.disk c.turn.new.sink c.turn.new.library c.turn.new.inbox) c.turns.invariant.caused
      (subst (λ (r : _). IsCaused g.D.Disk.is_modelled g.J.Journal.files (status_of_turned r)
      (observation g.D.Disk g.K.Sink g.L.Library g.I.Inbox c.turns.disk c.turns.sink c.turns.library c.turns.inbox)
      (observation g.D.Disk g.K.Sink g.L.Library g.I.Inbox c.turn.new.disk c.turn.new.sink c.turn.new.library c.turn.new.inbox)) c.in-On.is
      c.turn.ensures.caused);
  left = λ p serving full.
      let w = c.turns.invariant.left p serving full in
      let old = outside g.D.Disk g.K.Sink g.R.Runner g.L.Library g.I.Inbox c.args.disk.now c.args.sink.now c.args.runner.now c.args.library.now
      c.args.inbox.now in
      let mid = outside g.D.Disk g.K.Sink g.R.Runner g.L.Library g.I.Inbox c.turns.disk c.turns.sink c.turns.runner c.turns.library c.turns.inbox in
      let new = outside g.D.Disk g.K.Sink g.R.Runner g.L.Library g.I.Inbox c.turn.new.disk c.turn.new.sink c.turn.new.runner c.turn.new.library
      c.turn.new.inbox in
      let world = g.S.Supervise.world c.turn.new.supervisor in
      let told = Listed g.R.Runner.list g.R.Runner.told g.R.Runner.asked c.turn.new.runner in
      let living = g.R.Runner.living c.turn.new.runner in
      let t = c.turn.ensures.left (state_after p w.0) w.4
      (left_over p.turns (state_after p w.0).turns (length w.1) c.args.turns c.turns._turn full w.2.turns w.3 c.turns-test.true) in
      let l = subst (λ (r : _). TurnLeft g.D.Disk g.J.Journal IsDeployedThere r mid new (state_after p w.0) t.0 world told living) c.in-On.is t.1 in
      let at = w.3 in
      let more = length_push w.1 l.0 in (
        t.0 ++ w.0,
        w.1 ++ l.0 ∷ [],
        turns_both g.D.Disk g.J.Journal g.met.D.Disk.laws IsDeployedThere old mid new p w.0 t.0 w.1 (l.0 ∷ []) w.2 l.1,
        omega (arith, at, more),
        subst (λ (q : SessionState). IsServing q (idle_device c.in-On.next) world told living) (sym (left-append p t.0 w.0)) l.2,
      );
}

pub returns-clause-left : goal.returns-clause-left
returns-clause-left g c = λ p serving full.
    let w = c.turns.invariant.left p serving full in
    let at = w.3 in
    let end = c.turns-test.false in
    let most = c.turns.auto._turn-end in
    (w.0, (w.1, w.2, omega (arith, at, end, most), w.4))

pub returns-clause-held : goal.returns-clause-held
returns-clause-held g c = c.turns.invariant.held

pub returns-clause-up : goal.returns-clause-up
returns-clause-up g c = c.turns.invariant.up

-- ---- the counts of faults

pub returns-in-Shut-clause-caused : goal.returns-in-Shut-clause-caused
returns-in-Shut-clause-caused g c = caused_on g.D.Disk.is_modelled g.J.Journal.files statuses.Done
    (observation g.D.Disk g.K.Sink g.L.Library g.I.Inbox c.args.disk.now c.args.sink.now c.args.library.now c.args.inbox.now)
    (observation g.D.Disk g.K.Sink g.L.Library g.I.Inbox c.turns.disk c.turns.sink c.turns.library c.turns.inbox)
    (observation g.D.Disk g.K.Sink g.L.Library g.I.Inbox c.turn.new.disk c.turn.new.sink c.turn.new.library c.turn.new.inbox) c.turns.invariant.caused
    (subst (λ (r : _). IsCaused g.D.Disk.is_modelled g.J.Journal.files (status_of_turned r)
    (observation g.D.Disk g.K.Sink g.L.Library g.I.Inbox c.turns.disk c.turns.sink c.turns.library c.turns.inbox)
    (observation g.D.Disk g.K.Sink g.L.Library g.I.Inbox c.turn.new.disk c.turn.new.sink c.turn.new.library c.turn.new.inbox)) c.in-Shut.is
    c.turn.ensures.caused)

pub returns-in-Over-clause-caused : goal.returns-in-Over-clause-caused
returns-in-Over-clause-caused g c = caused_on g.D.Disk.is_modelled g.J.Journal.files c.in-Over.status
    (observation g.D.Disk g.K.Sink g.L.Library g.I.Inbox c.args.disk.now c.args.sink.now c.args.library.now c.args.inbox.now)
    (observation g.D.Disk g.K.Sink g.L.Library g.I.Inbox c.turns.disk c.turns.sink c.turns.library c.turns.inbox)
    (observation g.D.Disk g.K.Sink g.L.Library g.I.Inbox c.turn.new.disk c.turn.new.sink c.turn.new.library c.turn.new.inbox) c.turns.invariant.caused
    (subst (λ (r : _). IsCaused g.D.Disk.is_modelled g.J.Journal.files (status_of_turned r)
    (observation g.D.Disk g.K.Sink g.L.Library g.I.Inbox c.turns.disk c.turns.sink c.turns.library c.turns.inbox)
    (observation g.D.Disk g.K.Sink g.L.Library g.I.Inbox c.turn.new.disk c.turn.new.sink c.turn.new.library c.turn.new.inbox)) c.in-Over.is
    c.turn.ensures.caused)

pub returns-clause-caused : goal.returns-clause-caused
returns-clause-caused g c = c.turns.invariant.caused
