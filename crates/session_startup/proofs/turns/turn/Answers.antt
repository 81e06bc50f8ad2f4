use Rattle.std.proofs.Common.{◌∙◌, ◌++◌, true, false, refl, sym, subst}
use Rattle.device.specs.Devices.{Device}
use Rattle.device.specs.Standing.{StandsFor}
use Rattle.step_runner.specs.Entries.{Listed}
use Rattle.histories.specs.States.{SessionState, state_after}
use Rattle.histories.proofs.Joined.{left-append}
use Rattle.session_boots.proofs.Joins.{acted, went_on}
use Rattle.session_boots.proofs.Told.{all_printed, left_joined, lines_at_joined}
use Rattle.law_termination.specs.Rank.{rank}
use Rattle.law_termination.proofs.Steps.{measure_less, not_above_on, pass_not_above, turn_goes}
use Rattle.session_startup.specs.Coming.{coming_device}
use Rattle.session_startup.specs.Did.{ActLeft}
use Rattle.session_startup.specs.Runs.{IsAtTurnStart}
use Rattle.session_startup.proofs.Entering.{start_of, turn_left}
use Rattle.session_startup.proofs.Falling.{falling_at, sits_time}
use Rattle.session_startup.proofs.Stages.{coming_stands}
use Rattle.session_startup.proofs.Turning.{no_lines, quits_on, rests, settled_is, sits}
use Rattle.session_startup.proofs.turns.turn.Goals as goal

pub pass-now-requires : goal.pass-now-requires
pass-now-requires g c = let q = c.requires.from_state in record { from_state = (q.0, coming_device c.args.state, start_of q.1) }

pub take_acts-requires-clause-now : goal.take_acts-requires-clause-now
take_acts-requires-clause-now g c = c.pass-now.ensures.now

pub take_acts-requires-clause-from_state : goal.take_acts-requires-clause-from_state
take_acts-requires-clause-from_state g c =
    let q = c.requires.from_state in
    let w = turn_left c.driving_laws.ensures q.0 q.1.on q.1.keeps (c.pass-now.ensures.trace q.0 (coming_device c.args.state) (start_of q.1)) in
    (state_after q.0 w.0, w.2, w.1.device ∙ q.1.stands.device_is)

pub returns-in-Err-clause-trace : goal.returns-in-Err-clause-trace
returns-in-Err-clause-trace g c = λ p comes.
    let d = coming_device c.args.state in
    let w = turn_left c.driving_laws.ensures p comes.on comes.keeps (c.pass-now.ensures.trace p d (start_of comes)) in
    let device = comes.stands.device_is in
    let t = c.in-Err.ensures.trace (state_after p w.0) w.2 (w.1.device ∙ device) in
    let one = acted g.J.Journal.entries g.J.Journal.files g.met.D.Disk.laws c.args.disk.now (g.R.Runner.list c.args.runner.now)
    (g.R.Runner.list c.pass-now.new.runner) p w.0
    (λ i left. subst (λ (x : Device). StandsFor g.J.Journal.entries i x) (sym device)
    (coming_stands g.met.D.Disk.laws g.met.J.Journal.laws c.args.state c.args.disk.now c.requires.held i left)) w.1 in (
      t.0 ++ w.0,
      went_on g.J.Journal.entries g.J.Journal.files g.met.D.Disk.laws c.args.disk.now c.args.disk.now c.take_acts.new.disk
          (g.R.Runner.list c.args.runner.now) (g.R.Runner.list c.pass-now.new.runner) (g.R.Runner.list c.take_acts.new.runner) p w.0 t.0 one t.1,
      lines_at_joined (g.K.Sink.held c.args.sink.now) (g.K.Sink.held c.args.sink.now) (g.K.Sink.held c.take_acts.new.sink) p w.0 t.0 c.in-Err.over one.run
          (no_lines (g.K.Sink.held c.args.sink.now) p.device w.0 w.1.none) t.2,
      left_joined g.J.Journal.entries g.D.Disk.may_leave c.take_acts.new.disk p w.0 t.0 c.in-Err.over one.run t.3,
      quits_on p w.0 t.0 (g.S.Supervise.world c.take_acts.new.supervisor) (Listed g.R.Runner.list g.R.Runner.told g.R.Runner.asked c.take_acts.new.runner)
          (g.R.Runner.living c.take_acts.new.runner) t.4,
    )

pub returns-then-is_broken-clause-trace : goal.returns-then-is_broken-clause-trace
returns-then-is_broken-clause-trace g c = λ p comes.
    let d = coming_device c.args.state in
    let e = coming_device c.in-Ok.next in
    let w = turn_left c.driving_laws.ensures p comes.on comes.keeps (c.pass-now.ensures.trace p d (start_of comes)) in
    let device = comes.stands.device_is in
    let t = c.in-Ok.ensures.trace (state_after p w.0) w.2 (w.1.device ∙ device) in
    let one = acted g.J.Journal.entries g.J.Journal.files g.met.D.Disk.laws c.args.disk.now (g.R.Runner.list c.args.runner.now)
    (g.R.Runner.list c.pass-now.new.runner) p w.0
    (λ i left. subst (λ (x : Device). StandsFor g.J.Journal.entries i x) (sym device)
    (coming_stands g.met.D.Disk.laws g.met.J.Journal.laws c.args.state c.args.disk.now c.requires.held i left)) w.1 in
    let new = Listed g.R.Runner.list g.R.Runner.told g.R.Runner.asked c.take_acts.new.runner in
    let world = g.S.Supervise.world c.take_acts.new.supervisor in
    let living = g.R.Runner.living c.take_acts.new.runner in
    let a = subst (λ (x : SessionState). ActLeft x e true world new living) (sym (left-append p t.0 w.0)) t.3 in (
      t.0 ++ w.0,
      went_on g.J.Journal.entries g.J.Journal.files g.met.D.Disk.laws c.args.disk.now c.args.disk.now c.take_acts.new.disk
          (g.R.Runner.list c.args.runner.now) (g.R.Runner.list c.pass-now.new.runner) (g.R.Runner.list c.take_acts.new.runner) p w.0 t.0 one t.1,
      all_printed (g.K.Sink.held c.args.sink.now) (g.K.Sink.held c.args.sink.now) (g.K.Sink.held c.take_acts.new.sink) p w.0 t.0 one.run
          (no_lines (g.K.Sink.held c.args.sink.now) p.device w.0 w.1.none) t.2,
      rests (state_after p (t.0 ++ w.0)) e world new living true c.is_broken.result true a refl c.is_broken.ensures c.if-is_broken.true,
      tt,
    )

pub returns-then-settled-clause-trace : goal.returns-then-settled-clause-trace
returns-then-settled-clause-trace g c = λ p comes.
    let d = coming_device c.args.state in
    let e = coming_device c.in-Ok.next in
    let w = turn_left c.driving_laws.ensures p comes.on comes.keeps (c.pass-now.ensures.trace p d (start_of comes)) in
    let device = comes.stands.device_is in
    let t = c.in-Ok.ensures.trace (state_after p w.0) w.2 (w.1.device ∙ device) in
    let one = acted g.J.Journal.entries g.J.Journal.files g.met.D.Disk.laws c.args.disk.now (g.R.Runner.list c.args.runner.now)
    (g.R.Runner.list c.pass-now.new.runner) p w.0
    (λ i left. subst (λ (x : Device). StandsFor g.J.Journal.entries i x) (sym device)
    (coming_stands g.met.D.Disk.laws g.met.J.Journal.laws c.args.state c.args.disk.now c.requires.held i left)) w.1 in
    let new = Listed g.R.Runner.list g.R.Runner.told g.R.Runner.asked c.take_acts.new.runner in
    let world = g.S.Supervise.world c.take_acts.new.supervisor in
    let living = g.R.Runner.living c.take_acts.new.runner in
    let a = subst (λ (x : SessionState). ActLeft x e true world new living) (sym (left-append p t.0 w.0)) t.3 in
    let q = state_after p (t.0 ++ w.0) in
    let r = rests q e world new living true c.is_broken.result false a refl c.is_broken.ensures c.if-is_broken.false in (
      t.0 ++ w.0,
      went_on g.J.Journal.entries g.J.Journal.files g.met.D.Disk.laws c.args.disk.now c.args.disk.now c.take_acts.new.disk
          (g.R.Runner.list c.args.runner.now) (g.R.Runner.list c.pass-now.new.runner) (g.R.Runner.list c.take_acts.new.runner) p w.0 t.0 one t.1,
      all_printed (g.K.Sink.held c.args.sink.now) (g.K.Sink.held c.args.sink.now) (g.K.Sink.held c.take_acts.new.sink) p w.0 t.0 one.run
          (no_lines (g.K.Sink.held c.args.sink.now) p.device w.0 w.1.none) t.2,
      (r, settled_is q e false world new living c.settled.result true r c.settled.ensures c.if-settled.true),
      tt,
    )

pub wait_once-requires-clause-now : goal.wait_once-requires-clause-now
wait_once-requires-clause-now g c = (c.take_acts.ensures.now, c.pass-now.ensures.now.1)

pub wait_once-requires-clause-from_state : goal.wait_once-requires-clause-from_state
wait_once-requires-clause-from_state g c =
    let q = c.requires.from_state in
    let p = q.0 in
    let d = coming_device c.args.state in
    let e = coming_device c.in-Ok.next in
    let w = turn_left c.driving_laws.ensures p q.1.on q.1.keeps (c.pass-now.ensures.trace p d (start_of q.1)) in
    let t = c.in-Ok.ensures.trace (state_after p w.0) w.2 (w.1.device ∙ q.1.stands.device_is) in
    let new = Listed g.R.Runner.list g.R.Runner.told g.R.Runner.asked c.take_acts.new.runner in
    let world = g.S.Supervise.world c.take_acts.new.supervisor in
    let living = g.R.Runner.living c.take_acts.new.runner in
    let x = state_after (state_after p w.0) t.0 in
    let r = rests x e world new living true c.is_broken.result false t.3 refl c.is_broken.ensures c.if-is_broken.false in
    (x, sits x e world new living c.settled.result r c.settled.ensures c.if-settled.false)

pub returns-else-settled-clause-trace : goal.returns-else-settled-clause-trace
returns-else-settled-clause-trace g c = λ p comes.
    let d = coming_device c.args.state in
    let e = coming_device c.in-Ok.next in
    let w = turn_left c.driving_laws.ensures p comes.on comes.keeps (c.pass-now.ensures.trace p d (start_of comes)) in
    let device = comes.stands.device_is in
    let t = c.in-Ok.ensures.trace (state_after p w.0) w.2 (w.1.device ∙ device) in
    let one = acted g.J.Journal.entries g.J.Journal.files g.met.D.Disk.laws c.args.disk.now (g.R.Runner.list c.args.runner.now)
    (g.R.Runner.list c.pass-now.new.runner) p w.0
    (λ i left. subst (λ (x : Device). StandsFor g.J.Journal.entries i x) (sym device)
    (coming_stands g.met.D.Disk.laws g.met.J.Journal.laws c.args.state c.args.disk.now c.requires.held i left)) w.1 in
    let new = Listed g.R.Runner.list g.R.Runner.told g.R.Runner.asked c.take_acts.new.runner in
    let last = Listed g.R.Runner.list g.R.Runner.told g.R.Runner.asked c.wait_once.new.runner in
    let world = g.S.Supervise.world c.take_acts.new.supervisor in
    let living = g.R.Runner.living c.take_acts.new.runner in
    let both = went_on g.J.Journal.entries g.J.Journal.files g.met.D.Disk.laws c.args.disk.now c.args.disk.now c.take_acts.new.disk
    (g.R.Runner.list c.args.runner.now) (g.R.Runner.list c.pass-now.new.runner) (g.R.Runner.list c.take_acts.new.runner) p w.0 t.0 one t.1 in
    let lines = all_printed (g.K.Sink.held c.args.sink.now) (g.K.Sink.held c.args.sink.now) (g.K.Sink.held c.take_acts.new.sink) p w.0 t.0 one.run
    (no_lines (g.K.Sink.held c.args.sink.now) p.device w.0 w.1.none) t.2 in
    let x = state_after p (t.0 ++ w.0) in
    let a = subst (λ (y : SessionState). ActLeft y e true world new living) (sym (left-append p t.0 w.0)) t.3 in
    let r = rests x e world new living true c.is_broken.result false a refl c.is_broken.ensures c.if-is_broken.false in
    let u = c.wait_once.ensures.trace x e a.device_is (sits x e world new living c.settled.result r c.settled.ensures c.if-settled.false) in
    let slept = acted g.J.Journal.entries g.J.Journal.files g.met.D.Disk.laws c.take_acts.new.disk (g.R.Runner.list c.take_acts.new.runner)
    (g.R.Runner.list c.wait_once.new.runner) x u.0
    (λ i left. subst (λ (y : Device). StandsFor g.J.Journal.entries i y) (sym a.device_is)
    (coming_stands g.met.D.Disk.laws g.met.J.Journal.laws c.in-Ok.next c.take_acts.new.disk c.in-Ok.ensures.held i left)) u.1 in (
      u.0 ++ (t.0 ++ w.0),
      went_on g.J.Journal.entries g.J.Journal.files g.met.D.Disk.laws c.args.disk.now c.take_acts.new.disk c.take_acts.new.disk
          (g.R.Runner.list c.args.runner.now) (g.R.Runner.list c.take_acts.new.runner) (g.R.Runner.list c.wait_once.new.runner) p (t.0 ++ w.0) u.0 both slept,
      all_printed (g.K.Sink.held c.args.sink.now) (g.K.Sink.held c.take_acts.new.sink) (g.K.Sink.held c.take_acts.new.sink) p (t.0 ++ w.0) u.0 both.run lines
          (no_lines (g.K.Sink.held c.take_acts.new.sink) x.device u.0 u.1.none),
      subst (λ (y : SessionState). IsAtTurnStart y e (g.S.Supervise.world c.wait_once.new.supervisor) last (g.R.Runner.living c.wait_once.new.runner))
          (sym (left-append p u.0 (t.0 ++ w.0))) u.2,
      tt,
    )

-- ---- the number

pub take_acts-requires-clause-drives : goal.take_acts-requires-clause-drives
take_acts-requires-clause-drives g c =
    (pass_not_above (g.S.Supervise.world c.args.supervisor.now) (g.S.Supervise.world c.pass-now.new.supervisor) c.pass-now.result c.requires.drives
    c.pass-now.ensures.passed).on.drives

pub wait_once-requires-clause-drives : goal.wait_once-requires-clause-drives
wait_once-requires-clause-drives g c =
    let q = c.requires.from_state in
    let w = turn_left c.driving_laws.ensures q.0 q.1.on q.1.keeps (c.pass-now.ensures.trace q.0 (coming_device c.args.state) (start_of q.1)) in
    let t = c.in-Ok.ensures.trace (state_after q.0 w.0) w.2 (w.1.device ∙ q.1.stands.device_is) in
    let new = Listed g.R.Runner.list g.R.Runner.told g.R.Runner.asked c.take_acts.new.runner in (
      c.take_acts.ensures.not_above.on.drives,
      falling_at (state_after (state_after q.0 w.0) t.0) (g.S.Supervise.world c.take_acts.new.supervisor) new
          (g.R.Runner.living c.take_acts.new.runner) t.3.runs,
    )

pub wait_once-requires-clause-time : goal.wait_once-requires-clause-time
wait_once-requires-clause-time g c =
    let q = c.requires.from_state in
    let p = q.0 in
    let d = coming_device c.args.state in
    let e = coming_device c.in-Ok.next in
    let w = turn_left c.driving_laws.ensures p q.1.on q.1.keeps (c.pass-now.ensures.trace p d (start_of q.1)) in
    let t = c.in-Ok.ensures.trace (state_after p w.0) w.2 (w.1.device ∙ q.1.stands.device_is) in
    let new = Listed g.R.Runner.list g.R.Runner.told g.R.Runner.asked c.take_acts.new.runner in
    let world = g.S.Supervise.world c.take_acts.new.supervisor in
    let living = g.R.Runner.living c.take_acts.new.runner in
    let x = state_after (state_after p w.0) t.0 in
    let r = rests x e world new living true c.is_broken.result false t.3 refl c.is_broken.ensures c.if-is_broken.false in
    sits_time x world new living (sits x e world new living c.settled.result r c.settled.ensures c.if-settled.false)
    c.take_acts.ensures.not_above.on.drives

pub returns-in-Err-clause-drives : goal.returns-in-Err-clause-drives
returns-in-Err-clause-drives g c = c.take_acts.ensures.not_above.on.drives

pub returns-then-is_broken-clause-drives : goal.returns-then-is_broken-clause-drives
returns-then-is_broken-clause-drives g c = c.take_acts.ensures.not_above.on.drives

pub returns-then-settled-clause-drives : goal.returns-then-settled-clause-drives
returns-then-settled-clause-drives g c = c.take_acts.ensures.not_above.on.drives

pub returns-else-settled-clause-drives : goal.returns-else-settled-clause-drives
returns-else-settled-clause-drives g c = c.wait_once.ensures.not_above.on.drives

pub returns-then-is_broken-clause-falls : goal.returns-then-is_broken-clause-falls
returns-then-is_broken-clause-falls g c = λ none. absurd (cc)

pub returns-then-settled-clause-falls : goal.returns-then-settled-clause-falls
returns-then-settled-clause-falls g c = λ none. absurd (cc)

pub returns-else-settled-clause-falls : goal.returns-else-settled-clause-falls
returns-else-settled-clause-falls g c = λ none.
    let old = g.S.Supervise.world c.args.supervisor.now in
    let told = g.S.Supervise.world c.pass-now.new.supervisor in
    let acts = g.S.Supervise.world c.take_acts.new.supervisor in
    let n = not_above_on old told acts (pass_not_above old told c.pass-now.result c.requires.drives c.pass-now.ensures.passed) c.take_acts.ensures.not_above in
    let last = g.S.Supervise.world c.wait_once.new.supervisor in
    let before = g.R.Runner.clock c.args.runner.now in
    let after = g.R.Runner.clock c.wait_once.new.runner in
    measure_less old last before after (g.met.R.Runner.in_time c.args.runner.now) (g.met.R.Runner.in_time c.wait_once.new.runner)
    (turn_goes (rank old) (rank acts) (rank last) before c.pass-now.result after n.least c.wait_once.ensures.not_above.least c.pass-now.ensures.clock
    c.wait_once.ensures.goes_on)
