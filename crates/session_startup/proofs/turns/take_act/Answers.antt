use Rattle.std.proofs.Common.{◌∙◌, ◌++◌, false, refl, sym, subst}
use Rattle.device.specs.Devices.{Device}
use Rattle.device.specs.Standing.{StandsFor}
use Rattle.step_runner.specs.Entries.{Listed}
use Rattle.histories.specs.States.{SessionState, state_after}
use Rattle.histories.proofs.Joined.{left-append}
use Rattle.session_boots.proofs.Joins.{acted, went_on}
use Rattle.session_boots.proofs.Same.{same_refl}
use Rattle.session_boots.proofs.Told.{all_printed, left_joined, lines_at_joined}
use Rattle.session_startup.specs.Coming.{coming_device}
use Rattle.session_startup.specs.Did.{ActLeft}
use Rattle.session_acts.proofs.Entering.{never}
use Rattle.session_acts.specs.declared.acts.Did.TheVariants as did
use Rattle.session_acts.proofs.Taken.{failed_is, something_is, taken_falls, taken_not_above}
use Rattle.session_startup.proofs.Entering.{did_left, turn_of}
use Rattle.session_startup.proofs.Falling.{falling_at}
use Rattle.session_startup.proofs.Parting.{apart}
use Rattle.session_startup.proofs.Stages.{coming_stands}
use Rattle.session_startup.proofs.Turning.{no_lines, quits_on}
use Rattle.session_startup.proofs.turns.take_act.Goals as goal

pub act-requires-clause-from_state : goal.act-requires-clause-from_state
act-requires-clause-from_state g c = let q = c.requires.from_state in (q.0, turn_of q.1)

pub note_failure-requires-clause-from_state : goal.note_failure-requires-clause-from_state
note_failure-requires-clause-from_state g c =
    let q = c.requires.from_state in
    let w = did_left c.driving_laws.ensures q.0 q.1.within.on q.1.within.keeps (did.Failed c.in-Failed.who c.in-Failed.step c.in-Failed.exit) _ _ _
    (c.in-Failed.ensures.trace q.0 (turn_of q.1)) in
    (state_after q.0 w.0, Listed g.R.Runner.list g.R.Runner.told g.R.Runner.asked c.act.new.runner, g.R.Runner.living c.act.new.runner, w.2, w.1.device ∙ q.2)

pub returns-in-Nothing-clause-trace : goal.returns-in-Nothing-clause-trace
returns-in-Nothing-clause-trace g c = λ p runs device.
    let w = did_left c.driving_laws.ensures p runs.within.on runs.within.keeps did.Nothing _ _ _
    (c.in-Nothing.ensures.trace p (turn_of runs)) in (
      w.0,
      acted g.J.Journal.entries g.J.Journal.files g.met.D.Disk.laws c.args.disk.now (g.R.Runner.list c.args.runner.now) (g.R.Runner.list c.act.new.runner) p w.0
          (λ i left. subst (λ (d : Device). StandsFor g.J.Journal.entries i d) (sym device)
          (coming_stands g.met.D.Disk.laws g.met.J.Journal.laws c.args.state c.args.disk.now c.requires.held i left)) w.1,
      no_lines (g.K.Sink.held c.args.sink.now) p.device w.0 w.1.none,
      record { runs = w.2.0; device_is = w.1.device ∙ device; quiet = λ none. w.2.1 },
      tt,
    )

pub returns-in-Nothing-clause-deployment : goal.returns-in-Nothing-clause-deployment
returns-in-Nothing-clause-deployment g c = same_refl (coming_device c.args.state)

pub returns-in-Something-clause-trace : goal.returns-in-Something-clause-trace
returns-in-Something-clause-trace g c = λ p runs device.
    let w = did_left c.driving_laws.ensures p runs.within.on runs.within.keeps did.Something _ _ _
    (c.in-Something.ensures.trace p (turn_of runs)) in (
      w.0,
      acted g.J.Journal.entries g.J.Journal.files g.met.D.Disk.laws c.args.disk.now (g.R.Runner.list c.args.runner.now) (g.R.Runner.list c.act.new.runner) p w.0
          (λ i left. subst (λ (d : Device). StandsFor g.J.Journal.entries i d) (sym device)
          (coming_stands g.met.D.Disk.laws g.met.J.Journal.laws c.args.state c.args.disk.now c.requires.held i left)) w.1,
      no_lines (g.K.Sink.held c.args.sink.now) p.device w.0 w.1.none,
      record { runs = w.2; device_is = w.1.device ∙ device; quiet = λ none. absurd (never false refl none) },
      tt,
    )

pub returns-in-Something-clause-deployment : goal.returns-in-Something-clause-deployment
returns-in-Something-clause-deployment g c = same_refl (coming_device c.args.state)

pub returns-in-Ok-clause-trace : goal.returns-in-Ok-clause-trace
returns-in-Ok-clause-trace g c = λ p runs device.
    let w = did_left c.driving_laws.ensures p runs.within.on runs.within.keeps (did.Failed c.in-Failed.who c.in-Failed.step c.in-Failed.exit) _ _ _
    (c.in-Failed.ensures.trace p (turn_of runs)) in
    let told = Listed g.R.Runner.list g.R.Runner.told g.R.Runner.asked c.act.new.runner in
    let living = g.R.Runner.living c.act.new.runner in
    let t = c.in-Ok.ensures.trace (state_after p w.0) told living w.2 (w.1.device ∙ device) in
    let one = acted g.J.Journal.entries g.J.Journal.files g.met.D.Disk.laws c.args.disk.now (g.R.Runner.list c.args.runner.now)
    (g.R.Runner.list c.act.new.runner) p w.0
    (λ i left. subst (λ (d : Device). StandsFor g.J.Journal.entries i d) (sym device)
    (coming_stands g.met.D.Disk.laws g.met.J.Journal.laws c.args.state c.args.disk.now c.requires.held i left)) w.1 in (
      t.0 ++ w.0,
      went_on g.J.Journal.entries g.J.Journal.files g.met.D.Disk.laws c.args.disk.now c.args.disk.now c.note_failure.new.disk
          (g.R.Runner.list c.args.runner.now) (g.R.Runner.list c.act.new.runner) (g.R.Runner.list c.act.new.runner) p w.0 t.0 one t.1,
      all_printed (g.K.Sink.held c.args.sink.now) (g.K.Sink.held c.args.sink.now) (g.K.Sink.held c.note_failure.new.sink) p w.0 t.0 one.run
          (no_lines (g.K.Sink.held c.args.sink.now) p.device w.0 w.1.none) t.2,
      subst (λ (x : SessionState). ActLeft x (coming_device c.in-Ok.next) false (g.S.Supervise.world c.act.new.supervisor) told living)
          (sym (left-append p t.0 w.0))
          (record { runs = t.3.0; device_is = t.3.1; quiet = λ none. absurd (never false refl none) }),
      tt,
    )

pub returns-in-Err-clause-trace : goal.returns-in-Err-clause-trace
returns-in-Err-clause-trace g c = λ p runs device.
    let w = did_left c.driving_laws.ensures p runs.within.on runs.within.keeps (did.Failed c.in-Failed.who c.in-Failed.step c.in-Failed.exit) _ _ _
    (c.in-Failed.ensures.trace p (turn_of runs)) in
    let told = Listed g.R.Runner.list g.R.Runner.told g.R.Runner.asked c.act.new.runner in
    let living = g.R.Runner.living c.act.new.runner in
    let t = c.in-Err.ensures.trace (state_after p w.0) told living w.2 (w.1.device ∙ device) in
    let one = acted g.J.Journal.entries g.J.Journal.files g.met.D.Disk.laws c.args.disk.now (g.R.Runner.list c.args.runner.now)
    (g.R.Runner.list c.act.new.runner) p w.0
    (λ i left. subst (λ (d : Device). StandsFor g.J.Journal.entries i d) (sym device)
    (coming_stands g.met.D.Disk.laws g.met.J.Journal.laws c.args.state c.args.disk.now c.requires.held i left)) w.1 in (
      t.0 ++ w.0,
      went_on g.J.Journal.entries g.J.Journal.files g.met.D.Disk.laws c.args.disk.now c.args.disk.now c.note_failure.new.disk
          (g.R.Runner.list c.args.runner.now) (g.R.Runner.list c.act.new.runner) (g.R.Runner.list c.act.new.runner) p w.0 t.0 one t.1,
      lines_at_joined (g.K.Sink.held c.args.sink.now) (g.K.Sink.held c.args.sink.now) (g.K.Sink.held c.note_failure.new.sink) p w.0 t.0 c.in-Err.over one.run
          (no_lines (g.K.Sink.held c.args.sink.now) p.device w.0 w.1.none) t.2,
      left_joined g.J.Journal.entries g.D.Disk.may_leave c.note_failure.new.disk p w.0 t.0 c.in-Err.over one.run t.3,
      quits_on p w.0 t.0 (g.S.Supervise.world c.act.new.supervisor) told living t.4,
    )

pub returns-in-Nothing-clause-falls : goal.returns-in-Nothing-clause-falls
returns-in-Nothing-clause-falls g c = λ some. absurd (apart some)

pub returns-in-Something-clause-falls : goal.returns-in-Something-clause-falls
returns-in-Something-clause-falls g c = λ some.
    let q = c.requires.from_state in
    let v = g.S.Supervise.world c.args.supervisor.now in
    let told = Listed g.R.Runner.list g.R.Runner.told g.R.Runner.asked c.args.runner.now in
    let f = falling_at q.0 v told (g.R.Runner.living c.args.runner.now) q.1 in
    taken_falls c.args.now v (g.S.Supervise.world c.act.new.supervisor) c.requires.drives f c.act.result c.act.ensures.taken
    (something_is c.act.result c.in-Something.is)

pub returns-in-Ok-clause-falls : goal.returns-in-Ok-clause-falls
returns-in-Ok-clause-falls g c = λ some.
    let q = c.requires.from_state in
    let v = g.S.Supervise.world c.args.supervisor.now in
    let told = Listed g.R.Runner.list g.R.Runner.told g.R.Runner.asked c.args.runner.now in
    let f = falling_at q.0 v told (g.R.Runner.living c.args.runner.now) q.1 in
    taken_falls c.args.now v (g.S.Supervise.world c.act.new.supervisor) c.requires.drives f c.act.result c.act.ensures.taken
    (failed_is c.act.result c.in-Failed.who c.in-Failed.step c.in-Failed.exit c.in-Failed.is)

pub returns-in-Nothing-clause-not_above : goal.returns-in-Nothing-clause-not_above
returns-in-Nothing-clause-not_above g c =
    let q = c.requires.from_state in
    let v = g.S.Supervise.world c.args.supervisor.now in
    let told = Listed g.R.Runner.list g.R.Runner.told g.R.Runner.asked c.args.runner.now in
    let f = falling_at q.0 v told (g.R.Runner.living c.args.runner.now) q.1 in
    taken_not_above c.args.now v (g.S.Supervise.world c.act.new.supervisor) c.requires.drives f c.act.result c.act.ensures.taken

pub returns-in-Something-clause-not_above : goal.returns-in-Something-clause-not_above
returns-in-Something-clause-not_above g c =
    let q = c.requires.from_state in
    let v = g.S.Supervise.world c.args.supervisor.now in
    let told = Listed g.R.Runner.list g.R.Runner.told g.R.Runner.asked c.args.runner.now in
    let f = falling_at q.0 v told (g.R.Runner.living c.args.runner.now) q.1 in
    taken_not_above c.args.now v (g.S.Supervise.world c.act.new.supervisor) c.requires.drives f c.act.result c.act.ensures.taken

pub returns-in-Ok-clause-not_above : goal.returns-in-Ok-clause-not_above
returns-in-Ok-clause-not_above g c =
    let q = c.requires.from_state in
    let v = g.S.Supervise.world c.args.supervisor.now in
    let told = Listed g.R.Runner.list g.R.Runner.told g.R.Runner.asked c.args.runner.now in
    let f = falling_at q.0 v told (g.R.Runner.living c.args.runner.now) q.1 in
    taken_not_above c.args.now v (g.S.Supervise.world c.act.new.supervisor) c.requires.drives f c.act.result c.act.ensures.taken

pub returns-in-Err-clause-not_above : goal.returns-in-Err-clause-not_above
returns-in-Err-clause-not_above g c =
    let q = c.requires.from_state in
    let v = g.S.Supervise.world c.args.supervisor.now in
    let told = Listed g.R.Runner.list g.R.Runner.told g.R.Runner.asked c.args.runner.now in
    let f = falling_at q.0 v told (g.R.Runner.living c.args.runner.now) q.1 in
    taken_not_above c.args.now v (g.S.Supervise.world c.act.new.supervisor) c.requires.drives f c.act.result c.act.ensures.taken
