use Rattle.std.proofs.Common.{◌≡◌, ◌++◌, List, ℕ, Option, is_none, is_some, sym, ap, subst}
use Rattle.deploy_state.proofs.Steps.{in_hand_stands}
use Rattle.deploy_state.specs.States.{device_of}
use Rattle.step_runner.specs.Entries.{Listed}
use Rattle.histories.specs.Courses.{IsBare}
use Rattle.histories.specs.TraceEvents.{records_of}
use Rattle.histories.specs.Phases.{duty_of}
use Rattle.histories.specs.States.{SessionState, state_after}
use Rattle.histories.proofs.Joined.{left-append}
use Rattle.session_boots.specs.Booted.{LastBootEnded, restart_of}
use Rattle.session_boots.specs.Lines.{lines_of}
use Rattle.session_boots.specs.Stands.{IsBetween}
use Rattle.session_boots.proofs.Between.{may_step, no_living}
use Rattle.session_boots.proofs.Duties.{begun_told, can_begin, next_in, next_begun}
use Rattle.session_boots.proofs.Joins.{ends_on, went_on}
use Rattle.session_boots.proofs.Limits.{boot_limit}
use Rattle.session_boots.proofs.Turn.{ran}
use Rattle.session_boots.proofs.Told.{all_printed, lines_at_joined, left_joined, none_at, nothing_printed}
use Rattle.session_boots.proofs.turns.run_turn.Goals as goal

pub begin-requires-clause-may : goal.begin-requires-clause-may
begin-requires-clause-may g c =
    let d = device_of (g.S.BootStage.hand c.args.state) in
    let t = c.requires.next in
    can_begin d t.name (next_in d t.name t.next)

pub returns-in-Err-clause-trace : goal.returns-in-Err-clause-trace
returns-in-Err-clause-trace g c = λ p world at_stage.
    let told = Listed g.R.Runner.list g.R.Runner.told g.R.Runner.asked c.args.runner.now in
    let b = c.in-Err.ensures.trace p world told (g.R.Runner.living c.args.runner.now) at_stage in
    (b.0, b.1, none_at (g.K.Sink.held c.args.sink.now) p.device (records_of b.0) c.in-Err.over b.5, b.3, b.4)

pub returns-in-Err-clause-none : goal.returns-in-Err-clause-none
returns-in-Err-clause-none g c =
    let q = c.requires.from_state in
    no_living q.0 (device_of (g.S.BootStage.hand c.args.state)) q.1 (Listed g.R.Runner.list g.R.Runner.told g.R.Runner.asked c.args.runner.now)
    (g.R.Runner.living c.args.runner.now) q.2

pub run_step-exit-requires-clause-none : goal.run_step-exit-requires-clause-none
run_step-exit-requires-clause-none g c =
    let q = c.requires.from_state in
    no_living q.0 (device_of (g.S.BootStage.hand c.args.state)) q.1 (Listed g.R.Runner.list g.R.Runner.told g.R.Runner.asked c.args.runner.now)
    (g.R.Runner.living c.args.runner.now) q.2

pub run_step-exit-requires-clause-limit : goal.run_step-exit-requires-clause-limit
run_step-exit-requires-clause-limit g c = boot_limit c.recipe_laws.ensures.sound _ _ _ c.args.step.now c.requires.next.of.prepared

pub end-requires-clause-next : goal.end-requires-clause-next
end-requires-clause-next g c =
    let begins = c.in-Ok.ensures.begins in
    let d = device_of (g.S.BootStage.hand c.args.state) in
    let b = device_of (g.S.BootStage.hand c.in-Ok.begun) in
    let t = next_begun d b c.args.step.now begins.0 begins.1 begins.2 c.requires.next in
    ap (λ (o : Option (List ℕ)). is_some o) t.next

pub end-requires-clause-begun : goal.end-requires-clause-begun
end-requires-clause-begun g c =
    let begins = c.in-Ok.ensures.begins in
    begun_told (device_of (g.S.BootStage.hand c.args.state)) (device_of (g.S.BootStage.hand c.in-Ok.begun)) begins.0 begins.1 begins.2

pub returns-in-Ok-end-clause-turns : goal.returns-in-Ok-end-clause-turns
returns-in-Ok-end-clause-turns g c = (device_of (g.S.BootStage.hand c.in-Ok.begun), c.in-Ok.ensures.begins, c.in-Ok-end.ensures.ends)

pub returns-in-Ok-end-clause-trace : goal.returns-in-Ok-end-clause-trace
returns-in-Ok-end-clause-trace g c = λ p world at_stage.
    let d = device_of (g.S.BootStage.hand c.args.state) in
    let b = device_of (g.S.BootStage.hand c.in-Ok.begun) in
    let told = Listed g.R.Runner.list g.R.Runner.told g.R.Runner.asked c.args.runner.now in
    let new = Listed g.R.Runner.list g.R.Runner.told g.R.Runner.asked c.run_step-exit.new.runner in
    let living = g.R.Runner.living c.args.runner.now in
    let next = g.R.Runner.living c.run_step-exit.new.runner in
    let x = c.run_step-exit.result in
    let begins = c.in-Ok.ensures.begins in
    let held = c.in-Ok.ensures.held in
    let one = c.in-Ok.ensures.trace p world told living at_stage in
    let is_next = next_begun d b c.args.step.now begins.0 begins.1 begins.2 c.requires.next in
    let begun = begun_told d b begins.0 begins.1 begins.2 in
    let two = c.run_step-exit.ensures.trace (state_after p one.0) (may_step (state_after p one.0) b world told living c.args.step.now one.3 is_next begun)
    in
    let r = ran g.J.Journal.entries g.J.Journal.files g.D.Disk.may_leave g.D.Disk.moment g.D.Disk.left_since g.met.D.Disk.laws c.args.disk.now
    c.begin.new.disk p b x world told new living next one.0 two.0 one.1 one.2 one.3
    (in_hand_stands g.met.D.Disk.laws g.met.J.Journal.laws _ c.begin.new.disk b held.0.0) two.1 two.2 c.run_step-exit.ensures.later
    c.run_step-exit.ensures.none in
    let h = two.0 ++ one.0 in
    let three = c.in-Ok-end.ensures.trace (state_after p h) world new next r.end in (
      three.0 ++ h,
      went_on g.J.Journal.entries g.J.Journal.files g.met.D.Disk.laws c.args.disk.now c.begin.new.disk c.end.new.disk told.list new.list new.list p h three.0
          r.trace three.1,
      all_printed (g.K.Sink.held c.args.sink.now) (g.K.Sink.held c.args.sink.now) (g.K.Sink.held c.end.new.sink) p h three.0 r.trace.run
          (nothing_printed (g.K.Sink.held c.args.sink.now) (lines_of p.device (records_of h)) r.none) three.2,
      subst (λ (q : SessionState). IsBetween q (device_of (g.S.BootStage.hand c.in-Ok-end.next)) world new next ×
          (q.over ≡ is_some (restart_of x (is_none (duty_of (device_of (g.S.BootStage.hand c.in-Ok-end.next))).next_bootstrap)))
          × LastBootEnded x (records_of (three.0 ++ h)))
          (sym (left-append p three.0 h))
          (three.3.0, three.3.1, ends_on x h three.0 three.3.2),
      tt,
    )

pub returns-in-Err-end-clause-trace : goal.returns-in-Err-end-clause-trace
returns-in-Err-end-clause-trace g c = λ p world at_stage.
    let d = device_of (g.S.BootStage.hand c.args.state) in
    let b = device_of (g.S.BootStage.hand c.in-Ok.begun) in
    let told = Listed g.R.Runner.list g.R.Runner.told g.R.Runner.asked c.args.runner.now in
    let new = Listed g.R.Runner.list g.R.Runner.told g.R.Runner.asked c.run_step-exit.new.runner in
    let living = g.R.Runner.living c.args.runner.now in
    let next = g.R.Runner.living c.run_step-exit.new.runner in
    let x = c.run_step-exit.result in
    let begins = c.in-Ok.ensures.begins in
    let held = c.in-Ok.ensures.held in
    let one = c.in-Ok.ensures.trace p world told living at_stage in
    let is_next = next_begun d b c.args.step.now begins.0 begins.1 begins.2 c.requires.next in
    let begun = begun_told d b begins.0 begins.1 begins.2 in
    let two = c.run_step-exit.ensures.trace (state_after p one.0) (may_step (state_after p one.0) b world told living c.args.step.now one.3 is_next begun)
    in
    let r = ran g.J.Journal.entries g.J.Journal.files g.D.Disk.may_leave g.D.Disk.moment g.D.Disk.left_since g.met.D.Disk.laws c.args.disk.now
    c.begin.new.disk p b x world told new living next one.0 two.0 one.1 one.2 one.3
    (in_hand_stands g.met.D.Disk.laws g.met.J.Journal.laws _ c.begin.new.disk b held.0.0) two.1 two.2 c.run_step-exit.ensures.later
    c.run_step-exit.ensures.none in
    let h = two.0 ++ one.0 in
    let three = c.in-Err-end.ensures.trace (state_after p h) world new next r.end in (
      three.0 ++ h,
      went_on g.J.Journal.entries g.J.Journal.files g.met.D.Disk.laws c.args.disk.now c.begin.new.disk c.end.new.disk told.list new.list new.list p h three.0
          r.trace three.1,
      lines_at_joined (g.K.Sink.held c.args.sink.now) (g.K.Sink.held c.args.sink.now) (g.K.Sink.held c.end.new.sink) p h three.0 c.in-Err-end.over r.trace.run
          (nothing_printed (g.K.Sink.held c.args.sink.now) (lines_of p.device (records_of h)) r.none) three.2,
      left_joined g.J.Journal.entries g.D.Disk.may_leave c.end.new.disk p h three.0 c.in-Err-end.over r.trace.run three.3,
      subst IsBare (sym (left-append p three.0 h)) three.4,
    )
