use Rattle.records.specs.Stored as stored
use Rattle.deploy_state.specs.States.{device_of}
use Rattle.deploy_state.proofs.Steps.{mark_failed, sound_long}
use Rattle.deploy_state.proofs.state.Hand.count.Goals as goal

pub place_of-at-requires-clause-long : goal.place_of-at-requires-clause-long
place_of-at-requires-clause-long g c = sound_long (device_of c.args.self) c.requires.held.0.sound

pub step-requires-clause-may : goal.step-requires-clause-may
step-requires-clause-may g c = (
  stored.StepFailed c.args.name.now c.args.step c.args.exit,
  mark_failed (device_of c.args.self) c.args.name.now c.place_of-at.result c.args.step
      c.args.exit c.place_of-at.ensures,
  c.requires.may,
)

pub returns-clause-moments : goal.returns-clause-moments
returns-clause-moments g c =
    c.step.ensures.moments (stored.StepFailed c.args.name.now c.args.step c.args.exit)
    (mark_failed (device_of c.args.self) c.args.name.now c.place_of-at.result c.args.step c.args.exit c.place_of-at.ensures)

pub returns-clause-taken : goal.returns-clause-taken
returns-clause-taken g c =
    c.step.ensures.taken (stored.StepFailed c.args.name.now c.args.step c.args.exit)
    (mark_failed (device_of c.args.self) c.args.name.now c.place_of-at.result c.args.step c.args.exit c.place_of-at.ensures)
