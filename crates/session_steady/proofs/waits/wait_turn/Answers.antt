use Rattle.std.proofs.Common.{◌≡◌, ◌∙◌, sym, ap}
use Rattle.step_runner.specs.Entries.{Listed}
use Rattle.components.specs.Components.{Components}
use Rattle.session_steady.proofs.Staying.{waited_stays}
use Rattle.session_steady.proofs.Waiting.{ready, wait_left}
use Rattle.session_steady.proofs.waits.wait_turn.Goals as goal

pub turn_limit-limit-requires : goal.turn_limit-limit-requires
turn_limit-limit-requires g c =
    let q = c.requires.from_state in
    ap (λ (w : Components). w.moment) q.2.turn.world_is ∙ sym q.2.turn.within.moment ∙ c.requires.now.0

pub wait-requires-clause-from_state : goal.wait-requires-clause-from_state
wait-requires-clause-from_state g c =
    let q = c.requires.from_state in
    let told = Listed g.R.Runner.list g.R.Runner.told g.R.Runner.asked c.args.runner.now in (
      q.0,
      ready q.0 q.1 (g.S.Supervise.world c.args.supervisor.now) told (g.R.Runner.living c.args.runner.now) c.turn_limit-limit.result c.args.now q.2
          c.requires.now.0 c.turn_limit-limit.ensures,
    )

pub returns-clause-trace : goal.returns-clause-trace
returns-clause-trace g c = λ p d waits.
    let told = Listed g.R.Runner.list g.R.Runner.told g.R.Runner.asked c.args.runner.now in
    wait_left p d waits (c.wait.ensures.trace p
    (ready p d (g.S.Supervise.world c.args.supervisor.now) told (g.R.Runner.living c.args.runner.now) c.turn_limit-limit.result c.args.now waits
    c.requires.now.0 c.turn_limit-limit.ensures))

pub returns-clause-stays : goal.returns-clause-stays
returns-clause-stays g c =
    let q = c.requires.from_state in
    let world = g.S.Supervise.world c.args.supervisor.now in
    let moment : world.moment ≡ c.args.now = ap (λ (w : Components). w.moment) q.2.turn.world_is ∙ sym q.2.turn.within.moment ∙ c.requires.now.0 in
    waited_stays c.args.now c.turn_limit-limit.result (g.R.Runner.clock c.args.runner.now) (g.R.Runner.clock c.wait.new.runner) world
    (g.S.Supervise.world c.wait.new.supervisor) moment c.requires.drives c.wait.ensures.waited
