use Rattle.std.proofs.Common.{◌≡◌, ◌∙◌, [], refl, sym, subst}
use Rattle.std.specs.Prelude.{Bool}
use Rattle.deploy_state.specs.States.{idle_device}
use Rattle.step_runner.specs.Entries.{Listed}
use Rattle.histories.specs.States.{state_after}
use Rattle.session_boots.proofs.Acting.{acts_none}
use Rattle.session_transitions.proofs.Ended.{killed_ends}
use Rattle.session.specs.Parts.{RanLeft}
use Rattle.session.specs.declared.ran.Ran.{Ran}
use Rattle.session.proofs.States.{returned_may}
use Rattle.session.proofs.Returning.{came_back, came_over, must_give}
use Rattle.session.proofs.giving.back_or_over.Goals as goal

-- ---- it gives up

pub give_up-requires : goal.give_up-requires
give_up-requires g c =
    let q = c.requires.from_state in
    let told = Listed g.R.Runner.list g.R.Runner.told g.R.Runner.asked c.args.runner.now in
    record {
      from_state = (q.0, returned_may q.0 (idle_device c.args.idle) (g.S.Supervise.world c.args.supervisor.now) told (g.R.Runner.living c.args.runner.now) q.1);
    }

pub returns-then-must_end-clause-trace : goal.returns-then-must_end-clause-trace
returns-then-must_end-clause-trace g c = λ p before returned generation.
    let told = Listed g.R.Runner.list g.R.Runner.told g.R.Runner.asked c.args.runner.now in
    let new = Listed g.R.Runner.list g.R.Runner.told g.R.Runner.asked c.give_up.new.runner in
    let lives = g.R.Runner.living c.give_up.new.runner in
    let world = g.S.Supervise.world c.args.supervisor.now in
    let living = g.R.Runner.living c.args.runner.now in
    let may = returned_may p (idle_device c.args.idle) world told living returned in
    let t = c.give_up.ensures.trace p may in
    let gives = must_give c.args.status c.args.standing (sym c.must_end.ensures ∙ c.if-must_end.true) in (
      t.0,
      t.1,
      t.2,
      λ (rose : Bool). subst (λ (r : Ran _). RanLeft before r rose (state_after p t.0) world new lives) (sym c.give_up.ensures.over)
          (killed_ends p (state_after p t.0) world told living c.args.status rose may.0 t.3 t.4 gives (λ kept. returned.quiet.owes_none)),
    )

pub returns-then-must_end-clause-exact : goal.returns-then-must_end-clause-exact
returns-then-must_end-clause-exact g c =
    c.give_up.ensures.over ∙ sym (came_over c.args.idle c.args.status c.args.standing (sym c.must_end.ensures ∙ c.if-must_end.true))

-- ---- it comes back

pub returns-clause-trace : goal.returns-clause-trace
returns-clause-trace g c = λ p before returned generation.
    let list = g.R.Runner.list c.args.runner.now in
    ([], acts_none p list list refl, (tt, λ is. refl), λ (rose : Bool). (returned, generation, sym c.must_end.ensures ∙ c.if-must_end.false, c.requires.other))

pub returns-clause-exact : goal.returns-clause-exact
returns-clause-exact g c = sym (came_back c.args.idle c.args.status c.args.standing (sym c.must_end.ensures ∙ c.if-must_end.false))
