use Rattle.std.proofs.Common.{ℕ, [], ◌∷◌, Option, subst, arith}
use Rattle.step_runner.specs.Entries.{Listed}
use Rattle.step_runner.specs.declared.entries.Seen.TheVariants as seen
use Rattle.components.specs.Answers.{IsNextLiving}
use Rattle.histories.specs.TraceEvents.{ReadClock, KilledOnAbort}
use Rattle.histories.specs.States.{state_after}
use Rattle.session_boots.proofs.Acting.{acts_on}
use Rattle.session_boots.proofs.Restarts.{none_is}
use Rattle.session_acts.proofs.Entering.{entry}
use Rattle.session_transitions.proofs.Killing.{all_bare, ask_acts, ask_keeps, ask_kills, fewer_live, kill_acts, kill_keeps, kill_kills, kill_lives, none_living}
use Rattle.session_transitions.proofs.abort.kill_all.Goals as goal

pub kills-init : goal.kills-init
kills-init g c = record {
  trace = λ p given.
      let now = c.moment-now.result in
      let world = g.S.Supervise.world c.args.supervisor.now in
      let old = Listed g.R.Runner.list g.R.Runner.told g.R.Runner.asked c.args.runner.now in
      let new = Listed g.R.Runner.list g.R.Runner.told g.R.Runner.asked c.moment-now.new.self in
      let living = g.R.Runner.living c.args.runner.now in
      let past = g.met.R.Runner.past c.args.runner.now in (
        ReadClock now ∷ [],
        ask_acts p world old living given now (g.R.Runner.list c.args.runner.now) (g.R.Runner.list c.moment-now.new.self)
            (omega (arith, past, c.moment-now.ensures.later)) c.moment-now.ensures.list,
        ask_keeps p now,
        ask_kills p world old living given now new (g.R.Runner.living c.moment-now.new.self) c.moment-now.ensures.moment c.moment-now.ensures.asked
            c.moment-now.ensures.lives,
        (tt, tt),
      );
}

pub kill-requires : goal.kill-requires
kill-requires g c =
    let q = c.requires.from_state in
    let w = c.kills.invariant.trace q.0 q.1 in
    let old = Listed g.R.Runner.list g.R.Runner.told g.R.Runner.asked c.kills.runner in
    kill_lives (state_after q.0 w.0) c.kills.last (g.S.Supervise.world c.args.supervisor.now) old (g.R.Runner.living c.kills.runner) w.3 c.in-Some.child
    c.in-Some.ensures

pub kills-preserved : goal.kills-preserved
kills-preserved g c = record {
  trace = λ p given.
      let w = c.kills.invariant.trace p given in
      let world = g.S.Supervise.world c.args.supervisor.now in
      let old = Listed g.R.Runner.list g.R.Runner.told g.R.Runner.asked c.kills.runner in
      let new = Listed g.R.Runner.list g.R.Runner.told g.R.Runner.asked c.kill.new.self in
      let living = g.R.Runner.living c.kills.runner in
      let child = c.in-Some.child in
      let cut = KilledOnAbort (entry old (seen.Killed child)) in (
        cut ∷ w.0,
        acts_on p w.0 (cut ∷ []) (g.R.Runner.list c.args.runner.now) (g.R.Runner.list c.kills.runner) (g.R.Runner.list c.kill.new.self) w.1
            (kill_acts (state_after p w.0) c.kills.last world old living w.3 child c.in-Some.ensures new c.kill.ensures.notes),
        kill_keeps p (state_after p w.0) old child w.2,
        kill_kills (state_after p w.0) c.kills.last world old living w.3 child c.in-Some.ensures new (g.R.Runner.living c.kill.new.self) c.kill.ensures.notes
            c.kill.ensures.lives,
        (tt, w.4),
      );
}

pub kills-smaller : goal.kills-smaller
kills-smaller g c =
    let q = c.requires.from_state in
    let w = c.kills.invariant.trace q.0 q.1 in
    let world = g.S.Supervise.world c.args.supervisor.now in
    let old = Listed g.R.Runner.list g.R.Runner.told g.R.Runner.asked c.kills.runner in
    let living = g.R.Runner.living c.kills.runner in
    fewer_live c.in-Some.child living (g.R.Runner.living c.kill.new.self)
    (kill_lives (state_after q.0 w.0) c.kills.last world old living w.3 c.in-Some.child c.in-Some.ensures) c.kill.ensures.lives

pub returns : goal.returns
returns g c =
    let world = g.S.Supervise.world c.args.supervisor.now in
    let told = Listed g.R.Runner.list g.R.Runner.told g.R.Runner.asked c.kills.runner in
    let living = g.R.Runner.living c.kills.runner in
    let q = c.requires.from_state in
    let v = c.kills.invariant.trace q.0 q.1 in
    let none = subst (λ (o : Option ℕ). IsNextLiving world c.kills.last o) (none_is c.next_living.result c.in_default.not-Some) c.next_living.ensures in
    record {
      trace = λ p given.
          let w = c.kills.invariant.trace p given in
          (w.0, w.1, w.2, all_bare (state_after p w.0) c.kills.last world told living w.3 none, w.4);
      none = none_living (state_after q.0 v.0) c.kills.last world told living v.3 none;
    }
