use Rattle.std.proofs.Common.{◌++◌, None, Some, refl, sym, subst}
use Rattle.step_runner.specs.Entries.{Listed}
use Rattle.components.specs.Acts.{NextAct}
use Rattle.components.specs.declared.kinds.Act.{Act}
use Rattle.components.specs.declared.kinds.Act.TheVariants as acts
use Rattle.histories.specs.States.{SessionState, state_after}
use Rattle.histories.proofs.Joined.{left-append}
use Rattle.session_acts.specs.Runs.{IsInTurn}
use Rattle.session_acts.proofs.Handing.{broke_at, failed_at, handed, quiet_at, starting_at}
use Rattle.session_acts.proofs.Starting.{kill_lives, kill_runs}
use Rattle.session_acts.proofs.Entering.{turn_on}
use Rattle.session_acts.proofs.Taken.{not_none}
use Rattle.session_acts.proofs.acts.act.Goals as goal

pub returns-in-None-clause-trace : goal.returns-in-None-clause-trace
returns-in-None-clause-trace g c = λ p runs.
    let told = Listed g.R.Runner.list g.R.Runner.told g.R.Runner.asked c.args.runner.now in
    let living = g.R.Runner.living c.args.runner.now in
    let list = g.R.Runner.list c.args.runner.now in
    let v = g.S.Supervise.world c.args.supervisor.now in
    let w = g.S.Supervise.world c.next_act.new.self in
    let m = handed c.orderly_laws.ensures p v w told living list None runs c.in-None.ensures.next in
    (m.h, m.acts, quiet_at (state_after p m.h) w told living m.within m.probed m.hands)

pub returns-in-Failed-clause-trace : goal.returns-in-Failed-clause-trace
returns-in-Failed-clause-trace g c = λ p runs.
    let told = Listed g.R.Runner.list g.R.Runner.told g.R.Runner.asked c.args.runner.now in
    let living = g.R.Runner.living c.args.runner.now in
    let list = g.R.Runner.list c.args.runner.now in
    let v = g.S.Supervise.world c.args.supervisor.now in
    let w = g.S.Supervise.world c.next_act.new.self in
    let n = subst (λ (a : Act). NextAct v (Some a) w) c.in-Failed.is c.in-Some.ensures.next in
    let m = handed c.orderly_laws.ensures p v w told living list _ runs n in
    (m.h, m.acts, failed_at (state_after p m.h) w told living c.in-Failed.who c.in-Failed.step c.in-Failed.exit m.within m.hands)

pub returns-in-Broke-clause-trace : goal.returns-in-Broke-clause-trace
returns-in-Broke-clause-trace g c = λ p runs.
    let told = Listed g.R.Runner.list g.R.Runner.told g.R.Runner.asked c.args.runner.now in
    let living = g.R.Runner.living c.args.runner.now in
    let list = g.R.Runner.list c.args.runner.now in
    let v = g.S.Supervise.world c.args.supervisor.now in
    let w = g.S.Supervise.world c.next_act.new.self in
    let n = subst (λ (a : Act). NextAct v (Some a) w) c.in-Broke.is c.in-Some.ensures.next in
    let m = handed c.orderly_laws.ensures p v w told living list _ runs n in
    (m.h, m.acts, broke_at (state_after p m.h) w told living c.in-Broke.who c.in-Broke.step c.in-Broke.exit m.within m.hands)

pub start_step-requires-clause-from_state : goal.start_step-requires-clause-from_state
start_step-requires-clause-from_state g c =
    let q = c.requires.from_state in
    let told = Listed g.R.Runner.list g.R.Runner.told g.R.Runner.asked c.args.runner.now in
    let living = g.R.Runner.living c.args.runner.now in
    let list = g.R.Runner.list c.args.runner.now in
    let v = g.S.Supervise.world c.args.supervisor.now in
    let w = g.S.Supervise.world c.next_act.new.self in
    let n = subst (λ (a : Act). NextAct v (Some a) w) c.in-Start.is c.in-Some.ensures.next in
    let m = handed c.orderly_laws.ensures q.0 v w told living list _ q.1 n in (
      state_after q.0 m.h,
      starting_at (state_after q.0 m.h) w told living c.in-Start.who c.in-Start.step m.within m.probed m.hands,
    )

pub returns-in-Start-clause-trace : goal.returns-in-Start-clause-trace
returns-in-Start-clause-trace g c = λ p runs.
    let told = Listed g.R.Runner.list g.R.Runner.told g.R.Runner.asked c.args.runner.now in
    let living = g.R.Runner.living c.args.runner.now in
    let list = g.R.Runner.list c.args.runner.now in
    let v = g.S.Supervise.world c.args.supervisor.now in
    let w = g.S.Supervise.world c.next_act.new.self in
    let n = subst (λ (a : Act). NextAct v (Some a) w) c.in-Start.is c.in-Some.ensures.next in
    let m = handed c.orderly_laws.ensures p v w told living list _ runs n in
    let t = c.start_step.ensures.trace (state_after p m.h)
    (starting_at (state_after p m.h) w told living c.in-Start.who c.in-Start.step m.within m.probed m.hands) in
    let new = Listed g.R.Runner.list g.R.Runner.told g.R.Runner.asked c.start_step.new.runner in (
      t.0 ++ m.h,
      turn_on p m.h t.0 list list (g.R.Runner.list c.start_step.new.runner) m.acts t.1,
      subst (λ (s : SessionState). IsInTurn s (g.S.Supervise.world c.start_step.new.supervisor) new (g.R.Runner.living c.start_step.new.runner))
          (sym (left-append p t.0 m.h)) t.2,
    )

pub kill-requires : goal.kill-requires
kill-requires g c =
    let q = c.requires.from_state in
    let told = Listed g.R.Runner.list g.R.Runner.told g.R.Runner.asked c.args.runner.now in
    let living = g.R.Runner.living c.args.runner.now in
    let list = g.R.Runner.list c.args.runner.now in
    let v = g.S.Supervise.world c.args.supervisor.now in
    let w = g.S.Supervise.world c.next_act.new.self in
    let n = subst (λ (a : Act). NextAct v (Some a) w) c.in-Kill.is c.in-Some.ensures.next in
    let m = handed c.orderly_laws.ensures q.0 v w told living list _ q.1 n in
    kill_lives (state_after q.0 m.h) told living c.in-Kill.child m.hands.0 m.hands.1 m.within m.hands.3

pub returns-in-Kill-clause-trace : goal.returns-in-Kill-clause-trace
returns-in-Kill-clause-trace g c = λ p runs.
    let told = Listed g.R.Runner.list g.R.Runner.told g.R.Runner.asked c.args.runner.now in
    let new = Listed g.R.Runner.list g.R.Runner.told g.R.Runner.asked c.kill.new.self in
    let living = g.R.Runner.living c.args.runner.now in
    let list = g.R.Runner.list c.args.runner.now in
    let v = g.S.Supervise.world c.args.supervisor.now in
    let w = g.S.Supervise.world c.next_act.new.self in
    let n = subst (λ (a : Act). NextAct v (Some a) w) c.in-Kill.is c.in-Some.ensures.next in
    let m = handed c.orderly_laws.ensures p v w told living list _ runs n in
    let q = state_after p m.h in
    let h = m.hands in
    let t = kill_runs c.orderly_laws.ensures q c.in-Kill.child h.0 h.1 w told new living (g.R.Runner.living c.kill.new.self) m.within
    h.2 h.3 h.4 c.kill.ensures.notes c.kill.ensures.lives in (
      t.h ++ m.h,
      turn_on p m.h t.h list list (g.R.Runner.list c.kill.new.self) m.acts t.acts,
      subst (λ (s : SessionState). IsInTurn s w new (g.R.Runner.living c.kill.new.self)) (sym (left-append p t.h m.h)) t.runs,
    )

-- ---- what it makes of the components

pub returns-in-None-clause-taken : goal.returns-in-None-clause-taken
returns-in-None-clause-taken g c =
    let v = g.S.Supervise.world c.args.supervisor.now in
    let w = g.S.Supervise.world c.next_act.new.self in
    record {
      act = None;
      handed = w;
      next = c.in-None.ensures.next;
      carried = refl;
      none = λ is. refl;
    }

pub returns-in-Start-clause-taken : goal.returns-in-Start-clause-taken
returns-in-Start-clause-taken g c =
    let v = g.S.Supervise.world c.args.supervisor.now in
    let w = g.S.Supervise.world c.next_act.new.self in
    record {
      act = Some (acts.Start c.in-Start.who c.in-Start.step);
      handed = w;
      next = subst (λ (a : Act). NextAct v (Some a) w) c.in-Start.is c.in-Some.ensures.next;
      carried = c.start_step.ensures.answered;
      none = λ is. absurd (not_none _ is);
    }

pub returns-in-Kill-clause-taken : goal.returns-in-Kill-clause-taken
returns-in-Kill-clause-taken g c =
    let v = g.S.Supervise.world c.args.supervisor.now in
    let w = g.S.Supervise.world c.next_act.new.self in
    record {
      act = Some (acts.Kill c.in-Kill.child);
      handed = w;
      next = subst (λ (a : Act). NextAct v (Some a) w) c.in-Kill.is c.in-Some.ensures.next;
      carried = refl;
      none = λ is. absurd (not_none _ is);
    }

pub returns-in-Failed-clause-taken : goal.returns-in-Failed-clause-taken
returns-in-Failed-clause-taken g c =
    let v = g.S.Supervise.world c.args.supervisor.now in
    let w = g.S.Supervise.world c.next_act.new.self in
    record {
      act = Some (acts.Failed c.in-Failed.who c.in-Failed.step c.in-Failed.exit);
      handed = w;
      next = subst (λ (a : Act). NextAct v (Some a) w) c.in-Failed.is c.in-Some.ensures.next;
      carried = refl;
      none = λ is. absurd (not_none _ is);
    }

pub returns-in-Broke-clause-taken : goal.returns-in-Broke-clause-taken
returns-in-Broke-clause-taken g c =
    let v = g.S.Supervise.world c.args.supervisor.now in
    let w = g.S.Supervise.world c.next_act.new.self in
    record {
      act = Some (acts.Broke c.in-Broke.who c.in-Broke.step c.in-Broke.exit);
      handed = w;
      next = subst (λ (a : Act). NextAct v (Some a) w) c.in-Broke.is c.in-Some.ensures.next;
      carried = refl;
      none = λ is. absurd (not_none _ is);
    }
