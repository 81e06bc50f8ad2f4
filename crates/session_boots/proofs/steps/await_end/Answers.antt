use Rattle.std.proofs.Common.{◌≤◌, ◌<◌, ◌-◌, ◌^◌, ℕ, [], ◌∷◌, refl, sym, ap, subst, arith, ◌∙◌}
use Rattle.nuc_base.specs.declared.kinds.Exit.TheVariants as exits
use Rattle.step_runner.specs.Entries.{Listed, HasNoted, without}
use Rattle.step_runner.specs.declared.entries.Seen.TheVariants as seen
use Rattle.step_runner.specs.Waits.{WaitTime}
use Rattle.step_runner.specs.declared.runner.Waited.TheVariants.{Elapsed}
use Rattle.histories.specs.TraceEvents.{ReadClock, Booted, WaitElapsed}
use Rattle.histories.specs.States.{state_after}
use Rattle.session_boots.proofs.Entries.{ended_itself, ended_on, entry, killed, slept_acts, slept_alive}
use Rattle.session_boots.proofs.Alone.{is_alone, late_after, none_after, the_only}
use Rattle.session_boots.proofs.steps.await_end.Goals as goal

pub kill-requires : goal.kill-requires
kill-requires g c = is_alone c.args.child (g.R.Runner.living c.args.runner.now) c.requires.alone

pub wait-requires : goal.wait-requires
wait-requires g c = omega (arith, c.requires.near)

pub returns-then-deadline-now-clause-trace : goal.returns-then-deadline-now-clause-trace
returns-then-deadline-now-clause-trace g c = λ p made alive.
    let old = Listed g.R.Runner.list g.R.Runner.told g.R.Runner.asked c.args.runner.now in
    let new = Listed g.R.Runner.list g.R.Runner.told g.R.Runner.asked c.kill.new.self in
    let e = killed p made c.args.child c.args.deadline old new alive (omega (arith, c.if-deadline-now.true, c.requires.now)) c.kill.ensures.notes in
    (Booted (entry old (seen.Killed c.args.child)) made ∷ [], e.acts, e.ended)

pub returns-in-Ended-clause-trace : goal.returns-in-Ended-clause-trace
returns-in-Ended-clause-trace g c = λ p made alive.
    let old = Listed g.R.Runner.list g.R.Runner.told g.R.Runner.asked c.args.runner.now in
    let new = Listed g.R.Runner.list g.R.Runner.told g.R.Runner.asked c.wait.new.self in
    let same = the_only c.args.child c.in-Ended.field-0 (g.R.Runner.living c.args.runner.now) c.requires.alone c.in-Ended.ensures.lives.0 in
    let at = c.requires.now in
    let notes = subst (λ (n : ℕ). HasNoted old new (seen.Ended n c.in-Ended.exit (c.args.deadline - c.args.now))) same c.in-Ended.ensures.notes in
    let here = subst (λ (n : ℕ). HasNoted old new (seen.Ended c.args.child c.in-Ended.exit (c.args.deadline - n))) (sym at) notes in
    let e = ended_itself p made c.args.child c.args.deadline old new c.in-Ended.exit alive (omega (arith, c.if-deadline-now.false, at)) here in
    (Booted (entry old (seen.Ended c.args.child c.in-Ended.exit (c.args.deadline - old.moment))) made ∷ [], e.acts, e.ended)

pub returns-in-Elapsed-clause-trace : goal.returns-in-Elapsed-clause-trace
returns-in-Elapsed-clause-trace g c = λ p made alive.
    let old = Listed g.R.Runner.list g.R.Runner.told g.R.Runner.asked c.args.runner.now in
    let slept = Listed g.R.Runner.list g.R.Runner.told g.R.Runner.asked c.wait.new.self in
    let mid = Listed g.R.Runner.list g.R.Runner.told g.R.Runner.asked c.moment-now.new.self in
    let new = Listed g.R.Runner.list g.R.Runner.told g.R.Runner.asked c.kill-in-Elapsed.new.self in
    let now = c.moment-now.result in
    let at = c.requires.now in
    let lt : old.moment < c.args.deadline = omega (arith, c.if-deadline-now.false, at) in
    let past = g.met.R.Runner.past c.args.runner.now in
    let waited = subst (λ (n : ℕ). WaitTime (g.R.Runner.clock c.args.runner.now) (g.R.Runner.clock c.wait.new.self) (c.args.deadline - n) Elapsed)
    (sym at) c.in-Elapsed.ensures.time in
    let late = late_after (2 ^ 62) old.moment (g.R.Runner.clock c.args.runner.now) (g.R.Runner.clock c.wait.new.self) now c.args.deadline past lt
    c.requires.in_time waited c.moment-now.ensures.later in
    let notes = subst (λ (n : ℕ). HasNoted old slept (seen.Elapsed (c.args.deadline - n))) (sym at) c.in-Elapsed.ensures.notes in
    let first = ReadClock now ∷ WaitElapsed (entry old (seen.Elapsed (c.args.deadline - old.moment))) ∷ [] in
    let acts = slept_acts p c.args.child c.args.deadline old slept now mid.list alive lt notes
    (omega (arith, at, past, c.in-Elapsed.ensures.time.0, c.moment-now.ensures.later)) c.moment-now.ensures.list in
    let again = slept_alive p c.args.child c.args.deadline old mid now alive c.moment-now.ensures.moment c.moment-now.ensures.asked in
    let e = killed (state_after p first) made c.args.child c.args.deadline mid new again
    (subst (λ (n : ℕ). c.args.deadline ≤ n) (sym c.moment-now.ensures.moment) late) c.kill-in-Elapsed.ensures.notes in
    let all = ended_on p first (Booted (entry mid (seen.Killed c.args.child)) made ∷ []) old mid new exits.TimedOut now acts refl refl e in
    (Booted (entry mid (seen.Killed c.args.child)) made ∷ first, all.acts, all.ended)

pub kill-requires-in-Elapsed : goal.kill-requires-in-Elapsed
kill-requires-in-Elapsed g c = is_alone c.args.child (g.R.Runner.living c.moment-now.new.self)
    (c.moment-now.ensures.lives ∙ c.in-Elapsed.ensures.lives ∙ c.requires.alone)

pub returns-then-deadline-now-clause-none : goal.returns-then-deadline-now-clause-none
returns-then-deadline-now-clause-none g c = c.kill.ensures.lives ∙ none_after c.args.child (g.R.Runner.living c.args.runner.now) c.requires.alone

pub returns-in-Ended-clause-none : goal.returns-in-Ended-clause-none
returns-in-Ended-clause-none g c =
    let same = the_only c.args.child c.in-Ended.field-0 (g.R.Runner.living c.args.runner.now) c.requires.alone c.in-Ended.ensures.lives.0 in
    c.in-Ended.ensures.lives.1 ∙ ap (λ (n : ℕ). without n (g.R.Runner.living c.args.runner.now)) same ∙ none_after c.args.child
    (g.R.Runner.living c.args.runner.now) c.requires.alone

pub returns-in-Elapsed-clause-none : goal.returns-in-Elapsed-clause-none
returns-in-Elapsed-clause-none g c =
    let alone = c.moment-now.ensures.lives ∙ c.in-Elapsed.ensures.lives ∙ c.requires.alone in
    c.kill-in-Elapsed.ensures.lives ∙ none_after c.args.child (g.R.Runner.living c.moment-now.new.self) alone
