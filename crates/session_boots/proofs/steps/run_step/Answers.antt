use Rattle.std.proofs.Common.{◌∙◌, ◌++◌, List, ℕ, [], ◌∷◌, refl, ap, arith}
use Rattle.std.specs.Prelude.{pos}
use Rattle.step_runner.specs.Entries.{Listed}
use Rattle.components.specs.Deadlines.{deadline_after}
use Rattle.step_runner.specs.declared.entries.Seen.TheVariants as seen
use Rattle.histories.specs.TraceEvents.{ReadClock, Booted}
use Rattle.histories.specs.States.{leaves, state_after}
use Rattle.nuc_base.specs.declared.kinds.Exit.TheVariants as exits
use Rattle.session_boots.proofs.Entries.{ended_on, entry, now_world, pass_acts, pass_probe, refused, started_acts, started_alive}
use Rattle.session_boots.proofs.steps.run_step.Goals as goal

pub await_end-requires-clause-alone : goal.await_end-requires-clause-alone
await_end-requires-clause-alone g c = c.in-Ok.ensures.lives ∙ ap (λ (l : List ℕ). c.in-Ok.child ∷ l)
    (c.is_skipped.ensures.lives ∙ c.moment-now.ensures.lives ∙ c.requires.none)

pub returns-then-is_skipped-clause-trace : goal.returns-then-is_skipped-clause-trace
returns-then-is_skipped-clause-trace g c = λ p may.
    let m = c.args.step.now in
    let old = Listed g.R.Runner.list g.R.Runner.told g.R.Runner.asked c.args.runner.now in
    let mid = Listed g.R.Runner.list g.R.Runner.told g.R.Runner.asked c.moment-now.new.self in
    let new = Listed g.R.Runner.list g.R.Runner.told g.R.Runner.asked c.is_skipped.new.runner in
    let now = c.moment-now.result in
    let past = g.met.R.Runner.past c.args.runner.now in
    let passes = pass_acts p m old now old.list mid.list may (omega (arith, past, c.moment-now.ensures.later)) c.moment-now.ensures.list in
    let e = c.is_skipped.ensures.skipped c.if-is_skipped.true (leaves p (ReadClock now))
    (pass_probe p m old mid now may c.moment-now.ensures.moment c.moment-now.ensures.asked) in
    let all = ended_on p (ReadClock now ∷ []) e.0 old mid new (exits.Code (pos 0)) now passes refl refl (record { acts = e.1; ended = e.2 }) in
    (e.0 ++ ReadClock now ∷ [], all.acts, all.ended)

pub returns-in-Err-clause-trace : goal.returns-in-Err-clause-trace
returns-in-Err-clause-trace g c = λ p may.
    let m = c.args.step.now in
    let old = Listed g.R.Runner.list g.R.Runner.told g.R.Runner.asked c.args.runner.now in
    let mid = Listed g.R.Runner.list g.R.Runner.told g.R.Runner.asked c.moment-now.new.self in
    let asked = Listed g.R.Runner.list g.R.Runner.told g.R.Runner.asked c.is_skipped.new.runner in
    let new = Listed g.R.Runner.list g.R.Runner.told g.R.Runner.asked c.start.new.self in
    let now = c.moment-now.result in
    let past = g.met.R.Runner.past c.args.runner.now in
    let passes = pass_acts p m old now old.list mid.list may (omega (arith, past, c.moment-now.ensures.later)) c.moment-now.ensures.list in
    let q = leaves p (ReadClock now) in
    let s = c.is_skipped.ensures.starts c.if-is_skipped.false q (pass_probe p m old mid now may c.moment-now.ensures.moment c.moment-now.ensures.asked) in
    let e = refused (state_after q s.0) m asked new m.command s.2 refl c.in-Err.ensures.err in
    let one = ended_on q s.0 (Booted (entry asked (seen.Refused m.command)) m ∷ []) mid asked new exits.NotStarted now s.1 s.3.world s.3.generation e in
    let all = ended_on p (ReadClock now ∷ []) (Booted (entry asked (seen.Refused m.command)) m ∷ s.0) old mid new exits.NotStarted now passes refl refl one in
    ((Booted (entry asked (seen.Refused m.command)) m ∷ s.0) ++ ReadClock now ∷ [], all.acts, all.ended)

pub returns-in-Ok-clause-trace : goal.returns-in-Ok-clause-trace
returns-in-Ok-clause-trace g c = λ p may.
    let m = c.args.step.now in
    let old = Listed g.R.Runner.list g.R.Runner.told g.R.Runner.asked c.args.runner.now in
    let mid = Listed g.R.Runner.list g.R.Runner.told g.R.Runner.asked c.moment-now.new.self in
    let asked = Listed g.R.Runner.list g.R.Runner.told g.R.Runner.asked c.is_skipped.new.runner in
    let begun = Listed g.R.Runner.list g.R.Runner.told g.R.Runner.asked c.start.new.self in
    let new = Listed g.R.Runner.list g.R.Runner.told g.R.Runner.asked c.await_end.new.runner in
    let now = c.moment-now.result in
    let past = g.met.R.Runner.past c.args.runner.now in
    let passes = pass_acts p m old now old.list mid.list may (omega (arith, past, c.moment-now.ensures.later)) c.moment-now.ensures.list in
    let q = leaves p (ReadClock now) in
    let s = c.is_skipped.ensures.starts c.if-is_skipped.false q (pass_probe p m old mid now may c.moment-now.ensures.moment c.moment-now.ensures.asked) in
    let state_now = state_after q s.0 in
    let notes = c.in-Ok.ensures.ok in
    let entry_is = Booted (entry asked (seen.Started c.in-Ok.child m.command)) m in
    let starts = started_acts state_now m asked begun c.in-Ok.child m.command s.2 refl notes in
    let at = c.is_skipped.ensures.moment ∙ c.moment-now.ensures.moment in
    let until_it = ap (λ (x : ℕ). deadline_after m.limit_ms x) at ∙ c.deadline_of-deadline.ensures.deadline in
    let alive = started_alive state_now m asked begun c.in-Ok.child m.command c.deadline_of-deadline.result s.2 notes until_it in
    let w = c.await_end.ensures.trace (leaves state_now entry_is) m alive in
    let world = now_world state_now asked s.2.up_to_date in
    let first = ended_on state_now (entry_is ∷ []) w.0 asked begun new c.await_end.result asked.moment starts world refl (record { acts = w.1; ended = w.2 }) in
    let one = ended_on q s.0 (w.0 ++ entry_is ∷ []) mid asked new c.await_end.result now s.1 s.3.world s.3.generation first in
    let all = ended_on p (ReadClock now ∷ []) ((w.0 ++ entry_is ∷ []) ++ s.0) old mid new c.await_end.result now passes refl refl one in
    (((w.0 ++ entry_is ∷ []) ++ s.0) ++ ReadClock now ∷ [], all.acts, all.ended)
