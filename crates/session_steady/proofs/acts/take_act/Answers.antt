use Rattle.std.proofs.Common.{◌≡◌, ◌∙◌, ◌++◌, [], ◌∷◌, false, refl, sym, ap, subst, arith}
use Rattle.step_runner.specs.Entries.{Listed}
use Rattle.components.specs.Components.{Components}
use Rattle.histories.specs.TraceEvents.{Heard}
use Rattle.histories.specs.States.{SessionState, state_after}
use Rattle.histories.proofs.Joined.{left-append}
use Rattle.session_boots.proofs.Acting.{acts_on}
use Rattle.session_acts.proofs.Entering.{never}
use Rattle.session_acts.specs.Runs.{IsInTurn}
use Rattle.session_acts.proofs.Taken.{failed_is, something_is}
use Rattle.session_steady.specs.Runs.{IsSince}
use Rattle.session_steady.proofs.Failures.{acts_unchanged, noted_still}
use Rattle.session_steady.proofs.Hearing.{apart, hear_acts, hear_runs, hear_since}
use Rattle.session_steady.proofs.Since.{idle_on, since_acts, since_on}
use Rattle.session_steady.proofs.Staying.{taken_calms, taken_no_wilder}
use Rattle.session_steady.proofs.acts.take_act.Goals as goal

pub act-requires-clause-now : goal.act-requires-clause-now
act-requires-clause-now g c = (c.requires.now.0, omega (arith, c.requires.now.1))

pub act-requires-clause-from_state : goal.act-requires-clause-from_state
act-requires-clause-from_state g c = let q = c.requires.from_state in (q.0, q.1)

pub returns-in-Nothing-clause-trace : goal.returns-in-Nothing-clause-trace
returns-in-Nothing-clause-trace g c = λ p runs idle.
    let w = c.in-Nothing.ensures.trace p runs in
    (w.0, w.1.acts, since_acts p w.0 w.1, record { runs = w.2.0; quiet = λ none. w.2.1 }, noted_still p w.0 w.1 c.args.failed.now, acts_unchanged p w.0 w.1)

pub returns-in-Something-clause-trace : goal.returns-in-Something-clause-trace
returns-in-Something-clause-trace g c = λ p runs idle.
    let w = c.in-Something.ensures.trace p runs in
    (w.0, w.1.acts, since_acts p w.0 w.1, record { runs = w.2; quiet = λ none. absurd (never false refl none) }, noted_still p w.0 w.1 c.args.failed.now, acts_unchanged p w.0 w.1)

pub returns-in-Failed-clause-trace : goal.returns-in-Failed-clause-trace
returns-in-Failed-clause-trace g c = λ p runs idle.
    let w = c.in-Failed.ensures.trace p runs in
    let q = state_after p w.0 in
    let who = c.in-Failed._who in
    let step = c.in-Failed._step in
    let exit = c.in-Failed._exit in
    let world = g.S.Supervise.world c.act.new.supervisor in
    let new = Listed g.R.Runner.list g.R.Runner.told g.R.Runner.asked c.act.new.runner in
    let living = g.R.Runner.living c.act.new.runner in
    let list = g.R.Runner.list c.act.new.runner in (
      (Heard who ∷ []) ++ w.0,
      acts_on p w.0 (Heard who ∷ []) (g.R.Runner.list c.args.runner.now) list list w.1.acts
          (hear_acts q who step exit world new living list w.2 (idle_on p q (since_acts p w.0 w.1) idle)),
      since_on p q (state_after p ((Heard who ∷ []) ++ w.0)) (since_acts p w.0 w.1)
          (subst (λ (s : SessionState). IsSince q s) (sym (left-append p (Heard who ∷ []) w.0)) (hear_since q who)),
      record {
        runs = subst (λ (s : SessionState). IsInTurn s world new living) (sym (left-append p (Heard who ∷ []) w.0))
            (hear_runs c.orderly_laws.ensures q who step exit world new living w.2);
        quiet = λ none. absurd (never false refl none);
      },
      refl,
      acts_unchanged p w.0 w.1,
    )

-- ---- the number

pub returns-in-Nothing-clause-calms : goal.returns-in-Nothing-clause-calms
returns-in-Nothing-clause-calms g c = λ no. absurd (apart no)

pub returns-in-Something-clause-calms : goal.returns-in-Something-clause-calms
returns-in-Something-clause-calms g c = λ no.
    let q = c.requires.from_state in
    let v = g.S.Supervise.world c.args.supervisor.now in
    let m : v.moment ≡ c.args.now = ap (λ (w : Components). w.moment) q.1.world_is ∙ sym q.1.within.moment ∙ c.requires.now.0 in
    taken_calms c.args.now v (g.S.Supervise.world c.act.new.supervisor) m c.requires.drives.0 c.requires.drives.1 c.requires.now.1 c.act.result
    c.act.ensures.taken (something_is c.act.result c.in-Something.is)

pub returns-in-Failed-clause-calms : goal.returns-in-Failed-clause-calms
returns-in-Failed-clause-calms g c = λ no.
    let q = c.requires.from_state in
    let v = g.S.Supervise.world c.args.supervisor.now in
    let m : v.moment ≡ c.args.now = ap (λ (w : Components). w.moment) q.1.world_is ∙ sym q.1.within.moment ∙ c.requires.now.0 in
    taken_calms c.args.now v (g.S.Supervise.world c.act.new.supervisor) m c.requires.drives.0 c.requires.drives.1 c.requires.now.1 c.act.result
    c.act.ensures.taken (failed_is c.act.result c.in-Failed._who c.in-Failed._step c.in-Failed._exit c.in-Failed.is)

pub returns-in-Nothing-clause-no_wilder : goal.returns-in-Nothing-clause-no_wilder
returns-in-Nothing-clause-no_wilder g c =
    let q = c.requires.from_state in
    let v = g.S.Supervise.world c.args.supervisor.now in
    let m : v.moment ≡ c.args.now = ap (λ (w : Components). w.moment) q.1.world_is ∙ sym q.1.within.moment ∙ c.requires.now.0 in
    taken_no_wilder c.args.now v (g.S.Supervise.world c.act.new.supervisor) m c.requires.drives.0 c.requires.drives.1 c.requires.now.1 c.act.result
    c.act.ensures.taken

pub returns-in-Something-clause-no_wilder : goal.returns-in-Something-clause-no_wilder
returns-in-Something-clause-no_wilder g c =
    let q = c.requires.from_state in
    let v = g.S.Supervise.world c.args.supervisor.now in
    let m : v.moment ≡ c.args.now = ap (λ (w : Components). w.moment) q.1.world_is ∙ sym q.1.within.moment ∙ c.requires.now.0 in
    taken_no_wilder c.args.now v (g.S.Supervise.world c.act.new.supervisor) m c.requires.drives.0 c.requires.drives.1 c.requires.now.1 c.act.result
    c.act.ensures.taken

pub returns-in-Failed-clause-no_wilder : goal.returns-in-Failed-clause-no_wilder
returns-in-Failed-clause-no_wilder g c =
    let q = c.requires.from_state in
    let v = g.S.Supervise.world c.args.supervisor.now in
    let m : v.moment ≡ c.args.now = ap (λ (w : Components). w.moment) q.1.world_is ∙ sym q.1.within.moment ∙ c.requires.now.0 in
    taken_no_wilder c.args.now v (g.S.Supervise.world c.act.new.supervisor) m c.requires.drives.0 c.requires.drives.1 c.requires.now.1 c.act.result
    c.act.ensures.taken
