use Rattle.std.proofs.Common.{sym, subst}
use Rattle.components.specs.Events.{later}
use Rattle.components.specs.Components.{Components}
use Rattle.components.specs.declared.kinds.Event.TheVariants.{Ended}
use Rattle.components.proofs.Platforms.{run_noticed}
use Rattle.test_supervisor.specs.Stands.{IsReadyFor}
use Rattle.test_supervisor.proofs.Free.{free_ended}
use Rattle.test_supervisor.proofs.acts.end.Goals as goal

pub returns-clause-stands : goal.returns-clause-stands
returns-clause-stands c = λ p h.
    let old = c.args.supervisor.now in
    subst (λ (w : Components). IsReadyFor p w) (sym c.event.ensures) (record {
      answered = free_ended c.args.child c.args.exit (later c.args.now old) h.answered;
      ready = run_noticed p (Ended c.args.child c.args.exit) (later c.args.now old) h.ready;
    })
