use Rattle.std.proofs.Common.{◌≡◌, ◌∙◌, List, ℕ, sym, ap, subst}
use Rattle.std.specs.Io.KnownBytes.{Appends}
use Rattle.edges.specs.Pieces.{AppendsPrefix}
use Rattle.records.specs.Stored as stored
use Rattle.device.specs.Devices.{Device}
use Rattle.device.specs.Lawful.{applied}
use Rattle.device.specs.Standing.{StandsFor}
use Rattle.deploy_state.proofs.Steps.{in_hand_stands}
use Rattle.deploy_state.specs.States.{idle_device}
use Rattle.components.specs.Components.{Components, owner}
use Rattle.session_boots.specs.Lines.{id_of}
use Rattle.session_boots.proofs.Told.{last_unprinted, stops_last}
use Rattle.law_supervisor.proofs.Steadied.{owner_steadied}
use Rattle.law_termination.specs.Drives.{AreDriven}
use Rattle.law_termination.proofs.Stands.{steady_on}
use Rattle.session_startup.proofs.Closed.{close_doubt, close_went, last_closed, line_closed, pends_still}
use Rattle.session_startup.proofs.closing.close_deployment.Goals as goal

pub returns-in-Ok-tell_close-clause-trace : goal.returns-in-Ok-tell_close-clause-trace
returns-in-Ok-tell_close-clause-trace g c = λ p list from.
    let d = g.C.PendingState.device c.args.state in
    let o = g.C.Close.outcome c.args.state in
    let e = idle_device c.in-Ok.idle in
    let taken = c.in-Ok.ensures.taken in
    let back : e ≡ applied p.device (stored.Closed o) = taken ∙ ap (λ (x : Device). applied x (stored.Closed o)) (sym from.device_is) in (
      close_went g.J.Journal.entries g.J.Journal.files g.met.D.Disk.laws c.args.disk.now c.close.new.disk list p d o from c.requires.may
          c.close.ensures.moments,
      subst (λ (l : List ℕ). Appends (g.K.Sink.held c.args.sink.now) (g.K.Sink.held c.tell_close.new.sink) l) (line_closed p d o from.device_is)
          (c.in-Ok-tell_close.ensures.line d.closed (id_of d) o
          (ap (λ (x : Device). x.closed) c.device.ensures ∙ last_closed d e o (pends_still d o c.requires.may) taken)),
      back,
    )

pub returns-in-Err-tell_close-clause-trace : goal.returns-in-Err-tell_close-clause-trace
returns-in-Err-tell_close-clause-trace g c = λ p list from.
    let d = g.C.PendingState.device c.args.state in
    let o = g.C.Close.outcome c.args.state in
    let e = idle_device c.in-Ok.idle in
    let taken = c.in-Ok.ensures.taken in
    let back : e ≡ applied p.device (stored.Closed o) = taken ∙ ap (λ (x : Device). applied x (stored.Closed o)) (sym from.device_is) in (
      close_went g.J.Journal.entries g.J.Journal.files g.met.D.Disk.laws c.args.disk.now c.close.new.disk list p d o from c.requires.may
          c.close.ensures.moments,
      subst (λ (l : List ℕ). AppendsPrefix (g.K.Sink.held c.args.sink.now) (g.K.Sink.held c.tell_close.new.sink) l) (line_closed p d o from.device_is)
          (c.in-Err-tell_close.ensures.line d.closed (id_of d) o
          (ap (λ (x : Device). x.closed) c.device.ensures ∙ last_closed d e o (pends_still d o c.requires.may) taken)),
      (
        stops_last (stored.Closed o),
        from.follows.0.0.no_end,
        λ i left. subst (λ (x : Device). StandsFor g.J.Journal.entries i x) back
            (in_hand_stands g.met.D.Disk.laws g.met.J.Journal.laws _ c.close.new.disk e c.in-Ok.ensures.held.0 i left),
      ),
    )

pub returns-in-Err-clause-trace : goal.returns-in-Err-clause-trace
returns-in-Err-clause-trace g c = λ p list from.
    let d = g.C.PendingState.device c.args.state in
    let o = g.C.Close.outcome c.args.state in (
      close_went g.J.Journal.entries g.J.Journal.files g.met.D.Disk.laws c.args.disk.now c.close.new.disk list p d o from c.requires.may
          c.close.ensures.moments,
      last_unprinted (g.K.Sink.held c.args.sink.now) p.device (stored.Closed o),
      close_doubt g.J.Journal.entries g.J.Journal.files g.met.D.Disk.laws c.args.disk.now c.close.new.disk p d o from.device_is c.requires.may
          c.close.ensures.moments,
    )

pub returns-in-Ok-tell_close-clause-owners : goal.returns-in-Ok-tell_close-clause-owners
returns-in-Ok-tell_close-clause-owners g c n = ap (λ (w : Components). owner n w.parts) c.steady.ensures
    ∙ owner_steadied n (g.S.Supervise.world c.args.supervisor.now)

pub returns-in-Err-tell_close-clause-owners : goal.returns-in-Err-tell_close-clause-owners
returns-in-Err-tell_close-clause-owners g c n = ap (λ (w : Components). owner n w.parts) c.steady.ensures
    ∙ owner_steadied n (g.S.Supervise.world c.args.supervisor.now)

pub returns-in-Ok-tell_close-clause-drives : goal.returns-in-Ok-tell_close-clause-drives
returns-in-Ok-tell_close-clause-drives g c = subst (λ (w : Components). AreDriven w) (sym c.steady.ensures)
    (steady_on (g.S.Supervise.world c.args.supervisor.now) c.requires.drives).drives

pub returns-in-Err-tell_close-clause-drives : goal.returns-in-Err-tell_close-clause-drives
returns-in-Err-tell_close-clause-drives g c = subst (λ (w : Components). AreDriven w) (sym c.steady.ensures)
    (steady_on (g.S.Supervise.world c.args.supervisor.now) c.requires.drives).drives
