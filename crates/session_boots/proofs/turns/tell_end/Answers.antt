use Rattle.std.proofs.Common.{◌∙◌, List, ℕ, sym, subst}
use Rattle.std.proofs.KnownBytes.{Appends-nil}
use Rattle.std.specs.Io.KnownBytes.{Appends}
use Rattle.deploy_state.specs.States.{device_of}
use Rattle.session_boots.proofs.Ending.{good_line}
use Rattle.session_boots.proofs.turns.tell_end.Goals as goal

pub returns-then-goes_on-clause-line : goal.returns-then-goes_on-clause-line
returns-then-goes_on-clause-line g c = λ name next.
    subst (λ (l : List ℕ). Appends (g.K.Sink.held c.args.sink.now) (g.K.Sink.held c.args.sink.now) l)
    (sym (good_line (device_of (g.S.BootStage.hand c.args.state.now)) name c.args.exit (sym c.goes_on.ensures ∙ c.if-goes_on.true)))
    (Appends-nil (g.K.Sink.held c.args.sink.now))
