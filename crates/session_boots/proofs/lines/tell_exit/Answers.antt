use Rattle.std.specs.Fmt.{signed_decimal}
use Rattle.std.proofs.lemmas.Int.{to_z-of_z}
use Rattle.std.proofs.Common.{rules, SFits, w32, ◌≡◌, ◌∙◌, ◌++◌, List, ℕ, [], codes, sym, ap, subst}
use Rattle.nuc_base.specs.declared.kinds.Exit.{Exit}
use Rattle.edges.specs.Pieces.{WriteOutcome}
use Rattle.session_boots.specs.Lines.{exit_text}
use Rattle.session_boots.proofs.Written.{code_joined}
use Rattle.session_boots.proofs.lines.tell_exit.Goals as goal

pub returns-in-Code-clause-line : goal.returns-in-Code-clause-line
returns-in-Code-clause-line g c =
    let fits : SFits w32 c.in-Code.code = search rules in
    let text : c.format.result.now ≡ signed_decimal c.in-Code.code = c.format.ensures.text ∙ ap signed_decimal (to_z-of_z w32 c.in-Code.code fits) in
    let line = ap (λ (l : List ℕ). codes "code " ++ (l ++ (codes "\n" ++ []))) text ∙ code_joined c.in-Code.code ∙ ap
    (λ (e : Exit). exit_text e ++ codes "\n") (sym c.in-Code.is) in
    subst (λ (l : List ℕ). WriteOutcome (g.K.Sink.held c.args.sink.now) (g.K.Sink.held c.write_pieces.new.sink) l c.write_pieces.result) line
    c.write_pieces.ensures.bytes

pub returns-in-Signal-clause-line : goal.returns-in-Signal-clause-line
returns-in-Signal-clause-line g c = rw c.in-Signal.is c.write_pieces-in-Signal.ensures.bytes

pub returns-in-TimedOut-clause-line : goal.returns-in-TimedOut-clause-line
returns-in-TimedOut-clause-line g c = rw c.in-TimedOut.is c.write_pieces-in-TimedOut.ensures.bytes

pub returns-in-NotStarted-clause-line : goal.returns-in-NotStarted-clause-line
returns-in-NotStarted-clause-line g c = rw c.in-NotStarted.is c.write_pieces-in-NotStarted.ensures.bytes

pub returns-in-Lost-clause-line : goal.returns-in-Lost-clause-line
returns-in-Lost-clause-line g c = rw c.in-Lost.is c.write_pieces-in-Lost.ensures.bytes
