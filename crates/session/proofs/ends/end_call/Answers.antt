use Rattle.std.proofs.Common.{inl, inr, refl, sym, ◌∙◌}
use Rattle.disk_model.specs.Listing.{artifacts, IsBelow}
use Rattle.nuc_base.specs.declared.status.Status.TheVariants as statuses
use Rattle.artifact_store.proofs.Walking.{start_spares}
use Rattle.session_boots.specs.declared.ends.SessionFault.TheVariants as over
use Rattle.session.proofs.Printing.{says_none}
use Rattle.session.specs.Endings.{BySinkFault, ByDiskFault}
use Rattle.session.specs.Parts.{status_of_ran}
use Rattle.session.proofs.Results.{answers_err, answers_ok, ends_err, ends_ok, err_if, err_on, if_ok, not_edge, ok_if, ok_on, on_err}
use Rattle.session.proofs.Returning.{edge_ends}
use Rattle.session.proofs.Statuses.{two_never}
use Rattle.session.proofs.ends.end_call.Goals as goal

-- ---- it was driven

pub end_driven-requires-clause-from_state : goal.end_driven-requires-clause-from_state
end_driven-requires-clause-from_state g c = if_ok _ c.args.driven c.in-Ok.driven c.in-Ok.driven c.in-Ok.is refl c.requires.from_state

pub end_driven-requires-clause-held : goal.end_driven-requires-clause-held
end_driven-requires-clause-held g c = if_ok _ c.args.driven c.in-Ok.driven c.in-Ok.driven c.in-Ok.is refl c.requires.held

pub returns-in-Ok-clause-over : goal.returns-in-Ok-clause-over
returns-in-Ok-clause-over g c = ok_on _ c.args.driven c.in-Ok.driven c.in-Ok.is

pub returns-in-Ok-clause-trace : goal.returns-in-Ok-clause-trace
returns-in-Ok-clause-trace g c = ok_if _ c.args.driven c.in-Ok.driven c.in-Ok.driven c.in-Ok.is refl c.end_driven.ensures.trace

pub returns-in-Ok-clause-still : goal.returns-in-Ok-clause-still
returns-in-Ok-clause-still g c = ok_on _ c.args.driven c.in-Ok.driven c.in-Ok.is

pub returns-in-Ok-clause-silent : goal.returns-in-Ok-clause-silent
returns-in-Ok-clause-silent g c = λ is. let both = sym c.in-Ok.is ∙ is in absurd cc

pub returns-in-Ok-clause-safe : goal.returns-in-Ok-clause-safe
returns-in-Ok-clause-safe g c = ok_if _ c.args.driven c.in-Ok.driven c.in-Ok.driven c.in-Ok.is refl c.end_driven.ensures.safe

pub returns-in-Ok-clause-answers : goal.returns-in-Ok-clause-answers
returns-in-Ok-clause-answers g c =
    answers_ok (status_of_ran c.end_driven.result) c.args.driven c.in-Ok.driven c.in-Ok.driven c.in-Ok.is refl c.end_driven.ensures.answers

pub returns-in-Ok-clause-disk : goal.returns-in-Ok-clause-disk
returns-in-Ok-clause-disk g c = λ is. inr (c.end_driven.ensures.disk is)

pub returns-in-Ok-clause-edge : goal.returns-in-Ok-clause-edge
returns-in-Ok-clause-edge g c = λ is. inr (c.end_driven.ensures.edge is)

pub returns-in-Ok-clause-ends : goal.returns-in-Ok-clause-ends
returns-in-Ok-clause-ends g c =
    let s = c.end_driven.ensures.ends in
    ends_ok (status_of_ran c.end_driven.result) (g.K.Sink.held c.args.sink.now) (g.K.Sink.held c.end_driven.new.sink) c.args.driven c.in-Ok.driven
    c.in-Ok.driven c.in-Ok.is
    refl (s.0, (s.1.0, λ fails. inr (s.1.1 fails)), s.2, s.3)

pub returns-in-Ok-clause-unswept : goal.returns-in-Ok-clause-unswept
returns-in-Ok-clause-unswept g c = ok_on _ c.args.driven c.in-Ok.driven c.in-Ok.is

-- ---- it was given up

pub returns-in-Err-Disk-clause-trace : goal.returns-in-Err-Disk-clause-trace
returns-in-Err-Disk-clause-trace g c = err_if _ c.args.driven c.in-Err-Disk.field-0 c.in-Err-Disk.is

pub returns-in-Err-Disk-clause-still : goal.returns-in-Err-Disk-clause-still
returns-in-Err-Disk-clause-still g c = err_on _ c.args.driven c.in-Err-Disk.field-0 c.in-Err-Disk.is refl

pub returns-in-Err-Disk-clause-over : goal.returns-in-Err-Disk-clause-over
returns-in-Err-Disk-clause-over g c = err_on _ c.args.driven c.in-Err-Disk.field-0 c.in-Err-Disk.is tt

pub returns-in-Err-Disk-clause-none : goal.returns-in-Err-Disk-clause-none
returns-in-Err-Disk-clause-none g c = λ over. on_err _ c.args.driven c.in-Err-Disk.field-0 c.in-Err-Disk.is c.requires.none

pub returns-in-Err-Disk-clause-spared : goal.returns-in-Err-Disk-clause-spared
returns-in-Err-Disk-clause-spared g c = start_spares g.met.D.Disk.laws (IsBelow artifacts) c.args.disk.now

pub returns-in-Err-Disk-clause-silent : goal.returns-in-Err-Disk-clause-silent
returns-in-Err-Disk-clause-silent g c = λ is. absurd (not_edge c.args.driven c.in-Err-Disk.field-0 c.in-Err-Disk.is
    (rw c.in-Err-Disk.is at c.in-Err-Disk.field-0-is) is)

pub returns-in-Err-Disk-clause-safe : goal.returns-in-Err-Disk-clause-safe
returns-in-Err-Disk-clause-safe g c =
    err_if _ c.args.driven c.in-Err-Disk.field-0 c.in-Err-Disk.is

pub returns-in-Err-Disk-clause-answers : goal.returns-in-Err-Disk-clause-answers
returns-in-Err-Disk-clause-answers g c = answers_err c.say_disk.result c.args.driven c.in-Err-Disk.field-0 over.Disk c.in-Err-Disk.is
    (rw c.in-Err-Disk.is at c.in-Err-Disk.field-0-is) c.say_disk.ensures.answers

pub returns-in-Err-Disk-clause-ends : goal.returns-in-Err-Disk-clause-ends
returns-in-Err-Disk-clause-ends g c =
    ends_err c.say_disk.result (g.K.Sink.held c.args.sink.now) (g.K.Sink.held c.say_disk.new.sink) c.args.driven c.in-Err-Disk.field-0 over.Disk
    c.in-Err-Disk.is (rw c.in-Err-Disk.is at c.in-Err-Disk.field-0-is)
    (ByDiskFault, (refl, λ fails. inl refl), c.say_disk.ensures.says, c.say_disk.ensures.answers)

pub returns-in-Err-Disk-clause-unswept : goal.returns-in-Err-Disk-clause-unswept
returns-in-Err-Disk-clause-unswept g c = err_on _ c.args.driven c.in-Err-Disk.field-0 c.in-Err-Disk.is refl

-- ---- a line was not written

pub returns-in-Err-Output-clause-over : goal.returns-in-Err-Output-clause-over
returns-in-Err-Output-clause-over g c = err_on _ c.args.driven c.in-Err-Output.field-0 c.in-Err-Output.is tt

pub returns-in-Err-Output-clause-none : goal.returns-in-Err-Output-clause-none
returns-in-Err-Output-clause-none g c = λ over. on_err _ c.args.driven c.in-Err-Output.field-0 c.in-Err-Output.is c.requires.none

pub returns-in-Err-Output-clause-ends : goal.returns-in-Err-Output-clause-ends
returns-in-Err-Output-clause-ends g c =
    let held = g.K.Sink.held c.args.sink.now in
    ends_err statuses.Edge held held c.args.driven c.in-Err-Output.field-0 over.Output c.in-Err-Output.is (rw c.in-Err-Output.is at c.in-Err-Output.field-0-is)
    (BySinkFault, (refl, λ fails. absurd cc), says_none held held statuses.Edge refl, inl refl)

-- ---- no stray file is left behind a close

pub returns-in-Ok-clause-swept : goal.returns-in-Ok-clause-swept
returns-in-Ok-clause-swept g c = λ told. ok_if _ c.args.driven c.in-Ok.driven c.in-Ok.driven c.in-Ok.is refl (c.end_driven.ensures.swept told)

pub returns-in-Err-Disk-clause-swept : goal.returns-in-Err-Disk-clause-swept
returns-in-Err-Disk-clause-swept g c = λ told. err_if _ c.args.driven c.in-Err-Disk.field-0 c.in-Err-Disk.is

pub returns-in-Err-Output-clause-swept : goal.returns-in-Err-Output-clause-swept
returns-in-Err-Output-clause-swept g c = λ told. err_if _ c.args.driven c.in-Err-Output.field-0 c.in-Err-Output.is

-- ---- with which status the call ends

pub returns-in-Err-Disk-clause-ends_call : goal.returns-in-Err-Disk-clause-ends_call
returns-in-Err-Disk-clause-ends_call g c = edge_ends c.say_disk.result statuses.Disk c.say_disk.ensures.answers (inl refl)

pub returns-in-Err-Output-clause-ends_call : goal.returns-in-Err-Output-clause-ends_call
returns-in-Err-Output-clause-ends_call g c = inl refl

pub returns-in-Err-Disk-clause-no_memory : goal.returns-in-Err-Disk-clause-no_memory
returns-in-Err-Disk-clause-no_memory g c = λ is. two_never c.say_disk.result statuses.Disk statuses.Edge statuses.Memory c.say_disk.ensures.answers (λ e. cc)
    (λ e. cc) is

pub returns-in-Err-Output-clause-no_memory : goal.returns-in-Err-Output-clause-no_memory
returns-in-Err-Output-clause-no_memory g c = λ is. cc
