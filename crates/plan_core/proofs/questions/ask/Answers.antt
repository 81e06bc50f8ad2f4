use Rattle.std.proofs.Common.{◌≡◌, map, refl, ap, subst}
use Rattle.std.specs.Prelude.{Err, Ok, Result}
use Rattle.records.specs.Stored.{item_view}
use Rattle.records.specs.declared.record.Origin.{Origin}
use Rattle.device.specs.Devices.{device_view}
use Rattle.library_core.proofs.Telling.{stays_same}
use Rattle.plan_core.specs.Checks.{AreCandidatesOf, facts}
use Rattle.plan_core.specs.Questions.{QuestionOfDocument}
use Rattle.plan_core.specs.declared.fault.Refusal.{Refusal}
use Rattle.plan_core.specs.declared.questions.Question.{Question}
use Rattle.plan_core.proofs.Opening.{items_of_sound, kept_read}
use Rattle.plan_core.proofs.Proposing.{no_draft}
use Rattle.plan_core.proofs.Questioning.{no_room, not_gathered, not_open, unwanted}
use Rattle.plan_core.proofs.questions.ask.Goals as goal

pub returns-in_err-open-clause-asks : goal.returns-in_err-open-clause-asks
returns-in_err-open-clause-asks g c = λ o is.
    not_open (device_view c.args.device.now) o (g.L.Library.content c.args.library.now) (g.L.Library.faults c.args.library.now)
    (g.L.Library.faults c.args.library.now) c.args.document.now
    c.in_err-open.field-0.0 c.from_residual.result c.from_residual.ensures.1 c.in_err-open.ensures

pub candidates-requires-clause-read : goal.candidates-requires-clause-read
candidates-requires-clause-read g c =
    kept_read c.in-Some.origin.platform (map item_view c.args.device.now.set) (items_of_sound (device_view c.args.device.now) c.in-Some.origin
    c.requires.sound c.in-Some.is).recipes

pub returns-in_err-candidates-clause-asks : goal.returns-in_err-candidates-clause-asks
returns-in_err-candidates-clause-asks g c = λ o is.
    let d = device_view c.args.device.now in
    let content = g.L.Library.content c.candidates.new.library in
    let before = g.L.Library.faults c.args.library.now in
    let after = g.L.Library.faults c.candidates.new.library in
    let same : c.in-Some.origin ≡ o = cc in
    let here = not_gathered d c.in-Some.origin content before after c.args.document.now c.in_err-candidates.field-0.0 c.from_residual-in_err-candidates.result
    c.from_residual-in_err-candidates.ensures.1
    c.in_ok-open.ensures.0 c.in_ok-open.ensures.1 (record {
      cause = λ e. c.in_err-candidates.ensures.cause (ap Err e);
      told = c.in_err-candidates.ensures.gathered;
      tells = c.in_err-candidates.ensures.tells;
    }) in
    subst (λ (p : Origin). QuestionOfDocument d p content before after c.args.document.now c.from_residual-in_err-candidates.result) same here

pub returns-in_err-check_room-clause-asks : goal.returns-in_err-check_room-clause-asks
returns-in_err-check_room-clause-asks g c = λ o is.
    let d = device_view c.args.device.now in
    let content = g.L.Library.content c.candidates.new.library in
    let before = g.L.Library.faults c.args.library.now in
    let after = g.L.Library.faults c.candidates.new.library in
    let cs = c.in_ok-candidates.candidates in
    let same : c.in-Some.origin ≡ o = cc in
    let gathered : AreCandidatesOf (facts d c.in-Some.origin content before after c.args.document.now cs no_draft) =
    record {
      gathered = c.in_ok-candidates.ensures.read;
      kept = c.in_ok-candidates.ensures.kept_bytes;
      told = c.in_ok-candidates.ensures.gathered;
      tells = λ t. c.in_ok-candidates.ensures.tells t (λ e. cc e, λ e. cc e);
    } in
    let here = no_room d c.in-Some.origin content before after c.args.document.now cs c.in_err-check_room.field-0.0 c.from_residual-in_err-check_room.result
    c.from_residual-in_err-check_room.ensures.1
    c.in_ok-open.ensures.0 c.in_ok-open.ensures.1 gathered c.in_err-check_room.ensures in
    subst (λ (p : Origin). QuestionOfDocument d p content before after c.args.document.now c.from_residual-in_err-check_room.result) same here

pub returns-in_err-wanted-clause-asks : goal.returns-in_err-wanted-clause-asks
returns-in_err-wanted-clause-asks g c = λ o is.
    unwanted (device_view c.args.device.now) o (g.L.Library.content c.candidates.new.library) (g.L.Library.faults c.args.library.now)
    (g.L.Library.faults c.candidates.new.library) c.args.document.now c.from_residual-in_err-wanted.result c.from_residual-in_err-wanted.ensures.1

pub returns-clause-asks : goal.returns-clause-asks
returns-clause-asks g c = λ o is.
    let d = device_view c.args.device.now in
    let content = g.L.Library.content c.candidates.new.library in
    let before = g.L.Library.faults c.args.library.now in
    let after = g.L.Library.faults c.candidates.new.library in
    let cs = c.in_ok-candidates.candidates in
    let made : Result Question Refusal = Ok (record { candidates = cs; wanted = c.in_ok-wanted.wanted }) in
    let same : c.in-Some.origin ≡ o = cc in
    let gathered : AreCandidatesOf (facts d c.in-Some.origin content before after c.args.document.now cs no_draft) =
    record {
      gathered = c.in_ok-candidates.ensures.read;
      kept = c.in_ok-candidates.ensures.kept_bytes;
      told = c.in_ok-candidates.ensures.gathered;
      tells = λ t. c.in_ok-candidates.ensures.tells t (λ e. cc e, λ e. cc e);
    } in
    let here : QuestionOfDocument d c.in-Some.origin content before after c.args.document.now made = (
      cs,
      no_draft,
      (
        refl,
        c.in_ok-wanted.ensures,
        (c.in_ok-open.ensures.0, (c.in_ok-open.ensures.1, (gathered, (c.in_ok-check_room.ensures, tt)))),
      ),
    ) in
    subst (λ (p : Origin). QuestionOfDocument d p content before after c.args.document.now made) same here

pub returns-in_err-open-clause-kept : goal.returns-in_err-open-clause-kept
returns-in_err-open-clause-kept g c = stays_same g.L.Library.content g.L.Library.coming c.args.library.now
