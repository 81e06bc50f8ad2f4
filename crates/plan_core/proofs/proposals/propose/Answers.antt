use Rattle.std.proofs.Common.{◌≡◌, map, refl, ap, subst}
use Rattle.std.specs.Prelude.{Err}
use Rattle.records.specs.Stored.{item_view, draft_view}
use Rattle.records.specs.declared.record.Origin.{Origin}
use Rattle.device.specs.Devices.{device_view}
use Rattle.library_core.proofs.Telling.{stays_same}
use Rattle.plan_core.specs.Checks.{DraftOfDocument, AreCandidatesOf, facts}
use Rattle.plan_core.proofs.Opening.{items_of_sound, kept_read}
use Rattle.plan_core.proofs.Proposing.{not_open, not_gathered, not_planned, no_draft}
use Rattle.plan_core.proofs.proposals.propose.Goals as goal

pub returns-in_err-open-clause-proposes : goal.returns-in_err-open-clause-proposes
returns-in_err-open-clause-proposes g c = λ o is.
    not_open (device_view c.args.device.now) o (g.L.Library.content c.args.library.now) (g.L.Library.faults c.args.library.now)
    (g.L.Library.faults c.args.library.now) c.args.document.now
    c.in_err-open.field-0.0 c.from_residual.result c.from_residual.ensures.1 c.in_err-open.ensures

pub candidates-requires-clause-read : goal.candidates-requires-clause-read
candidates-requires-clause-read g c =
    kept_read c.in-Some.origin.platform (map item_view c.args.device.now.set) (items_of_sound (device_view c.args.device.now) c.in-Some.origin
    c.requires.sound c.in-Some.is).recipes

pub returns-in_err-candidates-clause-proposes : goal.returns-in_err-candidates-clause-proposes
returns-in_err-candidates-clause-proposes g c = λ o is.
    let d = device_view c.args.device.now in
    let content = g.L.Library.content c.candidates.new.library in
    let before = g.L.Library.faults c.args.library.now in
    let after = g.L.Library.faults c.candidates.new.library in
    let same : c.in-Some.origin ≡ o = cc in
    let here = not_gathered d c.in-Some.origin content before after c.args.document.now c.in_err-candidates.field-0.0 c.from_residual-in_err-candidates.result
    c.from_residual-in_err-candidates.ensures.1
    c.in_ok-open.ensures.0 c.in_ok-open.ensures.1 (record {
      cause = λ e. c.in_err-candidates.ensures.cause (ap Err e);
      told = c.in_err-candidates.ensures.gathered;
      tells = c.in_err-candidates.ensures.tells;
    }) in
    subst (λ (p : Origin). DraftOfDocument d p content before after c.args.document.now c.from_residual-in_err-candidates.result) same here

pub returns-in_err-draft-clause-proposes : goal.returns-in_err-draft-clause-proposes
returns-in_err-draft-clause-proposes g c = λ o is.
    let d = device_view c.args.device.now in
    let content = g.L.Library.content c.candidates.new.library in
    let before = g.L.Library.faults c.args.library.now in
    let after = g.L.Library.faults c.candidates.new.library in
    let cs = c.in_ok-candidates.candidates in
    let same : c.in-Some.origin ≡ o = cc in
    let gathered : AreCandidatesOf (facts d c.in-Some.origin content before after c.args.document.now cs no_draft) =
    record {
      gathered = c.in_ok-candidates.ensures.read;
      kept = c.in_ok-candidates.ensures.kept_bytes;
      told = c.in_ok-candidates.ensures.gathered;
      tells = λ t. c.in_ok-candidates.ensures.tells t (λ e. cc e, λ e. cc e);
    } in
    let here = not_planned d c.in-Some.origin content before after c.args.document.now cs c.in_err-draft.field-0.0 c.from_residual-in_err-draft.result
    c.from_residual-in_err-draft.ensures.1
    c.in_ok-open.ensures.0 c.in_ok-open.ensures.1 gathered (c.in_err-draft.ensures c.in-Some.origin c.in-Some.is) in
    subst (λ (p : Origin). DraftOfDocument d p content before after c.args.document.now c.from_residual-in_err-draft.result) same here

pub returns-clause-proposes : goal.returns-clause-proposes
returns-clause-proposes g c = λ o is.
    let d = device_view c.args.device.now in
    let content = g.L.Library.content c.candidates.new.library in
    let before = g.L.Library.faults c.args.library.now in
    let after = g.L.Library.faults c.candidates.new.library in
    let cs = c.in_ok-candidates.candidates in
    let draft = draft_view c.in_ok-draft.draft in
    let same : c.in-Some.origin ≡ o = cc in
    let gathered : AreCandidatesOf (facts d c.in-Some.origin content before after c.args.document.now cs draft) =
    record {
      gathered = c.in_ok-candidates.ensures.read;
      kept = c.in_ok-candidates.ensures.kept_bytes;
      told = c.in_ok-candidates.ensures.gathered;
      tells = λ t. c.in_ok-candidates.ensures.tells t (λ e. cc e, λ e. cc e);
    } in
    let planned = c.in_ok-draft.ensures o is in (
      cs,
      draft,
      (
        refl,
        (
          c.in_ok-open.ensures.0,
          (
            c.in_ok-open.ensures.1,
            (
              subst (λ (p : Origin). AreCandidatesOf (facts d p content before after c.args.document.now cs draft)) same gathered,
              (planned.room, (planned, tt)),
            ),
          ),
        ),
      ),
    )

pub returns-in_err-open-clause-kept : goal.returns-in_err-open-clause-kept
returns-in_err-open-clause-kept g c = stays_same g.L.Library.content g.L.Library.coming c.args.library.now
