use Rattle.std.proofs.Common.{◌≡◌, ◌≢◌, ◌+◌, ◌<◌, ◌≤◌, length, map, take, get_or, IfErr, Result, List, [], ◌∷◌, ◌++◌, refl, sym, ap, subst, ◌∙◌, arith}
use Rattle.std.specs.Prelude.{IsSome, IsTrue}
use Rattle.std.proofs.lemmas.List.{take_all}
use Rattle.library_core.specs.Library.{Content, most_given}
use Rattle.records.specs.Stored.{item_view}
use Rattle.recipe_reader.specs.declared.candidate.Candidate.{Candidate}
use Rattle.library_core.specs.declared.fault.CandidatesFault.{CandidatesFault}
use Rattle.library_core.specs.declared.fault.CandidatesFault.TheVariants.{Library}
use Rattle.library_core.specs.Sources.{own}
use Rattle.library_core.specs.Gathered.{most}
use Rattle.library_core.proofs.Sifting.{so_far_other}
use Rattle.library_core.proofs.Ending.{passed_more, so_far_more, stopped_gathered, ended_gathered, more_room, so_far_of, keep_bytes, handed_quiet, not_counted}
use Rattle.library_core.proofs.Telling.{stays_still}
use Rattle.library_core.proofs.gather.candidates.Goals as goal

pub returns-in_err-gathered-clause-gathered : goal.returns-in_err-gathered-clause-gathered
returns-in_err-gathered-clause-gathered g c = λ l e.
    let i = c.loop-at.at in
    let before = ap (λ (x : Content). x.recipes) (sym c.in_ok-bytes.ensures.kept.0) ∙ e in
    let count : c.in_ok-count.count ≡ length l = c.loop-at.invariant.counted l before in
    let below : i < length l = omega arith in
    let few : length l ≤ most = omega arith in
    let so = c.loop-at.invariant.told l before in
    let bytes = c.in_ok-bytes.ensures.told l before in
    stopped_gathered c.args.origin.now (map item_view c.args.kept.now) l i c.in_err-gathered.field-0.0 _ c.from_residual-in_err-gathered.ensures.1 few
    below so.0
    (c.in_err-gathered.ensures.next (get_or l i []) (take i l) bytes so.1)

pub loop-at-preserved : goal.loop-at-preserved
loop-at-preserved g c = record {
  kept = stays_still c.loop-at.invariant.kept c.in_ok-bytes.ensures.kept.0 c.in_ok-bytes.ensures.kept.1;
  quiet = c.in_ok-bytes.ensures.quiet (λ e. cc e) ∙ c.loop-at.invariant.quiet;
  few = more_room _ (129 + c.loop-at.at + 1) (129 + (c.loop-at.at + 1)) (omega arith)
      (c.in_ok-gathered.ensures.few (129 + c.loop-at.at) c.loop-at.invariant.few);
  held = c.in_ok-gathered.ensures.held c.loop-at.invariant.held;
  tells = subst (λ (x : Content). IsTrue x.tells → IsSome x.recipes) (sym c.in_ok-bytes.ensures.kept.0) c.loop-at.invariant.tells;
  counted = λ l e. c.loop-at.invariant.counted l (ap (λ (x : Content). x.recipes) (sym c.in_ok-bytes.ensures.kept.0) ∙ e);
  told = λ l e.
      let i = c.loop-at.at in
      let before = ap (λ (x : Content). x.recipes) (sym c.in_ok-bytes.ensures.kept.0) ∙ e in
      let count : c.in_ok-count.count ≡ length l = c.loop-at.invariant.counted l before in
      let below : i < length l = omega arith in
      let so = c.loop-at.invariant.told l before in
      let bytes = c.in_ok-bytes.ensures.told l before in
      let next = c.in_ok-gathered.ensures.next (get_or l i []) (take i l) bytes so.1 in (
        passed_more c.args.origin.now.platform l i below so.0 next.0,
        so_far_more c.args.origin.now (map item_view c.args.kept.now) l i _ below next.1,
      );
  given = (
    c.loop-at.invariant.given.0 ++ c.in_ok-bytes.bytes ∷ [],
    (c.in_ok-gathered.ensures.next c.in_ok-bytes.bytes c.loop-at.invariant.given.0 (sym (take_all most_given c.in_ok-bytes.bytes c.in_ok-bytes.ensures.short))
        c.loop-at.invariant.given.1).1,
  );
}

pub returns-clause-gathered : goal.returns-clause-gathered
returns-clause-gathered g c = λ l e.
    let count : c.in_ok-count.count ≡ length l = c.loop-at.invariant.counted l e in
    let past : length l ≤ c.loop-at.at = omega arith in
    let few : length l ≤ most = omega arith in
    let so = c.loop-at.invariant.told l e in
    ended_gathered c.args.origin.now (map item_view c.args.kept.now) l c.loop-at.at c.loop-at.gathered past few so.0 so.1

pub loop-at-init : goal.loop-at-init
loop-at-init g c = record {
  kept = c.in_ok-count.ensures.kept;
  quiet = c.in_ok-count.ensures.quiet (λ e. cc e);
  few = more_room _ (length c.args.kept.now + 1) (129 + 0) (omega (arith, c.requires.few)) c.own_candidates-gathered.ensures.few;
  held = so_far_other (own c.args.origin.now (map item_view c.args.kept.now)) c.args.origin.now.platform [] _ c.own_candidates-gathered.ensures.so_far;
  tells = c.in_ok-count.ensures.tells;
  counted = c.in_ok-count.ensures.told;
  told = λ l e. (λ k d below. absurd (omega arith), c.own_candidates-gathered.ensures.so_far);
  given = ([], c.own_candidates-gathered.ensures.so_far);
}

pub returns-clause-cause : goal.returns-clause-cause
returns-clause-cause g c = λ h.
    let held = subst (λ (r : Result (List Candidate) CandidatesFault). IfErr r (λ f. f ≢ Library)) h c.loop-at.invariant.held in
    absurd (held refl)

pub returns-clause-read : goal.returns-clause-read
returns-clause-read g c = so_far_of c.args.origin.now (map item_view c.args.kept.now) c.loop-at.invariant.given.0 c.loop-at.gathered c.loop-at.invariant.given.1

pub returns-clause-kept_bytes : goal.returns-clause-kept_bytes
returns-clause-kept_bytes g c = keep_bytes c.args.origin.now (map item_view c.args.kept.now) c.loop-at.invariant.given.0 c.loop-at.gathered
    c.loop-at.invariant.given.1

pub returns-in_err-count-clause-quiet : goal.returns-in_err-count-clause-quiet
returns-in_err-count-clause-quiet g c = λ other.
    c.in_err-count.ensures.quiet (handed_quiet c.from_residual.result c.in_err-count.field-0.0 c.from_residual.ensures.1 other)

pub returns-in_err-bytes-clause-quiet : goal.returns-in_err-bytes-clause-quiet
returns-in_err-bytes-clause-quiet g c = λ other.
    c.in_err-bytes.ensures.quiet (handed_quiet c.from_residual-in_err-bytes.result c.in_err-bytes.field-0.0 c.from_residual-in_err-bytes.ensures.1 other) ∙
    c.loop-at.invariant.quiet

pub returns-in_err-gathered-clause-quiet : goal.returns-in_err-gathered-clause-quiet
returns-in_err-gathered-clause-quiet g c = λ other. c.in_ok-bytes.ensures.quiet (λ e. cc e) ∙ c.loop-at.invariant.quiet

-- ---- what stays told

pub returns-in_err-count-clause-tells : goal.returns-in_err-count-clause-tells
returns-in_err-count-clause-tells g c = λ t counted.
    absurd (not_counted c.from_residual.result c.in_err-count.field-0.0 c.from_residual.ensures.1 counted)

pub returns-in_err-bytes-clause-kept : goal.returns-in_err-bytes-clause-kept
returns-in_err-bytes-clause-kept g c = stays_still c.loop-at.invariant.kept c.in_err-bytes.ensures.kept.0 c.in_err-bytes.ensures.kept.1

pub returns-in_err-gathered-clause-kept : goal.returns-in_err-gathered-clause-kept
returns-in_err-gathered-clause-kept g c = stays_still c.loop-at.invariant.kept c.in_ok-bytes.ensures.kept.0 c.in_ok-bytes.ensures.kept.1

pub returns-in_err-bytes-clause-tells : goal.returns-in_err-bytes-clause-tells
returns-in_err-bytes-clause-tells g c = λ t counted.
    subst (λ (x : Content). IsTrue x.tells → IsSome x.recipes) (sym c.in_err-bytes.ensures.kept.0) c.loop-at.invariant.tells t

pub returns-in_err-gathered-clause-tells : goal.returns-in_err-gathered-clause-tells
returns-in_err-gathered-clause-tells g c = λ t counted.
    subst (λ (x : Content). IsTrue x.tells → IsSome x.recipes) (sym c.in_ok-bytes.ensures.kept.0) c.loop-at.invariant.tells t
