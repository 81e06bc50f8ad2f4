use Rattle.std.proofs.Common.{◌≡◌, ◌++◌, ◌+◌, ◌∙◌, [], List, ℕ, drop, arith, append_assoc, rules, subst}
use Rattle.edges.specs.Pieces.{WriteOutcome}
use Rattle.edges.proofs.Sent.{appends_more, appends_none, written_on}
use Rattle.recipe_reader.specs.Members.{members}
use Rattle.why_not.specs.Reasons.{seen, branches_seen}
use Rattle.why_not.specs.Texts.{split_line, try_line, reason_lines, branch_lines, joined_lines}
use Rattle.why_not.specs.declared.why.Why.{Why, the_lemmas}
use Rattle.why_not.proofs.Sending.{fault_within}
use Rattle.why_not.proofs.Writing.{split_text, branch_text, branch_size}
use Rattle.why_not.proofs.lines.+writes.Goals as goal

pub write_branches-returns-in_err-write_try-clause-bytes :
    goal.write_branches-returns-in_err-write_try-clause-bytes
write_branches-returns-in_err-write_try-clause-bytes g t c =
    let old = g.K.Sink.held c.args.sink.now in
    let new = g.K.Sink.held c.write_try.new.sink in
    let ms = members c.args.candidates.now in
    let level = c.args.level in
    let bs = c.deref-place-items.result.now in
    let i = c.loop-place.place-index in
    let b = c.loop-place-item.result in
    let sent = c.loop-place.invariant.sent in
    let all = joined_lines (branch_lines ms level (branches_seen bs)) in
    let own = joined_lines (reason_lines ms (level + 1) (seen b.1)) in
    let others = joined_lines (branch_lines ms level (branches_seen (drop (i + 1) bs))) in
    subst (λ (l : List (ℕ × Why)). WriteOutcome old new (joined_lines (branch_lines ms level (branches_seen l))) c.from_residual.result)
    c.deref-place-items.ensures.value
    (fault_within old (g.K.Sink.held c.loop-place.sink) new all sent.0 (try_line ms level b.0) (own ++ others) c.from_residual.result
    c.in_err-write_try.field-0.0 c.from_residual.ensures.1
    (branch_text ms level bs i b all sent.0 c.loop-place-test.true c.loop-place-item.is sent.1
    ∙ append_assoc (sent.0 ++ try_line ms level b.0) own others)
    sent.2 c.in_err-write_try.ensures.bytes)

pub write_branches-write_reason-requires : goal.write_branches-write_reason-requires
write_branches-write_reason-requires g t c κs within =
    let size = branch_size c.deref-place-items.result.now c.loop-place.place-index c.loop-place-item.result c.loop-place-test.true c.loop-place-item.is in
    let small = c.loop-place.invariant.small in
    (search (rules, the_lemmas), (search rules, omega (arith, size, small)))

pub write_branches-returns-in_err-write_reason-clause-bytes :
    goal.write_branches-returns-in_err-write_reason-clause-bytes
write_branches-returns-in_err-write_reason-clause-bytes g t c =
    let old = g.K.Sink.held c.args.sink.now in
    let mid = g.K.Sink.held c.write_try.new.sink in
    let new = g.K.Sink.held c.write_reason.new.sink in
    let ms = members c.args.candidates.now in
    let level = c.args.level in
    let bs = c.deref-place-items.result.now in
    let i = c.loop-place.place-index in
    let b = c.loop-place-item.result in
    let sent = c.loop-place.invariant.sent in
    let all = joined_lines (branch_lines ms level (branches_seen bs)) in
    let one = try_line ms level b.0 in
    let own = joined_lines (reason_lines ms (level + 1) (seen b.1)) in
    let others = joined_lines (branch_lines ms level (branches_seen (drop (i + 1) bs))) in
    subst (λ (l : List (ℕ × Why)). WriteOutcome old new (joined_lines (branch_lines ms level (branches_seen l))) c.from_residual-in_err-write_reason.result)
    c.deref-place-items.ensures.value
    (fault_within old mid new all (sent.0 ++ one) own others c.from_residual-in_err-write_reason.result c.in_err-write_reason.field-0.0
    c.from_residual-in_err-write_reason.ensures.1 (branch_text ms level bs i b all sent.0 c.loop-place-test.true c.loop-place-item.is sent.1)
    (appends_more old (g.K.Sink.held c.loop-place.sink) mid sent.0 one sent.2 c.in_ok-write_try.ensures.bytes) c.in_err-write_reason.ensures.bytes)

pub write_branches-loop-place-preserved : goal.write_branches-loop-place-preserved
write_branches-loop-place-preserved g t c =
    let old = g.K.Sink.held c.args.sink.now in
    let mid = g.K.Sink.held c.write_try.new.sink in
    let new = g.K.Sink.held c.write_reason.new.sink in
    let ms = members c.args.candidates.now in
    let level = c.args.level in
    let bs = c.deref-place-items.result.now in
    let i = c.loop-place.place-index in
    let b = c.loop-place-item.result in
    let sent = c.loop-place.invariant.sent in
    let all = joined_lines (branch_lines ms level (branches_seen bs)) in
    let one = try_line ms level b.0 in
    let own = joined_lines (reason_lines ms (level + 1) (seen b.1)) in
    let size = branch_size bs i b c.loop-place-test.true c.loop-place-item.is in
    let small = c.loop-place.invariant.small in
    record {
      small = omega (arith, size, small);
      sent = (
        (sent.0 ++ one) ++ own,
        branch_text ms level bs i b all sent.0 c.loop-place-test.true c.loop-place-item.is sent.1,
        appends_more old mid new (sent.0 ++ one) own
            (appends_more old (g.K.Sink.held c.loop-place.sink) mid sent.0 one sent.2 c.in_ok-write_try.ensures.bytes)
            c.in_ok-write_reason.ensures.bytes,
      );
      quiet = c.in_ok-write_reason.ensures.quiet ∙ (c.in_ok-write_try.ensures.quiet ∙ c.loop-place.invariant.quiet);
    }

pub write_reason-returns-in_err-write_split-in-Split-clause-bytes :
    goal.write_reason-returns-in_err-write_split-in-Split-clause-bytes
write_reason-returns-in_err-write_split-in-Split-clause-bytes g t c =
    let old = g.K.Sink.held c.args.sink.now in
    let ms = members c.args.candidates.now in
    let level = c.args.level in
    let v = c.in-Split.branches in
    fault_within old old (g.K.Sink.held c.write_split.new.sink) (joined_lines (reason_lines ms level (seen c.args.why.now))) []
    (split_line level c.in-Split.name c.len.result) (joined_lines (branch_lines ms (level + 1) (branches_seen v.items)))
    c.from_residual.result c.in_err-write_split-in-Split.field-0.0 c.from_residual.ensures.1
    (split_text ms level c.args.why.now c.in-Split.name v c.len.result c.in-Split.is (c.len.ensures ∙ v.ok.0))
    (appends_none old) c.in_err-write_split-in-Split.ensures.bytes

pub write_reason-returns-in_ok-write_split-in-Split-clause-bytes :
    goal.write_reason-returns-in_ok-write_split-in-Split-clause-bytes
write_reason-returns-in_ok-write_split-in-Split-clause-bytes g t c =
    let ms = members c.args.candidates.now in
    let level = c.args.level in
    let v = c.in-Split.branches in
    written_on (g.K.Sink.held c.args.sink.now) (g.K.Sink.held c.write_split.new.sink) (g.K.Sink.held c.write_branches.new.sink)
    (joined_lines (reason_lines ms level (seen c.args.why.now))) (split_line level c.in-Split.name c.len.result)
    (joined_lines (branch_lines ms (level + 1) (branches_seen v.items))) c.write_branches.result
    (split_text ms level c.args.why.now c.in-Split.name v c.len.result c.in-Split.is (c.len.ensures ∙ v.ok.0)) c.in_ok-write_split-in-Split.ensures.bytes
    c.write_branches.ensures.bytes
