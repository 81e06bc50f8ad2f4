use Rattle.std.proofs.Common.{◌≡◌, ◌-◌, ◌*◌, ◌≤◌, ◌∙◌, ℕ, List, arith, subst}
use Rattle.std.specs.Io.KnownBytes.{Appends}
use Rattle.edges.specs.Pieces.{AppendsPrefix}
use Rattle.edges.proofs.Sent.{appends_more}
use Rattle.why_not.specs.Texts.{indent}
use Rattle.why_not.proofs.Sending.{fault_within}
use Rattle.why_not.proofs.Writing.{blanks_prefix, indent_more, indent_parts}
use Rattle.why_not.proofs.lines.write_indent.Goals as goal

pub returns-in_err-write_all-clause-bytes : goal.returns-in_err-write_all-clause-bytes
returns-in_err-write_all-clause-bytes g c =
    let mid = g.K.Sink.held c.loop-left.sink in
    let new = g.K.Sink.held c.write_all.new.sink in
    let left = c.loop-left.left in
    let count = c.min-count.result in
    let min = c.min-count.ensures in
    let few : 2 * count ≤ 64 = omega (arith, min) in
    let most : count ≤ left = omega (arith, min) in
    fault_within (g.K.Sink.held c.args.sink.now) mid new (indent c.args.level) (indent (c.args.level - left)) (indent count) (indent (left - count))
    c.from_residual.result c.in_err-write_all.field-0.0 c.from_residual.ensures.1
    (indent_parts c.args.level left count c.loop-left.invariant.within most) c.loop-left.invariant.sent
    (subst (λ (l : List ℕ). AppendsPrefix mid new l) (blanks_prefix 64 count few) c.in_err-write_all.ensures.bytes)

pub loop-left-preserved : goal.loop-left-preserved
loop-left-preserved g c =
    let old = g.K.Sink.held c.args.sink.now in
    let mid = g.K.Sink.held c.loop-left.sink in
    let new = g.K.Sink.held c.write_all.new.sink in
    let left = c.loop-left.left in
    let count = c.min-count.result in
    let min = c.min-count.ensures in
    let within = c.loop-left.invariant.within in
    let few : 2 * count ≤ 64 = omega (arith, min) in
    let most : count ≤ left = omega (arith, min) in
    record {
      within = omega (arith, within);
      sent = subst (λ (l : List ℕ). Appends old new l) (indent_more c.args.level left count within most)
          (appends_more old mid new (indent (c.args.level - left)) (indent count) c.loop-left.invariant.sent
          (subst (λ (l : List ℕ). Appends mid new l) (blanks_prefix 64 count few) c.in_ok-write_all.ensures.bytes));
      quiet = c.in_ok-write_all.ensures.quiet ∙ c.loop-left.invariant.quiet;
    }
