use Rattle.std.proofs.Common.{◌≡◌, ◌<◌, ◌-◌, ◌↔◌, ◌⊎◌, ℕ, false, get_or, length, length-set, eqb, subst, ap, ◌∙◌, arith}
use Rattle.std.specs.List.{Contains, count_by}
use Rattle.std.proofs.lemmas.List.{take_all}
use Rattle.dep_order.specs.declared.Need.{Need}
use Rattle.dep_order.proofs.Settled.{something_left, counts_more, ready_more}
use Rattle.dep_order.proofs.waiting.Waiting.settle.Goals as goal

pub lower-requires-clause-place : goal.lower-requires-clause-place
lower-requires-clause-place c =
    let below = c.requires.nodes c.loop-need.need-index (record { from = 0; to = 0; hard = false }) c.loop-need-test.true in
    omega (arith, below, c.loop-need.invariant.len)

pub lower-requires-clause-some : goal.lower-requires-clause-some
lower-requires-clause-some c =
    let d : Need = record { from = 0; to = 0; hard = false } in
    let i = c.loop-need.need-index in
    let f = (get_or c.args.needs.now i d).from in
    something_left c.args.needs.now i d (get_or c.loop-need.self.counts.items f 0) (get_or c.args.self.now.counts.items f 0) c.loop-need-test.true
    (c.loop-need.invariant.counts f) (c.requires.counted f)

pub loop-need-preserved : goal.loop-need-preserved
loop-need-preserved c =
    let d : Need = record { from = 0; to = 0; hard = false } in
    let i = c.loop-need.need-index in
    let needs = c.args.needs.now in
    let f = (get_or needs i d).from in
    let below = c.requires.nodes i d c.loop-need-test.true in
    let place : f < length c.loop-need.self.counts.items = omega (arith, below, c.loop-need.invariant.len) in
    let some = something_left needs i d (get_or c.loop-need.self.counts.items f 0) (get_or c.args.self.now.counts.items f 0) c.loop-need-test.true
    (c.loop-need.invariant.counts f) (c.requires.counted f) in
    record {
      len = ap length c.in_ok-lower.ensures.counts ∙ length-set c.loop-need.self.counts.items f (get_or c.loop-need.self.counts.items f 0 - 1)
          ∙ c.loop-need.invariant.len;
      counts = counts_more needs i d c.args.self.now.counts.items c.loop-need.self.counts.items c.lower.new.self.counts.items c.loop-need-test.true place
          some c.in_ok-lower.ensures.counts c.loop-need.invariant.counts;
      ready = ready_more needs i d c.loop-need.self.counts.items c.lower.new.self.counts.items c.args.self.now.ready.keys c.loop-need.self.ready.keys
          c.lower.new.self.ready.keys c.loop-need-test.true place some c.in_ok-lower.ensures.counts c.loop-need.invariant.ready c.in_ok-lower.ensures.ready;
    }

pub returns-clause-ready : goal.returns-clause-ready
returns-clause-ready c =
    let whole = take_all c.loop-need.need-index c.args.needs.now c.loop-need-test.false in
    subst (λ ns. (q : ℕ) → Contains c.loop-need.self.ready.keys q ↔ (Contains c.args.self.now.ready.keys q
    ⊎ ((0 < count_by (λ (e : Need). eqb e.from q) ns) × (get_or c.loop-need.self.counts.items q 0 ≡ 0)))) whole c.loop-need.invariant.ready
