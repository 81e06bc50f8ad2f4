use Rattle.std.proofs.Common.{ltb, arith, rules, subst, sym, ◌∙◌, ap, ◌≡◌, List, get_or, ◌-◌}
use Rattle.std.proofs.lemmas.List.Sorted.{IsPartitionPoint-from_clause, IsPartitionedBy-ltb}
use Rattle.std.specs.List.Sorted.{IsNonDecreasingBy}
use Rattle.fleet_core.specs.declared.history.Taking.{Taking}
use Rattle.fleet_core.specs.Takings.{level, IsRising}
use Rattle.fleet_core.proofs.Levels.{level-none, level-some, parts_at}
use Rattle.fleet_core.proofs.history.History.level.Goals as goal

pub returns-then-count-eq0 : goal.returns-then-count-eq0
returns-then-count-eq0 c =
    let ts = c.self.inside.takings.items in
    let list = c.deref.result.now in
    let same : list ≡ ts = c.deref.ensures.value in
    let parted = IsPartitionedBy-ltb (λ (t : Taking). t.reports) list c.args.reports
    (subst (λ (l : List Taking). IsNonDecreasingBy (λ t. t.reports) l) (sym same) c.self.invariant.reports) in
    let point = IsPartitionPoint-from_clause (λ (t : Taking). ltb t.reports c.args.reports) _ _ c.partition_point-count.ensures.partitioned parted
    (λ a r q k. search rules) in
    level-none c.args.reports list (parts_at c.args.reports list c.partition_point-count.result 0 c.if-count-eq0.true point) ∙ ap (level c.args.reports)
    (same ∙ c.self.view_is)

pub returns : goal.returns
returns c =
    let ts = c.self.inside.takings.items in
    let list = c.deref.result.now in
    let same : list ≡ ts = c.deref.ensures.value in
    let parted = IsPartitionedBy-ltb (λ (t : Taking). t.reports) list c.args.reports
    (subst (λ (l : List Taking). IsNonDecreasingBy (λ t. t.reports) l) (sym same) c.self.invariant.reports) in
    let point = IsPartitionPoint-from_clause (λ (t : Taking). ltb t.reports c.args.reports) _ _ c.partition_point-count.ensures.partitioned parted
    (λ a r q k. search rules) in
    let found = level-some c.args.reports c.partition_point-count.result list c.index.result.now (subst IsRising (sym same) c.self.invariant)
    c.partition_point-count.ensures.bound (omega arith) point in
    ap (λ (t : Taking). t.revision) (c.index.ensures ∙ ap (λ (l : List Taking). get_or l (c.partition_point-count.result - 1) c.index.result.now) (sym same))
    ∙ found ∙ ap (level c.args.reports) (same ∙ c.self.view_is)
