use Rattle.std.proofs.Common.{◌≡◌, ◌<◌, ◌-◌, ℕ, Some, true, false, sym, ap, ◌∙◌, subst, arith, rules}
use Rattle.std.proofs.lemmas.Bool.{iff_false}
use Rattle.std.proofs.lemmas.List.Sorted.{IsPartitionPoint-from_clause}
use Rattle.recipe_reader.specs.Members.{members}
use Rattle.recipe_reader.specs.declared.candidate.Candidate.{Candidate}
use Rattle.conflict_search.specs.Numbers.{is_up_to}
use Rattle.conflict_search.proofs.Finding.{up_to_parted, unknown_from_start, unknown_from_other, number_found}
use Rattle.conflict_search.proofs.numbers.number_of.Goals as goal

pub returns-then-end-eq0 : goal.returns-then-end-eq0
returns-then-end-eq0 c =
    let cs = c.args.candidates.now in
    let n = c.args.name.now in
    let end = c.partition_point-end.result in
    unknown_from_start cs n end
    (IsPartitionPoint-from_clause (λ (d : Candidate). is_up_to d.recipe.name n) cs end c.partition_point-end.ensures.partitioned
    (up_to_parted cs n c.requires.rising) (λ a r q k. search rules))
    c.if-end-eq0.true

pub returns-then-not-is_same : goal.returns-then-not-is_same
returns-then-not-is_same c =
    let cs = c.args.candidates.now in
    let n = c.args.name.now in
    let end = c.partition_point-end.result in
    unknown_from_other cs n end
    (IsPartitionPoint-from_clause (λ (d : Candidate). is_up_to d.recipe.name n) cs end c.partition_point-end.ensures.partitioned
    (up_to_parted cs n c.requires.rising) (λ a r q k. search rules))
    c.name_at.result.now c.requires.rising (omega arith) c.name_at.ensures (iff_false c.is_same.ensures c.if-not-is_same.true)

pub returns : goal.returns
returns c =
    let cs = c.args.candidates.now in
    let n = c.args.name.now in
    let end = c.partition_point-end.result in
    number_found cs n end
    (IsPartitionPoint-from_clause (λ (d : Candidate). is_up_to d.recipe.name n) cs end c.partition_point-end.ensures.partitioned
    (up_to_parted cs n c.requires.rising) (λ a r q k. search rules))
    (omega arith) (c.name_at.ensures ∙ ap Some (c.is_same.ensures.0 c.if-not-is_same.false))
