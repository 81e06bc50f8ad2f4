use Rattle.std.proofs.Common.{◌≡◌, ℕ, rules}
use Rattle.std.proofs.lemmas.List.Sorted.{IsPartitionPoint-from_clause}
use Rattle.recipe_reader.specs.declared.candidate.Candidate.{Candidate}
use Rattle.conflict_search.specs.Numbers.{is_less}
use Rattle.conflict_search.proofs.Finding.{less_parted, first_found}
use Rattle.conflict_search.proofs.numbers.first_place.Goals as goal

pub returns : goal.returns
returns c =
    let cs = c.args.candidates.now in
    let n = c.args.name.now in
    let start = c.partition_point-start.result in
    first_found cs n start c.requires.known.0
    (IsPartitionPoint-from_clause (λ (d : Candidate). is_less d.recipe.name n) cs start c.partition_point-start.ensures.partitioned
    (less_parted cs n c.requires.rising) (λ a r q k. search rules))
    c.requires.rising c.requires.known.1
