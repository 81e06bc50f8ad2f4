use Rattle.std.proofs.Common.{List, Result, Err, map, sym, subst}
use Rattle.records.specs.Stored.{item_view}
use Rattle.recipe_reader.specs.declared.candidate.Candidate.{Candidate}
use Rattle.library_core.specs.SoFar.{IsJoined}
use Rattle.library_core.specs.declared.fault.CandidatesFault.{CandidatesFault}
use Rattle.library_core.proofs.Sifting.{decided}
use Rattle.library_core.proofs.taken.join.Goals as goal

pub returns-in-Err-add : goal.returns-in-Err-add
returns-in-Err-add c =
    let f = c.refusal_of.result in
    subst (λ (g : Result (List Candidate) CandidatesFault). IsJoined (map item_view c.args.kept.now) c.args.candidate g (Err f)) (sym c.in-Ok.is)
    (decided (map item_view c.args.kept.now) c.in-Ok.candidates c.args.candidate c.in-Err-add.refusal f c.in-Err-add.ensures.refused c.refusal_of.ensures)
