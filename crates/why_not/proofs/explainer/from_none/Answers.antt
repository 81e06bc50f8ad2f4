use Rattle.std.proofs.Common.{sym, subst}
use Rattle.recipe_reader.specs.Members.{members}
use Rattle.recipe_reader.specs.Sets.{asked}
use Rattle.why_not.specs.Ends.{IsReachedSet}
use Rattle.why_not.specs.Found.{IsFound}
use Rattle.why_not.specs.Fronts.{listed, IsFront}
use Rattle.why_not.proofs.Ends.{stands_nil}
use Rattle.why_not.proofs.Finding.{explained_start, up_to}
use Rattle.why_not.proofs.explainer.from_none.Goals as goal

pub explained-requires : goal.explained-requires
explained-requires c =
    let ms = members c.args.candidates.now in
    let ws = asked c.args.wanted.now in
    record {
      count = c.requires.count;
      stands = subst (IsReachedSet ms ws) (sym c.new-taken.ensures.items) (stands_nil ms ws);
      front = subst (λ taken. IsFront ms ws taken (listed c.in_ok-front.front.names.items)) (sym c.new-taken.ensures.items) c.in_ok-front.ensures;
    }

pub returns-clause-found : goal.returns-clause-found
returns-clause-found c =
    let ms = members c.args.candidates.now in
    let ws = asked c.args.wanted.now in
    explained_start ms ws c.args.form c.args.nodes c.explained.new.left c.in_ok-found.found
    (subst (λ taken. IsFound ms ws c.args.form taken c.args.nodes c.explained.new.left c.in_ok-found.found) c.new-taken.ensures.items
    c.in_ok-found.ensures.found)

pub returns-clause-small : goal.returns-clause-small
returns-clause-small c = up_to c.args.nodes c.explained.new.left c.in_ok-found.found c.in_ok-found.ensures.small
