use Rattle.std.proofs.Common.{sym, subst, ◌∷◌, []}
use Rattle.std.specs.List.{Contains}
use Rattle.nuc_base.proofs.Lists.{in_here}
use Rattle.recipe_reader.specs.Members.{members}
use Rattle.recipe_reader.specs.Sets.{asked, required_names}
use Rattle.why_not.proofs.Asked.{required_asked, required_asking, required_none}
use Rattle.why_not.proofs.explaining.requiring.Goals as goal

pub returns-then-is_wanted-clause-required : goal.returns-then-is_wanted-clause-required
returns-then-is_wanted-clause-required c =
    required_asked (members c.args.candidates.now) (asked c.args.wanted.now) c.new.result.items c.args.name.now (c.is_wanted.ensures.yes c.if-is_wanted.true)

pub returns-in_ok-alone-in-Some-clause-required : goal.returns-in_ok-alone-in-Some-clause-required
returns-in_ok-alone-in-Some-clause-required c =
    let ms = members c.args.candidates.now in
    let ws = asked c.args.wanted.now in
    subst (λ used. Contains (required_names ms ws used) c.args.name.now) (sym c.in_ok-alone-in-Some.ensures)
    (required_asking ms ws (c.in-Some.place ∷ []) c.args.name.now c.in-Some.place (in_here c.in-Some.place []) c.in-Some.ensures.1)

pub returns-in-None-clause-required : goal.returns-in-None-clause-required
returns-in-None-clause-required c =
    absurd (required_none (members c.args.candidates.now) (asked c.args.wanted.now) c.args.taken.now c.args.name.now
    (c.is_wanted.ensures.no c.if-is_wanted.false) c.in-None.ensures c.requires)
