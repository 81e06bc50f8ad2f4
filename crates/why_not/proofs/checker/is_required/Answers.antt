use Rattle.recipe_reader.specs.Members.{members}
use Rattle.recipe_reader.specs.Sets.{asked}
use Rattle.why_not.proofs.Asked.{required_asked, required_asking, required_none}
use Rattle.why_not.proofs.checker.is_required.Goals as goal

pub returns-then-is_wanted-clause-yes : goal.returns-then-is_wanted-clause-yes
returns-then-is_wanted-clause-yes c = λ _. required_asked (members c.args.candidates.now) (asked c.args.wanted.now) c.args.taken.now c.args.name.now
    (c.is_wanted.ensures.yes c.if-is_wanted.true)

pub returns-in-Some-clause-yes : goal.returns-in-Some-clause-yes
returns-in-Some-clause-yes c = λ _. required_asking (members c.args.candidates.now) (asked c.args.wanted.now) c.args.taken.now c.args.name.now
    c.in-Some._place c.in-Some.ensures.0 c.in-Some.ensures.1

pub returns-in-None-clause-no : goal.returns-in-None-clause-no
returns-in-None-clause-no c = λ _. required_none (members c.args.candidates.now) (asked c.args.wanted.now) c.args.taken.now c.args.name.now
    (c.is_wanted.ensures.no c.if-is_wanted.false) c.in-None.ensures
