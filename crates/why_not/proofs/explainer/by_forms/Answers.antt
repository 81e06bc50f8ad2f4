use Rattle.recipe_reader.specs.Members.{members}
use Rattle.recipe_reader.specs.Sets.{asked}
use Rattle.why_not.specs.Reasons.{seen}
use Rattle.why_not.specs.declared.choosing.Form.TheVariants.{Small}
use Rattle.why_not.proofs.Finding.{explains_plain, explains_small, no_set}
use Rattle.why_not.proofs.explainer.by_forms.Goals as goal

pub returns-in-Because-clause-found : goal.returns-in-Because-clause-found
returns-in-Because-clause-found c =
    explains_plain (members c.args.candidates.now) (asked c.args.wanted.now) c.in-Because.part (rw c.in-Because.is at c.in_ok-from_none.ensures.found)
    (rw c.in-Because.is at c.in_ok-from_none.ensures.small)

pub returns-in-Because-clause-none : goal.returns-in-Because-clause-none
returns-in-Because-clause-none c =
    let ms = members c.args.candidates.now in
    let ws = asked c.args.wanted.now in
    no_set ms ws (seen c.in-Because.part.why) (explains_plain ms ws c.in-Because.part (rw c.in-Because.is at c.in_ok-from_none.ensures.found)
    (rw c.in-Because.is at c.in_ok-from_none.ensures.small))

pub returns-in-Because-2-clause-found : goal.returns-in-Because-2-clause-found
returns-in-Because-2-clause-found c =
    explains_small (members c.args.candidates.now) (asked c.args.wanted.now) Small c.in-Because-2.part (rw c.in-TooLarge.is at c.in_ok-from_none.ensures.found)
    (rw c.in-Because-2.is at c.in_ok-from_none-2.ensures.found) (rw c.in-Because-2.is at c.in_ok-from_none-2.ensures.small)

pub returns-in-Because-2-clause-none : goal.returns-in-Because-2-clause-none
returns-in-Because-2-clause-none c =
    let ms = members c.args.candidates.now in
    let ws = asked c.args.wanted.now in
    no_set ms ws (seen c.in-Because-2.part.why) (explains_small ms ws Small c.in-Because-2.part (rw c.in-TooLarge.is at c.in_ok-from_none.ensures.found)
    (rw c.in-Because-2.is at c.in_ok-from_none-2.ensures.found) (rw c.in-Because-2.is at c.in_ok-from_none-2.ensures.small))
