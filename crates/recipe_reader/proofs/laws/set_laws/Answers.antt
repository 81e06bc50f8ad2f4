use Rattle.recipe_reader.proofs.OneSet.{one_preferred, has_preferred, valid_of_same, preferred_of_same}
use Rattle.recipe_reader.proofs.laws.set_laws.Goals as goal

pub returns-clause-one : goal.returns-clause-one
returns-clause-one c = one_preferred

pub returns-clause-some : goal.returns-clause-some
returns-clause-some c = λ ms wanted s up v none. has_preferred ms wanted up s v none

pub returns-clause-elements : goal.returns-clause-elements
returns-clause-elements c = λ ms v w s to from. (valid_of_same ms v w to from s, preferred_of_same ms v w to from s)
