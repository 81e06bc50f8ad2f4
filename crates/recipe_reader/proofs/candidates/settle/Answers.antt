use Rattle.recipe_reader.proofs.candidates.settle.Goals as goal

pub returns : goal.returns
returns c = c.has_bytes_of.ensures.0 c.if-not-has_bytes_of.false
