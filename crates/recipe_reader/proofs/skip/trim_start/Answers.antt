use Rattle.std.proofs.Common.{◌∙◌, sym}
use Rattle.recipe_reader.proofs.Trims.{start_end}
use Rattle.recipe_reader.proofs.skip.trim_start.Goals as goal

pub returns : goal.returns
returns c = sym (c.blanks.invariant.text ∙ start_end c.blanks.rest.now c.in_default.ensures)
