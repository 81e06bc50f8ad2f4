use Rattle.std.proofs.Common.{◌∙◌, ap, sym, rules}
use Rattle.recipe_reader.specs.Steps.{trim_end}
use Rattle.recipe_reader.proofs.Trims.{end_step, end_end}
use Rattle.recipe_reader.proofs.skip.trim_end.Goals as goal

pub blanks-preserved : goal.blanks-preserved
blanks-preserved c =
    let h = c.in-Some.ensures in
    record {
      text = c.blanks.invariant.text ∙ ap trim_end h.2 ∙ end_step c.in-Some.prefix.now h.0 h.1;
      utf8 = search rules;
    }

pub returns : goal.returns
returns c = sym (c.blanks.invariant.text ∙ end_end c.blanks.rest.now c.in_default.ensures)
