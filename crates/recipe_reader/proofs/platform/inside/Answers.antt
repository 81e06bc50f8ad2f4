use Rattle.std.proofs.Common.{lit<, Some, None}
use Rattle.std.proofs.lemmas.Str.Pattern.{strip_prefix_char, strip_suffix_char}
use Rattle.recipe_reader.proofs.Forms.{inside_within, inside_none}
use Rattle.recipe_reader.proofs.platform.inside.Goals as goal

pub returns-in-Some : goal.returns-in-Some
returns-in-Some c =
    inside_within c.args.text.now c.in-Some.rest.now c.strip_suffix.result
    (strip_prefix_char 47 c.args.text.now (Some c.in-Some.rest) c.in-Some.ensures.cases (lit< tt))
    (strip_suffix_char 47 c.in-Some.rest.now c.strip_suffix.result c.strip_suffix.ensures.cases (lit< tt))

pub returns-in-None : goal.returns-in-None
returns-in-None c = inside_none c.args.text.now (strip_prefix_char 47 c.args.text.now None c.in-None.ensures.cases (lit< tt))
