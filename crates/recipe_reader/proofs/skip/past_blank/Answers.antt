use Rattle.std.proofs.Common.{lit<, None}
use Rattle.std.proofs.lemmas.Str.Pattern.{strip_prefix_char}
use Rattle.recipe_reader.proofs.Trims.{start_either}
use Rattle.recipe_reader.proofs.skip.past_blank.Goals as goal

pub returns-in-None : goal.returns-in-None
returns-in-None c =
    let s = c.args.text.now in
    start_either s c.strip_prefix-in-None.result
    (strip_prefix_char 32 s None c.in-None.ensures.cases (lit< tt))
    (strip_prefix_char 9 s c.strip_prefix-in-None.result c.strip_prefix-in-None.ensures.cases (lit< tt))
