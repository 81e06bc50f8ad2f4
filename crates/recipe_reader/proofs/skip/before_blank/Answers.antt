use Rattle.std.proofs.Common.{lit<, None}
use Rattle.std.proofs.lemmas.Str.Pattern.{strip_suffix_char}
use Rattle.recipe_reader.proofs.Trims.{end_either}
use Rattle.recipe_reader.proofs.skip.before_blank.Goals as goal

pub returns-in-None : goal.returns-in-None
returns-in-None c =
    let s = c.args.text.now in
    end_either s c.strip_suffix-in-None.result
    (strip_suffix_char 32 s None c.in-None.ensures.cases (lit< tt))
    (strip_suffix_char 9 s c.strip_suffix-in-None.result c.strip_suffix-in-None.ensures.cases (lit< tt))
