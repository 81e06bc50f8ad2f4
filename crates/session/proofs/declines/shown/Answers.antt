use Rattle.std.proofs.Common.{sym, ap, ◌∙◌}
use Rattle.session.specs.Declines.{file_text}
use Rattle.session.proofs.Files.{shown_apart}
use Rattle.session.proofs.declines.shown.Goals as goal

pub returns-in-None : goal.returns-in-None
returns-in-None c = sym (shown_apart c.as_str-name.result.now c.in-None.ensures.cases) ∙ ap file_text c.as_str-name.ensures
