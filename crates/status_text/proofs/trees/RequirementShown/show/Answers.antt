use Rattle.status_text.proofs.Texts.{requirement_text}
use Rattle.status_text.proofs.trees.RequirementShown.show.Goals as goal

pub returns : goal.returns
returns c = rw (← requirement_text c.args.self.now.name c.args.self.now.range, ← c.as_str.ensures.value, ← c.text-range.ensures.value, ← c.as_str-2.ensures)
    c.put_pair.ensures
