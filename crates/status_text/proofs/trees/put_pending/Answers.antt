use Rattle.status_text.specs.Words.{stage_text}
use Rattle.status_text.proofs.Texts.{pending_text}
use Rattle.status_text.proofs.trees.put_pending.Goals as goal

pub returns-in-Some : goal.returns-in-Some
returns-in-Some c = rw (
  c.in-Some.is,
  ← pending_text c.in-Some.pending.plan.id (stage_text c.in-Some.pending.stage),
  ← c.as_str.ensures.value,
  ← c.stage_word.ensures,
) c.put_pair.ensures
