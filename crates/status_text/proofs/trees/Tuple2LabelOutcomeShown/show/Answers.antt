use Rattle.status_text.specs.Words.{outcome_text}
use Rattle.status_text.proofs.Texts.{closed_text}
use Rattle.status_text.proofs.trees.Tuple2LabelOutcomeShown.show.Goals as goal

pub returns : goal.returns
returns c = rw (← closed_text c.args.self.now.0 (outcome_text c.args.self.now.1), ← c.as_str.ensures.value, ← c.outcome_word.ensures) c.put_pair.ensures
