use Rattle.std.proofs.Common.{rules, not}
use Rattle.std.proofs.lemmas.Fn.{filter_same}
use Rattle.components.specs.Components.{ComponentState, is_over}
use Rattle.supervisor.proofs.merging.drop_over.Goals as goal

pub returns : goal.returns
returns c = filter_same _ (λ (p : ComponentState). not (is_over p)) _ (λ x b f' k. search rules) _ _ c.retain.ensures.filtered
