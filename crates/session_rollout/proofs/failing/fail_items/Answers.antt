use Rattle.std.proofs.Common.{◌∙◌, sym, ap}
use Rattle.session_transitions.specs.Fails.{is_to_roll_back}
use Rattle.session_rollout.proofs.failing.fail_items.Goals as goal

pub go_back-requires-clause-policy : goal.go_back-requires-clause-policy
go_back-requires-clause-policy g c = ap is_to_roll_back (sym c.device.ensures) ∙ sym c.is_to_roll_back.ensures ∙ c.if-is_to_roll_back.true

pub stay-requires-clause-policy : goal.stay-requires-clause-policy
stay-requires-clause-policy g c = ap is_to_roll_back (sym c.device.ensures) ∙ sym c.is_to_roll_back.ensures ∙ c.if-is_to_roll_back.false
