-- All that the steps of a deployment need, made ready.
use Rattle.std.specs.Prelude.{ℕ, List, filter}
use Rattle.std.specs.Option.{IfSome, IsSomeAnd}
use Rattle.records.specs.Stored.{Item, Plan}
use Rattle.records.specs.declared.record.Origin.{Origin}
use Rattle.device.specs.Devices.{Device}
use Rattle.device.specs.Lawful.{goes_back}
use Rattle.components.specs.Fitted.{Fitted}
use Rattle.components.specs.Made.{AreFitted}
use Rattle.components.specs.declared.kinds.Prepared.{Prepared}
use Rattle.session_boots.specs.Made.{AreBootsOf}

-- the bootstraps of the plan whose item in the set has one that runs again on the way back, in the plan's order
abbrev pub may_go_back : Origin → List Item → Plan → List (List ℕ)
may_go_back o set plan = filter (goes_back o.platform set) plan.boots

-- The bootstrap steps and the items of the plan, and those that the way back to the set may need.
pub record IsReadied (o : Origin) (set : List Item) (plan : Plan) (made made_again : List Prepared) (fitted fitted_again : List Fitted) : Type 0 where
  pub boots : AreBootsOf o plan.items plan.boots made
  pub backs : AreBootsOf o set (may_go_back o set plan) made_again
  pub items : AreFitted o plan.items fitted
  pub earlier : AreFitted o set fitted_again

-- so they are for the deployment that is pending
abbrev pub AreReadiedFor : Device → List Prepared → List Prepared → List Fitted → List Fitted → Type 0
AreReadiedFor d made made_again fitted fitted_again = IfSome d.pending
    (λ q. IsSomeAnd d.origin (λ o. IsReadied o d.set q.plan made made_again fitted fitted_again))
