use Rattle.std.proofs.Common.{ℕ, ◌+◌, max, ◌∙◌, ap, subst}
use Rattle.fleet_core.specs.Takings.{level}
use Rattle.fleet_core.specs.Keeping.{Keeping, takings_of}
use Rattle.fleet_core.specs.Replies.{IsListing}
use Rattle.fleet_core.proofs.device.Device.hear.Goals as goal

pub returns-clause-list : goal.returns-clause-list
returns-clause-list c =
    subst (λ (k : ℕ). IsListing (λ g. level k (takings_of c.args.self.now g)) c.in_ok-list.list)
    (c.max-heard.ensures ∙ ap (λ (d : Keeping). max d.heard (c.args.number + 1)) c.self.view_is) c.in_ok-list.ensures
