-- What is kept of the components whatever befalls them while no deployment is driven, and the number of a turn.
use Rattle.std.specs.Prelude.{◌≡◌, ◌<◌, ◌≤◌}
use Rattle.nuc_base.specs.declared.platform.Platform.{Platform}
use Rattle.components.specs.Components.{Components}
use Rattle.components.specs.Platforms.{AllRunFor}
use Rattle.law_termination.specs.Drives.{AreDriven}
use Rattle.law_termination.specs.TurnRank.{turn_rank}

-- That loops end is kept, no deployment begins or ends, and each component runs its item as the item's recipe says.
pub record IsKeptSteady (w v : Components) : Type 0 where
  pub drives : AreDriven v
  pub mode : v.steady ≡ w.steady
  pub recipes : (platform : Platform) → AllRunFor platform w.parts → AllRunFor platform v.parts

-- and the number of a turn is less
pub record IsCalmer (w v : Components) : Type 0 where
  pub stays : IsKeptSteady w v
  pub less : turn_rank v < turn_rank w

-- and that number is not above
pub record IsNoWilder (w v : Components) : Type 0 where
  pub stays : IsKeptSteady w v
  pub least : turn_rank v ≤ turn_rank w
