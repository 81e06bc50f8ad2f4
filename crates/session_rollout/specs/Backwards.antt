-- What the way back of a deployment rests on.
use Rattle.std.specs.Prelude.{List, ⊤}
use Rattle.device.specs.Devices.{Device}
use Rattle.deploy_state.specs.States.{rolling_device}
use Rattle.deploy_state.specs.declared.state.Backed.{Backed}
use Rattle.deploy_state.specs.declared.state.Backed.TheVariants as backed
use Rattle.deploy_state.specs.declared.state.Loaded.{Loaded}
use Rattle.deploy_state.specs.declared.state.Loaded.TheVariants as loaded
use Rattle.components.specs.Fitted.{Fitted}
use Rattle.components.specs.declared.kinds.Prepared.{Prepared}
use Rattle.session_transitions.specs.Enters.{AreReady}
use Rattle.session_admission.specs.Readied.{AreReadiedFor}

-- Beside what the plan itself needs, the set's bootstraps that may run again and the set's items are made ready.
abbrev pub HasWayBack : Device → List Prepared → List Fitted → Type 0
HasWayBack d backs earlier = (boots : List Prepared) × (items : List Fitted) × AreReadiedFor d boots backs items earlier

-- where the set's bootstraps are through, its items are made ready
abbrev pub EndsBacks : {J : Type 0} → Backed J → List Fitted → Type 0
EndsBacks (backed.Backing s) earlier = ⊤
EndsBacks (backed.Rolling s) earlier = AreReady (rolling_device s) earlier

-- the state in which a journal is found where a call ends for a restart on the way back
abbrev pub paused_of : {J : Type 0} → Backed J → Loaded J
paused_of (backed.Backing s) = loaded.Backing s
paused_of (backed.Rolling s) = loaded.Rolling s
