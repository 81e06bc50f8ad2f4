-- Small devices and worlds, in which what is to be kept can be seen to hold.
use Rattle.std.specs.Prelude.{ℕ, true, false, [], ◌∷◌, Some, None, pos}
use Rattle.serde_json.specs.Data.{null}
use Rattle.nuc_base.specs.declared.kinds.Step.TheVariants as steps
use Rattle.nuc_base.specs.declared.kinds.Exit.TheVariants as exits
use Rattle.nuc_base.specs.declared.kinds.Policy.TheVariants as policies
use Rattle.records.specs.Stored.{Item, StepFailed}
use Rattle.device.specs.declared.staged.Stage.TheVariants as stages
use Rattle.device.specs.Devices.{Device, Pending}
use Rattle.device.specs.Lawful.{no_failures, applied}
use Rattle.lifecycle.specs.Life.{begun}
use Rattle.lifecycle.specs.declared.kinds.After.TheVariants as after
use Rattle.lifecycle.specs.declared.kinds.LifeEvent.TheVariants as event
use Rattle.lifecycle.specs.declared.kinds.State.TheVariants as state
use Rattle.components.specs.declared.kinds.Prepared.{Prepared}
use Rattle.components.specs.Fitted.{Fitted, steps_of}
use Rattle.components.specs.Components.{Components, ComponentState}
use Rattle.components.specs.Lives.{lived_at}
use Rattle.components.specs.Events.{started, ended, skipped, heard_at}
use Rattle.components.specs.Acts.{Move}
use Rattle.components.specs.Changes.{changed_to}

-- the component a, of version 1 or 2
abbrev pub item_a : ℕ → Item
item_a version = record { name = 97 ∷ []; version = version ∷ []; recipe = []; config = null; artifacts = [] }

-- with an install, and nothing else
abbrev pub fitted_a : ℕ → Prepared → Fitted
fitted_a version install = record {
  item = item_a version;
  hard = [];
  soft = [];
  install = Some install;
  run = None;
  startup = None;
  shutdown =
      None;
  recover = None;
}

-- a deployment of it is pending, and its items are brought up
abbrev pub pending_a : Pending
pending_a = record {
  plan = record { id = 100 ∷ []; group = []; revision = 0; policy = policies.Rollback; requirements = []; items = item_a 49 ∷ []; boots = [] };
  stage = stages.Activating;
  ended = 0;
  begun = false;
  boot_failed = false;
  reach = 0;
  backs = [];
  failures = no_failures;
}

abbrev pub device_a : Device
device_a = record { origin = None; groups = []; set = []; closed = []; pending = Some pending_a }

abbrev pub no_world : Components
no_world = record { parts = []; moment = 0; steady = false }

-- ---- an install fails

abbrev pub comes : Prepared → Components
comes install = changed_to (fitted_a 49 install ∷ []) no_failures false no_world

abbrev pub begins : Move
begins = record { who = 0; what = event.MayBegin }

abbrev pub begun_a : Prepared → Components
begun_a install = lived_at 0 event.MayBegin (comes install)

-- its child has the number 7, and ends with 1
abbrev pub lives : Prepared → Components
lives install = started 0 steps.Install 7 (begun_a install)

abbrev pub failed : Prepared → Components
failed install = ended 7 (exits.Code (pos 1)) (lives install)

abbrev pub recorded : Device
recorded = applied device_a (StepFailed (97 ∷ []) steps.Install (exits.Code (pos 1)))

abbrev pub heard_a : Prepared → Components
heard_a install = heard_at 0 (failed install)

-- ---- another version comes

-- version 2, which is FINISHED
abbrev pub stood : Prepared → ComponentState
stood install = record {
  fitted = fitted_a 50 install;
  life = record (begun (steps_of (fitted_a 50 install)) 2) { state = state.Finished };
  children = [];
  handed = false;
  owed = None;
  stop = None;
  next = None;
}

abbrev pub stands : Prepared → Components
stands install = record { parts = stood install ∷ []; moment = 0; steady = false }

abbrev pub replaced : Prepared → Components
replaced install = changed_to (fitted_a 49 install ∷ []) no_failures false (stands install)

-- ---- another version comes for one that is being stopped for good

-- version 2 with a shutdown, which is handed out
abbrev pub with_shutdown : Prepared → Fitted
with_shutdown step = record (fitted_a 50 step) { shutdown = Some step }

abbrev pub shutting : Prepared → ComponentState
shutting step = record {
  fitted = with_shutdown step;
  life = record (begun (steps_of (with_shutdown step)) 2) { state = state.Stopping; busy = Some steps.Shutdown; stop = Some after.Gone };
  children = [];
  handed = true;
  owed = None;
  stop = None;
  next = None;
}

abbrev pub leaves : Prepared → Components
leaves step = record { parts = shutting step ∷ []; moment = 0; steady = false }

abbrev pub comes_back : Prepared → Components
comes_back step = changed_to (fitted_a 49 step ∷ []) no_failures false (leaves step)

-- the shutdown is skipped, and then the second stop is given
abbrev pub rests : Prepared → Components
rests step = skipped 0 (comes_back step)

abbrev pub stops_again : Move
stops_again = record { who = 0; what = event.Stop after.Again }

abbrev pub takes : Prepared → Components
takes step = lived_at 0 (event.Stop after.Again) (rests step)
