-- What the worked rows are made of.
use Rattle.std.specs.Prelude.{◌∷◌, [], ℕ, true, false, List, map, Option, Some, None, option_map, pos, codes}
use Rattle.serde_json.specs.Data.{object, no_members, member, null}
use Rattle.nuc_base.specs.declared.kinds.Step.TheVariants as step
use Rattle.nuc_base.specs.declared.kinds.Exit.{Exit}
use Rattle.nuc_base.specs.declared.kinds.Exit.TheVariants as exits
use Rattle.nuc_base.specs.declared.kinds.Policy.TheVariants as policies
use Rattle.lifecycle.specs.Life.{begun}
use Rattle.lifecycle.specs.declared.kinds.State.{State}
use Rattle.lifecycle.specs.declared.kinds.State.TheVariants as state
use Rattle.records.specs.Stored.{Item, Plan}
use Rattle.records.specs.declared.record.Origin.{Origin}
use Rattle.recipe_reader.specs.declared.recipe.Skip.TheVariants as skips
use Rattle.step_runner.specs.declared.command.Command.{Command}
use Rattle.step_runner.specs.declared.entries.RunnerEntry.{RunnerEntry}
use Rattle.step_runner.specs.declared.entries.Seen.{Seen}
use Rattle.step_runner.specs.declared.entries.Seen.TheVariants as seen
use Rattle.device.specs.Devices.{Device, Pending, no_device}
use Rattle.device.specs.Lawful.{accepted}
use Rattle.device.specs.declared.staged.Stage.{Stage}
use Rattle.components.specs.Fitted.{Fitted, steps_of}
use Rattle.components.specs.Components.{Components, ComponentState}
use Rattle.components.specs.declared.kinds.Prepared.{Prepared}
use Rattle.histories.specs.Phases.{previous, current}
use Rattle.histories.specs.States.{SessionState, beginning}

-- ---- items

abbrev pub item : List ℕ → List ℕ → Item
item name version = record { name = name; version = version; recipe = []; config = object no_members; artifacts = [] }

-- Any recipe instead of the empty text, which is none: what is made ready is made of that.
abbrev pub Recipes : Type 0
Recipes = Item → List ℕ

abbrev pub read_as : Recipes → List Item → List Item
read_as r is = map (λ (i : Item). record i { recipe = r i }) is

-- with another configuration
abbrev pub set_up : Item → Item
set_up i = record i { config = object (member (codes "k") null no_members) }

abbrev pub script : List ℕ → Command
script text = record { script = text; env = []; folder = [] }

abbrev pub made : List ℕ → Option ℕ → Prepared
made text limit = record { command = script text; skip = None; limit_ms = limit }

abbrev pub bare : Item → List (List ℕ) → List (List ℕ) → Fitted
bare i hard soft = record { item = i; hard = hard; soft = soft; install = None; run = None; startup = None; shutdown = None; recover = None }

abbrev pub runs : Item → List (List ℕ) → List (List ℕ) → Fitted
runs i hard soft = record (bare i hard soft) { run = Some (made (codes "r") None) }

-- a startup of two minutes
abbrev pub starts_up : Item → List (List ℕ) → Fitted
starts_up i hard = record (bare i hard []) { startup = Some (made (codes "s") (Some 120000)) }

abbrev pub recovers : Item → Fitted
recovers i = record (starts_up i []) { recover = Some (made (codes "v") (Some 60000)) }

-- an install step that is skipped where a path is there
abbrev pub skipping : Item → Fitted
skipping i = record (bare i [] []) { install = Some (record (made (codes "i") (Some 120000)) { skip = Some (skips.Exists (codes "/opt/x")) }) }

-- a bootstrap that runs this
abbrev pub boot_of : Command → Prepared
boot_of command = record { command = command; skip = None; limit_ms = Some 120000 }

abbrev pub boots_up : Prepared
boots_up = boot_of (script (codes "b"))

-- ---- components

abbrev pub idle_part : Fitted → State → ℕ → ComponentState
idle_part f s n = record {
  fitted = f;
  life = record (begun (steps_of f) n) { state = s };
  children = [];
  handed = false;
  owed = None;
  stop = None;
  next =
      None;
}

abbrev pub running_part : Fitted → ℕ → ComponentState
running_part f n = record (idle_part f state.Running 0) {
  life = record (begun (steps_of f) 0) { state = state.Running; runs = true };
  children = record { number = n; of = step.Run; deadline = None } ∷ [];
}

-- its startup lives, until then
abbrev pub starting_part : Fitted → ℕ → ℕ → ComponentState
starting_part f n deadline = record (idle_part f state.Starting 0) {
  life = record (begun (steps_of f) 0) { state = state.Starting; busy = Some step.Startup };
  children = record { number = n; of = step.Startup; deadline = Some deadline } ∷ [];
}

-- it failed, and that is not recorded yet
abbrev pub owing_part : Fitted → ComponentState
owing_part f = record (idle_part f state.Errored 1) { owed = Some (step.Startup, exits.Code (pos 1)) }

abbrev pub world_of : List ComponentState → Components
world_of parts = record { parts = parts; moment = 0; steady = false }

-- ---- devices and states

abbrev pub plan_of : List Item → List (List ℕ) → Plan
plan_of items boots = record { id = codes "d"; group = codes "g"; revision = 0; policy = policies.Rollback; requirements = []; items = items; boots = boots }

abbrev pub pending_in : Stage → Plan → List ℕ → Pending
pending_in s q counts = record (accepted q) { stage = s; failures = counts }

abbrev pub device_of : Origin → List Item → Option Pending → Device
device_of o set pending = record no_device { origin = Some o; set = set; pending = pending }

abbrev pub plan_read_as : Recipes → Pending → Pending
plan_read_as r q = record q { plan = record q.plan { items = read_as r q.plan.items } }

-- the state, where the items of the device have these recipes
abbrev pub with_recipes : Recipes → SessionState → SessionState
with_recipes r p = record p { device = record p.device { set = read_as r p.device.set; pending = option_map (plan_read_as r) p.device.pending } }

-- a deployment is driven, and a moment was just asked for
abbrev pub state_at : Device → Components → SessionState
state_at d w = record (beginning false 0 d w.moment true) { world = w; generation = current }

-- the same where the components are still those of before the stage
abbrev pub before_change : Device → Components → SessionState
before_change d w = record (state_at d w) { generation = previous }

-- `deploy` or `resume` begins
abbrev pub call_begins : Device → SessionState
call_begins d = beginning false 0 d 0 false

-- `serve` begins, and is to ask so often
abbrev pub serve_begins : ℕ → Device → SessionState
serve_begins turns d = beginning true turns d 0 false

-- ---- entries

abbrev pub asked : ℕ → Seen → RunnerEntry
asked m s = record { moment = m; asked = true; seen = s }

abbrev pub not_asked : ℕ → Seen → RunnerEntry
not_asked m s = record { moment = m; asked = false; seen = s }

abbrev pub ends : Exit → ℕ → ℕ → Seen
ends e n limit = seen.Ended n e limit

abbrev pub good : Exit
good = exits.Code (pos 0)

abbrev pub bad : Exit
bad = exits.Code (pos 1)

abbrev pub states_of : List ComponentState → List State
states_of [] = []
states_of (p ∷ ps) = p.life.state ∷ states_of ps

abbrev pub a : List ℕ
a = codes "a"

abbrev pub b : List ℕ
b = codes "b"

abbrev pub c : List ℕ
c = codes "c"

abbrev pub one : List ℕ
one = codes "1.0.0"

abbrev pub two : List ℕ
two = codes "2.0.0"
