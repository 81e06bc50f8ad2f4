-- A small world with a need: the component b needs a, whose install lives.
use Rattle.std.specs.Prelude.{ℕ, false, List, [], ◌∷◌, Some, None}
use Rattle.serde_json.specs.Data.{null}
use Rattle.nuc_base.specs.declared.kinds.Step.TheVariants as step
use Rattle.records.specs.Stored.{Item}
use Rattle.lifecycle.specs.Life.{begun}
use Rattle.components.specs.declared.kinds.Prepared.{Prepared}
use Rattle.components.specs.Fitted.{Fitted, steps_of}
use Rattle.components.specs.Components.{Components, ComponentState}

abbrev pub item_of : List ℕ → Item
item_of name = record { name = name; version = 49 ∷ []; recipe = []; config = null; artifacts = [] }

abbrev pub fitted_a : Prepared → Fitted
fitted_a install = record {
  item = item_of (97 ∷ []);
  hard = [];
  soft = [];
  install = Some install;
  run = None;
  startup = None;
  shutdown = None;
  recover = None;
}

abbrev pub fitted_b : Fitted
fitted_b = record { item = item_of (98 ∷ []); hard = (97 ∷ []) ∷ []; soft = []; install = None; run = None; startup = None; shutdown = None; recover = None }

-- its install was begun, and its child has the number 7, until 10
abbrev pub part_a : Prepared → ComponentState
part_a install = record {
  fitted = fitted_a install;
  life = record (begun (steps_of (fitted_a install)) 0) { busy = Some step.Install };
  children = record { number = 7; of = step.Install; deadline = Some 10 } ∷ [];
  handed = false;
  owed = None;
  stop = None;
  next = None;
}

abbrev pub part_b : ComponentState
part_b = record { fitted = fitted_b; life = begun (steps_of fitted_b) 0; children = []; handed = false; owed = None; stop = None; next = None }

abbrev pub one_waits : Prepared → Components
one_waits install = record { parts = part_a install ∷ part_b ∷ []; moment = 0; steady = false }
