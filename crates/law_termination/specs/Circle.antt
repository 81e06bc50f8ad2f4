-- Components that would come to wait for one another, did a stop wait for direct dependents alone: b needs v, x needs b,
-- and y needs x; later v needs x, and x needs nothing.
use Rattle.std.specs.Prelude.{ℕ, true, false, List, [], ◌∷◌, Option, Some, None, pos}
use Rattle.serde_json.specs.Data.{null}
use Rattle.nuc_base.specs.declared.kinds.Exit.{Exit}
use Rattle.nuc_base.specs.declared.kinds.Exit.TheVariants as exits
use Rattle.nuc_base.specs.declared.kinds.Step.TheVariants as step
use Rattle.records.specs.Stored.{Item}
use Rattle.lifecycle.specs.declared.kinds.After.TheVariants as after
use Rattle.lifecycle.specs.declared.kinds.LifeEvent.TheVariants as event
use Rattle.components.specs.Components.{Components}
use Rattle.components.specs.Fitted.{Fitted}
use Rattle.components.specs.declared.kinds.Prepared.{Prepared}
use Rattle.law_termination.specs.Deeds.{Deed, MoveDeed, StartDeed, KillDeed, HearDeed, EndDeed, ChangeDeed, left}

abbrev pub name : ℕ → List ℕ
name n = n ∷ []

abbrev pub item_of : ℕ → ℕ → Item
item_of n version = record { name = name n; version = version ∷ []; recipe = []; config = null; artifacts = [] }

abbrev pub within : ℕ → Prepared → Prepared
within limit m = record m { limit_ms = Some limit }

-- with a run step, and one of the others perhaps
abbrev pub runs : ℕ → ℕ → List (List ℕ) → Option Prepared → Option Prepared → Prepared → Fitted
runs n version hard shutdown recover m = record {
  item = item_of n version;
  hard = hard;
  soft = [];
  install = None;
  run = Some (record m { limit_ms = None });
  startup = None;
  shutdown = shutdown;
  recover = recover;
}

-- a startup that fails
abbrev pub fails_up : Prepared → Fitted
fails_up m = record {
  item = item_of 122 49;
  hard = [];
  soft = [];
  install = None;
  run = None;
  startup = Some (within 60000 m);
  shutdown = None;
  recover = None;
}

abbrev pub item_b : Prepared → Fitted
item_b m = runs 98 49 (name 118 ∷ []) (Some (within 20000 m)) None m

abbrev pub item_y : Prepared → Fitted
item_y m = runs 121 49 (name 120 ∷ []) (Some (within 90000 m)) None m

abbrev pub earlier : Prepared → List Fitted
earlier m = item_b m ∷ runs 118 49 [] None None m ∷ runs 120 49 (name 98 ∷ []) None (Some (within 50000 m)) m ∷ item_y m ∷ []

-- v and x have other versions: v needs x now
abbrev pub later_items : Prepared → List Fitted
later_items m = item_b m ∷ runs 118 50 (name 120 ∷ []) None None m ∷ runs 120 50 [] None (Some (within 50000 m)) m ∷ item_y m ∷ fails_up m ∷ []

abbrev pub none_yet : Components
none_yet = record { parts = []; moment = 0; steady = true }

abbrev pub bad : Exit
bad = exits.Code (pos 1)

abbrev pub good : Exit
good = exits.Code (pos 0)

-- all come up: v, then b, x and y
abbrev pub come_up : Prepared → List Deed
come_up m =
    ChangeDeed (earlier m) true
    ∷ MoveDeed 1 event.MayBegin ∷ MoveDeed 1 event.MayBegin ∷ StartDeed 1 step.Run 1
    ∷ MoveDeed 0 event.MayBegin ∷ MoveDeed 0 event.MayBegin ∷ StartDeed 0 step.Run 0
    ∷ MoveDeed 2 event.MayBegin ∷ MoveDeed 2 event.MayBegin ∷ StartDeed 2 step.Run 2
    ∷ MoveDeed 3 event.MayBegin ∷ MoveDeed 3 event.MayBegin ∷ StartDeed 3 step.Run 3 ∷ []

abbrev pub up : Prepared → Components
up m = left none_yet (come_up m)

-- x fails, and recovers for long; so y is to be stopped, and shuts down for long
abbrev pub first_fails : List Deed
first_fails = EndDeed 2 bad ∷ HearDeed 2 step.Run bad false ∷ MoveDeed 2 event.Retry ∷ StartDeed 2 step.Recover 4 ∷ MoveDeed 3 (event.Stop after.Restart)
    ∷ StartDeed 3 step.Shutdown 5 ∷ []

abbrev pub one_down : Prepared → Components
one_down m = left (up m) first_fails

-- v fails, and runs again; so b is to be stopped with Restart, and shuts down: nobody who needs it is to be stopped
abbrev pub second_fails : List Deed
second_fails = EndDeed 1 bad ∷ HearDeed 1 step.Run bad false ∷ MoveDeed 0 (event.Stop after.Restart) ∷ StartDeed 0 step.Shutdown 6 ∷ MoveDeed 1 event.Retry
    ∷ MoveDeed 1 event.MayBegin ∷ StartDeed 1 step.Run 7 ∷ []

abbrev pub two_down : Prepared → Components
two_down m = left (one_down m) second_fails

-- the later items come: v and x are replaced, and z begins
abbrev pub others_come : Prepared → List Deed
others_come m = ChangeDeed (later_items m) false ∷ MoveDeed 4 event.MayBegin ∷ MoveDeed 4 event.MayBegin ∷ StartDeed 4 step.Startup 8 ∷ []

abbrev pub changed : Prepared → Components
changed m = left (two_down m) (others_come m)

-- b is stopped, and x still waits for y
abbrev pub b_ends : List Deed
b_ends = EndDeed 6 good ∷ KillDeed 0 0 step.Run ∷ []

abbrev pub b_stopped : Prepared → Components
b_stopped m = left (changed m) b_ends

-- y is stopped
abbrev pub y_ends : List Deed
y_ends = EndDeed 5 good ∷ KillDeed 3 3 step.Run ∷ []

abbrev pub y_stopped : Prepared → Components
y_stopped m = left (b_stopped m) y_ends
