-- An item that is ready to run: the names that it needs, and its steps with all variables expanded.
use Rattle.std.specs.Prelude.{ℕ, Bool, true, false, ◌&&◌, List, Option, Some, None, is_some}
use Rattle.std.specs.Ordering.{nat_cmp, match_ordering}
use Rattle.std.specs.Cmp.Lexicographic.{slice_cmp}
use Rattle.std.specs.Str.{bytes_eq}
use Rattle.serde_json.specs.Data.{Data}
use Rattle.serde_json.specs.Written.{compact_text}
use Rattle.nuc_base.specs.declared.kinds.Step.{Step}
use Rattle.nuc_base.specs.declared.kinds.Step.TheVariants.{Install, Run, Startup, Shutdown, Recover, Bootstrap}
use Rattle.records.specs.Stored.{Item}
use Rattle.lifecycle.specs.declared.kinds.StepSet.{StepSet}
use Rattle.components.specs.declared.kinds.Prepared.{Prepared}

pub record Fitted : Type 0 where
  pub item : Item
  pub hard : List (List ℕ)  -- the names that it needs hard
  pub soft : List (List ℕ)
  pub install : Option Prepared
  pub run : Option Prepared
  pub startup : Option Prepared
  pub shutdown : Option Prepared
  pub recover : Option Prepared

abbrev pub name_of : Fitted → List ℕ
name_of f = f.item.name

abbrev pub prepared_of : Fitted → Step → Option Prepared
prepared_of f Install = f.install
prepared_of f Run = f.run
prepared_of f Startup = f.startup
prepared_of f Shutdown = f.shutdown
prepared_of f Recover = f.recover
prepared_of f Bootstrap = None

abbrev pub steps_of : Fitted → StepSet
steps_of f = record {
  install = is_some f.install;
  run = is_some f.run;
  startup = is_some f.startup;
  shutdown = is_some f.shutdown;
  recover =
      is_some f.recover;
}

abbrev pub limit_of : Option Prepared → Option ℕ
limit_of None = None
limit_of (Some p) = p.limit_ms

-- the name comes before the other one in byte order
abbrev pub is_before : List ℕ → List ℕ → Bool
is_before a b = match_ordering (slice_cmp nat_cmp a b) true false false

abbrev pub is_same_config : Data → Data → Bool
is_same_config a b = bytes_eq (compact_text a) (compact_text b)

-- The same component: name, version and configuration. One version has one recipe on a device; where a journal says otherwise, it counts as another component.
abbrev pub is_same_item : Item → Item → Bool
is_same_item a b = bytes_eq a.name b.name && (bytes_eq a.version b.version && (is_same_config a.config b.config && bytes_eq a.recipe b.recipe))
