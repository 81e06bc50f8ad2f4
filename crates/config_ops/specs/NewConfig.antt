-- The configuration that an update makes.
use Rattle.std.specs.Prelude.{ℕ, List, [], ◌∷◌, Option, Some, None, option_map, IfSome}
use Rattle.serde_json.specs.Data.{Data}
use Rattle.tree_core.specs.View.{view}
use Rattle.tree_core.specs.Regular.{IsRegular}
use Rattle.config_ops.specs.Join.{merged, filled}
use Rattle.config_ops.specs.Reset.{reset_at}
use Rattle.config_ops.specs.declared.update.Update.{Update}

-- what an update asks for: the nodes to set back, in order, and the value to merge in
pub record Change : Type 0 where
  pub resets : List (List (List ℕ))
  pub merge : Option Data

abbrev pub change_of : Update → Change
change_of u = record { resets = u.resets; merge = option_map view u.merge }

abbrev pub IsRegularUpdate : Update → Type 0
IsRegularUpdate u = IfSome u.merge (λ t. IsRegular (view t))

abbrev pub start : Option Data → Data → Data
start None d = d
start (Some kept) d = filled kept d

abbrev pub after_resets : Data → List (List (List ℕ)) → Data → Data
after_resets d [] t = t
after_resets d (keys ∷ resets) t = after_resets d resets (reset_at t d keys)

abbrev pub after_merge : Option Data → Data → Data
after_merge None t = t
after_merge (Some u) t = merged t u

-- the resets, then the merge
abbrev pub changed : Data → Option Change → Data → Data
changed d None t = t
changed d (Some c) t = after_merge c.merge (after_resets d c.resets t)

abbrev pub new_config : Option Data → Data → Option Change → Data
new_config kept d update = filled (changed d update (start kept d)) d
