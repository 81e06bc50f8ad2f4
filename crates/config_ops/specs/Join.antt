-- Two values joined: objects key by key, anything else as one of the two.
use Rattle.std.specs.Prelude.{Option, Some, None, option_map, unwrap_or}
use Rattle.serde_json.specs.Data.{Data, null, boolean, number, string, array, object, Members, no_members, member, put}
use Rattle.serde_json.specs.Find.{get_member, as_object}
use Rattle.config_ops.specs.declared.join.Rule.{Rule}
use Rattle.config_ops.specs.declared.join.Rule.TheVariants.{Merge, Fill}

-- Of two objects each key of the second is put into the first, and where the first has it too, with the join of the
-- two values. Where one of the two is no object, `other` says what comes of them.
abbrev mutual
  pub joined : (Data → Data → Data) → Data → Data → Data
  joined other t null = other t null
  joined other t (boolean b) = other t (boolean b)
  joined other t (number n) = other t (number n)
  joined other t (string s) = other t (string s)
  joined other t (array ds) = other t (array ds)
  joined other t (object us) = unwrap_or (option_map (λ ts. object (joined_members other ts us)) (as_object t)) (other t (object us))

  pub joined_members : (Data → Data → Data) → Members → Members → Members
  joined_members other ts no_members = ts
  joined_members other ts (member k u us) = joined_members other (put k (unwrap_or (option_map (λ t. joined other t u) (get_member k ts)) u) ts) us

abbrev pub second : Data → Data → Data
second t u = u

abbrev pub first : Data → Data → Data
first t u = t

-- RESET and MERGE of the developer guide: what the update has replaces, null and lists among it
abbrev pub merged : Data → Data → Data
merged = joined second

-- what the tree has stays, and the default's other keys are added
abbrev pub filled : Data → Data → Data
filled = joined first

-- which of the two stays where they are not both objects
abbrev pub kept_by : Rule → Data → Data → Data
kept_by Merge = second
kept_by Fill = first

-- what a join has at a key, by what the two objects have there
abbrev pub joined_at : (Data → Data → Data) → Option Data → Option Data → Option Data
joined_at other None None = None
joined_at other None (Some u) = Some u
joined_at other (Some t) None = Some t
joined_at other (Some t) (Some u) = Some (joined other t u)
