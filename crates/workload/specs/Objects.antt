-- Small JSON objects.
use Rattle.std.specs.Prelude.{ℕ, List}
use Rattle.serde_json.specs.Data.{Data, object, no_members, member}

-- an object of one member
abbrev pub object_of : List ℕ → Data → Data
object_of key value = object (member key value no_members)
