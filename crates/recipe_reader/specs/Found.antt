-- A part of a tree that is found.
use Rattle.std.specs.Prelude.{◌≡◌, Option, option_map, IfSome}
use Rattle.serde_json.specs.Data.{Data}
use Rattle.tree_core.specs.Regular.{IsRegular}

-- it is seen as the value, and is regular
abbrev pub IsSeenAs : {A : Type 0} → (A → Data) → Option Data → Option A → Type 0
IsSeenAs see found o = (option_map see o ≡ found) × IfSome o (λ t. IsRegular (see t))
