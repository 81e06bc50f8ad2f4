-- The names in recipes and documents.
use Rattle.std.specs.Prelude.{ℕ, ◌/◌, ◌%◌, List, ◌++◌, codes, decimal}

-- `w.c00`, `w.c01` and so on, with two digits
abbrev pub component_name : ℕ → List ℕ
component_name component = codes "w.c" ++ (decimal (component / 10) ++ decimal (component % 10))

-- `1.0.0`, `1.1.0` and so on
abbrev pub version_text : ℕ → List ℕ
version_text minor = codes "1." ++ (decimal minor ++ codes ".0")

abbrev pub group_name : ℕ → List ℕ
group_name group = codes "g" ++ decimal group

abbrev pub deployment_id : ℕ → List ℕ
deployment_id number = codes "w" ++ decimal number

-- what every dependency and every root asks
abbrev pub requirement : List ℕ
requirement = codes "^1.0.0"
