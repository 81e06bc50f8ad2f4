-- What a variable stands for.
use Rattle.std.specs.Prelude.{ℕ, ◌==◌, ◌&&◌, Bool, nat_le, List, [], ◌∷◌, ◌++◌, length, if◌then◌else◌, Option, Some, None, option_map, option_and_then}
use Rattle.std.specs.Prelude.{unwrap_or, codes}
use Rattle.std.specs.List.{before_first, after_first}
use Rattle.std.specs.Str.{bytes_eq}
use Rattle.serde_json.specs.Data.{Data, null, boolean, number, string, array, object}
use Rattle.serde_json.specs.Written.{compact_text}
use Rattle.nuc_base.specs.Pointers.{begins, are_whole, tokens}
use Rattle.tree_core.specs.declared.tree.Tree.{Tree}
use Rattle.tree_core.specs.Nodes.{node}
use Rattle.tree_core.specs.View.{view}
use Rattle.interpolation.specs.declared.scope.Place.{Place}
use Rattle.interpolation.specs.declared.scope.Scope.{Scope}
use Rattle.interpolation.specs.Scopes.{first_named}

-- a text as it is, any other value as compact JSON
abbrev pub shown : Data → List ℕ
shown null = compact_text null
shown (boolean b) = compact_text (boolean b)
shown (number n) = compact_text (number n)
shown (string s) = s
shown (array ds) = compact_text (array ds)
shown (object ms) = compact_text (object ms)

-- whether the text is a JSON pointer
abbrev pub is_pointer : List ℕ → Bool
is_pointer text = nat_le (length text) 1024 && begins text && are_whole text

-- the node that the text names as a pointer
abbrev pub configured : List ℕ → Tree → Option (List ℕ)
configured at config = if is_pointer at then option_map shown (node (tokens at) (view config)) else None

-- `ROOT`, a folder below it, the name and the version
abbrev pub folder_of_version : List ℕ → List ℕ → Place → List ℕ
folder_of_version root below place = root ++ (below ++ (place.name ++ (codes "/" ++ place.version)))

-- `ROOT/work/NAME`
abbrev pub folder_of_work : List ℕ → List ℕ → List ℕ
folder_of_work root name = root ++ (codes "/work/" ++ name)

-- what stands behind a prefix
abbrev pub behind : List ℕ → List ℕ → Option (List ℕ)
behind [] w = Some w
behind (c ∷ cs) [] = None
behind (c ∷ cs) (x ∷ xs) = if x == c then behind cs xs else None

-- ---- the rows of the table, each with the value that it gives

-- a row for one word
abbrev pub row : List ℕ → List ℕ → List ℕ → Option (List ℕ)
row word given w = if bytes_eq w word then Some given else None

-- the first row that gives a value
abbrev pub first_given : List (Option (List ℕ)) → Option (List ℕ)
first_given [] = None
first_given (None ∷ rows) = first_given rows
first_given (Some given ∷ rows) = Some given

-- the rows that each component has
abbrev pub of_component : List ℕ → Place → List ℕ → Option (List ℕ)
of_component root place w = first_given (
    option_and_then (λ at. configured at place.config) (behind (codes "configuration:") w)
    ∷ row (codes "artifacts:path") (folder_of_version root (codes "/packages/artifacts/") place) w
    ∷ row (codes "artifacts:decompressedPath") (folder_of_version root (codes "/packages/artifacts-unarchived/") place) w
    ∷ row (codes "work:path") (folder_of_work root place.name) w
    ∷ [])

-- the rows of the needed component whose name stands before the first `:`
abbrev pub of_dependency : Scope → List ℕ → Option (List ℕ)
of_dependency scope w =
    option_and_then (λ place. of_component scope.root place (after_first (λ b. b == 58) w)) (first_named (before_first (λ b. b == 58) w) scope.needed)

abbrev pub value : Scope → List ℕ → Option (List ℕ)
value scope w = first_given (
    of_component scope.root scope.own w
    ∷ row (codes "kernel:rootPath") scope.root w
    ∷ row (codes "iot:thingName") scope.thing w
    ∷ of_dependency scope w
    ∷ [])

-- ---- what is put in

-- the variable as it is written, `{w}`
abbrev pub written : List ℕ → List ℕ
written w = 123 ∷ (w ++ (125 ∷ []))

-- a value of at most 4,096 bytes
abbrev pub short : Option (List ℕ) → Option (List ℕ)
short None = None
short (Some given) = if nat_le (length given) 4096 then Some given else None

-- the value, where it is short, else the variable as written
abbrev pub replaced : Scope → List ℕ → List ℕ
replaced scope w = unwrap_or (short (value scope w)) (written w)
