-- The parts of a value, as tables of readers name them.
use Rattle.std.specs.Prelude.{◌≡◌, ℕ, List, [], ◌∷◌, ◌++◌, Option, Some, None, IsSome}
use Rattle.serde_json.specs.Data.{Num, Data, null, boolean, number, string, array, object, Items, no_items, item, Members, no_members, member}
use Rattle.serde_json.specs.Find.{get}
use Rattle.nuc_base.specs.Tables.{Table, on}

-- an optional key whose value is null counts as absent
abbrev pub present : Option Data → Option Data
present None = None
present (Some null) = None
present (Some (boolean b)) = Some (boolean b)
present (Some (number n)) = Some (number n)
present (Some (string s)) = Some (string s)
present (Some (array ds)) = Some (array ds)
present (Some (object ms)) = Some (object ms)

abbrev pub IsText : Data → Type 0
IsText v = (s : List ℕ) × (v ≡ string s)

-- a text of which P holds
abbrev pub IsTextOf : (List ℕ → Type 0) → Data → Type 0
IsTextOf P v = (s : List ℕ) × (v ≡ string s) × P s

abbrev pub IsNumber : Data → Type 0
IsNumber v = (n : Num) × (v ≡ number n)

abbrev pub IsObject : Data → Type 0
IsObject v = (ms : Members) × (v ≡ object ms)

abbrev pub IsList : Data → Type 0
IsList v = (ds : Items) × (v ≡ array ds)

abbrev pub pairs_of : Members → List (List ℕ × Data)
pairs_of no_members = []
pairs_of (member k d ms) = (k, d) ∷ pairs_of ms

-- the keys of an object with their values, in key order
abbrev pub members : Data → List (List ℕ × Data)
members null = []
members (boolean b) = []
members (number n) = []
members (string s) = []
members (array ds) = []
members (object ms) = pairs_of ms

abbrev pub list_of : Items → List Data
list_of no_items = []
list_of (item d ds) = d ∷ list_of ds

-- the values of a list in order
abbrev pub values : Data → List Data
values null = []
values (boolean b) = []
values (number n) = []
values (string s) = []
values (array ds) = list_of ds
values (object ms) = []

-- ---- forms of lines

abbrev pub check : {Fault : Type 0} → Type 0 → Fault → Table Fault
check holds fault = record { holds = holds; fault = fault } ∷ []

-- the lines on the value of a key, where it is there and not null
abbrev pub optional : {Fault : Type 0} → List ℕ → Data → (Data → Table Fault) → Table Fault
optional key d lines = on (present (get key d)) lines

-- the key is there, and the lines on its value
abbrev pub required : {Fault : Type 0} → List ℕ → Fault → Data → (Data → Table Fault) → Table Fault
required key missing d lines = check (IsSome (get key d)) missing ++ on (get key d) lines
