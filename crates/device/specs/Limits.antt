-- The limits of a device.
use Rattle.std.specs.Prelude.{ℕ}

-- the most bytes of the path of its folder
abbrev pub most_root : ℕ
most_root = 1024

-- the most groups
abbrev pub most_groups : ℕ
most_groups = 512

-- the most closed deployments
abbrev pub most_closed : ℕ
most_closed = 131072

-- the most items of a set, and the most requirements, items and boots of a plan
abbrev pub most_elements : ℕ
most_elements = 128

-- the most bytes of the text of a configuration
abbrev pub most_config : ℕ
most_config = 65536

-- what a pending deployment may add to its journal
abbrev pub room_of_plan : ℕ
room_of_plan = 1048576
