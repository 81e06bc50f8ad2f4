-- A size that no compact text falls short of.
use Rattle.std.specs.Prelude.{ℕ, ◌+◌, length}
use Rattle.serde_json.specs.Data.{Data, null, boolean, number, string, array, object, Items, no_items, item, Members, no_members, member}

-- the bytes of the texts and keys, and one for each item and each member
abbrev mutual
  pub least_size : Data → ℕ
  least_size null = 0
  least_size (boolean b) = 0
  least_size (number n) = 0
  least_size (string s) = length s
  least_size (array ds) = items_least ds
  least_size (object ms) = members_least ms

  pub items_least : Items → ℕ
  items_least no_items = 0
  items_least (item d ds) = 1 + (least_size d + items_least ds)

  pub members_least : Members → ℕ
  members_least no_members = 0
  members_least (member k d ms) = 1 + (length k + (least_size d + members_least ms))
