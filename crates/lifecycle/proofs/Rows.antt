-- Where the table has a row.
use Rattle.std.proofs.Common.{◌≡◌, ◌↔◌, IsTrue, IsSome, Some, None, Bool, is_some, arith}
use Rattle.lifecycle.specs.Life.{Life, IsSound}
use Rattle.lifecycle.specs.Table.{Row, table, HasRow}
use Rattle.lifecycle.specs.Awaits.{is_awaited}
use Rattle.lifecycle.specs.declared.kinds.LifeEvent.{LifeEvent}

row_where_some : (row : Row) (b : Bool) → is_some row ≡ b → IsTrue b ↔ IsSome row
row_where_some None b e = grind arith
row_where_some (Some r) b e = grind arith

some_where_awaited : (c : Life) (event : LifeEvent) → IsSound c → is_some (table c event) ≡ is_awaited event c
some_where_awaited c event sound = grind arith

pub row_where_awaited : (c : Life) (event : LifeEvent) → IsSound c → IsTrue (is_awaited event c) ↔ HasRow c event
row_where_awaited c event sound = row_where_some (table c event) (is_awaited event c) (some_where_awaited c event sound)
