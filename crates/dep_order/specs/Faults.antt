-- What a fault of the order says.
use Rattle.std.specs.Prelude.{ℕ, List, Result, Ok, Err}
use Rattle.dep_order.specs.declared.orders.OrderFault.{OrderFault}
use Rattle.dep_order.specs.declared.orders.OrderFault.TheVariants.{Cycle, NoMemory}

-- of the list, where the answer is a cycle
abbrev pub IfCycle : {T : Type 0} → Result T OrderFault → (List ℕ → Type 0) → Type 0
IfCycle (Ok _) P = Unit {0}
IfCycle (Err (Cycle list)) P = P list
IfCycle (Err NoMemory) P = Unit {0}
