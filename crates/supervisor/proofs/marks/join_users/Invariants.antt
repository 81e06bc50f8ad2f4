use Rattle.components.specs.Flags.{HasSpread}
use Rattle.supervisor.proofs.marks.join_users.Given as goal

abbrev pub invariant-loop-turn : goal.invariant-loop-turn
invariant-loop-turn l = HasSpread l.slots l.fn.flags l.flags
