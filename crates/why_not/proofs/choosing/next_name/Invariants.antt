use Rattle.std.proofs.Common.{ℕ, List, take}
use Rattle.recipe_reader.specs.Members.{Need, members}
use Rattle.why_not.specs.Fronts.{listed, IsFront}
use Rattle.why_not.specs.Picks.{IsPick}
use Rattle.why_not.proofs.choosing.next_name.Given as goal

abbrev pub invariant-loop-name : goal.invariant-loop-name
invariant-loop-name l = (wanted : List Need) (taken : List ℕ) → IsFront (members l.candidates) wanted taken (listed l.front.names.items)
    → IsPick (members l.candidates) l.form taken (listed (take l.name-index l.front.names.items)) l.best
