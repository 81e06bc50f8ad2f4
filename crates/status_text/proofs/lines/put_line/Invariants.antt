use Rattle.std.proofs.Common.{◌≡◌, ◌++◌, ◌∷◌, take}
use Rattle.std.specs.List.{flat_map}
use Rattle.status_text.specs.Lists.{texts}
use Rattle.status_text.proofs.lines.put_line.Given as goal

abbrev pub invariant-loop-next : goal.invariant-loop-next
invariant-loop-next l = l.out ≡ l.fn.out ++ (l.word ++ flat_map (λ w. 32 ∷ w) (texts (take l.next-index l.more)))
