use Rattle.std.proofs.Common.{◌≡◌, ◌++◌, take}
use Rattle.nucleus_top.specs.Gets.{pointer_text}
use Rattle.nucleus_top.proofs.config_getting.put_tokens.Given as goal

abbrev pub invariant-loop-token : goal.invariant-loop-token
invariant-loop-token l = l.out ≡ l.fn.out ++ pointer_text (take l.token-index l.tokens)
