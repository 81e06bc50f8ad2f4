use Rattle.std.proofs.Common.{Option, Some, refl, subst}
use Rattle.std.specs.Prelude.{IfOk, false}
use Rattle.records.specs.Stored.{Item}
use Rattle.device.specs.Backing.{TellsBackOf}
use Rattle.device.proofs.backs.goes_back.Goals as goal

pub returns-in-Some : goal.returns-in-Some
returns-in-Some c = subst (λ (o : Option Item). IfOk c.says_back.result (TellsBackOf c.args.platform.now o)) c.in-Some.ensures c.says_back.ensures

pub returns-in-None : goal.returns-in-None
returns-in-None c = subst (λ (o : Option Item). TellsBackOf c.args.platform.now o (Some false)) c.in-None.ensures refl
