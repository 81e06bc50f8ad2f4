use Rattle.std.proofs.Common.{subst, Result, Ok, Err}
use Rattle.std.specs.Prelude.{OnOk}
use Rattle.std.specs.Str.{IsUtf8}
use Rattle.records.proofs.texts.TextCoded.put.Goals as goal

always : {A E P : Type 0} (r : Result A E) → P → OnOk r P
always (Ok x) p = p
always (Err e) p = tt

pub returns-clause-fits : goal.returns-clause-fits
returns-clause-fits c = always c.put_string.result (subst IsUtf8 c.as_str.ensures c.as_str.utf8, c.requires)
