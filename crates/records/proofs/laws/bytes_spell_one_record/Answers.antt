use Rattle.records.proofs.Layouts.{one_record}
use Rattle.records.proofs.laws.bytes_spell_one_record.Goals as goal

pub returns : goal.returns
returns c = one_record
