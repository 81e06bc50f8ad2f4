use Rattle.std.proofs.Common.{ap}
use Rattle.records.specs.Layout.{record_spelled}
use Rattle.records.specs.Stored.{record_view}
use Rattle.records.specs.declared.record.Record.{Record}
use Rattle.records.proofs.Pieces.{as_text}
use Rattle.records.proofs.records.put_record.Goals as goal

pub returns-in-Turned-clause-spelled : goal.returns-in-Turned-clause-spelled
returns-in-Turned-clause-spelled c =
    as_text c.put_turned.result c.put_turned.new.out.items c.args.out.now.items _ _ (ap (λ (e : Record). record_spelled (record_view e)) c.in-Turned.is)
    c.put_turned.ensures.spelled
