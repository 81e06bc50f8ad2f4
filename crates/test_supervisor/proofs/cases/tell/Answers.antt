use Rattle.test_supervisor.proofs.Handing.{if_stands, stands_steadied, stands_stopped}
use Rattle.test_supervisor.proofs.cases.tell.Goals as goal

pub returns-in-stop-clause-stands : goal.returns-in-stop-clause-stands
returns-in-stop-clause-stands c =
    let w = c.args.supervisor.now in
    let v = c.stop_all.new.self in
    if_stands c.args.device.now.origin w v (λ p h. stands_stopped p w v c.stop_all.ensures h) c.requires.stands

pub returns-in-steady-clause-stands : goal.returns-in-steady-clause-stands
returns-in-steady-clause-stands c =
    let w = c.args.supervisor.now in
    let v = c.steady.new.self in
    if_stands c.args.device.now.origin w v (λ p h. stands_steadied p w v c.steady.ensures h) c.requires.stands

pub returns-in_default-clause-stands : goal.returns-in_default-clause-stands
returns-in_default-clause-stands c = if_stands c.args.device.now.origin c.args.supervisor.now c.end_by.new.supervisor c.end_by.ensures.stands c.requires.stands
