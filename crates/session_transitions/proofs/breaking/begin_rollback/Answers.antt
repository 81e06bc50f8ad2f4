use Rattle.std.proofs.Common.{[], ◌∷◌, refl}
use Rattle.deploy_state.proofs.Steps.{some_break}
use Rattle.deploy_state.specs.States.{broken_device}
use Rattle.histories.specs.TraceEvents.{Recorded}
use Rattle.session_transitions.proofs.RolledBack.{boot_bare, stage_kept, boot_went, break_allowed, is_way, items_given_up, items_rolled, items_went, no_line}
use Rattle.session_transitions.proofs.RolledBack.{back_doubt}
use Rattle.session_transitions.proofs.breaking.begin_rollback.Goals as goal

-- ---- from among bootstraps

pub returns-in-Ok-clause-trace : goal.returns-in-Ok-clause-trace
returns-in-Ok-clause-trace g c = λ p world told living from.
    let d = g.B.PendingState.device c.args.state in
    let mark = some_break d c.requires.may in (
      Recorded mark.0 ∷ [],
      boot_went g.J.Journal.entries g.J.Journal.files g.met.D.Disk.laws c.args.disk.now c.break_off.new.disk told.list p d world told living from mark.0
          mark.1 (break_allowed d c.requires.sound mark.0 c.requires.may mark.1) (c.break_off.ensures.moments mark.0 mark.1),
      no_line p.device mark.0 (is_way d mark.0 mark.1),
      stage_kept p d world told living from mark.0 (is_way d mark.0 mark.1) (broken_device c.in-Ok.broke) (c.in-Ok.ensures.taken mark.0 mark.1),
      tt,
      tt,
    )

pub returns-in-Err-clause-trace : goal.returns-in-Err-clause-trace
returns-in-Err-clause-trace g c = λ p world told living from.
    let d = g.B.PendingState.device c.args.state in
    let mark = some_break d c.requires.may in
    let allowed = break_allowed d c.requires.sound mark.0 c.requires.may mark.1 in (
      Recorded mark.0 ∷ [],
      boot_went g.J.Journal.entries g.J.Journal.files g.met.D.Disk.laws c.args.disk.now c.break_off.new.disk told.list p d world told living from mark.0
          mark.1 allowed (c.break_off.ensures.moments mark.0 mark.1),
      no_line p.device mark.0 (is_way d mark.0 mark.1),
      back_doubt g.J.Journal.entries g.J.Journal.files g.met.D.Disk.laws c.args.disk.now c.break_off.new.disk p d mark.0 from.between.stands.device_is allowed
          (c.break_off.ensures.moments mark.0 mark.1),
      boot_bare p d world told living from mark.0 (is_way d mark.0 mark.1),
      (mark.0, refl),
    )

-- ---- from among items that stand

pub returns-in-Ok-clause-standing : goal.returns-in-Ok-clause-standing
returns-in-Ok-clause-standing g c = λ p world told living from.
    let d = g.B.PendingState.device c.args.state in
    let mark = some_break d c.requires.may in (
      Recorded mark.0 ∷ [],
      items_went g.J.Journal.entries g.J.Journal.files g.met.D.Disk.laws c.args.disk.now c.break_off.new.disk told.list p d world told living from mark.0
          mark.1 (break_allowed d c.requires.sound mark.0 c.requires.may mark.1) (c.break_off.ensures.moments mark.0 mark.1),
      no_line p.device mark.0 (is_way d mark.0 mark.1),
      items_rolled p d world told living from mark.0 mark.1 (broken_device c.in-Ok.broke) (c.in-Ok.ensures.taken mark.0 mark.1),
      tt,
      tt,
    )

pub returns-in-Err-clause-standing : goal.returns-in-Err-clause-standing
returns-in-Err-clause-standing g c = λ p world told living from.
    let d = g.B.PendingState.device c.args.state in
    let mark = some_break d c.requires.may in
    let allowed = break_allowed d c.requires.sound mark.0 c.requires.may mark.1 in (
      Recorded mark.0 ∷ [],
      items_went g.J.Journal.entries g.J.Journal.files g.met.D.Disk.laws c.args.disk.now c.break_off.new.disk told.list p d world told living from mark.0
          mark.1 allowed (c.break_off.ensures.moments mark.0 mark.1),
      no_line p.device mark.0 (is_way d mark.0 mark.1),
      back_doubt g.J.Journal.entries g.J.Journal.files g.met.D.Disk.laws c.args.disk.now c.break_off.new.disk p d mark.0 from.comes.stands.device_is allowed
          (c.break_off.ensures.moments mark.0 mark.1),
      items_given_up p d world told living from mark.0 mark.1,
      (mark.0, refl),
    )

pub returns-in-Ok-clause-breaks : goal.returns-in-Ok-clause-breaks
returns-in-Ok-clause-breaks g c =
    let mark = some_break (g.B.PendingState.device c.args.state) c.requires.may in
    (mark.0, mark.1, c.in-Ok.ensures.taken mark.0 mark.1)
