use Rattle.std.proofs.Common.{[], ◌∷◌, refl}
use Rattle.records.specs.Stored as stored
use Rattle.deploy_state.specs.States.{activating_device, booting_device}
use Rattle.session_transitions.proofs.Begun.{Begin, begin_went, begun_given_up, begun_opened, can_activate}
use Rattle.session_transitions.proofs.RolledBack.{back_doubt}
use Rattle.session_transitions.proofs.plan.begin_items.Goals as goal

pub activate-requires-clause-may : goal.activate-requires-clause-may
activate-requires-clause-may g c = can_activate (booting_device c.args.state) c.requires.held.1 c.requires.through.0 c.requires.through.1

pub returns-in-Ok-clause-trace : goal.returns-in-Ok-clause-trace
returns-in-Ok-clause-trace g c = λ p world told living from orderly.
    let d = booting_device c.args.state in (
      Begin ∷ [],
      begin_went g.J.Journal.entries g.J.Journal.files g.met.D.Disk.laws c.args.disk.now c.activate.new.disk told.list p d world told living from
          (can_activate d c.requires.held.1 c.requires.through.0 c.requires.through.1) c.activate.ensures.moments,
      refl,
      begun_opened p d world told living from (activating_device c.in-Ok.next) c.in-Ok.ensures.taken,
      tt,
      tt,
    )

pub returns-in-Err-clause-trace : goal.returns-in-Err-clause-trace
returns-in-Err-clause-trace g c = λ p world told living from orderly.
    let d = booting_device c.args.state in
    let allowed = can_activate d c.requires.held.1 c.requires.through.0 c.requires.through.1 in (
      Begin ∷ [],
      begin_went g.J.Journal.entries g.J.Journal.files g.met.D.Disk.laws c.args.disk.now c.activate.new.disk told.list p d world told living from allowed
          c.activate.ensures.moments,
      refl,
      back_doubt g.J.Journal.entries g.J.Journal.files g.met.D.Disk.laws c.args.disk.now c.activate.new.disk p d stored.Activating
          from.stands.device_is allowed c.activate.ensures.moments,
      begun_given_up p d world told living from orderly,
      (stored.Activating, refl),
    )
