use Rattle.std.proofs.Common.{Err, ap, inr, subst}
use Rattle.command_words.specs.declared.order.Order.TheVariants.{Init}
use Rattle.device.specs.Devices.{Device}
use Rattle.deploy_state.specs.States.{idle_device}
use Rattle.nucleus_top.specs.Opening.{IsImageOf}
use Rattle.nucleus_top.proofs.Images.{created, begun, held_stands, not_called}
use Rattle.nucleus_top.proofs.init.begin.Goals as goal

pub returns-in-Ok-made-clause-comes : goal.returns-in-Ok-made-clause-comes
returns-in-Ok-made-clause-comes g c =
    let s = c.in-Ok-made.idle in
    let image = g.D.Disk.seen c.create-made.new.disk in (
      c.in-Ok.ensures,
      λ is_modelled. record {
        none = c.requires.none is_modelled;
        stands = subst (λ (d : Device). IsImageOf image d) c.in-Ok-made.ensures.made
            (held_stands g.met.D.Disk.laws s.log c.create-made.new.disk (idle_device s) c.in-Ok-made.ensures.held.0 image
            (g.met.D.Disk.laws.reads c.create-made.new.disk is_modelled));
        others = c.create-made.ensures.others is_modelled;
      },
    )

pub returns-in-Ok-made-clause-moments : goal.returns-in-Ok-made-clause-moments
returns-in-Ok-made-clause-moments g c =
    created g.met.D.Disk.laws c.args.origin c.args.disk.now c.requires.none c.requires.settled c.create-made.new.disk (c.in-Ok-made.ensures.moments (λ is. cc))

pub returns-in-Ok-made-clause-keeps : goal.returns-in-Ok-made-clause-keeps
returns-in-Ok-made-clause-keeps g c = λ done image left.
    let s = c.in-Ok-made.idle in
    subst (λ (d : Device). IsImageOf image d) c.in-Ok-made.ensures.made
    (held_stands g.met.D.Disk.laws s.log c.create-made.new.disk (idle_device s) c.in-Ok-made.ensures.held.0 image left)

pub returns-in-Disk-clause-comes : goal.returns-in-Disk-clause-comes
returns-in-Disk-clause-comes g c =
    let origin = c.args.origin in
    let moments = created g.met.D.Disk.laws origin c.args.disk.now c.requires.none c.requires.settled c.create-made.new.disk
    (c.in-Err.ensures.moments (λ is. cc)) in (
      c.in-Err.ensures.cause (ap Err c.in-Disk.is),
      λ is_modelled. inr (begun g.met.D.Disk.laws origin c.args.disk.now c.requires.none c.requires.settled c.create-made.new.disk moments is_modelled
          (c.create-made.ensures.others is_modelled)),
    )

pub returns-in-Disk-clause-moments : goal.returns-in-Disk-clause-moments
returns-in-Disk-clause-moments g c =
    created g.met.D.Disk.laws c.args.origin c.args.disk.now c.requires.none c.requires.settled c.create-made.new.disk (c.in-Err.ensures.moments (λ is. cc))

pub returns-clause-comes : goal.returns-clause-comes
returns-clause-comes g c = ap g.D.Disk.seen (c.in-Err.ensures.memory (ap Err c.in-NoMemory.is))

pub returns-clause-moments : goal.returns-clause-moments
returns-clause-moments g c =
    not_called g.met.D.Disk.laws (Init c.args.origin) c.args.disk.now c.create-made.new.disk (c.in-Err.ensures.memory (ap Err c.in-NoMemory.is))
