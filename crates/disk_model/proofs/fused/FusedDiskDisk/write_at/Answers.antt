use Rattle.std.proofs.Common.{◌/◌, length, arith, length-take}
use Rattle.disk_model.specs.Fused.{inside}
use Rattle.disk_model.specs.Laws.Inside.{leaves_inside}
use Rattle.disk_model.specs.Moments.{after_more}
use Rattle.disk_model.proofs.Wider.{torn_wider}
use Rattle.disk_model.proofs.fused.FusedDiskDisk.write_at.Goals as goal

pub returns-then-blows-clause-moments : goal.returns-then-blows-clause-moments
returns-then-blows-clause-moments c =
    leaves_inside inside _ _ _ _ c.write_at-half.ensures.moments
    (after_more _ c.args.file.now _ _ (torn_wider c.args.at _ (length c.args.bytes.now)
    (omega (arith, length-take (length c.args.bytes.now / 2) c.args.bytes.now))))
