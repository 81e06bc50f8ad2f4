use Rattle.std.proofs.Common.{ℕ, List, [], refl, ◌∙◌, ap}
use Rattle.disk_model.specs.Disk.{Image}
use Rattle.disk_model.specs.Moments.{then_same}
use Rattle.gate_log.specs.Entries.{HoldsNone}
use Rattle.gate_log.proofs.Behind.{settled_behind}
use Rattle.gate_log.proofs.Whole.{as_within}
use Rattle.gate_log.proofs.log.Log.create_in.Goals as goal

pub returns-clause-made : goal.returns-clause-made
returns-clause-made g c = (
  refl,
  settled_behind g.met.D.Disk.laws c.args.file.now _ c.sync.new.self [] c.in_ok-sync.ensures.durable (λ told.
      let first = c.in_ok-close_first.ensures.told told in
      record {
        entries = [];
        tail = first.0;
        good = tt;
        payloads_are = refl;
        file_is = ap (λ (i : Image). i c.args.file.now) c.sync.ensures.seen ∙ first.1;
        end_is = refl;
      }),
)

pub returns-in_err-close_first-clause-any_moment : goal.returns-in_err-close_first-clause-any_moment
returns-in_err-close_first-clause-any_moment g c =
    as_within g.met.D.Disk.laws c.args.file.now c.args.disk.now c.close_first.new.disk HoldsNone c.close_first.ensures.moments

pub returns-in_err-sync-clause-any_moment : goal.returns-in_err-sync-clause-any_moment
returns-in_err-sync-clause-any_moment g c =
    as_within g.met.D.Disk.laws c.args.file.now c.args.disk.now c.sync.new.self HoldsNone
    (then_same g.met.D.Disk.laws c.args.disk.now c.close_first.new.disk c.sync.new.self _ c.close_first.ensures.moments c.sync.ensures.moments)

pub returns-clause-any_moment : goal.returns-clause-any_moment
returns-clause-any_moment g c =
    as_within g.met.D.Disk.laws c.args.file.now c.args.disk.now c.sync.new.self HoldsNone
    (then_same g.met.D.Disk.laws c.args.disk.now c.close_first.new.disk c.sync.new.self _ c.close_first.ensures.moments c.sync.ensures.moments)
