use Rattle.std.proofs.Common.{List, sym, subst}
use Rattle.std.specs.List.{All}
use Rattle.records.specs.declared.record.Item as code
use Rattle.device.specs.PlanNeeds.{IsRegularAt}
use Rattle.device.proofs.PlanWhole.{regular_back}
use Rattle.device.proofs.rebuilding.Rebuilding.finish.Goals as goal

pub are_items-requires : goal.are_items-requires
are_items-requires c = subst (λ (items : List code.Item). All IsRegularAt items) (sym c.as_slice.ensures) (regular_back c.args.self.set c.requires.regular)
