use Rattle.device.specs.PlanNeeds.{IsBootIn}
use Rattle.device.proofs.PlanLoops.{no}
use Rattle.device.proofs.PlanWhole.{boot_answer}
use Rattle.device.proofs.plans.is_boot.Goals as goal

pub returns-in-Some : goal.returns-in-Some
returns-in-Some c =
    boot_answer c.args.items.now c.args.recipes.now c.args.name.now c.in-Some.at c.index-recipes-at.result c.is_some.result c.requires.rise c.requires.count
    c.in-Some.ensures c.is_some.ensures

pub returns-in-None : goal.returns-in-None
returns-in-None c = no (IsBootIn c.args.items.now c.args.recipes.now c.args.name.now) (λ b. c.in-None.ensures b.at b.stands)
