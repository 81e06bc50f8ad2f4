-- A plan whose files were taken in, as a draft asks for them.
use Rattle.std.specs.Prelude.{◌≡◌}
use Rattle.std.specs.List.{AllZip}
use Rattle.records.specs.Stored.{Item, Plan, DraftItem, Draft}
use Rattle.device.specs.Plans.{IsHeldFor}

-- the same item, with a digest for each file, which is the given one where one is given
pub record ItemFilled (draft : DraftItem) (item : Item) : Type 0 where
  pub name : item.name ≡ draft.name
  pub version : item.version ≡ draft.version
  pub recipe : item.recipe ≡ draft.recipe
  pub config : item.config ≡ draft.config
  pub files : AllZip IsHeldFor draft.artifacts item.artifacts

-- the same plan, with a digest for each file
pub record PlanFilled (draft : Draft) (plan : Plan) : Type 0 where
  pub id : plan.id ≡ draft.id
  pub group : plan.group ≡ draft.group
  pub revision : plan.revision ≡ draft.revision
  pub policy : plan.policy ≡ draft.policy
  pub requirements : plan.requirements ≡ draft.requirements
  pub items : AllZip ItemFilled draft.items plan.items
  pub boots : plan.boots ≡ draft.boots
