-- What a sound device, its candidates and a document are for a plan.
use Rattle.std.proofs.Common.{◌≡◌, List, [], ◌∷◌, subst}
use Rattle.std.specs.Prelude.{Option, Some}
use Rattle.std.specs.List.{All, AllByRecursion}
use Rattle.std.proofs.lemmas.List.Elements.{All-nil, All-cons}
use Rattle.nuc_base.specs.declared.platform.Platform.{Platform}
use Rattle.library_core.specs.Sources.{IsKept}
use Rattle.records.specs.Stored.{Item}
use Rattle.records.specs.declared.record.Origin.{Origin}
use Rattle.device.specs.Devices.{Device}
use Rattle.device.specs.Plans.{AreItems, HasRecipe}
use Rattle.device.specs.Sound.{IsSound, AreItemsFor}
use Rattle.plan_core.specs.Ready.{GatheredMayPlan}

pub items_of_sound : (d : Device) (origin : Origin) → IsSound d → d.origin ≡ Some origin → AreItems origin.platform d.set
items_of_sound d origin sound has = subst (λ (o : Option Origin). AreItemsFor o d.set) has sound.set

pub may_plan : GatheredMayPlan
may_plan origin d cs document sound regular has idle is_open fresh gathered kept roots = record {
  idle = idle;
  is_open = is_open;
  fresh = fresh;
  set = items_of_sound d origin sound has;
  regular = regular.set;
  read = gathered.1.read;
  kept = kept;
  roots = roots;
}

kept_one : (p : Platform) (i : Item) → HasRecipe p i → IsKept p i
kept_one p i has = (has.0, has.1.reads, has.1.name, has.1.version)

pub kept_read : (p : Platform) (set : List Item) → AllByRecursion (HasRecipe p) set → All (IsKept p) set
kept_read p [] has = All-nil (IsKept p)
kept_read p (i ∷ set) has = All-cons (IsKept p) i set (kept_one p i has.0) (kept_read p set has.1)
