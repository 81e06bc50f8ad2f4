-- A draft whose files were taken in may be accepted.
use Rattle.std.proofs.Common.{◌≡◌, ◌⊎◌, ℕ, ◌<◌, ◌≤◌, List, [], ◌∷◌, length, map, refl, sym, ap, subst, ◌∙◌, arith}
use Rattle.std.specs.Prelude.{Option, None, IsTrue}
use Rattle.std.specs.Option.{IsSomeAnd}
use Rattle.std.specs.List.{AllByRecursion, AllZip}
use Rattle.std.specs.Map.{lookup}
use Rattle.std.specs.Str.{bytes_eq}
use Rattle.std.proofs.lemmas.List.{length-map}
use Rattle.std.proofs.lemmas.Slice.Zip.{AllZip-long}
use Rattle.nuc_base.specs.Tables.{AllHold, each}
use Rattle.nuc_base.specs.declared.platform.Platform.{Platform}
use Rattle.config_ops.specs.Laws.{ConfigIsObject}
use Rattle.recipe_reader.specs.Members.{members, IsRising}
use Rattle.recipe_reader.specs.OneRecipe.{IsOneRecipe}
use Rattle.recipe_reader.specs.Sets.{IsPreferred}
use Rattle.recipe_reader.specs.Sound.{ReadsSound}
use Rattle.recipe_reader.specs.declared.candidate.Candidate.{Candidate}
use Rattle.records.specs.Stored.{Item, DraftItem, Plan}
use Rattle.records.specs.declared.record.Origin.{Origin}
use Rattle.records.specs.declared.record.Requirement.{Requirement}
use Rattle.device.specs.Devices.{Device}
use Rattle.device.specs.Grouped.{has_group, revision_of}
use Rattle.device.specs.Lawful.{HasRoomFor, IsNotOlder, MayAccept}
use Rattle.device.specs.Limits.{most_elements, most_groups}
use Rattle.device.specs.Plans as device_boots
use Rattle.device.specs.Plans.{AreItems, AreRequirements, HasRecipe, HasConfig, IsPlan, AreRising, requirement_name}
use Rattle.deployment_doc.specs.Sound.{AreSound, root_name}
use Rattle.deployment_doc.specs.declared.document.Document.{Document}
use Rattle.deployment_doc.specs.declared.document.Root.{Root}
use Rattle.plan_core.specs.Boots.{AreBoots}
use Rattle.device.specs.Filled.{ItemFilled}
use Rattle.plan_core.specs.Laws.{FilledIsAllowed}
use Rattle.plan_core.specs.Plans.{config_lines, size_lines}
use Rattle.plan_core.specs.Ready.{MayPlan}
use Rattle.plan_core.specs.Requests.{wanted_of, root_requirement}
use Rattle.plan_core.specs.Set.{chosen, item_of, items_of, bare}
use Rattle.plan_core.proofs.Booting.{boots_are}
use Rattle.plan_core.proofs.Filling.{IsMade, items_made}
use Rattle.plan_core.proofs.Planned.{may_make}
use Rattle.plan_core.proofs.Supplying.{names_rise, supplied, acyclic}

-- ---- requirements

names_of : (roots : List Root) → map requirement_name (map root_requirement roots) ≡ map root_name roots
names_of [] = refl
names_of (r ∷ roots) = ap (λ l. r.name ∷ l) (names_of roots)

requirements_are : (roots : List Root) → AreSound roots → AreRequirements (map root_requirement roots)
requirements_are roots sound =
    let long = length-map roots root_requirement in
    let few = sound.few in
    record { few = omega (arith, long, few); rise = subst AreRising (sym (names_of roots)) sound.rising }

-- ---- items

recipes_are : (p : Platform) (cs : List Candidate) (items : List Item) → AllZip (IsMade p) cs items → AllByRecursion (HasRecipe p) items
recipes_are p [] [] z = tt
recipes_are p [] (i ∷ items) z = absurd z
recipes_are p (c ∷ cs) [] z = absurd z
recipes_are p (c ∷ cs) (i ∷ items) z = (
  (c.recipe, record { reads = z.0.reads; name = z.0.name; version = z.0.version; files = z.0.files }),
  recipes_are p cs items z.1,
)

configs_are : (p : Platform) (cs : List Candidate) (items : List Item) → AllZip (IsMade p) cs items → AllByRecursion HasConfig items
configs_are p [] [] z = tt
configs_are p [] (i ∷ items) z = absurd z
configs_are p (c ∷ cs) [] z = absurd z
configs_are p (c ∷ cs) (i ∷ items) z = (z.0.is_config, configs_are p cs items z.1)

module _ (one : IsOneRecipe) (reads_sound : ReadsSound) (object : ConfigIsObject) (o : Origin) (d : Device) (cs : List Candidate) (document : Document)
    (rising : IsRising (members cs)) (may : MayPlan o d cs document) where
  plan_is : (set : List ℕ) → IsPreferred (members cs) (wanted_of d.groups document) set → length (chosen cs set) ≤ most_elements
      → AllHold (each config_lines (map bare (items_of d.set document.roots (chosen cs set))))
      → (requirements : List Requirement) → requirements ≡ map root_requirement document.roots
      → (items : List Item) → AllZip ItemFilled (items_of d.set document.roots (chosen cs set)) items
      → (boots : List (List ℕ)) (shown : List Item) → AreBoots o d.set (chosen cs set) shown boots
      → (plan : Plan) → plan.requirements ≡ requirements → plan.items ≡ items → plan.boots ≡ boots → IsPlan o.platform plan
  plan_is set preferred few short requirements wants items filled boots shown picked plan same_requirements same_items same_boots =
      let makes = may_make o d cs document (chosen cs set) may (record { is_choice = (set, preferred, refl); few = few }) in
      let made = items_made one reads_sound object o.platform d.set document.roots may.set may.roots (chosen cs set) items makes.read makes.kept short filled in
      let wanted = wanted_of d.groups document in
      let long = AllZip-long (IsMade o.platform) (chosen cs set) items made in
      let are : AreItems o.platform items = record {
        few = omega (arith, few, long);
        rise = names_rise one o.platform cs rising wanted set preferred.valid items made;
        recipes = recipes_are o.platform (chosen cs set) items made;
        configs = configs_are o.platform (chosen cs set) items made;
        supplied = supplied one o.platform cs rising wanted set preferred.valid items made;
        acyclic = acyclic one o.platform cs rising wanted set preferred.valid items made;
      } in
      let boot = boots_are cs wanted set preferred.valid o d.set shown items made boots few picked in
      record {
        requirements = subst AreRequirements (sym (same_requirements ∙ wants)) (requirements_are document.roots may.roots);
        items = subst (AreItems o.platform) (sym same_items) are;
        boots = subst (λ (l : List Item). device_boots.AreBoots o.platform l plan.boots) (sym same_items)
            (subst (device_boots.AreBoots o.platform items) (sym same_boots) boot);
      }

pub filled : IsOneRecipe → ReadsSound → ConfigIsObject → FilledIsAllowed
filled one reads_sound object o d cs document draft plan has rising may planned fills =
    let set = planned.plan.is_choice.0 in
    let is : planned.plan.choice ≡ chosen cs set = planned.plan.is_choice.2 in
    let items : draft.items ≡ items_of d.set document.roots (chosen cs set) = planned.plan.items ∙ ap (items_of d.set document.roots) is in
    let sizes = subst (λ (l : List DraftItem). AllHold (size_lines l)) items planned.sizes in
    let long = length-map (chosen cs set) (item_of d.set document.roots) in
    let count = sizes.0 in
    let whole =
    plan_is one reads_sound object o d cs document rising may set planned.plan.is_choice.1 (omega (arith, long, count)) sizes.1
    draft.requirements planned.plan.head.requirements plan.items (subst (λ (l : List DraftItem). AllZip ItemFilled l plan.items) items fills.items)
    draft.boots (map bare draft.items) (subst (λ (l : List Candidate). AreBoots o d.set l (map bare draft.items) draft.boots) is planned.plan.boots)
    plan fills.requirements refl fills.boots in
    let id : plan.id ≡ document.id = fills.id ∙ planned.plan.head.id in
    let group : plan.group ≡ document.group = fills.group ∙ planned.plan.head.group in
    let revision : plan.revision ≡ document.revision = fills.revision ∙ planned.plan.head.revision in
    let room : HasRoomFor d plan = (
      may.idle,
      subst (λ (n : List ℕ). lookup (bytes_eq n) d.closed ≡ None) (sym id) may.is_open,
      planned.room.0,
      subst (λ (n : List ℕ). IsTrue (has_group n d.groups) ⊎ (length d.groups < most_groups)) (sym group) planned.room.1.0,
    ) in
    let young : IsNotOlder d.groups plan =
    subst (λ (r : ℕ). (r ≡ 0) ⊎ (revision_of plan.group d.groups ≤ r)) (sym revision)
    (subst (λ (n : List ℕ). (document.revision ≡ 0) ⊎ (revision_of n d.groups ≤ document.revision)) (sym group) may.fresh) in
    subst (λ (x : Option Origin). IsSomeAnd x (MayAccept d plan)) (sym has) (room, young, whole)
