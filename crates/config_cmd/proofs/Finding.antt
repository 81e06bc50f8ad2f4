-- What is found by a name, and what holds of it.
use Rattle.std.proofs.Common.{◌≡◌, ℕ, List, [], ◌∷◌, Bool, true, false, sym, subst}
use Rattle.std.specs.Prelude.{Option, Some, if◌then◌else◌}
use Rattle.std.specs.List.{AllByRecursion, Contains}
use Rattle.std.specs.Str.{bytes_eq}
use Rattle.std.proofs.lemmas.List.Elements.{All-contains}
use Rattle.nuc_base.proofs.Lists.{in_here, in_there}
use Rattle.tree_core.specs.Regular.{IsRegular}
use Rattle.records.specs.Stored.{Item}
use Rattle.records.specs.declared.record.Group.{Group}
use Rattle.device.specs.Lawful.{item_named}
use Rattle.device.specs.Plans.{AreRegularItems, AreRequirements}
use Rattle.config_cmd.specs.Documents.{requires_name, group_for}

some_is : {X : Type 0} (x y : X) → ◌≡◌ {A = Option X} (Some x) (Some y) → x ≡ y
some_is x y is = cc

item_in : (n : List ℕ) (items : List Item) (i : Item) → item_named n items ≡ Some i → Contains items i
item_in n [] i is = absurd cc
item_in n (x ∷ items) i is = by (bytes_eq n x.name) (item_in n items i) is
  where
    by : (b : Bool) → (item_named n items ≡ Some i → Contains items i) → (if b then Some x else item_named n items) ≡ Some i → Contains (x ∷ items) i
    by true more is = subst (Contains (x ∷ items)) (some_is x i is) (in_here x items)
    by false more is = in_there x items i (more is)

pub item_regular : (n : List ℕ) (items : List Item) (i : Item) → AreRegularItems items → Some i ≡ item_named n items → IsRegular i.config
item_regular n items i regular is = All-contains (λ (item : Item). IsRegular item.config) items i regular (item_in n items i (sym is))

-- what the group that is found requires is in order
pub group_sound : (n : List ℕ) (groups : List Group) (g : Group) → AllByRecursion (λ (h : Group). AreRequirements h.requirements) groups
    → Some g ≡ group_for n groups → AreRequirements g.requirements
group_sound n [] g all is = absurd cc
group_sound n (x ∷ groups) g all is = by (requires_name n x) (group_sound n groups g all.1) is
  where
    by : (b : Bool) → (Some g ≡ group_for n groups → AreRequirements g.requirements) → Some g ≡ (if b then Some x else group_for n groups)
        → AreRequirements g.requirements
    by true more is = subst (λ (h : Group). AreRequirements h.requirements) (some_is x g (sym is)) all.0
    by false more is = more is
