-- A plan over gathered candidates leaves a whole device whole.
use Rattle.std.proofs.Common.{◌≡◌, ℕ, ◌<◌, List, [], ◌∷◌, length, map, refl, sym, ap, subst, ◌∙◌, inl, inr}
use Rattle.std.specs.Prelude.{Option, Some, None, IfSome, option_map, option_and_then, slice_get}
use Rattle.std.specs.List.{All, AllZip, Contains}
use Rattle.std.specs.Str.{bytes_eq}
use Rattle.std.proofs.lemmas.List.Elements.{All-contains}
use Rattle.std.proofs.lemmas.Option.{slice_get_read}
use Rattle.nuc_base.proofs.Lists.{all_from_in, from_map, in_cons, in_here, in_map, in_nil, in_there}
use Rattle.tree_core.specs.Regular.{IsRegular}
use Rattle.tree_core.specs.View.{view}
use Rattle.config_ops.specs.Join.{filled}
use Rattle.config_ops.specs.Laws.{IsRegularChange, ConfigIsFilled}
use Rattle.config_ops.specs.NewConfig.{change_of}
use Rattle.config_ops.specs.declared.update.Update.{Update}
use Rattle.recipe_reader.specs.Candidates.{IsReadFor, nucleus_name, nucleus_bytes}
use Rattle.recipe_reader.specs.Members.{members}
use Rattle.recipe_reader.specs.SetLaws.{DependsOnElements}
use Rattle.recipe_reader.specs.Sound.{ReadsSound}
use Rattle.recipe_reader.specs.declared.candidate.Candidate.{Candidate}
use Rattle.recipe_reader.specs.declared.recipe.Recipe.{Recipe}
use Rattle.records.specs.Stored.{Draft, DraftItem, Item, Plan}
use Rattle.records.specs.declared.record.Origin.{Origin}
use Rattle.library_core.specs.Sources.{IsSource, IsTaken, Source, kept_source, nucleus, own, source}
use Rattle.library_core.specs.Gathered.{IsGatheredOf}
use Rattle.deployment_doc.specs.Sound.{AreSound}
use Rattle.deployment_doc.specs.declared.document.Document.{Document}
use Rattle.deployment_doc.specs.declared.document.Root.{Root}
use Rattle.device.specs.Devices.{Device, IsRegularDevice}
use Rattle.device.specs.Grouped.{with_group}
use Rattle.device.specs.Plans.{AreRegularItems}
use Rattle.device.specs.Sound.{IsSound}
use Rattle.device.specs.Filled.{PlanFilled, ItemFilled}
use Rattle.plan_core.specs.Plans.{IsPlanned}
use Rattle.plan_core.specs.Requests.{root_requirement, wanted_of}
use Rattle.plan_core.specs.Set.{change_in, chosen, config_of, item_named, item_of, items_of, root_named}
use Rattle.plan_core.proofs.Found.{change_regular, kept_regular}
use Rattle.plan_core.proofs.Growing.{chosen_at, element}
use Rattle.law_whole.specs.Taking.{PlansAreWhole}
use Rattle.law_whole.specs.Whole.{AreWhole, AreWholeOn, BringsWhole, IsBuiltIn, IsItemOf, IsValidWhole, Whole, asked_of}
use Rattle.law_whole.proofs.Asking.{asked_was_wanted, wanted_is_asked}
use Rattle.law_whole.proofs.Choosing.{chosen_valid, inside}

-- ---- lists beside one another

zip_over : {A B C : Type 0} (f : A → B) (R : B → C → Type 0) (S : A → C → Type 0) (xs : List A) (ys : List C)
    → ((x : A) → Contains xs x → (y : C) → R (f x) y → S x y) → AllZip R (map f xs) ys → AllZip S xs ys
zip_over f R S [] [] h z = tt
zip_over f R S [] (y ∷ ys) h z = absurd z
zip_over f R S (x ∷ xs) [] h z = absurd z
zip_over f R S (x ∷ xs) (y ∷ ys) h z = (h x (in_here x xs) y z.0, zip_over f R S xs ys (λ a i. h a (in_there x xs a i)) z.1)

pub left_of : {A B : Type 0} (R : A → B → Type 0) (xs : List A) (ys : List B) → AllZip R xs ys → (y : B) → Contains ys y → (x : A) × Contains xs x × R x y
left_of R [] [] z y i = absurd (in_nil y i)
left_of R [] (b ∷ ys) z y i = absurd z
left_of R (x ∷ xs) [] z y i = absurd z
left_of R (x ∷ xs) (b ∷ ys) z y i = elim (in_cons b ys y i) [
  | inl here ↦ (x, in_here x xs, subst (R x) here z.0)
  | inr there ↦ let l = left_of R xs ys z.1 y there in (l.0, in_there x xs l.0 l.1, l.2)
]

pub right_of : {A B : Type 0} (R : A → B → Type 0) (xs : List A) (ys : List B) → AllZip R xs ys → (x : A) → Contains xs x → (y : B) × Contains ys y × R x y
right_of R [] ys z x i = absurd (in_nil x i)
right_of R (a ∷ xs) [] z x i = absurd z
right_of {A = A} R (a ∷ xs) (y ∷ ys) z x i = elim (in_cons a xs x i) [
  | inl here ↦ (y, in_here y ys, subst (λ (b : A). R b y) here z.0)
  | inr there ↦ let r = right_of R xs ys z.1 x there in (r.0, in_there y ys r.0 r.1, r.2)
]

-- what is chosen is a candidate
pub chosen_in : (cs : List Candidate) (set : List ℕ) (c : Candidate) → All (λ p. p < length cs) set → Contains (chosen cs set) c → Contains cs c
chosen_in cs set c below there =
    let at = chosen_at cs set below there.0 c (slice_get_read (chosen cs set) (length (chosen cs set)) there.0 c refl there.1 (sym there.2)) in
    element cs at.place c at.there

-- what a whole device has
pub whole_set : (d : Device) (o : Origin) → Whole d → d.origin ≡ Some o → AreWholeOn o d.groups d.set
whole_set d o whole is = subst (λ (x : Option Origin). AreWhole x d.groups d.set) is whole.set

-- ---- configurations

kept_ok : (n : List ℕ) (items : List Item) → AreRegularItems items → (o : Option Item) → o ≡ item_named n items →
    IfSome (option_map (λ (i : Item). i.config) o) IsRegular
kept_ok n items regular None is = tt
kept_ok n items regular (Some i) is = kept_regular n items i regular is

update_ok : (n : List ℕ) (roots : List Root) (r : Root) → AreSound roots → Some r ≡ root_named n roots → (u : Option Update) → r.update ≡ u →
    IsRegularChange (option_map change_of u)
update_ok n roots r sound is None e = tt
update_ok n roots r sound is (Some u) e = by u.merge (change_regular n roots r u sound is e)
  where
    by : (m : Option _) → IfSome m (λ t. IsRegular (view t)) → IfSome (option_map view m) IsRegular
    by None h = tt
    by (Some t) h = h

change_ok : (n : List ℕ) (roots : List Root) → AreSound roots → (o : Option Root) → o ≡ root_named n roots →
    IsRegularChange (option_and_then (λ (root : Root). option_map change_of root.update) o)
change_ok n roots sound None is = tt
change_ok n roots sound (Some r) is = update_ok n roots r sound is r.update refl

-- ---- the plan

module _ (filled_law : ConfigIsFilled) (reads_sound : ReadsSound) (elements : DependsOnElements)
    (o : Origin) (d : Device) (cs : List Candidate) (document : Document) (draft : Draft) (plan : Plan)
    (sound : IsSound d) (regular : IsRegularDevice d) (whole : Whole d) (origin : d.origin ≡ Some o) (gathered : IsGatheredOf o d.set cs)
    (roots : AreSound document.roots) (planned : IsPlanned o d cs document draft) (fills : PlanFilled draft plan) where
  config_ok : (c : Candidate) → IsReadFor o.platform c → filled (config_of d.set document.roots c.recipe) (view c.recipe.default_config) ≡ config_of d.set
      document.roots c.recipe
  config_ok c read = filled_law (option_map (λ (i : Item). i.config) (item_named c.recipe.name d.set)) (view c.recipe.default_config)
      (change_in c.recipe.name document.roots)
      (kept_ok c.recipe.name d.set regular.set (item_named c.recipe.name d.set) refl)
      (reads_sound c.bytes o.platform c.recipe read).regular
      (change_ok c.recipe.name document.roots roots (root_named c.recipe.name document.roots) refl)

  below : All (λ p. p < length cs) planned.plan.is_choice.0
  below = inside cs (wanted_of d.groups document) planned.plan.is_choice.0 planned.plan.is_choice.1.valid

  in_cs : (c : Candidate) → Contains (chosen cs planned.plan.is_choice.0) c → Contains cs c
  in_cs c i = chosen_in cs planned.plan.is_choice.0 c (inside cs (wanted_of d.groups document) planned.plan.is_choice.0 planned.plan.is_choice.1.valid) i

  read_of : (c : Candidate) → Contains (chosen cs planned.plan.is_choice.0) c → IsReadFor o.platform c
  read_of c i = All-contains (IsReadFor o.platform) cs c gathered.1.read (in_cs c i)

  are_items : AllZip IsItemOf (chosen cs planned.plan.is_choice.0) plan.items
  are_items =
      let items : draft.items ≡ items_of d.set document.roots (chosen cs planned.plan.is_choice.0) = planned.plan.items
      ∙ ap (items_of d.set document.roots) planned.plan.is_choice.2 in
      zip_over (item_of d.set document.roots) ItemFilled IsItemOf (chosen cs planned.plan.is_choice.0) plan.items
      (λ c i item f. record {
        name = f.name;
        version = f.version;
        recipe = f.recipe;
        config = subst (λ x. filled x (view c.recipe.default_config) ≡ x) (sym f.config) (config_ok c (read_of c i));
      })
      (subst (λ (l : List DraftItem). AllZip ItemFilled l plan.items) items fills.items)

  valid_for_all : IsValidWhole (members (chosen cs planned.plan.is_choice.0)) (asked_of (with_group d.groups plan))
  valid_for_all =
      let first = chosen_valid cs (wanted_of d.groups document) planned.plan.is_choice.0 planned.plan.is_choice.1.valid in
      let group : plan.group ≡ document.group = fills.group ∙ planned.plan.head.group in
      let mine : plan.requirements ≡ map root_requirement document.roots = fills.requirements ∙ planned.plan.head.requirements in
      record {
        set = first.set;
        valid = (elements (members (chosen cs planned.plan.is_choice.0)) (wanted_of d.groups document) (asked_of (with_group d.groups plan)) first.set
            (wanted_is_asked d.groups document plan group mine sound.groups.differ) (asked_was_wanted d.groups document plan group mine
            sound.groups.differ)).0 first.valid;
        all = first.all;
      }

  by_source : (c : Candidate) → c.recipe.name ≡ nucleus_name → IsSource (own o d.set) o.platform gathered.0 (source c) → (c.recipe.version ≡ o.nucleus) ×
      (c.bytes ≡ nucleus_bytes o.nucleus)
  by_source c named (inr taken) = absurd (taken.2.other (sym (ap (λ (s : Source). s.name) taken.2.is) ∙ named))
  by_source c named (inl mine) = elim (in_cons (nucleus o.nucleus) (map kept_source d.set) (source c) mine) [
    | inl is ↦ (sym (ap (λ (s : Source). s.version) is), sym (ap (λ (s : Source). s.bytes) is))
    | inr kept ↦ (let i = from_map kept_source d.set (source c) kept in
        let built = (whole_set d o whole origin).built_in i.0 i.1 (ap (λ (s : Source). s.name) i.2 ∙ named) in
        (sym (ap (λ (s : Source). s.version) i.2) ∙ built.0, sym (ap (λ (s : Source). s.bytes) i.2) ∙ built.1))
  ]

  is_built_in : (i : Item) → Contains plan.items i → IsBuiltIn o.nucleus i
  is_built_in i among named =
      let c = left_of IsItemOf (chosen cs planned.plan.is_choice.0) plan.items are_items i among in
      let s = by_source c.0 (sym c.2.name ∙ named) ((gathered.1.whole (source c.0)).0 (in_map source cs c.0 (in_cs c.0 c.1))) in
      (c.2.version ∙ s.0, c.2.recipe ∙ s.1)

  pub plan_is_whole_on : AreWholeOn o (with_group d.groups plan) plan.items
  plan_is_whole_on = record {
    candidates = chosen cs planned.plan.is_choice.0;
    are = are_items;
    read = all_from_in (IsReadFor o.platform) (chosen cs planned.plan.is_choice.0) read_of;
    valid = valid_for_all;
    built_in = is_built_in;
  }

pub plans_are_whole : ConfigIsFilled → ReadsSound → DependsOnElements → PlansAreWhole
plans_are_whole filled_law reads_sound elements o d cs document draft plan sound regular whole origin gathered roots planned fills =
    subst (λ (x : Option Origin). AreWhole x (with_group d.groups plan) plan.items) (sym origin)
    (plan_is_whole_on filled_law reads_sound elements o d cs document draft plan sound regular whole origin gathered roots planned fills)
