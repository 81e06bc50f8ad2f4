-- The items of a plan meet what the set of its candidates meets.
use Rattle.std.proofs.Common.{◌≡◌, ℕ, ◌<◌, List, [], ◌∷◌, length, map, false, refl, sym, ap, subst, ◌∙◌, inl, inr}
use Rattle.std.specs.Prelude.{Option, Some, None, IfSome, slice_get}
use Rattle.std.specs.List.{All, AllByRecursion, AllZip, Contains}
use Rattle.std.specs.Str.{bytes_eq}
use Rattle.std.proofs.lemmas.List.Elements.{All-contains, recursion_from_All}
use Rattle.nuc_base.proofs.Lists.{all_from_in, in_cons, in_here, in_map, in_nil, in_there}
use Rattle.npm_ranges.specs.Ranges.{IsInRange}
use Rattle.recipe_reader.specs.Members.{members}
use Rattle.recipe_reader.specs.Sets.{IsMet, IsMetBy, name_in, version_in}
use Rattle.recipe_reader.specs.declared.candidate.Candidate.{Candidate}
use Rattle.records.specs.Stored.{Draft, DraftItem, Item, Plan, plan_view}
use Rattle.records.specs.declared.record.Origin.{Origin}
use Rattle.records.specs.declared.record.Requirement.{Requirement}
use Rattle.deployment_doc.specs.declared.document.Document.{Document}
use Rattle.device.specs.Devices.{Device, Group}
use Rattle.device.specs.Grouped.{group_after, with_group}
use Rattle.device.specs.Met.{GroupsAreMet, IsAnswered}
use Rattle.device.specs.Sound.{IsSound}
use Rattle.device.specs.Filled.{PlanFilled, ItemFilled}
use Rattle.plan_core.specs.Plans.{IsPlanned}
use Rattle.plan_core.specs.Requests.{root_requirement, wanted_of}
use Rattle.plan_core.specs.Set.{chosen, item_of, items_of, with_candidate}
use Rattle.plan_core.proofs.Growing.{some_below}
use Rattle.plan_core.proofs.Planned.{inside}
use Rattle.plan_core.proofs.Supplying.{at_place}
use Rattle.admission.specs.Taken.{TakenAreMet}
use Rattle.admission.proofs.Asking.{other_met, own_met, put_holds}

-- ---- what stands at a place of the set

in_chosen : (cs : List Candidate) (ps : List ℕ) (q : ℕ) (c : Candidate) → slice_get cs q ≡ Some c → Contains ps q → Contains (chosen cs ps) c
in_chosen cs [] q c at i = absurd (in_nil q i)
in_chosen cs (p ∷ ps) q c at i = elim (in_cons p ps q i) [
  | inl here ↦ first (slice_get cs p) (ap (slice_get cs) here ∙ at)
  | inr there ↦ later (slice_get cs p) (in_chosen cs ps q c at there)
]
  where
    first : (o : Option Candidate) → o ≡ Some c → Contains (with_candidate o (chosen cs ps)) c
    first None is = cc
    first (Some x) is = let same : x ≡ c = cc in subst (Contains (x ∷ chosen cs ps)) same (in_here x (chosen cs ps))

    later : (o : Option Candidate) → Contains (chosen cs ps) c → Contains (with_candidate o (chosen cs ps)) c
    later None has = has
    later (Some x) has = in_there x (chosen cs ps) c has

beside : {A B : Type 0} (R : A → B → Type 0) (xs : List A) (ys : List B) → AllZip R xs ys → (x : A) → Contains xs x → (y : B) × Contains ys y × R x y
beside R [] ys z x i = absurd (in_nil x i)
beside R (a ∷ xs) [] z x i = absurd z
beside {A = A} R (a ∷ xs) (y ∷ ys) z x i = elim (in_cons a xs x i) [
  | inl here ↦ (y, in_here y ys, subst (λ (b : A). R b y) here z.0)
  | inr there ↦ let r = beside R xs ys z.1 x there in (r.0, in_there y ys r.0 r.1, r.2)
]

-- ---- items of a plan

module _ (cs : List Candidate) (set : List ℕ) (below : All (λ p. p < length cs) set) (drafts : Candidate → DraftItem)
    (named : (c : Candidate) → (drafts c).name ≡ c.recipe.name) (versioned : (c : Candidate) → (drafts c).version ≡ c.recipe.version)
    (items : List Item) (fills : AllZip ItemFilled (map drafts (chosen cs set)) items) where
  answered_by : (r : Requirement) (q : ℕ) → Contains set q → IsMetBy (members cs) r.name r.range q → (o : Option Candidate) → slice_get cs q ≡ o →
      IsAnswered items r
  answered_by r q has met None is = absurd (some_below cs q (All-contains (λ (p : ℕ). p < length cs) set q below has) is)
  answered_by r q has met (Some c) is =
      let i = beside ItemFilled (map drafts (chosen cs set)) items fills (drafts c) (in_map drafts (chosen cs set) c (in_chosen cs set q c is has)) in
      let name : Some c.recipe.name ≡ Some r.name = sym (ap name_in (at_place cs q c is)) ∙ met.named in
      let same : c.recipe.name ≡ r.name = cc in
      record {
        item = i.0;
        is_one = i.1;
        name = i.2.name ∙ named c ∙ same;
        version = subst (λ (v : List ℕ). IsInRange v r.range) (sym (i.2.version ∙ versioned c))
            (subst (λ (o : Option (List ℕ)). IfSome o (λ v. IsInRange v r.range)) (ap version_in (at_place cs q c is)) met.meets);
      }

  pub answered : (r : Requirement) → IsMet (members cs) set r.name r.range → IsAnswered items r
  answered r met = answered_by r met.0 met.1 met.2 (slice_get cs met.0) refl

-- ---- a plan that is taken in

module _ (d : Device) (o : Origin) (cs : List Candidate) (document : Document) (draft : Draft) (plan : Plan) (sound : IsSound d)
    (planned : IsPlanned o d cs document draft) (fills : PlanFilled draft plan) where
  set : List ℕ
  set = planned.plan.is_choice.0

  all_answered : (requirements : List Requirement) → ((r : Requirement) → Contains requirements r → IsMet (members cs) set r.name r.range) →
      AllByRecursion (IsAnswered plan.items) requirements
  unfolding set
  all_answered requirements met =
      let valid = planned.plan.is_choice.1.valid in
      let items : draft.items ≡ items_of d.set document.roots (chosen cs set) =
      planned.plan.items ∙ ap (items_of d.set document.roots) planned.plan.is_choice.2 in
      recursion_from_All (IsAnswered plan.items) requirements (all_from_in (IsAnswered plan.items) requirements (λ r has.
      answered cs set (inside cs (wanted_of d.groups document) set valid) (item_of d.set document.roots) (λ c. refl) (λ c. refl) plan.items
      (subst (λ (l : List DraftItem). AllZip ItemFilled l plan.items) items fills.items) r (met r has)))

  pub plan_is_met : GroupsAreMet (with_group d.groups plan) plan.items
  unfolding set
  plan_is_met =
      let met = planned.plan.is_choice.1.valid.wanted_met in
      let group : plan.group ≡ document.group = fills.group ∙ planned.plan.head.group in
      let own : plan.requirements ≡ map root_requirement document.roots = fills.requirements ∙ planned.plan.head.requirements in
      put_holds (λ (g : Group). AllByRecursion (IsAnswered plan.items) g.requirements) (group_after d.groups plan)
      (all_answered plan.requirements (λ r has. own_met (members cs) set d.groups document met r (subst (λ (l : List Requirement). Contains l r) own has)))
      d.groups
      (λ g among other. all_answered g.requirements (λ r has. other_met (members cs) set d.groups document met g r among
      (subst (λ (n : List ℕ). bytes_eq n g.arn ≡ false) group other) has))
      sound.groups.differ

pub taken_are_met : TakenAreMet
taken_are_met d o content before after document plan sound takes =
    plan_is_met d o takes.0 document takes.1 (plan_view plan) sound takes.2.0.1.1.1.1.0 takes.2.1.fills
