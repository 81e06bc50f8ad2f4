-- What groups ask once a plan's list is its group's, beside what was wanted for its document.
use Rattle.std.proofs.Common.{◌≡◌, Bool, true, false, List, [], ◌∷◌, ◌++◌, map, refl, sym, ap, subst, ◌∙◌, inl, inr, ℕ}
use Rattle.std.specs.Prelude.{if◌then◌else◌}
use Rattle.std.specs.List.{All, AllByRecursion, Contains, IsDistinct, flat_map}
use Rattle.std.specs.Str.{bytes_eq}
use Rattle.std.proofs.lemmas.List.Concat.{flat_map-cons}
use Rattle.std.proofs.lemmas.List.Elements.{All-contains, All-from_recursion, Contains-append_cases, Contains-append_left, Contains-append_right}
use Rattle.std.proofs.lemmas.Map.Keys.{IsDistinct-head, IsDistinct-tail}
use Rattle.std.proofs.lemmas.Slice.Eq.{bytes_eq-Decides}
use Rattle.nuc_base.proofs.Lists.{from_map, in_cons, in_here, in_map, in_nil, in_there}
use Rattle.recipe_reader.specs.Members.{Need}
use Rattle.recipe_reader.specs.SetLaws.{AreAmong}
use Rattle.records.specs.Stored.{Plan}
use Rattle.records.specs.declared.record.Requirement.{Requirement}
use Rattle.deployment_doc.specs.declared.document.Document.{Document}
use Rattle.device.specs.Devices.{Group}
use Rattle.device.specs.Grouped.{group_after, put_group, with_group}
use Rattle.device.specs.Sound.{arns}
use Rattle.admission.proofs.Asking.{in_flat, put_holds}
use Rattle.plan_core.specs.Requests.{asked_beside, requirement_need, root_need, root_requirement, wanted_of}
use Rattle.law_whole.specs.Taking.{KeptGroupAsksTheSame}
use Rattle.law_whole.specs.Whole.{asked_of}

-- ---- lists

pub from_flat : {X Y : Type 0} (f : X → List Y) (xs : List X) (y : Y) → Contains (flat_map f xs) y → (x : X) × Contains xs x × Contains (f x) y
from_flat f [] y i = absurd (in_nil y i)
from_flat {Y = Y} f (x ∷ xs) y i = elim (Contains-append_cases (f x) (flat_map f xs) y (subst (λ (l : List Y). Contains l y) (flat_map-cons f x xs) i)) [
  | inl here ↦ (x, in_here x xs, here)
  | inr there ↦ let r = from_flat f xs y there in (r.0, in_there x xs r.0 r.1, r.2)
]

-- ---- groups

-- the new group is there, and each other one
new_here : (g : Group) (groups : List Group) (new : Group) → Contains (put_group groups new) new → (b : Bool) →
    Contains (if b then new ∷ groups else g ∷ put_group groups new) new
new_here g groups new more true = in_here new groups
new_here g groups new more false = in_there g (put_group groups new) new more

new_in : (groups : List Group) (new : Group) → Contains (put_group groups new) new
new_in [] new = in_here new []
new_in (g ∷ groups) new = new_here g groups new (new_in groups new) (bytes_eq new.arn g.arn)

other_here : (g : Group) (groups : List Group) (new h : Group) → Contains (g ∷ groups) h → bytes_eq new.arn h.arn ≡ false
    → (Contains groups h → Contains (put_group groups new) h) → (b : Bool) → bytes_eq new.arn g.arn ≡ b →
    Contains (if b then new ∷ groups else g ∷ put_group groups new) h
other_here g groups new h among other more true is = elim (in_cons g groups h among) [
  | inl here ↦ (let both : true ≡ false = sym is ∙ ap (λ (x : Group). bytes_eq new.arn x.arn) here ∙ other in absurd cc)
  | inr there ↦ in_there new groups h there
]
other_here g groups new h among other more false is = elim (in_cons g groups h among) [
  | inl here ↦ subst (Contains (g ∷ put_group groups new)) here (in_here g (put_group groups new))
  | inr there ↦ in_there g (put_group groups new) h (more there)
]

other_in : (groups : List Group) (new h : Group) → Contains groups h → bytes_eq new.arn h.arn ≡ false → Contains (put_group groups new) h
other_in [] new h among other = absurd (in_nil h among)
other_in (g ∷ groups) new h among other = other_here g groups new h among other (λ there. other_in groups new h there other) (bytes_eq new.arn g.arn) refl

-- ---- what is wanted

beside_has : (arn : List ℕ) (g : Group) (w : Need) → Contains (map requirement_need g.requirements) w → bytes_eq arn g.arn ≡ false →
    Contains (asked_beside arn g) w
beside_has arn g w has other = by (bytes_eq arn g.arn) other
  where
    by : (b : Bool) → b ≡ false → Contains (if b then [] else map requirement_need g.requirements) w
    by true is = absurd cc
    by false is = has

record IsOther (arn : List ℕ) (g : Group) (w : Need) : Type 0 where
  other : bytes_eq arn g.arn ≡ false
  has : Contains (map requirement_need g.requirements) w

beside_from : (arn : List ℕ) (g : Group) (w : Need) → Contains (asked_beside arn g) w → IsOther arn g w
beside_from arn g w i = by (bytes_eq arn g.arn) refl i
  where
    by : (b : Bool) → bytes_eq arn g.arn ≡ b → Contains (if b then [] else map requirement_need g.requirements) w → IsOther arn g w
    by true is has = absurd (in_nil w has)
    by false is has = record { other = is; has = has }

module _ (groups : List Group) (document : Document) (plan : Plan) (group : plan.group ≡ document.group)
    (own : plan.requirements ≡ map root_requirement document.roots) (differ : IsDistinct bytes_eq (arns groups)) where
  new : Group
  new = group_after groups plan

  own_need : (w : Need) → Contains (map requirement_need plan.requirements) w → Contains (map root_need document.roots) w
  own_need w i =
      let r = from_map requirement_need plan.requirements w i in
      let root = from_map root_requirement document.roots r.0 (subst (λ (l : List Requirement). Contains l r.0) own r.1) in
      subst (Contains (map root_need document.roots)) (ap requirement_need root.2 ∙ r.2) (in_map root_need document.roots root.0 root.1)

  need_own : (w : Need) → Contains (map root_need document.roots) w → Contains (map requirement_need plan.requirements) w
  need_own w i =
      let root = from_map root_need document.roots w i in
      subst (Contains (map requirement_need plan.requirements)) root.2
      (in_map requirement_need plan.requirements (root_requirement root.0)
      (subst (λ (l : List Requirement). Contains l (root_requirement root.0)) (sym own) (in_map root_requirement document.roots root.0 root.1)))

  -- what each group then asks was wanted
  AsksWanted : Group → Type 0
  AsksWanted g = (w : Need) → Contains (map requirement_need g.requirements) w → Contains (wanted_of groups document) w

  other_asks : (h : Group) → Contains groups h → bytes_eq (group_after groups plan).arn h.arn ≡ false → (w : Need) →
      Contains (map requirement_need h.requirements) w → Contains (wanted_of groups document) w
  other_asks h among other w i =
      Contains-append_left (flat_map (asked_beside document.group) groups) (map root_need document.roots) w
      (in_flat (asked_beside document.group) groups h w among
      (beside_has document.group h w i (subst (λ (n : List ℕ). bytes_eq n h.arn ≡ false) group other)))

  all_asked : AllByRecursion (λ (g : Group). (w : Need) → Contains (map requirement_need g.requirements) w →
      Contains (wanted_of groups document) w) (put_group groups (group_after groups plan))
  all_asked = put_holds (λ (g : Group). (w : Need) → Contains (map requirement_need g.requirements) w → Contains (wanted_of groups document) w)
      (group_after groups plan)
      (λ w i. Contains-append_right (flat_map (asked_beside document.group) groups) (map root_need document.roots) w (own_need w i))
      groups other_asks differ

  pub asked_was_wanted : AreAmong (asked_of (with_group groups plan)) (wanted_of groups document)
  asked_was_wanted w i =
      let r = from_flat (λ (g : Group). map requirement_need g.requirements) (with_group groups plan) w i in
      All-contains (λ (g : Group). (w : Need) → Contains (map requirement_need g.requirements) w →
      Contains (wanted_of groups document) w) (with_group groups plan) r.0
      (All-from_recursion (λ (g : Group). (w : Need) → Contains (map requirement_need g.requirements) w →
      Contains (wanted_of groups document) w) (with_group groups plan) all_asked)
      r.1 w r.2

  wanted_by : (w : Need) → Contains (flat_map (asked_beside document.group) groups) w → Contains (asked_of (with_group groups plan)) w
  wanted_by w i =
      let r = from_flat (asked_beside document.group) groups w i in
      let o = beside_from document.group r.0 w r.2 in
      in_flat (λ (g : Group). map requirement_need g.requirements) (with_group groups plan) r.0 w
      (other_in groups (group_after groups plan) r.0 r.1 (subst (λ (n : List ℕ). bytes_eq n r.0.arn ≡ false) (sym group) o.other)) o.has

  pub wanted_is_asked : AreAmong (wanted_of groups document) (asked_of (with_group groups plan))
  wanted_is_asked w i = elim (Contains-append_cases (flat_map (asked_beside document.group) groups) (map root_need document.roots) w i) [
    | inl beside ↦ wanted_by w beside
    | inr mine ↦ in_flat (λ (g : Group). map requirement_need g.requirements) (with_group groups plan) (group_after groups plan) w
        (new_in groups (group_after groups plan)) (need_own w mine)
  ]

-- ---- a document that asks of its group what the group asks

pub one_arn : (groups : List Group) → IsDistinct bytes_eq (arns groups) → (g h : Group) → Contains groups g → Contains groups h → g.arn ≡ h.arn → g ≡ h
one_arn [] differ g h i j same = absurd (in_nil g i)
one_arn (x ∷ groups) differ g h i j same = elim (in_cons x groups g i) [
  | inl e ↦ elim (in_cons x groups h j) [
    | inl f ↦ sym e ∙ f
    | inr k ↦ absurd (apart h k (ap (λ (y : Group). y.arn) e ∙ same))
  ]
  | inr l ↦ elim (in_cons x groups h j) [
    | inl f ↦ absurd (apart g l (ap (λ (y : Group). y.arn) f ∙ sym same))
    | inr k ↦ one_arn groups (IsDistinct-tail bytes_eq x.arn (arns groups) differ) g h l k same
  ]
]
  where
    apart : (y : Group) → Contains groups y → x.arn ≡ y.arn → ⊥
    apart y k e =
        let no : bytes_eq x.arn y.arn ≡ false = All-contains (λ (n : List ℕ). bytes_eq x.arn n ≡ false) (arns groups) y.arn
        (All-from_recursion (λ (n : List ℕ). bytes_eq x.arn n ≡ false) (arns groups) (IsDistinct-head bytes_eq x.arn (arns groups) differ))
        (in_map (λ (z : Group). z.arn) groups y k) in
        let yes : bytes_eq x.arn y.arn ≡ true = (bytes_eq-Decides x.arn y.arn).1 e in
        let both : true ≡ false = sym yes ∙ no in cc

pub kept_group_asks : KeptGroupAsksTheSame
kept_group_asks d document sound keeps =
    let g = keeps.0 in
    let differ = sound.groups.differ in (
      λ w i. elim (Contains-append_cases (flat_map (asked_beside document.group) d.groups) (map root_need document.roots) w i) [
        | inl beside ↦ (
            let r = from_flat (asked_beside document.group) d.groups w beside in
            in_flat (λ (h : Group). map requirement_need h.requirements) d.groups r.0 w r.1 (beside_from document.group r.0 w r.2).has)
        | inr mine ↦ (
            let root = from_map root_need document.roots w mine in
            let among = subst (λ (l : List Requirement). Contains l (root_requirement root.0)) keeps.3 (in_map root_requirement document.roots root.0 root.1) in
            in_flat (λ (h : Group). map requirement_need h.requirements) d.groups g w keeps.1
            (subst (Contains (map requirement_need g.requirements)) root.2 (in_map requirement_need g.requirements (root_requirement root.0) among)))
      ],
      λ w i. (
          let r = from_flat (λ (h : Group). map requirement_need h.requirements) d.groups w i in
          by r.0 w r.1 r.2 (bytes_eq document.group r.0.arn) refl),
    )
  where
    own_root : (w : Need) → Contains (map requirement_need keeps.0.requirements) w → Contains (map root_need document.roots) w
    own_root w i =
        let r = from_map requirement_need keeps.0.requirements w i in
        let root = from_map root_requirement document.roots r.0 (subst (λ (l : List Requirement). Contains l r.0) (sym keeps.3) r.1) in
        subst (Contains (map root_need document.roots)) (ap requirement_need root.2 ∙ r.2) (in_map root_need document.roots root.0 root.1)

    by : (h : Group) (w : Need) → Contains d.groups h → Contains (map requirement_need h.requirements) w → (b : Bool) → bytes_eq document.group h.arn ≡ b →
        Contains (wanted_of d.groups document) w
    by h w among has true is =
        let e : h ≡ keeps.0 = one_arn d.groups sound.groups.differ h keeps.0 among keeps.1 (sym ((bytes_eq-Decides document.group h.arn).0 is) ∙ keeps.2) in
        Contains-append_right (flat_map (asked_beside document.group) d.groups) (map root_need document.roots) w
        (own_root w (subst (λ (x : Group). Contains (map requirement_need x.requirements) w) e has))
    by h w among has false is =
        Contains-append_left (flat_map (asked_beside document.group) d.groups) (map root_need document.roots) w
        (in_flat (asked_beside document.group) d.groups h w among (beside_has document.group h w has is))
