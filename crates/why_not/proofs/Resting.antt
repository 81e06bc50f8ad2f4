-- What a certificate does not rest on may be left out.
use Rattle.std.proofs.Common.{◌≡◌, ℕ, ◌⊎◌, List, [], ◌∷◌, ◌++◌, Option, Some, None, sym, subst, inl, inr}
use Rattle.std.specs.List.{Contains}
use Rattle.std.proofs.lemmas.List.Elements.{Contains-append_left, Contains-push, Contains-push_cases}
use Rattle.nuc_base.proofs.Lists.{in_nil, in_cons, in_here, in_there}
use Rattle.recipe_reader.specs.Members.{Need, Member}
use Rattle.recipe_reader.specs.Sets.{required_names, IsTaken}
use Rattle.recipe_reader.proofs.NameOrder.{same_or_not}
use Rattle.recipe_reader.proofs.Required.{required_from, required_by_wanted, required_by_need}
use Rattle.recipe_reader.proofs.ValidSets.{AreWithin}
use Rattle.why_not.specs.Reasons.{Reason, Branches, split, refused, loop, none, branch, branch_places}
use Rattle.why_not.specs.Certificates.{AreAllOf, IsRefused, IsLoop, IsCertified, AreCertified, IsGroundOf, IsGroundOfAny, RestsOn}

listed_or_not : (names : List (List ℕ)) (n : List ℕ) → Contains names n ⊎ (Contains names n → ⊥)
listed_or_not [] n = inr (λ i. in_nil n i)
listed_or_not (m ∷ names) n = elim (same_or_not m n) [
  | inl e ↦ inl (subst (Contains (m ∷ names)) e (in_here m names))
  | inr ne ↦ elim (listed_or_not names n) [
    | inl i ↦ inl (in_there m names n i)
    | inr out ↦ inr (λ i. elim (in_cons m names n i) [ inl e ↦ ne e | inr j ↦ out j ])
  ]
]

-- each of more is p, or one of fewer
abbrev IsWith : List ℕ → ℕ → List ℕ → Type 0
IsWith more p fewer = (x : ℕ) → Contains more x → (p ≡ x) ⊎ Contains fewer x

push_within : (fewer more : List ℕ) (q : ℕ) → AreWithin fewer more → AreWithin (fewer ++ q ∷ []) (more ++ q ∷ [])
push_within fewer more q h = λ x i. elim (Contains-push_cases fewer q x i) [
  | inl j ↦ Contains-append_left more (q ∷ []) x (h x j)
  | inr e ↦ subst (Contains (more ++ q ∷ [])) e (Contains-push more q)
]

push_with : (more fewer : List ℕ) (p q : ℕ) → IsWith more p fewer → IsWith (more ++ q ∷ []) p (fewer ++ q ∷ [])
push_with more fewer p q h = λ x i. elim (Contains-push_cases more q x i) [
  | inl j ↦ elim (h x j) [ inl e ↦ inl e | inr k ↦ inr (Contains-append_left fewer (q ∷ []) x k) ]
  | inr e ↦ inr (subst (Contains (fewer ++ q ∷ [])) e (Contains-push fewer q))
]

stays : (more fewer : List ℕ) (p x : ℕ) → IsWith more p fewer → Contains more x → (p ≡ x → ⊥) → Contains fewer x
stays more fewer p x h i ne = elim (h x i) [ inl e ↦ absurd (ne e) | inr j ↦ j ]

untaken_fewer : (ms : List Member) (fewer more : List ℕ) (n : List ℕ) → AreWithin fewer more → (IsTaken ms more n → ⊥) → IsTaken ms fewer n → ⊥
untaken_fewer ms fewer more n h out t = out (t.0, h t.0 t.1, t.2)

refused_less : (ms : List Member) (wanted : List Need) (more fewer : List ℕ) (p q : ℕ) (by : Option ℕ) → IsWith more p fewer → Contains more q →
    IsRefused ms wanted more q by → (IsGroundOf ms wanted fewer p (refused q by) → ⊥) → IsCertified ms wanted fewer (refused q by)
refused_less ms wanted more fewer p q None h i r out = (stays more fewer p q h i out, r)
refused_less ms wanted more fewer p q (Some by) h i r out = (stays more fewer p q h i (λ e. out (inl e)), (stays more fewer p by h r.0 (λ e. out (inr e)), r.1))

mutual
  pub certified_less : (ms : List Member) (wanted : List Need) (more fewer : List ℕ) (p : ℕ) (r : Reason) → AreWithin fewer more → IsWith more p fewer →
      IsCertified ms wanted more r → (IsGroundOf ms wanted fewer p r → ⊥) → IsCertified ms wanted fewer r
  certified_less ms wanted more fewer p (split n bs) a h c out =
      let open' = c.0 in
      let required : Contains (required_names ms wanted fewer) n = elim (listed_or_not (required_names ms wanted fewer) n) [
        | inl i ↦ i
        | inr free ↦ absurd
            (out (inl free))
      ] in (
        record { required = required; untaken = λ t. untaken_fewer ms fewer more n a open'.untaken t },
        c.1,
        branches_less ms wanted more fewer p bs a h c.2 (λ x. out (inr x)),
      )
  certified_less ms wanted more fewer p (refused q by) a h c out = refused_less ms wanted more fewer p q by h c.0 c.1 out
  certified_less ms wanted more fewer p (loop ps) a h c out =
      (λ x i. stays more fewer p x h (c.0 x i) (λ e. out (subst (Contains ps) (sym e) i)), c.1)

  branches_less : (ms : List Member) (wanted : List Need) (more fewer : List ℕ) (p : ℕ) (bs : Branches) → AreWithin fewer more → IsWith more p fewer →
      AreCertified ms wanted more bs → (IsGroundOfAny ms wanted fewer p bs → ⊥) → AreCertified ms wanted fewer bs
  branches_less ms wanted more fewer p none a h c out = tt
  branches_less ms wanted more fewer p (branch q r bs) a h c out = (
    certified_less ms wanted (more ++ q ∷ []) (fewer ++ q ∷ []) p r (push_within fewer more q a) (push_with more fewer p q h) c.0 (λ x. out (inl x)),
    branches_less ms wanted more fewer p bs a h c.1 (λ x. out (inr x)),
  )

pub left_out : (ms : List Member) (wanted : List Need) (taken : List ℕ) (p : ℕ) (r : Reason) → IsCertified ms wanted (taken ++ p ∷ []) r →
    (IsGroundOf ms wanted taken p r → ⊥) → IsCertified ms wanted taken r
left_out ms wanted taken p r c out = certified_less ms wanted (taken ++ p ∷ []) taken p r (λ x i. Contains-append_left taken (p ∷ []) x i)
    (λ x i. elim (Contains-push_cases taken p x i) [ inl j ↦ inr j | inr e ↦ inl e ]) c out

-- ---- the same by the places that are used

pub rests_less : (ms : List Member) (wanted : List Need) (taken used : List ℕ) (p : ℕ) (r : Reason) → RestsOn ms wanted (taken ++ p ∷ []) used r →
    AreWithin used taken → RestsOn ms wanted taken used r
rests_less ms wanted taken used p r h a = record {
  within = a;
  holds = λ some i j. h.holds some i (λ x k. Contains-append_left taken (p ∷ []) x (j x k));
}

pub rests_certified : (ms : List Member) (wanted : List Need) (taken used : List ℕ) (r : Reason) → RestsOn ms wanted taken used r →
    IsCertified ms wanted taken r
rests_certified ms wanted taken used r h = h.holds taken h.within (λ x i. i)

-- a leaf rests on its places
pub rests_refused : (ms : List Member) (wanted : List Need) (taken used : List ℕ) (p : ℕ) → AreWithin used taken → Contains used p →
    IsRefused ms wanted taken p None → RestsOn ms wanted taken used (refused p None)
rests_refused ms wanted taken used p a i r = record { within = a; holds = λ some h k. (h p i, r) }

pub rests_refused_by : (ms : List Member) (wanted : List Need) (taken used : List ℕ) (p q : ℕ) → AreWithin used taken → Contains used p → Contains used q →
    IsRefused ms wanted taken p (Some q) → RestsOn ms wanted taken used (refused p (Some q))
rests_refused_by ms wanted taken used p q a i j r = record { within = a; holds = λ some h k. (h p i, (h q j, r.1)) }

pub rests_loop : (ms : List Member) (wanted : List Need) (taken ps : List ℕ) → AreWithin ps taken → IsLoop ms ps → RestsOn ms wanted taken ps (loop ps)
rests_loop ms wanted taken ps a l = record { within = a; holds = λ some h k. (h, l) }

-- ---- a split rests on what requires its name, and on what its branches rest on besides their own places

-- each branch rests on its own place and those of used
pub data AreResting (ms : List Member) (wanted : List Need) (taken used : List ℕ) : Branches → Type 0 where
  rest_none : AreResting ms wanted taken used none
  rest_branch : {p : ℕ} {r : Reason} {bs : Branches} (own : List ℕ) → RestsOn ms wanted (taken ++ p ∷ []) own r →
      ((x : ℕ) → Contains own x → (p ≡ x) ⊎ Contains used x) → AreResting ms wanted taken used bs → AreResting ms wanted taken used (branch p r bs)

pub resting_holds : (ms : List Member) (wanted : List Need) (taken used : List ℕ) (bs : Branches) → AreResting ms wanted taken used bs → (some : List ℕ) →
    AreWithin used some → AreWithin some taken → AreCertified ms wanted some bs
resting_holds ms wanted taken used none rest_none some a b = tt
resting_holds ms wanted taken used (branch p r bs) (rest_branch own h w rest) some a b = (
  h.holds (some ++ p ∷ [])
      (λ x i. elim (w x i) [
        | inl e ↦ subst (Contains (some ++ p ∷ [])) e (Contains-push some p)
        | inr j ↦ Contains-append_left some (p ∷ []) x (a x j)
      ])
      (push_within some taken p b),
  resting_holds ms wanted taken used bs rest some a b,
)

pub required_more : (ms : List Member) (wanted : List Need) (some all : List ℕ) (n : List ℕ) → AreWithin some all →
    Contains (required_names ms wanted some) n → Contains (required_names ms wanted all) n
required_more ms wanted some all n a h = elim (required_from ms wanted some n h) [
  | inl r ↦ subst (Contains (required_names ms wanted all)) r.2 (required_by_wanted ms wanted all r.0 r.1)
  | inr r ↦ subst (Contains (required_names ms wanted all)) r.4 (required_by_need ms wanted all r.0 r.1 (a r.0 r.2) r.3)
]

pub rests_split : (ms : List Member) (wanted : List Need) (taken used : List ℕ) (n : List ℕ) (bs : Branches) → AreWithin used taken →
    Contains (required_names ms wanted used) n → (IsTaken ms taken n → ⊥) → AreAllOf ms n (branch_places bs) → AreResting ms wanted taken used bs →
    RestsOn ms wanted taken used (split n bs)
rests_split ms wanted taken used n bs a required out all h = record {
  within = a;
  holds = λ some i j. (
    record { required = required_more ms wanted used some n i required; untaken = λ t. untaken_fewer ms some taken n j out t },
    all,
    resting_holds ms wanted taken used bs h some i j,
  );
}

pub unused_within : (taken used : List ℕ) (p : ℕ) → AreWithin used (taken ++ p ∷ []) → (Contains used p → ⊥) → AreWithin used taken
unused_within taken used p h out = λ x i. elim (Contains-push_cases taken p x (h x i)) [ inl j ↦ j | inr e ↦ absurd (out (subst (Contains used) (sym e) i)) ]
