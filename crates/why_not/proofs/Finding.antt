-- What is found from the taken places on.
use Rattle.std.proofs.Common.{◌≡◌, ℕ, ◌+◌, ◌<◌, ◌≤◌, false, List, [], ◌∷◌, ◌++◌, map, length, Some, refl, sym, ap, ◌∙◌, subst, arith, inl, inr, Vec, Global}
use Rattle.std.specs.List.{Contains}
use Rattle.std.specs.List.Sorted.{IsStrictlyIncreasing}
use Rattle.nuc_base.proofs.Lists.{in_nil, in_cons, in_here, in_there}
use Rattle.recipe_reader.specs.Members.{Need, Member}
use Rattle.recipe_reader.specs.Sets.{name_of, IsTaken, IsNext}
use Rattle.recipe_reader.proofs.Preferring.{rise_head, rise_tail}
use Rattle.recipe_reader.proofs.Searching.{next_same}
use Rattle.why_not.specs.Reasons.{Reason, Branches, split, refused, loop, none, branch, branch_places, is_split, nodes, branch_nodes, seen, branches_seen}
use Rattle.why_not.specs.Certificates.{IsOpen, AreAllOf, IsCertified, AreCertified, RestsOn}
use Rattle.why_not.specs.Ends.{IsReachedSet, FitsWith}
use Rattle.why_not.specs.Found.{IsPlainSplit, IsBeyond, IsFound, IsPlainAt, IsBeyondAt, IsTried, UsesUp, IsExplained, HasUpTo}
use Rattle.why_not.specs.Gathers.{AreBranchesSoFar, BranchesUseUp, IsPlainSoFar}
use Rattle.why_not.specs.Plain.{IsFirstReason, IsFirstLeaf, IsPlain, ArePlain, IsExplanation, HasNoSet}
use Rattle.why_not.specs.declared.choosing.Form.{Form}
use Rattle.why_not.specs.declared.choosing.Form.TheVariants as form
use Rattle.why_not.specs.declared.explaining.Found.{Found}
use Rattle.why_not.specs.declared.explaining.Found.TheVariants.{Valid, TooLarge, Because}
use Rattle.why_not.specs.declared.reasons.Partial.{Partial}
use Rattle.why_not.specs.declared.why.Why.{Why, Split}
use Rattle.why_not.proofs.Ends.{stands_push}
use Rattle.why_not.proofs.Firsts.{first_split, first_splits}
use Rattle.why_not.proofs.Gathering.{gathers_end, resting_of}
use Rattle.why_not.proofs.Plainly.{same_kind, same_nodes, root_splits}
use Rattle.why_not.proofs.Resting.{resting_holds, rests_certified, rests_less, unused_within}
use Rattle.why_not.proofs.Seen.{places_are, seen_split}
use Rattle.why_not.proofs.Soundness.{certified_out}

-- ---- nodes

pub nodes_some : (r : Reason) → 0 < nodes r
nodes_some (split n bs) = omega arith
nodes_some (refused p by) = omega arith
nodes_some (loop ps) = omega arith

leaf_nodes : (r : Reason) → is_split r ≡ false → nodes r ≡ 1
leaf_nodes (split n bs) e = cc
leaf_nodes (refused p by) e = refl
leaf_nodes (loop ps) e = refl

leaf_plain : (ms : List Member) (wanted : List Need) (taken : List ℕ) (r : Reason) → is_split r ≡ false → IsPlain ms wanted taken r
leaf_plain ms wanted taken (split n bs) e = cc
leaf_plain ms wanted taken (refused p by) e = tt
leaf_plain ms wanted taken (loop ps) e = tt

-- ---- a branch

module _ (ms : List Member) (wanted : List Need) (taken : List ℕ) (p : ℕ) where
  pub leaf_at : (old new : ℕ) (r : Reason) → IsFirstLeaf ms wanted taken p r → 1 + new ≡ old → IsPlainAt ms wanted taken p old new r
  leaf_at old new r h e = record {
    first = h.first;
    plain = leaf_plain ms wanted (taken ++ p ∷ []) r h.leaf;
    count = ap (λ n. n + new) (leaf_nodes r h.leaf) ∙ e;
  }

  pub beyond_at_none : IsBeyondAt ms wanted taken p 0
  beyond_at_none = λ s f c h. nodes_some s

  pub tried_found : (f : Form) (old new : ℕ) (found : Found) → FitsWith ms wanted taken p → IsFound ms wanted f (taken ++ p ∷ []) old new found →
      IsTried ms wanted f taken p old new found
  tried_found f old new Valid fits h = h
  tried_found f old new TooLarge fits h = λ e s first c plain. h e s (first_splits ms wanted taken p s fits first c) c plain
  tried_found f old new (Because part) fits h = (
    h.0,
    λ e. (let k = h.1 e in record { first = first_split ms wanted taken p (seen part.why) fits k.splits; plain = k.plain; count = k.count }),
  )

  pub stands_with : (n : List ℕ) → IsReachedSet ms wanted taken → IsOpen ms wanted taken n → name_of ms p ≡ Some n → FitsWith ms wanted taken p →
      IsReachedSet ms wanted (taken ++ p ∷ [])
  stands_with n s o e fits = stands_push ms wanted taken p n s o e (record {
    wanted_hold = fits.ranges.wanted_hold;
    others_hold = λ q i. (fits.ranges.asked_hold q i, fits.ranges.needs_hold q i);
    acyclic = fits.acyclic;
  })

  -- a branch that stands in place of its split
  pub left_out_found : (f : Form) (old new : ℕ) (part : Partial) → RestsOn ms wanted (taken ++ p ∷ []) part.used.items (seen part.why) →
      (Contains part.used.items p → ⊥) → (f ≡ form.Plain → ⊥) → IsFound ms wanted f taken old new (Because part)
  left_out_found f old new part rests out other = (
    rests_less ms wanted taken part.used.items p (seen part.why) rests (unused_within taken part.used.items p rests.within out),
    λ e. absurd (other e),
  )

-- ---- the branches so far

nodes_append : (bs : List (ℕ × Why)) (b : ℕ × Why) → branch_nodes (branches_seen (bs ++ b ∷ [])) ≡ branch_nodes (branches_seen bs) + nodes (seen b.1)
nodes_append [] b = omega arith
nodes_append (c ∷ bs) b = let e = nodes_append bs b in omega (arith, e)

module _ (ms : List Member) (wanted : List Need) (taken : List ℕ) where
  pub plain_none : (old new : ℕ) → 1 + new ≡ old → IsPlainSoFar ms wanted taken old new []
  plain_none old new e = record { plain = tt; count = omega (arith, e) }

  plain_append : (bs : List (ℕ × Why)) (b : ℕ × Why) → ArePlain ms wanted taken (branches_seen bs) → IsFirstReason ms wanted taken b.0 (seen b.1) →
      IsPlain ms wanted (taken ++ b.0 ∷ []) (seen b.1) → ArePlain ms wanted taken (branches_seen (bs ++ b ∷ []))
  plain_append [] b h f g = (f, g, tt)
  plain_append (c ∷ bs) b h f g = (h.0, h.1, plain_append bs b h.2 f g)

  pub plain_more : (old mid new p : ℕ) (bs : List (ℕ × Why)) (why : Why) → IsPlainSoFar ms wanted taken old mid bs →
      IsPlainAt ms wanted taken p mid new (seen why) → IsPlainSoFar ms wanted taken old new (bs ++ (p, why) ∷ [])
  plain_more old mid new p bs why h at =
      let a = h.count in
      let b = at.count in
      let e = nodes_append bs (p, why) in
      record { plain = plain_append bs (p, why) h.plain at.first at.plain; count = omega (arith, a, b, e) }

  pub beyond_none : IsBeyond ms wanted taken 0
  beyond_none = λ s e c h. nodes_some s

-- ---- the nodes that are used up

pub leaf_uses : (old new : ℕ) (part : Partial) → is_split (seen part.why) ≡ false → 1 + new ≡ old → UsesUp old new (Because part)
leaf_uses old new part leaf e = let one = leaf_nodes (seen part.why) leaf in omega (arith, one, e)

pub uses_none : (old new : ℕ) → 1 + new ≡ old → BranchesUseUp old new []
uses_none old new e = record { count = omega (arith, e) }

pub uses_more : (old mid new p : ℕ) (bs : List (ℕ × Why)) (part : Partial) → BranchesUseUp old mid bs → UsesUp mid new (Because part) →
    BranchesUseUp old new (bs ++ (p, part.why) ∷ [])
uses_more old mid new p bs part h at =
    let a = h.count in
    let e = nodes_append bs (p, part.why) in
    record { count = omega (arith, a, at, e) }

pub uses_split : (old new : ℕ) (n : List ℕ) (used : Vec ℕ Global) (v : Vec (ℕ × Why) Global) → BranchesUseUp old new v.items →
    UsesUp old new (Because (record { why = Split n v; used = used }))
uses_split old new n used v h = subst (λ r. nodes r + new ≤ old) (sym (seen_split n v)) h.count

pub uses_later : (old mid new : ℕ) (part : Partial) → mid < old → UsesUp mid new (Because part) → UsesUp old new (Because part)
uses_later old mid new part lt h = omega (arith, lt, h)

pub up_to : (most left : ℕ) (found : Found) → UsesUp most left found → HasUpTo most found
up_to most left Valid h = tt
up_to most left TooLarge h = tt
up_to most left (Because part) h = omega (arith, h)

-- ---- a rising list goes on behind its numbers below one of them

places_split : (xs ys : List ℕ) (i : ℕ) → IsStrictlyIncreasing xs → IsStrictlyIncreasing ys → ((x : ℕ) → Contains xs x → Contains ys x × (x < i)) →
    ((x : ℕ) → Contains ys x → x < i → Contains xs x) → Contains ys i → (rest : List ℕ) × (ys ≡ xs ++ i ∷ rest)
places_split [] [] i h k to back there = absurd (in_nil i there)
places_split [] (y ∷ ys) i h k to back there = elim (in_cons y ys i there) [
  | inl e ↦ (ys, ap (λ z. z ∷ ys) e)
  | inr j ↦ absurd (in_nil y (back y (in_here y ys) (rise_head y ys i k j)))
]
places_split (x ∷ xs) [] i h k to back there = absurd (in_nil i there)
places_split (x ∷ xs) (y ∷ ys) i h k to back there =
    let first = to x (in_here x xs) in
    let below : x < i = first.1 in
    let same : x ≡ y = elim (in_cons y ys x first.0) [
      | inl e ↦ sym e
      | inr j ↦ (let up : y < x = rise_head y ys x k j in
          elim (in_cons x xs y (back y (in_here y ys) (omega (arith, up, below)))) [
            | inl e ↦ e
            | inr m ↦ (let down : x < y = rise_head x xs y h m in absurd (omega (arith, up, down)))
          ])
    ] in
    let rest = places_split xs ys i (rise_tail x xs h) (rise_tail y ys k)
    (λ z m. (let f = to z (in_there x xs z m) in
    let up : x < z = rise_head x xs z h m in
    (elim (in_cons y ys z f.0) [ inl e ↦ absurd (omega (arith, up, same, e)) | inr j ↦ j ], f.1)))
    (λ z m lt. (let up : y < z = rise_head y ys z k m in
    elim (in_cons x xs z (back z (in_there y ys z m) lt)) [ inl e ↦ absurd (omega (arith, up, same, e)) | inr j ↦ j ]))
    (elim (in_cons y ys i there) [ inl e ↦ absurd (omega (arith, below, same, e)) | inr j ↦ j ]) in
    (rest.0, ap (λ z. z ∷ ys) (sym same) ∙ ap (λ l. x ∷ l) rest.1)

-- ---- where a branch is too large

module _ (ms : List Member) (wanted : List Need) (taken : List ℕ) where
  beyond_branches : (i l : ℕ) (bs cs : Branches) (rest : List ℕ) → AreCertified ms wanted taken bs → AreCertified ms wanted taken cs →
      ArePlain ms wanted taken bs → ArePlain ms wanted taken cs → branch_places cs ≡ branch_places bs ++ i ∷ rest → IsBeyondAt ms wanted taken i l →
      branch_nodes bs + l < branch_nodes cs
  beyond_branches i l none none rest c d h k e b = cc
  beyond_branches i l none (branch q s cs) rest c d h k e b =
      let head : q ≡ i = cc in
      let more : l < nodes s = b s (subst (λ z. IsFirstReason ms wanted taken z s) head k.0) (subst (λ z. IsCertified ms wanted (taken ++ z ∷ []) s) head d.0)
      (subst (λ z. IsPlain ms wanted (taken ++ z ∷ []) s) head k.1) in
      omega (arith, more)
  beyond_branches i l (branch p r bs) none rest c d h k e b = cc
  beyond_branches i l (branch p r bs) (branch q s cs) rest c d h k e b =
      let head : p ≡ q = cc in
      let tail : branch_places cs ≡ branch_places bs ++ i ∷ rest = cc in
      let d' = subst (λ z. IsCertified ms wanted (taken ++ z ∷ []) s) (sym head) d.0 in
      let k' = subst (λ z. IsPlain ms wanted (taken ++ z ∷ []) s) (sym head) k.1 in
      let f' = subst (λ z. IsFirstReason ms wanted taken z s) (sym head) k.0 in
      let kind = same_kind ms wanted taken p r s h.0 f' c.0 d' in
      let one : nodes r ≡ nodes s = same_nodes ms wanted (taken ++ p ∷ []) r s c.0 d' h.1 k' kind in
      let more : branch_nodes bs + l < branch_nodes cs = beyond_branches i l bs cs rest c.1 d.1 h.2 k.2 tail b in
      omega (arith, one, more)

  module _ (n : List ℕ) (i old l : ℕ) (used : List ℕ) (bs : List (ℕ × Why)) (next : IsNext ms wanted taken n) (g : AreBranchesSoFar ms wanted taken n i used bs)
      (named : name_of ms i ≡ Some n) (far : IsPlainSoFar ms wanted taken old l bs) (b : IsBeyondAt ms wanted taken i l) where
    so_far : AreCertified ms wanted taken (branches_seen bs)
    so_far = resting_holds ms wanted taken used (branches_seen bs) (resting_of ms wanted taken n used bs g.resting) taken g.within (λ x j. j)

    pub beyond_split : IsBeyond ms wanted taken old
    beyond_split (split m cs) e c h =
        let names : m ≡ n = next_same ms wanted taken m n h.0 next in
        let all : AreAllOf ms n (branch_places cs) = subst (λ k. AreAllOf ms k (branch_places cs)) names c.1 in
        let at = places_split (map (λ b. b.0) bs) (branch_places cs) i g.rising all.rising
        (λ x j. (let r = (g.all x).0 j in ((all.all x).1 r.0, r.1))) (λ x j lt. (g.all x).1 ((all.all x).0 j, lt)) ((all.all i).1 named) in
        let places : branch_places cs ≡ branch_places (branches_seen bs) ++ i ∷ at.0 = at.1 ∙ ap (λ ps. ps ++ i ∷ at.0) (sym (places_are bs)) in
        let more : branch_nodes (branches_seen bs) + l < branch_nodes cs =
        beyond_branches i l (branches_seen bs) cs at.0 so_far c.2 far.plain h.1 places b in
        let count = far.count in
        omega (arith, more, count)
    beyond_split (refused p by) e c h = cc
    beyond_split (loop ps) e c h = cc

-- ---- the split of all branches

module _ (ms : List Member) (wanted : List Need) (taken : List ℕ) (n : List ℕ) (f : Form) (old new : ℕ) (used : Vec ℕ Global)
    (v : Vec (ℕ × Why) Global) where
  pub split_found : AreBranchesSoFar ms wanted taken n (length ms) used.items v.items → (IsTaken ms taken n → ⊥) → (f ≡ form.Plain → IsNext ms wanted taken n) →
      (f ≡ form.Plain → IsPlainSoFar ms wanted taken old new v.items) → IsFound ms wanted f taken old new (Because (record { why = Split n v; used = used }))
  split_found g out next far =
      let e = sym (seen_split n v) in (
        subst (RestsOn ms wanted taken used.items) e (gathers_end ms wanted taken n used.items v.items g out),
        λ is. subst (IsPlainSplit ms wanted taken old new) e (let s = far is in record { splits = refl; plain = (next is, s.plain); count = s.count }),
      )

-- ---- from no place on

module _ (ms : List Member) (wanted : List Need) where
  pub explained_start : (f : Form) (old new : ℕ) (found : Found) → IsFound ms wanted f [] old new found → IsExplained ms wanted f old found
  explained_start f old new Valid h = h
  explained_start f old new TooLarge h = h
  explained_start f old new (Because part) h = (rests_certified ms wanted [] part.used.items (seen part.why) h.0, λ e. (h.1 e).plain)

  pub explains_plain : (part : Partial) → IsExplained ms wanted form.Plain 1024 (Because part) →
      HasUpTo 1024 (Because part) → IsExplanation ms wanted (seen part.why)
  explains_plain part h le = record { certified = h.0; plain = λ s c few. h.1 refl; small = omega (arith, le) }

  pub explains_small : (f : Form) (part : Partial) → IsExplained ms wanted form.Plain 1024 TooLarge → IsExplained ms wanted f 65536 (Because part) →
      HasUpTo 65536 (Because part) → IsExplanation ms wanted (seen part.why)
  explains_small f part far h le = record {
    certified = h.0;
    plain = λ s c few. (let more = far refl s (root_splits ms wanted s c.0) c.0 c.1 in absurd (omega (arith, more, few)));
    small = le;
  }

  pub no_set : (r : Reason) → IsExplanation ms wanted r → HasNoSet ms wanted
  no_set r h = λ s v. certified_out ms wanted [] r h.certified s v (λ x i. absurd (in_nil x i))
