-- A certificate leaves no valid set.
use Rattle.std.proofs.Common.{ℕ, List, [], ◌∷◌, ◌++◌, Option, Some, None, sym, subst, inl, inr}
use Rattle.std.specs.List.{Contains}
use Rattle.nuc_base.specs.Leads.{HasPath, direct, through}
use Rattle.nuc_base.proofs.Lists.{in_nil, in_cons, in_here, in_there}
use Rattle.recipe_reader.specs.Members.{Need, Member}
use Rattle.recipe_reader.specs.Sets.{HasDependency, IsValid}
use Rattle.recipe_reader.proofs.ValidSets.{AreWithin, member_for, consistent_of, within_push}
use Rattle.why_not.specs.Reasons.{Reason, Branches, split, refused, loop, none, branch, branch_places}
use Rattle.why_not.specs.Certificates.{IsRefused, DependsOn, AreChained, IsLoop, IsCertified, AreCertified}

refused_out : (ms : List Member) (wanted : List Need) (taken s : List ℕ) → IsValid ms wanted s → AreWithin taken s → (p : ℕ) (by : Option ℕ) →
    Contains taken p → IsRefused ms wanted taken p by → ⊥
refused_out ms wanted taken s v within p None i r = let c = consistent_of ms wanted s v in r.out (c.wanted_hold r.by r.is p (within p i) r.named)
refused_out ms wanted taken s v within p (Some q) i r =
    let c = consistent_of ms wanted s v in
    let a = r.1 in
    a.out (c.needs_hold q (within q r.0) a.by a.is p (within p i) a.named)

needs_from : (ms : List Member) (s : List ℕ) (p q : ℕ) → Contains s p → Contains s q → DependsOn ms p q → HasDependency ms s p q
needs_from ms s p q i j d = record { from = i; to = j; by = d.by; is = d.is; named = d.named }

chain_leads : (ms : List Member) (s : List ℕ) (p : ℕ) (qs : List ℕ) (first : ℕ) → AreWithin (p ∷ qs) s → Contains s first → AreChained ms p qs first →
    HasPath (HasDependency ms s) p first
chain_leads ms s p [] first within i h = direct (needs_from ms s p first (within p (in_here p [])) i h)
chain_leads ms s p (q ∷ qs) first within i h =
    through (needs_from ms s p q (within p (in_here p (q ∷ qs))) (within q (in_there p (q ∷ qs) q (in_here q qs))) h.0)
    (chain_leads ms s q qs first (λ x j. within x (in_there p (q ∷ qs) x j)) i h.1)

pub loop_out : (ms : List Member) (s ps : List ℕ) → ((p : ℕ) → HasPath (HasDependency ms s) p p → ⊥) → AreWithin ps s → IsLoop ms ps → ⊥
loop_out ms s [] acyclic within h = h
loop_out ms s (p ∷ ps) acyclic within h = acyclic p (chain_leads ms s p ps p within (within p (in_here p ps)) h)

mutual
  pub certified_out : (ms : List Member) (wanted : List Need) (taken : List ℕ) (r : Reason) → IsCertified ms wanted taken r → (s : List ℕ) →
      IsValid ms wanted s → AreWithin taken s → ⊥
  certified_out ms wanted taken (split n bs) c s v within =
      let open' = c.0 in
      let all = c.1 in
      let m = member_for ms wanted s taken n v within open'.required in
      branch_out ms wanted taken bs c.2 s v within m.0 ((all.all m.0).1 m.2) m.1
  certified_out ms wanted taken (refused p by) c s v within = refused_out ms wanted taken s v within p by c.0 c.1
  certified_out ms wanted taken (loop ps) c s v within = loop_out ms s ps v.acyclic (λ x i. within x (c.0 x i)) c.1

  branch_out : (ms : List Member) (wanted : List Need) (taken : List ℕ) (bs : Branches) → AreCertified ms wanted taken bs → (s : List ℕ) →
      IsValid ms wanted s → AreWithin taken s → (p : ℕ) → Contains (branch_places bs) p → Contains s p → ⊥
  branch_out ms wanted taken none c s v within p i j = in_nil p i
  branch_out ms wanted taken (branch q r bs) c s v within p i j = elim (in_cons q (branch_places bs) p i) [
    | inl e ↦ certified_out ms wanted (taken ++ q ∷ []) r c.0 s v (within_push taken s q within (subst (Contains s) (sym e) j))
    | inr k ↦ branch_out ms wanted taken bs c.1 s v within p k j
  ]
