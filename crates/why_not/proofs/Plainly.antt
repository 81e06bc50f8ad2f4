-- Plain certificates differ in the loops that they name alone.
use Rattle.std.proofs.Common.{◌≡◌, ℕ, ◌+◌, true, List, [], ◌∷◌, ◌++◌, Option, Some, None, refl, sym, ap, ◌∙◌, subst, inl, inr}
use Rattle.std.specs.List.{Contains}
use Rattle.std.proofs.lemmas.List.Elements.{Contains-append_right}
use Rattle.nuc_base.proofs.Lists.{in_nil, in_here}
use Rattle.recipe_reader.specs.Members.{Need, Member}
use Rattle.recipe_reader.proofs.Searching.{next_same}
use Rattle.why_not.specs.Reasons.{Reason, Branches, split, refused, loop, none, branch, branch_places, is_split, nodes, branch_nodes}
use Rattle.why_not.specs.Certificates.{AreAllOf, IsAgainst, IsCertified, AreCertified}
use Rattle.why_not.specs.Plain.{IsFirstReason, NoneAgainst, RefusesNone, IsPlain, ArePlain, IsPlainCertificate}
use Rattle.recipe_reader.proofs.Preferring.{same_rising}

-- ---- the candidates of a name are one list

pub same_places : (ms : List Member) (n m : List ℕ) (xs ys : List ℕ) → n ≡ m → AreAllOf ms n xs → AreAllOf ms m ys → xs ≡ ys
same_places ms n m xs ys e a b =
    let b' = subst (λ k. AreAllOf ms k ys) (sym e) b in
    same_rising xs ys a.rising b'.rising (λ x i. (b'.all x).1 ((a.all x).0 i)) (λ x i. (a.all x).1 ((b'.all x).0 i))

-- ---- a reason is a leaf or not, whatever the loop

pub in_middle : (taken before after : List ℕ) (q : ℕ) → taken ≡ before ++ q ∷ after → Contains taken q
in_middle taken before after q e = subst (λ l. Contains l q) (sym e) (Contains-append_right before (q ∷ after) q (in_here q after))

not_refused : (ms : List Member) (wanted : List Need) (taken : List ℕ) (p q : ℕ) (by : Option ℕ) → (IsAgainst ms wanted p → ⊥) → NoneAgainst ms taken p →
    RefusesNone ms taken p → IsFirstReason ms wanted taken p (refused q by) → ⊥
not_refused ms wanted taken p q None a b d h = a h.1
not_refused ms wanted taken p q (Some by) a b d h = elim h.1 [
  | inl i ↦ (let f = i.1 in b by (in_middle taken f.0 f.1 by f.2) f.3)
  | inr i ↦ (let f = i.2 in d q (in_middle taken f.0 f.1 q f.2) f.3)
]

pub same_kind : (ms : List Member) (wanted : List Need) (taken : List ℕ) (p : ℕ) (r s : Reason) → IsFirstReason ms wanted taken p r →
    IsFirstReason ms wanted taken p s → IsCertified ms wanted (taken ++ p ∷ []) r → IsCertified ms wanted (taken ++ p ∷ []) s → is_split r ≡ is_split s
same_kind ms wanted taken p (split n bs) (split m cs) h k c d = refl
same_kind ms wanted taken p (split n bs) (refused q by) h k c d = absurd (not_refused ms wanted taken p q by h.0 h.1 h.2 k)
same_kind ms wanted taken p (split n bs) (loop ps) h k c d = absurd (h.3 ps d)
same_kind ms wanted taken p (refused q by) (split m cs) h k c d = absurd (not_refused ms wanted taken p q by k.0 k.1 k.2 h)
same_kind ms wanted taken p (refused q by) (refused q' by') h k c d = refl
same_kind ms wanted taken p (refused q by) (loop ps) h k c d = refl
same_kind ms wanted taken p (loop ps) (split m cs) h k c d = absurd (k.3 ps c)
same_kind ms wanted taken p (loop ps) (refused q by) h k c d = refl
same_kind ms wanted taken p (loop ps) (loop qs) h k c d = refl

-- ---- so the number of nodes is the same

mutual
  pub same_nodes : (ms : List Member) (wanted : List Need) (taken : List ℕ) (r s : Reason) → IsCertified ms wanted taken r → IsCertified ms wanted taken s →
      IsPlain ms wanted taken r → IsPlain ms wanted taken s → is_split r ≡ is_split s → nodes r ≡ nodes s
  same_nodes ms wanted taken (split n bs) (split m cs) c d h k e =
      let names = next_same ms wanted taken n m h.0 k.0 in
      let places = same_places ms n m (branch_places bs) (branch_places cs) names c.1 d.1 in
      ap (λ x. 1 + x) (same_branches ms wanted taken bs cs c.2 d.2 h.1 k.1 places)
  same_nodes ms wanted taken (split n bs) (refused q by) c d h k e = cc
  same_nodes ms wanted taken (split n bs) (loop ps) c d h k e = cc
  same_nodes ms wanted taken (refused q by) (split m cs) c d h k e = cc
  same_nodes ms wanted taken (refused q by) (refused q' by') c d h k e = refl
  same_nodes ms wanted taken (refused q by) (loop ps) c d h k e = refl
  same_nodes ms wanted taken (loop ps) (split m cs) c d h k e = cc
  same_nodes ms wanted taken (loop ps) (refused q by) c d h k e = refl
  same_nodes ms wanted taken (loop ps) (loop qs) c d h k e = refl

  same_branches : (ms : List Member) (wanted : List Need) (taken : List ℕ) (bs cs : Branches) → AreCertified ms wanted taken bs →
      AreCertified ms wanted taken cs → ArePlain ms wanted taken bs → ArePlain ms wanted taken cs → branch_places bs ≡ branch_places cs →
      branch_nodes bs ≡ branch_nodes cs
  same_branches ms wanted taken none none c d h k e = refl
  same_branches ms wanted taken none (branch q s cs) c d h k e = cc
  same_branches ms wanted taken (branch p r bs) none c d h k e = cc
  same_branches ms wanted taken (branch p r bs) (branch q s cs) c d h k e =
      let head : p ≡ q = cc in
      let tail : branch_places bs ≡ branch_places cs = cc in
      let d' = subst (λ z. IsCertified ms wanted (taken ++ z ∷ []) s) (sym head) d.0 in
      let k' = subst (λ z. IsPlain ms wanted (taken ++ z ∷ []) s) (sym head) k.1 in
      let f' = subst (λ z. IsFirstReason ms wanted taken z s) (sym head) k.0 in
      let kind = same_kind ms wanted taken p r s h.0 f' c.0 d' in
      let one = same_nodes ms wanted (taken ++ p ∷ []) r s c.0 d' h.1 k' kind in
      let rest = same_branches ms wanted taken bs cs c.1 d.1 h.2 k.2 tail in
      ap (λ x. x + branch_nodes bs) one ∙ ap (λ x. nodes s + x) rest

pub root_splits : (ms : List Member) (wanted : List Need) (r : Reason) → IsCertified ms wanted [] r → is_split r ≡ true
root_splits ms wanted (split n bs) c = refl
root_splits ms wanted (refused p by) c = absurd (in_nil p c.0)
root_splits ms wanted (loop []) c = absurd c.1
root_splits ms wanted (loop (p ∷ ps)) c = absurd (in_nil p (c.0 p (in_here p ps)))

pub plain_nodes : (ms : List Member) (wanted : List Need) (r s : Reason) → IsPlainCertificate ms wanted r → IsPlainCertificate ms wanted s → nodes r ≡ nodes s
plain_nodes ms wanted r s h k = same_nodes ms wanted [] r s h.0 k.0 h.1 k.1 (root_splits ms wanted r h.0 ∙ sym (root_splits ms wanted s k.0))
