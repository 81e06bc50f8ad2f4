-- Certificates as their reasons, case by case.
use Rattle.std.proofs.Common.{Option, ◌≡◌, ◌↔◌, ℕ, List, [], ◌∷◌, map, Bool, Result, Ok, Err, ap, sym, subst, ◌∙◌, refl, rules, Vec, Global}
use Rattle.std.specs.Prelude.{IsTrue, IfOk}
use Rattle.std.specs.List.{Contains}
use Rattle.recipe_reader.specs.Members.{Need, Member}
use Rattle.why_not.specs.Reasons.{split, refused, loop, seen, branches_seen, branch_places}
use Rattle.why_not.specs.Certificates.{IsOpen, AreAllOf, IsLoop, IsCertified, AreCertified}
use Rattle.why_not.specs.declared.why.Why.{Why, Split, Refused, Loop, the_lemmas}

pub seen_split : (n : List ℕ) (v : Vec (ℕ × Why) Global) → seen (Split n v) ≡ split n (branches_seen v.items)
seen_split n v = search (rules, the_lemmas)

pub seen_loop : (v : Vec ℕ Global) → seen (Loop v) ≡ loop v.items
seen_loop v = search (rules, the_lemmas)

pub places_are : (bs : List (ℕ × Why)) → branch_places (branches_seen bs) ≡ map (λ b. b.0) bs
places_are [] = refl
places_are (b ∷ bs) = ap (λ ps. b.0 ∷ ps) (places_are bs)

module _ (ms : List Member) (wanted : List Need) (taken : List ℕ) (why : Why) where
  pub is_split : (n : List ℕ) (v : Vec (ℕ × Why) Global) → why ≡ Split n v → seen why ≡ split n (branches_seen v.items)
  is_split n v is = ap seen is ∙ seen_split n v

  all_of : (n : List ℕ) (v : Vec (ℕ × Why) Global) → why ≡ Split n v → IsCertified ms wanted taken (seen why) → AreAllOf ms n (map (λ b. b.0) v.items)
  all_of n v is c = subst (AreAllOf ms n) (places_are v.items) ((subst (IsCertified ms wanted taken) (is_split n v is) c).1)

  pub not_all : (n : List ℕ) (v : Vec (ℕ × Why) Global) (places : List ℕ) → why ≡ Split n v → places ≡ map (λ b. b.0) v.items → (AreAllOf ms n places → ⊥) →
      IsCertified ms wanted taken (seen why) → ⊥
  not_all n v places is same out c = out (subst (AreAllOf ms n) (sym same) (all_of n v is c))

  split_both : (n : List ℕ) (v : Vec (ℕ × Why) Global) (places : List ℕ) → why ≡ Split n v → places ≡ map (λ b. b.0) v.items → IsOpen ms wanted taken n →
      AreAllOf ms n places → AreCertified ms wanted taken (branches_seen v.items) ↔ IsCertified ms wanted taken (seen why)
  split_both n v places is same o a = (
    λ h. subst (IsCertified ms wanted taken) (sym (is_split n v is)) (o, subst (AreAllOf ms n) (same ∙ sym (places_are v.items)) a, h),
    λ c. (subst (IsCertified ms wanted taken) (is_split n v is) c).2,
  )

  pub split_if : {E : Type 0} (n : List ℕ) (v : Vec (ℕ × Why) Global) (places : List ℕ) (r : Result Bool E) → why ≡ Split n v →
      places ≡ map (λ b. b.0) v.items → IsOpen ms wanted taken n → AreAllOf ms n places →
      IfOk r (λ yes. IsTrue yes ↔ AreCertified ms wanted taken (branches_seen v.items)) → IfOk r (λ yes. IsTrue yes ↔ IsCertified ms wanted taken (seen why))
  split_if n v places (Ok b) is same o a h = let both = split_both n v places is same o a in (λ t. both.0 (h.0 t), λ c. h.1 (both.1 c))
  split_if n v places (Err e) is same o a h = h

  pub loop_if : (v : Vec ℕ Global) (places held : List ℕ) (b : Bool) → why ≡ Loop v → places ≡ v.items → held ≡ taken →
      IsTrue b ↔ ((x : ℕ) → Contains places x → Contains held x) × IsLoop ms places → IsTrue b ↔ IsCertified ms wanted taken (seen why)
  loop_if v places held b is same held_is h = (
    λ t. subst (IsCertified ms wanted taken) (sym (ap seen is ∙ seen_loop v))
        (subst (λ (ps : List ℕ). ((x : ℕ) → Contains ps x → Contains taken x) × IsLoop ms ps) same
        (subst (λ ts. ((x : ℕ) → Contains places x → Contains ts x) × IsLoop ms places) held_is (h.0 t))),
    λ c. h.1 (subst (λ ts. ((x : ℕ) → Contains places x → Contains ts x) × IsLoop ms places) (sym held_is)
        (subst (λ (ps : List ℕ). ((x : ℕ) → Contains ps x → Contains taken x) × IsLoop ms ps) (sym same) (subst (IsCertified ms wanted taken) (ap seen is
        ∙ seen_loop v) c))),
  )

pub seen_refused : (p : ℕ) (by : Option ℕ) → seen (Refused p by) ≡ refused p by
seen_refused p by = search (rules, the_lemmas)
