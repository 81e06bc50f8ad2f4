-- The first reason against a place.
use Rattle.std.proofs.Common.{◌≡◌, ℕ, ◌+◌, ◌<◌, true, List, Option, [], ◌∷◌, ◌++◌, length, get_or, take, drop, Some, None, refl, sym, ap, ◌∙◌, append_assoc}
use Rattle.std.proofs.Common.{subst, inl, inr, Vec, Global}
use Rattle.std.specs.List.{Contains}
use Rattle.std.proofs.lemmas.List.{take_more, take-append-drop}
use Rattle.recipe_reader.specs.Members.{Need, Member}
use Rattle.recipe_reader.specs.Sets.{needs_of}
use Rattle.recipe_reader.specs.Searches.{IsSuited}
use Rattle.why_not.specs.Reasons.{Reason, split, refused, loop, is_split, seen}
use Rattle.why_not.specs.Certificates.{IsAgainst, IsCertified}
use Rattle.why_not.specs.Ends.{HasNoRange, FitsWith}
use Rattle.why_not.specs.Plain.{IsFirstAgainst, NoneAgainst, IsFirstRefusedBy, RefusesNone, IsFirstReason, IsFirstLeaf}
use Rattle.why_not.specs.declared.why.Why.{Refused, Loop}
use Rattle.why_not.proofs.Plainly.{in_middle}
use Rattle.why_not.proofs.Seen.{seen_refused, seen_loop}
use Rattle.why_not.proofs.Soundness.{loop_out}

pub suits_not_against : (ms : List Member) (needs : List Need) (p : ℕ) → IsSuited ms needs p → IsAgainst ms needs p → ⊥
suits_not_against ms needs p h a = a.out (h a.by a.is a.named)

split_at : (xs : List ℕ) (i : ℕ) → i < length xs → xs ≡ take i xs ++ get_or xs i 0 ∷ drop (i + 1) xs
split_at xs i lt =
    sym (take-append-drop (i + 1) xs) ∙ ap (λ l. l ++ drop (i + 1) xs) (take_more xs i 0 lt) ∙ append_assoc (take i xs) (get_or xs i 0 ∷ []) (drop (i + 1) xs)

module _ (ms : List Member) (taken : List ℕ) (p i : ℕ) (lt : i < length taken) where
  pub first_against_at : ((q : ℕ) → Contains (take i taken) q → IsSuited ms (needs_of ms q) p) → IsAgainst ms (needs_of ms (get_or taken i 0)) p →
      IsFirstAgainst ms taken p (get_or taken i 0)
  first_against_at h a =
      (take i taken, drop (i + 1) taken, split_at taken i lt, a, λ x j. suits_not_against ms (needs_of ms x) p (h x j))

  pub first_unfit_at : ((q : ℕ) → Contains (take i taken) q → IsSuited ms (needs_of ms p) q) → IsAgainst ms (needs_of ms p) (get_or taken i 0) →
      IsFirstRefusedBy ms taken p (get_or taken i 0)
  first_unfit_at h a =
      (take i taken, drop (i + 1) taken, split_at taken i lt, a, λ x j. suits_not_against ms (needs_of ms p) x (h x j))

module _ (ms : List Member) (taken : List ℕ) (p q : ℕ) where
  pub first_against_in : IsFirstAgainst ms taken p q → Contains taken q
  first_against_in f = in_middle taken f.0 f.1 q f.2

  pub first_unfit_in : IsFirstRefusedBy ms taken p q → Contains taken q
  first_unfit_in f = in_middle taken f.0 f.1 q f.2

-- ---- the first leaf

module _ (ms : List Member) (wanted : List Need) (taken : List ℕ) (p : ℕ) where
  pub first_wanted : IsAgainst ms wanted p → IsFirstLeaf ms wanted taken p (seen (Refused p None))
  first_wanted a = subst (IsFirstLeaf ms wanted taken p) (sym (seen_refused p None)) (record { first = (refl, a); leaf = refl })

  pub first_by : (q : ℕ) → IsSuited ms wanted p → IsFirstAgainst ms taken p q → IsFirstLeaf ms wanted taken p (seen (Refused p (Some q)))
  first_by q suits f = subst (IsFirstLeaf ms wanted taken p) (sym (seen_refused p (Some q)))
      (record { first = (suits_not_against ms wanted p suits, inl (refl, f)); leaf = refl })

  none_against : ((q : ℕ) → Contains taken q → IsSuited ms (needs_of ms q) p) → NoneAgainst ms taken p
  none_against h = λ x i. suits_not_against ms (needs_of ms x) p (h x i)

  refuses_none : ((q : ℕ) → Contains taken q → IsSuited ms (needs_of ms p) q) → RefusesNone ms taken p
  refuses_none h = λ x i. suits_not_against ms (needs_of ms p) x (h x i)

  pub first_on : (q : ℕ) → IsSuited ms wanted p → ((x : ℕ) → Contains taken x → IsSuited ms (needs_of ms x) p) → IsFirstRefusedBy ms taken p q →
      IsFirstLeaf ms wanted taken p (seen (Refused q (Some p)))
  first_on q suits none f = subst (IsFirstLeaf ms wanted taken p) (sym (seen_refused q (Some p)))
      (record { first = (suits_not_against ms wanted p suits, inr (refl, none_against none, f)); leaf = refl })

  pub first_loop : (v : Vec ℕ Global) → HasNoRange ms wanted taken p → IsFirstLeaf ms wanted taken p (seen (Loop v))
  first_loop v h = subst (IsFirstLeaf ms wanted taken p) (sym (seen_loop v))
      (record { first = (suits_not_against ms wanted p h.wanted_hold, none_against h.asked_hold, refuses_none h.needs_hold); leaf = refl })

  no_loop : FitsWith ms wanted taken p → (ps : List ℕ) → IsCertified ms wanted (taken ++ p ∷ []) (loop ps) → ⊥
  no_loop h ps c = loop_out ms (taken ++ p ∷ []) ps h.acyclic c.0 c.1

  -- where nothing stands against the place, a split is the first reason
  pub first_split : (r : Reason) → FitsWith ms wanted taken p → is_split r ≡ true → IsFirstReason ms wanted taken p r
  first_split (split n bs) h e =
      let r = h.ranges in
      (suits_not_against ms wanted p r.wanted_hold, none_against r.asked_hold, refuses_none r.needs_hold, no_loop h)
  first_split (refused q by) h e = cc
  first_split (loop ps) h e = cc

  not_refused_here : (q : ℕ) (by : Option ℕ) → HasNoRange ms wanted taken p → IsFirstReason ms wanted taken p (refused q by) → ⊥
  not_refused_here q None h f = suits_not_against ms wanted p h.wanted_hold f.1
  not_refused_here q (Some by) h f = elim f.1 [
    | inl i ↦ (let a = i.1 in suits_not_against ms (needs_of ms by) p (h.asked_hold by (first_against_in ms taken p by a)) a.3)
    | inr i ↦ (let a = i.2 in suits_not_against ms (needs_of ms p) q (h.needs_hold q (first_unfit_in ms taken p q a)) a.3)
  ]

  -- and any first reason is a split
  pub first_splits : (r : Reason) → FitsWith ms wanted taken p → IsFirstReason ms wanted taken p r → IsCertified ms wanted (taken ++ p ∷ []) r →
      is_split r ≡ true
  first_splits (split n bs) h f c = refl
  first_splits (refused q by) h f c = absurd (not_refused_here q by h.ranges f)
  first_splits (loop ps) h f c = absurd (no_loop h ps c)
