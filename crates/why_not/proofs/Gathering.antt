-- Gathering the branches of a split.
use Rattle.std.proofs.Common.{◌≡◌, ℕ, ◌+◌, ◌<◌, List, [], ◌∷◌, ◌++◌, map, length, Some, refl, sym, ap, subst, inl, inr, arith}
use Rattle.std.specs.List.{Contains}
use Rattle.std.specs.List.Sorted.{IsStrictlyIncreasing}
use Rattle.std.proofs.lemmas.Bool.{cases_order}
use Rattle.std.proofs.lemmas.List.Elements.{Contains-append_left, Contains-push, Contains-push_cases}
use Rattle.nuc_base.proofs.Lists.{in_nil, in_here, in_there}
use Rattle.recipe_reader.specs.Members.{Need, Member}
use Rattle.recipe_reader.specs.Sets.{name_of, required_names, IsTaken}
use Rattle.recipe_reader.proofs.Searching.{within_from_name}
use Rattle.recipe_reader.proofs.ValidSets.{AreWithin}
use Rattle.why_not.specs.Reasons.{split, seen, branches_seen}
use Rattle.why_not.specs.Certificates.{AreAllOf, RestsOn}
use Rattle.why_not.specs.Gathers.{IsBranch, JoinsOthers, AreBranchesSoFar}
use Rattle.why_not.specs.declared.why.Why.{Why}
use Rattle.why_not.proofs.Resting.{AreResting, rest_none, rest_branch, rests_split, required_more}
use Rattle.recipe_reader.proofs.OneSet.{cons_rises}
use Rattle.recipe_reader.proofs.Preferring.{rise_head, rise_tail}
use Rattle.why_not.proofs.Seen.{places_are}

abbrev places : List (ℕ × Why) → List ℕ
places bs = map (λ b. b.0) bs

rising_push : (xs : List ℕ) (y : ℕ) → IsStrictlyIncreasing xs → ((x : ℕ) → Contains xs x → x < y) → IsStrictlyIncreasing (xs ++ y ∷ [])
rising_push [] y h below = cons_rises y [] (λ z i. absurd (in_nil z i)) h
rising_push (x ∷ xs) y h below = cons_rises x (xs ++ y ∷ [])
    (λ z i. elim (Contains-push_cases xs y z i) [
      | inl j ↦ rise_head x xs z h j
      | inr e ↦ subst (λ w. x < w) e (below x (in_here x xs))
    ])
    (rising_push xs y (rise_tail x xs h) (λ z i. below z (in_there x xs z i)))

places_push : (bs : List (ℕ × Why)) (b : ℕ × Why) → places (bs ++ b ∷ []) ≡ places bs ++ b.0 ∷ []
places_push [] b = refl
places_push (c ∷ bs) b = ap (λ ps. c.0 ∷ ps) (places_push bs b)

module _ (ms : List Member) (wanted : List Need) (taken : List ℕ) (n : List ℕ) where
  pub gathers_start : (used : List ℕ) → AreWithin used taken → Contains (required_names ms wanted used) n → AreBranchesSoFar ms wanted taken n 0 used []
  gathers_start used within required = record {
    within = within;
    required = required;
    resting = λ b i. absurd (in_nil b i);
    rising = λ k lt. absurd (omega (arith, lt));
    all = λ p. (λ i. absurd (in_nil p i), λ h. (let lt = h.1 in absurd (omega (arith, lt))));
  }

  -- no candidate of the name
  pub gathers_skip : (i : ℕ) (used : List ℕ) (bs : List (ℕ × Why)) → AreBranchesSoFar ms wanted taken n i used bs → (name_of ms i ≡ Some n → ⊥) →
      AreBranchesSoFar ms wanted taken n (i + 1) used bs
  gathers_skip i used bs g out = record {
    within = g.within;
    required = g.required;
    resting = g.resting;
    rising = g.rising;
    all = λ p. (
      λ j. (let r = (g.all p).0 j in let lt = r.1 in (r.0, omega (arith, lt))),
      λ h. (let lt = h.1 in elim (cases_order p i) [
        | inl same ↦ absurd (out (subst (λ z. name_of ms z ≡ Some n) same h.0))
        | inr (inl less) ↦ (g.all p).1 (h.0, less)
        | inr (inr more) ↦ absurd (omega (arith, lt, more))
      ]),
    );
  }

  branch_more : (used more : List ℕ) (b : ℕ × Why) → AreWithin used more → IsBranch ms wanted taken used b → IsBranch ms wanted taken more b
  branch_more used more b a h = record { own = h.own; rests = h.rests; others = λ x i. elim (h.others x i) [ inl e ↦ inl e | inr j ↦ inr (a x j) ] }

  -- a candidate of the name, and what its certificate rests on
  pub gathers_push : (i : ℕ) (used more own : List ℕ) (bs : List (ℕ × Why)) (why : Why) → AreBranchesSoFar ms wanted taken n i used bs → name_of ms i ≡ Some n →
      RestsOn ms wanted (taken ++ i ∷ []) own (seen why) → JoinsOthers i own used more → AreBranchesSoFar ms wanted taken n (i + 1) more (bs ++ (i, why) ∷ [])
  gathers_push i used more own bs why g named rests joins = record {
    within = λ x k. elim (joins.only x k) [
      | inl j ↦ g.within x j
      | inr both ↦ elim (Contains-push_cases taken i x (rests.within x both.0)) [ inl j ↦ j | inr e ↦ absurd (both.1 e) ]
    ];
    required = required_more ms wanted used more n joins.kept g.required;
    resting = λ b k. elim (Contains-push_cases bs (i, why) b k) [
      | inl j ↦ branch_more used more b joins.kept (g.resting b j)
      | inr e ↦ subst (IsBranch ms wanted taken more) e (record { own = own; rests = rests; others = joins.joined })
    ];
    rising = subst IsStrictlyIncreasing (sym (places_push bs (i, why))) (rising_push (places bs) i g.rising (λ x j. ((g.all x).0 j).1));
    all = λ p. (
      λ j. elim (Contains-push_cases (places bs) i p (subst (λ l. Contains l p) (places_push bs (i, why)) j)) [
        | inl k ↦ (let r = (g.all p).0 k in let lt = r.1 in (r.0, omega (arith, lt)))
        | inr e ↦ (subst (λ z. name_of ms z ≡ Some n) e named, omega (arith, e))
      ],
      λ h. (let lt = h.1 in subst (λ l. Contains l p) (sym (places_push bs (i, why))) (elim (cases_order p i) [
        | inl same ↦ subst (Contains (places bs ++ i ∷ [])) (sym same) (Contains-push (places bs) i)
        | inr (inl less) ↦ Contains-append_left (places bs) (i ∷ []) p ((g.all p).1 (h.0, less))
        | inr (inr more') ↦ absurd (omega (arith, lt, more'))
      ])),
    );
  }

  pub resting_of : (used : List ℕ) (bs : List (ℕ × Why)) → ((b : ℕ × Why) → Contains bs b → IsBranch ms wanted taken used b) →
      AreResting ms wanted taken used (branches_seen bs)
  resting_of used [] h = rest_none
  resting_of used (b ∷ bs) h = let one = h b (in_here b bs) in rest_branch one.own one.rests one.others (resting_of used bs (λ c i. h c (in_there b bs c i)))

  -- all candidates were tried
  pub gathers_end : (used : List ℕ) (bs : List (ℕ × Why)) → AreBranchesSoFar ms wanted taken n (length ms) used bs → (IsTaken ms taken n → ⊥) →
      RestsOn ms wanted taken used (split n (branches_seen bs))
  gathers_end used bs g out = rests_split ms wanted taken used n (branches_seen bs) g.within g.required out
      (subst (AreAllOf ms n) (sym (places_are bs)) (record {
        rising = g.rising;
        all = λ p. (λ i. ((g.all p).0 i).0, λ e. (g.all p).1 (e, within_from_name ms p n e));
      }))
      (resting_of used bs g.resting)
