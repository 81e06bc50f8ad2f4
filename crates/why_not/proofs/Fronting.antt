-- The names that are open, as places are taken.
use Rattle.std.proofs.Common.{◌≡◌, ◌⊎◌, ◌↔◌, ℕ, ◌+◌, ◌<◌, List, [], ◌∷◌, ◌++◌, length, get_or, take, map, Option, Some, None, sym, ap, ◌∙◌, subst, inl, inr}
use denote.Bor.{Bor}
use Rattle.std.specs.List.{Contains}
use Rattle.std.proofs.lemmas.List.{append-nil, map-append, take_more}
use Rattle.std.proofs.lemmas.List.Elements.{Contains-append_left, Contains-push, Contains-push_cases}
use Rattle.nuc_base.proofs.Lists.{in_nil, in_map, from_map}
use Rattle.recipe_reader.specs.Members.{Need, Member}
use Rattle.recipe_reader.specs.Sets.{name_of, needs_of, required_names, IsTaken}
use Rattle.recipe_reader.proofs.Required.{required_from, required_by_wanted, required_by_need, taken_more}
use Rattle.why_not.specs.Certificates.{IsOpen}
use Rattle.why_not.specs.Fronts.{listed, IsFront, LeavesOut, AddsOpen}
use Rattle.why_not.specs.Picks.{IsPick}
use Rattle.why_not.specs.declared.choosing.Form.{Form}
use Rattle.why_not.specs.declared.choosing.Pick.{Pick}
use Rattle.why_not.proofs.Picking.{required_none_taken}

-- ---- lists of references

pub listed_push : (xs : List (Bor (List ℕ))) (x : Bor (List ℕ)) → listed (xs ++ x ∷ []) ≡ listed xs ++ x.now ∷ []
listed_push xs x = map-append (λ (n : Bor (List ℕ)). n.now) xs (x ∷ [])

pub listed_more : (xs : List (Bor (List ℕ))) (i : ℕ) (d : Bor (List ℕ)) → i < length xs →
    listed (take (i + 1) xs) ≡ listed (take i xs) ++ (get_or xs i d).now ∷ []
listed_more xs i d lt = ap listed (take_more xs i d lt) ∙ listed_push (take i xs) (get_or xs i d)

pub listed_in : (xs : List (Bor (List ℕ))) (i : ℕ) (x : Bor (List ℕ)) → i < length xs → x ≡ get_or xs i x → Contains (listed xs) x.now
listed_in xs i x lt is = in_map (λ (n : Bor (List ℕ)). n.now) xs x (i, lt, sym is)

-- ---- the front

pub front_start : (ms : List Member) (wanted : List Need) (names : List (List ℕ)) →
    ((n : List ℕ) → Contains names n ↔ Contains (map (λ (w : Need). w.name) wanted) n) → IsFront ms wanted [] names
front_start ms wanted names same = record {
  are_open = λ n i. record {
    required = subst (λ l. Contains l n) (required_none_taken ms wanted) ((same n).0 i);
    untaken = λ t. in_nil t.0 t.1;
  };
  all = λ n i. inr ((same n).1 (subst (λ l. Contains l n) (sym (required_none_taken ms wanted)) i));
}

module _ (ms : List Member) (wanted : List Need) (before : List ℕ) (p : ℕ) where
  required_more : (n : List ℕ) → Contains (required_names ms wanted before) n → Contains (required_names ms wanted (before ++ p ∷ [])) n
  required_more n i = elim (required_from ms wanted before n i) [
    | inl r ↦ subst (Contains (required_names ms wanted (before ++ p ∷ []))) r.2 (required_by_wanted ms wanted (before ++ p ∷ []) r.0 r.1)
    | inr r ↦ subst (Contains (required_names ms wanted (before ++ p ∷ []))) r.4
        (required_by_need ms wanted (before ++ p ∷ []) r.0 r.1 (Contains-append_left before (p ∷ []) r.0 r.2) r.3)
  ]

  -- a name that is required with the place was required before, or the place needs it
  required_less : (n : List ℕ) → Contains (required_names ms wanted (before ++ p ∷ [])) n →
      Contains (required_names ms wanted before) n ⊎ ((d : Need) × Contains (needs_of ms p) d × (d.name ≡ n))
  required_less n i = elim (required_from ms wanted (before ++ p ∷ []) n i) [
    | inl r ↦ inl (subst (Contains (required_names ms wanted before)) r.2 (required_by_wanted ms wanted before r.0 r.1))
    | inr r ↦ elim (Contains-push_cases before p r.0 r.2) [
      | inl j ↦ inl (subst (Contains (required_names ms wanted before)) r.4 (required_by_need ms wanted before r.0 r.1 j r.3))
      | inr e ↦ inr (r.1, subst (λ q. Contains (needs_of ms q) r.1) (sym e) r.3, r.4)
    ]
  ]

  module _ (old mid new needed : List (List ℕ)) (is : needed ≡ map (λ (d : Need). d.name) (needs_of ms p)) (h : IsFront ms wanted before old)
      (leaves : LeavesOut ms p old mid) (adds : AddsOpen ms (before ++ p ∷ []) needed mid new) where
    open_after : (n : List ℕ) → Contains new n → IsOpen ms wanted (before ++ p ∷ []) n
    open_after n i = elim (adds.only n i) [
      | inl m ↦ (let k = leaves.only n m in let o = h.are_open n k.0 in record {
        required = required_more n o.required;
        untaken = λ t. elim (Contains-push_cases before p t.0 t.1) [
          | inl j ↦ o.untaken (t.0, j, t.2)
          | inr e ↦ k.1 (ap (name_of ms) e ∙ t.2)
        ];
      })
      | inr m ↦ (let r = from_map (λ (d : Need). d.name) (needs_of ms p) n (subst (λ l. Contains l n) is m.0) in record {
        required = subst (Contains (required_names ms wanted (before ++ p ∷ []))) r.2
            (required_by_need ms wanted (before ++ p ∷ []) p r.0 (Contains-push before p) r.1);
        untaken = m.1;
      })
    ]

    all_old : (n : List ℕ) → Contains (required_names ms wanted before) n → IsTaken ms (before ++ p ∷ []) n ⊎ Contains new n
    all_old n i = elim (h.all n i) [
      | inl t ↦ inl (taken_more ms before (p ∷ []) n t)
      | inr o ↦ elim (leaves.all n o) [ inl e ↦ inl (p, Contains-push before p, e) | inr m ↦ inr (adds.kept n m) ]
    ]

    pub front_after : IsFront ms wanted (before ++ p ∷ []) new
    front_after = record {
      are_open = open_after;
      all = λ n i. elim (required_less n i) [
        | inl j ↦ all_old n j
        | inr r ↦ adds.all n (subst (λ l. Contains l n) (sym is) (subst (Contains (map (λ (d : Need). d.name) (needs_of ms p))) r.2
            (in_map (λ (d : Need). d.name) (needs_of ms p) r.0 r.1)))
      ];
    }

-- ---- one name more

pub same_none : (n : List ℕ) → Contains {X = List ℕ} [] n ↔ Contains {X = List ℕ} [] n
same_none n = (λ i. i, λ i. i)

pub same_more : (old new names : List (List ℕ)) (m : List ℕ) → ((n : List ℕ) → Contains old n ↔ Contains names n) →
    ((n : List ℕ) → Contains new n ↔ Contains old n ⊎ (m ≡ n)) → (n : List ℕ) → Contains new n ↔ Contains (names ++ m ∷ []) n
same_more old new names m same more n = (
  λ i. elim ((more n).0 i) [
    | inl j ↦ Contains-append_left names (m ∷ []) n ((same n).0 j)
    | inr e ↦ subst (Contains (names ++ m ∷ [])) e (Contains-push names m)
  ],
  λ i. elim (Contains-push_cases names m n i) [ inl j ↦ (more n).1 (inl ((same n).1 j)) | inr e ↦ (more n).1 (inr e) ],
)

module _ (ms : List Member) where
  pub leaves_none : (place : ℕ) → LeavesOut ms place [] []
  leaves_none place = record { only = λ n i. absurd (in_nil n i); all = λ n i. absurd (in_nil n i) }

  pub leaves_kept : (place : ℕ) (old new : List (List ℕ)) (m : List ℕ) → (name_of ms place ≡ Some m → ⊥) → LeavesOut ms place old new →
      LeavesOut ms place (old ++ m ∷ []) (new ++ m ∷ [])
  leaves_kept place old new m other h = record {
    only = λ n i. elim (Contains-push_cases new m n i) [
      | inl j ↦ (let k = h.only n j in (Contains-append_left old (m ∷ []) n k.0, k.1))
      | inr e ↦ (subst (Contains (old ++ m ∷ [])) e (Contains-push old m), λ f. other (f ∙ ap Some (sym e)))
    ];
    all = λ n i. elim (Contains-push_cases old m n i) [
      | inl j ↦ elim (h.all n j) [ inl e ↦ inl e | inr k ↦ inr (Contains-append_left new (m ∷ []) n k) ]
      | inr e ↦ inr (subst (Contains (new ++ m ∷ [])) e (Contains-push new m))
    ];
  }

  pub leaves_out : (place : ℕ) (old new : List (List ℕ)) (m : List ℕ) → name_of ms place ≡ Some m → LeavesOut ms place old new →
      LeavesOut ms place (old ++ m ∷ []) new
  leaves_out place old new m is h = record {
    only = λ n i. (let k = h.only n i in (Contains-append_left old (m ∷ []) n k.0, k.1));
    all = λ n i. elim (Contains-push_cases old m n i) [ inl j ↦ h.all n j | inr e ↦ inl (is ∙ ap Some e) ];
  }

  pub adds_none : (taken : List ℕ) (old : List (List ℕ)) → AddsOpen ms taken [] old old
  adds_none taken old = record { kept = λ n i. i; only = λ n i. inl i; all = λ n i. absurd (in_nil n i) }

  pub adds_open : (taken : List ℕ) (needed old mid new : List (List ℕ)) (m : List ℕ) → (IsTaken ms taken m → ⊥) →
      ((n : List ℕ) → Contains new n ↔ Contains mid n ⊎ (m ≡ n)) → AddsOpen ms taken needed old mid → AddsOpen ms taken (needed ++ m ∷ []) old new
  adds_open taken needed old mid new m out more h = record {
    kept = λ n i. (more n).1 (inl (h.kept n i));
    only = λ n i. elim ((more n).0 i) [
      | inl j ↦ elim (h.only n j) [ inl k ↦ inl k | inr k ↦ inr (Contains-append_left needed (m ∷ []) n k.0, k.1) ]
      | inr e ↦ inr (subst (Contains (needed ++ m ∷ [])) e (Contains-push needed m), λ t. out (subst (IsTaken ms taken) (sym e) t))
    ];
    all = λ n i. elim (Contains-push_cases needed m n i) [
      | inl j ↦ elim (h.all n j) [ inl t ↦ inl t | inr k ↦ inr ((more n).1 (inl k)) ]
      | inr e ↦ inr ((more n).1 (inr e))
    ];
  }

  pub adds_taken : (taken : List ℕ) (needed old new : List (List ℕ)) (m : List ℕ) → IsTaken ms taken m → AddsOpen ms taken needed old new →
      AddsOpen ms taken (needed ++ m ∷ []) old new
  adds_taken taken needed old new m t h = record {
    kept = h.kept;
    only = λ n i. elim (h.only n i) [ inl k ↦ inl k | inr k ↦ inr (Contains-append_left needed (m ∷ []) n k.0, k.1) ];
    all = λ n i. elim (Contains-push_cases needed m n i) [ inl j ↦ h.all n j | inr e ↦ inl (subst (IsTaken ms taken) e t) ];
  }

-- ---- a pick of the front is one of the required names

pub pick_required : (ms : List Member) (wanted : List Need) (form : Form) (taken : List ℕ) (names : List (List ℕ)) (pick : Option Pick) →
    IsFront ms wanted taken names → IsPick ms form taken names pick → IsPick ms form taken (required_names ms wanted taken) pick
pick_required ms wanted form taken names None front h = λ n i. elim (front.all n i) [ inl t ↦ t | inr j ↦ h n j ]
pick_required ms wanted form taken names (Some p) front h = record {
  listed = (front.are_open p.name.now h.listed).required;
  untaken = h.untaken;
  uncounted = h.uncounted;
  least = λ e. (let l = h.least e in record {
    listed = (front.are_open p.name.now h.listed).required;
    untaken = h.untaken;
    least = λ m i out. elim (front.all m i) [ inl t ↦ absurd (out t) | inr j ↦ l.least m j out ];
  });
}
