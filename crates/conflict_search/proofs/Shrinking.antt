-- Domains shrink, and the walk goes on.
use Rattle.std.proofs.Common.{◌≡◌, ◌≢◌, ℕ, ◌+◌, ◌-◌, ◌*◌, ◌<◌, ◌≤◌, ◌⊎◌, length, get_or, List, [], ◌∷◌, ◌++◌, Some, refl, sym, ap, ◌∙◌, subst, inl, inr, arith}
use Rattle.std.proofs.Common.{append_assoc}
use Rattle.std.specs.List.{Contains}
use Rattle.std.proofs.lemmas.Bool.{cases_eq}
use Rattle.std.proofs.lemmas.Option.{same_Some}
use Rattle.std.proofs.lemmas.List.{get_or_default}
use Rattle.std.proofs.lemmas.List.Elements.{Contains-append_left, Contains-push}
use Rattle.recipe_reader.specs.Members.{Need, Member, IsRising}
use Rattle.recipe_reader.specs.Sets.{name_of, required_names, IsNext, IsWalk}
use Rattle.recipe_reader.specs.Searches.{IsConsistent, HasNone, IsBest}
use Rattle.recipe_reader.proofs.Required.{required_from, required_by_wanted, required_by_need}
use Rattle.recipe_reader.proofs.Searching.{AreTried, best_found}
use Rattle.recipe_reader.proofs.ValidSets.{complete_from}
use Rattle.conflict_search.specs.Numbers.{IsNumber, IsNumberAt, IsFirstPlace}
use Rattle.conflict_search.specs.Conflicts.{CannotStand, IsPrefix}
use Rattle.conflict_search.specs.Terms.{Has, IsValue, IsTerm, Stands, Meets, IsNogood, IsSound, IsWithin, AreOthersWithin, IsLeft, IsGreatestLeft, GoesOn}
use Rattle.conflict_search.specs.declared.terms.Term.{Term}
use Rattle.conflict_search.proofs.Learning.{AreTogether, value_of, value_within, value_there, value_covered, value_same}

module _ (ms : List Member) (wanted : List Need) where
  -- all values of all names
  pub begins_sound : (taken row : List ℕ) → ((n : List ℕ) (f : ℕ) → IsFirstPlace ms n f → Has row (64 * f)) →
      ((n : List ℕ) (f p : ℕ) → IsFirstPlace ms n f → name_of ms p ≡ Some n → Has row (64 * f + (p + 1 - f))) → IsSound ms wanted taken row
  begins_sound taken row absent places = record {
    has = λ walk s within f v h. elim h.choice [
      | inl x ↦ (let e : 64 * f ≡ 64 * f + v = (let z = x.0 in omega (arith, z)) in subst (Has row) e (absent h.name f h.is))
      | inr x ↦ subst (λ w. Has row (64 * f + w)) (sym x.3) (places h.name f x.0 h.is x.2)
    ];
  }

  -- what a nogood says may be taken
  pub takes_soundly : (taken old new : List ℕ) (terms : List Term) (at : ℕ) (t : Term) → AreTogether ms → IsSound ms wanted taken old →
      IsNogood ms wanted terms → at < length terms → get_or terms at t ≡ t → AreOthersWithin old terms at →
      ((v : ℕ) → Has old v → Has new v ⊎ ((64 * t.from ≤ v) × Has t.set.items (v - 64 * t.from))) → IsSound ms wanted taken new
  takes_soundly taken old new terms at t together sound bad lt is others kept = record {
    has = λ walk s within f v h.
        (let here : Contains terms t = (at, lt, is) in
        let term = bad.sets t here in
        elim (kept (64 * f + v) (sound.has walk s within f v h)) [
          | inl stays ↦ stays
          | inr gone ↦ (let e = value_there ms together walk f v t h term gone.0 gone.1 in
              let w : 64 * f + v - 64 * t.from ≡ v = omega (arith, e) in
              absurd (bad.none walk s (λ u i. elim (cases_eq i.0 at) [
                | inl k ↦ (let same : t ≡ u = sym (subst (λ k. get_or terms k t ≡ t) (sym k) is) ∙ get_or_default terms i.0 t u i.1 ∙ i.2 in
                    subst (Meets ms walk) same (v, subst (λ g. IsValue ms walk g v) e h, subst (Has t.set.items) w gone.1))
                | inr ne ↦ (let other = bad.sets u i in
                    let o = value_of ms walk other.name u.from other.is in
                    (o.0, o.1, subst (IsWithin old) i.2 (others i.0 u i.1 ne) o.0 (value_covered ms walk o.0 u o.1 other) (sound.has walk s within u.from o.0 o.1)))
              ])))
        ]);
  }

  -- where a place is taken, all else may be taken of its name
  pub decides_soundly : (taken old new : List ℕ) (n : List ℕ) (p : ℕ) (t : Term) → AreTogether ms → IsSound ms wanted taken old → Contains taken p →
      IsTerm ms t → IsFirstPlace ms n t.from → name_of ms p ≡ Some n → Has t.set.items (p + 1 - t.from) →
      ((v : ℕ) → Has old v → Has new v ⊎ ((64 * t.from ≤ v) × (v - 64 * t.from < 64 * length t.set.items) × (Has t.set.items (v - 64 * t.from) → ⊥))) →
      IsSound ms wanted taken new
  decides_soundly taken old new n p t together sound i term first named has kept = record {
    has = λ walk s within f v h. elim (kept (64 * f + v) (sound.has walk s within f v h)) [
      | inl stays ↦ stays
      | inr gone ↦ (let e = value_within ms together walk f v t h term gone.0 gone.1 in
          let w : 64 * f + v - 64 * t.from ≡ v = omega (arith, e) in
          let own : IsValue ms walk t.from (p + 1 - t.from) = record { name = n; is = first; choice = inr (p, within p i, named, refl) } in
          let same : p + 1 - t.from ≡ 64 * f + v - 64 * t.from = value_same ms wanted walk t.from (p + 1 - t.from) v s own (subst (λ g. IsValue ms walk g v) e h) ∙ sym w in
          absurd (gone.2 (subst (Has t.set.items) same has)))
    ];
  }

  -- more places may be taken
  pub steps_soundly : (taken more row : List ℕ) → IsSound ms wanted taken row → ((x : ℕ) → Contains taken x → Contains more x) → IsSound ms wanted more row
  steps_soundly taken more row h f = record { has = λ walk s within. h.has walk s (λ x i. within x (f x i)) }

  -- ---- the walk

  -- what the walk has is left
  pub walk_left : (taken row walk : List ℕ) (q : ℕ) → IsSound ms wanted taken row → Stands ms wanted walk → ((x : ℕ) → Contains taken x → Contains walk x) →
      Contains walk q → IsLeft ms row q
  walk_left taken row walk q sound s within i = λ n f e is.
      sound.has walk s within f (q + 1 - f) (record { name = n; is = is; choice = inr (q, i, e, refl) })

  pub rules_out : (taken row : List ℕ) (n : List ℕ) (q : ℕ) → IsSound ms wanted taken row → IsPrefix ms wanted taken → IsNext ms wanted taken n →
      name_of ms q ≡ Some n → (IsLeft ms row q → ⊥) → HasNone ms wanted (taken ++ q ∷ [])
  rules_out taken row n q sound pre next e out = record {
    none = λ walk w c.
        (let same = append_assoc taken (q ∷ []) walk in
        let whole : Stands ms wanted (taken ++ q ∷ walk) = record { is_walk = pre.goes_on (q ∷ walk) ((n, e, next), w); consistent = subst (IsConsistent ms wanted) same c } in
        let there : Contains (taken ++ q ∷ walk) q = subst (λ l. Contains l q) same (Contains-append_left (taken ++ q ∷ []) walk q (Contains-push taken q)) in
        out (walk_left taken row (taken ++ q ∷ walk) q sound whole (λ x i. Contains-append_left taken (q ∷ walk) x i) there));
  }

  pub goes_on_from_start : GoesOn ms wanted []
  goes_on_from_start = record { on = λ all b. b }

  -- the walk goes on by the greatest place that is left of the next name
  pub goes_on_by_greatest : (taken row : List ℕ) (n : List ℕ) (p k : ℕ) → IsRising ms → IsSound ms wanted taken row → IsPrefix ms wanted taken →
      GoesOn ms wanted taken → IsNext ms wanted taken n → IsNumber ms n k → name_of ms p ≡ Some n → IsGreatestLeft ms row k p → GoesOn ms wanted (taken ++ p ∷ [])
  goes_on_by_greatest taken row n p k up sound pre on next number e greatest =
      let tried : AreTried ms wanted taken n (p + 1) = record {
        none = λ q le f. (let lt : p < q = omega (arith, le) in
            rules_out taken row n q sound pre next f (greatest q (record { name = n; is = number; named = f }) lt));
      } in
      record { on = λ all b. on.on all (best_found ms wanted taken all n p up next e tried b) }

  -- a name that is required of some places is required of more
  required_more : (a b : List ℕ) (n : List ℕ) → ((x : ℕ) → Contains a x → Contains b x) → Contains (required_names ms wanted a) n →
      Contains (required_names ms wanted b) n
  required_more a b n f h = elim (required_from ms wanted a n h) [
    | inl r ↦ subst (Contains (required_names ms wanted b)) r.2 (required_by_wanted ms wanted b r.0 r.1)
    | inr r ↦ subst (Contains (required_names ms wanted b)) r.4 (required_by_need ms wanted b r.0 r.1 (f r.0 r.2) r.3)
  ]

  -- where nothing is left of the next name the places cannot stand
  pub none_left : (taken row : List ℕ) (n : List ℕ) (k : ℕ) → IsSound ms wanted taken row → IsNext ms wanted taken n → IsNumber ms n k →
      ((q : ℕ) → IsNumberAt ms q k → IsLeft ms row q → ⊥) → CannotStand ms wanted taken
  none_left taken row n k sound next number none = record {
    none = λ walk w c within.
        (let s : Stands ms wanted walk = record { is_walk = w; consistent = c } in
        let t = complete_from ms wanted [] walk w n (required_more taken walk n within next.listed) in
        none t.0 (record { name = n; is = number; named = t.2 }) (walk_left taken row walk t.0 sound s within t.1));
  }
