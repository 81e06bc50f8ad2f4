-- A valid set among other candidates, where the same members stand at its places.
use Rattle.std.proofs.Common.{◌≡◌, ℕ, ◌<◌, List, [], ◌∷◌, length, sym, ap, subst, ◌∙◌}
use Rattle.std.specs.Prelude.{Option, Some, None, IfSome, slice_get}
use Rattle.std.specs.List.{All, Contains}
use Rattle.std.specs.List.Sorted.{IsStrictlyIncreasing}
use Rattle.std.proofs.lemmas.List.Elements.{All-contains}
use Rattle.nuc_base.specs.Leads.{HasPath, direct, through}
use Rattle.nuc_base.proofs.Lists.{all_from_in}
use Rattle.npm_ranges.specs.Ranges.{IsInRange}
use Rattle.recipe_reader.specs.Members.{Need, Member}
use Rattle.recipe_reader.specs.Sets.{IsMet, IsReached, IsValid, HasDependency, by_need, by_wanted, name_in, name_of, needs_in, needs_of, version_in}

-- the same member stands at a place of the other set
abbrev pub Beside : List Member → List Member → List ℕ → ℕ → Type 0
Beside ms ns t p = (q : ℕ) × Contains t q × (slice_get ms p ≡ slice_get ns q)

module _ (ms ns : List Member) (wanted : List Need) (s t : List ℕ) (valid : IsValid ms wanted s)
    (to : (p : ℕ) → Contains s p → Beside ms ns t p) (from : (q : ℕ) → Contains t q → Beside ns ms s q) where
  met_over : (n r : List ℕ) → IsMet ms s n r → IsMet ns t n r
  met_over n r m =
      let b = to m.0 m.1 in (
        b.0,
        b.1,
        record {
          named = ap name_in (sym b.2) ∙ m.2.named;
          meets = subst (λ (o : Option Member). IfSome (version_in o) (λ v. IsInRange v r)) b.2 m.2.meets;
        },
      )

  needs_over : (q : ℕ) → Contains t q → All (λ (d : Need). IsMet ns t d.name d.range) (needs_of ns q)
  needs_over q i =
      let f = from q i in
      all_from_in (λ (d : Need). IsMet ns t d.name d.range) (needs_of ns q) (λ d k.
      met_over d.name d.range (All-contains (λ (x : Need). IsMet ms s x.name x.range) (needs_of ms f.0) d
      (All-contains (λ p. All (λ (x : Need). IsMet ms s x.name x.range) (needs_of ms p)) s f.0 valid.needs_met f.1)
      (subst (λ (o : Option Member). Contains (needs_in o) d) f.2 k)))

  reached_over : {p : ℕ} → IsReached ms wanted s p → (q : ℕ) → Contains t q → slice_get ms p ≡ slice_get ns q → IsReached ns wanted t q
  reached_over (by_wanted {p} w i k named) q j same = by_wanted w j k (ap name_in (sym same) ∙ named)
  reached_over (by_need {p} {q} before n) r j same =
      let b = to p n.from in
      by_need (reached_over before b.0 b.1 b.2) (record {
        from = b.1;
        to = j;
        by = n.by;
        is = subst (λ (o : Option Member). Contains (needs_in o) n.by) b.2 n.is;
        named = ap name_in (sym same) ∙ n.named;
      })

  step_back : {a b : ℕ} → HasDependency ns t a b → (p : ℕ) → Contains s p → slice_get ms p ≡ slice_get ns a → (r : ℕ) × Contains s r ×
      (slice_get ms r ≡ slice_get ns b) × HasDependency ms s p r
  step_back {a} {b} n p i same =
      let f = from b n.to in (
        f.0,
        f.1,
        sym f.2,
        record {
          from = i;
          to = f.1;
          by = n.by;
          is = subst (λ (o : Option Member). Contains (needs_in o) n.by) (sym same) n.is;
          named = ap name_in (sym f.2) ∙ n.named;
        },
      )

  leads_back : {a b : ℕ} → HasPath (HasDependency ns t) a b → (p : ℕ) → Contains s p → slice_get ms p ≡ slice_get ns a → (r : ℕ) × Contains s r ×
      (slice_get ms r ≡ slice_get ns b) × HasPath (HasDependency ms s) p r
  leads_back (direct n) p i same = let r = step_back n p i same in (r.0, r.1, r.2, direct r.3)
  leads_back (through n more) p i same =
      let m = step_back n p i same in
      let r = leads_back more m.0 m.1 m.2 in
      (r.0, r.1, r.2, through m.3 r.3)

  leads_within : {a b : ℕ} → HasPath (HasDependency ns t) a b → Contains t a
  leads_within (direct n) = n.from
  leads_within (through n more) = n.from

  no_loop : (q : ℕ) → HasPath (HasDependency ns t) q q → ⊥
  no_loop q l =
      let f = from q (leads_within l) in
      let r = leads_back l f.0 f.1 (sym f.2) in
      valid.acyclic f.0 (subst (λ (x : ℕ). HasPath (HasDependency ms s) f.0 x) (valid.one_version r.0 f.0 r.1 f.1 (ap name_in (r.2 ∙ f.2))) r.3)

  pub valid_over : IsStrictlyIncreasing t → All (λ p. p < length ns) t → ((p q : ℕ) → Contains t p → Contains t q → name_of ns p ≡ name_of ns q → p ≡ q) →
      IsValid ns wanted t
  valid_over rising inside single = record {
    rising = rising;
    inside = inside;
    one_version = single;
    wanted_met = all_from_in (λ (w : Need). IsMet ns t w.name w.range) wanted (λ w k. met_over w.name w.range (All-contains (λ (x : Need). IsMet ms s x.name
        x.range) wanted w valid.wanted_met k));
    needs_met = all_from_in (λ q. All (λ (d : Need). IsMet ns t d.name d.range) (needs_of ns q)) t needs_over;
    reached = all_from_in (λ q. IsReached ns wanted t q) t (λ q i. (let f = from q i in
        reached_over (All-contains (λ p. IsReached ms wanted s p) s f.0 valid.reached f.1) q i (sym f.2)));
    acyclic = no_loop;
  }

-- ---- two valid sets

-- Where members of one name are one, each member of the one set is a member of the other.
module _ (ms ns : List Member) (wanted : List Need) (s t : List ℕ) (valid : IsValid ns wanted t)
    (same : (p q : ℕ) → Contains s p → Contains t q → name_of ms p ≡ name_of ns q → slice_get ms p ≡ slice_get ns q) where
  pub beside : {p : ℕ} → IsReached ms wanted s p → Beside ms ns t p
  beside (by_wanted {p} w i k named) =
      let m = All-contains (λ (x : Need). IsMet ns t x.name x.range) wanted w valid.wanted_met k in
      (m.0, m.1, same p m.0 i m.1 (named ∙ sym m.2.named))
  beside (by_need {p} {q} before n) =
      let b = beside before in
      let met = All-contains (λ r. All (λ (x : Need). IsMet ns t x.name x.range) (needs_of ns r)) t b.0 valid.needs_met b.1 in
      let m = All-contains (λ (x : Need). IsMet ns t x.name x.range) (needs_of ns b.0) n.by met (subst (λ (o : Option Member). Contains (needs_in o) n.by)
      b.2 n.is) in
      (m.0, m.1, same q m.0 n.to m.1 (n.named ∙ sym m.2.named))
