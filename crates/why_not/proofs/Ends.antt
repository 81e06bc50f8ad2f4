-- Where nothing is open and nothing stands against the decided places they are a valid set.
use Rattle.std.proofs.Common.{◌≡◌, ℕ, ◌<◌, List, [], ◌∷◌, ◌++◌, length, Some, sym, ap, ◌∙◌, subst, inl, inr}
use Rattle.std.specs.List.{All, Contains}
use Rattle.std.specs.List.Sorted.{IsStrictlyIncreasing}
use Rattle.std.proofs.lemmas.List.Elements.{Contains-append_left, Contains-push, Contains-push_cases}
use Rattle.nuc_base.specs.Leads.{HasPath, direct, through}
use Rattle.nuc_base.proofs.Lists.{in_nil, all_from_in}
use Rattle.nuc_base.proofs.Leading.{leads_more}
use Rattle.recipe_reader.specs.Members.{Need, Member}
use Rattle.recipe_reader.specs.Sets.{name_of, needs_of, required_names, IsComplete, IsMet, IsReached, by_wanted, by_need, HasDependency, IsValid}
use Rattle.recipe_reader.proofs.Required.{required_from, required_by_wanted, required_by_need}
use Rattle.recipe_reader.proofs.Searching.{IsConsistentWith, consistent_push, needs_more, within_from_name}
use Rattle.recipe_reader.proofs.ValidSets.{AreWithin}
use Rattle.why_not.specs.Certificates.{IsOpen}
use Rattle.why_not.specs.Ends.{IsReachedSet}
use Rattle.recipe_reader.proofs.OneSet.{rising_of}

reached_more : (ms : List Member) (wanted : List Need) (s t : List ℕ) → AreWithin s t → {p : ℕ} → IsReached ms wanted s p → IsReached ms wanted t p
reached_more ms wanted s t within (by_wanted {p} w i j e) = by_wanted w (within p i) j e
reached_more ms wanted s t within (by_need {p} {q} r n) = by_need (reached_more ms wanted s t within r) (needs_more ms s t within p q n)

none_leads : (ms : List Member) {p q : ℕ} → HasPath (HasDependency ms []) p q → ⊥
none_leads ms (direct {a = x} r) = in_nil x r.from
none_leads ms (through {a = x} r m) = in_nil x r.from

pub stands_nil : (ms : List Member) (wanted : List Need) → IsReachedSet ms wanted []
stands_nil ms wanted = record {
  single = λ p q i j e. absurd (in_nil p i);
  named = λ p i. absurd (in_nil p i);
  reached = λ p i. absurd (in_nil p i);
  consistent = record {
    wanted_hold = λ w j p i e. absurd (in_nil p i);
    needs_hold = λ p i d k q j e. absurd (in_nil p i);
    acyclic = λ p l. none_leads ms l;
  };
}

reached_last : (ms : List Member) (wanted : List Need) (taken : List ℕ) (p : ℕ) (n : List ℕ) → ((x : ℕ) → Contains taken x → IsReached ms wanted taken x) →
    Contains (required_names ms wanted taken) n → name_of ms p ≡ Some n → IsReached ms wanted (taken ++ p ∷ []) p
reached_last ms wanted taken p n reached i e =
    let last = Contains-push taken p in
    let more : AreWithin taken (taken ++ p ∷ []) = λ x j. Contains-append_left taken (p ∷ []) x j in
    elim (required_from ms wanted taken n i) [
      | inl r ↦ by_wanted r.0 last r.1 (e ∙ ap Some (sym r.2))
      | inr r ↦ by_need (reached_more ms wanted taken (taken ++ p ∷ []) more (reached r.0 r.2)) (record {
        from = more r.0 r.2;
        to = last;
        by = r.1;
        is =
            r.3;
        named = e ∙ ap Some (sym r.4);
      })
    ]

pub stands_push : (ms : List Member) (wanted : List Need) (taken : List ℕ) (p : ℕ) (n : List ℕ) → IsReachedSet ms wanted taken → IsOpen ms wanted taken n →
    name_of ms p ≡ Some n → IsConsistentWith ms wanted taken p → IsReachedSet ms wanted (taken ++ p ∷ [])
stands_push ms wanted taken p n s o e w = record {
  single = λ x y i j same. elim (Contains-push_cases taken p x i) [
    | inl a ↦ elim (Contains-push_cases taken p y j) [
      | inl b ↦ s.single x y a b same
      | inr f ↦ absurd (o.untaken (x, a, same ∙ ap (name_of ms) (sym f) ∙ e))
    ]
    | inr d ↦ elim (Contains-push_cases taken p y j) [
      | inl b ↦ absurd (o.untaken (y, b, sym same ∙ ap (name_of ms) (sym d) ∙ e))
      | inr f ↦ sym d ∙ f
    ]
  ];
  named = λ x i. elim (Contains-push_cases taken p x i) [
    | inl a ↦ s.named x a
    | inr d ↦ (n, ap (name_of ms) (sym d) ∙ e)
  ];
  reached = λ x i. elim (Contains-push_cases taken p x i) [
    | inl a ↦ reached_more ms wanted taken (taken ++ p ∷ []) (λ y j. Contains-append_left taken (p ∷ []) y j) (s.reached x a)
    | inr d ↦ subst (IsReached ms wanted (taken ++ p ∷ [])) d (reached_last ms wanted taken p n s.reached o.required e)
  ];
  consistent = consistent_push ms wanted taken p s.consistent w;
}

pub valid_as : (ms : List Member) (wanted : List Need) (taken s : List ℕ) → IsReachedSet ms wanted taken → IsComplete ms wanted taken → IsStrictlyIncreasing s →
    AreWithin taken s → AreWithin s taken → IsValid ms wanted s
valid_as ms wanted taken s h done rising a b =
    let c = h.consistent in
    record {
      rising = rising;
      inside = all_from_in (λ p. p < length ms) s (λ p i. (let n = h.named p (b p i) in within_from_name ms p n.0 n.1));
      one_version = λ p q i j e. h.single p q (b p i) (b q j) e;
      wanted_met = all_from_in (λ (w : Need). IsMet ms s w.name w.range) wanted (λ w i.
          (let t = done w.name (required_by_wanted ms wanted taken w i) in (t.0, a t.0 t.1, c.wanted_hold w i t.0 t.1 t.2)));
      needs_met = all_from_in (λ p. All (λ (d : Need). IsMet ms s d.name d.range) (needs_of ms p)) s (λ p i.
          all_from_in (λ (d : Need). IsMet ms s d.name d.range) (needs_of ms p) (λ d j.
          (let t = done d.name (required_by_need ms wanted taken p d (b p i) j) in (t.0, a t.0 t.1, c.needs_hold p (b p i) d j t.0 t.1 t.2))));
      reached = all_from_in (λ p. IsReached ms wanted s p) s (λ p i. reached_more ms wanted taken s a (h.reached p (b p i)));
      acyclic = λ p r. c.acyclic p (leads_more (needs_more ms s taken b) r);
    }

pub ended_valid : (ms : List Member) (wanted : List Need) (taken : List ℕ) → IsReachedSet ms wanted taken → IsComplete ms wanted taken → (s : List ℕ) ×
    IsValid ms wanted s
ended_valid ms wanted taken h done = let r = rising_of taken in (r.list, valid_as ms wanted taken r.list h done r.rises r.has r.only)
