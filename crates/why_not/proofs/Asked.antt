-- Needs that a list of code has, as contracts see them.
use Rattle.std.proofs.Common.{◌≡◌, inl, inr, ℕ, List, map, Some, sym, ap, ◌∙◌, subst}
use Rattle.std.specs.List.{Contains}
use Rattle.std.proofs.lemmas.Option.{same_Some}
use Rattle.nuc_base.proofs.Lists.{in_map, from_map}
use Rattle.recipe_reader.specs.Members.{Need, Member}
use Rattle.recipe_reader.specs.Sets.{name_of, needs_of, required_names, IsMetBy}
use Rattle.recipe_reader.proofs.Required.{required_from, required_by_wanted, required_by_need}
use Rattle.recipe_reader.specs.Searches.{IsSuited}
use Rattle.why_not.specs.Certificates.{IsAgainst, AsksFor, DependsOn}

pub asks_here : {X : Type 0} (f : X → Need) (xs : List X) (n : List ℕ) (x : X) → Contains xs x → (f x).name ≡ n → AsksFor (map f xs) n
asks_here f xs n x i e = record { by = f x; is = in_map f xs x i; named = e }

pub asks_none : {X : Type 0} (f : X → Need) (xs : List X) (n : List ℕ) → ((x : X) → Contains xs x → (f x).name ≡ n → ⊥) → AsksFor (map f xs) n → ⊥
asks_none f xs n h a = let r = from_map f xs a.by a.is in h r.0 r.1 (ap (λ (d : Need). d.name) r.2 ∙ a.named)

pub against_here : {X : Type 0} (f : X → Need) (ms : List Member) (xs : List X) (p : ℕ) (x : X) → Contains xs x → (name_of ms p ≡ Some (f x).name) ×
    (IsMetBy ms (f x).name (f x).range p → ⊥) → IsAgainst ms (map f xs) p
against_here f ms xs p x i h = record { by = f x; is = in_map f xs x i; named = h.0; out = h.1 }

pub against_none : {X : Type 0} (f : X → Need) (ms : List Member) (xs : List X) (p : ℕ) →
    ((x : X) → Contains xs x → name_of ms p ≡ Some (f x).name → (IsMetBy ms (f x).name (f x).range p → ⊥) → ⊥) → IsAgainst ms (map f xs) p → ⊥
against_none f ms xs p h a =
    let r = from_map f xs a.by a.is in
    let named : name_of ms p ≡ Some (f r.0).name = a.named ∙ ap (λ (d : Need). Some d.name) (sym r.2) in
    h r.0 r.1 named (subst (λ (d : Need). IsMetBy ms d.name d.range p → ⊥) (sym r.2) a.out)

pub depends_from : (ms : List Member) (needs : List Need) (n : List ℕ) (p q : ℕ) → (needs ≡ needs_of ms p) → name_of ms q ≡ Some n → AsksFor needs n →
    DependsOn ms p q
depends_from ms needs n p q same e a = record { by = a.by; is = subst (λ l. Contains l a.by) same a.is; named = e ∙ ap Some (sym a.named) }

pub depends_not : (ms : List Member) (needs : List Need) (n : List ℕ) (p q : ℕ) → (needs ≡ needs_of ms p) → name_of ms q ≡ Some n → (AsksFor needs n → ⊥) →
    DependsOn ms p q → ⊥
depends_not ms needs n p q same e out d = out (record {
  by = d.by;
  is = subst (λ l. Contains l d.by) (sym same) d.is;
  named =
      sym (same_Some n d.by.name (sym e ∙ d.named));
})

pub required_asked : (ms : List Member) (wanted : List Need) (taken : List ℕ) (n : List ℕ) → AsksFor wanted n → Contains (required_names ms wanted taken) n
required_asked ms wanted taken n a = subst (Contains (required_names ms wanted taken)) a.named (required_by_wanted ms wanted taken a.by a.is)

pub required_asking : (ms : List Member) (wanted : List Need) (taken : List ℕ) (n : List ℕ) (p : ℕ) → Contains taken p → AsksFor (needs_of ms p) n →
    Contains (required_names ms wanted taken) n
required_asking ms wanted taken n p i a = subst (Contains (required_names ms wanted taken)) a.named (required_by_need ms wanted taken p a.by i a.is)

pub required_none : (ms : List Member) (wanted : List Need) (taken : List ℕ) (n : List ℕ) → (AsksFor wanted n → ⊥) →
    ((p : ℕ) → Contains taken p → AsksFor (needs_of ms p) n → ⊥) → Contains (required_names ms wanted taken) n → ⊥
required_none ms wanted taken n a b i = elim (required_from ms wanted taken n i) [
  | inl r ↦ a (record { by = r.0; is = r.1; named = r.2 })
  | inr r ↦ b r.0 r.2 (record { by = r.1; is = r.3; named = r.4 })
]

pub suits_all : {X : Type 0} (f : X → Need) (ms : List Member) (xs : List X) (p : ℕ) → ((x : X) → Contains xs x → name_of ms p ≡ Some (f x).name →
    IsMetBy ms (f x).name (f x).range p) → IsSuited ms (map f xs) p
suits_all f ms xs p h d i e =
    let r = from_map f xs d i in
    subst (λ (y : Need). IsMetBy ms y.name y.range p) r.2 (h r.0 r.1 (e ∙ ap (λ (y : Need). Some y.name) (sym r.2)))
