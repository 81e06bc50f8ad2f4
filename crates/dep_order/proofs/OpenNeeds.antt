-- What is open of the needs of each place.
use Rattle.std.proofs.Common.{◌≡◌, ℕ, ◌+◌, ◌<◌, ◌≤◌, Option, None, Some, MatchOption, List, [], length, get_or, set, take, refl, sym, ap, ◌∙◌, subst, inl, inr}
use Rattle.std.specs.List.{Contains}
use Rattle.std.proofs.lemmas.Bool.{cases_eq}
use Rattle.std.proofs.lemmas.List.{take_more, take_all, get_or-set_same, get_or-set_other}
use Rattle.std.proofs.lemmas.List.Elements.{Contains-push_cases, Contains-get_or}
use Rattle.nuc_base.proofs.Lists.{in_nil}
use Rattle.dep_order.specs.declared.Need.{Need}
use Rattle.dep_order.specs.declared.Edges.{Edges}
use Rattle.dep_order.specs.Orders.{HasNeed, IsReady}

-- what the place needs by these needs is taken
pub record AreTakenOf (taken : List ℕ) (p : ℕ) (needs : List Need) : Type 0 where
  pub all : (e : Need) → Contains needs e → e.from ≡ p → Contains taken e.to

-- something that the place needs and that is not taken, or nothing where by these needs there is no such
abbrev pub IsOpenNeed : Edges → List ℕ → List Need → ℕ → Option ℕ → Type 0
IsOpenNeed edges taken needs p o = MatchOption o (AreTakenOf taken p needs) (λ q. HasNeed edges p q × (Contains taken q → ⊥))

-- so for each place
pub record AreOpenNeeds (edges : Edges) (taken : List ℕ) (needs : List Need) (next : List (Option ℕ)) : Type 0 where
  pub each : (p : ℕ) → IsOpenNeed edges taken needs p (get_or next p None)

taken_none : (taken : List ℕ) (p : ℕ) → AreTakenOf taken p []
taken_none taken p = record { all = λ e i f. absurd (in_nil e i) }

taken_more : (taken : List ℕ) (p : ℕ) (needs : List Need) (i : ℕ) (d : Need) → i < length needs → AreTakenOf taken p (take i needs) →
    ((get_or needs i d).from ≡ p → Contains taken (get_or needs i d).to) → AreTakenOf taken p (take (i + 1) needs)
taken_more taken p needs i d lt h here = record {
  all = λ e j f. elim (Contains-push_cases (take i needs) (get_or needs i d) e (subst (λ l. Contains l e) (take_more needs i d lt) j)) [
    | inl k ↦ h.all e k f
    | inr same ↦ subst (λ (x : Need). Contains taken x.to) same (here (ap (λ (x : Need). x.from) same ∙ f))
  ];
}

none_at : (edges : Edges) (taken : List ℕ) (needs : List Need) (p : ℕ) (o : Option ℕ) → o ≡ None → AreTakenOf taken p needs → IsOpenNeed edges taken needs p o
none_at edges taken needs p o e h = subst (IsOpenNeed edges taken needs p) (sym e) h

open_more : (edges : Edges) (taken : List ℕ) (needs : List Need) (i : ℕ) (d : Need) (p : ℕ) (o : Option ℕ) → i < length needs →
    IsOpenNeed edges taken (take i needs) p o → ((get_or needs i d).from ≡ p → Contains taken (get_or needs i d).to) →
    IsOpenNeed edges taken (take (i + 1) needs) p o
open_more edges taken needs i d p None lt h here = taken_more taken p needs i d lt h here
open_more edges taken needs i d p (Some q) lt h here = h

pub open_start : (edges : Edges) (taken : List ℕ) (next : List (Option ℕ)) → ((p : ℕ) → get_or next p None ≡ None) → AreOpenNeeds edges taken [] next
open_start edges taken next h = record { each = λ p. none_at edges taken [] p (get_or next p None) (h p) (taken_none taken p) }

pub open_kept : (edges : Edges) (taken : List ℕ) (i : ℕ) (d : Need) (next : List (Option ℕ)) → i < length edges.needs →
    Contains taken (get_or edges.needs i d).to → AreOpenNeeds edges taken (take i edges.needs) next → AreOpenNeeds edges taken (take (i + 1) edges.needs) next
open_kept edges taken i d next lt has h = record { each = λ p. open_more edges taken edges.needs i d p (get_or next p None) lt (h.each p) (λ _. has) }

pub open_set : (edges : Edges) (taken : List ℕ) (i : ℕ) (d : Need) (next : List (Option ℕ)) → i < length edges.needs →
    (get_or edges.needs i d).from < length next → (Contains taken (get_or edges.needs i d).to → ⊥) → AreOpenNeeds edges taken (take i edges.needs) next →
    AreOpenNeeds edges taken (take (i + 1) edges.needs) (set next (get_or edges.needs i d).from (Some (get_or edges.needs i d).to))
open_set edges taken i d next lt place free h =
    let e = get_or edges.needs i d in
    let new = set next e.from (Some e.to) in
    record {
      each = λ p. elim (cases_eq p e.from) [
        | inl same ↦
            (let at : get_or new p None ≡ Some e.to = ap (λ k. get_or new k None) same ∙ get_or-set_same next e.from (Some e.to) None place in
            let needs : HasNeed edges p e.to = record { by = e; is = Contains-get_or edges.needs i d lt; from = sym same; to = refl } in
            subst (IsOpenNeed edges taken (take (i + 1) edges.needs) p) (sym at) (needs, free))
        | inr ne ↦
            (let at : get_or new p None ≡ get_or next p None = get_or-set_other next e.from p (Some e.to) None ne in
            subst (IsOpenNeed edges taken (take (i + 1) edges.needs) p) (sym at) (open_more edges taken edges.needs i d p (get_or next p None) lt (h.each p)
            (λ f. absurd (ne (sym f)))))
      ];
    }

ready_if_none : (edges : Edges) (taken : List ℕ) (p : ℕ) (o : Option ℕ) → IsOpenNeed edges taken edges.needs p o →
    MatchOption o (IsReady edges taken p) (λ q. HasNeed edges p q × (Contains taken q → ⊥))
ready_if_none edges taken p None h = λ q n. subst (Contains taken) n.to (h.all n.by n.is n.from)
ready_if_none edges taken p (Some q) h = h

pub open_all : (edges : Edges) (taken : List ℕ) (i : ℕ) (next : List (Option ℕ)) → length edges.needs ≤ i →
    AreOpenNeeds edges taken (take i edges.needs) next → (p : ℕ) → MatchOption (get_or next p None) (IsReady edges taken p) (λ q. HasNeed edges p q ×
    (Contains taken q → ⊥))
open_all edges taken i next le h = λ p.
    let all = subst (λ ns. AreOpenNeeds edges taken ns next) (take_all i edges.needs le) h in
    ready_if_none edges taken p (get_or next p None) (all.each p)

-- the two steps again, over a list that is the needs
pub open_set_of : (edges : Edges) (taken : List ℕ) (ns : List Need) (i : ℕ) (d : Need) (next : List (Option ℕ)) → ns ≡ edges.needs → i < length ns →
    (get_or ns i d).from < length next → (Contains taken (get_or ns i d).to → ⊥) → AreOpenNeeds edges taken (take i ns) next →
    AreOpenNeeds edges taken (take (i + 1) ns) (set next (get_or ns i d).from (Some (get_or ns i d).to))
open_set_of edges taken ns i d next e = subst (λ l. i < length l → (get_or l i d).from < length next → (Contains taken (get_or l i d).to → ⊥) →
    AreOpenNeeds edges taken (take i l) next → AreOpenNeeds edges taken (take (i + 1) l) (set next (get_or l i d).from (Some (get_or l i d).to))) (sym e)
    (open_set edges taken i d next)

pub open_kept_of : (edges : Edges) (taken : List ℕ) (ns : List Need) (i : ℕ) (d : Need) (next : List (Option ℕ)) → ns ≡ edges.needs → i < length ns →
    Contains taken (get_or ns i d).to → AreOpenNeeds edges taken (take i ns) next → AreOpenNeeds edges taken (take (i + 1) ns) next
open_kept_of edges taken ns i d next e = subst (λ l. i < length l → Contains taken (get_or l i d).to → AreOpenNeeds edges taken (take i l) next →
    AreOpenNeeds edges taken (take (i + 1) l) next) (sym e) (open_kept edges taken i d next)
