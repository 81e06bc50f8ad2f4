-- One item without dependencies.
use Rattle.std.proofs.Common.{◌≡◌, ℕ, ◌+◌, ◌<◌, List, [], ◌∷◌, ◌++◌, map, sym, ap, subst, ◌∙◌, arith}
use Rattle.std.specs.Prelude.{Option, Some}
use Rattle.std.specs.List.{All, Contains}
use Rattle.nuc_base.specs.Leads.{HasPath, direct, through}
use Rattle.nuc_base.proofs.Lists.{all_from_in, in_here, in_nil, in_one}
use Rattle.npm_ranges.specs.Ranges.{IsInRange}
use Rattle.recipe_reader.specs.Candidates.{IsReadFor}
use Rattle.recipe_reader.specs.Members.{Member, Need, members, need}
use Rattle.recipe_reader.specs.Sets.{IsMet, IsReached, IsValid, HasDependency, by_wanted, name_of, needs_of}
use Rattle.recipe_reader.specs.declared.candidate.Candidate.{Candidate}
use Rattle.recipe_reader.specs.declared.recipe.Dependency.{Dependency}
use Rattle.records.specs.Stored.{Item}
use Rattle.records.specs.declared.record.Requirement.{Requirement}
use Rattle.plan_core.specs.Requests.{requirement_need}
use Rattle.law_whole.specs.Taking.{OneItemIsWhole}
use Rattle.law_whole.specs.Whole.{IsBuiltIn, asked_of}

module _ (c : Candidate) (r : Requirement) (lone : c.recipe.dependencies ≡ []) (named : r.name ≡ c.recipe.name)
    (meets : IsInRange c.recipe.version r.range) where
  none_needed : (p : ℕ) → Contains (0 ∷ []) p → (d : Need) → Contains (needs_of (members (c ∷ [])) p) d → ⊥
  none_needed p i d k =
      let here : Contains (needs_of (members (c ∷ [])) 0) d = subst (λ (q : ℕ). Contains (needs_of (members (c ∷ [])) q) d) (sym (in_one 0 p i)) k in
      in_nil d (subst (λ (ds : List Dependency). Contains (map need ds) d) lone here)

  no_loop : {a b : ℕ} → HasPath (HasDependency (members (c ∷ [])) (0 ∷ [])) a b → ⊥
  no_loop {a} (direct n) = none_needed a n.from n.by n.is
  no_loop {a} (through n more) = none_needed a n.from n.by n.is

  is_named : (p : ℕ) → Contains (0 ∷ []) p → name_of (members (c ∷ [])) p ≡ Some r.name
  is_named p i = subst (λ (q : ℕ). name_of (members (c ∷ [])) q ≡ Some r.name) (in_one 0 p i) (ap (λ (n : List ℕ). Some n) (sym named))

  is_met : (w : Need) → Contains (requirement_need r ∷ []) w → IsMet (members (c ∷ [])) (0 ∷ []) w.name w.range
  is_met w i = subst (λ (x : Need). IsMet (members (c ∷ [])) (0 ∷ []) x.name x.range) (in_one (requirement_need r) w i)
      (0, in_here 0 [], record { named = ap (λ (n : List ℕ). Some n) (sym named); meets = meets })

  pub lone_valid : IsValid (members (c ∷ [])) (requirement_need r ∷ []) (0 ∷ [])
  lone_valid = record {
    rising = λ k within. absurd (omega (arith, within));
    inside = all_from_in (λ (p : ℕ). p < 1) (0 ∷ []) (λ p i. let e = in_one 0 p i in omega (arith, e));
    one_version = λ p q i j same. sym (in_one 0 p i) ∙ in_one 0 q j;
    wanted_met = all_from_in (λ (w : Need). IsMet (members (c ∷ [])) (0 ∷ []) w.name w.range) (requirement_need r ∷ []) is_met;
    needs_met = all_from_in (λ (p : ℕ). All (λ (d : Need). IsMet (members (c ∷ [])) (0 ∷ []) d.name d.range) (needs_of (members (c ∷ [])) p)) (0 ∷ [])
        (λ p i. all_from_in (λ (d : Need). IsMet (members (c ∷ [])) (0 ∷ []) d.name d.range) (needs_of (members (c ∷ [])) p) (λ d k. absurd
        (none_needed p i d k)));
    reached = all_from_in (λ (p : ℕ). IsReached (members (c ∷ [])) (requirement_need r ∷ []) (0 ∷ []) p) (0 ∷ [])
        (λ p i. by_wanted (requirement_need r) i (in_here (requirement_need r) []) (is_named p i));
    acyclic = λ p l. no_loop l;
  }

pub one_item_is_whole : OneItemIsWhole
one_item_is_whole o c g r i read lone is built named meets asks =
    let asked : requirement_need r ∷ [] ≡ asked_of (g ∷ []) = ap (λ (l : List Requirement). map requirement_need l ++ []) (sym asks) in record {
      candidates = c ∷ [];
      are = (is, tt);
      read = all_from_in (IsReadFor o.platform) (c ∷ []) (λ x k. subst (IsReadFor o.platform) (in_one c x k) read);
      valid = record {
        set = 0 ∷ [];
        valid = subst (λ (w : List Need). IsValid (members (c ∷ [])) w (0 ∷ [])) asked (lone_valid c r lone named meets);
        all = λ p below. let e : 0 ≡ p = omega (arith, below) in subst (Contains (0 ∷ [])) e (in_here 0 []);
      };
      built_in = λ x k. subst (IsBuiltIn o.nucleus) (in_one i x k) built;
    }
