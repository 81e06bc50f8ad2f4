-- What the parts of a plan have of one another.
use Rattle.std.proofs.Common.{◌≡◌, ℕ, List, [], ◌∷◌, map, refl, inl, inr, ap, ◌++◌, append_assoc}
use Rattle.std.proofs.lemmas.List.{append-nil}
use Rattle.std.specs.Prelude.{Result, Ok, Err, IfOk}
use Rattle.recipe_reader.specs.Sets.{asked, wanted_need}
use Rattle.recipe_reader.specs.declared.wanted.Wanted.{Wanted}
use Rattle.recipe_reader.specs.declared.candidate.Candidate.{Candidate}
use Rattle.records.specs.Stored.{Item}
use Rattle.deployment_doc.specs.declared.document.Root.{Root}
use Rattle.plan_core.specs.Set.{items_of, bare}
use Rattle.plan_core.specs.Boots.{ArePicked, name_at}
use Rattle.plan_core.specs.Looks.{AreOf}

-- the items stand beside their candidates
pub are_of : (set : List Item) (roots : List Root) (cs : List Candidate) → AreOf cs (map bare (items_of set roots cs))
are_of set roots [] = tt
are_of set roots (c ∷ cs) = ((refl, refl, refl), are_of set roots cs)

-- ---- picking

-- what a loop over places keeps: whatever the rest gives, the names so far and it are the whole
pub record Picks (Due : ℕ → Type 0) (cs : List Candidate) (all rest : List ℕ) (done : List (List ℕ)) : Type 0 where
  pub whole : (more : List (List ℕ)) → ArePicked Due cs rest more → ArePicked Due cs all (done ++ more)

pub picks_start : (Due : ℕ → Type 0) (cs : List Candidate) (all : List ℕ) → Picks Due cs all all []
picks_start Due cs all = record { whole = λ more picked. picked }

pub picks_due : (Due : ℕ → Type 0) (cs : List Candidate) (all rest : List ℕ) (done : List (List ℕ)) (p : ℕ) (n : List ℕ)
    → Due p → name_at cs p n → Picks Due cs all (p ∷ rest) done → Picks Due cs all rest (done ++ n ∷ [])
picks_due Due cs all rest done p n due named picks = record {
  whole = λ more picked. rw append_assoc (picks.whole (n ∷ more) (inl (n, more, refl, due, named, picked)));
}

pub picks_other : (Due : ℕ → Type 0) (cs : List Candidate) (all rest : List ℕ) (done : List (List ℕ)) (p : ℕ)
    → (Due p → ⊥) → Picks Due cs all (p ∷ rest) done → Picks Due cs all rest done
picks_other Due cs all rest done p idle picks = record { whole = λ more picked. picks.whole more (inr (idle, picked)) }

pub picks_end : (Due : ℕ → Type 0) (cs : List Candidate) (all : List ℕ) (done : List (List ℕ)) → Picks Due cs all [] done → ArePicked Due cs all done
picks_end Due cs all done picks = rw append-nil at (picks.whole [] refl)

-- ---- lists that grow

pub asked_push : (xs : List Wanted) (x : Wanted) → asked (xs ++ x ∷ []) ≡ asked xs ++ wanted_need x ∷ []
asked_push [] x = refl
asked_push (y ∷ xs) x = ap (λ l. wanted_need y ∷ l) (asked_push xs x)

-- ---- answers

pub if_ok : {A E : Type 0} (r : Result A E) (P Q : A → Type 0) → ((v : A) → P v → Q v) → IfOk r P → IfOk r Q
if_ok (Ok v) P Q more holds = more v holds
if_ok (Err e) P Q more holds = tt
