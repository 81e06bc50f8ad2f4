-- A search for the owner of a child.
use Rattle.std.proofs.Common.{◌≡◌, ◌+◌, ℕ, suc, zero, List, [], ◌∷◌, Option, Some, None, sym, ap, drop, add-one}
use Rattle.components.specs.Components.{ComponentState, Child, At, owner_from, child_of}

pub owner_here : (i k n : ℕ) (ps : List ComponentState) (c : Child) → At k (λ p. Some c ≡ child_of n p.children) ps →
    Some (i, c.of) ≡ owner_from i n (drop k ps)
owner_here i k n [] c h = absurd h
owner_here i zero n (p ∷ ps) c h = ap (λ (o : Option Child). elim o [ None ↦ owner_from (i + 1) n ps | Some d ↦ Some (i, d.of) ]) h
owner_here i (suc k) n (p ∷ ps) c h = owner_here i k n ps c h

pub owner_skip : (i k n : ℕ) (ps : List ComponentState) → At k (λ p. None ≡ child_of n p.children) ps → owner_from i n (drop k ps) ≡ owner_from (i + 1) n
    (drop (k + 1) ps)
owner_skip i k n [] h = absurd h
owner_skip i zero n (p ∷ ps) h = sym (ap (λ (o : Option Child). elim o [ None ↦ owner_from (i + 1) n ps | Some d ↦ Some (i, d.of) ]) h)
owner_skip i (suc k) n (p ∷ ps) h = rw (add-one (suc k)) (rw (add-one k) at (owner_skip i k n ps h))
