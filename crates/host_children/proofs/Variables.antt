-- What a command says of its variables.
use Rattle.std.proofs.Common.{◌≡◌, ◌≢◌, ◌+◌, ◌<◌, ℕ, Bool, true, false, cond, List, [], ◌∷◌, Option, None, Some, bytes_eq, get_or, length, take, refl, sym}
use Rattle.std.proofs.Common.{ap, ◌∙◌, true≢false}
use Rattle.std.specs.Process.{var_after}
use Rattle.std.proofs.lemmas.List.Sums.{fold_more}
use Rattle.std.proofs.lemmas.Slice.Eq.{bytes_eq-Decides}

-- it says the value of the one that is set, and of another what it said
said_now : (k v name : List ℕ) (now was said : Option (Option (List ℕ))) → (name ≡ k → now ≡ Some (Some v)) → (name ≢ k → now ≡ was) → was ≡ said →
    now ≡ cond (bytes_eq k name) (Some (Some v)) said
said_now k v name now was said set others before = by (bytes_eq k name) refl
  where
    by : (r : Bool) → bytes_eq k name ≡ r → now ≡ cond (bytes_eq k name) (Some (Some v)) said
    by true e = set (sym ((bytes_eq-Decides k name).0 e)) ∙ ap (λ y. cond y (Some (Some v)) said) (sym e)
    by false e = others (λ same. true≢false (sym ((bytes_eq-Decides k name).1 (sym same)) ∙ e)) ∙ before ∙ ap (λ y. cond y (Some (Some v)) said) (sym e)

-- one variable more is set
pub said_more : (name k v : List ℕ) (variables : List (List ℕ × List ℕ)) (i : ℕ) (d : List ℕ × List ℕ) (first now was : Option (Option (List ℕ))) →
    i < length variables → d ≡ get_or variables i d → k ≡ d.0 → v ≡ d.1 → (name ≡ k → now ≡ Some (Some v)) → (name ≢ k → now ≡ was) →
    was ≡ var_after (λ k. Some k) (λ v. Some v) name first (take i variables) →
    now ≡ var_after (λ k. Some k) (λ v. Some v) name first (take (i + 1) variables)
said_more name k v variables i d first now was within is its_name its_value set others before =
    let said = var_after (λ k. Some k) (λ v. Some v) name first (take i variables) in
    said_now k v name now was said set others before
    ∙ ap (λ (l : List ℕ). cond (bytes_eq l name) (Some (Some v)) said) its_name
    ∙ ap (λ (w : List ℕ). cond (bytes_eq d.0 name) (Some (Some w)) said) its_value
    ∙ ap (λ (p : List ℕ × List ℕ). cond (bytes_eq p.0 name) (Some (Some p.1)) said) is
    ∙ sym (fold_more _ first variables i d within)
