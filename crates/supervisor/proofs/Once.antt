-- Children of different steps are few.
use Rattle.std.proofs.Common.{◌≡◌, ◌≤◌, ◌+◌, ℕ, List, [], ◌∷◌, length, Bool, true, false, refl, ap, ◌∙◌, arith, filter}
use Rattle.std.specs.Prelude.{◌||◌, if◌then◌else◌}
use Rattle.std.specs.List.{list_any}
use Rattle.nuc_base.specs.declared.kinds.Step.{Step}
use Rattle.nuc_base.specs.declared.kinds.Step.TheVariants.{Install, Run, Startup, Shutdown, Recover, Bootstrap}
use Rattle.lifecycle.specs.Awaits.{is_same_step}
use Rattle.supervisor.specs.Steps.{count_of, IsOnce}
use Rattle.components.specs.Components.{Child}

pub same_is : (s t : Step) → is_same_step s t ≡ true → s ≡ t
same_is Install Install e = refl
same_is Install Run e = absurd (cc)
same_is Install Startup e = absurd (cc)
same_is Install Shutdown e = absurd (cc)
same_is Install Recover e = absurd (cc)
same_is Install Bootstrap e = absurd (cc)
same_is Run Install e = absurd (cc)
same_is Run Run e = refl
same_is Run Startup e = absurd (cc)
same_is Run Shutdown e = absurd (cc)
same_is Run Recover e = absurd (cc)
same_is Run Bootstrap e = absurd (cc)
same_is Startup Install e = absurd (cc)
same_is Startup Run e = absurd (cc)
same_is Startup Startup e = refl
same_is Startup Shutdown e = absurd (cc)
same_is Startup Recover e = absurd (cc)
same_is Startup Bootstrap e = absurd (cc)
same_is Shutdown Install e = absurd (cc)
same_is Shutdown Run e = absurd (cc)
same_is Shutdown Startup e = absurd (cc)
same_is Shutdown Shutdown e = refl
same_is Shutdown Recover e = absurd (cc)
same_is Shutdown Bootstrap e = absurd (cc)
same_is Recover Install e = absurd (cc)
same_is Recover Run e = absurd (cc)
same_is Recover Startup e = absurd (cc)
same_is Recover Shutdown e = absurd (cc)
same_is Recover Recover e = refl
same_is Recover Bootstrap e = absurd (cc)
same_is Bootstrap Install e = absurd (cc)
same_is Bootstrap Run e = absurd (cc)
same_is Bootstrap Startup e = absurd (cc)
same_is Bootstrap Shutdown e = absurd (cc)
same_is Bootstrap Recover e = absurd (cc)
same_is Bootstrap Bootstrap e = refl

-- how much one child counts
one : Step → Child → ℕ
one t c = if is_same_step t c.of then 1 else 0

none_at : (b : Bool) (n : ℕ) (r : Bool) → (b || r) ≡ false → (r ≡ false → n ≡ 0) → (if b then 1 else 0) + n ≡ 0
none_at true n r e k = absurd (cc)
none_at false n r e k = let z = k e in omega (arith, z)

pub none_counts : (t : Step) (cs : List Child) → list_any (λ c. is_same_step t c.of) cs ≡ false → count_of t cs ≡ 0
none_counts t [] e = refl
none_counts t (c ∷ cs) e = none_at (is_same_step t c.of) (count_of t cs) (list_any (λ c. is_same_step t c.of) cs) e (none_counts t cs)

ones : (s : Step) → (if is_same_step Install s then 1 else 0) + ((if is_same_step Run s then 1 else 0) + ((if is_same_step Startup s then 1 else 0)
    + ((if is_same_step Shutdown s then 1 else 0) + ((if is_same_step Recover s then 1 else 0) + (if is_same_step Bootstrap s then 1 else 0))))) ≡ 1
ones Install = refl
ones Run = refl
ones Startup = refl
ones Shutdown = refl
ones Recover = refl
ones Bootstrap = refl

abbrev all_of : List Child → ℕ
all_of cs = count_of Install cs + (count_of Run cs + (count_of Startup cs + (count_of Shutdown cs + (count_of Recover cs + count_of Bootstrap cs))))

by_steps : (cs : List Child) → length cs ≡ all_of cs
by_steps [] = refl
by_steps (c ∷ cs) = let i = by_steps cs in let o = ones c.of in omega (arith, i, o)

free_step : (s : Step) (cs : List Child) → IsOnce cs → count_of s cs ≡ 0 → all_of cs ≤ 5
free_step Install cs o z = let b = o Run in let c = o Startup in let d = o Shutdown in let e = o Recover in let f = o Bootstrap in
    omega (arith, z, b, c, d, e, f)
free_step Run cs o z = let a = o Install in let c = o Startup in let d = o Shutdown in let e = o Recover in let f = o Bootstrap in
    omega (arith, z, a, c, d, e, f)
free_step Startup cs o z = let a = o Install in let b = o Run in let d = o Shutdown in let e = o Recover in let f = o Bootstrap in
    omega (arith, z, a, b, d, e, f)
free_step Shutdown cs o z = let a = o Install in let b = o Run in let c = o Startup in let e = o Recover in let f = o Bootstrap in
    omega (arith, z, a, b, c, e, f)
free_step Recover cs o z = let a = o Install in let b = o Run in let c = o Startup in let d = o Shutdown in let f = o Bootstrap in
    omega (arith, z, a, b, c, d, f)
free_step Bootstrap cs o z = let a = o Install in let b = o Run in let c = o Startup in let d = o Shutdown in let e = o Recover in
    omega (arith, z, a, b, c, d, e)

-- where none is of the step there is room
pub few : (s : Step) (cs : List Child) → IsOnce cs → list_any (λ c. is_same_step s c.of) cs ≡ false → length cs ≤ 5
few s cs o e = let l = by_steps cs in let f = free_step s cs o (none_counts s cs e) in omega (arith, l, f)

pushed_at : (t : Step) (c : Child) (cs : List Child) (b : Bool) → is_same_step t c.of ≡ b → IsOnce cs → count_of c.of cs ≡ 0 →
    (if b then 1 else 0) + count_of t cs ≤ 1
pushed_at t c cs true e o z = let q = same_is t c.of e in let y : count_of t cs ≡ 0 = ap (λ (s : Step). count_of s cs) q ∙ z in omega (arith, y)
pushed_at t c cs false e o z = let a = o t in omega (arith, a)

pub once_pushed : (c : Child) (cs : List Child) → IsOnce cs → list_any (λ d. is_same_step c.of d.of) cs ≡ false → IsOnce (c ∷ cs)
once_pushed c cs o e = λ t. pushed_at t c cs (is_same_step t c.of) refl o (none_counts c.of cs e)

kept_at : (t : Step) (c : Child) (b : Bool) (ds cs : List Child) → count_of t ds ≤ count_of t cs → count_of t (if b then c ∷ ds else ds) ≤ count_of t (c ∷ cs)
kept_at t c true ds cs l = omega (arith, l)
kept_at t c false ds cs l = omega (arith, l)

fewer : (p : Child → Bool) (t : Step) (cs : List Child) → count_of t (filter p cs) ≤ count_of t cs
fewer p t [] = omega arith
fewer p t (c ∷ cs) = kept_at t c (p c) (filter p cs) cs (fewer p t cs)

pub once_filtered : (p : Child → Bool) (cs : List Child) → IsOnce cs → IsOnce (filter p cs)
once_filtered p cs o = λ t. let a = fewer p t cs in let b = o t in omega (arith, a, b)
