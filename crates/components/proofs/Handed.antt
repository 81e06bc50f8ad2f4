-- A start that was handed out, and its answer.
use Rattle.std.proofs.Common.{◌≡◌, ℕ, suc, zero, List, [], ◌∷◌, true, false, refl, ap}
use Rattle.nuc_base.specs.declared.kinds.Step.{Step}
use Rattle.nuc_base.specs.declared.kinds.Exit.TheVariants as exits
use Rattle.lifecycle.specs.declared.kinds.LifeEvent.TheVariants as life
use Rattle.components.specs.Components.{Components, ComponentState, changed_at}
use Rattle.components.specs.Lives.{lived_at}
use Rattle.components.specs.Events.{with_child, launched, handed_at, answered_at, started, refused, skipped}

changed-twice : (k : ℕ) (f g : ComponentState → ComponentState) (ps : List ComponentState) → ((p : ComponentState) → f (g p) ≡ f p) →
    changed_at k f (changed_at k g ps) ≡ changed_at k f ps
changed-twice k f g [] e = refl
changed-twice zero f g (p ∷ ps) e = ap (λ (q : ComponentState). q ∷ ps) (e p)
changed-twice (suc k) f g (p ∷ ps) e = ap (λ (qs : List ComponentState). p ∷ qs) (changed-twice k f g ps e)

answered-twice : (k : ℕ) (w : Components) → answered_at k (handed_at k w) ≡ answered_at k w
answered-twice k w = ap (λ (ps : List ComponentState). record w { parts = ps })
    (changed-twice k (λ p. record p { handed = false }) (λ p. record p { handed = true }) w.parts (λ p. refl))

pub started-handed : (k : ℕ) (s : Step) (n : ℕ) (w : Components) → started k s n (handed_at k w) ≡ started k s n w
started-handed k s n w =
    ap (λ (ps : List ComponentState). launched s k (record w { parts = ps }))
    (changed-twice k (λ p. with_child n s w.moment (record p { handed = false })) (λ p. record p { handed = true }) w.parts (λ p. refl))

pub refused-handed : (k : ℕ) (s : Step) (w : Components) → refused k s (handed_at k w) ≡ refused k s w
refused-handed k s w = ap (λ (v : Components). lived_at k (life.Ended s exits.NotStarted) v) (answered-twice k w)

pub skipped-handed : (k : ℕ) (w : Components) → skipped k (handed_at k w) ≡ skipped k w
skipped-handed k w = ap (λ (v : Components). lived_at k life.Skipped v) (answered-twice k w)
