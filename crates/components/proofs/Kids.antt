-- The children of components, which no event of the table and no mark changes.
use Rattle.std.proofs.Common.{◌≡◌, ℕ, suc, zero, List, [], ◌∷◌, length, Bool, true, false, Option, Some, None, refl, ap, ◌∙◌, map}
use Rattle.std.specs.Prelude.{◌&&◌, if◌then◌else◌}
use Rattle.lifecycle.specs.Life.{Life}
use Rattle.lifecycle.specs.Table.{table}
use Rattle.lifecycle.specs.declared.kinds.After.TheVariants as after
use Rattle.lifecycle.specs.declared.kinds.LifeAct.{LifeAct}
use Rattle.lifecycle.specs.declared.kinds.LifeEvent.{LifeEvent}
use Rattle.components.specs.Fitted.{Fitted, steps_of}
use Rattle.components.specs.Components.{Components, ComponentState, Child, changed_at, is_again}
use Rattle.components.specs.Marks.{Flagged, grown, reaching, flagged, flagged_at, marked, restarted, may_restart}
use Rattle.components.specs.Lives.{lived, lived_at, drops_at, replaced}
use Rattle.components.specs.Rows.{succeeds_from, completed_from}
use Rattle.components.proofs.Lived.{lived_row, lived_none, settled_part}

abbrev pub kids : List ComponentState → List (List Child)
kids ps = map (λ (p : ComponentState). p.children) ps

abbrev replaced_with : ComponentState → Option (Fitted × ℕ) → ComponentState
replaced_with q o = elim o [ None ↦ q | Some n ↦ record q { fitted = n.0; life = record q.life { steps = steps_of n.0; failures = n.1 }; next = None } ]

replacing : (q : ComponentState) (o : Option (Fitted × ℕ)) → (replaced_with q o).children ≡ q.children
replacing q None = refl
replacing q (Some n) = refl

if_children : (b : Bool) (q r : ComponentState) (cs : List Child) → q.children ≡ cs → r.children ≡ cs → (if b then q else r).children ≡ cs
if_children true q r cs e f = e
if_children false q r cs e f = f

lived_by : (b : Bool) (e : LifeEvent) (p : ComponentState) (o : Option (LifeAct × Life)) → table p.life e ≡ o → (lived b e p).children ≡ p.children
lived_by b e p None t = ap (λ (q : ComponentState). q.children) (lived_none b e p t)
lived_by b e p (Some r) t =
    let q : ComponentState = settled_part (b && succeeds_from p.life.state p.life.busy r.1.state) e r.0 r.1 p in
    ap (λ (x : ComponentState). x.children) (lived_row b e p r.0 r.1 t)
    ∙ if_children (is_again (completed_from e p.life.state p.life.stop r.1.state)) (replaced q) q p.children (replacing q q.next) refl

pub lived_children : (b : Bool) (e : LifeEvent) (p : ComponentState) → (lived b e p).children ≡ p.children
lived_children b e p = lived_by b e p (table p.life e) refl

pub kids_changed : (f : ComponentState → ComponentState) → ((p : ComponentState) → (f p).children ≡ p.children) → (k : ℕ) (ps : List ComponentState) →
    kids (changed_at k f ps) ≡ kids ps
kids_changed f e k [] = refl
kids_changed f e zero (p ∷ ps) = ap (λ (cs : List Child). cs ∷ kids ps) (e p)
kids_changed f e (suc k) (p ∷ ps) = ap (λ (cs : List (List Child)). p.children ∷ cs) (kids_changed f e k ps)

pub kids_mapped : (f : ComponentState → ComponentState) → ((p : ComponentState) → (f p).children ≡ p.children) → (ps : List ComponentState) →
    kids (map f ps) ≡ kids ps
kids_mapped f e [] = refl
kids_mapped f e (p ∷ ps) = ap (λ (cs : List Child). cs ∷ kids (map f ps)) (e p) ∙ ap (λ (cs : List (List Child)). p.children ∷ cs) (kids_mapped f e ps)

abbrev firsts : Flagged → List (List Child)
firsts fs = map (λ (f : ComponentState × Bool). f.0.children) fs

grown_firsts : (all fs : Flagged) → firsts (grown all fs) ≡ firsts fs
grown_firsts all [] = refl
grown_firsts all (f ∷ fs) = ap (λ (cs : List (List Child)). f.0.children ∷ cs) (grown_firsts all fs)

reaching_firsts : (n : ℕ) (fs : Flagged) → firsts (reaching n fs) ≡ firsts fs
reaching_firsts zero fs = refl
reaching_firsts (suc n) fs = reaching_firsts n (grown fs fs) ∙ grown_firsts fs fs

marked_firsts : (may : ComponentState → Bool) (fs : Flagged) → kids (marked may fs) ≡ firsts fs
marked_firsts may [] = refl
marked_firsts may (f ∷ fs) =
    ap (λ (cs : List Child). cs ∷ kids (marked may fs)) (if_children (f.1 && may f.0) (record f.0 { stop = Some after.Restart }) f.0 f.0.children refl refl)
    ∙ ap (λ (cs : List (List Child)). f.0.children ∷ cs) (marked_firsts may fs)

flagged_firsts : (t : ComponentState → Bool) (ps : List ComponentState) → firsts (flagged t ps) ≡ kids ps
flagged_firsts t [] = refl
flagged_firsts t (p ∷ ps) = ap (λ (cs : List (List Child)). p.children ∷ cs) (flagged_firsts t ps)

flagged_at_firsts : (k : ℕ) (ps : List ComponentState) → firsts (flagged_at k ps) ≡ kids ps
flagged_at_firsts k [] = refl
flagged_at_firsts zero (p ∷ ps) = ap (λ (cs : List (List Child)). p.children ∷ cs) (flagged_firsts (λ q. false) ps)
flagged_at_firsts (suc k) (p ∷ ps) = ap (λ (cs : List (List Child)). p.children ∷ cs) (flagged_at_firsts k ps)

if_kids : (b : Bool) (ps qs : List ComponentState) (cs : List (List Child)) → kids ps ≡ cs → kids qs ≡ cs → kids (if b then ps else qs) ≡ cs
if_kids true ps qs cs e f = e
if_kids false ps qs cs e f = f

pub kids_lived_at : (k : ℕ) (e : LifeEvent) (w : Components) → kids (lived_at k e w).parts ≡ kids w.parts
kids_lived_at k e w =
    let qs : List ComponentState = changed_at k (lived w.steady e) w.parts in
    let c : kids qs ≡ kids w.parts = kids_changed (lived w.steady e) (lived_children w.steady e) k w.parts in
    let fs : Flagged = flagged_at k qs in
    if_kids (drops_at k w e) (restarted may_restart fs) qs (kids w.parts)
    (marked_firsts may_restart (reaching (length fs) fs) ∙ reaching_firsts (length fs) fs ∙ flagged_at_firsts k qs ∙ c) c

pub kids_restarted : (may t : ComponentState → Bool) (ps : List ComponentState) → kids (restarted may (flagged t ps)) ≡ kids ps
kids_restarted may t ps =
    let fs : Flagged = flagged t ps in
    marked_firsts may (reaching (length fs) fs) ∙ reaching_firsts (length fs) fs ∙ flagged_firsts t ps
