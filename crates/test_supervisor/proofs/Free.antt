-- Where each start is answered, it is so behind whatever befalls the components.
use Rattle.std.proofs.Common.{◌≡◌, ℕ, suc, zero, List, [], ◌∷◌, length, Bool, true, false, Option, Some, None, refl, sym, ap, subst, map, filter}
use Rattle.std.specs.Prelude.{◌&&◌, ◌||◌, not, if◌then◌else◌}
use Rattle.std.specs.List.{AllByRecursion, list_any}
use Rattle.nuc_base.specs.declared.kinds.Step.{Step}
use Rattle.nuc_base.specs.declared.kinds.Step.TheVariants as step
use Rattle.nuc_base.specs.declared.kinds.Exit.{Exit}
use Rattle.nuc_base.specs.declared.kinds.Exit.TheVariants as exits
use Rattle.lifecycle.specs.Life.{Life}
use Rattle.lifecycle.specs.Table.{table}
use Rattle.lifecycle.specs.declared.kinds.After.TheVariants as after
use Rattle.lifecycle.specs.declared.kinds.LifeAct.{LifeAct}
use Rattle.lifecycle.specs.declared.kinds.LifeEvent.{LifeEvent}
use Rattle.lifecycle.specs.declared.kinds.LifeEvent.TheVariants as event
use Rattle.components.specs.Acts.{Move, MovesInOrder}
use Rattle.components.specs.Answers.{has_answered}
use Rattle.components.specs.Changes.{Coming, all_stopped, changed_to, coming_again, coming_for, counted, fate, forgetting, fresh_part, is_replaced}
use Rattle.components.specs.Changes.{is_replacing, leaving, meeting, replacing, replanned, standing, staying, steadied, with_items, with_newcomers}
use Rattle.components.specs.Changes.{with_texts}
use Rattle.components.specs.Events.{answered_at, gone_by, is_orphan_at, kill_event_at, killed, ended, launched, refused, skipped, started, heard_at, with_child}
use Rattle.components.specs.Fitted.{Fitted, is_same_item, steps_of}
use Rattle.components.specs.Lives.{drops_at, lived, lived_at, replaced}
use Rattle.components.specs.Marks.{Flagged, flagged, flagged_at, grown, marked, may_replan, may_restart, reaching, restarted}
use Rattle.components.specs.Rows.{completed_from, succeeds_from}
use Rattle.components.specs.Components.{ComponentState, Components, changed_at, child_gone, is_again, is_gone, owner, component_name, stops_for_good}
use Rattle.components.specs.Components.{under_way, without_child}
use Rattle.test_supervisor.specs.Stands.{AreAnswered}
use Rattle.components.proofs.Changed.{all_placed, all_standing, is_held_by}
use Rattle.components.proofs.Lived.{lived_none, lived_row, settled_part}

abbrev pub IsFree : ComponentState → Type 0
IsFree p = p.handed ≡ false

abbrev pub AreFree : List ComponentState → Type 0
AreFree ps = AreAnswered ps

none_of : (a b : Bool) → a ≡ false → b ≡ false → (a || b) ≡ false
none_of a b x y = rw (x, y) refl

none_handed : (ps : List ComponentState) → AreFree ps → list_any (λ (p : ComponentState). p.handed) ps ≡ false
none_handed [] a = refl
none_handed (p ∷ ps) a = none_of p.handed (list_any (λ (q : ComponentState). q.handed) ps) a.0 (none_handed ps a.1)

pub free_answered : (w : Components) → AreFree w.parts → has_answered w ≡ true
free_answered w a = ap not (none_handed w.parts a)

-- ---- one of them

free_if : (b : Bool) (p q : ComponentState) → IsFree p → IsFree q → IsFree (if b then p else q)
free_if true p q h i = h
free_if false p q h i = i

abbrev replaced_with : ComponentState → Option (Fitted × ℕ) → ComponentState
replaced_with q o = elim o [ None ↦ q | Some n ↦ record q { fitted = n.0; life = record q.life { steps = steps_of n.0; failures = n.1 }; next = None } ]

free_replaced : (q : ComponentState) (o : Option (Fitted × ℕ)) → IsFree q → IsFree (replaced_with q o)
free_replaced q None h = h
free_replaced q (Some n) h = h

free_lived_by : (b : Bool) (e : LifeEvent) (p : ComponentState) (o : Option (LifeAct × Life)) → table p.life e ≡ o → IsFree p → IsFree (lived b e p)
free_lived_by b e p None t h = subst IsFree (sym (lived_none b e p t)) h
free_lived_by b e p (Some r) t h =
    let q : ComponentState = settled_part (b && succeeds_from p.life.state p.life.busy r.1.state) e r.0 r.1 p in
    subst IsFree (sym (lived_row b e p r.0 r.1 t))
    (free_if (is_again (completed_from e p.life.state p.life.stop r.1.state)) (replaced q) q (free_replaced q q.next h) h)

free_lived : (b : Bool) (e : LifeEvent) (p : ComponentState) → IsFree p → IsFree (lived b e p)
free_lived b e p h = free_lived_by b e p (table p.life e) refl h

free_changed : (f : ComponentState → ComponentState) → ((p : ComponentState) → IsFree p → IsFree (f p)) → (k : ℕ) (ps : List ComponentState) → AreFree ps →
    AreFree (changed_at k f ps)
free_changed f g k [] a = tt
free_changed f g zero (p ∷ ps) a = (g p a.0, a.1)
free_changed f g (suc k) (p ∷ ps) a = (a.0, free_changed f g k ps a.1)

free_mapped : (f : ComponentState → ComponentState) → ((p : ComponentState) → IsFree p → IsFree (f p)) → (ps : List ComponentState) → AreFree ps →
    AreFree (map f ps)
free_mapped f g [] a = tt
free_mapped f g (p ∷ ps) a = (g p a.0, free_mapped f g ps a.1)

-- ---- marks

abbrev AreFlagsFree : Flagged → Type 0
AreFlagsFree fs = AllByRecursion (λ (f : ComponentState × Bool). IsFree f.0) fs

free_grown : (all fs : Flagged) → AreFlagsFree fs → AreFlagsFree (grown all fs)
free_grown all [] a = tt
free_grown all (f ∷ fs) a = (a.0, free_grown all fs a.1)

free_reaching : (n : ℕ) (fs : Flagged) → AreFlagsFree fs → AreFlagsFree (reaching n fs)
free_reaching zero fs a = a
free_reaching (suc n) fs a = free_reaching n (grown fs fs) (free_grown fs fs a)

free_flagged : (test : ComponentState → Bool) (ps : List ComponentState) → AreFree ps → AreFlagsFree (flagged test ps)
free_flagged test [] a = tt
free_flagged test (p ∷ ps) a = (a.0, free_flagged test ps a.1)

free_flagged_at : (k : ℕ) (ps : List ComponentState) → AreFree ps → AreFlagsFree (flagged_at k ps)
free_flagged_at k [] a = tt
free_flagged_at zero (p ∷ ps) a = (a.0, free_flagged (λ q. false) ps a.1)
free_flagged_at (suc k) (p ∷ ps) a = (a.0, free_flagged_at k ps a.1)

free_marked : (may : ComponentState → Bool) (fs : Flagged) → AreFlagsFree fs → AreFree (marked may fs)
free_marked may [] a = tt
free_marked may (f ∷ fs) a = (free_if (f.1 && may f.0) (record f.0 { stop = Some after.Restart }) f.0 a.0 a.0, free_marked may fs a.1)

free_restarted : (may : ComponentState → Bool) (fs : Flagged) → AreFlagsFree fs → AreFree (restarted may fs)
free_restarted may fs a = free_marked may (reaching (length fs) fs) (free_reaching (length fs) fs a)

-- ---- what befalls them

all_if : (b : Bool) (ps qs : List ComponentState) → AreFree ps → AreFree qs → AreFree (if b then ps else qs)
all_if true ps qs a c = a
all_if false ps qs a c = c

free_lived_at : (k : ℕ) (e : LifeEvent) (w : Components) → AreFree w.parts → AreFree (lived_at k e w).parts
free_lived_at k e w a =
    let qs : List ComponentState = changed_at k (lived w.steady e) w.parts in
    let c : AreFree qs = free_changed (lived w.steady e) (free_lived w.steady e) k w.parts a in
    all_if (drops_at k w e) (restarted may_restart (flagged_at k qs)) qs (free_restarted may_restart (flagged_at k qs) (free_flagged_at k qs c)) c

free_gone : (k n : ℕ) (w : Components) → AreFree w.parts → AreFree (child_gone k n w).parts
free_gone k n w a = free_changed (without_child n) (λ p h. h) k w.parts a

world_if : (b : Bool) (v w : Components) → AreFree v.parts → AreFree w.parts → AreFree (if b then v else w).parts
world_if true v w a c = a
world_if false v w a c = c

free_gone_by : (e : Option LifeEvent) (k : ℕ) (s : Step) (n : ℕ) (w : Components) → AreFree w.parts → AreFree (gone_by e k s n w).parts
free_gone_by None k s n w a = free_gone k n w a
free_gone_by (Some e) k s n w a =
    let g = free_gone k n w a in
    world_if (is_orphan_at k s w) (child_gone k n w) (lived_at k e (child_gone k n w)) g (free_lived_at k e (child_gone k n w) g)

pub free_ended : (n : ℕ) (x : Exit) (w : Components) → AreFree w.parts → AreFree (ended n x w).parts
free_ended n x w a = by (owner n w.parts)
  where
    by : (o : Option (ℕ × Step)) → (let v : Components = elim o [ None ↦ w | Some y ↦ gone_by (Some (event.Ended y.1 x)) y.0 y.1 n w ] in AreFree v.parts)
    by None = a
    by (Some y) = free_gone_by (Some (event.Ended y.1 x)) y.0 y.1 n w a

pub free_killed : (n : ℕ) (w : Components) → AreFree w.parts → AreFree (killed n w).parts
free_killed n w a = by (owner n w.parts)
  where
    by : (o : Option (ℕ × Step)) → (let v : Components = elim o [ None ↦ w | Some y ↦ gone_by (kill_event_at y.0 y.1 n w) y.0 y.1 n w ] in AreFree v.parts)
    by None = a
    by (Some y) = free_gone_by (kill_event_at y.0 y.1 n w) y.0 y.1 n w a

pub free_told : (k : ℕ) (w : Components) → AreFree w.parts → AreFree (heard_at k w).parts
free_told k w a = free_changed (λ p. record p { owed = None }) (λ p h. h) k w.parts a

free_launched : (s : Step) (k : ℕ) (w : Components) → AreFree w.parts → AreFree (launched s k w).parts
free_launched step.Install k w a = a
free_launched step.Run k w a = free_lived_at k event.Launched w a
free_launched step.Startup k w a = a
free_launched step.Shutdown k w a = a
free_launched step.Recover k w a = a
free_launched step.Bootstrap k w a = a

pub free_started : (k : ℕ) (s : Step) (n : ℕ) (w : Components) → AreFree w.parts → AreFree (started k s n w).parts
free_started k s n w a =
    free_launched s k (record w { parts = changed_at k (λ p. with_child n s w.moment (record p { handed = false })) w.parts })
    (free_changed (λ p. with_child n s w.moment (record p { handed = false })) (λ p h. refl) k w.parts a)

free_closed : (k : ℕ) (w : Components) → AreFree w.parts → AreFree (answered_at k w).parts
free_closed k w a = free_changed (λ p. record p { handed = false }) (λ p h. refl) k w.parts a

pub free_refused : (k : ℕ) (s : Step) (w : Components) → AreFree w.parts → AreFree (refused k s w).parts
free_refused k s w a = free_lived_at k (event.Ended s exits.NotStarted) (answered_at k w) (free_closed k w a)

pub free_skipped : (k : ℕ) (w : Components) → AreFree w.parts → AreFree (skipped k w).parts
free_skipped k w a = free_lived_at k event.Skipped (answered_at k w) (free_closed k w a)

pub free_quietly : (ms : List Move) (w v : Components) → MovesInOrder w ms v → AreFree w.parts → AreFree v.parts
free_quietly [] w v q a = subst (λ (u : Components). AreFree u.parts) (sym q) a
free_quietly (m ∷ ms) w v q a = free_quietly ms (lived_at m.who m.what w) v q.2 (free_lived_at m.who m.what w a)

-- ---- all at once

free_leaving_at : (b d : Bool) (p : ComponentState) → IsFree p →
    IsFree (if b then p else (if d then record p { stop = None; next = None } else record p { stop = Some after.Gone; next = None }))
free_leaving_at true d p h = h
free_leaving_at false true p h = h
free_leaving_at false false p h = h

free_leaving : (p : ComponentState) → IsFree p → IsFree (leaving p)
free_leaving p h = free_leaving_at p.life.gone (is_gone (under_way p.life)) p h

pub free_stopped : (w : Components) → AreFree w.parts → AreFree (all_stopped w).parts
free_stopped w a = free_mapped leaving free_leaving w.parts a

pub free_steadied : (w : Components) → AreFree w.parts → AreFree (steadied w).parts
free_steadied w a = free_mapped forgetting (λ p h. h) w.parts a

-- ---- a change

free_texts : (b : Bool) (f : Fitted) (p : ComponentState) → IsFree p → IsFree (if b then record p { fitted = f } else p)
free_texts true f p h = h
free_texts false f p h = h

free_replacing : (b : Bool) (n : Coming) (p : ComponentState) → IsFree p
    → IsFree (if b then record p { life = record p.life { stop = Some after.Restart }; stop = Some after.Again; next = Some n } else record p
    { stop = Some after.Again; next = Some n })
free_replacing true n p h = h
free_replacing false n p h = h

free_meeting : (n : Coming) (p : ComponentState) → IsFree p → IsFree (meeting n p)
free_meeting n p h =
    let q : ComponentState = with_texts n.0 p in
    let t : IsFree q = free_texts (is_same_item n.0.item p.fitted.item) n.0 p h in
    free_if p.life.gone (coming_again n p) (if is_replaced n.0 p then replacing n q else staying n q) refl
    (free_if (is_replaced n.0 p) (replacing n q) (staying n q) (free_replacing (stops_for_good q.life) n q t) t)

free_fate : (p : ComponentState) (o : Option Coming) → IsFree p → IsFree (elim o [ None ↦ leaving p | Some n ↦ meeting n p ])
free_fate p None h = free_leaving p h
free_fate p (Some n) h = free_meeting n p h

free_with : (ns : List Coming) (ps : List ComponentState) → AreFree ps → AreFree (with_newcomers (map fresh_part ns) ps)
free_with [] ps a = a
free_with (n ∷ ns) ps a = all_placed IsFree (fresh_part n) (with_newcomers (map fresh_part ns) ps) refl (free_with ns ps a)

free_items : (ns : List Coming) (ps : List ComponentState) → AreFree ps → AreFree (with_items ns ps)
free_items ns ps a =
    let met : AreFree (map (fate ns) ps) = free_mapped (fate ns) (λ p i. free_fate p (coming_for (component_name p) ns) i) ps a in
    free_with (filter (λ (n : Coming). not (is_held_by ps n)) ns) (replanned (map (fate ns) ps))
    (free_restarted may_replan (flagged is_replacing (map (fate ns) ps)) (free_flagged is_replacing (map (fate ns) ps) met))

pub free_change : (fs : List Fitted) (counts : List ℕ) (steady : Bool) (w : Components) → AreFree w.parts → AreFree (changed_to fs counts steady w).parts
free_change fs counts steady w a = free_items (counted 0 counts fs) (standing w.parts) (all_standing IsFree w.parts a)
