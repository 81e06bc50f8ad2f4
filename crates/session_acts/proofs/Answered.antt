-- Whatever befalls the components, a start is open only where one was handed out.
use Rattle.std.specs.Prelude.{ℕ, suc, zero, Bool, true, false, not, ◌&&◌, ◌||◌, List, [], ◌∷◌, length, map, Option, Some, None, if◌then◌else◌}
use Rattle.std.specs.List.{list_any}
use Rattle.std.proofs.Common.{◌≡◌, ◌∙◌, refl, ap}
use Rattle.nuc_base.specs.declared.kinds.Exit.{Exit}
use Rattle.nuc_base.specs.declared.kinds.Exit.TheVariants as exits
use Rattle.nuc_base.specs.declared.kinds.Step.{Step}
use Rattle.nuc_base.specs.declared.kinds.Step.TheVariants as step
use Rattle.lifecycle.specs.Life.{Life}
use Rattle.lifecycle.specs.Table.{table}
use Rattle.lifecycle.specs.declared.kinds.After.TheVariants as after
use Rattle.lifecycle.specs.declared.kinds.LifeAct.{LifeAct}
use Rattle.lifecycle.specs.declared.kinds.LifeAct.TheVariants as act
use Rattle.lifecycle.specs.declared.kinds.LifeEvent.{LifeEvent}
use Rattle.lifecycle.specs.declared.kinds.LifeEvent.TheVariants as event
use Rattle.components.specs.Fitted.{Fitted, steps_of}
use Rattle.components.specs.Components.{Components, ComponentState, changed_at, owner, child_gone, without_child, is_again, is_spared}
use Rattle.components.specs.Marks.{Flagged, flagged, flagged_at, grown, marked, may_restart, reaching, restarted}
use Rattle.components.specs.Lives.{after_row, completed, drops_at, lived, lived_at, replaced, succeeds, with_failure_owed, with_failures_forgotten}
use Rattle.components.specs.Lives.{with_new_item, with_stop_given}
use Rattle.components.specs.Events.{answered_at, ended, gone_by, is_orphan_at, kill_event_at, killed, launched, refused, skipped, started, heard_at, with_child}
use Rattle.components.specs.Changes.{forgetting, steadied}
use Rattle.components.specs.Acts.{Move, MovesInOrder}
use Rattle.components.specs.Answers.{has_answered}

-- a start was handed out
abbrev pub handed_in : List ComponentState → Bool
handed_in ps = list_any (λ (p : ComponentState). p.handed) ps

pub not_false : (b : Bool) → not b ≡ true → b ≡ false
not_false true h = absurd cc
not_false false h = refl

pub is_free : (w : Components) → has_answered w ≡ true → handed_in w.parts ≡ false
is_free w h = not_false (handed_in w.parts) h

pub free_is : (w : Components) → handed_in w.parts ≡ false → has_answered w ≡ true
free_is w h = ap not h

or_false : (a b : Bool) → (a || b) ≡ false → (a ≡ false) × (b ≡ false)
or_false true b h = absurd cc
or_false false b h = (refl, h)

none_or : (a b : Bool) → a ≡ false → b ≡ false → (a || b) ≡ false
none_or a b x y = rw (x, y) refl

-- ---- one component

same_at : (k : ℕ) (f : ComponentState → ComponentState) (ps : List ComponentState) → ((p : ComponentState) → (f p).handed ≡ p.handed) → handed_in
    (changed_at k f ps) ≡ handed_in ps
same_at k f [] keeps = refl
same_at zero f (p ∷ ps) keeps = ap (λ (b : Bool). b || handed_in ps) (keeps p)
same_at (suc k) f (p ∷ ps) keeps = ap (λ (b : Bool). p.handed || b) (same_at k f ps keeps)

free_at : (k : ℕ) (f : ComponentState → ComponentState) (ps : List ComponentState) → ((p : ComponentState) → (f p).handed ≡ false) → handed_in ps ≡ false →
    handed_in (changed_at k f ps) ≡ false
free_at k f [] frees h = refl
free_at zero f (p ∷ ps) frees h = none_or (f p).handed (handed_in ps) (frees p) (or_false p.handed (handed_in ps) h).1
free_at (suc k) f (p ∷ ps) frees h =
    let s = or_false p.handed (handed_in ps) h in
    none_or p.handed (handed_in (changed_at k f ps)) s.0 (free_at k f ps frees s.1)

-- ---- marks

abbrev flags_in : Flagged → Bool
flags_in fs = list_any (λ (f : ComponentState × Bool). f.0.handed) fs

marked_one : (b : Bool) (p : ComponentState) → (if b then record p { stop = Some after.Restart } else p).handed ≡ p.handed
marked_one true p = refl
marked_one false p = refl

any_marked : (may : ComponentState → Bool) (fs : Flagged) → handed_in (marked may fs) ≡ flags_in fs
any_marked may [] = refl
any_marked may (f ∷ fs) = ap (λ (b : Bool). b || handed_in (marked may fs)) (marked_one (f.1 && may f.0) f.0) ∙ ap (λ (b : Bool). f.0.handed || b)
    (any_marked may fs)

any_grown : (all fs : Flagged) → flags_in (grown all fs) ≡ flags_in fs
any_grown all [] = refl
any_grown all (f ∷ fs) = ap (λ (b : Bool). f.0.handed || b) (any_grown all fs)

any_reaching : (n : ℕ) (fs : Flagged) → flags_in (reaching n fs) ≡ flags_in fs
any_reaching zero fs = refl
any_reaching (suc n) fs = any_reaching n (grown fs fs) ∙ any_grown fs fs

any_flagged : (ps : List ComponentState) → flags_in (flagged (λ q. false) ps) ≡ handed_in ps
any_flagged [] = refl
any_flagged (p ∷ ps) = ap (λ (b : Bool). p.handed || b) (any_flagged ps)

any_flagged_at : (k : ℕ) (ps : List ComponentState) → flags_in (flagged_at k ps) ≡ handed_in ps
any_flagged_at k [] = refl
any_flagged_at zero (p ∷ ps) = ap (λ (b : Bool). p.handed || b) (any_flagged ps)
any_flagged_at (suc k) (p ∷ ps) = ap (λ (b : Bool). p.handed || b) (any_flagged_at k ps)

any_restarted : (k : ℕ) (ps : List ComponentState) → handed_in (restarted may_restart (flagged_at k ps)) ≡ handed_in ps
any_restarted k ps = any_marked may_restart (reaching (length (flagged_at k ps)) (flagged_at k ps)) ∙ any_reaching (length (flagged_at k ps))
    (flagged_at k ps) ∙ any_flagged_at k ps

-- ---- an event of the table

same_replaced : (p : ComponentState) → (replaced p).handed ≡ p.handed
same_replaced p = by p.next
  where
    by : (o : Option (Fitted × ℕ)) → (elim o as (λ x. ComponentState) [
      | None ↦ p
      | Some n ↦ record p {
        fitted = n.0;
        life =
            record p.life { steps = steps_of n.0; failures = n.1 };
        next = None;
      }
    ]).handed ≡ p.handed
    by None = refl
    by (Some n) = refl

same_new_item : (e : LifeEvent) (before : Life) (p : ComponentState) → (with_new_item e before p).handed ≡ p.handed
same_new_item e before p = by (is_again (completed e before p.life))
  where
    by : (b : Bool) → (if b then replaced p else p).handed ≡ p.handed
    by true = same_replaced p
    by false = refl

same_given : (e : LifeEvent) (p : ComponentState) → (with_stop_given e p).handed ≡ p.handed
same_given event.MayBegin p = refl
same_given event.Launched p = refl
same_given event.Skipped p = refl
same_given (event.Ended s e) p = refl
same_given (event.Stop a) p = refl
same_given event.Retry p = refl

owed_one : (b : Bool) (s : Step) (e : Exit) (p : ComponentState) → (if b then p else record p { owed = Some (s, e) }).handed ≡ p.handed
owed_one true s e p = refl
owed_one false s e p = refl

same_owed : (a : LifeAct) (p : ComponentState) → (with_failure_owed a p).handed ≡ p.handed
same_owed act.Nothing p = refl
same_owed (act.Begin s) p = refl
same_owed act.Kill p = refl
same_owed (act.Failed s e) p = owed_one (is_spared p) s e p
same_owed (act.Broke s e) p = owed_one (is_spared p) s e p

same_forgotten : (steady : Bool) (before : Life) (p : ComponentState) → (with_failures_forgotten steady before p).handed ≡ p.handed
same_forgotten steady before p = by (steady && succeeds before p.life)
  where
    by : (b : Bool) → (if b then record p { life = record p.life { failures = 0 } } else p).handed ≡ p.handed
    by true = refl
    by false = refl

abbrev row_done : Bool → LifeEvent → LifeAct → Life → ComponentState → ComponentState
row_done steady e a d p = with_stop_given e (with_failure_owed a (with_failures_forgotten steady p.life (after_row d p)))

same_lived : (steady : Bool) (e : LifeEvent) (p : ComponentState) → (lived steady e p).handed ≡ p.handed
same_lived steady e p = by (table p.life e)
  where
    by : (o : Option (LifeAct × Life)) → (elim o as (λ x. ComponentState) [ None ↦ p | Some r ↦ with_new_item e p.life (row_done steady e r.0 r.1 p) ]).handed
        ≡ p.handed
    by None = refl
    by (Some r) =
        same_new_item e p.life (row_done steady e r.0 r.1 p)
        ∙ same_given e (with_failure_owed r.0 (with_failures_forgotten steady p.life (after_row r.1 p)))
        ∙ same_owed r.0 (with_failures_forgotten steady p.life (after_row r.1 p))
        ∙ same_forgotten steady p.life (after_row r.1 p)

same_lived_at : (k : ℕ) (e : LifeEvent) (w : Components) → handed_in (lived_at k e w).parts ≡ handed_in w.parts
same_lived_at k e w = by (drops_at k w e)
  where
    here : handed_in (changed_at k (lived w.steady e) w.parts) ≡ handed_in w.parts
    here = same_at k (lived w.steady e) w.parts (λ p. same_lived w.steady e p)

    by : (b : Bool) → handed_in (if b then restarted may_restart (flagged_at k (changed_at k (lived w.steady e) w.parts)) else changed_at k (lived w.steady e)
        w.parts) ≡ handed_in w.parts
    by true = any_restarted k (changed_at k (lived w.steady e) w.parts) ∙ here
    by false = here

-- ---- what befalls them

pub free_moved : (w v : Components) (ms : List Move) → MovesInOrder w ms v → handed_in v.parts ≡ handed_in w.parts
free_moved w v [] q = ap (λ (x : Components). handed_in x.parts) q
free_moved w v (m ∷ ms) q = free_moved (lived_at m.who m.what w) v ms q.2 ∙ same_lived_at m.who m.what w

launched_same : (s : Step) (k : ℕ) (w : Components) → handed_in (launched s k w).parts ≡ handed_in w.parts
launched_same step.Install k w = refl
launched_same step.Run k w = same_lived_at k event.Launched w
launched_same step.Startup k w = refl
launched_same step.Shutdown k w = refl
launched_same step.Recover k w = refl
launched_same step.Bootstrap k w = refl

pub free_started : (k : ℕ) (s : Step) (n : ℕ) (w : Components) → handed_in w.parts ≡ false → handed_in (started k s n w).parts ≡ false
free_started k s n w h = launched_same s k _ ∙ free_at k (λ p. with_child n s w.moment (record p { handed = false })) w.parts (λ p. refl) h

free_answered : (k : ℕ) (w : Components) → handed_in w.parts ≡ false → handed_in (answered_at k w).parts ≡ false
free_answered k w h = free_at k (λ p. record p { handed = false }) w.parts (λ p. refl) h

pub free_refused : (k : ℕ) (s : Step) (w : Components) → handed_in w.parts ≡ false → handed_in (refused k s w).parts ≡ false
free_refused k s w h = same_lived_at k (event.Ended s exits.NotStarted) (answered_at k w) ∙ free_answered k w h

pub free_skipped : (k : ℕ) (w : Components) → handed_in w.parts ≡ false → handed_in (skipped k w).parts ≡ false
free_skipped k w h = same_lived_at k event.Skipped (answered_at k w) ∙ free_answered k w h

gone_same : (k n : ℕ) (w : Components) → handed_in (child_gone k n w).parts ≡ handed_in w.parts
gone_same k n w = same_at k (without_child n) w.parts (λ p. refl)

gone_by_same : (o : Option LifeEvent) (k : ℕ) (s : Step) (n : ℕ) (w : Components) → handed_in (gone_by o k s n w).parts ≡ handed_in w.parts
gone_by_same None k s n w = gone_same k n w
gone_by_same (Some e) k s n w = by (is_orphan_at k s w)
  where
    by : (b : Bool) → handed_in (if b then child_gone k n w else lived_at k e (child_gone k n w)).parts ≡ handed_in w.parts
    by true = gone_same k n w
    by false = same_lived_at k e (child_gone k n w) ∙ gone_same k n w

pub free_killed : (n : ℕ) (w : Components) → handed_in (killed n w).parts ≡ handed_in w.parts
free_killed n w = by (owner n w.parts)
  where
    by : (o : Option (ℕ × Step)) → handed_in (elim o as (λ x. Components) [ None ↦ w | Some o ↦ gone_by (kill_event_at o.0 o.1 n w) o.0 o.1 n w ]).parts
        ≡ handed_in w.parts
    by None = refl
    by (Some o) = gone_by_same (kill_event_at o.0 o.1 n w) o.0 o.1 n w

pub free_ended : (n : ℕ) (e : Exit) (w : Components) → handed_in (ended n e w).parts ≡ handed_in w.parts
free_ended n e w = by (owner n w.parts)
  where
    by : (o : Option (ℕ × Step)) → handed_in (elim o as (λ x. Components) [ None ↦ w | Some o ↦ gone_by (Some (event.Ended o.1 e)) o.0 o.1 n w ]).parts
        ≡ handed_in w.parts
    by None = refl
    by (Some o) = gone_by_same (Some (event.Ended o.1 e)) o.0 o.1 n w

pub free_told : (k : ℕ) (w : Components) → handed_in (heard_at k w).parts ≡ handed_in w.parts
free_told k w = same_at k (λ p. record p { owed = None }) w.parts (λ p. refl)

forgetting_same : (ps : List ComponentState) → handed_in (map forgetting ps) ≡ handed_in ps
forgetting_same [] = refl
forgetting_same (p ∷ ps) = ap (λ (b : Bool). p.handed || b) (forgetting_same ps)

pub free_steadied : (w : Components) → handed_in (steadied w).parts ≡ handed_in w.parts
free_steadied w = forgetting_same w.parts
