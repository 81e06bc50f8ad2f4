-- What befalls one component, as it befalls the world.
use Rattle.std.proofs.Common.{◌≡◌, ◌<◌, ℕ, suc, zero, List, [], ◌∷◌, length, Bool, true, false, Option, Some, None, refl, sym, ap, ◌∙◌, arith, get_or}
use Rattle.std.proofs.Common.{slice_get}
use Rattle.std.specs.Prelude.{if◌then◌else◌}
use Rattle.nuc_base.specs.declared.kinds.Step.{Step}
use Rattle.nuc_base.specs.declared.kinds.Step.TheVariants as step
use Rattle.nuc_base.specs.declared.kinds.Exit.{Exit}
use Rattle.lifecycle.specs.declared.kinds.LifeEvent.{LifeEvent}
use Rattle.lifecycle.specs.declared.kinds.LifeEvent.TheVariants as life
use Rattle.components.specs.Answers.{IsExpected, HasHanded}
use Rattle.components.specs.Events.{gone_by, ended, later, is_orphan_at, with_child, started, launched}
use Rattle.components.specs.Turns.{is_begun}
use Rattle.components.proofs.Each.{at_more, at_below}
use Rattle.components.specs.Flags.{at_moment}
use Rattle.components.specs.Lives.{lived, lived_at, drops_at}
use Rattle.components.specs.Marks.{flagged_at, restarted, may_restart}
use Rattle.components.specs.Components.{Components, ComponentState, At, changed_at, without_child, child_gone, owner}
use Rattle.components.specs.declared.kinds.Event.{Event}
use Rattle.components.specs.declared.kinds.Event.TheVariants.{Started, Refused, Skipped, Ended, Passed}

pub test_got : (f : ComponentState → Bool) (xs : List ComponentState) (k : ℕ) (d : ComponentState) → k < length xs →
    f (get_or xs k d) ≡ elim (slice_get xs k) [ None ↦ false | Some p ↦ f p ]
test_got f [] k d l = absurd (omega (arith, l))
test_got f (x ∷ xs) zero d l = refl
test_got f (x ∷ xs) (suc k) d l = test_got f xs k d (omega (arith, l))

pub lived_drops : (k : ℕ) (e : LifeEvent) (steady : Bool) (old mid new : List ComponentState) → mid ≡ changed_at k (lived steady e) old →
    true ≡ drops_at k (at_moment old 0 steady) e
    → new ≡ restarted may_restart (flagged_at k mid) → (m : ℕ) → at_moment new m steady ≡ lived_at k e (at_moment old m steady)
lived_drops k e steady old mid new a d n = λ m.
    let t : List ComponentState = restarted may_restart (flagged_at k (changed_at k (lived steady e) old)) in
    let u : List ComponentState = changed_at k (lived steady e) old in
    ap (λ (ps : List ComponentState). at_moment ps m steady) (n ∙ ap (λ (ps : List ComponentState). restarted may_restart (flagged_at k ps)) a)
    ∙ ap (λ (b : Bool). at_moment (if b then t else u) m steady) d

pub lived_stays : (k : ℕ) (e : LifeEvent) (steady : Bool) (old new : List ComponentState) → new ≡ changed_at k (lived steady e) old →
    false ≡ drops_at k (at_moment old 0 steady) e
    → (m : ℕ) → at_moment new m steady ≡ lived_at k e (at_moment old m steady)
lived_stays k e steady old new a d = λ m.
    let t : List ComponentState = restarted may_restart (flagged_at k (changed_at k (lived steady e) old)) in
    let u : List ComponentState = changed_at k (lived steady e) old in
    ap (λ (ps : List ComponentState). at_moment ps m steady) a ∙ ap (λ (b : Bool). at_moment (if b then t else u) m steady) d

-- ---- a child is gone

pub gone_plainly : (k : ℕ) (s : Step) (n : ℕ) (steady : Bool) (old new : List ComponentState) → new ≡ changed_at k (without_child n) old → (m : ℕ) →
    at_moment new m steady ≡ gone_by None k s n (at_moment old m steady)
gone_plainly k s n steady old new e = λ m. ap (λ (ps : List ComponentState). at_moment ps m steady) e

pub gone_orphan : (k : ℕ) (s : Step) (n : ℕ) (e : LifeEvent) (steady : Bool) (old new : List ComponentState) → new ≡ changed_at k (without_child n) old →
    true ≡ is_orphan_at k s (at_moment old 0 true) → (m : ℕ) → at_moment new m steady ≡ gone_by (Some e) k s n (at_moment old m steady)
gone_orphan k s n e steady old new h o = λ m.
    let w : Components = child_gone k n (at_moment old m steady) in
    ap (λ (ps : List ComponentState). at_moment ps m steady) h ∙ ap (λ (b : Bool). if b then w else lived_at k e w) o

pub gone_living : (k : ℕ) (s : Step) (n : ℕ) (e : LifeEvent) (steady : Bool) (old mid new : List ComponentState) → mid ≡ changed_at k (without_child n) old →
    false ≡ is_orphan_at k s (at_moment old 0 true)
    → ((m : ℕ) → at_moment new m steady ≡ lived_at k e (at_moment mid m steady)) → (m : ℕ) → at_moment new m steady ≡ gone_by (Some e) k s n
    (at_moment old m steady)
gone_living k s n e steady old mid new h o l = λ m.
    let w : Components = child_gone k n (at_moment old m steady) in
    l m ∙ ap (λ (ps : List ComponentState). lived_at k e (at_moment ps m steady)) h ∙ ap (λ (b : Bool). if b then w else lived_at k e w) o

-- ---- its owner

pub ended_none : (n : ℕ) (x : Exit) (steady : Bool) (old : List ComponentState) → None ≡ owner n old → (m : ℕ) →
    at_moment old m steady ≡ ended n x (at_moment old m steady)
ended_none n x steady old o = λ m. ap (λ (p : Option (ℕ × Step)). elim p [
  | None ↦ at_moment old m steady
  | Some q ↦ gone_by (Some (life.Ended q.1 x)) q.0 q.1
      n (at_moment old m steady)
]) o

pub ended_some : (n : ℕ) (x : Exit) (k : ℕ) (s : Step) (steady : Bool) (old new : List ComponentState) → Some (k, s) ≡ owner n old →
    ((m : ℕ) → at_moment new m steady ≡ gone_by (Some (life.Ended s x)) k s n (at_moment old m steady))
    → (m : ℕ) → at_moment new m steady ≡ ended n x (at_moment old m steady)
ended_some n x k s steady old new o g = λ m.
    g m ∙ ap (λ (p : Option (ℕ × Step)). elim p [
      | None ↦ at_moment old m steady
      | Some q ↦ gone_by (Some (life.Ended q.1 x)) q.0 q.1 n
          (at_moment old m steady)
    ]) o

pub answers_later : (w : Components) (m : ℕ) (e : Event) → IsExpected w e → IsExpected (later m w) e
answers_later w m (Started k s n) a = a
answers_later w m (Refused k s) a = a
answers_later w m (Skipped k s) a = a
answers_later w m (Ended n x) a = a
answers_later w m Passed a = a

-- ---- answers

pub begun_at : (k : ℕ) (t : Step) (w : Components) → HasHanded k t w → At k (λ p. is_begun t p ≡ true) w.parts
begun_at k t w h = at_more (λ p. (p.handed ≡ true) × (is_begun t p ≡ true)) (λ p. is_begun t p ≡ true) w.parts k (λ p x. x.1) h

pub handed_below : (k : ℕ) (t : Step) (w : Components) → HasHanded k t w → k < length w.parts
handed_below k t w h = at_below (λ p. (p.handed ≡ true) × (is_begun t p ≡ true)) w.parts k h

pub start_run : (k n m : ℕ) (s : Step) (steady : Bool) (old mid new : List ComponentState) → s ≡ step.Run →
    mid ≡ changed_at k (λ p. with_child n s m (record p { handed = false })) old
    → ((i : ℕ) → at_moment new i steady ≡ lived_at k life.Launched (at_moment mid i steady)) → at_moment new m steady ≡ started k s n (at_moment old m steady)
start_run k n m s steady old mid new r h l =
    l m ∙ ap (λ (ps : List ComponentState). launched step.Run k (at_moment ps m steady)) h
    ∙ ap (λ (t : Step). launched t k (at_moment (changed_at k (λ p. with_child n s m (record p { handed = false })) old) m steady)) (sym r)

launched_other : (s : Step) (k : ℕ) (w : Components) → (s ≡ step.Run → ⊥) → w ≡ launched s k w
launched_other step.Install k w ne = refl
launched_other step.Run k w ne = absurd (ne refl)
launched_other step.Startup k w ne = refl
launched_other step.Shutdown k w ne = refl
launched_other step.Recover k w ne = refl
launched_other step.Bootstrap k w ne = refl

pub start_other : (k n m : ℕ) (s : Step) (steady : Bool) (old new : List ComponentState) → (s ≡ step.Run → ⊥) →
    new ≡ changed_at k (λ p. with_child n s m (record p { handed = false })) old
    → at_moment new m steady ≡ started k s n (at_moment old m steady)
start_other k n m s steady old new ne h =
    ap (λ (ps : List ComponentState). at_moment ps m steady) h ∙ launched_other s k
    (at_moment (changed_at k (λ p. with_child n s m (record p { handed = false })) old) m steady) ne

pub answered : (k : ℕ) (e : LifeEvent) (steady : Bool) (old mid new : List ComponentState) → mid ≡ changed_at k (λ p. record p { handed = false }) old
    → ((i : ℕ) → at_moment new i steady ≡ lived_at k e (at_moment mid i steady)) → (m : ℕ) →
    at_moment new m steady ≡ lived_at k e (at_moment (changed_at k (λ p. record p { handed = false }) old) m steady)
answered k e steady old mid new h l = λ m. l m ∙ ap (λ (ps : List ComponentState). lived_at k e (at_moment ps m steady)) h
