-- What is kept of each component is kept by each event, and by marks.
use Rattle.std.proofs.Common.{◌≡◌, ◌<◌, ◌==◌, ℕ, List, [], ◌∷◌, Option, Some, None, Bool, true, false, refl, sym, ap, ◌∙◌, inl, inr}
use Rattle.std.proofs.Common.{subst}
use Rattle.std.specs.Prelude.{◌&&◌, ◌||◌, not, IfSome, filter}
use Rattle.std.specs.List.{list_all, AllByRecursion}
use Rattle.std.proofs.lemmas.Bool.{and_parts}
use Rattle.nuc_base.specs.declared.kinds.Step.TheVariants as step
use Rattle.lifecycle.specs.Awaits.{is_same_step, is_busy_with}
use Rattle.lifecycle.specs.Life.{HasOneMain, IsSound, MayHave, may_be_busy, may_run}
use Rattle.lifecycle.specs.declared.kinds.After.TheVariants as after
use Rattle.lifecycle.specs.declared.kinds.LifeEvent.{LifeEvent}
use Rattle.lifecycle.specs.declared.kinds.LifeEvent.TheVariants as event
use Rattle.lifecycle.specs.declared.kinds.StepSet.{StepSet}
use Rattle.components.specs.Components.{ComponentState, Child, At, changed_at, is_leaving, under_way, component_name}
use Rattle.components.specs.Components.{is_again}
use Rattle.components.specs.Fitted.{Fitted, name_of, steps_of}
use Rattle.components.specs.Lives.{lived, lived_at}
use Rattle.components.specs.Marks.{may_replan}
use Rattle.law_supervisor.specs.Sound.{may_ask, is_bare, is_to_begin_again, is_waiting}
use Rattle.law_supervisor.proofs.KeptAsks.{asks_at}
use Rattle.law_supervisor.proofs.KeptBare.{bare_at}
use Rattle.law_supervisor.proofs.KeptBusy.{busy_at}
use Rattle.law_supervisor.proofs.KeptFew.{few_at}
use Rattle.law_supervisor.proofs.KeptLaunch.{launch_at}
use Rattle.law_supervisor.proofs.KeptRuns.{runs_at}
use Rattle.law_supervisor.proofs.KeptWaits.{waits_at}
use Rattle.law_supervisor.proofs.Made.{MayBefall, begins}
use Rattle.law_supervisor.proofs.Items.{by_lived, lived_gone}
use Rattle.law_supervisor.proofs.Lists.{either, clash, second_true, changed_all}
use Rattle.law_supervisor.proofs.Alone.{but, run_but, run_lived, runs_in, standing}
use Rattle.law_supervisor.proofs.Moved.{at_of}
use Rattle.law_supervisor.proofs.Reached.{Marks, idle_of}
use Rattle.law_supervisor.proofs.Together.{event_all}
use Rattle.law_termination.specs.Kept.{IsKeptPart, IsRunnable, IsComing, is_timed}
use Rattle.law_termination.proofs.KeepsLeaving.{leaving_at}
use Rattle.law_termination.proofs.Lives.{own_lived, stop_lived}
use Rattle.law_termination.proofs.Sums.{IsFallingPart}

with_children : (p : ComponentState) (cs : List Child) → IsKeptPart p → list_all is_timed cs ≡ true → (is_busy_with step.Run p.life.busy && runs_in cs)
    ≡ false → IsKeptPart (record p { children = cs })
with_children p cs k t r = record {
  sound = k.sound;
  steps = k.steps;
  runnable = k.runnable;
  coming = k.coming;
  timed = t;
  run = r;
  gone = k.gone;
  own = k.own;
  asks = k.asks;
  waits = k.waits;
}

abbrev Fits : List ℕ → List Child → Fitted → Option (Fitted × ℕ) → StepSet → List Child → Type 0
Fits own cs f nx st ds = (st ≡ steps_of f) × IsRunnable f × IfSome nx (IsComing (name_of f)) × (name_of f ≡ own) × (ds ≡ cs)

abbrev IsFew : List ℕ → Fitted × ℕ → Type 0
IsFew own n = (name_of n.0 ≡ own) × (n.1 < 3)

coming_few : (own : List ℕ) (o : Option (Fitted × ℕ)) → IfSome o (IsComing own) → IfSome o (IsFew own)
coming_few own None h = tt
coming_few own (Some n) h = (h.name, h.failures)

pub lived_keeps : (b : Bool) (e : LifeEvent) (p : ComponentState) (cs : List Child) → IsKeptPart p → MayBefall e (record p { children = cs }) →
    list_all is_timed cs ≡ true
    → (is_busy_with step.Run (lived b e (record p { children = cs })).life.busy && runs_in cs) ≡ false → IsKeptPart (lived b e (record p { children = cs }))
lived_keeps b e p cs k m t r = elim (either p.life.gone) [
  | inl g ↦ (let same = lived_gone b e (record p { children = cs }) g in
      subst IsKeptPart (sym same) (with_children p cs k t (subst (λ (x : ComponentState). (is_busy_with step.Run x.life.busy && runs_in cs) ≡ false) same r)))
  | inr g ↦ (let items = by_lived (Fits (component_name p) cs) b e (record p { children = cs }) (
    (k.steps, k.runnable, k.coming, refl, refl),
    λ n q. let c : IsComing (component_name p) n =
        subst (λ (o : Option (Fitted × ℕ)). IfSome o (IsComing (component_name p))) q k.coming in (refl, c.runnable, tt, c.name, refl),
  ) in
      record {
        sound = record {
          main = subst HasOneMain (sym items.0) items.1.main;
          failures = standing (λ x. MayHave x.life.state x.life.failures → IfSome x.next (IsFew (component_name x)) →
              MayHave (lived b e x).life.state (lived b e x).life.failures) (record p { children = cs }) g
              (few_at p.fitted p.life.steps p.life.failures p.life.busy p.life.runs p.life.install_failed p.life.stop cs p.handed p.owed p.stop p.next
              p.life.state e b) k.sound.failures (coming_few (component_name p) p.next k.coming);
          busy = standing (λ x. may_be_busy x.life.state x.life.busy ≡ true → may_be_busy (lived b e x).life.state (lived b e x).life.busy ≡ true)
              (record p { children = cs }) g
              (busy_at p.fitted p.life.steps p.life.failures p.life.busy p.life.runs p.life.install_failed p.life.stop cs p.handed p.owed p.stop p.next
              p.life.state e b) k.sound.busy;
          runs = standing (λ x. may_run x.life.state x.life.runs ≡ true → may_run (lived b e x).life.state (lived b e x).life.runs ≡ true)
              (record p { children = cs }) g
              (runs_at p.fitted p.life.steps p.life.failures p.life.busy p.life.runs p.life.install_failed p.life.stop cs p.handed p.owed p.stop p.next
              p.life.state e b) k.sound.runs;
          stop = stop_lived b e (record p { children = cs }) k.sound;
        };
        steps = items.0;
        runnable = items.1;
        coming = items.2;
        timed = subst (λ (ds : List Child). list_all is_timed ds ≡ true) (sym items.4) t;
        run = subst (λ (ds : List Child). (is_busy_with step.Run (lived b e (record p { children = cs })).life.busy && runs_in ds) ≡ false) (sym items.4) r;
        gone = standing (λ x. may_be_busy x.life.state x.life.busy ≡ true → may_run x.life.state x.life.runs ≡ true → may_ask (under_way x.life) x.stop ≡ true
            → MayBefall e x → (not (lived b e x).life.gone || is_bare (lived b e x)) ≡ true) (record p { children = cs }) g
            (bare_at p.fitted p.life.steps p.life.failures p.life.busy p.life.runs p.life.install_failed p.life.stop cs p.handed p.owed p.stop p.next
            p.life.state e b) k.sound.busy k.sound.runs k.asks m;
        own = own_lived b e (record p { children = cs }) k.sound k.own;
        asks = standing (λ x. may_ask (under_way x.life) x.stop ≡ true → MayBefall e x →
            may_ask (under_way (lived b e x).life) (lived b e x).stop ≡ true) (record p { children = cs }) g
            (asks_at p.fitted p.life.steps p.life.failures p.life.busy p.life.runs p.life.install_failed p.life.stop cs p.handed p.owed p.stop p.next
            p.life.state e b) k.asks m;
        waits = standing (λ x. may_ask (under_way x.life) x.stop ≡ true → MayBefall e x → (not (is_waiting x) || is_to_begin_again x) ≡ true →
            (not (is_waiting (lived b e x)) || is_to_begin_again (lived b e x)) ≡ true) (record p { children = cs }) g
            (waits_at p.fitted p.life.steps p.life.failures p.life.busy p.life.runs p.life.install_failed p.life.stop cs p.handed p.owed p.stop p.next
            p.life.state e b) k.asks m k.waits;
      })
]

pub lived_leaving : (b : Bool) (e : LifeEvent) (q : ComponentState) → IsSound q.life → may_ask (under_way q.life) q.stop ≡ true → MayBefall e q →
    is_leaving (lived b e q) ≡ is_leaving q
lived_leaving b e q k a m = elim (either q.life.gone) [
  | inl g ↦ ap is_leaving (lived_gone b e q g)
  | inr g ↦ standing (λ x. IsSound x.life → may_ask (under_way x.life) x.stop ≡ true → MayBefall e x → is_leaving (lived b e x) ≡ is_leaving x) q g
      (leaving_at q.fitted q.life.steps q.life.failures q.life.busy q.life.runs q.life.install_failed q.life.stop q.children q.handed q.owed q.stop q.next
      q.life.state e b) k a m
]

-- ---- marks

pub mark_keeps : (p : ComponentState) → may_replan p ≡ true → IsKeptPart p → IsKeptPart (record p { stop = Some after.Restart })
mark_keeps p e k =
    let i = idle_of p e in
    let w : not (is_waiting p) ≡ true = elim (either (not (is_waiting p))) [
      | inl y ↦ y
      | inr n ↦ clash (is_again p.stop || is_again (under_way p.life))
          (second_true (not (is_waiting p)) (is_again p.stop || is_again (under_way p.life)) k.waits n) (rw i.0 (rw i.1 refl))
    ] in
    record {
      sound = k.sound;
      steps = k.steps;
      runnable = k.runnable;
      coming = k.coming;
      timed = k.timed;
      run = k.run;
      own = k.own;
      gone = rw i.2 refl;
      asks = rw i.1 refl;
      waits = rw w refl;
    }

abbrev pub Known : Bool → ComponentState → Type 0
Known b p = IsKeptPart p × IsFallingPart b p

mark_known : (b : Bool) → Marks (Known b)
mark_known b p e k = (mark_keeps p e k.0, elim k.1 [ inl f ↦ inl f | inr l ↦ (let i = idle_of p e in clash (is_leaving p) l (rw i.0 (rw i.1 (rw i.2 refl)))) ])

pub changed_known : (K : ComponentState → Type 0) (k : ℕ) (g : ComponentState → ComponentState) (ps : List ComponentState) → AllByRecursion K ps →
    At k (λ p. K (g p)) ps → AllByRecursion K (changed_at k g ps)
changed_known K k g ps a h = changed_all K k g ps a (λ p q x. at_of (λ r. K (g r)) k ps p q h)

pub event_known : (k m : ℕ) (d b : Bool) (e : LifeEvent) (h : ComponentState → ComponentState) (ps : List ComponentState) → AllByRecursion (Known d) ps →
    At k (λ p. Known d (lived b e (h p))) ps
    → AllByRecursion (Known d) (lived_at k e (record { parts = changed_at k h ps; moment = m; steady = b })).parts
event_known k m d b e h ps a c = event_all (Known d) (mark_known d) k e h (record { parts = ps; moment = m; steady = b }) a
    (λ p q x. at_of (λ r. Known d (lived b e (h r))) k ps p q c)

-- ---- one component at each event

pub stays_known : (d b : Bool) (e : LifeEvent) (p : ComponentState) → Known d p → MayBefall e p → (begins e && runs_in p.children) ≡ false →
    Known d (lived b e p)
stays_known d b e p k m i = (
  lived_keeps b e p p.children k.0 m k.0.timed (run_lived b e p (runs_in p.children) k.0.sound.busy k.0.sound.runs k.0.run i),
  elim k.1 [ inl f ↦ inl f | inr l ↦ inr (lived_leaving b e p k.0.sound k.0.asks m ∙ l) ],
)

timed_but : (n : ℕ) (cs : List Child) → list_all is_timed cs ≡ true → list_all is_timed (but n cs) ≡ true
timed_but n [] h = refl
timed_but n (c ∷ cs) h = let x = and_parts (is_timed c) (list_all is_timed cs) h in elim (either (c.number == n))
    [ inl e ↦ rw e (timed_but n cs x.1) | inr e ↦ rw e (rw x.0 (timed_but n cs x.1)) ]

pub gone_known : (d : Bool) (n : ℕ) (p : ComponentState) → Known d p → Known d (record p { children = filter (λ (c : Child). not (c.number == n)) p.children })
gone_known d n p k = (with_children p (but n p.children) k.0 (timed_but n p.children k.0.timed) (run_but n p.life.busy p.children k.0.run), k.1)

pub end_known : (d b : Bool) (e : LifeEvent) (n : ℕ) (p : ComponentState) → Known d p →
    MayBefall e (record p { children = filter (λ (c : Child). not (c.number == n)) p.children }) → begins e ≡ false
    → Known d (lived b e (record p { children = filter (λ (c : Child). not (c.number == n)) p.children }))
end_known d b e n p k m i = (
  lived_keeps b e p (but n p.children) k.0 m (timed_but n p.children k.0.timed)
      (run_lived b e (record p { children = but n p.children }) (runs_in (but n p.children)) k.0.sound.busy k.0.sound.runs
      (run_but n p.life.busy p.children k.0.run) (rw i refl)),
  elim k.1 [ inl f ↦ inl f | inr l ↦ inr (lived_leaving b e (record p { children = but n p.children }) k.0.sound k.0.asks m ∙ l) ],
)

launch_run : (b : Bool) (q : ComponentState) (z : Bool) → IsSound q.life → q.life.gone ≡ false →
    (is_busy_with step.Run (lived b event.Launched q).life.busy && z) ≡ false
launch_run b q z k g = rw (standing (λ x. may_be_busy x.life.state x.life.busy ≡ true → is_busy_with step.Run (lived b event.Launched x).life.busy ≡ false) q g
    (launch_at q.fitted q.life.steps q.life.failures q.life.busy q.life.runs q.life.install_failed q.life.stop q.children q.handed q.owed q.stop q.next
    q.life.state b) k.busy) refl

-- its run child lives
pub launch_known : (d b : Bool) (c : Child) (p : ComponentState) → Known d p → p.life.gone ≡ false → c.of ≡ step.Run →
    Known d (lived b event.Launched (record p { children = c ∷ p.children }))
launch_known d b c p k g o =
    let t : is_timed c ≡ true = rw o refl in (
      lived_keeps b event.Launched p (c ∷ p.children) k.0 tt (rw t k.0.timed)
          (launch_run b (record p { children = c ∷ p.children }) (runs_in (c ∷ p.children)) k.0.sound g),
      elim k.1 [ inl f ↦ inl f | inr l ↦ inr (lived_leaving b event.Launched (record p { children = c ∷ p.children }) k.0.sound k.0.asks tt ∙ l) ],
    )

-- the child of another step lives
pub child_known : (d : Bool) (c : Child) (p : ComponentState) → Known d p → is_timed c ≡ true → is_same_step step.Run c.of ≡ false →
    Known d (record p { children = c ∷ p.children })
child_known d c p k t o = (with_children p (c ∷ p.children) k.0 (rw t k.0.timed) (rw o k.0.run), k.1)
