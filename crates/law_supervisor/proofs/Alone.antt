-- What is kept of one component is kept by each event, and by marks.
use Rattle.std.proofs.Common.{◌≡◌, ◌<◌, ◌==◌, ℕ, List, [], ◌∷◌, Option, Some, None, Bool, true, false, refl, sym, ◌∙◌, inl, inr, arith, subst}
use Rattle.std.specs.Prelude.{◌&&◌, ◌||◌, not, is_some, filter}
use Rattle.std.specs.Option.{IfSome}
use Rattle.std.specs.List.{list_any}
use Rattle.std.proofs.lemmas.Bool.{or_parts, and_parts}
use Rattle.nuc_base.specs.declared.kinds.Step.{Step}
use Rattle.nuc_base.specs.declared.kinds.Step.TheVariants as step
use Rattle.nuc_base.specs.declared.kinds.Exit.{Exit}
use Rattle.lifecycle.specs.Life.{Life, MayHave, may_be_busy, may_run}
use Rattle.lifecycle.specs.Awaits.{is_awaited, is_busy_with, is_stopping}
use Rattle.lifecycle.specs.declared.kinds.After.TheVariants as after
use Rattle.lifecycle.specs.declared.kinds.LifeEvent.{LifeEvent}
use Rattle.lifecycle.specs.declared.kinds.LifeEvent.TheVariants as event
use Rattle.device.specs.Devices.{Device}
use Rattle.components.specs.Fitted.{Fitted, name_of}
use Rattle.components.specs.Components.{ComponentState, Child, component_name, is_to_stop, is_spared, is_gone, is_broken, is_orphan, has_orphan, under_way}
use Rattle.components.specs.Lives.{lived}
use Rattle.law_supervisor.specs.Sound.{IsSoundPart, may_ask, is_run, is_bare, is_waiting, is_to_begin_again}
use Rattle.law_supervisor.specs.Keeps.{IsCounted, AgreesBy, count_of}
use Rattle.law_supervisor.proofs.Lists.{either, clash, second_true, none_of, not_so}
use Rattle.law_supervisor.proofs.Reached.{Marks, idle_of}
use Rattle.law_supervisor.proofs.Items.{by_lived, same_children, lived_gone}
use Rattle.law_supervisor.proofs.Made.{MayBefall, begins, ends_fairly, Agrees}
use Rattle.law_supervisor.proofs.KeptFew.{few_at}
use Rattle.law_supervisor.proofs.KeptBusy.{busy_at}
use Rattle.law_supervisor.proofs.KeptRuns.{runs_at}
use Rattle.law_supervisor.proofs.KeptRun.{run_at}
use Rattle.law_supervisor.proofs.KeptLaunch.{launch_at}
use Rattle.law_supervisor.proofs.KeptBare.{bare_at}
use Rattle.law_supervisor.proofs.KeptAsks.{asks_at}
use Rattle.law_supervisor.proofs.KeptWaits.{waits_at}
use Rattle.law_supervisor.proofs.KeptTakes.{takes_at}
use Rattle.law_supervisor.proofs.KeptBroken.{broken_at}
use Rattle.law_supervisor.proofs.KeptOwed.{owed_at}
use Rattle.law_supervisor.proofs.KeptCounts.{counts_at}

pub standing : (P : ComponentState → Type 0) (p : ComponentState) → p.life.gone ≡ false → P (record p { life = record p.life { gone = false } }) → P p
standing P p e x = subst (λ (g : Bool). P (record p { life = record p.life { gone = g } })) (sym e) x

-- one that stands and owes nothing
untold : (P : ComponentState → Type 0) (p : ComponentState) → p.life.gone ≡ false → p.owed ≡ None →
    P (record p { life = record p.life { gone = false }; owed = None }) → P p
untold P p g o x = subst (λ (y : Option (Step × Exit)). P (record p { owed = y })) (sym o)
    (subst (λ (z : Bool). P (record p { life = record p.life { gone = z }; owed = None })) (sym g) x)

-- what is left of one that is gone
pub bare_of : (p : ComponentState) → (not p.life.gone || is_bare p) ≡ true → p.life.gone ≡ true → (p.stop ≡ None) × (is_stopping p.life.state ≡ false) ×
    (p.life.busy ≡ None) × (p.life.runs ≡ false)
bare_of p b g =
    let x = second_true (not p.life.gone) (is_bare p) b (rw g refl) in
    let y = and_parts (not (is_some p.stop) && not (is_stopping p.life.state)) (not (is_some p.life.busy) && not p.life.runs) x in
    let a = and_parts (not (is_some p.stop)) (not (is_stopping p.life.state)) y.0 in
    let c = and_parts (not (is_some p.life.busy)) (not p.life.runs) y.1 in (
      none_of p.stop (not_so (is_some p.stop) a.0),
      not_so (is_stopping p.life.state) a.1,
      none_of p.life.busy (not_so (is_some p.life.busy) c.0),
      not_so p.life.runs c.1,
    )

abbrev pub runs_in : List Child → Bool
runs_in cs = list_any is_run cs

-- the component with other children, and its start answered or not
abbrev pub with_these : List Child → Bool → ComponentState → ComponentState
with_these cs hd p = record p { children = cs; handed = hd }

pub sound_these : (p : ComponentState) (cs : List Child) (hd : Bool) → IsSoundPart p → (is_busy_with step.Run p.life.busy && runs_in cs) ≡ false →
    IsSoundPart (with_these cs hd p)
sound_these p cs hd k r = record {
  few = k.few;
  busy = k.busy;
  runs = k.runs;
  run = r;
  bare = k.bare;
  asks = k.asks;
  waits = k.waits;
  takes =
      k.takes;
  coming = k.coming;
}

pub counted_these : (d : Device) (p : ComponentState) (cs : List Child) (hd : Bool) → IsCounted d p → IsCounted d (with_these cs hd p)
counted_these d p cs hd k = record { own = k.own; broken = k.broken; spared = k.spared; gone = k.gone; next = k.next }

abbrev pub IsNamed : List ℕ → Fitted × ℕ → Type 0
IsNamed own n = (name_of n.0 ≡ own) × (n.1 < 3)

pub same_name : (b : Bool) (e : LifeEvent) (p : ComponentState) → IfSome p.next (IsNamed (component_name p)) → component_name (lived b e p) ≡ component_name p
same_name b e p k = by_lived (λ f nx st cs. name_of f ≡ component_name p) b e p
    (refl, (λ n q. (subst (λ (o : Option (Fitted × ℕ)). IfSome o (IsNamed (component_name p))) q k).0))

coming_lived : (b : Bool) (e : LifeEvent) (p : ComponentState) → IfSome p.next (IsNamed (component_name p)) →
    IfSome (lived b e p).next (IsNamed (component_name (lived b e p)))
coming_lived b e p k = by_lived (λ f nx st cs. IfSome nx (IsNamed (name_of f))) b e p (k, (λ n q. tt))

pub run_lived : (b : Bool) (e : LifeEvent) (p : ComponentState) (z : Bool) → may_be_busy p.life.state p.life.busy ≡ true →
    may_run p.life.state p.life.runs ≡ true → (is_busy_with step.Run p.life.busy && z) ≡ false → (begins e && z) ≡ false →
    (is_busy_with step.Run (lived b e p).life.busy && z) ≡ false
run_lived b e p z k r h i = elim (either p.life.gone) [
  | inl g ↦ subst (λ (x : ComponentState). (is_busy_with step.Run x.life.busy && z) ≡ false) (sym (lived_gone b e p g)) h
  | inr g ↦ standing (λ x. may_be_busy x.life.state x.life.busy ≡ true → may_run x.life.state x.life.runs ≡ true → (is_busy_with step.Run x.life.busy && z)
      ≡ false → (begins e && z) ≡ false → (is_busy_with step.Run (lived b e x).life.busy && z) ≡ false) p g
      (run_at p.fitted p.life.steps p.life.failures p.life.busy p.life.runs p.life.install_failed p.life.stop p.children p.handed p.owed p.stop p.next z
      p.life.state e b) k r h i
]

-- an event, where no run child lives while a run is begun after it
pub sound_lived : (b : Bool) (e : LifeEvent) (p : ComponentState) (cs : List Child) (hd : Bool) → IsSoundPart p → MayBefall e (with_these cs hd p)
    → (is_busy_with step.Run (lived b e (with_these cs hd p)).life.busy && runs_in cs) ≡ false → IsSoundPart (lived b e (with_these cs hd p))
sound_lived b e p cs hd k m r = elim (either p.life.gone) [
  | inl g ↦ (let same = lived_gone b e (with_these cs hd p) g in
      subst IsSoundPart (sym same) (sound_these p cs hd k (subst (λ (x : ComponentState). (is_busy_with step.Run x.life.busy && runs_in cs) ≡ false) same r)))
  | inr g ↦ record {
    few = standing (λ x. MayHave x.life.state x.life.failures → IfSome x.next (IsNamed (component_name x)) →
        MayHave (lived b e x).life.state (lived b e x).life.failures) (with_these cs hd p) g
        (few_at p.fitted p.life.steps p.life.failures p.life.busy p.life.runs p.life.install_failed p.life.stop cs hd p.owed p.stop p.next p.life.state e b)
        k.few k.coming;
    busy = standing (λ x. may_be_busy x.life.state x.life.busy ≡ true → may_be_busy (lived b e x).life.state (lived b e x).life.busy ≡ true)
        (with_these cs hd p) g
        (busy_at p.fitted p.life.steps p.life.failures p.life.busy p.life.runs p.life.install_failed p.life.stop cs hd p.owed p.stop p.next p.life.state e b)
        k.busy;
    runs = standing (λ x. may_run x.life.state x.life.runs ≡ true → may_run (lived b e x).life.state (lived b e x).life.runs ≡ true) (with_these cs hd p) g
        (runs_at p.fitted p.life.steps p.life.failures p.life.busy p.life.runs p.life.install_failed p.life.stop cs hd p.owed p.stop p.next p.life.state e b)
        k.runs;
    run = subst (λ (ds : List Child). (is_busy_with step.Run (lived b e (with_these cs hd p)).life.busy && runs_in ds) ≡ false)
        (sym (same_children b e (with_these cs hd p))) r;
    bare = standing (λ x. may_be_busy x.life.state x.life.busy ≡ true → may_run x.life.state x.life.runs ≡ true → may_ask (under_way x.life) x.stop ≡ true →
        MayBefall e x → (not (lived b e x).life.gone || is_bare (lived b e x)) ≡ true) (with_these cs hd p) g
        (bare_at p.fitted p.life.steps p.life.failures p.life.busy p.life.runs p.life.install_failed p.life.stop cs hd p.owed p.stop p.next p.life.state e b)
        k.busy k.runs k.asks m;
    asks = standing (λ x. may_ask (under_way x.life) x.stop ≡ true → MayBefall e x → may_ask (under_way (lived b e x).life) (lived b e x).stop ≡ true)
        (with_these cs hd p) g
        (asks_at p.fitted p.life.steps p.life.failures p.life.busy p.life.runs p.life.install_failed p.life.stop cs hd p.owed p.stop p.next p.life.state e b)
        k.asks m;
    waits = standing (λ x. may_ask (under_way x.life) x.stop ≡ true → MayBefall e x → (not (is_waiting x) || is_to_begin_again x) ≡ true →
        (not (is_waiting (lived b e x)) || is_to_begin_again (lived b e x)) ≡ true) (with_these cs hd p) g
        (waits_at p.fitted p.life.steps p.life.failures p.life.busy p.life.runs p.life.install_failed p.life.stop cs hd p.owed p.stop p.next p.life.state e b)
        k.asks m k.waits;
    takes = standing (λ x. may_ask (under_way x.life) x.stop ≡ true → MayBefall e x → (not (is_to_begin_again x) || (is_waiting x || is_gone x.stop)) ≡ true →
        (not (is_to_begin_again (lived b e x)) || (is_waiting (lived b e x) || is_gone (lived b e x).stop)) ≡ true) (with_these cs hd p) g
        (takes_at p.fitted p.life.steps p.life.failures p.life.busy p.life.runs p.life.install_failed p.life.stop cs hd p.owed p.stop p.next p.life.state e b)
        k.asks m k.takes;
    coming = coming_lived b e (with_these cs hd p) k.coming;
  }
]

-- ---- counts

spared_none : (a : Bool) (g : Bool) (o : Option (Step × Exit)) → (not (a || g) || not (is_some o)) ≡ true → a ≡ true → o ≡ None
spared_none a g None h e = refl
spared_none a g (Some f) h e = let x : (not (a || g) || not (is_some (Some f))) ≡ false = rw e refl in clash (not (a || g) || not (is_some (Some f))) h x

gone_none : (a : Bool) (g : Bool) (o : Option (Step × Exit)) → (not (a || g) || not (is_some o)) ≡ true → g ≡ true → o ≡ None
gone_none a g None h e = refl
gone_none true g (Some f) h e = absurd (cc)
gone_none false g (Some f) h e = let x : (not (false || g) || not (is_some (Some f))) ≡ false = rw e refl in
    clash (not (false || g) || not (is_some (Some f))) h x

abbrev pub IsCountedNext : Device → List ℕ → Fitted × ℕ → Type 0
IsCountedNext d own n = (name_of n.0 ≡ own) × (count_of d (name_of n.0) ≡ Some n.1)

-- what is owed agrees, where a deployment is driven and nothing was owed
pub counted_lived : (d : Device) (e : LifeEvent) (p : ComponentState) (cs : List Child) (hd : Bool) → IsSoundPart p → IsCounted d p → p.owed ≡ None →
    MayBefall e (with_these cs hd p)
    → ends_fairly e (with_these cs hd p) ≡ true → IsCounted d (lived false e (with_these cs hd p))
counted_lived d e p cs hd k i o m f = elim (either p.life.gone) [
  | inl g ↦ subst (IsCounted d) (sym (lived_gone false e (with_these cs hd p) g)) (counted_these d p cs hd i)
  | inr g ↦ (let none = untold (λ x. may_ask (under_way x.life) x.stop ≡ true → MayBefall e x →
      (not (is_spared (lived false e x) || (lived false e x).life.gone) || not (is_some (lived false e x).owed)) ≡ true) (with_these cs hd p) g o
      (owed_at p.fitted p.life.steps p.life.failures p.life.busy p.life.runs p.life.install_failed p.life.stop cs hd None p.stop p.next p.life.state e) k.asks
      m in
      record {
        own = λ u v. untold (λ x. MayHave x.life.state x.life.failures → may_ask (under_way x.life) x.stop ≡ true → MayBefall e x →
            (not (is_to_begin_again x) || (is_waiting x || is_gone x.stop)) ≡ true → ends_fairly e x ≡ true
            → (is_spared x ≡ false → count_of d (component_name x) ≡ Some x.life.failures) → IfSome x.next (IsCountedNext d (component_name x)) →
            is_spared (lived false e x) ≡ false → (lived false e x).life.gone ≡ false
            → Agrees (count_of d (component_name (lived false e x))) (lived false e x).life.failures (lived false e x).owed) (with_these cs hd p) g o
            (counts_at p.fitted p.life.steps p.life.failures p.life.busy p.life.runs p.life.install_failed p.life.stop cs hd None p.stop p.next
            (count_of d) p.life.state e)
            k.few k.asks m k.takes f (λ s. subst (λ (y : Option (Step × Exit)). AgreesBy d (component_name p) p.life.failures y) o (i.own s g)) i.next u v;
        broken = λ u v y. standing (λ x. may_ask (under_way x.life) x.stop ≡ true → MayBefall e x →
            (is_spared x ≡ false → is_broken x.life.state ≡ true → x.life.failures ≡ 3)
            → is_spared (lived false e x) ≡ false → (lived false e x).life.gone ≡ false → is_broken (lived false e x).life.state ≡ true →
            (lived false e x).life.failures ≡ 3) (with_these cs hd p) g
            (broken_at p.fitted p.life.steps p.life.failures p.life.busy p.life.runs p.life.install_failed p.life.stop cs hd p.owed p.stop p.next p.life.state
            e)
            k.asks m (λ s z. i.broken s g z) u v y;
        spared = λ u. spared_none (is_spared (lived false e (with_these cs hd p))) (lived false e (with_these cs hd p)).life.gone
            (lived false e (with_these cs hd p)).owed none u;
        gone = λ u. gone_none (is_spared (lived false e (with_these cs hd p))) (lived false e (with_these cs hd p)).life.gone
            (lived false e (with_these cs hd p)).owed none u;
        next = by_lived (λ h nx st ds. IfSome nx (IsCountedNext d (name_of h))) false e (with_these cs hd p) (i.next, (λ n q. tt));
      })
]

-- ---- marks

pub mark_sound : Marks IsSoundPart
mark_sound p e k =
    let i = idle_of p e in
    let w : not (is_waiting p) ≡ true = elim (either (not (is_waiting p))) [
      | inl y ↦ y
      | inr n ↦ clash (is_to_begin_again p)
          (second_true (not (is_waiting p)) (is_to_begin_again p) k.waits n) (rw i.0 (rw i.1 refl))
    ] in
    record {
      few = k.few;
      busy = k.busy;
      runs = k.runs;
      run = k.run;
      bare = rw i.2 refl;
      asks = rw i.1 refl;
      waits = rw w refl;
      takes = rw i.1 refl;
      coming =
          k.coming;
    }

pub mark_counted : (d : Device) → Marks (IsCounted d)
mark_counted d p e k =
    let i = idle_of p e in
    let s : is_spared (record p { stop = Some after.Restart }) ≡ is_spared p = rw i.0 refl in
    record { own = λ u v. k.own (sym s ∙ u) v; broken = λ u v y. k.broken (sym s ∙ u) v y; spared = λ u. k.spared (sym s ∙ u); gone = k.gone; next = k.next }

-- ---- children

abbrev pub but : ℕ → List Child → List Child
but n cs = filter (λ (c : Child). not (c.number == n)) cs

runs_but : (n : ℕ) (cs : List Child) → runs_in cs ≡ false → runs_in (but n cs) ≡ false
runs_but n [] h = refl
runs_but n (c ∷ cs) h = let x = or_parts (is_run c) (runs_in cs) h in elim (either (c.number == n))
    [ inl e ↦ rw e (runs_but n cs x.1) | inr e ↦ rw e (rw x.0 (runs_but n cs x.1)) ]

still_no : (a x y : Bool) → (x ≡ false → y ≡ false) → (a && x) ≡ false → (a && y) ≡ false
still_no true x y f e = f e
still_no false x y f e = refl

pub run_but : (n : ℕ) (busy : Option Step) (cs : List Child) → (is_busy_with step.Run busy && runs_in cs) ≡ false →
    (is_busy_with step.Run busy && runs_in (but n cs)) ≡ false
run_but n busy cs h = still_no (is_busy_with step.Run busy) (runs_in cs) (runs_in (but n cs)) (runs_but n cs) h

any_of : (test : Child → Bool) (cs : List Child) → list_any test cs ≡ false → ((c : Child) → is_run c ≡ true → test c ≡ true) → runs_in cs ≡ false
any_of test [] h f = refl
any_of test (c ∷ cs) h f = let x = or_parts (test c) (list_any test cs) h in
    elim (either (is_run c)) [ inl y ↦ clash (test c) (f c y) x.0 | inr n ↦ rw n (any_of test cs x.1 f) ]

-- one that begins has no run child
pub begins_alone : (p : ComponentState) → may_run p.life.state p.life.runs ≡ true → is_to_stop p ≡ false → is_awaited event.MayBegin p.life ≡ true →
    runs_in p.children ≡ false
begins_alone p r s a =
    let o = (or_parts (is_stopping p.life.state) (has_orphan p) (or_parts (is_some p.stop) (is_stopping p.life.state || has_orphan p) s).1).1 in
    any_of (λ (c : Child). is_orphan p.life c.of) p.children o (λ c y. idle p.life c.of r a)
  where
    idle : (c : Life) (t : Step) → may_run c.state c.runs ≡ true → is_awaited event.MayBegin c ≡ true → is_orphan c t ≡ true
    idle c t r a = grind (arith, r, a)

-- once its run is launched it is busy with it no more
pub launch_lived : (b : Bool) (p : ComponentState) (cs : List Child) (hd : Bool) → IsSoundPart p →
    is_busy_with step.Run (lived b event.Launched (with_these cs hd p)).life.busy ≡ false
launch_lived b p cs hd k = elim (either p.life.gone) [
  | inl g ↦ (let y = (bare_of p k.bare g).2 in subst (λ (x : ComponentState). is_busy_with step.Run x.life.busy ≡ false)
      (sym (lived_gone b event.Launched (with_these cs hd p) g)) (rw y refl))
  | inr g ↦ standing (λ x. may_be_busy x.life.state x.life.busy ≡ true → is_busy_with step.Run (lived b event.Launched x).life.busy ≡ false)
      (with_these cs hd p) g
      (launch_at p.fitted p.life.steps p.life.failures p.life.busy p.life.runs p.life.install_failed p.life.stop cs hd p.owed p.stop p.next p.life.state b)
      k.busy
]
