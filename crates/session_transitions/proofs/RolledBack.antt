-- The record that rolls a deployment back, in a history.
use Rattle.std.specs.Prelude.{ℕ, Bool, true, false, List, [], ◌∷◌, Option, Some, None, IsSome, is_some, slice_get, if◌then◌else◌, ◌||◌}
use Rattle.std.specs.List.{AllByRecursion}
use Rattle.std.specs.Option.{IfSome, IsSomeAnd}
use Rattle.std.specs.Str.{bytes_eq}
use Rattle.std.proofs.Common.{◌≡◌, ◌∙◌, refl, sym, ap, subst}
use Rattle.disk_model.specs.Disk.{Image, HasLeft, DiskLaws}
use Rattle.nuc_base.specs.declared.platform.Platform.{Platform}
use Rattle.nuc_base.specs.declared.kinds.Policy.TheVariants as policies
use Rattle.records.specs.Stored.{Item, Record}
use Rattle.records.specs.declared.record.Origin.{Origin}
use Rattle.device.specs.Devices.{Device, Pending}
use Rattle.device.specs.Lawful.{Allowed, HasBacks, IsReadable, MayBreak, applied, backs, failing_name, item_named, reach_of}
use Rattle.device.specs.Plans.{HasRecipe, HasSomeRecipe}
use Rattle.device.specs.Sound.{AreItemsFor, IsPlanFor, IsSound, IsUnderWay}
use Rattle.deploy_state.specs.Fields.{CanBreakOff, IsBreak, backs_now, break_by}
use Rattle.deploy_state.specs.Owned.{LeavesEither}
use Rattle.step_runner.specs.Entries.{Told}
use Rattle.step_runner.specs.declared.entries.RunnerEntry.{RunnerEntry}
use Rattle.components.specs.Components.{Components, is_stopped}
use Rattle.histories.specs.Phases.{duty_of, previous, draining}
use Rattle.histories.specs.TraceEvents.{Recorded}
use Rattle.histories.specs.States.{SessionState, leaves}
use Rattle.histories.specs.Follows.{HasNoBacks, IsClear, MayFollow, MayStopAll}
use Rattle.histories.specs.Courses.{IsBare, IsStateOf}
use Rattle.session_boots.specs.Lines.{lines_of}
use Rattle.session_boots.specs.Stands.{IsAtBootStage, generation_of}
use Rattle.session_boots.specs.Ends.{LeftAt}
use Rattle.session_boots.specs.Traces.{IsTrace}
use Rattle.session_boots.specs.declared.ends.SessionFault.TheVariants as over
use Rattle.session_boots.proofs.Entries.{never}
use Rattle.session_boots.proofs.Joins.{kept_one}
use Rattle.session_boots.proofs.Opened.{generation_stopped}
use Rattle.session_boots.proofs.Records.{doubt_at, stage_bare}
use Rattle.session_startup.specs.Ended.{HasBroken}
use Rattle.session_transitions.specs.Fails.{IsGivenUp, IsAtRollbackStart}
use Rattle.session_transitions.proofs.Closing.{boot_clear, items_clear, moment_now, no_other, owners_now}

abbrev pends : Device → Option Pending → Device
pends d o = record d { pending = o }

-- ---- it is lawful

-- an item of a sound set has a recipe
is_readable : (platform : Platform) (items : List Item) (n : List ℕ) → AllByRecursion (HasRecipe platform) items → IsReadable platform items n
is_readable platform [] n h = tt
is_readable platform (i ∷ items) n h = by (bytes_eq n i.name) (is_readable platform items n h.1)
  where
    by : (b : Bool) → IsReadable platform items n → IfSome (if b then Some i else item_named n items) (λ (i : Item). HasSomeRecipe platform i.recipe)
    by true rest = (h.0.0, h.0.1.reads)
    by false rest = rest

are_readable : (platform : Platform) (items : List Item) (names : List (List ℕ)) → AllByRecursion (HasRecipe platform) items →
    AllByRecursion (IsReadable platform items) names
are_readable platform items [] h = tt
are_readable platform items (n ∷ names) h = (is_readable platform items n h, are_readable platform items names h)

has_backs : (x : Option Origin) (set : List Item) (q : Pending) (b : List ℕ) (l : List (List ℕ)) → AreItemsFor x set → IsPlanFor x q.plan →
    backs x set q.plan (reach_of q) ≡ b ∷ l → IsSomeAnd x (HasBacks set q)
has_backs None set q b l items plan is = absurd plan
has_backs (Some o) set q b l items plan is = (
  are_readable o.platform set q.plan.boots items.recipes,
  λ none. let both : b ∷ l ≡ [] = sym is ∙ none in
      absurd cc,
)

module _ (d : Device) (sound : IsSound d) where
  lawful_by : (q : Pending) (n : List ℕ) (l : List (List ℕ)) → backs_now d q ≡ l → IsUnderWay d q → MayBreak n q → Allowed (pends d (Some q)) (break_by l n)
  lawful_by q n [] is under may = may
  lawful_by q n (b ∷ l) is under may = (may, has_backs d.origin d.set q b l sound.set under.0.plan_is is)

  pub break_allowed : (r : Record) → CanBreakOff d → IsBreak d r → Allowed d r
  break_allowed r can is = by d.pending sound.pending can is
    where
      by : (o : Option Pending) → IfSome o (IsUnderWay d) → IsSomeAnd o (λ q. IsSome (failing_name q) × (q.plan.policy ≡ policies.Rollback)) →
          IsSomeAnd o (λ q. (n : List ℕ) × (failing_name q ≡ Some n) × (r ≡ break_by (backs_now d q) n)) → Allowed (pends d o) r
      by None under can is = absurd is
      by (Some q) under can is = subst (λ (x : Record). Allowed (pends d (Some q)) x) (sym is.2) (lawful_by q is.0 (backs_now d q) refl under (can.1, is.1))

-- ---- what it is

abbrev IsWay : Record → Type 0
IsWay r = (l : List (List ℕ)) × (n : List ℕ) × (r ≡ break_by l n)

pub is_way : (d : Device) (r : Record) → IsBreak d r → IsWay r
is_way d r is = by d.pending is
  where
    by : (o : Option Pending) → IsSomeAnd o (λ q. (n : List ℕ) × (failing_name q ≡ Some n) × (r ≡ break_by (backs_now d q) n)) → IsWay r
    by None is = absurd is
    by (Some q) is = (backs_now d q, is.0, is.2)

no_line_by : (d : Device) (l : List (List ℕ)) (n : List ℕ) → lines_of d (break_by l n ∷ []) ≡ []
no_line_by d [] n = refl
no_line_by d (b ∷ l) n = refl

pub no_line : (d : Device) (r : Record) → IsWay r → lines_of d (r ∷ []) ≡ []
no_line d r way = subst (λ (x : Record). lines_of d (x ∷ []) ≡ []) (sym way.2) (no_line_by d way.0 way.1)

-- where it names no bootstraps none is to run again
is_plain : (d : Device) (r : Record) → IsBreak d r → (way : IsWay r) × (way.0 ≡ [] → HasNoBacks d)
is_plain d r is = by d.pending is
  where
    by : (o : Option Pending) → IsSomeAnd o (λ q. (n : List ℕ) × (failing_name q ≡ Some n) × (r ≡ break_by (backs_now d q) n)) → (way : IsWay r) ×
        (way.0 ≡ [] → IsSomeAnd o (λ q. backs_now d q ≡ []))
    by None is = absurd is
    by (Some q) is = ((backs_now d q, is.0, is.2), λ none. none)

follows_by : (p : SessionState) (l : List (List ℕ)) (n : List ℕ) → (l ≡ [] → HasNoBacks p.device) → IsClear p → p.cut ≡ false → p.over ≡ false →
    MayFollow p (Recorded (break_by l n))
follows_by p [] n plain clear cut over = ((clear, plain refl), (λ is. absurd (never p.cut cut is)), over)
follows_by p (b ∷ l) n plain clear cut over = (clear, (λ is. absurd (never p.cut cut is)), over)

follows : (p : SessionState) (d : Device) (r : Record) → p.device ≡ d → IsBreak d r → IsClear p → p.cut ≡ false → p.over ≡ false → MayFollow p (Recorded r)
follows p d r device is clear cut over =
    let way = is_plain p.device r (subst (λ (x : Device). IsBreak x r) (sym device) is) in
    subst (λ (x : Record). MayFollow p (Recorded x)) (sym way.0.2) (follows_by p way.0.0 way.0.1 way.1 clear cut over)

-- ---- the state in which it leaves the call

abbrev rolled_state : SessionState → Device → SessionState
rolled_state p e = record p { device = e; generation = generation_of p.world; taken = p.taken || false; probed = false; over = false }

state_by : (p : SessionState) (l : List (List ℕ)) (n : List ℕ) → leaves p (Recorded (break_by l n)) ≡ rolled_state p (applied p.device (break_by l n))
state_by p [] n = refl
state_by p (b ∷ l) n = refl

state_is : (p : SessionState) (r : Record) → IsWay r → leaves p (Recorded r) ≡ rolled_state p (applied p.device r)
state_is p r way = subst (λ (x : Record). leaves p (Recorded x) ≡ rolled_state p (applied p.device x)) (sym way.2) (state_by p way.0 way.1)

stands_rolled : (p : SessionState) (d e : Device) (r : Record) (world : Components) (told : Told) (living : List ℕ) → IsStateOf p d world told living →
    e ≡ applied d r → IsStateOf (rolled_state p (applied p.device r)) e world told living
stands_rolled p d e r world told living s same = record {
  device_is = ap (λ (x : Device). applied x r) s.device_is ∙ sym same;
  world_is = s.world_is;
  answered = s.answered;
  not_before = s.not_before;
  asked = s.asked;
  children = s.children;
}

-- all may be stopped: before the first of the backs, and where none runs again
clear_by : (d : Device) (q : Pending) (n : List ℕ) (l : List (List ℕ)) → backs_now d q ≡ l → (c : Bool) (p : SessionState) → p.boot ≡ None → p.boot_end ≡ None
    → MayStopAll (duty_of (applied (pends d (Some q)) (break_by l n))) (duty_of (applied (pends d (Some q)) (break_by l n))).phase
    (if c then draining else previous) p
clear_by d q n [] is true p boot end = tt
clear_by d q n [] is false p boot end = tt
clear_by d q n (b ∷ l) is true p boot end = (subst (λ (x : List (List ℕ)). is_some (slice_get x 0) ≡ true) (sym is) refl, boot, end)
clear_by d q n (b ∷ l) is false p boot end = (subst (λ (x : List (List ℕ)). is_some (slice_get x 0) ≡ true) (sym is) refl, boot, end)

clear_in : (d : Device) (r : Record) → IsBreak d r → (c : Bool) (p : SessionState) → p.boot ≡ None → p.boot_end ≡ None →
    MayStopAll (duty_of (applied d r)) (duty_of (applied d r)).phase (if c then draining else previous) p
clear_in d r is c p boot end = by d.pending is
  where
    by : (o : Option Pending) → IsSomeAnd o (λ q. (n : List ℕ) × (failing_name q ≡ Some n) × (r ≡ break_by (backs_now d q) n))
        → MayStopAll (duty_of (applied (pends d o) r)) (duty_of (applied (pends d o) r)).phase (if c then draining else previous) p
    by None is = absurd is
    by (Some q) is =
        subst (λ (x : Record). MayStopAll (duty_of (applied (pends d (Some q)) x)) (duty_of (applied (pends d (Some q)) x)).phase
        (if c then draining else previous) p) (sym is.2)
        (clear_by d q is.0 (backs_now d q) refl c p boot end)

-- ---- from among bootstraps

-- the state in which the record leaves it with which another stage begins
pub stage_rolled : (p : SessionState) (d e : Device) (world : Components) (told : Told) (living : List ℕ) → IsAtBootStage p d world told living →
    (r : Record) → e ≡ applied d r → IsAtBootStage (rolled_state p (applied p.device r)) e world told living
stage_rolled p d e world told living f r same = record {
  between = record {
    stands = stands_rolled p d e r world told living f.between.stands same;
    still = record {
      stopped = f.between.still.stopped;
      quiet = f.between.still.quiet;
      generation = generation_stopped p.world f.between.still.stopped;
      cut =
          f.between.still.cut;
    };
    boot = f.between.boot;
    boot_end = f.between.boot_end;
    probed = refl;
  };
  over = refl;
}

boot_follows : (p : SessionState) (d : Device) (world : Components) (told : Told) (living : List ℕ) → IsAtBootStage p d world told living → (r : Record) →
    IsBreak d r → MayFollow p (Recorded r)
boot_follows p d world told living f r is = follows p d r f.between.stands.device_is is (boot_clear p d world told living f) f.between.still.cut f.over

module _ (p : SessionState) (d : Device) (world : Components) (told : Told) (living : List ℕ) (f : IsAtBootStage p d world told living) (r : Record)
    (way : IsWay r) where
  pub stage_kept : (e : Device) → e ≡ applied d r → IsAtBootStage (leaves p (Recorded r)) e world told living
  stage_kept e same = subst (λ (q : SessionState). IsAtBootStage q e world told living) (sym (state_is p r way)) (stage_rolled p d e world told living f r same)

  pub boot_bare : IsBare (leaves p (Recorded r))
  boot_bare = stage_bare (leaves p (Recorded r)) (applied d r) world told living (stage_kept (applied d r) refl)

-- ---- from among items that come up

module _ (p : SessionState) (d : Device) (world : Components) (told : Told) (living : List ℕ) (b : HasBroken p d world told living) (r : Record)
    (is : IsBreak d r) where
  items_follow : MayFollow p (Recorded r)
  items_follow = follows p d r b.comes.stands.device_is is (items_clear p d world told living b) b.comes.on.cut b.comes.on.over

  pub items_rolled : (e : Device) → e ≡ applied d r → IsAtRollbackStart (leaves p (Recorded r)) e world told living
  items_rolled e same = subst (λ (q : SessionState). IsAtRollbackStart q e world told living) (sym (state_is p r (is_way d r is))) (record {
    stands = stands_rolled p d e r world told living b.comes.stands same;
    quiet = b.quiet;
    orderly = record { sound = b.comes.keeps.sound; differ = b.comes.keeps.differ; names = b.comes.keeps.names };
    generation = refl;
    clear = clear_in p.device r (subst (λ (x : Device). IsBreak x r) (sym b.comes.stands.device_is) is) (is_stopped p.world)
        (rolled_state p (applied p.device r)) b.comes.on.boot b.comes.on.boot_end;
    boot = b.comes.on.boot;
    boot_end = b.comes.on.boot_end;
    probed = refl;
    over = refl;
    cut = b.comes.on.cut;
  })

  pub items_given_up : IsGivenUp (leaves p (Recorded r)) world told living
  items_given_up = subst (λ (q : SessionState). IsGivenUp q world told living) (sym (state_is p r (is_way d r is))) (record {
    moment = moment_now p d world told living b;
    asked = b.comes.stands.asked;
    boot = b.comes.on.boot;
    boot_end = b.comes.on.boot_end;
    over = refl;
    cut = b.comes.on.cut;
    differ = b.comes.keeps.differ;
    owners = owners_now p d world told living b;
    children = λ n. no_other p n living b.comes.on.boot (b.comes.stands.children n);
  })

-- ---- over a disk

module _ (entries : Image → List (List ℕ) → Type 0) (files : List ℕ → Type 0) {D : Type 0} {may_leave : D → Image → Type 0} {moment : D → ℕ} {left_since : D →
    ℕ → Image → Type 0} {is_modelled : Bool} {seen : D → Image}
    (laws : DiskLaws is_modelled seen may_leave moment left_since) where
  abbrev Notes : D → D → Device → Record → Type 0
  Notes old new d r = HasLeft moment left_since old new (LeavesEither may_leave files entries old d (applied d r))

  pub back_went : (old new : D) (list : Option (List RunnerEntry)) (p : SessionState) (d : Device) (r : Record) → p.device ≡ d → MayFollow p (Recorded r) →
      Allowed d r → Notes old new d r
      → IsTrace entries files may_leave moment left_since old new list list p (Recorded r ∷ [])
  back_went old new list p d r device may allowed notes =
      let same = sym device in
      kept_one entries files laws old new list p r may (subst (λ (x : Device). Allowed x r) same allowed) (subst (λ (x : Device). Notes old new x r) same notes)

  pub boot_went : (old new : D) (list : Option (List RunnerEntry)) (p : SessionState) (d : Device) (world : Components) (told : Told) (living : List ℕ) →
      IsAtBootStage p d world told living → (r : Record) → IsBreak d r → Allowed d r → Notes old new d r
      → IsTrace entries files may_leave moment left_since old new list list p (Recorded r ∷ [])
  boot_went old new list p d world told living f r is allowed notes = back_went old new list p d r f.between.stands.device_is
      (boot_follows p d world told living f r is) allowed notes

  pub items_went : (old new : D) (list : Option (List RunnerEntry)) (p : SessionState) (d : Device) (world : Components) (told : Told) (living : List ℕ) →
      HasBroken p d world told living → (r : Record) → IsBreak d r → Allowed d r → Notes old new d r
      → IsTrace entries files may_leave moment left_since old new list list p (Recorded r ∷ [])
  items_went old new list p d world told living b r is allowed notes = back_went old new list p d r b.comes.stands.device_is
      (items_follow p d world told living b r is) allowed notes

  pub back_doubt : (old new : D) (p : SessionState) (d : Device) (r : Record) → p.device ≡ d → Allowed d r → Notes old new d r →
      LeftAt entries may_leave new p (Recorded r ∷ []) over.Disk
  back_doubt old new p d r same allowed notes = doubt_at entries files laws old new p d r same allowed notes
