-- The close of a deployment that failed and stays as it is, or on whose way back a bootstrap failed, in a history.
use Rattle.std.specs.Prelude.{Contains, ℕ, Bool, true, false, not, ◌||◌, List, [], ◌∷◌, map, Option, Some, None, IsSome, Result, Ok, Err, OnOk}
use Rattle.std.specs.List.{list_any}
use Rattle.std.proofs.Common.{◌≡◌, ◌↔◌, ◌⊎◌, ◌∙◌, inl, inr, refl, sym, ap, subst}
use Rattle.disk_model.specs.Disk.{Image}
use Rattle.nuc_base.specs.declared.kinds.Outcome.{Outcome}
use Rattle.nuc_base.specs.declared.kinds.Outcome.TheVariants as outcomes
use Rattle.nuc_base.specs.declared.kinds.Step.{Step}
use Rattle.records.specs.Stored as stored
use Rattle.device.specs.Devices.{Device, Pending}
use Rattle.device.specs.Lawful.{applied, close_pending}
use Rattle.deploy_state.specs.States.{idle_device}
use Rattle.deploy_state.specs.declared.state.Idle.{Idle}
use Rattle.step_runner.specs.Entries.{Told}
use Rattle.components.specs.Components.{Components, ComponentState, is_over, is_stopped, owner}
use Rattle.components.specs.Changes.{forgetting, steadied}
use Rattle.histories.specs.Phases.{Generation, duty_of, is_shutting_down, is_idle, is_current, draining, current}
use Rattle.histories.specs.TraceEvents.{Recorded}
use Rattle.histories.specs.States.{SessionState, leaves}
use Rattle.histories.specs.Follows.{IsBootChild, IsClear, IsLiving, MayClose as MayEnd}
use Rattle.histories.specs.Courses.{IsBare, IsStateOf}
use Rattle.session_boots.specs.Stands.{IsAtBootStage}
use Rattle.session_boots.specs.Ends.{ResultLeft}
use Rattle.session_boots.specs.declared.ends.SessionFault.{SessionFault}
use Rattle.session_boots.proofs.Entries.{never}
use Rattle.session_boots.proofs.Still.{childless}
use Rattle.law_supervisor.specs.Sound.{AreDistinct, IsOrderly}
use Rattle.law_supervisor.proofs.Steadied.{closed_orderly, living_steadied, owes_steadied, owner_steadied, steadied_orderly}
use Rattle.session_startup.specs.Closing.{MayCloseNow, just_closed}
use Rattle.session_startup.specs.Ended.{HasBroken, HasClosed}
use Rattle.session_acts.proofs.Answered.{free_is, free_steadied, is_free}
use Rattle.session_acts.proofs.Entering.{no_boot, without_boot}
use Rattle.session_startup.proofs.Quiet.{quiet_steadied}
use Rattle.session_transitions.specs.Fails.{IsFailure, IsGivenUp}

-- a deployment that failed may close wherever it stands
pub ends_failed : (p : SessionState) (o : Outcome) → IsFailure o → MayEnd p o
ends_failed p outcomes.Successful failed = absurd failed
ends_failed p outcomes.RollbackComplete failed = absurd failed
ends_failed p outcomes.RollbackNotRequested failed = tt
ends_failed p outcomes.UnableToRollback failed = tt

-- ---- components that are steadied

over_at : (ps : List ComponentState) → list_any (λ p. not (is_over p)) (map forgetting ps) ≡ list_any (λ p. not (is_over p)) ps
over_at [] = refl
over_at (p ∷ ps) = ap (λ (b : Bool). not (is_over p) || b) (over_at ps)

stopped_steadied : (w : Components) → is_stopped (steadied w) ≡ is_stopped w
stopped_steadied w = ap not (over_at w.parts)

-- ---- the device behind the close

idle_of : (d : Device) (p : Option Pending) (o : Outcome) → IsSome p → is_idle (duty_of (close_pending o d p)).phase ≡ true
idle_of d None o h = absurd cc
idle_of d (Some q) o h = refl

-- ---- where it leaves the call

stands_closed : (p : SessionState) (d e : Device) (o : Outcome) (world : Components) (told : Told) (living : List ℕ) → IsStateOf p d world told living →
    e ≡ applied d (stored.Closed o)
    → IsStateOf (leaves p (Recorded (stored.Closed o))) e (steadied world) told living
stands_closed p d e o world told living s same = record {
  device_is = ap (λ (x : Device). applied x (stored.Closed o)) s.device_is ∙ sym same;
  world_is = ap (λ (w : Components). steadied w) s.world_is;
  answered = free_is (steadied world) (free_steadied world ∙ is_free world s.answered);
  not_before = s.not_before;
  asked = s.asked;
  children = λ n. subst (λ (x : Option (ℕ × Step)). Contains living n ↔ (IsSome x ⊎ IsBootChild n p)) (sym (owner_steadied n p.world)) (s.children n);
}

present_is : (c : Generation) → c ≡ current → is_current c ≡ true
present_is c is = rw is refl

going_on : (c : Generation) → c ≡ current → is_shutting_down c ≡ false
going_on c is = rw is refl

still_on : (c : Generation) → c ≡ draining → is_shutting_down c ≡ false
still_on c is = rw is refl

-- ---- from among bootstraps

module _ (p : SessionState) (d : Device) (world : Components) (told : Told) (living : List ℕ) (f : IsAtBootStage p d world told living) where
  pub boot_clear : IsClear p
  boot_clear = record {
    owes_none = f.between.still.quiet.owes_none;
    alone = f.between.boot;
    no_end = f.between.boot_end;
    on =
        still_on p.generation f.between.still.generation;
  }

module _ (p : SessionState) (d : Device) (o : Outcome) (world : Components) (told : Told) (living : List ℕ) (f : IsAtBootStage p d world told living) where
  pub boot_closes : MayEnd p o → MayCloseNow p d o
  boot_closes may = record {
    device_is = f.between.stands.device_is;
    follows = ((boot_clear p d world told living f, may), (λ cut. absurd (never p.cut f.between.still.cut cut)), f.over);
  }

  pub boot_closed : (e : Device) → IsOrderly p.world → IsSome d.pending → e ≡ applied d (stored.Closed o) →
      HasClosed o draining (just_closed o) (leaves p (Recorded (stored.Closed o))) e (steadied world) told living
  boot_closed e orderly pending same = record {
    stands = stands_closed p d e o world told living f.between.stands same;
    back = record {
      idle_is = idle_of p.device p.device.pending o (subst (λ (x : Device). IsSome x.pending) (sym f.between.stands.device_is) pending);
      going = still_on p.generation f.between.still.generation;
      there = inr (stopped_steadied p.world ∙ f.between.still.stopped);
      boot = f.between.boot;
      boot_end = f.between.boot_end;
      owes_none = owes_steadied p.world ∙ f.between.still.quiet.owes_none;
      over = refl;
      cut = f.between.still.cut;
    };
    generation_is = f.between.still.generation;
    quiet = quiet_steadied p.world f.between.still.quiet;
    orderly = steadied_orderly p.world orderly;
    closed = ([], refl);
  }

  pub boot_bare : IsBare (leaves p (Recorded (stored.Closed o)))
  boot_bare = record { parts = childless (steadied p.world) (stopped_steadied p.world ∙ f.between.still.stopped); boot = f.between.boot }

  pub boot_left : {J D : Type 0} (entries : Image → List (List ℕ) → Type 0) (may_leave : D → Image → Type 0) (disk : D) (now : Components) →
      IsOrderly p.world → IsSome d.pending → (result : Result (Idle J) SessionFault)
      → ResultLeft entries may_leave disk p (just_closed o) (λ s q. idle_device s ≡ q.device) result → OnOk result (now ≡ steadied world)
      → ResultLeft entries may_leave disk p (just_closed o) (λ s q. HasClosed o draining (just_closed o) q (idle_device s) now told living) result
  boot_left entries may_leave disk now orderly pending (Ok s) same is = subst
      (λ (w : Components). HasClosed o draining (just_closed o) (leaves p (Recorded (stored.Closed o))) (idle_device s) w told living) (sym is)
      (boot_closed (idle_device s) orderly pending (same ∙ ap (λ (x : Device). applied x (stored.Closed o)) f.between.stands.device_is))
  boot_left entries may_leave disk now orderly pending (Err e) left is = left

-- ---- from among items that come up

pub no_other : (p : SessionState) (n : ℕ) (living : List ℕ) → p.boot ≡ None → Contains living n ↔ IsLiving n p →
    Contains living n ↔ IsSome (owner n p.world.parts)
no_other p n living boot same = ((λ h. without_boot (no_boot p.boot n boot) (same.0 h)), (λ h. same.1 (inl h)))

module _ (p : SessionState) (d : Device) (world : Components) (told : Told) (living : List ℕ) (b : HasBroken p d world told living) where
  pub items_clear : IsClear p
  items_clear = record {
    owes_none = b.quiet.owes_none;
    alone = b.comes.on.boot;
    no_end = b.comes.on.boot_end;
    on = going_on p.generation b.comes.on.generation;
  }

  pub owners_now : (n : ℕ) → owner n world.parts ≡ owner n p.world.parts
  owners_now n = sym (ap (λ (w : Components). owner n w.parts) b.comes.stands.world_is)

  pub moment_now : told.moment ≡ p.world.moment
  moment_now = sym (ap (λ (w : Components). w.moment) b.comes.stands.world_is)

module _ (p : SessionState) (d : Device) (o : Outcome) (world : Components) (told : Told) (living : List ℕ) (b : HasBroken p d world told living) where
  pub items_close : MayEnd p o → MayCloseNow p d o
  items_close may = record {
    device_is = b.comes.stands.device_is;
    follows = ((items_clear p d world told living b, may), (λ cut. absurd (never p.cut b.comes.on.cut cut)), b.comes.on.over);
  }

  items_closed : (e : Device) → IsSome d.pending → e ≡ applied d (stored.Closed o) → HasClosed o current (just_closed o)
      (leaves p (Recorded (stored.Closed o))) e (steadied world) told living
  items_closed e pending same = record {
    stands = stands_closed p d e o world told living b.comes.stands same;
    back = record {
      idle_is = idle_of p.device p.device.pending o (subst (λ (x : Device). IsSome x.pending) (sym b.comes.stands.device_is) pending);
      going = going_on p.generation b.comes.on.generation;
      there = inl (present_is p.generation b.comes.on.generation);
      boot = b.comes.on.boot;
      boot_end = b.comes.on.boot_end;
      owes_none = owes_steadied p.world ∙ b.quiet.owes_none;
      over = refl;
      cut = b.comes.on.cut;
    };
    generation_is = b.comes.on.generation;
    quiet = quiet_steadied p.world b.quiet;
    orderly = closed_orderly p.device p.world b.comes.keeps;
    closed = ([], refl);
  }

  pub items_left : {J D : Type 0} (entries : Image → List (List ℕ) → Type 0) (may_leave : D → Image → Type 0) (disk : D) (now : Components) →
      IsSome d.pending → (result : Result (Idle J) SessionFault)
      → ResultLeft entries may_leave disk p (just_closed o) (λ s q. idle_device s ≡ q.device) result → OnOk result (now ≡ steadied world)
      → ResultLeft entries may_leave disk p (just_closed o) (λ s q. HasClosed o current (just_closed o) q (idle_device s) now told living) result
  items_left entries may_leave disk now pending (Ok s) same is = subst
      (λ (w : Components). HasClosed o current (just_closed o) (leaves p (Recorded (stored.Closed o))) (idle_device s) w told living) (sym is)
      (items_closed (idle_device s) pending (same ∙ ap (λ (x : Device). applied x (stored.Closed o)) b.comes.stands.device_is))
  items_left entries may_leave disk now pending (Err e) left is = left

  -- where the call gives up behind the close, whether or not the supervisor knows of it
  pub items_given_up : (now : Components) → ((n : ℕ) → owner n now.parts ≡ owner n world.parts) →
      IsGivenUp (leaves p (Recorded (stored.Closed o))) now told living
  items_given_up now same = record {
    moment = moment_now p d world told living b;
    asked = b.comes.stands.asked;
    boot = b.comes.on.boot;
    boot_end = b.comes.on.boot_end;
    over = refl;
    cut = b.comes.on.cut;
    differ = subst (λ (l : List ℕ). AreDistinct l) (sym (living_steadied p.world)) b.comes.keeps.differ;
    owners = λ n. same n ∙ owners_now p d world told living b n ∙ sym (owner_steadied n p.world);
    children = λ n. subst (λ (x : Option (ℕ × Step)). Contains living n ↔ IsSome x) (sym (owner_steadied n p.world))
        (no_other p n living b.comes.on.boot (b.comes.stands.children n));
  }
