-- What a deployment that is resumed has in hand.
use Rattle.std.specs.Prelude.{ℕ, Bool, true, List, Option, Some, None, is_some, option_map}
use Rattle.std.specs.Option.{IsSome, IsSomeAnd}
use Rattle.std.proofs.Common.{◌≡◌, ◌⊎◌, ◌∙◌, refl, sym, ap, subst}
use Rattle.disk_model.specs.Disk.{DiskLaws, Image}
use Rattle.gate_log.specs.Journal.{JournalLaws}
use Rattle.device.specs.Devices.{Device, Pending}
use Rattle.device.specs.Standing.{StandsFor}
use Rattle.device.specs.declared.staged.Stage.TheVariants as stages
use Rattle.deploy_state.specs.Owned.{OwnsJournal}
use Rattle.deploy_state.specs.States.{OwnsLoaded, activating_device, backing_device, booting_device, loaded_device, rolling_device}
use Rattle.deploy_state.specs.declared.state.Idle.{Idle as IdleState}
use Rattle.deploy_state.specs.declared.state.Loaded.{Loaded}
use Rattle.deploy_state.specs.declared.state.Loaded.TheVariants as loaded
use Rattle.deploy_state.proofs.Steps.{in_hand_stands}
use Rattle.session.specs.Endings.{Ending, Idle, WantBefore, IsBegun, ResumeEnding, PendingEnding}

some_of : {A : Type 0} (P : A → Type 0) (o : Option A) → IsSomeAnd o P → IsSome o
some_of P None h = absurd h
some_of P (Some x) h = refl

pub some_is : (d e : Device) → d ≡ e → IsSome e.pending → is_some d.pending ≡ true
some_is d e same some = ap (λ (x : Device). is_some x.pending) same ∙ some

pub some_mapped : {A B : Type 0} (f : A → B) (o : Option A) → IsSome (option_map f o) → IsSome o
some_mapped f None h = h
some_mapped f (Some x) h = refl

module _ {J D : Type 0} (is_modelled : Bool) (may_leave : D → Image → Type 0) (stands : J → Image → List (List ℕ) → Type 0) (end : J → ℕ) where
  pub loaded_hand : (s : Loaded J) (disk : D) → OwnsLoaded is_modelled may_leave stands end s disk → (log : J) ×
      OwnsJournal is_modelled may_leave stands end log disk (loaded_device s)
  loaded_hand (loaded.Idle s) disk h = (s.log, h.0)
  loaded_hand (loaded.Booting s) disk h = (s.hand.log, h.0.0)
  loaded_hand (loaded.Activating s) disk h = (s.hand.log, h.0.0)
  loaded_hand (loaded.Backing s) disk h = (s.hand.log, h.0.0)
  loaded_hand (loaded.Rolling s) disk h = (s.hand.log, h.0.0)

  -- a deployment is pending where the state is not the idle one
  pub loaded_pending : (s : Loaded J) (disk : D) → OwnsLoaded is_modelled may_leave stands end s disk → ((i : IdleState J) → s ≡ loaded.Idle i → ⊥) →
      IsSome (loaded_device s).pending
  loaded_pending (loaded.Idle s) disk h other = absurd (other s refl)
  loaded_pending (loaded.Booting s) disk h other = some_of (λ (q : Pending). q.stage ≡ stages.Booting) (booting_device s).pending h.1
  loaded_pending (loaded.Activating s) disk h other = some_of (λ (q : Pending). q.stage ≡ stages.Activating) (activating_device s).pending h.1
  loaded_pending (loaded.Backing s) disk h other = some_of (λ (q : Pending). q.stage ≡ stages.Backing) (backing_device s).pending h.1
  loaded_pending (loaded.Rolling s) disk h other = some_of (λ (q : Pending). q.stage ≡ stages.Rolling) (rolling_device s).pending h.1

  -- and none is where it is
  pub loaded_idle : (s : Loaded J) (i : IdleState J) (disk : D) → s ≡ loaded.Idle i → OwnsLoaded is_modelled may_leave stands end s disk →
      (loaded_device s).pending ≡ None
  loaded_idle s i disk is h =
      subst (λ (x : Loaded J). (loaded_device x).pending ≡ None) (sym is) (subst (λ (x : Loaded J). OwnsLoaded is_modelled may_leave stands end x disk) is h).1

module _ {J D : Type 0} {is_modelled : Bool} {seen : D → Image} {may_leave : D → Image → Type 0} {moment : D → ℕ} {left_since : D → ℕ → Image → Type 0}
    {files : List ℕ → Type 0} {entries : Image → List (List ℕ) → Type 0} {holds_none : Image → Type 0} {is_damaged : Image → ℕ → Type 0} {stands : J → Image →
    List (List ℕ) → Type 0} {end : J → ℕ}
    (laws : DiskLaws is_modelled seen may_leave moment left_since) (journal : JournalLaws files entries holds_none is_damaged stands end) where
  -- each image stands for its device
  pub loaded_stands : (s : Loaded J) (disk : D) → OwnsLoaded is_modelled may_leave stands end s disk → (d : Device) → d ≡ loaded_device s → (c : Image) →
      may_leave disk c → StandsFor entries c d
  loaded_stands s disk held d is c left =
      let hand = loaded_hand is_modelled may_leave stands end s disk held in
      subst (λ (e : Device). StandsFor entries c e) (sym is) (in_hand_stands laws journal hand.0 disk (loaded_device s) hand.1 c left)

-- ---- how it ends

resumes_by : (ending : Ending) (o : Option Pending) → IsSome o → IsBegun ending ⊎ (ending ≡ WantBefore) → PendingEnding o ending
resumes_by ending None some so = absurd cc
resumes_by ending (Some q) some so = so

pub resumes_some : (d : Device) (ending : Ending) → IsSome d.pending → IsBegun ending ⊎ (ending ≡ WantBefore) → ResumeEnding d ending
resumes_some d ending some so = resumes_by ending d.pending some so

pub resumes_none : (d : Device) (ending : Ending) → d.pending ≡ None → ending ≡ Idle → ResumeEnding d ending
resumes_none d ending none is = subst (λ (o : Option Pending). PendingEnding o ending) (sym none) is
