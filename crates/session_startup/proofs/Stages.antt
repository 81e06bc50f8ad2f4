-- The two stages, as one.
use Rattle.std.specs.Prelude.{ℕ, Bool, List, IsSome}
use Rattle.disk_model.specs.Disk.{Image, DiskLaws}
use Rattle.gate_log.specs.Journal.{JournalLaws}
use Rattle.device.specs.Standing.{StandsFor}
use Rattle.device.specs.declared.staged.Stage.TheVariants as stages
use Rattle.deploy_state.proofs.Steps.{in_hand_stands}
use Rattle.session_startup.specs.Coming.{OwnsComing, coming_device}
use Rattle.session_startup.specs.declared.coming.Coming.{Coming}
use Rattle.session_startup.specs.declared.coming.Coming.TheVariants as coming
use Rattle.session_startup.proofs.Closed.{pends_in}

-- each image of now stands for the device in hand
pub coming_stands : {J D : Type 0} {is_modelled : Bool} {seen : D → Image} {may_leave : D → Image → Type 0} {moment : D → ℕ} {left_since : D → ℕ → Image →
    Type 0}
    {files : List ℕ → Type 0} {entries : Image → List (List ℕ) → Type 0} {holds_none : Image → Type 0} {is_damaged : Image → ℕ → Type 0} {stands : J → Image →
    List (List ℕ) → Type 0} {end : J → ℕ}
    → DiskLaws is_modelled seen may_leave moment left_since → JournalLaws files entries holds_none is_damaged stands end
    → (s : Coming J) (disk : D) → OwnsComing is_modelled may_leave stands end s disk → (c : Image) → may_leave disk c → StandsFor entries c (coming_device s)
coming_stands disk_laws laws (coming.Plan s) disk h c left = in_hand_stands disk_laws laws s.hand.log disk (coming_device (coming.Plan s)) h.0.0 c left
coming_stands disk_laws laws (coming.Set s) disk h c left = in_hand_stands disk_laws laws s.hand.log disk (coming_device (coming.Set s)) h.0.0 c left

pub is_pending : {J D : Type 0} (is_modelled : Bool) (may_leave : D → Image → Type 0) (stands : J → Image → List (List ℕ) → Type 0) (end : J → ℕ)
    (s : Coming J) (disk : D) → OwnsComing is_modelled may_leave stands end s disk → IsSome (coming_device s).pending
is_pending is_modelled may_leave stands end (coming.Plan s) disk h = pends_in stages.Activating (coming_device (coming.Plan s)) h.1
is_pending is_modelled may_leave stands end (coming.Set s) disk h = pends_in stages.Rolling (coming_device (coming.Set s)) h.1
