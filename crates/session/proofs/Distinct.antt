-- Endings and statuses of a call that differ. Each stands alone, since a search for what differs is slow where much else is known.
use Rattle.std.proofs.Common.{◌≡◌, ℕ, sym, ◌∙◌}
use Rattle.std.specs.Prelude.{Result, Err}
use Rattle.nuc_base.specs.declared.status.Status.TheVariants as statuses
use Rattle.session_boots.specs.declared.ends.SessionFault.{SessionFault}
use Rattle.session_boots.specs.declared.ends.SessionFault.TheVariants as over
use Rattle.session.specs.Endings.{Ending, BySinkFault, ByDiskFault, Full, Idle, WantBefore}

-- one that is the first is not the second, where these differ
pub differs : (ending first second : Ending) → ending ≡ first → (first ≡ second → ⊥) → ending ≡ second → ⊥
differs ending first second is apart other = apart (sym is ∙ other)

pub starves_fails : WantBefore ≡ ByDiskFault → ⊥
starves_fails is = cc

pub fails_memory : ByDiskFault ≡ WantBefore → ⊥
fails_memory is = cc

pub breaks_fails : BySinkFault ≡ ByDiskFault → ⊥
breaks_fails is = cc

pub idle_fails : Idle ≡ ByDiskFault → ⊥
idle_fails is = cc

pub idle_starves : Idle ≡ WantBefore → ⊥
idle_starves is = cc

pub full_fails : (at : ℕ) → Full at ≡ ByDiskFault → ⊥
full_fails at is = cc

pub full_starves : (at : ℕ) → Full at ≡ WantBefore → ⊥
full_starves at is = cc

-- a fault of the sink is none of the disk
pub edge_other : {A : Type 0} (e : SessionFault) → e ≡ over.Output → ◌≡◌ {A = Result A SessionFault} (Err e) (Err over.Disk) → ⊥
edge_other e edge disk = cc

-- ---- want of memory is no fault from outside

pub memory_disk : statuses.Memory ≡ statuses.Disk → ⊥
memory_disk is = cc

pub memory_edge : statuses.Memory ≡ statuses.Edge → ⊥
memory_edge is = cc

pub memory_library : statuses.Memory ≡ statuses.Library → ⊥
memory_library is = cc
