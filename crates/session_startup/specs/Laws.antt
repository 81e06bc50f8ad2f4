-- What the laws of components say, together: what each event keeps, and what it makes of the living children.
use Rattle.std.specs.Prelude.{◌≡◌, ◌≢◌, ◌↔◌, ◌⊎◌, ℕ, Bool, List, None, ⊤}
use Rattle.nuc_base.specs.declared.kinds.Step.{Step}
use Rattle.nuc_base.specs.declared.kinds.Exit.{Exit}
use Rattle.records.specs.Stored.{StepFailed}
use Rattle.device.specs.Devices.{Device}
use Rattle.device.specs.Lawful.{applied}
use Rattle.components.specs.Components.{Components, At, component_name, owner}
use Rattle.components.specs.Events.{started, refused, skipped, killed, ended, heard_at, later}
use Rattle.components.specs.Acts.{Move, MovesInOrder, OwesAt}
use Rattle.law_supervisor.specs.Keeps.{HasNoneOwed, IsSupervised, Owns}

pub record Laws : Type 0 where
  pub keeps_moved : (d : Device) (w v : Components) (ms : List Move) → MovesInOrder w ms v → IsSupervised d w → IsSupervised d v
  pub owner_moved : (n : ℕ) (w v : Components) (ms : List Move) → MovesInOrder w ms v → owner n v.parts ≡ owner n w.parts
  pub keeps_started : (d : Device) (k : ℕ) (s : Step) (n : ℕ) (w : Components) → owner n w.parts ≡ None → HasNoneOwed w → IsSupervised d w →
      IsSupervised d (started k s n w)
  pub owner_started : (k : ℕ) (s : Step) (n m : ℕ) (w : Components) → At k (λ p. ⊤) w.parts → Owns (started k s n w) m ↔ ((m ≡ n) ⊎ Owns w m)
  pub keeps_refused : (d : Device) (k : ℕ) (s : Step) (w : Components) → HasNoneOwed w → IsSupervised d w → IsSupervised d (refused k s w)
  pub owner_refused : (k : ℕ) (s : Step) (m : ℕ) (w : Components) → owner m (refused k s w).parts ≡ owner m w.parts
  pub keeps_skipped : (d : Device) (k : ℕ) (w : Components) → HasNoneOwed w → IsSupervised d w → IsSupervised d (skipped k w)
  pub owner_skipped : (k : ℕ) (m : ℕ) (w : Components) → owner m (skipped k w).parts ≡ owner m w.parts
  pub keeps_killed : (d : Device) (n : ℕ) (w : Components) → HasNoneOwed w → IsSupervised d w → IsSupervised d (killed n w)
  pub owner_killed : (d : Device) (n m : ℕ) (w : Components) → IsSupervised d w → Owns (killed n w) m ↔ ((m ≢ n) × Owns w m)
  pub keeps_ended : (d : Device) (n : ℕ) (e : Exit) (w : Components) → Owns w n → HasNoneOwed w → IsSupervised d w → IsSupervised d (ended n e w)
  pub owner_ended : (d : Device) (n m : ℕ) (e : Exit) (w : Components) → IsSupervised d w → Owns (ended n e w) m ↔ ((m ≢ n) × Owns w m)
  pub keeps_told : (d : Device) (k : ℕ) (n : List ℕ) (s : Step) (e : Exit) (b : Bool) (w : Components) → IsSupervised d w → OwesAt w k s e b →
      At k (λ p. component_name p ≡ n) w.parts
      → IsSupervised (applied d (StepFailed n s e)) (heard_at k w)
  pub owner_heard : (n k : ℕ) (w : Components) → owner n (heard_at k w).parts ≡ owner n w.parts
  pub keeps_later : (d : Device) (m : ℕ) (w : Components) → IsSupervised d w → IsSupervised d (later m w)
