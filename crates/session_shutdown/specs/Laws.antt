-- What the laws of components that leave say, together: what each event keeps, and what it makes of the living children.
use Rattle.std.specs.Prelude.{◌≡◌, ◌≢◌, ◌↔◌, ◌⊎◌, ℕ, List, None, ⊤}
use Rattle.nuc_base.specs.declared.kinds.Step.{Step}
use Rattle.nuc_base.specs.declared.kinds.Exit.{Exit}
use Rattle.components.specs.Components.{Components, At, owner}
use Rattle.components.specs.Events.{started, refused, skipped, killed, ended, later}
use Rattle.components.specs.Acts.{Move, MovesInOrder}
use Rattle.law_supervisor.specs.Keeps.{Owns}
use Rattle.session_shutdown.specs.Leaves.{AreLeaving}

pub record Laws : Type 0 where
  pub keeps_moved : (w v : Components) (ms : List Move) → MovesInOrder w ms v → AreLeaving w → AreLeaving v
  pub owner_moved : (n : ℕ) (w v : Components) (ms : List Move) → MovesInOrder w ms v → owner n v.parts ≡ owner n w.parts
  pub keeps_started : (k : ℕ) (s : Step) (n : ℕ) (w : Components) → owner n w.parts ≡ None → AreLeaving w → AreLeaving (started k s n w)
  pub owner_started : (k : ℕ) (s : Step) (n m : ℕ) (w : Components) → At k (λ p. ⊤) w.parts → Owns (started k s n w) m ↔ ((m ≡ n) ⊎ Owns w m)
  pub keeps_refused : (k : ℕ) (s : Step) (w : Components) → AreLeaving w → AreLeaving (refused k s w)
  pub owner_refused : (k : ℕ) (s : Step) (m : ℕ) (w : Components) → owner m (refused k s w).parts ≡ owner m w.parts
  pub keeps_skipped : (k : ℕ) (w : Components) → AreLeaving w → AreLeaving (skipped k w)
  pub owner_skipped : (k : ℕ) (m : ℕ) (w : Components) → owner m (skipped k w).parts ≡ owner m w.parts
  pub keeps_killed : (n : ℕ) (w : Components) → AreLeaving w → AreLeaving (killed n w)
  pub owner_killed : (n m : ℕ) (w : Components) → AreLeaving w → Owns (killed n w) m ↔ ((m ≢ n) × Owns w m)
  pub keeps_ended : (n : ℕ) (e : Exit) (w : Components) → AreLeaving w → AreLeaving (ended n e w)
  pub owner_ended : (n m : ℕ) (e : Exit) (w : Components) → AreLeaving w → Owns (ended n e w) m ↔ ((m ≢ n) × Owns w m)
  pub keeps_later : (m : ℕ) (w : Components) → AreLeaving w → AreLeaving (later m w)
