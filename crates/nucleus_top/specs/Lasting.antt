-- Nothing that was taken is lost.
use Rattle.std.specs.Prelude.{◌≡◌, ◌⊎◌, ◌<◌, ℕ, List, [], ◌∷◌, ◌++◌, length}
use Rattle.std.specs.Map.{lookup}
use Rattle.std.specs.Option.{IsSome, IsSomeAnd}
use Rattle.std.specs.Str.{bytes_eq}
use Rattle.disk_model.specs.Disk.{Image}
use Rattle.nuc_base.specs.declared.kinds.Outcome.{Outcome}
use Rattle.records.specs.Stored.{Plan, Record, Accepted, Closed}
use Rattle.device.specs.After.{Course, course}
use Rattle.device.specs.Devices.{Device}
use Rattle.device.specs.Lawful.{Run}
use Rattle.nucleus_top.specs.Opening.{IsImageOf}

-- a deployment of this id is accepted and not closed, or it is closed
abbrev pub IsTaken : List ℕ → Course → Type 0
IsTaken id c = IsSomeAnd c.plan (λ p. p.id ≡ id) ⊎ IsSome (lookup (bytes_eq id) c.closed)

-- What was closed stays closed, in its order, and what closes later stands behind it. What was taken stays taken.
pub record LosesNothing (old new : Course) : Type 0 where
  pub closed : (more : List (List ℕ × Outcome)) × (new.closed ≡ old.closed ++ more)
  pub taken : (id : List ℕ) → IsTaken id old → IsTaken id new

-- so it is along every run
abbrev pub RunsLoseNothing : Type 0
RunsLoseNothing = (d e : Device) (records : List Record) → Run d records e → LosesNothing (course d) (course e)

-- and each plan that a run accepts is taken at its end
abbrev pub RunsTake : Type 0
RunsTake = (d e : Device) (before after : List Record) (plan : Plan) → Run d (before ++ Accepted plan ∷ after) e → IsTaken plan.id (course e)

-- and a run that ends with a close has more closed deployments than there were
abbrev pub RunsCloseMore : Type 0
RunsCloseMore = (d e : Device) (prefix : List Record) (o : Outcome) → Run d (prefix ++ Closed o ∷ []) e → length d.closed < length e.closed

-- Of each plan whose acceptance is among these records, each of these images stands for a device that has it, pending or closed.
abbrev pub AreLasting : (Image → Type 0) → List Record → Type 0
AreLasting images records = (before after : List Record) (plan : Plan) → records ≡ before ++ Accepted plan ∷ after → (c : Image) → images c →
    (e : Device) × IsImageOf c e × IsTaken plan.id (course e)
