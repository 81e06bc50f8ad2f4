-- The end of a child, and a later moment.
use Rattle.std.proofs.Common.{◌≡◌, ℕ, Bool, true, false, Option, Some, None, refl, if◌then◌else◌}
use Rattle.nuc_base.specs.declared.kinds.Step.{Step}
use Rattle.nuc_base.specs.declared.kinds.Exit.{Exit}
use Rattle.lifecycle.specs.declared.kinds.LifeEvent.{LifeEvent}
use Rattle.lifecycle.specs.declared.kinds.LifeEvent.TheVariants as life
use Rattle.components.specs.Components.{Components, child_gone}
use Rattle.components.specs.Lives.{lived_at}
use Rattle.components.specs.Events.{gone_by, is_orphan_at, later}

module _ (n m : ℕ) (w : Components) where
  by_orphan : (b : Bool) (e : LifeEvent) (k : ℕ)
      → (if b then child_gone k n (later m w) else lived_at k e (child_gone k n (later m w))) ≡ later m
      (if b then child_gone k n w else lived_at k e (child_gone k n w))
  by_orphan true e k = refl
  by_orphan false e k = refl

  pub by_owner : (o : Option (ℕ × Step)) (e : Exit)
      → (elim o [ None ↦ later m w | Some x ↦ gone_by (Some (life.Ended x.1 e)) x.0 x.1 n (later m w) ]) ≡ later m
      (elim o [ None ↦ w | Some x ↦ gone_by (Some (life.Ended x.1 e)) x.0 x.1 n w ])
  by_owner None e = refl
  by_owner (Some x) e = by_orphan (is_orphan_at x.0 x.1 w) (life.Ended x.1 e) x.0
