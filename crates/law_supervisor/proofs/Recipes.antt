-- What a component runs, and what it is to take, is for one platform whatever befalls it.
use Rattle.std.proofs.Common.{ℕ, List, [], ◌∷◌, Option, None, Bool, sym, subst}
use Rattle.std.specs.Option.{IfSome}
use Rattle.nuc_base.specs.declared.kinds.Step.{Step}
use Rattle.nuc_base.specs.declared.platform.Platform.{Platform}
use Rattle.lifecycle.specs.declared.kinds.LifeEvent.{LifeEvent}
use Rattle.components.specs.Acts.{Move, MovesInOrder}
use Rattle.components.specs.Components.{Components, ComponentState, Child, child_gone, without_child}
use Rattle.components.specs.Events.{gone_by, kill_event_at, killed, heard_at}
use Rattle.lifecycle.specs.declared.kinds.StepSet.{StepSet}
use Rattle.components.specs.Fitted.{Fitted}
use Rattle.components.specs.Lives.{lived, lived_at}
use Rattle.components.specs.Platforms.{AllRunFor, IsFor, RunsFor}
use Rattle.law_supervisor.proofs.Lists.{changed_all}
use Rattle.law_supervisor.proofs.Reached.{Marks}
use Rattle.law_supervisor.proofs.Items.{by_lived}
use Rattle.law_supervisor.proofs.Together.{plain_all, gone_by_each}
use Rattle.law_supervisor.proofs.Gone.{killed_by}

module _ (platform : Platform) where
  mark_runs : Marks (RunsFor platform)
  mark_runs p e h = h

  abbrev RunsBy : Fitted → Option (Fitted × ℕ) → StepSet → List Child → Type 0
  RunsBy f nx st cs = IsFor platform f × IfSome nx (λ n. IsFor platform n.0)

  lived_runs : (b : Bool) (e : LifeEvent) (p : ComponentState) → RunsFor platform p → RunsFor platform (lived b e p)
  lived_runs b e p h = by_lived RunsBy b e p
      (h, (λ n q. (subst (λ (o : Option (Fitted × ℕ)). IfSome o (λ m. IsFor platform m.0)) q h.1, tt)))

  lived_at_runs : (k : ℕ) (e : LifeEvent) (w : Components) → AllRunFor platform w.parts → AllRunFor platform (lived_at k e w).parts
  lived_at_runs k e w a = plain_all (RunsFor platform) mark_runs k e w a (λ p q h. lived_runs w.steady e p h)

  pub moved_runs : (w v : Components) (ms : List Move) → MovesInOrder w ms v → AllRunFor platform w.parts → AllRunFor platform v.parts
  moved_runs w v [] q a = subst (λ (u : Components). AllRunFor platform u.parts) (sym q) a
  moved_runs w v (m ∷ ms) q a = moved_runs (lived_at m.who m.what w) v ms q.2 (lived_at_runs m.who m.what w a)

  gone_runs : (k n : ℕ) (w : Components) → AllRunFor platform w.parts → AllRunFor platform (child_gone k n w).parts
  gone_runs k n w a = changed_all (RunsFor platform) k (without_child n) w.parts a (λ p q h. h)

  gone_by_runs : (o : Option LifeEvent) (k : ℕ) (s : Step) (n : ℕ) (w : Components) → AllRunFor platform w.parts → AllRunFor platform (gone_by o k s n w).parts
  gone_by_runs o k s n w a = gone_by_each (λ v. AllRunFor platform v.parts) o k s n w (gone_runs k n w a)
      (λ e q. lived_at_runs k e (child_gone k n w) (gone_runs k n w a))

  pub killed_runs : (n : ℕ) (w : Components) → AllRunFor platform w.parts → AllRunFor platform (killed n w).parts
  killed_runs n w a = killed_by (λ v. AllRunFor platform v.parts) n w a (λ o q. gone_by_runs (kill_event_at o.0 o.1 n w) o.0 o.1 n w a)

  pub told_runs : (k : ℕ) (w : Components) → AllRunFor platform w.parts → AllRunFor platform (heard_at k w).parts
  told_runs k w a = changed_all (RunsFor platform) k (λ p. record p { owed = None }) w.parts a (λ p q h. h)
