-- What befalls the components.
use Rattle.std.specs.Prelude.{ℕ, Bool, true, false, List, ◌∷◌, Option, Some, None, slice_get, option_map, option_and_then, if◌then◌else◌}
use Rattle.nuc_base.specs.declared.kinds.Step.{Step}
use Rattle.nuc_base.specs.declared.kinds.Step.TheVariants as step
use Rattle.nuc_base.specs.declared.kinds.Exit.{Exit}
use Rattle.nuc_base.specs.declared.kinds.Exit.TheVariants as exits
use Rattle.lifecycle.specs.declared.kinds.LifeEvent.{LifeEvent}
use Rattle.lifecycle.specs.declared.kinds.LifeEvent.TheVariants as life
use Rattle.components.specs.Fitted.{prepared_of, limit_of}
use Rattle.components.specs.Components.{Components, ComponentState, changed_at, owner, child_of, child_gone, is_orphan, place_of}
use Rattle.components.specs.Deadlines.{deadline_after, has_passed}
use Rattle.components.specs.Lives.{lived_at}
use Rattle.components.specs.declared.kinds.Event.{Event}
use Rattle.components.specs.declared.kinds.Event.TheVariants.{Started, Refused, Skipped, Ended, Passed}

-- a child of the step lives from this moment on
abbrev pub with_child : ℕ → Step → ℕ → ComponentState → ComponentState
with_child n s moment p = record p {
  children = record { number = n; of = s; deadline = deadline_after (limit_of (prepared_of p.fitted s)) moment } ∷
      p.children;
}

-- a run is launched where its child lives
abbrev pub launched : Step → ℕ → Components → Components
launched step.Run k w = lived_at k life.Launched w
launched s k w = w

-- its start was handed out
abbrev pub handed_at : ℕ → Components → Components
handed_at k w = record w { parts = changed_at k (λ p. record p { handed = true }) w.parts }

-- that is answered
abbrev pub answered_at : ℕ → Components → Components
answered_at k w = record w { parts = changed_at k (λ p. record p { handed = false }) w.parts }

abbrev pub started : ℕ → Step → ℕ → Components → Components
started k s n w = launched s k (record w { parts = changed_at k (λ p. with_child n s w.moment (record p { handed = false })) w.parts })

abbrev pub refused : ℕ → Step → Components → Components
refused k s w = lived_at k (life.Ended s exits.NotStarted) (answered_at k w)

abbrev pub skipped : ℕ → Components → Components
skipped k w = lived_at k life.Skipped (answered_at k w)

abbrev pub is_orphan_at : ℕ → Step → Components → Bool
is_orphan_at k s w = elim (slice_get w.parts k) [ None ↦ false | Some p ↦ is_orphan p.life s ]

-- The component's child is gone, and this befell the component. One that outlived its component's stop, and one that goes for no reason, change nothing else.
abbrev pub gone_by : Option LifeEvent → ℕ → Step → ℕ → Components → Components
gone_by None k s n w = child_gone k n w
gone_by (Some e) k s n w = if is_orphan_at k s w then child_gone k n w else lived_at k e (child_gone k n w)

abbrev pub ended : ℕ → Exit → Components → Components
ended n e w = elim (owner n w.parts) [ None ↦ w | Some o ↦ gone_by (Some (life.Ended o.1 e)) o.0 o.1 n w ]

-- the deadline of the child has passed
abbrev pub is_late_child : ℕ → ℕ → ComponentState → Bool
is_late_child moment n p = elim (child_of n p.children) [ None ↦ false | Some c ↦ has_passed moment c.deadline ]

-- what a kill is to its component: a timeout where the deadline has passed, else its stop where one is asked for
abbrev pub kill_event : ℕ → ℕ → Step → ComponentState → Option LifeEvent
kill_event moment n s p = if is_late_child moment n p then Some (life.Ended s exits.TimedOut) else option_map (λ a. life.Stop a) p.stop

abbrev pub kill_event_at : ℕ → Step → ℕ → Components → Option LifeEvent
kill_event_at k s n w = option_and_then (kill_event w.moment n s) (slice_get w.parts k)

abbrev pub killed : ℕ → Components → Components
killed n w = elim (owner n w.parts) [ None ↦ w | Some o ↦ gone_by (kill_event_at o.0 o.1 n w) o.0 o.1 n w ]

-- the failure of the component of this name was handed out
abbrev pub heard_at : ℕ → Components → Components
heard_at k w = record w { parts = changed_at k (λ p. record p { owed = None }) w.parts }

abbrev pub heard_of : List ℕ → Components → Components
heard_of name w = elim (place_of name w.parts) [ None ↦ w | Some k ↦ heard_at k w ]

abbrev pub noticed : Event → Components → Components
noticed (Started k s n) w = started k s n w
noticed (Refused k s) w = refused k s w
noticed (Skipped k s) w = skipped k w
noticed (Ended n e) w = ended n e w
noticed Passed w = w

abbrev pub later : ℕ → Components → Components
later moment w = record w { moment = moment }
