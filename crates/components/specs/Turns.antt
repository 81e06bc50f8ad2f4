-- What a component may do, and whose turn it is.
use Rattle.std.specs.Prelude.{◌≡◌, ℕ, Bool, false, not, ◌&&◌, ◌||◌, List, [], ◌++◌, map, take, length, Some, None, is_some, if◌then◌else◌}
use Rattle.std.specs.List.{list_any, list_all}
use Rattle.std.specs.Str.{bytes_eq}
use Rattle.nuc_base.specs.declared.kinds.Step.{Step}
use Rattle.lifecycle.specs.Awaits.{is_awaited, is_same_step, is_busy_with}
use Rattle.lifecycle.specs.declared.kinds.After.{After}
use Rattle.lifecycle.specs.declared.kinds.After.TheVariants as after
use Rattle.lifecycle.specs.declared.kinds.LifeEvent.TheVariants as event
use Rattle.components.specs.Components.{Components, ComponentState, Child, component_name, has_orphan, is_again, is_broken, is_to_stop, stands_up, under_way}
use Rattle.components.specs.Deadlines.{has_passed}
use Rattle.components.specs.Marks.{Flagged, flagged, reaching}

-- a component of this name is so
abbrev pub is_met : (ComponentState → Bool) → List ComponentState → List ℕ → Bool
is_met test parts name = list_any (λ q. bytes_eq (component_name q) name && test q) parts

-- what is needed softly may be broken
abbrev pub serves_softly : ComponentState → Bool
serves_softly q = stands_up q || (is_broken q.life.state && not (is_to_stop q || q.life.gone))

abbrev pub may_begin : Components → ComponentState → Bool
may_begin w p = (is_awaited event.MayBegin p.life && not (is_to_stop p))
    && (list_all (is_met stands_up w.parts) p.fitted.hard && list_all (is_met serves_softly w.parts) p.fitted.soft)

abbrev pub may_retry : ComponentState → Bool
may_retry p = is_awaited event.Retry p.life && not (is_to_stop p)

-- a living step's deadline has passed
abbrev pub is_late : ℕ → ComponentState → Bool
is_late moment p = list_any (λ (c : Child). has_passed moment c.deadline) p.children

-- one that needs this name hard directly is still to be stopped
abbrev pub is_held : List ℕ → List ComponentState → Bool
is_held name parts = list_any (λ q. is_to_stop q && list_any (bytes_eq name) q.fitted.hard) parts

-- what the item needs hard that a component takes at the end of a stop with Again that is under way
abbrev pub coming_needs : ComponentState → List (List ℕ)
coming_needs p = if is_again (under_way p.life) then elim p.next [ None ↦ [] | Some n ↦ n.0.hard ] else []

-- what it needs hard, or is about to
abbrev pub hard_needs : ComponentState → List (List ℕ)
hard_needs p = p.fitted.hard ++ coming_needs p

abbrev pub with_hard_needs : ComponentState → ComponentState
with_hard_needs p = record p { fitted = record p.fitted { hard = hard_needs p } }

-- who needs this name hard directly
abbrev pub direct_dependents : List ℕ → List ComponentState → Flagged
direct_dependents name parts = flagged (λ q. list_any (bytes_eq name) q.fitted.hard) (map with_hard_needs parts)

-- and who reaches it by hard needs
abbrev pub dependents : List ℕ → List ComponentState → Flagged
dependents name parts = reaching (length (direct_dependents name parts)) (direct_dependents name parts)

-- one that reaches this name is still to be stopped
abbrev pub is_held_far : List ℕ → List ComponentState → Bool
is_held_far name parts = list_any (λ (f : ComponentState × Bool). f.1 && is_to_stop f.0) (dependents name parts)

-- Who is stopped with Restart waits for those that need it directly; who is replaced or goes away, for all that reach it.
abbrev pub is_held_for : After → List ℕ → List ComponentState → Bool
is_held_for after.Restart name parts = is_held name parts
is_held_for after.Again name parts = is_held_far name parts
is_held_for after.Gone name parts = is_held_far name parts

-- the step was begun, and no child of it lives
abbrev pub is_begun : Step → ComponentState → Bool
is_begun s p = is_busy_with s p.life.busy && not (list_any (λ (c : Child). is_same_step s c.of) p.children)

-- a step was begun, and its start is not answered
abbrev pub is_unstarted : ComponentState → Bool
is_unstarted p = elim p.life.busy [ None ↦ false | Some s ↦ is_begun s p ]

-- so, and the start was not handed out yet
abbrev pub is_to_start : ComponentState → Bool
is_to_start p = is_unstarted p && not p.handed

-- Its stop may be given: a row is there, no child of an earlier stop and no start is open, and nobody that is to be stopped first holds it.
abbrev pub may_stop : Components → ComponentState → Bool
may_stop w p = elim p.stop [
  | None ↦ false
  | Some a ↦ (is_awaited (event.Stop a) p.life && not (has_orphan p || is_unstarted p)) &&
      not (is_held_for a (component_name p) w.parts)
]

abbrev pub may_act : Components → ComponentState → Bool
may_act w p = (may_begin w p || may_retry p) || (is_late w.moment p || (may_stop w p || (has_orphan p || is_to_start p)))

-- a failure was not handed out yet
abbrev pub owes : ComponentState → Bool
owes p = is_some p.owed

-- it is this one's turn: no failure is owed, and none of a lesser name may act
pub record IsNext (w : Components) (k : ℕ) : Type 0 where
  pub owes_none : list_any owes w.parts ≡ false
  pub least : list_any (may_act w) (take k w.parts) ≡ false

-- no failure is owed, and none may act
pub record IsQuiet (w : Components) : Type 0 where
  pub owes_none : list_any owes w.parts ≡ false
  pub none : list_any (may_act w) w.parts ≡ false
