-- What is handed out.
use Rattle.std.specs.Prelude.{◌≡◌, ℕ, Bool, true, false, not, ◌&&◌, ◌||◌, List, [], ◌∷◌, Option, Some, None, IsSome}
use Rattle.nuc_base.specs.declared.kinds.Step.{Step}
use Rattle.nuc_base.specs.declared.kinds.Exit.{Exit}
use Rattle.lifecycle.specs.declared.kinds.LifeEvent.{LifeEvent}
use Rattle.lifecycle.specs.declared.kinds.LifeEvent.TheVariants as event
use Rattle.lifecycle.specs.Table.{table}
use Rattle.lifecycle.specs.Laws.{is_kill}
use Rattle.components.specs.Fitted.{prepared_of}
use Rattle.components.specs.Components.{Components, ComponentState, At, component_name, owner, place_of, is_orphan, is_broken}
use Rattle.components.specs.Turns.{may_begin, may_retry, may_stop, is_begun, IsNext, IsQuiet}
use Rattle.components.specs.Lives.{lived_at}
use Rattle.components.specs.Events.{is_late_child, handed_at, killed, heard_at}
use Rattle.components.specs.declared.kinds.Act.{Act}
use Rattle.components.specs.declared.kinds.Act.TheVariants.{Start, Kill, Failed, Broke}

-- ---- moves that leave nothing outside

-- the event has a row, and it kills, or does not
abbrev pub kills : LifeEvent → ComponentState → Bool
kills e p = elim (table p.life e) [ None ↦ false | Some r ↦ is_kill r.0 ]

abbrev pub spares : LifeEvent → ComponentState → Bool
spares e p = elim (table p.life e) [ None ↦ false | Some r ↦ not (is_kill r.0) ]

abbrev pub MayMove : Components → ℕ → LifeEvent → Type 0
MayMove w k event.MayBegin = At k (λ p. may_begin w p ≡ true) w.parts
MayMove w k event.Retry = At k (λ p. may_retry p ≡ true) w.parts
MayMove w k (event.Stop a) = At k (λ p. (may_stop w p ≡ true) × (p.stop ≡ Some a) × (spares (event.Stop a) p ≡ true)) w.parts
MayMove w k event.Launched = ⊥
MayMove w k event.Skipped = ⊥
MayMove w k (event.Ended s e) = ⊥

pub record Move : Type 0 where
  pub who : ℕ
  pub what : LifeEvent

-- components move one after another, each in its turn
abbrev pub MovesInOrder : Components → List Move → Components → Type 0
MovesInOrder w [] v = v ≡ w
MovesInOrder w (m ∷ ms) v = IsNext w m.who × MayMove w m.who m.what × MovesInOrder (lived_at m.who m.what w) ms v

-- ---- what is done outside

-- its stop may be given and kills its children
abbrev pub is_stop_due : Components → ComponentState → Bool
is_stop_due w p = may_stop w p && elim p.stop [ None ↦ false | Some a ↦ kills (event.Stop a) p ]

-- a child of this number and step is killed at its deadline, for its component's stop, or because it outlived that
abbrev pub is_kill_due : Components → ℕ → Step → ComponentState → Bool
is_kill_due w n s p = is_late_child w.moment n p || (is_orphan p.life s || is_stop_due w p)

abbrev pub MayKill : Components → ℕ → ℕ → Step → Type 0
MayKill w n k s = (owner n w.parts ≡ Some (k, s)) × At k (λ p. is_kill_due w n s p ≡ true) w.parts

-- the component of this number owes this failure, and is the one that its name names
abbrev pub OwesAt : Components → ℕ → Step → Exit → Bool → Type 0
OwesAt w k s e breaks = At k (λ p. (p.owed ≡ Some (s, e)) × (is_broken p.life.state ≡ breaks) × (place_of (component_name p) w.parts ≡ Some k)) w.parts

-- the step is prepared, was begun, and its start was not handed out yet
pub record HasStart (t : Step) (p : ComponentState) : Type 0 where
  pub begun : is_begun t p ≡ true
  pub new : p.handed ≡ false
  pub prepared : IsSome (prepared_of p.fitted t)

-- from these components this act is handed out, and leaves those
abbrev pub HandsOut : Components → Option Act → Components → Type 0
HandsOut w None v = IsQuiet w × (v ≡ w)
HandsOut w (Some (Start k t)) v = IsNext w k × At k (HasStart t) w.parts × (v ≡ handed_at k w)
HandsOut w (Some (Kill n)) v = (k : ℕ) × (t : Step) × IsNext w k × MayKill w n k t × (v ≡ killed n w)
HandsOut w (Some (Failed k t e)) v = OwesAt w k t e false × (v ≡ heard_at k w)
HandsOut w (Some (Broke k t e)) v = OwesAt w k t e true × (v ≡ heard_at k w)

-- so it is after moves that leave nothing outside
pub record NextAct (w : Components) (act : Option Act) (v : Components) : Type 0 where
  pub made : List Move
  pub seen : Components
  pub quietly : MovesInOrder w made seen
  pub hands : HandsOut seen act v
