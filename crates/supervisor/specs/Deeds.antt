-- What the component whose turn it is has to do.
use Rattle.std.specs.Prelude.{◌≡◌, ℕ, Bool, true, false, ◌||◌, List, [], ◌∷◌, Option, Some, None, is_some, MatchOption, take, ◌⊎◌}
use Rattle.std.specs.List.{list_any}
use Rattle.nuc_base.specs.declared.kinds.Step.{Step}
use Rattle.lifecycle.specs.declared.kinds.After.{After}
use Rattle.lifecycle.specs.declared.kinds.LifeEvent.TheVariants as event
use Rattle.components.specs.Components.{Components, ComponentState, Child, At, changed_at, is_orphan, is_broken, has_orphan}
use Rattle.components.specs.Deadlines.{has_passed}
use Rattle.components.specs.Turns.{may_act, may_retry, is_late, is_to_start, owes}
use Rattle.components.specs.Lives.{lived_at}
use Rattle.components.specs.Events.{handed_at, killed}
use Rattle.components.specs.Acts.{MayMove, MayKill, HasStart, kills, spares}
use Rattle.supervisor.specs.declared.acting.Deed.{Deed}
use Rattle.supervisor.specs.declared.acting.Deed.TheVariants.{Moves, Starts, Kills}
use Rattle.components.specs.declared.kinds.Act.{Act}
use Rattle.components.specs.declared.kinds.Act.TheVariants as acts

-- ---- of one component, by whether it may begin and which stop may be given

abbrev pub kills_by : Option After → ComponentState → Bool
kills_by st p = elim st [ None ↦ false | Some a ↦ kills (event.Stop a) p ]

-- a child of it that is to be killed
abbrev pub is_due : ℕ → Option After → ComponentState → Child → Bool
is_due moment st p c = has_passed moment c.deadline || (is_orphan p.life c.of || kills_by st p)

abbrev pub IsAmong : Child → List Child → Type 0
IsAmong c [] = ⊥
IsAmong c (d ∷ ds) = (c ≡ d) ⊎ IsAmong c ds

-- it has a child of this number that passes the test
pub record HasChild (test : Child → Bool) (n : ℕ) (p : ComponentState) : Type 0 where
  pub child : Child
  pub here : IsAmong child p.children
  pub number : child.number ≡ n
  pub passes : test child ≡ true

-- this is for it to do
abbrev pub IsFor : ℕ → Bool → Option After → ComponentState → Deed → Type 0
IsFor moment begins st p (Moves event.MayBegin) = begins ≡ true
IsFor moment begins st p (Moves event.Launched) = ⊥
IsFor moment begins st p (Moves event.Skipped) = ⊥
IsFor moment begins st p (Moves (event.Ended s e)) = ⊥
IsFor moment begins st p (Moves (event.Stop a)) = (st ≡ Some a) × (spares (event.Stop a) p ≡ true)
IsFor moment begins st p (Moves event.Retry) = may_retry p ≡ true
IsFor moment begins st p (Starts t) = HasStart t p
IsFor moment begins st p (Kills n) = HasChild (is_due moment st p) n p

-- there is something for it to do
abbrev pub has_deed : ℕ → Bool → Option After → ComponentState → Bool
has_deed moment begins st p = (begins || may_retry p) || (is_late moment p || (is_some st || (has_orphan p || is_to_start p)))

-- ---- among all components

abbrev pub MayDo : Components → ℕ → Deed → Type 0
MayDo w k (Moves e) = MayMove w k e
MayDo w k (Starts t) = At k (HasStart t) w.parts
MayDo w k (Kills n) = (t : Step) × MayKill w n k t

-- the first component that may act, and what it may do
abbrev pub IsFirst : Components → Option (ℕ × Deed) → Type 0
IsFirst w found = MatchOption found (list_any (may_act w) w.parts ≡ false) (λ x. (list_any (may_act w) (take x.0 w.parts) ≡ false) × MayDo w x.0 x.1)

-- it is done, and this is handed out
abbrev pub IsDone : Components → ℕ → Deed → Option Act → Components → Type 0
IsDone w k (Moves e) act v = (act ≡ None) × (v ≡ lived_at k e w)
IsDone w k (Starts t) act v = (act ≡ Some (acts.Start k t)) × (v ≡ handed_at k w)
IsDone w k (Kills n) act v = (act ≡ Some (acts.Kill n)) × (v ≡ killed n w)

-- ---- failures

-- the failure that the component there owes
abbrev pub IsOwed : ℕ → List ComponentState → Act → Type 0
IsOwed k parts (acts.Start i t) = ⊥
IsOwed k parts (acts.Kill n) = ⊥
IsOwed k parts (acts.Failed i t e) = (i ≡ k) × At k (λ p. (p.owed ≡ Some (t, e)) × (is_broken p.life.state ≡ false)) parts
IsOwed k parts (acts.Broke i t e) = (i ≡ k) × At k (λ p. (p.owed ≡ Some (t, e)) × (is_broken p.life.state ≡ true)) parts

-- the component that owes a failure, and the failure
abbrev pub IsOwing : List ComponentState → Option (ℕ × Act) → Type 0
IsOwing parts found = MatchOption found (list_any owes parts ≡ false) (λ x. IsOwed x.0 parts x.1)

-- one of them handed out its failure
abbrev pub HasHandedOut : List ComponentState → List ComponentState → Type 0
HasHandedOut old new = (k : ℕ) × (new ≡ changed_at k (λ p. record p { owed = None }) old)
