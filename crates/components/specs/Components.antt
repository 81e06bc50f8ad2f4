-- The components as contracts see them.
use Rattle.std.specs.Prelude.{ℕ, suc, zero, ◌==◌, ◌+◌, Bool, true, false, not, ◌&&◌, ◌||◌, List, [], ◌∷◌, Option, Some, None, is_some, slice_get, if◌then◌else◌}
use Rattle.std.specs.List.{list_any, filter, find}
use Rattle.std.specs.Option.{IsSomeAnd}
use Rattle.std.specs.Str.{bytes_eq}
use Rattle.nuc_base.specs.declared.kinds.Step.{Step}
use Rattle.nuc_base.specs.declared.kinds.Step.TheVariants as step
use Rattle.nuc_base.specs.declared.kinds.Exit.{Exit}
use Rattle.lifecycle.specs.Life.{Life}
use Rattle.lifecycle.specs.Awaits.{is_same_step, is_busy_with, is_stopping}
use Rattle.lifecycle.specs.declared.kinds.State.{State}
use Rattle.lifecycle.specs.declared.kinds.State.TheVariants as state
use Rattle.lifecycle.specs.declared.kinds.After.{After}
use Rattle.lifecycle.specs.declared.kinds.After.TheVariants as after
use Rattle.components.specs.Fitted.{Fitted, name_of}
use Rattle.components.specs.declared.child.Child as code

-- a child that lives: its number, its step, and until when it may
abbrev pub Child : Type 0
Child = code.Child

pub record ComponentState : Type 0 where
  pub fitted : Fitted  -- the item whose steps it runs
  pub life : Life
  pub children : List Child
  pub handed : Bool  -- the start of its step was handed out, and is not answered
  pub owed : Option (Step × Exit)  -- a failure that was not handed out yet
  pub stop : Option After  -- a stop that is asked for and not given yet
  pub next : Option (Fitted × ℕ)  -- the item, and the failures, that it takes once it is stopped with Again

-- The components, in the order of their names. They are numbered by their places.
pub record Components : Type 0 where
  pub parts : List ComponentState
  pub moment : ℕ
  pub steady : Bool  -- no deployment is driven: failures are forgotten at a success

abbrev pub component_name : ComponentState → List ℕ
component_name p = name_of p.fitted

-- the component of this number is so
abbrev pub At : ℕ → (ComponentState → Type 0) → List ComponentState → Type 0
At k P parts = IsSomeAnd (slice_get parts k) P

abbrev pub changed_at : ℕ → (ComponentState → ComponentState) → List ComponentState → List ComponentState
changed_at k f [] = []
changed_at zero f (p ∷ ps) = f p ∷ ps
changed_at (suc k) f (p ∷ ps) = p ∷ changed_at k f ps

abbrev pub place_from : ℕ → List ℕ → List ComponentState → Option ℕ
place_from k name [] = None
place_from k name (p ∷ ps) = if bytes_eq name (component_name p) then Some k else place_from (k + 1) name ps

-- the number of the component of this name
abbrev pub place_of : List ℕ → List ComponentState → Option ℕ
place_of name parts = place_from 0 name parts

-- ---- stops

abbrev pub is_again : Option After → Bool
is_again None = false
is_again (Some after.Restart) = false
is_again (Some after.Again) = true
is_again (Some after.Gone) = false

abbrev pub is_gone : Option After → Bool
is_gone None = false
is_gone (Some after.Restart) = false
is_gone (Some after.Again) = false
is_gone (Some after.Gone) = true

-- the stop that is under way
abbrev pub under_way : Life → Option After
under_way c = if is_stopping c.state then c.stop else None

-- it is with Again or Gone
abbrev pub stops_for_good : Life → Bool
stops_for_good c = is_again (under_way c) || is_gone (under_way c)

-- who is to be stopped with Again or Gone fails no more
abbrev pub is_spared : ComponentState → Bool
is_spared p = (is_again p.stop || is_gone p.stop) || stops_for_good p.life

-- a child that outlived the stop of its component: it is still to be killed
abbrev pub is_orphan : Life → Step → Bool
is_orphan c s = not (is_busy_with s c.busy) && not (is_same_step s step.Run && c.runs)

abbrev pub has_orphan : ComponentState → Bool
has_orphan p = list_any (λ (c : Child). is_orphan p.life c.of) p.children

-- a stop is asked for, or under way
abbrev pub is_to_stop : ComponentState → Bool
is_to_stop p = is_some p.stop || (is_stopping p.life.state || has_orphan p)

-- it is stopped with Gone, or is to be
abbrev pub is_leaving : ComponentState → Bool
is_leaving p = p.life.gone || (is_gone p.stop || is_gone (under_way p.life))

-- it stands no more
abbrev pub is_over : ComponentState → Bool
is_over p = p.life.gone && elim p.children [ [] ↦ true | ◌∷◌ c cs ↦ false ]

-- ---- states

abbrev pub is_up : State → Bool
is_up state.Running = true
is_up state.Finished = true
is_up s = false

abbrev pub is_broken : State → Bool
is_broken state.Broken = true
is_broken s = false

abbrev pub is_finished : State → Bool
is_finished state.Finished = true
is_finished s = false

abbrev pub is_running : State → Bool
is_running state.Running = true
is_running s = false

abbrev pub is_starting : State → Bool
is_starting state.Starting = true
is_starting s = false

-- running or finished, and not to be stopped
abbrev pub stands_up : ComponentState → Bool
stands_up p = is_up p.life.state && not (is_to_stop p || p.life.gone)

-- all that stand are so
abbrev pub is_settled : Components → Bool
is_settled w = not (list_any (λ p. not (is_over p || stands_up p)) w.parts)

-- broken, and not to be stopped
abbrev pub is_down : ComponentState → Bool
is_down p = is_broken p.life.state && not (is_to_stop p || p.life.gone)

-- one is so
abbrev pub has_broken : Components → Bool
has_broken w = list_any is_down w.parts

-- none stands
abbrev pub is_stopped : Components → Bool
is_stopped w = not (list_any (λ p. not (is_over p)) w.parts)

-- ---- children

abbrev pub child_of : ℕ → List Child → Option Child
child_of n cs = find (λ (c : Child). c.number == n) cs

abbrev pub owner_from : ℕ → ℕ → List ComponentState → Option (ℕ × Step)
owner_from k n [] = None
owner_from k n (p ∷ ps) = elim (child_of n p.children) [ None ↦ owner_from (k + 1) n ps | Some c ↦ Some (k, c.of) ]

-- the component and the step of the living child of this number
abbrev pub owner : ℕ → List ComponentState → Option (ℕ × Step)
owner n parts = owner_from 0 n parts

abbrev pub without_child : ℕ → ComponentState → ComponentState
without_child n p = record p { children = filter (λ (c : Child). not (c.number == n)) p.children }

-- the child lives no more, and its component is as it was
abbrev pub child_gone : ℕ → ℕ → Components → Components
child_gone k n w = record w { parts = changed_at k (without_child n) w.parts }

-- no child lives
abbrev pub is_childless : Components → Bool
is_childless w = not (list_any (λ p. elim p.children [ [] ↦ false | ◌∷◌ c cs ↦ true ]) w.parts)
