-- What is kept of each component alone, and what is asked of the items that they need.
use Rattle.std.specs.Prelude.{◌≡◌, ◌<◌, ◌≤◌, ℕ, Bool, true, false, not, ◌&&◌, ◌||◌, List, Option, Some, None, is_some, IfSome, ◌⊎◌}
use Rattle.std.specs.List.{list_any, list_all, AllByRecursion}
use Rattle.nuc_base.specs.declared.kinds.Step.{Step}
use Rattle.nuc_base.specs.declared.kinds.Step.TheVariants as step
use Rattle.lifecycle.specs.Awaits.{is_same_step, is_busy_with}
use Rattle.lifecycle.specs.Life.{IsSound, HasOneMain}
use Rattle.components.specs.Components.{Child, ComponentState, Components, component_name, is_leaving, is_again, under_way}
use Rattle.components.specs.Fitted.{Fitted, name_of, prepared_of, limit_of, steps_of}
use Rattle.components.specs.Runs.{is_own}
use Rattle.components.specs.Turns.{is_met}
use Rattle.components.specs.declared.kinds.Act.{Act}
use Rattle.components.specs.declared.kinds.Act.TheVariants as acts
use Rattle.law_supervisor.specs.Sound.{may_ask, is_bare, is_waiting}

-- ---- of each component

-- each step that is prepared, but run, has a limit
abbrev pub has_limit : Fitted → Step → Bool
has_limit f s = not (is_some (prepared_of f s)) || is_some (limit_of (prepared_of f s))

-- no step of it is late as it starts
abbrev pub IsTimely : Fitted → Type 0
IsTimely f = (s : Step) → IfSome (limit_of (prepared_of f s)) (λ l. 1 ≤ l)

-- an item whose steps can be run to their ends
pub record IsRunnable (f : Fitted) : Type 0 where
  pub main : HasOneMain (steps_of f)
  pub timely : IsTimely f
  pub install : has_limit f step.Install ≡ true
  pub startup : has_limit f step.Startup ≡ true
  pub shutdown : has_limit f step.Shutdown ≡ true
  pub recover : has_limit f step.Recover ≡ true

-- the item, and the failures, that a component of this name is to take
pub record IsComing (own : List ℕ) (n : Fitted × ℕ) : Type 0 where
  pub name : name_of n.0 ≡ own
  pub runnable : IsRunnable n.0
  pub failures : n.1 < 3

abbrev pub is_timed : Child → Bool
is_timed c = is_same_step step.Run c.of || is_some c.deadline

pub record IsKeptPart (p : ComponentState) : Type 0 where
  pub sound : IsSound p.life
  pub steps : p.life.steps ≡ steps_of p.fitted
  pub runnable : IsRunnable p.fitted
  pub coming : IfSome p.next (IsComing (component_name p))
  -- a step but run that lives has a deadline
  pub timed : list_all is_timed p.children ≡ true
  -- a run that was begun is not answered: once its child lives it is busy no more
  pub run : (is_busy_with step.Run p.life.busy && list_any (λ (c : Child). is_same_step step.Run c.of) p.children) ≡ false
  -- of one that is gone nothing is left but children
  pub gone : (not p.life.gone || is_bare p) ≡ true
  -- the step that it is busy with is one that it has
  pub own : is_own p.life ≡ true
  pub asks : may_ask (under_way p.life) p.stop ≡ true
  -- an item waits where a stop with Again is asked for, or is under way
  pub waits : (not (is_waiting p) || (is_again p.stop || is_again (under_way p.life))) ≡ true

-- each alone is as it is kept, however many there are
abbrev pub AreKept : Components → Type 0
AreKept w = AllByRecursion IsKeptPart w.parts

-- ---- of what they need

abbrev pub AllBelow : (List ℕ → ℕ) → ℕ → List (List ℕ) → Type 0
AllBelow r k ns = AllByRecursion (λ n. r n < k) ns

-- the item that it has, or is to take
abbrev pub newest : ComponentState → Fitted
newest p = elim p.next [ None ↦ p.fitted | Some n ↦ n.0 ]

-- a component of each of these names is not to leave
abbrev pub are_there : List ComponentState → List (List ℕ) → Bool
are_there all ns = list_all (is_met (λ q. not (is_leaving q)) all) ns

-- In the order r each stands above what its item needs hard. In the order s each that is not to leave stands above all
-- that its newest item needs, and that is not to leave either.
pub record IsOrderedPart (r s : List ℕ → ℕ) (all : List ComponentState) (p : ComponentState) : Type 0 where
  pub stands : p.life.gone ≡ false → AllBelow r (r (component_name p)) p.fitted.hard
  pub hard : is_leaving p ≡ false → AllBelow s (s (component_name p)) (newest p).hard
  pub soft : is_leaving p ≡ false → AllBelow s (s (component_name p)) (newest p).soft
  pub hard_there : is_leaving p ≡ false → are_there all (newest p).hard ≡ true
  pub soft_there : is_leaving p ≡ false → are_there all (newest p).soft ≡ true

-- No failure is forgotten: a deployment is driven, or all are to leave.
abbrev pub IsFalling : Components → Type 0
IsFalling w = (w.steady ≡ false) ⊎ (list_all is_leaving w.parts ≡ true)

-- what is kept stays so, and so does that no failure is forgotten
pub record StaysKept (w v : Components) : Type 0 where
  pub kept : AreKept v
  pub falling : IsFalling w → IsFalling v

-- an act that changes the components where it is handed out
abbrev pub is_done : Option Act → Bool
is_done None = false
is_done (Some (acts.Start k s)) = false
is_done (Some (acts.Kill n)) = true
is_done (Some (acts.Failed k s x)) = true
is_done (Some (acts.Broke k s x)) = true
