-- What is kept of the components whatever befalls them.
use Rattle.std.specs.Prelude.{◌≡◌, ◌≢◌, ◌<◌, ℕ, Bool, true, false, not, ◌&&◌, ◌||◌, List, [], ◌∷◌, Option, Some, None, is_some, slice_get, ⊤}
use Rattle.std.specs.List.{list_any, All}
use Rattle.std.specs.Option.{IfSome}
use Rattle.nuc_base.specs.declared.kinds.Step.TheVariants as step
use Rattle.lifecycle.specs.Life.{MayHave, may_be_busy, may_run}
use Rattle.lifecycle.specs.declared.kinds.After.{After}
use Rattle.lifecycle.specs.declared.kinds.After.TheVariants as after
use Rattle.lifecycle.specs.Awaits.{is_same_step, is_busy_with, is_stopping}
use Rattle.components.specs.Fitted.{Fitted, name_of}
use Rattle.components.specs.Components.{Components, ComponentState, Child, component_name, is_again, is_gone, under_way}
use Rattle.components.specs.Answers.{living_numbers}

-- ---- of each component

abbrev pub is_restart : After → Bool
is_restart after.Restart = true
is_restart after.Again = false
is_restart after.Gone = false

-- which stop may be asked for beside the one that is under way
abbrev pub may_ask : Option After → Option After → Bool
may_ask None asked = true
may_ask (Some way) None = true
may_ask (Some after.Restart) (Some asked) = not (is_restart asked)
may_ask (Some after.Again) (Some asked) = is_gone (Some asked)
may_ask (Some after.Gone) (Some asked) = false

-- a stop with Again is asked for, or under way
abbrev pub is_to_begin_again : ComponentState → Bool
is_to_begin_again p = is_again p.stop || is_again (under_way p.life)

abbrev pub is_waiting : ComponentState → Bool
is_waiting p = is_some p.next

-- nothing is left of it but children
abbrev pub is_bare : ComponentState → Bool
is_bare p = (not (is_some p.stop) && not (is_stopping p.life.state)) && (not (is_some p.life.busy) && not p.life.runs)

abbrev pub is_run : Child → Bool
is_run c = is_same_step step.Run c.of

pub record IsSoundPart (p : ComponentState) : Type 0 where
  -- whoever has three failures is BROKEN
  pub few : MayHave p.life.state p.life.failures
  pub busy : may_be_busy p.life.state p.life.busy ≡ true
  pub runs : may_run p.life.state p.life.runs ≡ true
  -- while the start of a run is not answered, no run child lives
  pub run : (is_busy_with step.Run p.life.busy && list_any is_run p.children) ≡ false
  pub bare : (not p.life.gone || is_bare p) ≡ true
  pub asks : may_ask (under_way p.life) p.stop ≡ true
  -- an item waits where a stop with Again is asked for or under way, and there alone, unless one with Gone is asked for since
  pub waits : (not (is_waiting p) || is_to_begin_again p) ≡ true
  pub takes : (not (is_to_begin_again p) || (is_waiting p || is_gone p.stop)) ≡ true
  -- the item that waits has the same name, and fewer failures than break
  pub coming : IfSome p.next (λ (n : Fitted × ℕ). (name_of n.0 ≡ component_name p) × (n.1 < 3))

-- ---- of all of them

-- no number stands twice
abbrev pub AreDistinct : List ℕ → Type 0
AreDistinct [] = ⊤
AreDistinct (n ∷ ns) = All (λ (m : ℕ). m ≢ n) ns × AreDistinct ns

-- no two components have one name
abbrev pub HaveOwnNames : List ComponentState → Type 0
HaveOwnNames parts = (j k : ℕ) (p q : ComponentState) → slice_get parts j ≡ Some p → slice_get parts k ≡ Some q → component_name p ≡ component_name q → j ≡ k

abbrev pub AreSound : List ComponentState → Type 0
AreSound parts = (k : ℕ) (p : ComponentState) → slice_get parts k ≡ Some p → IsSoundPart p

-- what holds of the components whether or not a deployment is driven
pub record IsOrderly (w : Components) : Type 0 where
  pub sound : AreSound w.parts
  -- no number of a child stands twice
  pub differ : AreDistinct (living_numbers w.parts)
  pub names : HaveOwnNames w.parts
