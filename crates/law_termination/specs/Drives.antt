-- What is kept of components of which some come up, some leave, and some are replaced while others stand.
use Rattle.std.specs.Prelude.{◌≡◌, ◌<◌, ◌^◌, ◌≤◌, ◌&&◌, ◌||◌, ℕ, Bool, true, false, not, List, IfSome, is_some}
use Rattle.std.specs.List.{AllByRecursion, list_any}
use Rattle.std.specs.Str.{bytes_eq}
use Rattle.components.specs.Components.{Child, ComponentState, Components, component_name, is_broken, is_gone, is_leaving, is_spared, under_way}
use Rattle.components.specs.Fitted.{Fitted, name_of}
use Rattle.components.specs.Readied.{KeepNeeds, KeepSteps}
use Rattle.components.specs.Turns.{hard_needs, is_met}
use Rattle.law_supervisor.specs.Sound.{HaveOwnNames, is_to_begin_again, is_waiting}
use Rattle.law_termination.specs.Kept.{AllBelow, AreKept, IsOrderedPart, IsRunnable}
use Rattle.law_termination.specs.Rank.{rank}

-- its deadline, where it has one, is a moment
abbrev pub IsInTime : Child → Type 0
IsInTime c = IfSome c.deadline (λ d. d < 2 ^ 62)

-- it is gone, or a stop after which it is gone is under way
abbrev pub is_ending : ComponentState → Bool
is_ending p = p.life.gone || is_gone (under_way p.life)

-- in the order r the name is below this one, and a component of it is not ending
abbrev pub IsBelow : (List ℕ → ℕ) → List ComponentState → List ℕ → List ℕ → Type 0
IsBelow r all own n = (r n < r own) × (is_met (λ q. not (is_ending q)) all n ≡ true)

-- one that is to begin again has an item to take, but where it is to go since
abbrev pub HasItemToTake : ComponentState → Type 0
HasItemToTake p = (not (is_to_begin_again p) || (is_waiting p || is_gone p.stop)) ≡ true

pub record IsDriven (r : List ℕ → ℕ) (all : List ComponentState) (p : ComponentState) : Type 0 where
  -- what it needs hard, and what it is about to need, is below it and stands
  pub needs : p.life.gone ≡ false → AllByRecursion (IsBelow r all (component_name p)) (hard_needs p)
  pub takes : HasItemToTake p
  -- one that leaves takes no item
  pub apart : (is_some p.next && is_leaving p) ≡ false
  pub in_time : AllByRecursion IsInTime p.children

pub record AreDriven (w : Components) : Type 0 where
  pub alone : AreKept w
  pub names : HaveOwnNames w.parts
  pub r : List ℕ → ℕ
  pub s : List ℕ → ℕ
  -- the orders of the items that they have, and of the newest ones
  pub ordered : AllByRecursion (IsOrderedPart r s w.parts) w.parts
  pub each : AllByRecursion (IsDriven r w.parts) w.parts

-- what is kept goes on, and none is to leave that was not before
pub record GoesOn (w v : Components) : Type 0 where
  pub drives : AreDriven v
  pub stays : list_any is_leaving v.parts ≡ list_any is_leaving w.parts

-- and the number of the loops is less
pub record HasFewerLoops (w v : Components) : Type 0 where
  pub on : GoesOn w v
  pub less : rank v < rank w

-- and that number is not above
pub record NotAbove (w v : Components) : Type 0 where
  pub on : GoesOn w v
  pub least : rank v ≤ rank w

-- one is BROKEN that is neither to be replaced nor to go
abbrev pub has_failed : Components → Bool
has_failed w = list_any (λ p. is_broken p.life.state && not (is_spared p || is_leaving p)) w.parts

-- ---- items that may come

-- one of the items has the name
abbrev pub IsAmong : List Fitted → List ℕ → Type 0
IsAmong items name = list_any (λ (g : Fitted). bytes_eq (name_of g) name) items ≡ true

-- in the order s the item stands above all that it needs, and that is among the items
pub record IsPlaced (s : List ℕ → ℕ) (items : List Fitted) (f : Fitted) : Type 0 where
  pub hard : AllBelow s (s (name_of f)) f.hard
  pub soft : AllBelow s (s (name_of f)) f.soft
  pub hard_there : AllByRecursion (IsAmong items) f.hard
  pub soft_there : AllByRecursion (IsAmong items) f.soft

-- items whose steps end, and whose needs are met among them without a cycle
pub record MayCome (items : List Fitted) : Type 0 where
  pub runnable : AllByRecursion IsRunnable items
  pub s : List ℕ → ℕ
  pub placed : AllByRecursion (IsPlaced s items) items

-- so they may while these stand: an item that stands already has the same steps and needs
pub record MayTakeOver (items : List Fitted) (parts : List ComponentState) : Type 0 where
  pub come : MayCome items
  pub steps : KeepSteps items parts
  pub needs : KeepNeeds items parts
