-- Components beside their flags.
use Rattle.std.specs.Prelude.{◌≡◌, ◌<◌, ℕ, ◌+◌, Bool, true, false, not, ◌&&◌, List, [], ◌∷◌, length, get_or, if◌then◌else◌}
use Rattle.components.specs.Components.{ComponentState, Components}
use Rattle.components.specs.Marks.{Flagged, needs_flagged, AreFlagsWithin, IsClosedBack, may_restart, may_replan}

abbrev pub with_flags : List ComponentState → List Bool → Flagged
with_flags [] bs = []
with_flags (p ∷ ps) [] = []
with_flags (p ∷ ps) (b ∷ bs) = (p, b) ∷ with_flags ps bs

-- how many have no flag
abbrev pub free : List Bool → ℕ
free [] = 0
free (b ∷ bs) = (if b then 0 else 1) + free bs

-- whether in any state, or only in those that a failure of another stops
abbrev pub may_by : Bool → ComponentState → Bool
may_by anyway p = if anyway then may_replan p else may_restart p

abbrev pub at_moment : List ComponentState → ℕ → Bool → Components
at_moment parts moment steady = record { parts = parts; moment = moment; steady = steady }

-- the component has no flag yet and needs one that has
abbrev pub joins : List ComponentState → List Bool → ℕ → ComponentState → Bool
joins ps bs at p = not (get_or bs at false) && needs_flagged p.fitted.hard (with_flags ps bs)

-- whatever is closed and has the first flags has the later ones
abbrev pub IsInClosure : List ComponentState → List Bool → List Bool → Type 0
IsInClosure ps old new = (hs : Flagged) → AreFlagsWithin (with_flags ps old) hs → IsClosedBack hs → AreFlagsWithin (with_flags ps new) hs

-- some more have a flag, all of which reach one that had one
pub record HasSpread (ps : List ComponentState) (old new : List Bool) : Type 0 where
  pub many : length new ≡ length old
  pub more : AreFlagsWithin (with_flags ps old) (with_flags ps new)
  pub under : IsInClosure ps old new

-- one pass: none joins any more, or fewer have no flag
pub record SpreadOutcome (ps : List ComponentState) (old new : List Bool) (grew : Bool) : Type 0 where
  pub many : length new ≡ length old
  pub more : AreFlagsWithin (with_flags ps old) (with_flags ps new)
  pub under : IsInClosure ps old new
  pub closed : grew ≡ false → IsClosedBack (with_flags ps new)
  pub fewer : grew ≡ true → free new < free old
