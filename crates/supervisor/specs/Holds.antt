-- Who is held back from a stop: whoever one that is to be stopped reaches by hard needs.
use Rattle.std.specs.Prelude.{◌≡◌, ◌≤◌, ◌+◌, ℕ, Bool, true, false, ◌&&◌, ◌||◌, List, length, Some, IfSome, get_or, slice_get, if◌then◌else◌}
use Rattle.std.specs.List.{AllByRecursion}
use Rattle.components.specs.Components.{ComponentState, component_name, is_again, is_gone, is_to_stop, place_of}
use Rattle.components.specs.Flags.{free}
use Rattle.components.specs.Rows.{is_stop_ready}
use Rattle.components.specs.Turns.{hard_needs, is_held_far}

-- its stop with Again or Gone may be given, but for those that reach it
abbrev pub asks_for_good : ComponentState → Bool
asks_for_good p = is_stop_ready p && (is_again p.stop || is_gone p.stop)

-- the flag of each says whether it is held
abbrev pub ShowHeld : List ComponentState → List Bool → Type 0
ShowHeld ps bs = (k : ℕ) (p : ComponentState) → slice_get ps k ≡ Some p → get_or bs k false ≡ is_held_far (component_name p) ps

-- so does the flag of each that asks
abbrev pub ShowAsked : List ComponentState → List Bool → Type 0
ShowAsked ps bs = (k : ℕ) (p : ComponentState) → slice_get ps k ≡ Some p → asks_for_good p ≡ true → get_or bs k false ≡ is_held_far (component_name p) ps

-- all that ask are held
abbrev pub AreAskedHeld : List ComponentState → Type 0
AreAskedHeld ps = (k : ℕ) (p : ComponentState) → slice_get ps k ≡ Some p → asks_for_good p ≡ true → is_held_far (component_name p) ps ≡ true

-- all that have a flag are held
abbrev pub AreHeld : List ComponentState → List Bool → Type 0
AreHeld ps bs = (k : ℕ) (p : ComponentState) → slice_get ps k ≡ Some p → get_or bs k false ≡ true → is_held_far (component_name p) ps ≡ true

-- whoever has one of these names is held
abbrev pub AreNamesHeld : List ComponentState → List (List ℕ) → Type 0
AreNamesHeld ps ns = AllByRecursion (λ n. is_held_far n ps ≡ true) ns

-- who has this name has a flag
abbrev pub IsFlagged : List ComponentState → List Bool → List ℕ → Type 0
IsFlagged ps bs n = IfSome (place_of n ps) (λ k. get_or bs k false ≡ true)

abbrev pub HaveFlags : List ComponentState → List Bool → List (List ℕ) → Type 0
HaveFlags ps bs ns = AllByRecursion (IsFlagged ps bs) ns

-- it is held, or is to be stopped itself
abbrev pub holds_others : List Bool → ℕ → ComponentState → Bool
holds_others bs k p = get_or bs k false || is_to_stop p

-- whoever is held by those that have a flag, or are to be stopped, has a flag
abbrev pub IsClosedAhead : List ComponentState → List Bool → Type 0
IsClosedAhead ps bs = (k : ℕ) (p : ComponentState) → slice_get ps k ≡ Some p → holds_others bs k p ≡ true → HaveFlags ps bs (hard_needs p)

-- some more may have a flag
pub record AreFlagsAdded (old new : List Bool) : Type 0 where
  pub many : length new ≡ length old
  pub more : (k : ℕ) → get_or old k false ≡ true → get_or new k false ≡ true
  pub fewer : free new ≤ free old

-- So; where none is still to be gone on from, nobody holds others that did not before.
pub record HasHeld (ps : List ComponentState) (old new : List Bool) (had has : Bool) : Type 0 where
  pub adds : AreFlagsAdded old new
  pub kept : had ≡ true → has ≡ true
  pub same : has ≡ false → (k : ℕ) (p : ComponentState) → slice_get ps k ≡ Some p → holds_others new k p ≡ holds_others old k p
  pub less : free new + (if has then 1 else 0) ≤ free old + (if had then 1 else 0)
