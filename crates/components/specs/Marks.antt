-- Who is stopped because of another: those that reach it by hard needs.
use Rattle.std.specs.Prelude.{◌≡◌, ℕ, suc, zero, Bool, true, false, not, ◌&&◌, ◌||◌, List, [], ◌∷◌, length, Some, if◌then◌else◌, ⊤}
use Rattle.std.specs.Str.{bytes_eq}
use Rattle.lifecycle.specs.declared.kinds.After.TheVariants as after
use Rattle.components.specs.Components.{ComponentState, component_name, is_to_stop, is_up, is_starting}

-- components with a flag
abbrev pub Flagged : Type 0
Flagged = List (ComponentState × Bool)

abbrev pub is_flagged : List ℕ → Flagged → Bool
is_flagged name [] = false
is_flagged name (f ∷ fs) = (f.1 && bytes_eq (component_name f.0) name) || is_flagged name fs

abbrev pub needs_flagged : List (List ℕ) → Flagged → Bool
needs_flagged [] fs = false
needs_flagged (n ∷ ns) fs = is_flagged n fs || needs_flagged ns fs

-- one step back along the hard needs
abbrev pub grown : Flagged → Flagged → Flagged
grown all [] = []
grown all (f ∷ fs) = (f.0, f.1 || needs_flagged f.0.fitted.hard all) ∷ grown all fs

-- all that reach a flagged one, in so many steps
abbrev pub reaching : ℕ → Flagged → Flagged
reaching zero fs = fs
reaching (suc n) fs = reaching n (grown fs fs)

abbrev pub flagged : (ComponentState → Bool) → List ComponentState → Flagged
flagged test [] = []
flagged test (p ∷ ps) = (p, test p) ∷ flagged test ps

abbrev pub flagged_at : ℕ → List ComponentState → Flagged
flagged_at k [] = []
flagged_at zero (p ∷ ps) = (p, true) ∷ flagged (λ q. false) ps
flagged_at (suc k) (p ∷ ps) = (p, false) ∷ flagged_at k ps

-- the flagged ones that may be are to be stopped with Restart
abbrev pub marked : (ComponentState → Bool) → Flagged → List ComponentState
marked may [] = []
marked may (f ∷ fs) = (if f.1 && may f.0 then record f.0 { stop = Some after.Restart } else f.0) ∷ marked may fs

-- all components that reach one of these by hard needs, themselves among them
abbrev pub restarted : (ComponentState → Bool) → Flagged → List ComponentState
restarted may fs = marked may (reaching (length fs) fs)

-- ---- laws: who is reached are the least that are closed and have the first ones

-- the same components, and each flag of the first ones
abbrev pub AreFlagsWithin : Flagged → Flagged → Type 0
AreFlagsWithin [] [] = ⊤
AreFlagsWithin [] (h ∷ hs) = ⊥
AreFlagsWithin (f ∷ fs) [] = ⊥
AreFlagsWithin (f ∷ fs) (h ∷ hs) = (f.0 ≡ h.0) × (f.1 ≡ true → h.1 ≡ true) × AreFlagsWithin fs hs

abbrev pub IsClosedBack : Flagged → Type 0
IsClosedBack fs = grown fs fs ≡ fs

abbrev pub HasFirst : Type 0
HasFirst = (fs : Flagged) → AreFlagsWithin fs (reaching (length fs) fs)

abbrev pub IsClosedWhole : Type 0
IsClosedWhole = (fs : Flagged) → IsClosedBack (reaching (length fs) fs)

abbrev pub IsLeast : Type 0
IsLeast = (fs hs : Flagged) → AreFlagsWithin fs hs → IsClosedBack hs → AreFlagsWithin (reaching (length fs) fs) hs

-- ---- who may be stopped so

-- it stands and is not to be stopped
abbrev pub may_replan : ComponentState → Bool
may_replan p = not (is_to_stop p || p.life.gone)

-- so, and starting, running or finished
abbrev pub may_restart : ComponentState → Bool
may_restart p = (is_starting p.life.state || is_up p.life.state) && may_replan p
