-- What is kept of the components while all are stopped, and the number of the loops.
use Rattle.std.specs.Prelude.{ℕ, Bool, true, false, List, [], ◌∷◌}
use Rattle.std.specs.List.{AllByRecursion, list_all}
use Rattle.std.proofs.Common.{◌≡◌, ◌⊎◌, ◌<◌, ◌+◌, ◌^◌, inl, inr, refl, sym, subst}
use Rattle.step_runner.specs.Entries.{Told}
use Rattle.components.specs.Components.{ComponentState, Components, is_leaving, is_stopped}
use Rattle.histories.specs.States.{SessionState}
use Rattle.law_termination.specs.Kept.{IsFalling}
use Rattle.law_termination.specs.Time.{HasTime}
use Rattle.law_termination.specs.Drives.{AreDriven}
use Rattle.law_termination.proofs.Stands.{leaves}
use Rattle.session_shutdown.specs.Leaves.{AreLeaving, IsLeavingPart}
use Rattle.session_shutdown.specs.Runs.{IsReadyToWait, IsInTurn}

all_leave : (ps : List ComponentState) → AllByRecursion IsLeavingPart ps → list_all is_leaving ps ≡ true
all_leave [] a = refl
all_leave (p ∷ ps) a = rw a.0.0 (all_leave ps a.1)

pub leaving_in : (w : Components) → AreLeaving w → list_all is_leaving w.parts ≡ true
leaving_in w l = all_leave w.parts l.each

-- whoever leaves fails no more, so nothing is forgotten
pub falling_at : (p : SessionState) (world : Components) (told : Told) (living : List ℕ) → IsInTurn p world told living → IsFalling world
falling_at p world told living r = inr (subst (λ (w : Components). list_all is_leaving w.parts ≡ true) (sym r.world_is) (leaving_in p.world r.within.keeps))

clash : {A : Type 0} (b : Bool) → b ≡ true → b ≡ false → A
clash true x y = absurd (cc)
clash false x y = absurd (cc)

abbrev Goes : Components → Type 0
Goes w = HasTime w × (w.moment + 1 < 2 ^ 62)

-- no act is left, and one still stands
pub sits_time : (p : SessionState) (world : Components) (told : Told) (living : List ℕ) → IsReadyToWait p world told living → AreDriven world → Goes world
sits_time p world told living s d = subst (λ (w : Components). Goes w) (sym s.runs.world_is)
    (by (leaves p.world (subst (λ (w : Components). AreDriven w) s.runs.world_is d) (leaving_in p.world s.runs.within.keeps) s.runs.within.answered s.quiet))
  where
    by : (is_stopped p.world ≡ true) ⊎ Goes p.world → Goes p.world
    by (inl e) = clash (is_stopped p.world) e s.stands
    by (inr t) = t
