-- That the runner is shown a view before it waits changes nothing of what the wait does.
use Rattle.std.specs.Prelude.{ℕ, List, Option, Some, None, IfSome}
use Rattle.std.proofs.Common.{◌≡◌, ◌∙◌, sym, subst}
use Rattle.step_runner.specs.Entries.{HasNoted, Told}
use Rattle.step_runner.specs.Views.{WasShown, those_shown}
use Rattle.step_runner.specs.Waits.{WaitLives, WaitTime}
use Rattle.step_runner.specs.declared.entries.Seen.{Seen}
use Rattle.step_runner.specs.declared.runner.Waited.{Waited}
use Rattle.step_runner.specs.declared.shown.ShownComponent.{ShownComponent}
use Rattle.components.specs.Components.{Components}
use Rattle.components.specs.Views.{view_of}

pub noted_after : (old shown new : Told) (seen : Seen) → shown ≡ old → HasNoted shown new seen → HasNoted old new seen
noted_after old shown new seen same noted = subst (λ (t : Told). HasNoted t new seen) same noted

pub lives_after : (old shown new : List ℕ) (came : Waited) → shown ≡ old → WaitLives shown new came → WaitLives old new came
lives_after old shown new came same lives = subst (λ (l : List ℕ). WaitLives l new came) same lives

pub time_after : (old shown new limit : ℕ) (came : Waited) → shown ≡ old → WaitTime shown new limit came → WaitTime old new limit came
time_after old shown new limit came same time = subst (λ (n : ℕ). WaitTime n new limit came) same time

pub shown_after : (shown new : Option (List ShownComponent)) (places : List (Option ShownComponent)) → new ≡ shown → WasShown shown places →
    WasShown new places
shown_after shown new places same was = subst (λ (o : Option (List ShownComponent)). WasShown o places) (sym same) was

-- what was shown are the components that stand
pub are_shown : (o : Option (List ShownComponent)) (places : List (Option ShownComponent)) (w : Components) → those_shown places ≡ view_of w →
    WasShown o places → IfSome o (λ view. view ≡ view_of w)
are_shown None places w shows shown = tt
are_shown (Some view) places w shows shown = shown ∙ shows
