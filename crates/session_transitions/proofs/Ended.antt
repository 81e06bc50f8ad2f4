-- The end of a call that gave up.
use Rattle.std.specs.Prelude.{ℕ, Bool, true, false, List}
use Rattle.std.specs.List.{list_any}
use Rattle.std.proofs.Common.{◌≡◌, ◌∙◌, inl, inr}
use Rattle.nuc_base.specs.declared.status.Status.{Status}
use Rattle.nuc_base.specs.declared.status.Status.TheVariants as statuses
use Rattle.step_runner.specs.Entries.{Told}
use Rattle.components.specs.Components.{Components}
use Rattle.components.specs.Turns.{owes}
use Rattle.histories.specs.States.{SessionState}
use Rattle.histories.specs.Courses.{IsBare, IsEnd, gives_up, is_restart, leaves_open}
use Rattle.session_transitions.specs.Fails.{IsGivenUp}
use Rattle.session_transitions.specs.Kills.{KeepsRest}
use Rattle.session_transitions.proofs.Numbers.{clash}

no_restart : (s : Status) → gives_up s ≡ true → is_restart s ≡ true → ⊥
no_restart statuses.Disk g r = absurd cc
no_restart statuses.Edge g r = absurd cc
no_restart statuses.Memory g r = absurd cc
no_restart s g r = absurd cc

-- Where all were killed the call may end with a status of one that gives up. What is not recorded then is that of the state from which it was done.
pub killed_ends : (p q : SessionState) (world : Components) (told : Told) (living : List ℕ) (status : Status) (rose : Bool) → IsGivenUp p world told living →
    KeepsRest p q → IsBare q → gives_up status ≡ true
    → (leaves_open status ≡ false → list_any owes p.world.parts ≡ false) → IsEnd q status rose
killed_ends p q world told living status rose g k bare gives owed = record {
  bare = bare;
  stopped = λ stays. clash (gives_up status) gives stays;
  cut = λ cut. gives;
  owes_none = λ kept. k.owed ∙ owed kept;
  recorded = inl (k.boot_end ∙ g.boot_end);
  restarts = λ restart. absurd (no_restart status gives restart);
  over = λ over. inr gives;
}
