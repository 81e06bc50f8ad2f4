-- Where there are none it holds, and a change to items that may come keeps it.
use Rattle.std.proofs.Common.{◌≡◌, ◌<◌, ℕ, List, [], Bool, sym, subst}
use Rattle.std.specs.List.{AllByRecursion}
use Rattle.components.specs.Changes.{changed_to}
use Rattle.components.specs.Components.{ComponentState, Components}
use Rattle.components.specs.Fitted.{Fitted}
use Rattle.law_supervisor.specs.Keeps.{ItemsDiffer}
use Rattle.law_supervisor.specs.Sound.{HaveOwnNames}
use Rattle.law_supervisor.proofs.Placed.{changed_names}
use Rattle.law_termination.specs.Drives.{AreDriven, IsDriven, MayTakeOver}
use Rattle.law_termination.specs.Kept.{IsKeptPart, IsOrderedPart}
use Rattle.law_termination.proofs.ChangedNeeds.{change_drives}

pub none_drives : (w : Components) → w.parts ≡ [] → AreDriven w
none_drives w e = record {
  alone = subst (λ (ps : List ComponentState). AllByRecursion IsKeptPart ps) (sym e) tt;
  names = subst HaveOwnNames (sym e) (λ j k p q x y z. absurd (cc));
  r = λ n. 0;
  s = λ n. 0;
  ordered = subst (λ (ps : List ComponentState). AllByRecursion (IsOrderedPart (λ n. 0) (λ n. 0) ps) ps) (sym e) tt;
  each = subst (λ (ps : List ComponentState). AllByRecursion (IsDriven (λ n. 0) ps) ps) (sym e) tt;
}

pub begins : (items : List Fitted) (counts : List ℕ) (steady : Bool) (w : Components) → AreDriven w → MayTakeOver items w.parts →
    AllByRecursion (λ (n : ℕ). n < 3) counts → ItemsDiffer items → AreDriven (changed_to items counts steady w)
begins items counts steady w i m few d = change_drives items counts w i m steady few (changed_names items counts steady w d i.names)
