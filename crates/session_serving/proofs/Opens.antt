-- What a set that is brought up needs.
use Rattle.std.specs.Prelude.{ℕ, true, zero, suc, ◌<◌, List, Option, Some, replicate}
use Rattle.std.specs.List.{All, AllByRecursion}
use Rattle.std.proofs.Common.{◌≡◌, ◌∙◌, sym, ap, subst, arith}
use Rattle.std.proofs.lemmas.List.Elements.{All-from_recursion}
use Rattle.records.specs.declared.record.Origin.{Origin}
use Rattle.device.specs.Devices.{Device}
use Rattle.device.specs.Lawful.{no_failures}
use Rattle.device.specs.Plans.{AreItems}
use Rattle.device.specs.Sound.{AreItemsFor, IsSound}
use Rattle.components.specs.Changes.{changed_to}
use Rattle.components.specs.Components.{Components}
use Rattle.components.specs.Fitted.{Fitted}
use Rattle.components.specs.Made.{AreFitted}

pub set_items : (d : Device) (o : Origin) → d.origin ≡ Some o → IsSound d → AreItems o.platform d.set
set_items d o is sound = subst (λ (x : Option Origin). AreItemsFor x d.set) is sound.set

-- of the device that stands for it
pub given_items : (e d : Device) (o : Origin) → e ≡ d → e.origin ≡ Some o → IsSound d → AreItems o.platform e.set
given_items e d o same is sound = set_items e o is (subst IsSound (sym same) sound)

pub given_fitted : (e d : Device) (o : Origin) (fitted : List Fitted) → e ≡ d → AreFitted o e.set fitted → AreFitted o d.set fitted
given_fitted e d o fitted same made = subst (λ (x : Device). AreFitted o x.set fitted) same made

pub given_origin : (e d : Device) (o : Origin) → e ≡ d → e.origin ≡ Some o → d.origin ≡ Some o
given_origin e d o same is = sym (ap (λ (x : Device). x.origin) same) ∙ is

zeros_few : (n : ℕ) → AllByRecursion (λ (k : ℕ). k < 3) (replicate n 0)
zeros_few zero = tt
zeros_few (suc n) = (omega arith, zeros_few n)

pub none_few : AllByRecursion (λ (k : ℕ). k < 3) no_failures
none_few = zeros_few 128

pub all_few : All (λ (k : ℕ). k < 3) no_failures
all_few = All-from_recursion (λ (k : ℕ). k < 3) no_failures none_few

-- the change to them counts no failure
pub changed_uncounted : (fitted : List Fitted) (counts : List ℕ) (old new : Components) → new ≡ changed_to fitted counts true old → counts ≡ no_failures →
    new ≡ changed_to fitted no_failures true old
changed_uncounted fitted counts old new is none = is ∙ ap (λ (l : List ℕ). changed_to fitted l true old) none
