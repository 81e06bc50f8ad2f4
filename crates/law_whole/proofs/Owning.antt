-- Of a whole device, over its own candidates.
use Rattle.std.proofs.Common.{◌≡◌, List, map, sym, subst}
use Rattle.std.specs.Prelude.{Option, Some, None}
use Rattle.std.specs.List.{Contains}
use Rattle.recipe_reader.specs.Members.{Need, members}
use Rattle.recipe_reader.specs.OneRecipe.{IsOneRecipe}
use Rattle.recipe_reader.specs.SetLaws.{DependsOnElements}
use Rattle.recipe_reader.specs.declared.candidate.Candidate.{Candidate}
use Rattle.records.specs.Stored.{Item}
use Rattle.records.specs.declared.record.Origin.{Origin}
use Rattle.device.specs.Devices.{Device}
use Rattle.device.specs.Plans.{AreItems, AreRising, item_name}
use Rattle.device.specs.Sound.{AreItemsFor, IsSound}
use Rattle.plan_core.specs.Looks.{AreOf}
use Rattle.plan_core.specs.Requests.{wanted_of}
use Rattle.plan_core.specs.Set.{chosen}
use Rattle.plan_core.proofs.Supplying.{chosen_rise}
use Rattle.law_whole.specs.Taking.{OwnSetIsChosen, OwnSetIsThere}
use Rattle.law_whole.specs.Whole.{asked_of}
use Rattle.law_whole.proofs.Bringing.{whole_set}
use Rattle.law_whole.proofs.Own.{are_of}
use Rattle.law_whole.proofs.Rising.{one_named}
use Rattle.law_whole.proofs.There.{own_valid}

pub names_of : (d : Device) (o : Origin) → IsSound d → d.origin ≡ Some o → AreRising (map item_name d.set)
names_of d o sound is = (subst (λ (x : Option Origin). AreItemsFor x d.set) is sound.set).rise

pub own_set_is_chosen : IsOneRecipe → DependsOnElements → OwnSetIsChosen
own_set_is_chosen one elements o d cs choice document sound whole is gathered same chooses =
    let on = whole_set d o whole is in
    let names = names_of d o sound is in
    let wanted = wanted_of d.groups document in
    let set = chooses.0 in
    subst (λ (l : List Candidate). AreOf l d.set) (sym chooses.2)
    (are_of one o d.groups d.set cs on (one_named d.set names) gathered wanted set chooses.1.valid
    ((elements (members on.candidates) (asked_of d.groups) wanted on.valid.set same.1 same.0).0 on.valid.valid)
    (chosen_rise cs gathered.rising wanted set chooses.1.valid) names)

pub own_set_is_there : IsOneRecipe → DependsOnElements → OwnSetIsThere
own_set_is_there one elements o d cs document sound whole is gathered same none =
    let on = whole_set d o whole is in
    let wanted = wanted_of d.groups document in
    let v = own_valid one o d.groups d.set cs on (one_named d.set (names_of d o sound is)) gathered wanted
    ((elements (members on.candidates) (asked_of d.groups) wanted on.valid.set same.1 same.0).0 on.valid.valid) in
    none v.0 v.1
