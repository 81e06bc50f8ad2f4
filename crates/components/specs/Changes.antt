-- What a change to other items, a stop of all and the end of a deployment make of the components.
use Rattle.std.specs.Prelude.{ℕ, suc, Bool, true, false, not, ◌||◌, List, [], ◌∷◌, map, filter, Option, Some, None, is_some, option_map, get_or, if◌then◌else◌}
use Rattle.std.specs.List.{list_any, find}
use Rattle.std.specs.Str.{bytes_eq}
use Rattle.lifecycle.specs.Life.{begun}
use Rattle.lifecycle.specs.declared.kinds.After.TheVariants as after
use Rattle.components.specs.Fitted.{Fitted, name_of, steps_of, is_before, is_same_item}
use Rattle.components.specs.Components.{Components, ComponentState, component_name, is_gone, under_way, stops_for_good, is_spared, is_broken, is_over}
use Rattle.components.specs.Marks.{flagged, restarted, may_replan}

-- an item and the failures that it begins with
abbrev pub Coming : Type 0
Coming = Fitted × ℕ

abbrev pub counted : ℕ → List ℕ → List Fitted → List Coming
counted k counts [] = []
counted k counts (f ∷ fs) = (f, get_or counts k 0) ∷ counted (suc k) counts fs

-- what comes for a component of this name
abbrev pub coming_for : List ℕ → List Coming → Option Coming
coming_for name ns = find (λ (n : Coming). bytes_eq name (name_of n.0)) ns

-- one that did not stand before
abbrev pub fresh_part : Coming → ComponentState
fresh_part n = record { fitted = n.0; life = begun (steps_of n.0) n.1; children = []; handed = false; owed = None; stop = None; next = None }

-- ---- what becomes of one that stands

-- It goes away: it is to be stopped for good.
abbrev pub leaving : ComponentState → ComponentState
leaving p =
    if p.life.gone then p
    else (if is_gone (under_way p.life) then record p { stop = None; next = None } else record p { stop = Some after.Gone; next = None })

-- Another version or configuration comes for it, it was to be stopped for good, or it is broken.
abbrev pub is_replaced : Fitted → ComponentState → Bool
is_replaced f p = not (is_same_item f.item p.fitted.item) || (is_spared p || is_broken p.life.state)

-- It takes its item as it is expanded now: what its steps name of others may have changed.
abbrev pub with_texts : Fitted → ComponentState → ComponentState
with_texts f p = if is_same_item f.item p.fitted.item then record p { fitted = f } else p

-- It is to be stopped with Again, and then takes the new item. One that is being stopped for good ends that stop as one with Restart first.
abbrev pub replacing : Coming → ComponentState → ComponentState
replacing n p =
    if stops_for_good p.life then record p { life = record p.life { stop = Some after.Restart }; stop = Some after.Again; next = Some n }
    else record p { stop = Some after.Again; next = Some n }

-- It stays as it is, with the failures that are recorded.
abbrev pub staying : Coming → ComponentState → ComponentState
staying n p = record p { life = record p.life { failures = n.1 } }

-- One that is gone, and whose child is still to be killed, is a new component that still has that child.
abbrev pub coming_again : Coming → ComponentState → ComponentState
coming_again n p = record (fresh_part n) { children = p.children }

abbrev pub meeting : Coming → ComponentState → ComponentState
meeting n p =
    if p.life.gone then coming_again n p
    else (if is_replaced n.0 p then replacing n (with_texts n.0 p) else staying n (with_texts n.0 p))

-- each one's fate, by what comes for its name
abbrev pub fate : List Coming → ComponentState → ComponentState
fate ns p = elim (coming_for (component_name p) ns) [ None ↦ leaving p | Some n ↦ meeting n p ]

-- ---- all of them

abbrev pub standing : List ComponentState → List ComponentState
standing parts = filter (λ p. not (is_over p)) parts

abbrev pub is_replacing : ComponentState → Bool
is_replacing p = is_some p.next

-- of those that stand, who reaches a replaced one by hard needs is restarted, in whatever state
abbrev pub replanned : List ComponentState → List ComponentState
replanned parts = restarted may_replan (flagged is_replacing parts)

-- those that did not stand before
abbrev pub newcomers : List Coming → List ComponentState → List ComponentState
newcomers ns parts = map fresh_part (filter (λ (n : Coming). not (list_any (λ p. bytes_eq (component_name p) (name_of n.0)) parts)) ns)

-- in the order of the names
abbrev pub placed : ComponentState → List ComponentState → List ComponentState
placed p [] = p ∷ []
placed p (q ∷ qs) = if is_before (component_name p) (component_name q) then p ∷ q ∷ qs else q ∷ placed p qs

abbrev pub with_newcomers : List ComponentState → List ComponentState → List ComponentState
with_newcomers [] parts = parts
with_newcomers (n ∷ ns) parts = placed n (with_newcomers ns parts)

abbrev pub with_items : List Coming → List ComponentState → List ComponentState
with_items ns parts = with_newcomers (newcomers ns parts) (replanned (map (fate ns) parts))

abbrev pub changed_to : List Fitted → List ℕ → Bool → Components → Components
changed_to items counts steady w = record w { parts = with_items (counted 0 counts items) (standing w.parts); steady = steady }

-- all are to be stopped for good
abbrev pub all_stopped : Components → Components
all_stopped w = record w { parts = map leaving w.parts }

-- the failures so far are forgotten, and those with which a replacing item was to begin
abbrev pub forgetting : ComponentState → ComponentState
forgetting p = record p { life = record p.life { failures = 0 }; next = option_map (λ (n : Coming). (n.0, 0)) p.next }

-- no deployment is driven from now on; a failure that is owed is still handed out
abbrev pub steadied : Components → Components
steadied w = record w { steady = true; parts = map forgetting w.parts }
