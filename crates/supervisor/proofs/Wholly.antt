-- A change leaves each component whole.
use Rattle.std.proofs.Common.{List, [], ◌∷◌, Bool, true, false, Option, Some, None, refl, map, filter}
use Rattle.std.specs.Prelude.{not, if◌then◌else◌}
use Rattle.lifecycle.specs.declared.kinds.After.TheVariants as after
use Rattle.components.specs.Changes.{Coming, coming_again, coming_for, fate, fresh_part, is_replaced, is_replacing, leaving, meeting, replacing, replanned}
use Rattle.components.specs.Changes.{standing, staying, with_items, with_newcomers, with_texts}
use Rattle.components.specs.Fitted.{Fitted, is_same_item}
use Rattle.components.specs.Marks.{may_replan}
use Rattle.components.specs.Whole.{AreWhole, IsWhole}
use Rattle.components.specs.Components.{ComponentState, component_name, stops_for_good}
use Rattle.components.proofs.Changed.{all_placed, all_standing, is_held_by}
use Rattle.supervisor.proofs.Goings.{leaving_whole}
use Rattle.components.proofs.Whole.{flagged_whole, mapped_whole}

whole_two : (b : Bool) (p q : ComponentState) → IsWhole p → IsWhole q → IsWhole (if b then p else q)
whole_two true p q h i = h
whole_two false p q h i = i

whole_texts : (b : Bool) (f : Fitted) (p : ComponentState) → IsWhole p → IsWhole (if b then record p { fitted = f } else p)
whole_texts true f p h = record { may = h.may; run = h.run }
whole_texts false f p h = h

whole_replacing : (b : Bool) (n : Coming) (p : ComponentState) → IsWhole p
    → IsWhole (if b then record p { life = record p.life { stop = Some after.Restart }; stop = Some after.Again; next = Some n } else record p
    { stop = Some after.Again; next = Some n })
whole_replacing true n p h = record { may = h.may; run = h.run }
whole_replacing false n p h = record { may = h.may; run = h.run }

whole_staying : (n : Coming) (p : ComponentState) → IsWhole p → IsWhole (staying n p)
whole_staying n p h = record { may = h.may; run = h.run }

whole_meeting : (n : Coming) (p : ComponentState) → IsWhole p → IsWhole (meeting n p)
whole_meeting n p h =
    let q : ComponentState = with_texts n.0 p in
    let t : IsWhole q = whole_texts (is_same_item n.0.item p.fitted.item) n.0 p h in
    whole_two p.life.gone (coming_again n p) (if is_replaced n.0 p then replacing n q else staying n q) (record { may = refl; run = refl })
    (whole_two (is_replaced n.0 p) (replacing n q) (staying n q) (whole_replacing (stops_for_good q.life) n q t) (whole_staying n q t))

whole_by : (p : ComponentState) (o : Option Coming) → IsWhole p → IsWhole (elim o [ None ↦ leaving p | Some n ↦ meeting n p ])
whole_by p None h = leaving_whole p h
whole_by p (Some n) h = whole_meeting n p h

whole_newcomers : (ns : List Coming) (ps : List ComponentState) → AreWhole ps → AreWhole (with_newcomers (map fresh_part ns) ps)
whole_newcomers [] ps a = a
whole_newcomers (n ∷ ns) ps a = all_placed IsWhole (fresh_part n) (with_newcomers (map fresh_part ns) ps) (record { may = refl; run = refl })
    (whole_newcomers ns ps a)

pub items_whole : (ns : List Coming) (ps : List ComponentState) → AreWhole ps → AreWhole (with_items ns (standing ps))
items_whole ns ps a =
    let qs : List ComponentState = standing ps in
    let met : AreWhole (map (fate ns) qs) = mapped_whole (fate ns) (λ p h. whole_by p (coming_for (component_name p) ns) h) qs (all_standing IsWhole ps a) in
    whole_newcomers (filter (λ (n : Coming). not (is_held_by qs n)) ns) (replanned (map (fate ns) qs))
    (flagged_whole may_replan is_replacing (map (fate ns) qs) met)
