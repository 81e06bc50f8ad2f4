-- After a change to other items no start is open that was not before.
use Rattle.std.proofs.Common.{◌≡◌, ℕ, List, [], ◌∷◌, map, Option, Some, None, Bool, true, false, refl, sym, ap, ◌∙◌}
use Rattle.std.specs.Prelude.{not, ◌||◌, ◌&&◌, filter, length, if◌then◌else◌}
use Rattle.std.specs.List.{AllByRecursion, list_any}
use Rattle.std.specs.Str.{bytes_eq}
use Rattle.std.proofs.lemmas.Bool.{false≢true}
use Rattle.lifecycle.specs.declared.kinds.After.TheVariants as after
use Rattle.components.specs.Fitted.{Fitted, is_before, is_same_item, name_of}
use Rattle.components.specs.Components.{Components, ComponentState, is_gone, is_over, component_name, stops_for_good, under_way}
use Rattle.components.specs.Marks.{Flagged, HasFirst, AreFlagsWithin, flagged, marked, may_replan, reaching}
use Rattle.components.specs.Answers.{has_answered}
use Rattle.components.specs.Changes.{Coming, changed_to, coming_again, coming_for, counted, fate, fresh_part, is_replaced, is_replacing, leaving, meeting}
use Rattle.components.specs.Changes.{newcomers, placed, replacing, replanned, standing, staying, with_newcomers, with_texts}

abbrev IsShut : ComponentState → Type 0
IsShut p = p.handed ≡ false

abbrev AreShut : List ComponentState → Type 0
AreShut ps = AllByRecursion IsShut ps

-- ---- as a test

shut_step : (p : ComponentState) (b : Bool) → p.handed ≡ b → (rest : Bool) → not (b || rest) ≡ true → (b ≡ false) × (not rest ≡ true)
shut_step p true e rest h = absurd (false≢true h)
shut_step p false e rest h = (refl, h)

shut_of : (ps : List ComponentState) → not (list_any (λ p. p.handed) ps) ≡ true → AreShut ps
shut_of [] h = tt
shut_of (p ∷ ps) h = let s = shut_step p p.handed refl (list_any (λ (q : ComponentState). q.handed) ps) h in (s.0, shut_of ps s.1)

of_shut : (ps : List ComponentState) → AreShut ps → not (list_any (λ p. p.handed) ps) ≡ true
of_shut [] a = refl
of_shut (p ∷ ps) a = rw a.0 (of_shut ps a.1)

-- ---- what becomes of one

shut_leaving : (p : ComponentState) → IsShut p → IsShut (leaving p)
shut_leaving p s = go p.life.gone (is_gone (under_way p.life))
  where
    go : (g u : Bool) → IsShut (if g then p else (if u then record p { stop = None; next = None } else record p { stop = Some after.Gone; next = None }))
    go true u = s
    go false true = s
    go false false = s

shut_texts : (f : Fitted) (p : ComponentState) → IsShut p → IsShut (with_texts f p)
shut_texts f p s = go (is_same_item f.item p.fitted.item)
  where
    go : (y : Bool) → IsShut (if y then record p { fitted = f } else p)
    go false = s
    go true = s

shut_replacing : (n : Coming) (q : ComponentState) → IsShut q → IsShut (replacing n q)
shut_replacing n q s = go (stops_for_good q.life)
  where
    go : (z : Bool) → IsShut (if z then record q { life = record q.life { stop = Some after.Restart }; stop = Some after.Again; next = Some n }
        else record q { stop = Some after.Again; next = Some n })
    go true = s
    go false = s

shut_meeting : (n : Coming) (p : ComponentState) → IsShut p → IsShut (meeting n p)
shut_meeting n p s = go p.life.gone (is_replaced n.0 p)
  where
    t : IsShut (with_texts n.0 p)
    t = shut_texts n.0 p s

    go : (g y : Bool) → IsShut (if g then coming_again n p else (if y then replacing n (with_texts n.0 p) else staying n (with_texts n.0 p)))
    go true y = refl
    go false true = shut_replacing n (with_texts n.0 p) t
    go false false = t

shut_fate : (ns : List Coming) (p : ComponentState) → IsShut p → IsShut (fate ns p)
shut_fate ns p s = go (coming_for (component_name p) ns)
  where
    go : (o : Option Coming) → IsShut (elim o [ None ↦ leaving p | Some n ↦ meeting n p ])
    go None = shut_leaving p s
    go (Some n) = shut_meeting n p s

shut_fates : (ns : List Coming) (ps : List ComponentState) → AreShut ps → AreShut (map (fate ns) ps)
shut_fates ns [] a = tt
shut_fates ns (p ∷ ps) a = (shut_fate ns p a.0, shut_fates ns ps a.1)

shut_standing : (ps : List ComponentState) → AreShut ps → AreShut (standing ps)
shut_standing [] a = tt
shut_standing (p ∷ ps) a = go (not (is_over p)) (shut_standing ps a.1)
  where
    go : (y : Bool) → AreShut (standing ps) → AreShut (if y then p ∷ standing ps else standing ps)
    go true rest = (a.0, rest)
    go false rest = rest

-- ---- who is restarted

abbrev FlagsShut : Flagged → Type 0
FlagsShut fs = AllByRecursion (λ (f : ComponentState × Bool). IsShut f.0) fs

shut_flagged : (test : ComponentState → Bool) (ps : List ComponentState) → AreShut ps → FlagsShut (flagged test ps)
shut_flagged test [] a = tt
shut_flagged test (p ∷ ps) a = (a.0, shut_flagged test ps a.1)

shut_within : (fs hs : Flagged) → AreFlagsWithin fs hs → FlagsShut fs → FlagsShut hs
shut_within [] [] w a = tt
shut_within [] (h ∷ hs) w a = absurd w
shut_within (f ∷ fs) [] w a = absurd w
shut_within (f ∷ fs) (h ∷ hs) w a = (ap (λ (p : ComponentState). p.handed) (sym w.0) ∙ a.0, shut_within fs hs w.2 a.1)

shut_marked : (may : ComponentState → Bool) (fs : Flagged) → FlagsShut fs → AreShut (marked may fs)
shut_marked may [] a = tt
shut_marked may (f ∷ fs) a = (go (f.1 && may f.0), shut_marked may fs a.1)
  where
    go : (y : Bool) → IsShut (if y then record f.0 { stop = Some after.Restart } else f.0)
    go true = a.0
    go false = a.0

shut_replanned : HasFirst → (ps : List ComponentState) → AreShut ps → AreShut (replanned ps)
shut_replanned first ps a =
    let fs = flagged is_replacing ps in
    shut_marked may_replan (reaching (length fs) fs) (shut_within fs (reaching (length fs) fs) (first fs) (shut_flagged is_replacing ps a))

-- ---- who is new

shut_placed : (p : ComponentState) (qs : List ComponentState) → IsShut p → AreShut qs → AreShut (placed p qs)
shut_placed p [] s a = (s, tt)
shut_placed p (q ∷ qs) s a = go (is_before (component_name p) (component_name q)) (shut_placed p qs s a.1)
  where
    go : (y : Bool) → AreShut (placed p qs) → AreShut (if y then p ∷ q ∷ qs else q ∷ placed p qs)
    go true rest = (s, a)
    go false rest = (a.0, rest)

shut_fresh : (ns : List Coming) → AreShut (map fresh_part ns)
shut_fresh [] = tt
shut_fresh (n ∷ ns) = (refl, shut_fresh ns)

shut_newcomers : (ns ps : List ComponentState) → AreShut ns → AreShut ps → AreShut (with_newcomers ns ps)
shut_newcomers [] ps n a = a
shut_newcomers (x ∷ ns) ps n a = shut_placed x (with_newcomers ns ps) n.0 (shut_newcomers ns ps n.1 a)

pub changed_answered : HasFirst → (items : List Fitted) (counts : List ℕ) (steady : Bool) (w : Components) → has_answered w ≡ true →
    has_answered (changed_to items counts steady w) ≡ true
changed_answered first items counts steady w h =
    let ns = counted 0 counts items in
    let before = standing w.parts in
    of_shut (changed_to items counts steady w).parts
    (shut_newcomers (newcomers ns before) (replanned (map (fate ns) before))
    (shut_fresh (filter (λ (n : Coming). not (list_any (λ p. bytes_eq (component_name p) (name_of n.0)) before)) ns))
    (shut_replanned first (map (fate ns) before) (shut_fates ns before (shut_standing w.parts (shut_of w.parts h)))))
