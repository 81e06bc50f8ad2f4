-- Where none may act, none may once the failures so far are forgotten.
use Rattle.std.specs.Prelude.{ℕ, suc, zero, Bool, false, not, ◌&&◌, ◌||◌, List, [], ◌∷◌, ◌++◌, length, map, Option, Some, None, if◌then◌else◌, option_map}
use Rattle.std.specs.List.{list_any, list_all}
use Rattle.std.specs.Str.{bytes_eq}
use Rattle.std.proofs.Common.{◌≡◌, ◌∙◌, refl, ap}
use Rattle.lifecycle.specs.Awaits.{is_awaited}
use Rattle.lifecycle.specs.declared.kinds.After.{After}
use Rattle.lifecycle.specs.declared.kinds.After.TheVariants as after
use Rattle.lifecycle.specs.declared.kinds.LifeEvent.TheVariants as event
use Rattle.components.specs.Changes.{Coming, forgetting, steadied}
use Rattle.components.specs.Components.{ComponentState, Components, component_name, has_orphan, is_again, is_to_stop, stands_up, under_way}
use Rattle.components.specs.Marks.{Flagged, grown, is_flagged, needs_flagged, reaching}
use Rattle.components.specs.Turns.{IsQuiet, coming_needs, dependents, direct_dependents, hard_needs, is_held, is_held_far, is_held_for, is_late, is_met}
use Rattle.components.specs.Turns.{is_to_start, is_unstarted, may_act, may_begin, may_retry, may_stop, serves_softly, with_hard_needs}
use Rattle.law_supervisor.proofs.Steadied.{owes_steadied}

-- ---- what the others are to one

met_same : (test : ComponentState → Bool) → ((p : ComponentState) → test (forgetting p) ≡ test p) → (ps : List ComponentState) (n : List ℕ) →
    is_met test (map forgetting ps) n ≡ is_met test ps n
met_same test same [] n = refl
met_same test same (p ∷ ps) n = ap (λ (b : Bool). (bytes_eq (component_name p) n && b) || is_met test (map forgetting ps) n) (same p) ∙ ap
    (λ (b : Bool). (bytes_eq (component_name p) n && test p) || b) (met_same test same ps n)

all_met : (test : ComponentState → Bool) → ((p : ComponentState) → test (forgetting p) ≡ test p) → (ps : List ComponentState) (ns : List (List ℕ)) →
    list_all (is_met test (map forgetting ps)) ns ≡ list_all (is_met test ps) ns
all_met test same ps [] = refl
all_met test same ps (n ∷ ns) = ap (λ (b : Bool). b && list_all (is_met test (map forgetting ps)) ns) (met_same test same ps n) ∙ ap
    (λ (b : Bool). is_met test ps n && b) (all_met test same ps ns)

held_same : (n : List ℕ) (ps : List ComponentState) → is_held n (map forgetting ps) ≡ is_held n ps
held_same n [] = refl
held_same n (p ∷ ps) = ap (λ (b : Bool). (is_to_stop p && list_any (bytes_eq n) p.fitted.hard) || b) (held_same n ps)

-- ---- who reaches one

abbrev forgets : ComponentState × Bool → ComponentState × Bool
forgets f = (forgetting f.0, f.1)

flagged_same : (n : List ℕ) (fs : Flagged) → is_flagged n (map forgets fs) ≡ is_flagged n fs
flagged_same n [] = refl
flagged_same n (f ∷ fs) = ap (λ (b : Bool). (f.1 && bytes_eq (component_name f.0) n) || b) (flagged_same n fs)

needs_same : (ns : List (List ℕ)) (fs : Flagged) → needs_flagged ns (map forgets fs) ≡ needs_flagged ns fs
needs_same [] fs = refl
needs_same (n ∷ ns) fs = ap (λ (b : Bool). b || needs_flagged ns (map forgets fs)) (flagged_same n fs) ∙ ap (λ (b : Bool). is_flagged n fs || b)
    (needs_same ns fs)

grown_same : (all fs : Flagged) → grown (map forgets all) (map forgets fs) ≡ map forgets (grown all fs)
grown_same all [] = refl
grown_same all (f ∷ fs) = ap (λ (b : Bool). (forgetting f.0, f.1 || b) ∷ grown (map forgets all) (map forgets fs)) (needs_same f.0.fitted.hard all) ∙ ap
    (λ (gs : Flagged). (forgetting f.0, f.1 || needs_flagged f.0.fitted.hard all) ∷ gs) (grown_same all fs)

reaching_same : (k : ℕ) (fs : Flagged) → reaching k (map forgets fs) ≡ map forgets (reaching k fs)
reaching_same zero fs = refl
reaching_same (suc k) fs = ap (λ (gs : Flagged). reaching k gs) (grown_same fs fs) ∙ reaching_same k (grown fs fs)

length_same : (fs : Flagged) → length (map forgets fs) ≡ length fs
length_same [] = refl
length_same (f ∷ fs) = ap (λ (n : ℕ). suc n) (length_same fs)

abbrev hard_in : Option Coming → List (List ℕ)
hard_in o = elim o [ None ↦ [] | Some n ↦ n.0.hard ]

abbrev forgotten : Option Coming → Option Coming
forgotten o = option_map (λ (n : Coming). (n.0, 0)) o

hard_same : (o : Option Coming) → hard_in (forgotten o) ≡ hard_in o
hard_same None = refl
hard_same (Some n) = refl

coming_same : (p : ComponentState) → coming_needs (forgetting p) ≡ coming_needs p
coming_same p = ap (λ (ns : List (List ℕ)). if is_again (under_way p.life) then ns else []) (hard_same p.next)

with_same : (p : ComponentState) → with_hard_needs (forgetting p) ≡ forgetting (with_hard_needs p)
with_same p = ap (λ (ns : List (List ℕ)). record (forgetting p) { fitted = record p.fitted { hard = p.fitted.hard ++ ns } }) (coming_same p)

direct_same : (n : List ℕ) (ps : List ComponentState) → direct_dependents n (map forgetting ps) ≡ map forgets (direct_dependents n ps)
direct_same n [] = refl
direct_same n (p ∷ ps) = ap (λ (q : ComponentState). (q, list_any (bytes_eq n) q.fitted.hard) ∷ direct_dependents n (map forgetting ps)) (with_same p) ∙ ap
    (λ (fs : Flagged). (forgetting (with_hard_needs p), list_any (bytes_eq n) (hard_needs p)) ∷ fs) (direct_same n ps)

dependents_same : (n : List ℕ) (ps : List ComponentState) → dependents n (map forgetting ps) ≡ map forgets (dependents n ps)
dependents_same n ps =
    ap (λ (fs : Flagged). reaching (length fs) fs) (direct_same n ps) ∙ ap (λ (k : ℕ). reaching k (map forgets (direct_dependents n ps)))
    (length_same (direct_dependents n ps)) ∙ reaching_same (length (direct_dependents n ps)) (direct_dependents n ps)

abbrev holds : ComponentState × Bool → Bool
holds f = f.1 && is_to_stop f.0

any_same : (fs : Flagged) → list_any holds (map forgets fs) ≡ list_any holds fs
any_same [] = refl
any_same (f ∷ fs) = ap (λ (b : Bool). (f.1 && is_to_stop f.0) || b) (any_same fs)

far_same : (n : List ℕ) (ps : List ComponentState) → is_held_far n (map forgetting ps) ≡ is_held_far n ps
far_same n ps = ap (λ (fs : Flagged). list_any holds fs) (dependents_same n ps) ∙ any_same (dependents n ps)

held_for_same : (a : After) (n : List ℕ) (ps : List ComponentState) → is_held_for a n (map forgetting ps) ≡ is_held_for a n ps
held_for_same after.Restart n ps = held_same n ps
held_for_same after.Again n ps = far_same n ps
held_for_same after.Gone n ps = far_same n ps

-- ---- what one may do

begin_same : (w : Components) (p : ComponentState) → may_begin (steadied w) (forgetting p) ≡ may_begin w p
begin_same w p =
    ap (λ (b : Bool). (is_awaited event.MayBegin p.life && not (is_to_stop p)) && (b && list_all (is_met serves_softly (map forgetting w.parts)) p.fitted.soft))
    (all_met stands_up (λ q. refl) w.parts p.fitted.hard)
    ∙ ap (λ (b : Bool). (is_awaited event.MayBegin p.life && not (is_to_stop p)) && (list_all (is_met stands_up w.parts) p.fitted.hard && b))
    (all_met serves_softly (λ q. refl) w.parts p.fitted.soft)

abbrev stops : ComponentState → List ComponentState → Option After → Bool
stops p ps o = elim o [
  | None ↦ false
  | Some a ↦ (is_awaited (event.Stop a) p.life && not (has_orphan p || is_unstarted p)) && not (is_held_for a (component_name p) ps)
]

stops_same : (p : ComponentState) (ps : List ComponentState) (o : Option After) → stops p (map forgetting ps) o ≡ stops p ps o
stops_same p ps None = refl
stops_same p ps (Some a) = ap (λ (b : Bool). (is_awaited (event.Stop a) p.life && not (has_orphan p || is_unstarted p)) && not b)
    (held_for_same a (component_name p) ps)

stop_same : (w : Components) (p : ComponentState) → may_stop (steadied w) (forgetting p) ≡ may_stop w p
stop_same w p = stops_same p w.parts p.stop

act_same : (w : Components) (p : ComponentState) → may_act (steadied w) (forgetting p) ≡ may_act w p
act_same w p =
    ap (λ (b : Bool). (b || may_retry p) || (is_late w.moment p || (may_stop (steadied w) (forgetting p) || (has_orphan p || is_to_start p))))
    (begin_same w p)
    ∙ ap (λ (b : Bool). (may_begin w p || may_retry p) || (is_late w.moment p || (b || (has_orphan p || is_to_start p)))) (stop_same w p)

acts_same : (w : Components) (ps : List ComponentState) → list_any (may_act (steadied w)) (map forgetting ps) ≡ list_any (may_act w) ps
acts_same w [] = refl
acts_same w (p ∷ ps) = ap (λ (b : Bool). b || list_any (may_act (steadied w)) (map forgetting ps)) (act_same w p) ∙ ap (λ (b : Bool). may_act w p || b)
    (acts_same w ps)

pub quiet_steadied : (w : Components) → IsQuiet w → IsQuiet (steadied w)
quiet_steadied w q = record { owes_none = owes_steadied w ∙ q.owes_none; none = acts_same w w.parts ∙ q.none }
