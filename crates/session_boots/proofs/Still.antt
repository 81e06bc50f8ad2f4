-- Components that are stopped have no child and no deadline, and the time changes nothing in them.
use Rattle.std.specs.Prelude.{ℕ, ◌+◌, ◌-◌, Bool, true, false, not, ◌&&◌, ◌||◌, List, [], ◌∷◌, Some, None, is_some}
use Rattle.std.specs.List.{list_any}
use Rattle.std.proofs.Common.{◌≡◌, refl, sym, ap}
use Rattle.components.specs.Components.{Components, ComponentState, Child, is_childless, is_over, is_stopped, owner, owner_from}
use Rattle.components.specs.Deadlines.{least_deadline, least_of}
use Rattle.components.specs.Turns.{IsQuiet, may_act, may_begin, may_retry, may_stop, is_late, is_to_start}
use Rattle.components.specs.Components.{has_orphan}
use Rattle.components.specs.Events.{later}
use Rattle.histories.specs.Phases.{Phase, idle, booting, activating, backing, rolling, has_boots, Generation, draining}
use Rattle.histories.specs.States.{SessionState}
use Rattle.histories.specs.Waits.{has_work, wait_limit}

-- ---- truth values

or_parts : (a b : Bool) → (a || b) ≡ false → (a ≡ false) × (b ≡ false)
or_parts true b h = absurd cc
or_parts false b h = (refl, h)

or_none : (a b : Bool) → a ≡ false → b ≡ false → (a || b) ≡ false
or_none a b h k = rw (h, k) refl

or_first : (a b : Bool) → a ≡ true → (a || b) ≡ true
or_first a b h = rw h refl

not_false : (a : Bool) → not a ≡ true → a ≡ false
not_false true h = absurd cc
not_false false h = refl

not_true : (a : Bool) → not a ≡ false → a ≡ true
not_true true h = refl
not_true false h = absurd cc

-- ---- none stands

abbrev AreOver : List ComponentState → Type 0
AreOver ps = list_any (λ p. not (is_over p)) ps ≡ false

no_child_in : (b : Bool) (cs : List Child) → (b && elim cs [ [] ↦ true | ◌∷◌ c cs ↦ false ]) ≡ true → cs ≡ []
no_child_in b [] h = refl
no_child_in true (c ∷ cs) h = absurd cc
no_child_in false (c ∷ cs) h = absurd cc

no_child : (p : ComponentState) → not (is_over p) ≡ false → p.children ≡ []
no_child p h = no_child_in p.life.gone p.children (not_true (is_over p) h)

no_deadline_in : (ps : List ComponentState) → AreOver ps → least_of ps ≡ None
no_deadline_in [] h = refl
no_deadline_in (p ∷ ps) h =
    let s = or_parts (not (is_over p)) (list_any (λ p. not (is_over p)) ps) h in
    rw (no_child p s.0) (no_deadline_in ps s.1)

pub no_deadline : (w : Components) → is_stopped w ≡ true → least_deadline w ≡ None
no_deadline w h = no_deadline_in w.parts (not_false (list_any (λ p. not (is_over p)) w.parts) h)

no_owner_in : (k n : ℕ) (ps : List ComponentState) → AreOver ps → owner_from k n ps ≡ None
no_owner_in k n [] h = refl
no_owner_in k n (p ∷ ps) h =
    let s = or_parts (not (is_over p)) (list_any (λ p. not (is_over p)) ps) h in
    rw (no_child p s.0) (no_owner_in (k + 1) n ps s.1)

pub no_owner : (n : ℕ) (w : Components) → is_stopped w ≡ true → owner n w.parts ≡ None
no_owner n w h = no_owner_in 0 n w.parts (not_false (list_any (λ p. not (is_over p)) w.parts) h)

abbrev has_child : List Child → Bool
has_child cs = elim cs [ [] ↦ false | ◌∷◌ c ds ↦ true ]

none_has_child : (ps : List ComponentState) → AreOver ps → list_any (λ (p : ComponentState). has_child p.children) ps ≡ false
none_has_child [] h = refl
none_has_child (p ∷ ps) h =
    let s = or_parts (not (is_over p)) (list_any (λ p. not (is_over p)) ps) h in
    or_none (has_child p.children) (list_any (λ (q : ComponentState). has_child q.children) ps) (ap has_child (no_child p s.0)) (none_has_child ps s.1)

pub childless : (w : Components) → is_stopped w ≡ true → is_childless w ≡ true
childless w h = ap not (none_has_child w.parts (not_false (list_any (λ p. not (is_over p)) w.parts) h))

-- ---- the time

not_late : (m : ℕ) (p : ComponentState) → p.children ≡ [] → is_late m p ≡ false
not_late m p h = rw h refl

may_not : (m : ℕ) (w : Components) (p : ComponentState) → not (is_over p) ≡ false → may_act w p ≡ false → may_act (later m w) p ≡ false
may_not m w p over h =
    let late = is_late w.moment p in
    let stops = may_stop w p || (has_orphan p || is_to_start p) in
    let first = or_parts (may_begin w p || may_retry p) (late || stops) h in
    let second = or_parts late stops first.1 in
    or_none (may_begin w p || may_retry p) (is_late m p || stops) first.0 (or_none (is_late m p) stops (not_late m p (no_child p over)) second.1)

none_may : (m : ℕ) (w : Components) (ps : List ComponentState) → AreOver ps → list_any (may_act w) ps ≡ false → list_any (may_act (later m w)) ps ≡ false
none_may m w [] over h = refl
none_may m w (p ∷ ps) over h =
    let s = or_parts (not (is_over p)) (list_any (λ p. not (is_over p)) ps) over in
    let t = or_parts (may_act w p) (list_any (may_act w) ps) h in
    or_none (may_act (later m w) p) (list_any (may_act (later m w)) ps) (may_not m w p s.0 t.0) (none_may m w ps s.1 t.1)

pub later_quiet : (m : ℕ) (w : Components) → is_stopped w ≡ true → IsQuiet w → IsQuiet (later m w)
later_quiet m w stopped quiet = record {
  owes_none = quiet.owes_none;
  none = none_may m w w.parts (not_false (list_any (λ p. not (is_over p)) w.parts) stopped) quiet.none;
}

pub later_now : (m : ℕ) (w : Components) → m ≡ w.moment → w ≡ later m w
later_now m w is = sym (ap (λ (x : ℕ). later x w) is)

-- ---- waits among bootstraps

pub waits_on : (f : Phase) (c : Generation) (counts : List ℕ) (p : SessionState) → has_boots f ≡ true → c ≡ draining → is_some p.boot ≡ true →
    has_work f c counts p ≡ true
waits_on idle c counts p h is boot = absurd cc
waits_on booting c counts p h is boot = rw is (or_first (is_some p.boot) (not (is_stopped p.world)) boot)
waits_on activating c counts p h is boot = absurd cc
waits_on backing c counts p h is boot = rw is (or_first (is_some p.boot) (not (is_stopped p.world)) boot)
waits_on rolling c counts p h is boot = absurd cc

pub limit_on : (f : Phase) (p : SessionState) (child : Child) (deadline : ℕ) → has_boots f ≡ true → is_stopped p.world ≡ true → p.boot ≡ Some child →
    child.deadline ≡ Some deadline → wait_limit f p ≡ deadline - p.world.moment
limit_on idle p child deadline h stopped boot is = absurd cc
limit_on booting p child deadline h stopped boot is = let none = no_deadline p.world stopped in rw (boot, is, none) refl
limit_on activating p child deadline h stopped boot is = absurd cc
limit_on backing p child deadline h stopped boot is = let none = no_deadline p.world stopped in rw (boot, is, none) refl
limit_on rolling p child deadline h stopped boot is = absurd cc
