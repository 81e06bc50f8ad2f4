-- Names of components, which stay what they are and stand once.
use Rattle.std.proofs.Common.{◌≡◌, ℕ, suc, zero, List, [], ◌∷◌, length, Bool, true, false, Option, Some, None, refl, sym, ap, ◌∙◌, subst, map, Less, Equal}
use Rattle.std.specs.Prelude.{◌&&◌, ◌||◌, if◌then◌else◌, IfSome}
use Rattle.std.specs.Cmp.Lexicographic.{slice_cmp}
use Rattle.std.specs.Ordering.{nat_cmp}
use Rattle.std.specs.List.{list_any, AllByRecursion}
use Rattle.std.specs.Str.{bytes_eq}
use Rattle.std.proofs.lemmas.Cmp.{nat_list_cmp_total, tied_itself}
use Rattle.std.proofs.lemmas.Map.Keys.{sorted_head, sorted_tail}
use Rattle.std.proofs.lemmas.Slice.Eq.{bytes_eq-Decides}
use Rattle.lifecycle.specs.Life.{Life}
use Rattle.lifecycle.specs.Table.{table}
use Rattle.lifecycle.specs.declared.kinds.After.TheVariants as after
use Rattle.lifecycle.specs.declared.kinds.LifeAct.{LifeAct}
use Rattle.lifecycle.specs.declared.kinds.LifeEvent.{LifeEvent}
use Rattle.device.specs.Plans.{AreRising}
use Rattle.components.specs.Fitted.{Fitted, name_of, steps_of}
use Rattle.components.specs.Components.{Components, ComponentState, changed_at, component_name, is_again}
use Rattle.components.specs.Marks.{Flagged, grown, reaching, flagged, flagged_at, marked, restarted, may_restart}
use Rattle.components.specs.Lives.{lived, lived_at, drops_at, replaced}
use Rattle.components.specs.Readied.{AreNamesApart, HaveNames, IsNamed}
use Rattle.components.specs.Rows.{succeeds_from, completed_from}
use Rattle.components.proofs.Lived.{lived_row, lived_none, settled_part}

abbrev pub names : List ComponentState → List (List ℕ)
names ps = map component_name ps

pub same_name : (a b : List ℕ) → bytes_eq a b ≡ true → a ≡ b
same_name a b e = (bytes_eq-Decides a b).0 e

pub name_same : (a b : List ℕ) → a ≡ b → bytes_eq a b ≡ true
name_same a b e = (bytes_eq-Decides a b).1 e

flips_at : (a b : List ℕ) (x y : Bool) → bytes_eq a b ≡ x → bytes_eq b a ≡ y → x ≡ y
flips_at a b true true e f = refl
flips_at a b true false e f = let g : bytes_eq b a ≡ true = name_same b a (sym (same_name a b e)) in absurd (cc)
flips_at a b false true e f = let g : bytes_eq a b ≡ true = name_same a b (sym (same_name b a f)) in absurd (cc)
flips_at a b false false e f = refl

pub flips : (a b : List ℕ) → bytes_eq a b ≡ bytes_eq b a
flips a b = flips_at a b (bytes_eq a b) (bytes_eq b a) refl refl

-- ---- rising names stand once

less_differ_at : (a b : List ℕ) (x : Bool) → bytes_eq a b ≡ x → slice_cmp nat_cmp a b ≡ Less → x ≡ false
less_differ_at a b false e l = refl
less_differ_at a b true e l =
    let s : a ≡ b = same_name a b e in
    let t : slice_cmp nat_cmp a a ≡ Less = subst (λ (c : List ℕ). slice_cmp nat_cmp a c ≡ Less) (sym s) l in
    let u : slice_cmp nat_cmp a a ≡ Equal = tied_itself nat_list_cmp_total a in
    absurd (cc)

less_differ : (a b : List ℕ) → slice_cmp nat_cmp a b ≡ Less → bytes_eq a b ≡ false
less_differ a b l = less_differ_at a b (bytes_eq a b) refl l

none_equal : (n : List ℕ) (ns : List (List ℕ)) → AllByRecursion (λ m. slice_cmp nat_cmp n m ≡ Less) ns → list_any (bytes_eq n) ns ≡ false
none_equal n [] h = refl
none_equal n (m ∷ ms) h = ap (λ (b : Bool). b || list_any (bytes_eq n) ms) (less_differ n m h.0) ∙ none_equal n ms h.1

pub rise_apart : (ns : List (List ℕ)) → AreRising ns → AreNamesApart ns
rise_apart [] h = tt
rise_apart (n ∷ ns) h = (none_equal n ns (sorted_head (slice_cmp nat_cmp) n ns h), rise_apart ns (sorted_tail (slice_cmp nat_cmp) n ns h))

-- ---- a component that keeps its name

abbrev pub Stays : ComponentState → ComponentState → Type 0
Stays p q = (component_name q ≡ component_name p) × IsNamed q

-- so do all
abbrev pub AllStay : List ComponentState → List ComponentState → Type 0
AllStay ps qs = (names qs ≡ names ps) × AllByRecursion IsNamed qs

stays_if : (b : Bool) (p q r : ComponentState) → Stays p q → Stays p r → Stays p (if b then q else r)
stays_if true p q r s t = s
stays_if false p q r s t = t

abbrev replaced_with : ComponentState → Option (Fitted × ℕ) → ComponentState
replaced_with q o = elim o [ None ↦ q | Some n ↦ record q { fitted = n.0; life = record q.life { steps = steps_of n.0; failures = n.1 }; next = None } ]

stays_replaced : (q : ComponentState) (o : Option (Fitted × ℕ)) → IsNamed q → IfSome o (λ n. name_of n.0 ≡ component_name q) → Stays q (replaced_with q o)
stays_replaced q None h g = (refl, h)
stays_replaced q (Some n) h g = (g, tt)

stays_lived_by : (b : Bool) (e : LifeEvent) (p : ComponentState) (o : Option (LifeAct × Life)) → table p.life e ≡ o → IsNamed p → Stays p (lived b e p)
stays_lived_by b e p None t h = subst (Stays p) (sym (lived_none b e p t)) (refl, h)
stays_lived_by b e p (Some r) t h =
    let q : ComponentState = settled_part (b && succeeds_from p.life.state p.life.busy r.1.state) e r.0 r.1 p in
    subst (Stays p) (sym (lived_row b e p r.0 r.1 t))
    (stays_if (is_again (completed_from e p.life.state p.life.stop r.1.state)) p (replaced q) q (stays_replaced q q.next h h) (refl, h))

pub stays_lived : (b : Bool) (e : LifeEvent) (p : ComponentState) → IsNamed p → Stays p (lived b e p)
stays_lived b e p h = stays_lived_by b e p (table p.life e) refl h

pub stay_changed : (f : ComponentState → ComponentState) → ((p : ComponentState) → IsNamed p → Stays p (f p)) → (k : ℕ) (ps : List ComponentState) →
    AllByRecursion IsNamed ps → AllStay ps (changed_at k f ps)
stay_changed f s k [] h = (refl, tt)
stay_changed f s zero (p ∷ ps) h = let t = s p h.0 in (ap (λ (n : List ℕ). n ∷ names ps) t.0, (t.1, h.1))
stay_changed f s (suc k) (p ∷ ps) h = let t = stay_changed f s k ps h.1 in (ap (λ (ns : List (List ℕ)). component_name p ∷ ns) t.0, (h.0, t.1))

-- names stand once among those that stay what they are
pub names_stay : (ps qs : List ComponentState) → AllStay ps qs → HaveNames ps → HaveNames qs
names_stay ps qs s h = record { apart = subst AreNamesApart (sym s.0) h.apart; named = s.1 }

pub names_changed : (f : ComponentState → ComponentState) → ((p : ComponentState) → IsNamed p → Stays p (f p)) → (k : ℕ) (ps qs : List ComponentState) →
    qs ≡ changed_at k f ps → HaveNames ps → HaveNames qs
names_changed f s k ps qs e h = subst HaveNames (sym e) (names_stay ps (changed_at k f ps) (stay_changed f s k ps h.named) h)

pub stay_mapped : (f : ComponentState → ComponentState) → ((p : ComponentState) → IsNamed p → Stays p (f p)) → (ps : List ComponentState) →
    AllByRecursion IsNamed ps → AllStay ps (map f ps)
stay_mapped f s [] h = (refl, tt)
stay_mapped f s (p ∷ ps) h =
    let t = s p h.0 in
    let u = stay_mapped f s ps h.1 in
    (ap (λ (n : List ℕ). n ∷ names (map f ps)) t.0 ∙ ap (λ (ns : List (List ℕ)). component_name p ∷ ns) u.0, (t.1, u.1))

-- ---- marks

abbrev parts_of : Flagged → List ComponentState
parts_of fs = map (λ (f : ComponentState × Bool). f.0) fs

grown_parts : (all fs : Flagged) → parts_of (grown all fs) ≡ parts_of fs
grown_parts all [] = refl
grown_parts all (f ∷ fs) = ap (λ (ps : List ComponentState). f.0 ∷ ps) (grown_parts all fs)

reaching_parts : (n : ℕ) (fs : Flagged) → parts_of (reaching n fs) ≡ parts_of fs
reaching_parts zero fs = refl
reaching_parts (suc n) fs = reaching_parts n (grown fs fs) ∙ grown_parts fs fs

flagged_parts : (t : ComponentState → Bool) (ps : List ComponentState) → parts_of (flagged t ps) ≡ ps
flagged_parts t [] = refl
flagged_parts t (p ∷ ps) = ap (λ (qs : List ComponentState). p ∷ qs) (flagged_parts t ps)

flagged_at_parts : (k : ℕ) (ps : List ComponentState) → parts_of (flagged_at k ps) ≡ ps
flagged_at_parts k [] = refl
flagged_at_parts zero (p ∷ ps) = ap (λ (qs : List ComponentState). p ∷ qs) (flagged_parts (λ q. false) ps)
flagged_at_parts (suc k) (p ∷ ps) = ap (λ (qs : List ComponentState). p ∷ qs) (flagged_at_parts k ps)

stay_marked : (may : ComponentState → Bool) (fs : Flagged) → AllByRecursion IsNamed (parts_of fs) → AllStay (parts_of fs) (marked may fs)
stay_marked may [] h = (refl, tt)
stay_marked may (f ∷ fs) h =
    let t = stays_if (f.1 && may f.0) f.0 (record f.0 { stop = Some after.Restart }) f.0 (refl, h.0) (refl, h.0) in
    let u = stay_marked may fs h.1 in
    (ap (λ (n : List ℕ). n ∷ names (marked may fs)) t.0 ∙ ap (λ (ns : List (List ℕ)). component_name f.0 ∷ ns) u.0, (t.1, u.1))

stay_restarted : (may : ComponentState → Bool) (fs : Flagged) (ps : List ComponentState) → parts_of fs ≡ ps → AllByRecursion IsNamed ps →
    AllStay ps (restarted may fs)
stay_restarted may fs ps e h =
    let rs : Flagged = reaching (length fs) fs in
    let q : parts_of rs ≡ ps = reaching_parts (length fs) fs ∙ e in
    subst (λ (qs : List ComponentState). AllStay qs (restarted may fs)) q (stay_marked may rs (subst (AllByRecursion IsNamed) (sym q) h))

pub stay_flagged : (may t : ComponentState → Bool) (ps : List ComponentState) → AllByRecursion IsNamed ps → AllStay ps (restarted may (flagged t ps))
stay_flagged may t ps h = stay_restarted may (flagged t ps) ps (flagged_parts t ps) h

pub all_stay : (ps qs rs : List ComponentState) → AllStay ps qs → AllStay qs rs → AllStay ps rs
all_stay ps qs rs s t = (t.0 ∙ s.0, t.1)

stay_if : (b : Bool) (ps qs rs : List ComponentState) → AllStay ps qs → AllStay ps rs → AllStay ps (if b then qs else rs)
stay_if true ps qs rs s t = s
stay_if false ps qs rs s t = t

pub stay_lived_at : (k : ℕ) (e : LifeEvent) (w : Components) → AllByRecursion IsNamed w.parts → AllStay w.parts (lived_at k e w).parts
stay_lived_at k e w h =
    let qs : List ComponentState = changed_at k (lived w.steady e) w.parts in
    let s : AllStay w.parts qs = stay_changed (lived w.steady e) (stays_lived w.steady e) k w.parts h in
    let fs : Flagged = flagged_at k qs in
    let t : AllStay qs (restarted may_restart fs) = stay_restarted may_restart fs qs (flagged_at_parts k qs) s.1 in
    stay_if (drops_at k w e) w.parts (restarted may_restart fs) qs (all_stay w.parts qs (restarted may_restart fs) s t) s
