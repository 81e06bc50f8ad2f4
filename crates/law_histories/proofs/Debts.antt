-- Which failures components owe, and what befalls them.
use Rattle.std.proofs.Common.{◌≡◌, ◌∙◌, ℕ, zero, suc, ◌+◌, Bool, true, false, List, [], ◌∷◌, length, Option, Some, None, refl, sym, ap, subst, arith, is_some}
use Rattle.std.specs.Prelude.{◌&&◌, ◌||◌, if◌then◌else◌, map, not, slice_get, IfSome, ⊤}
use Rattle.std.specs.List.{list_any, filter}
use Rattle.std.specs.Str.{bytes_eq}
use Rattle.std.proofs.lemmas.Bool.{false≢true}
use Rattle.std.proofs.lemmas.Slice.Eq.{bytes_eq-Decides}
use Rattle.nuc_base.specs.declared.kinds.Exit.{Exit}
use Rattle.nuc_base.specs.declared.kinds.Step.{Step}
use Rattle.lifecycle.specs.Life.{Life}
use Rattle.lifecycle.specs.Table.{table}
use Rattle.lifecycle.specs.declared.kinds.After.TheVariants as after
use Rattle.lifecycle.specs.declared.kinds.LifeAct.{LifeAct}
use Rattle.lifecycle.specs.declared.kinds.LifeAct.TheVariants as act
use Rattle.lifecycle.specs.declared.kinds.LifeEvent.{LifeEvent}
use Rattle.lifecycle.specs.declared.kinds.LifeEvent.TheVariants as event
use Rattle.components.specs.Changes.{Coming, coming_again, coming_for, counted, fate, forgetting, fresh_part, is_replaced, is_replacing, leaving, meeting}
use Rattle.components.specs.Changes.{newcomers, placed, replanned, standing, staying, with_newcomers, with_texts, changed_to}
use Rattle.components.specs.Fitted.{Fitted, is_before, is_same_item, name_of}
use Rattle.components.specs.Lives.{lived, lived_at, drops_at, replaced}
use Rattle.components.specs.Marks.{Flagged, flagged, flagged_at, marked, may_replan, may_restart, reaching, restarted}
use Rattle.components.specs.Rows.{completed_from, is_spared_by, owed_after, succeeds_from}
use Rattle.components.specs.Turns.{owes}
use Rattle.components.specs.Components.{Components, ComponentState, changed_at, is_again, is_gone, is_over, component_name, place_from, stops_for_good}
use Rattle.components.specs.Components.{under_way}
use Rattle.components.proofs.Lived.{lived_none, lived_row, settled_part}
use Rattle.components.proofs.Whole.{firsts, firsts_at, firsts_flagged, firsts_reaching}
use Rattle.law_histories.proofs.Facts.{no_some, some_same}

-- ---- debts

-- a name, and the failure that is owed
abbrev pub Debt : Type 0
Debt = List ℕ × Option (Step × Exit)

abbrev pub debt : ComponentState → Debt
debt p = (component_name p, p.owed)

abbrev pub debts : List ComponentState → List Debt
debts ps = map debt ps

-- the component of this number and name owes this
abbrev pub Owes : List ComponentState → ℕ → List ℕ → Step × Exit → Type 0
Owes ps k name f = slice_get (debts ps) k ≡ Some (name, Some f)

abbrev pub Named : List ComponentState → ℕ → List ℕ → Type 0
Named ps k name = slice_get (map component_name ps) k ≡ Some name

-- nobody owes a new one
abbrev pub OwesNoMore : List ComponentState → List ComponentState → Type 0
OwesNoMore old new = (k : ℕ) (name : List ℕ) (f : Step × Exit) → Owes new k name f → Owes old k name f

or_parts : (a b : Bool) → (a || b) ≡ false → (a ≡ false) × (b ≡ false)
or_parts true b e = absurd cc
or_parts false b e = (refl, e)

owes_not : (p : ComponentState) (f : Step × Exit) → owes p ≡ false → p.owed ≡ Some f → ⊥
owes_not p f told owed = false≢true (sym told ∙ ap is_some owed)

abbrev Pays : ComponentState → Type 0
Pays p = p.owed ≡ None

pays_of : (p : ComponentState) → owes p ≡ false → Pays p
pays_of p is = by p.owed is
  where
    by : (o : Option (Step × Exit)) → is_some o ≡ false → o ≡ None
    by None e = refl
    by (Some x) e = absurd cc

pub none_owed : (ps : List ComponentState) (k : ℕ) (name : List ℕ) (f : Step × Exit) → list_any owes ps ≡ false → Owes ps k name f → ⊥
none_owed [] k name f told is = no_some (name, Some f) is
none_owed (p ∷ ps) zero name f told is = owes_not p f (or_parts (owes p) (list_any owes ps) told).0
    (ap (λ (x : Debt). x.1) (some_same (debt p) (name, Some f) is))
none_owed (p ∷ ps) (suc k) name f told is = none_owed ps k name f (or_parts (owes p) (list_any owes ps) told).1 is

pub same_debts : (old new : List ComponentState) → debts new ≡ debts old → OwesNoMore old new
same_debts old new same = λ k name f is. subst (λ (l : List Debt). slice_get l k ≡ Some (name, Some f)) same is

pub changed_same : {X : Type 0} (v : ComponentState → X) (g : ComponentState → ComponentState) → ((p : ComponentState) → v (g p) ≡ v p) →
    (k : ℕ) (ps : List ComponentState) → map v (changed_at k g ps) ≡ map v ps
changed_same v g same k [] = refl
changed_same v g same zero (p ∷ ps) = ap (λ x. x ∷ map v ps) (same p)
changed_same v g same (suc k) (p ∷ ps) = ap (λ xs. v p ∷ xs) (changed_same v g same k ps)

pub each_same : {X : Type 0} (v : ComponentState → X) (g : ComponentState → ComponentState) → ((p : ComponentState) → v (g p) ≡ v p) →
    (ps : List ComponentState) → map v (map g ps) ≡ map v ps
each_same v g same [] = refl
each_same v g same (p ∷ ps) = ap (λ x. x ∷ map v (map g ps)) (same p) ∙ ap (λ xs. v p ∷ xs) (each_same v g same ps)

-- ---- who reaches another

marked_debts : (may : ComponentState → Bool) (fs : Flagged) → debts (marked may fs) ≡ debts (firsts fs)
marked_debts may [] = refl
marked_debts may (x ∷ fs) = by (x.1 && may x.0) (marked_debts may fs)
  where
    by : (b : Bool) → debts (marked may fs) ≡ debts (firsts fs) → debts ((if b then record x.0 { stop = Some after.Restart } else x.0) ∷ marked may fs)
        ≡ debt x.0 ∷ debts (firsts fs)
    by true same = ap (λ (l : List Debt). debt x.0 ∷ l) same
    by false same = ap (λ (l : List Debt). debt x.0 ∷ l) same

restarted_debts : (may : ComponentState → Bool) (fs : Flagged) → debts (restarted may fs) ≡ debts (firsts fs)
restarted_debts may fs = marked_debts may (reaching (length fs) fs) ∙ ap debts (firsts_reaching (length fs) fs)

-- ---- an event of one component

-- only the end of a step is a failure
abbrev IsOf : LifeEvent → LifeAct → Type 0
IsOf e act.Nothing = ⊤
IsOf e (act.Begin s) = ⊤
IsOf e act.Kill = ⊤
IsOf e (act.Failed s x) = e ≡ event.Ended s x
IsOf e (act.Broke s x) = e ≡ event.Ended s x

fault_row : (c : Life) (e : LifeEvent) → IfSome (table c e) (λ r. IsOf e r.0)
fault_row c e = grind arith

replaced_owed : (q : ComponentState) → (replaced q).owed ≡ q.owed
replaced_owed q = by q.next
  where
    by : (o : Option (Fitted × ℕ)) → (replaced (record q { next = o })).owed ≡ q.owed
    by None = refl
    by (Some n) = refl

owed_by : (e : LifeEvent) (a : LifeAct) (spared : Bool) (f : Step × Exit) → IsOf e a → owed_after a spared None ≡ Some f → e ≡ event.Ended f.0 f.1
owed_by e act.Nothing spared f of owed = no_some f owed
owed_by e (act.Begin s) spared f of owed = no_some f owed
owed_by e act.Kill spared f of owed = no_some f owed
owed_by e (act.Failed s x) true f of owed = no_some f owed
owed_by e (act.Failed s x) false f of owed = of ∙ ap (λ (g : Step × Exit). event.Ended g.0 g.1) (some_same (s, x) f owed)
owed_by e (act.Broke s x) true f of owed = no_some f owed
owed_by e (act.Broke s x) false f of owed = of ∙ ap (λ (g : Step × Exit). event.Ended g.0 g.1) (some_same (s, x) f owed)

-- one that owed nothing owes after the end of a step alone
lived_debt : (b : Bool) (e : LifeEvent) (p : ComponentState) (f : Step × Exit) → p.owed ≡ None → (lived b e p).owed ≡ Some f → e ≡ event.Ended f.0 f.1
lived_debt b e p f none owed = by (table p.life e) refl
  where
    by : (o : Option (LifeAct × Life)) → table p.life e ≡ o → e ≡ event.Ended f.0 f.1
    by None row = no_some f (sym none ∙ (ap (λ (q : ComponentState). q.owed) (sym (lived_none b e p row)) ∙ owed))
    by (Some r) row =
        let mid : ComponentState = settled_part (b && succeeds_from p.life.state p.life.busy r.1.state) e r.0 r.1 p in
        let again : Bool = is_again (completed_from e p.life.state p.life.stop r.1.state) in
        let is : lived b e p ≡ (if again then replaced mid else mid) = lived_row b e p r.0 r.1 row in
        let of : IsOf e r.0 = subst (λ (x : Option (LifeAct × Life)). IfSome x (λ y. IsOf e y.0)) row (fault_row p.life e) in
        let owes_mid : mid.owed ≡ Some f = sym (either again mid) ∙ (sym (ap (λ (q : ComponentState). q.owed) is) ∙ owed) in
        let spared : Bool = is_spared_by p.stop mid.life in
        owed_by e r.0 spared f of (subst (λ (x : Option (Step × Exit)). owed_after r.0 spared x ≡ Some f) none owes_mid)
      where
        either : (x : Bool) (q : ComponentState) → (if x then replaced q else q).owed ≡ q.owed
        either true q = replaced_owed q
        either false q = refl

changed_debt : (b : Bool) (e : LifeEvent) (k : ℕ) (ps : List ComponentState) (j : ℕ) (name : List ℕ) (f : Step × Exit) → list_any owes ps ≡ false →
    Owes (changed_at k (lived b e) ps) j name f
    → (j ≡ k) × (e ≡ event.Ended f.0 f.1)
changed_debt b e k [] j name f told is = no_some (name, Some f) is
changed_debt b e zero (p ∷ ps) zero name f told is =
    let owed = ap (λ (x : Debt). x.1) (some_same (debt (lived b e p)) (name, Some f) is) in
    (refl, lived_debt b e p f (pays_of p (or_parts (owes p) (list_any owes ps) told).0) owed)
changed_debt b e zero (p ∷ ps) (suc j) name f told is = absurd (none_owed ps j name f (or_parts (owes p) (list_any owes ps) told).1 is)
changed_debt b e (suc k) (p ∷ ps) zero name f told is = absurd
    (owes_not p f (or_parts (owes p) (list_any owes ps) told).0 (ap (λ (x : Debt). x.1) (some_same (debt p) (name, Some f) is)))
changed_debt b e (suc k) (p ∷ ps) (suc j) name f told is =
    let d = changed_debt b e k ps j name f (or_parts (owes p) (list_any owes ps) told).1 is in
    (ap suc d.0, d.1)

pub lived_at_debt : (k : ℕ) (e : LifeEvent) (w : Components) (j : ℕ) (name : List ℕ) (f : Step × Exit) → list_any owes w.parts ≡ false →
    Owes (lived_at k e w).parts j name f → (j ≡ k) × (e ≡ event.Ended f.0 f.1)
lived_at_debt k e w j name f told is =
    changed_debt w.steady e k w.parts j name f told (subst (λ (l : List Debt). slice_get l j ≡ Some (name, Some f)) (by (drops_at k w e)) is)
  where
    by : (b : Bool) → debts (if b then restarted may_restart (flagged_at k (changed_at k (lived w.steady e) w.parts)) else changed_at k (lived w.steady e)
        w.parts) ≡ debts (changed_at k (lived w.steady e) w.parts)
    by true = restarted_debts may_restart (flagged_at k (changed_at k (lived w.steady e) w.parts)) ∙ ap debts
        (firsts_at k (changed_at k (lived w.steady e) w.parts))
    by false = refl

-- ---- one that is told

pub told_no_more : (k : ℕ) (ps : List ComponentState) → OwesNoMore ps (changed_at k (λ p. record p { owed = None }) ps)
told_no_more k [] j name f is = is
told_no_more zero (p ∷ ps) zero name f is = no_some f (ap (λ (x : Debt). x.1) (some_same (component_name p, None) (name, Some f) is))
told_no_more zero (p ∷ ps) (suc j) name f is = is
told_no_more (suc k) (p ∷ ps) zero name f is = is
told_no_more (suc k) (p ∷ ps) (suc j) name f is = told_no_more k ps j name f is

-- its own debt is gone
pub told_gone : (k : ℕ) (ps : List ComponentState) (name : List ℕ) (f : Step × Exit) → Owes (changed_at k (λ p. record p { owed = None }) ps) k name f → ⊥
told_gone k [] name f is = no_some (name, Some f) is
told_gone zero (p ∷ ps) name f is = no_some f (ap (λ (x : Debt). x.1) (some_same (component_name p, None) (name, Some f) is))
told_gone (suc k) (p ∷ ps) name f is = told_gone k ps name f is

-- ---- stops, and failures that are forgotten

pub leaving_debt : (p : ComponentState) → debt (leaving p) ≡ debt p
leaving_debt p = by p.life.gone (is_gone (under_way p.life))
  where
    by : (a b : Bool) → debt (if a then p else (if b then record p { stop = None; next = None } else record p { stop = Some after.Gone; next = None })) ≡ debt p
    by true b = refl
    by false true = refl
    by false false = refl

pub forgetting_debt : (p : ComponentState) → debt (forgetting p) ≡ debt p
forgetting_debt p = refl

-- ---- a change to other items

texts_owed : (f : Fitted) (p : ComponentState) → (with_texts f p).owed ≡ p.owed
texts_owed f p = by (is_same_item f.item p.fitted.item)
  where
    by : (b : Bool) → (if b then record p { fitted = f } else p).owed ≡ p.owed
    by true = refl
    by false = refl

meeting_owed : (n : Coming) (p : ComponentState) → Pays p → Pays (meeting n p)
meeting_owed n p pays = by p.life.gone (is_replaced n.0 p) (stops_for_good (with_texts n.0 p).life)
  where
    by : (a b c : Bool) → (if a then coming_again n p else (if b
        then (if c then record (with_texts n.0 p) {
          life = record (with_texts n.0 p).life { stop = Some after.Restart };
          stop = Some after.Again;
          next =
              Some n;
        }
        else record (with_texts n.0 p) { stop = Some after.Again; next = Some n }) else staying n (with_texts n.0 p))).owed ≡ None
    by true b c = refl
    by false true true = texts_owed n.0 p ∙ pays
    by false true false = texts_owed n.0 p ∙ pays
    by false false c = texts_owed n.0 p ∙ pays

fate_owed : (ns : List Coming) (p : ComponentState) → Pays p → Pays (fate ns p)
fate_owed ns p pays = by (coming_for (component_name p) ns)
  where
    by : (o : Option Coming) → Pays (elim o [ None ↦ leaving p | Some n ↦ meeting n p ])
    by None = ap (λ (x : Debt). x.1) (leaving_debt p) ∙ pays
    by (Some n) = meeting_owed n p pays

owes_of : (p : ComponentState) → Pays p → owes p ≡ false
owes_of p pays = ap is_some pays

told_cons : (p : ComponentState) (ps : List ComponentState) → owes p ≡ false → list_any owes ps ≡ false → list_any owes (p ∷ ps) ≡ false
told_cons p ps one rest = subst (λ (b : Bool). (b || list_any owes ps) ≡ false) (sym one) rest

standing_told : (ps : List ComponentState) → list_any owes ps ≡ false → list_any owes (standing ps) ≡ false
standing_told [] told = refl
standing_told (p ∷ ps) told =
    let o = or_parts (owes p) (list_any owes ps) told in
    by (not (is_over p)) (standing_told ps o.1) o.0
  where
    by : (b : Bool) → list_any owes (standing ps) ≡ false → owes p ≡ false → list_any owes (if b then p ∷ standing ps else standing ps) ≡ false
    by true rest one = told_cons p (standing ps) one rest
    by false rest one = rest

fates_told : (ns : List Coming) (ps : List ComponentState) → list_any owes ps ≡ false → list_any owes (map (fate ns) ps) ≡ false
fates_told ns [] told = refl
fates_told ns (p ∷ ps) told =
    let o = or_parts (owes p) (list_any owes ps) told in
    told_cons (fate ns p) (map (fate ns) ps) (owes_of (fate ns p) (fate_owed ns p (pays_of p o.0))) (fates_told ns ps o.1)

pub owed_any : (ps qs : List ComponentState) → debts ps ≡ debts qs → list_any owes qs ≡ false → list_any owes ps ≡ false
owed_any ps qs same told = any_of ps ∙ (ap any same ∙ (sym (any_of qs) ∙ told))
  where
    any : List Debt → Bool
    any [] = false
    any (d ∷ ds) = is_some d.1 || any ds

    any_of : (ps : List ComponentState) → list_any owes ps ≡ any (debts ps)
    any_of [] = refl
    any_of (p ∷ ps) = ap (λ (b : Bool). owes p || b) (any_of ps)

replanned_told : (ps : List ComponentState) → list_any owes ps ≡ false → list_any owes (replanned ps) ≡ false
replanned_told ps told = owed_any (replanned ps) ps (restarted_debts may_replan (flagged is_replacing ps) ∙ ap debts (firsts_flagged is_replacing ps)) told

placed_told : (p : ComponentState) (qs : List ComponentState) → owes p ≡ false → list_any owes qs ≡ false → list_any owes (placed p qs) ≡ false
placed_told p [] one told = told_cons p [] one refl
placed_told p (q ∷ qs) one told =
    let o = or_parts (owes q) (list_any owes qs) told in
    by (is_before (component_name p) (component_name q)) (told_cons q (placed p qs) o.0 (placed_told p qs one o.1))
  where
    by : (b : Bool) → list_any owes (q ∷ placed p qs) ≡ false → list_any owes (if b then p ∷ q ∷ qs else q ∷ placed p qs) ≡ false
    by true later = told_cons p (q ∷ qs) one told
    by false later = later

newcomers_told : (ns qs : List ComponentState) → list_any owes ns ≡ false → list_any owes qs ≡ false → list_any owes (with_newcomers ns qs) ≡ false
newcomers_told [] qs new told = told
newcomers_told (n ∷ ns) qs new told =
    let o = or_parts (owes n) (list_any owes ns) new in
    placed_told n (with_newcomers ns qs) o.0 (newcomers_told ns qs o.1 told)

fresh_told : (ns : List Coming) → list_any owes (map fresh_part ns) ≡ false
fresh_told [] = refl
fresh_told (n ∷ ns) = fresh_told ns

pub changed_told : (items : List Fitted) (counts : List ℕ) (steady : Bool) (w : Components) → list_any owes w.parts ≡ false →
    list_any owes (changed_to items counts steady w).parts ≡ false
changed_told items counts steady w told =
    let ns = counted 0 counts items in
    newcomers_told (newcomers ns (standing w.parts)) (replanned (map (fate ns) (standing w.parts)))
    (fresh_told (filter (λ (n : Coming). not (list_any (λ p. bytes_eq (component_name p) (name_of n.0)) (standing w.parts))) ns))
    (replanned_told (map (fate ns) (standing w.parts)) (fates_told ns (standing w.parts) (standing_told w.parts told)))

-- ---- the component of a name

place_named_from : (j k : ℕ) (name : List ℕ) (ps : List ComponentState) → place_from j name ps ≡ Some k → (i : ℕ) × (k ≡ j + i) × Named ps i name
place_named_from j k name [] is = no_some k is
place_named_from j k name (p ∷ ps) is = by (bytes_eq name (component_name p)) refl is (place_named_from (j + 1) k name ps)
  where
    by : (b : Bool) → bytes_eq name (component_name p) ≡ b → (if b then Some j else place_from (j + 1) name ps) ≡ Some k
        → (place_from (j + 1) name ps ≡ Some k → (i : ℕ) × (k ≡ j + 1 + i) × Named ps i name) → (i : ℕ) × (k ≡ j + i) × Named (p ∷ ps) i name
    by true same is later =
        let here : j ≡ k = some_same j k is in
        let at : k ≡ j + 0 = omega (arith, here) in
        (0, at, ap Some (sym ((bytes_eq-Decides name (component_name p)).0 same)))
    by false other is later =
        let r = later is in
        let q = r.1 in
        let at : k ≡ j + suc r.0 = omega (arith, q) in
        (suc r.0, at, r.2)

pub place_named : (k : ℕ) (name : List ℕ) (ps : List ComponentState) → place_from 0 name ps ≡ Some k → Named ps k name
place_named k name ps is =
    let r = place_named_from 0 k name ps is in
    let q = r.1 in
    let same : r.0 ≡ k = omega (arith, q) in
    subst (λ (i : ℕ). Named ps i name) same r.2

-- whoever is named and owes has that debt
pub owes_named : (ps : List ComponentState) (k : ℕ) (name : List ℕ) (f : Step × Exit) (p : ComponentState) → Named ps k name → slice_get ps k ≡ Some p →
    p.owed ≡ Some f → Owes ps k name f
owes_named [] k name f p named there owed = no_some p there
owes_named (q ∷ ps) zero name f p named there owed =
    let same = some_same q p there in
    let called = some_same (component_name q) name named in
    ap Some (ap (λ (n : List ℕ). (n, q.owed)) called ∙ ap (λ (o : Option (Step × Exit)). (name, o)) (ap (λ (x : ComponentState). x.owed) same ∙ owed))
owes_named (q ∷ ps) (suc k) name f p named there owed = owes_named ps k name f p named there owed
