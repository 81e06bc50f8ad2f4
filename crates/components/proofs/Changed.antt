-- What a supervisor keeps is kept by a change.
use Rattle.std.proofs.Common.{◌≡◌, ◌<◌, ℕ, List, [], ◌∷◌, ◌++◌, length, Bool, true, false, Option, Some, None, refl, sym, ap, ◌∙◌, subst, map, filter}
use Rattle.std.specs.Prelude.{◌^◌, ◌&&◌, ◌||◌, not, cond, if◌then◌else◌, IfSome}
use Rattle.std.specs.List.{AllByRecursion, list_any}
use Rattle.std.specs.Str.{bytes_eq}
use Rattle.components.specs.Answers.{child_numbers, living_numbers}
use Rattle.components.specs.Changes.{Coming, coming_again, coming_for, changed_to, counted, fate, fresh_part, is_replaced, is_replacing, leaving, meeting}
use Rattle.components.specs.Changes.{newcomers, placed, replacing, replanned, standing, staying, with_items, with_newcomers, with_texts}
use Rattle.components.specs.Fitted.{Fitted, name_of, is_before, is_same_item}
use Rattle.components.specs.Marks.{may_replan}
use Rattle.components.specs.Readied.{AreApart, AreNamesApart, AreNear, HaveNames, IsKept, IsNamed, IsNear}
use Rattle.components.specs.Components.{Child, ComponentState, Components, is_over, component_name, stops_for_good}
use Rattle.components.proofs.Apart.{apart_kids, near_kids}
use Rattle.components.proofs.Kept.{leaving_children, length_kids, stays_leaving}
use Rattle.components.proofs.Kids.{kids, kids_mapped, kids_restarted}
use Rattle.components.proofs.Meets.{apart_filter, began_names, none_both, none_left, none_right}
use Rattle.components.proofs.Names.{AllStay, Stays, all_stay, flips, names, same_name, stay_flagged, stay_mapped}
use Rattle.lifecycle.specs.declared.kinds.After.TheVariants as after

-- ---- the fate of one

found_name_at : (b : Bool) (name : List ℕ) (m n : Coming) (ms : List Coming) → bytes_eq name (name_of m.0) ≡ b →
    ◌≡◌ {A = Option Coming} (cond b (Some m) (coming_for name ms)) (Some n)
    → (coming_for name ms ≡ Some n → name_of n.0 ≡ name) → name_of n.0 ≡ name
found_name_at true name m n ms s e f = let g : m ≡ n = cc in ap (λ (x : Coming). name_of x.0) (sym g) ∙ sym (same_name name (name_of m.0) s)
found_name_at false name m n ms s e f = f e

found_name : (name : List ℕ) (ns : List Coming) (n : Coming) → coming_for name ns ≡ Some n → name_of n.0 ≡ name
found_name name [] n e = absurd (cc)
found_name name (m ∷ ms) n e = found_name_at (bytes_eq name (name_of m.0)) name m n ms refl e (found_name name ms n)

found_named : (name : List ℕ) (ns : List Coming) (o : Option Coming) → coming_for name ns ≡ o → IfSome o (λ n. name_of n.0 ≡ name)
found_named name ns None e = tt
found_named name ns (Some n) e = found_name name ns n e

stays_two : (b : Bool) (p q r : ComponentState) → Stays p q → Stays p r → Stays p (if b then q else r)
stays_two true p q r s t = s
stays_two false p q r s t = t

-- it may take another item, and no more
abbrev Carries : ComponentState → ComponentState → Type 0
Carries p q = (component_name q ≡ component_name p) × (q.next ≡ p.next)

carries_texts : (b : Bool) (f : Fitted) (p : ComponentState) → name_of f ≡ component_name p → Carries p (if b then record p { fitted = f } else p)
carries_texts true f p e = (e, refl)
carries_texts false f p e = (refl, refl)

stays_replacing : (b : Bool) (n : Coming) (p q : ComponentState) → name_of n.0 ≡ component_name p → Carries p q
    → Stays p (if b then record q { life = record q.life { stop = Some after.Restart }; stop = Some after.Again; next = Some n } else record q
    { stop = Some after.Again; next = Some n })
stays_replacing true n p q e c = (c.0, e ∙ sym c.0)
stays_replacing false n p q e c = (c.0, e ∙ sym c.0)

named_next : (a b : List ℕ) (o u : Option Coming) → a ≡ b → o ≡ u → IfSome o (λ n. name_of n.0 ≡ a) → IfSome u (λ n. name_of n.0 ≡ b)
named_next a b o u e f h = subst (λ (v : Option Coming). IfSome v (λ n. name_of n.0 ≡ b)) f (subst (λ (x : List ℕ). IfSome o (λ n. name_of n.0 ≡ x)) e h)

stays_staying : (n : Coming) (p q : ComponentState) → IsNamed p → Carries p q → Stays p (staying n q)
stays_staying n p q h c = (c.0, named_next (component_name p) (component_name q) p.next q.next (sym c.0) (sym c.1) h)

stays_meeting : (n : Coming) (p : ComponentState) → name_of n.0 ≡ component_name p → IsNamed p → Stays p (meeting n p)
stays_meeting n p e h =
    let q : ComponentState = with_texts n.0 p in
    let c : Carries p q = carries_texts (is_same_item n.0.item p.fitted.item) n.0 p e in
    stays_two p.life.gone p (coming_again n p) (if is_replaced n.0 p then replacing n q else staying n q) (e, tt)
    (stays_two (is_replaced n.0 p) p (replacing n q) (staying n q) (stays_replacing (stops_for_good q.life) n p q e c) (stays_staying n p q h c))

stays_by : (p : ComponentState) (o : Option Coming) → IsNamed p → IfSome o (λ n. name_of n.0 ≡ component_name p) →
    Stays p (elim o [ None ↦ leaving p | Some n ↦ meeting n p ])
stays_by p None h e = stays_leaving p h
stays_by p (Some n) h e = stays_meeting n p e h

stays_fate : (ns : List Coming) (p : ComponentState) → IsNamed p → Stays p (fate ns p)
stays_fate ns p h = stays_by p (coming_for (component_name p) ns) h (found_named (component_name p) ns (coming_for (component_name p) ns) refl)

kids_two : (b : Bool) (q r : ComponentState) (cs : List Child) → q.children ≡ cs → r.children ≡ cs → (if b then q else r).children ≡ cs
kids_two true q r cs e f = e
kids_two false q r cs e f = f

texts_children : (b : Bool) (f : Fitted) (p : ComponentState) → (if b then record p { fitted = f } else p).children ≡ p.children
texts_children true f p = refl
texts_children false f p = refl

meeting_children : (n : Coming) (p : ComponentState) → (meeting n p).children ≡ p.children
meeting_children n p =
    let q : ComponentState = with_texts n.0 p in
    let c : q.children ≡ p.children = texts_children (is_same_item n.0.item p.fitted.item) n.0 p in
    kids_two p.life.gone (coming_again n p) (if is_replaced n.0 p then replacing n q else staying n q) p.children refl
    (kids_two (is_replaced n.0 p) (replacing n q) (staying n q) p.children
    (kids_two (stops_for_good q.life) (record q { life = record q.life { stop = Some after.Restart }; stop = Some after.Again; next = Some n })
    (record q { stop = Some after.Again; next = Some n }) p.children c c) c)

fate_children_by : (p : ComponentState) (o : Option Coming) → (let q : ComponentState = elim o [ None ↦ leaving p | Some n ↦ meeting n p ] in
    q.children ≡ p.children)
fate_children_by p None = leaving_children p
fate_children_by p (Some n) = meeting_children n p

fate_children : (ns : List Coming) (p : ComponentState) → (fate ns p).children ≡ p.children
fate_children ns p = fate_children_by p (coming_for (component_name p) ns)

-- ---- those that stand

childless : (g : Bool) (cs : List Child) → not (g && elim cs [ [] ↦ true | ◌∷◌ c ds ↦ false ]) ≡ false → cs ≡ []
childless true [] e = refl
childless true (c ∷ cs) e = absurd (cc)
childless false cs e = absurd (cc)

numbers_at : (b : Bool) (p : ComponentState) (qs ps : List ComponentState) → (b ≡ false → p.children ≡ []) → living_numbers qs ≡ living_numbers ps →
    living_numbers (cond b (p ∷ qs) qs) ≡ living_numbers (p ∷ ps)
numbers_at true p qs ps h e = ap (λ (ns : List ℕ). child_numbers p.children ++ ns) e
numbers_at false p qs ps h e = e ∙ ap (λ (cs : List Child). child_numbers cs ++ living_numbers ps) (sym (h refl))

numbers_standing : (ps : List ComponentState) → living_numbers (standing ps) ≡ living_numbers ps
numbers_standing [] = refl
numbers_standing (p ∷ ps) = numbers_at (not (is_over p)) p (standing ps) ps (childless p.life.gone p.children) (numbers_standing ps)

all_at : (P : ComponentState → Type 0) (b : Bool) (p : ComponentState) (qs : List ComponentState) → P p → AllByRecursion P qs →
    AllByRecursion P (cond b (p ∷ qs) qs)
all_at P true p qs h a = (h, a)
all_at P false p qs h a = a

pub all_standing : (P : ComponentState → Type 0) (ps : List ComponentState) → AllByRecursion P ps → AllByRecursion P (standing ps)
all_standing P [] h = tt
all_standing P (p ∷ ps) h = all_at P (not (is_over p)) p (standing ps) h.0 (all_standing P ps h.1)

-- ---- one more among the others

numbers_two : (b : Bool) (p q : ComponentState) (qs rs : List ComponentState) → p.children ≡ [] → living_numbers rs ≡ living_numbers qs →
    living_numbers (if b then p ∷ q ∷ qs else q ∷ rs) ≡ living_numbers (q ∷ qs)
numbers_two true p q qs rs e f = ap (λ (cs : List Child). child_numbers cs ++ living_numbers (q ∷ qs)) e
numbers_two false p q qs rs e f = ap (λ (ns : List ℕ). child_numbers q.children ++ ns) f

numbers_placed : (p : ComponentState) (qs : List ComponentState) → p.children ≡ [] → living_numbers (placed p qs) ≡ living_numbers qs
numbers_placed p [] e = ap (λ (cs : List Child). child_numbers cs ++ []) e
numbers_placed p (q ∷ qs) e = numbers_two (is_before (component_name p) (component_name q)) p q qs (placed p qs) e (numbers_placed p qs e)

all_two : (P : ComponentState → Type 0) (b : Bool) (p q : ComponentState) (qs rs : List ComponentState) → P p → P q → AllByRecursion P qs →
    AllByRecursion P rs → AllByRecursion P (if b then p ∷ q ∷ qs else q ∷ rs)
all_two P true p q qs rs h i a c = (h, (i, a))
all_two P false p q qs rs h i a c = (i, c)

pub all_placed : (P : ComponentState → Type 0) (p : ComponentState) (qs : List ComponentState) → P p → AllByRecursion P qs → AllByRecursion P (placed p qs)
all_placed P p [] h a = (h, tt)
all_placed P p (q ∷ qs) h a = all_two P (is_before (component_name p) (component_name q)) p q qs (placed p qs) h a.0 a.1 (all_placed P p qs h a.1)

or_two : (a b c : Bool) → (a || (b || c)) ≡ (b || (a || c))
or_two true true c = refl
or_two true false c = refl
or_two false true c = refl
or_two false false c = refl

any_two : (t : List ℕ → Bool) (b : Bool) (p q : ComponentState) (qs rs : List ComponentState) →
    list_any t (names rs) ≡ (t (component_name p) || list_any t (names qs)) → list_any t (names (if b then p ∷ q ∷ qs else q ∷ rs))
    ≡ (t (component_name p) || (t (component_name q) || list_any t (names qs)))
any_two t true p q qs rs e = refl
any_two t false p q qs rs e = ap (λ (x : Bool). t (component_name q) || x) e ∙ or_two (t (component_name q)) (t (component_name p)) (list_any t (names qs))

any_placed : (t : List ℕ → Bool) (p : ComponentState) (qs : List ComponentState) →
    list_any t (names (placed p qs)) ≡ (t (component_name p) || list_any t (names qs))
any_placed t p [] = refl
any_placed t p (q ∷ qs) = any_two t (is_before (component_name p) (component_name q)) p q qs (placed p qs) (any_placed t p qs)

apart_two : (b : Bool) (p q : ComponentState) (qs rs : List ComponentState) → list_any (bytes_eq (component_name p)) (names (q ∷ qs)) ≡ false →
    AreNamesApart (names (q ∷ qs)) → list_any (bytes_eq (component_name q)) (names rs) ≡ false → AreNamesApart (names rs)
    → AreNamesApart (names (if b then p ∷ q ∷ qs else q ∷ rs))
apart_two true p q qs rs n a m c = (n, a)
apart_two false p q qs rs n a m c = (m, c)

apart_placed : (p : ComponentState) (qs : List ComponentState) → list_any (bytes_eq (component_name p)) (names qs) ≡ false → AreNamesApart (names qs) →
    AreNamesApart (names (placed p qs))
apart_placed p [] n a = (refl, tt)
apart_placed p (q ∷ qs) n a =
    let f : bytes_eq (component_name q) (component_name p) ≡ false = flips (component_name q) (component_name p) ∙ none_left
    (bytes_eq (component_name p) (component_name q)) (list_any (bytes_eq (component_name p)) (names qs)) n in
    apart_two (is_before (component_name p) (component_name q)) p q qs (placed p qs) n a
    (any_placed (bytes_eq (component_name q)) p qs ∙ none_both (bytes_eq (component_name q) (component_name p))
    (list_any (bytes_eq (component_name q)) (names qs)) f a.0)
    (apart_placed p qs (none_right (bytes_eq (component_name p) (component_name q)) (list_any (bytes_eq (component_name p)) (names qs)) n) a.1)

-- ---- those that did not stand before

-- none of the others has its name
abbrev IsNew : List ComponentState → ComponentState → Type 0
IsNew ps n = list_any (bytes_eq (component_name n)) (names ps) ≡ false

-- a component without children, which no other replaces
abbrev IsBare : ComponentState → Type 0
IsBare n = (n.children ≡ []) × (n.next ≡ None)

or_three : (a b c : Bool) → (a || (b || c)) ≡ ((a || b) || c)
or_three true b c = refl
or_three false b c = refl

any_newcomers : (t : List ℕ → Bool) (ns ps : List ComponentState) → list_any t (names (with_newcomers ns ps)) ≡ (list_any t (names ns) || list_any t (names ps))
any_newcomers t [] ps = refl
any_newcomers t (n ∷ ns) ps =
    any_placed t n (with_newcomers ns ps) ∙ ap (λ (x : Bool). t (component_name n) || x) (any_newcomers t ns ps) ∙ or_three (t (component_name n))
    (list_any t (names ns)) (list_any t (names ps))

apart_newcomers : (ns ps : List ComponentState) → AreNamesApart (names ns) → AllByRecursion (IsNew ps) ns → AreNamesApart (names ps) →
    AreNamesApart (names (with_newcomers ns ps))
apart_newcomers [] ps a n h = h
apart_newcomers (m ∷ ns) ps a n h =
    apart_placed m (with_newcomers ns ps)
    (any_newcomers (bytes_eq (component_name m)) ns ps ∙ none_both (list_any (bytes_eq (component_name m)) (names ns))
    (list_any (bytes_eq (component_name m)) (names ps)) a.0 n.0)
    (apart_newcomers ns ps a.1 n.1 h)

numbers_newcomers : (ns ps : List ComponentState) → AllByRecursion IsBare ns → living_numbers (with_newcomers ns ps) ≡ living_numbers ps
numbers_newcomers [] ps h = refl
numbers_newcomers (n ∷ ns) ps h = numbers_placed n (with_newcomers ns ps) h.0.0 ∙ numbers_newcomers ns ps h.1

near_bare : (m : ℕ) (n : ComponentState) → IsBare n → AllByRecursion (IsNear m) n.children
near_bare m n h = subst (λ (cs : List Child). AllByRecursion (IsNear m) cs) (sym h.0) tt

near_newcomers : (m : ℕ) (ns ps : List ComponentState) → AllByRecursion IsBare ns → AreNear m ps → AreNear m (with_newcomers ns ps)
near_newcomers m [] ps h a = a
near_newcomers m (n ∷ ns) ps h a = all_placed (λ (p : ComponentState). AllByRecursion (IsNear m) p.children) n (with_newcomers ns ps) (near_bare m n h.0)
    (near_newcomers m ns ps h.1 a)

named_bare : (n : ComponentState) → IsBare n → IsNamed n
named_bare n h = subst (λ (o : Option Coming). IfSome o (λ x. name_of x.0 ≡ component_name n)) (sym h.1) tt

named_newcomers : (ns ps : List ComponentState) → AllByRecursion IsBare ns → AllByRecursion IsNamed ps → AllByRecursion IsNamed (with_newcomers ns ps)
named_newcomers [] ps h a = a
named_newcomers (n ∷ ns) ps h a = all_placed IsNamed n (with_newcomers ns ps) (named_bare n h.0) (named_newcomers ns ps h.1 a)

fresh_bare : (ns : List Coming) → AllByRecursion IsBare (map fresh_part ns)
fresh_bare [] = tt
fresh_bare (n ∷ ns) = ((refl, refl), fresh_bare ns)

-- whether one of them has the item's name
abbrev pub is_held_by : List ComponentState → Coming → Bool
is_held_by ps n = list_any (λ p. bytes_eq (component_name p) (name_of n.0)) ps

any_flipped : (m : List ℕ) (ps : List ComponentState) → list_any (bytes_eq m) (names ps) ≡ list_any (λ p. bytes_eq (component_name p) m) ps
any_flipped m [] = refl
any_flipped m (p ∷ ps) = ap (λ (b : Bool). b || list_any (bytes_eq m) (names ps)) (flips m (component_name p)) ∙ ap
    (λ (b : Bool). bytes_eq (component_name p) m || b) (any_flipped m ps)

new_at : (b : Bool) (n : Coming) (ms : List Coming) (ps : List ComponentState) → is_held_by ps n ≡ b → AllByRecursion (IsNew ps) (map fresh_part ms) →
    AllByRecursion (IsNew ps) (map fresh_part (cond (not b) (n ∷ ms) ms))
new_at true n ms ps e h = h
new_at false n ms ps e h = (any_flipped (name_of n.0) ps ∙ e, h)

new_newcomers : (ns : List Coming) (ps : List ComponentState) → AllByRecursion (IsNew ps) (newcomers ns ps)
new_newcomers [] ps = tt
new_newcomers (n ∷ ns) ps = new_at (is_held_by ps n) n (filter (λ (m : Coming). not (is_held_by ps m)) ns) ps refl (new_newcomers ns ps)

any_some : (m : List ℕ) (b : Bool) (n : Coming) (xs ns : List Coming) → (bytes_eq m (name_of n.0) || list_any (bytes_eq m) (names (map fresh_part ns)))
    ≡ false → (list_any (bytes_eq m) (names (map fresh_part ns)) ≡ false → list_any (bytes_eq m) (names (map fresh_part xs)) ≡ false)
    → list_any (bytes_eq m) (names (map fresh_part (cond b (n ∷ xs) xs))) ≡ false
any_some m true n xs ns h f =
    let l : bytes_eq m (name_of n.0) ≡ false = none_left (bytes_eq m (name_of n.0)) (list_any (bytes_eq m) (names (map fresh_part ns))) h in
    let r : list_any (bytes_eq m) (names (map fresh_part ns)) ≡ false =
    none_right (bytes_eq m (name_of n.0)) (list_any (bytes_eq m) (names (map fresh_part ns))) h in
    none_both (bytes_eq m (name_of n.0)) (list_any (bytes_eq m) (names (map fresh_part xs))) l (f r)
any_some m false n xs ns h f = f (none_right (bytes_eq m (name_of n.0)) (list_any (bytes_eq m) (names (map fresh_part ns))) h)

any_kept : (m : List ℕ) (t : Coming → Bool) (ns : List Coming) → list_any (bytes_eq m) (names (map fresh_part ns)) ≡ false →
    list_any (bytes_eq m) (names (map fresh_part (filter t ns))) ≡ false
any_kept m t [] h = refl
any_kept m t (n ∷ ns) h = any_some m (t n) n (filter t ns) ns h (any_kept m t ns)

apart_some : (b : Bool) (n : Coming) (xs : List Coming) → list_any (bytes_eq (name_of n.0)) (names (map fresh_part xs)) ≡ false →
    AreNamesApart (names (map fresh_part xs)) → AreNamesApart (names (map fresh_part (cond b (n ∷ xs) xs)))
apart_some true n xs m a = (m, a)
apart_some false n xs m a = a

apart_kept : (t : Coming → Bool) (ns : List Coming) → AreNamesApart (names (map fresh_part ns)) → AreNamesApart (names (map fresh_part (filter t ns)))
apart_kept t [] a = tt
apart_kept t (n ∷ ns) a = apart_some (t n) n (filter t ns) (any_kept (name_of n.0) t ns a.0) (apart_kept t ns a.1)

new_same : (ps qs : List ComponentState) (ns : List ComponentState) → names qs ≡ names ps → AllByRecursion (IsNew ps) ns → AllByRecursion (IsNew qs) ns
new_same ps qs [] e h = tt
new_same ps qs (n ∷ ns) e h = (ap (λ (xs : List (List ℕ)). list_any (bytes_eq (component_name n)) xs) e ∙ h.0, new_same ps qs ns e h.1)

-- ---- all of it

pub replanned_length : (ps : List ComponentState) → length (replanned ps) ≡ length ps
replanned_length ps = length_kids (replanned ps) ps (kids_restarted may_replan is_replacing ps)

pub fated_names : (ns : List Coming) (ps : List ComponentState) → HaveNames ps → AreNamesApart (names (map (fate ns) (standing ps)))
fated_names ns ps h =
    let met = stay_mapped (fate ns) (stays_fate ns) (standing ps) (all_standing IsNamed ps h.named) in
    subst AreNamesApart (sym met.0) (apart_filter (λ (p : ComponentState). not (is_over p)) ps h.apart)

pub changed_kept : (w : Components) (fs : List Fitted) (counts : List ℕ) (steady : Bool) → IsKept w → AreNamesApart (map name_of fs) →
    length (with_items (counted 0 counts fs) (standing w.parts)) < 2 ^ 32 → IsKept (changed_to fs counts steady w)
changed_kept w fs counts steady k a few =
    let ns : List Coming = counted 0 counts fs in
    let ps : List ComponentState = standing w.parts in
    let qs : List ComponentState = map (fate ns) ps in
    let rs : List ComponentState = replanned qs in
    let cs : List ComponentState = newcomers ns ps in
    let named : AllByRecursion IsNamed ps = all_standing IsNamed w.parts k.named in
    let met : AllStay ps qs = stay_mapped (fate ns) (stays_fate ns) ps named in
    let stay : AllStay ps rs = all_stay ps qs rs met (stay_flagged may_replan is_replacing qs met.1) in
    let same : kids rs ≡ kids ps = kids_restarted may_replan is_replacing qs ∙ kids_mapped (fate ns) (fate_children ns) ps in
    let bare : AllByRecursion IsBare cs = fresh_bare (filter (λ (n : Coming). not (is_held_by ps n)) ns) in
    let apart : AreApart (living_numbers ps) = subst AreApart (sym (numbers_standing w.parts)) k.apart in
    let near : AreNear w.moment ps = all_standing (λ (p : ComponentState). AllByRecursion (IsNear w.moment) p.children) w.parts k.near in
    let coming : AreNamesApart (names (map fresh_part ns)) = subst AreNamesApart (sym (began_names 0 counts fs)) a in
    record {
      few = few;
      time = k.time;
      near = near_newcomers w.moment cs rs bare (near_kids w.moment rs ps same near);
      apart = subst AreApart (sym (numbers_newcomers cs rs bare)) (apart_kids rs ps same apart);
      names = apart_newcomers cs rs (apart_kept (λ (n : Coming). not (is_held_by ps n)) ns coming) (new_same ps rs cs stay.0 (new_newcomers ns ps))
          (subst AreNamesApart (sym stay.0) (apart_filter (λ (p : ComponentState). not (is_over p)) w.parts k.names));
      named = named_newcomers cs rs bare stay.1;
    }
