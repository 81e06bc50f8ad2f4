-- Components and those that come for them, found by name.
use Rattle.std.proofs.Common.{◌≡◌, ◌<◌, ◌≤◌, ◌+◌, ℕ, suc, zero, List, [], ◌∷◌, ◌++◌, length, Bool, true, false, Option, Some, None, refl, sym, ap, ◌∙◌, arith}
use Rattle.std.proofs.Common.{subst, map, filter, inl, inr, get_or, take, drop, add-one}
use Rattle.std.specs.Prelude.{◌&&◌, ◌||◌, not, if◌then◌else◌, cond, option_map}
use Rattle.std.specs.List.{list_any, AllByRecursion, All, Contains, find, remove}
use Rattle.std.specs.Str.{bytes_eq}
use Rattle.std.proofs.Math.ListN.{set}
use Rattle.std.proofs.lemmas.List.{take_more}
use Rattle.nuc_base.proofs.Lists.{in_nil, in_cons, in_here, in_there, in_map, from_map}
use Rattle.components.specs.Changes.{Coming, coming_for, counted, fate, fresh_part, leaving, meeting, newcomers, placed, with_newcomers}
use Rattle.components.specs.Fitted.{Fitted, name_of, is_before}
use Rattle.components.specs.Flags.{with_flags}
use Rattle.components.specs.Marks.{Flagged, flagged}
use Rattle.components.specs.Merges.{has_name, unmet, without}
use Rattle.components.specs.Readied.{AreFresh, AreNamesApart, KeepSteps, coming_of}
use Rattle.components.specs.Components.{ComponentState, At, component_name, place_of, place_from}
use Rattle.components.proofs.Names.{names, same_name}

abbrev pub fits : List ComponentState → List Fitted
fits ps = map (λ (p : ComponentState). p.fitted) ps

pub none_left : (a b : Bool) → (a || b) ≡ false → a ≡ false
none_left true b e = e
none_left false b e = refl

pub none_right : (a b : Bool) → (a || b) ≡ false → b ≡ false
none_right true b e = absurd (cc)
none_right false b e = e

pub none_both : (a b : Bool) → a ≡ false → b ≡ false → (a || b) ≡ false
none_both true b e f = e
none_both false b e f = f

or_false : (b : Bool) → (b || false) ≡ b
or_false true = refl
or_false false = refl

or_again : (a b c : Bool) → (a || (b || c)) ≡ ((a || b) || c)
or_again true b c = refl
or_again false b c = refl

not_or : (a b : Bool) → (not a && not b) ≡ not (a || b)
not_or true b = refl
not_or false b = refl

-- ---- a search by name

pub place_here : (j k : ℕ) (name : List ℕ) (ps : List ComponentState) → At k (λ p. true ≡ bytes_eq name (component_name p)) ps →
    Some j ≡ place_from j name (drop k ps)
place_here j k name [] h = absurd h
place_here j zero name (p ∷ ps) h = ap (λ (b : Bool). if b then Some j else place_from (j + 1) name ps) h
place_here j (suc k) name (p ∷ ps) h = place_here j k name ps h

pub place_skip : (j k : ℕ) (name : List ℕ) (ps : List ComponentState) → At k (λ p. false ≡ bytes_eq name (component_name p)) ps →
    place_from j name (drop k ps) ≡ place_from (j + 1) name (drop (k + 1) ps)
place_skip j k name [] h = absurd h
place_skip j zero name (p ∷ ps) h = sym (ap (λ (b : Bool). if b then Some j else place_from (j + 1) name ps) h)
place_skip j (suc k) name (p ∷ ps) h = rw (add-one (suc k)) (rw (add-one k) at (place_skip j k name ps h))

-- the first one of the name stands there
pub record Found (name : List ℕ) (ps : List ComponentState) (i : ℕ) : Type 0 where
  pub below : i < length ps
  pub found : (d : ComponentState) → find (has_name name) ps ≡ Some (get_or ps i d)
  pub rest : without name ps ≡ remove ps i

found_here : (name : List ℕ) (p : ComponentState) (ps : List ComponentState) → bytes_eq name (component_name p) ≡ true → Found name (p ∷ ps) 0
found_here name p ps e = record {
  below = omega arith;
  found = λ d. ap (λ (b : Bool). cond b (Some p) (find (has_name name) ps)) e;
  rest = ap (λ (b : Bool). if b then ps else p ∷ without name ps) e;
}

found_there : (name : List ℕ) (p : ComponentState) (ps : List ComponentState) (i : ℕ) → bytes_eq name (component_name p) ≡ false → Found name ps i →
    Found name (p ∷ ps) (suc i)
found_there name p ps i e f = record {
  below = let l = f.below in omega (arith, l);
  found = λ d. ap (λ (b : Bool). cond b (Some p) (find (has_name name) ps)) e ∙ f.found d;
  rest = ap (λ (b : Bool). if b then ps else p ∷ without name ps) e ∙ ap (λ (qs : List ComponentState). p ∷ qs) f.rest;
}

found_at : (b : Bool) (name : List ℕ) (j k : ℕ) (p : ComponentState) (ps : List ComponentState) → bytes_eq name (component_name p) ≡ b →
    ◌≡◌ {A = Option ℕ} (if b then Some j else place_from (j + 1) name ps) (Some k)
    → (place_from (j + 1) name ps ≡ Some k → (i : ℕ) × (k ≡ j + 1 + i) × Found name ps i) → (i : ℕ) × (k ≡ j + i) × Found name (p ∷ ps) i
found_at true name j k p ps e h f =
    let q : j ≡ k = cc in
    let g : k ≡ j + 0 = omega (arith, q) in
    (0, g, found_here name p ps e)
found_at false name j k p ps e h f =
    let r = f h in
    let q = r.1 in
    let g : k ≡ j + suc r.0 = omega (arith, q) in
    (suc r.0, g, found_there name p ps r.0 e r.2)

found_from : (name : List ℕ) (j k : ℕ) (ps : List ComponentState) → place_from j name ps ≡ Some k → (i : ℕ) × (k ≡ j + i) × Found name ps i
found_from name j k [] h = absurd (cc)
found_from name j k (p ∷ ps) h = found_at (bytes_eq name (component_name p)) name j k p ps refl h (found_from name (j + 1) k ps)

pub found_place : (name : List ℕ) (k : ℕ) (ps : List ComponentState) → Some k ≡ place_of name ps → Found name ps k
found_place name k ps h =
    let r = found_from name 0 k ps (sym h) in
    let q = r.1 in
    let e : r.0 ≡ k = omega (arith, q) in
    subst (λ (i : ℕ). Found name ps i) e r.2

-- none of the name is there
pub record Lacks (name : List ℕ) (ps : List ComponentState) : Type 0 where
  pub found : find (has_name name) ps ≡ None
  pub rest : without name ps ≡ ps

lacks_at : (b : Bool) (name : List ℕ) (j : ℕ) (p : ComponentState) (ps : List ComponentState) → bytes_eq name (component_name p) ≡ b →
    ◌≡◌ {A = Option ℕ} (if b then Some j else place_from (j + 1) name ps) None
    → (place_from (j + 1) name ps ≡ None → Lacks name ps) → Lacks name (p ∷ ps)
lacks_at true name j p ps e h f = absurd (cc)
lacks_at false name j p ps e h f = let r = f h in record {
  found = ap (λ (b : Bool). cond b (Some p) (find (has_name name) ps)) e ∙ r.found;
  rest = ap (λ (b : Bool). if b then ps else p ∷ without name ps) e ∙ ap (λ (qs : List ComponentState). p ∷ qs) r.rest;
}

lacks_from : (name : List ℕ) (j : ℕ) (ps : List ComponentState) → place_from j name ps ≡ None → Lacks name ps
lacks_from name j [] h = record { found = refl; rest = refl }
lacks_from name j (p ∷ ps) h = lacks_at (bytes_eq name (component_name p)) name j p ps refl h (lacks_from name (j + 1) ps)

pub lacks_place : (name : List ℕ) (ps : List ComponentState) → None ≡ place_of name ps → Lacks name ps
lacks_place name ps h = lacks_from name 0 ps (sym h)

-- ---- what comes for one

coming_at : (b : Bool) (name : List ℕ) (q : ComponentState) (ns : Option Coming) (qs : Option ComponentState) → ns ≡ option_map coming_of qs →
    cond b (Some (coming_of q)) ns ≡ option_map coming_of (cond b (Some q) qs)
coming_at true name q ns qs e = refl
coming_at false name q ns qs e = e

pub coming_is : (name : List ℕ) (qs : List ComponentState) → coming_for name (map coming_of qs) ≡ option_map coming_of (find (has_name name) qs)
coming_is name [] = refl
coming_is name (q ∷ qs) = coming_at (has_name name q) name q (coming_for name (map coming_of qs)) (find (has_name name) qs) (coming_is name qs)

abbrev fate_of : ComponentState → Option Coming → ComponentState
fate_of p o = elim o [ None ↦ leaving p | Some n ↦ meeting n p ]

pub fate_none : (p : ComponentState) (qs : List ComponentState) → None ≡ find (has_name (component_name p)) qs → leaving p ≡ fate (map coming_of qs) p
fate_none p qs e = ap (fate_of p) (ap (option_map coming_of) e ∙ sym (coming_is (component_name p) qs))

pub fate_some : (p q : ComponentState) (qs : List ComponentState) → Some q ≡ find (has_name (component_name p)) qs →
    meeting (coming_of q) p ≡ fate (map coming_of qs) p
fate_some p q qs e = ap (fate_of p) (ap (option_map coming_of) e ∙ sym (coming_is (component_name p) qs))

in_found_at : (b : Bool) (q x : ComponentState) (qs : List ComponentState) (o : Option ComponentState) → ◌≡◌ {A = Option ComponentState} (cond b (Some q) o)
    (Some x) → (o ≡ Some x → Contains qs x) → Contains (q ∷ qs) x
in_found_at true q x qs o e f = let g : q ≡ x = cc in subst (Contains (q ∷ qs)) g (in_here q qs)
in_found_at false q x qs o e f = in_there q qs x (f e)

pub in_found : (t : ComponentState → Bool) (qs : List ComponentState) (x : ComponentState) → find t qs ≡ Some x → Contains qs x
in_found t [] x e = absurd (cc)
in_found t (q ∷ qs) x e = in_found_at (t q) q x qs (find t qs) e (in_found t qs x)

pub all_in : (P : ComponentState → Type 0) (qs : List ComponentState) (x : ComponentState) → AllByRecursion P qs → Contains qs x → P x
all_in P [] x h i = absurd (in_nil x i)
all_in P (q ∷ qs) x h i = elim (in_cons q qs x i) [ inl e ↦ subst P e h.0 | inr j ↦ all_in P qs x h.1 j ]

-- ---- filters

filter_at : (b c : Bool) (q : ComponentState) (xs ys : List ComponentState) → b ≡ c → xs ≡ ys → cond b (q ∷ xs) xs ≡ cond c (q ∷ ys) ys
filter_at b c q xs ys e f = ap (λ (a : Bool). cond a (q ∷ xs) xs) e ∙ ap (λ (zs : List ComponentState). cond c (q ∷ zs) zs) f

pub filter_alike : (f g : ComponentState → Bool) → ((p : ComponentState) → f p ≡ g p) → (qs : List ComponentState) → filter f qs ≡ filter g qs
filter_alike f g e [] = refl
filter_alike f g e (q ∷ qs) = filter_at (f q) (g q) q (filter f qs) (filter g qs) (e q) (filter_alike f g e qs)

filter_two_at : (a b : Bool) (f : ComponentState → Bool) (q : ComponentState) (xs : List ComponentState) → f q ≡ b →
    filter f (cond a (q ∷ xs) xs) ≡ cond (a && b) (q ∷ filter f xs) (filter f xs)
filter_two_at true b f q xs e = ap (λ (c : Bool). cond c (q ∷ filter f xs) (filter f xs)) e
filter_two_at false b f q xs e = refl

pub filter_two : (f g : ComponentState → Bool) (qs : List ComponentState) → filter f (filter g qs) ≡ filter (λ q. g q && f q) qs
filter_two f g [] = refl
filter_two f g (q ∷ qs) = filter_two_at (g q) (f q) f q (filter g qs) refl ∙ ap (λ (xs : List ComponentState). cond (g q && f q) (q ∷ xs) xs)
    (filter_two f g qs)

filter_whole_at : (b : Bool) (q : ComponentState) (xs ys : List ComponentState) → b ≡ true → xs ≡ ys → cond b (q ∷ xs) xs ≡ q ∷ ys
filter_whole_at true q xs ys e f = ap (λ (zs : List ComponentState). q ∷ zs) f
filter_whole_at false q xs ys e f = absurd (cc)

in_filter_at : (b : Bool) (q x : ComponentState) (xs qs : List ComponentState) → Contains (cond b (q ∷ xs) xs) x → (Contains xs x → Contains qs x) →
    Contains (q ∷ qs) x
in_filter_at true q x xs qs i f = elim (in_cons q xs x i) [ inl e ↦ subst (Contains (q ∷ qs)) e (in_here q qs) | inr j ↦ in_there q qs x (f j) ]
in_filter_at false q x xs qs i f = in_there q qs x (f i)

pub in_filter : (t : ComponentState → Bool) (qs : List ComponentState) (x : ComponentState) → Contains (filter t qs) x → Contains qs x
in_filter t [] x i = i
in_filter t (q ∷ qs) x i = in_filter_at (t q) q x (filter t qs) qs i (in_filter t qs x)

all_filter_at : (P : ComponentState → Type 0) (b : Bool) (q : ComponentState) (xs : List ComponentState) → P q → AllByRecursion P xs →
    AllByRecursion P (cond b (q ∷ xs) xs)
all_filter_at P true q xs h a = (h, a)
all_filter_at P false q xs h a = a

pub all_filter : (P : ComponentState → Type 0) (t : ComponentState → Bool) (qs : List ComponentState) → AllByRecursion P qs → AllByRecursion P (filter t qs)
all_filter P t [] h = tt
all_filter P t (q ∷ qs) h = all_filter_at P (t q) q (filter t qs) h.0 (all_filter P t qs h.1)

filter_map_at : (b : Bool) (f : Coming → ComponentState) (n : Coming) (xs : List Coming) (ys : List ComponentState) → ys ≡ map f xs →
    cond b (f n ∷ ys) ys ≡ map f (cond b (n ∷ xs) xs)
filter_map_at true f n xs ys e = ap (λ (zs : List ComponentState). f n ∷ zs) e
filter_map_at false f n xs ys e = e

pub filter_map : (t : ComponentState → Bool) (f : Coming → ComponentState) (ns : List Coming) →
    filter t (map f ns) ≡ map f (filter (λ (n : Coming). t (f n)) ns)
filter_map t f [] = refl
filter_map t f (n ∷ ns) = filter_map_at (t (f n)) f n (filter (λ (m : Coming). t (f m)) ns) (filter t (map f ns)) (filter_map t f ns)

-- ---- names that stand once

any_filter_at : (b : Bool) (n : List ℕ) (q : ComponentState) (xs qs : List ComponentState) → list_any (bytes_eq n) (names (q ∷ qs)) ≡ false →
    (list_any (bytes_eq n) (names qs) ≡ false → list_any (bytes_eq n) (names xs) ≡ false)
    → list_any (bytes_eq n) (names (cond b (q ∷ xs) xs)) ≡ false
any_filter_at true n q xs qs h f = none_both (bytes_eq n (component_name q)) (list_any (bytes_eq n) (names xs))
    (none_left (bytes_eq n (component_name q)) (list_any (bytes_eq n) (names qs)) h)
    (f (none_right (bytes_eq n (component_name q)) (list_any (bytes_eq n) (names qs)) h))
any_filter_at false n q xs qs h f = f (none_right (bytes_eq n (component_name q)) (list_any (bytes_eq n) (names qs)) h)

any_filter : (n : List ℕ) (t : ComponentState → Bool) (qs : List ComponentState) → list_any (bytes_eq n) (names qs) ≡ false →
    list_any (bytes_eq n) (names (filter t qs)) ≡ false
any_filter n t [] h = refl
any_filter n t (q ∷ qs) h = any_filter_at (t q) n q (filter t qs) qs h (any_filter n t qs)

apart_filter_at : (b : Bool) (q : ComponentState) (xs : List ComponentState) → list_any (bytes_eq (component_name q)) (names xs) ≡ false →
    AreNamesApart (names xs) → AreNamesApart (names (cond b (q ∷ xs) xs))
apart_filter_at true q xs n a = (n, a)
apart_filter_at false q xs n a = a

pub apart_filter : (t : ComponentState → Bool) (qs : List ComponentState) → AreNamesApart (names qs) → AreNamesApart (names (filter t qs))
apart_filter t [] h = tt
apart_filter t (q ∷ qs) h = apart_filter_at (t q) q (filter t qs) (any_filter (component_name q) t qs h.0) (apart_filter t qs h.1)

-- none of them has the name
whole_but : (n : List ℕ) (qs : List ComponentState) → list_any (bytes_eq n) (names qs) ≡ false → filter (λ q. not (has_name n q)) qs ≡ qs
whole_but n [] h = refl
whole_but n (q ∷ qs) h = filter_whole_at (not (has_name n q)) q (filter (λ r. not (has_name n r)) qs) qs
    (ap not (none_left (has_name n q) (list_any (bytes_eq n) (names qs)) h)) (whole_but n qs (none_right (has_name n q) (list_any (bytes_eq n) (names qs)) h))

without_at : (b : Bool) (n : List ℕ) (q : ComponentState) (qs : List ComponentState) → has_name n q ≡ b → AreNamesApart (names (q ∷ qs)) →
    without n qs ≡ filter (λ r. not (has_name n r)) qs
    → (if b then qs else q ∷ without n qs) ≡ cond (not b) (q ∷ filter (λ r. not (has_name n r)) qs) (filter (λ r. not (has_name n r)) qs)
without_at true n q qs e a f = sym (whole_but n qs (subst (λ (m : List ℕ). list_any (bytes_eq m) (names qs) ≡ false) (sym (same_name n (component_name q) e))
    a.0))
without_at false n q qs e a f = ap (λ (xs : List ComponentState). q ∷ xs) f

pub without_is : (n : List ℕ) (qs : List ComponentState) → AreNamesApart (names qs) → without n qs ≡ filter (λ q. not (has_name n q)) qs
without_is n [] a = refl
without_is n (q ∷ qs) a = without_at (has_name n q) n q qs refl a (without_is n qs a.1)

-- ---- one after another

any_at : (n : List ℕ) (ps : List ComponentState) (k : ℕ) (d : ComponentState) → k < length ps → list_any (bytes_eq n) (names ps) ≡ false →
    bytes_eq n (component_name (get_or ps k d)) ≡ false
any_at n [] k d l h = absurd (omega (arith, l))
any_at n (p ∷ ps) zero d l h = none_left (bytes_eq n (component_name p)) (list_any (bytes_eq n) (names ps)) h
any_at n (p ∷ ps) (suc k) d l h = any_at n ps k d (omega (arith, l)) (none_right (bytes_eq n (component_name p)) (list_any (bytes_eq n) (names ps)) h)

-- whether one of them has its name
abbrev pub is_among : List ComponentState → ComponentState → Bool
is_among ps q = list_any (λ p. has_name (component_name p) q) ps

pub among_before : (ps : List ComponentState) (k : ℕ) (d : ComponentState) → k < length ps → AreNamesApart (names ps) → is_among (take k ps) (get_or ps k d)
    ≡ false
among_before [] k d l a = absurd (omega (arith, l))
among_before (p ∷ ps) zero d l a = refl
among_before (p ∷ ps) (suc k) d l a =
    none_both (bytes_eq (component_name p) (component_name (get_or ps k d))) (is_among (take k ps) (get_or ps k d))
    (any_at (component_name p) ps k d (omega (arith, l)) a.0) (among_before ps k d (omega (arith, l)) a.1)

find_filter_at : (b : Bool) (t : ComponentState → Bool) (q : ComponentState) (xs qs : List ComponentState) → (b ≡ false → t q ≡ false) →
    find t xs ≡ find t qs → find t (cond b (q ∷ xs) xs) ≡ find t (q ∷ qs)
find_filter_at true t q xs qs h e = ap (λ (o : Option ComponentState). cond (t q) (Some q) o) e
find_filter_at false t q xs qs h e = e ∙ sym (ap (λ (c : Bool). cond c (Some q) (find t qs)) (h refl))

find_filter : (t k : ComponentState → Bool) → ((q : ComponentState) → k q ≡ false → t q ≡ false) → (qs : List ComponentState) → find t (filter k qs) ≡ find t qs
find_filter t k h [] = refl
find_filter t k h (q ∷ qs) = find_filter_at (k q) t q (filter k qs) qs (h q) (find_filter t k h qs)

other_name : (b c : Bool) (ps : List ComponentState) (p q : ComponentState) → is_among ps p ≡ false → is_among ps q ≡ c → not c ≡ false →
    has_name (component_name p) q ≡ b → b ≡ false
other_name false c ps p q a m n e = refl
other_name true c ps p q a m n e =
    let s : component_name p ≡ component_name q = same_name (component_name p) (component_name q) e in
    let f : is_among ps q ≡ false = subst (λ (x : List ℕ). list_any (λ r. bytes_eq (component_name r) x) ps ≡ false) s a in
    let g : c ≡ false = sym m ∙ f in
    let h : not c ≡ true = ap not g in
    absurd (cc)

pub find_unmet : (ps : List ComponentState) (p : ComponentState) (qs : List ComponentState) → is_among ps p ≡ false →
    find (has_name (component_name p)) (unmet ps qs) ≡ find (has_name (component_name p)) qs
find_unmet ps p qs a = find_filter (has_name (component_name p)) (λ q. not (is_among ps q))
    (λ q n. other_name (has_name (component_name p) q) (is_among ps q) ps p q a refl n refl) qs

pub fate_unmet : (ps : List ComponentState) (p : ComponentState) (qs : List ComponentState) → is_among ps p ≡ false → fate (map coming_of (unmet ps qs)) p
    ≡ fate (map coming_of qs) p
fate_unmet ps p qs a = ap (fate_of p) (coming_is (component_name p) (unmet ps qs) ∙ ap (option_map coming_of) (find_unmet ps p qs a) ∙ sym
    (coming_is (component_name p) qs))

any_last : (t : ComponentState → Bool) (ps : List ComponentState) (p : ComponentState) → list_any t (ps ++ p ∷ []) ≡ (list_any t ps || t p)
any_last t [] p = or_false (t p)
any_last t (q ∷ ps) p = ap (λ (b : Bool). t q || b) (any_last t ps p) ∙ or_again (t q) (list_any t ps) (t p)

pub unmet_none : (qs : List ComponentState) → qs ≡ unmet [] qs
unmet_none [] = refl
unmet_none (q ∷ qs) = ap (λ (xs : List ComponentState). q ∷ xs) (unmet_none qs)

-- one more was met
pub unmet_more : (ps : List ComponentState) (k : ℕ) (d p : ComponentState) (qs xs : List ComponentState) → k < length ps → p ≡ get_or ps k d →
    AreNamesApart (names qs) → xs ≡ without (component_name p) (unmet (take k ps) qs) → xs ≡ unmet (take (k + 1) ps) qs
unmet_more ps k d p qs xs l e a h =
    let t : ComponentState → Bool = λ (q : ComponentState). not (is_among (take k ps) q) in
    let u : ComponentState → Bool = λ (q : ComponentState). not (has_name (component_name p) q) in
    h ∙ without_is (component_name p) (unmet (take k ps) qs) (apart_filter t qs a) ∙ filter_two u t qs
    ∙ filter_alike (λ q. t q && u q) (λ q. not (is_among (take k ps ++ p ∷ []) q))
    (λ q. not_or (is_among (take k ps) q) (has_name (component_name p) q) ∙ ap not (sym (any_last (λ r. has_name (component_name r) q) (take k ps) p))) qs
    ∙ ap (λ (x : ComponentState). unmet (take k ps ++ x ∷ []) qs) e ∙ ap (λ (rs : List ComponentState). unmet rs qs) (sym (take_more ps k d l))

-- an item that a component has already has the steps that it had
pub keeps_one : (ps : List ComponentState) (p : ComponentState) (qs : List ComponentState) (t : ComponentState → Bool) → Contains ps p →
    KeepSteps (fits qs) ps → KeepSteps (fits (filter t qs)) (p ∷ [])
keeps_one ps p qs t i h = λ f x inf inx same.
    let r = from_map (λ (q : ComponentState). q.fitted) (filter t qs) f inf in
    let m : Contains (fits qs) f = subst (Contains (fits qs)) r.2 (in_map (λ (q : ComponentState). q.fitted) qs r.0 (in_filter t qs r.0 r.1)) in
    elim (in_cons p [] x inx) [
      | inl e ↦ h f x m (subst (Contains ps) e i) same
      | inr j ↦ absurd (in_nil x j)
    ]

-- ---- those that come begin with their failures

pub set_more : (ts xs ys : List ComponentState) (k : ℕ) (d t : ComponentState) → length ts ≡ length xs → k < length xs → length ys ≡ length xs →
    t ≡ get_or ts k d → take k ys ≡ take k ts → drop k ys ≡ drop k xs
    → (take (k + 1) (set ys k t) ≡ take (k + 1) ts) × (drop (k + 1) (set ys k t) ≡ drop (k + 1) xs)
set_more ts [] ys k d t m l n h a b = absurd (omega (arith, l))
set_more [] (x ∷ xs) ys k d t m l n h a b = absurd (omega (arith, m))
set_more (s ∷ ts) (x ∷ xs) [] k d t m l n h a b = absurd (omega (arith, n))
set_more (s ∷ ts) (x ∷ xs) (y ∷ ys) zero d t m l n h a b = let e : ys ≡ xs = cc in (ap (λ (p : ComponentState). p ∷ []) h, e)
set_more (s ∷ ts) (x ∷ xs) (y ∷ ys) (suc k) d t m l n h a b =
    let e : y ≡ s = cc in
    let f : take k ys ≡ take k ts = cc in
    let i = set_more ts xs ys k d t (omega (arith, m)) (omega (arith, l)) (omega (arith, n)) h f b in
    rw add-one (
      let j = rw add-one at i.0 in ap (λ (p : ComponentState). p ∷ take (suc k) (set ys k t)) e ∙ ap (λ (ps : List ComponentState). s ∷ ps) j,
      rw add-one at i.1,
    )

pub got_same : (xs ys : List ComponentState) (k : ℕ) (d : ComponentState) → k < length xs → k < length ys → drop k ys ≡ drop k xs →
    get_or ys k d ≡ get_or xs k d
got_same [] ys k d l m e = absurd (omega (arith, l))
got_same (x ∷ xs) [] k d l m e = absurd (omega (arith, m))
got_same (x ∷ xs) (y ∷ ys) zero d l m e = cc
got_same (x ∷ xs) (y ∷ ys) (suc k) d l m e = got_same xs ys k d (omega (arith, l)) (omega (arith, m)) e

pub in_got : (xs : List ComponentState) (k : ℕ) (d : ComponentState) → k < length xs → Contains xs (get_or xs k d)
in_got [] k d l = absurd (omega (arith, l))
in_got (x ∷ xs) zero d l = in_here x xs
in_got (x ∷ xs) (suc k) d l = in_there x xs (get_or xs k d) (in_got xs k d (omega (arith, l)))

abbrev pub began : ℕ → List ℕ → List Fitted → List ComponentState
began j counts fs = map fresh_part (counted j counts fs)

pub began_length : (j : ℕ) (counts : List ℕ) (ps : List ComponentState) → length (began j counts (fits ps)) ≡ length ps
began_length j counts [] = refl
began_length j counts (p ∷ ps) = ap suc (began_length (suc j) counts ps)

began_got_from : (j : ℕ) (counts : List ℕ) (ps : List ComponentState) (k : ℕ) (d : ComponentState) → k < length ps → get_or (began j counts (fits ps)) k d
    ≡ fresh_part ((get_or ps k d).fitted, get_or counts (j + k) 0)
began_got_from j counts [] k d l = absurd (omega (arith, l))
began_got_from j counts (p ∷ ps) zero d l = ap (λ (i : ℕ). fresh_part (p.fitted, get_or counts i 0)) (let e : j ≡ j + 0 = omega arith in e)
began_got_from j counts (p ∷ ps) (suc k) d l =
    began_got_from (suc j) counts ps k d (omega (arith, l)) ∙ ap (λ (i : ℕ). fresh_part ((get_or ps k d).fitted, get_or counts i 0))
    (let e : suc j + k ≡ j + suc k = omega arith in e)

pub began_got : (counts : List ℕ) (ps : List ComponentState) (k : ℕ) (d : ComponentState) → k < length ps → get_or (began 0 counts (fits ps)) k d ≡ fresh_part
    ((get_or ps k d).fitted, get_or counts k 0)
began_got counts ps k d l =
    let e : 0 + k ≡ k = omega arith in
    began_got_from 0 counts ps k d l ∙ ap (λ (i : ℕ). fresh_part ((get_or ps k d).fitted, get_or counts i 0)) e

few_got : (counts : List ℕ) (k : ℕ) → All (λ (n : ℕ). n < 3) counts → get_or counts k 0 < 3
few_got [] k h = omega arith
few_got (c ∷ cs) zero h = h zero 0 (omega arith)
few_got (c ∷ cs) (suc k) h = few_got cs k (λ i d l. h (suc i) d (omega (arith, l)))

pub began_fresh : (j : ℕ) (counts : List ℕ) (fs : List Fitted) → All (λ (n : ℕ). n < 3) counts → AreFresh (began j counts fs)
began_fresh j counts [] h = tt
began_fresh j counts (f ∷ fs) h = (record { is = refl; few = few_got counts j h }, began_fresh (suc j) counts fs h)

pub began_names : (j : ℕ) (counts : List ℕ) (fs : List Fitted) → names (began j counts fs) ≡ map name_of fs
began_names j counts [] = refl
began_names j counts (f ∷ fs) = ap (λ (ns : List (List ℕ)). name_of f ∷ ns) (began_names (suc j) counts fs)

pub began_fits : (j : ℕ) (counts : List ℕ) (fs : List Fitted) → fits (began j counts fs) ≡ fs
began_fits j counts [] = refl
began_fits j counts (f ∷ fs) = ap (λ (gs : List Fitted). f ∷ gs) (began_fits (suc j) counts fs)

pub coming_again_of : (ns : List Coming) → map coming_of (map fresh_part ns) ≡ ns
coming_again_of [] = refl
coming_again_of (n ∷ ns) = ap (λ (ms : List Coming). n ∷ ms) (coming_again_of ns)

pub fit_names : (ps : List ComponentState) → map name_of (fits ps) ≡ names ps
fit_names [] = refl
fit_names (p ∷ ps) = ap (λ (ns : List (List ℕ)). component_name p ∷ ns) (fit_names ps)

pub unmet_newcomers : (ps : List ComponentState) (ns : List Coming) → unmet ps (map fresh_part ns) ≡ newcomers ns ps
unmet_newcomers ps ns = filter_map (λ q. not (is_among ps q)) fresh_part ns

-- ---- flags

pub flags_mapped : (t : ComponentState → Bool) (ps : List ComponentState) → with_flags ps (map t ps) ≡ flagged t ps
flags_mapped t [] = refl
flags_mapped t (p ∷ ps) = ap (λ (fs : Flagged). (p, t p) ∷ fs) (flags_mapped t ps)

-- ---- one more among the others

pub placed_here : (p : ComponentState) (xs : List ComponentState) (k : ℕ) → At k (λ q. true ≡ is_before (component_name p) (component_name q)) xs →
    take k xs ++ p ∷ drop k xs ≡ take k xs ++ placed p (drop k xs)
placed_here p [] k h = absurd h
placed_here p (x ∷ xs) zero h = ap (λ (b : Bool). if b then p ∷ x ∷ xs else x ∷ placed p xs) h
placed_here p (x ∷ xs) (suc k) h = ap (λ (ys : List ComponentState). x ∷ ys) (placed_here p xs k h)

pub placed_skip : (p : ComponentState) (xs : List ComponentState) (k : ℕ) → At k (λ q. false ≡ is_before (component_name p) (component_name q)) xs →
    take k xs ++ placed p (drop k xs) ≡ take (k + 1) xs ++ placed p (drop (k + 1) xs)
placed_skip p [] k h = absurd h
placed_skip p (x ∷ xs) zero h = sym (ap (λ (b : Bool). if b then p ∷ x ∷ xs else x ∷ placed p xs) h)
placed_skip p (x ∷ xs) (suc k) h = rw (add-one (suc k)) (ap (λ (ys : List ComponentState). x ∷ ys) (rw (add-one k) at (placed_skip p xs k h)))

pub placed_last : (p : ComponentState) (xs : List ComponentState) (k : ℕ) → length xs ≤ k → take k xs ++ placed p (drop k xs) ≡ take (length xs) xs ++ p ∷
    drop (length xs) xs
placed_last p [] zero l = refl
placed_last p [] (suc k) l = refl
placed_last p (x ∷ xs) zero l = absurd (omega (arith, l))
placed_last p (x ∷ xs) (suc k) l = ap (λ (ys : List ComponentState). x ∷ ys) (placed_last p xs k (omega (arith, l)))

pub newcomers_last : (ns : List ComponentState) (n : ComponentState) (ps : List ComponentState) → with_newcomers (ns ++ n ∷ []) ps ≡ with_newcomers ns
    (placed n ps)
newcomers_last [] n ps = refl
newcomers_last (m ∷ ns) n ps = ap (placed m) (newcomers_last ns n ps)
