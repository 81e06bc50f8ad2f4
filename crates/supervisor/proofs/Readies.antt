-- Items that are made ready one after another.
use Rattle.std.proofs.Common.{◌≡◌, ◌<◌, ◌≤◌, ◌+◌, ◌++◌, ℕ, suc, zero, List, [], ◌∷◌, length, map, Some, slice_get, refl, sym, ap, ◌∙◌, arith, subst, ◌⊎◌, inl}
use Rattle.std.proofs.Common.{inr, Bool, true, false, filter}
use Rattle.std.specs.Prelude.{if◌then◌else◌}
use Rattle.std.specs.List.{AllByRecursion}
use Rattle.std.proofs.lemmas.List.{length-map}
use Rattle.records.specs.Stored.{Item}
use Rattle.records.specs.declared.record.Origin.{Origin}
use Rattle.device.specs.Plans.{HasSomeRecipe, AreRising, item_name}
use Rattle.device.specs.Scopes.{HasScope}
use Rattle.components.specs.Fitted.{Fitted, name_of}
use Rattle.components.specs.Made.{IsFittedAt, AreFitted}
use Rattle.components.specs.Readied.{AreFresh, AreNamesApart, IsFresh}
use Rattle.components.specs.Components.{ComponentState}
use Rattle.components.proofs.Meets.{fit_names}
use Rattle.components.proofs.Names.{names, rise_apart}

abbrev fitted_all : List ComponentState → List Fitted
fitted_all ps = map (λ (p : ComponentState). p.fitted) ps

-- so many are ready
pub record AreReady (origin : Origin) (items : List Item) (n : ℕ) (ps : List ComponentState) : Type 0 where
  pub many : length (fitted_all ps) ≡ n
  pub each : (j : ℕ) (f : Fitted) → slice_get (fitted_all ps) j ≡ Some f → IsFittedAt origin items j f
  pub fresh : AreFresh ps

pub none_ready : (origin : Origin) (items : List Item) → AreReady origin items 0 []
none_ready origin items = record { many = refl; each = λ j f e. absurd (cc); fresh = tt }

got_last : (fs : List Fitted) (g : Fitted) (j : ℕ) (f : Fitted) → slice_get (fs ++ g ∷ []) j ≡ Some f → (slice_get fs j ≡ Some f) ⊎ ((j ≡ length fs) × (g ≡ f))
got_last [] g zero f e = inr (refl, (let q : g ≡ f = cc in q))
got_last [] g (suc j) f e = absurd (cc)
got_last (x ∷ xs) g zero f e = inl e
got_last (x ∷ xs) g (suc j) f e = elim (got_last xs g j f e) [ inl h ↦ inl h | inr h ↦ inr (ap suc h.0, h.1) ]

fitted_last : (ps : List ComponentState) (p : ComponentState) → fitted_all (ps ++ p ∷ []) ≡ fitted_all ps ++ p.fitted ∷ []
fitted_last [] p = refl
fitted_last (q ∷ qs) p = ap (λ (fs : List Fitted). q.fitted ∷ fs) (fitted_last qs p)

length_last : (fs : List Fitted) (g : Fitted) → length (fs ++ g ∷ []) ≡ length fs + 1
length_last [] g = refl
length_last (x ∷ xs) g = ap suc (length_last xs g) ∙ omega arith

fresh_last : (ps : List ComponentState) (p : ComponentState) → AreFresh ps → IsFresh p → AreFresh (ps ++ p ∷ [])
fresh_last [] p h f = (f, tt)
fresh_last (q ∷ qs) p h f = (h.0, fresh_last qs p h.1 f)

pub one_more : (origin : Origin) (items : List Item) (n : ℕ) (ps : List ComponentState) (p : ComponentState) → AreReady origin items n ps → IsFittedAt origin
    items n p.fitted → IsFresh p → AreReady origin items (n + 1) (ps ++ p ∷ [])
one_more origin items n ps p r h g = record {
  many = ap length (fitted_last ps p) ∙ length_last (fitted_all ps) p.fitted ∙ ap (λ (k : ℕ). k + 1) r.many;
  each = λ j f e. elim (got_last (fitted_all ps) p.fitted j f (subst (λ (fs : List Fitted). slice_get fs j ≡ Some f) (fitted_last ps p) e)) [
    | inl a ↦ r.each j f a
    | inr a ↦ subst (λ (k : ℕ). IsFittedAt origin items k f) (sym (a.0 ∙ r.many)) (subst (IsFittedAt origin items n) a.1 h)
  ];
  fresh = fresh_last ps p r.fresh g;
}

pub all_ready : (origin : Origin) (items : List Item) (n : ℕ) (ps : List ComponentState) → n ≡ length items → AreReady origin items n ps → AreFitted origin
    items (fitted_all ps)
all_ready origin items n ps e r = record { many = r.many ∙ e; each = r.each }

fitted_names : (is : List Item) (fs : List Fitted) → length fs ≡ length is →
    ((j : ℕ) (f : Fitted) → slice_get fs j ≡ Some f → (i : Item) × (slice_get is j ≡ Some i) × (f.item ≡ i)) → map name_of fs ≡ map item_name is
fitted_names [] [] e h = refl
fitted_names [] (f ∷ fs) e h = absurd (omega (arith, e))
fitted_names (i ∷ is) [] e h = absurd (omega (arith, e))
fitted_names (i ∷ is) (f ∷ fs) e h =
    let g = h zero f refl in
    let s = g.1 in
    let t : i ≡ g.0 = cc in
    ap (λ (x : Item). x.name ∷ map name_of fs) (g.2 ∙ sym t) ∙ ap (λ (ns : List (List ℕ)). i.name ∷ ns)
    (fitted_names is fs (omega (arith, e)) (λ j x n. h (suc j) x n))

-- the names of what is ready stand once
pub ready_apart : (origin : Origin) (items : List Item) (ps : List ComponentState) → AreFitted origin items (fitted_all ps) → AreRising (map item_name items) →
    AreNamesApart (names ps)
ready_apart origin items ps a r =
    let e = fitted_names items (fitted_all ps) a.many (λ j f n. let i = a.each j f n in (i.is_scope.item, i.is_scope.there, i.item)) in
    subst AreNamesApart (sym e ∙ fit_names ps) (rise_apart (map item_name items) r)

pub ready_few : (origin : Origin) (items : List Item) (ps : List ComponentState) → AreFitted origin items (fitted_all ps) → length items ≤ 128 → length ps ≤ 128
ready_few origin items ps a l =
    let m = a.many in
    let e = length-map ps (λ (p : ComponentState). p.fitted) in
    omega (arith, m, e, l)

pub has_scope : (origin : Origin) (items : List Item) (k : ℕ) → k < length items → AllByRecursion (λ i. HasSomeRecipe origin.platform i.recipe) items →
    HasScope origin items k
has_scope origin [] k l h = absurd (omega (arith, l))
has_scope origin (i ∷ is) zero l h = record { item = i; there = refl; recipe = h.0.0; reads = h.0.1 }
has_scope origin (i ∷ is) (suc k) l h = let r = has_scope origin is k (omega (arith, l)) h.1 in
    record { item = r.item; there = r.there; recipe = r.recipe; reads = r.reads }

few_at : (b : Bool) (p : ComponentState) (qs ps : List ComponentState) → length qs ≤ length ps → length (if b then p ∷ qs else qs) ≤ length (p ∷ ps)
few_at true p qs ps l = omega (arith, l)
few_at false p qs ps l = omega (arith, l)

pub filter_few : (t : ComponentState → Bool) (ps : List ComponentState) → length (filter t ps) ≤ length ps
filter_few t [] = omega arith
filter_few t (p ∷ ps) = few_at (t p) p (filter t ps) ps (filter_few t ps)
