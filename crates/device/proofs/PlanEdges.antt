-- The needs of recipes, by places and by names.
use Rattle.std.proofs.Common.{◌≡◌, ℕ, zero, suc, ◌<◌, ◌≤◌, ◌+◌, List, [], ◌∷◌, ◌++◌, length, drop, get_or, refl, sym, ap, subst, ◌∙◌, arith, inl, inr}
use Rattle.std.proofs.Common.{append_assoc}
use Rattle.std.specs.List.{All, AllByRecursion, AllZip, Contains, HoldsAt}
use Rattle.std.proofs.lemmas.List.{append-nil, drop_all, get_or-map}
use Rattle.std.proofs.lemmas.List.Elements.{All-nil, All-cons, All-append, Contains-append_left, Contains-append_right, Contains-append_cases}
use Rattle.nuc_base.specs.Leads.{HasPath, direct, through}
use Rattle.nuc_base.proofs.Lists.{in_nil, in_cons, in_here, in_there}
use Rattle.dep_order.specs.declared.Need.{Need}
use Rattle.dep_order.specs.declared.Edges.{Edges}
use Rattle.dep_order.specs.Orders.{HasNeed, IsAcyclic}
use Rattle.recipe_reader.specs.declared.recipe.Dependency.{Dependency}
use Rattle.recipe_reader.specs.declared.recipe.Recipe.{Recipe}
use Rattle.records.specs.declared.record.Item as code
use Rattle.device.specs.Plans.{AreRising}
use Rattle.device.specs.PlanNeeds.{names_of, StandsAt, IsMetIn, AreMet, IsNeedOf, AddsNeeds, AreNeeds, NeedsIn, FitsTogether}
use Rattle.device.proofs.PlanLoops.{Goes, goes_start, goes_more, goes_bad, goes_end, next}
use Rattle.device.proofs.PlanPlaces.{element, one_place, met_in, stands_met}

-- ---- rows of needs

-- from a list of dependencies and its needs to each
dependency_of : (items : List code.Item) (from : ℕ) (ds : List Dependency) (row : List Need) (e : Need) → AllZip (IsNeedOf items from) ds row → Contains row e
    → (d : Dependency) × Contains ds d × IsNeedOf items from d e
dependency_of items from [] [] e z h = absurd (in_nil e h)
dependency_of items from [] (n ∷ row) e z h = absurd z
dependency_of items from (d ∷ ds) [] e z h = absurd z
dependency_of items from (d ∷ ds) (n ∷ row) e z h = elim (in_cons n row e h) [
  | inl is ↦ (d, in_here d ds, subst (IsNeedOf items from d) is z.0)
  | inr more ↦ (let r = dependency_of items from ds row e z.1 more in (r.0, in_there d ds r.0 r.1, r.2))
]

need_of : (items : List code.Item) (from : ℕ) (ds : List Dependency) (row : List Need) (d : Dependency) → AllZip (IsNeedOf items from) ds row → Contains ds d
    → (e : Need) × Contains row e × IsNeedOf items from d e
need_of items from [] row d z h = absurd (in_nil d h)
need_of items from (x ∷ ds) [] d z h = absurd z
need_of items from (x ∷ ds) (n ∷ row) d z h = elim (in_cons x ds d h) [
  | inl is ↦ (n, in_here n row, subst (λ y. IsNeedOf items from y n) is z.0)
  | inr more ↦ (let r = need_of items from ds row d z.1 more in (r.0, in_there n row r.0 r.1, r.2))
]

all_met : (items : List code.Item) (from : ℕ) (ds : List Dependency) (row : List Need) → AllZip (IsNeedOf items from) ds row → AllByRecursion (IsMetIn items) ds
all_met items from [] row z = tt
all_met items from (d ∷ ds) [] z = absurd z
all_met items from (d ∷ ds) (n ∷ row) z = (met_in items d n.to z.0.to, all_met items from ds row z.1)

pub needs_met : (items : List code.Item) (from : ℕ) (rs : List Recipe) (needs : List Need) → AreNeeds items from rs needs → AllByRecursion (AreMet items) rs
needs_met items from [] needs n = tt
needs_met items from (r ∷ rs) needs n = (all_met items from r.dependencies n.0 n.3, needs_met items (from + 1) rs n.1 n.4)

-- a need is that of a recipe's dependency
pub record Source (items : List code.Item) (from : ℕ) (rs : List Recipe) (e : Need) : Type 0 where
  pub at : ℕ
  pub below : at < length rs
  pub dependency : Dependency
  pub named : HoldsAt (λ (recipe : Recipe). Contains recipe.dependencies dependency) rs at
  pub is : IsNeedOf items (from + at) dependency e

pub source : (items : List code.Item) (from : ℕ) (rs : List Recipe) (needs : List Need) (e : Need) → AreNeeds items from rs needs → Contains needs e →
    Source items from rs e
source items from [] needs e n h = absurd (in_nil e (subst (λ l. Contains l e) n h))
source items from (r ∷ rs) needs e n h = elim (Contains-append_cases n.0 n.1 e (subst (λ l. Contains l e) n.2 h)) [
  | inl here ↦ (let d = dependency_of items from r.dependencies n.0 e n.3 here in
      record { at = 0; below = omega arith; dependency = d.0; named = λ x. d.1; is = subst (λ k. IsNeedOf items k d.0 e) (omega arith) d.2 })
  | inr there ↦ (let s = source items (from + 1) rs n.1 e n.4 there in
      let below = s.below in
      record {
        at = suc s.at;
        below = omega (arith, below);
        dependency = s.dependency;
        named = s.named;
        is = subst (λ k. IsNeedOf items k s.dependency e)
            (omega arith) s.is;
      })
]

-- each dependency of a recipe has its need
pub target : (items : List code.Item) (from : ℕ) (rs : List Recipe) (needs : List Need) (at : ℕ) (d : Dependency) → AreNeeds items from rs needs →
    at < length rs
    → HoldsAt (λ (recipe : Recipe). Contains recipe.dependencies d) rs at → (e : Need) × Contains needs e × IsNeedOf items (from + at) d e
target items from [] needs at d n h c = absurd (omega (arith, h))
target items from (r ∷ rs) needs zero d n h c =
    let t = need_of items from r.dependencies n.0 d n.3 (c r) in
    (t.0, subst (λ l. Contains l t.0) (sym n.2) (Contains-append_left n.0 n.1 t.0 t.1), subst (λ k. IsNeedOf items k d t.0) (omega arith) t.2)
target items from (r ∷ rs) needs (suc at) d n h c =
    let t = target items (from + 1) rs n.1 at d n.4 (omega (arith, h)) c in
    (t.0, subst (λ l. Contains l t.0) (sym n.2) (Contains-append_right n.0 n.1 t.0 t.1), subst (λ k. IsNeedOf items k d t.0) (omega arith) t.2)

-- the places of needs are those of items
row_nodes : (items : List code.Item) (from count : ℕ) (ds : List Dependency) (row : List Need) → from < length items → length items ≡ count →
    AllZip (IsNeedOf items from) ds row
    → All (λ (e : Need). (e.from < count) × (e.to < count)) row
row_nodes items from count [] [] h same z = All-nil (λ (e : Need). (e.from < count) × (e.to < count))
row_nodes items from count [] (n ∷ row) h same z = absurd z
row_nodes items from count (d ∷ ds) [] h same z = absurd z
row_nodes items from count (d ∷ ds) (n ∷ row) h same z =
    let is = z.0.from in
    let to = z.0.to.below in
    All-cons (λ (e : Need). (e.from < count) × (e.to < count)) n row (omega (arith, is, h, same), omega (arith, to, same))
    (row_nodes items from count ds row h same z.1)

pub nodes : (items : List code.Item) (from count : ℕ) (rs : List Recipe) (needs : List Need) → from + length rs ≤ length items → length items ≡ count →
    AreNeeds items from rs needs
    → All (λ (e : Need). (e.from < count) × (e.to < count)) needs
nodes items from count [] needs h same n = subst (λ l. All (λ (e : Need). (e.from < count) × (e.to < count)) l) (sym n)
    (All-nil (λ (e : Need). (e.from < count) × (e.to < count)))
nodes items from count (r ∷ rs) needs h same n =
    subst (λ l. All (λ (e : Need). (e.from < count) × (e.to < count)) l) (sym n.2)
    (All-append (λ (e : Need). (e.from < count) × (e.to < count)) n.0 n.1 (row_nodes items from count r.dependencies n.0 (omega (arith, h)) same n.3)
    (nodes items (from + 1) count rs n.1 (omega (arith, h)) same n.4))

-- ---- the loop over a recipe's dependencies

-- the needs that were added so far
pub record Adding (items : List code.Item) (from : ℕ) (all rest : List Dependency) (old new : List Need) : Type 0 where
  pub row : List Need
  pub grows : new ≡ old ++ row
  pub goes : Goes (IsMetIn items) (IsNeedOf items from) all rest row

pub adding_start : (items : List code.Item) (from : ℕ) (all : List Dependency) (needs : List Need) → Adding items from all all needs needs
adding_start items from all needs = record { row = []; grows = sym (append-nil needs); goes = goes_start (IsMetIn items) (IsNeedOf items from) all }

pub adding_more : (items : List code.Item) (from : ℕ) (all xs : List Dependency) (i : ℕ) (x : Dependency) (old needs new : List Need) (need : Need)
    → i < length xs → x ≡ get_or xs i x → Adding items from all (drop i xs) old needs → new ≡ needs ++ need ∷ [] → IsNeedOf items from x need →
    Adding items from all (drop (i + 1) xs) old new
adding_more items from all xs i x old needs new need below is a e h = record {
  row = a.row ++ need ∷ [];
  grows = e ∙ ap (λ l. l ++ need ∷ []) a.grows ∙ append_assoc old a.row (need ∷ []);
  goes = goes_more (IsMetIn items) (IsNeedOf items from) all xs i x a.row need below is a.goes h;
}

pub adding_bad : (items : List code.Item) (from : ℕ) (all xs : List Dependency) (i : ℕ) (x : Dependency) (old needs : List Need)
    → i < length xs → x ≡ get_or xs i x → Adding items from all (drop i xs) old needs → (IsMetIn items x → ⊥) → AllByRecursion (IsMetIn items) all → ⊥
adding_bad items from all xs i x old needs below is a bad h = goes_bad (IsMetIn items) (IsNeedOf items from) all xs i x a.row below is a.goes bad h

pub adding_end : (items : List code.Item) (from : ℕ) (all xs : List Dependency) (i : ℕ) (old needs : List Need) → length xs ≤ i →
    Adding items from all (drop i xs) old needs → AddsNeeds items from all old needs
adding_end items from all xs i old needs past a = record {
  row = a.row;
  grows = a.grows;
  each = goes_end (IsMetIn items) (IsNeedOf items from) all xs i a.row
      past a.goes;
}

-- ---- the loop over the recipes

-- what is left is met where all is, and with the needs of what is left those so far are the needs of all
pub record Rows (items : List code.Item) (all : List Recipe) (from : ℕ) (rest : List Recipe) (needs : List Need) : Type 0 where
  pub forth : AllByRecursion (AreMet items) all → AllByRecursion (AreMet items) rest
  pub values : (more : List Need) → AreNeeds items from rest more → AreNeeds items 0 all (needs ++ more)

pub rows_start : (items : List code.Item) (all : List Recipe) → Rows items all 0 all []
rows_start items all = record { forth = λ h. h; values = λ more h. h }

pub rows_more : (items : List code.Item) (all : List Recipe) (from : ℕ) (r : Recipe) (rest : List Recipe) (old new : List Need)
    → Rows items all from (r ∷ rest) old → AddsNeeds items from r.dependencies old new → Rows items all (from + 1) rest new
rows_more items all from r rest old new rows added = record {
  forth = λ h. (rows.forth h).1;
  values = λ more h.
      subst (AreNeeds items 0 all) (sym (append_assoc old added.row more) ∙ ap (λ l. l ++ more) (sym added.grows))
      (rows.values (added.row ++ more) (added.row, more, refl, added.each, h));
}

pub rows_next : (items : List code.Item) (all xs : List Recipe) (i : ℕ) (r : Recipe) (old new : List Need) → i < length xs → r ≡ get_or xs i r
    → Rows items all i (drop i xs) old → AddsNeeds items i r.dependencies old new → Rows items all (i + 1) (drop (i + 1) xs) new
rows_next items all xs i r old new below is rows added = rows_more items all i r (drop (i + 1) xs) old new
    (subst (λ rs. Rows items all i rs old) (next xs i r below is) rows) added

pub rows_bad : (items : List code.Item) (all xs : List Recipe) (i : ℕ) (r : Recipe) (needs : List Need) → i < length xs → r ≡ get_or xs i r
    → Rows items all i (drop i xs) needs → (AreMet items r → ⊥) → AllByRecursion (AreMet items) all → ⊥
rows_bad items all xs i r needs below is rows bad h =
    let m : Rows items all i (r ∷ drop (i + 1) xs) needs = subst (λ rs. Rows items all i rs needs) (next xs i r below is) rows in
    bad (m.forth h).0

pub rows_end : (items : List code.Item) (all xs : List Recipe) (i : ℕ) (needs : List Need) → length xs ≤ i → Rows items all i (drop i xs) needs →
    AreNeeds items 0 all needs
rows_end items all xs i needs past left =
    let rows : Rows items all i [] needs = subst (λ rs. Rows items all i rs needs) (drop_all i xs past) left in
    subst (AreNeeds items 0 all) (append-nil needs) (rows.values [] refl)

-- ---- ways along needs

module _ (items : List code.Item) (recipes : List Recipe) (needs : List Need) (count : ℕ)
    (rise : AreRising (names_of items)) (long : length recipes ≡ length items) (are : AreNeeds items 0 recipes needs) where
  abbrev pub edges : Edges
  edges = record { nodes = count; needs = needs }

  -- the name of the item at a place
  abbrev name : ℕ → List ℕ
  name i = get_or (names_of items) i []

  named : (i : ℕ) → i < length items → StandsAt items (name i) i
  named i below = record { below = below; named = λ d. sym (get_or-map (λ (item : code.Item). item.name) items i d [] below) }

  one_name : (a b : List ℕ) (i : ℕ) → StandsAt items a i → StandsAt items b i → a ≡ b
  one_name a b i s t =
      let x = (element items i s.below).0 in
      sym (s.named x) ∙ t.named x

  step_names : (i j : ℕ) → HasNeed edges i j → NeedsIn items recipes (name i) (name j)
  step_names i j n =
      let s = source items 0 recipes needs n.by are n.is in
      let below = s.below in
      let from = s.is.from in
      let is_from = n.from in
      let here : s.at ≡ i = omega (arith, from, is_from) in
      let there = stands_met items s.dependency n.by.to s.is.to in
      let same : name n.by.to ≡ name j = ap name n.to in
      record {
        at = s.at;
        stands = subst (λ k. StandsAt items (name k) s.at) here (named s.at (omega (arith, below, long)));
        dependency = s.dependency;
        named = s.named;
        to = one_name s.dependency.name (name n.by.to) n.by.to there (named n.by.to there.below) ∙ same;
      }

  leads_names : {i j : ℕ} → HasPath (HasNeed edges) i j → HasPath (NeedsIn items recipes) (name i) (name j)
  leads_names (direct {a = x} {b = y} r) = direct (step_names x y r)
  leads_names (through {a = x} {b = y} {c = z} r m) = through (step_names x y r) (leads_names m)

  step_places : (a b : List ℕ) (i : ℕ) → NeedsIn items recipes a b → StandsAt items a i → (j : ℕ) × HasNeed edges i j × StandsAt items b j
  step_places a b i n s =
      let same = one_place items a n.at i rise n.stands s in
      let below = n.stands.below in
      let t = target items 0 recipes needs n.at n.dependency are (omega (arith, below, long)) n.named in
      let from = t.2.from in (
        t.0.to,
        record { by = t.0; is = t.1; from = omega (arith, from, same); to = refl },
        subst (λ c. StandsAt items c t.0.to) n.to (stands_met items n.dependency t.0.to t.2.to),
      )

  leads_places : {a b : List ℕ} → HasPath (NeedsIn items recipes) a b → (i j : ℕ) → StandsAt items a i → StandsAt items b j → HasPath (HasNeed edges) i j
  leads_places (direct {a = a} {b = b} r) i j s t =
      let p = step_places a b i r s in
      direct (subst (λ k. HasNeed edges i k) (one_place items b p.0 j rise p.2 t) p.1)
  leads_places (through {a = a} {b = b} {c = c} r m) i j s t =
      let p = step_places a b i r s in
      through p.1 (leads_places m p.0 j p.2 t)

  first_stands : {a b : List ℕ} → HasPath (NeedsIn items recipes) a b → (i : ℕ) × StandsAt items a i
  first_stands (direct {a = a} {b = b} r) = (r.at, r.stands)
  first_stands (through {a = a} {b = b} {c = c} r m) = (r.at, r.stands)

  pub fits : IsAcyclic edges → FitsTogether items recipes
  fits h = record {
    met = needs_met items 0 recipes needs are;
    acyclic = λ n m. let s = first_stands m in h s.0 (leads_places m s.0 s.0 s.1 s.1);
  }

  pub no_cycle : FitsTogether items recipes → IsAcyclic edges
  no_cycle f = λ p m. f.acyclic (name p) (leads_names m)
