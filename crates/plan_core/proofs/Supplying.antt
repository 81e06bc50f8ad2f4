-- Items of the candidates of a valid set: their names rise, and what they depend on is met without a cycle.
use Rattle.std.proofs.Common.{◌≡◌, ◌⊎◌, ℕ, zero, suc, ◌<◌, List, [], ◌∷◌, length, map, get_or, refl, sym, ap, subst, ◌∙◌, inl, inr, arith, nat_cmp}
use Rattle.std.specs.Prelude.{Option, Some, None, IfSome, option_map, slice_get}
use Rattle.std.specs.List.{All, AllByRecursion, AllPairs, AllZip, Contains}
use Rattle.std.specs.List.Sorted.{IsStrictlySortedBy}
use Rattle.std.specs.Cmp.Lexicographic.{slice_cmp}
use Rattle.std.specs.declared.cmp.Ordering.TheVariants.{Less}
use Rattle.std.proofs.lemmas.List.Elements.{All-contains, All-head, All-tail, recursion_from_All}
use Rattle.std.proofs.lemmas.List.Kept.{AllPairs-from_increasing}
use Rattle.std.proofs.lemmas.Option.{slice_get_within, slice_get-map, slice_get_read, get_or_from_slice_get}
use Rattle.nuc_base.specs.Leads.{HasPath, direct, through}
use Rattle.nuc_base.specs.declared.platform.Platform.{Platform}
use Rattle.nuc_base.proofs.Lists.{in_nil, in_cons, in_here, in_there, in_map, from_map, all_from_in}
use Rattle.npm_ranges.specs.Ranges.{IsInRange}
use Rattle.recipe_reader.specs.Members.{Member, Need, need, member, members, IsBefore, IsRising}
use Rattle.recipe_reader.specs.OneRecipe.{IsOneRecipe}
use Rattle.recipe_reader.specs.Sets.{IsValid, IsMet, HasDependency, needs_in, needs_of, name_in, name_of, version_in, version_of}
use Rattle.recipe_reader.specs.declared.candidate.Candidate.{Candidate}
use Rattle.recipe_reader.specs.declared.recipe.Dependency.{Dependency}
use Rattle.records.specs.Stored.{Item}
use Rattle.device.specs.Plans.{NamesDependency, NeedsByName, IsSupplied, AreRising, item_name}
use Rattle.plan_core.specs.Set.{chosen, with_candidate}
use Rattle.plan_core.proofs.Filling.{IsMade}
use Rattle.plan_core.proofs.Growing.{element, some_below, chosen_at}
use Rattle.plan_core.proofs.Planned.{inside}

-- ---- lists beside one another

pub right_of : {A B : Type 0} (R : A → B → Type 0) (xs : List A) (ys : List B) → AllZip R xs ys → (k : ℕ) (x : A) → slice_get xs k ≡ Some x → (y : B) ×
    Contains ys y × R x y
right_of R [] ys z k x is = absurd (cc)
right_of R (a ∷ xs) [] z k x is = absurd z
right_of R (a ∷ xs) (y ∷ ys) z zero x is =
    let same : a ≡ x = cc in
    (y, in_here y ys, subst (λ b. R b y) same z.0)
right_of R (a ∷ xs) (y ∷ ys) z (suc k) x is = let r = right_of R xs ys z.1 k x is in (r.0, in_there y ys r.0 r.1, r.2)

left_of : {A B : Type 0} (R : A → B → Type 0) (xs : List A) (ys : List B) → AllZip R xs ys → (y : B) → Contains ys y → (k : ℕ) × (x : A) ×
    (slice_get xs k ≡ Some x) × R x y
left_of R [] [] z y i = absurd (in_nil y i)
left_of R [] (b ∷ ys) z y i = absurd z
left_of R (x ∷ xs) [] z y i = absurd z
left_of R (x ∷ xs) (b ∷ ys) z y i = elim (in_cons b ys y i) [
  | inl here ↦ (0, x, refl, subst (R x) here z.0)
  | inr there ↦ let l = left_of R xs ys z.1 y there in (suc l.0, l.1, l.2, l.3)
]

-- ---- the candidates of a set

abbrev pub candidate_name : Candidate → List ℕ
candidate_name c = c.recipe.name

pub at_place : (cs : List Candidate) (q : ℕ) (c : Candidate) → slice_get cs q ≡ Some c → slice_get (members cs) q ≡ Some (member c)
at_place cs q c is = slice_get-map member cs q ∙ ap (option_map member) is

here_step : (cs : List Candidate) (p : ℕ) (ps : List ℕ) (o : Option Candidate) → slice_get cs p ≡ o → p < length cs → (q : ℕ) (c : Candidate) →
    slice_get cs q ≡ Some c
    → (p ≡ q) ⊎ Contains ps q → (Contains ps q → (a : ℕ) × (slice_get (chosen cs ps) a ≡ Some c)) → (a : ℕ) ×
    (slice_get (with_candidate o (chosen cs ps)) a ≡ Some c)
here_step cs p ps None is below q c at i more = absurd (some_below cs p below is)
here_step cs p ps (Some x) is below q c at (inl same) more = (0, sym is ∙ ap (slice_get cs) same ∙ at)
here_step cs p ps (Some x) is below q c at (inr there) more = let m = more there in (suc m.0, m.1)

-- what stands at a place of the set is chosen
pub chosen_here : (cs : List Candidate) (ps : List ℕ) → All (λ p. p < length cs) ps → (q : ℕ) (c : Candidate) → Contains ps q → slice_get cs q ≡ Some c →
    (a : ℕ) × (slice_get (chosen cs ps) a ≡ Some c)
chosen_here cs [] below q c i at = absurd (in_nil q i)
chosen_here cs (p ∷ ps) below q c i at =
    here_step cs p ps (slice_get cs p) refl (All-head (λ r. r < length cs) p ps below) q c at (in_cons p ps q i)
    (λ there. chosen_here cs ps (All-tail (λ r. r < length cs) p ps below) q c there at)

-- ---- names rise

-- at a later place stands a later name
abbrev Ordered : List Candidate → List ℕ → Type 0
Ordered cs ps = (q r : ℕ) (c e : Candidate) → Contains ps q → Contains ps r → q < r → slice_get cs q ≡ Some c → slice_get cs r ≡ Some e
    → slice_cmp nat_cmp c.recipe.name e.recipe.name ≡ Less

tail_pairs : (p : ℕ) (ps : List ℕ) → AllPairs (λ x y. x < y) (p ∷ ps) → AllPairs (λ x y. x < y) ps
tail_pairs p ps pairs i j d lt below = pairs (suc i) (suc j) d (omega (arith, lt)) (omega (arith, below))

head_below : (p : ℕ) (ps : List ℕ) → AllPairs (λ x y. x < y) (p ∷ ps) → (q : ℕ) → Contains ps q → p < q
head_below p ps pairs q i =
    let within = i.1 in
    let far : p < get_or ps i.0 q = pairs 0 (suc i.0) q (omega arith) (omega (arith, within)) in
    subst (λ (r : ℕ). p < r) i.2 far

module _ (cs : List Candidate) where
  firsts : (p : ℕ) (ps : List ℕ) (x : Candidate) → slice_get cs p ≡ Some x → All (λ q. q < length cs) ps → AllPairs (λ a b. a < b) (p ∷ ps) →
      Ordered cs (p ∷ ps)
      → (n : List ℕ) → Contains (map candidate_name (chosen cs ps)) n → slice_cmp nat_cmp x.recipe.name n ≡ Less
  firsts p ps x is below pairs ordered n i =
      let f = from_map candidate_name (chosen cs ps) n i in
      let at = chosen_at cs ps below f.1.0 f.0 (slice_get_read (chosen cs ps) (length (chosen cs ps)) f.1.0 f.0 refl f.1.1 (sym f.1.2)) in
      let there = element ps f.1.0 at.place at.listed in
      subst (λ (m : List ℕ). slice_cmp nat_cmp x.recipe.name m ≡ Less) f.2
      (ordered p at.place x f.0 (in_here p ps) (in_there p ps at.place there) (head_below p ps pairs at.place there) is at.there)

  rise_step : (p : ℕ) (ps : List ℕ) (o : Option Candidate) → slice_get cs p ≡ o → p < length cs → All (λ q. q < length cs) ps →
      AllPairs (λ a b. a < b) (p ∷ ps) → Ordered cs (p ∷ ps)
      → IsStrictlySortedBy (slice_cmp nat_cmp) (map candidate_name (chosen cs ps)) →
      IsStrictlySortedBy (slice_cmp nat_cmp) (map candidate_name (with_candidate o (chosen cs ps)))
  unfolding IsStrictlySortedBy
  rise_step p ps None is low below pairs ordered more = absurd (some_below cs p low is)
  rise_step p ps (Some x) is low below pairs ordered more = (
    recursion_from_All (λ n. slice_cmp nat_cmp x.recipe.name n ≡ Less) (map candidate_name (chosen cs ps))
        (all_from_in (λ n. slice_cmp nat_cmp x.recipe.name n ≡ Less) (map candidate_name (chosen cs ps)) (firsts p ps x is below pairs ordered)),
    more,
  )

  rise_all : (ps : List ℕ) → All (λ q. q < length cs) ps → AllPairs (λ a b. a < b) ps → Ordered cs ps →
      IsStrictlySortedBy (slice_cmp nat_cmp) (map candidate_name (chosen cs ps))
  unfolding IsStrictlySortedBy
  rise_all [] below pairs ordered = tt
  rise_all (p ∷ ps) below pairs ordered =
      rise_step p ps (slice_get cs p) refl (All-head (λ q. q < length cs) p ps below) (All-tail (λ q. q < length cs) p ps below) pairs ordered
      (rise_all ps (All-tail (λ q. q < length cs) p ps below) (tail_pairs p ps pairs) (λ q r c e i j. ordered q r c e (in_there p ps q i) (in_there p ps r j)))

  -- the names of a valid set rise
  pub chosen_rise : IsRising (members cs) → (wanted : List Need) (set : List ℕ) → IsValid (members cs) wanted set
      → AreRising (map candidate_name (chosen cs set))
  chosen_rise rising wanted set valid = rise_all set (inside cs wanted set valid) (AllPairs-from_increasing set valid.rising) ordered
    where
      ordered : Ordered cs set
      ordered q r c e i j lt at to =
          let first = get_or_from_slice_get (members cs) q (member c) (member c) (at_place cs q c at) in
          let second = get_or_from_slice_get (members cs) r (member e) (member c) (at_place cs r e to) in
          let before : IsBefore (member c) (member e) =
          subst (λ (m : Member). IsBefore (member c) m) second (subst (λ (m : Member). IsBefore m (get_or (members cs) r (member c))) first
          (rising q r (member c) lt (slice_get_within (members cs) r (member e) (at_place cs r e to)))) in
          elim before [
            | inl less ↦ less
            | inr same ↦ (let equal = valid.one_version q r i j (ap name_in (at_place cs q c at) ∙ ap (λ (n : List ℕ). Some n) same.0
                ∙ sym (ap name_in (at_place cs r e to))) in
                absurd (omega (arith, lt, equal)))
          ]

names_same : (p : Platform) (cs : List Candidate) (items : List Item) → AllZip (IsMade p) cs items → map candidate_name cs ≡ map item_name items
names_same p [] [] z = refl
names_same p [] (i ∷ items) z = absurd z
names_same p (c ∷ cs) [] z = absurd z
names_same p (c ∷ cs) (i ∷ items) z = ap (λ n. n ∷ map candidate_name cs) z.0.name ∙ ap (λ l. i.name ∷ l) (names_same p cs items z.1)

module _ (one : IsOneRecipe) (p : Platform) (cs : List Candidate) (rising : IsRising (members cs)) (wanted : List Need) (set : List ℕ)
    (valid : IsValid (members cs) wanted set)
    (items : List Item) (made : AllZip (IsMade p) (chosen cs set) items) where
  below : All (λ q. q < length cs) set
  below = inside cs wanted set valid

  pub names_rise : AreRising (map item_name items)
  names_rise = subst AreRising (names_same p (chosen cs set) items made) (chosen_rise cs rising wanted set valid)

  -- ---- where an item comes from, and what stands for a place

  pub record IsFrom (i : Item) : Type 0 where
    pub place : ℕ
    pub in_set : Contains set place
    pub candidate : Candidate
    pub there : slice_get cs place ≡ Some candidate
    pub is_made : IsMade p candidate i

  pub from_item : (i : Item) → Contains items i → IsFrom i
  from_item i has =
      let l = left_of (IsMade p) (chosen cs set) items made i has in
      let at = chosen_at cs set below l.0 l.1 l.2 in
      record { place = at.place; in_set = element set l.0 at.place at.listed; candidate = l.1; there = at.there; is_made = l.3 }

  from_name : (i : Item) (f : IsFrom i) → name_of (members cs) f.place ≡ Some i.name
  from_name i f = ap name_in (at_place cs f.place f.candidate f.there) ∙ ap (λ (n : List ℕ). Some n) f.is_made.name

  record Stands (q : ℕ) (n : List ℕ) : Type 0 where
    item : Item
    is_one : Contains items item
    named : item.name ≡ n
    version : version_of (members cs) q ≡ Some item.version

  stands_by : (q : ℕ) (o : Option Candidate) → slice_get cs q ≡ o → Contains set q → (n : List ℕ) → name_of (members cs) q ≡ Some n → Stands q n
  stands_by q None is i n named = absurd (some_below cs q (All-contains (λ r. r < length cs) set q below i) is)
  stands_by q (Some c) is i n named =
      let a = chosen_here cs set below q c i is in
      let r = right_of (IsMade p) (chosen cs set) items made a.0 c a.1 in
      let both : Some c.recipe.name ≡ Some n = sym (ap name_in (at_place cs q c is)) ∙ named in
      let same : c.recipe.name ≡ n = cc in
      record { item = r.0; is_one = r.1; named = sym r.2.name ∙ same; version = ap version_in (at_place cs q c is) ∙ ap (λ (v : List ℕ). Some v) r.2.version }

  stands : (q : ℕ) → Contains set q → (n : List ℕ) → name_of (members cs) q ≡ Some n → Stands q n
  stands q i n named = stands_by q (slice_get cs q) refl i n named

  -- ---- dependencies

  needed : (i : Item) (f : IsFrom i) (d : Dependency) → NamesDependency p i d → Contains (needs_of (members cs) f.place) (need d)
  needed i f d names =
      let alike = one i.recipe p names.recipe f.candidate.recipe names.reads f.is_made.reads in
      let has : Contains f.candidate.recipe.dependencies d = subst (λ (ds : List Dependency). Contains ds d) alike.dependencies names.named in
      subst (λ (o : Option Member). Contains (needs_in o) (need d)) (sym (at_place cs f.place f.candidate f.there))
      (in_map need f.candidate.recipe.dependencies d has)

  met : (i : Item) (f : IsFrom i) (d : Dependency) → NamesDependency p i d → IsMet (members cs) set d.name d.range
  met i f d names =
      All-contains (λ (x : Need). IsMet (members cs) set x.name x.range) (needs_of (members cs) f.place) (need d)
      (All-contains (λ q. All (λ (x : Need). IsMet (members cs) set x.name x.range) (needs_of (members cs) q)) set f.place valid.needs_met f.in_set)
      (needed i f d names)

  supplied_one : (i : Item) → Contains items i → IsSupplied p items i
  supplied_one i has d names =
      let m = met i (from_item i has) d names in
      let s = stands m.0 m.1 d.name m.2.named in
      record {
        item = s.item;
        is_one = s.is_one;
        meets = record {
          name = s.named;
          version = subst (λ (o : Option (List ℕ)). IfSome o (λ v. IsInRange v d.range))
              s.version m.2.meets;
        };
      }

  pub supplied : AllByRecursion (IsSupplied p items) items
  supplied = recursion_from_All (IsSupplied p items) items (all_from_in (IsSupplied p items) items supplied_one)

  -- ---- no cycle

  abbrev IsAt : ℕ → List ℕ → Type 0
  IsAt q n = Contains set q × (name_of (members cs) q ≡ Some n)

  step : (a b : List ℕ) → NeedsByName p items a b → (q : ℕ) → IsAt q a → (r : ℕ) × IsAt r b × HasDependency (members cs) set q r
  step a b n q at =
      let f = from_item n.item n.is_one in
      let same : f.place ≡ q = valid.one_version f.place q f.in_set at.0 (from_name n.item f ∙ ap (λ (m : List ℕ). Some m) n.from ∙ sym at.1) in
      let m = met n.item f n.dependency n.names in (
        m.0,
        (m.1, m.2.named ∙ ap (λ (x : List ℕ). Some x) n.to),
        record {
          from = at.0;
          to = m.1;
          by = need n.dependency;
          is = subst (λ (r : ℕ). Contains (needs_of (members cs) r) (need n.dependency)) same (needed n.item f n.dependency n.names);
          named = m.2.named;
        },
      )

  walk : {a b : List ℕ} → HasPath (NeedsByName p items) a b → (q : ℕ) → IsAt q a → (r : ℕ) × IsAt r b × HasPath (HasDependency (members cs) set) q r
  walk (direct {a = x} {b = y} n) q at = let s = step x y n q at in (s.0, s.1, direct s.2)
  walk (through {a = x} {b = y} {c = z} n l) q at =
      let s = step x y n q at in
      let w = walk l s.0 s.1 in
      (w.0, w.1, through s.2 w.2)

  start_at : (a b : List ℕ) → NeedsByName p items a b → (q : ℕ) × IsAt q a
  start_at a b n =
      let f = from_item n.item n.is_one in
      (f.place, (f.in_set, from_name n.item f ∙ ap (λ (m : List ℕ). Some m) n.from))

  start : {a b : List ℕ} → HasPath (NeedsByName p items) a b → (q : ℕ) × IsAt q a
  start (direct {a = x} {b = y} n) = start_at x y n
  start (through {a = x} {b = y} {c = z} n l) = start_at x y n

  pub acyclic : (n : List ℕ) → HasPath (NeedsByName p items) n n → ⊥
  acyclic n l =
      let s = start l in
      let w = walk l s.0 s.1 in
      let same : w.0 ≡ s.0 = valid.one_version w.0 s.0 w.1.0 s.1.0 (w.1.1 ∙ sym s.1.1) in
      valid.acyclic s.0 (subst (HasPath (HasDependency (members cs) set) s.0) same w.2)
