-- Over its own candidates a whole device has a valid set.
use Rattle.std.proofs.Common.{◌≡◌, ◌⊎◌, ℕ, cond, get_or, ◌+◌, ◌<◌, Bool, true, false, List, [], ◌∷◌, length, map, refl, sym, ap, subst, ◌∙◌, inl, inr, arith}
use Rattle.std.specs.Prelude.{Option, Some, None, is_some, find, slice_get}
use Rattle.std.specs.List.{All, AllPairs, Contains, filter}
use Rattle.std.specs.List.Sorted.{IsStrictlyIncreasing}
use Rattle.std.specs.Str.{bytes_eq}
use Rattle.std.proofs.lemmas.Bool.{cases_order}
use Rattle.std.proofs.lemmas.List.{length-map}
use Rattle.std.proofs.lemmas.List.Elements.{All-contains, All-contains_itself, All-filter, filter_passes}
use Rattle.std.proofs.lemmas.List.Kept.{IsStrictlyIncreasing-filter}
use Rattle.std.proofs.lemmas.Option.{slice_get_within, slice_get_read, get_or_from_slice_get}
use Rattle.std.proofs.lemmas.Slice.Eq.{bytes_eq-Decides}
use Rattle.nuc_base.proofs.Lists.{all_from_in, from_map, in_cons, in_here, in_map, in_nil, in_there}
use Rattle.recipe_reader.specs.Candidates.{IsReadFor}
use Rattle.recipe_reader.specs.Members.{IsBefore, IsRising, Member, Need, member, members}
use Rattle.recipe_reader.specs.OneRecipe.{IsOneRecipe}
use Rattle.recipe_reader.specs.Sets.{IsValid, name_in, name_of}
use Rattle.recipe_reader.specs.declared.candidate.Candidate.{Candidate}
use Rattle.recipe_reader.proofs.Orders.{never_before}
use Rattle.records.specs.Stored.{Item}
use Rattle.records.specs.declared.record.Origin.{Origin}
use Rattle.library_core.specs.Sources.{Source, kept_source, nucleus, own, source}
use Rattle.library_core.specs.Gathered.{AreGathered}
use Rattle.device.specs.Devices.{Group}
use Rattle.plan_core.specs.Set.{item_named}
use Rattle.plan_core.proofs.Found.{found}
use Rattle.plan_core.proofs.Growing.{element}
use Rattle.law_whole.specs.Whole.{AreWholeOn, IsItemOf}
use Rattle.law_whole.proofs.Bringing.{left_of, right_of}
use Rattle.law_whole.proofs.Choosing.{IsAt, at_place, below_places, in_places, inside, places, places_rise, stands_at}
use Rattle.law_whole.proofs.Own.{item_source, member_same, source_of_item}
use Rattle.law_whole.proofs.Transfer.{Beside, valid_over}

-- ---- lists

-- what passes the test is kept
kept_here : {X : Type 0} (test : X → Bool) (y : X) (xs ys : List X) (x : X) → Contains (y ∷ xs) x → (Contains xs x → Contains ys x) → (b : Bool) →
    test y ≡ b → test x ≡ true
    → Contains (cond b (y ∷ ys) ys) x
kept_here test y xs ys x i more true is passes = elim (in_cons y xs x i) [
  | inl e ↦ subst (Contains (y ∷ ys)) e (in_here y ys)
  | inr j ↦ in_there y ys x (more j)
]
kept_here test y xs ys x i more false is passes = elim (in_cons y xs x i) [
  | inl e ↦ (let both : true ≡ false = sym passes ∙ ap test (sym e) ∙ is in absurd cc)
  | inr j ↦ more j
]

kept_in : {X : Type 0} (test : X → Bool) (xs : List X) (x : X) → Contains xs x → test x ≡ true → Contains (filter test xs) x
kept_in test [] x i passes = absurd (in_nil x i)
kept_in test (y ∷ xs) x i passes = kept_here test y xs (filter test xs) x i (λ j. kept_in test xs x j passes) (test y) refl passes

some_here : {X : Type 0} (test : X → Bool) (y : X) (ys : List X) (b : Bool) → test y ≡ b → (b ≡ true) ⊎ (is_some (find test ys) ≡ true) →
    is_some (find test (y ∷ ys)) ≡ true
some_here test y ys true is h = rw is refl
some_here test y ys false is (inl h) = absurd cc
some_here test y ys false is (inr h) = rw is h

-- where one passes the test one is found
pub finds_one : {X : Type 0} (test : X → Bool) (xs : List X) (x : X) → Contains xs x → test x ≡ true → is_some (find test xs) ≡ true
finds_one test [] x i passes = absurd (in_nil x i)
finds_one test (y ∷ xs) x i passes = some_here test y xs (test y) refl (elim (in_cons y xs x i) [
  | inl e ↦ inl (ap test e ∙ passes)
  | inr j ↦ inr (finds_one test xs x j passes)
])

-- ---- the places of the items

holds_by : List Item → Option Candidate → Bool
holds_by items None = false
holds_by items (Some c) = is_some (item_named c.recipe.name items)

unfoldable holds : List Candidate → List Item → ℕ → Bool
holds cs items p = holds_by items (slice_get cs p)

record IsHeld (cs : List Candidate) (items : List Item) (p : ℕ) : Type 0 where
  candidate : Candidate
  there : slice_get cs p ≡ Some candidate
  item : Item
  is_one : Contains items item
  named : candidate.recipe.name ≡ item.name

held : (cs : List Candidate) (items : List Item) (p : ℕ) → holds cs items p ≡ true → IsHeld cs items p
unfolding holds holds_by
held cs items p passes = by (slice_get cs p) refl passes
  where
    of_item : (c : Candidate) → slice_get cs p ≡ Some c → (i : Option Item) → item_named c.recipe.name items ≡ i → is_some i ≡ true → IsHeld cs items p
    of_item c is None at e = absurd cc
    of_item c is (Some i) at e =
        let f = found (λ (x : Item). bytes_eq c.recipe.name x.name) items i at in
        record { candidate = c; there = is; item = i; is_one = f.0; named = (bytes_eq-Decides c.recipe.name i.name).0 f.1 }

    by : (o : Option Candidate) → slice_get cs p ≡ o → holds_by items o ≡ true → IsHeld cs items p
    by None is e = absurd cc
    by (Some c) is e = of_item c is (item_named c.recipe.name items) refl e

passes_at : (cs : List Candidate) (items : List Item) (p : ℕ) (c : Candidate) (i : Item) → slice_get cs p ≡ Some c → Contains items i →
    c.recipe.name ≡ i.name → holds cs items p ≡ true
unfolding holds holds_by
passes_at cs items p c i at among named =
    ap (holds_by items) at ∙ finds_one (λ (x : Item). bytes_eq c.recipe.name x.name) items i among ((bytes_eq-Decides c.recipe.name i.name).1 named)

module _ (one : IsOneRecipe) (o : Origin) (groups : List Group) (items : List Item) (cs : List Candidate) (on : AreWholeOn o groups items)
    (names : (i j : Item) → Contains items i → Contains items j → i.name ≡ j.name → i ≡ j)
    (gathered : AreGathered (own o items) o.platform [] cs) (wanted : List Need) (whole : IsValid (members on.candidates) wanted on.valid.set) where
  here_held : (p : ℕ) → Contains (filter (holds cs items) (places (length (members cs)))) p → IsHeld cs items p
  here_held p i = held cs items p (All-contains (λ q. holds cs items q ≡ true) (filter (holds cs items) (places (length (members cs)))) p (filter_passes
      (holds cs items) (places (length (members cs)))) i)

  -- where a held place's item's candidate stands
  record Twin (p : ℕ) : Type 0 where
    place : ℕ
    in_set : Contains on.valid.set place
    same : slice_get (members cs) p ≡ slice_get (members on.candidates) place

  twin : (p : ℕ) → IsHeld cs items p → Twin p
  twin p h =
      let e = left_of IsItemOf on.candidates items on.are h.item h.is_one in
      let k = e.1.0 in
      let there : slice_get on.candidates k ≡ Some e.0 = slice_get_read on.candidates (length on.candidates) k e.0 refl e.1.1 (sym e.1.2) in
      let long = length-map on.candidates member in
      let within = e.1.1 in
      let among = element cs p h.candidate h.there in
      let s : source h.candidate ≡ kept_source h.item = item_source one o groups items cs on names gathered h.item h.is_one (source h.candidate)
      ((gathered.whole (source h.candidate)).0 (in_map source cs h.candidate among)) h.named in
      let m : member h.candidate ≡ member e.0 = member_same one o.platform h.candidate e.0 (All-contains (IsReadFor o.platform) cs h.candidate gathered.read
      among)
      (All-contains (IsReadFor o.platform) on.candidates e.0 on.read e.1) (s ∙ sym (source_of_item one o groups items cs on names gathered e.0 h.item e.2)) in
      record {
        place = k;
        in_set = on.valid.all k (omega (arith, long, within));
        same = at_place cs p h.candidate h.there ∙ ap Some m ∙ sym (at_place on.candidates k e.0 there);
      }

  from : (p : ℕ) → Contains (filter (holds cs items) (places (length (members cs)))) p → Beside (members cs) (members on.candidates) on.valid.set p
  from p i = let t = twin p (here_held p i) in (t.place, t.in_set, t.same)

  to : (q : ℕ) → Contains on.valid.set q → Beside (members on.candidates) (members cs) (filter (holds cs items) (places (length (members cs)))) q
  to q i =
      let e = stands_at on.candidates q (All-contains (λ r. r < length on.candidates) on.valid.set q (inside on.candidates wanted on.valid.set whole) i) in
      let y = right_of IsItemOf on.candidates items on.are e.value (element on.candidates q e.value e.there) in
      let c = from_map source cs (kept_source y.0) ((gathered.whole (kept_source y.0)).1 (inl (in_there (nucleus o.nucleus) (map kept_source items)
      (kept_source y.0) (in_map kept_source items y.0 y.1)))) in
      let p = c.1.0 in
      let there : slice_get cs p ≡ Some c.0 = slice_get_read cs (length cs) p c.0 refl c.1.1 (sym c.1.2) in
      let passes = passes_at cs items p c.0 y.0 there y.1 (ap (λ (s : Source). s.name) c.2) in
      let long = length-map cs member in
      let within = c.1.1 in
      let m : member e.value ≡ member c.0 = member_same one o.platform e.value c.0 (All-contains (IsReadFor o.platform) on.candidates e.value on.read
      (element on.candidates q e.value e.there))
      (All-contains (IsReadFor o.platform) cs c.0 gathered.read c.1) (source_of_item one o groups items cs on names gathered e.value y.0 y.2 ∙ sym c.2) in (
        p,
        kept_in (holds cs items) (places (length (members cs))) p (in_places (length (members cs)) p (omega (arith, long, within))) passes,
        at_place on.candidates q e.value e.there ∙ ap Some m ∙ sym (at_place cs p c.0 there),
      )

  -- two places of one member are one
  once : (p q : ℕ) → p < q → IsHeld cs items p → IsHeld cs items q → slice_get (members cs) p ≡ slice_get (members cs) q → ⊥
  once p q lt a b same =
      let first = get_or_from_slice_get (members cs) p (member a.candidate) (member a.candidate) (at_place cs p a.candidate a.there) in
      let again : slice_get (members cs) q ≡ Some (member a.candidate) = sym same ∙ at_place cs p a.candidate a.there in
      let second = get_or_from_slice_get (members cs) q (member a.candidate) (member a.candidate) again in
      let before : IsBefore (member a.candidate) (member a.candidate) =
      subst (λ (m : Member). IsBefore (member a.candidate) m) second (subst (λ (m : Member). IsBefore m (get_or (members cs) q (member a.candidate))) first
      (gathered.rising p q (member a.candidate) lt (slice_get_within (members cs) q (member a.candidate) again))) in
      never_before (member a.candidate) (member a.candidate) refl refl before

  single : (p q : ℕ) → Contains (filter (holds cs items) (places (length (members cs)))) p → Contains (filter (holds cs items) (places (length (members cs)))) q
      → name_of (members cs) p ≡ name_of (members cs) q → p ≡ q
  single p q i j named =
      let a = here_held p i in
      let b = here_held q j in
      let s = twin p a in
      let t = twin q b in
      let e : s.place ≡ t.place = whole.one_version s.place t.place s.in_set t.in_set (ap name_in (sym s.same) ∙ named ∙ ap name_in t.same) in
      let same : slice_get (members cs) p ≡ slice_get (members cs) q = s.same ∙ ap (slice_get (members on.candidates)) e ∙ sym t.same in
      elim (cases_order p q) [
        | inl e ↦ e
        | inr (inl less) ↦ absurd (once p q less a b same)
        | inr (inr more) ↦ absurd (once q p more b a (sym same))
      ]

  pub own_valid : (set : List ℕ) × IsValid (members cs) wanted set
  own_valid = (
    filter (holds cs items) (places (length (members cs))),
    valid_over (members on.candidates) (members cs) wanted on.valid.set (filter (holds cs items) (places (length (members cs)))) whole to from
        (IsStrictlyIncreasing-filter (holds cs items) (places (length (members cs))) (places_rise (length (members cs))))
        (All-filter (holds cs items) (λ p. p < length (members cs)) (places (length (members cs)))
        (all_from_in (λ p. p < length (members cs)) (places (length (members cs))) (below_places (length (members cs)))))
        single,
  )
