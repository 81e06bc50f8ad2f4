-- Over its own candidates a whole device has one set, and that is its set.
use Rattle.std.proofs.Common.{◌≡◌, ℕ, ◌<◌, Bool, true, false, List, [], ◌∷◌, length, map, get_or, refl, sym, ap, subst, ◌∙◌, inl, inr, arith, nat_cmp}
use Rattle.std.specs.Prelude.{AllPairs, Option, Some, None, IfSome, option_map, slice_get}
use Rattle.std.specs.List.{All, AllZip, Contains}
use Rattle.std.specs.List.Sorted.{IsStrictlyIncreasing}
use Rattle.std.proofs.lemmas.List.{length-map}
use Rattle.std.proofs.lemmas.List.Elements.{All-contains}
use Rattle.std.proofs.lemmas.List.Kept.{AllPairs-from_increasing}
use Rattle.std.proofs.lemmas.Option.{slice_get_within, slice_get_read, get_or_from_slice_get}
use Rattle.nuc_base.specs.declared.platform.Platform.{Platform}
use Rattle.nuc_base.proofs.Lists.{all_from_in, from_map, in_cons, in_here, in_map, in_nil, in_there}
use Rattle.recipe_reader.specs.Candidates.{IsReadFor, nucleus_name, nucleus_bytes}
use Rattle.recipe_reader.specs.Members.{IsBefore, IsRising, Member, Need, member, members, need}
use Rattle.recipe_reader.specs.OneRecipe.{IsOneRecipe, IsRecipeFor}
use Rattle.recipe_reader.specs.SetLaws.{DependsOnElements}
use Rattle.recipe_reader.specs.Sets.{IsPreferred, IsReached, IsValid, name_in, name_of}
use Rattle.recipe_reader.specs.declared.candidate.Candidate.{Candidate}
use Rattle.records.specs.Stored.{Item}
use Rattle.records.specs.declared.record.Origin.{Origin}
use Rattle.library_core.specs.Sources.{IsSource, Source, kept_source, nucleus, own, source}
use Rattle.library_core.specs.Gathered.{AreGathered}
use Rattle.deployment_doc.specs.declared.document.Document.{Document}
use Rattle.device.specs.Devices.{Device, Group}
use Rattle.device.specs.Plans.{AreRising, item_name}
use Rattle.device.specs.Sound.{IsSound}
use Rattle.plan_core.specs.Plans.{HasNoSet, IsChoice}
use Rattle.plan_core.specs.Requests.{wanted_of}
use Rattle.plan_core.specs.Set.{chosen}
use Rattle.plan_core.specs.Looks.{AreOf, IsOf}
use Rattle.plan_core.proofs.Growing.{chosen_at, element}
use Rattle.plan_core.proofs.Supplying.{candidate_name}
use Rattle.law_whole.specs.Taking.{AsksTheSame}
use Rattle.law_whole.specs.Whole.{AreWholeOn, IsItemOf, Whole, asked_of}
use Rattle.law_whole.proofs.Bringing.{left_of, right_of, whole_set}
use Rattle.law_whole.proofs.Choosing.{IsAt, at_place, chosen_here, inside, places, stands_at}
use Rattle.law_whole.proofs.Rising.{zip_sorted}
use Rattle.law_whole.proofs.Transfer.{Beside, beside}

-- ---- one candidate a name

-- candidates of the same bytes are one member
pub member_same : (one : IsOneRecipe) (p : Platform) (c e : Candidate) → IsReadFor p c → IsReadFor p e → source c ≡ source e → member c ≡ member e
member_same one p c e read other same =
    let bytes : c.bytes ≡ e.bytes = ap (λ (s : Source). s.bytes) same in
    let alike = one e.bytes p c.recipe e.recipe (subst (λ (b : List ℕ). IsRecipeFor b p c.recipe) bytes read) other in
    λ i. record { name = alike.name i; version = alike.version i; needs = map need (alike.dependencies i) }

module _ (one : IsOneRecipe) (o : Origin) (groups : List Group) (items : List Item) (cs : List Candidate) (on : AreWholeOn o groups items)
    (names : (i j : Item) → Contains items i → Contains items j → i.name ≡ j.name → i ≡ j)
    (gathered : AreGathered (own o items) o.platform [] cs) where
  -- an item's candidate is the only one of its name
  pub item_source : (i : Item) → Contains items i → (s : Source) → IsSource (own o items) o.platform [] s → s.name ≡ i.name → s ≡ kept_source i
  item_source i among s (inr taken) named = absurd (in_nil taken.0 taken.1)
  item_source i among s (inl mine) named = elim (in_cons (nucleus o.nucleus) (map kept_source items) s mine) [
    | inl is ↦ (let built = on.built_in i among (sym named ∙ sym (ap (λ (x : Source). x.name) is)) in
        let e : nucleus o.nucleus ≡ kept_source i = λ k. record {
          name = (sym (sym named ∙ sym (ap (λ (x : Source). x.name) is))) k;
          version =
              (sym built.0) k;
          bytes = (sym built.1) k;
        } in
        sym is ∙ e)
    | inr kept ↦ (let j = from_map kept_source items s kept in
        sym j.2 ∙ ap kept_source (names j.0 i j.1 among (ap (λ (x : Source). x.name) j.2 ∙ named)))
  ]

  pub source_of_item : (c : Candidate) (i : Item) → IsItemOf c i → source c ≡ kept_source i
  source_of_item c i is = λ k. record { name = (sym is.name) k; version = (sym is.version) k; bytes = (sym is.recipe) k }

  -- so a candidate of the name of an item's candidate is the same member
  same_member : (c e : Candidate) → Contains cs c → Contains on.candidates e → c.recipe.name ≡ e.recipe.name → member c ≡ member e
  same_member c e there mine named =
      let i = right_of IsItemOf on.candidates items on.are e mine in
      let first : source c ≡ kept_source i.0 = item_source i.0 i.1 (source c) ((gathered.whole (source c)).0 (in_map source cs c there)) (named
      ∙ sym i.2.name) in
      member_same one o.platform c e (All-contains (IsReadFor o.platform) cs c gathered.read there) (All-contains (IsReadFor o.platform) on.candidates e
      on.read mine)
      (first ∙ sym (source_of_item e i.0 i.2))

  same_at : (p q : ℕ) (c e : Candidate) → slice_get cs p ≡ Some c → slice_get on.candidates q ≡ Some e →
      name_of (members cs) p ≡ name_of (members on.candidates) q
      → slice_get (members cs) p ≡ slice_get (members on.candidates) q
  same_at p q c e at to named =
      let both : Some c.recipe.name ≡ Some e.recipe.name = sym (ap name_in (at_place cs p c at)) ∙ named ∙ ap name_in (at_place on.candidates q e to) in
      let same : c.recipe.name ≡ e.recipe.name = cc in
      at_place cs p c at ∙ ap Some (same_member c e (element cs p c at) (element on.candidates q e to) same) ∙ sym (at_place on.candidates q e to)

  -- ---- the items of any valid set

  module _ (wanted : List Need) (set : List ℕ) (valid : IsValid (members cs) wanted set) (whole : IsValid (members on.candidates) wanted on.valid.set) where
    at_cs : (p : ℕ) → Contains set p → IsAt cs p
    at_cs p i = stands_at cs p (All-contains (λ r. r < length cs) set p (inside cs wanted set valid) i)

    at_own : (q : ℕ) → Contains on.valid.set q → IsAt on.candidates q
    at_own q i = stands_at on.candidates q (All-contains (λ r. r < length on.candidates) on.valid.set q (inside on.candidates wanted on.valid.set whole) i)

    same_places : (p q : ℕ) → Contains set p → Contains on.valid.set q → name_of (members cs) p ≡ name_of (members on.candidates) q
        → slice_get (members cs) p ≡ slice_get (members on.candidates) q
    same_places p q i j named = same_at p q (at_cs p i).value (at_own q j).value (at_cs p i).there (at_own q j).there named

    -- an item for a member
    item_for : (c : Candidate) → Contains (chosen cs set) c → (y : Item) × Contains items y × IsOf c y
    item_for c i =
        let at = chosen_at cs set (inside cs wanted set valid) i.0 c (slice_get_read (chosen cs set) (length (chosen cs set)) i.0 c refl i.1 (sym i.2)) in
        let p_in = element set i.0 at.place at.listed in
        let b = beside (members cs) (members on.candidates) wanted set on.valid.set whole same_places (All-contains (λ p. IsReached (members cs) wanted set
        p) set at.place valid.reached p_in) in
        let e = at_own b.0 b.1 in
        let y = right_of IsItemOf on.candidates items on.are e.value (element on.candidates b.0 e.value e.there) in
        let both : Some c.recipe.name ≡ Some e.value.recipe.name = sym (ap name_in (at_place cs at.place c at.there)) ∙ ap name_in b.2
        ∙ ap name_in (at_place on.candidates b.0 e.value e.there) in
        let named : c.recipe.name ≡ e.value.recipe.name = cc in
        let s = item_source y.0 y.1 (source c) ((gathered.whole (source c)).0 (in_map source cs c (element cs at.place c at.there))) (named ∙ sym y.2.name) in
        (y.0, y.1, (sym (ap (λ (x : Source). x.name) s), sym (ap (λ (x : Source). x.version) s), sym (ap (λ (x : Source). x.bytes) s)))

    -- a member for an item
    member_for : (y : Item) → Contains items y → (c : Candidate) × Contains (chosen cs set) c × IsOf c y
    member_for y among =
        let e = left_of IsItemOf on.candidates items on.are y among in
        let k = e.1.0 in
        let there : slice_get on.candidates k ≡ Some e.0 = slice_get_read on.candidates (length on.candidates) k e.0 refl e.1.1 (sym e.1.2) in
        let long = length-map on.candidates member in
        let within = e.1.1 in
        let q_in = on.valid.all k (omega (arith, long, within)) in
        let b = beside (members on.candidates) (members cs) wanted on.valid.set set valid (λ p q i j named. sym (same_places q p j i (sym named)))
        (All-contains (λ p. IsReached (members on.candidates) wanted on.valid.set p) on.valid.set k whole.reached q_in) in
        let c = at_cs b.0 b.1 in
        let a = chosen_here cs set (inside cs wanted set valid) b.0 c.value b.1 c.there in
        let both : Some c.value.recipe.name ≡ Some e.0.recipe.name = sym (ap name_in (at_place cs b.0 c.value c.there)) ∙ sym (ap name_in b.2)
        ∙ ap name_in (at_place on.candidates k e.0 there) in
        let named : c.value.recipe.name ≡ e.0.recipe.name = cc in
        let s = item_source y among (source c.value) ((gathered.whole (source c.value)).0 (in_map source cs c.value (element cs b.0 c.value c.there))) (named
        ∙ sym e.2.name) in (
          c.value,
          element (chosen cs set) a.0 c.value a.1,
          (
            sym (ap (λ (x : Source). x.name) s),
            sym (ap (λ (x : Source). x.version) s),
            sym (ap (λ (x : Source). x.bytes) s),
          ),
        )

    pub are_of : AreRising (map candidate_name (chosen cs set)) → AreRising (map item_name items) → AreOf (chosen cs set) items
    are_of first second = zip_sorted (chosen cs set) items first second item_for member_for
