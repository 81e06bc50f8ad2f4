-- The parts of a plan put together.
use Rattle.std.proofs.Common.{◌≡◌, ◌⊎◌, ℕ, zero, suc, ◌+◌, get_or, ◌<◌, ◌≤◌, List, length, map, refl, sym, ◌∙◌, ap, subst, inl, inr, arith}
use Rattle.std.specs.List.{All, Contains}
use Rattle.std.specs.List.Sorted.{IsStrictlyIncreasing}
use Rattle.std.proofs.lemmas.List.Elements.{All-get_or, All-weaker, All-contains}
use Rattle.std.proofs.lemmas.Option.{slice_get_read}
use Rattle.std.proofs.lemmas.List.{length-map}
use Rattle.nuc_base.specs.Tables.{AllHold, IsFaultBy, each}
use Rattle.nuc_base.proofs.Lists.{all_from_in}
use Rattle.recipe_reader.specs.Candidates.{IsReadFor}
use Rattle.recipe_reader.specs.Members.{Need, member, members}
use Rattle.recipe_reader.specs.Sets.{IsValid, IsPreferred}
use Rattle.recipe_reader.specs.declared.candidate.Candidate.{Candidate}
use Rattle.records.specs.Stored.{Item}
use Rattle.deployment_doc.specs.declared.document.Root.{Root}
use Rattle.records.specs.declared.record.Origin.{Origin}
use Rattle.records.specs.declared.record.Draft as code_draft
use Rattle.records.specs.declared.record.DraftItem as code
use Rattle.device.specs.Devices.{Device}
use Rattle.deployment_doc.specs.declared.document.Document.{Document}
use Rattle.records.specs.Stored.{DraftItem, draft_item_view, draft_view}
use Rattle.device.specs.Plans.{AreRegularItems}
use Rattle.plan_core.specs.Requests.{wanted_of}
use Rattle.plan_core.specs.Parts.{IsFewChoice, HasNoFewChoice, MayMake}
use Rattle.plan_core.specs.Ready.{MayPlan}
use Rattle.std.specs.Prelude.{Result, MatchResult}
use Rattle.std.specs.Result.{IsErrAnd}
use Rattle.plan_core.proofs.Growing.{element, chosen_at, chosen_long, handed}
use Rattle.plan_core.proofs.Needing.{choice_is_acyclic}
use Rattle.plan_core.specs.Set.{chosen, item_of, items_of, bare}
use Rattle.plan_core.specs.Boots.{AreBoots}
use Rattle.plan_core.specs.Plans.{room_lines, config_lines, size_lines, IsHeadOf, IsPlanned, IsRefused}
use Rattle.plan_core.specs.declared.fault.PlanFault.{PlanFault}
use Rattle.plan_core.specs.declared.fault.PlanFault.TheVariants as fault

-- ---- few places

climbs : (xs : List ℕ) → IsStrictlyIncreasing xs → (k : ℕ) → k < length xs → k ≤ get_or xs k 0
climbs xs rising zero below = omega arith
climbs xs rising (suc k) below =
    let low = climbs xs rising k (omega (arith, below)) in
    let step = rising k (omega (arith, below)) in
    let same : get_or xs (k + 1) 0 ≡ get_or xs (suc k) 0 = ap (λ j. get_or xs j 0) (omega arith) in
    omega (arith, low, step, same)

few_below : (xs : List ℕ) (n m : ℕ) → m ≡ length xs → IsStrictlyIncreasing xs → All (λ p. p < n) xs → m ≤ n
few_below xs n zero long rising below = omega arith
few_below xs n (suc k) long rising below =
    let low = climbs xs rising k (omega (arith, long)) in
    let high = All-get_or (λ p. p < n) xs k 0 (omega (arith, long)) below in
    omega (arith, low, high)

-- the places of a set are places of the candidates
pub inside : (cs : List Candidate) (wanted : List Need) (set : List ℕ) → IsValid (members cs) wanted set → All (λ p. p < length cs) set
inside cs wanted set valid =
    let long = length-map cs member in
    All-weaker (λ p. p < length (members cs)) (λ p. p < length cs) (λ p h. omega (arith, h, long)) set valid.inside

pub few_places : (cs : List Candidate) (wanted : List Need) (set : List ℕ) → IsValid (members cs) wanted set → length set ≤ length cs
few_places cs wanted set valid = few_below set (length cs) (length set) refl valid.rising (inside cs wanted set valid)

-- ---- the chosen candidates

pub chosen_in : (cs : List Candidate) (set : List ℕ) (c : Candidate) → All (λ p. p < length cs) set → Contains (chosen cs set) c → Contains cs c
chosen_in cs set c below there =
    let at = chosen_at cs set below there.0 c (slice_get_read (chosen cs set) (length (chosen cs set)) there.0 c refl there.1 (sym there.2)) in
    element cs at.place c at.there

may_make_of : (o : Origin) (d : Device) (cs : List Candidate) (document : Document) (set : List ℕ) → MayPlan o d cs document
    → IsPreferred (members cs) (wanted_of d.groups document) set → length (chosen cs set) ≤ 128 → MayMake o d document (chosen cs set)
may_make_of o d cs document set may preferred few =
    let below = inside cs (wanted_of d.groups document) set preferred.valid in
    record {
      set = may.set;
      regular = may.regular;
      few = few;
      read = all_from_in (IsReadFor o.platform) (chosen cs set) (λ c there. All-contains (IsReadFor o.platform) cs c may.read (chosen_in cs set c below there));
      kept = λ i c among there. may.kept i c among (chosen_in cs set c below there);
      acyclic = choice_is_acyclic cs (wanted_of d.groups document) set preferred.valid below;
      roots = may.roots;
    }

pub may_make : (o : Origin) (d : Device) (cs : List Candidate) (document : Document) (choice : List Candidate) → MayPlan o d cs document →
    IsFewChoice d cs document choice → MayMake o d document choice
may_make o d cs document choice may chosen_few =
    let set = chosen_few.is_choice.0 in
    let is : choice ≡ chosen cs set = chosen_few.is_choice.2 in
    subst (MayMake o d document) (sym is) (may_make_of o d cs document set may chosen_few.is_choice.1
    (subst (λ (l : List Candidate). length l ≤ 128) is chosen_few.few))

items_long : (set : List Item) (roots : List Root) (cs : List Candidate) → length (items_of set roots cs) ≡ length cs
items_long set roots cs = length-map cs (item_of set roots)

-- ---- answers

module _ (o : Origin) (d : Device) (cs : List Candidate) (document : Document) (choice : List Candidate)
    (room : AllHold (room_lines d document)) where
  -- every check holds
  pub planned : (draft : code_draft.Draft) (items : List code.DraftItem) (boots : List (List ℕ))
      → IsFewChoice d cs document choice
      → map draft_item_view items ≡ items_of d.set document.roots choice
      → AllHold (each config_lines (map bare (items_of d.set document.roots choice)))
      → AreRegularItems (map bare (items_of d.set document.roots choice))
      → AreBoots o d.set choice (map bare (items_of d.set document.roots choice)) boots
      → IsHeadOf document (draft_view draft) → draft.items ≡ items → draft.boots ≡ boots
      → IsPlanned o d cs document (draft_view draft)
  planned draft items boots chosen_few made short regular are_boots head same_items same_boots =
      let its : map draft_item_view draft.items ≡ items_of d.set document.roots choice = ap (λ (l : List code.DraftItem). map draft_item_view l) same_items ∙
      made in
      let long = items_long d.set document.roots choice in
      let few = chosen_few.few in
      record {
        room = room;
        plan = record {
          head = head;
          choice = choice;
          is_choice = chosen_few.is_choice;
          items = its;
          boots = subst (λ (l : List DraftItem). AreBoots o d.set choice (map bare l) draft.boots) (sym its)
              (subst (λ (l : List (List ℕ)). AreBoots o d.set choice (map bare (items_of d.set document.roots choice)) l) (sym same_boots) are_boots);
        };
        sizes = subst (λ (l : List DraftItem). AllHold (size_lines l)) (sym its) (omega (arith, long, few), short);
        regular = subst (λ (l : List DraftItem). AreRegularItems (map bare l)) (sym its) regular;
      }

  -- the first configuration that is too long
  pub refused_config : (f : PlanFault) → IsFewChoice d cs document choice →
      IsFaultBy fault.NoMemory (each config_lines (map bare (items_of d.set document.roots choice))) f
      → (f ≡ fault.NoMemory) ⊎ IsRefused d cs document f
  refused_config f chosen_few (inl memory) = inl memory
  refused_config f chosen_few (inr first) =
      let long = items_long d.set document.roots choice in
      let few = chosen_few.few in
      inr (inr (inr (room, (choice, chosen_few.is_choice, inr (omega (arith, long, few), first)))))

module _ (d : Device) (cs : List Candidate) (document : Document) (room : AllHold (room_lines d document)) where
  pub refused_choice : (f : PlanFault) → (f ≡ fault.NoMemory) ⊎ HasNoFewChoice d cs document f → (f ≡ fault.NoMemory) ⊎ IsRefused d cs document f
  refused_choice f (inl memory) = inl memory
  refused_choice f (inr (inl none)) = inr (inr (inl (room, none.0, none.1)))
  refused_choice f (inr (inr many)) =
      let long = items_long d.set document.roots many.0 in
      let above = many.2 in
      inr (inr (inr (room, (many.0, many.1, inl (λ h. omega (arith, h, long, above), many.3 ∙ ap fault.TooManyComponents (sym long))))))

-- the preferred set has too many members
pub too_many : {A : Type 0} (P : A → Type 0) (d : Device) (cs : List Candidate) (document : Document) (set : List ℕ) (n : ℕ) (f : PlanFault)
    (result : Result A PlanFault)
    → IsPreferred (members cs) (wanted_of d.groups document) set → n ≡ length set → (f ≡ fault.TooManyComponents n) × (128 < n) → IsErrAnd result (λ e. e ≡ f)
    → MatchResult result P (λ e. (e ≡ fault.NoMemory) ⊎ HasNoFewChoice d cs document e)
too_many P d cs document set n f result preferred many is handed_on =
    let long = chosen_long cs set (inside cs (wanted_of d.groups document) set preferred.valid) in
    let above = is.1 in
    handed P (λ e. (e ≡ fault.NoMemory) ⊎ HasNoFewChoice d cs document e) result f handed_on
    (inr (inr (chosen cs set, (set, preferred, refl), omega (arith, long, many, above), is.0 ∙ ap fault.TooManyComponents (many ∙ sym long))))
