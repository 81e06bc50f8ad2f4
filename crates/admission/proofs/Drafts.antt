-- The draft of a document meets what taking in its files asks.
use Rattle.std.proofs.Common.{◌≡◌, ℕ, Bool, true, false, List, [], ◌∷◌, map, refl, sym, ap, subst, ◌∙◌, inl, inr}
use Rattle.std.specs.Prelude.{◌&&◌, Option, Some, None, IsSome, find, option_map}
use Rattle.std.specs.Option.{option_or, IsSomeAnd}
use Rattle.std.specs.List.{AllByRecursion, AllZip, Contains, IsDistinct}
use Rattle.std.specs.Str.{bytes_eq}
use Rattle.std.proofs.lemmas.Bool.{false≢true}
use Rattle.std.proofs.lemmas.List.Elements.{All-contains, All-from_recursion}
use Rattle.std.proofs.lemmas.Slice.Eq.{bytes_eq-Decides}
use Rattle.nuc_base.specs.Names.{IsName}
use Rattle.npm_ranges.specs.Versions.{IsVersion}
use Rattle.nuc_base.specs.declared.artifact.Artifact.{Artifact}
use Rattle.nuc_base.specs.declared.platform.Platform.{Platform}
use Rattle.nuc_base.proofs.Lists.{in_nil, in_one, in_cons, in_here, in_there}
use Rattle.recipe_reader.specs.Candidates.{IsReadFor}
use Rattle.recipe_reader.specs.Members.{members, IsRising}
use Rattle.recipe_reader.specs.OneRecipe.{IsRecipeFor, IsOneRecipe}
use Rattle.recipe_reader.specs.Sound.{ReadsSound, artifact_file}
use Rattle.recipe_reader.specs.declared.candidate.Candidate.{Candidate}
use Rattle.records.specs.Stored.{Item, DraftItem, Draft}
use Rattle.records.specs.declared.record.Held.{Held}
use Rattle.records.specs.declared.record.Origin.{Origin}
use Rattle.deployment_doc.specs.declared.document.Document.{Document}
use Rattle.deployment_doc.specs.declared.document.Root.{Root}
use Rattle.library_core.specs.Gathered.{KeepBytes}
use Rattle.device.specs.Devices.{Device}
use Rattle.device.specs.Lawful.{MayAccept}
use Rattle.device.specs.Plans.{AreItems, HasRecipe, IsHeldFor, AreRising}
use Rattle.deploy_state.proofs.SameItem.{same_item}
use Rattle.plan_core.specs.Laws.{FilledIsAllowed}
use Rattle.plan_core.specs.Plans.{IsPlanned}
use Rattle.plan_core.specs.Ready.{MayPlan}
use Rattle.plan_core.specs.Set.{artifact_of, chosen, item_in, item_of, items_of}
use Rattle.plan_core.proofs.Found.{found}
use Rattle.plan_core.proofs.Planned.{chosen_in, inside}
use Rattle.plan_core.specs.Requests.{wanted_of}
use Rattle.artifact_store.specs.Paths.{IsNamed, IsNamedDraft}
use Rattle.artifact_store.specs.Staged.{HasItsFiles, HasKeptFile, KeepsFiles}
use Rattle.admission.specs.Drafts.{MayStage}
use Rattle.admission.proofs.Sample.{sample, sample_item, sample_fills, sample_names, files_same}

-- ---- what is kept of a file

both : (a b : Bool) → a ≡ true → b ≡ true → (a && b) ≡ true
both true true e f = refl
both true false e f = absurd (false≢true f)
both false b e f = absurd (false≢true e)

and_both : (a b : Bool) → (a && b) ≡ true → (a ≡ true) × (b ≡ true)
and_both true b e = (refl, e)
and_both false b e = absurd (false≢true e)

-- what passes the test is found, or something that passes it, too
find_step : {X : Type 0} (test : X → Bool) (y : X) (ys : List X) (b : Bool) → test y ≡ b → ((b ≡ false) → IsSome (find test ys)) → IsSome (find test (y ∷ ys))
find_step test y ys true e more = rw e refl
find_step test y ys false e more = rw e (more refl)

some_found : {X : Type 0} (test : X → Bool) (xs : List X) (x : X) → Contains xs x → test x ≡ true → IsSome (find test xs)
some_found test [] x has is = absurd (in_nil x has)
some_found test (y ∷ ys) x has is = find_step test y ys (test y) refl (λ no_match. elim (in_cons y ys x has) [
  | inl here ↦ absurd (false≢true (sym no_match ∙ ap test here ∙ is))
  | inr there ↦ some_found test ys x there is
])

held_beside : (parts : List Artifact) (helds : List Held) → AllZip IsHeldFor parts helds → (a : Artifact) → Contains parts a → (h : Held) × Contains helds h ×
    (h.file ≡ a.file)
held_beside [] [] z a has = absurd (in_nil a has)
held_beside [] (h ∷ helds) z a has = absurd z
held_beside (b ∷ parts) [] z a has = absurd z
held_beside (b ∷ parts) (h ∷ helds) z a has = elim (in_cons b parts a has) [
  | inl here ↦ (h, in_here h helds, z.0.file ∙ ap artifact_file here)
  | inr there ↦ let k = held_beside parts helds z.1 a there in (k.0, in_there h helds k.0 k.1, k.2)
]

abbrev has_file : List ℕ → Held → Bool
has_file file h = bytes_eq file h.file

kept_by : (helds : List Held) (a : Artifact) (o : Option Held) → find (has_file a.file) helds ≡ o → IsSome o
    → HasKeptFile helds (record { file = a.file; digest = option_or (option_map (λ (h : Held). h.digest) o) a.digest })
kept_by helds a None is some = absurd (false≢true some)
kept_by helds a (Some h) is some =
    let f = found (has_file a.file) helds h is in
    (h, f.0, sym ((bytes_eq-Decides a.file h.file).0 f.1), refl)

kept_file : (k : Item) (a : Artifact) → (h : Held) × Contains k.artifacts h × (h.file ≡ a.file) → HasKeptFile k.artifacts (artifact_of (Some k) a)
kept_file k a held =
    kept_by k.artifacts a (find (has_file a.file) k.artifacts) refl
    (some_found (has_file a.file) k.artifacts held.0 held.1 ((bytes_eq-Decides a.file held.0.file).1 (sym held.2)))

kept_files : (k : Item) (parts : List Artifact) → ((a : Artifact) → Contains parts a → (h : Held) × Contains k.artifacts h × (h.file ≡ a.file))
    → AllByRecursion (HasKeptFile k.artifacts) (map (artifact_of (Some k)) parts)
kept_files k [] held = tt
kept_files k (a ∷ parts) held = (kept_file k a (held a (in_here a parts)), kept_files k parts (λ b there. held b (in_there a parts b there)))

-- ---- an item of the draft that the set has in the same version

module _ (one : IsOneRecipe) (p : Platform) (set : List Item) (items : AreItems p set) (roots : List Root) where
  -- what is found is the item
  found_is : (c : Candidate) (k : Item) (o : Option Item) → item_in c.recipe.name c.recipe.version set ≡ o → IsSome o → Contains set k →
      k.name ≡ c.recipe.name → o ≡ Some k
  found_is c k None is some has named = absurd (false≢true some)
  found_is c k (Some i) is some has named =
      let f = found (λ (j : Item). bytes_eq c.recipe.name j.name && bytes_eq c.recipe.version j.version) set i is in
      let same : c.recipe.name ≡ i.name = (bytes_eq-Decides c.recipe.name i.name).0
      (and_both (bytes_eq c.recipe.name i.name) (bytes_eq c.recipe.version i.version) f.1).0 in
      ap (λ (j : Item). Some j) (same_item set items.rise i k f.0 has (sym same ∙ sym named))

  keeps_one : (c : Candidate) → IsReadFor p c → KeepBytes set (c ∷ []) → KeepsFiles set (item_of set roots c)
  keeps_one c reads kept k has named versioned =
      let r = All-contains (HasRecipe p) set k (All-from_recursion (HasRecipe p) set items.recipes) has in
      let bytes : c.bytes ≡ k.recipe = kept k c has (in_here c []) (sym named) (sym versioned) in
      let alike = one k.recipe p r.0 c.recipe r.1.reads (subst (λ (b : List ℕ). IsRecipeFor b p c.recipe) bytes reads) in
      let parts : AllZip IsHeldFor c.recipe.artifacts k.artifacts = subst (λ (l : List Artifact). AllZip IsHeldFor l k.artifacts) alike.artifacts r.1.files in
      let test = some_found (λ (j : Item). bytes_eq c.recipe.name j.name && bytes_eq c.recipe.version j.version) set k has
      (both (bytes_eq c.recipe.name k.name) (bytes_eq c.recipe.version k.version) ((bytes_eq-Decides c.recipe.name k.name).1 (sym named))
      ((bytes_eq-Decides c.recipe.version k.version).1 (sym versioned))) in
      let is : item_in c.recipe.name c.recipe.version set ≡ Some k = found_is c k (item_in c.recipe.name c.recipe.version set) refl test has named in
      subst (λ (o : Option Item). AllByRecursion (HasKeptFile k.artifacts) (map (artifact_of o) c.recipe.artifacts)) (sym is)
      (kept_files k c.recipe.artifacts (held_beside c.recipe.artifacts k.artifacts parts))

  keeps_all : (cs : List Candidate) → ((c : Candidate) → Contains cs c → IsReadFor p c × KeepBytes set (c ∷ [])) →
      AllByRecursion (KeepsFiles set) (items_of set roots cs)
  keeps_all [] fits = tt
  keeps_all (c ∷ cs) fits = (keeps_one c (fits c (in_here c cs)).0 (fits c (in_here c cs)).1, keeps_all cs (λ x there. fits x (in_there c cs x there)))

-- ---- names

named_items : ReadsSound → (p : Platform) (items : List Item) → AllByRecursion (HasRecipe p) items → AllByRecursion IsNamed items
named_items sound p [] has = tt
named_items sound p (i ∷ items) has =
    let s = sound i.recipe p has.0.0 has.0.1.reads in
    ((subst IsName has.0.1.name s.name, subst IsVersion has.0.1.version s.version), named_items sound p items has.1)

pub set_named : ReadsSound → (p : Platform) (items : List Item) → AreItems p items → AllByRecursion IsNamed items
set_named sound p items are = named_items sound p items are.recipes

drafted_items : (items : List DraftItem) → AllByRecursion IsNamed (map sample_item items) → AllByRecursion IsNamedDraft items
drafted_items [] named = tt
drafted_items (i ∷ items) named = (named.0, drafted_items items named.1)

files_of_items : ReadsSound → (p : Platform) (items : List DraftItem) → AllByRecursion (HasRecipe p) (map sample_item items) → AllByRecursion HasItsFiles items
files_of_items sound p [] has = tt
files_of_items sound p (i ∷ items) has =
    let s = sound i.recipe p has.0.0 has.0.1.reads in
    (subst (IsDistinct bytes_eq) (files_same has.0.0.artifacts i.artifacts has.0.1.files) s.files, files_of_items sound p items has.1)

-- ---- the whole

module _ (one : IsOneRecipe) (sound : ReadsSound) (allowed : FilledIsAllowed) (o : Origin) (d : Device) (cs : List Candidate) (document : Document)
    (draft : Draft)
    (has : d.origin ≡ Some o) (rising : IsRising (members cs)) (may : MayPlan o d cs document) (planned : IsPlanned o d cs document draft) where
  sample_items : AreItems o.platform (map sample_item draft.items)
  sample_items =
      let lawful = allowed o d cs document draft (sample draft) has rising may planned (sample_fills draft) in
      (subst (λ (x : Option Origin). IsSomeAnd x (MayAccept d (sample draft))) has lawful).2.items

  one_kept : (c : Candidate) → Contains cs c → KeepBytes d.set (c ∷ [])
  one_kept c there i x among is = may.kept i x among (subst (Contains cs) (in_one c x is) there)

  keeps_draft : AllByRecursion (KeepsFiles d.set) draft.items
  keeps_draft =
      let set = planned.plan.is_choice.0 in
      let is : planned.plan.choice ≡ chosen cs set = planned.plan.is_choice.2 in
      let items : draft.items ≡ items_of d.set document.roots (chosen cs set) = planned.plan.items ∙ ap (items_of d.set document.roots) is in
      let below = inside cs (wanted_of d.groups document) set planned.plan.is_choice.1.valid in
      subst (AllByRecursion (KeepsFiles d.set)) (sym items)
      (keeps_all one o.platform d.set may.set document.roots (chosen cs set)
      (λ c there. let in_cs = chosen_in cs set c below there in (All-contains (IsReadFor o.platform) cs c may.read in_cs, one_kept c in_cs)))

  pub may_stage : MayStage d.set draft.items
  may_stage = record {
    named = set_named sound o.platform d.set may.set;
    drafted = drafted_items draft.items (named_items sound o.platform (map sample_item draft.items) sample_items.recipes);
    rise = subst AreRising (sample_names draft.items) sample_items.rise;
    differ = files_of_items sound o.platform draft.items sample_items.recipes;
    keeps = keeps_draft;
  }
