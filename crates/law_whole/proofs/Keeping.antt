-- What a whole device keeps where a document changes nothing of it.
use Rattle.std.proofs.Common.{◌≡◌, ◌⊎◌, ℕ, List, [], ◌∷◌, ◌++◌, length, map, refl, sym, ap, subst, ◌∙◌, inl, inr, arith, length-append}
use Rattle.std.specs.Prelude.{Err, Option, Some, None, is_some, option_map, true, false}
use Rattle.std.specs.List.{All, Contains}
use Rattle.std.specs.Str.{bytes_eq}
use Rattle.std.proofs.lemmas.List.Elements.{All-contains, Contains-append_left, Contains-append_right}
use Rattle.std.proofs.lemmas.Slice.Eq.{bytes_eq-Decides}
use Rattle.nuc_base.proofs.Lists.{from_map, in_cons, in_here, in_nil}
use Rattle.serde_json.specs.Data.{Data}
use Rattle.tree_core.specs.View.{view}
use Rattle.config_ops.specs.Join.{filled}
use Rattle.config_ops.specs.NewConfig.{Change, new_config}
use Rattle.recipe_reader.specs.Candidates.{IsReadFor}
use Rattle.recipe_reader.specs.OneRecipe.{IsOneRecipe, IsRecipeFor}
use Rattle.recipe_reader.specs.SetLaws.{DependsOnElements}
use Rattle.recipe_reader.specs.declared.candidate.Candidate.{Candidate}
use Rattle.records.specs.Stored.{Item}
use Rattle.records.specs.declared.record.Origin.{Origin}
use Rattle.library_core.specs.Sources.{Clash, IsAgainst, Source, kept_source, nucleus, own, source}
use Rattle.library_core.specs.Gathered.{AreGathered, IsFirstClash, IsFirstOwnClash}
use Rattle.library_core.specs.Faults.{Gathered}
use Rattle.library_core.specs.declared.fault.CandidatesFault.{CandidatesFault}
use Rattle.library_core.specs.declared.fault.CandidatesFault.TheVariants.{Library, TooManyRecipes, Recipe, RecipeDiffers, TwoRecipes, NoMemory}
use Rattle.device.specs.Devices.{Device, Group}
use Rattle.plan_core.specs.Looks.{IsOf}
use Rattle.plan_core.specs.Requests.{wanted_of}
use Rattle.plan_core.specs.Set.{change_in, config_of, item_named}
use Rattle.plan_core.proofs.Found.{found}
use Rattle.law_whole.specs.Taking.{OwnConfigStays, OwnIsGathered}
use Rattle.law_whole.specs.Whole.{AreWholeOn, IsItemOf}
use Rattle.law_whole.proofs.Bringing.{chosen_in, left_of, right_of, whole_set}
use Rattle.law_whole.proofs.Choosing.{inside}
use Rattle.law_whole.proofs.Owning.{names_of, own_set_is_chosen}
use Rattle.law_whole.proofs.Rising.{one_named}
use Rattle.law_whole.proofs.There.{finds_one}

-- ---- configurations

-- the item of the name is found
finds : (items : List Item) → ((i j : Item) → Contains items i → Contains items j → i.name ≡ j.name → i ≡ j) → (n : List ℕ) (i : Item) → Contains items i →
    n ≡ i.name → item_named n items ≡ Some i
finds items names n i among named = by (item_named n items) refl (finds_one (λ (x : Item). bytes_eq n x.name) items i among ((bytes_eq-Decides n i.name).1
    named))
  where
    by : (o : Option Item) → item_named n items ≡ o → is_some (item_named n items) ≡ true → item_named n items ≡ Some i
    by None is some = let both : false ≡ true = sym (ap is_some is) ∙ some in absurd cc
    by (Some j) is some =
        let f = found (λ (x : Item). bytes_eq n x.name) items j is in
        is ∙ ap Some (names j i f.0 among (sym ((bytes_eq-Decides n j.name).0 f.1) ∙ named))

unchanged : (c d : Data) → filled c d ≡ c → new_config (Some c) d None ≡ c
unchanged c d is = ap (λ x. filled x d) is ∙ is

pub own_config_stays : IsOneRecipe → DependsOnElements → OwnConfigStays
own_config_stays one elements o d cs choice document sound whole is gathered same chooses c i there among named =
    let on = whole_set d o whole is in
    let names = one_named d.set (names_of d o sound is) in
    let of = own_set_is_chosen one elements o d cs choice document sound whole is gathered same chooses in
    let j = right_of IsOf choice d.set of c there in
    let e = left_of IsItemOf on.candidates d.set on.are j.0 j.1 in
    let one_item : j.0 ≡ i = names j.0 i j.1 among (j.2.0 ∙ named) in
    let bytes : c.bytes ≡ e.0.bytes = sym j.2.2 ∙ e.2.recipe in
    let read : IsReadFor o.platform c = read_choice c there in
    let alike = one e.0.bytes o.platform c.recipe e.0.recipe (subst (λ (b : List ℕ). IsRecipeFor b o.platform c.recipe) bytes read) (All-contains
    (IsReadFor o.platform) on.candidates e.0 on.read e.1) in
    let kept : filled i.config (view c.recipe.default_config) ≡ i.config =
    subst (λ (x : Data). filled i.config x ≡ i.config) (sym alike.default_config) (subst (λ (x : Item). filled x.config (view e.0.recipe.default_config)
    ≡ x.config) one_item e.2.config) in
    let at = finds d.set names c.recipe.name i among named in
    let is_config : config_of d.set document.roots c.recipe ≡ new_config (Some i.config) (view c.recipe.default_config) (change_in c.recipe.name
    document.roots) =
    ap (λ (x : Option Item). new_config (option_map (λ (y : Item). y.config) x) (view c.recipe.default_config) (change_in c.recipe.name document.roots)) at in (
      λ none. is_config ∙ ap (new_config (Some i.config) (view c.recipe.default_config)) none ∙ unchanged i.config (view c.recipe.default_config) kept,
      is_config,
    )
  where
    read_choice : (x : Candidate) → Contains choice x → IsReadFor o.platform x
    read_choice x k =
        All-contains (IsReadFor o.platform) cs x gathered.read
        (chosen_in cs chooses.0 x (inside cs (wanted_of d.groups document) chooses.0 chooses.1.valid) (subst (λ (l : List Candidate). Contains l x) chooses.2
        k))

-- ---- gathering

module _ (o : Origin) (groups : List Group) (items : List Item) (on : AreWholeOn o groups items)
    (names : (i j : Item) → Contains items i → Contains items j → i.name ≡ j.name → i ≡ j) where
  nucleus_kept : (i : Item) → Contains items i → Clash (nucleus o.nucleus) (kept_source i) → ⊥
  nucleus_kept i among clash = clash.differs (sym (on.built_in i among (sym clash.name)).1)

  kept_nucleus : (i : Item) → Contains items i → Clash (kept_source i) (nucleus o.nucleus) → ⊥
  kept_nucleus i among clash = clash.differs (on.built_in i among clash.name).1

  no_clash : (a b : Source) → Contains (own o items) a → Contains (own o items) b → Clash a b → ⊥
  no_clash a b i j clash = elim (in_cons (nucleus o.nucleus) (map kept_source items) a i) [
    | inl e ↦ elim (in_cons (nucleus o.nucleus) (map kept_source items) b j) [
      | inl f ↦ clash.differs (ap (λ (s : Source). s.bytes) (sym e ∙ f))
      | inr g ↦ (let y = from_map kept_source items b g in
          nucleus_kept y.0 y.1 (subst (λ (s : Source). Clash (nucleus o.nucleus) s) (sym y.2) (subst (λ (s : Source). Clash s b) (sym e) clash)))
    ]
    | inr h ↦ (let x = from_map kept_source items a h in elim (in_cons (nucleus o.nucleus) (map kept_source items) b j) [
      | inl f ↦ kept_nucleus x.0 x.1 (subst (λ (s : Source). Clash (kept_source x.0) s) (sym f) (subst (λ (s : Source). Clash s b) (sym x.2) clash))
      | inr g ↦ (let y = from_map kept_source items b g in
          let one = names x.0 y.0 x.1 y.1 (ap (λ (s : Source). s.name) x.2 ∙ clash.name ∙ sym (ap (λ (s : Source). s.name) y.2)) in
          clash.differs (ap (λ (s : Source). s.bytes) (sym x.2 ∙ ap kept_source one ∙ y.2)))
    ])
  ]

  none_first : (s : Source) → IsFirstOwnClash (own o items) s → ⊥
  none_first s f = no_clash f.against.0 s
      (subst (λ (l : List Source). Contains l f.against.0) (sym f.is) (Contains-append_left f.before (s ∷ f.after) f.against.0 f.against.1))
      (subst (λ (l : List Source). Contains l s) (sym f.is) (Contains-append_right f.before (s ∷ f.after) s (in_here s f.after)))
      f.against.2

  no_recipe : (s : Source) → IsFirstClash (own o items) o.platform [] s → ⊥
  no_recipe s f = absurd (omega (arith, ap length f.is, length-append f.before (f.bytes ∷ f.after)))

  refuses_nothing : (fault : CandidatesFault) → Gathered [] o items (Err fault) → (fault ≡ Library) ⊎ (fault ≡ NoMemory)
  refuses_nothing Library h = inl refl
  refuses_nothing (TooManyRecipes n) h = absurd (let x = h.1 in omega (arith, x))
  refuses_nothing (Recipe at f) h = absurd (let x = h.1.within in omega (arith, x))
  refuses_nothing (RecipeDiffers name version) h = absurd (elim h.2.3 [ inl f ↦ none_first h.2.0 f | inr f ↦ no_recipe h.2.0 f.0 ])
  refuses_nothing (TwoRecipes name version) h = absurd (no_recipe h.2.0 h.2.3.0)
  refuses_nothing NoMemory h = inr refl

pub own_is_gathered : OwnIsGathered
own_is_gathered o d fault sound whole is h = refuses_nothing o d.groups d.set (whole_set d o whole is) (one_named d.set (names_of d o sound is)) fault h
