-- The files that a plan holds against those of its recipes.
use Rattle.std.proofs.Common.{◌≡◌, ℕ, Bool, true, false, List, [], ◌∷◌, ◌++◌, map, refl, sym, ap, subst, ◌∙◌, inl, inr}
use Rattle.std.specs.Prelude.{◌||◌, Option, Some, None, IfSome, find, option_map}
use Rattle.std.specs.Option.{option_or}
use Rattle.std.specs.List.{AllZip, Contains}
use Rattle.std.specs.Str.{bytes_eq}
use Rattle.std.proofs.lemmas.Bool.{false≢true}
use Rattle.std.proofs.lemmas.List.Folds.{list_any-append}
use Rattle.std.proofs.lemmas.Slice.Eq.{bytes_eq-Decides}
use Rattle.serde_json.specs.Data.{Data}
use Rattle.serde_json.specs.Find.{get}
use Rattle.nuc_base.specs.Tables.{Table, AllHold, on}
use Rattle.nuc_base.specs.declared.artifact.Artifact.{Artifact}
use Rattle.nuc_base.specs.declared.platform.Platform.{Platform}
use Rattle.nuc_base.proofs.Lists.{in_nil, in_cons, in_here, in_there}
use Rattle.nuc_base.proofs.Tables.{hold_last}
use Rattle.tree_core.specs.Parts.{present, values, check, optional}
use Rattle.recipe_reader.specs.Artifacts.{IsArtifact, AreArtifacts, artifact_lines, artifacts_lines, listed_lines, has_name, file_at}
use Rattle.recipe_reader.specs.Lifecycles.{lifecycle_lines}
use Rattle.recipe_reader.specs.Dependencies.{dependencies_lines}
use Rattle.recipe_reader.specs.Platforms.{is_text, manifests_lines}
use Rattle.recipe_reader.specs.OneRecipe.{IsRecipeFor}
use Rattle.recipe_reader.specs.Recipes.{recipe_lines, head_lines, config_lines, chosen_lines, part_lines, manifest_of, inner}
use Rattle.recipe_reader.specs.Spelled.{spelled}
use Rattle.recipe_reader.specs.declared.recipe.Recipe.{Recipe}
use Rattle.recipe_reader.specs.declared.fault.Key.TheVariants as key
use Rattle.recipe_reader.specs.declared.fault.RecipeFault.TheVariants as fault
use Rattle.records.specs.Stored.{Item}
use Rattle.records.specs.declared.record.Held.{Held}
use Rattle.device.specs.Plans.{IsHeldFor}
use Rattle.plan_core.specs.Set.{kept_digest, artifact_of}
use Rattle.plan_core.proofs.Found.{found}

-- ---- no two files of a recipe have one name

abbrev pub FilesDiffer : List Artifact → Type 0
FilesDiffer parts = (a b : Artifact) → Contains parts a → Contains parts b → a.file ≡ b.file → a ≡ b

none_differ : FilesDiffer []
none_differ a b i j same = absurd (in_nil a i)

or_both : (a b : Bool) → (a || b) ≡ false → (a ≡ false) × (b ≡ false)
or_both true b e = absurd (false≢true (sym e))
or_both false b e = (refl, e)

hold_first : {Fault : Type 0} (above lines : Table Fault) → AllHold (above ++ lines) → AllHold above
hold_first [] lines h = tt
hold_first (line ∷ above) lines h = (h.0, hold_first above lines h.1)

-- what is not among the names and one more
apart : (names : List (List ℕ)) (g f : List ℕ) → has_name (names ++ g ∷ []) f ≡ false → (has_name names f ≡ false) × (is_text g f ≡ false)
apart names g f e =
    let both = or_both (has_name names f) (has_name (g ∷ []) f) (sym (list_any-append (λ n. is_text n f) names (g ∷ [])) ∙ e) in
    (both.0, (or_both (is_text g f) false both.1).0)

free_first : (names : List (List ℕ)) (v : Data) (vs : List Data) → AllHold (listed_lines names (v ∷ vs)) → has_name names (file_at v) ≡ false
free_first names v vs h =
    (hold_last (artifact_lines v) (check (has_name names (file_at v) ≡ false) fault.DuplicateArtifact)
    (hold_first (artifact_lines v ++ check (has_name names (file_at v) ≡ false) fault.DuplicateArtifact) (listed_lines (names ++ file_at v ∷ []) vs) h)).0

later : (names : List (List ℕ)) (v : Data) (vs : List Data) → AllHold (listed_lines names (v ∷ vs)) → AllHold (listed_lines (names ++ file_at v ∷ []) vs)
later names v vs h = hold_last (artifact_lines v ++ check (has_name names (file_at v) ≡ false) fault.DuplicateArtifact)
    (listed_lines (names ++ file_at v ∷ []) vs) h

unnamed : (names : List (List ℕ)) (vs : List Data) (parts : List Artifact) → AllHold (listed_lines names vs) → AllZip IsArtifact vs parts → (a : Artifact) →
    Contains parts a → has_name names a.file ≡ false
unnamed names [] [] h z a i = absurd (in_nil a i)
unnamed names [] (x ∷ parts) h z a i = absurd z
unnamed names (v ∷ vs) [] h z a i = absurd z
unnamed names (v ∷ vs) (x ∷ parts) h z a i = elim (in_cons x parts a i) [
  | inl here ↦ subst (λ (b : Artifact). has_name names b.file ≡ false) here (subst (λ f. has_name names f ≡ false) (sym z.0.file) (free_first names v vs h))
  | inr there ↦ (apart names (file_at v) a.file (unnamed (names ++ file_at v ∷ []) vs parts (later names v vs h) z.1 a there)).0
]

clash : (names : List (List ℕ)) (v : Data) (vs : List Data) (x : Artifact) (parts : List Artifact) → AllHold (listed_lines names (v ∷ vs)) →
    AllZip IsArtifact (v ∷ vs) (x ∷ parts)
    → (b : Artifact) → Contains parts b → x.file ≡ b.file → ⊥
clash names v vs x parts h z b there same =
    let other = (apart names (file_at v) b.file (unnamed (names ++ file_at v ∷ []) vs parts (later names v vs h) z.1 b there)).1 in
    false≢true (sym other ∙ (bytes_eq-Decides (file_at v) b.file).1 (sym z.0.file ∙ same))

differ_in : (names : List (List ℕ)) (vs : List Data) (parts : List Artifact) → AllHold (listed_lines names vs) → AllZip IsArtifact vs parts → FilesDiffer parts
differ_in names [] [] h z = none_differ
differ_in names [] (x ∷ parts) h z = absurd z
differ_in names (v ∷ vs) [] h z = absurd z
differ_in names (v ∷ vs) (x ∷ parts) h z =
    let more = differ_in (names ++ file_at v ∷ []) vs parts (later names v vs h) z.1 in
    λ a b i j same. elim (in_cons x parts a i) [
      | inl e ↦ elim (in_cons x parts b j) [
        | inl f ↦ sym e ∙ f
        | inr there ↦ absurd (clash names v vs x parts h z b there (ap (λ (y : Artifact). y.file) e ∙ same))
      ]
      | inr here ↦ elim (in_cons x parts b j) [
        | inl f ↦ absurd (clash names v vs x parts h z a here (ap (λ (y : Artifact). y.file) f ∙ sym same))
        | inr there ↦ more a b here there same
      ]
    ]

part_differ : (o : Option Data) (parts : List Artifact) → AllHold (on o artifacts_lines) → AreArtifacts o parts → FilesDiffer parts
part_differ None parts h z = subst FilesDiffer (sym z) none_differ
part_differ (Some v) parts h z = differ_in [] (values v) parts h.1.1 z

chosen_differ : (o : Option Data) (parts : List Artifact) → AllHold (on o chosen_lines) → AreArtifacts (inner key.Artifacts o) parts → FilesDiffer parts
chosen_differ None parts h z = part_differ None parts tt z
chosen_differ (Some m) parts h z =
    part_differ (present (get (spelled key.Artifacts) m)) parts
    (hold_last (optional (spelled key.Lifecycle) m lifecycle_lines) (optional (spelled key.Artifacts) m artifacts_lines) h) z

chosen_hold : (p : Platform) (d : Data) → AllHold (recipe_lines p d) → AllHold (on (manifest_of p d) chosen_lines)
chosen_hold p d h =
    hold_last (optional (spelled key.Manifests) d (manifests_lines p)) (on (manifest_of p d) chosen_lines)
    (hold_last (head_lines d ++ optional (spelled key.ComponentConfiguration) d config_lines ++ optional (spelled key.ComponentDependencies) d
    dependencies_lines) (part_lines p d) h)

pub files_differ : (p : Platform) (bytes : List ℕ) (r : Recipe) → IsRecipeFor bytes p r → FilesDiffer r.artifacts
files_differ p bytes r reads = chosen_differ (manifest_of p reads.0) r.artifacts (chosen_hold p reads.0 reads.2) reads.3.artifacts

-- ---- the digest that is kept of a file is the recipe's where that gives one

kept_for : (parts : List Artifact) (held : List Held) → AllZip IsHeldFor parts held → (h : Held) → Contains held h → (a : Artifact) × Contains parts a ×
    IsHeldFor a h
kept_for [] [] z h i = absurd (in_nil h i)
kept_for [] (x ∷ held) z h i = absurd z
kept_for (a ∷ parts) [] z h i = absurd z
kept_for (a ∷ parts) (x ∷ held) z h i = elim (in_cons x held h i) [
  | inl here ↦ (a, in_here a parts, subst (IsHeldFor a) here z.0)
  | inr there ↦ let k = kept_for parts held z.1 h there in (k.0, in_there a parts k.0 k.1, k.2)
]

module _ (parts : List Artifact) (held : List Held) (differ : FilesDiffer parts) (z : AllZip IsHeldFor parts held) where
  same_by : (a : Artifact) → Contains parts a → (e : List ℕ) (o : Option Held) → find (λ (h : Held). bytes_eq a.file h.file) held ≡ o →
      option_map (λ (h : Held). h.digest) o ≡ Some e
      → IfSome a.digest (λ d. e ≡ d)
  same_by a i e None is some = absurd (cc)
  same_by a i e (Some h) is some =
      let f = found (λ (h : Held). bytes_eq a.file h.file) held h is in
      let k = kept_for parts held z h f.0 in
      let file : a.file ≡ k.0.file = (bytes_eq-Decides a.file h.file).0 f.1 ∙ k.2.file in
      let given : h.digest ≡ e = cc in
      subst (λ (d : List ℕ). IfSome a.digest (λ x. d ≡ x)) given
      (subst (λ (b : Artifact). IfSome b.digest (λ x. h.digest ≡ x)) (sym (differ a k.0 i k.1 file)) k.2.digest)

  kept_same : (a : Artifact) → Contains parts a → (e : List ℕ) → kept_digest a.file held ≡ Some e → IfSome a.digest (λ d. e ≡ d)
  kept_same a i e is = same_by a i e (find (λ (h : Held). bytes_eq a.file h.file) held) refl is

  after : (d : Option (List ℕ)) (x e : List ℕ) → x ≡ e → IfSome d (λ y. e ≡ y) → IfSome d (λ y. x ≡ y)
  after None x e same h = tt
  after (Some d) x e same h = same ∙ h

  digest_by : (a : Artifact) → Contains parts a → (x : List ℕ) (k : Option (List ℕ)) → kept_digest a.file held ≡ k →
      IfSome (option_or k a.digest) (λ y. x ≡ y) → IfSome a.digest (λ y. x ≡ y)
  digest_by a i x None is h = h
  digest_by a i x (Some e) is h = after a.digest x e h (kept_same a i e is)

-- what an item keeps of a recipe's files
abbrev pub KeepsFiles : List Artifact → Option Item → Type 0
KeepsFiles parts k = IfSome k (λ i. AllZip IsHeldFor parts i.artifacts)

held_one : (parts : List Artifact) (k : Option Item) → FilesDiffer parts → KeepsFiles parts k → (a : Artifact) → Contains parts a → (h : Held) →
    IsHeldFor (artifact_of k a) h → IsHeldFor a h
held_one parts None differ keeps a i h is = is
held_one parts (Some item) differ keeps a i h is = record {
  file = is.file;
  digest = digest_by parts item.artifacts differ keeps a i h.digest
      (kept_digest a.file item.artifacts) refl is.digest;
}

held_each : (k : Option Item) (parts : List Artifact) (held : List Held) → ((a : Artifact) → Contains parts a → (h : Held) → IsHeldFor (artifact_of k a) h →
    IsHeldFor a h)
    → AllZip IsHeldFor (map (artifact_of k) parts) held → AllZip IsHeldFor parts held
held_each k [] [] one z = tt
held_each k [] (h ∷ held) one z = absurd z
held_each k (a ∷ parts) [] one z = absurd z
held_each k (a ∷ parts) (h ∷ held) one z = (one a (in_here a parts) h z.0, held_each k parts held (λ b i. one b (in_there a parts b i)) z.1)

-- the files that are asked for by a draft are those that the recipe asks for
pub held_all : (k : Option Item) (parts : List Artifact) (held : List Held) → FilesDiffer parts → KeepsFiles parts k →
    AllZip IsHeldFor (map (artifact_of k) parts) held → AllZip IsHeldFor parts held
held_all k parts held differ keeps z = held_each k parts held (held_one parts k differ keeps) z
