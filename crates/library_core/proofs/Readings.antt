-- A recipe has one reading for a platform.
use Rattle.std.proofs.Common.{◌≡◌, ◌⊎◌, ℕ, ◌≤◌, ◌<◌, List, length, take, Ok, Some, sym, ap, subst, ◌∙◌, inl, inr, arith}
use Rattle.std.proofs.lemmas.List.{take_all, length-take}
use Rattle.serde_json.specs.Data.{Data, string}
use Rattle.serde_json.specs.Find.{get}
use Rattle.nuc_base.specs.Tables.{AllHold}
use Rattle.nuc_base.specs.declared.platform.Platform.{Platform}
use Rattle.nuc_base.proofs.Tables.{first_excludes}
use Rattle.tree_core.specs.Laws.{IsOneTree, HasNoFault}
use Rattle.tree_core.specs.Reading.{IsTreeOf, IsFirstFault}
use Rattle.tree_core.specs.declared.fault.TreeFault.{TreeFault}
use Rattle.tree_core.specs.declared.fault.TreeFault.TheVariants as tree
use Rattle.recipe_reader.specs.Spelled.{spelled}
use Rattle.recipe_reader.specs.Recipes.{ReadsRecipe, IsFault, recipe_lines, limit}
use Rattle.recipe_reader.specs.declared.recipe.Recipe.{Recipe}
use Rattle.recipe_reader.specs.declared.fault.Key.TheVariants as key
use Rattle.recipe_reader.specs.declared.fault.RecipeFault.{RecipeFault}
use Rattle.recipe_reader.specs.declared.fault.RecipeFault.TheVariants as fault
use Rattle.library_core.specs.Library.{most_given}
use Rattle.library_core.specs.Sources.{Source, IsTaken, IsSkipped, IsFaulty}

one_text : (s t : List ℕ) (d e : Data) (k : List ℕ) → d ≡ e → get k d ≡ Some (string s) → get k e ≡ Some (string t) → s ≡ t
one_text s t d e k same a b =
    let c : Some (string s) ≡ Some (string t) = sym a ∙ ap (get k) same ∙ b in cc

-- two readings are of one name and version
pub one_name : IsOneTree → (bytes : List ℕ) (p : Platform) (r q : Recipe) → ReadsRecipe bytes p (Ok r) → ReadsRecipe bytes p (Ok q) → r.name ≡ q.name
one_name one bytes p r q a b = one_text r.name q.name a.0 b.0 (spelled key.ComponentName) (one bytes limit a.0 b.0 a.1 b.1) a.3.name b.3.name

pub one_version : IsOneTree → (bytes : List ℕ) (p : Platform) (r q : Recipe) → ReadsRecipe bytes p (Ok r) → ReadsRecipe bytes p (Ok q) → r.version ≡ q.version
one_version one bytes p r q a b = one_text r.version q.version a.0 b.0 (spelled key.ComponentVersion) (one bytes limit a.0 b.0 a.1 b.1) a.3.version b.3.version

-- what reads has no platform that it is not for
reads_elsewhere : IsOneTree → (bytes : List ℕ) (p : Platform) (r : Recipe) → ReadsRecipe bytes p (Ok r) → IsFault bytes p fault.NoManifest → ⊥
reads_elsewhere one bytes p r a (inl h) = let e = h.1 in cc
reads_elsewhere one bytes p r a (inr h) =
    let same = one bytes limit a.0 h.0 a.1 h.1 in
    first_excludes (recipe_lines p h.0) fault.NoManifest (subst (λ (d : Data). AllHold (recipe_lines p d)) same a.2) h.2

-- what reads has no fault
reads_well : IsOneTree → HasNoFault → (bytes : List ℕ) (p : Platform) (r : Recipe) (f : RecipeFault) → ReadsRecipe bytes p (Ok r) → IsFault bytes p f → ⊥
reads_well one none bytes p r f a (inl h) = h.3 (none bytes limit a.0 h.0 a.1 h.2)
reads_well one none bytes p r f a (inr h) =
    let same = one bytes limit a.0 h.0 a.1 h.1 in
    first_excludes (recipe_lines p h.0) f (subst (λ (d : Data). AllHold (recipe_lines p d)) same a.2) h.2

-- and its reading answers nothing but want of memory
pub wants_memory : IsOneTree → HasNoFault → (slice bytes : List ℕ) (p : Platform) (r : Recipe) (f : RecipeFault) → slice ≡ bytes →
    ReadsRecipe bytes p (Ok r) → (f ≡ fault.NoMemory) ⊎ IsFault slice p f → f ≡ fault.NoMemory
wants_memory one none slice bytes p r f same a (inl e) = e
wants_memory one none slice bytes p r f same a (inr h) = absurd (reads_well one none bytes p r f a (subst (λ (s : List ℕ). IsFault s p f) same h))

pub never_both : IsOneTree → (p : Platform) (bytes : List ℕ) (s : Source) → IsTaken p bytes s → IsSkipped p bytes → ⊥
never_both one p bytes s t (inl h) = reads_elsewhere one bytes p t.recipe t.reads h
never_both one p bytes s t (inr h) = t.other (one_name one bytes p t.recipe h.0 t.reads h.1 ∙ h.2)

-- two sources of one recipe are one
pub one_source : IsOneTree → (p : Platform) (bytes : List ℕ) (s : Source) (r : Recipe) → IsTaken p bytes s → ReadsRecipe bytes p (Ok r) →
    record { name = r.name; version = r.version; bytes = bytes } ≡ s
one_source one p bytes s r t h =
    let n = one_name one bytes p r t.recipe h t.reads in
    let v = one_version one bytes p r t.recipe h t.reads in
    let e : record { name = r.name; version = r.version; bytes = bytes } ≡ record { name = t.recipe.name; version = t.recipe.version; bytes = bytes } =
    λ i. record { name = n i; version = v i; bytes = bytes } in
    e ∙ sym t.is

-- ---- the first bytes of a recipe say what it says

whole : (b : List ℕ) → length (take most_given b) ≤ limit → take most_given b ≡ b
whole b h = take_all most_given b (omega (arith, length-take most_given b))

pub reads_whole : (b : List ℕ) (p : Platform) (r : Recipe) → ReadsRecipe (take most_given b) p (Ok r) → take most_given b ≡ b
reads_whole b p r h = whole b h.1.within

longer : (b : List ℕ) → limit < length (take most_given b) → limit < length b
longer b h = omega (arith, length-take most_given b)

tree_fault : (b : List ℕ) (t : TreeFault) → IsFirstFault (take most_given b) limit t → IsFirstFault b limit t
tree_fault b tree.TooLarge h = longer b h
tree_fault b tree.NotJson h = subst (λ (s : List ℕ). IsFirstFault s limit tree.NotJson) (whole b h.0) h
tree_fault b tree.TooDeep h = subst (λ (s : List ℕ). IsFirstFault s limit tree.TooDeep) (whole b h.0) h
tree_fault b tree.NotWhole h = subst (λ (s : List ℕ). IsFirstFault s limit tree.NotWhole) (whole b h.0) h
tree_fault b tree.NoMemory h = tt

pub fault_of_whole : (b : List ℕ) (p : Platform) (f : RecipeFault) → IsFault (take most_given b) p f → IsFault b p f
fault_of_whole b p f (inl h) = inl (h.0, h.1, tree_fault b h.0 h.2, h.3)
fault_of_whole b p f (inr h) = inr (h.0, subst (λ (s : List ℕ). IsTreeOf s limit h.0) (whole b h.1.within) h.1, h.2)

pub skipped_whole : (b : List ℕ) (p : Platform) → IsSkipped p (take most_given b) → IsSkipped p b
skipped_whole b p (inl h) = inl (fault_of_whole b p fault.NoManifest h)
skipped_whole b p (inr h) = inr (h.0, subst (λ (s : List ℕ). ReadsRecipe s p (Ok h.0)) (reads_whole b p h.0 h.1) h.1, h.2)

pub faulty_whole : (b : List ℕ) (p : Platform) (f : RecipeFault) → IsFaulty p (take most_given b) f → IsFaulty p b f
faulty_whole b p f h = (fault_of_whole b p f h.0, h.1)
