-- The record of a plan is short.
use Rattle.std.proofs.Common.{◌≡◌, ℕ, ◌+◌, ◌*◌, ◌≤◌, ◌==◌, Bool, true, false, List, [], ◌∷◌, ◌++◌, length, Option, Some, None, is_some, refl, ap, arith}
use Rattle.std.proofs.Common.{length-append}
use Rattle.std.specs.Prelude.{if◌then◌else◌}
use Rattle.std.specs.Option.{IsSomeAnd, option_map_or}
use Rattle.std.specs.Int.{w32, to_be_bytes}
use Rattle.std.specs.List.{AllByRecursion, AllZip, flat_map}
use Rattle.std.proofs.Math.Nat.{mul-le-mul_left}
use Rattle.serde_json.specs.Data.{Data}
use Rattle.serde_json.specs.Find.{get}
use Rattle.serde_json.specs.Written.{compact_text}
use Rattle.nuc_base.specs.Tables.{Table, AllHold, on}
use Rattle.nuc_base.specs.declared.artifact.Artifact.{Artifact}
use Rattle.nuc_base.specs.declared.platform.Platform.{Platform}
use Rattle.tree_core.specs.Parts.{present, values, optional}
use Rattle.recipe_reader.specs.Artifacts.{IsArtifact, AreArtifacts, artifacts_lines}
use Rattle.recipe_reader.specs.Dependencies.{dependencies_lines}
use Rattle.recipe_reader.specs.Lifecycles.{lifecycle_lines}
use Rattle.recipe_reader.specs.OneRecipe.{IsRecipeFor}
use Rattle.recipe_reader.specs.Platforms.{manifests_lines}
use Rattle.recipe_reader.specs.Recipes.{head_lines, config_lines, chosen_lines, part_lines, inner, manifest_of}
use Rattle.recipe_reader.specs.Spelled.{spelled}
use Rattle.recipe_reader.specs.declared.fault.Key.TheVariants.{ComponentConfiguration, ComponentDependencies, Manifests, Lifecycle, Artifacts}
use Rattle.recipe_reader.specs.declared.recipe.Recipe.{Recipe}
use Rattle.records.specs.Codec.{Codec, ◌&◌, only_if, string, list_of}
use Rattle.records.specs.Layout as layout
use Rattle.records.specs.Layout.{Spelled, Wanted, wanted, wanted_of}
use Rattle.records.specs.Stored.{Item, Plan, Accepted}
use Rattle.records.specs.declared.record.Held.{Held}
use Rattle.records.specs.declared.record.Requirement.{Requirement}
use Rattle.device.specs.Plans.{HasRecipe, HasConfig, IsHeldFor, IsPlan}

-- ---- a recipe has few files

hold_last : {Fault : Type 0} (above lines : Table Fault) → AllHold (above ++ lines) → AllHold lines
hold_last [] lines h = h
hold_last (line ∷ above) lines h = hold_last above lines h.1

pub as_long : {A B : Type 0} (R : A → B → Type 0) (xs : List A) (ys : List B) → AllZip R xs ys → length ys ≡ length xs
as_long R [] [] z = refl
as_long R [] (y ∷ ys) z = absurd z
as_long R (x ∷ xs) [] z = absurd z
as_long R (x ∷ xs) (y ∷ ys) z = let rest = as_long R xs ys z.1 in omega (arith, rest)

few_in : (v : Option Data) (xs : List Artifact) → AllHold (on v artifacts_lines) → AreArtifacts v xs → length xs ≤ 64
few_in None xs h a = rw a (omega arith)
few_in (Some v) xs h a = let same = as_long IsArtifact (values v) xs a in let few = h.1.0 in omega (arith, same, few)

few_at : (m : Option Data) (xs : List Artifact) → AllHold (on m chosen_lines) → AreArtifacts (inner Artifacts m) xs → length xs ≤ 64
few_at None xs h a = rw a (omega arith)
few_at (Some v) xs h a = few_in (present (get (spelled Artifacts) v)) xs
    (hold_last (optional (spelled Lifecycle) v lifecycle_lines) (optional (spelled Artifacts) v artifacts_lines) h) a

pub few_files : (bytes : List ℕ) (platform : Platform) (recipe : Recipe) → IsRecipeFor bytes platform recipe → length recipe.artifacts ≤ 64
few_files bytes platform recipe r =
    let d = r.0 in
    let parts = hold_last ((head_lines d ++ optional (spelled ComponentConfiguration) d config_lines) ++ optional (spelled ComponentDependencies) d
    dependencies_lines) (part_lines platform d) r.2 in
    few_at (manifest_of platform d) recipe.artifacts (hold_last (optional (spelled Manifests) d (manifests_lines platform))
    (on (manifest_of platform d) chosen_lines) parts) r.3.artifacts

-- ---- lengths of spellings

four : (n : ℕ) → length (to_be_bytes w32 n) ≡ 4
four n = refl

flat_short : {A : Type 0} (f : A → List ℕ) (n : ℕ) (xs : List A) → AllByRecursion (λ x. length (f x) ≤ n) xs → length (flat_map f xs) ≤ n * length xs
flat_short f n [] h = omega arith
flat_short f n (x ∷ xs) h =
    let rest = flat_short f n xs h.1 in
    let first = h.0 in
    let both = length-append (f x) (flat_map f xs) in
    omega (arith, rest, first, both)

pub list_short : {A : Type 0} (f : A → List ℕ) (n m : ℕ) (xs : List A) → AllByRecursion (λ x. length (f x) ≤ n) xs → length xs ≤ m →
    length (to_be_bytes w32 (length xs) ++ flat_map f xs) ≤ 4 + n * m
list_short f n m xs h few =
    let flat = flat_short f n xs h in
    let most = mul-le-mul_left n few in
    let both = length-append (to_be_bytes w32 (length xs)) (flat_map f xs) in
    let head = four (length xs) in
    omega (arith, flat, most, both, head)

pub text_short : (t : List ℕ) (n : ℕ) → length t ≤ n → length (to_be_bytes w32 (length t) ++ t) ≤ 4 + n
text_short t n h =
    let both = length-append (to_be_bytes w32 (length t)) t in
    let head = four (length t) in
    omega (arith, both, head, h)

pub both_short : (a b : List ℕ) (n m : ℕ) → length a ≤ n → length b ≤ m → length (a ++ b) ≤ n + m
both_short a b n m h k = let both = length-append a b in omega (arith, both, h, k)

-- ---- the parts of a plan

held_short : (held : List Held) → AllByRecursion layout.held.Fits held → AllByRecursion (λ h. length (layout.held.spell h) ≤ 292) held
held_short [] f = tt
held_short (h ∷ held) f =
    let digest = f.0.1 in
    (both_short (layout.label.spell h.file) h.digest 260 32 (text_short h.file 256 f.0.0.0.short) (omega (arith, digest)), held_short held f.1)

pub item_short : (platform : Platform) (item : Item) → layout.item.Fits item → HasRecipe platform item → HasConfig item
    → length (layout.item.spell item) ≤ 150036
item_short platform item fits has config =
    let recipe = has.1.reads in
    let files = few_files item.recipe platform has.0 recipe in
    let same = as_long IsHeldFor has.0.artifacts item.artifacts has.1.files in
    both_short (layout.name.spell item.name) _ 132 149904 (text_short item.name 128 fits.0.0.short)
    (both_short (layout.version.spell item.version) _ 132 149772 (text_short item.version 128 fits.1.0.0.short)
    (both_short (string.spell item.recipe) _ 65540 84232 (text_short item.recipe 65536 recipe.1.within)
    (both_short (layout.tree.spell item.config) _ 65540 18692 (text_short (compact_text item.config) 65536 config.short)
    (list_short layout.held.spell 292 64 item.artifacts (held_short item.artifacts fits.1.1.1.1.1) (omega (arith, files, same))))))

items_short : (platform : Platform) (items : List Item) → AllByRecursion layout.item.Fits items → AllByRecursion (HasRecipe platform) items →
    AllByRecursion HasConfig items
    → AllByRecursion (λ i. length (layout.item.spell i) ≤ 150036) items
items_short platform [] fits has configs = tt
items_short platform (i ∷ items) fits has configs = (item_short platform i fits.0 has.0 configs.0, items_short platform items fits.1 has.1 configs.1)

pub requirements_short : (requirements : List Requirement) → AllByRecursion layout.requirement.Fits requirements →
    AllByRecursion (λ r. length (layout.requirement.spell r) ≤ 4232) requirements
requirements_short [] f = tt
requirements_short (r ∷ requirements) f = (
  both_short (layout.name.spell r.name) (layout.range.spell r.range) 132 4100 (text_short r.name 128 f.0.0.0.short)
      (text_short r.range 4096 f.0.1.0.readable.short),
  requirements_short requirements f.1,
)

boots_short : (boots : List (List ℕ)) → AllByRecursion layout.name.Fits boots → AllByRecursion (λ n. length (layout.name.spell n) ≤ 132) boots
boots_short [] f = tt
boots_short (n ∷ boots) f = (text_short n 128 f.0.0.short, boots_short boots f.1)

abbrev after_items : Plan → List ℕ
after_items plan = (list_of layout.name).spell plan.boots

abbrev after_requirements : Plan → List ℕ
after_requirements plan = (list_of layout.item).spell plan.items ++ after_items plan

abbrev after_policy : Plan → List ℕ
after_policy plan = (list_of layout.requirement).spell plan.requirements ++ after_requirements plan

-- the most bytes of what stands behind the revision
abbrev wanted_most : ℕ
wanted_most = 1 + ((4 + 4232 * 128) + ((4 + 150036 * 128) + (4 + 132 * 128)))

wanted_short : (platform : Platform) (plan : Plan) → IsPlan platform plan → wanted.Fits (wanted_of plan) → length (wanted.spell (wanted_of plan)) ≤ wanted_most
wanted_short platform plan is fits =
    both_short (layout.policy.spell plan.policy) (after_policy plan) 1 _ (omega arith)
    (both_short ((list_of layout.requirement).spell plan.requirements) (after_requirements plan) (4 + 4232 * 128) _
    (list_short layout.requirement.spell 4232 128 plan.requirements (requirements_short plan.requirements fits.1.0.1) is.requirements.few)
    (both_short ((list_of layout.item).spell plan.items) (after_items plan) (4 + 150036 * 128) (4 + 132 * 128)
    (list_short layout.item.spell 150036 128 plan.items (items_short platform plan.items fits.1.1.0.1 is.items.recipes is.items.configs) is.items.few)
    (list_short layout.name.spell 132 128 plan.boots (boots_short plan.boots fits.1.1.1.1) is.boots.few)))

abbrev Plain : Type 0
Plain = List ℕ × (List ℕ × Wanted)

abbrev plain_plan : Plan → Plain
plain_plan p = (p.id, (p.group, wanted_of p))

abbrev plain : Codec Plain
plain = layout.label & layout.label & wanted

abbrev Revised : Type 0
Revised = List ℕ × (List ℕ × (ℕ × Wanted))

abbrev revised_plan : Plan → Revised
revised_plan p = (p.id, (p.group, (p.revision, wanted_of p)))

abbrev revised : Codec Revised
revised = layout.label & layout.label & layout.revision & wanted

eight : (n : ℕ) → length (layout.revision.spell n) ≡ 8
eight n = refl

-- the two spellings, by whether the revision is 0
by_revision : (platform : Platform) (plan : Plan) (b : Bool) → IsPlan platform plan
    → layout.choose (is_some (only_if b (plain_plan plan))) (IsSomeAnd (only_if b (plain_plan plan)) plain.Fits) (revised.Fits (revised_plan plan))
    → length (if is_some (only_if b (plain_plan plan)) then 18 ∷ option_map_or plain.spell (only_if b (plain_plan plan)) [] else 29 ∷
    revised.spell (revised_plan plan)) ≤ 1 + (260 + (260 + (8 + wanted_most)))
by_revision platform plan true is fits =
    let rest =
    both_short (layout.label.spell plan.id) (layout.label.spell plan.group ++ wanted.spell (wanted_of plan)) 260 _ (text_short plan.id 256 fits.0.0.short)
    (both_short (layout.label.spell plan.group) (wanted.spell (wanted_of plan)) 260 wanted_most (text_short plan.group 256 fits.1.0.0.short)
    (wanted_short platform plan is fits.1.1)) in
    omega (arith, rest)
by_revision platform plan false is fits =
    let number = eight plan.revision in
    let rest =
    both_short (layout.label.spell plan.id) (layout.label.spell plan.group ++ (layout.revision.spell plan.revision ++ wanted.spell (wanted_of plan))) 260 _
    (text_short plan.id 256 fits.0.0.short)
    (both_short (layout.label.spell plan.group) (layout.revision.spell plan.revision ++ wanted.spell (wanted_of plan)) 260 _
    (text_short plan.group 256 fits.1.0.0.short)
    (both_short (layout.revision.spell plan.revision) (wanted.spell (wanted_of plan)) 8 wanted_most (omega (arith, number))
    (wanted_short platform plan is fits.1.1.1))) in
    omega (arith, rest)

pub short : (platform : Platform) (plan : Plan) (bytes : List ℕ) → IsPlan platform plan → Spelled bytes (Accepted plan) → length bytes ≤ 33554432
short platform plan bytes is spelled =
    let most = by_revision platform plan (plan.revision == 0) is spelled.fits in
    let same = ap length spelled.same in
    omega (arith, most, same)
