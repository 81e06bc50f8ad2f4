-- Every draft is filled by some plan: each file that has no digest yet takes an empty one. What a law says of the filled
-- plan it then says of the draft.
use Rattle.std.proofs.Common.{◌≡◌, ℕ, List, [], ◌∷◌, map, refl, sym, ap, ◌∙◌}
use Rattle.std.specs.Prelude.{Option, Some, None, IfSome}
use Rattle.std.specs.List.{AllZip}
use Rattle.nuc_base.specs.declared.artifact.Artifact.{Artifact}
use Rattle.recipe_reader.specs.Sound.{artifact_file}
use Rattle.records.specs.Stored.{Item, DraftItem, Draft, Plan}
use Rattle.records.specs.declared.record.Held.{Held}
use Rattle.device.specs.Plans.{IsHeldFor, item_name}
use Rattle.device.specs.Filled.{PlanFilled, ItemFilled}
use Rattle.artifact_store.specs.Staged.{draft_name}

abbrev given_or_none : Option (List ℕ) → List ℕ
given_or_none None = []
given_or_none (Some d) = d

abbrev sample_held : Artifact → Held
sample_held a = record { file = a.file; digest = given_or_none a.digest }

abbrev pub sample_item : DraftItem → Item
sample_item i = record { name = i.name; version = i.version; recipe = i.recipe; config = i.config; artifacts = map sample_held i.artifacts }

abbrev pub sample : Draft → Plan
sample draft = record {
  id = draft.id;
  group = draft.group;
  revision = draft.revision;
  policy = draft.policy;
  requirements = draft.requirements;
  items = map sample_item draft.items;
  boots = draft.boots;
}

given_is : (o : Option (List ℕ)) → IfSome o (λ d. given_or_none o ≡ d)
given_is None = tt
given_is (Some d) = refl

files_filled : (parts : List Artifact) → AllZip IsHeldFor parts (map sample_held parts)
files_filled [] = tt
files_filled (a ∷ parts) = (record { file = refl; digest = given_is a.digest }, files_filled parts)

items_filled : (items : List DraftItem) → AllZip ItemFilled items (map sample_item items)
items_filled [] = tt
items_filled (i ∷ items) = (record { name = refl; version = refl; recipe = refl; config = refl; files = files_filled i.artifacts }, items_filled items)

pub sample_fills : (draft : Draft) → PlanFilled draft (sample draft)
sample_fills draft = record { id = refl; group = refl; revision = refl; policy = refl; requirements = refl; items = items_filled draft.items; boots = refl }

pub sample_names : (items : List DraftItem) → map item_name (map sample_item items) ≡ map draft_name items
sample_names [] = refl
sample_names (i ∷ items) = ap (λ (ns : List (List ℕ)). i.name ∷ ns) (sample_names items)

-- files beside those of a recipe have its names
pub files_same : (parts drafted : List Artifact) → AllZip IsHeldFor parts (map sample_held drafted) → map artifact_file parts ≡ map artifact_file drafted
files_same [] [] z = refl
files_same [] (b ∷ drafted) z = absurd z
files_same (a ∷ parts) [] z = absurd z
files_same (a ∷ parts) (b ∷ drafted) z =
    ap (λ (f : List ℕ). f ∷ map artifact_file parts) (sym z.0.file) ∙ ap (λ (fs : List (List ℕ)). b.file ∷ fs) (files_same parts drafted z.1)
