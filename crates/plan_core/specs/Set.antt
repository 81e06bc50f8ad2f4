-- The items of a plan: the chosen candidates, each with its configuration and its files.
use Rattle.std.specs.Prelude.{ℕ, List, [], ◌∷◌, ◌&&◌, map, find, Option, Some, None, option_map, option_and_then, slice_get}
use Rattle.std.specs.Option.{option_or}
use Rattle.std.specs.Str.{bytes_eq}
use Rattle.serde_json.specs.Data.{Data}
use Rattle.tree_core.specs.View.{view}
use Rattle.config_ops.specs.NewConfig.{Change, change_of, new_config}
use Rattle.nuc_base.specs.declared.artifact.Artifact.{Artifact}
use Rattle.recipe_reader.specs.declared.candidate.Candidate.{Candidate}
use Rattle.recipe_reader.specs.declared.recipe.Recipe.{Recipe}
use Rattle.records.specs.Stored.{Item, DraftItem}
use Rattle.records.specs.declared.record.Held.{Held}
use Rattle.deployment_doc.specs.declared.document.Root.{Root}

-- ---- what the set has already

abbrev pub item_named : List ℕ → List Item → Option Item
item_named n items = find (λ i. bytes_eq n i.name) items

-- the item of that name, where it is in that version
abbrev pub item_in : List ℕ → List ℕ → List Item → Option Item
item_in n v items = find (λ i. bytes_eq n i.name && bytes_eq v i.version) items

abbrev pub kept_digest : List ℕ → List Held → Option (List ℕ)
kept_digest file held = option_map (λ h. h.digest) (find (λ h. bytes_eq file h.file) held)

-- ---- one item

abbrev pub root_named : List ℕ → List Root → Option Root
root_named n roots = find (λ r. bytes_eq n r.name) roots

-- what the document changes in the configuration of the component
abbrev pub change_in : List ℕ → List Root → Option Change
change_in n roots = option_and_then (λ root. option_map change_of root.update) (root_named n roots)

-- from what the set has of that name, the default and the root's update
abbrev pub config_of : List Item → List Root → Recipe → Data
config_of set roots r = new_config (option_map (λ i. i.config) (item_named r.name set)) (view r.default_config) (change_in r.name roots)

-- an artifact of an item that is kept in this version has the digest that is kept
abbrev pub artifact_of : Option Item → Artifact → Artifact
artifact_of None a = a
artifact_of (Some i) a = record { file = a.file; digest = option_or (kept_digest a.file i.artifacts) a.digest }

abbrev pub item_of : List Item → List Root → Candidate → DraftItem
item_of set roots c = record {
  name = c.recipe.name;
  version = c.recipe.version;
  recipe = c.bytes;
  config = config_of set roots c.recipe;
  artifacts = map (artifact_of (item_in c.recipe.name c.recipe.version set)) c.recipe.artifacts;
}

-- ---- all of them

abbrev pub with_candidate : Option Candidate → List Candidate → List Candidate
with_candidate None cs = cs
with_candidate (Some c) cs = c ∷ cs

-- the candidates at these places
abbrev pub chosen : List Candidate → List ℕ → List Candidate
chosen cs [] = []
chosen cs (p ∷ ps) = with_candidate (slice_get cs p) (chosen cs ps)

abbrev pub items_of : List Item → List Root → List Candidate → List DraftItem
items_of set roots cs = map (item_of set roots) cs

-- the item without its files, which no script and no configuration looks at
abbrev pub bare : DraftItem → Item
bare i = record { name = i.name; version = i.version; recipe = i.recipe; config = i.config; artifacts = [] }
