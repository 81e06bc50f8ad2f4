-- Manifests one after another, up to the first that matches.
use Rattle.std.proofs.Common.{◌≡◌, ◌≢◌, length, map, true, false, List, [], ◌∷◌, ◌++◌, inl, inr, Some, None, refl, rules, sym, subst, ap, ◌∙◌}
use Rattle.std.specs.Prelude.{if◌then◌else◌, IsSome}
use Rattle.serde_json.specs.Data.{Data}
use Rattle.nuc_base.specs.Tables.{Table, AllHold, IsFirst, IsFaultBy}
use Rattle.tree_core.specs.View.{view}
use Rattle.tree_core.specs.declared.tree.Tree.{Tree}
use Rattle.tree_core.specs.Parts.{check}
use Rattle.nuc_base.specs.declared.platform.Platform.{Platform}
use Rattle.nuc_base.proofs.Tables.{first_after, fault_along, fault_before, fault_after, all_both}
use Rattle.recipe_reader.specs.Platforms.{manifest_lines, matches, unless, walk_lines, chosen, HasChoice}
use Rattle.recipe_reader.specs.declared.fault.RecipeFault.{RecipeFault}
use Rattle.recipe_reader.specs.declared.fault.RecipeFault.TheVariants.{NoMemory, NoManifest}

-- what a walk keeps: what all of them say is what those that are left say
pub record Walks (platform : Platform) (all rest : List Data) : Type 0 where
  pub faults : (f : RecipeFault) → IsFirst (walk_lines platform rest) f → IsFirst (walk_lines platform all) f
  pub holds : AllHold (walk_lines platform rest) → AllHold (walk_lines platform all)
  pub found : chosen platform all ≡ chosen platform rest

module _ (platform : Platform) (all : List Data) where
  pub walks_start : Walks platform all all
  walks_start = record { faults = λ f h. h; holds = λ h. h; found = refl }

  module _ (m : Data) (rest : List Data) (w : Walks platform all (m ∷ rest)) where
    pub walks_next : AllHold (manifest_lines m) → matches platform m ≡ false → Walks platform all rest
    walks_next holds other = record {
      faults = λ f h. w.faults f (first_after (manifest_lines m) (unless (matches platform m) (walk_lines platform rest)) f holds
          (subst (λ b. IsFirst (unless b (walk_lines platform rest)) f) (sym other) h));
      holds = λ h. w.holds (all_both (manifest_lines m) (unless (matches platform m) (walk_lines platform rest)) holds
          (subst (λ b. AllHold (unless b (walk_lines platform rest))) (sym other) h));
      found = w.found ∙ ap (λ b. if b then Some m else chosen platform rest) other;
    }

    pub walks_fault : (f : RecipeFault) → IsFaultBy NoMemory (manifest_lines m) f → IsFaultBy NoMemory (walk_lines platform all) f
    walks_fault f h = fault_along NoMemory (walk_lines platform (m ∷ rest)) (walk_lines platform all) f w.faults
        (fault_before NoMemory (manifest_lines m) (unless (matches platform m) (walk_lines platform rest)) f h)

    pub walks_found : AllHold (manifest_lines m) → matches platform m ≡ true → AllHold (walk_lines platform all) × (Some m ≡ chosen platform all)
    walks_found holds same = (
      w.holds (all_both (manifest_lines m) (unless (matches platform m) (walk_lines platform rest)) holds
          (subst (λ b. AllHold (unless b (walk_lines platform rest))) (sym same) tt)),
      sym (w.found ∙ ap (λ b. if b then Some m else chosen platform rest) same),
    )

  pub walks_end : Walks platform all [] → AllHold (walk_lines platform all) × (None ≡ chosen platform all)
  walks_end w = (w.holds tt, sym w.found)

-- ---- one of them, or there are none

module _ (platform : Platform) (ms : List Data) where
  abbrev pub choices : Table RecipeFault
  choices = check (HasChoice platform ms) NoManifest

  some_is : (m : Data) → IsSome (Some m)
  some_is m = search rules

  pub choice_found : (m : Data) → AllHold (walk_lines platform ms) → Some m ≡ chosen platform ms → AllHold (walk_lines platform ms ++ choices)
  choice_found m holds is = all_both (walk_lines platform ms) choices holds (inr (subst IsSome is (some_is m)), tt)

  pub choice_empty : AllHold (walk_lines platform ms) → ms ≡ [] → AllHold (walk_lines platform ms ++ choices)
  choice_empty holds is = all_both (walk_lines platform ms) choices holds (inl is, tt)

  missing : None ≡ chosen platform ms → (ms ≡ [] → ⊥) → HasChoice platform ms → ⊥
  missing is some (inl h) = some h
  missing is some (inr h) = let none : IsSome {T = Data} None = subst IsSome (sym is) h in cc

  pub choice_missing : AllHold (walk_lines platform ms) → None ≡ chosen platform ms → (ms ≡ [] → ⊥) →
      IsFaultBy NoMemory (walk_lines platform ms ++ choices) NoManifest
  choice_missing holds is some = fault_after NoMemory (walk_lines platform ms) choices NoManifest holds (inr (inl (missing is some, refl)))

  pub choice_fault : (f : RecipeFault) → IsFaultBy NoMemory (walk_lines platform ms) f → IsFaultBy NoMemory (walk_lines platform ms ++ choices) f
  choice_fault f h = fault_before NoMemory (walk_lines platform ms) choices f h

pub some_tree : (ts : List Tree) → length ts ≢ 0 → map view ts ≡ [] → ⊥
some_tree [] h e = h refl
some_tree (t ∷ ts) h e = cc
