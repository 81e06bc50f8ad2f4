-- The request that the lines name is sound.
use Rattle.std.proofs.Common.{◌≡◌, ◌≤◌, ℕ, List, [], ◌∷◌, length, Option, Some, None, Result, Ok, Err, IfSome, IfOk, sym, subst, arith, lit≤}
use Rattle.std.specs.Cmp.Lexicographic.{slice_cmp}
use Rattle.std.specs.List.{All, AllZip}
use Rattle.std.specs.List.Sorted.{IsStrictlySortedBy}
use Rattle.std.specs.Map.{keys_of}
use Rattle.std.specs.Ordering.{nat_cmp}
use Rattle.std.proofs.lemmas.List.Elements.{All-cons, All-nil}
use Rattle.std.proofs.lemmas.Slice.Zip.{AllZip-long}
use Rattle.serde_json.specs.Data.{Data}
use Rattle.serde_json.specs.Find.{get}
use Rattle.nuc_base.specs.Tables.{AllHold, AnswerBy, on}
use Rattle.nuc_base.proofs.Tables.{hold_last}
use Rattle.tree_core.specs.Parts.{IsObject, members}
use Rattle.tree_core.specs.Regular.{IsRegular}
use Rattle.tree_core.proofs.RegularParts.{get_regular, present_regular}
use Rattle.tree_core.proofs.Rising.{names_rise}
use Rattle.config_ops.specs.declared.update.Update.{Update}
use Rattle.deployment_doc.specs.Named.{components as members_in}
use Rattle.deployment_doc.proofs.Soundness.{named_object}
use Rattle.local_deploy.specs.Lines.{merge_lines, updates_lines, request_lines, value_of, values_in}
use Rattle.local_deploy.specs.Named.{IsMerged, IsUpdated, IsRequest}
use Rattle.local_deploy.specs.Sound.{IsSoundRequest, UpdatesByObject}
use Rattle.local_deploy.specs.Spelled.{spelled}
use Rattle.local_deploy.specs.declared.fault.Key.{Key}
use Rattle.local_deploy.specs.declared.fault.Key.TheVariants as key
use Rattle.local_deploy.specs.declared.fault.LocalFault.{LocalFault}
use Rattle.local_deploy.specs.declared.fault.LocalFault.TheVariants.{NoMemory}
use Rattle.local_deploy.specs.declared.request.LocalRequest.{LocalRequest}
use Rattle.local_deploy.proofs.Apart.{read_apart}
use Rattle.local_deploy.proofs.Rows.{hold_above, above_merges, merges, above_removes, removes, above_updates, updates, above_aparts, aparts}

-- ---- parts of lines that hold

module _ (d : Data) (h : AllHold (request_lines d)) where
  aparts_hold : AllHold (aparts d)
  aparts_hold = hold_last (above_aparts d) (aparts d) h

  above_hold : AllHold (above_aparts d)
  above_hold = hold_above (above_aparts d) (aparts d) h

  updates_hold : AllHold (updates d)
  updates_hold = hold_last (above_updates d) (updates d) above_hold

  merges_hold : AllHold (merges d)
  merges_hold = hold_last (above_merges d) (merges d)
      (hold_above (above_removes d) (removes d) (hold_above (above_updates d) (updates d) above_hold))

-- ---- few names that rise

few_merged : (o : Option Data) → AllHold (on o merge_lines) → length (members_in o) ≤ 128
few_merged None h = lit≤ tt
few_merged (Some v) h = h.1.0

few_updated : (o : Option Data) → AllHold (on o updates_lines) → length (members_in o) ≤ 128
few_updated None h = lit≤ tt
few_updated (Some v) h = h.1.0

merged_object : (o : Option Data) → AllHold (on o merge_lines) → IfSome o IsObject
merged_object None h = tt
merged_object (Some v) h = h.0

updated_object : (o : Option Data) → AllHold (on o updates_lines) → IfSome o IsObject
updated_object None h = tt
updated_object (Some v) h = h.0

module _ {B : Type 0} (Is : List ℕ × Data → List ℕ × B → Type 0) (named : (m : List ℕ × Data) (b : List ℕ × B) → Is m b → b.0 ≡ m.0) where
  rises : (o : Option Data) (bs : List (List ℕ × B)) → IfSome o IsRegular → IfSome o IsObject → AllZip Is (members_in o) bs
      → IsStrictlySortedBy (slice_cmp nat_cmp) (keys_of bs)
  unfolding IsStrictlySortedBy
  rises None [] r h z = tt
  rises None (b ∷ bs) r h z = absurd z
  rises (Some v) bs r h z =
      subst (λ (w : Data). IsRegular w → AllZip Is (members w) bs → IsStrictlySortedBy (slice_cmp nat_cmp) (keys_of bs)) (sym h.1)
      (λ regular zip. names_rise (λ (b : List ℕ × B). b.0) Is named h.0 bs regular.orderly zip) r z

all_object : (ms : List (List ℕ × Data)) (us : List (List ℕ × Update)) → AllZip IsUpdated ms us → All UpdatesByObject us
all_object [] [] z = All-nil UpdatesByObject
all_object [] (u ∷ us) z = absurd z
all_object (m ∷ ms) [] z = absurd z
all_object (m ∷ ms) (u ∷ us) z = All-cons UpdatesByObject u us (named_object m.1 u.1 z.0.1) (all_object ms us z.1)

-- ---- the whole

value_regular : (k : Key) (d : Data) → IsRegular d → IfSome (value_of k d) IsRegular
value_regular k d r = present_regular (get (spelled k) d) (get_regular (spelled k) d r)

request_sound : (d : Data) (request : LocalRequest) → IsRegular d → AllHold (request_lines d) → IsRequest d request → IsSoundRequest request
request_sound d request r h is =
    let merged = merges_hold d h in
    let updated = updates_hold d h in
    let long_merged = AllZip-long IsMerged (members_in (value_of key.Merge d)) request.merge is.merge in
    let long_updated = AllZip-long IsUpdated (members_in (value_of key.UpdateConfig d)) request.updates is.updates in
    let few = few_merged (value_of key.Merge d) merged in
    let few_more = few_updated (value_of key.UpdateConfig d) updated in
    record {
      few_merged = omega (arith, long_merged, few);
      merged_rise = rises IsMerged (λ m b i. i.0) (value_of key.Merge d) request.merge (value_regular key.Merge d r)
          (merged_object (value_of key.Merge d) merged) is.merge;
      few_updated = omega (arith, long_updated, few_more);
      updated_rise = rises IsUpdated (λ m b i. i.0) (value_of key.UpdateConfig d) request.updates (value_regular key.UpdateConfig d r)
          (updated_object (value_of key.UpdateConfig d) updated) is.updates;
      apart = read_apart (values_in (value_of key.Remove d)) is.remove.names request.remove is.remove.are is.remove.each_once
          (members_in (value_of key.Merge d)) request.merge is.merge (aparts_hold d h);
      objects = all_object (members_in (value_of key.UpdateConfig d)) request.updates is.updates;
    }

pub sound : (d : Data) (result : Result LocalRequest LocalFault) → IsRegular d → AnswerBy NoMemory (request_lines d) (IsRequest d) result
    → IfOk result IsSoundRequest
sound d (Err f) r h = tt
sound d (Ok request) r h = request_sound d request r h.0 h.1
