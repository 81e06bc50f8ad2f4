-- Where the fault of some lines is that of all lines.
use Rattle.std.proofs.Common.{[], ◌∷◌, ◌++◌}
use Rattle.serde_json.specs.Data.{Data}
use Rattle.nuc_base.specs.Tables.{Table, AllHold, IsFaultBy, each}
use Rattle.nuc_base.proofs.Tables.{fault_after, fault_before, all_both}
use Rattle.tree_core.specs.Parts.{check, IsObject}
use Rattle.deployment_doc.specs.Named.{components as members_in}
use Rattle.local_deploy.specs.Lines.{at_optional, at_required, label_lines, policy_lines, merge_lines, remove_lines, updates_lines, apart_lines}
use Rattle.local_deploy.specs.Lines.{request_lines, value_of, values_in}
use Rattle.local_deploy.specs.declared.fault.LocalFault.{LocalFault}
use Rattle.local_deploy.specs.declared.fault.LocalFault.TheVariants.{WrongKind, NoMemory}
use Rattle.local_deploy.specs.declared.fault.Key.TheVariants.{Request, DeploymentId, FailureHandlingPolicy, Merge, Remove, UpdateConfig}

-- the lines above others hold where all do
pub hold_above : {F : Type 0} (above below : Table F) → AllHold (above ++ below) → AllHold above
hold_above [] below h = tt
hold_above (line ∷ lines) below h = (h.0, hold_above lines below h.1)

module _ (d : Data) where
  abbrev pub objects : Table LocalFault
  objects = check (IsObject d) (WrongKind Request)

  abbrev pub ids : Table LocalFault
  ids = at_required DeploymentId d label_lines

  abbrev pub policies : Table LocalFault
  policies = at_optional FailureHandlingPolicy d policy_lines

  abbrev pub merges : Table LocalFault
  merges = at_optional Merge d merge_lines

  abbrev pub removes : Table LocalFault
  removes = at_optional Remove d remove_lines

  abbrev pub updates : Table LocalFault
  updates = at_optional UpdateConfig d updates_lines

  abbrev pub aparts : Table LocalFault
  aparts = each (apart_lines (values_in (value_of Remove d))) (members_in (value_of Merge d))

  -- the lines above these
  abbrev pub above_policies : Table LocalFault
  above_policies = objects ++ ids

  abbrev pub above_merges : Table LocalFault
  above_merges = above_policies ++ policies

  abbrev pub above_removes : Table LocalFault
  above_removes = above_merges ++ merges

  abbrev pub above_updates : Table LocalFault
  above_updates = above_removes ++ removes

  abbrev pub above_aparts : Table LocalFault
  above_aparts = above_updates ++ updates

  -- ---- where none fails

  pub hold_ids : IsObject d → AllHold ids → AllHold above_policies
  hold_ids o i = all_both objects ids (o, tt) i

  pub hold_policies : AllHold above_policies → AllHold policies → AllHold above_merges
  hold_policies above h = all_both above_policies policies above h

  pub hold_merges : AllHold above_merges → AllHold merges → AllHold above_removes
  hold_merges above h = all_both above_merges merges above h

  pub hold_removes : AllHold above_removes → AllHold removes → AllHold above_updates
  hold_removes above h = all_both above_removes removes above h

  pub hold_updates : AllHold above_updates → AllHold updates → AllHold above_aparts
  hold_updates above h = all_both above_updates updates above h

  pub hold_all : AllHold above_aparts → AllHold aparts → AllHold (request_lines d)
  hold_all above h = all_both above_aparts aparts above h

  -- ---- where one fails

  module _ (f : LocalFault) where
    pub at_apart : AllHold above_aparts → IsFaultBy NoMemory aparts f → IsFaultBy NoMemory (request_lines d) f
    at_apart above h = fault_after NoMemory above_aparts aparts f above h

    pub at_updates : AllHold above_updates → IsFaultBy NoMemory updates f → IsFaultBy NoMemory (request_lines d) f
    at_updates above h = fault_before NoMemory above_aparts aparts f (fault_after NoMemory above_updates updates f above h)

    from_removes : IsFaultBy NoMemory above_updates f → IsFaultBy NoMemory (request_lines d) f
    from_removes h = fault_before NoMemory above_aparts aparts f (fault_before NoMemory above_updates updates f h)

    pub at_removes : AllHold above_removes → IsFaultBy NoMemory removes f → IsFaultBy NoMemory (request_lines d) f
    at_removes above h = from_removes (fault_after NoMemory above_removes removes f above h)

    from_merges : IsFaultBy NoMemory above_removes f → IsFaultBy NoMemory (request_lines d) f
    from_merges h = from_removes (fault_before NoMemory above_removes removes f h)

    pub at_merges : AllHold above_merges → IsFaultBy NoMemory merges f → IsFaultBy NoMemory (request_lines d) f
    at_merges above h = from_merges (fault_after NoMemory above_merges merges f above h)

    from_policies : IsFaultBy NoMemory above_merges f → IsFaultBy NoMemory (request_lines d) f
    from_policies h = from_merges (fault_before NoMemory above_merges merges f h)

    pub at_policies : AllHold above_policies → IsFaultBy NoMemory policies f → IsFaultBy NoMemory (request_lines d) f
    at_policies above h = from_policies (fault_after NoMemory above_policies policies f above h)

    pub at_ids : IsObject d → IsFaultBy NoMemory ids f → IsFaultBy NoMemory (request_lines d) f
    at_ids o h = from_policies (fault_before NoMemory above_policies policies f (fault_after NoMemory objects ids f (o, tt) h))
