-- Where the fault of some lines is that of all lines.
use Rattle.std.proofs.Common.{◌++◌, List, ℕ, codes}
use Rattle.serde_json.specs.Data.{Data}
use Rattle.nuc_base.specs.Tables.{Table, AllHold, IsFaultBy, on}
use Rattle.nuc_base.proofs.Tables.{fault_after, fault_before, all_both}
use Rattle.tree_core.specs.Parts.{check, IsObject}
use Rattle.deployment_doc.specs.Lines.{at_optional, at_required, label_lines, revision_lines, policies_lines, components_lines, document_lines, reset_in}
use Rattle.deployment_doc.specs.Lines.{merge_in, reset_lines, merge_lines, update_lines, HasBoth}
use Rattle.deployment_doc.specs.declared.fault.DocFault.{DocFault}
use Rattle.deployment_doc.specs.declared.fault.DocFault.TheVariants.{WrongKind, DuplicateKey, NoMemory}
use Rattle.deployment_doc.specs.declared.fault.Key.TheVariants.{Document, DeploymentId, TargetArn, Revision, DeploymentPolicies, Components}
use Rattle.deployment_doc.specs.declared.fault.Key.TheVariants.{ConfigurationUpdate, Reset, Merge}

module _ (d : Data) where
  abbrev pub objects : Table DocFault
  objects = check (IsObject d) (WrongKind Document)

  abbrev pub ids : Table DocFault
  ids = at_optional DeploymentId d (label_lines DeploymentId)

  abbrev pub groups : Table DocFault
  groups = at_required TargetArn d (label_lines TargetArn)

  abbrev pub revisions : Table DocFault
  revisions = at_optional Revision d revision_lines

  abbrev pub policies : Table DocFault
  policies = at_optional DeploymentPolicies d policies_lines

  abbrev pub roots : Table DocFault
  roots = at_optional Components d components_lines

  -- the lines above those on the revision, and above those on the components
  abbrev pub above_revision : Table DocFault
  above_revision = objects ++ ids ++ groups

  abbrev pub above_roots : Table DocFault
  above_roots = above_revision ++ revisions ++ policies

  pub all_above_revision : IsObject d → AllHold ids → AllHold groups → AllHold above_revision
  all_above_revision o i g = all_both (objects ++ ids) groups (all_both objects ids (o, tt) i) g

  pub all_above : AllHold above_revision → AllHold revisions → AllHold policies → AllHold above_roots
  all_above above r p = all_both (above_revision ++ revisions) policies (all_both above_revision revisions above r) p

  from_revision : (f : DocFault) → IsFaultBy NoMemory (above_revision ++ revisions) f → IsFaultBy NoMemory (document_lines d) f
  from_revision f h = fault_before NoMemory above_roots roots f (fault_before NoMemory (above_revision ++ revisions) policies f h)

  pub at_id : (f : DocFault) → IsObject d → IsFaultBy NoMemory ids f → IsFaultBy NoMemory (document_lines d) f
  at_id f o h =
      from_revision f
      (fault_before NoMemory above_revision revisions f
      (fault_before NoMemory (objects ++ ids) groups f
      (fault_after NoMemory objects ids f (o, tt) h)))

  pub at_group : (f : DocFault) → IsObject d → AllHold ids → IsFaultBy NoMemory groups f → IsFaultBy NoMemory (document_lines d) f
  at_group f o i h =
      from_revision f
      (fault_before NoMemory above_revision revisions f
      (fault_after NoMemory (objects ++ ids) groups f (all_both objects ids (o, tt) i) h))

  pub at_revision : (f : DocFault) → AllHold above_revision → IsFaultBy NoMemory revisions f → IsFaultBy NoMemory (document_lines d) f
  at_revision f above h = from_revision f (fault_after NoMemory above_revision revisions f above h)

  pub at_policy : (f : DocFault) → AllHold above_revision → AllHold revisions → IsFaultBy NoMemory policies f → IsFaultBy NoMemory (document_lines d) f
  at_policy f above r h =
      fault_before NoMemory above_roots roots f
      (fault_after NoMemory (above_revision ++ revisions) policies f (all_both above_revision revisions above r) h)

  pub at_roots : (f : DocFault) → AllHold above_roots → IsFaultBy NoMemory roots f → IsFaultBy NoMemory (document_lines d) f
  at_roots f above h = fault_after NoMemory above_roots roots f above h

  pub all_document : AllHold above_roots → AllHold roots → AllHold (document_lines d)
  all_document above r = all_both above_roots roots above r

module _ (name : List ℕ) (v : Data) (f : DocFault) where
  abbrev pub checks : Table DocFault
  checks = check (IsObject v) (WrongKind ConfigurationUpdate)
      ++ check (¬ HasBoth (codes "reset") (codes "RESET") v) (DuplicateKey Reset)
      ++ check (¬ HasBoth (codes "merge") (codes "MERGE") v) (DuplicateKey Merge)

  abbrev pub resets : Table DocFault
  resets = on (reset_in v) (reset_lines name)

  abbrev pub merges : Table DocFault
  merges = on (merge_in v) (merge_lines name)

  pub at_resets : AllHold checks → IsFaultBy NoMemory resets f → IsFaultBy NoMemory (update_lines name v) f
  at_resets o h = fault_before NoMemory (checks ++ resets) merges f (fault_after NoMemory checks resets f o h)

  pub at_merge : AllHold checks → AllHold resets → IsFaultBy NoMemory merges f → IsFaultBy NoMemory (update_lines name v) f
  at_merge o r h = fault_after NoMemory (checks ++ resets) merges f (all_both checks resets o r) h

  pub all_update : AllHold checks → AllHold resets → AllHold merges → AllHold (update_lines name v)
  all_update o r m = all_both (checks ++ resets) merges (all_both checks resets o r) m
