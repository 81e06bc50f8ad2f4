use Rattle.std.proofs.Common.{◌++◌, subst, ◌∙◌, ◌≡◌, List, ℕ}
use Rattle.nuc_base.specs.Tables.{AllHold, Table, IsFaultBy}
use Rattle.nuc_base.proofs.Tables.{handed_on, fault_after, fault_before}
use Rattle.nuc_base.specs.Names.{IsName}
use Rattle.tree_core.specs.View.{view}
use Rattle.tree_core.specs.Parts.{check, IsObject}
use Rattle.deployment_doc.specs.Lines.{at_required, at_optional, range_lines, update_lines}
use Rattle.deployment_doc.specs.declared.fault.DocFault.{DocFault}
use Rattle.deployment_doc.specs.declared.fault.DocFault.TheVariants.{BadName, WrongKind, NoMemory}
use Rattle.deployment_doc.specs.declared.fault.Key.TheVariants.{Components, ComponentVersion, ConfigurationUpdate}
use Rattle.deployment_doc.specs.Named.{IsRoot}
use Rattle.tree_core.proofs.Seen.{is_object}
use Rattle.deployment_doc.proofs.roots.root_of.Goals as goal

pub returns-in_err-range : goal.returns-in_err-range
returns-in_err-range c =
    let above : Table DocFault = check (IsName c.args.name.now) (BadName Components) ++ check (IsObject (view c.args.component.now)) (WrongKind Components) in
    let named : IsName c.args.name.now = subst IsName (c.as_bytes.ensures.value ∙ c.as_str.ensures) c.in-Ok.ensures.1 in
    let fields : IsObject (view c.args.component.now) = is_object _ c.in-Fields.field-0 c.in-Fields.is in
    let holds : AllHold above = (named, (fields, tt)) in
    let d = view c.args.component.now in
    let f = c.in_err-range.field-0.0 in
    let below : Table DocFault = at_required ComponentVersion d (range_lines c.args.name.now) in
    let same : c.in-Ok.name ≡ c.args.name.now = c.in-Ok.ensures.0 ∙ c.as_bytes.ensures.value ∙ c.as_str.ensures in
    let here : IsFaultBy NoMemory below f =
    subst (λ (n : List ℕ). IsFaultBy NoMemory (at_required ComponentVersion d (range_lines n)) f) same c.in_err-range.ensures in
    let last : Table DocFault = at_optional ConfigurationUpdate d (update_lines c.args.name.now) in
    handed_on NoMemory (above ++ below ++ last) (IsRoot (c.args.name.now, d)) _ f c.from_residual.ensures.1
    (fault_before NoMemory (above ++ below) last f (fault_after NoMemory above below f holds here))
