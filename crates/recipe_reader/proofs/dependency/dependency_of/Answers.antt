use Rattle.std.proofs.Common.{subst}
use Rattle.nuc_base.specs.Names.{IsName}
use Rattle.nuc_base.specs.Tables.{Table}
use Rattle.nuc_base.proofs.Tables.{handed_on}
use Rattle.tree_core.specs.View.{view}
use Rattle.tree_core.specs.Parts.{check, optional, IsObject}
use Rattle.recipe_reader.specs.Spelled.{spelled}
use Rattle.recipe_reader.specs.Dependencies.{range_lines, kind_lines, dependency_lines, IsDependency}
use Rattle.recipe_reader.specs.declared.fault.RecipeFault.{RecipeFault}
use Rattle.recipe_reader.specs.declared.fault.RecipeFault.TheVariants.{NoMemory, BadName, WrongKind}
use Rattle.recipe_reader.specs.declared.fault.Key.TheVariants.{ComponentDependencies, VersionRequirement, DependencyType}
use Rattle.recipe_reader.proofs.Chains.{fault_3_of_4}
use Rattle.recipe_reader.proofs.dependency.dependency_of.Goals as goal

pub returns-in_err-range : goal.returns-in_err-range
returns-in_err-range c =
    let n = c.args.name.now in
    let v = view c.args.value.now in
    let f = c.in_err-range.field-0.0 in
    let named : IsName n = subst IsName c.as_bytes.ensures c.in-Ok.ensures.1 in
    let object : IsObject v = c.is_object.ensures.0 c.if-not-is_object.false in
    let first : Table RecipeFault = check (IsName n) (BadName ComponentDependencies) in
    let second : Table RecipeFault = check (IsObject v) (WrongKind ComponentDependencies) in
    let third : Table RecipeFault = optional (spelled VersionRequirement) v range_lines in
    let fourth : Table RecipeFault = optional (spelled DependencyType) v kind_lines in
    handed_on NoMemory (dependency_lines (n, v)) (IsDependency (n, v)) _ f c.from_residual.ensures.1
    (fault_3_of_4 NoMemory first second third fourth f (named, tt) (object, tt) c.in_err-range.ensures)
