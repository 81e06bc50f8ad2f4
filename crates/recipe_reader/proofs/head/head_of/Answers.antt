use Rattle.tree_core.specs.View.{view}
use Rattle.tree_core.specs.Parts.{check, optional, IsObject}
use Rattle.nuc_base.proofs.Tables.{handed_on}
use Rattle.recipe_reader.specs.Spelled.{spelled}
use Rattle.recipe_reader.specs.Recipes.{needed, format_lines, name_lines, version_lines, type_lines, global_lines, head_lines}
use Rattle.recipe_reader.specs.Gathered.{IsHead}
use Rattle.recipe_reader.specs.declared.fault.RecipeFault.TheVariants.{NoMemory, WrongKind}
use Rattle.recipe_reader.specs.declared.fault.Key.TheVariants.{Recipe, RecipeFormatVersion, ComponentName, ComponentVersion, ComponentType, Lifecycle}
use Rattle.recipe_reader.proofs.Chains.{all_6, fault_2_of_6, fault_3_of_6, fault_4_of_6, fault_5_of_6, fault_6_of_6}
use Rattle.recipe_reader.proofs.head.head_of.Goals as goal

pub returns-in_err-check_format : goal.returns-in_err-check_format
returns-in_err-check_format c =
    let v = view c.args.recipe.now in
    let object : IsObject v = c.is_object.ensures.0 c.if-not-is_object.false in
    let f = c.in_err-check_format.field-0.0 in
    handed_on NoMemory (head_lines v) (IsHead v) _ f c.from_residual.ensures.1
    (fault_2_of_6 NoMemory (check (IsObject v) (WrongKind Recipe)) (needed RecipeFormatVersion v format_lines) (needed ComponentName v name_lines)
    (needed ComponentVersion v version_lines) (optional (spelled ComponentType) v type_lines) (optional (spelled Lifecycle) v global_lines) f (
      object,
      tt,
    ) c.in_err-check_format.ensures)

pub returns-in_err-name : goal.returns-in_err-name
returns-in_err-name c =
    let v = view c.args.recipe.now in
    let object : IsObject v = c.is_object.ensures.0 c.if-not-is_object.false in
    let f = c.in_err-name.field-0.0 in
    handed_on NoMemory (head_lines v) (IsHead v) _ f c.from_residual-in_err-name.ensures.1
    (fault_3_of_6 NoMemory (check (IsObject v) (WrongKind Recipe)) (needed RecipeFormatVersion v format_lines) (needed ComponentName v name_lines)
    (needed ComponentVersion v version_lines) (optional (spelled ComponentType) v type_lines) (optional (spelled Lifecycle) v global_lines) f (
      object,
      tt,
    ) c.in_ok-check_format.ensures.0 c.in_err-name.ensures)

pub returns-in_err-version : goal.returns-in_err-version
returns-in_err-version c =
    let v = view c.args.recipe.now in
    let object : IsObject v = c.is_object.ensures.0 c.if-not-is_object.false in
    let f = c.in_err-version.field-0.0 in
    handed_on NoMemory (head_lines v) (IsHead v) _ f c.from_residual-in_err-version.ensures.1
    (fault_4_of_6 NoMemory (check (IsObject v) (WrongKind Recipe)) (needed RecipeFormatVersion v format_lines) (needed ComponentName v name_lines)
    (needed ComponentVersion v version_lines) (optional (spelled ComponentType) v type_lines) (optional (spelled Lifecycle) v global_lines) f (
      object,
      tt,
    ) c.in_ok-check_format.ensures.0 c.in_ok-name.ensures.0 c.in_err-version.ensures)

pub returns-in_err-check_type : goal.returns-in_err-check_type
returns-in_err-check_type c =
    let v = view c.args.recipe.now in
    let object : IsObject v = c.is_object.ensures.0 c.if-not-is_object.false in
    let f = c.in_err-check_type.field-0.0 in
    handed_on NoMemory (head_lines v) (IsHead v) _ f c.from_residual-in_err-check_type.ensures.1
    (fault_5_of_6 NoMemory (check (IsObject v) (WrongKind Recipe)) (needed RecipeFormatVersion v format_lines) (needed ComponentName v name_lines)
    (needed ComponentVersion v version_lines) (optional (spelled ComponentType) v type_lines) (optional (spelled Lifecycle) v global_lines) f (
      object,
      tt,
    ) c.in_ok-check_format.ensures.0 c.in_ok-name.ensures.0 c.in_ok-version.ensures.0 c.in_err-check_type.ensures)

pub returns-in_err-check_global : goal.returns-in_err-check_global
returns-in_err-check_global c =
    let v = view c.args.recipe.now in
    let object : IsObject v = c.is_object.ensures.0 c.if-not-is_object.false in
    let f = c.in_err-check_global.field-0.0 in
    handed_on NoMemory (head_lines v) (IsHead v) _ f c.from_residual-in_err-check_global.ensures.1
    (fault_6_of_6 NoMemory (check (IsObject v) (WrongKind Recipe)) (needed RecipeFormatVersion v format_lines) (needed ComponentName v name_lines)
    (needed ComponentVersion v version_lines) (optional (spelled ComponentType) v type_lines) (optional (spelled Lifecycle) v global_lines) f (
      object,
      tt,
    ) c.in_ok-check_format.ensures.0 c.in_ok-name.ensures.0 c.in_ok-version.ensures.0 c.in_ok-check_type.ensures.0 c.in_err-check_global.ensures)

pub returns : goal.returns
returns c =
    let v = view c.args.recipe.now in
    let object : IsObject v = c.is_object.ensures.0 c.if-not-is_object.false in (
      all_6 (check (IsObject v) (WrongKind Recipe)) (needed RecipeFormatVersion v format_lines) (needed ComponentName v name_lines) (needed ComponentVersion
          v version_lines) (optional (spelled ComponentType) v type_lines) (optional (spelled Lifecycle) v global_lines) (
            object,
            tt,
          ) c.in_ok-check_format.ensures.0 c.in_ok-name.ensures.0 c.in_ok-version.ensures.0 c.in_ok-check_type.ensures.0 c.in_ok-check_global.ensures.0,
      record { name = c.in_ok-name.ensures.1; version = c.in_ok-version.ensures.1 },
    )
