use Rattle.std.proofs.Common.{◌≡◌, ◌∙◌, Bool, ap, ap₂, sym}
use Rattle.std.specs.Prelude.{◌&&◌}
use Rattle.tree_core.specs.View.{view}
use Rattle.tree_core.specs.Parts.{check, optional, IsObject}
use Rattle.tree_core.proofs.Seen.{is_object, members_are}
use Rattle.std.specs.List.{list_all}
use Rattle.nuc_base.specs.Tables.{Table}
use Rattle.nuc_base.proofs.Tables.{handed_on}
use Rattle.recipe_reader.specs.Spelled.{spelled}
use Rattle.recipe_reader.specs.Platforms.{platform_lines, platform_matches, word_lines, asks_nothing}
use Rattle.recipe_reader.specs.declared.fault.RecipeFault.{RecipeFault}
use Rattle.recipe_reader.specs.declared.fault.RecipeFault.TheVariants.{NoMemory, WrongKind}
use Rattle.recipe_reader.specs.declared.fault.Key.TheVariants.{Platform, Os, Architecture}
use Rattle.recipe_reader.proofs.Chains.{all_3, fault_2_of_3, fault_3_of_3}
use Rattle.recipe_reader.proofs.platform.platform_fits.Goals as goal

pub returns-in_err-os : goal.returns-in_err-os
returns-in_err-os c =
    let v = view c.args.value.now in
    let objects : Table RecipeFault = check (IsObject v) (WrongKind Platform) in
    let oses : Table RecipeFault = optional (spelled Os) v (word_lines Os) in
    let rest : Table RecipeFault = optional (spelled Architecture) v (word_lines Architecture) in
    let f = c.in_err-os.field-0.0 in
    let object : IsObject v = is_object _ c.in-Fields.fields c.in-Fields.is in
    handed_on NoMemory (platform_lines v) (λ (b : Bool). b ≡ platform_matches c.args.platform.now v) _ f c.from_residual.ensures.1
    (fault_2_of_3 NoMemory objects oses rest f (object, tt) c.in_err-os.ensures)

pub returns-in_err-architecture : goal.returns-in_err-architecture
returns-in_err-architecture c =
    let v = view c.args.value.now in
    let objects : Table RecipeFault = check (IsObject v) (WrongKind Platform) in
    let oses : Table RecipeFault = optional (spelled Os) v (word_lines Os) in
    let rest : Table RecipeFault = optional (spelled Architecture) v (word_lines Architecture) in
    let f = c.in_err-architecture.field-0.0 in
    let object : IsObject v = is_object _ c.in-Fields.fields c.in-Fields.is in
    handed_on NoMemory (platform_lines v) (λ (b : Bool). b ≡ platform_matches c.args.platform.now v) _ f c.from_residual-in_err-architecture.ensures.1
    (fault_3_of_3 NoMemory objects oses rest f (object, tt) c.in_ok-os.ensures.0 c.in_err-architecture.ensures)

pub returns : goal.returns
returns c =
    let v = view c.args.value.now in
    let objects : Table RecipeFault = check (IsObject v) (WrongKind Platform) in
    let oses : Table RecipeFault = optional (spelled Os) v (word_lines Os) in
    let rest : Table RecipeFault = optional (spelled Architecture) v (word_lines Architecture) in
    let object : IsObject v = is_object _ c.in-Fields.fields c.in-Fields.is in
    let both = ap₂ (λ a b. a && b) c.in_ok-os.ensures.1 c.in_ok-architecture.ensures.1 in
    let others = ap (list_all asks_nothing) (sym (members_are _ c.in-Fields.fields c.in-Fields.is)) in (
      all_3 objects oses rest (object, tt) c.in_ok-os.ensures.0 c.in_ok-architecture.ensures.0,
      c.fits_all.ensures ∙ ap₂ (λ a b. a && b) both others,
    )
