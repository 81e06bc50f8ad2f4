use Rattle.std.proofs.Common.{subst, sym, IfSome}
use Rattle.std.specs.Str.{bytes_eq}
use Rattle.tree_core.specs.View.{view}
use Rattle.tree_core.specs.Regular.{IsRegular}
use Rattle.interpolation.specs.declared.scope.Place.{Place}
use Rattle.interpolation.proofs.Words.{found_holds}
use Rattle.interpolation.proofs.values.dependency_value.Goals as goal

pub component_value-requires : goal.component_value-requires
component_value-requires c =
    let P = λ (place : Place). IsRegular (view place.config) in
    subst (λ r. IfSome r P) (sym c.in-Some-place_named.ensures) (found_holds P (λ place. bytes_eq place.name c.in-Some.name.now) c.args.scope.now.needed
    c.requires.needed)
